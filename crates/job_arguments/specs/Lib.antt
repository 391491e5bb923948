pub mod Arguments
pub mod CommandLine
