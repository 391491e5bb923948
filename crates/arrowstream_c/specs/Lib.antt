pub mod AtNull
pub mod Calls
pub mod Handles
pub mod Numbers
pub mod WriterCalls
