pub mod Sending
pub mod Breaking
pub mod Pushing
pub mod Ending
pub mod Refusing
pub mod FlatNodes
