pub mod AskKind
pub mod Errno
pub mod Lists
pub mod Pid
