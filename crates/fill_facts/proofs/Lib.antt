pub mod Caches
pub mod Counting
pub mod Goes
pub mod Runs
pub mod Answers
pub mod KernelFacts
pub mod Shorts
pub mod NoCache
