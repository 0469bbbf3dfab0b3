pub mod Certifying
pub mod Judged
pub mod Reported
pub mod Found
pub mod FoundFiles
