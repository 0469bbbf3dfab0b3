pub mod Drafts
pub mod Trees
pub mod Verdicts
pub mod Certificates
pub mod Rest
