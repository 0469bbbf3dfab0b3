pub mod Verdicts
pub mod Certificates
pub mod Laws
pub mod Budgets
pub mod QuietRuns
pub mod Said
