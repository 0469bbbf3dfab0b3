mod Texts
mod Solutions
mod Written
mod ValueTexts
mod Forms
mod Spelled
pub mod Admitted
pub mod WordsNamed
pub mod FaultsOnce
mod ElementTexts
mod Common
