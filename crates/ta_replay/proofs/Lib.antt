-- lemmas for the crates above
pub mod Decimals
pub mod Forms
pub mod Statements
pub mod RunFacts
pub mod RunFronts
pub mod TextsShort
pub mod Occurring
mod NumberedNames
pub mod ListSteps
mod ValueLines
mod StepLines
mod Fronts
pub mod OneRun
mod OneFault
mod WholeTexts
mod PrintedLines
pub mod PieceLines
pub mod Lines
mod Values
pub mod Paths
mod Along
mod Begins
mod Ends
pub mod Counting
pub mod Showing
pub mod Refusing
mod Naming
mod TextAnswers
pub mod FirstBad
pub mod OneRefusal
pub mod Once
mod Common
