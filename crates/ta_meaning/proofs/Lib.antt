-- lemmas for the crates above
pub mod OneTree
mod Answering
mod ListedNames
mod UsedNames
mod WrittenNumbers
mod SmallForms
mod TreeSums
mod LinearSums
mod NormalTerms
mod LargeNumbers
mod PartForms
mod ComparedForms
mod Declared
mod DeclaredSteps
mod DeclaredTrees
mod PlaceNames
mod PlaceScopes
mod ListedSteps
mod PatternSteps
mod GuardRows
mod GuardSigns
mod GuardNumbers
mod GuardPlaces
mod GuardSteps
mod GuardReading
mod ListedPlaces
mod UpdateReading
mod RuleSteps
mod RuleSequence
mod Shapes
mod Whole
pub mod EqualParts
pub mod OneFile
mod SeenSums
mod StartedParts
mod SameOffsets
mod OneSum
mod OnePart
mod SameFaults
mod OneReading
mod CommasOutside
mod OneFault
mod InOrder
mod SumsInOrder
mod TreesInOrder
mod TextInOrder
mod TableFaults
mod MadeForms
mod MadePatterns
mod MadeRules
mod MadeFiles
mod TextAnswers
mod Common
pub mod FileLimits
