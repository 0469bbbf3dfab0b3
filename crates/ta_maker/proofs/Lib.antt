mod Naming
mod Counting
mod FamilyTrees
mod FineTrees
mod FamilySafe
mod Flawless
mod Common
