pub mod Listed
pub mod Numbering
pub mod PatternParts
pub mod Resolved
pub mod RuleReading
pub mod SumParts
pub mod Updating
pub mod TreeHead
