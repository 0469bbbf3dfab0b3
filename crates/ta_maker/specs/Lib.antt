pub mod Family
pub mod FamilyLaws
pub mod Made
pub mod FamilyParts
