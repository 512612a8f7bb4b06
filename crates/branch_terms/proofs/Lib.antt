pub mod Lists
pub mod LimbLists
pub mod LimbsAgain
pub mod LimbsLawful
pub mod LimbsKept
pub mod JudgedLimbs
pub mod Examples
