pub mod Prefixes
pub mod RuleSteps
pub mod Holds
pub mod Calls
mod Examples
