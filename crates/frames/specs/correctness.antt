-- What a register has to do to be safe, regular or atomic, and the verdicts on its reads.
pub mod Verdicts
pub mod Regularity
pub mod ReportedActions
pub mod Ranks
