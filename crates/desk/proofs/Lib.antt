pub mod Lists
pub mod Logged
pub mod Answering
pub mod Works
pub mod Holdings
pub mod ReportCounts
pub mod FirstChair
mod Examples
