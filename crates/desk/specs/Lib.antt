pub mod Items
pub mod Histories
pub mod Works
pub mod Reports
pub mod Worth
pub mod Chairs
