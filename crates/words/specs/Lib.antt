pub mod Words
pub mod Options
pub mod Numbers
pub mod Steps
pub mod Fronts
