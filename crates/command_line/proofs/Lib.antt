pub mod Parses
mod Examples
