pub mod OperationLoop
pub mod LineLoop
pub mod ListsOfOperations
