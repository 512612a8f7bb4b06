pub mod DequeRule
pub mod FilledSlots
pub mod ReservedRoom
pub mod OutcomesSoFar
