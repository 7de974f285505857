pub mod Stock
pub mod SeatMoves
pub mod TakingTurns
pub mod EndingTurns
pub mod NoteSteps
pub mod OpeningSteps
pub mod RunningTurns
