pub mod ReplyLines
pub mod FiguresBetween
pub mod ShiftFigures
pub mod TimeColumns
