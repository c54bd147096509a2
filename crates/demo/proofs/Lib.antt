pub mod FirstLines
pub mod Messages
pub mod NumberPairs
pub mod ReadLines
pub mod StepsTaken
pub mod Unique
