pub mod GapData
pub mod JumpData
pub mod MomentData
pub mod StationData
