pub mod Counting
pub mod OpenShift
pub mod ClosedShifts
pub mod Sums
pub mod WorkedShifts
