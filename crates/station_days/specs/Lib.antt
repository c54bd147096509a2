pub mod StationDays
