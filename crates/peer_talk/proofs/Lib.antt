pub mod Courses
pub mod Speakers
