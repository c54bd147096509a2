pub mod FeedCalls
pub mod Served
pub mod Turns
