pub mod FeedFaults
pub mod FirstLines
pub mod Feeds
pub mod FeedLaws
