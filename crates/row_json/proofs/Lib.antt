pub mod RowMembers
pub mod LastLines
pub mod TextKeys
pub mod TextNumbers
pub mod SameReplies
pub mod SameEvents
pub mod ToldAlike
