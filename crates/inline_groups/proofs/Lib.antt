pub mod Wholes
pub mod Replies
pub mod Fit
