mod FollowingLines
mod ReadingBack
mod Texts
