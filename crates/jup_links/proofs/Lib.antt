mod Beginnings
mod Kept
mod KeptCounts
mod LastLines
mod Messages
