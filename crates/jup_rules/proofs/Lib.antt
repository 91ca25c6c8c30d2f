mod Lagging
mod Sessions
