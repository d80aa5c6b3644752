mod Closing
mod Counting
mod Ordering
mod Steps
