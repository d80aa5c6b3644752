mod Falling
mod Flags
mod Following
mod Trails
