mod Adding
mod Joining
mod Logs
mod Publishing
mod Reading
mod Steps
