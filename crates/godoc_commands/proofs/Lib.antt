mod Addresses
mod FaultPages
mod FaultTexts
mod FoundLines
mod Joins
mod Scanning
mod Sessions
mod Writing
