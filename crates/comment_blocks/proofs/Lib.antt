mod BlockSteps
mod Boundaries
mod Contents
mod Cuttings
mod DocGroups
mod Halves
mod Items
mod LaidOut
mod LastChars
mod LineCuts
mod ListSteps
mod Loops
mod OneGroup
mod Scans
mod TextLines
pub mod BlockLaws
