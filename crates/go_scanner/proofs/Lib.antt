mod ClassTable
mod Closings
mod Dispatch
mod Faults
mod ItemShapes
mod Marks
mod Newlines
mod OneReading
mod Positions
mod Progress
mod Refusals
mod Runs
mod Spans
mod Standing
mod Utf8
mod Words
pub mod ScanLaws
