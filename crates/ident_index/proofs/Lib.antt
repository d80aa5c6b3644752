mod Finding
mod Flattening
mod Gathering
mod Halves
pub mod IndexLaws
mod KindLemmas
mod Layouts
mod Lists
mod OneTable
mod Passing
mod Readings
mod Rising
mod Texts
mod Totals
