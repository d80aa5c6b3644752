mod Assembling
mod Beside
pub mod CorpusLaws
mod FileFaults
mod Halving
mod HitsByName
mod Inputs
mod KeptFiles
pub mod Lists
mod Numbers
pub mod OneCorpus
mod PackageCounts
mod PackageNames
pub mod PieceLists
mod Places
mod ReadFiles
mod TokenTexts
