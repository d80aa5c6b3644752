mod ByFolder
mod FolderPaths
mod Lists
mod Lookups
mod Members
mod Rising
mod Suffixes
mod Whole
