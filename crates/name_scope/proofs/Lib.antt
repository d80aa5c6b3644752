mod Lists
mod Found
