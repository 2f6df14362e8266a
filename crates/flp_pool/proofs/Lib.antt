mod Once
mod Lists
mod Walking
mod Forking
mod RangeSums
mod Taking
