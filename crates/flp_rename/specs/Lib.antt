-- Bodies in which each loop is named by its depth.
pub mod Renamed
