-- `Lists`: laws of lists that are changed row by row.
pub mod Lists
