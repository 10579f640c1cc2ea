-- `Sizes`: a size is the library's.
mod Sizes
