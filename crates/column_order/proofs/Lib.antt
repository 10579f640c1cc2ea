-- `Keys`: how rows stand by the parts of their key. For callers, `Sorted`: rows that are not unsorted ascend.
pub mod Keys
pub mod Sorted
