pub mod ReadySets
pub mod RisingItems
