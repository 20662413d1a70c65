pub mod TableRowLaws
pub mod InBucket
pub mod Buckets
pub mod Agreeing
pub mod BelowLaws
pub mod ShippedRows
