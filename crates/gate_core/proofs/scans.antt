pub mod ScanLemmas
pub mod FirstPlaces
pub mod PlainTables
