pub mod RangeLines
