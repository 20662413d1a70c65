pub mod reading
pub mod texts
