pub mod HandedOut
pub mod Histories
pub mod RoomsViews
pub mod ValueViews
pub mod Values
pub mod Visits
