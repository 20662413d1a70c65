pub mod GivenValues
