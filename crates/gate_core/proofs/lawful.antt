pub mod KeptLawful
pub mod GateLaws
