pub mod GradeLaws
