pub mod EmptySetMethods
