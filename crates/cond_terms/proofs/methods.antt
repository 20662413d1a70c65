pub mod MethodNames
