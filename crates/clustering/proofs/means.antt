pub mod WrappedMeans
