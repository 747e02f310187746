pub mod ReadIndex
