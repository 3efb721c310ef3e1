pub mod KeyLaws
pub mod TableLaws
pub mod PlaceLaws
pub mod Results
