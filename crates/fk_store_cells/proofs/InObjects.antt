pub mod FiledLaws
pub mod ChangeLaws
pub mod Results
