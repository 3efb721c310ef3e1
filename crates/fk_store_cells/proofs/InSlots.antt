pub mod CellLaws
pub mod TabledLaws
pub mod ScanLaws
pub mod Results
