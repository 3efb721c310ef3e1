pub mod CutLaws
pub mod Likeness
pub mod LikeChanges
pub mod RebindLaws
pub mod LikenessLaws
