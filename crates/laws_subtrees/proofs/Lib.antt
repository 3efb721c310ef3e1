pub mod InCut
pub mod InFurther
pub mod InUncut
