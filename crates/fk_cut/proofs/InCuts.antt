pub mod Shows
pub mod Pages
