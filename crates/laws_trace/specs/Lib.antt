pub use Rattle.fk_served.specs.Served
pub mod Following
pub mod Notes
