pub use Rattle.fk_served.specs.Acts
pub use Rattle.fk_served.specs.Events
pub use Rattle.fk_served.specs.Kernels
pub use Rattle.fk_served.specs.Rooms
pub use Rattle.fk_served.specs.Served
pub mod Hosts
