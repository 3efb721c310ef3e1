pub use Rattle.fk_core.specs.Cores.Served
pub mod Shown
pub mod Told
pub mod Plays
