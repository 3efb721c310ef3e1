pub use Rattle.fk_plans.specs.Endings.Endings
pub use Rattle.fk_plans.specs.Endings.Clients
pub mod Acts
