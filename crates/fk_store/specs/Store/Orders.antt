-- Orders: what comes after a key.
pub use Rattle.fk_store.specs.Freezing.Orders.{comes_after, IsFirstAfter}
