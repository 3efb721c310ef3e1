pub use Rattle.fk_workers.specs.Books.Shown
pub use Rattle.fk_workers.specs.Books.Plays
pub use Rattle.fk_workers.specs.Books.Served
pub mod Places
