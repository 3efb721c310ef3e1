pub use Rattle.fk_store_graph.proofs.InBodies.ProceedLaws
pub use Rattle.fk_store_graph.proofs.InBodies.NameLaws
pub use Rattle.fk_store_graph.proofs.InBodies.Found
pub use Rattle.fk_store_graph.proofs.InBodies.Lists
pub mod FreezeLaws
pub mod TreeLaws
