-- The types of the crates below, handed on.
pub use Rattle.fk_store_cells.specs.declared.objects.entry.Entry.{Entry}
pub use Rattle.fk_store_cells.specs.declared.objects.entry.Told.{Told}
pub use Rattle.fk_store_cells.specs.declared.objects.entry.Told.TheVariants.{Many, Nobody, One}
pub use Rattle.fk_store_graph.specs.declared.links.links.Link.{Link}
pub use Rattle.fk_store_graph.specs.declared.leads.nudges.Nudge.{Nudge}
pub use Rattle.fk_store_graph.specs.declared.leads.nudges.Nudge.TheVariants.{Counts, Locks, Passes, Stops}
pub use Rattle.fk_store_graph.specs.declared.leads.parts.Part.{Part}
pub use Rattle.fk_store_graph.specs.declared.leads.parts.Part.TheVariants.{Client, Faulter, Guest}
pub use Rattle.fk_store_graph.specs.declared.leads.sweeps.Sweep.{Sweep}
pub use Rattle.fk_store_graph.specs.declared.hints.lead.Lead.{Lead}
pub use Rattle.fk_store_graph.specs.declared.hints.lead.Sort.{Sort}
pub use Rattle.fk_store_graph.specs.declared.hints.lead.Sort.TheVariants.{Pointer, Served, Taken}
