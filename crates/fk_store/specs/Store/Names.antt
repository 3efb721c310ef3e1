-- Names: those of objects and pages, and how many come before one.
use Rattle.std.specs.Prelude.{ℕ, ◌+◌, ◌*◌, min, Option, Some, None}
use Rattle.fk_model.specs.declared.names.Who.{Who}
pub use Rattle.fk_store.specs.Freezing.Names.{at, same_who, who_cmp, page_cmp, coded_who}

-- how many names there are up to this one; none where there is no name. It rises where a scan goes on
abbrev pub rank : Option Who → ℕ
rank None = 0
rank (Some who) = 1 + (who.space * 256 + min 255 who.slot)
