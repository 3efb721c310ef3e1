-- Fields: the pointer fields of objects, by paths.
use Rattle.std.specs.Prelude.{ℕ, ⊤}
use Rattle.fk_model.specs.declared.names.Who.{Who}
use Rattle.fk_model.specs.Places.{Path}
use Rattle.fk_model.specs.StateRows as rows
use Rattle.fk_store.specs.Store.Bodies.{pointer_by}
use Rattle.fk_store.specs.Store.Named.{OnPointer}
use Rattle.fk_state.specs.declared.fields.Field.{Field}
use Rattle.fk_state.specs.declared.fields.Field.TheVariants.{Pointer, NoThread}

-- a pointer field, by paths
abbrev pub field_by : (ℕ → Path) → Field → rows.Field
field_by p (Pointer to) = rows.Field.Pointer (pointer_by p to)
field_by p NoThread = rows.Field.NoThread

-- the fact P for what a field leads to
abbrev pub OnField : (Who → Type 0) → Field → Type 0
OnField P (Pointer to) = OnPointer P to
OnField P NoThread = ⊤
