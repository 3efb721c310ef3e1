-- Filed: the objects by key, and the key of each by name.
use Rattle.std.specs.Prelude.{◌≡◌, ℕ, ◌<◌, Bool, List, Option, Some, None, option_map, slice_index_or}
use Rattle.fk_model.specs.declared.names.Who.{Who}
use Rattle.fk_model.specs.declared.body.Body.{Body}
use Rattle.fk_store_cells.specs.Slots.Cells.{cell}
use Rattle.fk_store_cells.specs.declared.objects.entry.Entry.{Entry}
use Rattle.fk_store_cells.specs.declared.objects.entry.Hints.{Hints}
use Rattle.fk_store_cells.specs.declared.objects.entry.Told.TheVariants.{Nobody}

-- the keys and the marks of each space, the objects by key, and the key of the next one
pub record Filed : Type 0 where
  pub keys : List (List (Option ℕ))
  pub marks : List (List Bool)
  pub entries : List (Option Entry)
  pub vacant : ℕ

abbrev pub untold : Hints
untold = record { served = Nobody; taken = Nobody }

-- an object of which nothing is told
abbrev pub fresh : Who → Body → Entry
fresh who body = record { who = who; body = body; hints = untold }

-- the object under a key
unfoldable pub entry_under : Filed → ℕ → Option Entry
entry_under o key = slice_index_or o.entries key None

-- the key of a name
unfoldable pub key_of : Filed → Who → Option ℕ
key_of o who = cell o.keys who.space who.slot

unfoldable pub name_under : Filed → ℕ → Option Who
name_under o key = option_map (λ (e : Entry). e.who) (entry_under o key)

-- the key of a name is that under which the name is
pub record AreFiled (keyed : Who → Option ℕ) (named : ℕ → Option Who) : Type 0 where
  pub filed : (who : Who) (key : ℕ) → keyed who ≡ Some key → named key ≡ Some who
  pub found : (key : ℕ) (who : Who) → named key ≡ Some who → keyed who ≡ Some key
  -- five nodes of each fit
  pub small : (key : ℕ) (who : Who) → named key ≡ Some who → key < 858993458

-- each object stands under the key of its name
abbrev pub IsFiled : Filed → Type 0
IsFiled o = AreFiled (key_of o) (name_under o)
