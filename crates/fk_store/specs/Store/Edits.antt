-- Edits: what stays of a body that becomes another.
use Rattle.std.specs.Prelude.{◌≡◌, ℕ}
use Rattle.fk_model.specs.declared.body.Body.{Body}
use Rattle.fk_model.specs.declared.names.Who.{Who}
use Rattle.fk_model.specs.Places.{Path}
use Rattle.fk_model.specs.Objects.{kind_of}
use Rattle.fk_store.specs.Store.Bodies.{body_by}
use Rattle.fk_store.specs.Store.Paths.{IsAtHome}

-- its kind stays, and its path if it is a space
abbrev pub Keeps : (ℕ → Path) → Body → Body → Type 0
Keeps path old new = (kind_of (body_by path new) ≡ kind_of (body_by path old)) × ((who : Who) → IsAtHome path who old → IsAtHome path who new)
