-- Stands: who stands at a port, by whatever leads there.
use Rattle.std.specs.Prelude.{◌≡◌, ◌≢◌, ◌⊎◌, ℕ, true, ◌∷◌, Some}
use Rattle.fk_model.specs.declared.moves.Ask.{Ask}
use Rattle.fk_model.specs.declared.moves.Ask.TheVariants as asks
use Rattle.fk_model.specs.declared.names.Who.{Who}
use Rattle.fk_model.specs.LinkRows.{is_member}
use Rattle.fk_model.specs.Moves.{IsReady}
use Rattle.fk_model.specs.Objects.Body.{Reference}
use Rattle.fk_model.specs.Places.{Path, parent, slot_of, Ptr}
use Rattle.fk_model.specs.Places.Ptr.{At}
use Rattle.fk_model.specs.Searches.{pointers_to}
use Rattle.fk_model.specs.World.{World}
use Rattle.fk_store.specs.Store.Contents.{Contents}
use Rattle.fk_store.specs.Store.Paths.{path, place}
use Rattle.fk_store.specs.Store.Threads.{todo_at}
use Rattle.fk_store.specs.Store.World.{world}
use Rattle.fk_links.specs.Connects.{connect_first}
use Rattle.fk_turns.specs.declared.picks.moves.Picker.{Picker}
use Rattle.fk_turns.specs.declared.picks.moves.Picker.TheVariants.{User, Server}

-- who picks, and by which ask
abbrev pub who_of : Picker → Who
who_of (User who) = who
who_of (Server port) = port

abbrev pub ask_of : Picker → Ask
ask_of (User who) = asks.Run
ask_of (Server port) = asks.Accept

-- the move of a user, or the accept of a server, that picks what is at a path is ready
abbrev pub IsPicked : Contents → Picker → Path → Type 0
IsPicked m me q = IsReady (world m) (place (path m) (who_of me)) (Some q) (ask_of me)

-- a thread is at its connect, and its handle is what is at y
abbrev pub ConnectsBy : World → Path → Path → Type 0
ConnectsBy w y q = (connect_first (todo_at w q) ≡ Some (slot_of y)) × (parent q ≡ parent y)

-- and that is a reference
abbrev pub ConnectsByReference : World → Path → Path → Type 0
ConnectsByReference w y q = (to : Ptr) × (w.body y ≡ Some (Reference to)) × ConnectsBy w y q

-- a thread is at y, or connects by the reference there
abbrev pub ComesBy : World → Path → Path → Type 0
ComesBy w y q = (q ≡ y) ⊎ ConnectsByReference w y q

-- what is there is a handle of the port: the port itself, or a reference that leads to it
abbrev pub IsHandle : World → Path → Path → Type 0
IsHandle w port y = (port ≡ y) ⊎ (w.body y ≡ Some (Reference (At port)))

-- a thread stands at a port: a pointer of it leads there, as of its talk or its fault, or it is at its connect by a handle of the port
pub data StandsAt (w : World) (port q : Path) : Type 0 where
  Leads : pointers_to port (w.body q) ≢ 0 → StandsAt w port q
  Connects : (h : ℕ) → connect_first (todo_at w q) ≡ Some h → IsHandle w port (h ∷ parent q) → StandsAt w port q

-- and at a port of a set of a space
pub record StandsIn (w : World) (space : Path) (set : ℕ) (q : Path) : Type 0 where
  pub slot : ℕ
  pub member : is_member set (w.body (slot ∷ space)) ≡ true
  pub stands : StandsAt w (slot ∷ space) q
