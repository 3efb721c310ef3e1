-- Cuts: what a move does to the subtrees that are plain.
use Rattle.std.specs.Prelude.{◌≡◌, ◌⊎◌, ℕ, true, List, [], ◌∷◌}
use Rattle.fk_model.specs.declared.moves.Move.{Move}
use Rattle.fk_model.specs.Cut.{cut, IsPlain}
use Rattle.fk_model.specs.Further.{Told, IsOnward}
use Rattle.fk_model.specs.Places.{Path}
use Rattle.fk_model.specs.Runs.{Event}
use Rattle.fk_model.specs.Seen.{Seen, IsSeen, IsStranger}
use Rattle.fk_model.specs.Seen.Seen.{Onwards, Unseen, Other}
use Rattle.fk_model.specs.World.{World}
use Rattle.laws_subtrees.specs.Further.Strangers.{HasNoWindow, IsStrangersPort, is_of_thread, is_of_server}
use Rattle.laws_house.specs.Houses.{Job}
use Rattle.laws_runs.specs.Cores.{asker}
use Rattle.laws_runs.specs.Onwards.{event_by}
use Rattle.fk_core.specs.Cores.Cores.{RunCore, house}

-- a move is this event
abbrev pub IsEvent : List Job → RunCore → Move → Event → Type 0
IsEvent jobs c m e = event_by c.world m (asker (house jobs) c m.who) ≡ e ∷ []

-- a subtree stays plain, and its cut has done the move as which it sees the world's, or is as it was. What is seen as other isn't
-- spoken of
abbrev pub HasDone : World → World → Path → ℕ → Seen → Type 0
HasDone w v nester slot (Onwards m) = IsPlain v nester slot × ((told : List Told) × IsOnward (cut w nester slot) m told (cut v nester slot))
HasDone w v nester slot Unseen = IsPlain v nester slot × (cut v nester slot ≡ cut w nester slot)
HasDone w v nester slot Other = Unit {0}

-- so it is with every plain subtree
abbrev pub KeepsCuts : List Job → RunCore → Move → World → Type 0
KeepsCuts jobs c m v = (e : Event) → IsEvent jobs c m e → (nester : Path) (slot : ℕ) (seen : Seen) →
    IsPlain c.world nester slot → IsSeen c.world nester slot e seen → HasDone c.world v nester slot seen

-- a stranger to a subtree moves: a thread that stands away from it, or a server by such a port
abbrev pub IsOfStranger : World → Path → ℕ → Event → Type 0
IsOfStranger w nester slot e =
    (IsStranger w nester slot e.mover × (is_of_thread e.ask ≡ true)) ⊎ (IsStrangersPort w nester slot e.mover × (is_of_server e.ask ≡ true))

-- no stranger's move is seen, where no mapping outside leads to a region inside
abbrev pub LeavesStrangers : List Job → RunCore → Move → World → Type 0
LeavesStrangers jobs c m v = (e : Event) → IsEvent jobs c m e → (nester : Path) (slot : ℕ) →
    IsPlain c.world nester slot → HasNoWindow c.world nester slot → IsOfStranger c.world nester slot e → HasDone c.world v nester slot Unseen
