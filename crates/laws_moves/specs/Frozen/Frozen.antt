-- What stays of a subtree while another decides over it.
use Rattle.std.specs.Prelude.{◌≡◌, ℕ, ◌≤◌, true, ◌∷◌, ◌++◌, Option}
use Rattle.std.specs.List.{list_any}
use Rattle.fk_model.specs.declared.moves.Ask.{Ask}
use Rattle.fk_model.specs.Places.{Path, leads_to}
use Rattle.fk_model.specs.World.{World}
use Rattle.fk_model.specs.Searches.{depth}
use Rattle.fk_model.specs.Holds.{is_frozen_for}
use Rattle.fk_model.specs.Freezing.{body_pointers}
use Rattle.fk_model.specs.Moves.{IsReady, step}
use Rattle.fk_model.specs.Valid.{IsValid, is_fit, kind_there}
use Rattle.fk_model.specs.Cut.{cut}

-- the bodies and the pages at and beneath a root are the same in two worlds, and so are the kinds of all objects to which
-- they lead
pub record IsSameInside (root : Path) (w v : World) : Type 0 where
  pub bodies : (q : Path) → v.body (q ++ root) ≡ w.body (q ++ root)
  pub pages : (q : Path) (page : ℕ) → v.page (q ++ root) page ≡ w.page (q ++ root) page
  pub kinds : (x q : Path) → list_any (leads_to x) (body_pointers (w.body (q ++ root))) ≡ true → kind_there v x ≡ kind_there w x

-- a move that is ready, of one who doesn't decide over the frozen root
pub record IsFrozenMove (w : World) (root x : Path) (pick : Option Path) (ask : Ask) : Type 0 where
  pub valid : IsValid w
  pub few : w.next ≤ depth
  pub fit : is_fit w x ask ≡ true
  pub ready : IsReady w x pick ask
  pub frozen : is_frozen_for w x root ≡ true

-- a ready move of one who doesn't decide over a held subtree leaves its bodies, its pages, and the kinds of what its pointers lead to
abbrev pub FrozenSubtreeStays : Type 0
FrozenSubtreeStays = (w : World) (root x : Path) (pick : Option Path) (ask : Ask) → IsFrozenMove w root x pick ask →
    IsSameInside root w (step w x pick ask).world

-- a ready move of one who doesn't decide over a held subtree leaves the subtree's cut
abbrev pub FrozenCutStays : Type 0
FrozenCutStays = (w : World) (nester : Path) (slot : ℕ) (x : Path) (pick : Option Path) (ask : Ask) → IsFrozenMove w (slot ∷ nester) x pick ask →
    cut (step w x pick ask).world nester slot ≡ cut w nester slot
