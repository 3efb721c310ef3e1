-- A porter's first call and its last: the hold of a subtree, and the release.
use Rattle.std.specs.Prelude.{◌≡◌, ℕ, ◌≤◌, true, [], ◌∷◌, ◌⊎◌, Some, None}
use Rattle.fk_model.specs.declared.limits.TheConstants.{OWN_SPACE, LAST_USER_SLOT}
use Rattle.fk_model.specs.declared.names.Kind.TheVariants as kinds
use Rattle.fk_model.specs.declared.stage.Stage.TheVariants.{SpaceHold, SpaceRelease}
use Rattle.fk_model.specs.declared.statuses.status.TheConstants.{OK}
use Rattle.fk_model.specs.Places.{Path}
use Rattle.fk_model.specs.World.{World, apply}
use Rattle.fk_model.specs.World.Change.{Alter}
use Rattle.fk_model.specs.World.Edit.{SetHolder}
use Rattle.fk_model.specs.Searches.{depth}
use Rattle.fk_model.specs.Holds.{holder_of}
use Rattle.fk_model.specs.Outcomes.Said.{Answered}
use Rattle.fk_model.specs.ObjectRows.{is_scratch}
use Rattle.fk_model.specs.Runs.{Event, after}
use Rattle.fk_model.specs.Valid.{IsValid, kind_there}
use Rattle.fk_model.specs.Cut.{cut}
use Rattle.fk_model.specs.Closed.{open_place}
use Rattle.laws_moves.specs.Frozen.Holding.{IsHolding}
use Rattle.laws_jobs.specs.Machines.{no_words, call_of, said_of, IsReadyAt}
use Rattle.laws_jobs.specs.Leads.{held_world}

abbrev pub hold : Path → ℕ → Event
hold nester slot = call_of nester (SpaceHold OWN_SPACE slot) no_words

abbrev pub release : Path → ℕ → Event
release nester slot = call_of nester (SpaceRelease OWN_SPACE slot) no_words

abbrev pub IsSpaceAt : World → Path → Type 0
IsSpaceAt w x = kind_there w x ≡ Some kinds.Space

-- there is a space in the slot, and the porter holds it: the subtree's cut and the place where it isn't closed are as before
pub record Held (nester : Path) (slot : ℕ) (w : World) : Type 0 where
  pub space : IsSpaceAt w (slot ∷ nester)
  pub said : said_of w (hold nester slot) ≡ Answered OK []
  pub world : after w (hold nester slot) ≡ held_world nester slot w
  pub holding : IsHolding nester slot (held_world nester slot w)
  pub cut : cut (held_world nester slot w) nester slot ≡ cut w nester slot
  pub place : open_place (held_world nester slot w) nester slot ≡ open_place w nester slot

-- there is none, and all is as before
pub record Unheld (nester : Path) (slot : ℕ) (w : World) : Type 0 where
  pub none : IsSpaceAt w (slot ∷ nester) → ⊥
  pub status : ℕ
  pub refused : status ≡ OK → ⊥
  pub said : said_of w (hold nester slot) ≡ Answered status []
  pub world : after w (hold nester slot) ≡ w

-- what a hold comes to where it is ready, of a porter without scratch
abbrev pub HoldComesTo : Type 0
HoldComesTo = (nester : Path) (slot : ℕ) (w : World) → slot ≤ LAST_USER_SLOT → ((y : Path) → is_scratch nester y ≡ true → w.body y ≡ None) → IsValid w →
    IsValid (after w (hold nester slot)) → w.next ≤ depth → IsReadyAt w (hold nester slot) → Held nester slot w ⊎ Unheld nester slot w

-- the world after a release
abbrev pub released_world : Path → ℕ → World → World
released_world nester slot w = apply (Alter (slot ∷ nester) (SetHolder None)) w

-- what a release comes to: the root is unheld, and the cut as before
pub record Released (nester : Path) (slot : ℕ) (w : World) : Type 0 where
  pub said : said_of w (release nester slot) ≡ Answered OK []
  pub world : after w (release nester slot) ≡ released_world nester slot w
  pub unheld : holder_of ((released_world nester slot w).body (slot ∷ nester)) ≡ None
  pub cut : cut (released_world nester slot w) nester slot ≡ cut w nester slot

-- a release of what the porter holds is done, and leaves the cut
abbrev pub ReleaseComesTo : Type 0
ReleaseComesTo = (nester : Path) (slot : ℕ) (w : World) → IsHolding nester slot w → IsReadyAt w (release nester slot) → Released nester slot w
