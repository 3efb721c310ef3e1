-- Recorded: setting a record is allowed where its object isn't frozen.
use Rattle.std.proofs.Common.{◌≡◌, ◌↔◌, ℕ, Bool, true, false, cond, IsTrue, List, [], ◌∷◌, map, Option, Some, None, refl}
use Rattle.fk_model.specs.Freezing.{AreAllowed}
use Rattle.fk_model.specs.Holds.{is_frozen_for}
use Rattle.fk_model.specs.Objects.{Body}
use Rattle.fk_model.specs.Objects.Body.{Mutex, Cond, Mapping, Region, Port, Portset, Space, Thread_of, Reference}
use Rattle.fk_model.specs.Places.{Path}
use Rattle.fk_model.specs.Records.{set_edits, takes_state}
use Rattle.fk_model.specs.World.{World, Edit}
use Rattle.fk_model.specs.World.Change.{Alter}
use Rattle.fk_changes.specs.Records.Settings.{sets_of}
use Rattle.fk_store.proofs.InStore.finding.Freedom.{may_alter, IsPlain}

ArePlain : List Edit → Type 0
ArePlain [] = Unit {0}
ArePlain (e ∷ es) = IsPlain e × ArePlain es

plain_edits : (b : Body) (words : List ℕ) → ArePlain (set_edits b words)
unfolding ArePlain
plain_edits (Mutex locked) words = (record { changed = λ b. refl; made = refl }, tt)
plain_edits Cond words = tt
plain_edits (Mapping window) words = (record { changed = λ b. refl; made = refl }, tt)
plain_edits (Region extent) words = (record { changed = λ b. refl; made = refl }, tt)
plain_edits (Port set served) words = (record { changed = λ b. refl; made = refl }, tt)
plain_edits Portset words = tt
plain_edits (Space birth holder) words = tt
plain_edits (Thread_of t) words = (record { changed = λ b. refl; made = refl }, (record { changed = λ b. refl; made = refl }, tt))
plain_edits (Reference to) words = tt

module _ (w : World) (me s x : Path) (words : List ℕ) (free : is_frozen_for w me x ≡ false) where
  all_allowed : (es : List Edit) → ArePlain es → AreAllowed w me (map (Alter x) es)
  unfolding ArePlain
  all_allowed [] plain = tt
  all_allowed (e ∷ es) plain = (may_alter w me x e plain.0 free, all_allowed es plain.1)

  if_taken : (b : Body) (t : Bool) → AreAllowed w me (cond t (map (Alter x) (set_edits b words)) [])
  if_taken b true = all_allowed (set_edits b words) (plain_edits b words)
  if_taken b false = tt

  pub sets_iff : (o : Option Body) → IsTrue true ↔ AreAllowed w me (sets_of w s x words o)
  sets_iff None = ((λ h. tt), (λ h. refl))
  sets_iff (Some b) = ((λ h. if_taken b (takes_state w s b words)), (λ h. refl))
