-- Made: a world to which a thread is added stays valid.
use Rattle.std.proofs.Common.{◌≡◌, ℕ, ◌<◌, ◌∷◌, Some, None, is_some, refl, ap}
use Rattle.fk_model.specs.Objects.{Thread}
use Rattle.fk_model.specs.Objects.Body.{Thread_of}
use Rattle.fk_model.specs.Places.{Path}
use Rattle.fk_model.specs.Valid.{IsValid, birth_at}
use Rattle.fk_model.specs.World.{World, apply}
use Rattle.fk_model.specs.World.Change.{Make}
use Rattle.laws_moves.proofs.InMachine.safety.Safe.{IsSafeMake}
use Rattle.laws_moves.proofs.InMachine.validity.Changes.{valid-apply, rooted-apply, paged-apply}
use Rattle.fk_boot.proofs.validity.Pages.{birth-space}

pub valid-with : (w : World) (k : ℕ) (s : Path) (n : ℕ) (t : Thread) → IsValid w → k < 256 → birth_at w s ≡ Some n → w.body (k ∷ s) ≡ None →
    t.talk ≡ None → t.fault ≡ None → IsValid (apply (Make (k ∷ s) (Thread_of t)) w)
valid-with w k s n t valid low space empty mute sound =
    let safe : IsSafeMake w k s (Thread_of t) = record {
      place = record { slot = low; space = birth-space w s (ap is_some space); empty = empty };
      plain = rw (mute, sound) refl;
      good = rw (mute, sound) refl;
    } in
    record {
      consistent = valid-apply (Make (k ∷ s) (Thread_of t)) w valid.consistent safe;
      rooted = rooted-apply (Make (k ∷ s) (Thread_of t)) w valid.rooted safe;
      paged = paged-apply (Make (k ∷ s) (Thread_of t)) w valid.paged safe;
    }

pub valid-made : (w v : World) (k : ℕ) (s : Path) (n : ℕ) (t : Thread) → IsValid w → k < 256 → birth_at w s ≡ Some n → w.body (k ∷ s) ≡ None →
    t.talk ≡ None → t.fault ≡ None → v ≡ apply (Make (k ∷ s) (Thread_of t)) w → IsValid v
valid-made w v k s n t valid low space empty mute sound made = rw made (valid-with w k s n t valid low space empty mute sound)
