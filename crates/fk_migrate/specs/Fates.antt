-- What a migration has come to, of a run and of its steps.
use Rattle.std.specs.Prelude.{◌≡◌, ℕ, true, false, List, Option, Some, None}
use Rattle.laws_migrate.specs.Migration.{is_near_own, is_far_own}
use Rattle.laws_migrate.specs.Places.{place_of, is_near, is_far}
use Rattle.fk_sides.specs.Kept.{reason_of, why_kept, is_moved}
use Rattle.fk_migrate.specs.declared.fates.Fate.{Fate}
use Rattle.fk_migrate.specs.declared.fates.Fate.TheVariants as fates
use Rattle.fk_migrate.specs.declared.places.Places.{Places}
use Rattle.fk_migrate.specs.declared.places.Calls.{Calls}
use Rattle.fk_migrate.specs.Places.{places_of}
use Rattle.fk_migrate.specs.Runs.{Run, Step}

-- all three places, once there are all
abbrev pub three : Option ℕ → Option ℕ → Option ℕ → Option Calls
three None make release = None
three (Some hold) None release = None
three (Some hold) (Some make) None = None
three (Some hold) (Some make) (Some release) = Some (record { hold = hold; make = make; release = release })

abbrev pub calls_of : Places → Option Calls
calls_of p = three p.hold p.make p.release

-- the copy is let go. The hold was asked before that move of the near kernel, the make before that of the far one, whose porter made its last call
-- at the release
pub record IsMovedAt (r : Run) (ss : List Step) (held made released : ℕ) : Type 0 where
  pub moved : is_moved r.pair.far ≡ true
  pub hold : place_of is_near_own is_near ss ≡ Some held
  pub make : place_of is_far_own is_far ss ≡ Some made
  pub release : (places_of ss).release ≡ Some released

-- neither is let go; the copy is; the original is, for this reason
abbrev pub IsFate : Run → List Step → Fate → Type 0
IsFate r ss fates.Working = (why_kept r.pair.near ≡ None) × (is_moved r.pair.far ≡ false)
IsFate r ss (fates.Moved hold make release) = IsMovedAt r ss hold make release
IsFate r ss (fates.Kept reason) = why_kept r.pair.near ≡ Some (reason_of reason)
