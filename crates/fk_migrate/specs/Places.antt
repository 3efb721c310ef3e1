-- How many moves each kernel has made, and before which of them its porter has made the calls on which a fate hangs.
use Rattle.std.specs.Prelude.{ℕ, ◌+◌, Bool, true, false, List, [], ◌∷◌, Option, Some, None}
use Rattle.laws_handover.specs.Handover as handover
use Rattle.fk_migrate.specs.Runs.{Step}
use Rattle.fk_migrate.specs.declared.places.Places.{Places}

-- none was made
abbrev pub no_places : Places
no_places = record { near = 0; far = 0; hold = None; make = None; release = None }

-- the place of the first of such calls, and of the last
abbrev pub first_at : Option ℕ → Bool → ℕ → Option ℕ
first_at (Some place) own at = Some place
first_at None true at = Some at
first_at None false at = None

abbrev pub last_at : Option ℕ → Bool → ℕ → Option ℕ
last_at was true at = Some at
last_at was false at = was

-- a move of the near kernel, which is its porter's or isn't; one of the far kernel
abbrev pub near_counted : Places → Bool → Places
near_counted p own = record p { near = p.near + 1; hold = first_at p.hold own p.near }

abbrev pub far_counted : Places → Bool → Places
far_counted p own = record p { far = p.far + 1; make = first_at p.make own p.far; release = last_at p.release own p.far }

abbrev pub counted : Places → Step → Places
counted p (handover.OfNear e) = near_counted p false
counted p handover.NearOwn = near_counted p true
counted p (handover.OfFar e) = far_counted p false
counted p handover.FarOwn = far_counted p true
counted p (handover.ToFar number) = p
counted p (handover.ToNear number) = p
counted p handover.GiveUp = p

abbrev pub counted_from : Places → List Step → Places
counted_from p [] = p
counted_from p (s ∷ ss) = counted_from (counted p s) ss

-- of all steps of a run
abbrev pub places_of : List Step → Places
places_of ss = counted_from no_places ss
