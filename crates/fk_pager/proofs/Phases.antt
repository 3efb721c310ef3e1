-- An opening that is done stays done.
use Rattle.std.proofs.Common.{◌≡◌, ℕ, Bool, true, false, ◌&&◌, ◌==◌, nat_le, if◌then◌else◌, List, [], ◌∷◌, ◌++◌, drop, length, slice_index, refl}
use Rattle.fk_model.specs.declared.statuses.status.TheConstants.{OK, HELD}
use Rattle.fk_model.specs.Outcomes.{Said}
use Rattle.fk_model.specs.Outcomes.Said.{Answered}
use Rattle.laws_filled.specs.Pager.{Desk, Phase, State, at_phase, put, makes_room, looked, counted, next, is_opening, hears}
use Rattle.laws_filled.specs.Pager.Phase.{Seeking, Taking, Waiting, Looking, Evicting, Giving, Ending}

module _ (d : Desk) (s : State) (done : is_opening s.phase ≡ false) where
  abbrev IsDone : State → Type 0
  IsDone t = is_opening t.phase ≡ false

  room-made : (page : ℕ) (xs : List ℕ) → IsDone (makes_room d s page xs)
  room-made page [] = refl
  room-made page (old ∷ rest) = by (nat_le d.room (length (old ∷ rest)))
    where
      by : (b : Bool) → IsDone (if b then at_phase s (Evicting old page) else at_phase s (Giving page))
      by true = refl
      by false = refl

  by_phase : (phase : Phase) → is_opening phase ≡ false → (status : ℕ) (words : List ℕ) → IsDone (next d s phase status words)
  unfolding next
  by_phase (Seeking from) off status words = absurd (cc)
  by_phase (Taking page) off status words = absurd (cc)
  by_phase Waiting off status words = by (status == OK)
    where
      by : (b : Bool) → IsDone (if b then at_phase s (Looking (slice_index words 2)) else s)
      by true = refl
      by false = done
  by_phase (Looking page) off status words = by (status == OK && slice_index words 0 == page)
    where
      by : (b : Bool) → IsDone (if b then at_phase s (Ending page) else looked d s page)
      by true = refl
      by false = room-made page s.inside
  by_phase (Evicting old page) off status words = by (status == OK) (status == HELD)
    where
      by : (a b : Bool) → IsDone (if a then record { backing = put old words s.backing; inside = drop 1 s.inside; faults = s.faults; phase = Giving page }
          else (if b then s else record { backing = s.backing; inside = drop 1 s.inside; faults = s.faults; phase = Giving page }))
      by true b = refl
      by false true = done
      by false false = refl
  by_phase (Giving page) off status words = by (status == OK) (status == HELD)
    where
      by : (a b : Bool) → IsDone (if a then record { backing = s.backing; inside = s.inside ++ page ∷ []; faults = s.faults; phase = Ending page }
          else (if b then s else at_phase s (Ending page)))
      by true b = refl
      by false true = done
      by false false = refl
  by_phase (Ending page) off status words = by (status == OK)
    where
      by : (b : Bool) → IsDone (if b then record { backing = s.backing; inside = s.inside; faults = counted s.faults; phase = Waiting } else at_phase s Waiting)
      by true = refl
      by false = refl

  pub stays-done : (said : Said) → IsDone (hears d s said)
  stays-done (Answered status words) = by_phase s.phase done status words
  stays-done said = done
