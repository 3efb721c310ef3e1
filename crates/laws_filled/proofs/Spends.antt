-- A pager makes few calls for each fault.
use Rattle.std.proofs.Common.{◌≡◌, ℕ, ◌+◌, ◌≤◌, Bool, true, false, cond, if◌then◌else◌, ◌&&◌, ◌==◌, nat_le, List, [], ◌∷◌, ◌++◌, drop, length, slice_index}
use Rattle.std.proofs.Common.{refl, arith}
use Rattle.fk_model.specs.declared.statuses.status.TheConstants.{OK, HELD}
use Rattle.laws_filled.specs.Pager.{Desk, State, Phase, at_phase, put, counted, makes_room, looked, next, is_opening, left_of, spent, begun, CallsAreFew}
use Rattle.laws_filled.specs.Pager.Phase.{Seeking, Taking, Waiting, Looking, Evicting, Giving, Ending}

module _ (d : Desk) (s : State) (status : ℕ) (words : List ℕ) where
  one : spent status ≤ 1
  one = by (status == HELD)
    where
      by : (b : Bool) → (if b then 0 else 1) ≤ 1
      by true = omega arith
      by false = omega arith

  room-made : (page : ℕ) (ys : List ℕ) → left_of (makes_room d (at_phase s (Looking page)) page ys).phase ≤ 3
  room-made page [] = omega arith
  room-made page (old ∷ rest) = by (nat_le d.room (length (old ∷ rest)))
    where
      by : (b : Bool) → left_of (cond b (at_phase s (Evicting old page)) (at_phase s (Giving page))).phase ≤ 3
      by true = omega arith
      by false = omega arith

  few : (phase : Phase) → is_opening phase ≡ false → (phase ≡ Waiting → status ≡ OK) →
      left_of (next d (at_phase s phase) phase status words).phase + spent status ≤ left_of phase + begun phase
  unfolding next
  few (Seeking from) opened done = cc
  few (Taking page) opened done = cc
  few Waiting opened done = by (status == OK)
    where
      by : (b : Bool) → left_of (if b then at_phase s (Looking (slice_index words 2)) else at_phase s Waiting).phase + spent status ≤ 5
      by true = omega (arith, one)
      by false = omega (arith, one)
  few (Looking page) opened done = by (status == OK && slice_index words 0 == page)
    where
      by : (b : Bool) → left_of (if b then at_phase s (Ending page) else looked d (at_phase s (Looking page)) page).phase + spent status ≤ 4 + 0
      by true = omega (arith, one)
      by false = omega (arith, one, room-made page s.inside)
  few (Evicting old page) opened done = by (status == OK) (status == HELD) refl
    where
      by : (a b : Bool) → (status == HELD) ≡ b →
          left_of (if a then record { backing = put old words s.backing; inside = drop 1 s.inside; faults = s.faults; phase = Giving page }
          else (if b then at_phase s
          (Evicting old page) else record {
            backing = s.backing;
            inside = drop 1 s.inside;
            faults = s.faults;
            phase =
                Giving page;
          })).phase + spent status ≤ 3 + 0
      by true b e = omega (arith, one)
      by false true e = rw e (omega arith)
      by false false e = omega (arith, one)
  few (Giving page) opened done = by (status == OK) (status == HELD) refl
    where
      by : (a b : Bool) → (status == HELD) ≡ b →
          left_of (if a then record { backing = s.backing; inside = s.inside ++ page ∷ []; faults = s.faults; phase = Ending page }
          else (if b then at_phase s (Giving page) else at_phase s (Ending page))).phase + spent status ≤ 2 + 0
      by true b e = omega (arith, one)
      by false true e = rw e (omega arith)
      by false false e = omega (arith, one)
  few (Ending page) opened done = by (status == OK)
    where
      by : (b : Bool) → left_of
          (if b then record {
            backing = s.backing;
            inside = s.inside;
            faults = counted s.faults;
            phase =
                Waiting;
          } else at_phase s Waiting).phase + spent status ≤ 1 + 0
      by true = omega (arith, one)
      by false = omega (arith, one)

pub calls_are_few_lem : CallsAreFew
calls_are_few_lem d s phase status words opened done = few d s status words phase opened done
