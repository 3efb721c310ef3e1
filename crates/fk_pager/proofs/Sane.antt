-- A pager's numbers stay in range by each answer on which it counts.
use Rattle.std.proofs.Common.{◌≡◌, ℕ, ◌+◌, ◌<◌, ◌≤◌, Bool, true, false, ◌&&◌, ◌==◌, nat_le, if◌then◌else◌, List, [], ◌∷◌, ◌++◌, drop, length, length-append, slice_index, refl, ap, subst, arith, eqb-true}
use Rattle.std.proofs.lemmas.Bool.{leb-false}
use Rattle.fk_model.specs.declared.statuses.status.TheConstants.{OK, HELD}
use Rattle.laws_filled.specs.Pager.{Desk, Phase, State, at_phase, makes_room, looked, put, counted, next, first}
use Rattle.laws_filled.specs.Pager.Phase.{Seeking, Taking, Waiting, Looking, Evicting, Giving, Ending}
use Rattle.fk_pager.specs.Sane.{ArePages, HasNumbers, IsSaneState, IsGoodAnswer}

rest-pages : (xs : List ℕ) → ArePages xs → ArePages (drop 1 xs)
rest-pages [] pages = tt
rest-pages (x ∷ xs) pages = pages.1

rest-few : (xs : List ℕ) (room : ℕ) → 1 ≤ room → length xs ≤ room → length (drop 1 xs) + 1 ≤ room
rest-few [] room some few = omega (arith, some)
rest-few (x ∷ xs) room some few = omega (arith, few)

more-pages : (xs : List ℕ) (page : ℕ) → ArePages xs → page < 256 → ArePages (xs ++ page ∷ [])
more-pages [] page pages low = (low, tt)
more-pages (x ∷ xs) page pages low = (pages.0, more-pages xs page pages.1 low)

module _ (d : Desk) (s : State) (some : 1 ≤ d.room) (sane : IsSaneState d.room s) (status : ℕ) (words : List ℕ) where
  -- in another phase
  turned : (phase : Phase) → HasNumbers d.room (length s.inside) phase → IsSaneState d.room (at_phase s phase)
  turned phase numbers = record { few = sane.few; pages = sane.pages; phase = numbers }

  seeking : IsGoodAnswer (Seeking 0) status words → (b : Bool) → (status == OK) ≡ b →
      IsSaneState d.room (if b then at_phase s (Taking (slice_index words 0)) else at_phase s Waiting)
  seeking good true e = turned (Taking (slice_index words 0)) (good (eqb-true status OK e))
  seeking good false e = turned Waiting tt

  taking : (page : ℕ) (b held : Bool) →
      IsSaneState d.room (if b then record { backing = put page words s.backing; inside = s.inside; faults = s.faults; phase = Seeking (page + 1) }
      else (if held then s else at_phase s (Seeking (page + 1))))
  taking page true held = record { few = sane.few; pages = sane.pages; phase = tt }
  taking page false true = sane
  taking page false false = turned (Seeking (page + 1)) tt

  waiting : IsGoodAnswer Waiting status words → (b : Bool) → (status == OK) ≡ b →
      IsSaneState d.room (if b then at_phase s (Looking (slice_index words 2)) else s)
  waiting good true e = turned (Looking (slice_index words 2)) (good (eqb-true status OK e))
  waiting good false e = sane

  room-made : (page : ℕ) → page < 256 → (xs : List ℕ) → s.inside ≡ xs → IsSaneState d.room (makes_room d s page xs)
  room-made page low [] e =
      let none : length s.inside ≡ 0 = ap length e in
      turned (Giving page) (low, omega (arith, none, some))
  room-made page low (old ∷ rest) e = by (nat_le d.room (length (old ∷ rest))) refl
    where
      its : ArePages (old ∷ rest)
      its = subst ArePages e sane.pages

      by : (b : Bool) → nat_le d.room (length (old ∷ rest)) ≡ b → IsSaneState d.room (if b then at_phase s (Evicting old page) else at_phase s (Giving page))
      by true full = turned (Evicting old page) (its.0, low)
      by false full =
          let less = leb-false d.room (length (old ∷ rest)) full in
          let long : length s.inside ≡ length (old ∷ rest) = ap length e in
          turned (Giving page) (low, omega (arith, less, long))

  looking : (page : ℕ) → page < 256 → (b : Bool) → IsSaneState d.room (if b then at_phase s (Ending page) else looked d s page)
  looking page low true = turned (Ending page) tt
  looking page low false = room-made page low s.inside refl

  evicting : (old page : ℕ) → page < 256 → (b held : Bool) →
      IsSaneState d.room (if b then record { backing = put old words s.backing; inside = drop 1 s.inside; faults = s.faults; phase = Giving page }
      else (if held then s else record { backing = s.backing; inside = drop 1 s.inside; faults = s.faults; phase = Giving page }))
  evicting old page low true held =
      let few = rest-few s.inside d.room some sane.few in record { few = omega (arith, few); pages = rest-pages s.inside sane.pages; phase = (low, few) }
  evicting old page low false true = sane
  evicting old page low false false =
      let few = rest-few s.inside d.room some sane.few in record { few = omega (arith, few); pages = rest-pages s.inside sane.pages; phase = (low, few) }

  giving : (page : ℕ) → page < 256 → length s.inside + 1 ≤ d.room → (b held : Bool) →
      IsSaneState d.room (if b then record { backing = s.backing; inside = s.inside ++ page ∷ []; faults = s.faults; phase = Ending page }
      else (if held then s else at_phase s (Ending page)))
  giving page low less true held =
      record {
        few = let long = length-append s.inside (page ∷ []) in omega (arith, long, less);
        pages = more-pages s.inside page sane.pages low;
        phase = tt;
      }
  giving page low less false true = sane
  giving page low less false false = turned (Ending page) tt

  ending : (b : Bool) →
      IsSaneState d.room (if b then record { backing = s.backing; inside = s.inside; faults = counted s.faults; phase = Waiting } else at_phase s Waiting)
  ending true = record { few = sane.few; pages = sane.pages; phase = tt }
  ending false = turned Waiting tt

  by_phase : (phase : Phase) → HasNumbers d.room (length s.inside) phase → IsGoodAnswer phase status words → IsSaneState d.room (next d s phase status words)
  unfolding next
  by_phase (Seeking from) numbers good = seeking good (status == OK) refl
  by_phase (Taking page) numbers good = taking page (status == OK) (status == HELD)
  by_phase Waiting numbers good = waiting good (status == OK) refl
  by_phase (Looking page) numbers good = looking page numbers (status == OK && slice_index words 0 == page)
  by_phase (Evicting old page) numbers good = evicting old page numbers.1 (status == OK) (status == HELD)
  by_phase (Giving page) numbers good = giving page numbers.0 numbers.1 (status == OK) (status == HELD)
  by_phase (Ending page) numbers good = ending (status == OK)

  pub sane-next : IsGoodAnswer s.phase status words → IsSaneState d.room (next d s s.phase status words)
  sane-next good = by_phase s.phase sane.phase good

-- one that hasn't begun
pub sane-first : (room : ℕ) → IsSaneState room first
unfolding first
sane-first room = record { few = omega arith; pages = tt; phase = tt }
