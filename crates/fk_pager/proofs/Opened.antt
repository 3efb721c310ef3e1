-- When the opening is done every page is taken.
use Rattle.std.proofs.Common.{◌≡◌, ℕ, ◌+◌, ◌≤◌, Bool, true, false, if◌then◌else◌, List, [], ◌∷◌, ◌++◌, length, length-append, option_map, refl, ap, subst, arith}
use Rattle.std.proofs.lemmas.Bool.{le-leb}
use Rattle.fk_model.specs.declared.limits.TheConstants.{LAST_USER_SLOT}
use Rattle.fk_model.specs.declared.moves.Move.{Move}
use Rattle.fk_model.specs.Who.{named}
use Rattle.fk_model.specs.World.{World}
use Rattle.laws_filled.specs.Pager.{Desk, State, is_opening, IsOpening}
use Rattle.laws_filled.specs.Pager.IsOpening.{Opened, Opens}
use Rattle.laws_filled.proofs.First.{opening_takes_all_lem}
use Rattle.fk_pager.specs.Desks.{desk_of_root}
use Rattle.fk_pager.specs.Runs.{Moment, IsRun}
use Rattle.fk_pager.specs.Runs.IsRun.{Begins, Others, Own}
use Rattle.fk_pager.specs.Unseen.{OpeningsTakeAll}
use Rattle.fk_pager.proofs.Begins.{desks_are_first_lem}

longer : (past : List Move) (m : Move) → length (past ++ m ∷ []) ≡ length past + 1
longer past m = length-append past (m ∷ [])

at-most-one : (b : Bool) → (if b then 1 else 0) ≤ 1
at-most-one true = omega arith
at-most-one false = omega arith

module _ (d : Desk) (first : Moment) (none : first.opened ≡ 0) where
  -- no more moves are of the opening than there are
  few : (moves : List Move) (at : Moment) → IsRun d first moves at → at.opened ≤ length moves
  few _ _ Begins = omega (arith, none)
  few _ _ (Others past at m ask run move) = let rest = few past at run in omega (arith, rest, longer past m)
  few _ _ (Own past at m run move) =
      let rest = few past at run in
      let one = at-most-one (is_opening at.state.phase) in
      omega (arith, rest, one, longer past m)

  -- where all are, they are the opening
  opens : (moves : List Move) (at : Moment) → IsRun d first moves at → length moves ≡ at.opened → (v : World) (t : State) →
      IsOpening d at.world at.state v t → IsOpening d first.world first.state v t
  opens _ _ Begins all v t rest = rest
  opens _ _ (Others past at m ask run move) all v t rest =
      let bound = few past at run in
      absurd (omega (arith, bound, all, longer past m))
  opens _ _ (Own past at m run move) all v t rest = by (is_opening at.state.phase) refl (λ same. opens past at run same v t)
    where
      by : (b : Bool) → is_opening at.state.phase ≡ b →
          (length past ≡ at.opened → IsOpening d at.world at.state v t → IsOpening d first.world first.state v t) → IsOpening d first.world first.state v t
      by true e more =
          let count : ◌≡◌ {A = ℕ} (if is_opening at.state.phase then 1 else 0) 1 = ap (λ (b : Bool). if b then 1 else 0) e in
          more (omega (arith, all, count, longer past m)) (Opens at.world at.state (option_map (named at.world) m.pick) v t e move.own rest)
      by false e more =
          let count : ◌≡◌ {A = ℕ} (if is_opening at.state.phase then 1 else 0) 0 = ap (λ (b : Bool). if b then 1 else 0) e in
          let bound = few past at run in
          absurd (omega (arith, all, count, bound, longer past m))

pub openings_take_all : OpeningsTakeAll
openings_take_all slot port set room first moves at low some begins run opened all =
    let d = desk_of_root slot port set room in
    let opening = opens d first begins.opened moves at run all at.world at.state (Opened at.world at.state opened) in
    opening_takes_all_lem d first.world at.world at.state (le-leb slot LAST_USER_SLOT low) some
    (desks_are_first_lem slot port set room first.world begins.desk begins.valid begins.clear)
    (subst (λ (s : State). IsOpening d first.world s at.world at.state) begins.state opening)
