-- A pager counts the faults that it ends.
use Rattle.std.proofs.Common.{◌≡◌, ℕ, ◌+◌, Bool, true, false, ◌&&◌, ◌==◌, nat_le, min, if◌then◌else◌, List, [], ◌∷◌, ◌++◌, drop, length, slice_index, refl, sym, ap, subst, arith}
use Rattle.fk_model.specs.declared.moves.Move.{Move}
use Rattle.fk_model.specs.declared.statuses.status.TheConstants.{OK, HELD}
use Rattle.fk_model.specs.Outcomes.{Said}
use Rattle.fk_model.specs.Outcomes.Said.{Nothing, Answered, Taken, Words, Given, Full, Passed, Ended}
use Rattle.laws_filled.specs.Pager.{Desk, Phase, State, MOST_FAULTS, at_phase, put, makes_room, looked, counted, next, first, hears, said_of}
use Rattle.laws_filled.specs.Pager.Phase.{Seeking, Taking, Waiting, Looking, Evicting, Giving, Ending}
use Rattle.fk_pager.specs.Counted.{done_by, ended_by, ended_in, FaultsAreCounted}
use Rattle.fk_pager.specs.Runs.{Moment, pagers_event, IsRun}
use Rattle.fk_pager.specs.Runs.IsRun.{Begins, Others, Own}

module _ (d : Desk) (s : State) (n : ℕ) (so : s.faults ≡ min MOST_FAULTS n) where
  abbrev Counts : ℕ → State → Type 0
  Counts k t = t.faults ≡ min MOST_FAULTS (n + k)

  same : s.faults ≡ min MOST_FAULTS (n + 0)
  same = omega (arith, so)

  room-made : (page : ℕ) (xs : List ℕ) → Counts 0 (makes_room d s page xs)
  room-made page [] = same
  room-made page (old ∷ rest) = by (nat_le d.room (length (old ∷ rest)))
    where
      by : (b : Bool) → Counts 0 (if b then at_phase s (Evicting old page) else at_phase s (Giving page))
      by true = same
      by false = same

  one-more : counted s.faults ≡ min MOST_FAULTS (n + 1)
  one-more = omega (arith, so)

  counts : (phase : Phase) (status : ℕ) (words : List ℕ) → Counts (ended_by phase (Answered status words)) (next d s phase status words)
  unfolding next
  counts (Seeking from) status words = by (status == OK)
    where
      by : (b : Bool) → Counts 0 (if b then at_phase s (Taking (slice_index words 0)) else at_phase s Waiting)
      by true = same
      by false = same
  counts (Taking page) status words = by (status == OK) (status == HELD)
    where
      by : (a b : Bool) → Counts 0 (if a then record { backing = put page words s.backing; inside = s.inside; faults = s.faults; phase = Seeking (page + 1) }
          else (if b then s else at_phase s (Seeking (page + 1))))
      by true b = same
      by false true = same
      by false false = same
  counts Waiting status words = by (status == OK)
    where
      by : (b : Bool) → Counts 0 (if b then at_phase s (Looking (slice_index words 2)) else s)
      by true = same
      by false = same
  counts (Looking page) status words = by (status == OK && slice_index words 0 == page)
    where
      by : (b : Bool) → Counts 0 (if b then at_phase s (Ending page) else looked d s page)
      by true = same
      by false = room-made page s.inside
  counts (Evicting old page) status words = by (status == OK) (status == HELD)
    where
      by : (a b : Bool) → Counts 0 (if a then record { backing = put old words s.backing; inside = drop 1 s.inside; faults = s.faults; phase = Giving page }
          else (if b then s else record { backing = s.backing; inside = drop 1 s.inside; faults = s.faults; phase = Giving page }))
      by true b = same
      by false true = same
      by false false = same
  counts (Giving page) status words = by (status == OK) (status == HELD)
    where
      by : (a b : Bool) → Counts 0 (if a then record { backing = s.backing; inside = s.inside ++ page ∷ []; faults = s.faults; phase = Ending page }
          else (if b then s else at_phase s (Ending page)))
      by true b = same
      by false true = same
      by false false = same
  counts (Ending page) status words = by (status == OK)
    where
      by : (b : Bool) → Counts (if b then 1 else 0)
          (if b then record { backing = s.backing; inside = s.inside; faults = counted s.faults; phase = Waiting } else at_phase s Waiting)
      by true = one-more
      by false = same

  unheard : (phase : Phase) → Counts (ended_by phase Nothing) s
  unheard (Seeking from) = same
  unheard (Taking page) = same
  unheard Waiting = same
  unheard (Looking page) = same
  unheard (Evicting old page) = same
  unheard (Giving page) = same
  unheard (Ending page) = same

  tells-none : (phase : Phase) (said : Said) → done_by said ≡ 0 → ended_by phase said ≡ ended_by phase Nothing
  tells-none (Seeking from) said none = refl
  tells-none (Taking page) said none = refl
  tells-none Waiting said none = refl
  tells-none (Looking page) said none = refl
  tells-none (Evicting old page) said none = refl
  tells-none (Giving page) said none = refl
  tells-none (Ending page) said none = none

  pub hears-counts : (said : Said) → Counts (ended_by s.phase said) (hears d s said)
  hears-counts (Answered status words) = counts s.phase status words
  hears-counts Nothing = unheard s.phase
  hears-counts (Taken to client resumed turn moved) = subst (λ k. Counts k s) (sym (tells-none s.phase _ refl)) (unheard s.phase)
  hears-counts (Words to words) = subst (λ k. Counts k s) (sym (tells-none s.phase _ refl)) (unheard s.phase)
  hears-counts (Given to count) = subst (λ k. Counts k s) (sym (tells-none s.phase _ refl)) (unheard s.phase)
  hears-counts (Full to) = subst (λ k. Counts k s) (sym (tells-none s.phase _ refl)) (unheard s.phase)
  hears-counts (Passed to) = subst (λ k. Counts k s) (sym (tells-none s.phase _ refl)) (unheard s.phase)
  hears-counts (Ended to) = subst (λ k. Counts k s) (sym (tells-none s.phase _ refl)) (unheard s.phase)

module _ (d : Desk) (begun : Moment) (none : begun.state ≡ first) where
  counted-along : (moves : List Move) (at : Moment) (run : IsRun d begun moves at) → at.state.faults ≡ min MOST_FAULTS (ended_in run)
  unfolding ended_in first
  counted-along _ _ Begins = ap (λ (s : State). s.faults) none
  counted-along _ _ (Others past at m ask run move) = counted-along past at run
  counted-along _ _ (Own past at m run move) =
      hears-counts d at.state (ended_in run) (counted-along past at run) (said_of at.world (pagers_event d at m))

pub faults_are_counted : FaultsAreCounted
faults_are_counted d begun moves at none run = counted-along d begun none moves at run
