-- The law of the cut for a wait of a porter, which stands outside.
use Rattle.std.proofs.Common.{◌≡◌, ℕ, true, false, List, ◌∷◌, Option, Some, None, option_map, Result, Ok, Err, refl}
use Rattle.fk_model.specs.declared.moves.Ask.TheVariants as asks
use Rattle.fk_model.specs.declared.statuses.status.TheConstants.{LINKED}
use Rattle.fk_model.specs.declared.stage.Stage.TheVariants.{Wait}
use Rattle.fk_model.specs.Places.{Path, strip, is_within, parent}
use Rattle.fk_model.specs.Objects.{Thread, Body, thread_of, and_then}
use Rattle.fk_model.specs.World.{World}
use Rattle.fk_model.specs.Searches.{is_serving}
use Rattle.fk_model.specs.Holds.{is_porter}
use Rattle.fk_model.specs.Outcomes.{Outcome, ◌>>=◌, refuse, Caller, path_of}
use Rattle.fk_model.specs.Outcomes.Outcome.{Waits}
use Rattle.fk_model.specs.Readers.{object_in}
use Rattle.fk_model.specs.LinkRows.{portset_of, wait}
use Rattle.fk_model.specs.Moves.{with_pick, closed, call_row, porter_at, outcome, GoesAllowed, step}
use Rattle.fk_model.specs.Whole.{IsWhole}
use Rattle.fk_model.specs.Runs.{Event}
use Rattle.fk_model.specs.Cut.{IsPlain}
use Rattle.fk_model.specs.Further.{Touch, Onward}
use Rattle.fk_model.specs.Further.Onward.{ByOthers}
use Rattle.fk_model.specs.Seen.{Seen, outer_touch, row_of, IsSeen}
use Rattle.fk_model.specs.Seen.Seen.{Onwards, Unseen, Other}
use Rattle.laws_subtrees.specs.Cut.CutLaws.{HasDone, KeepsCut, IsWait, CallKeepsCut}
use Rattle.laws_subtrees.proofs.InCut.likeness.Holds.{strip_none}
use Rattle.laws_subtrees.proofs.InCut.waits.Views.{View, view-call, quiet-view}
use Rattle.laws_subtrees.proofs.InCut.cut.Inside.{Quiet, quiet-waits}
use Rattle.laws_subtrees.proofs.InCut.cut.Outside.{stepped-plain}
use Rattle.laws_subtrees.proofs.InCut.cut.Calls.{porter_outside, porter_is}
use Rattle.laws_subtrees.proofs.InCut.cut.Pages.{stands_in_slot}
use Rattle.laws_subtrees.proofs.InCut.waits.Outside.{touched}

-- ---- its wait

module _ (w : World) (nester : Path) (slot : ℕ) (plain : IsPlain w nester slot) (sound : IsWhole w) (x : Path) (set : ℕ) (words : List ℕ) where
  abbrev root : Path
  root = slot ∷ nester

  abbrev c : Caller
  c = porter_at x words

  -- it picks nobody
  quiet_none : Quiet root (call_row w c None (Wait set))
  unfolding call_row wait
  quiet_none = after (object_in w c portset_of (parent x) set) (refuse LINKED (is_serving w (path_of c)))
    where
      after : (a : Result Body ℕ) (b : Result (Unit {0}) ℕ) → Quiet root (closed c (with_pick true None (a >>= (λ body. b >>= (λ v. Waits)))))
      after (Ok a) (Ok b) = quiet-waits
      after (Ok a) (Err status) = record { quiet = tt; mute = λ v y. refl }
      after (Err status) b = record { quiet = tt; mute = λ v y. refl }

  beside : (t : Thread) → and_then thread_of (w.body x) ≡ Some t → is_porter t.mode ≡ true → is_within root (path_of c) ≡ false
  beside t at porter = rw (stands_in_slot w sound x t at) (porter_outside w nester slot plain x t at porter)

  abbrev asked : Option Path → Event
  asked pick = record { mover = x; pick = pick; ask = asks.Call (Wait set) words }

  seen_so : (pick : Option Path) (o : Outcome) (r : Option Path) (m : Onward) → r ≡ None → row_of w root (asked pick) o r ≡ Some m →
      option_map (λ (touch : Touch). ByOthers touch) (outer_touch w root x pick (asks.Call (Wait set) words) o) ≡ Some m
  seen_so pick o r m none = rw none (λ h. h)

  quiet_call : (pick : Option Path) → is_within root (path_of c) ≡ false → Quiet root (call_row w c pick (Wait set))
  quiet_call None out = quiet_none
  quiet_call (Some y) out = quiet-view root w c set y (call_row w c (Some y) (Wait set)) (λ inside. out) (view-call w c set y)

  wait_call : (pick : Option Path) → KeepsCut w nester slot (asked pick)
  unfolding step outcome
  wait_call pick again same fit ready seen shown = by pick (porter_is w x pick (Wait set) words (and_then thread_of (w.body x)) ready) ready seen shown
    where
      by : (pick : Option Path) → (t : Thread) × (and_then thread_of (w.body x) ≡ Some t) × (is_porter t.mode ≡ true) ×
          (outcome w x pick (asks.Call (Wait set) words) ≡ call_row w c pick (Wait set)) → GoesAllowed w x (outcome w x pick (asks.Call (Wait set) words)) →
          (seen : Seen) → IsSeen w nester slot (asked pick) seen → HasDone w nester slot (asked pick) seen
      by None is ready (Onwards m) shown = let none : None ≡ Some m = seen_so None (outcome w x None (asks.Call (Wait set) words))
          (strip root x) m (strip_none root x (porter_outside w nester slot plain x is.0 is.1 is.2)) shown.1 in cc
      by (Some y) is ready (Onwards m) shown =
          let o : Outcome = outcome w x (Some y) (asks.Call (Wait set) words) in
          let view : View w c set y o = rw (is.3) (view-call w c set y) in
          touched w nester slot plain sound c set (beside is.0 is.1 is.2)
          x y o view m ready (seen_so (Some y) o (strip root x) m (strip_none root x (porter_outside w nester slot plain x is.0 is.1 is.2)) shown.1)
      by pick is ready Unseen shown =
          stepped-plain w nester slot plain (outcome w x pick (asks.Call (Wait set) words)) (rw (is.3) (quiet_call pick (beside is.0 is.1 is.2))) shown.1.0
      by pick is ready Other shown = tt

pub wait_call_keeps : CallKeepsCut IsWait
wait_call_keeps w nester slot x pick stage words such sound plain = rw such.1 (wait_call w nester slot plain sound x such.0 words pick sound plain)
