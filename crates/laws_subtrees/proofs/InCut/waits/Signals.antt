-- The laws of the cut and of rebinding for a signal, which wakes one sleeper of a condition.
use Rattle.std.proofs.Common.{◌≡◌, ℕ, Bool, true, false, not, List, [], ◌∷◌, ◌++◌, flat_map, Option, Some, None, is_none, refl}
use Rattle.fk_model.specs.declared.limits.TheConstants.{SLOTS}
use Rattle.fk_model.specs.declared.stage.Stage.{Stage}
use Rattle.fk_model.specs.declared.stage.Stage.TheVariants.{CondSignal}
use Rattle.fk_model.specs.Places.{Path, parent, same_path, Ptr}
use Rattle.fk_model.specs.Objects.{Body, thread_of, and_then}
use Rattle.fk_model.specs.World.{World, Change}
use Rattle.fk_model.specs.Searches.{slots}
use Rattle.fk_model.specs.Outcomes.{Outcome, when}
use Rattle.fk_model.specs.Outcomes.Outcome.{Waits}
use Rattle.fk_model.specs.Moves.{call_row}
use Rattle.fk_model.specs.Readers.{object_in}
use Rattle.fk_model.specs.SyncRows.{cond_of, asleep_on, woken, sleepers, signals, unless_slept_on, picks_sleeper, cond_signal}
use Rattle.fk_model.specs.LinkRows.{user_at}
use Rattle.fk_model.specs.Cut.{IsPlain}
use Rattle.fk_model.proofs.walks.PlaceLaws.{same_path_cancel}
use Rattle.laws_subtrees.specs.Cut.CutLaws.{KeepsCut, IsAtStage, moves, StageKeepsCut, StageInsideKeepsCut, IsSignal}
use Rattle.laws_subtrees.specs.Cut.RebindLaws.{StageRebinds}
use Rattle.laws_subtrees.specs.Cut.Likeness.{IsLikeness, IsBeneath, AlikeOptions}
use Rattle.laws_subtrees.specs.Cut.LikeChanges.{IsLikeOutcome}
use Rattle.laws_subtrees.specs.Cut.LikeChanges.LikeChanges.{Empty}
use Rattle.laws_subtrees.proofs.InCut.likeness.Instances.{cut-like}
use Rattle.laws_subtrees.proofs.InCut.likeness.Memory.{root_space, root_seen}
use Rattle.laws_subtrees.proofs.InCut.likeness.Ends.{woken-like}
use Rattle.laws_subtrees.proofs.InCut.likeness.Walks.{asleep_on-like}
use Rattle.laws_subtrees.proofs.InCut.likeness.Outcomes.{bind_any, done-like}
use Rattle.laws_subtrees.proofs.InCut.likeness.Reads.{plain_in-like, cond-seen}
use Rattle.laws_subtrees.proofs.InCut.cut.Plain.{AreQuiet}
use Rattle.laws_subtrees.proofs.InCut.cut.Inside.{Quiet, quiet->>=, quiet-when, quiet-waits, quiet-done, quiet-call, call_row-like, inside_stages}
use Rattle.laws_subtrees.proofs.InCut.cut.Outside.{stage_outside}
use Rattle.laws_subtrees.proofs.InCut.rebinding.Rebound.{quiet_heard}
use Rattle.laws_subtrees.proofs.InCut.rebinding.Messages.{IsRebound, told_rebinds, silent_row}
use Rattle.laws_subtrees.proofs.InCut.rebinding.Waits.{same_pick}
use Rattle.laws_subtrees.proofs.InCut.talks.Messages.{whole}
use Rattle.laws_subtrees.proofs.InCut.waits.Picks.{picked_law}

abbrev is_empty : List Change → Bool
is_empty [] = true
is_empty (change ∷ changes) = false

two : (b : Bool) → b ≡ not b → ⊥
two true e = cc
two false e = cc

module _ {root : Path} {see : Ptr → Ptr} {small big : World} (like : IsLikeness root see small big) where
  abbrev Alike : Outcome → Outcome → Type 0
  Alike = IsLikeOutcome root see big

  -- somebody sleeps in both or in none
  none_woken : (x y : Path) (o : Option ℕ) (cs ds : List Change) → is_empty cs ≡ is_empty ds → is_empty (woken x o ++ cs) ≡ is_empty (woken y o ++ ds)
  none_woken x y None cs ds e = e
  none_woken x y (Some m) cs ds e = refl

  none_asleep : (space : Path) (slot : ℕ) (ks : List ℕ) →
      is_empty (flat_map (λ k. woken (k ∷ space) (asleep_on slot (small.body (k ∷ space)))) ks) ≡
      is_empty (flat_map (λ k. woken (k ∷ (space ++ root)) (asleep_on slot (big.body (k ∷ (space ++ root))))) ks)
  none_asleep space slot [] = refl
  none_asleep space slot (k ∷ ks) = rw (asleep_on-like like slot k space)
      (none_woken (k ∷ space) (k ∷ (space ++ root)) (asleep_on slot (big.body (k ∷ (space ++ root)))) _ _ (none_asleep space slot ks))

  nobody_asleep : (space : Path) (slot : ℕ) → is_empty (sleepers small space slot) ≡ is_empty (sleepers big (space ++ root) slot)
  unfolding sleepers
  nobody_asleep space slot = none_asleep space slot (slots SLOTS)

  unless-like : (k : ℕ) (q : Path) (cs ds : List Change) → is_empty cs ≡ is_empty ds →
      Alike (unless_slept_on (user_at (k ∷ q)) cs) (unless_slept_on (user_at (k ∷ (q ++ root))) ds)
  unless-like k q [] [] e = done-like like (user_at (k ∷ q)) [] [] [] Empty
  unless-like k q (c ∷ cs) (d ∷ ds) e = tt
  unless-like k q [] (d ∷ ds) e = absurd (two true e)
  unless-like k q (c ∷ cs) [] e = absurd (two false e)

  wakes-like : (k : ℕ) (q : Path) (j : ℕ) (z : Path) (o : Option ℕ) →
      Alike (signals (user_at (k ∷ q)) (woken (j ∷ z) o)) (signals (user_at (k ∷ (q ++ root))) (woken (j ∷ (z ++ root)) o))
  wakes-like k q j z None = tt
  wakes-like k q j z (Some m) = done-like like (user_at (k ∷ q)) _ _ [] (woken-like like j z big (Some m))

  here-like : (k : ℕ) (q : Path) (slot j : ℕ) (z : Path) (b : Bool) →
      Alike (when b (signals (user_at (k ∷ q)) (woken (j ∷ z) (asleep_on slot (small.body (j ∷ z))))))
      (when b (signals (user_at (k ∷ (q ++ root))) (woken (j ∷ (z ++ root)) (asleep_on slot (big.body (j ∷ (z ++ root)))))))
  here-like k q slot j z true = rw (asleep_on-like like slot j z) (wakes-like k q j z (asleep_on slot (big.body (j ∷ (z ++ root)))))
  here-like k q slot j z false = tt

  -- the root is no sleeper
  root-like : (k : ℕ) (q : Path) (slot : ℕ) (a b : Bool) → (v : Option Body) → and_then thread_of v ≡ None →
      Alike (when a (signals (user_at (k ∷ q)) (woken [] (asleep_on slot (small.body [])))))
      (when b (signals (user_at (k ∷ (q ++ root))) (woken root (asleep_on slot v))))
  root-like k q slot a b v none = rw (root_seen like, none) (by a b)
    where
      by : (a b : Bool) → Alike (when a Waits) (when b Waits)
      by true true = tt
      by true false = tt
      by false true = tt
      by false false = tt

  picks-like : (k : ℕ) (q : Path) (slot : ℕ) (p pick : Option Path) → AlikeOptions (IsBeneath root) p pick →
      Alike (picks_sleeper small (user_at (k ∷ q)) slot p) (picks_sleeper big (user_at (k ∷ (q ++ root))) slot pick)
  picks-like k q slot None None h = unless-like k q (sleepers small q slot) (sleepers big (q ++ root) slot) (nobody_asleep q slot)
  picks-like k q slot (Some []) (Some y) h = rw h (root-like k q slot _ _ (big.body root) (rw (root_space like).2 refl))
  picks-like k q slot (Some (j ∷ z)) (Some y) h = rw h (rw (same_path_cancel z q root) (here-like k q slot j z (same_path z q)))
  picks-like k q slot None (Some y) h = absurd h
  picks-like k q slot (Some z) None h = absurd h

  none_alike : (p pick : Option Path) → AlikeOptions (IsBeneath root) p pick → is_none p ≡ is_none pick
  none_alike None None h = refl
  none_alike (Some z) (Some x) h = refl
  none_alike None (Some x) h = absurd h
  none_alike (Some z) None h = absurd h

  cond_signal-like : (k : ℕ) (q : Path) (slot : ℕ) (p pick : Option Path) → AlikeOptions (IsBeneath root) p pick →
      Alike (cond_signal small (user_at (k ∷ q)) p slot) (cond_signal big (user_at (k ∷ (q ++ root))) pick slot)
  unfolding cond_signal
  cond_signal-like k q slot p pick h =
      bind_any like ◌≡◌ _ _ _ _ (plain_in-like like cond_of (cond-seen see) (user_at (k ∷ q)) q slot) (λ a b. picks-like k q slot p pick h)

  signal_call-like : (k : ℕ) (q : Path) (slot : ℕ) (p pick : Option Path) → AlikeOptions (IsBeneath root) p pick →
      Alike (call_row small (user_at (k ∷ q)) p (CondSignal slot)) (call_row big (user_at (k ∷ (q ++ root))) pick (CondSignal slot))
  signal_call-like k q slot p pick h = call_row-like like k q p pick (CondSignal slot) (none_alike p pick h) (cond_signal-like k q slot p pick h)

-- ---- its changes are quiet

quiet-woken : (root x : Path) (o : Option ℕ) → AreQuiet root (woken x o)
quiet-woken root x None = tt
quiet-woken root x (Some m) = (tt, tt)

quiet-signals : (root x : Path) (cs : List Change) → AreQuiet root cs → Quiet root (signals (user_at x) cs)
quiet-signals root x [] quiet = quiet-waits
quiet-signals root x (c ∷ cs) quiet = quiet-done root (user_at x) (c ∷ cs) [] quiet

quiet-unless : (root x : Path) (cs : List Change) → Quiet root (unless_slept_on (user_at x) cs)
quiet-unless root x [] = quiet-done root (user_at x) [] [] tt
quiet-unless root x (c ∷ cs) = quiet-waits

quiet-signal : (root : Path) (w : World) (x : Path) (pick : Option Path) (slot : ℕ) → Quiet root (cond_signal w (user_at x) pick slot)
unfolding cond_signal
quiet-signal root w x pick slot = quiet->>= root (object_in w (user_at x) cond_of (user_at x).space slot) _ (λ found. by pick)
  where
    by : (pick : Option Path) → Quiet root (picks_sleeper w (user_at x) slot pick)
    by None = quiet-unless root x (sleepers w (user_at x).space slot)
    by (Some y) = quiet-when root (same_path (parent y) (user_at x).space)
        _ (quiet-signals root x (woken y (asleep_on slot (w.body y))) (quiet-woken root y (asleep_on slot (w.body y))))

-- ---- the laws

signal_inside : StageInsideKeepsCut IsSignal
signal_inside = inside_stages IsSignal law
  where
    law : (w : World) (nester : Path) (slot : ℕ) → IsPlain w nester slot → (k : ℕ) (q : Path) (pick : Option Path) (stage : Stage) →
        IsSignal stage → IsAtStage w (k ∷ (q ++ slot ∷ nester)) stage → KeepsCut w nester slot (moves (k ∷ (q ++ slot ∷ nester)) pick)
    law w nester slot plain k q pick stage such at =
        let quiet = quiet-call (slot ∷ nester) w (k ∷ (q ++ slot ∷ nester)) pick (CondSignal such.0)
        (quiet-signal (slot ∷ nester) w (k ∷ (q ++ slot ∷ nester)) pick such.0) in
        picked_law w nester slot plain k q pick (CondSignal such.0) (rw such.1 at at) (λ n c o. refl)
        (λ p h free. signal_call-like (cut-like w nester slot plain) k q such.0 p pick h) (λ p h. quiet) (λ none same off. quiet)

pub signal_keeps : StageKeepsCut IsSignal
signal_keeps = whole IsSignal signal_inside
    (λ w nester slot plain x pick stage such out at. stage_outside
    w nester slot plain x pick (CondSignal such.0) out (rw such.1 at at) (λ cs. refl) (quiet-signal (slot ∷ nester) w x pick such.0))

pub signal_rebinds : StageRebinds IsSignal
signal_rebinds = told_rebinds IsSignal (λ p n stage such. rw such.1 (law p n such.0))
  where
    law : (p : Option Path) (n slot : ℕ) → IsRebound p n (CondSignal slot)
    law p n slot see small c like outs world k q =
        rw (silent_row p n (CondSignal slot) small (k ∷ q) (λ n o. refl), silent_row p n (CondSignal slot) c (k ∷ (q ++ [])) (λ n o. refl)) (
          signal_call-like like k q slot p p (same_pick p),
          quiet_heard see _ _ (quiet-call [] small (k ∷ q) p (CondSignal slot) (quiet-signal [] small (k ∷ q) p slot))
              (quiet-call [] c (k ∷ (q ++ [])) p (CondSignal slot) (quiet-signal [] c (k ∷ (q ++ [])) p slot)),
        )
