-- The law of the cut for whoever stands outside and ends the fault that he has taken: the subtree sees that its fault is done.
use Rattle.std.proofs.Common.{◌≡◌, ℕ, Bool, true, false, not, List, [], ◌∷◌, ◌++◌, Option, Some, None, is_some, is_none, option_map, refl, sym, ap, subst, ◌∙◌}
use Rattle.std.proofs.lemmas.Bool.{and_parts}
use Rattle.fk_model.specs.declared.names.Kind.TheVariants as kinds
use Rattle.fk_model.specs.declared.moves.Ask.TheVariants as asks
use Rattle.fk_model.specs.declared.stage.Stage.TheVariants as stages
use Rattle.fk_model.specs.Places.{Path, strip, is_within, parent, slot_of, Ptr}
use Rattle.fk_model.specs.Places.Ptr.{At}
use Rattle.fk_model.specs.Objects.{Peer, Fault, Thread, thread_of, and_then, holds}
use Rattle.fk_model.specs.Objects.Peer.{Server}
use Rattle.fk_model.specs.World.{World, Change, apply_all, serves}
use Rattle.fk_model.specs.World.Change.{Alter}
use Rattle.fk_model.specs.World.Edit.{Finish, SetFault}
use Rattle.fk_model.specs.Searches.{fault_at, faulter_of, objects, thread_at}
use Rattle.fk_model.specs.Holds.{is_frozen, is_free, is_unheld}
use Rattle.fk_model.specs.Outcomes.{Said, Outcome, when}
use Rattle.fk_model.specs.Outcomes.Outcome.{Goes}
use Rattle.fk_model.specs.Outcomes.Said.{Nothing}
use Rattle.fk_model.specs.FaultRows.{fault_done}
use Rattle.fk_model.specs.LinkRows.{user_at}
use Rattle.fk_model.specs.Moves.{with_pick, closed, call_row, porter_at, outcome, GoesAllowed, stepped, step}
use Rattle.fk_model.specs.Valid.{kind_there, leads_there, all_in, is_good_peer}
use Rattle.fk_model.specs.Whole.{IsWhole}
use Rattle.fk_model.specs.Cut.{is_out, ports_of, cut_ptr, cut, IsPlain}
use Rattle.fk_model.specs.Further.{Touch, Onward, Told, touch_row, IsOnward}
use Rattle.fk_model.specs.Further.Touch.{FaultDone}
use Rattle.fk_model.specs.Further.Onward.{ByOthers}
use Rattle.fk_model.specs.Seen.{on_inner, outer_touch, row_of}
use Rattle.fk_model.specs.Seen.Seen.{Onwards, Unseen, Other}
use Rattle.fk_model.proofs.walks.PlaceLaws.{strip-append}
use Rattle.laws_subtrees.specs.Cut.CutLaws.{KeepsCut, IsAtStage, moves, IsFaultDone, StageKeepsCut, CallKeepsCut}
use Rattle.laws_subtrees.specs.Cut.Likeness.{seen_thread, HasLikeness, AlikeOptions, IsSeenFault}
use Rattle.laws_subtrees.specs.Cut.LikeChanges.LikeChange.{Alters}
use Rattle.laws_subtrees.specs.Cut.LikeChanges.LikeChanges.{Both}
use Rattle.laws_subtrees.proofs.InCut.likeness.Instances.{cut-like}
use Rattle.laws_subtrees.proofs.InCut.likeness.Holds.{strip_none, is_unheld-like, root_unfrozen}
use Rattle.laws_subtrees.proofs.InCut.likeness.Talks.{fault_at-like}
use Rattle.laws_subtrees.proofs.InCut.likeness.Servers.{find_some, serves_is, good_fault}
use Rattle.laws_subtrees.proofs.InCut.cut.Plain.{AreQuiet}
use Rattle.laws_subtrees.proofs.InCut.cut.Inside.{quiet-when, quiet-call, thread_seen, thread_beneath}
use Rattle.laws_subtrees.proofs.InCut.cut.Outside.{stepped-plain, stage_outcome, stage_called}
use Rattle.laws_subtrees.proofs.InCut.cut.Calls.{porter_outside, porter_is, quiet-porter}
use Rattle.laws_subtrees.proofs.InCut.cut.Pages.{has_touched, seen_outside, taken_row, stands_in_slot}
use Rattle.laws_subtrees.proofs.InCut.talks.Given.{port_out}
use Rattle.laws_subtrees.proofs.InCut.talks.Messages.{whole}
use Rattle.laws_subtrees.proofs.InCut.waits.FaultEnds.{quiet-fault_done, fault_done_keeps}
use Rattle.laws_subtrees.proofs.InCut.waits.Taken.{AreBeyond, beyond}

-- ---- who has a fault that is taken, with it

abbrev Found : World → Path → Path → Type 0
Found w taker c = (t : Thread) × (fault : Fault) × (and_then thread_of (w.body c) ≡ Some t) × (t.fault ≡ Some fault) × (fault.taker ≡ Some (Server (At taker)))

its_faulter : (w : World) (j : ℕ) (s c : Path) → faulter_of w (j ∷ s) ≡ Some c → Found w (j ∷ s) c
unfolding faulter_of
its_faulter w j s c taken = by (and_then thread_of (w.body c)) refl
    (find_some (λ (y : Path). holds (λ (fault : Fault). holds (serves (j ∷ s)) fault.taker) (fault_at w y)) (objects w) c taken)
  where
    of_taker : (t : Thread) (fault : Fault) → and_then thread_of (w.body c) ≡ Some t → t.fault ≡ Some fault →
        (o : Option Peer) → fault.taker ≡ o → holds (serves (j ∷ s)) o ≡ true → Found w (j ∷ s) c
    of_taker t fault is its None taker h = cc
    of_taker t fault is its (Some peer) taker h = (t, fault, is, its, taker ∙ ap (λ (p : Peer). Some p) (serves_is (j ∷ s) peer h))

    of_fault : (t : Thread) → and_then thread_of (w.body c) ≡ Some t → (o : Option Fault) → t.fault ≡ o →
        holds (λ (fault : Fault). holds (serves (j ∷ s)) fault.taker) o ≡ true → Found w (j ∷ s) c
    of_fault t is None its h = cc
    of_fault t is (Some fault) its h = of_taker t fault is its fault.taker refl h

    by : (o : Option Thread) → and_then thread_of (w.body c) ≡ o →
        holds (λ (fault : Fault). holds (serves (j ∷ s)) fault.taker) (and_then (λ (t : Thread). t.fault) o) ≡ true → Found w (j ∷ s) c
    by None is h = cc
    by (Some t) is h = of_fault t is t.fault refl h

module _ (w : World) (nester : Path) (slot : ℕ) (plain : IsPlain w nester slot) (sound : IsWhole w)
    (j : ℕ) (s : Path) (out : is_within (slot ∷ nester) (j ∷ s) ≡ false) where
  abbrev root : Path
  root = slot ∷ nester

  abbrev see : Ptr → Ptr
  see = cut_ptr (ports_of w nester slot) nester slot

  abbrev small : World
  small = cut w nester slot

  abbrev pub DoneBy : Onward → World → Type 0
  DoneBy m later = IsPlain later nester slot × ((told : List Told) × IsOnward small m told (cut later nester slot))

  -- its fault is at a port outside
  port_seen : (k : ℕ) (z : Path) (fault : Fault) → fault_at w (k ∷ (z ++ root)) ≡ Some fault → HasLikeness root see w fault.port
  port_seen k z fault is = by (fault_at small (k ∷ z)) (fault_at w (k ∷ (z ++ root))) is (fault_at-like (cut-like w nester slot plain) (k ∷ z))
    where
      by : (o p : Option Fault) → p ≡ Some fault → AlikeOptions (IsSeenFault root see w) o p → HasLikeness root see w fault.port
      by None None e h = cc
      by (Some seen) (Some found) e h = let same : found ≡ fault = cc in rw same at h.1.0
      by None (Some found) e h = absurd h
      by (Some seen) None e h = absurd h

  outward : (k : ℕ) (z : Path) (fault : Fault) → fault_at w (k ∷ (z ++ root)) ≡ Some fault →
      fault.taker ≡ Some (Server (At (j ∷ s))) → is_out (see fault.port) ≡ true
  outward k z fault is taker =
      let good = good_fault (kind_there w) (k ∷ (z ++ root)) (w.body (k ∷ (z ++ root))) fault (sound.valid.consistent.good (k ∷ (z ++ root))) is in
      let near = sound.valid.consistent.faults_near (k ∷ (z ++ root)) fault (At (j ∷ s)) is taker in
      port_out w root plain.birth plain.holder plain.root j s out fault.port (see fault.port) (port_seen k z fault is)
      (and_parts (leads_there (kind_there w) (kinds.Port ∷ []) fault.port) (all_in (is_good_peer (kind_there w)) fault.taker) good).0 near

  done_row : (k : ℕ) (z : Path) (t : Thread) (fault : Fault) → and_then thread_of (w.body (k ∷ (z ++ root))) ≡ Some t → t.fault ≡ Some fault →
      fault.taker ≡ Some (Server (At (j ∷ s))) → is_out (see fault.port) ≡ true → is_unheld small z ≡ true →
      touch_row small (FaultDone (k ∷ z)) ≡ Goes (Alter (k ∷ z) (SetFault None) ∷ []) Nothing
  unfolding touch_row
  done_row k z t fault is its taker port unheld =
      let here : thread_at small (k ∷ z) ≡ Some (seen_thread see t) =
      rw ((cut-like w nester slot plain).bodies (k ∷ z)) (thread_seen see k z (w.body (k ∷ (z ++ root))) t is) in
      rw here (rw (unheld, its, taker) (rw port refl))

  -- what follows lies outside
  freed : (k : ℕ) (z : Path) → faulter_of w (j ∷ s) ≡ Some (k ∷ (z ++ root)) → is_unheld w (z ++ root) ≡ true → (later : List Change) →
      AreBeyond root later → AreQuiet root later →
      DoneBy (ByOthers (FaultDone (k ∷ z))) (apply_all (Alter (k ∷ (z ++ root)) (SetFault None) ∷ later) w)
  freed k z taken unheld later apart quiet =
      let its = its_faulter w j s (k ∷ (z ++ root)) taken in
      let fault = its.1 in
      let is : fault_at w (k ∷ (z ++ root)) ≡ Some fault = ap (and_then (λ (t : Thread). t.fault)) its.2 ∙ its.3 in
      let like = cut-like w nester slot plain in
      let loose = root_loose (is_frozen w (z ++ root)) refl unheld in
      has_touched w nester slot plain (FaultDone (k ∷ z)) (Alter (k ∷ z) (SetFault None) ∷ []) (Alter (k ∷ (z ++ root)) (SetFault None) ∷ later) Nothing
      (done_row k z its.0 fault its.2 its.3 its.4 (outward k z fault is its.4) (is_unheld-like like loose z ∙ unheld))
      (Both (Alters k z (SetFault None) (SetFault None) refl tt) (beyond later _ apart)) ((λ off. refl), quiet)
    where
      root_loose : (b : Bool) → is_frozen w (z ++ root) ≡ b → not b ≡ true → is_frozen w root ≡ false
      root_loose false e h = root_unfrozen w root z e
      root_loose true e h = cc

  user_done : (k : ℕ) (z : Path) → faulter_of w (j ∷ s) ≡ Some (k ∷ (z ++ root)) → (pick : Option Path) →
      GoesAllowed w (j ∷ s) (call_row w (user_at (j ∷ s)) pick stages.FaultDone) →
      DoneBy (ByOthers (FaultDone (k ∷ z))) (stepped w (call_row w (user_at (j ∷ s)) pick stages.FaultDone)).world
  unfolding call_row fault_done
  user_done k z taken pick = rw taken (by (is_unheld w (z ++ root)) refl)
    where
      inner : is_unheld w (z ++ root) ≡ true → (b : Bool) →
          GoesAllowed w (j ∷ s) (closed (user_at (j ∷ s)) (when b (Goes (Alter (k ∷ (z ++ root)) (SetFault None) ∷ Alter (j ∷ s) (Finish []) ∷ []) Nothing))) →
          DoneBy (ByOthers (FaultDone (k ∷ z)))
          (stepped w (closed (user_at (j ∷ s)) (when b (Goes (Alter (k ∷ (z ++ root)) (SetFault None) ∷ Alter (j ∷ s) (Finish []) ∷ []) Nothing)))).world
      inner e true = λ ready. freed k z taken e (Alter (j ∷ s) (Finish []) ∷ []) (out, tt) (tt, tt)
      inner e false = λ ready. absurd ready

      by : (u : Bool) → is_unheld w (z ++ root) ≡ u → GoesAllowed w (j ∷ s) (closed (user_at (j ∷ s))
          (with_pick false pick (when u (Goes (Alter (k ∷ (z ++ root)) (SetFault None) ∷ Alter (j ∷ s) (Finish []) ∷ []) Nothing)))) →
          DoneBy (ByOthers (FaultDone (k ∷ z))) (stepped w (closed (user_at (j ∷ s))
          (with_pick false pick (when u (Goes (Alter (k ∷ (z ++ root)) (SetFault None) ∷ Alter (j ∷ s) (Finish []) ∷ []) Nothing))))).world
      by true e = inner e (is_none pick)
      by false e = λ ready. absurd ready

  porter_done : (k : ℕ) (z : Path) → faulter_of w (j ∷ s) ≡ Some (k ∷ (z ++ root)) → (words : List ℕ) (pick : Option Path) →
      GoesAllowed w (j ∷ s) (call_row w (porter_at (j ∷ s) words) pick stages.FaultDone) →
      DoneBy (ByOthers (FaultDone (k ∷ z))) (stepped w (call_row w (porter_at (j ∷ s) words) pick stages.FaultDone)).world
  unfolding call_row fault_done
  porter_done k z taken words pick = rw taken (by _ (is_unheld w (z ++ root)) refl)
    where
      inner : is_unheld w (z ++ root) ≡ true → (said : Said) (b : Bool) →
          GoesAllowed w (j ∷ s) (closed (porter_at (j ∷ s) words) (when b (Goes (Alter (k ∷ (z ++ root)) (SetFault None) ∷ []) said))) →
          DoneBy (ByOthers (FaultDone (k ∷ z)))
          (stepped w (closed (porter_at (j ∷ s) words) (when b (Goes (Alter (k ∷ (z ++ root)) (SetFault None) ∷ []) said)))).world
      inner e said true = λ ready. freed k z taken e [] tt tt
      inner e said false = λ ready. absurd ready

      by : (said : Said) (u : Bool) → is_unheld w (z ++ root) ≡ u → GoesAllowed w (j ∷ s) (closed (porter_at (j ∷ s) words)
          (with_pick false pick (when u (Goes (Alter (k ∷ (z ++ root)) (SetFault None) ∷ []) said)))) →
          DoneBy (ByOthers (FaultDone (k ∷ z))) (stepped w (closed (porter_at (j ∷ s) words)
          (with_pick false pick (when u (Goes (Alter (k ∷ (z ++ root)) (SetFault None) ∷ []) said))))).world
      by said true e = inner e said (is_none pick)
      by said false e = λ ready. absurd ready

  by_faulter : (later : World) → ((k : ℕ) (z : Path) → faulter_of w (j ∷ s) ≡ Some (k ∷ (z ++ root)) → DoneBy (ByOthers (FaultDone (k ∷ z))) later) →
      (m : Onward) → option_map (λ (touch : Touch). ByOthers touch) (on_inner root (λ x q. Some (FaultDone q)) (faulter_of w (j ∷ s))) ≡ Some m → DoneBy m later
  by_faulter later go m = by (faulter_of w (j ∷ s)) refl
    where
      same_path_is : (a b : Path) → Some a ≡ Some b → a ≡ b
      same_path_is a b h = cc

      of_path : (c : Path) → faulter_of w (j ∷ s) ≡ Some c → (r : Option Path) → strip root c ≡ r →
          option_map (λ (touch : Touch). ByOthers touch) (and_then (λ (q : Path). Some (FaultDone q)) r) ≡ Some m → DoneBy m later
      of_path c taken None e h = cc
      of_path c taken (Some q) e h =
          let its = its_faulter w j s c taken in
          let under = thread_beneath w nester slot plain c its.0 (ap is_some e) its.2 in
          let place : q ≡ under.0 ∷ under.1 = same_path_is q (under.0 ∷ under.1) (sym e ∙ ap (strip root) under.2 ∙ strip-append root (under.0 ∷ under.1)) in
          let form : m ≡ ByOthers (FaultDone q) = cc in
          rw (form, place) (go under.0 under.1 (taken ∙ ap (λ (y : Path). Some y) under.2))

      by : (o : Option Path) → faulter_of w (j ∷ s) ≡ o →
          option_map (λ (touch : Touch). ByOthers touch) (on_inner root (λ x q. Some (FaultDone q)) o) ≡ Some m → DoneBy m later
      by None taken h = cc
      by (Some c) taken h = of_path c taken (strip root c) refl h

  -- ---- a user

  user_outside : (pick : Option Path) → IsAtStage w (j ∷ s) stages.FaultDone → KeepsCut w nester slot (moves (j ∷ s) pick)
  unfolding step
  user_outside pick at whole same fit ready (Onwards m) seen =
      let is = stage_outcome w nester slot plain (j ∷ s) pick stages.FaultDone at in
      let far = seen_outside w root (j ∷ s) pick (outcome w (j ∷ s) pick asks.Run) (strip root (j ∷ s)) m (strip_none root (j ∷ s) out) seen.1 in
      let row = taken_row w root (moves (j ∷ s) pick) (outcome w (j ∷ s) pick asks.Run) None _ stages.FaultDone m refl
      (stage_called w nester slot plain (j ∷ s) stages.FaultDone at) far in
      by_faulter (stepped w (outcome w (j ∷ s) pick asks.Run)).world (λ k z taken. subst (λ (o : Outcome). GoesAllowed w (j ∷ s) o →
      DoneBy (ByOthers (FaultDone (k ∷ z))) (stepped w o).world) (sym is.1) (free_done k z taken (is_free w s is.0)) ready) m row
    where
      free_done : (k : ℕ) (z : Path) → faulter_of w (j ∷ s) ≡ Some (k ∷ (z ++ root)) → (b : Bool) →
          GoesAllowed w (j ∷ s) (when b (call_row w (user_at (j ∷ s)) pick stages.FaultDone)) →
          DoneBy (ByOthers (FaultDone (k ∷ z))) (stepped w (when b (call_row w (user_at (j ∷ s)) pick stages.FaultDone))).world
      free_done k z taken true = user_done k z taken pick
      free_done k z taken false = λ ready. absurd ready
  user_outside pick at whole same fit ready Unseen seen =
      let is = stage_outcome w nester slot plain (j ∷ s) pick stages.FaultDone at in
      stepped-plain w nester slot plain (outcome w (j ∷ s) pick asks.Run) (rw is.1 (quiet-when root (is_free w s is.0) _
      (quiet-call root w (j ∷ s) pick stages.FaultDone (quiet-fault_done root w (user_at (j ∷ s)))))) seen.1.0
  user_outside pick at whole same fit ready Other seen = tt

  -- ---- a porter

  seen_so : (pick : Option Path) (words : List ℕ) (o : Outcome) (r : Option Path) (m : Onward) → r ≡ None →
      row_of w root (record { mover = j ∷ s; pick = pick; ask = asks.Call stages.FaultDone words }) o r ≡ Some m →
      option_map (λ (touch : Touch). ByOthers touch) (outer_touch w root (j ∷ s) pick (asks.Call stages.FaultDone words) o) ≡ Some m
  seen_so pick words o r m none = rw none (λ h. h)

  porter_call : (pick : Option Path) (words : List ℕ) → KeepsCut w nester slot (record { mover = j ∷ s; pick = pick; ask = asks.Call stages.FaultDone words })
  unfolding step outcome
  porter_call pick words whole same fit ready (Onwards m) seen =
      let is = porter_is w (j ∷ s) pick stages.FaultDone words (and_then thread_of (w.body (j ∷ s))) ready in
      let o : Outcome = outcome w (j ∷ s) pick (asks.Call stages.FaultDone words) in
      by_faulter (stepped w o).world (λ k z taken. subst (λ (o : Outcome). GoesAllowed w (j ∷ s) o →
      DoneBy (ByOthers (FaultDone (k ∷ z))) (stepped w o).world) (sym is.3) (porter_done k z taken words pick) ready) m
      (seen_so pick words o (strip root (j ∷ s)) m (strip_none root (j ∷ s) out) seen.1)
  porter_call pick words whole same fit ready Unseen seen =
      let is = porter_is w (j ∷ s) pick stages.FaultDone words (and_then thread_of (w.body (j ∷ s))) ready in
      stepped-plain w nester slot plain (outcome w (j ∷ s) pick (asks.Call stages.FaultDone words))
      (rw (is.3) (quiet-porter root w (j ∷ s) words pick stages.FaultDone (quiet-fault_done root w (porter_at (j ∷ s) words)))) seen.1.0
  porter_call pick words whole same fit ready Other seen = tt

pub fault_done_user : StageKeepsCut IsFaultDone
fault_done_user = whole IsFaultDone fault_done_keeps outside
  where
    outside : (w : World) (nester : Path) (slot : ℕ) → IsPlain w nester slot → (x : Path) (pick : Option Path) (stage : _) →
        IsFaultDone stage → is_within (slot ∷ nester) x ≡ false → IsAtStage w x stage → KeepsCut w nester slot (moves x pick)
    outside w nester slot plain x pick stage such out at sound =
        let here : slot_of x ∷ parent x ≡ x = stands_in_slot w sound x at.0 at.3 in
        let law : KeepsCut w nester slot (moves x pick) =
        subst (λ (y : Path). is_within (slot ∷ nester) y ≡ false → IsAtStage w y stages.FaultDone → KeepsCut w nester slot (moves y pick)) here
        (λ off there. user_outside w nester slot plain sound (slot_of x) (parent x) off pick there) out (rw such at at) in
        law sound

pub fault_done_call : CallKeepsCut IsFaultDone
unfolding outcome
fault_done_call w nester slot x pick stage words such sound plain fit ready =
    let is = porter_is w x pick stage words (and_then thread_of (w.body x)) ready in
    let here : slot_of x ∷ parent x ≡ x = stands_in_slot w sound x is.0 is.1 in
    let law : KeepsCut w nester slot (record { mover = x; pick = pick; ask = asks.Call stages.FaultDone words }) =
    subst (λ (y : Path). is_within (slot ∷ nester) y ≡ false →
    KeepsCut w nester slot (record { mover = y; pick = pick; ask = asks.Call stages.FaultDone words }))
    here (λ off. porter_call w nester slot plain sound (slot_of x) (parent x) off pick words) (porter_outside w nester slot plain x is.0 is.1 is.2) in
    let same : KeepsCut w nester slot (record { mover = x; pick = pick; ask = asks.Call stage words }) = rw such law in
    same sound plain fit ready
