-- The law of the cut for a wait, by a thread outside.
use Rattle.std.proofs.Common.{◌≡◌, inl, inr, ℕ, Bool, true, false, cond, List, [], ◌∷◌, ◌++◌, Option, Some, None, is_some, is_none, option_map, refl, sym, ap}
use Rattle.std.proofs.Common.{◌∙◌}
use Rattle.fk_model.specs.declared.moves.Ask.TheVariants as asks
use Rattle.fk_model.specs.declared.names.Kind.TheVariants as kinds
use Rattle.fk_model.specs.declared.statuses.status.TheConstants.{OK}
use Rattle.fk_model.specs.declared.stage.Stage.TheVariants.{Wait}
use Rattle.fk_model.specs.Places.{Path, strip, is_within, parent, slot_of, Ptr}
use Rattle.fk_model.specs.Places.Ptr.{At}
use Rattle.fk_model.specs.Objects.{Fault, Thread, thread_of, and_then, flag_of}
use Rattle.fk_model.specs.Objects.Peer.{Server}
use Rattle.fk_model.specs.World.{World, Change}
use Rattle.fk_model.specs.World.Change.{Alter}
use Rattle.fk_model.specs.World.Edit.{End, Finish, SetTalk, SetTaker}
use Rattle.fk_model.specs.Holds.{is_free, is_unheld}
use Rattle.fk_model.specs.Outcomes.{Outcome, when, Caller, path_of}
use Rattle.fk_model.specs.Outcomes.Outcome.{Goes}
use Rattle.fk_model.specs.Outcomes.Said.{Nothing, Answered}
use Rattle.fk_model.specs.LinkRows.{user_at, connecting_to, new_talk, Candidate, slot_in_set, candidate, takes_candidate}
use Rattle.fk_model.specs.LinkRows.Candidate.{Faulting, Connecting, Resuming}
use Rattle.fk_model.specs.Moves.{call_row, outcome, GoesAllowed, stepped, step}
use Rattle.fk_model.specs.Valid.{kind_there, is_fit}
use Rattle.fk_model.specs.Cut.{cut, IsPlain}
use Rattle.fk_model.specs.Whole.{IsWhole}
use Rattle.fk_model.specs.Further.{Touch, Onward, Told, IsOnward}
use Rattle.fk_model.specs.Further.Touch.{Taken, FaultTaken}
use Rattle.fk_model.specs.Further.Onward.{ByOthers}
use Rattle.fk_model.specs.Seen.{Seen, on_inner, taken_as, IsSeen}
use Rattle.fk_model.specs.Seen.Seen.{Onwards, Unseen, Other}
use Rattle.fk_model.proofs.walks.PlaceLaws.{strip-append, strip_some}
use Rattle.laws_moves.proofs.InMachine.safety.Talks.{slot-found}
use Rattle.laws_subtrees.specs.Cut.CutLaws.{HasDone, KeepsCut, IsAtStage, moves, IsWait, StageOutsideKeepsCut}
use Rattle.laws_subtrees.proofs.InCut.likeness.Instances.{cut-like}
use Rattle.laws_subtrees.proofs.InCut.likeness.Holds.{strip_none}
use Rattle.laws_subtrees.proofs.InCut.waits.Views.{View, view-call, view-when, IsFound, candidate-found, quiet-view, quiet-idle}
use Rattle.laws_subtrees.proofs.InCut.cut.Inside.{Quiet, quiet-when, thread_beneath}
use Rattle.laws_subtrees.proofs.InCut.cut.Outside.{outside_law, stepped-plain, stage_outcome, stage_called}
use Rattle.laws_subtrees.proofs.InCut.cut.Pages.{taken_row, seen_outside, stands_in_slot}
use Rattle.laws_subtrees.proofs.InCut.waits.Taken.{taken_here, fault_here}

module _ (w : World) (nester : Path)
    (slot : ℕ) (plain : IsPlain w nester slot) (sound : IsWhole w) (c : Caller) (set : ℕ) (out : is_within (slot ∷ nester) (path_of c) ≡ false) where
  abbrev root : Path
  root = slot ∷ nester

  abbrev IsTouched : Onward → World → Type 0
  IsTouched m later = IsPlain later nester slot × ((told : List Told) × IsOnward (cut w nester slot) m told (cut later nester slot))

  -- the ports of its set stand outside
  stands_beside : (at_port : ℕ) → kind_there w (at_port ∷ c.space) ≡ Some kinds.Port → is_within root (at_port ∷ c.space) ≡ false
  stands_beside at_port kind = by (strip root (at_port ∷ c.space)) refl
    where
      within : (z : Path) → c.space ≡ z ++ root → is_within root (c.slot ∷ c.space) ≡ false → ⊥
      within z e = rw e (λ off. let on = strip-append root (c.slot ∷ z) in let clash : true ≡ false = rw on at off in cc)

      by : (o : Option Path) → strip root (at_port ∷ c.space) ≡ o → is_some o ≡ false
      by None e = refl
      by (Some []) e = let here = strip_some root (at_port ∷ c.space) [] e in
          let top = (cut-like w nester slot plain).top in let clash : Some kinds.Port ≡ Some kinds.Space = sym kind ∙ ap (kind_there w) here ∙ top in cc
      by (Some (j ∷ z)) e = let here = strip_some root (at_port ∷ c.space) (j ∷ z) e in let space : c.space ≡ z ++ root = cc in absurd (within z space out)

  stands_in : (path : Path) (at_port : ℕ) → parent path ≡ c.space → kind_there w path ≡ Some kinds.Port → slot_of path ≡ at_port → path ≡ at_port ∷ c.space
  stands_in [] at_port near kind named = let top = sound.valid.rooted.root in cc
  stands_in (k ∷ s) at_port near kind named = cc

  port_beside : (at_port : ℕ) (port : Ptr) →
      slot_in_set w c.space set port ≡ Some at_port → (port ≡ At (at_port ∷ c.space)) × (is_within root (at_port ∷ c.space) ≡ false)
  port_beside at_port port e =
      let found = slot-found w c.space set port at_port e in
      let path = stands_in found.path at_port found.near found.kind found.named in
      (found.at ∙ ap At path, stands_beside at_port (rw path at found.kind))

  connect_touched : (k : ℕ) (q : Path) (t : Thread) (at_port : ℕ) (port : Ptr) → and_then thread_of (w.body (k ∷ (q ++ root))) ≡ Some t →
      is_free w (q ++ root) t ≡ true → connecting_to w (k ∷ (q ++ root)) t ≡ Some port → slot_in_set w c.space set port ≡ Some at_port →
      IsTouched (ByOthers (Taken (k ∷ q))) (stepped w (takes_candidate c (k ∷ (q ++ root)) (Some (Connecting at_port)))).world
  connect_touched k q t at_port port at free to e = by c.is_porter
    where
      beside : (port ≡ At (at_port ∷ c.space)) × (is_within root (at_port ∷ c.space) ≡ false)
      beside = port_beside at_port port e

      taken : List Change
      taken = Alter (k ∷ (q ++ root)) (SetTalk (Some (new_talk (At (at_port ∷ c.space)) (Server (At (path_of c)))))) ∷ Alter (k ∷ (q ++ root)) (Finish []) ∷ []

      by : (b : Bool) → IsTouched (ByOthers (Taken (k ∷ q)))
          (stepped w (cond b (Goes taken (Answered OK (at_port ∷ 0 ∷ []))) (Goes (taken ++ Alter (path_of c) (Finish (at_port ∷ 0 ∷ [])) ∷ []) Nothing))).world
      by true =
          taken_here w nester slot plain k q t at (at_port ∷ c.space) beside.1 (Server (At (path_of c))) [] tt tt (λ inside. out) free (to ∙ ap Some beside.0)
      by false = taken_here w nester slot plain k q t at (at_port ∷ c.space) beside.1
          (Server (At (path_of c))) (Alter (path_of c) (Finish (at_port ∷ 0 ∷ [])) ∷ []) (out, tt) (tt, tt) (λ inside. out) free (to ∙ ap Some beside.0)

  fault_touched : (k : ℕ) (q : Path) (t : Thread) (at_port : ℕ) (fault : Fault) → and_then thread_of (w.body (k ∷ (q ++ root))) ≡ Some t →
      is_unheld w (q ++ root) ≡ true → t.fault ≡ Some fault → is_none fault.taker ≡ true → slot_in_set w c.space set fault.port ≡ Some at_port →
      IsTouched (ByOthers (FaultTaken (k ∷ q))) (stepped w (takes_candidate c (k ∷ (q ++ root)) (Some (Faulting at_port fault)))).world
  fault_touched k q t at_port fault at unheld is raised e = by c.is_porter (cond (is_some fault.taker) 3 1)
    where
      beside : (fault.port ≡ At (at_port ∷ c.space)) × (is_within root (at_port ∷ c.space) ≡ false)
      beside = port_beside at_port fault.port e

      taken : List Change
      taken = Alter (k ∷ (q ++ root)) (SetTaker (Some (Server (At (path_of c))))) ∷ []

      by : (b : Bool) (kind : ℕ) →
          IsTouched (ByOthers (FaultTaken (k ∷ q))) (stepped w (cond b (Goes taken (Answered OK (at_port ∷ kind ∷ fault.page ∷ flag_of fault.write ∷ [])))
          (Goes (taken ++ Alter (path_of c) (End OK (at_port ∷ kind ∷ fault.page ∷ flag_of fault.write ∷ [])) ∷ []) Nothing))).world
      by true kind = fault_here w
          nester slot plain k q t at (at_port ∷ c.space) beside.1 (Server (At (path_of c))) [] tt tt (λ inside. out) fault is beside.0 raised unheld
      by false kind = fault_here w nester slot plain k q t at (at_port ∷ c.space) beside.1 (Server (At (path_of c))) (Alter (path_of c)
          (End OK (at_port ∷ kind ∷ fault.page ∷ flag_of fault.write ∷ [])) ∷ []) (out, tt) (tt, tt) (λ inside. out) fault is beside.0 raised unheld

  same_strip : (a b : Path) → Some a ≡ Some b → a ≡ b
  same_strip a b h = cc

  -- whom it takes is seen as a touch of the thread at z
  takes_touched : (y z : Path) (found : Candidate) → strip root y ≡ Some z → IsFound w c.space set y (Some found) → (m : Onward) →
      option_map (λ (touch : Touch). ByOthers touch) (taken_as z (Some found)) ≡ Some m → IsTouched m (stepped w (takes_candidate c y (Some found))).world
  takes_touched y z (Resuming at_port talk) e is m h = cc
  takes_touched y z (Connecting at_port) e is m h =
      let form : m ≡ ByOthers (Taken z) = cc in
      let under = thread_beneath w nester slot plain y is.0 (ap is_some e) is.2 in
      let here : z ≡ under.0 ∷ under.1 = same_strip z (under.0 ∷ under.1) (sym e ∙ ap (strip root) under.2 ∙ strip-append root (under.0 ∷ under.1)) in
      rw (form, here) (goes under.0 under.1 y under.2 is.2 is.3 is.4)
    where
      goes : (k : ℕ) (q : Path) (y : Path) → y ≡ k ∷ (q ++ root) → and_then thread_of (w.body y) ≡ Some is.0 → is_free w (parent y) is.0 ≡ true →
          connecting_to w y is.0 ≡ Some is.1 → IsTouched (ByOthers (Taken (k ∷ q))) (stepped w (takes_candidate c y (Some (Connecting at_port)))).world
      goes k q y e = rw e (λ at free to. connect_touched k q is.0 at_port is.1 at free to is.5)
  takes_touched y z (Faulting at_port fault) e is m h = by (is_none fault.taker) refl h
    where
      goes : (k : ℕ) (q : Path) (y : Path) → is_none fault.taker ≡ true → y ≡ k ∷ (q ++ root) → and_then thread_of (w.body y) ≡ Some is.0 →
          is_unheld w (parent y) ≡ true → IsTouched (ByOthers (FaultTaken (k ∷ q))) (stepped w (takes_candidate c y (Some (Faulting at_port fault)))).world
      goes k q y raised e = rw e (λ at unheld. fault_touched k q is.0 at_port fault at unheld is.3 raised is.4)

      by : (b : Bool) → is_none fault.taker ≡ b → option_map (λ (touch : Touch). ByOthers touch) (cond b (Some (FaultTaken z)) None) ≡ Some m →
          IsTouched m (stepped w (takes_candidate c y (Some (Faulting at_port fault)))).world
      by false raised h = cc
      by true raised h =
          let form : m ≡ ByOthers (FaultTaken z) = cc in
          let under = thread_beneath w nester slot plain y is.0 (ap is_some e) is.1 in
          let here : z ≡ under.0 ∷ under.1 = same_strip z (under.0 ∷ under.1) (sym e ∙ ap (strip root) under.2 ∙ strip-append root (under.0 ∷ under.1)) in
          rw (form, here) (goes under.0 under.1 y raised under.2 is.1 is.2)

  pub touched : (me y : Path) (o : Outcome) → View w c set y o → (m : Onward) → GoesAllowed w me o → option_map (λ (touch : Touch). ByOthers touch)
      (on_inner root (λ x q. taken_as q (candidate w c.space set x)) (Some y)) ≡ Some m → IsTouched m (stepped w o).world
  touched me y o (inl e) m ready h = absurd (rw e at ready)
  touched me y o (inr v) m ready h = rw (v.2) (by (strip root y) refl (rw (v.1) at h))
    where
      is : IsFound w c.space set y (Some v.0)
      is = rw (v.1) at (candidate-found w c.space set y)

      by : (r : Option Path) → strip root y ≡ r → option_map (λ (touch : Touch). ByOthers touch) (and_then (λ (q : Path). taken_as q (Some v.0)) r) ≡ Some m →
          IsTouched m (stepped w (takes_candidate c y (Some v.0))).world
      by None e h = cc
      by (Some z) e h = takes_touched y z v.0 e is m h

wait_outside : (w : World) (nester : Path) (slot : ℕ) → IsPlain w nester slot → IsWhole w →
    (x : Path) (pick : Option Path) (set : ℕ) → is_within (slot ∷ nester) x ≡ false → IsAtStage w x (Wait set) → KeepsCut w nester slot (moves x pick)
unfolding step
wait_outside w nester slot plain sound x None set out at again same = outside_law w nester slot plain (moves x None)
    out (quiet_outside (stage_outcome w nester slot plain x None (Wait set) at)) (rw (stage_called w nester slot plain x (Wait set) at) refl) again same
  where
    quiet_outside : (t : Thread) × (outcome w x None asks.Run ≡ when (is_free w (parent x) t) (call_row w (user_at x) None (Wait set))) →
        Quiet (slot ∷ nester) (outcome w x None asks.Run)
    quiet_outside is =
        rw (is.1) (quiet-when (slot ∷ nester) (is_free w (parent x) is.0) (call_row w (user_at x) None (Wait set)) (quiet-idle (slot ∷ nester) w x set))
wait_outside w nester slot plain sound x (Some y) set out at again same = by
  where
    o : Outcome
    o = outcome w x (Some y) asks.Run

    view : View w (user_at x) set y o
    view = let is = stage_outcome w nester slot plain x (Some y) (Wait set) at in
        rw (is.1) (view-when w (user_at x) set y (is_free w (parent x) is.0) (call_row w (user_at x) (Some y) (Wait set)) (view-call w (user_at x) set y))

    beside : is_within (slot ∷ nester) (slot_of x ∷ parent x) ≡ false
    beside = rw (stands_in_slot w sound x at.0 at.3) out

    by : is_fit w x asks.Run ≡ true →
        GoesAllowed w x o → (seen : Seen) → IsSeen w nester slot (moves x (Some y)) seen → HasDone w nester slot (moves x (Some y)) seen
    by fit ready (Onwards m) shown =
        let far = seen_outside w (slot ∷ nester) x (Some y) o (strip (slot ∷ nester) x) m (strip_none (slot ∷ nester) x out) shown.1 in
        let row = taken_row w (slot ∷ nester) (moves x (Some y)) o None _ (Wait set) m refl (stage_called w nester slot plain x (Wait set) at) far in
        touched w nester slot plain sound (user_at x) set beside x y o view m ready row
    by fit ready Unseen shown = stepped-plain w nester slot plain o (quiet-view (slot ∷ nester) w (user_at x) set y o (λ inside. beside) view) shown.1.0
    by fit ready Other shown = tt

pub wait_outside_keeps : StageOutsideKeepsCut IsWait
wait_outside_keeps w nester slot x pick stage such out at sound plain = wait_outside w nester slot plain sound x pick such.0 out (rw (such.1) at at) sound plain
