-- The law of the cut for a native server that accepts a thread.
use Rattle.std.proofs.Common.{◌≡◌, ◌⊎◌, inl, inr, ℕ, Bool, true, false, cond, ◌&&◌, List, [], ◌∷◌, ◌++◌, Option, Some, None, is_some, is_none, option_map, refl}
use Rattle.std.proofs.Common.{sym, ap, ◌∙◌}
use Rattle.std.proofs.lemmas.Bool.{and_parts}
use Rattle.fk_model.specs.declared.moves.Ask.TheVariants as asks
use Rattle.fk_model.specs.declared.thread.Turn.{Turn}
use Rattle.fk_model.specs.declared.thread.Turn.TheVariants as turns
use Rattle.fk_model.specs.Places.{Path, strip, is_within, parent, Ptr, leads_to}
use Rattle.fk_model.specs.Places.Ptr.{At, Out}
use Rattle.fk_model.specs.Objects.{Talk, Thread, Body, port_of, thread_of, and_then, holds, is_served}
use Rattle.fk_model.specs.Objects.Peer.{Service}
use Rattle.fk_model.specs.World.{World, Change, apply_all}
use Rattle.fk_model.specs.World.Change.{Alter}
use Rattle.fk_model.specs.World.Edit.{Finish, SetTalk, SetPeer}
use Rattle.fk_model.specs.Searches.{client_at}
use Rattle.fk_model.specs.Holds.{is_free, is_unheld}
use Rattle.fk_model.specs.Outcomes.{Outcome, when}
use Rattle.fk_model.specs.Outcomes.Outcome.{Waits, Goes}
use Rattle.fk_model.specs.Outcomes.Said.{Taken as SaidTaken}
use Rattle.fk_model.specs.LinkRows.{connecting_to, new_talk}
use Rattle.fk_model.specs.NativeRows.{is_serving_port, connects_here, parked_here, takes_up, accepts_thread, accepts_found, takes_client, accept_row}
use Rattle.fk_model.specs.Moves.{outcome, GoesAllowed, stepped, step}
use Rattle.fk_model.specs.Cut.{ports_of, cut_ptr, cut, IsPlain}
use Rattle.fk_model.specs.Further.{Touch, Onward, Told, IsOnward}
use Rattle.fk_model.specs.Further.Touch.{Taken}
use Rattle.fk_model.specs.Further.Onward.{ByOthers}
use Rattle.fk_model.specs.Seen.{on_inner, accepted, outcome_said, row_of}
use Rattle.fk_model.specs.Seen.Seen.{Onwards, Unseen, Other}
use Rattle.fk_model.specs.Runs.{Event}
use Rattle.laws_subtrees.specs.Cut.Likeness.{PtrLikeness}
use Rattle.laws_subtrees.specs.Cut.Likeness.PtrLikeness.{Nulls, Deads, Inside, PortAt, PortOut}
use Rattle.laws_subtrees.specs.Cut.CutLaws.{KeepsCut, AcceptKeepsCut}
use Rattle.fk_model.proofs.walks.PlaceLaws.{strip-append, strip_some, leads_to_at}
use Rattle.laws_subtrees.proofs.InCut.likeness.Holds.{strip_none}
use Rattle.laws_subtrees.proofs.InCut.cut.Inside.{Quiet, quiet-waits, thread_beneath}
use Rattle.laws_subtrees.proofs.InCut.cut.Outside.{stepped-plain}
use Rattle.laws_subtrees.proofs.InCut.waits.Taken.{taken_here}

abbrev takes_talk : Path → Path → List Change
takes_talk port x = Alter x (SetTalk (Some (new_talk (At port) Service))) ∷ Alter x (Finish []) ∷ []

-- ---- the row

module _ (w : World) (port : Path) (pick : Option Path) where
  -- it waits; or takes a talk up; or the picked thread is free and at its Connect to the port
  abbrev View : Outcome → Type 0
  View o = (o ≡ Waits) ⊎ (((x : Path) × (turn : Turn) × (moved : ℕ) × (o ≡ Goes (Alter x (SetPeer Service) ∷ []) (SaidTaken (At port) x true turn moved))) ⊎
      ((x : Path) × (t : Thread) × (pick ≡ Some x) × (and_then thread_of (w.body x) ≡ Some t) × (is_free w (parent x) t ≡ true) ×
      (connecting_to w x t ≡ Some (At port)) × (o ≡ Goes (takes_talk port x) (SaidTaken (At port) x false turns.Client 0))))

  view-up : (x : Path) (o : Option Talk) → View (takes_up port x o)
  view-up x None = inl refl
  view-up x (Some talk) = inr (inl (x, talk.turn, talk.moved, refl))

  connected : (o : Option Ptr) → holds (leads_to port) o ≡ true → o ≡ Some (At port)
  connected (Some p) h = ap Some (leads_to_at port p h)
  connected None h = cc

  view-thread : (x : Path) (t : Thread) →
      pick ≡ Some x → and_then thread_of (w.body x) ≡ Some t → is_free w (parent x) t ≡ true → (b : Bool) → connects_here w port x t ≡ b →
      View (cond b (Goes (takes_talk port x) (SaidTaken (At port) x false turns.Client 0)) (takes_up port x (parked_here port t)))
  view-thread x t is at free true e = inr (inr (x, t, is, at, free, connected (connecting_to w x t) e, refl))
  view-thread x t is at free false e = view-up x (parked_here port t)

  view-free : (x : Path) (t : Thread) →
      pick ≡ Some x → and_then thread_of (w.body x) ≡ Some t → (b : Bool) → is_free w (parent x) t ≡ b → View (when b (accepts_thread w port x t))
  view-free x t is at true e = view-thread x t is at e (connects_here w port x t) refl
  view-free x t is at false e = inl refl

  view-found : (x : Path) → pick ≡ Some x → (o : Option Thread) → and_then thread_of (w.body x) ≡ o → View (accepts_found w port x o)
  view-found x is None e = inl refl
  view-found x is (Some t) e = view-free x t is e (is_free w (parent x) t) refl

  view-accepts : (p : Option Path) → pick ≡ p → View (takes_client w port p)
  view-accepts None e = inl refl
  view-accepts (Some x) e = view-found x e (and_then thread_of (w.body x)) refl

  view-when : (b : Bool) (o : Outcome) → View o → View (when b o)
  view-when true o h = h
  view-when false o h = inl refl

  view : View (accept_row w port pick)
  unfolding accept_row
  view = view-when (is_serving_port w port && is_none (client_at w port)) (takes_client w port pick) (view-accepts pick refl)

  quiet-view : (root : Path) (o : Outcome) → View o → Quiet root o
  quiet-view root o (inl e) = rw e quiet-waits
  quiet-view root o (inr (inl v)) = rw v.3 (record { quiet = ((λ out. refl), tt); mute = λ v y. refl })
  quiet-view root o (inr (inr v)) = rw v.6 (record { quiet = ((λ out. refl), (tt, tt)); mute = λ v y. refl })

module _ (w : World) (nester : Path) (slot : ℕ) (plain : IsPlain w nester slot) (port : Path) (pick : Option Path) where
  abbrev root : Path
  root = slot ∷ nester

  abbrev see : Ptr → Ptr
  see = cut_ptr (ports_of w nester slot) nester slot

  abbrev small : World
  small = cut w nester slot

  abbrev IsTouched : Onward → World → Type 0
  IsTouched m later = IsPlain later nester slot × ((told : List Told) × IsOnward small m told (cut later nester slot))

  -- a port outside is seen by its slot
  pub outward : (p seen : Ptr) → PtrLikeness root w p seen → p ≡ At port → is_within root port ≡ false → (i : ℕ) × (seen ≡ Out i)
  outward _ _ Nulls e out = cc
  outward _ _ Deads e out = cc
  outward _ _ (Inside x) e out = let same : x ++ root ≡ port = cc in
      let here : is_within root port ≡ true = rw (sym same) (ap is_some (strip-append root x)) in cc
  outward _ _ (PortAt x i apart kind) e out = (i, refl)
  outward _ _ (PortOut old i) e out = cc

  -- ---- the law

  abbrev asked : Event
  asked = record { mover = port; pick = pick; ask = asks.Accept }

  -- a port inside isn't served
  pub unready : is_within root port ≡ true → (o : Outcome) → is_serving_port w port ≡ true → ⊥
  unready within o serving = by (strip root port) refl within
    where
      unserved : (v : Option Body) → holds is_served v ≡ false → holds (λ (state : Option ℕ × Bool). state.1) (and_then port_of v) ≡ true → ⊥
      unserved (Some b) h e = cc
      unserved None h e = cc

      by : (r : Option Path) → strip root port ≡ r → is_some r ≡ true → ⊥
      by None e h = cc
      by (Some q) e h =
          let at = strip_some root port q e in
          unserved (w.body port) (rw at (plain.unserved q))
          (and_parts (holds (λ (state : Option ℕ × Bool). state.1) (and_then port_of (w.body port))) (is_unheld w (parent port)) serving).0

  serving : GoesAllowed w port (accept_row w port pick) → is_serving_port w port ≡ true
  unfolding accept_row
  serving ready = by (is_serving_port w port) (is_none (client_at w port)) ready
    where
      by : (a b : Bool) → GoesAllowed w port (when (a && b) (takes_client w port pick)) → a ≡ true
      by true b h = refl
      by false b h = absurd h

  outside : GoesAllowed w port (accept_row w port pick) → is_within root port ≡ false
  outside ready = by (is_within root port) refl
    where
      by : (b : Bool) → is_within root port ≡ b → b ≡ false
      by false e = refl
      by true e = absurd (unready e Waits (serving ready))

  seen_so : (o : Outcome) (r : Option Path) (m : Onward) →
      r ≡ None → row_of w root asked o r ≡ Some m → option_map (λ (t : Touch). ByOthers t) (on_inner root (accepted (outcome_said o)) pick) ≡ Some m
  seen_so o r m none = rw none (λ h. h)

  touched : (o : Outcome) → View w port pick o → (m : Onward) → is_within root port ≡ false →
      GoesAllowed w port o → option_map (λ (t : Touch). ByOthers t) (on_inner root (accepted (outcome_said o)) pick) ≡ Some m → IsTouched m (stepped w o).world
  touched o (inl e) m out ready h = absurd (rw e at ready)
  touched o (inr (inl v)) m out ready h = absurd (resumed pick (rw v.3 at h))
    where
      deeper : (r : Option Path) → option_map (λ (t : Touch). ByOthers t) (and_then (λ (q : Path). None) r) ≡ Some m → ⊥
      deeper None h = cc
      deeper (Some q) h = cc

      resumed : (p : Option Path) → option_map (λ (t : Touch). ByOthers t) (on_inner root (accepted (SaidTaken (At port) v.0 true v.1 v.2)) p) ≡ Some m → ⊥
      resumed None h = cc
      resumed (Some x) h = deeper (strip root x) h
  touched o (inr (inr v)) m out ready h = rw v.6 (by (strip root v.0) refl (named pick v.2 (rw v.6 at h)))
    where
      named : (p : Option Path) →
          p ≡ Some v.0 → option_map (λ (t : Touch). ByOthers t) (on_inner root (accepted (SaidTaken (At port) v.0 false turns.Client 0)) p) ≡ Some m →
          option_map (λ (t : Touch). ByOthers t) (and_then (λ (q : Path). Some (Taken q)) (strip root v.0)) ≡ Some m
      named p e = rw e (λ h. h)

      same_strip : (a b : Path) → Some a ≡ Some b → a ≡ b
      same_strip a b h = cc

      goes : (k : ℕ) (q : Path) (x : Path) → x ≡ k ∷ (q ++ root) → and_then thread_of (w.body x) ≡ Some v.1 →
          is_free w (parent x) v.1 ≡ true → connecting_to w x v.1 ≡ Some (At port) → IsTouched (ByOthers (Taken (k ∷ q))) (apply_all (takes_talk port x) w)
      goes k q x is = rw is (λ at free connects. taken_here w nester slot plain k q v.1 at port out Service [] tt tt (λ inside. refl) free connects)

      by : (r : Option Path) → strip root v.0 ≡ r →
          option_map (λ (t : Touch). ByOthers t) (and_then (λ (q : Path). Some (Taken q)) r) ≡ Some m → IsTouched m (apply_all (takes_talk port v.0) w)
      by None e h = cc
      by (Some z) e h =
          let form : m ≡ ByOthers (Taken z) = cc in
          let under = thread_beneath w nester slot plain v.0 v.1 (ap is_some e) v.3 in
          let here : z ≡ under.0 ∷ under.1 = same_strip z (under.0 ∷ under.1) (sym e ∙ ap (strip root) under.2 ∙ strip-append root (under.0 ∷ under.1)) in
          rw (form, here) (goes under.0 under.1 v.0 under.2 v.3 v.4 v.5)

  accept_law : KeepsCut w nester slot asked
  unfolding step outcome
  accept_law sound same fit ready (Onwards m) seen =
      let out = outside ready in
      touched (accept_row w port pick) (view w port pick) m out ready (seen_so (accept_row w port pick) (strip root port) m (strip_none root port out) seen.1)
  accept_law sound same fit ready Unseen seen =
      stepped-plain w nester slot plain (accept_row w port pick) (quiet-view w port pick root (accept_row w port pick) (view w port pick)) seen.1.0
  accept_law sound same fit ready Other seen = tt

pub accept_keeps : AcceptKeepsCut
accept_keeps w nester slot port pick sound plain = accept_law w nester slot plain port pick sound plain
