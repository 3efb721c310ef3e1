-- A subtree sees that its thread is taken at its Connect, or that its fault is taken, by whomever outside that is.
use Rattle.std.proofs.Common.{◌≡◌, ℕ, Bool, true, false, not, List, [], ◌∷◌, ◌++◌, Option, Some, None, IfSome, is_some, is_none, option_map, refl, sym, ap, ◌∙◌}
use Rattle.fk_model.specs.Places.{Path, is_within, Ptr}
use Rattle.fk_model.specs.Places.Ptr.{At, Out, Outside}
use Rattle.fk_model.specs.Objects.{Peer, Fault, Thread, thread_of, and_then}
use Rattle.fk_model.specs.Objects.Peer.{Server}
use Rattle.fk_model.specs.World.{World, Change, apply, apply_all}
use Rattle.fk_model.specs.World.Change.{Alter}
use Rattle.fk_model.specs.World.Edit.{Finish, SetTalk, SetTaker}
use Rattle.fk_model.specs.Holds.{is_frozen, is_free, is_unheld}
use Rattle.fk_model.specs.Outcomes.Outcome.{Goes}
use Rattle.fk_model.specs.Outcomes.Said.{Nothing}
use Rattle.fk_model.specs.LinkRows.{connecting_to, new_talk}
use Rattle.fk_model.specs.Cut.{is_out, is_inner_peer, ports_of, cut_ptr, cut, IsPlain}
use Rattle.fk_model.specs.Further.{Onward, Told, touch_row, IsOnward}
use Rattle.fk_model.specs.Further.Touch.{Taken, FaultTaken}
use Rattle.fk_model.specs.Further.Onward.{ByOthers}
use Rattle.fk_model.proofs.walks.PlaceLaws.{strip-append}
use Rattle.laws_subtrees.specs.Cut.Likeness.{seen_peer, seen_thread, PtrLikeness, HasLikeness, AlikeOptions, IsSeenAs, IsSeenThread, AllInTalk, AllInFault}
use Rattle.laws_subtrees.specs.Cut.Likeness.PtrLikeness.{Nulls, Deads, Inside, PortAt, PortOut}
use Rattle.laws_subtrees.specs.Cut.LikeChanges.{seen_edit, LikeChanges, IsOutside, HasFaultSeen}
use Rattle.laws_subtrees.specs.Cut.LikeChanges.LikeChange.{Alters, AltersOut}
use Rattle.laws_subtrees.specs.Cut.LikeChanges.LikeChanges.{Empty, Both, Beyond}
use Rattle.laws_subtrees.proofs.InCut.likeness.Instances.{cut-like}
use Rattle.laws_subtrees.proofs.InCut.likeness.Holds.{is_free-like, is_unheld-like, root_unfrozen, unheld-free}
use Rattle.laws_subtrees.proofs.InCut.likeness.Talks.{thread_there-like}
use Rattle.laws_subtrees.proofs.InCut.likeness.Waits.{connecting_to-like}
use Rattle.laws_subtrees.proofs.InCut.cut.Plain.{AreQuiet}
use Rattle.laws_subtrees.proofs.InCut.cut.Inside.{thread_seen}
use Rattle.laws_subtrees.proofs.InCut.cut.Pages.{has_touched}
use Rattle.fk_model.specs.Searches.{thread_at}

-- changes outside, of which nothing is seen
abbrev pub AreBeyond : Path → List Change → Type 0
AreBeyond root [] = Unit {0}
AreBeyond root (d ∷ ds) = IsOutside root d × AreBeyond root ds

pub beyond : {root : Path} {see : Ptr → Ptr} (ds : List Change) (big : World) → AreBeyond root ds → LikeChanges root see big [] ds
beyond [] big h = Empty
beyond (d ∷ ds) big h = Beyond h.0 (beyond ds (apply d big) h.1)

-- a port outside is seen by its slot
outward : (root : Path) (w : World) (port : Path) (p seen : Ptr) →
    PtrLikeness root w p seen → p ≡ At port → is_within root port ≡ false → (i : ℕ) × (seen ≡ Out i)
outward root w port _ _ Nulls e out = cc
outward root w port _ _ Deads e out = cc
outward root w port _ _ (Inside x) e out = let same : x ++ root ≡ port = cc in
    let here : is_within root port ≡ true = rw (sym same) (ap is_some (strip-append root x)) in cc
outward root w port _ _ (PortAt x i apart kind) e out = (i, refl)
outward root w port _ _ (PortOut old i) e out = cc

module _ (w : World) (nester : Path) (slot : ℕ) (plain : IsPlain w nester slot) (k : ℕ) (q : Path)
    (t : Thread) (at : and_then thread_of (w.body (k ∷ (q ++ slot ∷ nester))) ≡ Some t) (port : Path) (out : is_within (slot ∷ nester) port ≡ false) where
  abbrev root : Path
  root = slot ∷ nester

  abbrev see : Ptr → Ptr
  see = cut_ptr (ports_of w nester slot) nester slot

  abbrev small : World
  small = cut w nester slot

  abbrev x : Path
  x = k ∷ (q ++ root)

  abbrev pub IsTouched : Onward → World → Type 0
  IsTouched m later = IsPlain later nester slot × ((told : List Told) × IsOnward small m told (cut later nester slot))

  seen_there : thread_at small (k ∷ q) ≡ Some (seen_thread see t)
  seen_there = rw ((cut-like w nester slot plain).bodies (k ∷ q)) (thread_seen see k q (w.body x) t at)

  -- ---- at its Connect

  named : (near far : Option Ptr) →
      AlikeOptions (IsSeenAs root see w) near far → far ≡ Some (At port) → (near ≡ Some (see (At port))) × HasLikeness root see w (At port)
  named (Some seen) (Some p) h e = let is : p ≡ At port = cc in (ap Some (h.0 ∙ ap see is), rw is at h.1)
  named None None h e = cc
  named (Some seen) None h e = absurd h
  named None (Some p) h e = absurd h

  talk_seen : (peer : Peer) (i : ℕ) →
      see (At port) ≡ Out i → SetTalk (Some (new_talk (Out i) (Server Outside))) ≡ seen_edit see false (SetTalk (Some (new_talk (At port) peer)))
  talk_seen peer i e = rw e refl

  talk_good : (peer : Peer) (i : ℕ) →
      see (At port) ≡ Out i → HasLikeness root see w (At port) → AllInTalk see (HasLikeness root see w) (new_talk (At port) peer)
  talk_good peer i e h = (h, rw e tt)

  taken_row : (i : ℕ) → is_free small q (seen_thread see t) ≡ true → connecting_to small (k ∷ q) (seen_thread see t) ≡ Some (Out i) →
      touch_row small (Taken (k ∷ q)) ≡ Goes (Alter (k ∷ q) (SetTalk (Some (new_talk (Out i) (Server Outside)))) ∷ Alter (k ∷ q) (Finish []) ∷ []) Nothing
  unfolding touch_row
  taken_row i free to = rw (seen_there) (rw free (rw to refl))

  -- a free thread, which somebody outside accepts at a port outside
  pub taken_here : (peer : Peer) (later : List Change) → AreBeyond root later → AreQuiet root later →
      (is_within root x ≡ false → is_inner_peer root peer ≡ false) → is_free w (q ++ root) t ≡ true → connecting_to w x t ≡ Some (At port) →
      IsTouched (ByOthers (Taken (k ∷ q))) (apply_all (Alter x (SetTalk (Some (new_talk (At port) peer))) ∷ Alter x (Finish []) ∷ later) w)
  taken_here peer later apart quiet outer free connects =
      let like = cut-like w nester slot plain in
      let loose = unheld-free like q t free in
      let name = named (connecting_to small (k ∷ q) (seen_thread see t)) (connecting_to w x t) (connecting_to-like like k q t) connects in
      let i = outward root w port (At port) (see (At port)) name.1 refl out in
      has_touched w nester slot plain (Taken (k ∷ q)) (Alter (k ∷ q) (SetTalk (Some (new_talk (Out i.0) (Server Outside)))) ∷ Alter (k ∷ q) (Finish []) ∷ [])
      (Alter x (SetTalk (Some (new_talk (At port) peer))) ∷ Alter x (Finish []) ∷ later) Nothing
      (taken_row i.0 (is_free-like like loose q t ∙ free) (name.0 ∙ ap Some i.1))
      (Both (Alters k q (SetTalk (Some (new_talk (Out i.0) (Server Outside)))) (SetTalk (Some (new_talk (At port) peer)))
      (talk_seen peer i.0 i.1) (talk_good peer i.0 i.1 name.1)) (Both (Alters k q _ (Finish []) refl tt) (beyond later _ apart)))
      (outer, (tt, quiet))

  -- ---- with a fault

  fault_plain : (fault : Fault) →
      t.fault ≡ Some fault → (near far : Option Thread) → AlikeOptions (IsSeenThread root see w) near far → far ≡ Some t → HasLikeness root see w fault.port
  fault_plain fault is None None h e = cc
  fault_plain fault is (Some seen) (Some u) h e = let same : u ≡ t = cc in
      let good : IfSome t.fault (AllInFault see (HasLikeness root see w)) = rw same at h.1.1 in (rw is at good).0
  fault_plain fault is None (Some u) h e = absurd h
  fault_plain fault is (Some seen) None h e = absurd h

  fault_out : (fault : Fault) (i : ℕ) → t.fault ≡ Some fault → see fault.port ≡ Out i → HasFaultSeen see w true x
  fault_out fault i is e = (fault, ap (and_then (λ (t : Thread). t.fault)) at ∙ is, ap is_out e)

  raised_seen : (f : Peer → Peer) (o : Option Peer) → is_none o ≡ true → is_none (option_map f o) ≡ true
  raised_seen f None h = refl
  raised_seen f (Some taker) h = cc

  fault_row : (fault : Fault) (i : ℕ) → t.fault ≡ Some fault → see fault.port ≡ Out i → is_none fault.taker ≡ true →
      is_unheld small q ≡ true → touch_row small (FaultTaken (k ∷ q)) ≡ Goes (Alter (k ∷ q) (SetTaker (Some (Server Outside))) ∷ []) Nothing
  unfolding touch_row
  fault_row fault i is e raised unheld = rw (seen_there) (rw (unheld, is, e) (rw (raised_seen (seen_peer see true) fault.taker raised) refl))

  -- a thread that isn't held, whose fault at a port outside somebody outside takes
  pub fault_here : (peer : Peer) (later : List Change) →
      AreBeyond root later → AreQuiet root later → (is_within root x ≡ false → is_inner_peer root peer ≡ false) →
      (fault : Fault) → t.fault ≡ Some fault → fault.port ≡ At port → is_none fault.taker ≡ true → is_unheld w (q ++ root) ≡ true →
      IsTouched (ByOthers (FaultTaken (k ∷ q))) (apply_all (Alter x (SetTaker (Some peer)) ∷ later) w)
  fault_here peer later apart quiet outer fault is to raised unheld =
      let like = cut-like w nester slot plain in
      let loose = root_loose (is_frozen w (q ++ root)) refl unheld in
      let good = fault_plain fault is (and_then thread_of (small.body (k ∷ q))) (and_then thread_of (w.body x)) (thread_there-like like (k ∷ q)) at in
      let i = outward root w port fault.port (see fault.port) good to out in
      has_touched w
      nester slot plain (FaultTaken (k ∷ q)) (Alter (k ∷ q) (SetTaker (Some (Server Outside))) ∷ []) (Alter x (SetTaker (Some peer)) ∷ later) Nothing
      (fault_row fault i.0 is i.1 raised (is_unheld-like like loose q ∙ unheld))
      (Both (AltersOut k q (SetTaker (Some (Server Outside))) (SetTaker (Some peer)) refl (fault_out fault i.0 is i.1, tt)) (beyond later _ apart))
      (outer, quiet)
    where
      root_loose : (b : Bool) → is_frozen w (q ++ root) ≡ b → not b ≡ true → is_frozen w root ≡ false
      root_loose false e h = root_unfrozen w root q e
      root_loose true e h = cc
