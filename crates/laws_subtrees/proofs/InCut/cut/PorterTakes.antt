-- The law of the cut for a porter that takes a page: the subtree sees that a page of it is taken.
use Rattle.std.proofs.Common.{◌≡◌, ◌⊎◌, inl, inr, ℕ, Bool, true, false, cond, not, ◌||◌, List, [], ◌∷◌, ◌++◌, Option, Some, None, is_some, is_none, option_map}
use Rattle.std.proofs.Common.{Result, Ok, Err, refl}
use Rattle.fk_model.specs.declared.statuses.status.TheConstants as status
use Rattle.fk_model.specs.declared.moves.Ask.TheVariants as asks
use Rattle.fk_model.specs.declared.stage.Stage.TheVariants.{PageTake}
use Rattle.fk_model.specs.Places.{Path, strip}
use Rattle.fk_model.specs.Objects.{thread_of, and_then}
use Rattle.fk_model.specs.World.{World, apply_all}
use Rattle.fk_model.specs.World.Change.{DropPage}
use Rattle.fk_model.specs.Holds.{is_frozen_for}
use Rattle.fk_model.specs.Outcomes.{Outcome, ◌>>=◌, refuse, or_refuse, when, done, Caller, path_of, listed}
use Rattle.fk_model.specs.Outcomes.Outcome.{Refused, Waits, Goes}
use Rattle.fk_model.specs.Outcomes.Said.{Nothing, Answered}
use Rattle.fk_model.specs.Readers.{space_argument}
use Rattle.fk_model.specs.SpaceRows.{is_page, is_bad_target, page_take}
use Rattle.fk_model.specs.Moves.{with_pick, closed, call_row, porter_at, outcome, stepped, step}
use Rattle.fk_model.specs.Runs.{Event}
use Rattle.fk_model.specs.Cut.{cut, IsPlain}
use Rattle.fk_model.specs.Further.{Touch, Onward, Told, IsOnward, touch_row}
use Rattle.fk_model.specs.Further.Touch.{PageTaken}
use Rattle.fk_model.specs.Further.Onward.{ByOthers}
use Rattle.fk_model.specs.Seen.{drops_page, on_place, stage_touch, outer_touch, row_of}
use Rattle.fk_model.specs.Seen.Seen.{Onwards, Unseen, Other}
use Rattle.fk_model.proofs.walks.PlaceLaws.{strip_some}
use Rattle.laws_subtrees.specs.Cut.CutLaws.{KeepsCut, CallKeepsCut, IsPageTake}
use Rattle.laws_subtrees.specs.Cut.LikeChanges.LikeChange.{DropsPage}
use Rattle.laws_subtrees.specs.Cut.LikeChanges.LikeChanges.{Empty, Both}
use Rattle.laws_subtrees.proofs.InCut.likeness.Holds.{strip_none}
use Rattle.laws_subtrees.proofs.InCut.cut.Inside.{Quiet, quiet->>=, quiet-done}
use Rattle.laws_subtrees.proofs.InCut.cut.Outside.{stepped-plain}
use Rattle.laws_subtrees.proofs.InCut.cut.Calls.{porter_outside, porter_is, quiet-porter}
use Rattle.laws_subtrees.proofs.InCut.cut.Pages.{has_touched}

-- no page is dropped; or one is, which was there
module _ (w : World) (x : Path) (words : List ℕ) (s page address : ℕ) where
  abbrev c : Caller
  c = porter_at x words

  abbrev from : Result Path ℕ
  from = space_argument w c s

  abbrev View : Outcome → Type 0
  View o = (drops_page (listed o) ≡ false) ⊎ ((space : Path) × (found : List ℕ) × (from ≡ Ok space) × (is_some (w.page space page) ≡ true) ×
      (o ≡ Goes (DropPage space page ∷ []) (Answered status.OK found)))

  view->>= : {A : Type 0} (r : Result A ℕ) (go : A → Outcome) → ((a : A) → r ≡ Ok a → View (go a)) → View (r >>= go)
  view->>= (Ok a) go h = h a refl
  view->>= (Err status) go h = inl refl

  view-when : (b : Bool) (o : Outcome) → View o → View (when b o)
  view-when true o h = h
  view-when false o h = inl refl

  view-with_pick : (pick : Option Path) (o : Outcome) → View o → View (with_pick false pick o)
  view-with_pick pick (Refused status) h = view-when (is_none pick) (Refused status) h
  view-with_pick pick Waits h = h
  view-with_pick pick (Goes cs said) h = view-when (is_none pick) (Goes cs said) h

  view-closed : (o : Outcome) → View o → View (closed c o)
  view-closed (Refused status) h = inl refl
  view-closed Waits h = h
  view-closed (Goes cs said) h = h

  view-home : (space : Path) → from ≡ Ok space → (o : Option (List ℕ)) → w.page space page ≡ o →
      View (or_refuse status.NONE o >>= (λ found. done c (DropPage space page ∷ []) found))
  view-home space at None e = inl refl
  view-home space at (Some found) e = inr (space, found, at, rw e refl, refl)

  view-row : View (page_take w c s page address)
  unfolding page_take
  view-row = view->>= from _ (λ space at. view->>= (refuse status.HELD (is_frozen_for w (path_of c) space)) _ (λ free e. view->>=
      (refuse status.BADADDRESS (not (is_page page) || is_bad_target c address)) _ (λ good f. view-home space at (w.page space page) refl)))

  view-call : (pick : Option Path) → View (call_row w c pick (PageTake s page address))
  unfolding call_row
  view-call pick = view-closed _ (view-with_pick pick (page_take w c s page address) view-row)

  quiet-take : (root : Path) → Quiet root (page_take w c s page address)
  unfolding page_take
  quiet-take root = quiet->>= root from _ (λ space. quiet->>= root (refuse status.HELD (is_frozen_for w (path_of c) space)) _ (λ free. quiet->>= root
      (refuse status.BADADDRESS (not (is_page page) || is_bad_target c address)) _ (λ good. quiet->>= root (or_refuse status.NONE (w.page space page)) _
      (λ found. quiet-done root c (DropPage space page ∷ []) found (tt, tt)))))

module _ (w : World) (nester : Path) (slot : ℕ) (plain : IsPlain w nester slot) (x : Path) (pick : Option Path) (words : List ℕ) (s page address : ℕ) where
  abbrev root : Path
  root = slot ∷ nester

  abbrev asked : Event
  asked = record { mover = x; pick = pick; ask = asks.Call (PageTake s page address) words }

  abbrev DoneBy : Onward → World → Type 0
  DoneBy m later = IsPlain later nester slot × ((told : List Told) × IsOnward (cut w nester slot) m told (cut later nester slot))

  page_gone : (q : Path) → is_some (w.page (q ++ root) page) ≡ true → touch_row (cut w nester slot) (PageTaken q page) ≡ Goes (DropPage q page ∷ []) Nothing
  unfolding touch_row cut
  page_gone q h = rw h refl

  taken : (space : Path) (m : Onward) → is_some (w.page space page) ≡ true → (r : Option Path) → strip root space ≡ r →
      option_map (λ (t : Touch). ByOthers t) (and_then (λ (q : Path). Some (PageTaken q page)) r) ≡ Some m → DoneBy m (apply_all (DropPage space page ∷ []) w)
  taken space m there None e h = cc
  taken space m there (Some q) e h =
      let here = strip_some root space q e in
      let form : m ≡ ByOthers (PageTaken q page) = cc in
      rw (form, here) (has_touched w nester slot plain (PageTaken q page) (DropPage q page ∷ []) (DropPage (q ++ root) page ∷ []) Nothing
      (page_gone q (rw here at there)) (Both (DropsPage q page) Empty) (tt, tt))

  touched_by : (o : Outcome) → View w x words s page address o → (m : Onward) →
      option_map (λ (t : Touch). ByOthers t) (stage_touch w root (porter_at x words) pick (listed o) (PageTake s page address)) ≡ Some m →
      DoneBy m (stepped w o).world
  touched_by o (inl none) m = λ h. absurd (by (drops_page (listed o)) none h)
    where
      by : (b : Bool) → b ≡ false → option_map (λ (t : Touch). ByOthers t)
          (cond b (on_place root (λ (q : Path). Some (PageTaken q page)) (space_argument w (porter_at x words) s)) None) ≡ Some m → ⊥
      by true e h = cc
      by false e h = cc
  touched_by o (inr v) m = λ h.
      rw v.4 (taken v.0 m v.3 (strip root v.0) refl (by (space_argument w (porter_at x words) s) v.2 (rw v.4 at h)))
    where
      by : (r : Result Path ℕ) → r ≡ Ok v.0 → option_map (λ (t : Touch). ByOthers t) (on_place root (λ (q : Path). Some (PageTaken q page)) r) ≡ Some m →
          option_map (λ (t : Touch). ByOthers t) (and_then (λ (q : Path). Some (PageTaken q page)) (strip root v.0)) ≡ Some m
      by r e = rw e (λ h. h)

  seen_so : (o : Outcome) (r : Option Path) (m : Onward) → r ≡ None → row_of w root asked o r ≡ Some m →
      option_map (λ (touch : Touch). ByOthers touch) (outer_touch w root x pick (asks.Call (PageTake s page address) words) o) ≡ Some m
  seen_so o r m none = rw none (λ h. h)

  porter_takes : KeepsCut w nester slot asked
  unfolding step outcome
  porter_takes again same fit ready (Onwards m) seen =
      let is = porter_is w x pick (PageTake s page address) words (and_then thread_of (w.body x)) ready in
      let o : Outcome = outcome w x pick (asks.Call (PageTake s page address) words) in
      let view : View w x words s page address o = rw (is.3) (view-call w x words s page address pick) in
      touched_by o view m (seen_so o (strip root x) m (strip_none root x (porter_outside w nester slot plain x is.0 is.1 is.2)) seen.1)
  porter_takes again same fit ready Unseen seen =
      let is = porter_is w x pick (PageTake s page address) words (and_then thread_of (w.body x)) ready in
      stepped-plain w nester slot plain (outcome w x pick (asks.Call (PageTake s page address) words))
      (rw (is.3) (quiet-porter root w x words pick (PageTake s page address) (quiet-take w x words s page address root))) seen.1.0
  porter_takes again same fit ready Other seen = tt

pub page_take_call : CallKeepsCut IsPageTake
page_take_call w nester slot x pick stage words such sound plain =
    rw such.3 (porter_takes w nester slot plain x pick words such.0 such.1 such.2 sound plain)
