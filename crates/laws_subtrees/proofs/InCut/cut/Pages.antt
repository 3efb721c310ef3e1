-- The law of the cut for a page that is taken: by a thread inside, or by one outside, which the subtree sees.
use Rattle.std.proofs.Common.{◌≡◌, ◌⊎◌, inl, inr, ℕ, Bool, true, false, cond, not, ◌&&◌, ◌||◌, List, [], ◌∷◌, ◌++◌, Option, Some, None, is_some, is_none}
use Rattle.std.proofs.Common.{option_map, Result, Ok, Err, refl}
use Rattle.fk_model.specs.declared.moves.Ask.TheVariants as asks
use Rattle.fk_model.specs.declared.statuses.status.TheConstants as status
use Rattle.fk_model.specs.declared.statuses.status.TheConstants.{DENIED}
use Rattle.fk_model.specs.declared.stage.Stage.{Stage}
use Rattle.fk_model.specs.declared.stage.Stage.TheVariants.{PageTake}
use Rattle.fk_model.specs.declared.names.Kind.TheVariants as kinds
use Rattle.fk_model.specs.Places.{Path, strip, is_within, parent, slot_of}
use Rattle.fk_model.specs.Objects.{Thread, Body, kind_of, thread_of, and_then, holds}
use Rattle.fk_model.specs.Objects.Body.{Mutex, Cond, Mapping, Region, Port, Portset, Space, Thread_of, Reference}
use Rattle.fk_model.specs.World.{World, Change, apply_all}
use Rattle.fk_model.specs.World.Change.{Alter, PutPage, DropPage}
use Rattle.fk_model.specs.World.Edit.{Finish}
use Rattle.fk_model.specs.Reach.{Reach, reach_word}
use Rattle.fk_model.specs.Reach.Reach.{Home, Missing, Bad}
use Rattle.fk_model.specs.Holds.{is_frozen_for, is_free}
use Rattle.fk_model.specs.Outcomes.{Said, Outcome, ◌>>=◌, refuse, or_refuse, when, Caller, path_of, listed}
use Rattle.fk_model.specs.Outcomes.Outcome.{Refused, Waits, Goes}
use Rattle.fk_model.specs.Outcomes.Said.{Nothing}
use Rattle.fk_model.specs.Readers.{space_argument, own_page_at}
use Rattle.fk_model.specs.LinkRows.{user_at}
use Rattle.fk_model.specs.SpaceRows.{is_page, is_bad_target, copies, copies_home, page_take}
use Rattle.fk_model.specs.Moves.{with_pick, closed, call_row, outcome, IsReady, stepped, step}
use Rattle.fk_model.specs.Valid.{kind_there, is_fit}
use Rattle.fk_model.specs.Whole.{IsWhole}
use Rattle.fk_model.specs.Runs.{Event}
use Rattle.fk_model.specs.Cut.{ports_of, cut_ptr, cut, IsPlain}
use Rattle.fk_model.specs.Further.{Touch, Onward, Told, touch_row, onward_row, IsOnward}
use Rattle.fk_model.specs.Further.Touch.{PageTaken}
use Rattle.fk_model.specs.Further.Onward.{ByOthers}
use Rattle.fk_model.specs.Seen.{Seen, drops_page, on_place, is_page_row, stage_touch, writes_inside, sends_out, outer_touch, row_of, seen_row, IsSeen}
use Rattle.fk_model.specs.Seen.Seen.{Onwards, Unseen, Other}
use Rattle.fk_model.proofs.walks.PlaceLaws.{strip_some}
use Rattle.laws_subtrees.specs.Cut.CutLaws.{HasDone, KeepsCut, IsAtStage, moves, StageKeepsCut, IsPageTake}
use Rattle.laws_subtrees.specs.Cut.LikeChanges.{LikeChanges}
use Rattle.laws_subtrees.specs.Cut.LikeChanges.LikeChange.{DropsPage}
use Rattle.laws_subtrees.specs.Cut.LikeChanges.LikeChanges.{Empty, Both, Beyond}
use Rattle.laws_subtrees.specs.Cut.RebindLaws.{StageRebinds}
use Rattle.laws_subtrees.proofs.InCut.likeness.Instances.{cut-like}
use Rattle.laws_subtrees.proofs.InCut.likeness.Holds.{strip_none}
use Rattle.laws_subtrees.proofs.InCut.likeness.ChangeLists.{changes-like, cut-changes}
use Rattle.laws_subtrees.proofs.InCut.cut.Plain.{AreQuiet, changes-clear, clear-plain, like-plain}
use Rattle.laws_subtrees.proofs.InCut.cut.Inside.{Quiet, quiet->>=, quiet-when, quiet-done, quiet-call, stage_inside, inside_stages}
use Rattle.laws_subtrees.proofs.InCut.cut.Outside.{stepped-plain, stage_outcome, stage_called}
use Rattle.laws_subtrees.proofs.InCut.cut.Rows.{quiet-own_page}
use Rattle.laws_subtrees.proofs.InCut.rebinding.Rebound.{own_rebinds}
use Rattle.laws_subtrees.proofs.InCut.likeness.ObjectRows.{page_take-like}

-- ---- what the outside does to a plain subtree

pub has_touched : (w : World) (nester : Path) (slot : ℕ) →
    IsPlain w nester slot → (touch : Touch) (cs ds : List Change) (said : Said) → touch_row (cut w nester slot) touch ≡ Goes cs said →
    LikeChanges (slot ∷ nester) (cut_ptr (ports_of w nester slot) nester slot) w cs ds → AreQuiet (slot ∷ nester) ds →
    IsPlain (apply_all ds w) nester slot × ((told : List Told) × IsOnward (cut w nester slot) (ByOthers touch) told (cut (apply_all ds w) nester slot))
unfolding onward_row
has_touched w nester slot plain touch cs ds said row h quiet =
    let cuts = cut-changes w nester slot cs ds plain h in (
      like-plain (apply_all ds w) (apply_all cs (cut w nester slot))
          (cut_ptr (ports_of w nester slot) nester slot) nester slot (changes-like (cut w nester slot) w cs ds h (cut-like w nester slot plain))
          cuts (changes-clear (slot ∷ nester) w ds quiet (clear-plain w nester slot plain)),
      ([], rw row (tt, refl, cuts)),
    )

-- ---- what the row of a page that is taken comes to

module _ (w : World) (c : Caller) (page : ℕ) (from : Result Path ℕ) where
  -- no page is dropped; or one is, which was there, and its words are put on the caller's page
  abbrev View : Outcome → Type 0
  View o = (drops_page (listed o) ≡ false) ⊎ ((space : Path) × (s : Path) × (own : ℕ) × (words : List ℕ) × (from ≡ Ok space) ×
      (is_some (w.page space page) ≡ true) × (o ≡ Goes (PutPage s own words ∷ DropPage space page ∷ Alter (path_of c) (Finish []) ∷ []) Nothing))

  view->>= : {A : Type 0} (r : Result A ℕ) (go : A → Outcome) → ((a : A) → r ≡ Ok a → View (go a)) → View (r >>= go)
  view->>= (Ok a) go h = h a refl
  view->>= (Err status) go h = inl refl

  view-when : (b : Bool) (o : Outcome) → View o → View (when b o)
  view-when true o h = h
  view-when false o h = inl refl

  view-with_pick : (pick : Option Path) (o : Outcome) → View o → View (with_pick false pick o)
  view-with_pick pick (Refused status) h = view-when (is_none pick) (Refused status) h
  view-with_pick pick Waits h = h
  view-with_pick pick (Goes cs said) h = view-when (is_none pick) (Goes cs said) h

  view-closed : (x : Path) (o : Outcome) → View o → View (closed (user_at x) o)
  view-closed x (Refused status) h = inl refl
  view-closed x Waits h = h
  view-closed x (Goes cs said) h = h

module _ (w : World) (x : Path) (s page address : ℕ) where
  abbrev c : Caller
  c = user_at x

  view-home : (space own_space : Path) (own : ℕ) → space_argument w c s ≡ Ok space → (o : Option (List ℕ)) →
      w.page space page ≡ o → View w c page (space_argument w c s) (or_refuse status.NONE o >>= (λ words. copies c space page true words own_space own))
  view-home space own_space own at None e = inl refl
  view-home space own_space own at (Some words) e = inr (space, own_space, own, words, at, rw e refl, refl)

  view-own : (space : Path) →
      space_argument w c s ≡ Ok space → (r : Reach) → View w c page (space_argument w c s) (own_page_at (path_of c) true (copies_home w c space page true) r)
  view-own space at (Home t own) = view-home space t own at (w.page space page) refl
  view-own space at (Missing t own None) = inl refl
  view-own space at (Missing t own (Some port)) = inl refl
  view-own space at Bad = inl refl

  view-row : View w c page (space_argument w c s) (page_take w c s page address)
  unfolding page_take
  view-row =
      view->>= w c page (space_argument w c s) (space_argument w c s) _ (λ space at. view->>=
      w c page (space_argument w c s) (refuse status.HELD (is_frozen_for w (path_of c) space)) _ (λ free e. view->>= w c page (space_argument w c s)
      (refuse status.BADADDRESS (not (is_page page) || is_bad_target c address)) _ (λ good f. view-own space at (reach_word w (parent x) address true))))

  view-call : (pick : Option Path) → View w c page (space_argument w c s) (call_row w c pick (PageTake s page address))
  unfolding call_row
  view-call pick = view-closed w c page (space_argument w c s) x _ (view-with_pick w c page (space_argument w c s) pick (page_take w c s page address) view-row)

quiet-copies : (root : Path) (w : World) (x : Path) (space : Path) (page : ℕ) (t : Path) (own : ℕ) →
    Quiet root (copies_home w (user_at x) space page true t own)
quiet-copies root w x space page t own = quiet->>= root
    (or_refuse status.NONE (w.page space page)) _ (λ words. quiet-done root (user_at x) (PutPage t own words ∷ DropPage space page ∷ []) [] (tt, (tt, tt)))

quiet-page_take : (root : Path) (w : World) (x : Path) (s page address : ℕ) → Quiet root (page_take w (user_at x) s page address)
unfolding page_take
quiet-page_take root w x s page address =
    quiet->>= root (space_argument w (user_at x) s) _ (λ space. quiet->>= root (refuse status.HELD (is_frozen_for w (path_of (user_at x)) space))
    _ (λ free. quiet->>= root (refuse status.BADADDRESS (not (is_page page) || is_bad_target (user_at x) address))
    _ (λ good. quiet-own_page root w (user_at x) address true (copies_home w (user_at x) space page true) (quiet-copies root w x space page))))

writes_off : (a within b : Bool) (r : Option Onward) (m : Onward) →
    r ≡ Some m → within ≡ false → is_page_row m ≡ false → (a && cond within b (not (holds is_page_row r))) ≡ false → a ≡ false
writes_off false within b r m e out none h = refl
writes_off true within b r m e out none h = let on : (true && cond within b (not (holds is_page_row r))) ≡ true = rw (out, e, none) refl in cc

module _ (w : World) (nester : Path) (slot : ℕ)
    (plain : IsPlain w nester slot) (x : Path) (pick : Option Path) (s page address : ℕ) (out : is_within (slot ∷ nester) (slot_of x ∷ parent x) ≡ false) where
  abbrev root : Path
  root = slot ∷ nester

  -- what is left of a move that is seen as m
  abbrev IsTouched : Onward → World → Type 0
  IsTouched m later = IsPlain later nester slot × ((told : List Told) × IsOnward (cut w nester slot) m told (cut later nester slot))

  page_gone : (q : Path) → is_some (w.page (q ++ root) page) ≡ true → touch_row (cut w nester slot) (PageTaken q page) ≡ Goes (DropPage q page ∷ []) Nothing
  unfolding touch_row cut
  page_gone q h = rw h refl

  taken : (space own_space : Path) (own : ℕ) (words : List ℕ) (m : Onward) →
      is_some (w.page space page) ≡ true → (is_page_row m ≡ false → (is_within root own_space || false) ≡ false) → (r : Option Path) → strip root space ≡ r →
      option_map (λ (t : Touch). ByOthers t) (and_then (λ (q : Path). Some (PageTaken q page)) r) ≡ Some m →
      IsTouched m (apply_all (PutPage own_space own words ∷ DropPage space page ∷ Alter (slot_of x ∷ parent x) (Finish []) ∷ []) w)
  taken space own_space own words m there away None e h = cc
  taken space own_space own words m there away (Some q) e h =
      let at = strip_some root space q e in
      let form : m ≡ ByOthers (PageTaken q page) = cc in
      let apart = off (is_within root own_space) (away (rw form refl)) in
      rw (form, at) (has_touched w nester slot plain (PageTaken q page) (DropPage q page ∷ [])
      (PutPage own_space own words ∷ DropPage (q ++ root) page ∷ Alter (slot_of x ∷ parent x) (Finish []) ∷ []) Nothing (page_gone q (rw at at there))
      (Beyond apart (Both (DropsPage q page) (Beyond out Empty))) (tt, (tt, (tt, tt))))
    where
      off : (a : Bool) → (a || false) ≡ false → a ≡ false
      off false h = refl
      off true h = h

  touched_by : (o : Outcome) →
      View w (user_at x) page (space_argument w (user_at x) s) o → (m : Onward) → (is_page_row m ≡ false → writes_inside root (listed o) ≡ false) →
      option_map (λ (t : Touch). ByOthers t) (stage_touch w root (user_at x) pick (listed o) (PageTake s page address)) ≡ Some m →
      IsTouched m (stepped w o).world
  touched_by o (inl none) m away h = absurd (by (drops_page (listed o)) none h)
    where
      by : (b : Bool) → b ≡ false → option_map (λ (t : Touch). ByOthers t)
          (cond b (on_place root (λ (q : Path). Some (PageTaken q page)) (space_argument w (user_at x) s)) None) ≡ Some m → ⊥
      by true e h = cc
      by false e h = cc
  touched_by o (inr v) m away h =
      rw v.6 (taken v.0 v.1 v.2 v.3 m v.5 (rw v.6 at away) (strip root v.0) refl (by (space_argument w (user_at x) s) v.4 (rw v.6 at h)))
    where
      by : (r : Result Path ℕ) → r ≡ Ok v.0 → option_map (λ (t : Touch). ByOthers t) (on_place root (λ (q : Path). Some (PageTaken q page)) r) ≡ Some m →
          option_map (λ (t : Touch). ByOthers t) (and_then (λ (q : Path). Some (PageTaken q page)) (strip root v.0)) ≡ Some m
      by r e = rw e (λ h. h)

-- ---- the law

pub taken_row : (w : World) (root : Path) (e : Event) (o : Outcome) (r : Option Path) (called : Option Stage) (stage : Stage) (m : Onward) →
    r ≡ None → called ≡ Some stage →
    option_map (λ (t : Touch). ByOthers t) (and_then (stage_touch w root (user_at e.mover) e.pick (listed o)) called) ≡ Some m →
    option_map (λ (t : Touch). ByOthers t) (stage_touch w root (user_at e.mover) e.pick (listed o) stage) ≡ Some m
taken_row w root e o r called stage m out is = rw is (λ h. h)

pub seen_outside : (w : World) (root x : Path) (pick : Option Path) (o : Outcome) (r : Option Path) (m : Onward) →
    r ≡ None → row_of w root (moves x pick) o r ≡ Some m → option_map (λ (t : Touch). ByOthers t) (outer_touch w root x pick asks.Run o) ≡ Some m
seen_outside w root x pick o r m out = rw out (λ h. h)

-- who moves stands nowhere but in a space
pub stands_in_slot : (w : World) → IsWhole w → (x : Path) (t : Thread) → and_then thread_of (w.body x) ≡ Some t → slot_of x ∷ parent x ≡ x
unfolding kind_there
stands_in_slot w sound [] t at = absurd (by (w.body []) sound.valid.rooted.root at)
  where
    by : (v : Option Body) → option_map kind_of v ≡ Some kinds.Space → and_then thread_of v ≡ Some t → ⊥
    by (Some (Thread_of u)) h e = cc
    by (Some (Mutex locked)) h e = cc
    by (Some Cond) h e = cc
    by (Some (Mapping m)) h e = cc
    by (Some (Region r)) h e = cc
    by (Some (Port set served)) h e = cc
    by (Some Portset) h e = cc
    by (Some (Space birth holder)) h e = cc
    by (Some (Reference to)) h e = cc
    by None h e = cc
stands_in_slot w sound (k ∷ x) t at = refl

take_outside : (w : World) (nester : Path) (slot : ℕ) → IsPlain w nester slot → (x : Path) (pick : Option Path) (s page address : ℕ) →
    is_within (slot ∷ nester) x ≡ false → IsAtStage w x (PageTake s page address) → KeepsCut w nester slot (moves x pick)
unfolding step
take_outside w nester slot plain x pick s page address out at sound same fit ready (Onwards m) seen =
    let is = stage_outcome w nester slot plain x pick (PageTake s page address) at in
    let o : Outcome = outcome w x pick asks.Run in
    let view : View w (user_at x) page (space_argument w (user_at x) s) o = rw is.1 (view-when w (user_at x) page (space_argument w (user_at x) s)
    (is_free w (parent x) is.0) (call_row w (user_at x) pick (PageTake s page address)) (view-call w x s page address pick)) in
    let far = seen_outside w (slot ∷ nester) x pick o (strip (slot ∷ nester) x) m (strip_none (slot ∷ nester) x out) seen.1 in
    let row = taken_row w
    (slot ∷ nester) (moves x pick) o None _ (PageTake s page address) m refl (stage_called w nester slot plain x (PageTake s page address) at) far in
    touched_by w nester slot plain x pick s page address (rw (stands_in_slot w sound x at.0 at.3) out) o view m
    (λ none. writes_off (writes_inside (slot ∷ nester) (listed o))
    (is_within (slot ∷ nester) x) (sends_out w (slot ∷ nester) x) (seen_row w (slot ∷ nester) (moves x pick)) m seen.1 out none seen.0) row
take_outside w nester slot plain x pick s page address out at sound same fit ready Unseen seen =
    let is = stage_outcome w nester slot plain x pick (PageTake s page address) at in
    stepped-plain w nester slot plain (outcome w x pick asks.Run)
    (rw is.1 (quiet-when (slot ∷ nester) (is_free w (parent x) is.0) (call_row w (user_at x) pick (PageTake s page address))
    (quiet-call (slot ∷ nester) w x pick (PageTake s page address) (quiet-page_take (slot ∷ nester) w x s page address)))) seen.1.0
take_outside w nester slot plain x pick s page address out at sound same fit ready Other seen = tt

pub page_take_keeps : StageKeepsCut IsPageTake
page_take_keeps w nester slot x pick stage such at sound plain = by (is_within (slot ∷ nester) x) refl
  where
    law : (w : World) (nester : Path) (slot : ℕ) → IsPlain w nester slot → (k : ℕ) (q : Path) (pick : Option Path) (stage : Stage) →
        IsPageTake stage → IsAtStage w (k ∷ (q ++ slot ∷ nester)) stage → KeepsCut w nester slot (moves (k ∷ (q ++ slot ∷ nester)) pick)
    law w nester slot plain k q pick stage such at =
        stage_inside w nester slot plain k q pick (PageTake such.0 such.1 such.2) (rw such.3 at at) (λ n c o. refl)
        (λ p e free. page_take-like (cut-like w nester slot plain) free k q such.0 such.1 such.2)
        (quiet-page_take (slot ∷ nester) w (k ∷ (q ++ slot ∷ nester)) such.0 such.1 such.2)

    by : (b : Bool) → is_within (slot ∷ nester) x ≡ b → is_fit w x asks.Run ≡ true →
        IsReady w x pick asks.Run → (seen : Seen) → IsSeen w nester slot (moves x pick) seen → HasDone w nester slot (moves x pick) seen
    by true e = inside_stages IsPageTake law w nester slot x pick stage such e at sound plain
    by false e = take_outside w nester slot plain x pick such.0 such.1 such.2 e (rw such.3 at at) sound plain

pub page_take_rebinds : StageRebinds IsPageTake
page_take_rebinds = own_rebinds IsPageTake (λ stage such. rw such.3 (record {
  silent = λ w n c o. refl;
  quiet = λ w x pick. quiet-page_take [] w x such.0 such.1 such.2;
  alike = λ root see small big like free k q p pick. page_take-like like free k q such.0 such.1 such.2;
}))
