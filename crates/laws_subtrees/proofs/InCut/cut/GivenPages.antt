-- The law of the cut for a page that somebody outside gives: the subtree sees that a space of it is given a page.
use Rattle.std.proofs.Common.{◌≡◌, ◌⊎◌, inl, inr, ℕ, eqb, Bool, true, false, cond, not, ◌||◌, List, [], ◌∷◌, ◌++◌, Option, Some, None, is_some, is_none}
use Rattle.std.proofs.Common.{option_map, Result, Ok, Err, refl, subst}
use Rattle.std.specs.Prelude.{replicate}
use Rattle.fk_model.specs.declared.limits.TheConstants.{PAGE_WORDS, ZEROS}
use Rattle.fk_model.specs.declared.names.Kind.TheVariants as kinds
use Rattle.fk_model.specs.declared.moves.Ask.TheVariants as asks
use Rattle.fk_model.specs.declared.statuses.status.TheConstants as status
use Rattle.fk_model.specs.declared.statuses.status.TheConstants.{DENIED}
use Rattle.fk_model.specs.declared.stage.Stage.TheVariants.{PageGive}
use Rattle.fk_model.specs.Places.{Path, strip, is_within, parent, slot_of, Ptr}
use Rattle.fk_model.specs.Objects.{space_of, thread_of, and_then}
use Rattle.fk_model.specs.Objects.Body.{Space}
use Rattle.fk_model.specs.World.{World, Change, apply_all}
use Rattle.fk_model.specs.World.Change.{Alter, PutPage}
use Rattle.fk_model.specs.World.Edit.{Finish}
use Rattle.fk_model.specs.Reach.{Reach, reach_word, words_at}
use Rattle.fk_model.specs.Reach.Reach.{Home, Missing, Bad}
use Rattle.fk_model.specs.Holds.{is_frozen_for, is_free}
use Rattle.fk_model.specs.Outcomes.{Said, Outcome, ◌>>=◌, refuse, when, Caller, path_of, done_at, listed}
use Rattle.fk_model.specs.Outcomes.Outcome.{Refused, Waits, Goes}
use Rattle.fk_model.specs.Outcomes.Said.{Nothing}
use Rattle.fk_model.specs.Readers.{space_argument, own_page, own_page_at}
use Rattle.fk_model.specs.LinkRows.{user_at}
use Rattle.fk_model.specs.SpaceRows.{is_page, is_bad_source, gives_page, page_give}
use Rattle.fk_model.specs.Moves.{with_pick, closed, call_row, porter_at, outcome, stepped, step, is_denied}
use Rattle.fk_model.specs.Valid.{kind_there}
use Rattle.fk_model.specs.Whole.{IsWhole}
use Rattle.fk_model.specs.Runs.{Event}
use Rattle.fk_model.specs.Cut.{ports_of, cutting, seen_by, unheld, cut, IsPlain}
use Rattle.fk_model.specs.Further.{Touch, Onward, Told, touch_row, IsOnward}
use Rattle.fk_model.specs.Further.Touch.{PageGiven}
use Rattle.fk_model.specs.Further.Onward.{ByOthers}
use Rattle.fk_model.specs.Seen.{page_put, page_given, on_place, stage_touch, outer_touch, row_of}
use Rattle.fk_model.specs.Seen.Seen.{Onwards, Unseen, Other}
use Rattle.fk_model.proofs.walks.PlaceLaws.{strip_some}
use Rattle.laws_moves.proofs.InMachine.safety.Reads.{IsCaller, place-space}
use Rattle.laws_moves.proofs.InMachine.safety.Moves.{thread-caller}
use Rattle.laws_subtrees.specs.Cut.CutLaws.{KeepsCut, IsAtStage, moves, StageKeepsCut, CallKeepsCut, IsPageGive}
use Rattle.laws_subtrees.specs.Cut.LikeChanges.LikeChange.{PutsPage}
use Rattle.laws_subtrees.specs.Cut.LikeChanges.LikeChanges.{Both}
use Rattle.laws_subtrees.proofs.InCut.likeness.Holds.{strip_none}
use Rattle.laws_subtrees.proofs.InCut.likeness.Memory.{space_body}
use Rattle.laws_subtrees.proofs.InCut.cut.Plain.{AreQuiet}
use Rattle.laws_subtrees.proofs.InCut.cut.Inside.{quiet-when, quiet-call}
use Rattle.laws_subtrees.proofs.InCut.cut.Outside.{stepped-plain, stage_outcome, stage_called}
use Rattle.laws_subtrees.proofs.InCut.cut.Calls.{porter_outside, porter_is, quiet-porter}
use Rattle.laws_subtrees.proofs.InCut.cut.Gifts.{page_give_keeps, quiet-page_give}
use Rattle.laws_subtrees.proofs.InCut.cut.Pages.{has_touched, seen_outside, taken_row, stands_in_slot}
use Rattle.laws_subtrees.proofs.InCut.talks.Messages.{whole}
use Rattle.laws_subtrees.proofs.InCut.waits.Taken.{AreBeyond, beyond}

module _ (w : World) (root : Path) (c : Caller) (out : is_within root (path_of c) ≡ false) (s page address : ℕ) where
  abbrev from : Result Path ℕ
  from = space_argument w c s

  -- no page is put; or one is, at a place that has none, and what follows lies outside
  abbrev Gift : Outcome → Type 0
  Gift o = (space : Path) × (words : List ℕ) × (later : List Change) × (said : Said) × (from ≡ Ok space) ×
      (is_none (w.page space page) ≡ true) × AreBeyond root later × AreQuiet root later × (o ≡ Goes (PutPage space page words ∷ later) said)

  abbrev View : Outcome → Type 0
  View o = (page_put (listed o) ≡ None) ⊎ Gift o

  view->>= : {A : Type 0} (r : Result A ℕ) (go : A → Outcome) → ((a : A) → r ≡ Ok a → View (go a)) → View (r >>= go)
  view->>= (Ok a) go h = h a refl
  view->>= (Err status) go h = inl refl

  view-put : (space : Path) (words : List ℕ) → from ≡ Ok space → is_none (w.page space page) ≡ true → (porter : Bool) →
      View (done_at (path_of c) (record c { is_porter = porter }) (PutPage space page words ∷ []) [])
  view-put space words at free true = inr (space, words, [], _, at, free, tt, tt, refl)
  view-put space words at free false = inr (space, words, Alter (path_of c) (Finish []) ∷ [], Nothing, at, free, (out, tt), (tt, tt), refl)

  view-gives : (space : Path) (words : List ℕ) → from ≡ Ok space → View (gives_page w c space page words)
  view-gives space words at = by (w.page space page) refl
    where
      by : (o : Option (List ℕ)) → w.page space page ≡ o →
          View (refuse status.OCCUPIED (is_some o) >>= (λ v. done_at (path_of c) c (PutPage space page words ∷ []) []))
      by (Some found) e = inl refl
      by None e = view-put space words at (rw e refl) c.is_porter

  view-own : (space : Path) → from ≡ Ok space → (r : Reach) →
      View (own_page_at (path_of c) false (λ t own. gives_page w c space page (words_at w t own)) r)
  view-own space at (Home t own) = view-gives space (words_at w t own) at
  view-own space at (Missing t own None) = inl refl
  view-own space at (Missing t own (Some port)) = inl refl
  view-own space at Bad = inl refl

  view-from : (space : Path) → from ≡ Ok space → (porter zeros : Bool) →
      View (cond porter (gives_page w c space page c.words) (cond zeros (gives_page w c space page (replicate PAGE_WORDS 0))
      (own_page w c address false (λ t own. gives_page w c space page (words_at w t own)))))
  view-from space at true zeros = view-gives space c.words at
  view-from space at false true = view-gives space (replicate PAGE_WORDS 0) at
  view-from space at false false = view-own space at (reach_word w c.space address false)

  view-row : View (page_give w c s page address)
  unfolding page_give
  view-row = view->>= from _ (λ space at. view->>= (refuse status.HELD (is_frozen_for w (path_of c) space)) _ (λ free e. view->>=
      (refuse status.BADADDRESS (not (is_page page) || is_bad_source c address)) _ (λ good f. view-from space at c.is_porter (eqb address ZEROS))))

  view-allowed : (b : Bool) (o : Outcome) → View o → View (cond b (Refused DENIED) o)
  view-allowed true o h = inl refl
  view-allowed false o h = h

  view-when : (b : Bool) (o : Outcome) → View o → View (when b o)
  view-when true o h = h
  view-when false o h = inl refl

  view-with_pick : (pick : Option Path) (o : Outcome) → View o → View (with_pick false pick o)
  view-with_pick pick (Refused status) h = view-when (is_none pick) (Refused status) h
  view-with_pick pick Waits h = h
  view-with_pick pick (Goes cs said) h = view-when (is_none pick) (Goes cs said) h

  view-closed : (o : Outcome) → View o → View (closed c o)
  view-closed (Refused status) h = by c.is_porter
    where
      by : (porter : Bool) → View (closed (record c { is_porter = porter }) (Refused status))
      by true = inl refl
      by false = inl refl
  view-closed Waits h = h
  view-closed (Goes cs said) h = h

  view-call : (pick : Option Path) → View (call_row w c pick (PageGive s page address))
  unfolding call_row
  view-call pick = view-closed _ (view-with_pick pick _ (view-allowed (is_denied c (PageGive s page address)) (page_give w c s page address) view-row))

module _ (w : World) (nester : Path) (slot : ℕ) (plain : IsPlain w nester slot) (c : Caller) (caller : IsCaller w c)
    (out : is_within (slot ∷ nester) (path_of c) ≡ false) (pick : Option Path) (s page address : ℕ) where
  abbrev root : Path
  root = slot ∷ nester

  abbrev small : World
  small = cut w nester slot

  abbrev pub DoneBy : Onward → World → Type 0
  DoneBy m later = IsPlain later nester slot × ((told : List Told) × IsOnward small m told (cut later nester slot))

  space_shown : (q : Path) (birth : ℕ) (holder : Option Ptr) →
      is_some (space_of (unheld q (seen_by (cutting (ports_of w nester slot) nester slot) (Space birth holder)))) ≡ true
  unfolding seen_by
  space_shown [] birth holder = refl
  space_shown (k ∷ q) birth holder = refl

  put_row : (q : Path) (words : List ℕ) → kind_there w (q ++ root) ≡ Some kinds.Space → is_none (w.page (q ++ root) page) ≡ true →
      touch_row small (PageGiven q page words) ≡ Goes (PutPage q page words ∷ []) Nothing
  unfolding touch_row kind_there cut
  put_row q words kind free =
      let space = space_body (w.body (q ++ root)) kind in
      let there = space_shown q space.0 space.1 in
      rw (space.2, free) (rw there refl)

  gift : (space : Path) (words : List ℕ) (later : List Change) (m : Onward) → space_argument w c s ≡ Ok space → is_none (w.page space page) ≡ true →
      AreBeyond root later → AreQuiet root later → (r : Option Path) → strip root space ≡ r →
      option_map (λ (t : Touch). ByOthers t) (and_then (λ (q : Path). page_given q page (Some words)) r) ≡ Some m →
      DoneBy m (apply_all (PutPage space page words ∷ later) w)
  gift space words later m at free apart quiet None e h = cc
  gift space words later m at free apart quiet (Some q) e h =
      let here = strip_some root space q e in
      let form : m ≡ ByOthers (PageGiven q page words) = cc in
      let kind : kind_there w (q ++ root) ≡ Some kinds.Space = rw here at (place-space w c s space caller at) in
      rw (form, here) (has_touched w nester slot plain (PageGiven q page words) (PutPage q page words ∷ [])
      (PutPage (q ++ root) page words ∷ later) Nothing (put_row q words kind (rw here at free))
      (Both (PutsPage q page words) (beyond later _ apart)) (tt, quiet))

  touched_by : (o : Outcome) → View w root c out s page address o → (m : Onward) →
      option_map (λ (t : Touch). ByOthers t) (stage_touch w root c pick (listed o) (PageGive s page address)) ≡ Some m → DoneBy m (stepped w o).world
  touched_by o (inl none) m = λ h. absurd (by (space_argument w c s) (page_put (listed o)) none h)
    where
      of_path : (r : Option Path) → option_map (λ (t : Touch). ByOthers t) (and_then (λ (q : Path). page_given q page None) r) ≡ Some m → ⊥
      of_path None h = cc
      of_path (Some q) h = cc

      nothing : None ≡ Some m → ⊥
      nothing h = cc

      by : (r : Result Path ℕ) (put : Option (List ℕ)) → put ≡ None →
          option_map (λ (t : Touch). ByOthers t) (on_place root (λ (q : Path). page_given q page put) r) ≡ Some m → ⊥
      by (Ok space) put e = rw e (of_path (strip root space))
      by (Err status) put e = λ h. nothing h
  touched_by o (inr v) m = λ h.
      rw v.8 (gift v.0 v.1 v.2 m v.4 v.5 v.6 v.7 (strip root v.0) refl (by (space_argument w c s) v.4 (rw v.8 at h)))
    where
      by : (r : Result Path ℕ) → r ≡ Ok v.0 → option_map (λ (t : Touch). ByOthers t) (on_place root (λ (q : Path). page_given q page (Some v.1)) r) ≡ Some m →
          option_map (λ (t : Touch). ByOthers t) (and_then (λ (q : Path). page_given q page (Some v.1)) (strip root v.0)) ≡ Some m
      by r e = rw e (λ h. h)

-- ---- a user

user_gives : (w : World) (nester : Path) (slot : ℕ) → IsPlain w nester slot → IsWhole w → (j : ℕ) (x : Path) (pick : Option Path) (s page address : ℕ) →
    is_within (slot ∷ nester) (j ∷ x) ≡ false → IsAtStage w (j ∷ x) (PageGive s page address) → KeepsCut w nester slot (moves (j ∷ x) pick)
unfolding step
user_gives w nester slot plain sound j x pick s page address out at again same fit ready (Onwards m) seen =
    let is = stage_outcome w nester slot plain (j ∷ x) pick (PageGive s page address) at in
    let o : Outcome = outcome w (j ∷ x) pick asks.Run in
    let caller = thread-caller w sound.valid.consistent (user_at (j ∷ x)) at.0 at.3 in
    let view : View w (slot ∷ nester) (user_at (j ∷ x)) out s page address o = rw is.1 (view-when w (slot ∷ nester) (user_at (j ∷ x)) out s page address
    (is_free w x is.0) (call_row w (user_at (j ∷ x)) pick (PageGive s page address)) (view-call w (slot ∷ nester) (user_at (j ∷ x)) out s page address pick)) in
    let far = seen_outside w (slot ∷ nester) (j ∷ x) pick o (strip (slot ∷ nester) (j ∷ x)) m (strip_none (slot ∷ nester) (j ∷ x) out) seen.1 in
    touched_by w nester slot plain (user_at (j ∷ x)) caller out pick s page address o view m (taken_row w (slot ∷ nester) (moves (j ∷ x) pick)
    o None _ (PageGive s page address) m refl (stage_called w nester slot plain (j ∷ x) (PageGive s page address) at) far)
user_gives w nester slot plain sound j x pick s page address out at again same fit ready Unseen seen =
    let is = stage_outcome w nester slot plain (j ∷ x) pick (PageGive s page address) at in
    stepped-plain w nester slot plain (outcome w (j ∷ x) pick asks.Run)
    (rw is.1 (quiet-when (slot ∷ nester) (is_free w x is.0) (call_row w (user_at (j ∷ x)) pick (PageGive s page address))
    (quiet-call (slot ∷ nester) w (j ∷ x) pick (PageGive s page address) (quiet-page_give (slot ∷ nester) w (user_at (j ∷ x)) s page address)))) seen.1.0
user_gives w nester slot plain sound j x pick s page address out at again same fit ready Other seen = tt

pub page_give_user : StageKeepsCut IsPageGive
page_give_user = whole IsPageGive page_give_keeps outside
  where
    outside : (w : World) (nester : Path) (slot : ℕ) → IsPlain w nester slot → (x : Path) (pick : Option Path) (stage : _) →
        IsPageGive stage → is_within (slot ∷ nester) x ≡ false → IsAtStage w x stage → KeepsCut w nester slot (moves x pick)
    outside w nester slot plain x pick stage such out at sound =
        let here : slot_of x ∷ parent x ≡ x = stands_in_slot w sound x at.0 at.3 in
        let law : KeepsCut w nester slot (moves x pick) =
        subst (λ (y : Path). is_within (slot ∷ nester) y ≡ false → IsAtStage w y (PageGive such.0 such.1 such.2) → KeepsCut w nester slot (moves y pick)) here
        (λ off there. user_gives w nester slot plain sound (slot_of x) (parent x) pick such.0 such.1 such.2 off there) out (rw such.3 at at) in
        law sound

-- ---- a porter

module _ (w : World) (nester : Path) (slot : ℕ) (plain : IsPlain w nester slot) (sound : IsWhole w)
    (j : ℕ) (x : Path) (pick : Option Path) (s page address : ℕ) (words : List ℕ) where
  abbrev top : Path
  top = slot ∷ nester

  abbrev asked : Event
  asked = record { mover = j ∷ x; pick = pick; ask = asks.Call (PageGive s page address) words }

  seen_so : (o : Outcome) (r : Option Path) (m : Onward) → r ≡ None → row_of w top asked o r ≡ Some m →
      option_map (λ (touch : Touch). ByOthers touch) (outer_touch w top (j ∷ x) pick (asks.Call (PageGive s page address) words) o) ≡ Some m
  seen_so o r m none = rw none (λ h. h)

  porter_gives : KeepsCut w nester slot asked
  unfolding step outcome
  porter_gives again same fit ready (Onwards m) seen =
      let is = porter_is w (j ∷ x) pick (PageGive s page address) words (and_then thread_of (w.body (j ∷ x))) ready in
      let o : Outcome = outcome w (j ∷ x) pick (asks.Call (PageGive s page address) words) in
      let out = porter_outside w nester slot plain (j ∷ x) is.0 is.1 is.2 in
      let caller = thread-caller w sound.valid.consistent (porter_at (j ∷ x) words) is.0 is.1 in
      let view : View w top (porter_at (j ∷ x) words) out s page address o =
      rw (is.3) (view-call w top (porter_at (j ∷ x) words) out s page address pick) in
      touched_by w nester slot plain (porter_at (j ∷ x) words) caller out pick s page address o view m
      (seen_so o (strip top (j ∷ x)) m (strip_none top (j ∷ x) out) seen.1)
  porter_gives again same fit ready Unseen seen =
      let is = porter_is w (j ∷ x) pick (PageGive s page address) words (and_then thread_of (w.body (j ∷ x))) ready in
      stepped-plain w nester slot plain (outcome w (j ∷ x) pick (asks.Call (PageGive s page address) words))
      (rw (is.3) (quiet-porter top w (j ∷ x) words pick (PageGive s page address) (quiet-page_give top w (porter_at (j ∷ x) words) s page address))) seen.1.0
  porter_gives again same fit ready Other seen = tt

pub page_give_call : CallKeepsCut IsPageGive
unfolding outcome
page_give_call w nester slot x pick stage words such sound plain fit ready =
    let is = porter_is w x pick stage words (and_then thread_of (w.body x)) ready in
    let here : slot_of x ∷ parent x ≡ x = stands_in_slot w sound x is.0 is.1 in
    let law : KeepsCut w nester slot (record { mover = x; pick = pick; ask = asks.Call (PageGive such.0 such.1 such.2) words }) =
    subst (λ (y : Path). KeepsCut w nester slot (record { mover = y; pick = pick; ask = asks.Call (PageGive such.0 such.1 such.2) words }))
    here (porter_gives w nester slot plain sound (slot_of x) (parent x) pick such.0 such.1 such.2 words) in
    let same : KeepsCut w nester slot (record { mover = x; pick = pick; ask = asks.Call stage words }) = rw such.3 law in
    same sound plain fit ready
