-- The law of the cut for a porter that gives an object another slot.
use Rattle.std.proofs.Common.{◌≡◌, ◌⊎◌, inl, inr, ℕ, leb, Bool, true, false, cond, not, List, [], ◌∷◌, Option, None, is_some, is_none, Result, Ok, Err, refl}
use Rattle.std.proofs.Common.{sym, ◌∙◌}
use Rattle.fk_model.specs.declared.limits.TheConstants.{LAST_USER_SLOT}
use Rattle.fk_model.specs.declared.statuses.status.TheConstants as status
use Rattle.fk_model.specs.declared.moves.Ask.TheVariants as asks
use Rattle.fk_model.specs.declared.stage.Stage.TheVariants.{Rename}
use Rattle.fk_model.specs.Places.{Path, same_path, strip}
use Rattle.fk_model.specs.Objects.{Body, thread_of, and_then, is_served}
use Rattle.fk_model.specs.World.{World, apply, apply_all}
use Rattle.fk_model.specs.World.Change.{Move}
use Rattle.fk_model.specs.Searches.{has_residents}
use Rattle.fk_model.specs.Holds.{is_frozen_for}
use Rattle.fk_model.specs.Outcomes.{Said, Outcome, ◌>>=◌, refuse, when, Caller, path_of}
use Rattle.fk_model.specs.Outcomes.Outcome.{Refused, Waits, Goes}
use Rattle.fk_model.specs.Outcomes.Said.{Nothing, Answered}
use Rattle.fk_model.specs.Readers.{anything, object_in, space_argument}
use Rattle.fk_model.specs.ObjectRows.{rename}
use Rattle.fk_model.specs.Moves.{with_pick, closed, call_row, porter_at, outcome, stepped, step}
use Rattle.fk_model.specs.Runs.{Event}
use Rattle.fk_model.specs.Cut.{cut, IsPlain}
use Rattle.fk_model.specs.Seen.Seen.{Onwards, Unseen, Other}
use Rattle.fk_model.proofs.walks.PlaceLaws.{same_path_eq, same_path_refl}
use Rattle.laws_subtrees.specs.Cut.CutLaws.{KeepsCut, CallKeepsCut, IsRename}
use Rattle.laws_subtrees.proofs.InCut.likeness.Holds.{strip_none}
use Rattle.laws_subtrees.proofs.InCut.cut.Inside.{Quiet, quiet-refused, quiet-waits}
use Rattle.laws_subtrees.proofs.InCut.cut.Outside.{stepped-plain, untouched}
use Rattle.laws_subtrees.proofs.InCut.cut.Calls.{porter_outside, porter_is}
use Rattle.laws_subtrees.proofs.InCut.cut.Renames.{within_slot, full, gone}

-- ---- a rename: a quiet row, or one that gives a slot which was empty

module _ (root : Path) (w : World) (x : Path) (words : List ℕ) (a b : ℕ) where
  abbrev c : Caller
  c = porter_at x words

  abbrev View : Outcome → Type 0
  View o = Quiet root o ⊎ ((space : Path) × (said : Said) × (is_some (w.body (b ∷ space)) ≡ false) × (o ≡ Goes (Move (a ∷ space) b ∷ []) (Answered 0 [])))

  view->>= : {A : Type 0} (r : Result A ℕ) (go : A → Outcome) → ((v : A) → View (go v)) → View (r >>= go)
  view->>= (Ok v) go h = h v
  view->>= (Err status) go h = inl quiet-refused

  view-empty : (status : ℕ) (test : Bool) (go : Unit {0} → Outcome) → (test ≡ false → View (go tt)) → View (refuse status test >>= go)
  view-empty status true go h = inl quiet-refused
  view-empty status false go h = h refl

  view-when : (t : Bool) (o : Outcome) → View o → View (when t o)
  view-when true o h = h
  view-when false o h = inl quiet-waits

  view-with_pick : (pick : Option Path) (o : Outcome) → View o → View (with_pick false pick o)
  view-with_pick pick (Refused status) h = view-when (is_none pick) (Refused status) h
  view-with_pick pick Waits h = h
  view-with_pick pick (Goes cs said) h = view-when (is_none pick) (Goes cs said) h

  view-closed : (o : Outcome) → View o → View (closed c o)
  view-closed (Refused status) h = inl (record { quiet = tt; mute = λ v y. refl })
  view-closed Waits h = h
  view-closed (Goes cs said) h = h

  view-rename : (s : ℕ) → View (rename w c s a b)
  unfolding rename
  view-rename s =
      view->>= (space_argument w c s) _ (λ space.
      view->>= (object_in w c anything space a) _ (λ body.
      view-empty status.HELD (is_frozen_for w (path_of c) (a ∷ space)) _ (λ free.
      view-empty status.BADHANDLE (not (leb b LAST_USER_SLOT)) _ (λ named.
      view-empty status.DENIED (is_served body) _ (λ unserved.
      view-empty status.OCCUPIED (is_some (w.body (b ∷ space))) _ (λ empty.
      view-empty status.NOTEMPTY (has_residents w (a ∷ space)) _ (λ alone. inr (space, Nothing, empty, refl))))))))

  view-call : (pick : Option Path) (s : ℕ) → View (call_row w c pick (Rename s a b))
  unfolding call_row
  view-call pick s = view-closed _ (view-with_pick pick (rename w c s a b) (view-rename s))

module _ (w : World) (nester : Path) (slot : ℕ) (plain : IsPlain w nester slot) where
  abbrev top : Path
  top = slot ∷ nester

  left : (a b : ℕ) (space : Path) → same_path (b ∷ space) top ≡ false → a ∷ space ≡ top → (apply_all (Move (a ∷ space) b ∷ []) w).body top ≡ None
  unfolding apply apply_all
  left a b space new at = rw (sym at) (moved _ _)
    where
      apart : same_path (a ∷ space) (b ∷ space) ≡ false
      apart = by (same_path (a ∷ space) (b ∷ space)) refl
        where
          by : (t : Bool) → same_path (a ∷ space) (b ∷ space) ≡ t → t ≡ false
          by false e = refl
          by true e = let same = same_path_eq (a ∷ space) (b ∷ space) e in
              let there : same_path (b ∷ space) top ≡ true = rw (sym same) (rw at (same_path_refl top)) in cc

      moved : (o p : Option Body) → cond (same_path (a ∷ space) (b ∷ space)) o (cond (same_path (a ∷ space) (a ∷ space)) None p) ≡ None
      moved o p = rw (apart, same_path_refl (a ∷ space)) refl

  renamed-plain : (x : Path) (words : List ℕ) (a b : ℕ) (o : Outcome) →
      View top w x words a b o → cut (stepped w o).world nester slot ≡ cut w nester slot → IsPlain (stepped w o).world nester slot
  renamed-plain x words a b o (inl quiet) same = stepped-plain w nester slot plain o quiet same
  renamed-plain x words a b o (inr v) same = by (same_path (a ∷ v.0) top) refl
    where
      here : cut (apply_all (Move (a ∷ v.0) b ∷ []) w) nester slot ≡ cut w nester slot
      here = rw v.3 at same

      by : (t : Bool) → same_path (a ∷ v.0) top ≡ t → IsPlain (stepped w o).world nester slot
      by true e = absurd (gone w nester slot plain _ (left a b v.0 (full w nester slot plain (b ∷ v.0) v.2) (same_path_eq (a ∷ v.0) top e)) here)
      by false e = stepped-plain w nester slot plain o (rw v.3 (record {
        quiet = (within_slot top v.0 b (full w nester slot plain (b ∷ v.0) v.2) ∙ sym (within_slot top v.0 a e), tt);
        mute = λ v y. refl;
      })) same

  abbrev renaming : Path → Option Path → List ℕ → ℕ → ℕ → ℕ → Event
  renaming x pick words s a b = record { mover = x; pick = pick; ask = asks.Call (Rename s a b) words }

  rename_by : (x : Path) (pick : Option Path) (words : List ℕ) (s a b : ℕ) → KeepsCut w nester slot (renaming x pick words s a b)
  unfolding step outcome
  rename_by x pick words s a b sound same fit ready (Onwards m) seen =
      let is = porter_is w x pick (Rename s a b) words (and_then thread_of (w.body x)) ready in
      absurd (untouched w nester slot plain (renaming x pick words s a b) (outcome w x pick (asks.Call (Rename s a b) words))
      (strip top x) m (strip_none top x (porter_outside w nester slot plain x is.0 is.1 is.2)) refl seen.1)
  rename_by x pick words s a b sound same fit ready Unseen seen =
      let is = porter_is w x pick (Rename s a b) words (and_then thread_of (w.body x)) ready in
      let view : View top w x words a b (outcome w x pick (asks.Call (Rename s a b) words)) = rw (is.3) (view-call top w x words a b pick s) in
      renamed-plain x words a b (outcome w x pick (asks.Call (Rename s a b) words)) view seen.1.0
  rename_by x pick words s a b sound same fit ready Other seen = tt

pub rename_call : CallKeepsCut IsRename
rename_call w nester slot x pick stage words such sound plain = rw such.3 (rename_by w nester slot plain x pick words such.0 such.1 such.2 sound plain)
