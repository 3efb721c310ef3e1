-- The law of the cut for a thread outside that gives an object another slot.
use Rattle.std.proofs.Common.{◌≡◌, ◌⊎◌, inl, inr, ℕ, leb, Bool, true, false, cond, not, [], ◌∷◌, Option, Some, None, is_some, is_none, option_map, Result, Ok}
use Rattle.std.proofs.Common.{Err, refl, sym, ap, ◌∙◌}
use Rattle.fk_model.specs.declared.limits.TheConstants.{LAST_USER_SLOT}
use Rattle.fk_model.specs.declared.statuses.status.TheConstants as status
use Rattle.fk_model.specs.declared.moves.Ask.TheVariants as asks
use Rattle.fk_model.specs.declared.stage.Stage.TheVariants.{Rename}
use Rattle.fk_model.specs.Places.{Path, same_path, strip, is_within, parent}
use Rattle.fk_model.specs.Objects.{Body, is_served}
use Rattle.fk_model.specs.World.{World, edited, through, following, apply, apply_all}
use Rattle.fk_model.specs.World.Change.{Alter, Move}
use Rattle.fk_model.specs.World.Edit.{Finish}
use Rattle.fk_model.specs.Searches.{has_residents}
use Rattle.fk_model.specs.Holds.{is_free, is_frozen_for}
use Rattle.fk_model.specs.Outcomes.{Outcome, ◌>>=◌, refuse, when, path_of}
use Rattle.fk_model.specs.Outcomes.Outcome.{Refused, Waits, Goes}
use Rattle.fk_model.specs.Outcomes.Said.{Nothing}
use Rattle.fk_model.specs.Readers.{anything, object_in, space_argument}
use Rattle.fk_model.specs.LinkRows.{user_at}
use Rattle.fk_model.specs.ObjectRows.{renamed, rename}
use Rattle.fk_model.specs.Moves.{with_pick, closed, call_row, outcome, stepped, step}
use Rattle.fk_model.specs.Cut.{seen_by, cut, IsPlain}
use Rattle.fk_model.specs.Seen.Seen.{Onwards, Unseen, Other}
use Rattle.laws_subtrees.specs.Cut.CutLaws.{KeepsCut, IsAtStage, moves, StageOutsideKeepsCut, IsRename}
use Rattle.fk_model.proofs.walks.PlaceLaws.{same_path_eq, same_path_refl}
use Rattle.laws_subtrees.proofs.InCut.likeness.Holds.{strip_none}
use Rattle.laws_subtrees.proofs.InCut.cut.Inside.{Quiet, quiet-refused, quiet-waits, quiet-goes}
use Rattle.laws_subtrees.proofs.InCut.cut.Outside.{stepped-plain, untouched, stage_outcome, stage_called}

-- a quiet row, or one that gives a slot which was empty
module _ (root : Path) (w : World) (a b : ℕ) where
  abbrev View : Outcome → Type 0
  View o = Quiet root o ⊎
      ((space : Path) × (me : Path) × (is_some (w.body (b ∷ space)) ≡ false) × (o ≡ Goes (Move (a ∷ space) b ∷ Alter me (Finish []) ∷ []) Nothing))

  view->>= : {A : Type 0} (r : Result A ℕ) (go : A → Outcome) → ((a : A) → r ≡ Ok a → View (go a)) → View (r >>= go)
  view->>= (Ok a) go h = h a refl
  view->>= (Err status) go h = inl quiet-refused

  view-empty : (status : ℕ) (test : Bool) (go : Unit {0} → Outcome) → (test ≡ false → View (go tt)) → View (refuse status test >>= go)
  view-empty status true go h = inl quiet-refused
  view-empty status false go h = h refl

  view-when : (t : Bool) (o : Outcome) → View o → View (when t o)
  view-when true o h = h
  view-when false o h = inl quiet-waits

  view-with_pick : (pick : Option Path) (o : Outcome) → View o → View (with_pick false pick o)
  view-with_pick pick (Refused status) h = view-when (is_none pick) (Refused status) h
  view-with_pick pick Waits h = h
  view-with_pick pick (Goes cs said) h = view-when (is_none pick) (Goes cs said) h

  view-closed : (x : Path) (o : Outcome) → View o → View (closed (user_at x) o)
  view-closed x (Refused status) h = inl (quiet-goes (tt, tt))
  view-closed x Waits h = h
  view-closed x (Goes cs said) h = h

  view-rename : (x : Path) (s : ℕ) → View (rename w (user_at x) s a b)
  unfolding rename
  view-rename x s =
      view->>= (space_argument w (user_at x) s) _ (λ space at.
      view->>= (object_in w (user_at x) anything space a) _ (λ body is.
      view-empty status.HELD (is_frozen_for w (path_of (user_at x)) (a ∷ space)) _ (λ free.
      view-empty status.BADHANDLE (not (leb b LAST_USER_SLOT)) _ (λ named.
      view-empty status.DENIED (is_served body) _ (λ unserved.
      view-empty status.OCCUPIED (is_some (w.body (b ∷ space))) _ (λ empty.
      view-empty status.NOTEMPTY (has_residents w (a ∷ space)) _ (λ alone.
      inr (space, renamed (a ∷ space) (b ∷ space) (path_of (user_at x)), empty, refl))))))))

  view-call : (x : Path) (pick : Option Path) (s : ℕ) → View (call_row w (user_at x) pick (Rename s a b))
  unfolding call_row
  view-call x pick s = view-closed x _ (view-with_pick pick (rename w (user_at x) s a b) (view-rename x s))

-- in a space, slots other than the root's lie inside together
pub within_slot : (root space : Path) (j : ℕ) → same_path (j ∷ space) root ≡ false → is_within root (j ∷ space) ≡ is_within root space
unfolding strip
within_slot root space j e = rw e (by (strip root space))
  where
    by : (o : Option Path) → is_some (option_map (λ (q : Path). j ∷ q) o) ≡ is_some o
    by None = refl
    by (Some q) = refl

module _ (w : World) (nester : Path) (slot : ℕ) (plain : IsPlain w nester slot) where
  abbrev root : Path
  root = slot ∷ nester

  pub full : (y : Path) → is_some (w.body y) ≡ false → same_path y root ≡ false
  full y h = by (same_path y root) refl
    where
      by : (t : Bool) → same_path y root ≡ t → t ≡ false
      by false e = refl
      by true e = let at = same_path_eq y root e in let here : is_some (w.body y) ≡ true = rw at (rw plain.root refl) in cc

  -- a world whose root is gone has another cut
  pub gone : (v : World) → v.body root ≡ None → cut v nester slot ≡ cut w nester slot → ⊥
  unfolding cut seen_by
  gone v none same =
      let was : is_some ((cut w nester slot).body []) ≡ true = rw plain.root refl in
      let is : is_some ((cut v nester slot).body []) ≡ false = rw none refl in
      let both : is_some ((cut v nester slot).body []) ≡ is_some ((cut w nester slot).body []) = ap (λ (c : World). is_some (c.body [])) same in
      cc

  left : (a b : ℕ) (space me : Path) →
      same_path (b ∷ space) root ≡ false → a ∷ space ≡ root → (apply_all (Move (a ∷ space) b ∷ Alter me (Finish []) ∷ []) w).body root ≡ None
  unfolding apply apply_all
  left a b space me new at = rw (sym at) (by (same_path (a ∷ space) me))
    where
      apart : same_path (a ∷ space) (b ∷ space) ≡ false
      apart = by (same_path (a ∷ space) (b ∷ space)) refl
        where
          by : (t : Bool) → same_path (a ∷ space) (b ∷ space) ≡ t → t ≡ false
          by false e = refl
          by true e = let same = same_path_eq (a ∷ space) (b ∷ space) e in
              let there : same_path (b ∷ space) root ≡ true = rw (sym same) (rw at (same_path_refl root)) in cc

      moved : (o p : Option Body) → cond (same_path (a ∷ space) (b ∷ space)) o (cond (same_path (a ∷ space) (a ∷ space)) None p) ≡ None
      moved o p = rw (apart, same_path_refl (a ∷ space)) refl

      by : (t : Bool) → cond t (option_map (edited (Finish []))
          (cond (same_path (a ∷ space) (b ∷ space)) (option_map (through (following (a ∷ space) (b ∷ space)) (b ∷ space)) (w.body (a ∷ space)))
          (cond (same_path (a ∷ space) (a ∷ space)) None (option_map (through (following (a ∷ space) (b ∷ space)) (a ∷ space)) (w.body (a ∷ space))))))
          (cond (same_path (a ∷ space) (b ∷ space)) (option_map (through (following (a ∷ space) (b ∷ space)) (b ∷ space)) (w.body (a ∷ space)))
          (cond (same_path (a ∷ space) (a ∷ space)) None (option_map (through (following (a ∷ space) (b ∷ space)) (a ∷ space)) (w.body (a ∷ space))))) ≡ None
      by true = ap (option_map (edited (Finish []))) (moved _ _)
      by false = moved _ _

  renamed-plain : (a b : ℕ) (o : Outcome) →
      View root w a b o → cut (stepped w o).world nester slot ≡ cut w nester slot → IsPlain (stepped w o).world nester slot
  renamed-plain a b o (inl quiet) same = stepped-plain w nester slot plain o quiet same
  renamed-plain a b o (inr v) same = by (same_path (a ∷ v.0) root) refl
    where
      here : cut (apply_all (Move (a ∷ v.0) b ∷ Alter v.1 (Finish []) ∷ []) w) nester slot ≡ cut w nester slot
      here = rw v.3 at same

      by : (t : Bool) → same_path (a ∷ v.0) root ≡ t → IsPlain (stepped w o).world nester slot
      by true e = absurd (gone _ (left a b v.0 v.1 (full (b ∷ v.0) v.2) (same_path_eq (a ∷ v.0) root e)) here)
      by false e = stepped-plain w
          nester slot plain o (rw v.3 (quiet-goes (within_slot root v.0 b (full (b ∷ v.0) v.2) ∙ sym (within_slot root v.0 a e), (tt, tt)))) same

  rename_by : (x : Path) (pick : Option Path) (s a b : ℕ) → is_within root x ≡ false → IsAtStage w x (Rename s a b) → KeepsCut w nester slot (moves x pick)
  unfolding step
  rename_by x pick s a b out at sound same fit ready (Onwards m) seen =
      absurd (untouched w nester slot plain (moves x pick)
      (outcome w x pick asks.Run) (strip root x) m (strip_none root x out) (rw (stage_called w nester slot plain x (Rename s a b) at) refl) seen.1)
  rename_by x pick s a b out at sound same fit ready Unseen seen =
      let is = stage_outcome w nester slot plain x pick (Rename s a b) at in
      let view : View root w a b (outcome w x pick asks.Run) = rw is.1
      (view-when root w a b (is_free w (parent x) is.0) (call_row w (user_at x) pick (Rename s a b)) (view-call root w a b x pick s)) in
      renamed-plain a b (outcome w x pick asks.Run) view seen.1.0
  rename_by x pick s a b out at sound same fit ready Other seen = tt

pub rename_outside : StageOutsideKeepsCut IsRename
rename_outside w nester slot x pick stage such out at sound plain = rename_by w nester slot plain x pick such.0 such.1 such.2 out (rw such.3 at at) sound plain
