-- A likeness stays one where a change of the small world stands for the change of the big one.
use Rattle.std.proofs.Common.{◌≡◌, ℕ, Bool, true, false, cond, List, [], ◌∷◌, ◌++◌, Option, Some, None, IfSome, option_map, refl, sym, ap, ◌∙◌}
use Rattle.fk_model.specs.declared.names.Kind.TheVariants as kinds
use Rattle.fk_model.specs.Places.{Path, same_path, is_within, Ptr}
use Rattle.fk_model.specs.Places.Ptr.{At}
use Rattle.fk_model.specs.Objects.{Body, kind_of, and_then, Thread, thread_of}
use Rattle.fk_model.specs.Objects.Body.{Space}
use Rattle.fk_model.specs.World.{World, Change, Edit, edited, at_path, with_page, birth_after, apply}
use Rattle.fk_model.specs.World.Change.{Alter, Make, MakeSpace, Kill, Move, PutPage, DropPage}
use Rattle.fk_model.specs.World.Edit.{Proceed, SetPointer, SetHolder, SetTalk, SetPeer, SetFault, SetTaker}
use Rattle.fk_model.specs.Readers.{kind_at}
use Rattle.fk_model.specs.Valid.{kind_there}
use Rattle.fk_model.specs.Cut.{seen_by, unheld}
use Rattle.fk_model.proofs.walks.PlaceLaws.{same_path_eq, same_path_sym, same_path_above, same_path_cancel, same_path_outside}
use Rattle.laws_subtrees.specs.Cut.Likeness.{seeing, HasLikeness, IsPlainBody, IsLikeness}
use Rattle.laws_subtrees.specs.Cut.LikeChanges.{seen_edit, IsSeenEdit, IsOutside}
use Rattle.laws_subtrees.proofs.InCut.likeness.Pointers.{all_in_body, ptr_moved}
use Rattle.laws_subtrees.proofs.InCut.likeness.Holds.{strip_none}
use Rattle.laws_subtrees.proofs.InCut.likeness.Edits.{kind-edited, IsAtPort, IsGood, edited-seen, edited-kept}

-- a path outside is none inside
pub outside_apart : (root q x : Path) → is_within root x ≡ false → same_path x (q ++ root) ≡ false
outside_apart root q x apart = same_path_sym x (q ++ root) ∙ same_path_outside root q x (strip_none root x apart)

off : {A : Type 0} (t : Bool) (a b : A) → t ≡ false → cond t a b ≡ b
off t a b h = rw h refl

pub kind_kept : (edit : Edit) (t : Bool) (v : Option Body) →
    and_then (λ b. Some (kind_of b)) (cond t (option_map (edited edit) v) v) ≡ and_then (λ b. Some (kind_of b)) v
kind_kept edit true None = refl
kind_kept edit true (Some b) = ap Some (kind-edited edit b)
kind_kept edit false v = refl

module _ {root : Path} {see : Ptr → Ptr} {small big : World} (like : IsLikeness root see small big) where
  -- what a body is seen as at a path
  abbrev shown : Path → Option Body → Option Body
  shown q v = option_map (λ b. unheld q (seen_by (seeing see) b)) v

  abbrev Near : Option Body → Type 0
  Near v = IfSome v (IsPlainBody see (HasLikeness root see big))

  -- ---- a change at one path inside

  module _ (k : ℕ) (q : Path) (f g : Option Body → Option Body)
      (alike : shown (k ∷ q) (g (big.body (k ∷ (q ++ root)))) ≡ f (small.body (k ∷ q))) (near : Near (g (big.body (k ∷ (q ++ root))))) where
    after : World
    after = at_path (k ∷ (q ++ root)) g big

    at_inside : (z : Path) → cond (same_path z (k ∷ q))
        (f (small.body z)) (small.body z) ≡ shown z (cond (same_path (z ++ root) (k ∷ (q ++ root))) (g (big.body (z ++ root))) (big.body (z ++ root)))
    at_inside z = rw (same_path_cancel z (k ∷ q) root) (by (same_path z (k ∷ q)) refl)
      where
        by : (t : Bool) →
            same_path z (k ∷ q) ≡ t → cond t (f (small.body z)) (small.body z) ≡ shown z (cond t (g (big.body (z ++ root))) (big.body (z ++ root)))
        by true e = let same = same_path_eq z (k ∷ q) e in rw same (sym alike)
        by false e = like.bodies z

    stay_ports : (x : Path) → is_within root x ≡ false → kind_at big (At x) ≡ Some kinds.Port →
        and_then (λ b. Some (kind_of b)) (cond (same_path x (k ∷ (q ++ root))) (g (big.body x)) (big.body x)) ≡ Some kinds.Port
    stay_ports x apart port = rw (outside_apart root (k ∷ q) x apart) port

    near_inside : (j : ℕ) (z : Path) →
        IfSome (cond (same_path (j ∷ (z ++ root)) (k ∷ (q ++ root))) (g (big.body (j ∷ (z ++ root)))) (big.body (j ∷ (z ++ root))))
        (IsPlainBody see (HasLikeness root see big))
    near_inside j z = by (same_path (j ∷ (z ++ root)) (k ∷ (q ++ root))) refl
      where
        by : (t : Bool) → same_path (j ∷ (z ++ root)) (k ∷ (q ++ root)) ≡ t → Near (cond t (g (big.body (j ∷ (z ++ root)))) (big.body (j ∷ (z ++ root))))
        by true e = let same = same_path_eq (j ∷ (z ++ root)) (k ∷ (q ++ root)) e in rw same near
        by false e = like.plain j z

    pub at_path-like : IsLikeness root see (at_path (k ∷ q) f small) (at_path (k ∷ (q ++ root)) g big)
    unfolding kind_there
    at_path-like = record {
      bodies = at_inside;
      pages = like.pages;
      unborn = like.unborn;
      top = rw (same_path_above k q root) like.top;
      plain = λ j z. all_in_body see see (λ p. refl) (HasLikeness root see big) (HasLikeness root see (at_path (k ∷ (q ++ root)) g big))
          (λ p h. ptr_moved root big (at_path (k ∷ (q ++ root)) g big) stay_ports p (see p) h) _ (near_inside j z);
      within = like.within;
      null = like.null;
      dead = like.dead;
    }

  -- ---- an edit

  at_port : (out : Bool) (edit : Edit) (b : Body) (x : Path) → big.body x ≡ Some b → IsSeenEdit root see big out x edit → IsAtPort see out edit b
  at_port out (SetPeer peer) b x is h = rw (sym (ap (and_then (λ (t : Thread). t.talk)) (ap (and_then thread_of) is)) ∙ h.0.1) h.0.2
  at_port out (SetTaker taker) b x is h = rw (sym (ap (and_then (λ (t : Thread). t.fault)) (ap (and_then thread_of) is)) ∙ h.0.1) h.0.2
  at_port out edit b x is h = tt

  is_good : (out : Bool) (edit : Edit) (x : Path) → IsSeenEdit root see big out x edit → IsGood see (HasLikeness root see big) out edit
  is_good out (SetPeer peer) x h = h.1
  is_good out (Proceed mode counter) x h = h
  is_good out (SetPointer to) x h = h
  is_good out (SetHolder holder) x h = h
  is_good out (SetTalk talk) x h = h
  is_good out (SetFault fault) x h = h
  is_good out (SetTaker taker) x h = h.1
  is_good out edit x h = tt

  pub alter-like : (out : Bool) (k : ℕ) (q : Path) (edit : Edit) → IsSeenEdit root see big out (k ∷ (q ++ root)) edit →
      IsLikeness root see (apply (Alter (k ∷ q) (seen_edit see out edit)) small) (apply (Alter (k ∷ (q ++ root)) edit) big)
  unfolding apply
  alter-like out k q edit h = at_path-like k q (option_map (edited (seen_edit see out edit)))
      (option_map (edited edit)) (rw (like.bodies (k ∷ q)) (alike (big.body (k ∷ (q ++ root))) refl)) (near (big.body (k ∷ (q ++ root))) refl (like.plain k q))
    where
      alike : (v : Option Body) →
          big.body (k ∷ (q ++ root)) ≡ v → shown (k ∷ q) (option_map (edited edit) v) ≡ option_map (edited (seen_edit see out edit)) (shown (k ∷ q) v)
      alike None is = refl
      alike (Some b) is = ap Some (edited-seen see out edit b (at_port out edit b (k ∷ (q ++ root)) is h))

      near : (v : Option Body) → big.body (k ∷ (q ++ root)) ≡ v → Near v → Near (option_map (edited edit) v)
      near None is good = tt
      near (Some b) is good =
          edited-kept see (HasLikeness root see big) out edit b (at_port out edit b (k ∷ (q ++ root)) is h) (is_good out edit (k ∷ (q ++ root)) h) good

  -- ---- a new object

  pub make-like : (k : ℕ) (q : Path) (body : Body) → IsPlainBody see (HasLikeness root see big) body →
      IsLikeness root see (apply (Make (k ∷ q) (seen_by (seeing see) body)) small) (apply (Make (k ∷ (q ++ root)) body) big)
  unfolding apply
  make-like k q body h = at_path-like k q (λ there. Some (seen_by (seeing see) body)) (λ there. Some body) refl h

  pub make_space-like : (k : ℕ) (q : Path) (holder : Option Ptr) → IfSome holder (HasLikeness root see big) →
      IsLikeness root see (apply (MakeSpace (k ∷ q) (and_then (seeing see).holder holder)) small) (apply (MakeSpace (k ∷ (q ++ root)) holder) big)
  unfolding apply seen_by kind_there
  make_space-like k q holder h =
      let made : IsLikeness root see (at_path (k ∷ q) (λ there. Some (Space small.next (and_then (seeing see).holder holder))) small)
      (at_path (k ∷ (q ++ root)) (λ there. Some (Space big.next holder)) big) =
      at_path-like k q (λ there. Some (Space small.next (and_then (seeing see).holder holder)))
      (λ there. Some (Space big.next holder)) (ap (λ (n : ℕ). Some (Space n (and_then (seeing see).holder holder))) (sym like.unborn)) h in
      record {
        bodies = made.bodies;
        pages = made.pages;
        unborn = ap birth_after like.unborn;
        top = made.top;
        plain = λ j z. all_in_body see see (λ p. refl) (HasLikeness root see (at_path (k ∷ (q ++ root)) (λ there. Some (Space big.next holder)) big))
            (HasLikeness root see (apply (MakeSpace (k ∷ (q ++ root)) holder) big))
            (λ p h. ptr_moved root _ _ (λ x apart port. port) p (see p) h) _ (made.plain j z);
        within = like.within;
        null = like.null;
        dead = like.dead;
      }

  -- ---- pages

  pub page-like : (q : Path) (page : ℕ) (words : Option (List ℕ)) → IsLikeness root see (with_page q page words small) (with_page (q ++ root) page words big)
  unfolding kind_there
  page-like q page words = record {
    bodies = like.bodies;
    pages = λ z g. rw (same_path_cancel z q root, like.pages z g) refl;
    unborn = like.unborn;
    top = like.top;
    plain = λ j z. all_in_body see see (λ p. refl) (HasLikeness root see big)
        (HasLikeness root see (with_page (q ++ root) page words big)) (λ p h. ptr_moved root _ _ (λ x apart port. port) p (see p) h) _ (like.plain j z);
    within = like.within;
    null = like.null;
    dead = like.dead;
  }

  -- ---- what is outside

  outside_body : (x : Path) (edit : Edit) → is_within root x ≡ false →
      (z : Path) → cond (same_path (z ++ root) x) (option_map (edited edit) (big.body (z ++ root))) (big.body (z ++ root)) ≡ big.body (z ++ root)
  outside_body x edit apart z = off _ _ _ (same_path_outside root z x (strip_none root x apart))

  alter_outside : (x : Path) (edit : Edit) → is_within root x ≡ false → IsLikeness root see small (apply (Alter x edit) big)
  unfolding apply kind_there
  alter_outside x edit apart = record {
    bodies = λ z. rw (outside_body x edit apart z) (like.bodies z);
    pages = like.pages;
    unborn = like.unborn;
    top = rw (outside_body x edit apart []) like.top;
    plain = λ j z. rw (outside_body x edit apart (j ∷ z))
        (all_in_body see see (λ p. refl) (HasLikeness root see big) (HasLikeness root see (at_path x (option_map (edited edit)) big))
        (λ p h. ptr_moved root _ _ (λ y out port. kind_kept edit (same_path y x) (big.body y) ∙ port) p (see p) h) _ (like.plain j z));
    within = like.within;
    null = like.null;
    dead = like.dead;
  }

  page_outside : (space : Path) (page : ℕ) (words : Option (List ℕ)) → is_within root space ≡ false → IsLikeness root see small (with_page space page words big)
  unfolding kind_there
  page_outside space page words apart = record {
    bodies = like.bodies;
    pages = λ z g. rw (same_path_outside root z space (strip_none root space apart)) (like.pages z g);
    unborn = like.unborn;
    top = like.top;
    plain = λ j z. all_in_body see see (λ p. refl) (HasLikeness root see big)
        (HasLikeness root see (with_page space page words big)) (λ p h. ptr_moved root _ _ (λ x out port. port) p (see p) h) _ (like.plain j z);
    within = like.within;
    null = like.null;
    dead = like.dead;
  }

  pub outside-like : (d : Change) → IsOutside root d → IsLikeness root see small (apply d big)
  unfolding apply
  outside-like (Alter x edit) apart = alter_outside x edit apart
  outside-like (PutPage space page words) apart = page_outside space page (Some words) apart
  outside-like (DropPage space page) apart = page_outside space page None apart
  outside-like (Make x body) apart = absurd apart
  outside-like (MakeSpace x holder) apart = absurd apart
  outside-like (Kill x) apart = absurd apart
  outside-like (Move x slot) apart = absurd apart
