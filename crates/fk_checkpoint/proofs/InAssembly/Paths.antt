-- Paths from the root down, and from the object outwards.
use Rattle.std.proofs.Common.{◌≡◌, ℕ, zero, suc, ◌+◌, ◌<◌, ◌-◌, ◌==◌, Bool, true, false, not}
use Rattle.std.proofs.Common.{take, drop, List, [], ◌∷◌, ◌++◌, length, refl, sym, ap, subst, ◌∙◌, arith}
use Rattle.std.proofs.lemmas.List.{reverse-reverse, length-reverse}
use Rattle.fk_model.specs.Places.{Path, Ptr, same_path, slot_of}
use Rattle.fk_model.proofs.walks.PlaceLaws.{same_path_refl, same_path_eq, same_path_ne, same_path_apart}
use Rattle.std.specs.Prelude.{slice_index}
use Rattle.laws_pictures.specs.Imaged.{rank, link_of, parent_number}
use Rattle.fk_checkpoint.specs.declared.gathering.content.Content.{Content}
use Rattle.fk_checkpoint.specs.Assembly.Assembling.{path_at, spaces_of}
use Rattle.fk_image.specs.declared.image.image.Link.{Link as links}
use Rattle.fk_model.specs.Places.Ptr.{At}
use Rattle.laws_checkpoint.specs.Assembly.{pointer_at, holder_from, behind_holder}
use Rattle.fk_checkpoint.specs.Seeking.Seeking.{up}
use Rattle.fk_checkpoint.proofs.InSeeking.Ways.{up_more, next_way, no_more}

pub same_up : (a b : List ℕ) → same_path (up a) (up b) ≡ same_path a b
same_up a b = by (same_path a b) refl
  where
    back : up a ≡ up b → a ≡ b
    back e = sym (reverse-reverse a) ∙ ap up e ∙ reverse-reverse b

    by : (same : Bool) → same_path a b ≡ same → same_path (up a) (up b) ≡ same_path a b
    by true e = subst (λ c. same_path (up a) (up c) ≡ true) (same_path_eq a b e) (same_path_refl (up a)) ∙ sym e
    by false e = same_path_ne (up a) (up b) (λ same. same_path_apart a b e (back same)) ∙ sym e

pub apart_by_length : (a b : List ℕ) → (length a ≡ length b → ⊥) → same_path a b ≡ false
apart_by_length a b apart = same_path_ne a b (λ same. apart (ap length same))

-- a path that isn't empty, by its last slot
last_apart : (path : List ℕ) (last : ℕ) → length path ≡ suc last → path ≡ take last path ++ slice_index path last ∷ []
last_apart [] last e = absurd (omega (arith, e))
last_apart (k ∷ []) zero e = refl
last_apart (k ∷ j ∷ path) zero e = absurd (omega (arith, e))
last_apart (k ∷ path) (suc last) e = ap (λ ks. k ∷ ks) (last_apart path last (omega (arith, e)))

shown : (path : List ℕ) → (length path ≡ 0 → ⊥) → up path ≡ slice_index path (length path - 1) ∷ up (take (length path - 1) path)
shown path some =
    let last = length path - 1 in
    let long : length path ≡ suc last = omega (arith, some) in
    ap up (last_apart path last long) ∙ up_more (take last path) (slice_index path last)

pub link_up : (sp : List Path) (path : List ℕ) → (length path ≡ 0 → ⊥) →
    link_of sp (At (up path)) ≡ links.In (slice_index path (length path - 1)) (rank sp (up (take (length path - 1) path)))
link_up sp path some = ap (λ q. link_of sp (At q)) (shown path some)

pub parent_up : (sp : List Path) (path : List ℕ) → (length path ≡ 0 → ⊥) → parent_number sp (up path) ≡ rank sp (up (take (length path - 1) path))
parent_up sp path some = ap (λ q. parent_number sp q) (shown path some)

pub slot_up : (path : List ℕ) → (length path ≡ 0 → ⊥) → slot_of (up path) ≡ slice_index path (length path - 1)
slot_up path some = ap slot_of (shown path some)

-- ---- the holder of a space, which the root has not

none_up : (q : Path) → length q ≡ 0 → q ≡ []
none_up [] none = refl
none_up (k ∷ q) none = absurd (omega (arith, none))

root_up : (path : List ℕ) → length path ≡ 0 → up path ≡ []
root_up path none = none_up (up path) (length-reverse path ∙ none)

below : (path : List ℕ) → (length path ≡ 0 → ⊥) → length (up path) ≡ 0 → ⊥
below path some e = some (sym (length-reverse path) ∙ e)

pub holder_none : (sp : List Path) (path : List ℕ) (ps : List Ptr) → length path ≡ 0 → holder_from sp (up path) ps ≡ links.Null
holder_none sp path ps none = ap (λ q. holder_from sp q ps) (root_up path none)

pub holder_some : (sp : List Path) (path : List ℕ) (ps : List Ptr) → (length path ≡ 0 → ⊥) → holder_from sp (up path) ps ≡ link_of sp (pointer_at ps 0)
holder_some sp path ps some = by (up path) (below path some)
  where
    by : (q : Path) → (length q ≡ 0 → ⊥) → holder_from sp q ps ≡ link_of sp (pointer_at ps 0)
    by [] never = absurd (never refl)
    by (k ∷ q) never = refl

pub behind_none : (path : List ℕ) (ps : List Ptr) → length path ≡ 0 → behind_holder (up path) ps ≡ ps
behind_none path ps none = ap (λ q. behind_holder q ps) (root_up path none)

pub behind_some : (path : List ℕ) (ps : List Ptr) → (length path ≡ 0 → ⊥) → behind_holder (up path) ps ≡ drop 1 ps
behind_some path ps some = by (up path) (below path some)
  where
    by : (q : Path) → (length q ≡ 0 → ⊥) → behind_holder q ps ≡ drop 1 ps
    by [] never = absurd (never refl)
    by (k ∷ q) never = refl

-- ---- the number of a path

pub rank_here : (contents : List Content) (at : ℕ) (q : Path) → at < length contents → same_path (up (path_at contents at)) q ≡ true
    → rank (spaces_of (drop at contents)) q ≡ 0
unfolding rank
rank_here [] at q less same = absurd (omega (arith, less))
rank_here (d ∷ contents) zero q less same = rw same refl
rank_here (d ∷ contents) (suc at) q less same = rank_here contents at q (omega (arith, less)) same

pub rank_next : (contents : List Content) (at : ℕ) (q : Path) → at < length contents → same_path (up (path_at contents at)) q ≡ false →
    rank (spaces_of (drop at contents)) q ≡ suc (rank (spaces_of (drop (suc at) contents)) q)
unfolding rank
rank_next [] at q less same = absurd (omega (arith, less))
rank_next (d ∷ contents) zero q less same = rw same refl
rank_next (d ∷ contents) (suc at) q less same = rank_next contents at q (omega (arith, less)) same

-- ---- slot by slot

one_more : (n : ℕ) → suc n ≡ n + 1
one_more n = omega arith

other : (b : Bool) → true ≡ not b → b ≡ false
other true e = cc
other false e = refl

alike : (b : Bool) → false ≡ not b → b ≡ true
alike true e = refl
alike false e = cc

pub differs : (place path : List ℕ) (at : ℕ) → at < length place → at < length path → true ≡ not (slice_index place at == slice_index path at) →
    same_path (drop at place) (drop at path) ≡ false
unfolding same_path
differs place path at inside there apart = rw (next_way place at inside, next_way path at there, other (slice_index place at == slice_index path at) apart) refl

pub agrees : (place path : List ℕ) (at : ℕ) → at < length place → at < length path → false ≡ not (slice_index place at == slice_index path at) →
    same_path (drop (at + 1) place) (drop (at + 1) path) ≡ same_path (drop at place) (drop at path)
unfolding same_path
agrees place path at inside there same =
    subst (λ n. same_path (drop n place) (drop n path) ≡ same_path (drop at place) (drop at path)) (one_more at)
    (rw (next_way place at inside, next_way path at there, alike (slice_index place at == slice_index path at) same) refl)

pub ended : (place path : List ℕ) (at : ℕ) → (at < length place → ⊥) → (at < length path → ⊥) → same_path (drop at place) (drop at path) ≡ true
unfolding same_path
ended place path at past over = rw (no_more place at past, no_more path at over) refl

-- ---- number by number

pub rank_found : (contents : List Content) (at all : ℕ) (q : Path) → at < length contents → same_path (up (path_at contents at)) q ≡ true
    → all ≡ at + rank (spaces_of (drop at contents)) q → at ≡ all
rank_found contents at all q less same is = let here = rank_here contents at q less same in omega (arith, here, is)

pub rank_on : (contents : List Content) (at all : ℕ) (q : Path) → at < length contents → same_path (up (path_at contents at)) q ≡ false
    → all ≡ at + rank (spaces_of (drop at contents)) q →
    all ≡ (at + 1) + rank (spaces_of (drop (at + 1) contents)) q
rank_on contents at all q less same is =
    let next = rank_next contents at q less same in
    subst (λ n. all ≡ n + rank (spaces_of (drop n contents)) q) (one_more at) (omega (arith, next, is))

pub rank_behind : (contents : List Content) (at all : ℕ) (q : Path) → (at < length contents → ⊥) → all ≡ at + rank (spaces_of (drop at contents)) q → at ≡ all
unfolding rank
rank_behind contents at all q past is =
    let none : rank (spaces_of (drop at contents)) q ≡ 0 = rw (no_more contents at past) refl in
    omega (arith, none, is)
