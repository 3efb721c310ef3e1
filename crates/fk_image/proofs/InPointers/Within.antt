-- The spaces beneath a space, and where they end.
use Rattle.std.proofs.Common.{◌≡◌, ℕ, suc, ◌+◌, ◌-◌, ◌<◌, ◌≤◌, Bool, true, false, cond, ltb, List, [], ◌∷◌, length, get_or, drop, refl, sym, ap, ◌∙◌, arith}
use Rattle.std.proofs.Common.{inl, inr, drop-cons}
use Rattle.std.proofs.lemmas.Bool.{cases_lt, lt-ltb, le-ltb}
use Rattle.std.proofs.lemmas.List.{length-drop, drop-drop}
use Rattle.fk_image.specs.declared.image.image.SpaceRec.{SpaceRec}
use Rattle.fk_image.specs.Image.Preorder.{run_beneath}
use Rattle.fk_image.specs.Image.Links.{end_of}
use Rattle.fk_image.specs.Pointers.Places.{KnowsFrom}

run-short : (space : ℕ) (ss : List SpaceRec) → run_beneath space ss ≤ length ss
unfolding run_beneath
run-short space [] = omega arith
run-short space (s ∷ ss) = by (ltb s.parent space) (run-short space ss)
  where
    by : (b : Bool) → run_beneath space ss ≤ length ss → cond b 0 (suc (run_beneath space ss)) ≤ length (s ∷ ss)
    by true h = omega arith
    by false h = omega arith

-- what lies beneath a later space lies beneath an earlier one too
run-run : (space other : ℕ) (ss : List SpaceRec) → space ≤ other →
    run_beneath space ss ≡ run_beneath other ss + run_beneath space (drop (run_beneath other ss) ss)
unfolding run_beneath
run-run space other [] le = refl
run-run space other (s ∷ ss) le = elim (cases_lt s.parent other) [
  | inl lt ↦ rw (lt-ltb s.parent other lt) (omega arith)
  | inr ge ↦ let ih = run-run space other ss le in rw (le-ltb s.parent other ge, le-ltb s.parent space (omega arith)) (omega (arith, ih))
]

run-none : (space : ℕ) (s : SpaceRec) (ss : List SpaceRec) → s.parent < space → run_beneath space (s ∷ ss) ≡ 0
unfolding run_beneath
run-none space s ss lt = rw (lt-ltb s.parent space lt) refl

run-more : (space : ℕ) (s : SpaceRec) (ss : List SpaceRec) → space ≤ s.parent → run_beneath space (s ∷ ss) ≡ suc (run_beneath space ss)
unfolding run_beneath
run-more space s ss le = rw (le-ltb s.parent space le) refl

run-empty : (space : ℕ) → run_beneath space [] ≡ 0
unfolding run_beneath
run-empty space = refl

-- From a place on, what is beneath a space ends where it should.
pub record EndsFrom (spaces : List SpaceRec) (space : ℕ) (at : ℕ) : Type 0 where
  pub behind : space < at
  pub within : at ≤ length spaces
  pub end : at + run_beneath space (drop at spaces) ≡ end_of spaces space

pub starts : (spaces : List SpaceRec) (space : ℕ) → space < length spaces → EndsFrom spaces space (space + 1)
unfolding end_of
starts spaces space lt = record { behind = omega arith; within = omega arith; end = refl }

-- the spaces from a place on
pub from : (spaces : List SpaceRec) (at : ℕ) (s : SpaceRec) → at < length spaces → s ≡ get_or spaces at s → drop at spaces ≡ s ∷ drop (at + 1) spaces
from spaces at s lt is =
    let next : suc at ≡ at + 1 = omega arith in
    drop-cons spaces at s lt ∙ ap (λ (x : SpaceRec). x ∷ drop (suc at) spaces) (sym is) ∙ ap (λ (n : ℕ). s ∷ drop n spaces) next

-- one step over a space beneath it, and all that is beneath that
pub goes : (spaces : List SpaceRec) (space at : ℕ) (s : SpaceRec) → EndsFrom spaces space at → at < length spaces → s ≡ get_or spaces at s → space ≤ s.parent
    → (end_of spaces at ≤ length spaces) × (at < end_of spaces at) × EndsFrom spaces space (end_of spaces at)
unfolding end_of
goes spaces space at s e lt is le =
    let rest = drop (at + 1) spaces in
    let behind = e.behind in
    let short = run-short at rest in
    let len = length-drop (at + 1) spaces in
    let one : run_beneath space (drop at spaces) ≡ suc (run_beneath space rest) = ap (run_beneath space) (from spaces at s lt is) ∙ run-more space s rest le in
    let two : run_beneath space rest ≡ run_beneath at rest + run_beneath space (drop (run_beneath at rest) rest) = run-run space at rest (omega arith) in
    let three : drop (run_beneath at rest) rest ≡ drop (at + 1 + run_beneath at rest) spaces = drop-drop (run_beneath at rest) (at + 1) spaces in
    let four : run_beneath space (drop (run_beneath at rest) rest) ≡ run_beneath space (drop (at + 1 + run_beneath at rest) spaces) =
    ap (run_beneath space) three in
    let end = e.end in
    let within : at + 1 + run_beneath at rest ≤ length spaces = omega (arith, short, len) in
    (within, omega arith, record { behind = omega arith; within = within; end = omega (arith, one, two, four, end) })

-- it ends before a space that lies elsewhere, and behind the last
pub ends_before : (spaces : List SpaceRec) (space at : ℕ) (s : SpaceRec) →
    EndsFrom spaces space at → at < length spaces → s ≡ get_or spaces at s → s.parent < space → at ≡ end_of spaces space
ends_before spaces space at s e lt is less =
    let none : run_beneath space (drop at spaces) ≡ 0 = ap (run_beneath space) (from spaces at s lt is) ∙ run-none space s (drop (at + 1) spaces) less in
    let end = e.end in
    omega (arith, none, end)

pub ends_last : (spaces : List SpaceRec) (space at : ℕ) → EndsFrom spaces space at → length spaces ≤ at → at ≡ end_of spaces space
ends_last spaces space at e le =
    let short = run-short space (drop at spaces) in
    let len = length-drop at spaces in
    let end = e.end in
    omega (arith, short, len, end)
