-- The spaces that are left to read, and a path from the root.
use Rattle.std.proofs.Common.{◌≡◌, ℕ, zero, suc, ◌-◌, ◌<◌, ◌≤◌, Bool, true, false, List}
use Rattle.std.proofs.Common.{[], ◌∷◌, ◌++◌, map, filter, length, drop, refl, sym, ap, ◌∙◌, arith}
use Rattle.std.specs.Prelude.{slice_get}
use Rattle.std.proofs.lemmas.List.{reverse-append}
use Rattle.fk_model.specs.Places.{Path}
use Rattle.laws_checkpoint.specs.Walk.{Met}
use Rattle.laws_checkpoint.specs.Assembly.{is_space_number, spaces_met}
use Rattle.fk_checkpoint.specs.declared.seeking.met.Met.{Met as CodeMet}
use Rattle.fk_checkpoint.specs.Seeking.Seeking.{up, met_of, mets_of}
use Rattle.fk_checkpoint.proofs.InSeeking.Ways.{up_more}
use Rattle.fk_checkpoint.specs.Gathering.Gathering.{paths_left}
use Rattle.fk_checkpoint.proofs.InGathering.Lefts.{left_next}
use Rattle.fk_checkpoint.specs.Checkpoint.Lefts.{space_in, spaces_in}

pub one_left : (left : List (List ℕ)) (place : List ℕ) (slot : ℕ) → paths_left (left ++ (place ++ slot ∷ []) ∷ []) ≡ (slot ∷ up place) ∷ paths_left left
one_left left place slot = left_next left (place ++ slot ∷ []) ∙ ap (λ p. p ∷ paths_left left) (up_more place slot)

-- the paths of the spaces from a place on
abbrev pub spaces_from : ℕ → List CodeMet → List Path
spaces_from at mets = map (λ (m : Met). m.path) (filter (λ (m : Met). is_space_number m.kind) (mets_of (drop at mets)))

first_space : (m : Met) (ms : List Met) (b : Bool) → is_space_number m.kind ≡ b →
    map (λ (m : Met). m.path) (filter (λ (m : Met). is_space_number m.kind) (m ∷ ms)) ≡ space_in m
    ++ map (λ (m : Met). m.path) (filter (λ (m : Met). is_space_number m.kind) ms)
first_space m ms true e = rw e refl
first_space m ms false e = rw e refl

spaces_step : (mets : List CodeMet) (at : ℕ) → spaces_from at mets ≡ spaces_in (slice_get mets at) ++ spaces_from (suc at) mets
spaces_step [] zero = refl
spaces_step [] (suc at) = refl
spaces_step (d ∷ mets) zero = first_space (met_of d) (mets_of mets) (is_space_number d.kind) refl
spaces_step (d ∷ mets) (suc at) = spaces_step mets at

pub none_left : (mets : List CodeMet) → [] ≡ spaces_from (length mets) mets
none_left [] = refl
none_left (d ∷ mets) = none_left mets

-- one place less
before : (at : ℕ) → 0 < at → at ≡ suc (at - 1)
before at some = omega (arith, some)

pub space_on : (mets : List CodeMet) (at : ℕ) (left more : List (List ℕ)) → 0 < at → paths_left more ≡ spaces_in (slice_get mets (at - 1)) ++ paths_left left →
    paths_left left ≡ spaces_from at mets → paths_left more ≡ spaces_from (at - 1) mets
space_on mets at left more some added rest =
    added ∙ ap (λ ps. spaces_in (slice_get mets (at - 1)) ++ ps) (rest ∙ ap (λ n. spaces_from n mets) (before at some)) ∙ sym (spaces_step mets (at - 1))

pub all_left : (mets : List CodeMet) (at : ℕ) (left : List (List ℕ)) → at ≤ 0 → paths_left left ≡ spaces_from at mets
    → spaces_met (mets_of mets) ≡ [] ∷ paths_left left
all_left mets zero left past is = ap (λ ps. [] ∷ ps) (sym is)
all_left mets (suc at) left past is = absurd (omega (arith, past))

-- ---- from the root down to an object

pub met_last : (slot : ℕ) (place : List ℕ) (own : ℕ) → up (slot ∷ place ++ own ∷ []) ≡ own ∷ (up place ++ slot ∷ [])
met_last slot place own = up_more (slot ∷ place) own ∙ ap (λ p. own ∷ p) (reverse-append (slot ∷ []) place)
