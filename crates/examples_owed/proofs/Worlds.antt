-- The worlds in which a porter's scratch leads somewhere are whole and savable.
use Rattle.std.proofs.Common.{◌≡◌, ℕ, ◌≤◌, Bool, true, false, not, ◌&&◌, IsSome, List, [], ◌∷◌, if◌then◌else◌, eqb, Option, Some, None, refl, arith}
use Rattle.fk_model.specs.declared.limits.TheConstants.{MOST_STOPS}
use Rattle.fk_model.specs.Places.{Path, same_path, parent, slot_of, Ptr}
use Rattle.fk_model.specs.Places.Ptr.{Null, At}
use Rattle.fk_model.specs.Objects.{Talk, Fault, Body}
use Rattle.fk_model.specs.Objects.Mode.{Running}
use Rattle.fk_model.specs.Objects.Body.{Space, Thread_of, Reference}
use Rattle.fk_model.specs.Valid.{kind_there}
use Rattle.fk_model.specs.Whole.{is_scratch_slot, IsWhole, IsSavable}
use Rattle.examples_moves.specs.Worked.{body_in, page_with, registers_from, running, with_talk, with_fault}
use Rattle.examples_premises.specs.Premises.{premises, nesters_porter, within, objects_of, pages_of}
use Rattle.examples_premises.proofs.Listed.{All, found, IsShapedAt, whole, savable}
use Rattle.examples_owed.specs.Owed.{leads_within, leads_outside, scratched, with_register, with_counter, with_moved, with_missing, with_word, talk_of_moved}
use Rattle.examples_owed.specs.Owed.{fault_on_page}

abbrev listed : Ptr → List (Path × Body)
listed to = ([], Space 0 None) ∷ (240 ∷ [], Reference to) ∷ objects_of (Some (At nesters_porter))

home : ℕ → Path
unfolding same_path
home n = if eqb n 0 then [] else (if eqb n 1 then 1 ∷ [] else within 6)

pub whole-within : IsWhole leads_within
unfolding premises home kind_there
whole-within = whole leads_within (listed (At (within 5))) pages_of (λ x. refl) (λ s g. refl) home (λ s. within 2) (within 0) refl refl refl (omega arith)

pub whole-outside : IsWhole leads_outside
unfolding premises home kind_there
whole-outside = whole leads_outside (listed (At nesters_porter)) pages_of (λ x. refl) (λ s g. refl) home (λ s. within 2) (within 0) refl refl refl (omega arith)

shapes : (to : Ptr) → All IsShapedAt (listed to)
unfolding premises
shapes to = let few : 0 ≤ MOST_STOPS = omega arith in assumption few

pub savable-within : IsSavable leads_within
unfolding premises
savable-within = savable leads_within (listed (At (within 5))) pages_of (λ x. refl) (λ s g. refl) refl refl (shapes (At (within 5)))

pub savable-outside : IsSavable leads_outside
unfolding premises
savable-outside = savable leads_outside (listed (At nesters_porter)) pages_of (λ x. refl) (λ s g. refl) refl refl (shapes (At nesters_porter))

-- nothing stands in a scratch slot of the space that the porter holds
abbrev is_clear_at : Path → Body → Bool
is_clear_at x b = not (is_scratch_slot (slot_of x) && same_path (parent x) (1 ∷ []))

pub clear : (k : ℕ) → is_scratch_slot k ≡ true → IsSome (leads_outside.body (k ∷ 1 ∷ [])) → ⊥
unfolding premises
clear k scratch live = by (body_in (listed (At nesters_porter)) (k ∷ 1 ∷ [])) refl live
  where
    not_both : (t : Bool) → t ≡ true → not (t && true) ≡ true → ⊥
    not_both true e h = cc
    not_both false e h = cc

    by : (o : Option Body) → body_in (listed (At nesters_porter)) (k ∷ 1 ∷ []) ≡ o → IsSome o → ⊥
    by None e h = cc
    by (Some b) e h = not_both (is_scratch_slot k) scratch (found is_clear_at (listed (At nesters_porter)) refl (k ∷ 1 ∷ []) b e)

-- ---- with one object more

abbrev and_more : Path → Body → Option Ptr → List (Path × Body)
and_more x b holder = ([], Space 0 None) ∷ (x, b) ∷ objects_of holder

shapes_more : (x : Path) (b : Body) (holder : Option Ptr) → IsShapedAt x b → All IsShapedAt (and_more x b holder)
unfolding premises
shapes_more x b holder its = let few : 0 ≤ MOST_STOPS = omega arith in assumption (few, its)

pub savable-scratched : IsSavable scratched
unfolding premises scratched
savable-scratched =
    savable scratched (and_more (within 240) (Reference Null) (Some (At nesters_porter))) pages_of (λ x. refl) (λ s g. refl) refl refl
    (shapes_more (within 240) (Reference Null) (Some (At nesters_porter)) tt)

shapes-thread : (register counter : ℕ) (talk : Option Talk) (fault : Option Fault) → All IsShapedAt (and_more (within 13)
    (Thread_of (record { mode = Running (registers_from (register ∷ [])); counter = counter; stops = 0; talk = talk; fault = fault })) None)
unfolding premises
shapes-thread register counter talk fault = let few : 0 ≤ MOST_STOPS = omega arith in assumption few

shapes-bare : (counter : ℕ) (talk : Option Talk) (fault : Option Fault) → All IsShapedAt (and_more (within 13)
    (Thread_of (record { mode = Running (registers_from []); counter = counter; stops = 0; talk = talk; fault = fault })) None)
unfolding premises
shapes-bare counter talk fault = let few : 0 ≤ MOST_STOPS = omega arith in assumption few

pub savable-register : IsSavable (with_register 0xffff_ffff_ffff_ffff)
unfolding premises
savable-register =
    savable (with_register 0xffff_ffff_ffff_ffff) (and_more (within 13) (running 0 (0xffff_ffff_ffff_ffff ∷ [])) None) pages_of (λ x. refl) (λ s g. refl)
    refl refl (shapes-thread 0xffff_ffff_ffff_ffff 0 None None)

pub savable-counter : IsSavable (with_counter 0xffff_ffff_ffff_ffff)
unfolding premises
savable-counter =
    savable (with_counter 0xffff_ffff_ffff_ffff) (and_more (within 13) (running 0xffff_ffff_ffff_ffff []) None) pages_of (λ x. refl) (λ s g. refl)
    refl refl (shapes-bare 0xffff_ffff_ffff_ffff None None)

pub savable-moved : IsSavable (with_moved 65535)
unfolding premises
savable-moved =
    savable (with_moved 65535) (and_more (within 13) (with_talk (talk_of_moved 65535) (running 0 [])) None) pages_of (λ x. refl) (λ s g. refl)
    refl refl (shapes-bare 0 (Some (talk_of_moved 65535)) None)

pub savable-missing : IsSavable (with_missing 255)
unfolding premises
savable-missing =
    savable (with_missing 255) (and_more (within 13) (with_fault (fault_on_page 255) (running 0 [])) None) pages_of (λ x. refl) (λ s g. refl)
    refl refl (shapes-bare 0 None (Some (fault_on_page 255)))

shapes-none : All IsShapedAt (([], Space 0 None) ∷ objects_of None)
unfolding premises
shapes-none = let few : 0 ≤ MOST_STOPS = omega arith in assumption few

pub savable-word : IsSavable (with_word 0xffff_ffff_ffff_ffff)
unfolding premises
savable-word =
    savable (with_word 0xffff_ffff_ffff_ffff) (([], Space 0 None) ∷ objects_of None) (page_with (within 6) 1 (0xffff_ffff_ffff_ffff ∷ []) ∷ pages_of)
    (λ x. refl) (λ s g. refl) refl refl shapes-none
