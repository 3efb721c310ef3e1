-- Closed subtrees: nothing inside leads out but to ports of the nester, and nothing outside leads in.
use Rattle.std.specs.Prelude.{◌≡◌, ℕ, nat_lt, Bool, not, ◌&&◌, ◌||◌, List, [], ◌∷◌, ◌++◌, Option, Some, None, option_map, if◌then◌else◌}
use Rattle.std.specs.List.{list_any}
use Rattle.fk_model.specs.Places.{Path, parent, is_within}
use Rattle.fk_model.specs.Objects.{Talk, Fault, Thread, Body, and_then, or_else, holds}
use Rattle.fk_model.specs.Objects.Body.{Mutex, Cond, Mapping, Region, Port, Portset, Space, Thread_of, Reference}
use Rattle.fk_model.specs.World.{World}
use Rattle.fk_model.specs.Searches.{objects, pointers_to}
use Rattle.fk_model.specs.Holds.{holder_of}
use Rattle.fk_model.specs.Talks.{path_to}
use Rattle.fk_model.specs.ObjectRows.{is_scratch}
use Rattle.fk_model.specs.Cut.{cut, is_far, is_out}

-- where a subtree isn't closed: an object, by its path from the nester, and the number of a field of it
pub record Place : Type 0 where
  pub path : Path
  pub field : ℕ

-- the field that says that a pointer from outside leads to the object
abbrev pub led_to_from_outside : ℕ
led_to_from_outside = 15

abbrev pub when_bad : Bool → ℕ → Option ℕ
when_bad bad field = if bad then Some field else None

abbrev pub talk_leads_far : Thread → Bool
talk_leads_far t = holds (λ (talk : Talk). is_far talk.port) t.talk

abbrev pub fault_leads_far : Thread → Bool
fault_leads_far t = holds (λ (fault : Fault). is_far fault.port) t.fault

-- the first pointer field of an object, as the cut shows it, that leads where it may not. Servers and takers aren't looked
-- at, since they live with their ports; a mapping leads inside or nowhere
abbrev pub far_field : Option Body → Option ℕ
far_field None = None
far_field (Some (Mapping m)) = when_bad (is_far m.region || is_out m.region) 0
far_field (Some (Region r)) = when_bad (is_far r.keeper) 0
far_field (Some (Space birth holder)) = when_bad (holds (λ p. is_far p || is_out p) holder) 0
far_field (Some (Thread_of t)) = or_else (when_bad (talk_leads_far t) 0) (when_bad (fault_leads_far t) 2)
far_field (Some (Reference to)) = when_bad (is_far to) 0
far_field (Some (Mutex locked)) = None
far_field (Some Cond) = None
far_field (Some (Port set served)) = None
far_field (Some Portset) = None

-- the scratch of who holds the subtree's root
abbrev pub is_holders_scratch : World → Path → Path → Bool
is_holders_scratch w root x = holds (λ holder. is_scratch (parent holder) x) (and_then path_to (holder_of (w.body root)))

-- an object outside, no scratch of the holder, has a pointer to y
abbrev pub leads_in_from : World → Path → Path → Path → Bool
leads_in_from w root y x = not (is_within root x) && not (is_holders_scratch w root x) && nat_lt 0 (pointers_to y (w.body x))

-- some pointer of the world, from outside the subtree at a root, leads to an object in it
abbrev pub is_led_to : World → Path → Path → Bool
is_led_to w root y = list_any (leads_in_from w root y) ([] ∷ objects w)

-- the first fault of an object at q in the subtree
abbrev pub open_field : World → Path → ℕ → Path → Option ℕ
open_field w nester slot q =
    or_else (far_field ((cut w nester slot).body q)) (when_bad (is_led_to w (slot ∷ nester) (q ++ slot ∷ nester)) led_to_from_outside)

abbrev pub first_place : (Path → Option ℕ) → ℕ → List Path → Option Place
first_place field slot [] = None
first_place field slot (q ∷ qs) = or_else (option_map (λ number. record { path = q ++ slot ∷ []; field = number }) (field q)) (first_place field slot qs)

-- the first place at which the subtree isn't closed, object by object in preorder, in each by field number
unfoldable pub open_place : World → Path → ℕ → Option Place
open_place w nester slot = first_place (open_field w nester slot) slot ([] ∷ objects (cut w nester slot))

abbrev pub IsClosed : World → Path → ℕ → Type 0
IsClosed w nester slot = open_place w nester slot ≡ None
