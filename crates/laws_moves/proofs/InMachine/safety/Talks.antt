-- Who takes up a client or a fault serves nobody else.
use Rattle.std.proofs.Common.{◌≡◌, ℕ, Bool, true, false, if◌then◌else◌, ◌&&◌, [], ◌∷◌, Option, Some, None, option_map, refl, sym}
use Rattle.std.proofs.lemmas.Bool.{and_parts}
use Rattle.fk_model.specs.declared.names.Kind.TheVariants as kinds
use Rattle.fk_model.specs.Places.{Path, same_path, parent, slot_of, Ptr, leads_to}
use Rattle.fk_model.specs.Places.Ptr.{At}
use Rattle.fk_model.specs.Objects.{Talk, Fault, Thread, Body, thread_of, and_then, or_else}
use Rattle.fk_model.specs.Objects.Body.{Port}
use Rattle.fk_model.specs.World.{World}
use Rattle.fk_model.specs.Searches.{talk_at, fault_at, is_serving}
use Rattle.fk_model.specs.Outcomes.{Caller, path_of}
use Rattle.fk_model.specs.LinkRows.{connecting_to, Candidate, is_member, slot_in_set, is_parked, is_open, faulting, connecting, resuming}
use Rattle.fk_model.specs.LinkRows.{candidate_by, candidate}
use Rattle.fk_model.specs.LinkRows.Candidate.{Faulting, Connecting, Resuming}
use Rattle.fk_model.specs.Valid.{kind_there, services, lies_with, IsRooted}
use Rattle.fk_model.proofs.walks.PlaceLaws.{same_path_eq}
use Rattle.laws_moves.proofs.InMachine.safety.Safe.{IsSafeServer}
use Rattle.laws_moves.proofs.InMachine.safety.Reads.{Facts, IsCaller, kind-there}
use Rattle.laws_moves.proofs.InMachine.safety.Objects.{caller-leads}

-- ---- who serves nobody

pub idle-serves : (w : World) → Facts w → (server : Path) → is_serving w server ≡ false → (s q : Path) → leads_to s (At server) ≡ true → services w s q ≡ 0
idle-serves w facts server idle s q leads = let same = same_path_eq server s leads in rw (← same) (facts.walks.idle server idle q)

-- the caller may serve at a port of its space
pub caller-serves : (w : World) (c : Caller) →
    Facts w → IsCaller w c → is_serving w (path_of c) ≡ false → (port : Ptr) → lies_with port (At (path_of c)) → IsSafeServer w port (At (path_of c))
caller-serves w c facts caller idle port near = record { good = caller-leads w c caller; near = near; idle = idle-serves w facts (path_of c) idle }

-- ---- whom a wait finds

-- a pointer that leads to a port in a space
pub record PortIn (w : World) (space : Path) (slot : ℕ) (port : Ptr) : Type 0 where
  pub path : Path
  pub at : port ≡ At path
  pub near : parent path ≡ space
  pub kind : kind_there w path ≡ Some kinds.Port
  pub named : slot_of path ≡ slot

member-port : (w : World) (x : Path) (set : ℕ) (o : Option Body) → w.body x ≡ o → is_member set o ≡ true → kind_there w x ≡ Some kinds.Port
member-port w x set (Some (Port of_set served)) e h = kind-there w x (Port of_set served) e
member-port w x set None e h = cc
member-port w x set (Some b) e h = cc

pub slot-found : (w : World) (space : Path) (set : ℕ) (port : Ptr) (slot : ℕ) → slot_in_set w space set port ≡ Some slot → PortIn w space slot port
slot-found w space set (At x) slot h = by (same_path (parent x) space && is_member set (w.body x)) refl h
  where
    by : (t : Bool) →
        (same_path (parent x) space && is_member set (w.body x)) ≡ t → (if t then Some (slot_of x) else None) ≡ Some slot → PortIn w space slot (At x)
    by true e h = let both = and_parts _ _ e in
        record { path = x; at = refl; near = same_path_eq _ _ both.0; kind = member-port w x set _ refl both.1; named = cc }
    by false e h = cc
slot-found w space set port slot h = cc

-- from anywhere in a space it lies with such a port
pub port-lies : (w : World) (space : Path) (slot k : ℕ) (port : Ptr) → PortIn w space slot port → lies_with port (At (k ∷ space))
port-lies w space slot k port found = let at = found.at in rw at (sym found.near)

port-slot : (w : World) → IsRooted w → (space : Path) (slot : ℕ) (path : Path) →
    parent path ≡ space → kind_there w path ≡ Some kinds.Port → slot_of path ≡ slot → kind_there w (slot ∷ space) ≡ Some kinds.Port
port-slot w rooted space slot [] near kind named = let root = rooted.root in cc
port-slot w rooted space slot (k ∷ s) near kind named = rw (← near, ← named) kind

abbrev pub GoodCandidate : World → Path → Path → Option Candidate → Type 0
GoodCandidate w space x None = Unit {0}
GoodCandidate w space x (Some (Faulting slot fault)) = (fault_at w x ≡ Some fault) × PortIn w space slot fault.port
GoodCandidate w space x (Some (Connecting slot)) = kind_there w (slot ∷ space) ≡ Some kinds.Port
GoodCandidate w space x (Some (Resuming slot talk)) = (talk_at w x ≡ Some talk) × PortIn w space slot talk.port

or_else-good : (w : World) (space x : Path) (a b : Option Candidate) →
    GoodCandidate w space x a → GoodCandidate w space x b → GoodCandidate w space x (or_else a b)
or_else-good w space x None b first second = second
or_else-good w space x (Some a) b first second = first

faulting-good : (w : World) (space : Path) (set : ℕ) (x : Path) (t : Thread) →
    and_then thread_of (w.body x) ≡ Some t → GoodCandidate w space x (faulting w space set t)
faulting-good w space set x t there = by t.fault refl
  where
    slot : (fault : Fault) →
        t.fault ≡ Some fault → (o : Option ℕ) → slot_in_set w space set fault.port ≡ o → GoodCandidate w space x (option_map (λ slot. Faulting slot fault) o)
    slot fault e None found = tt
    slot fault e (Some k) found = (rw there e, slot-found w space set fault.port k found)

    test : (fault : Fault) → t.fault ≡ Some fault →
        (open_ : Bool) → GoodCandidate w space x (if open_ then option_map (λ slot. Faulting slot fault) (slot_in_set w space set fault.port) else None)
    test fault e true = slot fault e _ refl
    test fault e false = tt

    by : (o : Option Fault) → t.fault ≡ o → GoodCandidate w space
        x (and_then (λ (fault : Fault). if is_open fault.taker then option_map (λ slot. Faulting slot fault) (slot_in_set w space set fault.port) else None) o)
    by None e = tt
    by (Some fault) e = test fault e (is_open fault.taker)

resuming-good : (w : World) (space : Path) (set : ℕ) (x : Path) (t : Thread) →
    and_then thread_of (w.body x) ≡ Some t → GoodCandidate w space x (resuming w space set t)
resuming-good w space set x t there = by t.talk refl
  where
    slot : (talk : Talk) →
        t.talk ≡ Some talk → (o : Option ℕ) → slot_in_set w space set talk.port ≡ o → GoodCandidate w space x (option_map (λ slot. Resuming slot talk) o)
    slot talk e None found = tt
    slot talk e (Some k) found = (rw there e, slot-found w space set talk.port k found)

    test : (talk : Talk) → t.talk ≡ Some talk →
        (parked : Bool) → GoodCandidate w space x (if parked then option_map (λ slot. Resuming slot talk) (slot_in_set w space set talk.port) else None)
    test talk e true = slot talk e _ refl
    test talk e false = tt

    by : (o : Option Talk) → t.talk ≡ o → GoodCandidate w space x
        (and_then (λ (talk : Talk). if is_parked (Some talk.peer) then option_map (λ slot. Resuming slot talk) (slot_in_set w space set talk.port) else None) o)
    by None e = tt
    by (Some talk) e = test talk e (is_parked (Some talk.peer))

connecting-good : (w : World) → IsRooted w → (space : Path) (set : ℕ) (x : Path) (t : Thread) → GoodCandidate w space x (connecting w space set x t)
connecting-good w rooted space set x t = by (connecting_to w x t)
  where
    slot : (port : Ptr) (o : Option ℕ) → slot_in_set w space set port ≡ o → GoodCandidate w space x (option_map Connecting o)
    slot port None found = tt
    slot port (Some k) found = let has = slot-found w space set port k found in port-slot w rooted space k has.path has.near has.kind has.named

    by : (o : Option Ptr) → GoodCandidate w space x (option_map Connecting (and_then (slot_in_set w space set) o))
    by None = tt
    by (Some port) = slot port _ refl

pub candidate-good : (w : World) → IsRooted w → (space : Path) (set : ℕ) (x : Path) → GoodCandidate w space x (candidate w space set x)
unfolding candidate
candidate-good w rooted space set x = if_unheld _
  where
    free : (t : Thread) (is_so : Bool) →
        and_then thread_of (w.body x) ≡ Some t → GoodCandidate w space x (if is_so then or_else (connecting w space set x t) (resuming w space set t) else None)
    free t true there = or_else-good w
        space x (connecting w space set x t) (resuming w space set t) (connecting-good w rooted space set x t) (resuming-good w space set x t there)
    free t false there = tt

    by : (o : Option Thread) → and_then thread_of (w.body x) ≡ o → GoodCandidate w space x (and_then (candidate_by w space set x) o)
    by None there = tt
    by (Some t) there = or_else-good w space x (faulting w space set t) _ (faulting-good w space set x t there) (free t _ there)

    if_unheld : (t : Bool) → GoodCandidate w space x (if t then and_then (candidate_by w space set x) (and_then thread_of (w.body x)) else None)
    if_unheld true = by _ refl
    if_unheld false = tt
