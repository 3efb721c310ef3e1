-- Kept: where threads stand once there is more room.
use Rattle.std.proofs.Common.{◌≡◌, ℕ, List, [], ◌∷◌, map, refl, sym, subst}
use Rattle.slab.specs.Slab.{Slab}
use Rattle.fk_waits.specs.Queues.Chains.{IsList}
use Rattle.fk_waits.specs.Queues.Nodes.{next_of, prev_of, IsListed}
use Rattle.fk_waits.specs.declared.queues.lists.Node.{Node}
use Rattle.fk_waits.proofs.InQueues.Chains.{same_everywhere}
use Rattle.fk_waits.specs.Queues.Places.{in_queue, AllFiled, AreFiled, Place}
use Rattle.fk_waits.specs.declared.queues.queues.Queues.{Queues}

-- a slab with other room
abbrev roomy : Slab Node → ℕ → Slab Node
roomy s room = record s { capacity = room }

listed_still : (s : Slab Node) (room h : ℕ) (l : List ℕ) → IsListed s h l → IsListed (roomy s room) h l
listed_still s room h l is =
    subst (λ (f : ℕ → ℕ). IsList f (prev_of (roomy s room)) h l) (same_everywhere {f = next_of s} {g = next_of (roomy s room)} (λ m. refl))
    (subst (λ (g : ℕ → ℕ). IsList (next_of s) g h l) (same_everywhere {f = prev_of s} {g = prev_of (roomy s room)} (λ m. refl)) is)

filed_still : (order lines : Slab Node) (c d : ℕ) (l : List Place) → AllFiled order lines l → AllFiled (roomy order c) (roomy lines d) l
filed_still order lines c d [] filed = tt
filed_still order lines c d (p ∷ l) filed =
    (record { first = filed.0.first; second = filed.0.second; head = filed.0.head }, filed_still order lines c d l filed.1)

still : (q : Queues) (c d : ℕ) (l : List Place) → AreFiled q l → AreFiled (record { order = roomy q.order c; lines = roomy q.lines d; first = q.first }) l
still q c d l filed = record {
  start = filed.start;
  listed = listed_still q.order c q.first (map (λ (p : Place). p.key) l) filed.listed;
  filed = filed_still q.order q.lines c d l filed.filed;
  apart = filed.apart;
  lines = λ h is. listed_still q.lines d h (in_queue h l) (filed.lines h is);
}

pub kept_both : (q : Queues) (order lines : Slab Node) (l : List Place) → order ≡ roomy q.order order.capacity → lines ≡ roomy q.lines lines.capacity →
    AreFiled q l → AreFiled (record { order = order; lines = lines; first = q.first }) l
kept_both q order lines l is also filed =
    subst (λ (s : Slab Node). AreFiled (record { order = s; lines = lines; first = q.first }) l) (sym is)
    (subst (λ (t : Slab Node). AreFiled (record { order = roomy q.order order.capacity; lines = t; first = q.first }) l) (sym also)
    (still q order.capacity lines.capacity l filed))
