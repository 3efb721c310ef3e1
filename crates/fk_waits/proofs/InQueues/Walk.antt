-- Walk: the places of threads, as the nodes of the order show them one after another.
use Rattle.std.proofs.Common.{◌≡◌, ℕ, List, [], ◌∷◌, ◌++◌, length, map, Option, refl, sym, ap, subst, ◌∙◌}
use Rattle.fk_model.specs.declared.names.Who.{Who}
use Rattle.fk_waits.specs.Queues.Chains.{IsWay}
use Rattle.fk_waits.specs.Queues.Nodes.{next_of, prev_of, shown_at}
use Rattle.fk_waits.specs.Queues.Places.{node_in, place_at, places_from, who_in, AllFiled, AreFiled, IsFiled, Place}
use Rattle.fk_waits.specs.declared.queues.queues.Queues.{Queues}
use Rattle.fk_waits.proofs.InQueues.Places.{filed_middle}
use Rattle.fk_waits.proofs.InQueues.Turned.{key_of}

pub place_is : (q : Queues) (p : Place) → IsFiled q.order q.lines p → place_at q p.key ≡ p
place_is q p filed =
    let who : who_in (shown_at q.order p.key) ≡ p.who = ap who_in filed.first in
    let node : node_in (shown_at q.order p.key) ≡ p.node = ap node_in filed.first in
    let head : node_in (shown_at q.lines (node_in (shown_at q.order p.key))) ≡ p.head =
    ap (λ (o : Option (Who × ℕ)). node_in (shown_at q.lines (node_in o))) filed.first ∙ ap node_in filed.second in
    λ i. record { key = p.key; node = node i; who = who i; head = head i }

-- the head that the nodes show is the place's
pub head_is : (q : Queues) (a : List Place) (p : Place) (b : List Place) → AreFiled q (a ++ p ∷ b) → (place_at q p.key).head ≡ p.head
head_is q a p b filed = ap (λ (x : Place). x.head) (place_is q p (filed_middle q.order q.lines a p b filed.filed))

walked : (q : Queues) (l : List Place) (a b : ℕ) → IsWay (next_of q.order) (prev_of q.order) a (map key_of l) b → AllFiled q.order q.lines l →
    places_from q (length l) a ≡ l
walked q [] a b way filed = refl
walked q (p ∷ l) a b way filed =
    let here = place_is q p filed.0 in
    let rest = walked q l p.key b way.2 filed.1 in
    let all : place_at q p.key ∷ places_from q (length l) p.key ≡ p ∷ l = λ i. here i ∷ rest i in
    subst (λ (n : ℕ). place_at q n ∷ places_from q (length l) n ≡ p ∷ l) (sym way.0) all

pub places_are : (q : Queues) (l : List Place) → AreFiled q l → places_from q (length l) q.first ≡ l
places_are q l filed = walked q l q.first q.first filed.listed.way filed.filed
