-- Gone: where threads stand after one has gone.
use Rattle.std.proofs.Common.{◌≡◌, ◌≢◌, ℕ, List, [], ◌∷◌, ◌++◌, map, Option, Some, None, is_some, sym, ap, subst, ◌∙◌}
use Rattle.slab.specs.Slab.{Slab}
use Rattle.fk_model.specs.declared.names.Who.{Who}
use Rattle.fk_waits.specs.Queues.Chains.{AreApart, IsNoneOf}
use Rattle.fk_waits.specs.Queues.Nodes.{shown_at, IsListed}
use Rattle.fk_waits.specs.declared.queues.lists.Node.{Node}
use Rattle.fk_waits.proofs.InQueues.Chains.{apart-without}
use Rattle.fk_waits.specs.Queues.Places.{in_queue, AllFiled, AreFiled, AreLines, IsHead, Place}
use Rattle.fk_waits.specs.declared.queues.queues.Queues.{Queues}
use Rattle.fk_waits.proofs.InQueues.Places.{keys_split, none_in_queue}
use Rattle.fk_waits.proofs.InQueues.Standing.{middle_apart, middle_none}
use Rattle.fk_waits.proofs.InQueues.Turned.{all_without, key_of, no_head, node_of}

pub none_some : {x : Who × ℕ} → None ≡ Some x → ⊥
none_some is = absurd (cc)

pub flip : (a b : ℕ) → a ≢ b → b ≢ a
flip a b h e = h (sym e)

-- others are filed as before, where all but one node show what they did
pub rest_filed : (order order' s t : Slab Node) (key node : ℕ) → ((m : ℕ) → m ≢ key → shown_at order' m ≡ shown_at order m) →
    ((m : ℕ) → m ≢ node → shown_at t m ≡ shown_at s m) → ((h : ℕ) → IsHead s h → h ≢ node) →
    (l : List Place) → AllFiled order s l → IsNoneOf key (map key_of l) → IsNoneOf node (map node_of l) → AllFiled order' t l
rest_filed order order' s t key node same shown heads [] filed off none = tt
rest_filed order order' s t key node same shown heads (q ∷ l) filed off none = (
  record {
    first = same q.key (flip key q.key off.0) ∙ filed.0.first;
    second = shown q.node (flip node q.node none.0) ∙ filed.0.second;
    head = (filed.0.head.0, shown q.head (heads q.head filed.0.head) ∙ filed.0.head.1);
  },
  rest_filed order order' s t key node same shown heads l filed.1 off.1 none.1,
)

left_by : (q : Queues) (order : Slab Node) (t : Slab Node) (a : List Place) (p : Place) (b : List Place) → AreFiled q (a ++ p ∷ b) →
    ((m : ℕ) → m ≢ p.key → shown_at order m ≡ shown_at q.order m) →
    ((l k : List ℕ) → IsListed q.order q.first (l ++ p.key ∷ k) → IsListed order q.first (l ++ k)) →
    shown_at t p.node ≡ None → ((m : ℕ) → m ≢ p.node → shown_at t m ≡ shown_at q.lines m) →
    ((h : ℕ) → IsHead q.lines h → IsNoneOf p.node (h ∷ in_queue h (a ++ b)) → IsListed t h (in_queue h (a ++ b))) →
    AreFiled (record { order = order; lines = t; first = q.first }) (a ++ b)
left_by q order t a p b filed same left gone others rest =
    let heads = no_head q.order q.lines a p b filed.filed filed.lines in
    let nodes : AreApart (map node_of a ++ p.node ∷ map node_of b) = subst AreApart (keys_split node_of a (p ∷ b)) filed.apart in
    let listed : IsListed q.order q.first (map key_of a ++ p.key ∷ map key_of b) = subst (IsListed q.order q.first) (keys_split key_of a
    (p ∷ b)) filed.listed in
    let none : IsNoneOf p.node (map node_of (a ++ b)) = subst (IsNoneOf p.node) (sym (keys_split node_of a b)) (middle_none (map node_of a)
    (map node_of b) p.node nodes) in
    let off : IsNoneOf p.key (map key_of (a ++ b)) = subst (IsNoneOf p.key) (sym (keys_split key_of a b)) (middle_none (map key_of a)
    (map key_of b) p.key listed.apart.1) in
    record {
      start = ap (λ (o : Option (Who × ℕ)). is_some o) (same q.first (middle_apart q.first (map key_of a) (map key_of b) p.key listed.apart.0)) ∙ filed.start;
      listed = subst (IsListed order q.first) (sym (keys_split key_of a b)) (left (map key_of a) (map key_of b) listed);
      filed = rest_filed q.order order q.lines t p.key p.node same others heads (a ++ b) (all_without q.order q.lines a p b filed.filed) off none;
      apart = subst AreApart (sym (keys_split node_of a b)) (apart-without p.node (map node_of a) (map node_of b) nodes);
      lines = λ h head. by h head (was h head);
    }
  where
    off_node : (h : ℕ) → IsHead t h → h ≢ p.node
    off_node h head same_node = none_some (sym gone ∙ ap (shown_at t) (sym same_node) ∙ head.1)

    was : (h : ℕ) → IsHead t h → IsHead q.lines h
    was h head = (head.0, sym (others h (off_node h head)) ∙ head.1)

    by : (h : ℕ) → IsHead t h → IsHead q.lines h → IsListed t h (in_queue h (a ++ b))
    by h head before =
        let nodes : AreApart (map node_of a ++ p.node ∷ map node_of b) = subst AreApart (keys_split node_of a (p ∷ b)) filed.apart in
        let none : IsNoneOf p.node (map node_of (a ++ b)) =
        subst (IsNoneOf p.node) (sym (keys_split node_of a b)) (middle_none (map node_of a) (map node_of b) p.node nodes) in
        rest h before (flip h p.node (off_node h head), none_in_queue h p.node (a ++ b) none)

pub filed_left : (q : Queues) (key node : ℕ) (order : Slab Node) → ((m : ℕ) → m ≢ key → shown_at order m ≡ shown_at q.order m) →
    ((l k : List ℕ) → IsListed q.order q.first (l ++ key ∷ k) → IsListed order q.first (l ++ k)) → (t : Slab Node) →
    shown_at t node ≡ None → ((m : ℕ) → m ≢ node → shown_at t m ≡ shown_at q.lines m) →
    ((o : Slab Node) (a b : List Place) (p : Place) → AllFiled o q.lines (a ++ p ∷ b) → AreLines q.lines (a ++ p ∷ b) → p.node ≡ node →
    (h : ℕ) → IsHead q.lines h → IsNoneOf node (h ∷ in_queue h (a ++ b)) → IsListed t h (in_queue h (a ++ b))) →
    (a : List Place) (p : Place) (b : List Place) → AreFiled q (a ++ p ∷ b) → p.key ≡ key → p.node ≡ node →
    AreFiled (record { order = order; lines = t; first = q.first }) (a ++ b)
filed_left q key node order same left t gone others rest a p b filed is_key is_node =
    left_by q order t a p b filed
    (subst (λ (n : ℕ). (m : ℕ) → m ≢ n → shown_at order m ≡ shown_at q.order m) (sym is_key) same)
    (subst (λ (n : ℕ). (l k : List ℕ) → IsListed q.order q.first (l ++ n ∷ k) → IsListed order q.first (l ++ k)) (sym is_key) left)
    (subst (λ (n : ℕ). shown_at t n ≡ None) (sym is_node) gone)
    (subst (λ (n : ℕ). (m : ℕ) → m ≢ n → shown_at t m ≡ shown_at q.lines m) (sym is_node) others)
    (subst (λ (n : ℕ). (h : ℕ) → IsHead q.lines h → IsNoneOf n (h ∷ in_queue h (a ++ b)) → IsListed t h (in_queue h (a ++ b))) (sym is_node)
    (rest q.order a b p filed.filed filed.lines is_node))
