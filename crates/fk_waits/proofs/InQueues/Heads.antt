-- Heads: which nodes are heads after a thread's node has changed, and after a queue has.
use Rattle.std.proofs.Common.{◌≡◌, ◌≢◌, ◌==◌, ℕ, Bool, true, false, List, [], ◌∷◌, ◌++◌, map, Option, Some, None, is_some}
use Rattle.std.proofs.Common.{if◌then◌else◌, refl, sym, ap, subst, ◌∙◌, eq-eqb}
use Rattle.std.proofs.lemmas.Bool.{eqb-true}
use Rattle.slab.specs.Slab.{Slab, get}
use Rattle.fk_model.specs.declared.names.Who.{Who}
use Rattle.fk_waits.specs.Queues.Chains.{AreApart, IsNoneOf}
use Rattle.fk_waits.specs.Queues.Nodes.{shown_at, IsListed}
use Rattle.fk_waits.specs.declared.queues.lists.Node.{Node}
use Rattle.fk_waits.specs.Queues.Places.{in_queue, node_in, AllFiled, AreFiled, HasPlace, IsFiled, IsHead, Place, SameHeads}
use Rattle.fk_waits.specs.declared.queues.queues.Queues.{Queues}
use Rattle.fk_waits.proofs.InQueues.Places.{differs, filed_middle, keys_split, none_in_queue, one_head, IsAt}
use Rattle.fk_waits.proofs.InQueues.Standing.{middle_apart, middle_none}
use Rattle.fk_waits.proofs.InQueues.Turned.{key_of, no_head, node_of, place_read}
use Rattle.fk_waits.proofs.InQueues.Gone.{flip, none_some, rest_filed}

-- a node that is no head before or after is all that changes
pub heads_same : (s t : Slab Node) (node : ℕ) → ((h : ℕ) → IsHead s h → h ≢ node) → ((h : ℕ) → IsHead t h → h ≢ node) →
    ((m : ℕ) → m ≢ node → shown_at t m ≡ shown_at s m) → SameHeads s t
heads_same s t node before behind others = record {
  kept = λ h is. others h (before h is);
  none = λ h is. (is.0, sym (others h (behind h is)) ∙ is.1);
}

-- a node that leads to another one's head is none
pub leads_away : (t : Slab Node) (node head : ℕ) (who : Who) → shown_at t node ≡ Some (who, head) → head ≢ node → (h : ℕ) → IsHead t h → h ≢ node
leads_away t node head who shown off h is same = off (one_head t head node node (who, shown) (subst (IsHead t) same is))

pub gone_away : (t : Slab Node) (node : ℕ) → shown_at t node ≡ None → (h : ℕ) → IsHead t h → h ≢ node
gone_away t node gone h is same = none_some (sym gone ∙ ap (shown_at t) (sym same) ∙ is.1)

-- the node that the code reads is no head
pub read_apart : (q : Queues) (key : ℕ) (n : Node) → HasPlace q key → Some n ≡ get q.order key → (h : ℕ) → IsHead q.lines h → h ≢ n.at
read_apart q key n has read h is =
    let p = has.place in
    let here : Some n ≡ get q.order p.key = subst (λ (k : ℕ). Some n ≡ get q.order k) (sym has.is) read in
    let node : p.node ≡ n.at = (place_read q has.before p has.behind n has.filed here).1 in
    subst (λ (m : ℕ). h ≢ m) node (no_head q.order q.lines has.before p has.behind has.filed.filed has.filed.lines h is)

-- ---- heads and the nodes of all threads

tail_none : (g : ℕ) (p : Place) (l : List Place) → IsNoneOf g (in_queue g (p ∷ l)) → IsNoneOf g (in_queue g l)
tail_none g p l none = by (p.head == g) refl none
  where
    by : (t : Bool) → (p.head == g) ≡ t → IsNoneOf g (if p.head == g then p.node ∷ in_queue g l else in_queue g l) → IsNoneOf g (in_queue g l)
    by true e h = (rw e at h).1
    by false e h = rw e at h

off_head : (p : Place) (l : List Place) → IsNoneOf p.head (in_queue p.head (p ∷ l)) → p.head ≢ p.node
off_head p l none = let on = eq-eqb p.head p.head refl in (rw on at none).0

pub no_heads : (order s : Slab Node) (h : ℕ) → IsHead s h → (l : List Place) → AllFiled order s l → ((g : ℕ) → IsHead s g → IsNoneOf g (in_queue g l)) →
    IsNoneOf h (map node_of l)
no_heads order s h is [] filed apart = tt
no_heads order s h is (p ∷ l) filed apart = (
  (λ (e : h ≡ p.node). off_head p l (apart p.head filed.0.head)
      (sym (one_head s h p.head p.node (subst (IsAt s h) e is) (p.who, filed.0.second)) ∙ e)),
  no_heads order s h is l filed.1 (λ g head. tail_none g p l (apart g head)),
)

pub off_nodes : (q : Queues) (h : ℕ) → IsHead q.lines h → (l : List Place) → AreFiled q l → IsNoneOf h (map node_of l)
off_nodes q h is l filed = no_heads q.order q.lines h is l filed.filed (λ g head. (filed.lines g head).apart.0)

-- ---- a queue has another name

named_filed : (order s t : Slab Node) (head : ℕ) (name : Who) → shown_at t head ≡ Some (name, head) → ((m : ℕ) → m ≢ head → shown_at t m ≡ shown_at s m) →
    (l : List Place) → AllFiled order s l → IsNoneOf head (map node_of l) → AllFiled order t l
named_filed order s t head name shown others [] filed none = tt
named_filed order s t head name shown others (p ∷ l) filed none = (
  record { first = filed.0.first; second = others p.node (flip head p.node none.0) ∙ filed.0.second; head = by (p.head == head) refl },
  named_filed order s t head name shown others l filed.1 none.1,
)
  where
    by : (b : Bool) → (p.head == head) ≡ b → IsHead t p.head
    by true e = (name, subst (λ (h : ℕ). shown_at t h ≡ Some (name, h)) (sym (eqb-true p.head head e)) shown)
    by false e = (filed.0.head.0, others p.head (differs p.head head e) ∙ filed.0.head.1)

pub queue_named : (q : Queues) (head : ℕ) (name : Who) (t : Slab Node) → IsHead q.lines head → shown_at t head ≡ Some (name, head) →
    ((m : ℕ) → m ≢ head → shown_at t m ≡ shown_at q.lines m) → ((h : ℕ) (l : List ℕ) → IsListed q.lines h l → IsListed t h l) →
    (l : List Place) → AreFiled q l → AreFiled (record { order = q.order; lines = t; first = q.first }) l
queue_named q head name t is shown others lists l filed = record {
  start = filed.start;
  listed = filed.listed;
  filed = named_filed q.order q.lines t head name shown others l filed.filed (off_nodes q head is l filed);
  apart = filed.apart;
  lines = λ h now. lists h (in_queue h l) (filed.lines h (was h now (h == head) refl));
}
  where
    was : (h : ℕ) → IsHead t h → (b : Bool) → (h == head) ≡ b → IsHead q.lines h
    was h now true e = subst (IsHead q.lines) (sym (eqb-true h head e)) is
    was h now false e = (now.0, sym (others h (differs h head e)) ∙ now.1)

-- ---- a queue goes

-- nobody stands in a queue without nodes
pub none_stands : (h : ℕ) (l : List Place) → in_queue h l ≡ [] → IsNoneOf h (map (λ (p : Place). p.head) l)
none_stands h [] empty = tt
none_stands h (p ∷ l) empty = by (p.head == h) refl empty (λ rest. none_stands h l rest)
  where
    by : (b : Bool) → (p.head == h) ≡ b → (if p.head == h then p.node ∷ in_queue h l else in_queue h l) ≡ [] →
        (in_queue h l ≡ [] → IsNoneOf h (map (λ (x : Place). x.head) l)) → IsNoneOf h (p.head ∷ map (λ (x : Place). x.head) l)
    by true e is rest = let no = rw e at is in absurd (cc)
    by false e is rest = (flip p.head h (differs p.head h e), rest (rw e at is))

closed_filed : (order s t : Slab Node) (head : ℕ) → ((m : ℕ) → m ≢ head → shown_at t m ≡ shown_at s m) →
    (l : List Place) → AllFiled order s l → IsNoneOf head (map node_of l) → IsNoneOf head (map (λ (p : Place). p.head) l) → AllFiled order t l
closed_filed order s t head others [] filed none off = tt
closed_filed order s t head others (p ∷ l) filed none off = (
  record {
    first = filed.0.first;
    second = others p.node (flip head p.node none.0) ∙ filed.0.second;
    head = (filed.0.head.0, others p.head (flip head p.head off.0) ∙ filed.0.head.1);
  },
  closed_filed order s t head others l filed.1 none.1 off.1,
)

pub queue_closed : (q : Queues) (head : ℕ) (t : Slab Node) → IsHead q.lines head → shown_at t head ≡ None →
    ((m : ℕ) → m ≢ head → shown_at t m ≡ shown_at q.lines m) →
    ((h : ℕ) (l : List ℕ) → IsListed q.lines h l → IsNoneOf head (h ∷ l) → IsListed t h l) →
    (l : List Place) → AreFiled q l → in_queue head l ≡ [] → AreFiled (record { order = q.order; lines = t; first = q.first }) l
queue_closed q head t is gone others lists l filed empty = record {
  start = filed.start;
  listed = filed.listed;
  filed = closed_filed q.order q.lines t head others l filed.filed none (none_stands head l empty);
  apart = filed.apart;
  lines = λ h now. lists h (in_queue h l) (filed.lines h (now.0, sym (others h (gone_away t head gone h now)) ∙ now.1))
      (flip h head (gone_away t head gone h now), none_in_queue h head l none);
}
  where
    none : IsNoneOf head (map node_of l)
    none = off_nodes q head is l filed

-- ---- a thread has another name

pub all_before : (order s : Slab Node) (a : List Place) (p : Place) (b : List Place) → AllFiled order s (a ++ p ∷ b) → AllFiled order s a
all_before order s [] p b filed = tt
all_before order s (x ∷ a) p b filed = (filed.0, all_before order s a p b filed.1)

pub all_behind : (order s : Slab Node) (a : List Place) (p : Place) (b : List Place) → AllFiled order s (a ++ p ∷ b) → AllFiled order s b
all_behind order s [] p b filed = filed.1
all_behind order s (x ∷ a) p b filed = all_behind order s a p b filed.1

all_with : (order s : Slab Node) (a : List Place) (p : Place) (b : List Place) → AllFiled order s a → IsFiled order s p → AllFiled order s b →
    AllFiled order s (a ++ p ∷ b)
all_with order s [] p b before mine behind = (mine, behind)
all_with order s (x ∷ a) p b before mine behind = (before.0, all_with order s a p b before.1 mine behind)

none_left : (n : ℕ) (f : Place → ℕ) (a b : List Place) → IsNoneOf n (map f (a ++ b)) → IsNoneOf n (map f a)
none_left n f [] b none = tt
none_left n f (x ∷ a) b none = (none.0, none_left n f a b none.1)

none_right : (n : ℕ) (f : Place → ℕ) (a b : List Place) → IsNoneOf n (map f (a ++ b)) → IsNoneOf n (map f b)
none_right n f [] b none = none
none_right n f (x ∷ a) b none = none_right n f a b none.1

abbrev pub renamed : Place → Who → Place
renamed p who = record { key = p.key; node = p.node; who = who; head = p.head }

same_keys : (a : List Place) (p : Place) (b : List Place) (who : Who) → map key_of (a ++ p ∷ b) ≡ map key_of (a ++ renamed p who ∷ b)
same_keys [] p b who = refl
same_keys (x ∷ a) p b who = ap (λ (l : List ℕ). x.key ∷ l) (same_keys a p b who)

same_nodes : (a : List Place) (p : Place) (b : List Place) (who : Who) → map node_of (a ++ p ∷ b) ≡ map node_of (a ++ renamed p who ∷ b)
same_nodes [] p b who = refl
same_nodes (x ∷ a) p b who = ap (λ (l : List ℕ). x.node ∷ l) (same_nodes a p b who)

same_queue : (h : ℕ) (a : List Place) (p : Place) (b : List Place) (who : Who) → in_queue h (a ++ p ∷ b) ≡ in_queue h (a ++ renamed p who ∷ b)
same_queue h [] p b who = refl
same_queue h (x ∷ a) p b who = ap (λ (l : List ℕ). if x.head == h then x.node ∷ l else l) (same_queue h a p b who)

thread_named_at : (q : Queues) (who : Who) (order t : Slab Node) (a : List Place) (p : Place) (b : List Place) → AreFiled q (a ++ p ∷ b) →
    shown_at order p.key ≡ Some (who, p.node) → ((m : ℕ) → m ≢ p.key → shown_at order m ≡ shown_at q.order m) →
    ((h : ℕ) (l : List ℕ) → IsListed q.order h l → IsListed order h l) →
    shown_at t p.node ≡ Some (who, p.head) → ((m : ℕ) → m ≢ p.node → shown_at t m ≡ shown_at q.lines m) →
    ((h : ℕ) (l : List ℕ) → IsListed q.lines h l → IsListed t h l) →
    AreFiled (record { order = order; lines = t; first = q.first }) (a ++ renamed p who ∷ b)
thread_named_at q who order t a p b filed key keys orders node nodes lists = record {
  start = ap (λ (o : Option (Who × ℕ)). is_some o) (keys q.first (middle_apart q.first (map key_of a) (map key_of b) p.key listed.apart.0)) ∙ filed.start;
  listed = subst (IsListed order q.first) (same_keys a p b who) (orders q.first (map key_of (a ++ p ∷ b)) filed.listed);
  filed = all_with order t a (renamed p who) b
      (rest_filed q.order order q.lines t p.key p.node keys nodes heads a (all_before q.order q.lines a p b filed.filed) (none_left p.key key_of a b off)
      (none_left p.node node_of a b none))
      (record { first = key; second = node; head = (mine.head.0, nodes p.head (heads p.head mine.head) ∙ mine.head.1) })
      (rest_filed q.order order q.lines t p.key p.node keys nodes heads b (all_behind q.order q.lines a p b filed.filed) (none_right p.key key_of a b off)
      (none_right p.node node_of a b none));
  apart = subst AreApart (same_nodes a p b who) filed.apart;
  lines = λ h now. subst (IsListed t h) (same_queue h a p b who) (lists h (in_queue h (a ++ p ∷ b)) (filed.lines h (was h now)));
}
  where
    heads : (h : ℕ) → IsHead q.lines h → h ≢ p.node
    heads = no_head q.order q.lines a p b filed.filed filed.lines

    mine : IsFiled q.order q.lines p
    mine = filed_middle q.order q.lines a p b filed.filed

    listed : IsListed q.order q.first (map key_of a ++ p.key ∷ map key_of b)
    listed = subst (IsListed q.order q.first) (keys_split key_of a (p ∷ b)) filed.listed

    apart_nodes : AreApart (map node_of a ++ p.node ∷ map node_of b)
    apart_nodes = subst AreApart (keys_split node_of a (p ∷ b)) filed.apart

    none : IsNoneOf p.node (map node_of (a ++ b))
    none = subst (IsNoneOf p.node) (sym (keys_split node_of a b)) (middle_none (map node_of a) (map node_of b) p.node apart_nodes)

    off : IsNoneOf p.key (map key_of (a ++ b))
    off = subst (IsNoneOf p.key) (sym (keys_split key_of a b)) (middle_none (map key_of a) (map key_of b) p.key listed.apart.1)

    was : (h : ℕ) → IsHead t h → IsHead q.lines h
    was h now = (now.0, sym (nodes h (leads_away t p.node p.head who node (heads p.head mine.head) h now)) ∙ now.1)

-- by the numbers that the code reads
pub thread_named : (q : Queues) (key : ℕ) (n : Node) (head : ℕ) (who : Who) (order t : Slab Node) → Some n ≡ get q.order key →
    head ≡ node_in (shown_at q.lines n.at) →
    shown_at order key ≡ Some (who, n.at) → ((m : ℕ) → m ≢ key → shown_at order m ≡ shown_at q.order m) →
    ((h : ℕ) (l : List ℕ) → IsListed q.order h l → IsListed order h l) →
    shown_at t n.at ≡ Some (who, head) → ((m : ℕ) → m ≢ n.at → shown_at t m ≡ shown_at q.lines m) →
    ((h : ℕ) (l : List ℕ) → IsListed q.lines h l → IsListed t h l) →
    (a b : List Place) (p : Place) → AreFiled q (a ++ p ∷ b) → p.key ≡ key →
    AreFiled (record { order = order; lines = t; first = q.first }) (a ++ renamed p who ∷ b)
thread_named q key n head who order t read is shown keys orders now nodes lists a b p filed same =
    let here : Some n ≡ get q.order p.key = subst (λ (k : ℕ). Some n ≡ get q.order k) (sym same) read in
    let node : p.node ≡ n.at = (place_read q a p b n filed here).1 in
    let mine = filed_middle q.order q.lines a p b filed.filed in
    let at : head ≡ p.head = is ∙ ap (λ (m : ℕ). node_in (shown_at q.lines m)) (sym node) ∙ ap node_in mine.second in
    thread_named_at q who order t a p b filed
    (subst (λ (k : ℕ). shown_at order k ≡ Some (who, p.node)) (sym same) (subst (λ (k : ℕ). shown_at order key ≡ Some (who, k)) (sym node) shown))
    (subst (λ (k : ℕ). (m : ℕ) → m ≢ k → shown_at order m ≡ shown_at q.order m) (sym same) keys) orders
    (subst (λ (k : ℕ). shown_at t k ≡ Some (who, p.head)) (sym node) (subst (λ (k : ℕ). shown_at t n.at ≡ Some (who, k)) at now))
    (subst (λ (k : ℕ). (m : ℕ) → m ≢ k → shown_at t m ≡ shown_at q.lines m) (sym node) nodes) lists

-- the queue that the code reads isn't the thread's own node
pub read_away : (q : Queues) (key : ℕ) (n : Node) (head : ℕ) → HasPlace q key → Some n ≡ get q.order key → head ≡ node_in (shown_at q.lines n.at) → head ≢ n.at
read_away q key n head has read is =
    let p = has.place in
    let here : Some n ≡ get q.order p.key = subst (λ (k : ℕ). Some n ≡ get q.order k) (sym has.is) read in
    let node : p.node ≡ n.at = (place_read q has.before p has.behind n has.filed here).1 in
    let mine = filed_middle q.order q.lines has.before p has.behind has.filed.filed in
    let at : head ≡ p.head = is ∙ ap (λ (m : ℕ). node_in (shown_at q.lines m)) (sym node) ∙ ap node_in mine.second in
    let off = no_head q.order q.lines has.before p has.behind has.filed.filed has.filed.lines p.head mine.head in
    λ (e : head ≡ n.at). off (sym at ∙ e ∙ sym node)
