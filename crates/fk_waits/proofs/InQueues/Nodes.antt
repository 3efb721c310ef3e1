-- Nodes: lists of a slab's nodes, after two nodes were linked.
use Rattle.std.proofs.Common.{◌≡◌, ◌≢◌, ℕ, List, [], ◌∷◌, ◌++◌, Some, IsSome, refl, ap, sym, subst, ◌∙◌, inl, inr}
use Rattle.std.proofs.lemmas.Bool.{cases_eq}
use Rattle.slab.specs.Slab.{Slab, get, with_value, Updates}
use Rattle.slab.proofs.SlabLemmas.{Updates-with_value}
use Rattle.fk_waits.specs.Queues.Chains.{put_at, IsList, IsNoneOf}
use Rattle.fk_waits.specs.Queues.Nodes.{next_in, prev_in, next_of, prev_of, AreDisjoint, IsListed}
use Rattle.fk_waits.specs.declared.queues.lists.Node.{Node}
use Rattle.fk_waits.proofs.InQueues.Chains.{put-same, put-swap, same_everywhere, joins_last, leaves_list, list_agrees, others_stay, last_is, before_is}
use Rattle.fk_waits.proofs.InQueues.Chains.{behind_is}

-- one node stands right before another now
pub record AreLinked (old new : Slab Node) (before behind : ℕ) : Type 0 where
  pub next : (m : ℕ) → next_of new m ≡ put_at (next_of old) before behind m
  pub prev : (m : ℕ) → prev_of new m ≡ put_at (prev_of old) behind before m

-- a list of the nodes as they are linked now
relisted : (old new : Slab Node) (before behind head : ℕ) (l : List ℕ) → AreLinked old new before behind →
    IsList (put_at (next_of old) before behind) (put_at (prev_of old) behind before) head l → IsListed new head l
relisted old new before behind head l linked is =
    subst (λ f. IsList f (prev_of new) head l) (sym (same_everywhere linked.next))
    (subst (λ g. IsList (put_at (next_of old) before behind) g head l) (sym (same_everywhere linked.prev)) is)

-- one without both nodes stays
pub linked_elsewhere : (old new : Slab Node) (before behind head : ℕ) (l : List ℕ) → AreLinked old new before behind →
    IsListed old head l → IsNoneOf before (head ∷ l) → IsNoneOf behind (head ∷ l) → IsListed new head l
linked_elsewhere old new before behind head l linked is off out =
    relisted old new before behind head l linked (others_stay (next_of old) (prev_of old) head l before behind behind before is off out)

-- a node was linked last behind a head: its last node, the node itself and the head say so
pub record IsLinkedLast (s u : Slab Node) (head node last : ℕ) : Type 0 where
  pub next : (m : ℕ) → next_of u m ≡ put_at (put_at (next_of s) last node) node head m
  pub prev : (m : ℕ) → prev_of u m ≡ put_at (put_at (prev_of s) head node) node last m

-- a list of the nodes as they are linked then
linked_so : (s u : Slab Node) (head node last h : ℕ) (l : List ℕ) → IsLinkedLast s u head node last →
    IsList (put_at (put_at (next_of s) last node) node head) (put_at (put_at (prev_of s) head node) node last) h l → IsListed u h l
linked_so s u head node last h l linked is =
    subst (λ f. IsList f (prev_of u) h l) (sym (same_everywhere linked.next))
    (subst (λ g. IsList (put_at (put_at (next_of s) last node) node head) g h l) (sym (same_everywhere linked.prev)) is)

pub joined : (s u : Slab Node) (head node last : ℕ) (l : List ℕ) → last ≡ prev_of s head → IsLinkedLast s u head node last →
    IsListed s head l → IsNoneOf node (head ∷ l) → IsListed u head (l ++ node ∷ [])
joined s u head node last l end linked is off =
    let made = subst (λ (p : ℕ). IsList (put_at (put_at (next_of s) p node) node head) (put_at (put_at (prev_of s) node p) head node) head (l ++ node ∷ []))
    (sym end) (joins_last (next_of s) (prev_of s) head node l is off) in
    linked_so s u head node last head (l ++ node ∷ []) linked
    (subst (λ (g : ℕ → ℕ). IsList (put_at (put_at (next_of s) last node) node head) g head (l ++ node ∷ []))
    (same_everywhere (λ m. put-swap (prev_of s) node last head node m off.0)) made)

pub joined_elsewhere : (s u : Slab Node) (head node last h : ℕ) (k l : List ℕ) → last ≡ prev_of s head → IsLinkedLast s u head node last →
    IsListed s head k → IsListed s h l → AreDisjoint (head ∷ k) (h ∷ l) → IsNoneOf node (h ∷ l) → IsListed u h l
joined_elsewhere s u head node last h k l end linked mine is apart off =
    let other = last_is (λ (n : ℕ). IsNoneOf n (h ∷ l)) (next_of s) (prev_of s) head k head mine.way apart in
    let first = others_stay (next_of s) (prev_of s) h l last node head node is (subst (λ (n : ℕ). IsNoneOf n (h ∷ l)) (sym end) other) apart.0 in
    linked_so s u head node last h l linked
    (others_stay (put_at (next_of s) last node) (put_at (prev_of s) head node) h l node head node last first off off)

pub left : (s t : Slab Node) (node before behind h : ℕ) (l k : List ℕ) → prev_of s node ≡ before → next_of s node ≡ behind → AreLinked s t before behind →
    IsListed s h (l ++ node ∷ k) → IsListed t h (l ++ k)
left s t node before behind h l k is_before is_behind linked is =
    let made = subst (λ (p : ℕ). IsList (put_at (next_of s) p (next_of s node)) (put_at (prev_of s) (next_of s node) p) h (l ++ k)) is_before
    (leaves_list (next_of s) (prev_of s) h node l k is) in
    relisted s t before behind h (l ++ k) linked
    (subst (λ (n : ℕ). IsList (put_at (next_of s) before n) (put_at (prev_of s) n before) h (l ++ k)) is_behind made)

pub left_elsewhere : (s t : Slab Node) (node before behind g h : ℕ) (k m l : List ℕ) → prev_of s node ≡ before → next_of s node ≡ behind →
    AreLinked s t before behind →
    IsListed s g (k ++ node ∷ m) → IsListed s h l → AreDisjoint (g ∷ (k ++ node ∷ m)) (h ∷ l) → IsListed t h l
left_elsewhere s t node before behind g h k m l is_before is_behind linked mine is apart =
    linked_elsewhere s t before behind h l linked is
    (subst (λ (n : ℕ). IsNoneOf n (h ∷ l)) is_before (before_is (λ (n : ℕ). IsNoneOf n (h ∷ l)) (next_of s) (prev_of s) g node k m g mine.way apart))
    (subst (λ (n : ℕ). IsNoneOf n (h ∷ l)) is_behind (behind_is (λ (n : ℕ). IsNoneOf n (h ∷ l)) (next_of s) (prev_of s) g node k m g mine.way apart.1 apart.0))

-- ---- a node that stands alone

pub listed_alone : (s t : Slab Node) (n : ℕ) → AreLinked s t n n → IsListed t n []
listed_alone s t n linked = record {
  way = (linked.next n ∙ put-same (next_of s) n n, linked.prev n ∙ put-same (prev_of s) n n);
  apart = (tt, tt);
}

-- lists without one node stay, where the others are linked as they were
pub listed_besides : (s t : Slab Node) (n h : ℕ) (l : List ℕ) → ((m : ℕ) → m ≢ n → next_of t m ≡ next_of s m) → ((m : ℕ) → m ≢ n → prev_of t m ≡ prev_of s m) →
    IsListed s h l → IsNoneOf n (h ∷ l) → IsListed t h l
listed_besides s t n h l next prev is off = list_agrees (next_of s) (prev_of s) (next_of t) (prev_of t) h l n is next prev off

-- ---- a node that shows something else

module _ (s : Slab Node) (n : ℕ) (node other : Node) (there : Some node ≡ get s n) (next : other.next ≡ node.next) (prev : other.prev ≡ node.prev) where
  put : Updates s (with_value s n other) n (Some other)
  put = Updates-with_value s n other (subst IsSome there refl)

  next-stays : (m : ℕ) → next_of (with_value s n other) m ≡ next_of s m
  next-stays m = elim (cases_eq m n) [
    | inl same ↦ rw same (ap (next_in n) put.changed ∙ next ∙ ap (next_in n) there)
    | inr apart ↦ ap (next_in m) (put.others m apart)
  ]

  prev-stays : (m : ℕ) → prev_of (with_value s n other) m ≡ prev_of s m
  prev-stays m = elim (cases_eq m n) [
    | inl same ↦ rw same (ap (prev_in n) put.changed ∙ prev ∙ ap (prev_in n) there)
    | inr apart ↦ ap (prev_in m) (put.others m apart)
  ]

  pub listed_shown : (h : ℕ) (l : List ℕ) → IsListed s h l → IsListed (with_value s n other) h l
  listed_shown h l is =
      subst (λ (f : ℕ → ℕ). IsList f (prev_of (with_value s n other)) h l) (sym (same_everywhere next-stays))
      (subst (λ (g : ℕ → ℕ). IsList (next_of s) g h l) (sym (same_everywhere prev-stays)) is)
