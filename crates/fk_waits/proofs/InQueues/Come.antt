-- Come: where threads stand after a queue was opened, and after a thread has come.
use Rattle.std.proofs.Common.{◌≡◌, ◌≢◌, ◌==◌, ℕ, Bool, true, false, List, [], ◌∷◌, ◌++◌}
use Rattle.std.proofs.Common.{map, Option, Some, None, is_some, IsSome, if◌then◌else◌, refl, sym, ap, subst, ◌∙◌}
use Rattle.std.proofs.lemmas.Bool.{eqb-true}
use Rattle.slab.specs.Slab.{Slab, ContainsKey}
use Rattle.fk_model.specs.declared.names.Who.{Who}
use Rattle.fk_waits.specs.Queues.Chains.{AllAre, AreApart, IsNoneOf}
use Rattle.fk_waits.specs.Queues.Nodes.{prev_of, shown_at, AreDisjoint, IsListed}
use Rattle.fk_waits.specs.declared.queues.lists.Node.{Node}
use Rattle.fk_waits.proofs.InQueues.Chains.{apart-append}
use Rattle.fk_waits.specs.Queues.Places.{in_queue, AllFiled, AreFiled, AreLines, IsHead, Place}
use Rattle.fk_waits.specs.declared.queues.queues.Queues.{Queues}
use Rattle.fk_waits.proofs.InQueues.Places.{differs, keys_split, line_at, lines_joined, none_in_queue, one_head, IsAt}
use Rattle.fk_waits.proofs.InQueues.Standing.{last_there, there_by}
use Rattle.fk_waits.proofs.InQueues.Turned.{and_last, at_there, key_of, keys_there, node_of}
use Rattle.fk_waits.proofs.InQueues.Gone.{flip, none_some, rest_filed}

-- ---- what isn't there yet is nobody's

vacant : (s : Slab Node) (m n : ℕ) (x : Who × ℕ) → shown_at s n ≡ None → shown_at s m ≡ Some x → n ≢ m
vacant s m n x none some same = none_some (sym none ∙ ap (shown_at s) same ∙ some)

no_node : (order s : Slab Node) (n : ℕ) → shown_at s n ≡ None → (l : List Place) → AllFiled order s l → IsNoneOf n (map node_of l)
no_node order s n none [] filed = tt
no_node order s n none (p ∷ l) filed = (vacant s p.node n (p.who, p.head) none filed.0.second, no_node order s n none l filed.1)

no_key : (order s : Slab Node) (n : ℕ) → shown_at order n ≡ None → (l : List Place) → AllFiled order s l → IsNoneOf n (map key_of l)
no_key order s n none [] filed = tt
no_key order s n none (p ∷ l) filed = (vacant order p.key n (p.who, p.node) none filed.0.first, no_key order s n none l filed.1)

no_queue : (order s : Slab Node) (h : ℕ) → shown_at s h ≡ None → (l : List Place) → AllFiled order s l → in_queue h l ≡ []
no_queue order s h none [] filed = refl
no_queue order s h none (p ∷ l) filed = by (p.head == h) refl (no_queue order s h none l filed.1)
  where
    by : (t : Bool) → (p.head == h) ≡ t → in_queue h l ≡ [] → (if p.head == h then p.node ∷ in_queue h l else in_queue h l) ≡ []
    by true e rest = absurd (vacant s p.head h (filed.0.head.0, p.head) none filed.0.head.1 (sym (eqb-true p.head h e)))
    by false e rest = rw e rest

none_start : false ≡ true → ⊥
none_start e = absurd (cc)

-- ---- a queue is opened

pub opened : (q : Queues) (head : ℕ) (name : Who) (t : Slab Node) → shown_at q.lines head ≡ None → shown_at t head ≡ Some (name, head) →
    ((m : ℕ) → m ≢ head → shown_at t m ≡ shown_at q.lines m) → IsListed t head [] →
    ((h : ℕ) (l : List ℕ) → IsListed q.lines h l → IsNoneOf head (h ∷ l) → IsListed t h l) →
    (l : List Place) → AreFiled q l → AreFiled (record { order = q.order; lines = t; first = q.first }) l
opened q head name t none some others empty lists l filed = record {
  start = filed.start;
  listed = filed.listed;
  filed = same_order l filed.filed (no_node q.order q.lines head none l filed.filed);
  apart = filed.apart;
  lines = λ h is. by h is (h == head) refl;
}
  where
    heads : (h : ℕ) → IsHead q.lines h → h ≢ head
    heads h is = flip head h (vacant q.lines h head (is.0, h) none is.1)

    same_order : (k : List Place) → AllFiled q.order q.lines k → IsNoneOf head (map node_of k) → AllFiled q.order t k
    same_order [] f off = tt
    same_order (p ∷ k) f off = (
      record {
        first = f.0.first;
        second = others p.node (flip head p.node off.0) ∙ f.0.second;
        head = (f.0.head.0, others p.head (heads p.head f.0.head) ∙ f.0.head.1);
      },
      same_order k f.1 off.1,
    )

    by : (h : ℕ) → IsHead t h → (b : Bool) → (h == head) ≡ b → IsListed t h (in_queue h l)
    by h is true e =
        subst (λ (g : ℕ). IsListed t g (in_queue g l)) (sym (eqb-true h head e))
        (subst (IsListed t head) (sym (no_queue q.order q.lines head none l filed.filed)) empty)
    by h is false e =
        let off = differs h head e in
        let was : IsHead q.lines h = (is.0, sym (others h off) ∙ is.1) in
        lists h (in_queue h l) (filed.lines h was) (flip h head off, none_in_queue h head l (no_node q.order q.lines head none l filed.filed))

-- ---- a thread comes

module _ (q : Queues) (l : List Place) (filed : AreFiled q l) (who : Who) (head node key : ℕ) (is_head : IsHead q.lines head)
    (new_node : shown_at q.lines node ≡ None) (s : Slab Node) (s_node : shown_at s node ≡ Some (who, head))
    (s_others : (m : ℕ) → m ≢ node → shown_at s m ≡ shown_at q.lines m)
    (s_lists : (h : ℕ) (k : List ℕ) → IsListed q.lines h k → IsNoneOf node (h ∷ k) → IsListed s h k) where
  heads : (h : ℕ) → IsHead q.lines h → h ≢ node
  heads h is = flip node h (vacant q.lines h node (is.0, h) new_node is.1)

  pub head_come : IsHead s head
  head_come = (is_head.0, s_others head (heads head is_head) ∙ is_head.1)

  head_there : IsHead s head
  head_there = (is_head.0, s_others head (heads head is_head) ∙ is_head.1)

  none : IsNoneOf node (map node_of l)
  none = no_node q.order q.lines node new_node l filed.filed

  was_head : (h : ℕ) → IsHead s h → IsHead q.lines h
  was_head h is = (is.0, sym (s_others h off) ∙ is.1)
    where
      off : h ≢ node
      off same = heads head is_head (sym (one_head s h head node (subst (IsAt s h) same is) (who, s_node)) ∙ same)

  lines_there : AreLines s l
  lines_there h is =
      let was = was_head h is in
      s_lists h (in_queue h l) (filed.lines h was) (flip h node (heads h was), none_in_queue h node l none)

  -- the queue's last is there
  pub last_come : ContainsKey s (prev_of s head)
  last_come =
      let stay = rest_filed q.order q.order q.lines s q.first node (λ m off. refl) s_others heads l filed.filed filed.listed.apart.0 none in
      last_there s head (in_queue head l) (lines_there head head_there)
      (at_there s head (head ∷ in_queue head l) (head_there, line_at q.order s head l stay))

  module _ (new_key : shown_at q.order key ≡ None) (o : Slab Node) (o_key : shown_at o key ≡ Some (who, node))
      (o_others : (m : ℕ) → m ≢ key → shown_at o m ≡ shown_at q.order m)
      (o_lists : (h : ℕ) (k : List ℕ) → IsListed q.order h k → IsNoneOf key (h ∷ k) → IsListed o h k) where
    off : IsNoneOf key (map key_of l)
    off = no_key q.order q.lines key new_key l filed.filed

    first_off : (x : Option (Who × ℕ)) → shown_at q.order q.first ≡ x → key ≢ q.first
    first_off (Some x) is = vacant q.order q.first key x new_key is
    first_off None is = absurd (none_start (ap (λ (y : Option (Who × ℕ)). is_some y) (sym is) ∙ filed.start))

    away : key ≢ q.first
    away = first_off (shown_at q.order q.first) refl

    stay : AllFiled o s l
    stay = rest_filed q.order o q.lines s key node o_others s_others heads l filed.filed off none

    first_there : IsSome (shown_at o q.first)
    first_there = ap (λ (y : Option (Who × ℕ)). is_some y) (o_others q.first (flip key q.first away)) ∙ filed.start

    order_listed : IsListed o q.first (map key_of l)
    order_listed = o_lists q.first (map key_of l) filed.listed (away, off)

    -- the first of the order is there, and its last
    pub order_come : ContainsKey o q.first × ContainsKey o (prev_of o q.first)
    order_come =
        let there : AllAre (ContainsKey o) (q.first ∷ map key_of l) = (there_by o q.first first_there, keys_there o s l stay) in
        (there.0, last_there o q.first (map key_of l) order_listed there)

    module _ (t : Slab Node) (t_shown : (m : ℕ) → shown_at t m ≡ shown_at s m)
        (joins : (k : List ℕ) → IsListed s head k → IsNoneOf node (head ∷ k) → IsListed t head (k ++ node ∷ []))
        (apart : (h : ℕ) (k m : List ℕ) → IsListed s head k → IsListed s h m → AreDisjoint (head ∷ k) (h ∷ m) → IsNoneOf node (h ∷ m) → IsListed t h m)
        (u : Slab Node) (u_shown : (m : ℕ) → shown_at u m ≡ shown_at o m)
        (u_joins : (k : List ℕ) → IsListed o q.first k → IsNoneOf key (q.first ∷ k) → IsListed u q.first (k ++ key ∷ [])) where
      abbrev pub come : Place
      come = record { key = key; node = node; who = who; head = head }

      all_now : (k : List Place) → AllFiled o s k → AllFiled u t k
      all_now [] f = tt
      all_now (p ∷ k) f = (
        record {
          first = u_shown p.key ∙ f.0.first;
          second = t_shown p.node ∙ f.0.second;
          head = (f.0.head.0, t_shown p.head ∙ f.0.head.1);
        },
        all_now k f.1,
      )

      pub filed_come : AreFiled (record { order = u; lines = t; first = q.first }) (l ++ come ∷ [])
      filed_come = record {
        start = ap (λ (y : Option (Who × ℕ)). is_some y) (u_shown q.first) ∙ first_there;
        listed = subst (IsListed u q.first) (sym (keys_split key_of l (come ∷ []))) (u_joins (map key_of l) order_listed (away, off));
        filed = and_last u t l come (all_now l stay) (record {
          first = u_shown key ∙ o_key;
          second = t_shown node ∙ s_node;
          head = (head_there.0, t_shown head ∙ head_there.1);
        });
        apart = subst AreApart (sym (keys_split node_of l (come ∷ []))) (apart-append node (map node_of l) filed.apart none);
        lines = lines_joined o s t l come stay head_there (who, s_node) lines_there none (flip head node (heads head is_head)) t_shown joins apart;
      }
