-- Turned: where threads stand after one has turned to another queue.
use Rattle.std.proofs.Common.{◌≡◌, ◌≢◌, ℕ, List, [], ◌∷◌, ◌++◌, map, Option, Some, None, option_map, is_some, refl, sym, ap, subst, ◌∙◌, eq-eqb}
use Rattle.slab.specs.Slab.{Slab, get, ContainsKey}
use Rattle.fk_model.specs.declared.names.Who.{Who}
use Rattle.fk_waits.specs.Queues.Chains.{AllAre, AreApart, IsNoneOf}
use Rattle.fk_waits.specs.Queues.Nodes.{prev_of, shown_at, AreDisjoint, IsListed}
use Rattle.fk_waits.specs.declared.queues.lists.Node.{Node}
use Rattle.fk_waits.proofs.InQueues.Chains.{apart-append, apart-without}
use Rattle.fk_waits.specs.Queues.Places.{in_queue, AllFiled, AreFiled, AreLines, HasLine, HasPlace, IsFiled, IsHead, Place, StandsIn}
use Rattle.fk_waits.specs.declared.queues.queues.Queues.{Queues}
use Rattle.fk_waits.proofs.InQueues.Places.{filed_middle, keys_split, line_at, lines_joined, one_head, queue_with, IsAt}
use Rattle.fk_waits.proofs.InQueues.Standing.{last_there, middle_apart, middle_none, there_by}

abbrev pub key_of : Place → ℕ
key_of p = p.key

abbrev pub node_of : Place → ℕ
node_of p = p.node

-- the head of a queue is no thread's node
pub no_head : (order s : Slab Node) (a : List Place) (p : Place) (b : List Place) → AllFiled order s (a ++ p ∷ b) → AreLines s (a ++ p ∷ b) →
    (h : ℕ) → IsHead s h → h ≢ p.node
no_head order s a p b filed lines h head same =
    let mine = filed_middle order s a p b filed in
    let at : IsAt s p.head p.node = (p.who, mine.second) in
    let here : h ≡ p.head = one_head s h p.head p.node (subst (IsAt s h) same head) at in
    middle_apart p.head (in_queue p.head a) (in_queue p.head b) p.node
    (subst (λ (l : List ℕ). IsNoneOf p.head l) (queue_with p.head a p b (eq-eqb p.head p.head refl)) (lines p.head mine.head).apart.0) (sym here ∙ same)

-- others are filed as before, where their nodes show what they did
others_filed : (order order' s t : Slab Node) (node : ℕ) → ((m : ℕ) → shown_at order' m ≡ shown_at order m) →
    ((m : ℕ) → m ≢ node → shown_at t m ≡ shown_at s m) → ((h : ℕ) → IsHead s h → h ≢ node) →
    (l : List Place) → AllFiled order s l → IsNoneOf node (map node_of l) → AllFiled order' t l
others_filed order order' s t node same shown heads [] filed none = tt
others_filed order order' s t node same shown heads (q ∷ l) filed none = (
  record {
    first = same q.key ∙ filed.0.first;
    second = shown q.node (λ (e : q.node ≡ node). none.0 (sym e)) ∙ filed.0.second;
    head = (filed.0.head.0, shown q.head (heads q.head filed.0.head) ∙ filed.0.head.1);
  },
  others_filed order order' s t node same shown heads l filed.1 none.1,
)

pub all_without : (order s : Slab Node) (a : List Place) (p : Place) (b : List Place) → AllFiled order s (a ++ p ∷ b) → AllFiled order s (a ++ b)
all_without order s [] p b filed = filed.1
all_without order s (q ∷ a) p b filed = (filed.0, all_without order s a p b filed.1)

pub and_last : (order s : Slab Node) (l : List Place) (p : Place) → AllFiled order s l → IsFiled order s p → AllFiled order s (l ++ p ∷ [])
and_last order s [] p filed last = (last, tt)
and_last order s (q ∷ l) p filed last = (filed.0, and_last order s l p filed.1 last)

module _ (q : Queues) (a : List Place) (p : Place) (b : List Place) (head : ℕ) (filed : AreFiled q (a ++ p ∷ b)) (is_head : IsHead q.lines head)
    (order : Slab Node) (same : (m : ℕ) → shown_at order m ≡ shown_at q.order m)
    (last : (l k : List ℕ) → IsListed q.order q.first (l ++ p.key ∷ k) → IsListed order q.first ((l ++ k) ++ p.key ∷ []))
    (s : Slab Node) (turned : shown_at s p.node ≡ Some (p.who, head)) (others : (m : ℕ) → m ≢ p.node → shown_at s m ≡ shown_at q.lines m)
    (rest : (h : ℕ) → IsHead q.lines h → IsListed s h (in_queue h (a ++ b)))
    (t : Slab Node) (shown : (m : ℕ) → shown_at t m ≡ shown_at s m)
    (joins : (k : List ℕ) → IsListed s head k → IsNoneOf p.node (head ∷ k) → IsListed t head (k ++ p.node ∷ []))
    (apart : (h : ℕ) (k m : List ℕ) → IsListed s head k → IsListed s h m → AreDisjoint (head ∷ k) (h ∷ m) → IsNoneOf p.node (h ∷ m) → IsListed t h m) where
  -- where it stands then
  abbrev pub now : Place
  now = record { key = p.key; node = p.node; who = p.who; head = head }

  heads : (h : ℕ) → IsHead q.lines h → h ≢ p.node
  heads = no_head q.order q.lines a p b filed.filed filed.lines

  nodes : AreApart (map node_of a ++ p.node ∷ map node_of b)
  nodes = subst AreApart (keys_split node_of a (p ∷ b)) filed.apart

  none : IsNoneOf p.node (map node_of (a ++ b))
  none = subst (IsNoneOf p.node) (sym (keys_split node_of a b)) (middle_none (map node_of a) (map node_of b) p.node nodes)

  head_there : IsHead s head
  head_there = (is_head.0, others head (heads head is_head) ∙ is_head.1)

  stay : AllFiled order s (a ++ b)
  stay = others_filed q.order order q.lines s p.node same others heads (a ++ b) (all_without q.order q.lines a p b filed.filed) none

  was_head : (h : ℕ) → IsHead s h → IsHead q.lines h
  was_head h is = (is.0, sym (others h off) ∙ is.1)
    where
      off : h ≢ p.node
      off same = heads head is_head (sym (one_head s h head p.node (subst (IsAt s h) same is) (p.who, turned)) ∙ same)

  lines_now : AreLines t ((a ++ b) ++ now ∷ [])
  lines_now = lines_joined order s t (a ++ b) now stay head_there (p.who, turned) (λ h is. rest h (was_head h is)) none
      (λ (e : p.node ≡ head). heads head is_head (sym e)) shown joins apart

  kept-filed : (l : List Place) → AllFiled order s l → AllFiled order t l
  kept-filed [] f = tt
  kept-filed (x ∷ l) f = (
    record { first = f.0.first; second = shown x.node ∙ f.0.second; head = (f.0.head.0, shown x.head ∙ f.0.head.1) },
    kept-filed l f.1,
  )

  pub filed_now : AreFiled (record { order = order; lines = t; first = q.first }) ((a ++ b) ++ now ∷ [])
  filed_now = record {
    start = ap (λ (o : Option (Who × ℕ)). is_some o) (same q.first) ∙ filed.start;
    listed = subst (IsListed order q.first)
        (ap (λ (l : List ℕ). l ++ p.key ∷ []) (sym (keys_split key_of a b)) ∙ sym (keys_split key_of (a ++ b) (now ∷ [])))
        (last (map key_of a) (map key_of b) (subst (IsListed q.order q.first) (keys_split key_of a (p ∷ b)) filed.listed));
    filed = and_last order t (a ++ b) now (kept-filed (a ++ b) stay) (record {
      first = same p.key ∙ (filed_middle q.order q.lines a p b filed.filed).first;
      second = shown p.node ∙ turned;
      head = (head_there.0, shown head ∙ head_there.1);
    });
    apart = subst AreApart (sym (keys_split node_of (a ++ b) (now ∷ [])))
        (apart-append p.node (map node_of (a ++ b)) (subst AreApart (sym (keys_split node_of a b)) (apart-without p.node (map node_of a)
        (map node_of b) nodes)) none);
    lines = lines_now;
  }

-- ---- by the numbers that the code reads

module _ (q : Queues) (key node head : ℕ) (who : Who) (is_head : IsHead q.lines head) (order : Slab Node) (same : (m : ℕ) →
    shown_at order m ≡ shown_at q.order m)
    (last : (l k : List ℕ) → IsListed q.order q.first (l ++ key ∷ k) → IsListed order q.first ((l ++ k) ++ key ∷ []))
    (s : Slab Node) (turned : shown_at s node ≡ Some (who, head)) (others : (m : ℕ) → m ≢ node → shown_at s m ≡ shown_at q.lines m)
    (rest : (o : Slab Node) (a b : List Place) (p : Place) → AllFiled o q.lines (a ++ p ∷ b) → AreLines q.lines (a ++ p ∷ b) → p.node ≡ node →
    (h : ℕ) → IsHead q.lines h → IsListed s h (in_queue h (a ++ b)))
    (t : Slab Node) (shown : (m : ℕ) → shown_at t m ≡ shown_at s m)
    (joins : (k : List ℕ) → IsListed s head k → IsNoneOf node (head ∷ k) → IsListed t head (k ++ node ∷ []))
    (apart : (h : ℕ) (k m : List ℕ) → IsListed s head k → IsListed s h m → AreDisjoint (head ∷ k) (h ∷ m) → IsNoneOf node (h ∷ m) → IsListed t h m) where
  pub filed_turned : (a : List Place) (p : Place) (b : List Place) → AreFiled q (a ++ p ∷ b) → p.key ≡ key → p.node ≡ node → p.who ≡ who →
      AreFiled (record { order = order; lines = t; first = q.first }) ((a ++ b) ++ record { key = p.key; node = p.node; who = p.who; head = head } ∷ [])
  filed_turned a p b filed is_key is_node is_who =
      filed_now q a p b head filed is_head order same
      (subst (λ (n : ℕ). (l k : List ℕ) → IsListed q.order q.first (l ++ n ∷ k) → IsListed order q.first ((l ++ k) ++ n ∷ [])) (sym is_key) last)
      s (subst (λ (n : ℕ). shown_at s n ≡ Some (p.who, head)) (sym is_node) (subst (λ (w : Who). shown_at s node ≡ Some (w, head)) (sym is_who) turned))
      (subst (λ (n : ℕ). (m : ℕ) → m ≢ n → shown_at s m ≡ shown_at q.lines m) (sym is_node) others)
      (rest q.order a b p filed.filed filed.lines is_node)
      t shown
      (subst (λ (n : ℕ). (k : List ℕ) → IsListed s head k → IsNoneOf n (head ∷ k) → IsListed t head (k ++ n ∷ [])) (sym is_node) joins)
      (subst (λ (n : ℕ). (h : ℕ) (k m : List ℕ) → IsListed s head k → IsListed s h m → AreDisjoint (head ∷ k) (h ∷ m) → IsNoneOf n (h ∷ m) → IsListed t h m)
      (sym is_node) apart)

-- ---- what is there for the calls

pub place_read : (q : Queues) (a : List Place) (p : Place) (b : List Place) (n : Node) → AreFiled q (a ++ p ∷ b) → Some n ≡ get q.order p.key →
    (p.who ≡ n.who) × (p.node ≡ n.at)
place_read q a p b n filed read =
    let is : Some (p.who, p.node) ≡ Some (n.who, n.at) =
    sym (filed_middle q.order q.lines a p b filed.filed).first ∙ ap (λ (o : Option Node). option_map (λ (x : Node). (x.who, x.at)) o) (sym read) in
    (ap who_in is, ap at_in is)
  where
    who_in : Option (Who × ℕ) → Who
    who_in None = p.who
    who_in (Some x) = x.0

    at_in : Option (Who × ℕ) → ℕ
    at_in None = p.node
    at_in (Some x) = x.1

pub keys_there : (order s : Slab Node) (l : List Place) → AllFiled order s l → AllAre (ContainsKey order) (map key_of l)
keys_there order s [] filed = tt
keys_there order s (p ∷ l) filed = (there_by order p.key (ap (λ (o : Option (Who × ℕ)). is_some o) filed.0.first), keys_there order s l filed.1)

pub stands_in_order : (q : Queues) (key : ℕ) → HasPlace q key → StandsIn q.order q.first key
stands_in_order q key has =
    let a = has.before in
    let p = has.place in
    let b = has.behind in
    subst (StandsIn q.order q.first) has.is (record {
      before = map key_of a;
      behind = map key_of b;
      listed = subst (IsListed q.order q.first) (keys_split key_of a (p ∷ b)) has.filed.listed;
      there = (
        there_by q.order q.first has.filed.start,
        subst (AllAre (ContainsKey q.order)) (keys_split key_of a (p ∷ b)) (keys_there q.order q.lines (a ++ p ∷ b) has.filed.filed),
      );
    })

pub at_there : (s : Slab Node) (h : ℕ) (l : List ℕ) → AllAre (IsAt s h) l → AllAre (ContainsKey s) l
at_there s h [] all = tt
at_there s h (n ∷ l) all = (there_by s n (ap (λ (o : Option (Who × ℕ)). is_some o) all.0.1), at_there s h l all.1)

pub has_line : (q : Queues) (a : List Place) (p : Place) (b : List Place) → AreFiled q (a ++ p ∷ b) → HasLine q.lines p.node
has_line q a p b filed =
    let mine = filed_middle q.order q.lines a p b filed.filed in
    let split = queue_with p.head a p b (eq-eqb p.head p.head refl) in
    let at : AllAre (IsAt q.lines p.head) (p.head ∷ (in_queue p.head a ++ p.node ∷ in_queue p.head b)) =
    (mine.head, subst (AllAre (IsAt q.lines p.head)) split (line_at q.order q.lines p.head (a ++ p ∷ b) filed.filed)) in
    record {
      head = p.head;
      stands = record {
        before = in_queue p.head a;
        behind = in_queue p.head b;
        listed = subst (IsListed q.lines p.head) split (filed.lines p.head mine.head);
        there = at_there q.lines p.head (p.head ∷ (in_queue p.head a ++ p.node ∷ in_queue p.head b)) at;
      };
    }

pub line_read : (q : Queues) (key : ℕ) (n : Node) → HasPlace q key → Some n ≡ get q.order key → HasLine q.lines n.at
line_read q key n has read =
    let here : Some n ≡ get q.order has.place.key = subst (λ (k : ℕ). Some n ≡ get q.order k) (sym has.is) read in
    subst (HasLine q.lines) (place_read q has.before has.place has.behind n has.filed here).1 (has_line q has.before has.place has.behind has.filed)

-- the queue to which a thread turns is there, before it joins
queue_there : (q : Queues) (a : List Place) (p : Place) (b : List Place) (head : ℕ) → AreFiled q (a ++ p ∷ b) → IsHead q.lines head →
    (s : Slab Node) → ((m : ℕ) → m ≢ p.node → shown_at s m ≡ shown_at q.lines m) → AllAre (ContainsKey s) (head ∷ in_queue head (a ++ b))
queue_there q a p b head filed is_head s others =
    let heads = no_head q.order q.lines a p b filed.filed filed.lines in
    let none : IsNoneOf p.node (map node_of (a ++ b)) = subst (IsNoneOf p.node) (sym (keys_split node_of a b))
    (middle_none (map node_of a) (map node_of b) p.node (subst AreApart (keys_split node_of a (p ∷ b)) filed.apart)) in
    let stay = others_filed q.order q.order q.lines s p.node (λ m. refl) others heads (a ++ b) (all_without q.order q.lines a p b filed.filed) none in
    let there : IsAt s head head = (is_head.0, others head (heads head is_head) ∙ is_head.1) in
    at_there s head (head ∷ in_queue head (a ++ b)) (there, line_at q.order s head (a ++ b) stay)

pub last_turned : (q : Queues) (key head : ℕ) (n : Node) → HasPlace q key → Some n ≡ get q.order key → IsHead q.lines head →
    (s : Slab Node) → ((m : ℕ) → m ≢ n.at → shown_at s m ≡ shown_at q.lines m) →
    ((o : Slab Node) (a b : List Place) (p : Place) → AllFiled o q.lines (a ++ p ∷ b) → AreLines q.lines (a ++ p ∷ b) → p.node ≡ n.at →
    (h : ℕ) → IsHead q.lines h → IsListed s h (in_queue h (a ++ b))) → ContainsKey s (prev_of s head)
last_turned q key head n has read is_head s others rest =
    let a = has.before in
    let p = has.place in
    let b = has.behind in
    let here : Some n ≡ get q.order p.key = subst (λ (k : ℕ). Some n ≡ get q.order k) (sym has.is) read in
    let node : p.node ≡ n.at = (place_read q a p b n has.filed here).1 in
    let near = subst (λ (k : ℕ). (m : ℕ) → m ≢ k → shown_at s m ≡ shown_at q.lines m) (sym node) others in
    last_there s head (in_queue head (a ++ b)) (rest q.order a b p has.filed.filed has.filed.lines node head is_head)
    (queue_there q a p b head has.filed is_head s near)

-- a thread that is filed has a node
pub never_gone : (q : Queues) (a : List Place) (p : Place) (b : List Place) (key : ℕ) → AreFiled q (a ++ p ∷ b) → p.key ≡ key → None ≡ get q.order key → ⊥
never_gone q a p b key filed is gone =
    let mine = filed_middle q.order q.lines a p b filed.filed in
    let some : ContainsKey q.order p.key = there_by q.order p.key (ap (λ (o : Option (Who × ℕ)). is_some o) mine.first) in
    let none : is_some (get q.order p.key) ≡ is_some {T = Node} None = ap (λ (o : Option Node). is_some o) (ap (λ (k : ℕ). get q.order k) is ∙ sym gone) in
    absurd (cc)
