-- Places: what queues hold after a thread left one, and after it joined one.
use Rattle.std.proofs.Common.{◌≡◌, ◌≢◌, ◌==◌, ℕ, Bool, true, false, List, [], ◌∷◌, ◌++◌, map}
use Rattle.std.proofs.Common.{Option, Some, None, if◌then◌else◌, refl, sym, ap, subst, ◌∙◌, eq-eqb}
use Rattle.std.proofs.lemmas.Bool.{eqb-true}
use Rattle.slab.specs.Slab.{Slab}
use Rattle.fk_model.specs.declared.names.Who.{Who}
use Rattle.fk_waits.specs.Queues.Chains.{AllAre, IsNoneOf}
use Rattle.fk_waits.specs.Queues.Nodes.{first_of, shown_at, AreDisjoint, IsListed}
use Rattle.fk_waits.specs.declared.queues.lists.Node.{Node}
use Rattle.fk_waits.specs.Queues.Places.{first_at, front_of, in_queue, who_shown, AllFiled, AreLines, IsFiled, IsHead, Place}

-- ---- lists of places in two parts

pub keys_split : (f : Place → ℕ) (a b : List Place) → map f (a ++ b) ≡ map f a ++ map f b
keys_split f [] b = refl
keys_split f (p ∷ a) b = ap (λ (l : List ℕ). f p ∷ l) (keys_split f a b)

pub queue_split : (h : ℕ) (a b : List Place) → in_queue h (a ++ b) ≡ in_queue h a ++ in_queue h b
queue_split h [] b = refl
queue_split h (p ∷ a) b = by (p.head == h) refl (queue_split h a b)
  where
    by : (t : Bool) → (p.head == h) ≡ t → in_queue h (a ++ b) ≡ in_queue h a ++ in_queue h b →
        (if p.head == h then p.node ∷ in_queue h (a ++ b) else in_queue h (a ++ b)) ≡
        (if p.head == h then p.node ∷ in_queue h a else in_queue h a) ++ in_queue h b
    by true e rest = rw e (ap (λ (l : List ℕ). p.node ∷ l) rest)
    by false e rest = rw e rest

-- with one of the queue, and with one of another
pub queue_with : (h : ℕ) (a : List Place) (p : Place) (b : List Place) → (p.head == h) ≡ true → in_queue h (a ++ p ∷ b) ≡ in_queue h a ++ p.node ∷ in_queue h b
queue_with h a p b is = queue_split h a (p ∷ b) ∙ rw is refl

pub queue_without : (h : ℕ) (a : List Place) (p : Place) (b : List Place) → (p.head == h) ≡ false → in_queue h (a ++ p ∷ b) ≡ in_queue h (a ++ b)
queue_without h a p b is = queue_split h a (p ∷ b) ∙ rw is (sym (queue_split h a b))

-- ---- where the nodes of a queue belong

abbrev pub IsAt : Slab Node → ℕ → ℕ → Type 0
IsAt lines h n = (who : Who) × (shown_at lines n ≡ Some (who, h))

pub line_at : (order lines : Slab Node) (h : ℕ) (l : List Place) → AllFiled order lines l → AllAre (IsAt lines h) (in_queue h l)
line_at order lines h [] filed = tt
line_at order lines h (p ∷ l) filed = by (p.head == h) refl (line_at order lines h l filed.1)
  where
    by : (t : Bool) → (p.head == h) ≡ t → AllAre (IsAt lines h) (in_queue h l) →
        AllAre (IsAt lines h) (if p.head == h then p.node ∷ in_queue h l else in_queue h l)
    by true e rest = rw e ((p.who, subst (λ (n : ℕ). shown_at lines p.node ≡ Some (p.who, n)) (eqb-true p.head h e) filed.0.second), rest)
    by false e rest = rw e rest

some_same : (a b : Who × ℕ) → Some a ≡ Some b → a.1 ≡ b.1
some_same a b is = ap (λ (o : Option (Who × ℕ)). at o) is
  where
    at : Option (Who × ℕ) → ℕ
    at None = 0
    at (Some p) = p.1

-- who belongs to two heads: they are one
pub one_head : (lines : Slab Node) (g h n : ℕ) → IsAt lines g n → IsAt lines h n → g ≡ h
one_head lines g h n one other = some_same (one.0, g) (other.0, h) (sym one.1 ∙ other.1)

pub none_there : (lines : Slab Node) (g h n : ℕ) → IsAt lines g n → g ≢ h → (l : List ℕ) → AllAre (IsAt lines h) l → IsNoneOf n l
none_there lines g h n at apart [] all = tt
none_there lines g h n at apart (m ∷ l) all =
    ((λ (e : n ≡ m). apart (one_head lines g h m (subst (IsAt lines g) e at) all.0)), none_there lines g h n at apart l all.1)

pub disjoint : (lines : Slab Node) (g h : ℕ) → g ≢ h → (k l : List ℕ) → AllAre (IsAt lines g) k → AllAre (IsAt lines h) l → AreDisjoint k l
disjoint lines g h apart [] l mine theirs = tt
disjoint lines g h apart (n ∷ k) l mine theirs = (none_there lines g h n mine.0 apart l theirs, disjoint lines g h apart k l mine.1 theirs)

pub none_in_queue : (h n : ℕ) (l : List Place) → IsNoneOf n (map (λ (p : Place). p.node) l) → IsNoneOf n (in_queue h l)
none_in_queue h n [] none = tt
none_in_queue h n (p ∷ l) none = by (p.head == h) refl (none_in_queue h n l none.1)
  where
    by : (t : Bool) → (p.head == h) ≡ t → IsNoneOf n (in_queue h l) → IsNoneOf n (if p.head == h then p.node ∷ in_queue h l else in_queue h l)
    by true e rest = rw e (none.0, rest)
    by false e rest = rw e rest

-- ---- heads

pub differs : (a b : ℕ) → (a == b) ≡ false → a ≢ b
differs a b off e = let on = eq-eqb a b e in absurd (cc)

-- a step that leaves what nodes show leaves heads
pub head_same : (s t : Slab Node) (h : ℕ) → ((m : ℕ) → shown_at t m ≡ shown_at s m) → IsHead t h → IsHead s h
head_same s t h shown head = (head.0, sym (shown h) ∙ head.1)

-- ---- a thread leaves its queue

-- one of some that are filed is
pub filed_middle : (order s : Slab Node) (a : List Place) (p : Place) (b : List Place) → AllFiled order s (a ++ p ∷ b) → IsFiled order s p
filed_middle order s [] p b filed = filed.0
filed_middle order s (x ∷ a) p b filed = filed_middle order s a p b filed.1

lines_left_by : (order s t : Slab Node) (a : List Place) (p : Place) (b : List Place) → AllFiled order s (a ++ p ∷ b) → IsHead s p.head →
    AreLines s (a ++ p ∷ b) →
    ((m : ℕ) → shown_at t m ≡ shown_at s m) →
    ((h : ℕ) (l k : List ℕ) → IsListed s h (l ++ p.node ∷ k) → IsListed t h (l ++ k)) →
    ((g h : ℕ) (k m l : List ℕ) → IsListed s g (k ++ p.node ∷ m) → IsListed s h l → AreDisjoint (g ∷ (k ++ p.node ∷ m)) (h ∷ l) → IsListed t h l) →
    AreLines t (a ++ b)
lines_left_by order s t a p b filed head lines shown leaves others h is = by (p.head == h) refl
  where
    was : IsHead s h
    was = head_same s t h shown is

    mine : IsListed s p.head (in_queue p.head a ++ p.node ∷ in_queue p.head b)
    mine = subst (IsListed s p.head) (queue_with p.head a p b (eq-eqb p.head p.head refl)) (lines p.head head)

    by : (t' : Bool) → (p.head == h) ≡ t' → IsListed t h (in_queue h (a ++ b))
    by true e = subst (IsListed t h) (sym (queue_split h a b))
        (leaves h (in_queue h a) (in_queue h b) (subst (IsListed s h) (queue_with h a p b e) (lines h was)))
    by false e =
        let theirs = subst (IsListed s h) (queue_without h a p b e) (lines h was) in
        let at_mine : AllAre (IsAt s p.head) (p.head ∷ (in_queue p.head a ++ p.node ∷ in_queue p.head b)) =
        (head, subst (AllAre (IsAt s p.head)) (queue_with p.head a p b (eq-eqb p.head p.head refl)) (line_at order s p.head (a ++ p ∷ b) filed)) in
        let at_theirs : AllAre (IsAt s h) (h ∷ in_queue h (a ++ b)) =
        (was, subst (AllAre (IsAt s h)) (queue_without h a p b e) (line_at order s h (a ++ p ∷ b) filed)) in
        others p.head h (in_queue p.head a) (in_queue p.head b) (in_queue h (a ++ b)) mine theirs
        (disjoint s p.head h (differs p.head h e) (p.head ∷ (in_queue p.head a ++ p.node ∷ in_queue p.head b)) (h ∷ in_queue h (a ++ b)) at_mine at_theirs)

-- by the name of its node
pub lines_left : (order s t : Slab Node) (a : List Place) (p : Place) (b : List Place) (node : ℕ) → p.node ≡ node →
    AllFiled order s (a ++ p ∷ b) → IsHead s p.head → AreLines s (a ++ p ∷ b) →
    ((m : ℕ) → shown_at t m ≡ shown_at s m) →
    ((h : ℕ) (l k : List ℕ) → IsListed s h (l ++ node ∷ k) → IsListed t h (l ++ k)) →
    ((g h : ℕ) (k m l : List ℕ) → IsListed s g (k ++ node ∷ m) → IsListed s h l → AreDisjoint (g ∷ (k ++ node ∷ m)) (h ∷ l) → IsListed t h l) →
    AreLines t (a ++ b)
lines_left order s t a p b node is filed head lines shown leaves others =
    lines_left_by order s t a p b filed head lines shown
    (subst (λ (n : ℕ). (h : ℕ) (l k : List ℕ) → IsListed s h (l ++ n ∷ k) → IsListed t h (l ++ k)) (sym is) leaves)
    (subst (λ (n : ℕ). (g h : ℕ) (k m l : List ℕ) → IsListed s g (k ++ n ∷ m) → IsListed s h l → AreDisjoint (g ∷ (k ++ n ∷ m)) (h ∷ l) → IsListed t h l)
    (sym is) others)

-- ---- a thread joins a queue

none_behind : (k : List ℕ) → k ++ [] ≡ k
none_behind [] = refl
none_behind (n ∷ k) = ap (λ (m : List ℕ). n ∷ m) (none_behind k)

pub lines_joined : (order s t : Slab Node) (l : List Place) (p : Place) → AllFiled order s l → IsHead s p.head → IsAt s p.head p.node → AreLines s l →
    IsNoneOf p.node (map (λ (q : Place). q.node) l) → p.node ≢ p.head →
    ((m : ℕ) → shown_at t m ≡ shown_at s m) →
    ((k : List ℕ) → IsListed s p.head k → IsNoneOf p.node (p.head ∷ k) → IsListed t p.head (k ++ p.node ∷ [])) →
    ((h : ℕ) (k m : List ℕ) → IsListed s p.head k → IsListed s h m → AreDisjoint (p.head ∷ k) (h ∷ m) → IsNoneOf p.node (h ∷ m) → IsListed t h m) →
    AreLines t (l ++ p ∷ [])
lines_joined order s t l p filed head at lines none apart shown joins others h is = by (p.head == h) refl
  where
    was : IsHead s h
    was = head_same s t h shown is

    by : (t' : Bool) → (p.head == h) ≡ t' → IsListed t h (in_queue h (l ++ p ∷ []))
    by true e =
        let same = eqb-true p.head h e in
        let last : IsListed t p.head (in_queue p.head (l ++ p ∷ [])) = subst (IsListed t p.head) (sym (queue_with p.head l p [] (eq-eqb p.head p.head refl)))
        (joins (in_queue p.head l) (lines p.head head) (apart, none_in_queue p.head p.node l none)) in
        subst (λ (g : ℕ). IsListed t g (in_queue g (l ++ p ∷ []))) same last
    by false e =
        let other = differs p.head h e in
        let mine : AllAre (IsAt s p.head) (p.head ∷ in_queue p.head l) = (head, line_at order s p.head l filed) in
        let theirs : AllAre (IsAt s h) (h ∷ in_queue h l) = (was, line_at order s h l filed) in
        let split : in_queue h (l ++ p ∷ []) ≡ in_queue h (l ++ []) = queue_without h l p [] e in
        let all : in_queue h (l ++ []) ≡ in_queue h l ++ [] = queue_split h l [] in
        subst (IsListed t h) (sym (split ∙ all ∙ none_behind (in_queue h l)))
        (others h (in_queue p.head l) (in_queue h l) (lines p.head head) (lines h was) (disjoint s p.head h other (p.head ∷ in_queue p.head l)
        (h ∷ in_queue h l) mine theirs)
        (none_there s p.head h p.node at other (h ∷ in_queue h l) theirs))

-- ---- who is first

abbrev pub first_shown : Slab Node → Option ℕ → Option Who
first_shown lines None = None
first_shown lines (Some n) = who_shown (shown_at lines n)

pub front_who : (order lines : Slab Node) (l : List Place) → AllFiled order lines l → first_shown order (first_of (map (λ (p : Place). p.key) l)) ≡ front_of l
front_who order lines [] filed = refl
front_who order lines (p ∷ l) filed = ap who_shown filed.0.first

pub first_who : (order lines : Slab Node) (h : ℕ) (l : List Place) → AllFiled order lines l → first_shown lines (first_of (in_queue h l)) ≡ first_at h l
first_who order lines h [] filed = refl
first_who order lines h (p ∷ l) filed = by (p.head == h) refl (first_who order lines h l filed.1)
  where
    by : (t : Bool) → (p.head == h) ≡ t → first_shown lines (first_of (in_queue h l)) ≡ first_at h l →
        first_shown lines (first_of (if p.head == h then p.node ∷ in_queue h l else in_queue h l)) ≡ (if p.head == h then Some p.who else first_at h l)
    by true e rest = rw e (ap who_shown filed.0.second)
    by false e rest = rw e rest
