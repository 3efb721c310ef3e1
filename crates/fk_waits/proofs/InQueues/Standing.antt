-- Standing: nodes that are there, before and after a step that leaves what nodes show.
use Rattle.std.proofs.Common.{◌≡◌, ◌≢◌, ℕ, List, [], ◌∷◌, ◌++◌, Option, Some, None, option_map, is_some, IsSome, refl, sym, ap, ◌∙◌}
use Rattle.slab.specs.Slab.{Slab, get, ContainsKey}
use Rattle.fk_model.specs.declared.names.Who.{Who}
use Rattle.fk_waits.specs.Queues.Chains.{AllAre, AreApart, IsNoneOf}
use Rattle.fk_waits.specs.Queues.Nodes.{next_of, prev_of, shown_at, IsListed}
use Rattle.fk_waits.specs.declared.queues.lists.Node.{Node}
use Rattle.fk_waits.proofs.InQueues.Chains.{none-append, none-left, none-right, last_is, before_is, behind_is}
use Rattle.fk_waits.specs.Queues.Places.{StandsIn}

-- what shows something is there
shows : (o : Option Node) → is_some {T = Who × ℕ} (option_map (λ (n : Node). (n.who, n.at)) o) ≡ is_some o
shows None = refl
shows (Some n) = refl

pub there_by : (s : Slab Node) (m : ℕ) → IsSome (shown_at s m) → ContainsKey s m
there_by s m some = sym (shows (get s m)) ∙ some

pub kept : (s t : Slab Node) → ((m : ℕ) → shown_at t m ≡ shown_at s m) → (m : ℕ) → ContainsKey s m → ContainsKey t m
kept s t same m there = there_by t m (ap (λ (o : Option (Who × ℕ)). is_some o) (same m) ∙ shows (get s m) ∙ there)

pub kept_all : (s t : Slab Node) → ((m : ℕ) → shown_at t m ≡ shown_at s m) → (l : List ℕ) → AllAre (ContainsKey s) l → AllAre (ContainsKey t) l
kept_all s t same [] all = tt
kept_all s t same (m ∷ l) all = (kept s t same m all.0, kept_all s t same l all.1)

-- ---- a list in two parts

of_left : (P : ℕ → Type 0) (l k : List ℕ) → AllAre P (l ++ k) → AllAre P l
of_left P [] k all = tt
of_left P (n ∷ l) k all = (all.0, of_left P l k all.1)

of_right : (P : ℕ → Type 0) (l k : List ℕ) → AllAre P (l ++ k) → AllAre P k
of_right P [] k all = all
of_right P (n ∷ l) k all = of_right P l k all.1

of_both : (P : ℕ → Type 0) (l k : List ℕ) → AllAre P l → AllAre P k → AllAre P (l ++ k)
of_both P [] k left right = right
of_both P (n ∷ l) k left right = (left.0, of_both P l k left.1 right)

pub of_middle : (P : ℕ → Type 0) (l k : List ℕ) (n : ℕ) → AllAre P (l ++ n ∷ k) → P n
of_middle P l k n all = (of_right P l (n ∷ k) all).0

pub without : (P : ℕ → Type 0) (l k : List ℕ) (head n : ℕ) → AllAre P (head ∷ (l ++ n ∷ k)) → AllAre P (head ∷ (l ++ k))
without P l k head n all = (all.0, of_both P l k (of_left P l (n ∷ k) all.1) (of_right P l (n ∷ k) all.1).1)

-- ---- beside a node

pub beside_there : (s : Slab Node) (head node : ℕ) → StandsIn s head node → ContainsKey s (next_of s node) × ContainsKey s (prev_of s node)
beside_there s head node stands = (
  behind_is (ContainsKey s) (next_of s) (prev_of s) head node stands.before stands.behind head stands.listed.way stands.there.1 stands.there.0,
  before_is (ContainsKey s) (next_of s) (prev_of s) head node stands.before stands.behind head stands.listed.way stands.there,
)

pub last_there : (s : Slab Node) (head : ℕ) (l : List ℕ) → IsListed s head l → AllAre (ContainsKey s) (head ∷ l) → ContainsKey s (prev_of s head)
last_there s head l is there = last_is (ContainsKey s) (next_of s) (prev_of s) head l head is.way there

-- a node of a list is none of the others
flip : (a b : ℕ) → a ≢ b → b ≢ a
flip a b h e = h (sym e)

none_before : (n : ℕ) (l k : List ℕ) → AreApart (l ++ n ∷ k) → IsNoneOf n l
none_before n [] k apart = tt
none_before n (m ∷ l) k apart = (flip m n (none-right m l (n ∷ k) apart.0).0, none_before n l k apart.1)

none_behind : (n : ℕ) (l k : List ℕ) → AreApart (l ++ n ∷ k) → IsNoneOf n k
none_behind n [] k apart = apart.0
none_behind n (m ∷ l) k apart = none_behind n l k apart.1

pub apart_from : (s : Slab Node) (head node : ℕ) (l k : List ℕ) → IsListed s head (l ++ node ∷ k) → IsNoneOf node (head ∷ (l ++ k))
apart_from s head node l k is = (
  flip head node (none-right head l (node ∷ k) is.apart.0).0,
  none-append node l k (none_before node l k is.apart.1) (none_behind node l k is.apart.1),
)

pub middle_apart : (h : ℕ) (l k : List ℕ) (n : ℕ) → IsNoneOf h (l ++ n ∷ k) → h ≢ n
middle_apart h l k n none = (none-right h l (n ∷ k) none).0

-- what is none of a list with one in the middle is none of the rest
pub none_rest : (m : ℕ) (l k : List ℕ) (n : ℕ) → IsNoneOf m (l ++ n ∷ k) → IsNoneOf m (l ++ k)
none_rest m l k n none = none-append m l k (none-left m l (n ∷ k) none) (none-right m l (n ∷ k) none).1

-- the one in the middle is none of the rest
pub middle_none : (l k : List ℕ) (n : ℕ) → AreApart (l ++ n ∷ k) → IsNoneOf n (l ++ k)
middle_none l k n apart = none-append n l k (none_before n l k apart) (none_behind n l k apart)
