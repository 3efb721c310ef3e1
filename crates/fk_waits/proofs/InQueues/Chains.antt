-- Chains: a node joins, a node leaves, others stay.
use Rattle.std.proofs.Common.{◌≡◌, ◌≢◌, ◌==◌, ℕ, Bool, true, false, List, [], ◌∷◌, ◌++◌, refl, ap, sym, subst, ◌∙◌, ne_eqb, eq-eqb}
use Rattle.std.proofs.lemmas.Bool.{eqb-true}
use Rattle.fk_waits.specs.Queues.Chains.{put_at, AllAre, IsWay, IsNoneOf, AreApart, IsList}

pub put-same : (f : ℕ → ℕ) (n a : ℕ) → put_at f n a n ≡ a
put-same f n a = rw (eq-eqb n n refl) refl

pub put-other : (f : ℕ → ℕ) (n a m : ℕ) → m ≢ n → put_at f n a m ≡ f m
put-other f n a m apart = rw (ne_eqb m n apart) refl

-- two changes of a function at different numbers are made in either order
pub put-swap : (f : ℕ → ℕ) (a x b y m : ℕ) → a ≢ b → put_at (put_at f a x) b y m ≡ put_at (put_at f b y) a x m
put-swap f a x b y m apart = by (m == a) refl (m == b) refl
  where
    by : (s : Bool) → (m == a) ≡ s → (t : Bool) → (m == b) ≡ t → put_at (put_at f a x) b y m ≡ put_at (put_at f b y) a x m
    by true e true g = absurd (apart (sym (eqb-true m a e) ∙ eqb-true m b g))
    by true e false g = rw (e, g) refl
    by false e true g = rw (e, g) refl
    by false e false g = rw (e, g) refl

flip : (a b : ℕ) → a ≢ b → b ≢ a
flip a b h e = h (sym e)

-- functions that agree everywhere are the same
pub same_everywhere : {f g : ℕ → ℕ} → ((m : ℕ) → f m ≡ g m) → f ≡ g
same_everywhere h = λ i m. h m i

-- ---- lists without a node

pub none-append : (n : ℕ) (l k : List ℕ) → IsNoneOf n l → IsNoneOf n k → IsNoneOf n (l ++ k)
none-append n [] k a b = b
none-append n (x ∷ l) k a b = (a.0, none-append n l k a.1 b)

pub none-left : (n : ℕ) (l k : List ℕ) → IsNoneOf n (l ++ k) → IsNoneOf n l
none-left n [] k h = tt
none-left n (x ∷ l) k h = (h.0, none-left n l k h.1)

pub none-right : (n : ℕ) (l k : List ℕ) → IsNoneOf n (l ++ k) → IsNoneOf n k
none-right n [] k h = h
none-right n (x ∷ l) k h = none-right n l k h.1

pub apart-append : (n : ℕ) (l : List ℕ) → AreApart l → IsNoneOf n l → AreApart (l ++ n ∷ [])
apart-append n [] h a = (tt, tt)
apart-append n (x ∷ l) h a = (none-append x l (n ∷ []) h.0 (flip n x a.0, tt), apart-append n l h.1 a.1)

pub apart-without : (n : ℕ) (l k : List ℕ) → AreApart (l ++ n ∷ k) → AreApart (l ++ k)
apart-without n [] k h = h.1
apart-without n (x ∷ l) k h = (none-append x l k (none-left x l (n ∷ k) h.0) (none-right x l (n ∷ k) h.0).1, apart-without n l k h.1)

-- ---- others stay

way-agrees : (next prev next' prev' : ℕ → ℕ) (a : ℕ) (l : List ℕ) (b n : ℕ) → IsWay next prev a l b →
    ((m : ℕ) → m ≢ n → next' m ≡ next m) → ((m : ℕ) → m ≢ n → prev' m ≡ prev m) → IsNoneOf n (a ∷ l) → n ≢ b → IsWay next' prev' a l b
way-agrees next prev next' prev' a [] b n way sn sp off last = (sn a (flip n a off.0) ∙ way.0, sp b (flip n b last) ∙ way.1)
way-agrees next prev next' prev' a (x ∷ l) b n way sn sp off last = (
  sn a (flip n a off.0) ∙ way.0,
  sp x (flip n x off.1.0) ∙ way.1,
  way-agrees next prev next' prev' x l b n way.2 sn sp off.1 last,
)

-- a list without a node, where all is the same but at that node
pub list_agrees : (next prev next' prev' : ℕ → ℕ) (head : ℕ) (l : List ℕ) (n : ℕ) → IsList next prev head l →
    ((m : ℕ) → m ≢ n → next' m ≡ next m) → ((m : ℕ) → m ≢ n → prev' m ≡ prev m) → IsNoneOf n (head ∷ l) → IsList next' prev' head l
list_agrees next prev next' prev' head l n is sn sp off =
    record { way = way-agrees next prev next' prev' head l head n is.way sn sp off off.0; apart = is.apart }

way-stays : (next prev : ℕ → ℕ) (x : ℕ) (l : List ℕ) (y n a m b : ℕ) → IsWay next prev x l y → IsNoneOf n (x ∷ l) → IsNoneOf m l → m ≢ y →
    IsWay (put_at next n a) (put_at prev m b) x l y
way-stays next prev x [] y n a m b way off out last = (put-other next n a x (flip n x off.0) ∙ way.0, put-other prev m b y (flip m y last) ∙ way.1)
way-stays next prev x (z ∷ l) y n a m b way off out last = (
  put-other next n a x (flip n x off.0) ∙ way.0,
  put-other prev m b z (flip m z out.0) ∙ way.1,
  way-stays next prev z l y n a m b way.2 off.1 out.1 last,
)

pub others_stay : (next prev : ℕ → ℕ) (head : ℕ) (l : List ℕ) (n a m b : ℕ) → IsList next prev head l → IsNoneOf n (head ∷ l) → IsNoneOf m (head ∷ l) →
    IsList (put_at next n a) (put_at prev m b) head l
others_stay next prev head l n a m b is off out =
    record { way = way-stays next prev head l head n a m b is.way off out.1 out.0; apart = is.apart }

-- ---- what all of a list are, the nodes at its end and beside each of its nodes are

module _ (P : ℕ → Type 0) (next prev : ℕ → ℕ) where
  pub last_is : (a : ℕ) (k : List ℕ) (b : ℕ) → IsWay next prev a k b → AllAre P (a ∷ k) → P (prev b)
  last_is a [] b way all = subst P (sym way.1) all.0
  last_is a (x ∷ k) b way all = last_is x k b way.2 all.1

  pub before_is : (x node : ℕ) (k m : List ℕ) (y : ℕ) → IsWay next prev x (k ++ node ∷ m) y → AllAre P (x ∷ (k ++ node ∷ m)) → P (prev node)
  before_is x node [] m y way all = subst P (sym way.1) all.0
  before_is x node (z ∷ k) m y way all = before_is z node k m y way.2 all.1

  pub behind_is : (x node : ℕ) (k m : List ℕ) (y : ℕ) → IsWay next prev x (k ++ node ∷ m) y → AllAre P (k ++ node ∷ m) → P y → P (next node)
  behind_is x node [] [] y way all end = subst P (sym way.2.0) end
  behind_is x node [] (z ∷ m) y way all end = subst P (sym way.2.0) all.1.0
  behind_is x node (z ∷ k) m y way all end = behind_is z node k m y way.2 all.1 end

-- ---- a node joins

-- the last node of a way that isn't empty is none of those before it
last-apart : (next prev : ℕ → ℕ) (a x : ℕ) (l : List ℕ) (y n : ℕ) → IsWay next prev x l y → n ≢ x → IsNoneOf n l → n ≢ prev y
last-apart next prev a x [] y n way first none e = first (e ∙ way.1)
last-apart next prev a x (z ∷ l) y n way first none e = last-apart next prev a z l y n way.2 none.0 none.1 e

joins : (next prev : ℕ → ℕ) (x : ℕ) (l : List ℕ) (y node : ℕ) → IsWay next prev x l y → IsNoneOf x l →
    AreApart l → IsNoneOf y l → node ≢ y → IsNoneOf node (x ∷ l) →
    IsWay (put_at (put_at next (prev y) node) node y) (put_at (put_at prev node (prev y)) y node) x (l ++ node ∷ []) y
joins next prev x [] y node way self apart end other off =
    let last = way.1 in (
      put-other (put_at next (prev y) node) node y x (flip node x off.0) ∙ ap (λ p. put_at next p node x) last ∙ put-same next x node,
      put-other (put_at prev node (prev y)) y node node other ∙ put-same prev node (prev y) ∙ last,
      (put-same (put_at next (prev y) node) node y, put-same (put_at prev node (prev y)) y node),
    )
joins next prev x (z ∷ l) y node way self apart end other off = (
  put-other (put_at next (prev y) node) node y x (flip node x off.0)
      ∙ put-other next (prev y) node x (last-apart next prev x z l y x way.2 self.0 self.1) ∙ way.0,
  put-other (put_at prev node (prev y)) y node z (flip y z end.0) ∙ put-other prev node (prev y) z (flip node z off.1.0) ∙ way.1,
  joins next prev z l y node way.2 apart.0 apart.1 end.1 other off.1,
)

pub joins_last : (next prev : ℕ → ℕ) (head node : ℕ) (l : List ℕ) → IsList next prev head l → IsNoneOf node (head ∷ l) →
    IsList (put_at (put_at next (prev head) node) node head) (put_at (put_at prev node (prev head)) head node) head (l ++ node ∷ [])
joins_last next prev head node l is off = record {
  way = joins next prev head l head node is.way is.apart.0 is.apart.1 is.apart.0 off.0 off;
  apart = apart-append node (head ∷ l) is.apart off;
}

-- ---- a node leaves

after-leaving : (next prev : ℕ → ℕ) (x node : ℕ) (k : List ℕ) (y : ℕ) → next x ≡ node → prev node ≡ x →
    IsWay next prev node k y → IsNoneOf x k → AreApart k → IsNoneOf y k →
    IsWay (put_at next (prev node) (next node)) (put_at prev (next node) (prev node)) x k y
after-leaving next prev x node [] y to from way self apart end = (
  ap (λ p. put_at next p (next node) x) from ∙ put-same next x (next node) ∙ way.0,
  ap (λ n. put_at prev n (prev node) y) way.0 ∙ put-same prev y (prev node) ∙ from,
)
after-leaving next prev x node (z ∷ k) y to from way self apart end = (
  ap (λ p. put_at next p (next node) x) from ∙ put-same next x (next node) ∙ way.0,
  ap (λ n. put_at prev n (prev node) z) way.0 ∙ put-same prev z (prev node) ∙ from,
  subst (λ p. IsWay (put_at next p (next node)) (put_at prev (next node) p) z k y) (sym from)
      (subst (λ q. IsWay (put_at next x q) (put_at prev q x) z k y) (sym way.0) (way-stays next prev z k y x z z x way.2 self apart.0 (flip y z end.0))),
)

-- the node before one on a way, and the one behind it
before-apart : (next prev : ℕ → ℕ) (x node : ℕ) (l k : List ℕ) (y n : ℕ) → IsWay next prev x (l ++ node ∷ k) y → n ≢ x → IsNoneOf n l → n ≢ prev node
before-apart next prev x node [] k y n way first none e = first (e ∙ way.1)
before-apart next prev x node (z ∷ l) k y n way first none e = before-apart next prev z node l k y n way.2 none.0 none.1 e

behind-apart : (next prev : ℕ → ℕ) (x node : ℕ) (l k : List ℕ) (y n : ℕ) → IsWay next prev x (l ++ node ∷ k) y → IsNoneOf n k → n ≢ y → n ≢ next node
behind-apart next prev x node (z ∷ l) k y n way none end e = behind-apart next prev z node l k y n way.2 none end e
behind-apart next prev x node [] [] y n way none end e = end (e ∙ way.2.0)
behind-apart next prev x node [] (z ∷ k) y n way none end e = none.0 (e ∙ way.2.0)

leaves : (next prev : ℕ → ℕ) (x node : ℕ) (l k : List ℕ) (y : ℕ) → IsWay next prev x (l ++ node ∷ k) y →
    AreApart (x ∷ (l ++ node ∷ k)) → IsNoneOf y (l ++ node ∷ k) →
    IsWay (put_at next (prev node) (next node)) (put_at prev (next node) (prev node)) x (l ++ k) y
leaves next prev x node [] k y way apart end = after-leaving next prev x node k y way.0 way.1 way.2 apart.0.1 apart.1.1 end.1
leaves next prev x node (z ∷ l) k y way apart end =
    let in_l = none-left x l (node ∷ k) apart.0.1 in
    let behind = (none-right z l (node ∷ k) apart.1.0).1 in (
      put-other next (prev node) (next node) x (before-apart next prev z node l k y x way.2 apart.0.0 in_l) ∙ way.0,
      put-other prev (next node) (prev node) z (behind-apart next prev z node l k y z way.2 behind (flip y z end.0)) ∙ way.1,
      leaves next prev z node l k y way.2 apart.1 end.1,
    )

pub leaves_list : (next prev : ℕ → ℕ) (head node : ℕ) (l k : List ℕ) → IsList next prev head (l ++ node ∷ k) →
    IsList (put_at next (prev node) (next node)) (put_at prev (next node) (prev node)) head (l ++ k)
leaves_list next prev head node l k is = record {
  way = leaves next prev head node l k head is.way is.apart is.apart.0;
  apart = (none-append head l k (none-left head l (node ∷ k) is.apart.0) (none-right head l (node ∷ k) is.apart.0).1, apart-without node l k is.apart.1);
}
