-- Numbers: what is told apart, and names that have more numbers than a list.
use Rattle.std.proofs.Common.{◌≡◌, ◌≢◌, ◌≤◌, ◌+◌, ◌==◌, ℕ, Bool, true, false, List, [], ◌∷◌, ◌++◌, length, length-append, Some, None}
use Rattle.std.proofs.Common.{refl, sym, ap, subst, ◌∙◌, arith, ne_eqb}
use Rattle.fk_model.specs.declared.names.Who.{Who}
use Rattle.fk_waits.specs.Causes.Names.{is_same, key_at, AreOnce}
use Rattle.fk_waits.specs.declared.causes.names.Name.{Name}
use Rattle.fk_waits.proofs.InCauses.Order.{same_self, same_who}

pub clash : {X : Type 0} (t : Bool) → t ≡ true → t ≡ false → X
clash t is_so not_so = absurd (cc)

pub unlike : (a b : ℕ) → a ≢ b → (a == b) ≡ false
unlike a b off = ne_eqb a b off

-- ---- a number in a list, and the rest of it

pub record IsIn (h : ℕ) (l : List ℕ) : Type 0 where
  pub before : List ℕ
  pub behind : List ℕ
  pub is : l ≡ before ++ h ∷ behind

pub in_first : (h : ℕ) (l : List ℕ) → IsIn h (h ∷ l)
in_first h l = record { before = []; behind = l; is = refl }

pub in_rest : (h x : ℕ) (l : List ℕ) → IsIn h l → IsIn h (x ∷ l)
in_rest h x l there = record { before = x ∷ there.before; behind = there.behind; is = ap (λ (k : List ℕ). x ∷ k) there.is }

abbrev tail : List ℕ → List ℕ
tail [] = []
tail (x ∷ l) = l

abbrev first : ℕ → List ℕ → ℕ
first d [] = d
first d (x ∷ l) = x

-- one that is another is in the rest
in_others : (g h : ℕ) (a b : List ℕ) → g ≢ h → IsIn g (a ++ h ∷ b) → IsIn g (a ++ b)
in_others g h [] b off there = by there.before there.is
  where
    by : (before : List ℕ) → h ∷ b ≡ before ++ g ∷ there.behind → IsIn g b
    by [] is = absurd (off (sym (ap (first g) is)))
    by (x ∷ before) is = record { before = before; behind = there.behind; is = ap tail is }
in_others g h (x ∷ a) b off there = by there.before there.is (λ rest. in_others g h a b off rest)
  where
    by : (before : List ℕ) → x ∷ (a ++ h ∷ b) ≡ before ++ g ∷ there.behind → (IsIn g (a ++ h ∷ b) → IsIn g (a ++ b)) → IsIn g (x ∷ (a ++ b))
    by [] is more = subst (λ (n : ℕ). IsIn g (n ∷ (a ++ b))) (sym (ap (first g) is)) (in_first g (a ++ b))
    by (y ∷ before) is more = in_rest g x (a ++ b) (more (record { before = before; behind = there.behind; is = ap tail is }))

-- ---- names with numbers of their own that all stand in a list are no more than it is long

never_some : {X : Type 0} {h : ℕ} → None ≡ Some h → X
never_some is = absurd (cc)

pub names_within : (names : List Name) (l : List ℕ) → AreOnce names → ((a b : Who) (h : ℕ) → key_at names a ≡ Some h → key_at names b ≡ Some h → a ≡ b) →
    ((a : Who) (h : ℕ) → key_at names a ≡ Some h → IsIn h l) → length names ≤ length l
names_within [] l once own there = omega arith
names_within (n ∷ names) l once own there =
    let here = there n.who n.key mine in
    let long = ap (λ (k : List ℕ). length k) here.is in
    let with_it = length-append here.before (n.key ∷ here.behind) in
    let without_it = length-append here.before here.behind in
    let rest = names_within names (here.before ++ here.behind) once.1 (λ a b h one other. own a b h (later a h one) (later b h other))
    (λ a h is. in_others h n.key here.before here.behind (other_key a h is) (subst (IsIn h) here.is (there a h (later a h is)))) in
    omega (arith, long, with_it, without_it, rest)
  where
    mine : key_at (n ∷ names) n.who ≡ Some n.key
    mine = rw (same_self n.who) refl

    other_name : (a : Who) (h : ℕ) → key_at names a ≡ Some h → is_same n.who a ≡ false
    other_name a h is = by (is_same n.who a) refl
      where
        by : (t : Bool) → is_same n.who a ≡ t → is_same n.who a ≡ false
        by true e = never_some (sym once.0 ∙ ap (key_at names) (same_who n.who a e) ∙ is)
        by false e = e

    later : (a : Who) (h : ℕ) → key_at names a ≡ Some h → key_at (n ∷ names) a ≡ Some h
    later a h is = rw (other_name a h is) is

    other_key : (a : Who) (h : ℕ) → key_at names a ≡ Some h → h ≢ n.key
    other_key a h is same =
        let name : n.who ≡ a = own n.who a h (mine ∙ ap (λ (k : ℕ). Some k) (sym same)) (later a h is) in
        clash (is_same n.who a) (ap (is_same n.who) (sym name) ∙ same_self n.who) (other_name a h is)
