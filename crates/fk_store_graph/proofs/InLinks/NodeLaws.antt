-- NodeLaws: rings by owners, as nodes leave and join them.
use Rattle.std.proofs.Common.{◌≡◌, ◌≢◌, ℕ, ◌<◌, ◌≤◌, Bool, true, false, cond, ◌==◌, ltb, List, [], length, Option, Some, None, refl, sym, ap, ◌∙◌, arith}
use Rattle.std.proofs.lemmas.Bool.Decides.{nat_tests}
use Rattle.std.proofs.lemmas.List.{get_or_past}
use Rattle.fk_store_graph.specs.declared.links.links.Link.{Link}
use Rattle.fk_store_graph.specs.Links.Links.{alone, next_at, prev_at, AreLinked, AreRings, IsWithin}
use Rattle.fk_store_graph.specs.Links.Nodes.{is_head, headed}
use Rattle.fk_store_graph.specs.Links.Rings.{put_at}
use Rattle.fk_store_graph.proofs.InLinks.RingLaws.{IsRings-along, is_alone, unlinked, joined, unled, behind}

-- ---- nodes that aren't there

next_past : (links : List Link) (n : ℕ) → length links ≤ n → next_at links n ≡ n
unfolding next_at
next_past links n past = ap (λ (l : Link). l.next) (get_or_past links n (alone n) past)

prev_past : (links : List Link) (n : ℕ) → length links ≤ n → prev_at links n ≡ n
unfolding prev_at
prev_past links n past = ap (λ (l : Link). l.prev) (get_or_past links n (alone n) past)

pub next_within : (links : List Link) (n : ℕ) → AreLinked links → n < length links → next_at links n < length links
next_within links n linked low = by (ltb (next_at links n) (length links)) refl
  where
    by : (b : Bool) → ltb (next_at links n) (length links) ≡ b → next_at links n < length links
    by true e = grind (arith, nat_tests)
    by false e =
        let past : length links ≤ next_at links n = grind (arith, nat_tests) in
        let a = prev_past links (next_at links n) past in
        let b = linked.back n in absurd (omega (arith, a, b, past, low))

pub prev_within : (links : List Link) (n : ℕ) → AreLinked links → n < length links → prev_at links n < length links
prev_within links n linked low = by (ltb (prev_at links n) (length links)) refl
  where
    by : (b : Bool) → ltb (prev_at links n) (length links) ≡ b → prev_at links n < length links
    by true e = grind (arith, nat_tests)
    by false e =
        let past : length links ≤ prev_at links n = grind (arith, nat_tests) in
        let a = next_past links (prev_at links n) past in
        let b = linked.forth n in absurd (omega (arith, a, b, past, low))

pub are_within : (links : List Link) → AreLinked links → IsWithin links
are_within links linked = record { next = λ n low. next_within links n linked low; prev = λ n low. prev_within links n linked low }

-- ---- none

pub linked_none : AreLinked []
unfolding next_at prev_at
linked_none = record { small = omega arith; back = λ n. refl; forth = λ n. refl }

no_one : (w : ℕ) → None ≡ Some w → ⊥
no_one w h = absurd (cc)

pub rings_none : AreRings [] (λ n. None)
unfolding AreRings next_at prev_at
rings_none = record {
  back = λ n. refl;
  forth = λ n. refl;
  same = λ n. refl;
  alone = λ n none. refl;
  rank = λ n. 0;
  falls = λ n w leads field. absurd (no_one w (rw field at leads));
}

-- ---- links that agree

module _ (links now : List Link) (nexts : (n : ℕ) → next_at now n ≡ next_at links n) (prevs : (n : ℕ) → prev_at now n ≡ prev_at links n) where
  pub linked_same : length now ≤ 4294967296 → AreLinked links → AreLinked now
  linked_same small linked = record {
    small = small;
    back = λ n. ap (prev_at now) (nexts n) ∙ prevs (next_at links n) ∙ linked.back n;
    forth = λ n. ap (next_at now) (prevs n) ∙ nexts (prev_at links n) ∙ linked.forth n;
  }

  pub rings_same : (owner : ℕ → Option ℕ) → AreRings links owner → AreRings now owner
  unfolding AreRings
  rings_same owner rings = IsRings-along is_head _ _ _ _ (headed owner) (headed owner) nexts prevs (λ m. refl) rings

-- rings of owners that agree on pointers
pub rings_along : (links : List Link) (owner now : ℕ → Option ℕ) → ((n : ℕ) → is_head n ≡ false → now n ≡ owner n) →
    AreRings links owner → AreRings links now
unfolding AreRings
rings_along links owner now same rings =
    IsRings-along is_head _ _ _ _ (headed owner) (headed now) (λ m. refl) (λ m. refl) (λ m. by m (is_head m) refl) rings
  where
    by : (m : ℕ) (b : Bool) → is_head m ≡ b → cond b (Some m) (now m) ≡ cond b (Some m) (owner m)
    by m true e = refl
    by m false e = same m e

-- ---- a node leaves its ring, or joins one

module _ (owner : ℕ → Option ℕ) where
  pub headed_head : (h : ℕ) → is_head h ≡ true → headed owner h ≡ Some h
  headed_head h head = rw head refl

  pub headed_field : (n : ℕ) → is_head n ≡ false → headed owner n ≡ owner n
  headed_field n field = rw field refl

  -- nothing else is the head of that ring
  pub one_head : (h m : ℕ) → is_head m ≡ true → headed owner m ≡ Some h → m ≡ h
  one_head h m head leads = let here : Some m ≡ Some h = rw head at leads in cc

  pub headed-put : (n : ℕ) (to : Option ℕ) → is_head n ≡ false → (m : ℕ) → headed (put_at owner n to) m ≡ put_at (headed owner) n to m
  headed-put n to field m = by (is_head m) refl (m == n) refl
    where
      by : (b : Bool) → is_head m ≡ b → (c : Bool) → (m == n) ≡ c →
          cond b (Some m) (cond c to (owner m)) ≡ cond c to (cond b (Some m) (owner m))
      by false e c f = refl
      by true e false f = refl
      by true e true f = let same : m ≡ n = grind (arith, nat_tests) in let tests = ap is_head same in absurd (cc)

module _ (next prev : ℕ → ℕ) (n : ℕ) (back : (m : ℕ) → prev (next m) ≡ m) (forth : (m : ℕ) → next (prev m) ≡ m) where
  -- whatever the owners, each node has the neighbours that have it
  taken_back : (m : ℕ) → put_at (put_at prev (next n) (prev n)) n n (put_at (put_at next (prev n) (next n)) n n m) ≡ m
  taken_back m = let a = back m in let b = forth m in let c = forth n in let d = back n in grind (arith, nat_tests)

  taken_forth : (m : ℕ) → put_at (put_at next (prev n) (next n)) n n (put_at (put_at prev (next n) (prev n)) n n m) ≡ m
  taken_forth m = let a = back m in let b = forth m in let c = forth n in let d = back n in grind (arith, nat_tests)

  put_back : (h : ℕ) → next n ≡ n → n ≢ h → (m : ℕ) → put_at (put_at prev (next h) n) n h (put_at (put_at next h n) n (next h) m) ≡ m
  put_back h apart off m = let a = back m in let b = forth m in let c = back n in let d = back h in grind (arith, nat_tests)

  put_forth : (h : ℕ) → next n ≡ n → n ≢ h → (m : ℕ) → put_at (put_at next h n) n (next h) (put_at (put_at prev (next h) n) n h m) ≡ m
  put_forth h apart off m = let a = back m in let b = forth m in let c = back n in let d = back h in grind (arith, nat_tests)

module _ (links now : List Link) (n : ℕ) (linked : AreLinked links) (long : length now ≡ length links)
    (nexts : (m : ℕ) → next_at now m ≡ put_at (put_at (next_at links) (prev_at links n) (next_at links n)) n n m)
    (prevs : (m : ℕ) → prev_at now m ≡ put_at (put_at (prev_at links) (next_at links n) (prev_at links n)) n n m) where
  pub linked_left : AreLinked now
  linked_left = record {
    small = let low = linked.small in omega (arith, low, long);
    back = λ m. prevs (next_at now m) ∙ ap (put_at (put_at (prev_at links) (next_at links n) (prev_at links n)) n n) (nexts m)
        ∙ taken_back (next_at links) (prev_at links) n linked.back linked.forth m;
    forth = λ m. nexts (prev_at now m) ∙ ap (put_at (put_at (next_at links) (prev_at links n) (next_at links n)) n n) (prevs m)
        ∙ taken_forth (next_at links) (prev_at links) n linked.back linked.forth m;
  }

  pub rings_left : is_head n ≡ false → (owner : ℕ → Option ℕ) → AreRings links owner → AreRings now (put_at owner n None)
  unfolding AreRings
  rings_left field owner rings = IsRings-along is_head _ _ _ _ (put_at (headed owner) n None) _ nexts prevs (headed-put owner n None field)
      (unlinked is_head _ _ (headed owner) rings n field)

-- a node that is alone led nowhere
pub rings_idle : (links : List Link) (n : ℕ) → is_head n ≡ false → next_at links n ≡ n →
    (owner : ℕ → Option ℕ) → AreRings links owner → AreRings links (put_at owner n None)
unfolding AreRings
rings_idle links n field apart owner rings =
    IsRings-along is_head _ _ _ _ (headed owner) _ (λ m. refl) (λ m. refl) (λ m. headed-put owner n None field m ∙ same m) rings
  where
    nowhere : headed owner n ≡ None
    nowhere = is_alone is_head _ _ (headed owner) rings n field apart

    same : (m : ℕ) → put_at (headed owner) n None m ≡ headed owner m
    same m = by (m == n) refl
      where
        by : (c : Bool) → (m == n) ≡ c → cond c None (headed owner m) ≡ headed owner m
        by false e = refl
        by true e = let is : m ≡ n = grind (arith, nat_tests) in sym (ap (headed owner) is ∙ nowhere)

module _ (links now : List Link) (n h : ℕ) (linked : AreLinked links) (apart : next_at links n ≡ n) (field : is_head n ≡ false) (head : is_head h ≡ true)
    (long : length now ≡ length links)
    (nexts : (m : ℕ) → next_at now m ≡ put_at (put_at (next_at links) h n) n (next_at links h) m)
    (prevs : (m : ℕ) → prev_at now m ≡ put_at (put_at (prev_at links) (next_at links h) n) n h m) where
  other : n ≢ h
  other is = let tests = ap is_head is in absurd (cc)

  pub linked_joined : AreLinked now
  linked_joined = record {
    small = let low = linked.small in omega (arith, low, long);
    back = λ m. prevs (next_at now m) ∙ ap (put_at (put_at (prev_at links) (next_at links h) n) n h) (nexts m)
        ∙ put_back (next_at links) (prev_at links) n linked.back linked.forth h apart other m;
    forth = λ m. nexts (prev_at now m) ∙ ap (put_at (put_at (next_at links) h n) n (next_at links h)) (prevs m)
        ∙ put_forth (next_at links) (prev_at links) n linked.back linked.forth h apart other m;
  }

  pub rings_joined : (owner : ℕ → Option ℕ) → AreRings links (put_at owner n None) → AreRings now (put_at owner n (Some h))
  unfolding AreRings
  rings_joined owner rings =
      IsRings-along is_head _ _ _ _ (put_at (headed (put_at owner n None)) n (Some h)) _ nexts prevs again
      (joined is_head _ _ (headed (put_at owner n None)) rings n h h field none head (headed_head (put_at owner n None) h head))
    where
      none : headed (put_at owner n None) n ≡ None
      none = headed_field (put_at owner n None) n field ∙ grind (arith, nat_tests)

      again : (m : ℕ) → headed (put_at owner n (Some h)) m ≡ put_at (headed (put_at owner n None)) n (Some h) m
      again m = headed-put owner n (Some h) field m ∙ by (m == n) refl ∙ sym (ap (λ f. f) (inner m))
        where
          inner : (m : ℕ) → put_at (headed (put_at owner n None)) n (Some h) m ≡ put_at (put_at (headed owner) n None) n (Some h) m
          inner m = ap (λ o. cond (m == n) (Some h) o) (headed-put owner n None field m)

          by : (c : Bool) → (m == n) ≡ c → cond c (Some h) (headed owner m) ≡ cond c (Some h) (cond c None (headed owner m))
          by true e = refl
          by false e = refl

-- ---- the ring of a head

module _ (links : List Link) (h : ℕ) (head : is_head h ≡ true) (owner : ℕ → Option ℕ) where
  pub nobody_there : next_at links h ≡ h → AreRings links owner → (n : ℕ) → is_head n ≡ false → owner n ≢ Some h
  unfolding AreRings
  nobody_there apart rings n field leads =
      unled is_head _ _ (headed owner) rings h h (one_head owner h) apart head n field (headed_field owner n field ∙ leads)

  pub somebody_there : next_at links h ≢ h → AreRings links owner → (is_head (next_at links h) ≡ false) × (owner (next_at links h) ≡ Some h)
  unfolding AreRings
  somebody_there more rings =
      let found = behind is_head _ _ (headed owner) rings h h (one_head owner h) more (headed_head owner h head) in
      (found.0, sym (headed_field owner (next_at links h) found.0) ∙ found.1)
