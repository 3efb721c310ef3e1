-- LinkedLaws: the pointers of an object go to the rings of what they lead to, field by field.
use Rattle.std.proofs.Common.{◌≡◌, ◌≢◌, ℕ, zero, suc, ◌+◌, ◌*◌, ◌/◌, ◌%◌, ◌<◌, ◌≤◌, ltb, Bool, true, false, cond, ◌==◌, ◌&&◌, List, Option, Some}
use Rattle.std.proofs.Common.{None, option_map, refl, sym, ap, ◌∙◌, arith}
use Rattle.std.proofs.lemmas.Bool.Decides.{nat_tests}
use Rattle.fk_model.specs.Objects.{and_then}
use Rattle.fk_model.specs.declared.names.Who.{Who}
use Rattle.fk_model.specs.declared.body.Body.{Body}
use Rattle.fk_store_graph.specs.Hints.Leads.{led}
use Rattle.fk_store_graph.specs.declared.links.links.Link.{Link}
use Rattle.fk_store_graph.specs.Links.Links.{AreRings}
use Rattle.fk_store_graph.specs.Links.Nodes.{is_head, node_of}
use Rattle.fk_store_graph.specs.Links.Rings.{put_at}
use Rattle.fk_store_graph.proofs.InLinks.NodeLaws.{rings_along}
use Rattle.fk_store_cells.specs.Objects.Filed.{Filed, IsFiled, key_of}
use Rattle.fk_store_graph.specs.Linked.Bodied.{head_by, head_led, owner_with, unled_with, HaveNodes, HaveHeads}
use Rattle.fk_store_graph.specs.Leads.Leading.{target}
use Rattle.fk_store_graph.proofs.InLinked.BodyLaws.{under_name}
use Rattle.fk_store_graph.proofs.InLeads.PointerLaws.{no_target}

module _ (o : Filed) (others : ℕ → Option ℕ) (key : ℕ) (b : Option Body) where
  -- the fields so far
  abbrev pub so_far : ℕ → ℕ → Option ℕ
  so_far f n = cond (n / 5 == key && ltb (n % 5) f) (head_led o b (n % 5)) (others n)

  pub none_yet : (links : List Link) → AreRings links others → AreRings links (so_far 0)
  none_yet links = rings_along links others (so_far 0) (λ n field. rw (low n) (by n (n / 5 == key)))
    where
      low : (n : ℕ) → ltb (n % 5) 0 ≡ false
      low n = grind (arith, nat_tests)

      by : (n : ℕ) (a : Bool) → cond (a && false) (head_led o b (n % 5)) (others n) ≡ others n
      by n true = refl
      by n false = refl

  module _ (f : ℕ) (few : f < 5) where
    here_is : (n : ℕ) → n ≡ node_of key f → (n / 5 ≡ key) × (n % 5 ≡ f)
    here_is n is = (omega (arith, is, few), omega (arith, is, few))

    is_here : (n : ℕ) → n / 5 ≡ key → n % 5 ≡ f → n ≡ node_of key f
    is_here n space rest = omega (arith, space, rest)

    more-at : (n : ℕ) → so_far (f + 1) n ≡ put_at (so_far f) (node_of key f) (head_led o b f) n
    more-at n = go (n / 5 == key) refl (n == node_of key f) refl (ltb (n % 5) (f + 1)) refl (ltb (n % 5) f) refl
      where
        go : (a : Bool) → (n / 5 == key) ≡ a → (c : Bool) → (n == node_of key f) ≡ c → (p : Bool) → ltb (n % 5) (f + 1) ≡ p → (q : Bool) → ltb (n % 5) f ≡ q →
            cond (a && p) (head_led o b (n % 5)) (others n) ≡ cond c (head_led o b f) (cond (a && q) (head_led o b (n % 5)) (others n))
        go false e true g p h q k =
            let same : n ≡ node_of key f = grind (arith, nat_tests) in let here = (here_is n same).0 in absurd (grind (arith, nat_tests))
        go false e false g p h q k = refl
        go true e true g true h q k = let same : n ≡ node_of key f = grind (arith, nat_tests) in ap (head_led o b) (here_is n same).1
        go true e true g false h q k =
            let same : n ≡ node_of key f = grind (arith, nat_tests) in let here = (here_is n same).1 in absurd (grind (arith, nat_tests))
        go true e false g true h true k = refl
        go true e false g true h false k =
            let rest : n % 5 ≡ f = grind (arith, nat_tests) in
            let space : n / 5 ≡ key = grind (arith, nat_tests) in
            let same = is_here n space rest in absurd (grind (arith, nat_tests))
        go true e false g false h true k = absurd (grind (arith, nat_tests))
        go true e false g false h false k = refl

    -- a field that is yet to come leads where it led
    pub not_yet : so_far f (node_of key f) ≡ others (node_of key f)
    not_yet = ap (λ t. cond (node_of key f / 5 == key && t) (head_led o b (node_of key f % 5)) (others (node_of key f))) low ∙ by (node_of key f / 5 == key)
      where
        low : ltb (node_of key f % 5) f ≡ false
        low = let rest = (here_is (node_of key f) refl).1 in grind (arith, nat_tests)

        by : (t : Bool) → cond (t && false) (head_led o b (node_of key f % 5)) (others (node_of key f)) ≡ others (node_of key f)
        by true = refl
        by false = refl

    pub one_more : (links : List Link) → AreRings links (put_at (so_far f) (node_of key f) (head_led o b f)) → AreRings links (so_far (f + 1))
    one_more links = rings_along links _ (so_far (f + 1)) (λ n field. more-at n)

  -- the rest leads where it led
  pub all_fields : (links : List Link) (f : ℕ) → ((i : ℕ) → f ≤ i → i < 5 → head_led o b i ≡ others (node_of key i)) → AreRings links (so_far f) →
      AreRings links (owner_with o others key b)
  unfolding owner_with
  all_fields links f rest = rings_along links (so_far f) (owner_with o others key b) (λ n field. by n (n / 5 == key) refl (ltb (n % 5) f) refl)
    where
      by : (n : ℕ) (a : Bool) → (n / 5 == key) ≡ a → (p : Bool) → ltb (n % 5) f ≡ p →
          cond a (head_led o b (n % 5)) (others n) ≡ cond (a && p) (head_led o b (n % 5)) (others n)
      by n false e p g = refl
      by n true e true g = refl
      by n true e false g =
          let space : n / 5 ≡ key = grind (arith, nat_tests) in
          let past : f ≤ n % 5 = grind (arith, nat_tests) in
          let is : n ≡ node_of key (n % 5) = omega (arith, space) in
          rest (n % 5) past (omega arith) ∙ ap others (sym is)

-- ---- one field

-- the field at 2 is the head
pub head_put : (links : List Link) (owner : ℕ → Option ℕ) (key f : ℕ) (to : Option ℕ) → f ≡ 2 → AreRings links owner →
    AreRings links (put_at owner (node_of key f) to)
head_put links owner key f to two = rings_along links owner (put_at owner (node_of key f) to) (λ n field. by n field (n == node_of key f) refl)
  where
    by : (n : ℕ) → is_head n ≡ false → (c : Bool) → (n == node_of key f) ≡ c → cond c to (owner n) ≡ owner n
    by n field false e = refl
    by n field true e =
        let is : n ≡ node_of key f = grind (arith, nat_tests) in
        let rest : n % 5 ≡ 2 = omega (arith, is, two) in absurd (grind (arith, nat_tests))

-- a field that leads where it led
pub kept_put : (links : List Link) (owner : ℕ → Option ℕ) (key f : ℕ) (to : Option ℕ) → owner (node_of key f) ≡ to → AreRings links owner →
    AreRings links (put_at owner (node_of key f) to)
kept_put links owner key f to was = rings_along links owner (put_at owner (node_of key f) to) (λ n field. by n (n == node_of key f) refl)
  where
    by : (n : ℕ) (c : Bool) → (n == node_of key f) ≡ c → cond c to (owner n) ≡ owner n
    by n false e = refl
    by n true e = let is : n ≡ node_of key f = grind (arith, nat_tests) in sym (ap owner is ∙ was)

-- a field is a pointer, but that at 2
pub pointer_node : (key f : ℕ) → f < 5 → f ≢ 2 → is_head (node_of key f) ≡ false
pointer_node key f few apart = let rest : node_of key f % 5 ≡ f = omega (arith, few) in grind (arith, nat_tests)

pub head_node : (key : ℕ) → is_head (node_of key 2) ≡ true
head_node key = let rest : node_of key 2 % 5 ≡ 2 = omega arith in grind (arith, nat_tests)

-- ---- no field

-- a field that leads nowhere
pub no_lead : (o : Filed) (b : Body) (i : ℕ) → led b i ≡ None → head_led o (Some b) i ≡ None
no_lead o b i none = ap (and_then (head_by o)) (no_target b i none)

-- ---- one field leads nowhere any more, and it is the only one

pub single_rings : (o : Filed) (links : List Link) (owner : ℕ → Option ℕ) (key : ℕ) (old b : Body) → ((i : ℕ) → 1 ≤ i → led old i ≡ None) →
    ((i : ℕ) → led b i ≡ None) → ((i : ℕ) → i < 5 → owner (node_of key i) ≡ head_led o (Some old) i) →
    AreRings links (put_at owner (node_of key 0) None) → AreRings links (owner_with o owner key (Some b))
unfolding owner_with
single_rings o links owner key old b one none was = rings_along links (put_at owner (node_of key 0) None) (owner_with o owner key (Some b)) (λ n field.
    go n (n / 5 == key) refl (n == node_of key 0) refl)
  where
    go : (n : ℕ) (a : Bool) → (n / 5 == key) ≡ a → (c : Bool) → (n == node_of key 0) ≡ c →
        cond a (head_led o (Some b) (n % 5)) (owner n) ≡ cond c None (owner n)
    go n false e true f = let same : n ≡ node_of key 0 = grind (arith, nat_tests) in let here : n / 5 ≡ key = omega (arith, same) in
        absurd (grind (arith, nat_tests))
    go n false e false f = refl
    go n true e true f = no_lead o b (n % 5) (none (n % 5))
    go n true e false f =
        let space : n / 5 ≡ key = grind (arith, nat_tests) in
        let off : n ≢ node_of key 0 = grind (arith, nat_tests) in
        let is : n ≡ node_of key (n % 5) = omega (arith, space) in
        let few : n % 5 < 5 = omega arith in
        no_lead o b (n % 5) (none (n % 5)) ∙ sym (ap owner is ∙ was (n % 5) few ∙ no_lead o old (n % 5) (one (n % 5) (past n space off)))
      where
        past : (n : ℕ) → n / 5 ≡ key → n ≢ node_of key 0 → 1 ≤ n % 5
        past n space off = by (n % 5) refl
          where
            by : (r : ℕ) → n % 5 ≡ r → 1 ≤ r
            by zero e = absurd (off (omega (arith, space, e)))
            by (suc r) e = omega arith

-- ---- one field leads elsewhere, and it is the only one

pub single_led : (o : Filed) (links : List Link) (owner : ℕ → Option ℕ) (key : ℕ) (old b : Body) → ((i : ℕ) → 1 ≤ i → led old i ≡ None) →
    ((i : ℕ) → 1 ≤ i → led b i ≡ None) → ((i : ℕ) → i < 5 → owner (node_of key i) ≡ head_led o (Some old) i) →
    AreRings links (put_at owner (node_of key 0) (head_led o (Some b) 0)) → AreRings links (owner_with o owner key (Some b))
unfolding owner_with
single_led o links owner key old b one other was =
    rings_along links (put_at owner (node_of key 0) (head_led o (Some b) 0)) (owner_with o owner key (Some b)) (λ n field.
    go n (n / 5 == key) refl (n == node_of key 0) refl)
  where
    past : (n : ℕ) → n / 5 ≡ key → n ≢ node_of key 0 → 1 ≤ n % 5
    past n space off = by (n % 5) refl
      where
        by : (r : ℕ) → n % 5 ≡ r → 1 ≤ r
        by zero e = absurd (off (omega (arith, space, e)))
        by (suc r) e = omega arith

    go : (n : ℕ) (a : Bool) → (n / 5 == key) ≡ a → (c : Bool) → (n == node_of key 0) ≡ c →
        cond a (head_led o (Some b) (n % 5)) (owner n) ≡ cond c (head_led o (Some b) 0) (owner n)
    go n false e true f = let same : n ≡ node_of key 0 = grind (arith, nat_tests) in let here : n / 5 ≡ key = omega (arith, same) in
        absurd (grind (arith, nat_tests))
    go n false e false f = refl
    go n true e true f =
        let same : n ≡ node_of key 0 = grind (arith, nat_tests) in
        let rest : n % 5 ≡ 0 = omega (arith, same) in ap (head_led o (Some b)) rest
    go n true e false f =
        let space : n / 5 ≡ key = grind (arith, nat_tests) in
        let off : n ≢ node_of key 0 = grind (arith, nat_tests) in
        let is : n ≡ node_of key (n % 5) = omega (arith, space) in
        let few : n % 5 < 5 = omega arith in
        let low = past n space off in
        no_lead o b (n % 5) (other (n % 5) low) ∙ sym (ap owner is ∙ was (n % 5) few ∙ no_lead o old (n % 5) (one (n % 5) low))

-- ---- nowhere

module _ (others : ℕ → Option ℕ) (key : ℕ) where
  abbrev pub unled_so_far : ℕ → ℕ → Option ℕ
  unled_so_far f n = cond (n / 5 == key && ltb (n % 5) f) None (others n)

  pub none_unled : (links : List Link) → AreRings links others → AreRings links (unled_so_far 0)
  none_unled links = rings_along links others (unled_so_far 0) (λ n field. rw (low n) (by n (n / 5 == key)))
    where
      low : (n : ℕ) → ltb (n % 5) 0 ≡ false
      low n = grind (arith, nat_tests)

      by : (n : ℕ) (a : Bool) → cond (a && false) None (others n) ≡ others n
      by n true = refl
      by n false = refl

  pub one_unled : (f : ℕ) → f < 5 → (links : List Link) → AreRings links (put_at (unled_so_far f) (node_of key f) None) → AreRings links (unled_so_far (f + 1))
  one_unled f few links = rings_along links _ (unled_so_far (f + 1)) (λ n field.
      go n (n / 5 == key) refl (n == node_of key f) refl (ltb (n % 5) (f + 1)) refl (ltb (n % 5) f) refl)
    where
      go : (n : ℕ) (a : Bool) → (n / 5 == key) ≡ a → (c : Bool) → (n == node_of key f) ≡ c → (p : Bool) → ltb (n % 5) (f + 1) ≡ p → (q : Bool) →
          ltb (n % 5) f ≡ q →
          cond (a && p) None (others n) ≡ cond c None (cond (a && q) None (others n))
      go n false e true g p h q k =
          let same : n ≡ node_of key f = grind (arith, nat_tests) in let here : n / 5 ≡ key = omega (arith, same, few) in absurd (grind (arith, nat_tests))
      go n false e false g p h q k = refl
      go n true e true g true h q k = refl
      go n true e true g false h q k =
          let same : n ≡ node_of key f = grind (arith, nat_tests) in
          let here : n % 5 ≡ f = omega (arith, same, few) in absurd (grind (arith, nat_tests))
      go n true e false g true h true k = refl
      go n true e false g true h false k =
          let rest : n % 5 ≡ f = grind (arith, nat_tests) in
          let space : n / 5 ≡ key = grind (arith, nat_tests) in
          let same : n ≡ node_of key f = omega (arith, space, rest) in absurd (grind (arith, nat_tests))
      go n true e false g false h true k = absurd (grind (arith, nat_tests))
      go n true e false g false h false k = refl

  pub all_unled : (links : List Link) (f : ℕ) → ((i : ℕ) → f ≤ i → i < 5 → others (node_of key i) ≡ None) → AreRings links (unled_so_far f) →
      AreRings links (unled_with others key)
  unfolding unled_with
  all_unled links f rest = rings_along links (unled_so_far f) (unled_with others key) (λ n field. by n (n / 5 == key) refl (ltb (n % 5) f) refl)
    where
      by : (n : ℕ) (a : Bool) → (n / 5 == key) ≡ a → (p : Bool) → ltb (n % 5) f ≡ p → cond a None (others n) ≡ cond (a && p) None (others n)
      by n false e p g = refl
      by n true e true g = refl
      by n true e false g =
          let space : n / 5 ≡ key = grind (arith, nat_tests) in
          let past : f ≤ n % 5 = grind (arith, nat_tests) in
          let is : n ≡ node_of key (n % 5) = omega (arith, space) in
          sym (ap others is ∙ rest (n % 5) past (omega arith))

-- ---- heads

-- a body leads to heads that are there
module _ (o : Filed) (b : Body) (f h : ℕ) (is : head_led o (Some b) f ≡ Some h) where
  pub led_head : (w : Who) × (target f b ≡ Some w) × (k : ℕ) × (key_of o w ≡ Some k) × (node_of k 2 ≡ h)
  led_head = go (target f b) refl is
    where
      keyed : (w : Who) → target f b ≡ Some w → (x : Option ℕ) → key_of o w ≡ x → option_map (λ k. node_of k 2) x ≡ Some h →
          (w : Who) × (target f b ≡ Some w) × (k : ℕ) × (key_of o w ≡ Some k) × (node_of k 2 ≡ h)
      keyed w t None e g = absurd (cc)
      keyed w t (Some k) e g = (w, t, k, e, cc)

      go : (x : Option Who) → target f b ≡ x → and_then (head_by o) x ≡ Some h →
          (w : Who) × (target f b ≡ Some w) × (k : ℕ) × (key_of o w ≡ Some k) × (node_of k 2 ≡ h)
      go None t g = absurd (cc)
      go (Some w) t g = keyed w t (key_of o w) refl g

pub within_led : (o : Filed) (long : ℕ) (b : Body) (f : ℕ) → HaveHeads o long → (h : ℕ) → head_led o (Some b) f ≡ Some h → h < long
within_led o long b f heads h is =
    let found = led_head o b f h is in
    let low = heads found.0 found.2 found.3 in
    let here = found.4 in
    omega (arith, low, here)

pub head_is : (o : Filed) (b : Body) (f h : ℕ) → head_led o (Some b) f ≡ Some h → is_head h ≡ true
head_is o b f h is = let found = led_head o b f h is in ap is_head (sym found.4) ∙ head_node found.2

pub heads_longer : (o : Filed) (long now : ℕ) → now ≡ long → HaveHeads o long → HaveHeads o now
heads_longer o long now same heads w key h = let low = heads w key h in omega (arith, low, same)

-- whoever has nodes has a head
pub have_heads : (o : Filed) (long : ℕ) → IsFiled o → HaveNodes o long → HaveHeads o long
have_heads o long filed nodes w key h = let found = under_name o w key filed h in nodes key found.0 found.1

-- the head of what is there is
pub head_room : (o : Filed) (long : ℕ) (who : Who) (key : ℕ) → IsFiled o → key_of o who ≡ Some key → HaveNodes o long → node_of key 2 < long
head_room o long who key filed here nodes =
    let found = under_name o who key filed here in
    let low = nodes key found.0 found.1 in
    omega (arith, low)
