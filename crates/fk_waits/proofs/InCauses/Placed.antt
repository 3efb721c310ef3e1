-- Placed: threads in the queues of causes, once a queue has come, or has somebody in it, or has gone.
use Rattle.std.proofs.Common.{◌≡◌, ◌≢◌, ◌≤◌, ◌<◌, ◌+◌, ◌==◌, ℕ, suc, Bool, true, false, List, [], ◌∷◌, length, map, Option, Some, None}
use Rattle.std.proofs.Common.{if◌then◌else◌, refl, sym, ap, subst, ◌∙◌, arith, eq-eqb}
use Rattle.std.proofs.lemmas.Bool.{eqb-true}
use Rattle.slab.specs.Slab.{Slab, slab_len}
use Rattle.fk_model.specs.declared.names.Who.{Who}
use Rattle.fk_waits.specs.Queues.Chains.{IsNoneOf}
use Rattle.fk_waits.specs.Queues.Nodes.{shown_at}
use Rattle.fk_waits.specs.declared.queues.lists.Node.{Node}
use Rattle.fk_waits.specs.Causes.Names.{is_same, key_at, AreOnce}
use Rattle.fk_waits.specs.declared.causes.names.Name.{Name}
use Rattle.fk_waits.proofs.InCauses.Order.{same_self, same_who}
use Rattle.fk_waits.specs.Queues.Places.{first_at, in_queue, node_in, who_in, who_shown, AllFiled, AreFiled, IsHead, Place, SameHeads}
use Rattle.fk_waits.specs.declared.queues.queues.Queues.{Queues}
use Rattle.fk_waits.specs.Causes.Causes.{standing_of, ArePlaced}
use Rattle.fk_waits.specs.declared.causes.causes.Causes.{Causes}
use Rattle.fk_waits.proofs.InCauses.Numbers.{clash, in_first, in_rest, names_within, IsIn}

abbrev pub with_queues : Causes → Queues → Causes
with_queues c q = record { queues = q; names = c.names; ready = c.ready; seats = c.seats; most = c.most; hand = c.hand }

abbrev pub with_both : Causes → Queues → List Name × ℕ → Causes
with_both c q names = record { queues = q; names = names; ready = c.ready; seats = c.seats; most = c.most; hand = c.hand }

-- ---- what nodes show, and names

pub shown_same : (a b : Who) (g h : ℕ) → ◌≡◌ {A = Option (Who × ℕ)} (Some (a, g)) (Some (b, h)) → (a ≡ b) × (g ≡ h)
shown_same a b g h is = (ap who_in is, ap node_in is)

pub none_shown : {x : Who × ℕ} → None ≡ Some x → ⊥
none_shown is = absurd (cc)

abbrev number_or : ℕ → Option ℕ → ℕ
number_or n None = n
number_or n (Some m) = m

pub key_same : (g h : ℕ) → Some g ≡ Some h → g ≡ h
key_same g h is = ap (number_or g) is

pub none_key : {X : Type 0} (g : ℕ) → None ≡ Some g → X
none_key g is = absurd (cc)

pub same_by : (a b : Who) → a ≡ b → is_same a b ≡ true
same_by a b is = subst (λ (x : Who). is_same a x ≡ true) is (same_self a)

-- a head isn't a node that shows nothing
pub head_apart : (s : Slab Node) (g h : ℕ) → shown_at s h ≡ None → IsHead s g → g ≢ h
head_apart s g h none is same = none_shown (sym none ∙ ap (shown_at s) (sym same) ∙ is.1)

pub turn_round : (a b : ℕ) → a ≢ b → b ≢ a
turn_round a b off e = off (sym e)

-- ---- heads

abbrev pub head_of : Place → ℕ
head_of p = p.head

pub vacant_heads : (order s : Slab Node) (h : ℕ) → shown_at s h ≡ None → (l : List Place) → AllFiled order s l → IsNoneOf h (map head_of l)
vacant_heads order s h none [] filed = tt
vacant_heads order s h none (p ∷ l) filed = (turn_round p.head h (head_apart s p.head h none filed.0.head), vacant_heads order s h none l filed.1)

-- nobody is first where nobody stands
pub none_first : (h : ℕ) (l : List Place) → first_at h l ≡ None → IsNoneOf h (map head_of l) × (in_queue h l ≡ [])
none_first h [] none = (tt, refl)
none_first h (p ∷ l) none = by (p.head == h) refl none (λ rest. none_first h l rest)
  where
    by : (t : Bool) → (p.head == h) ≡ t → (if p.head == h then Some p.who else first_at h l) ≡ None →
        (first_at h l ≡ None → IsNoneOf h (map head_of l) × (in_queue h l ≡ [])) →
        ((h ≢ p.head) × IsNoneOf h (map head_of l)) × ((if p.head == h then p.node ∷ in_queue h l else in_queue h l) ≡ [])
    by true e is more = let not_so = rw e at is in absurd (cc)
    by false e is more =
        let rest = more (rw e at is) in
        (((λ (same : h ≡ p.head). clash (p.head == h) (eq-eqb p.head h (sym same)) e), rest.0), rw e rest.1)

pub some_first : (h : ℕ) (l : List Place) → first_at h l ≢ None → IsIn h (map head_of l)
some_first h [] some = absurd (some refl)
some_first h (p ∷ l) some = by (p.head == h) refl some (λ rest. some_first h l rest)
  where
    by : (t : Bool) → (p.head == h) ≡ t → (if p.head == h then Some p.who else first_at h l) ≢ None →
        (first_at h l ≢ None → IsIn h (map head_of l)) → IsIn h (p.head ∷ map head_of l)
    by true e is more = subst (λ (n : ℕ). IsIn h (n ∷ map head_of l)) (sym (eqb-true p.head h e)) (in_first h (map head_of l))
    by false e is more = in_rest h p.head (map head_of l) (more (rw e at is))

-- ---- what those wait for whose queues show what they did

pub alike : (c : Causes) (q : Queues) (names : List Name × ℕ) (order : Slab Node) (l : List Place) → AllFiled order c.queues.lines l →
    SameHeads c.queues.lines q.lines → map (standing_of (with_both c q names)) l ≡ map (standing_of c) l
alike c q names order [] filed same = refl
alike c q names order (p ∷ l) filed same = λ i.
    record { key = p.key; who = p.who; cause = (if p.head == c.ready then None else who_shown (same.kept p.head filed.0.head i)) }
    ∷ alike c q names order l filed.1 same i

pub alike_but : (c : Causes) (q : Queues) (names : List Name × ℕ) (h : ℕ) (l : List Place) → IsNoneOf h (map head_of l) →
    ((m : ℕ) → m ≢ h → shown_at q.lines m ≡ shown_at c.queues.lines m) → map (standing_of (with_both c q names)) l ≡ map (standing_of c) l
alike_but c q names h [] none others = refl
alike_but c q names h (p ∷ l) none others =
    let off : p.head ≢ h = turn_round h p.head none.0 in
    λ i.
    record { key = p.key; who = p.who; cause = (if p.head == c.ready then None else who_shown (others p.head off i)) }
    ∷ alike_but c q names h l none.1 others i

-- ---- a thread comes to another queue, or leaves it

pub at_queue : (c : Causes) (g h : ℕ) (l : List Place) → ArePlaced c g l → IsHead c.queues.lines h → ArePlaced c h l
at_queue c g h l p is = record {
  filed = p.filed;
  ready = p.ready;
  one = is;
  known = p.known;
  found = p.found;
  order = p.order;
  lines = p.lines;
  few = p.few;
  many = p.many;
}

-- ---- where somebody stands in each queue that has a name, there are no more of these than threads

length_heads : (k : List Place) → length (map head_of k) ≡ length k
length_heads [] = refl
length_heads (x ∷ k) = ap (λ (n : ℕ). suc n) (length_heads k)

pub all_taken : (c : Causes) (l : List Place) → ArePlaced c c.ready l → AreOnce c.names.0 →
    ((name : Who) (h : ℕ) → key_at c.names.0 name ≡ Some h → first_at h l ≢ None) → length c.names.0 ≤ length l
all_taken c l p once taken =
    let within = names_within c.names.0 (map head_of l) once
    (λ a b h one other. (shown_same a b h h (sym (p.known a h one).0 ∙ (p.known b h other).0)).0)
    (λ name h is. some_first h l (taken name h is)) in
    let long = length_heads l in
    omega (arith, within, long)

-- ---- a queue comes

module _ (c : Causes) (q : Queues) (names : List Name × ℕ) (h : ℕ) (name : Who) (unknown : key_at c.names.0 name ≡ None)
    (new : shown_at c.queues.lines h ≡ None) (shown : shown_at q.lines h ≡ Some (name, h))
    (others : (m : ℕ) → m ≢ h → shown_at q.lines m ≡ shown_at c.queues.lines m)
    (put : (other : Who) → key_at names.0 other ≡ (if is_same name other then Some h else key_at c.names.0 other))
    (more : length names.0 ≡ length c.names.0 + 1)
    (order : slab_len q.order ≡ slab_len c.queues.order) (lines : slab_len q.lines ≡ slab_len c.queues.lines + 1) where
  pub opened : (l : List Place) → ArePlaced c c.ready l → AreFiled q l → length c.names.0 < c.most → ArePlaced (with_both c q names) h l
  opened l p filed place = record {
    filed = filed;
    ready = (p.ready.0, others c.ready (head_apart c.queues.lines c.ready h new p.ready) ∙ p.ready.1);
    one = (name, shown);
    known = λ n g is. known n g (is_same name n) refl (sym (put n) ∙ is);
    found = λ n g is off. found n g is off (g == h) refl;
    order = order ∙ p.order;
    lines = omega (arith, lines, p.lines, more);
    few = p.few;
    many = omega (arith, more, place);
  }
    where
      apart : h ≢ c.ready
      apart = turn_round c.ready h (head_apart c.queues.lines c.ready h new p.ready)

      known : (n : Who) (g : ℕ) (t : Bool) → is_same name n ≡ t → (if is_same name n then Some h else key_at c.names.0 n) ≡ Some g →
          (shown_at q.lines g ≡ Some (n, g)) × (g ≢ c.ready)
      known n g true e is =
          let here : h ≡ g = key_same h g (rw e at is) in
          subst (λ (m : ℕ). (shown_at q.lines m ≡ Some (n, m)) × (m ≢ c.ready)) here
          (subst (λ (w : Who). shown_at q.lines h ≡ Some (w, h)) (same_who name n e) shown, apart)
      known n g false e is =
          let was = p.known n g (rw e at is) in
          (others g (head_apart c.queues.lines g h new (n, was.0)) ∙ was.0, was.1)

      found : (n : Who) (g : ℕ) → shown_at q.lines g ≡ Some (n, g) → g ≢ c.ready → (t : Bool) → (g == h) ≡ t → key_at names.0 n ≡ Some g
      found n g is off true e =
          let here : g ≡ h = eqb-true g h e in
          let same : name ≡ n = (shown_same name n h g (sym shown ∙ ap (shown_at q.lines) (sym here) ∙ is)).0 in
          let is_so = same_by name n same in
          put n ∙ rw is_so (ap (λ (m : ℕ). Some m) (sym here))
      found n g is off false e =
          let apart_from : g ≢ h = λ (same : g ≡ h). clash (g == h) (eq-eqb g h same) e in
          let was = p.found n g (sym (others g apart_from) ∙ is) off in
          put n ∙ by (is_same name n) refl was
        where
          by : (t : Bool) → is_same name n ≡ t → key_at c.names.0 n ≡ Some g → (if is_same name n then Some h else key_at c.names.0 n) ≡ Some g
          by true is_so was = none_key g (sym unknown ∙ ap (key_at c.names.0) (same_who name n is_so) ∙ was)
          by false not_so was = rw not_so was

-- ---- a queue goes

module _ (c : Causes) (q : Queues) (names : List Name × ℕ) (h : ℕ) (name : Who) (there : key_at c.names.0 name ≡ Some h) (gone : shown_at q.lines h ≡ None)
    (others : (m : ℕ) → m ≢ h → shown_at q.lines m ≡ shown_at c.queues.lines m)
    (taken : (other : Who) → key_at names.0 other ≡ (if is_same name other then None else key_at c.names.0 other))
    (fewer : length names.0 + 1 ≡ length c.names.0)
    (order : slab_len q.order ≡ slab_len c.queues.order) (lines : slab_len q.lines + 1 ≡ slab_len c.queues.lines) where
  pub closed : (l : List Place) → ArePlaced c c.ready l → AreFiled q l → ArePlaced (with_both c q names) c.ready l
  closed l p filed = record {
    filed = filed;
    ready = ready;
    one = ready;
    known = λ n g is. known n g (is_same name n) refl (sym (taken n) ∙ is);
    found = found;
    order = order ∙ p.order;
    lines = omega (arith, lines, p.lines, fewer);
    few = p.few;
    many = omega (arith, p.many, fewer);
  }
    where
      shown : shown_at c.queues.lines h ≡ Some (name, h)
      shown = (p.known name h there).0

      apart : h ≢ c.ready
      apart = (p.known name h there).1

      ready : IsHead q.lines c.ready
      ready = (p.ready.0, others c.ready (turn_round h c.ready apart) ∙ p.ready.1)

      heads_apart : (g : ℕ) → IsHead q.lines g → g ≢ h
      heads_apart g is = head_apart q.lines g h gone is

      was : (g : ℕ) → IsHead q.lines g → IsHead c.queues.lines g
      was g is = (is.0, sym (others g (heads_apart g is)) ∙ is.1)

      known : (n : Who) (g : ℕ) (t : Bool) → is_same name n ≡ t → (if is_same name n then None else key_at c.names.0 n) ≡ Some g →
          (shown_at q.lines g ≡ Some (n, g)) × (g ≢ c.ready)
      known n g true e is = none_key g (rw e at is)
      known n g false e is =
          let was_known = p.known n g (rw e at is) in
          (others g (other_head was_known.0) ∙ was_known.0, was_known.1)
        where
          other_head : shown_at c.queues.lines g ≡ Some (n, g) → g ≢ h
          other_head at same =
              let names_same : name ≡ n = (shown_same name n h g (sym shown ∙ ap (shown_at c.queues.lines) (sym same) ∙ at)).0 in
              clash (is_same name n) (same_by name n names_same) e

      found : (n : Who) (g : ℕ) → shown_at q.lines g ≡ Some (n, g) → g ≢ c.ready → key_at names.0 n ≡ Some g
      found n g is off =
          let was_found = p.found n g ((was g (n, is)).1) off in
          taken n ∙ by (is_same name n) refl was_found
        where
          by : (t : Bool) → is_same name n ≡ t → key_at c.names.0 n ≡ Some g → (if is_same name n then None else key_at c.names.0 n) ≡ Some g
          by true is_so was_found =
              let same : h ≡ g = key_same h g (sym there ∙ ap (key_at c.names.0) (same_who name n is_so) ∙ was_found) in
              absurd (heads_apart g (n, is) (sym same))
          by false not_so was_found = rw not_so was_found
