-- Named: threads in the queues of causes, once a cause has another name; and once there is more room.
use Rattle.std.proofs.Common.{◌≡◌, ◌≢◌, ◌==◌, ℕ, Bool, true, false, List, [], ◌∷◌, length, map, Some, None}
use Rattle.std.proofs.Common.{if◌then◌else◌, refl, sym, ap, subst, ◌∙◌, arith, eq-eqb}
use Rattle.std.proofs.lemmas.Bool.{eqb-true}
use Rattle.slab.specs.Slab.{Slab, slab_len}
use Rattle.fk_model.specs.declared.names.Who.{Who}
use Rattle.fk_waits.specs.Queues.Nodes.{shown_at}
use Rattle.fk_waits.specs.declared.queues.lists.Node.{Node}
use Rattle.fk_waits.specs.Causes.Names.{is_same, key_at}
use Rattle.fk_waits.specs.declared.causes.names.Name.{Name}
use Rattle.fk_waits.proofs.InCauses.Order.{same_who}
use Rattle.fk_waits.specs.Queues.Places.{who_shown, AllFiled, AreFiled, IsHead, Place}
use Rattle.fk_waits.specs.declared.queues.queues.Queues.{Queues}
use Rattle.fk_waits.specs.Causes.Causes.{cause_of, new_cause, recaused, standing_of, ArePlaced}
use Rattle.fk_waits.specs.declared.causes.causes.Causes.{Causes}
use Rattle.fk_waits.proofs.InCauses.Numbers.{clash}
use Rattle.fk_waits.proofs.InCauses.Placed.{key_same, none_key, same_by, shown_same, turn_round, with_both}

-- ---- a cause has another name

module _ (c : Causes) (q : Queues) (names : List Name × ℕ) (h : ℕ) (from to : Who) (there : key_at c.names.0 from ≡ Some h)
    (unused : key_at c.names.0 to ≡ None) (shown : shown_at q.lines h ≡ Some (to, h))
    (others : (m : ℕ) → m ≢ h → shown_at q.lines m ≡ shown_at c.queues.lines m)
    (put : (other : Who) → key_at names.0 other ≡ (if is_same to other then Some h else (if is_same from other then None else key_at c.names.0 other)))
    (many : length names.0 ≡ length c.names.0)
    (order : slab_len q.order ≡ slab_len c.queues.order) (lines : slab_len q.lines ≡ slab_len c.queues.lines)
    (l : List Place) (p : ArePlaced c c.ready l) where
  mine : (shown_at c.queues.lines h ≡ Some (from, h)) × (h ≢ c.ready)
  mine = p.known from h there

  off_ready : c.ready ≢ h
  off_ready = turn_round h c.ready mine.1

  head_now : (g : ℕ) → IsHead c.queues.lines g → IsHead q.lines g
  head_now g is = by (g == h) refl
    where
      by : (t : Bool) → (g == h) ≡ t → IsHead q.lines g
      by true e = subst (IsHead q.lines) (sym (eqb-true g h e)) (to, shown)
      by false e = (is.0, others g (λ (same : g ≡ h). clash (g == h) (eq-eqb g h same) e) ∙ is.1)

  head_was : (g : ℕ) → IsHead q.lines g → IsHead c.queues.lines g
  head_was g is = by (g == h) refl
    where
      by : (t : Bool) → (g == h) ≡ t → IsHead c.queues.lines g
      by true e = subst (IsHead c.queues.lines) (sym (eqb-true g h e)) (from, mine.0)
      by false e = (is.0, sym (others g (λ (same : g ≡ h). clash (g == h) (eq-eqb g h same) e)) ∙ is.1)

  known-now : (n : Who) (g : ℕ) (t : Bool) → is_same to n ≡ t → (s : Bool) → is_same from n ≡ s →
      (if is_same to n then Some h else (if is_same from n then None else key_at c.names.0 n)) ≡ Some g → (shown_at q.lines g ≡ Some (n, g)) × (g ≢ c.ready)
  known-now n g true e s f is =
      let here : h ≡ g = key_same h g (rw e at is) in
      subst (λ (m : ℕ). (shown_at q.lines m ≡ Some (n, m)) × (m ≢ c.ready)) here
      (subst (λ (w : Who). shown_at q.lines h ≡ Some (w, h)) (same_who to n e) shown, mine.1)
  known-now n g false e true f is = none_key g (rw (e, f) at is)
  known-now n g false e false f is =
      let was = p.known n g (rw (e, f) at is) in
      (others g (off was.0) ∙ was.0, was.1)
    where
      off : shown_at c.queues.lines g ≡ Some (n, g) → g ≢ h
      off at same =
          let names_same : from ≡ n = (shown_same from n h g (sym mine.0 ∙ ap (shown_at c.queues.lines) (sym same) ∙ at)).0 in
          clash (is_same from n) (same_by from n names_same) f

  found-now : (n : Who) (g : ℕ) → shown_at q.lines g ≡ Some (n, g) → g ≢ c.ready → (t : Bool) → (g == h) ≡ t → key_at names.0 n ≡ Some g
  found-now n g is off true e =
      let here : g ≡ h = eqb-true g h e in
      let same : to ≡ n = (shown_same to n h g (sym shown ∙ ap (shown_at q.lines) (sym here) ∙ is)).0 in
      let is_so = same_by to n same in
      put n ∙ rw is_so (ap (λ (m : ℕ). Some m) (sym here))
  found-now n g is off false e = put n ∙ by (is_same to n) refl (is_same from n) refl
    where
      apart : g ≢ h
      apart same = clash (g == h) (eq-eqb g h same) e

      was : key_at c.names.0 n ≡ Some g
      was = p.found n g (sym (others g apart) ∙ is) off

      by : (t : Bool) → is_same to n ≡ t → (s : Bool) → is_same from n ≡ s →
          (if is_same to n then Some h else (if is_same from n then None else key_at c.names.0 n)) ≡ Some g
      by true is_so s f = none_key g (sym unused ∙ ap (key_at c.names.0) (same_who to n is_so) ∙ was)
      by false not_so true f = absurd (apart (key_same g h (sym was ∙ ap (key_at c.names.0) (sym (same_who from n f)) ∙ there)))
      by false not_so false f = rw (not_so, f) was

  pub cause_named : AreFiled q l → ArePlaced (with_both c q names) c.ready l
  cause_named filed = record {
    filed = filed;
    ready = head_now c.ready p.ready;
    one = head_now c.ready p.ready;
    known = λ n g is. known-now n g (is_same to n) refl (is_same from n) refl (sym (put n) ∙ is);
    found = λ n g is off. found-now n g is off (g == h) refl;
    order = order ∙ p.order;
    lines = omega (arith, lines, p.lines, many);
    few = p.few;
    many = omega (arith, many, p.many);
  }

  -- what those in a queue wait for now
  cause-now : (g : ℕ) → IsHead c.queues.lines g → cause_of (with_both c q names) g ≡ new_cause from to (cause_of c g)
  cause-now g is = by (g == c.ready) refl (g == h) refl
    where
      by : (t : Bool) → (g == c.ready) ≡ t → (s : Bool) → (g == h) ≡ s → cause_of (with_both c q names) g ≡ new_cause from to (cause_of c g)
      by true e s f = rw e refl
      by false e true f =
          let here : g ≡ h = eqb-true g h f in
          let now : who_shown (shown_at q.lines g) ≡ Some to = ap (λ (m : ℕ). who_shown (shown_at q.lines m)) here ∙ ap who_shown shown in
          let earlier : who_shown (shown_at c.queues.lines g) ≡ Some from =
          ap (λ (m : ℕ). who_shown (shown_at c.queues.lines m)) here ∙ ap who_shown mine.0 in
          let is_so = same_by from from refl in
          rw e (now ∙ sym (ap (new_cause from to) earlier ∙ rw is_so refl))
      by false e false f =
          let apart : g ≢ h = λ (same : g ≡ h). clash (g == h) (eq-eqb g h same) f in
          let name = is.0 in
          let now : who_shown (shown_at q.lines g) ≡ Some name = ap who_shown (others g apart ∙ is.1) in
          let earlier : who_shown (shown_at c.queues.lines g) ≡ Some name = ap who_shown is.1 in
          let off : (g ≢ c.ready) = λ (same : g ≡ c.ready). clash (g == c.ready) (eq-eqb g c.ready same) e in
          let not_so : is_same name from ≡ false = differs (is_same name from) name refl is.1 off apart in
          rw e (now ∙ sym (ap (new_cause from to) earlier ∙ rw not_so refl))
        where
          differs : (t : Bool) (name : Who) → is_same name from ≡ t → shown_at c.queues.lines g ≡ Some (name, g) → g ≢ c.ready → g ≢ h →
              is_same name from ≡ false
          differs true name is_so at off apart =
              absurd (apart (key_same g h (sym (p.found name g at off) ∙ ap (key_at c.names.0) (same_who name from is_so) ∙ there)))
          differs false name not_so at off apart = not_so

  pub causes_named : (order : Slab Node) (k : List Place) → AllFiled order c.queues.lines k →
      map (standing_of (with_both c q names)) k ≡ map (recaused from to) (map (standing_of c) k)
  causes_named order [] filed = refl
  causes_named order (x ∷ k) filed = λ i. record { key = x.key; who = x.who; cause = cause-now x.head filed.0.head i } ∷ causes_named order k filed.1 i

-- where no cause has the name, none changes
pub causes_same : (c : Causes) (from to : Who) (l : List Place) → ArePlaced c c.ready l → None ≡ key_at c.names.0 from → (order : Slab Node) (k : List Place) →
    AllFiled order c.queues.lines k → map (standing_of c) k ≡ map (recaused from to) (map (standing_of c) k)
causes_same c from to l p none order [] filed = refl
causes_same c from to l p none order (x ∷ k) filed =
    λ i. record { key = x.key; who = x.who; cause = by (x.head == c.ready) refl i } ∷ causes_same c from to l p none order k filed.1 i
  where
    by : (t : Bool) → (x.head == c.ready) ≡ t → cause_of c x.head ≡ new_cause from to (cause_of c x.head)
    by true e = rw e refl
    by false e =
        let name = filed.0.head.0 in
        let at = filed.0.head.1 in
        let earlier : who_shown (shown_at c.queues.lines x.head) ≡ Some name = ap who_shown at in
        let off : x.head ≢ c.ready = λ (same : x.head ≡ c.ready). clash (x.head == c.ready) (eq-eqb x.head c.ready same) e in
        let not_so : is_same name from ≡ false = differs (is_same name from) name refl at off in
        rw e (earlier ∙ sym (ap (new_cause from to) earlier ∙ rw not_so refl))
      where
        differs : (t : Bool) (name : Who) → is_same name from ≡ t → shown_at c.queues.lines x.head ≡ Some (name, x.head) → x.head ≢ c.ready →
            is_same name from ≡ false
        differs true name is_so at off = none_key x.head (none ∙ ap (key_at c.names.0) (sym (same_who name from is_so)) ∙ p.found name x.head at off)
        differs false name not_so at off = not_so
