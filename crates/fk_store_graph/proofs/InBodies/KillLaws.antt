-- KillLaws: an object is destroyed, with its table if it is a space.
use Rattle.std.proofs.Common.{◌≡◌, ◌≢◌, inl, inr, ℕ, ◌+◌, ◌*◌, ◌/◌, ◌%◌, ◌≤◌, Bool, true, false, cond, ◌==◌, length, List, Option, Some, None, IsSome}
use Rattle.std.proofs.Common.{is_some, option_map, refl, sym, ap, subst, ◌∙◌, arith}
use Rattle.std.proofs.lemmas.Bool.Decides.{nat_tests}
use Rattle.std.specs.FinMap as finmap
use Rattle.std.specs.FinMap.{get}
use Rattle.fk_model.specs.Objects.{and_then, holds}
use Rattle.fk_model.specs.declared.names.Who.{Who}
use Rattle.fk_model.specs.declared.body.Body.{Body}
use Rattle.fk_store_graph.specs.Linked.Shapes.{Lead}
use Rattle.fk_store_graph.specs.Linked.Leads.{led}
use Rattle.fk_store_graph.specs.Linked.Tables.{mark_at}
use Rattle.fk_store_graph.specs.Linked.Cells.{cell}
use Rattle.fk_store_graph.specs.Linked.Tabled.{of_cell}
use Rattle.fk_store_graph.specs.Linked.Shapes.{Link}
use Rattle.fk_store_graph.specs.Linked.Links.{AreRings}
use Rattle.fk_store_graph.specs.Linked.Nodes.{is_head, node_of}
use Rattle.fk_store_graph.proofs.InLinked.NodeLaws.{rings_along}
use Rattle.fk_store_graph.specs.Linked.Shapes.{Entry}
use Rattle.fk_store_graph.specs.Linked.Filed.{Filed, IsFiled, entry_under, key_of, name_under}
use Rattle.fk_store_graph.specs.Linked.Edits.{Removes}
use Rattle.fk_store_graph.specs.Linked.Births.{stored_birth, is_number, birth_in}
use Rattle.fk_store_graph.specs.Linked.Bodied.{body_under, bodies, head_by, head_led, owner, unled_with, Tells, told_by, AreAlike, AreBodies, Maps}
use Rattle.fk_store_graph.specs.Linked.Bodied.{space_of, space_under, swept_under}
use Rattle.fk_store_graph.specs.Linked.Leading.{target}
use Rattle.fk_store_graph.specs.Linked.Held.{is_held, one_if, held_in, IsCount}
use Rattle.fk_store_graph.specs.Linked.Homes.{home_at, home_word, nowhere}
use Rattle.fk_store_graph.specs.Linked.Marks.{is_of_pages, is_member, page_mark, member_mark}
use Rattle.fk_store_graph.specs.Linked.Names.{at, same_who}
use Rattle.fk_store_graph.specs.Linked.Sweeps.{body_after}
use Rattle.fk_store_graph.specs.Linked.Shapes.{Sweep}
use Rattle.fk_store_graph.proofs.InLinked.AlikeLaws.{hints_were, alike_filed}
use Rattle.fk_store_graph.proofs.InLinked.BodyLaws.{get-bodies, is-bodies, bodies-removed, keys_apart, body-of, name-of, get_at, entry_there}
use Rattle.fk_store_graph.proofs.InLinked.HeldLaws.{Counts, holds_one, held-remove}
use Rattle.fk_store_graph.proofs.InLinked.HintLaws.{led-came}
use Rattle.fk_store_graph.proofs.InLinked.BirthLaws.{number_of, numbered, not_number}
use Rattle.fk_store_graph.proofs.InBodies.MakeLaws.{not_keyed_there}
use Rattle.fk_store_graph.proofs.InLinked.LedLaws.{came-gone, swept-birth, swept-pages, swept-members}
use Rattle.fk_store_graph.proofs.InLinked.NameLaws.{same_who_eq, same_who_refl}

same_some : {A : Type 0} (o : Option A) (a b : A) → o ≡ Some a → o ≡ Some b → a ≡ b
same_some o a b h k = cc

none_some : {A : Type 0} (o : Option A) (a : A) → o ≡ None → o ≡ Some a → ⊥
none_some o a h k = absurd (cc)

-- ---- the object goes, to which nothing leads

module _ (m p : Filed) (filed : IsFiled m) (who : Who) (key : ℕ) (e : Entry) (here : key_of m who ≡ Some key) (there : entry_under m key ≡ Some e)
    (removes : Removes m p key e) where
  pub gone_name : e.who ≡ who
  gone_name = same_some (name_under m key) e.who who (name-of m key e there) (filed.filed who key here)

  pub gone_keys : (q : Who) → key_of p q ≡ cond (same_who q who) None (key_of m q)
  gone_keys q = removes.keys q ∙ ap (λ (w : Who). cond (same_who q w) None (key_of m q)) gone_name

  pub gone_bodies : (j : ℕ) → body_under p j ≡ cond (j == key) None (body_under m j)
  unfolding body_under
  gone_bodies j = ap (option_map (λ (e : Entry). e.body)) (removes.entries j) ∙ by (j == key)
    where
      by : (t : Bool) → option_map (λ (e : Entry). e.body) (cond t None (entry_under m j)) ≡ cond t None (option_map (λ (e : Entry). e.body) (entry_under m j))
      by true = refl
      by false = refl

  pub gone_map : bodies p ≡ finmap.remove (bodies m) who
  gone_map = bodies-removed m p filed who key here gone_keys gone_bodies

  pub gone_held : (count result : ℕ) (before : Bool) → before ≡ holds is_held (body_under m key) → IsCount (held_in (bodies m)) count →
      Counts count result before false → IsCount (held_in (bodies p)) result
  gone_held count result before was enough counts =
      counts (held_in (bodies m)) (held_in (bodies p)) enough
      (let left = held-remove (bodies m) who in let same = ap held_in gone_map in let one = weighs in omega (arith, left, same, one))
    where
      weigh : (x : Option Body) → one_if (holds is_held x) ≡ of_cell holds_one x
      weigh None = refl
      weigh (Some b) = refl

      weighs : one_if before ≡ of_cell holds_one (get (bodies m) who)
      weighs = ap one_if was ∙ weigh (body_under m key) ∙ sym (ap (of_cell holds_one) (get_at m who key here))

  -- its own pointers lead nowhere, and no other leads to it
  module _ (alone : (n : ℕ) → is_head n ≡ false → owner m n ≢ Some (node_of key 2)) where
    gone_owner : (n : ℕ) → is_head n ≡ false → owner p n ≡ unled_with (owner m) key n
    unfolding owner unled_with
    gone_owner n field = ap (λ x. head_led p x (n % 5)) (gone_bodies (n / 5)) ∙ by (n / 5 == key)
      where
        led_to : (x : Option Who) → and_then (head_by m) x ≢ Some (node_of key 2) → and_then (head_by p) x ≡ and_then (head_by m) x
        led_to None off = refl
        led_to (Some w) off = ap (option_map (λ k. node_of k 2)) (gone_keys w) ∙ go (same_who w who) refl
          where
            go : (t : Bool) → same_who w who ≡ t → option_map (λ k. node_of k 2) (cond t None (key_of m w)) ≡ option_map (λ k. node_of k 2) (key_of m w)
            go false f = refl
            go true f = absurd (off (ap (option_map (λ k. node_of k 2)) (ap (key_of m) (same_who_eq w who f) ∙ here)))

        by : (t : Bool) → head_led p (cond t None (body_under m (n / 5))) (n % 5) ≡ cond t None (head_led m (body_under m (n / 5)) (n % 5))
        by true = refl
        by false = led_to (and_then (target (n % 5)) (body_under m (n / 5))) (alone n field)

    pub gone_rings : (links : List Link) → AreRings links (unled_with (owner m) key) → AreRings links (owner p)
    gone_rings links = rings_along links (unled_with (owner m) key) (owner p) (λ n field. gone_owner n field)

-- ---- all

module _ (o m p q : Filed) (links : List Link) (homes : List ℕ) (held : ℕ) (filed : IsFiled o) (are : AreBodies o links homes held) (who : Who) (key : ℕ)
    (sweep : Sweep) (from : sweep.from ≡ who) (none_left : sweep.to ≡ None) (here : key_of o who ≡ Some key)
    (maps : Maps o m (swept_under sweep o)) (keys_p : (w : Who) → key_of p w ≡ cond (same_who w who) None (key_of m w))
    (entries_p : (j : ℕ) → entry_under p j ≡ cond (j == key) None (entry_under m j)) (marks_p : p.marks ≡ m.marks)
    (birth : Option ℕ) (birth_is : birth ≡ and_then stored_birth (body_under o key))
    (keys_q : (w : Who) → key_of q w ≡ key_of p w) (entries_q : q.entries ≡ p.entries)
    (marks_q : (s k : ℕ) → mark_at q.marks s k ≡ cond (is_number s birth) false (mark_at p.marks s k))
    (empty : (n : ℕ) (w : Who) → birth_in (bodies o) who ≡ Some n → w.space ≡ n → get (bodies o) w ≡ None) where
  other : sweep.to ≢ Some sweep.from
  other to = absurd (none_some sweep.to sweep.from none_left to)

  birth_of_who : birth_in (bodies o) who ≡ birth
  birth_of_who = ap (and_then stored_birth) (get_at o who key here) ∙ sym birth_is

  keys_now : (w : Who) → key_of q w ≡ cond (same_who w who) None (key_of o w)
  keys_now w = keys_q w ∙ keys_p w ∙ ap (λ x. cond (same_who w who) None x) (maps.alike.keys w)

  entries_now : (j : ℕ) → entry_under q j ≡ cond (j == key) None (entry_under m j)
  unfolding entry_under
  entries_now j = ap (λ entries. entry_under (record p { entries = entries }) j) entries_q ∙ entries_p j

  key_off : (w : Who) (k : ℕ) → key_of q w ≡ Some k → (same_who w who ≡ false) × (key_of o w ≡ Some k)
  key_off w k at_q = by (same_who w who) refl (sym (keys_now w) ∙ at_q)
    where
      by : (t : Bool) → same_who w who ≡ t → cond t None (key_of o w) ≡ Some k → (same_who w who ≡ false) × (key_of o w ≡ Some k)
      by true f h = absurd (cc)
      by false f h = (f, h)

  entry_off : (j : ℕ) (e : Entry) → entry_under q j ≡ Some e → ((j == key) ≡ false) × (entry_under m j ≡ Some e)
  entry_off j e under = by (j == key) refl (sym (entries_now j) ∙ under)
    where
      by : (t : Bool) → (j == key) ≡ t → cond t None (entry_under m j) ≡ Some e → ((j == key) ≡ false) × (entry_under m j ≡ Some e)
      by true f h = absurd (cc)
      by false f h = (f, h)

  bodies_now : (j : ℕ) → body_under q j ≡ cond (j == key) None (option_map (body_after sweep (space_under o j)) (body_under o j))
  unfolding body_under
  bodies_now j = ap (option_map (λ (e : Entry). e.body)) (entries_now j) ∙ by (j == key)
    where
      by : (t : Bool) → option_map (λ (e : Entry). e.body) (cond t None (entry_under m j))
          ≡ cond t None (option_map (body_after sweep (space_under o j)) (option_map (λ (e : Entry). e.body) (entry_under o j)))
      by true = refl
      by false = maps.bodies j

  -- a body now was another under the same key
  body_was : (j : ℕ) (b : Body) → body_under q j ≡ Some b →
      (a : Body) × (body_under o j ≡ Some a) × (b ≡ body_after sweep (space_under o j) a) × ((j == key) ≡ false)
  body_was j b there = by (j == key) refl (sym (bodies_now j) ∙ there)
    where
      mapped : (x : Option Body) → body_under o j ≡ x → option_map (body_after sweep (space_under o j)) x ≡ Some b → (j == key) ≡ false →
          (a : Body) × (body_under o j ≡ Some a) × (b ≡ body_after sweep (space_under o j) a) × ((j == key) ≡ false)
      mapped None e h f = absurd (cc)
      mapped (Some a) e h f = (a, e, (let same : body_after sweep (space_under o j) a ≡ b = cc in sym same), f)

      by : (t : Bool) → (j == key) ≡ t → cond t None (option_map (body_after sweep (space_under o j)) (body_under o j)) ≡ Some b →
          (a : Body) × (body_under o j ≡ Some a) × (b ≡ body_after sweep (space_under o j) a) × ((j == key) ≡ false)
      by true f h = absurd (cc)
      by false f h = mapped (body_under o j) refl h f

  -- it leads where it led, and not to what is gone
  lead_was : (j : ℕ) (b : Body) (i : ℕ) (l : Lead) → body_under q j ≡ Some b → led b i ≡ Some l →
      (a : Body) × (body_under o j ≡ Some a) × (led a i ≡ Some l) × (same_who l.to who ≡ false)
  lead_was j b i l there leads =
      let found = body_was j b there in
      let now : led (body_after sweep (space_under o j) found.0) i ≡ Some l = ap (λ x. led x i) (sym found.2) ∙ leads in
      let off : same_who l.to who ≡ false = ap (same_who l.to) (sym from) ∙ came-gone sweep other (space_under o j) found.0 l i now in (
        found.0,
        found.1,
        elim (led-came sweep l (space_under o j) found.0 i now) [
          | inl before ↦ before.0
          | inr follows ↦ absurd (none_some sweep.to l.to none_left follows.0)
        ],
        off,
      )

  births_now : (k : ℕ) → (k == key) ≡ false → and_then stored_birth (body_under q k) ≡ and_then stored_birth (body_under o k)
  births_now k off = ap (and_then stored_birth) (bodies_now k ∙ ap (λ t. cond t None (option_map (body_after sweep (space_under o k)) (body_under o k))) off)
      ∙ by (body_under o k)
    where
      by : (x : Option Body) → and_then stored_birth (option_map (body_after sweep (space_under o k)) x) ≡ and_then stored_birth x
      by None = refl
      by (Some b) = swept-birth sweep (space_under o k) b

  homed_now : (homes2 : List ℕ) → ((n : ℕ) → home_at homes2 n ≡ cond (is_number n birth) None (home_at homes n)) →
      (n k : ℕ) → (home_at homes2 n ≡ Some k → and_then stored_birth (body_under q k) ≡ Some n)
      × (and_then stored_birth (body_under q k) ≡ Some n → home_at homes2 n ≡ Some k)
  homed_now homes2 leaves n k = (
    λ h. to (is_number n birth) refl (sym (leaves n) ∙ h),
    λ h. leaves n ∙ back (k == key) refl h (is_number n birth) refl,
  )
    where
      to : (t : Bool) → is_number n birth ≡ t → cond t None (home_at homes n) ≡ Some k → and_then stored_birth (body_under q k) ≡ Some n
      to true e h = absurd (cc)
      to false e h = by (k == key) refl
        where
          born : and_then stored_birth (body_under o k) ≡ Some n
          born = (are.homed n k).0 h

          by : (t : Bool) → (k == key) ≡ t → and_then stored_birth (body_under q k) ≡ Some n
          by false f = births_now k f ∙ born
          by true f =
              let is : k ≡ key = grind (arith, nat_tests) in
              absurd (not_number n birth e (birth_is ∙ sym (ap (λ k. and_then stored_birth (body_under o k)) is) ∙ born))

      back : (s : Bool) → (k == key) ≡ s → and_then stored_birth (body_under q k) ≡ Some n → (t : Bool) → is_number n birth ≡ t →
          cond t None (home_at homes n) ≡ Some k
      back true f h t e =
          let gone : body_under q k ≡ None = bodies_now k ∙ ap (λ t. cond t None (option_map (body_after sweep (space_under o k)) (body_under o k))) f in
          let lost = ap (and_then stored_birth) gone in absurd (cc)
      back false f h false e = (are.homed n k).1 (sym (births_now k f) ∙ h)
      back false f h true e =
          let one = (are.homed n k).1 (sym (births_now k f) ∙ h) in
          let two = (are.homed n key).1 (sym birth_is ∙ number_of n birth e) in
          let same : k ≡ key = same_some (home_at homes n) k key one two in
          absurd (grind (arith, nat_tests))

  -- what stands is in no space that is gone
  marked_now : (is : Body → Bool) (mark : ℕ → ℕ) → ((space : ℕ) (b : Body) → is (body_after sweep space b) ≡ true → is b ≡ true) →
      ((w : Who) (k : ℕ) (c : Body) → key_of o w ≡ Some k → body_under o k ≡ Some c → is c ≡ true → mark_at o.marks w.space (mark w.slot) ≡ true) →
      (w : Who) (k : ℕ) (c : Body) → key_of q w ≡ Some k → body_under q k ≡ Some c → is c ≡ true → mark_at q.marks w.space (mark w.slot) ≡ true
  marked_now is mark stays marked w k c at_q there so = marks_q w.space (mark w.slot) ∙ by (is_number w.space birth) refl
    where
      at_o : key_of o w ≡ Some k
      at_o = (key_off w k at_q).1

      by : (t : Bool) → is_number w.space birth ≡ t → cond t false (mark_at p.marks w.space (mark w.slot)) ≡ true
      by true e =
          let found = body_was k c there in
          let none = empty w.space w (birth_of_who ∙ number_of w.space birth e) refl in
          absurd (none_some (get (bodies o) w) found.0 none (get_at o w k at_o ∙ found.1))
      by false e =
          let found = body_was k c there in
          ap (λ x. mark_at x w.space (mark w.slot)) (marks_p ∙ maps.alike.marks)
          ∙ marked w k found.0 at_o found.1 (stays (space_under o k) found.0 (ap is (sym found.2) ∙ so))

  killed_owner : (n : ℕ) → owner q n ≡ owner p n
  unfolding owner body_under
  killed_owner n = by (and_then (target (n % 5)) (option_map (λ (e : Entry). e.body) (entry_under q (n / 5))))
      ∙ ap (λ x. and_then (head_by p) (and_then (target (n % 5)) (option_map (λ (e : Entry). e.body) x))) (same_entry (n / 5))
    where
      same_entry : (j : ℕ) → entry_under q j ≡ entry_under p j
      same_entry j = entries_now j ∙ sym (entries_p j)

      by : (x : Option Who) → and_then (head_by q) x ≡ and_then (head_by p) x
      by None = refl
      by (Some w) = ap (option_map (λ k. node_of k 2)) (keys_q w)

  killed_map : bodies q ≡ bodies p
  unfolding body_under
  killed_map = is-bodies q (bodies p) (λ w. ap (and_then (body_under q)) (keys_q w) ∙ by (key_of p w) ∙ sym (get-bodies p w))
    where
      by : (x : Option ℕ) → and_then (body_under q) x ≡ and_then (body_under p) x
      by None = refl
      by (Some j) = ap (option_map (λ (e : Entry). e.body)) (entries_now j ∙ sym (entries_p j))

  pub killed_all : (links2 : List Link) (homes2 : List ℕ) (held2 : ℕ) → AreRings links2 (owner p) → length links2 ≡ length links →
      IsCount (held_in (bodies p)) held2 → ((n : ℕ) → home_at homes2 n ≡ cond (is_number n birth) None (home_at homes n)) → AreBodies q links2 homes2 held2
  killed_all links2 homes2 held2 rings long count leaves = record {
    rings = rings_along links2 (owner p) (owner q) (λ n field. killed_owner n) rings;
    long = λ j b there. let found = body_was j b there in let low = are.long j found.0 found.1 in omega (arith, low, long);
    leads = λ j b i l there is.
        let found = lead_was j b i l there is in
        subst IsSome (sym (keys_now l.to ∙ ap (λ t. cond t None (key_of o l.to)) found.3)) (are.leads j found.0 i l found.1 found.2);
    told = λ j b i l there is k e at_q under.
        let found = lead_was j b i l there is in
        let hint = hints_were o m maps.alike k e (entry_off k e under).1 in
        subst (λ h. Tells (told_by l.sort h) j) (sym hint.2) (are.told j found.0 i l found.1 found.2 k hint.0 (key_off l.to k at_q).1 hint.1);
    homed = homed_now homes2 leaves;
    held = subst (λ x. IsCount (held_in x) held2) (sym killed_map) count;
    pages = marked_now (λ c. is_of_pages c) page_mark (λ space b h. sym (swept-pages sweep space b) ∙ h) are.pages;
    members = marked_now (λ c. is_member c) member_mark (swept-members sweep) are.members;
  }

  pub killed_found : (w : Who) → get (bodies q) w ≡ cond (same_who w who) None (option_map (body_after sweep w.space) (get (bodies o) w))
  killed_found w = get-bodies q w ∙ ap (and_then (body_under q)) (keys_now w) ∙ by (same_who w who) refl (key_of o w) refl
    where
      by : (t : Bool) → same_who w who ≡ t → (x : Option ℕ) → key_of o w ≡ x →
          and_then (body_under q) (cond t None x) ≡ cond t None (option_map (body_after sweep w.space) (get (bodies o) w))
      by true e x f = refl
      by false e None f = sym (ap (option_map (body_after sweep w.space)) (get-bodies o w ∙ ap (and_then (body_under o)) f))
      by false e (Some j) f =
          let space : space_under o j ≡ w.space = ap space_of (filed.filed w j f) in
          bodies_now j ∙ ap (λ t. cond t None (option_map (body_after sweep (space_under o j)) (body_under o j))) off
          ∙ (λ i. option_map (body_after sweep (space i)) (sym (get_at o w j f) i))
        where
          off : (j == key) ≡ false
          off = apart (j == key) refl
            where
              apart : (t : Bool) → (j == key) ≡ t → t ≡ false
              apart false g = refl
              apart true g =
                  let is : j ≡ key = grind (arith, nat_tests) in
                  let same : w ≡ who = keys_apart o filed w who key (f ∙ ap Some is) here in
                  let tests : same_who w who ≡ true = ap (λ x. same_who x who) same ∙ same_who_refl who in absurd (cc)

-- ---- as the code does it

module _ (o m p q : Filed) (links : List Link) (homes : List ℕ) (held : ℕ) (filed : IsFiled o) (are : AreBodies o links homes held) (who : Who) (key : ℕ)
    (here : key_of o who ≡ Some key) (maps : Maps o m (swept_under (record { from = who; to = None }) o))
    (gone : (e : Entry) → entry_under m key ≡ Some e → Removes m p key e)
    (birth : Option ℕ) (birth_is : birth ≡ and_then stored_birth (body_under o key))
    (keys_q : (w : Who) → key_of q w ≡ key_of p w) (entries_q : q.entries ≡ p.entries)
    (marks_q : (s k : ℕ) → mark_at q.marks s k ≡ cond (is_number s birth) false (mark_at p.marks s k))
    (empty : (n : ℕ) (w : Who) → birth_in (bodies o) who ≡ Some n → w.space ≡ n → get (bodies o) w ≡ None) where
  abbrev this : Sweep
  this = record { from = who; to = None }

  filed_m : IsFiled m
  filed_m = alike_filed o m maps.alike filed

  here_m : key_of m who ≡ Some key
  here_m = maps.alike.keys who ∙ here

  entry_m : (e : Entry) × (entry_under m key ≡ Some e)
  entry_m = entry_there m who key filed_m here_m

  removes : Removes m p key entry_m.0
  removes = gone entry_m.0 entry_m.1

  pub killed_by : (links2 : List Link) (homes2 : List ℕ) (held2 : ℕ) → AreRings links2 (owner p) → length links2 ≡ length links →
      IsCount (held_in (bodies p)) held2 → ((n : ℕ) → home_at homes2 n ≡ cond (is_number n birth) None (home_at homes n)) → AreBodies q links2 homes2 held2
  killed_by = killed_all o m p q links homes held filed are who key this refl refl here maps
      (gone_keys m p filed_m who key entry_m.0 here_m entry_m.1 removes) removes.entries removes.marks birth birth_is keys_q entries_q marks_q empty

  pub killed_map_by : (w : Who) → get (bodies q) w ≡ cond (same_who w who) None (option_map (body_after this w.space) (get (bodies o) w))
  killed_map_by = killed_found o m p q links homes held filed are who key this refl refl here maps
      (gone_keys m p filed_m who key entry_m.0 here_m entry_m.1 removes) removes.entries removes.marks birth birth_is keys_q entries_q marks_q empty

-- nothing stands in a space that goes
pub left_empty : (o m p : Filed) → IsFiled o → (who : Who) (key : ℕ) → key_of o who ≡ Some key → (sweep : Sweep) → Maps o m (swept_under sweep o) →
    ((e : Entry) → entry_under m key ≡ Some e → Removes m p key e) → (birth : Option ℕ) → birth ≡ and_then stored_birth (body_under o key) →
    ((n : ℕ) (w : Who) → birth_in (bodies o) who ≡ Some n → w.space ≡ n → get (bodies o) w ≡ None) →
    (n : ℕ) (w : Who) → birth ≡ Some n → w.space ≡ n → key_of p w ≡ None
left_empty o m p filed who key here sweep maps gone birth birth_is empty n w is in_it =
    gone_keys m p filed_m who key found.0 here_m found.1 (gone found.0 found.1) w ∙ by (same_who w who)
  where
    filed_m : IsFiled m
    filed_m = alike_filed o m maps.alike filed

    here_m : key_of m who ≡ Some key
    here_m = maps.alike.keys who ∙ here

    found : (e : Entry) × (entry_under m key ≡ Some e)
    found = entry_there m who key filed_m here_m

    none : key_of o w ≡ None
    none = not_keyed_there o w filed (empty n w (ap (and_then stored_birth) (get_at o who key here) ∙ sym birth_is ∙ is) in_it)

    by : (t : Bool) → cond t None (key_of m w) ≡ None
    by true = refl
    by false = maps.alike.keys w ∙ none
