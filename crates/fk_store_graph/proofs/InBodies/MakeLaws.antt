-- MakeLaws: an object comes.
use Rattle.std.proofs.Common.{◌≡◌, ◌≢◌, ℕ, ◌+◌, ◌*◌, ◌/◌, ◌%◌, ◌<◌, ◌≤◌, Bool, true, false, cond, ◌==◌, length, List, Option, Some, None, IsSome}
use Rattle.std.proofs.Common.{is_some, option_map, refl, sym, ap, subst, ◌∙◌, arith, eqb-true}
use Rattle.std.proofs.lemmas.Bool.Decides.{nat_tests}
use Rattle.std.specs.FinMap as finmap
use Rattle.std.specs.FinMap.{get}
use Rattle.fk_model.specs.Objects.{and_then}
use Rattle.fk_model.specs.declared.names.Who.{Who}
use Rattle.fk_model.specs.declared.body.Body.{Body}
use Rattle.fk_store_graph.specs.Linked.Shapes.{Lead}
use Rattle.fk_store_graph.specs.Linked.Leads.{led}
use Rattle.fk_store_graph.specs.Linked.Tables.{mark_at}
use Rattle.fk_store_graph.specs.Linked.Shapes.{Link}
use Rattle.fk_store_graph.specs.Linked.Links.{AreRings}
use Rattle.fk_store_graph.specs.Linked.Nodes.{node_of}
use Rattle.fk_store_graph.proofs.InLinked.NodeLaws.{rings_along}
use Rattle.fk_store_graph.specs.Linked.Shapes.{Entry}
use Rattle.fk_store_graph.specs.Linked.Filed.{Filed, IsFiled, entry_under, key_of, name_under, fresh}
use Rattle.fk_store_graph.specs.Linked.Edits.{Makes, Keeps}
use Rattle.fk_store_graph.specs.Linked.Births.{stored_birth, is_number, home_in}
use Rattle.fk_store_graph.specs.Linked.Bodied.{body_under, bodies, head_by, head_led, owner, owner_with, Tells, told_by, HaveNodes, HaveHeads, AreThere}
use Rattle.fk_store_graph.specs.Linked.Bodied.{IsTold, AreTold, AreHomed, AreBodies, Retells, IsMarked, StillMarked}
use Rattle.fk_store_graph.specs.Linked.Held.{is_held, one_if, held_in, IsCount}
use Rattle.fk_store_graph.specs.Linked.Homes.{home_at, home_word, nowhere}
use Rattle.fk_store_graph.specs.Linked.Leading.{LeadsAmong, target}
use Rattle.fk_store_graph.specs.Linked.Marks.{is_of_pages, is_member, page_mark, member_mark}
use Rattle.fk_store_graph.specs.Linked.Names.{same_who}
use Rattle.fk_store_graph.proofs.InLinked.BodyLaws.{get-bodies, is-bodies, bodies-made, body-of, no-body, keys_apart, under_name, name_there, get_at}
use Rattle.fk_store_graph.proofs.InLinked.HeldLaws.{Counts, enough-put}
use Rattle.fk_store_graph.proofs.InLinked.BirthLaws.{births-none, number_of, numbered, not_number}
use Rattle.fk_store_graph.proofs.InLinked.NameLaws.{same_who_eq, same_who_refl}
use Rattle.fk_store_graph.proofs.InLinked.PointerLaws.{target_lead}
use Rattle.fk_store_graph.proofs.InBodies.ScanLaws.{there_keyed}
use Rattle.fk_store_graph.proofs.InBodies.SettleLaws.{settled, settled_map}

none_some : {A : Type 0} (o : Option A) (a : A) → o ≡ None → o ≡ Some a → ⊥
none_some o a h k = absurd (cc)

module _ (o p : Filed) (links : List Link) (homes : List ℕ) (held : ℕ) (filed : IsFiled o) (are : AreBodies o links homes held)
    (who : Who) (key : ℕ) (b : Body) (empty : key_of o who ≡ None) (makes : Makes o p key (fresh who b)) where
  pub made_bodies : (j : ℕ) → body_under p j ≡ cond (j == key) (Some b) (body_under o j)
  unfolding body_under
  made_bodies j = ap (option_map (λ (e : Entry). e.body)) (makes.entries j) ∙ by (j == key)
    where
      by : (t : Bool) → option_map (λ (e : Entry). e.body) (cond t (Some (fresh who b)) (entry_under o j))
          ≡ cond t (Some b) (option_map (λ (e : Entry). e.body) (entry_under o j))
      by true = refl
      by false = refl

  made_off : (j : ℕ) → (j == key) ≡ false → body_under p j ≡ body_under o j
  made_off j off = made_bodies j ∙ ap (λ t. cond t (Some b) (body_under o j)) off

  pub made_body : body_under p key ≡ Some b
  made_body = made_bodies key ∙ (let same : (key == key) ≡ true = grind (arith, nat_tests) in rw same refl)

  pub made_key : key_of p who ≡ Some key
  made_key = makes.keys who ∙ ap (λ t. cond t (Some key) (key_of o who)) (same_who_refl who)

  -- nothing had the key
  made_fresh : (w : Who) → key_of o w ≡ Some key → ⊥
  made_fresh w at =
      let found = under_name o w key filed at in
      none_some (body_under o key) found.0 (no-body o key makes.vacant) found.1

  -- what was there has its key
  made_keys : (w : Who) → IsSome (key_of o w) → key_of p w ≡ key_of o w
  made_keys w there = makes.keys w ∙ by (same_who w who) refl
    where
      by : (t : Bool) → same_who w who ≡ t → cond t (Some key) (key_of o w) ≡ key_of o w
      by false e = refl
      by true e = let none : key_of o w ≡ None = ap (key_of o) (same_who_eq w who e) ∙ empty in absurd (cc)

  pub made_map : bodies p ≡ finmap.insert (bodies o) who b
  made_map = bodies-made o p filed who key b (no-body o key makes.vacant) made_fresh makes.keys made_bodies

  -- ---- rings

  made_heads : (j : ℕ) (c : Body) (i : ℕ) → body_under o j ≡ Some c → head_led p (Some c) i ≡ head_led o (Some c) i
  made_heads j c i there = by (target i c) refl
    where
      by : (x : Option Who) → target i c ≡ x → and_then (head_by p) x ≡ and_then (head_by o) x
      by None e = refl
      by (Some w) e =
          let lead = target_lead i c w e in
          ap (option_map (λ k. node_of k 2)) (made_keys w (subst (λ (x : Who). IsSome (key_of o x)) lead.2 (are.leads j c i lead.0 there lead.1)))

  made_owner : (n : ℕ) → owner p n ≡ owner_with p (owner o) key (Some b) n
  unfolding owner owner_with
  made_owner n = ap (λ x. head_led p x (n % 5)) (made_bodies (n / 5)) ∙ by (n / 5 == key) (body_under o (n / 5)) refl
    where
      by : (t : Bool) (x : Option Body) → body_under o (n / 5) ≡ x →
          head_led p (cond t (Some b) x) (n % 5) ≡ cond t (head_led p (Some b) (n % 5)) (head_led o x (n % 5))
      by true x e = refl
      by false None e = refl
      by false (Some c) e = made_heads (n / 5) c (n % 5) e

  pub made_rings : (links2 : List Link) → AreRings links2 (owner_with p (owner o) key (Some b)) → AreRings links2 (owner p)
  made_rings links2 = rings_along links2 (owner_with p (owner o) key (Some b)) (owner p) (λ n field. made_owner n)

  -- ---- nodes

  module _ (long : ℕ) (more : length links ≤ long) (room : key * 5 + 5 ≤ long) where
    pub made_nodes : HaveNodes p long
    made_nodes j c there = by (j == key) refl
      where
        by : (t : Bool) → (j == key) ≡ t → j * 5 + 5 ≤ long
        by true e = let is : j ≡ key = grind (arith, nat_tests) in omega (arith, is, room)
        by false e = let low = are.long j c (sym (made_off j e) ∙ there) in omega (arith, low, more)

  -- ---- leads

  made_there : LeadsAmong (bodies o) b → AreThere p
  made_there among j c i l there leads = by (j == key) refl
    where
      still : IsSome (key_of o l.to) → IsSome (key_of p l.to)
      still some = subst IsSome (sym (made_keys l.to some)) some

      by : (t : Bool) → (j == key) ≡ t → IsSome (key_of p l.to)
      by false e = still (are.leads j c i l (sym (made_off j e) ∙ there) leads)
      by true e =
          let is : j ≡ key = grind (arith, nat_tests) in
          let both : Some c ≡ Some b = sym there ∙ ap (body_under p) is ∙ made_body in
          let same : c ≡ b = cc in
          still (there_keyed o filed l.to (among i l (ap (λ x. led x i) (sym same) ∙ leads)))

  pub made_others : (j : ℕ) (c : Body) (i : ℕ) (l : Lead) → j ≢ key → body_under p j ≡ Some c → led c i ≡ Some l → IsTold p l j
  made_others j c i l apart there leads k e at under = by (k == key) refl
    where
      off : (j == key) ≡ false
      off = grind (arith, nat_tests)

      there_o : body_under o j ≡ Some c
      there_o = sym (made_off j off) ∙ there

      at_o : key_of o l.to ≡ Some k
      at_o = sym (made_keys l.to (are.leads j c i l there_o leads)) ∙ at

      by : (t : Bool) → (k == key) ≡ t → Tells (told_by l.sort e.hints) j
      by true f = let is : k ≡ key = grind (arith, nat_tests) in absurd (made_fresh l.to (at_o ∙ ap Some is))
      by false f = are.told j c i l there_o leads k e at_o
          (sym (makes.entries k ∙ ap (λ t. cond t (Some (fresh who b)) (entry_under o k)) f) ∙ under)

  -- ---- homes

  made_word : home_word key ≡ Some key
  made_word = by (key == nowhere) refl
    where
      by : (t : Bool) → (key == nowhere) ≡ t → cond t None (Some key) ≡ Some key
      by false e = refl
      by true e =
          let low = makes.small in
          let is : key ≡ nowhere = eqb-true key nowhere e in
          absurd (omega (arith, is, low))

  made_birth : and_then stored_birth (body_under p key) ≡ stored_birth b
  made_birth = ap (and_then stored_birth) made_body

  born_off : (k : ℕ) → (k == key) ≡ false → and_then stored_birth (body_under p k) ≡ and_then stored_birth (body_under o k)
  born_off k off = ap (and_then stored_birth) (made_off k off)

  born_at : (k : ℕ) → (k == key) ≡ true → and_then stored_birth (body_under p k) ≡ stored_birth b
  born_at k at = let is : k ≡ key = grind (arith, nat_tests) in ap (λ k. and_then stored_birth (body_under p k)) is ∙ made_birth

  -- nothing was born under the key
  born_none : (k n : ℕ) → (k == key) ≡ true → and_then stored_birth (body_under o k) ≡ Some n → ⊥
  born_none k n at born =
      let is : k ≡ key = grind (arith, nat_tests) in
      let gone : body_under o k ≡ None = ap (body_under o) is ∙ no-body o key makes.vacant in
      let lost : and_then stored_birth (body_under o k) ≡ None = ap (and_then stored_birth) gone in
      none_some (and_then stored_birth (body_under o k)) n lost born

  module _ (new : (n : ℕ) → stored_birth b ≡ Some n → home_in (bodies o) n ≡ None) (homes2 : List ℕ)
      (settles : (n : ℕ) → home_at homes2 n ≡ cond (is_number n (stored_birth b)) (home_word key) (home_at homes n)) where
    -- no other has the number
    born_alone : (k n : ℕ) → stored_birth b ≡ Some n → and_then stored_birth (body_under o k) ≡ Some n → ⊥
    born_alone k n is born = by (body_under o k) refl born
      where
        by : (x : Option Body) → body_under o k ≡ x → and_then stored_birth x ≡ Some n → ⊥
        by None e h = absurd (cc)
        by (Some c) e h =
            let name = name_there o k c filed e in
            births-none (bodies o) n name.0 (new n is) (ap (and_then stored_birth) (get_at o name.0 k name.2 ∙ e) ∙ h)

    homed_to : (n k : ℕ) (t : Bool) → is_number n (stored_birth b) ≡ t → cond t (home_word key) (home_at homes n) ≡ Some k →
        and_then stored_birth (body_under p k) ≡ Some n
    homed_to n k true e h =
        let both : Some key ≡ Some k = sym made_word ∙ h in
        let is : key ≡ k = cc in
        ap (λ k. and_then stored_birth (body_under p k)) (sym is) ∙ made_birth ∙ number_of n (stored_birth b) e
    homed_to n k false e h = by (k == key) refl
      where
        by : (t : Bool) → (k == key) ≡ t → and_then stored_birth (body_under p k) ≡ Some n
        by false f = born_off k f ∙ (are.homed n k).0 h
        by true f = absurd (born_none k n f ((are.homed n k).0 h))

    homed_from : (n k : ℕ) (t : Bool) → is_number n (stored_birth b) ≡ t → and_then stored_birth (body_under p k) ≡ Some n →
        cond t (home_word key) (home_at homes n) ≡ Some k
    homed_from n k true e h = by (k == key) refl
      where
        by : (t : Bool) → (k == key) ≡ t → home_word key ≡ Some k
        by true f = let is : k ≡ key = grind (arith, nat_tests) in made_word ∙ ap Some (sym is)
        by false f = absurd (born_alone k n (number_of n (stored_birth b) e) (sym (born_off k f) ∙ h))
    homed_from n k false e h = by (k == key) refl
      where
        by : (t : Bool) → (k == key) ≡ t → home_at homes n ≡ Some k
        by false f = (are.homed n k).1 (sym (born_off k f) ∙ h)
        by true f = absurd (not_number n (stored_birth b) e (sym (born_at k f) ∙ h))

    made_homed : AreHomed p homes2
    made_homed n k = (
      λ h. homed_to n k (is_number n (stored_birth b)) refl (sym (settles n) ∙ h),
      λ h. settles n ∙ homed_from n k (is_number n (stored_birth b)) refl h,
    )

  -- ---- marks

  made_marked : (is : Body → Bool) (mark : ℕ → ℕ) →
      ((w : Who) (k : ℕ) (c : Body) → key_of o w ≡ Some k → body_under o k ≡ Some c → is c ≡ true → mark_at o.marks w.space (mark w.slot) ≡ true) →
      (w : Who) (k : ℕ) (c : Body) → same_who w who ≡ false → key_of p w ≡ Some k → body_under p k ≡ Some c → is c ≡ true →
      mark_at p.marks w.space (mark w.slot) ≡ true
  made_marked is mark marked w k c apart at there so = by (k == key) refl
    where
      at_o : key_of o w ≡ Some k
      at_o = sym (makes.keys w ∙ ap (λ t. cond t (Some key) (key_of o w)) apart) ∙ at

      by : (t : Bool) → (k == key) ≡ t → mark_at p.marks w.space (mark w.slot) ≡ true
      by true f = let one : k ≡ key = grind (arith, nat_tests) in absurd (made_fresh w (at_o ∙ ap Some one))
      by false f = makes.marks w.space (mark w.slot) ∙ marked w k c at_o (sym (made_off k f) ∙ there) so

  -- ---- all

  pub made_held : (count result : ℕ) (is : Bool) → is ≡ is_held b → IsCount (held_in (bodies o)) count → Counts count result false is →
      IsCount (held_in (bodies p)) result
  made_held count result is same enough counts = subst (λ m. IsCount (held_in m) result) (sym made_map)
      (enough-put (bodies o) who count result enough b is (get-bodies o who ∙ ap (and_then (body_under o)) empty) same counts)

  pub made_all : (r q : Filed) → Retells p r → q.keys ≡ r.keys → q.entries ≡ r.entries → StillMarked r q → IsMarked q who b → AreTold r →
      (links2 : List Link) (homes2 : List ℕ) (held2 : ℕ) → AreRings links2 (owner p) → length links ≤ length links2 → key * 5 + 5 ≤ length links2 →
      IsCount (held_in (bodies p)) held2 → LeadsAmong (bodies o) b →
      ((n : ℕ) → stored_birth b ≡ Some n → home_in (bodies o) n ≡ None) →
      ((n : ℕ) → home_at homes2 n ≡ cond (is_number n (stored_birth b)) (home_word key) (home_at homes n)) → AreBodies q links2 homes2 held2
  made_all r q retells keys entries still marked told links2 homes2 held2 rings more room count among new settles =
      settled p r q retells keys entries still links2 homes2 held2 who key b made_key made_body marked rings (made_nodes (length links2) more room)
      (made_there among) told (made_homed new homes2 settles) count
      (made_marked (λ c. is_of_pages c) page_mark are.pages) (made_marked (λ c. is_member c) member_mark are.members)

  pub made_all_map : (r q : Filed) → Retells p r → q.keys ≡ r.keys → q.entries ≡ r.entries → StillMarked r q → bodies q ≡ finmap.insert (bodies o) who b
  made_all_map r q retells keys entries still = settled_map p r q retells keys entries still ∙ made_map

-- the table of homes, with room and then with the key
pub settled_homes : (b : Body) (homes room now : List ℕ) (key : ℕ) (birth : Option ℕ) → birth ≡ stored_birth b →
    ((n : ℕ) → home_at now n ≡ cond (is_number n birth) (home_word key) (home_at room n)) → ((n : ℕ) → home_at room n ≡ home_at homes n) →
    (n : ℕ) → home_at now n ≡ cond (is_number n (stored_birth b)) (home_word key) (home_at homes n)
settled_homes b homes room now key birth is settles same n =
    settles n ∙ (λ i. cond (is_number n (is i)) (home_word key) (same n i))

-- an empty slot has no key
pub not_keyed_there : (o : Filed) (who : Who) → IsFiled o → get (bodies o) who ≡ None → key_of o who ≡ None
not_keyed_there o who filed none = by (key_of o who) refl
  where
    by : (x : Option ℕ) → key_of o who ≡ x → x ≡ None
    by None e = refl
    by (Some key) e =
        let found = under_name o who key filed e in
        absurd (none_some (get (bodies o) who) found.0 none (get_at o who key e ∙ found.1))

-- keys and names agree once it is there
pub made_filed : (o p : Filed) → IsFiled o → (who : Who) (key : ℕ) (b : Body) → key_of o who ≡ None → Makes o p key (fresh who b) → IsFiled p
unfolding name_under
made_filed o p filed who key b empty makes = record {
  filed = λ q j h. by_key q j (same_who q who) refl (sym (makes.keys q) ∙ h);
  found = λ j q h. by_name j q (j == key) refl (sym (names j) ∙ h);
  small = λ j q h. by_low j q (j == key) refl (sym (names j) ∙ h);
}
  where
    names : (j : ℕ) → option_map (λ (e : Entry). e.who) (entry_under p j) ≡ cond (j == key) (Some who) (option_map (λ (e : Entry). e.who) (entry_under o j))
    names j = ap (option_map (λ (e : Entry). e.who)) (makes.entries j) ∙ by (j == key)
      where
        by : (t : Bool) → option_map (λ (e : Entry). e.who) (cond t (Some (fresh who b)) (entry_under o j))
            ≡ cond t (Some who) (option_map (λ (e : Entry). e.who) (entry_under o j))
        by true = refl
        by false = refl

    none_here : option_map (λ (e : Entry). e.who) (entry_under o key) ≡ None
    none_here = ap (option_map (λ (e : Entry). e.who)) makes.vacant

    by_key : (q : Who) (j : ℕ) (t : Bool) → same_who q who ≡ t → cond t (Some key) (key_of o q) ≡ Some j →
        option_map (λ (e : Entry). e.who) (entry_under p j) ≡ Some q
    by_key q j true e h =
        let is : key ≡ j = cc in
        let here : (j == key) ≡ true = grind (arith, nat_tests) in
        names j ∙ ap (λ t. cond t (Some who) (option_map (λ (e : Entry). e.who) (entry_under o j))) here ∙ ap Some (sym (same_who_eq q who e))
    by_key q j false e h = names j ∙ by (j == key) refl
      where
        by : (t : Bool) → (j == key) ≡ t → cond t (Some who) (option_map (λ (e : Entry). e.who) (entry_under o j)) ≡ Some q
        by false f = filed.filed q j h
        by true f =
            let is : j ≡ key = grind (arith, nat_tests) in
            absurd (none_some (option_map (λ (e : Entry). e.who) (entry_under o key)) q none_here
            (ap (λ j. option_map (λ (e : Entry). e.who) (entry_under o j)) (sym is) ∙ filed.filed q j h))

    by_name : (j : ℕ) (q : Who) (t : Bool) → (j == key) ≡ t → cond t (Some who) (option_map (λ (e : Entry). e.who) (entry_under o j)) ≡ Some q →
        key_of p q ≡ Some j
    by_name j q true e h =
        let is : who ≡ q = cc in
        let here : j ≡ key = grind (arith, nat_tests) in
        makes.keys q ∙ ap (λ t. cond t (Some key) (key_of o q)) (ap (λ x. same_who x who) (sym is) ∙ same_who_refl who) ∙ ap Some (sym here)
    by_name j q false e h = makes.keys q ∙ by (same_who q who) refl
      where
        there : key_of o q ≡ Some j
        there = filed.found j q h

        by : (t : Bool) → same_who q who ≡ t → cond t (Some key) (key_of o q) ≡ Some j
        by false f = there
        by true f = absurd (none_some (key_of o who) j empty (ap (key_of o) (sym (same_who_eq q who f)) ∙ there))

    by_low : (j : ℕ) (q : Who) (t : Bool) → (j == key) ≡ t → cond t (Some who) (option_map (λ (e : Entry). e.who) (entry_under o j)) ≡ Some q → j < 858993458
    by_low j q true e h = let here : j ≡ key = grind (arith, nat_tests) in let low = makes.small in omega (arith, here, low)
    by_low j q false e h = filed.small j q h

-- ---- nothing came

module _ (o p : Filed) (keeps : Keeps o p) where
  kept_bodies : (j : ℕ) → body_under p j ≡ body_under o j
  unfolding body_under
  kept_bodies j = ap (option_map (λ (e : Entry). e.body)) (keeps.entries j)

  pub kept_map : bodies p ≡ bodies o
  kept_map = is-bodies p (bodies o) (λ w. ap (and_then (body_under p)) (keeps.keys w) ∙ by (key_of o w) ∙ sym (get-bodies o w))
    where
      by : (x : Option ℕ) → and_then (body_under p) x ≡ and_then (body_under o) x
      by None = refl
      by (Some j) = kept_bodies j

  kept_owner : (n : ℕ) → owner p n ≡ owner o n
  unfolding owner
  kept_owner n = by (and_then (target (n % 5)) (body_under p (n / 5))) ∙ ap (λ x. and_then (head_by o) (and_then (target (n % 5)) x)) (kept_bodies (n / 5))
    where
      by : (x : Option Who) → and_then (head_by p) x ≡ and_then (head_by o) x
      by None = refl
      by (Some w) = ap (option_map (λ k. node_of k 2)) (keeps.keys w)

  pub kept_all : (links links2 : List Link) (homes homes2 : List ℕ) (held : ℕ) → AreBodies o links homes held →
      (AreRings links (owner o) → AreRings links2 (owner o)) → length links ≤ length links2 → ((n : ℕ) → home_at homes2 n ≡ home_at homes n) →
      AreBodies p links2 homes2 held
  kept_all links links2 homes homes2 held are rings more homed = record {
    rings = rings_along links2 (owner o) (owner p) (λ n field. kept_owner n) (rings are.rings);
    long = λ j c there. let low = are.long j c (sym (kept_bodies j) ∙ there) in omega (arith, low, more);
    leads = λ j c i l there is. subst IsSome (sym (keeps.keys l.to)) (are.leads j c i l (sym (kept_bodies j) ∙ there) is);
    told = λ j c i l there is k e at under. are.told j c i l (sym (kept_bodies j) ∙ there) is k e (sym (keeps.keys l.to) ∙ at) (sym (keeps.entries k) ∙ under);
    homed = λ n k.
        let same = ap (and_then stored_birth) (kept_bodies k) in
        (λ h. same ∙ (are.homed n k).0 (sym (homed n) ∙ h), λ h. homed n ∙ (are.homed n k).1 (sym same ∙ h));
    held = subst (λ m. IsCount (held_in m) held) (sym kept_map) are.held;
    pages = λ w k c at there so. keeps.marks w.space (page_mark w.slot) ∙ are.pages w k c (sym (keeps.keys w) ∙ at) (sym (kept_bodies k) ∙ there) so;
    members = λ w k c at there so. keeps.marks w.space (member_mark w.slot) ∙ are.members w k c (sym (keeps.keys w) ∙ at) (sym (kept_bodies k) ∙ there) so;
  }

pub keeps_same : (o : Filed) → Keeps o o
keeps_same o = record { entries = λ j. refl; keys = λ q. refl; marks = λ s m. refl }
