-- RenameLaws: an object gets another name, and what leads there follows.
use Rattle.std.proofs.Common.{◌≡◌, ◌≢◌, inl, inr, ℕ, ◌+◌, ◌*◌, ◌/◌, ◌%◌, ◌≤◌, Bool, true, false, cond, ◌==◌, length, List, Option, Some, None, IsSome}
use Rattle.std.proofs.Common.{is_some, option_map, refl, sym, ap, subst, ◌∙◌, arith}
use Rattle.std.proofs.lemmas.Bool.Decides.{nat_tests}
use Rattle.std.specs.FinMap.{get}
use Rattle.fk_model.specs.Objects.{and_then}
use Rattle.fk_model.specs.declared.names.Who.{Who}
use Rattle.fk_model.specs.declared.body.Body.{Body}
use Rattle.fk_store_graph.specs.Linked.Shapes.{Lead}
use Rattle.fk_store_graph.specs.Linked.Leads.{led, lead_by}
use Rattle.fk_store_graph.specs.Linked.Tables.{mark_at}
use Rattle.fk_store_graph.specs.Linked.Shapes.{Link}
use Rattle.fk_store_graph.specs.Linked.Links.{AreRings}
use Rattle.fk_store_graph.specs.Linked.Nodes.{node_of}
use Rattle.fk_store_graph.proofs.InLinked.NodeLaws.{rings_along}
use Rattle.fk_store_graph.specs.Linked.Shapes.{Entry}
use Rattle.fk_store_graph.specs.Linked.Filed.{Filed, IsFiled, entry_under, key_of, name_under}
use Rattle.fk_store_graph.specs.Linked.Edits.{Renames, named}
use Rattle.fk_store_graph.specs.Linked.Births.{stored_birth}
use Rattle.fk_store_graph.specs.Linked.Bodied.{body_under, bodies, head_by, owner, Tells, told_by, AreAlike, AreBodies, Maps, space_of, space_under}
use Rattle.fk_store_graph.specs.Linked.Bodied.{swept_under, IsMarked, StillMarked}
use Rattle.fk_store_graph.specs.Linked.Leading.{target}
use Rattle.fk_store_graph.specs.Linked.Held.{is_held, held_in, IsCount}
use Rattle.fk_store_graph.specs.Linked.Marks.{is_of_pages, is_member, page_mark, member_mark}
use Rattle.fk_store_graph.specs.Linked.Names.{same_who}
use Rattle.fk_store_graph.specs.Linked.Sweeps.{body_after}
use Rattle.fk_store_graph.specs.Linked.Shapes.{Sweep}
use Rattle.fk_store_graph.proofs.InLinked.AlikeLaws.{hints_were, alike_filed}
use Rattle.fk_store_graph.proofs.InLinked.BodyLaws.{get-bodies, renamed-found, name-of, body-of, under_name, get_at, entry_there}
use Rattle.fk_store_graph.proofs.InLinked.CountLaws.{mapped-held}
use Rattle.fk_store_graph.proofs.InLinked.HeldLaws.{enough-rename}
use Rattle.fk_store_graph.proofs.InLinked.HintLaws.{led-came}
use Rattle.fk_store_graph.proofs.InLinked.LedLaws.{swept-birth, swept-pages, swept-members, renamed-held}
use Rattle.fk_store_graph.proofs.InLinked.NameLaws.{same_who_eq, same_who_refl}
use Rattle.fk_store_graph.proofs.InLinked.PointerLaws.{target_lead}
use Rattle.fk_store_graph.proofs.InBodies.SettleLaws.{marked_keys, marked_entries}
use Rattle.fk_store_graph.proofs.InLinked.TargetLaws.{renamed, target-renamed}

same_some : {A : Type 0} (o : Option A) (a b : A) → o ≡ Some a → o ≡ Some b → a ≡ b
same_some o a b h k = cc

module _ (o m p q : Filed) (links : List Link) (homes : List ℕ) (held : ℕ) (filed : IsFiled o) (filed_m : IsFiled m) (are : AreBodies o links homes held)
    (key : ℕ) (sweep : Sweep) (t : Who) (to : sweep.to ≡ Some t) (here : key_of o sweep.from ≡ Some key) (free : key_of o t ≡ None)
    (maps : Maps o m (swept_under sweep o)) (e : Entry) (there : entry_under m key ≡ Some e) (renames : Renames m p key e t)
    (keys : q.keys ≡ p.keys) (entries : q.entries ≡ p.entries) (still : StillMarked p q) (own : IsMarked q t e.body) where
  abbrev from : Who
  from = sweep.from

  key_m : key_of m from ≡ Some key
  key_m = maps.alike.keys from ∙ here

  name_is : e.who ≡ from
  name_is = same_some (name_under m key) e.who from (name-of m key e there) (filed_m.filed from key key_m)

  keys_now : (w : Who) → key_of q w ≡ cond (same_who w t) (Some key) (cond (same_who w from) None (key_of o w))
  keys_now w = marked_keys p q keys entries w ∙ renames.keys w
      ∙ (λ i. cond (same_who w t) (Some key) (cond (same_who w (name_is i)) None (maps.alike.keys w i)))

  at_t : key_of q t ≡ Some key
  at_t = keys_now t ∙ ap (λ b. cond b (Some key) (cond (same_who t from) None (key_of o t))) (same_who_refl t)

  entries_now : (j : ℕ) → entry_under q j ≡ cond (j == key) (Some (named t e)) (entry_under m j)
  entries_now j = marked_entries p q keys entries j ∙ renames.entries j

  bodies_m : (j : ℕ) → body_under q j ≡ body_under m j
  unfolding body_under
  bodies_m j = ap (option_map (λ (e : Entry). e.body)) (entries_now j) ∙ by (j == key) refl
    where
      by : (s : Bool) → (j == key) ≡ s → option_map (λ (e : Entry). e.body) (cond s (Some (named t e)) (entry_under m j))
          ≡ option_map (λ (e : Entry). e.body) (entry_under m j)
      by false f = refl
      by true f = let is : j ≡ key = grind (arith, nat_tests) in
          sym (ap (λ j. option_map (λ (e : Entry). e.body) (entry_under m j)) is ∙ ap (option_map (λ (e : Entry). e.body)) there)

  bodies_now : (j : ℕ) → body_under q j ≡ option_map (body_after sweep (space_under o j)) (body_under o j)
  bodies_now j = bodies_m j ∙ maps.bodies j

  hints_now : (k : ℕ) (d : Entry) → entry_under q k ≡ Some d → (c : Entry) × (entry_under o k ≡ Some c) × (d.hints ≡ c.hints)
  hints_now k d under = by (k == key) refl (sym (entries_now k) ∙ under)
    where
      by : (s : Bool) → (k == key) ≡ s → cond s (Some (named t e)) (entry_under m k) ≡ Some d → (c : Entry) × (entry_under o k ≡ Some c) × (d.hints ≡ c.hints)
      by false f h = hints_were o m maps.alike k d h
      by true f h =
          let is : k ≡ key = grind (arith, nat_tests) in
          let same : named t e ≡ d = cc in
          let found = hints_were o m maps.alike k e (ap (entry_under m) is ∙ there) in
          (found.0, found.1, sym (ap (λ (x : Entry). x.hints) same) ∙ found.2)

  body_was : (j : ℕ) (b : Body) → body_under q j ≡ Some b → (a : Body) × (body_under o j ≡ Some a) × (b ≡ body_after sweep (space_under o j) a)
  body_was j b there_b = by (body_under o j) refl (sym (bodies_now j) ∙ there_b)
    where
      by : (x : Option Body) → body_under o j ≡ x → option_map (body_after sweep (space_under o j)) x ≡ Some b →
          (a : Body) × (body_under o j ≡ Some a) × (b ≡ body_after sweep (space_under o j) a)
      by None f h = absurd (cc)
      by (Some a) f h = (a, f, (let same : body_after sweep (space_under o j) a ≡ b = cc in sym same))

  -- who was there, and hasn't the other name, has its key
  kept_key : (w : Who) → IsSome (key_of o w) → same_who w from ≡ false → key_of q w ≡ key_of o w
  kept_key w some off = keys_now w ∙ by (same_who w t) refl
    where
      by : (s : Bool) → same_who w t ≡ s → cond s (Some key) (cond (same_who w from) None (key_of o w)) ≡ key_of o w
      by false f = ap (λ b. cond b None (key_of o w)) off
      by true f = let none : key_of o w ≡ None = ap (key_of o) (same_who_eq w t f) ∙ free in absurd (cc)

  -- ---- rings

  head_now : (w : Who) → IsSome (key_of o w) → head_by q (renamed sweep t to w) ≡ head_by o w
  head_now w some = by (same_who w from) refl
    where
      by : (s : Bool) → same_who w from ≡ s → head_by q (cond s t w) ≡ head_by o w
      by true f = ap (option_map (λ k. node_of k 2)) (at_t ∙ sym (ap (key_of o) (same_who_eq w from f) ∙ here))
      by false f = ap (option_map (λ k. node_of k 2)) (kept_key w some f)

  owner_now : (n : ℕ) → owner q n ≡ owner o n
  unfolding owner
  owner_now n = ap (λ x. and_then (head_by q) (and_then (target (n % 5)) x)) (bodies_now (n / 5)) ∙ by (body_under o (n / 5)) refl
    where
      go : (b : Body) → body_under o (n / 5) ≡ Some b → (x : Option Who) → target (n % 5) b ≡ x →
          and_then (head_by q) (option_map (renamed sweep t to) x) ≡ and_then (head_by o) x
      go b f None g = refl
      go b f (Some w) g =
          let lead = target_lead (n % 5) b w g in
          head_now w (subst (λ (x : Who). IsSome (key_of o x)) lead.2 (are.leads (n / 5) b (n % 5) lead.0 f lead.1))

      by : (x : Option Body) → body_under o (n / 5) ≡ x →
          and_then (head_by q) (and_then (target (n % 5)) (option_map (body_after sweep (space_under o (n / 5))) x))
          ≡ and_then (head_by o) (and_then (target (n % 5)) x)
      by None f = refl
      by (Some b) f = ap (and_then (head_by q)) (target-renamed sweep t to (space_under o (n / 5)) b (n % 5)) ∙ go b f (target (n % 5) b) refl

  -- ---- leads

  lead_now : (j : ℕ) (b : Body) (i : ℕ) (l : Lead) → body_under q j ≡ Some b → led b i ≡ Some l →
      (k : Lead) × (a : Body) × (body_under o j ≡ Some a) × (led a i ≡ Some k) × (k.sort ≡ l.sort) × (key_of q l.to ≡ key_of o k.to)
  lead_now j b i l there_b leads =
      let found = body_was j b there_b in
      let now : led (body_after sweep (space_under o j) found.0) i ≡ Some l = ap (λ x. led x i) (sym found.2) ∙ leads in
      elim (led-came sweep l (space_under o j) found.0 i now) [
        | inl before ↦ (l, found.0, found.1, before.0, refl, kept_key l.to (are.leads j found.0 i l found.1 before.0) before.1)
        | inr follows ↦ (lead_by l.sort from, found.0, found.1, follows.1, refl, ap (key_of q) (same_some sweep.to l.to t follows.0 to) ∙ at_t ∙ sym here)
      ]

  -- ---- births, marks, the count

  births_now : (k : ℕ) → and_then stored_birth (body_under q k) ≡ and_then stored_birth (body_under o k)
  births_now k = ap (and_then stored_birth) (bodies_now k) ∙ by (body_under o k)
    where
      by : (x : Option Body) → and_then stored_birth (option_map (body_after sweep (space_under o k)) x) ≡ and_then stored_birth x
      by None = refl
      by (Some b) = swept-birth sweep (space_under o k) b

  marked_now : (is : Body → Bool) (mark : ℕ → ℕ) → ((space : ℕ) (b : Body) → is (body_after sweep space b) ≡ true → is b ≡ true) →
      (is e.body ≡ true → mark_at q.marks t.space (mark t.slot) ≡ true) →
      ((w : Who) (k : ℕ) (c : Body) → key_of o w ≡ Some k → body_under o k ≡ Some c → is c ≡ true → mark_at o.marks w.space (mark w.slot) ≡ true) →
      (w : Who) (k : ℕ) (c : Body) → key_of q w ≡ Some k → body_under q k ≡ Some c → is c ≡ true → mark_at q.marks w.space (mark w.slot) ≡ true
  marked_now is mark stays own marked w k c at_q there_c so = by (same_who w t) refl (same_who w from) refl (sym (keys_now w) ∙ at_q)
    where
      by : (s : Bool) → same_who w t ≡ s → (r : Bool) → same_who w from ≡ r → cond s (Some key) (cond r None (key_of o w)) ≡ Some k →
          mark_at q.marks w.space (mark w.slot) ≡ true
      by true f r g h =
          let one : key ≡ k = cc in
          let body : e.body ≡ c = same_some (body_under m key) e.body c (body-of m key e there) (sym (bodies_m key) ∙ ap (body_under q) one ∙ there_c) in
          subst (λ (x : Who). mark_at q.marks x.space (mark x.slot) ≡ true) (sym (same_who_eq w t f)) (own (ap is body ∙ so))
      by false f true g h = absurd (cc)
      by false f false g h =
          let found = body_was k c there_c in
          still w.space (mark w.slot) (ap (λ x. mark_at x w.space (mark w.slot)) (renames.marks ∙ maps.alike.marks)
          ∙ marked w k found.0 h found.1 (stays (space_under o k) found.0 (ap is (sym found.2) ∙ so)))

  pub renamed_found : (w : Who) → get (bodies q) w ≡ cond (same_who w t) (option_map (body_after sweep from.space) (get (bodies o) from))
      (cond (same_who w from) None (option_map (body_after sweep w.space) (get (bodies o) w)))
  renamed_found w = get-bodies q w ∙ ap (and_then (body_under q)) (keys_now w) ∙ by (same_who w t) (same_who w from) (key_of o w) refl
    where
      under : (v : Who) (j : ℕ) → key_of o v ≡ Some j → body_under q j ≡ option_map (body_after sweep v.space) (get (bodies o) v)
      under v j f =
          let space : space_under o j ≡ v.space = ap space_of (filed.filed v j f) in
          bodies_now j ∙ (λ i. option_map (body_after sweep (space i)) (sym (get_at o v j f) i))

      by : (s r : Bool) (x : Option ℕ) → key_of o w ≡ x → and_then (body_under q) (cond s (Some key) (cond r None x))
          ≡ cond s (option_map (body_after sweep from.space) (get (bodies o) from)) (cond r None (option_map (body_after sweep w.space) (get (bodies o) w)))
      by true r x f = under from key here
      by false true x f = refl
      by false false None f = sym (ap (option_map (body_after sweep w.space)) (get-bodies o w ∙ ap (and_then (body_under o)) f))
      by false false (Some j) f = under w j f

  held_now : IsCount (held_in (bodies q)) held
  held_now = enough-rename (bodies m) (bodies q) from t found.0 held (get_at m from key key_m ∙ found.1)
      (get-bodies m t ∙ ap (and_then (body_under m)) (maps.alike.keys t ∙ free)) moved
      (subst (λ n. IsCount n held) (sym (mapped-held o m (swept_under sweep o) maps (λ j b. renamed-held sweep t to (space_under o j) b))) are.held)
    where
      found : (b : Body) × (body_under m key ≡ Some b)
      found = under_name m from key filed_m key_m

      moved : (w : Who) → get (bodies q) w ≡ cond (same_who w t) (get (bodies m) from) (cond (same_who w from) None (get (bodies m) w))
      moved w = get-bodies q w
          ∙ renamed-found m q filed_m from key t key_m (λ v. keys_now v
          ∙ (λ i. cond (same_who v t) (Some key) (cond (same_who v from) None (sym (maps.alike.keys v) i)))) bodies_m w
          ∙ (λ i. cond (same_who w t) (sym (get-bodies m from) i) (cond (same_who w from) None (sym (get-bodies m w) i)))

  pub renamed_all : AreBodies q links homes held
  renamed_all = record {
    rings = rings_along links (owner o) (owner q) (λ n field. owner_now n) are.rings;
    long = λ j b there_b. let found = body_was j b there_b in are.long j found.0 found.1;
    leads = λ j b i l there_b is.
        let found = lead_now j b i l there_b is in
        subst IsSome (sym found.5) (are.leads j found.1 i found.0 found.2 found.3);
    told = λ j b i l there_b is k d at_q under.
        let found = lead_now j b i l there_b is in
        let hint = hints_now k d under in
        let before = are.told j found.1 i found.0 found.2 found.3 k hint.0 (sym found.5 ∙ at_q) hint.1 in
        subst (λ h. Tells (told_by l.sort h) j) (sym hint.2) (subst (λ s. Tells (told_by s hint.0.hints) j) found.4 before);
    homed = λ n k. (λ h. births_now k ∙ (are.homed n k).0 h, λ h. (are.homed n k).1 (sym (births_now k) ∙ h));
    held = held_now;
    pages = marked_now (λ c. is_of_pages c) page_mark (λ space b h. sym (swept-pages sweep space b) ∙ h) own.pages are.pages;
    members = marked_now (λ c. is_member c) member_mark (swept-members sweep) own.members are.members;
  }

-- ---- as the code does it

-- a name that is free is another
pub other_name : (o : Filed) (from to : Who) (key : ℕ) → key_of o from ≡ Some key → key_of o to ≡ None → Some to ≢ Some from
other_name o from to key here free same = let is : to ≡ from = cc in let both = sym (ap (key_of o) is ∙ here) ∙ free in absurd (cc)

pub in_space : (o m : Filed) → AreAlike o m → IsFiled o → (from to : Who) (key : ℕ) → key_of o from ≡ Some key → to.space ≡ from.space →
    (e : Entry) → entry_under m key ≡ Some e → e.who.space ≡ to.space
in_space o m alike filed from to key here space e there =
    let name : e.who ≡ from = same_some (name_under m key) e.who from (name-of m key e there) (alike.names key ∙ filed.filed from key here) in
    ap (λ (w : Who). w.space) name ∙ sym space

module _ (o m p q : Filed) (links : List Link) (homes : List ℕ) (held : ℕ) (filed : IsFiled o) (are : AreBodies o links homes held)
    (key : ℕ) (from to : Who) (here : key_of o from ≡ Some key) (free : key_of o to ≡ None)
    (maps : Maps o m (swept_under (record { from = from; to = Some to }) o))
    (renames : (e : Entry) → entry_under m key ≡ Some e → Renames m p key e to)
    (keys : q.keys ≡ p.keys) (entries : q.entries ≡ p.entries) (still : StillMarked p q)
    (marked : (e : Entry) → entry_under p key ≡ Some e → IsMarked q e.who e.body) where
  abbrev this : Sweep
  this = record { from = from; to = Some to }

  filed_m : IsFiled m
  filed_m = alike_filed o m maps.alike filed

  found : (e : Entry) × (entry_under m key ≡ Some e)
  found = entry_there m from key filed_m (maps.alike.keys from ∙ here)

  own : IsMarked q to found.0.body
  own = marked (named to found.0) ((renames found.0 found.1).entries key
      ∙ (let same : (key == key) ≡ true = grind (arith, nat_tests) in ap (λ t. cond t (Some (named to found.0)) (entry_under m key)) same))

  pub renamed_by : AreBodies q links homes held
  renamed_by = renamed_all o m p q links homes held filed filed_m are key this to refl here free maps found.0 found.1
      (renames found.0 found.1) keys entries still own

  pub renamed_map_by : (w : Who) → get (bodies q) w ≡ cond (same_who w to) (option_map (body_after this from.space) (get (bodies o) from))
      (cond (same_who w from) None (option_map (body_after this w.space) (get (bodies o) w)))
  renamed_map_by = renamed_found o m p q links homes held filed filed_m are key this to refl here free maps found.0 found.1
      (renames found.0 found.1) keys entries still own
