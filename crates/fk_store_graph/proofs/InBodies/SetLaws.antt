-- SetLaws: an object gets another body.
use Rattle.std.proofs.Common.{◌≡◌, ◌≢◌, ℕ, ◌+◌, ◌*◌, ◌≤◌, Bool, true, false, cond, ◌==◌, length, List, Option, Some, None, IsSome, is_some}
use Rattle.std.proofs.Common.{option_map, refl, sym, ap, subst, ◌∙◌, arith}
use Rattle.std.proofs.lemmas.Bool.Decides.{nat_tests}
use Rattle.std.specs.FinMap as finmap
use Rattle.std.specs.FinMap.{get}
use Rattle.fk_model.specs.Objects.{and_then, holds}
use Rattle.fk_model.specs.declared.names.Who.{Who}
use Rattle.fk_model.specs.declared.body.Body.{Body}
use Rattle.fk_model.specs.declared.body.Body.TheVariants.{Mutex, Cond, Mapping, Region, Port, Portset, Space, Thread, Reference}
use Rattle.fk_store_graph.specs.Linked.Shapes.{Lead}
use Rattle.fk_store_graph.specs.Linked.Leads.{led}
use Rattle.fk_store_graph.specs.Linked.Tables.{mark_at}
use Rattle.fk_store_graph.specs.Linked.Shapes.{Link}
use Rattle.fk_store_graph.specs.Linked.Links.{AreRings}
use Rattle.fk_store_graph.specs.Linked.Shapes.{Entry}
use Rattle.fk_store_graph.specs.Linked.Filed.{Filed, IsFiled, entry_under, key_of}
use Rattle.fk_store_graph.specs.Linked.Births.{stored_birth, birth_in}
use Rattle.fk_store_graph.specs.Linked.Bodied.{body_under, bodies, owner, Tells, told_by, HaveNodes, AreThere, IsTold, AreTold, AreHomed, AreAlike}
use Rattle.fk_store_graph.specs.Linked.Bodied.{AreBodies, Retells, IsMarked, StillMarked}
use Rattle.fk_store_graph.specs.Linked.Held.{held_in, IsCount}
use Rattle.fk_store_graph.specs.Linked.Leading.{LeadsAmong, is_reference}
use Rattle.fk_store_graph.specs.Linked.Marks.{is_of_pages, is_member, page_mark, member_mark}
use Rattle.fk_store_graph.specs.Linked.Names.{same_who}
use Rattle.fk_store_graph.proofs.InLinked.AlikeLaws.{hints_were, nodes_kept, replaced_map}
use Rattle.fk_store_graph.proofs.InLinked.BodyLaws.{get-bodies, keys_apart, under_name}
use Rattle.fk_store_graph.proofs.InLinked.NameLaws.{same_who_refl}
use Rattle.fk_store_graph.proofs.InBodies.ScanLaws.{there_keyed}
use Rattle.fk_store_graph.proofs.InBodies.SettleLaws.{settled, settled_map}

-- what is true of the body with a name is true under its key
pub under_key : (o : Filed) (who : Who) (key : ℕ) → key_of o who ≡ Some key → (is : Body → Bool) → holds is (get (bodies o) who) ≡ true →
    holds is (body_under o key) ≡ true
under_key o who key here is h = ap (holds is) (sym (get-bodies o who ∙ ap (and_then (body_under o)) here)) ∙ h

-- a reference is there
pub reference_there : (x : Option Body) → holds is_reference x ≡ true → IsSome x
reference_there None h = absurd (cc)
reference_there (Some b) h = refl

-- and has no birth number
pub reference_unborn : (x : Option Body) → holds is_reference x ≡ true → and_then stored_birth x ≡ None
reference_unborn None h = refl
reference_unborn (Some b) h = by b h
  where
    by : (b : Body) → is_reference b ≡ true → stored_birth b ≡ None
    by (Mutex locked) h = refl
    by Cond h = refl
    by (Mapping first count offset write region) h = refl
    by (Region first count write keeper) h = refl
    by (Port set served) h = refl
    by Portset h = refl
    by (Space birth holder) h = absurd (cc)
    by (Thread thread) h = refl
    by (Reference to) h = refl

module _ (o p : Filed) (links : List Link) (homes : List ℕ) (held : ℕ) (filed : IsFiled o) (are : AreBodies o links homes held)
    (who : Who) (key : ℕ) (b : Body) (here : key_of o who ≡ Some key) (alike : AreAlike o p)
    (now : (j : ℕ) → body_under p j ≡ cond (j == key) (Some b) (body_under o j)) where
  -- other bodies are as they were
  off : (j : ℕ) → j ≢ key → body_under p j ≡ body_under o j
  off j apart = now j ∙ by (j == key) refl
    where
      by : (t : Bool) → (j == key) ≡ t → cond t (Some b) (body_under o j) ≡ body_under o j
      by false e = refl
      by true e = absurd (apart (grind (arith, nat_tests)))

  pub set_body : body_under p key ≡ Some b
  set_body = now key ∙ (let same : (key == key) ≡ true = grind (arith, nat_tests) in rw same refl)

  was : (j : ℕ) (c : Body) → body_under p j ≡ Some c → IsSome (body_under o j)
  was j c there = by (j == key) refl
    where
      by : (t : Bool) → (j == key) ≡ t → IsSome (body_under o j)
      by true e =
          let is : j ≡ key = grind (arith, nat_tests) in
          let found = under_name o who key filed here in
          ap is_some (ap (body_under o) is ∙ found.1)
      by false e = ap is_some (sym (off j (grind (arith, nat_tests))) ∙ there)

  set_there : LeadsAmong (bodies o) b → AreThere p
  set_there among j c i l there leads = subst IsSome (sym (alike.keys l.to)) (by (j == key) refl)
    where
      by : (t : Bool) → (j == key) ≡ t → IsSome (key_of o l.to)
      by false e = are.leads j c i l (sym (off j (grind (arith, nat_tests))) ∙ there) leads
      by true e =
          let is : j ≡ key = grind (arith, nat_tests) in
          let both : Some c ≡ Some b = sym there ∙ ap (body_under p) is ∙ set_body in
          let same : c ≡ b = cc in
          there_keyed o filed l.to (among i l (ap (λ x. led x i) (sym same) ∙ leads))

  -- the others are told of
  pub set_others : (j : ℕ) (c : Body) (i : ℕ) (l : Lead) → j ≢ key → body_under p j ≡ Some c → led c i ≡ Some l → IsTold p l j
  set_others j c i l apart there leads k e at under =
      let hint = hints_were o p alike k e under in
      subst (λ h. Tells (told_by l.sort h) j) (sym hint.2)
      (are.told j c i l (sym (off j apart) ∙ there) leads k hint.0 (sym (alike.keys l.to) ∙ at) hint.1)

  set_homed : birth_in (bodies o) who ≡ stored_birth b → AreHomed p homes
  set_homed birth n k = (λ h. same ∙ (are.homed n k).0 h, λ h. (are.homed n k).1 (sym same ∙ h))
    where
      at_key : and_then stored_birth (body_under o key) ≡ stored_birth b
      at_key = ap (and_then stored_birth) (sym (get-bodies o who ∙ ap (and_then (body_under o)) here)) ∙ birth

      same : and_then stored_birth (body_under p k) ≡ and_then stored_birth (body_under o k)
      same = ap (and_then stored_birth) (now k) ∙ by (k == key) refl
        where
          by : (t : Bool) → (k == key) ≡ t → and_then stored_birth (cond t (Some b) (body_under o k)) ≡ and_then stored_birth (body_under o k)
          by false e = refl
          by true e =
              let is : k ≡ key = grind (arith, nat_tests) in
              sym (ap (λ k. and_then stored_birth (body_under o k)) is ∙ at_key)

  -- another name has another key
  set_off : (w : Who) (k : ℕ) → same_who w who ≡ false → key_of p w ≡ Some k → k ≢ key
  set_off w k apart at is =
      let same : w ≡ who = keys_apart o filed w who key (sym (alike.keys w) ∙ at ∙ ap Some is) here in
      let tests : same_who w who ≡ true = ap (λ x. same_who x who) same ∙ same_who_refl who in
      absurd (cc)

  set_marked : (is : Body → Bool) (mark : ℕ → ℕ) →
      ((w : Who) (k : ℕ) (c : Body) → key_of o w ≡ Some k → body_under o k ≡ Some c → is c ≡ true → mark_at o.marks w.space (mark w.slot) ≡ true) →
      (w : Who) (k : ℕ) (c : Body) → same_who w who ≡ false → key_of p w ≡ Some k → body_under p k ≡ Some c → is c ≡ true →
      mark_at p.marks w.space (mark w.slot) ≡ true
  set_marked is mark marked w k c apart at there so = ap (λ m. mark_at m w.space (mark w.slot)) alike.marks
      ∙ marked w k c (sym (alike.keys w) ∙ at) (sym (off k (set_off w k apart at)) ∙ there) so

  pub set_all : (r q : Filed) → Retells p r → q.keys ≡ r.keys → q.entries ≡ r.entries → StillMarked r q → IsMarked q who b → AreTold r →
      (links2 : List Link) (held2 : ℕ) → AreRings links2 (owner p) → length links2 ≡ length links → IsCount (held_in (bodies p)) held2 →
      LeadsAmong (bodies o) b → birth_in (bodies o) who ≡ stored_birth b → AreBodies q links2 homes held2
  set_all r q retells keys entries still marked told links2 held2 rings long count among birth =
      settled p r q retells keys entries still links2 homes held2 who key b (alike.keys who ∙ here) set_body marked rings
      (nodes_kept o p (length links2) (λ j some. some_was j some)
      (λ j c there. let low = are.long j c there in subst (λ n. j * 5 + 5 ≤ n) (sym long) low))
      (set_there among) told (set_homed birth) count
      (set_marked (λ c. is_of_pages c) page_mark are.pages) (set_marked (λ c. is_member c) member_mark are.members)
    where
      some_was : (j : ℕ) → IsSome (body_under p j) → IsSome (body_under o j)
      some_was j some = by (body_under p j) refl some
        where
          by : (x : Option Body) → body_under p j ≡ x → IsSome x → IsSome (body_under o j)
          by None e h = absurd (cc)
          by (Some c) e h = was j c e

  pub set_map : (r q : Filed) → Retells p r → q.keys ≡ r.keys → q.entries ≡ r.entries → StillMarked r q → (old : Body) → body_under o key ≡ Some old →
      bodies q ≡ finmap.insert (bodies o) who b
  set_map r q retells keys entries still old there =
      settled_map p r q retells keys entries still ∙ replaced_map o p filed key old b there alike now who here
