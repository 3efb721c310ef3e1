-- AlikeLaws: objects of which the bodies alone change.
use Rattle.std.proofs.Common.{◌≡◌, ◌≢◌, ℕ, ◌+◌, ◌*◌, ◌/◌, ◌%◌, ◌<◌, ◌≤◌, Bool, true, false, cond, ◌==◌, length, List, Option, Some, None, IsSome}
use Rattle.std.proofs.Common.{is_some, option_map, refl, sym, ap, subst, ◌∙◌, arith}
use Rattle.std.proofs.lemmas.Bool.Decides.{nat_tests}
use Rattle.std.specs.FinMap as finmap
use Rattle.std.specs.FinMap.{get}
use Rattle.fk_model.specs.Objects.{and_then, holds}
use Rattle.fk_model.specs.declared.names.Who.{Who}
use Rattle.fk_model.specs.declared.body.Body.{Body}
use Rattle.fk_store_cells.specs.Slots.Cells.{cell}
use Rattle.fk_store_cells.specs.Slots.Tabled.{of_cell}
use Rattle.fk_store_graph.specs.declared.links.links.Link.{Link}
use Rattle.fk_store_graph.specs.Links.Links.{AreRings}
use Rattle.fk_store_graph.specs.Links.Nodes.{node_of}
use Rattle.fk_store_graph.proofs.InLinks.NodeLaws.{rings_along}
use Rattle.fk_store_cells.specs.declared.objects.entry.Entry.{Entry}
use Rattle.fk_store_cells.specs.Objects.Filed.{Filed, IsFiled, entry_under, key_of, name_under}
use Rattle.fk_store_cells.specs.Objects.Edits.{Edits, with_body}
use Rattle.fk_store_graph.specs.Linked.Bodied.{body_under, bodies, head_by, head_led, owner, owner_with, HaveNodes, AreAlike, Maps, swept_at, space_of, space_under}
use Rattle.fk_store_graph.specs.Leads.Leading.{target}
use Rattle.fk_store_graph.specs.Leads.Held.{is_held, one_if, held_in, IsCount}
use Rattle.fk_store_graph.specs.Leads.Sweeps.{body_after}
use Rattle.fk_store_graph.specs.declared.leads.sweeps.Sweep.{Sweep}
use Rattle.fk_store_graph.proofs.InLinked.BodyLaws.{get-bodies, bodies-put, body-of, name-of, no-body, name_there}
use Rattle.fk_store_graph.proofs.InLeads.HeldLaws.{Counts, holds_one, held-insert-at}

same_some : {A : Type 0} (o : Option A) (a b : A) → o ≡ Some a → o ≡ Some b → a ≡ b
same_some o a b h k = cc

-- ---- the same keys and names

module _ (o p : Filed) (alike : AreAlike o p) where
  pub alike_filed : IsFiled o → IsFiled p
  alike_filed filed = record {
    filed = λ q j h. alike.names j ∙ filed.filed q j (sym (alike.keys q) ∙ h);
    found = λ j q h. alike.keys q ∙ filed.found j q (sym (alike.names j) ∙ h);
    small = λ j q h. filed.small j q (sym (alike.names j) ∙ h);
  }

  -- what is told of an object is what was
  pub hints_were : (k : ℕ) (e : Entry) → entry_under p k ≡ Some e → (d : Entry) × (entry_under o k ≡ Some d) × (e.hints ≡ d.hints)
  hints_were k e there = by (entry_under o k) refl (sym (alike.hints k) ∙ ap (option_map (λ (e : Entry). e.hints)) there)
    where
      by : (x : Option Entry) → entry_under o k ≡ x → option_map (λ (e : Entry). e.hints) x ≡ Some e.hints →
          (d : Entry) × (entry_under o k ≡ Some d) × (e.hints ≡ d.hints)
      by None is h = absurd (cc)
      by (Some d) is h = (d, is, (let same : d.hints ≡ e.hints = cc in sym same))

  pub head_same : (w : Who) → head_by p w ≡ head_by o w
  head_same w = ap (option_map (λ k. node_of k 2)) (alike.keys w)

  head_led_same : (b : Option Body) (i : ℕ) → head_led p b i ≡ head_led o b i
  head_led_same b i = by (and_then (target i) b)
    where
      by : (x : Option Who) → and_then (head_by p) x ≡ and_then (head_by o) x
      by None = refl
      by (Some w) = head_same w

  -- bodies whose pointers lead where they led
  pub owner_kept : ((j i : ℕ) → and_then (target i) (body_under p j) ≡ and_then (target i) (body_under o j)) → (n : ℕ) → owner p n ≡ owner o n
  unfolding owner
  owner_kept same n = head_led_same (body_under p (n / 5)) (n % 5) ∙ ap (and_then (head_by o)) (same (n / 5) (n % 5))

  -- one body is another
  pub owner_put : (key : ℕ) (b : Body) → ((j : ℕ) → body_under p j ≡ cond (j == key) (Some b) (body_under o j)) → (n : ℕ) →
      owner p n ≡ owner_with o (owner o) key (Some b) n
  unfolding owner owner_with
  owner_put key b now n = head_led_same (body_under p (n / 5)) (n % 5) ∙ ap (λ x. head_led o x (n % 5)) (now (n / 5)) ∙ by (n / 5 == key)
    where
      by : (t : Bool) → head_led o (cond t (Some b) (body_under o (n / 5))) (n % 5)
          ≡ cond t (head_led o (Some b) (n % 5)) (head_led o (body_under o (n / 5)) (n % 5))
      by true = refl
      by false = refl

pub alike_same : (o : Filed) → AreAlike o o
alike_same o = record { keys = λ q. refl; names = λ j. refl; hints = λ j. refl; marks = refl }

pub alike_both : (o m p : Filed) → AreAlike o m → AreAlike m p → AreAlike o p
alike_both o m p a b = record {
  keys = λ q. b.keys q ∙ a.keys q;
  names = λ j. b.names j ∙ a.names j;
  hints = λ j. b.hints j ∙ a.hints j;
  marks = b.marks ∙ a.marks;
}

-- the nodes of an object lead where its body says
pub own_nodes : (o : Filed) (key : ℕ) (b : Body) → body_under o key ≡ Some b → (i : ℕ) → i < 5 → owner o (node_of key i) ≡ head_led o (Some b) i
unfolding owner
own_nodes o key b there i few =
    let space : node_of key i / 5 ≡ key = omega (arith, few) in
    let rest : node_of key i % 5 ≡ i = omega (arith, few) in
    (λ j. head_led o (body_under o (space j)) (rest j)) ∙ ap (λ x. head_led o x i) there

-- those of a key under which nothing is lead nowhere
pub no_nodes : (o : Filed) (key : ℕ) → body_under o key ≡ None → (i : ℕ) → i < 5 → owner o (node_of key i) ≡ None
unfolding owner
no_nodes o key none i few =
    let space : node_of key i / 5 ≡ key = omega (arith, few) in
    ap (λ j. head_led o (body_under o j) (node_of key i % 5)) space ∙ ap (λ x. head_led o x (node_of key i % 5)) none

pub this_body : (o : Filed) (key : ℕ) (e : Entry) (b : Body) → entry_under o key ≡ Some e → body_under o key ≡ Some b → e.body ≡ b
this_body o key e b there is = same_some (body_under o key) e.body b (body-of o key e there) is

-- there are nodes for whatever was there
pub nodes_kept : (o p : Filed) (long : ℕ) → ((j : ℕ) → IsSome (body_under p j) → IsSome (body_under o j)) → HaveNodes o long → HaveNodes p long
nodes_kept o p long was nodes j b there = by (body_under o j) refl (was j (ap is_some there))
  where
    by : (x : Option Body) → body_under o j ≡ x → IsSome x → j * 5 + 5 ≤ long
    by None e h = absurd (cc)
    by (Some a) e h = nodes j a e

-- ---- an edit of one body

module _ (o p : Filed) (key : ℕ) (b : Body) (edits : Edits o p key (with_body b)) where
  edited_keys : (q : Who) → key_of p q ≡ key_of o q
  unfolding key_of
  edited_keys q = ap (λ keys. cell keys q.space q.slot) edits.keys

  edited_by : {A : Type 0} (read : Entry → A) → ((e : Entry) → read (with_body b e) ≡ read e) → (j : ℕ) →
      option_map read (entry_under p j) ≡ option_map read (entry_under o j)
  edited_by read stays j = ap (option_map read) (edits.entries j) ∙ by (j == key) refl
    where
      mapped : (x : Option Entry) → option_map read (option_map (with_body b) x) ≡ option_map read x
      mapped None = refl
      mapped (Some e) = ap Some (stays e)

      by : (t : Bool) → (j == key) ≡ t → option_map read (cond t (option_map (with_body b) (entry_under o key)) (entry_under o j))
          ≡ option_map read (entry_under o j)
      by false e = refl
      by true e =
          let is : j ≡ key = grind (arith, nat_tests) in
          mapped (entry_under o key) ∙ sym (ap (λ j. option_map read (entry_under o j)) is)

  pub edited_alike : AreAlike o p
  unfolding name_under
  edited_alike = record {
    keys = edited_keys;
    names = edited_by (λ (e : Entry). e.who) (λ e. refl);
    hints = edited_by (λ (e : Entry). e.hints) (λ e. refl);
    marks = edits.marks;
  }

  pub edited_bodies : IsSome (body_under o key) → (j : ℕ) → body_under p j ≡ cond (j == key) (Some b) (body_under o j)
  unfolding body_under
  edited_bodies there j = ap (option_map (λ (e : Entry). e.body)) (edits.entries j) ∙ by (j == key)
    where
      here : (x : Option Entry) → IsSome (option_map (λ (e : Entry). e.body) x) → option_map (λ (e : Entry). e.body) (option_map (with_body b) x) ≡ Some b
      here None h = absurd (cc)
      here (Some e) h = refl

      by : (t : Bool) → option_map (λ (e : Entry). e.body) (cond t (option_map (with_body b) (entry_under o key)) (entry_under o j))
          ≡ cond t (Some b) (option_map (λ (e : Entry). e.body) (entry_under o j))
      by true = here (entry_under o key) there
      by false = refl

-- what is so of the body that is there
pub held_body : (o : Filed) (key : ℕ) (is : Body → Bool) → holds is (body_under o key) ≡ true → (b : Body) × (body_under o key ≡ Some b) × (is b ≡ true)
held_body o key is h = by (body_under o key) refl h
  where
    by : (x : Option Body) → body_under o key ≡ x → holds is x ≡ true → (b : Body) × (body_under o key ≡ Some b) × (is b ≡ true)
    by None e h = absurd (cc)
    by (Some b) e h = (b, e, h)

pub small_body : (o : Filed) (key : ℕ) (b : Body) → IsFiled o → body_under o key ≡ Some b → key < 858993458
small_body o key b filed there = let name = name_there o key b filed there in filed.small key name.0 name.1

-- bodies of which neither is held
pub same_count : (count : ℕ) (old b : Body) → is_held old ≡ is_held b → (n m : ℕ) → IsCount n count →
    m + one_if (is_held old) ≡ n + one_if (is_held b) → IsCount m count
same_count count old b same n m enough sums =
    let alike : m ≡ n = (let ones = ap one_if same in omega (arith, sums, ones)) in subst (λ k. IsCount k count) (sym alike) enough

-- ---- a body is replaced

module _ (o p : Filed) (filed : IsFiled o) (key : ℕ) (old b : Body) (there : body_under o key ≡ Some old) (alike : AreAlike o p)
    (now : (j : ℕ) → body_under p j ≡ cond (j == key) (Some b) (body_under o j)) where
  pub replaced_rings : (links : List Link) → AreRings links (owner_with o (owner o) key (Some b)) → AreRings links (owner p)
  replaced_rings links = rings_along links (owner_with o (owner o) key (Some b)) (owner p) (λ n field. owner_put o p alike key b now n)

  pub replaced_map : (who : Who) → key_of o who ≡ Some key → bodies p ≡ finmap.insert (bodies o) who b
  replaced_map who named = bodies-put o p filed who key b named alike.keys now

  pub replaced_held : (count result : ℕ) → IsCount (held_in (bodies o)) count →
      ((n m : ℕ) → IsCount n count → m + one_if (is_held old) ≡ n + one_if (is_held b) → IsCount m result) → IsCount (held_in (bodies p)) result
  replaced_held count result enough counts =
      let name = name_there o key old filed there in
      let found : get (bodies o) name.0 ≡ Some old = get-bodies o name.0 ∙ ap (and_then (body_under o)) name.2 ∙ there in
      let same = replaced_map name.0 name.2 in
      counts (held_in (bodies o)) (held_in (bodies p)) enough
      (ap (λ m. held_in m + one_if (is_held old)) same ∙ held-insert-at (bodies o) name.0 b (Some old) found)

-- ---- a sweep in place

module _ (o : Filed) (sweep : Sweep) (key : ℕ) where
  pub swept_none : None ≡ entry_under o key → Maps o o (swept_at sweep o key)
  swept_none none = record { alike = alike_same o; bodies = λ j. by j (j == key) refl }
    where
      as_is : (x : Option Body) → x ≡ option_map (λ b. b) x
      as_is None = refl
      as_is (Some b) = refl

      gone : (j : ℕ) → j ≡ key → body_under o j ≡ None
      gone j is = ap (body_under o) is ∙ no-body o key (sym none)

      by : (j : ℕ) (t : Bool) → (j == key) ≡ t → body_under o j ≡ option_map (λ b. cond t (body_after sweep (space_under o j) b) b) (body_under o j)
      by j false e = as_is (body_under o j)
      by j true e =
          let none : body_under o j ≡ None = gone j (grind (arith, nat_tests)) in
          none ∙ sym (ap (option_map (body_after sweep (space_under o j))) none)

  module _ (p : Filed) (e : Entry) (there : Some e ≡ entry_under o key) (edits : Edits o p key (with_body (body_after sweep e.who.space e.body))) where
    pub swept_one : Maps o p (swept_at sweep o key)
    swept_one = record { alike = edited_alike o p key _ edits; bodies = λ j. edited_bodies o p key _ edits (ap is_some here) j ∙ by j (j == key) refl }
      where
        here : body_under o key ≡ Some e.body
        here = body-of o key e (sym there)

        as_is : (x : Option Body) → x ≡ option_map (λ b. b) x
        as_is None = refl
        as_is (Some b) = refl

        space : (j : ℕ) → j ≡ key → space_under o j ≡ e.who.space
        space j is = ap (space_under o) is ∙ ap space_of (name-of o key e (sym there))

        by : (j : ℕ) (t : Bool) → (j == key) ≡ t → cond t (Some (body_after sweep e.who.space e.body)) (body_under o j)
            ≡ option_map (λ b. cond t (body_after sweep (space_under o j) b) b) (body_under o j)
        by j false f = as_is (body_under o j)
        by j true f =
            let is : j ≡ key = grind (arith, nat_tests) in
            (λ k. Some (body_after sweep (sym (space j is) k) e.body))
            ∙ sym (ap (option_map (body_after sweep (space_under o j))) (ap (body_under o) is ∙ here))

-- ---- what is under a key

pub some_body : (o : Filed) (key : ℕ) → IsSome (body_under o key) → (b : Body) × (body_under o key ≡ Some b)
some_body o key there = by (body_under o key) refl there
  where
    by : (x : Option Body) → body_under o key ≡ x → IsSome x → (b : Body) × (body_under o key ≡ Some b)
    by None e h = absurd (cc)
    by (Some b) e h = (b, e)

pub nothing_there : (o : Filed) (key : ℕ) → None ≡ entry_under o key → IsSome (body_under o key) → ⊥
nothing_there o key none there = let gone = no-body o key (sym none) in absurd (cc)

pub small_key : (o : Filed) (key : ℕ) (e : Entry) → IsFiled o → entry_under o key ≡ Some e → key < 858993458
small_key o key e filed there = filed.small key e.who (name-of o key e there)

pub small_name : (o : Filed) (who : Who) (key : ℕ) → IsFiled o → key_of o who ≡ Some key → key < 858993458
small_name o who key filed here = filed.small key who (filed.filed who key here)

-- whoever is there after a sweep was there before
pub swept_nodes : (o p : Filed) (f : Body → Body) (long : ℕ) {now : ℕ} → ((j : ℕ) → option_map f (body_under p j) ≡ option_map f (body_under o j)) →
    now ≡ long → HaveNodes o long → HaveNodes p now
swept_nodes o p f long {now = now} swept same nodes j b there = by (body_under o j) refl (sym (swept j) ∙ ap (option_map f) there)
  where
    by : (x : Option Body) → body_under o j ≡ x → option_map f x ≡ Some (f b) → j * 5 + 5 ≤ now
    by None e h = absurd (cc)
    by (Some a) e h = let low = nodes j a e in omega (arith, low, same)

pub some_entry : (o : Filed) (key : ℕ) → IsSome (entry_under o key) → (e : Entry) × (entry_under o key ≡ Some e)
some_entry o key there = by (entry_under o key) refl there
  where
    by : (x : Option Entry) → entry_under o key ≡ x → IsSome x → (e : Entry) × (entry_under o key ≡ Some e)
    by None f h = absurd (cc)
    by (Some e) f h = (e, f)
