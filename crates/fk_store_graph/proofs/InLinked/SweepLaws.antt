-- SweepLaws: those whose pointers lead to an object are swept, one after another.
use Rattle.std.proofs.Common.{◌≡◌, ◌≢◌, ◌⊎◌, inl, inr, ℕ, ◌+◌, ◌*◌, ◌/◌, ◌%◌, ◌<◌, ◌≤◌, Bool, true, false, cond, ◌==◌, length, List, [], ◌∷◌, Option}
use Rattle.std.proofs.Common.{Some, None, IsSome, option_map, refl, sym, ap, subst, ◌∙◌, arith}
use Rattle.std.proofs.lemmas.Bool.Decides.{nat_tests}
use Rattle.std.specs.FinMap as finmap
use Rattle.std.specs.FinMap.{FinMap, get, entries, entries_sorted, entries-insert, get-entries}
use Rattle.std.specs.List.{sum_by}
use Rattle.fk_model.specs.Objects.{and_then}
use Rattle.fk_model.specs.declared.names.Who.{Who}
use Rattle.fk_model.specs.declared.names.Ptr.TheVariants.{Dead}
use Rattle.fk_model.specs.declared.body.Body.{Body}
use Rattle.fk_model.specs.declared.body.Body.TheVariants.{Mutex, Cond, Mapping, Region, Port, Portset, Space, Thread, Reference}
use Rattle.fk_model.proofs.walks.Members.{IsIn}
use Rattle.fk_store_graph.specs.declared.hints.lead.Sort.TheVariants.{Pointer}
use Rattle.fk_store_graph.specs.declared.hints.lead.Lead.{Lead}
use Rattle.fk_store_graph.specs.Hints.Leads.{led, lead_by}
use Rattle.fk_store_cells.specs.Slots.Tabled.{of_cell}
use Rattle.fk_store_graph.specs.Links.Nodes.{is_head, node_of}
use Rattle.fk_store_cells.specs.declared.objects.entry.Entry.{Entry}
use Rattle.fk_store_cells.specs.Objects.Filed.{Filed, IsFiled, entry_under, key_of}
use Rattle.fk_store_graph.specs.Linked.Bodied.{body_under, bodies, head_by, head_led, owner, HaveNodes, AreAlike, Maps, swept_at, space_of, space_under}
use Rattle.fk_store_graph.specs.Linked.Bodied.{member_after, swept_under}
use Rattle.fk_store_graph.specs.Leads.Leading.{leading, all_leading, is_reference, target}
use Rattle.fk_store_graph.specs.Leads.Names.{who_cmp}
use Rattle.fk_store_graph.specs.Leads.Sweeps.{body_after, led_after}
use Rattle.fk_store_graph.specs.declared.leads.sweeps.Sweep.{Sweep}
use Rattle.fk_store_graph.proofs.InLinked.AlikeLaws.{alike_both, own_nodes}
use Rattle.fk_store_graph.proofs.InLinked.BodyLaws.{keys_apart, bodies-put, body-of, no-body, name_there, get_at}
use Rattle.fk_store_graph.proofs.InLeads.HeldLaws.{total_put}
use Rattle.fk_store_graph.proofs.InLeads.LedLaws.{led-swept, led-off, led-gone, led-again}
use Rattle.fk_store_graph.proofs.InLinked.MemberBodies.{members-led}
use Rattle.fk_store_graph.proofs.InLinked.LinkedLaws.{pointer_node}
use Rattle.fk_store_graph.proofs.InLeads.NameLaws.{who_total}
use Rattle.fk_store_graph.proofs.InLeads.PointerLaws.{reference_dead, IsPointer, pointer_field, led-target, target-led, leading-none, leading-some}

same_some : {A : Type 0} (o : Option A) (a b : A) → o ≡ Some a → o ≡ Some b → a ≡ b
same_some o a b h k = cc

-- ---- who leads there

module _ (o : Filed) (filed : IsFiled o) (from : Who) (key : ℕ) (here : key_of o from ≡ Some key) where
  -- a node that leads there is a pointer of a body
  pub leads_there : (n : ℕ) → owner o n ≡ Some (node_of key 2) →
      (b : Body) × (body_under o (n / 5) ≡ Some b) × (target (n % 5) b ≡ Some from)
  unfolding owner
  leads_there n to = by (body_under o (n / 5)) refl to
    where
      keyed : (b : Body) → body_under o (n / 5) ≡ Some b → (w : Who) → target (n % 5) b ≡ Some w → (x : Option ℕ) → key_of o w ≡ x →
          option_map (λ k. node_of k 2) x ≡ Some (node_of key 2) → (b : Body) × (body_under o (n / 5) ≡ Some b) × (target (n % 5) b ≡ Some from)
      keyed b e w f None g h = absurd (cc)
      keyed b e w f (Some k) g h =
          let nodes : node_of k 2 ≡ node_of key 2 = cc in
          let same : k ≡ key = omega (arith, nodes) in
          let who : w ≡ from = keys_apart o filed w from key (g ∙ ap Some same) here in
          (b, e, f ∙ ap Some who)

      aimed : (b : Body) → body_under o (n / 5) ≡ Some b → (x : Option Who) → target (n % 5) b ≡ x → and_then (head_by o) x ≡ Some (node_of key 2) →
          (b : Body) × (body_under o (n / 5) ≡ Some b) × (target (n % 5) b ≡ Some from)
      aimed b e None f h = absurd (cc)
      aimed b e (Some w) f h = keyed b e w f (key_of o w) refl h

      by : (x : Option Body) → body_under o (n / 5) ≡ x → and_then (head_by o) (and_then (target (n % 5)) x) ≡ Some (node_of key 2) →
          (b : Body) × (body_under o (n / 5) ≡ Some b) × (target (n % 5) b ≡ Some from)
      by None e h = absurd (cc)
      by (Some b) e h = aimed b e (target (n % 5) b) refl h

  -- and the other way round
  pub leads_by : (j : ℕ) (b : Body) (i : ℕ) → body_under o j ≡ Some b → led b i ≡ Some (lead_by Pointer from) →
      (is_head (node_of j i) ≡ false) × (owner o (node_of j i) ≡ Some (node_of key 2)) × (node_of j i / 5 ≡ j)
  leads_by j b i there leads =
      let field = pointer_field b i from leads in
      let few = field.0 in (
        pointer_node j i field.0 field.1,
        own_nodes o j b there i field.0 ∙ ap (and_then (head_by o)) (led-target b i from leads) ∙ ap (option_map (λ k. node_of k 2)) here,
        omega (arith, few),
      )

  pub nobody_leads : ((n : ℕ) → is_head n ≡ false → owner o n ≢ Some (node_of key 2)) → (j : ℕ) (b : Body) → body_under o j ≡ Some b →
      (i : ℕ) → led b i ≢ Some (lead_by Pointer from)
  nobody_leads alone j b there i leads = let found = leads_by j b i there leads in alone (node_of j i) found.0 found.1

-- ---- one of them is swept

module _ (o p : Filed) (filed : IsFiled o) (key : ℕ) (sweep : Sweep) (other : sweep.to ≢ Some sweep.from) (here : key_of o sweep.from ≡ Some key)
    (n : ℕ) (field : is_head n ≡ false) (to : owner o n ≡ Some (node_of key 2)) (space : ℕ) (b : Body) (there : body_under o (n / 5) ≡ Some b)
    (now : (j : ℕ) → body_under p j ≡ cond (j == n / 5) (Some (body_after sweep space b)) (body_under o j)) (keys : (q : Who) → key_of p q ≡ key_of o q) where
  aims : target (n % 5) b ≡ Some sweep.from
  aims =
      let found = leads_there o filed sweep.from key here n to in
      let same : found.0 ≡ b = same_some (body_under o (n / 5)) found.0 b found.1 there in
      ap (target (n % 5)) (sym same) ∙ found.2

  is_led : body_after sweep space b ≡ led_after sweep b
  is_led = led-swept sweep space b (n % 5) (lead_by Pointer sweep.from) (target-led b (n % 5) sweep.from aims)

  pub freed_swept : (j : ℕ) → option_map (led_after sweep) (body_under p j) ≡ option_map (led_after sweep) (body_under o j)
  freed_swept j = ap (option_map (led_after sweep)) (now j) ∙ by (j == n / 5) refl
    where
      by : (t : Bool) → (j == n / 5) ≡ t → option_map (led_after sweep) (cond t (Some (body_after sweep space b)) (body_under o j))
          ≡ option_map (led_after sweep) (body_under o j)
      by false e = refl
      by true e =
          let is : j ≡ n / 5 = grind (arith, nat_tests) in
          ap (λ x. Some (led_after sweep x)) is_led ∙ ap Some (led-again sweep other b) ∙ sym (ap (option_map (led_after sweep)) (ap (body_under o) is ∙ there))

  pub freed_less : all_leading sweep.from (bodies p) < all_leading sweep.from (bodies o)
  unfolding all_leading
  freed_less =
      let name = name_there o (n / 5) b filed there in
      let m : FinMap who_cmp Body = bodies o in
      let is : bodies p ≡ finmap.insert m name.0 (body_after sweep space b) = bodies-put o p filed name.0 (n / 5) (body_after sweep space b) name.2 keys now in
      let sums = total_put who_total (leading sweep.from) name.0 (body_after sweep space b) (entries m) (entries_sorted m) in
      let found : of_cell (leading sweep.from) (finmap.find who_cmp name.0 (entries m)) ≡ leading sweep.from b =
      ap (of_cell (leading sweep.from)) (sym (get-entries m name.0) ∙ get_at o name.0 (n / 5) name.2 ∙ there) in
      let sum : sum_by (λ e. leading sweep.from e.1) (entries (bodies p))
      ≡ sum_by (λ e. leading sweep.from e.1) (finmap.put who_cmp name.0 (body_after sweep space b) (entries m)) =
      ap (λ es. sum_by (λ (e : Who × Body). leading sweep.from e.1) es) (ap entries is ∙ entries-insert who_total m name.0 (body_after sweep space b)) in
      let none : leading sweep.from (body_after sweep space b) ≡ 0 = ap (leading sweep.from) is_led
      ∙ leading-none sweep.from (led_after sweep b) (led-gone sweep other b) in
      let some = leading-some sweep.from b (n % 5) pointer aims in
      omega (arith, sums, found, sum, none, some)
    where
      pointer : IsPointer (n % 5)
      pointer = (omega arith, λ two. absurd (grind (arith, nat_tests)))

-- a reference to what is gone is dead
pub dies : (o p : Filed) → IsFiled o → (key : ℕ) (sweep : Sweep) → sweep.to ≡ None → key_of o sweep.from ≡ Some key → (n : ℕ) →
    owner o n ≡ Some (node_of key 2) → (space : ℕ) (b : Body) → body_under o (n / 5) ≡ Some b → is_reference b ≡ true →
    ((j : ℕ) → body_under p j ≡ cond (j == n / 5) (Some (Reference Dead)) (body_under o j)) →
    (j : ℕ) → body_under p j ≡ cond (j == n / 5) (Some (body_after sweep space b)) (body_under o j)
dies o p filed key sweep gone here n to space b there is now j =
    let found = leads_there o filed sweep.from key here n to in
    let same : found.0 ≡ b = same_some (body_under o (n / 5)) found.0 b found.1 there in
    now j ∙ ap (λ x. cond (j == n / 5) (Some x) (body_under o j)) (reference_dead sweep gone b is (n % 5) (ap (target (n % 5)) (sym same) ∙ found.2) space)

-- ---- none is left

pub left_swept : (o p : Filed) (filed : IsFiled p) (sweep : Sweep) (key : ℕ) → key_of p sweep.from ≡ Some key → AreAlike o p →
    ((j : ℕ) → option_map (led_after sweep) (body_under p j) ≡ option_map (led_after sweep) (body_under o j)) →
    ((n : ℕ) → is_head n ≡ false → owner p n ≢ Some (node_of key 2)) → Maps o p (λ j. led_after sweep)
left_swept o p filed sweep key here alike swept alone = record { alike = alike; bodies = λ j. sym (as_is j (body_under p j) refl) ∙ swept j }
  where
    as_is : (j : ℕ) (x : Option Body) → body_under p j ≡ x → option_map (led_after sweep) x ≡ x
    as_is j None e = refl
    as_is j (Some b) e = ap Some (led-off sweep b (nobody_leads p filed sweep.from key here alone j b e))

-- ---- pointers and sets

pub all_swept : (o m p : Filed) (sweep : Sweep) → Maps o m (λ j. led_after sweep) → Maps m p (member_after sweep m) → Maps o p (swept_under sweep o)
all_swept o m p sweep led_maps members = record {
  alike = alike_both o m p led_maps.alike members.alike;
  bodies = λ j. members.bodies j ∙ ap (option_map (member_after sweep m j)) (led_maps.bodies j) ∙ by j (body_under o j);
}
  where
    by : (j : ℕ) (x : Option Body) → option_map (member_after sweep m j) (option_map (led_after sweep) x) ≡ option_map (body_after sweep (space_under o j)) x
    by j None = refl
    by j (Some b) = ap Some (members-led sweep m j b ∙ ap (λ s. body_after sweep s b) (ap space_of (led_maps.alike.names j)))

-- ---- a walk along the ring, which doesn't change

module _ (o : Filed) (sweep : Sweep) (key : ℕ) where
  -- it is swept, or it is as it was, and its nodes that lead there are yet to come
  abbrev pub IsSwept : Filed → List ℕ → ℕ → Type 0
  IsSwept p walk j = (body_under p j ≡ option_map (led_after sweep) (body_under o j)) ⊎
      ((body_under p j ≡ body_under o j) × ((n : ℕ) → is_head n ≡ false → owner o n ≡ Some (node_of key 2) → n / 5 ≡ j → IsIn n walk))

  abbrev pub Comes : List ℕ → Type 0
  Comes walk = (n : ℕ) → IsIn n walk → (is_head n ≡ false) × (owner o n ≡ Some (node_of key 2))

  module _ (filed : IsFiled o) (here : key_of o sweep.from ≡ Some key) (other : sweep.to ≢ Some sweep.from) where
    -- who is no port is swept in any space alike
    twice : (space : ℕ) (b : Body) (i : ℕ) (l : Lead) → led b i ≡ Some l → body_after sweep space (led_after sweep b) ≡ led_after sweep (led_after sweep b)
    unfolding led
    twice space (Mutex locked) i l h = refl
    twice space Cond i l h = refl
    twice space (Mapping page count offset write region) i l h = refl
    twice space (Region page count write keeper) i l h = refl
    twice space (Port set served) i l h = absurd (cc)
    twice space Portset i l h = refl
    twice space (Space birth holder) i l h = refl
    twice space (Thread thread) i l h = refl
    twice space (Reference to) i l h = refl

    pub swept_step : (p r : Filed) (node : ℕ) (walk rest : List ℕ) → walk ≡ node ∷ rest → Comes walk → Maps p r (swept_at sweep p (node / 5)) →
        ((j : ℕ) → IsSwept p walk j) → (j : ℕ) → IsSwept r rest j
    swept_step p r node walk rest is comes maps before j = by (j == node / 5) refl
      where
        at_node : (is_head node ≡ false) × (owner o node ≡ Some (node_of key 2))
        at_node = comes node (subst (IsIn node) (sym is) (inl refl))

        found : (b : Body) × (body_under o (node / 5) ≡ Some b) × (target (node % 5) b ≡ Some sweep.from)
        found = leads_there o filed sweep.from key here node at_node.1

        leads : led found.0 (node % 5) ≡ Some (lead_by Pointer sweep.from)
        leads = target-led found.0 (node % 5) sweep.from found.2

        once : (space : ℕ) → j ≡ node / 5 → (body_under p j ≡ option_map (led_after sweep) (body_under o j)) ⊎
            ((body_under p j ≡ body_under o j) × ((n : ℕ) → is_head n ≡ false → owner o n ≡ Some (node_of key 2) → n / 5 ≡ j → IsIn n walk)) →
            option_map (body_after sweep space) (body_under p j) ≡ option_map (led_after sweep) (body_under o j)
        once space same (inl was) =
            let b_is : body_under o j ≡ Some found.0 = ap (body_under o) same ∙ found.1 in
            ap (option_map (body_after sweep space)) (was ∙ ap (option_map (led_after sweep)) b_is)
            ∙ ap Some (twice space found.0 (node % 5) _ leads ∙ led-again sweep other found.0) ∙ sym (ap (option_map (led_after sweep)) b_is)
        once space same (inr was) =
            let b_is : body_under o j ≡ Some found.0 = ap (body_under o) same ∙ found.1 in
            ap (option_map (body_after sweep space)) (was.0 ∙ b_is)
            ∙ ap Some (led-swept sweep space found.0 (node % 5) _ leads) ∙ sym (ap (option_map (led_after sweep)) b_is)

        kept : body_under r j ≡ body_under p j → (j ≡ node / 5 → ⊥) → (body_under p j ≡ option_map (led_after sweep) (body_under o j)) ⊎
            ((body_under p j ≡ body_under o j) × ((n : ℕ) → is_head n ≡ false → owner o n ≡ Some (node_of key 2) → n / 5 ≡ j → IsIn n walk)) → IsSwept r rest j
        kept same off (inl was) = inl (same ∙ was)
        kept same off (inr was) = inr (
          same ∙ was.0,
          λ n field to at_j. elim (subst (IsIn n) is (was.1 n field to at_j)) [
            | inl first ↦ absurd (off (sym at_j ∙ ap (λ n. n / 5) (sym first)))
            | inr comes ↦ comes
          ],
        )

        as_is : (x : Option Body) → option_map (λ b. b) x ≡ x
        as_is None = refl
        as_is (Some b) = refl

        by : (t : Bool) → (j == node / 5) ≡ t → IsSwept r rest j
        by true e =
            let same : j ≡ node / 5 = grind (arith, nat_tests) in
            inl (maps.bodies j ∙ ap (λ t. option_map (λ b. cond t (body_after sweep (space_under p j) b) b) (body_under p j)) e
            ∙ once (space_under p j) same (before j))
        by false e = kept (maps.bodies j ∙ ap (λ t. option_map (λ b. cond t (body_after sweep (space_under p j) b) b) (body_under p j)) e
            ∙ as_is (body_under p j))
            (grind (arith, nat_tests)) (before j)

    pub swept_ends : (p : Filed) (walk : List ℕ) → walk ≡ [] → ((j : ℕ) → IsSwept p walk j) → (j : ℕ) →
        body_under p j ≡ option_map (led_after sweep) (body_under o j)
    swept_ends p walk none swept j = by (swept j)
      where
        go : (body_under p j ≡ body_under o j) → ((n : ℕ) → is_head n ≡ false → owner o n ≡ Some (node_of key 2) → n / 5 ≡ j → IsIn n walk) →
            (x : Option Body) → body_under o j ≡ x → x ≡ option_map (led_after sweep) x
        go same comes None e = refl
        go same comes (Some b) e = ap Some (sym (led-off sweep b (λ i leads.
            let found = leads_by o filed sweep.from key here j b i e leads in subst (IsIn (node_of j i)) none (comes (node_of j i) found.0 found.1 found.2))))

        by : IsSwept p walk j → body_under p j ≡ option_map (led_after sweep) (body_under o j)
        by (inl was) = was
        by (inr was) = was.0 ∙ go was.0 was.1 (body_under o j) refl

pub comes_rest : (o : Filed) (sweep : Sweep) (key node : ℕ) (walk rest : List ℕ) → walk ≡ node ∷ rest → Comes o sweep key walk → Comes o sweep key rest
comes_rest o sweep key node walk rest is comes n h = comes n (subst (IsIn n) (sym is) (inr h))

pub fewer : (node : ℕ) (walk rest : List ℕ) → walk ≡ node ∷ rest → length rest < length walk
fewer node walk rest is = let long : length walk ≡ length (node ∷ rest) = ap length is in omega (arith, long)

pub is_gone : (sweep : Sweep) → sweep.to ≡ None → sweep.to ≢ Some sweep.from
is_gone sweep none to = let both = sym none ∙ to in absurd (cc)

-- ---- the object of a node that leads there

pub at_other : (o : Filed) (other n : ℕ) → n / 5 ≡ other → (e : Entry) → entry_under o other ≡ Some e → body_under o (n / 5) ≡ Some e.body
at_other o other n is e there = ap (body_under o) is ∙ body-of o other e there

pub gone_other : (o : Filed) → IsFiled o → (from : Who) (key : ℕ) → key_of o from ≡ Some key → (other : ℕ) →
    (n : ℕ) × (is_head n ≡ false) × (n / 5 ≡ other) × (owner o n ≡ Some (node_of key 2)) → None ≡ entry_under o other → ⊥
gone_other o filed from key here other leads none =
    let found = leads_there o filed from key here leads.0 leads.3 in
    let body : body_under o other ≡ Some found.0 = ap (body_under o) (sym leads.2) ∙ found.1 in
    let gone = no-body o other (sym none) in
    absurd (cc)
