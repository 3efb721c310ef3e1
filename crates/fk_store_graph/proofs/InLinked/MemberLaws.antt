-- MemberLaws: ports in sets, slot by slot.
use Rattle.std.proofs.Common.{◌≡◌, ◌≢◌, ℕ, ◌+◌, ◌*◌, ◌/◌, ◌%◌, ◌<◌, ◌≤◌, ltb, not, ◌&&◌, Bool, true, false, cond, ◌==◌, List, Option, Some, None}
use Rattle.std.proofs.Common.{IsSome, is_some, option_map, refl, sym, ap, subst, ◌∙◌, arith}
use Rattle.std.proofs.lemmas.Bool.Decides.{nat_tests}
use Rattle.fk_model.specs.Objects.{and_then, holds}
use Rattle.fk_model.specs.declared.names.Who.{Who}
use Rattle.fk_model.specs.declared.body.Body.{Body}
use Rattle.fk_store_graph.specs.Hints.Leads.{led}
use Rattle.fk_store_cells.specs.Keys.Tables.{mark_at}
use Rattle.fk_store_graph.specs.declared.links.links.Link.{Link}
use Rattle.fk_store_graph.specs.Links.Links.{AreRings}
use Rattle.fk_store_graph.proofs.InLinks.NodeLaws.{rings_along}
use Rattle.fk_store_cells.specs.Objects.Filed.{Filed, IsFiled, key_of, name_under}
use Rattle.fk_store_graph.specs.Linked.Bodied.{body_under, owner, AreAlike, AreMarked, Maps, swept_at, space_of, slot_of, space_under, slot_under}
use Rattle.fk_store_graph.specs.Linked.Bodied.{member_after, members_in}
use Rattle.fk_store_graph.specs.Leads.Leading.{target, pointed}
use Rattle.fk_store_graph.specs.Leads.Marks.{is_member, member_mark}
use Rattle.fk_store_graph.specs.Leads.Names.{at}
use Rattle.fk_store_graph.specs.Leads.Sweeps.{body_after, led_after}
use Rattle.fk_store_graph.specs.declared.leads.sweeps.Sweep.{Sweep}
use Rattle.fk_store_graph.proofs.InLinked.AlikeLaws.{alike_same, alike_both, owner_kept}
use Rattle.fk_store_graph.proofs.InLinked.BodyLaws.{name_there}
use Rattle.fk_store_graph.proofs.InLeads.LedLaws.{led-members}
use Rattle.fk_store_graph.proofs.InLinked.MemberBodies.{members-leads}

-- what is made of the bodies that are there
pub remap : (o p : Filed) (f g : ℕ → Body → Body) → Maps o p f → ((j : ℕ) (b : Body) → body_under o j ≡ Some b → f j b ≡ g j b) → Maps o p g
remap o p f g maps same = record { alike = maps.alike; bodies = λ j. maps.bodies j ∙ by j (body_under o j) refl }
  where
    by : (j : ℕ) (x : Option Body) → body_under o j ≡ x → option_map (f j) x ≡ option_map (g j) x
    by j None e = refl
    by j (Some b) e = ap Some (same j b e)

-- nothing is made of them
pub unmapped : (o : Filed) (g : ℕ → Body → Body) → ((j : ℕ) (b : Body) → body_under o j ≡ Some b → b ≡ g j b) → Maps o o g
unmapped o g same = record { alike = alike_same o; bodies = λ j. by j (body_under o j) refl }
  where
    by : (j : ℕ) (x : Option Body) → body_under o j ≡ x → x ≡ option_map (g j) x
    by j None e = refl
    by j (Some b) e = ap Some (same j b e)

-- ---- from slot to slot

module _ (sweep : Sweep) (o : Filed) where
  abbrev part : Bool → Bool → ℕ → Body → Body
  part low high j b = cond (not low && high) (member_after sweep o j b) b

  -- none so far
  pub none_in : (n : ℕ) → Maps o o (members_in sweep o n n)
  none_in n = unmapped o (members_in sweep o n n) (λ j b there. by j b (ltb (slot_under o j) n))
    where
      by : (j : ℕ) (b : Body) (t : Bool) → b ≡ part t t j b
      by j b true = refl
      by j b false = refl

  -- some more
  pub more_in : (m p : Filed) (low mid high : ℕ) → low ≤ mid → mid ≤ high → Maps o m (members_in sweep o low mid) → Maps m p (members_in sweep m mid high) →
      Maps o p (members_in sweep o low high)
  more_in m p low mid high up on first then_ = record {
    alike = alike_both o m p first.alike then_.alike;
    bodies = λ j. then_.bodies j ∙ ap (option_map (members_in sweep m mid high j)) (first.bodies j) ∙ both j (body_under o j);
  }
    where
      -- names are the same
      same : (j : ℕ) (b : Body) → members_in sweep m mid high j b ≡ members_in sweep o mid high j b
      same j b = λ i. cond (not (ltb (slot_of (first.alike.names j i)) mid) && ltb (slot_of (first.alike.names j i)) high)
          (cond (is_member b && space_of (first.alike.names j i) == sweep.from.space) (body_after sweep sweep.from.space b) b) b

      once : (j : ℕ) (b : Body) → members_in sweep o mid high j (members_in sweep o low mid j b) ≡ members_in sweep o low high j b
      once j b = go (ltb s low) refl (ltb s mid) refl (ltb s high) refl
        where
          s : ℕ
          s = slot_under o j

          go : (x : Bool) → ltb s low ≡ x → (y : Bool) → ltb s mid ≡ y → (z : Bool) → ltb s high ≡ z →
              part y z j (part x y j b) ≡ part x z j b
          go true e true f true g = refl
          go true e true f false g = refl
          go true e false f z g = absurd (grind (arith, nat_tests))
          go false e true f true g = refl
          go false e true f false g = absurd (grind (arith, nat_tests))
          go false e false f true g = refl
          go false e false f false g = refl

      both : (j : ℕ) (x : Option Body) → option_map (members_in sweep m mid high j) (option_map (members_in sweep o low mid j) x)
          ≡ option_map (members_in sweep o low high j) x
      both j None = refl
      both j (Some b) = ap Some (same j (members_in sweep o low mid j b) ∙ once j b)

  -- no port in a set stands in the slots that follow
  pub none_more : (p : Filed) (low mid high : ℕ) → low ≤ mid → mid ≤ high →
      ((j : ℕ) (b : Body) → body_under o j ≡ Some b → mid ≤ slot_under o j → slot_under o j < high → member_after sweep o j b ≡ b) →
      Maps o p (members_in sweep o low mid) → Maps o p (members_in sweep o low high)
  none_more p low mid high up on none maps = remap o p _ _ maps (λ j b there. go j b there (ltb (slot_under o j) low) refl (ltb (slot_under o j) mid) refl
      (ltb (slot_under o j) high) refl)
    where
      go : (j : ℕ) (b : Body) → body_under o j ≡ Some b → (x : Bool) → ltb (slot_under o j) low ≡ x → (y : Bool) → ltb (slot_under o j) mid ≡ y →
          (z : Bool) → ltb (slot_under o j) high ≡ z → part x y j b ≡ part x z j b
      go j b there true e y f z g = refl
      go j b there false e true f true g = refl
      go j b there false e true f false g = absurd (grind (arith, nat_tests))
      go j b there false e false f true g = sym (none j b there (grind (arith, nat_tests)) (grind (arith, nat_tests)))
      go j b there false e false f false g = refl

  -- all
  pub all_in : (p : Filed) (high : ℕ) → ((j : ℕ) (b : Body) → body_under o j ≡ Some b → slot_under o j < high) → Maps o p (members_in sweep o 0 high) →
      Maps o p (member_after sweep o)
  all_in p high short maps = remap o p _ _ maps (λ j b there. go j b (ltb (slot_under o j) 0) refl (ltb (slot_under o j) high) refl (short j b there))
    where
      go : (j : ℕ) (b : Body) (x : Bool) → ltb (slot_under o j) 0 ≡ x → (z : Bool) → ltb (slot_under o j) high ≡ z → slot_under o j < high →
          part x z j b ≡ member_after sweep o j b
      go j b true e z g low = absurd (grind (arith, nat_tests))
      go j b false e true g low = refl
      go j b false e false g low = absurd (grind (arith, nat_tests))

-- ---- one slot

module _ (sweep : Sweep) (o : Filed) (filed : IsFiled o) (slot : ℕ) where
  abbrev who : Who
  who = at sweep.from.space slot

  abbrev here : ℕ → Body → Body
  here = members_in sweep o slot (slot + 1)

  -- whoever stands elsewhere is as it was
  elsewhere : (j : ℕ) (b : Body) → body_under o j ≡ Some b → (key_of o who ≡ Some j → ⊥) → here j b ≡ b
  elsewhere j b there off = go (ltb (slot_under o j) slot) refl (ltb (slot_under o j) (slot + 1)) refl (is_member b) (space_under o j == sweep.from.space) refl
    where
      name : (w : Who) × (name_under o j ≡ Some w) × (key_of o w ≡ Some j)
      name = name_there o j b filed there

      at_who : slot_under o j ≡ slot → space_under o j ≡ sweep.from.space → ⊥
      at_who slot_is space_is =
          let slot_name : name.0.slot ≡ slot = ap slot_of (sym name.1) ∙ slot_is in
          let space_name : name.0.space ≡ sweep.from.space = ap space_of (sym name.1) ∙ space_is in
          off (ap (key_of o) (λ i. record { space = sym space_name i; slot = sym slot_name i }) ∙ name.2)

      go : (x : Bool) → ltb (slot_under o j) slot ≡ x → (y : Bool) → ltb (slot_under o j) (slot + 1) ≡ y → (m s : Bool) →
          (space_under o j == sweep.from.space) ≡ s →
          cond (not x && y) (cond (m && s) (body_after sweep sweep.from.space b) b) b ≡ b
      go true e y f m s g = refl
      go false e false f m s g = refl
      go false e true f false s g = refl
      go false e true f true false g = refl
      go false e true f true true g = absurd (at_who (grind (arith, nat_tests)) (grind (arith, nat_tests)))

  -- the one that stands there
  this_one : (j : ℕ) (b : Body) → key_of o who ≡ Some j → here j b ≡ cond (is_member b) (body_after sweep (space_under o j) b) b
  this_one j b at_j = go (ltb (slot_under o j) slot) refl (ltb (slot_under o j) (slot + 1)) refl (is_member b) (space_under o j == sweep.from.space) refl
    where
      slot_is : slot_under o j ≡ slot
      slot_is = ap slot_of (filed.filed who j at_j)

      space_is : space_under o j ≡ sweep.from.space
      space_is = ap space_of (filed.filed who j at_j)

      go : (x : Bool) → ltb (slot_under o j) slot ≡ x → (y : Bool) → ltb (slot_under o j) (slot + 1) ≡ y → (m s : Bool) →
          (space_under o j == sweep.from.space) ≡ s →
          cond (not x && y) (cond (m && s) (body_after sweep sweep.from.space b) b) b ≡ cond m (body_after sweep (space_under o j) b) b
      go true e y f m s g = absurd (let is = slot_is in grind (arith, nat_tests))
      go false e false f m s g = absurd (let is = slot_is in grind (arith, nat_tests))
      go false e true f false s g = refl
      go false e true f true true g = ap (λ s. body_after sweep s b) (sym space_is)
      go false e true f true false g = absurd (let is = space_is in grind (arith, nat_tests))

  pub no_port : None ≡ key_of o who → Maps o o here
  no_port none = unmapped o here (λ j b there. sym (elsewhere j b there (λ at_j. let both = none ∙ at_j in absurd (cc))))

  module _ (key : ℕ) (keyed : Some key ≡ key_of o who) where
    other_key : (j : ℕ) → (j == key) ≡ false → key_of o who ≡ Some j → ⊥
    other_key j off at_j = let same : Some key ≡ Some j = keyed ∙ at_j in let is : key ≡ j = cc in absurd (grind (arith, nat_tests))

    pub no_member : holds is_member (body_under o key) ≡ false → Maps o o here
    no_member off = unmapped o here (λ j b there. by j b there (j == key) refl)
      where
        by : (j : ℕ) (b : Body) → body_under o j ≡ Some b → (t : Bool) → (j == key) ≡ t → b ≡ here j b
        by j b there false e = sym (elsewhere j b there (other_key j e))
        by j b there true e =
            let is : j ≡ key = grind (arith, nat_tests) in
            let none : is_member b ≡ false = sym (ap (holds is_member) (ap (body_under o) (sym is) ∙ there)) ∙ off in
            sym (this_one j b (sym keyed ∙ ap Some (sym is)) ∙ ap (λ m. cond m (body_after sweep (space_under o j) b) b) none)

    pub one_member : (p : Filed) → holds is_member (body_under o key) ≡ true → Maps o p (swept_at sweep o key) → Maps o p here
    one_member p on maps = remap o p _ _ maps (λ j b there. by j b there (j == key) refl)
      where
        by : (j : ℕ) (b : Body) → body_under o j ≡ Some b → (t : Bool) → (j == key) ≡ t → cond t (body_after sweep (space_under o j) b) b ≡ here j b
        by j b there false e = sym (elsewhere j b there (other_key j e))
        by j b there true e =
            let is : j ≡ key = grind (arith, nat_tests) in
            let some : is_member b ≡ true = sym (ap (holds is_member) (ap (body_under o) (sym is) ∙ there)) ∙ on in
            sym (this_one j b (sym keyed ∙ ap Some (sym is)) ∙ ap (λ m. cond m (body_after sweep (space_under o j) b) b) some)

-- ---- a group that isn't marked has none

pub unmarked_group : (sweep : Sweep) (o : Filed) → IsFiled o → AreMarked o is_member member_mark → (group : ℕ) →
    mark_at o.marks sweep.from.space (16 + group) ≡ false →
    (j : ℕ) (b : Body) → body_under o j ≡ Some b → group * 16 ≤ slot_under o j → slot_under o j < group * 16 + 16 → member_after sweep o j b ≡ b
unmarked_group sweep o filed marked group off j b there low high = go (is_member b) refl (space_under o j == sweep.from.space) refl
  where
    name : (w : Who) × (name_under o j ≡ Some w) × (key_of o w ≡ Some j)
    name = name_there o j b filed there

    slot_is : slot_under o j ≡ name.0.slot
    slot_is = ap slot_of name.1

    group_is : name.0.slot / 16 ≡ group
    group_is = let is = slot_is in omega (arith, low, high, is)

    go : (m : Bool) → is_member b ≡ m → (s : Bool) → (space_under o j == sweep.from.space) ≡ s → cond (m && s) (body_after sweep sweep.from.space b) b ≡ b
    go false e s f = refl
    go true e false f = refl
    go true e true f =
        let space : space_under o j ≡ sweep.from.space = grind (arith, nat_tests) in
        let space_name : name.0.space ≡ sweep.from.space = ap space_of (sym name.1) ∙ space in
        let on = marked name.0 j b name.2 there e in
        let same : mark_at o.marks name.0.space (16 + name.0.slot / 16) ≡ mark_at o.marks sweep.from.space (16 + group) =
        λ i. mark_at o.marks (space_name i) (16 + group_is i) in
        let both = sym on ∙ same ∙ off in absurd (cc)

-- slots are few
pub short_under : (o : Filed) → IsFiled o → ((q : Who) → IsSome (key_of o q) → q.slot < 256) → (j : ℕ) (b : Body) → body_under o j ≡ Some b →
    slot_under o j < 256
short_under o filed short j b there =
    let name = name_there o j b filed there in
    let low = short name.0 (ap is_some name.2) in
    let is : slot_under o j ≡ name.0.slot = ap slot_of name.1 in
    omega (arith, low, is)

-- ---- what else stays

-- marks, where pointers alone are swept
pub led_marked : (o p : Filed) (sweep : Sweep) → Maps o p (λ j. led_after sweep) → AreMarked o is_member member_mark → AreMarked p is_member member_mark
led_marked o p sweep maps marked w k c at_p there so = by (body_under o k) refl (sym (maps.bodies k) ∙ there)
  where
    by : (x : Option Body) → body_under o k ≡ x → option_map (led_after sweep) x ≡ Some c → mark_at p.marks w.space (member_mark w.slot) ≡ true
    by None e h = absurd (cc)
    by (Some a) e h =
        let same : led_after sweep a ≡ c = cc in
        ap (λ m. mark_at m w.space (member_mark w.slot)) maps.alike.marks
        ∙ marked w k a (sym (maps.alike.keys w) ∙ at_p) e (sym (led-members sweep a) ∙ ap is_member same ∙ so)

-- rings, where ports alone are swept
pub members_owner : (o p : Filed) (sweep : Sweep) → Maps o p (member_after sweep o) → (n : ℕ) → owner p n ≡ owner o n
unfolding target
members_owner o p sweep maps = owner_kept o p maps.alike (λ j i. ap (and_then (λ b. and_then pointed (led b i))) (maps.bodies j) ∙ by j i (body_under o j))
  where
    by : (j i : ℕ) (x : Option Body) → and_then (λ b. and_then pointed (led b i)) (option_map (member_after sweep o j) x)
        ≡ and_then (λ b. and_then pointed (led b i)) x
    by j i None = refl
    by j i (Some b) = ap (and_then pointed) (members-leads sweep o j b i)

pub members_rings : (o p : Filed) (sweep : Sweep) → Maps o p (member_after sweep o) → (links : List Link) → AreRings links (owner o) → AreRings links (owner p)
members_rings o p sweep maps links = rings_along links (owner o) (owner p) (λ n field. members_owner o p sweep maps n)
