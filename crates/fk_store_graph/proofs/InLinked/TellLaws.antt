-- TellLaws: what is told of an object once another leads there.
use Rattle.std.proofs.Common.{◌≡◌, ◌≢◌, ℕ, Bool, true, false, cond, ◌==◌, Option, Some, None, option_map, refl, sym, ap, subst, ◌∙◌, arith}
use Rattle.std.proofs.lemmas.Bool.Decides.{nat_tests}
use Rattle.fk_model.specs.declared.names.Who.{Who}
use Rattle.fk_model.specs.declared.body.Body.{Body}
use Rattle.fk_store_graph.specs.declared.hints.lead.Sort.{Sort}
use Rattle.fk_store_graph.specs.declared.hints.lead.Sort.TheVariants.{Pointer, Served, Taken}
use Rattle.fk_store_graph.specs.declared.hints.lead.Lead.{Lead}
use Rattle.fk_store_graph.specs.Hints.Leads.{led}
use Rattle.fk_store_cells.specs.Slots.Cells.{cell}
use Rattle.fk_store_cells.specs.declared.objects.entry.Entry.{Entry}
use Rattle.fk_store_cells.specs.declared.objects.entry.Hints.{Hints}
use Rattle.fk_store_cells.specs.declared.objects.entry.Told.{Told}
use Rattle.fk_store_cells.specs.declared.objects.entry.Told.TheVariants.{Nobody, One, Many}
use Rattle.fk_store_cells.specs.Objects.Filed.{Filed, IsFiled, entry_under, key_of, name_under}
use Rattle.fk_store_cells.specs.Objects.Edits.{Edits, with_hints}
use Rattle.fk_store_graph.specs.Linked.Bodied.{body_under, Tells, told_by, told_with, IsTold, AreTold, Retells, StillTold}
use Rattle.fk_store_graph.proofs.InLinked.BodyLaws.{keys_apart}
use Rattle.fk_store_graph.proofs.InLeads.PointerLaws.{else_pointer}

same_some : {A : Type 0} (o : Option A) (a b : A) → o ≡ Some a → o ≡ Some b → a ≡ b
same_some o a b h k = cc

none_some : {A : Type 0} (o : Option A) (a : A) → None ≡ o → o ≡ Some a → ⊥
none_some o a h k = absurd (cc)

-- of anybody's pointers nothing is told
pub pointer_told : (o : Filed) (l : Lead) (key : ℕ) → l.sort ≡ Pointer → IsTold o l key
pointer_told o l key sort j e at under = subst (λ s. Tells (told_by s e.hints) key) (sym sort) tt

-- nobody is told where nothing is
pub nobody_told : (o : Filed) (l : Lead) (key to : ℕ) → key_of o l.to ≡ Some to → None ≡ entry_under o to → IsTold o l key
nobody_told o l key to here none j e at under =
    let is : j ≡ to = same_some (key_of o l.to) j to at here in
    absurd (none_some (entry_under o to) e none (ap (entry_under o) (sym is) ∙ under))

pub nowhere_told : (o : Filed) (l : Lead) (key : ℕ) → None ≡ key_of o l.to → IsTold o l key
nowhere_told o l key none j e at under = absurd (none_some (key_of o l.to) j none at)

told_here : (s : Sort) (told : Told) (hints : Hints) (key : ℕ) → Tells told key → Tells (told_by s (told_with s told hints)) key
told_here Pointer told hints key h = tt
told_here Served told hints key h = h
told_here Taken told hints key h = h

kept_here : (s t : Sort) (told : Told) (hints : Hints) (key : ℕ) → Tells (told_by t hints) key → (t ≡ s → Tells told key) →
    Tells (told_by t (told_with s told hints)) key
kept_here Pointer t told hints key old new = old
kept_here Served Pointer told hints key old new = tt
kept_here Served Served told hints key old new = new refl
kept_here Served Taken told hints key old new = old
kept_here Taken Pointer told hints key old new = tt
kept_here Taken Served told hints key old new = old
kept_here Taken Taken told hints key old new = new refl

-- the hints of one object are others
module _ (o p : Filed) (to : ℕ) (e : Entry) (h : Hints) (there : Some e ≡ entry_under o to) (edits : Edits o p to (with_hints h)) where
  pub same_keys : (q : Who) → key_of p q ≡ key_of o q
  unfolding key_of
  same_keys q = ap (λ keys. cell keys q.space q.slot) edits.keys

  entry_here : (j : ℕ) → j ≡ to → entry_under p j ≡ Some (with_hints h e)
  entry_here j is = edits.entries j ∙ by (j == to) refl
    where
      by : (b : Bool) → (j == to) ≡ b → cond b (option_map (with_hints h) (entry_under o to)) (entry_under o j) ≡ Some (with_hints h e)
      by true f = ap (option_map (with_hints h)) (sym there)
      by false f = absurd (grind (arith, nat_tests))

  entry_off : (j : ℕ) → (j == to) ≡ false → entry_under p j ≡ entry_under o j
  entry_off j off = edits.entries j ∙ ap (λ b. cond b (option_map (with_hints h) (entry_under o to)) (entry_under o j)) off

  hints_here : (j : ℕ) (d : Entry) → j ≡ to → entry_under p j ≡ Some d → d.hints ≡ h
  hints_here j d is under =
      let same : d ≡ with_hints h e = same_some (entry_under p j) d (with_hints h e) under (entry_here j is) in
      ap (λ (x : Entry). x.hints) same

  same_by : {A : Type 0} (read : Entry → A) → read (with_hints h e) ≡ read e → (j : ℕ) → option_map read (entry_under p j) ≡ option_map read (entry_under o j)
  same_by read stays j = by (j == to) refl
    where
      by : (b : Bool) → (j == to) ≡ b → option_map read (entry_under p j) ≡ option_map read (entry_under o j)
      by false f = ap (option_map read) (entry_off j f)
      by true f =
          let is : j ≡ to = grind (arith, nat_tests) in
          ap (option_map read) (entry_here j is) ∙ ap Some stays ∙ ap (option_map read) there ∙ sym (ap (λ j. option_map read (entry_under o j)) is)

  pub retold : Retells o p
  unfolding body_under name_under
  retold = record { keys = same_keys; names = same_by (λ (x : Entry). x.who) refl; bodies = same_by (λ (x : Entry). x.body) refl; marks = edits.marks }

  module _ (l : Lead) (told : Told) (here : key_of o l.to ≡ Some to) (is_h : h ≡ told_with l.sort told e.hints) where
    pub noted : (key : ℕ) → Tells told key → IsTold p l key
    noted key tells j d at under =
        let is : j ≡ to = same_some (key_of o l.to) j to (sym (same_keys l.to) ∙ at) here in
        subst (λ x. Tells (told_by l.sort x) key) (sym (hints_here j d is under ∙ is_h)) (told_here l.sort told e.hints key tells)

    pub still : IsFiled o → ((j : ℕ) (b : Body) (i : ℕ) → body_under o j ≡ Some b → led b i ≡ Some l → Tells (told_by l.sort e.hints) j → Tells told j) →
        StillTold o p
    still filed kept key b i m body leads was j d at under = by (j == to) refl
      where
        at_o : key_of o m.to ≡ Some j
        at_o = sym (same_keys m.to) ∙ at

        by : (t : Bool) → (j == to) ≡ t → Tells (told_by m.sort d.hints) key
        by false f = was j d at_o (sym (entry_off j f) ∙ under)
        by true f =
            let is : j ≡ to = grind (arith, nat_tests) in
            let at_to : key_of o m.to ≡ Some to = at_o ∙ ap Some is in
            let old = was to e at_to (sym there) in
            let who : m.to ≡ l.to = keys_apart o filed m.to l.to to at_to here in
            subst (λ x. Tells (told_by m.sort x) key) (sym (hints_here j d is under ∙ is_h))
            (kept_here l.sort m.sort told e.hints key old
            (λ sort. kept key b i body (leads ∙ (λ k. Some (record { to = who k; sort = sort k }))) (subst (λ s. Tells (told_by s e.hints) key) sort old)))

-- what is told in two steps
pub retold_both : (o m p : Filed) → Retells o m → Retells m p → Retells o p
retold_both o m p a b = record {
  keys = λ q. b.keys q ∙ a.keys q;
  names = λ j. b.names j ∙ a.names j;
  bodies = λ j. b.bodies j ∙ a.bodies j;
  marks = b.marks ∙ a.marks;
}

-- nothing is told anew
pub retold_none : (o : Filed) → Retells o o
retold_none o = record { keys = λ q. refl; names = λ j. refl; bodies = λ j. refl; marks = refl }

pub still_none : (o : Filed) → StillTold o o
still_none o key b i l body leads was = was

-- who leads by pointers alone is told of to nobody
pub none_told : (o : Filed) (key : ℕ) (body : Body) → body_under o key ≡ Some body → ((i : ℕ) (l : Lead) → led body i ≡ Some l → l.sort ≡ Pointer) →
    ((j : ℕ) (b : Body) (i : ℕ) (l : Lead) → j ≢ key → body_under o j ≡ Some b → led b i ≡ Some l → IsTold o l j) → AreTold o
none_told o key body here pointers others j b i l there leads = by (j == key) refl
  where
    by : (t : Bool) → (j == key) ≡ t → IsTold o l j
    by false e = others j b i l (grind (arith, nat_tests)) there leads
    by true e =
        let is : j ≡ key = grind (arith, nat_tests) in
        let same : b ≡ body = same_some (body_under o j) b body there (ap (body_under o) is ∙ here) in
        pointer_told o l j (pointers i l (ap (λ x. led x i) (sym same) ∙ leads))

-- all that a body leads to is told, and all others are
module _ (o m p : Filed) (key : ℕ) (body : Body) (first : Retells o m) (then_ : Retells m p) (here : body_under o key ≡ Some body)
    (others : (j : ℕ) (b : Body) (i : ℕ) (l : Lead) → j ≢ key → body_under o j ≡ Some b → led b i ≡ Some l → IsTold o l j)
    (two : (l : Lead) → led body 2 ≡ Some l → IsTold m l key) (keeps : StillTold o m)
    (five : (l : Lead) → led body 5 ≡ Some l → IsTold p l key) (keeps_then : StillTold m p) where
  pub all_told : AreTold p
  all_told j b i l there leads = by (j == key) refl
    where
      there_m : body_under m j ≡ Some b
      there_m = sym (then_.bodies j) ∙ there

      there_o : body_under o j ≡ Some b
      there_o = sym (first.bodies j) ∙ there_m

      own : j ≡ key → (q : Bool) → (i == 2) ≡ q → (r : Bool) → (i == 5) ≡ r → IsTold p l key
      own is true e r f =
          let same : b ≡ body = same_some (body_under o j) b body there_o (ap (body_under o) is ∙ here) in
          let field : i ≡ 2 = grind (arith, nat_tests) in
          keeps_then key b i l (ap (body_under m) (sym is) ∙ there_m) leads (two l ((λ k. led (sym same k) (sym field k)) ∙ leads))
      own is false e true f =
          let same : b ≡ body = same_some (body_under o j) b body there_o (ap (body_under o) is ∙ here) in
          let field : i ≡ 5 = grind (arith, nat_tests) in
          five l ((λ k. led (sym same k) (sym field k)) ∙ leads)
      own is false e false f = pointer_told p l key (else_pointer b i l leads e f)

      by : (t : Bool) → (j == key) ≡ t → IsTold p l j
      by false e = keeps_then j b i l there_m leads (keeps j b i l there_o leads (others j b i l (grind (arith, nat_tests)) there_o leads))
      by true e =
          let is : j ≡ key = grind (arith, nat_tests) in
          subst (λ x. IsTold p l x) (sym is) (own is (i == 2) refl (i == 5) refl)
