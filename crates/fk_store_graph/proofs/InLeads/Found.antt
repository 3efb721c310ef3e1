-- Found: what a search among the entries of a map tells.
use Rattle.std.proofs.Common.{cond, inl, inr, ◌≡◌, Bool, true, false, ◌&&◌, List, [], ◌∷◌, Option, Some, None, option_map, find, IfSome, refl, sym}
use Rattle.std.proofs.Common.{ap, subst, ◌∙◌, T}
use Rattle.std.specs.declared.cmp.Ordering.{Ordering}
use Rattle.std.specs.declared.cmp.Ordering.TheVariants.{Less, Equal, Greater}
use Rattle.std.specs.Ordering.{is_lt, eq_by_cmp, ordering_reverse}
use Rattle.std.specs.Cmp.{IsTotalOrder}
use Rattle.std.proofs.lemmas.Cmp.{tied_itself}
use Rattle.std.specs.FinMap as finmap
use Rattle.std.specs.FinMap.{FinMap, is_sorted, get, entries, entries_sorted, get-entries}
use Rattle.std.specs.FinMap.Entries.{below_all, find_tied}
use Rattle.fk_model.specs.declared.names.Who.{Who}
use Rattle.fk_model.specs.declared.body.Body.{Body}
use Rattle.fk_store_graph.specs.Leads.Names.{who_cmp}
use Rattle.fk_model.proofs.walks.Members.{IsIn}
use Rattle.fk_store_graph.proofs.InLeads.NameLaws.{who_total}

pub first : (a b : Bool) → T (a && b) → T a
first true b p = tt
first false b p = p

pub second : (a b : Bool) → T (a && b) → T b
second true b p = p
second false b p = absurd p

pub less : (o : Ordering) → T (is_lt o) → o ≡ Less
less Less p = refl
less Equal p = absurd p
less Greater p = absurd p

less_back : {K : Type 0} {R : K → K → Ordering} (o : IsTotalOrder R) (x y : K) → R x y ≡ Less → R y x ≡ Greater
less_back o x y e = o.antisymm y x ∙ ap ordering_reverse e

module _ {K X : Type 0} {R : K → K → Ordering} (o : IsTotalOrder R) where
  -- a key below all others isn't among them
  below_none : (x : K) (es : List (K × X)) → T (below_all R x es) → finmap.find R x es ≡ None
  below_none x [] h = refl
  below_none x (e ∷ es) h = by (R x e.0) refl (first _ _ h) (below_none x es (second _ _ h))
    where
      by : (r : Ordering) → R x e.0 ≡ r → T (is_lt (R x e.0)) → finmap.find R x es ≡ None → finmap.find R x (e ∷ es) ≡ None
      by Less h low none = rw h none
      by Equal h low none = absurd (rw h at low)
      by Greater h low none = absurd (rw h at low)

  -- the entry that a search finds is that of its key
  pub chosen : (p : K × X → Bool) (es : List (K × X)) (e : K × X) → T (is_sorted R es) → find p es ≡ Some e → finmap.find R e.0 es ≡ Some e.1
  chosen p [] e s h = absurd (cc)
  chosen p (d ∷ es) e s h = by (p d) refl h (chosen p es e (second _ _ s))
    where
      apart : (r : Ordering) → R e.0 d.0 ≡ r → finmap.find R e.0 es ≡ Some e.1 → finmap.find R e.0 (d ∷ es) ≡ Some e.1
      apart Less t there = rw t there
      apart Equal t there = let none = find_tied R o e.0 d.0 t es in let gone = below_none d.0 es (first _ _ s) in absurd (cc)
      apart Greater t there = rw t there

      by : (b : Bool) → p d ≡ b → find p (d ∷ es) ≡ Some e → (find p es ≡ Some e → finmap.find R e.0 es ≡ Some e.1) → finmap.find R e.0 (d ∷ es) ≡ Some e.1
      by true t is ih = let same : d ≡ e = cc in subst (λ f. finmap.find R f.0 (d ∷ es) ≡ Some f.1) same (rw (tied_itself o d.0) refl)
      by false t is ih = apart (R e.0 d.0) refl (ih (cc))

  -- where a search by the values finds none, no value passes
  pub unchosen : (p : X → Bool) (es : List (K × X)) (k : K) (v : X) → find (λ e. p e.1) es ≡ None → finmap.find R k es ≡ Some v → p v ≡ false
  unchosen p [] k v h there = absurd (cc)
  unchosen p (d ∷ es) k v h there = by (eq_by_cmp R k d.0) refl (p d.1) refl (unchosen p es k v)
    where
      by : (t : Bool) → eq_by_cmp R k d.0 ≡ t → (b : Bool) → p d.1 ≡ b → (find (λ e. p e.1) es ≡ None → finmap.find R k es ≡ Some v → p v ≡ false) → p v ≡ false
      by t tied true passes ih = absurd (cc)
      by true tied false passes ih = cc
      by false tied false passes ih = ih (cc) (cc)

chosen_passes : {A : Type 0} (p : A → Bool) (es : List A) (e : A) → find p es ≡ Some e → p e ≡ true
chosen_passes p [] e h = absurd (cc)
chosen_passes {A = A} p (d ∷ es) e h = by (p d) refl h (chosen_passes p es e)
  where
    by : (b : Bool) → p d ≡ b → find p (d ∷ es) ≡ Some e → (find p es ≡ Some e → p e ≡ true) → p e ≡ true
    by true t is ih = let same : d ≡ e = cc in subst (λ f. p f ≡ true) same t
    by false t is ih = ih (cc)

-- what a search by the values finds among the entries of a map, the map has
module _ (bodies : FinMap who_cmp Body) (p : Body → Bool) where
  abbrev found_by : Option Who
  found_by = option_map (λ e. e.0) (find (λ e. p e.1) (entries bodies))

  pub found-passes : (who : Who) → found_by ≡ Some who → (b : Body) × (get bodies who ≡ Some b) × (p b ≡ true)
  found-passes who h = by (find (λ e. p e.1) (entries bodies)) refl h
    where
      by : (f : Option (Who × Body)) →
          find (λ e. p e.1) (entries bodies) ≡ f → option_map (λ e. e.0) f ≡ Some who → (b : Body) × (get bodies who ≡ Some b) × (p b ≡ true)
      by None found is = absurd (cc)
      by (Some e) found is =
          let there : get bodies e.0 ≡ Some e.1 = get-entries bodies e.0 ∙ chosen who_total (λ e. p e.1) (entries bodies) e (entries_sorted bodies) found in
          let same : e.0 ≡ who = cc in
          (e.1, ap (get bodies) (sym same) ∙ there, chosen_passes (λ e. p e.1) (entries bodies) e found)

  pub none-passes : found_by ≡ None → (who : Who) (b : Body) → get bodies who ≡ Some b → p b ≡ false
  none-passes h who b there = by (find (λ e. p e.1) (entries bodies)) refl h
    where
      by : (f : Option (Who × Body)) → find (λ e. p e.1) (entries bodies) ≡ f → option_map (λ e. e.0) f ≡ None → p b ≡ false
      by (Some e) found is = absurd (cc)
      by None found is = unchosen who_total p (entries bodies) who b found (sym (get-entries bodies who) ∙ there)

  pub each-passes : (o : Option Who) → o ≡ found_by → IfSome o (λ who. (b : Body) × (get bodies who ≡ Some b) × (p b ≡ true))
  each-passes None is = tt
  each-passes (Some who) is = found-passes who (sym is)

-- ---- the entries of a map

module _ {K X : Type 0} {R : K → K → Ordering} (o : IsTotalOrder R) where
  below_member : (x : K) (es : List (K × X)) (e : K × X) → T (below_all R x es) → IsIn e es → R x e.0 ≡ Less
  below_member x [] e h g = absurd g
  below_member x (d ∷ es) e h (inl same) = ap (λ (c : K × X). R x c.0) (sym same) ∙ less (R x d.0) (first _ _ h)
  below_member x (d ∷ es) e h (inr g) = below_member x es e (second _ _ h) g

  -- each is found by its key
  pub member-found : (es : List (K × X)) (e : K × X) → T (is_sorted R es) → IsIn e es → finmap.find R e.0 es ≡ Some e.1
  member-found [] e s h = absurd h
  member-found (d ∷ es) e s (inl same) = subst (λ c. finmap.find R c.0 (d ∷ es) ≡ Some c.1) same (rw (tied_itself o d.0) refl)
  member-found (d ∷ es) e s (inr h) = rw (less_back o d.0 e.0 (below_member d.0 es e (first _ _ s) h)) (member-found es e (second _ _ s) h)

  -- and what is found by a key is one
  pub found-member : (es : List (K × X)) (k : K) (v : X) → finmap.find R k es ≡ Some v → (e : K × X) × IsIn e es × (eq_by_cmp R k e.0 ≡ true) × (e.1 ≡ v)
  found-member [] k v h = absurd (cc)
  found-member (d ∷ es) k v h = by (eq_by_cmp R k d.0) refl h (found-member es k v)
    where
      by : (t : Bool) → eq_by_cmp R k d.0 ≡ t →
          cond t (Some d.1) (finmap.find R k es) ≡ Some v → (finmap.find R k es ≡ Some v → (e : K × X) × IsIn e es × (eq_by_cmp R k e.0 ≡ true) × (e.1 ≡ v)) →
          (e : K × X) × IsIn e (d ∷ es) × (eq_by_cmp R k e.0 ≡ true) × (e.1 ≡ v)
      by true t is rest = (d, inl refl, t, cc)
      by false t is rest = let found = rest is in (found.0, inr found.1, found.2, found.3)

  pub first_apart : (d : K × X) (es : List (K × X)) (e : K × X) → T (is_sorted R (d ∷ es)) → IsIn e es → R d.0 e.0 ≡ Less
  first_apart d es e s h = below_member d.0 es e (first _ _ s) h
