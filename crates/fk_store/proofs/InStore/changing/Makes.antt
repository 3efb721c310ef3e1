-- Makes: a body put into an empty slot of a live space is the one made at the path.
use Rattle.std.proofs.Common.{◌≡◌, ◌⊎◌, inl, inr, ℕ, zero, suc, ◌<◌, Bool, true, false, cond, [], ◌∷◌, Option, Some, None, is_some, refl, sym, subst}
use Rattle.std.proofs.Common.{◌∙◌, arith}
use Rattle.std.specs.Ordering.{eq_by_cmp}
use Rattle.std.specs.FinMap.{get, insert, get-insert}
use Rattle.fk_model.specs.declared.names.Who.{Who}
use Rattle.fk_model.specs.declared.body.Body as bodies_of
use Rattle.fk_model.specs.Places.{Path, same_path}
use Rattle.fk_model.specs.Objects.{and_then}
use Rattle.fk_model.specs.World.{apply}
use Rattle.fk_model.specs.World.Change.{Make}
use Rattle.fk_store.specs.Store.Names.{who_cmp}
use Rattle.fk_store.specs.Store.Contents.{Contents, stored_birth, birth_there, home, is_live}
use Rattle.fk_store.specs.Store.Paths.{place, path}
use Rattle.fk_store.specs.Store.Bodies.{body_by}
use Rattle.fk_store.specs.Store.Named.{OnNamed}
use Rattle.fk_store.specs.Store.World.{world, body_at}
use Rattle.fk_store.specs.Store.WellFormed.{is_there, IsSized, IsWellFormed}
use Rattle.fk_store.proofs.InFreezing.NameLaws.{who_total, who_tied}
use Rattle.fk_store.proofs.InStore.finding.NamedLaws.{OnNamed-map}
use Rattle.fk_store.proofs.InStore.finding.Homes.{home-found}
use Rattle.fk_store.proofs.InStore.finding.Walks.{not_root}
use Rattle.fk_store.proofs.InStore.changing.Sets.{with_body, home-births, is_live-births, path-births, space_at-births, put_at}

module _ (m : Contents) (kept : IsWellFormed m) where
  -- a live space is born
  pub live-born : (n : ℕ) → is_live m n ≡ true → n < m.next
  live-born zero live = kept.begun
  live-born (suc k) live = by (home m (suc k)) refl (rw (not_root (suc k) (omega arith)) at live)
    where
      by : (o : Option Who) → home m (suc k) ≡ o → is_some (home m (suc k)) ≡ true → suc k < m.next
      by None e is = absurd (cc)
      by (Some who) e is = kept.born who (suc k) (home-found m (suc k) who e)

  module _ (who : Who) (live : is_live m who.space ≡ true) (slot : who.slot < 256) (empty : get m.bodies who ≡ None) (b : bodies_of.Body) where
    -- what is there after
    pub after_there : (q : Who) → is_there m q ≡ true → is_some (get (insert m.bodies who b) q) ≡ true
    after_there q there = rw (get-insert who_total m.bodies who b q) (by (eq_by_cmp who_cmp q who))
      where
        by : (t : Bool) → is_some (cond t (Some b) (get m.bodies q)) ≡ true
        by true = refl
        by false = there

    -- and before
    pub before_there : (q : Who) → is_some (get (insert m.bodies who b) q) ≡ true → (q ≡ who) ⊎ (is_there m q ≡ true)
    before_there q h = by (eq_by_cmp who_cmp q who) refl (rw (get-insert who_total m.bodies who b q) at h)
      where
        by : (t : Bool) →
            eq_by_cmp who_cmp q who ≡ t → is_some (cond (eq_by_cmp who_cmp q who) (Some b) (get m.bodies q)) ≡ true → (q ≡ who) ⊎ (is_there m q ≡ true)
        by true e h = inl (who_tied q who e)
        by false e h = inr (rw e at h)

    pub after_body : (P : bodies_of.Body → Type 0) →
        P b → ((q : Who) (c : bodies_of.Body) → get m.bodies q ≡ Some c → P c) → (q : Who) (c : bodies_of.Body) → get (insert m.bodies who b) q ≡ Some c → P c
    after_body P here others q c h = by (eq_by_cmp who_cmp q who) (sym (get-insert who_total m.bodies who b q) ∙ h)
      where
        by : (t : Bool) → cond t (Some b) (get m.bodies q) ≡ Some c → P c
        by true e = let same : b ≡ c = cc in subst P same here
        by false e = others q c e

    -- ---- an object that is no space
    module _ (plain : stored_birth b ≡ None) where
      made_births : (q : Who) → birth_there (with_body m who b) q ≡ birth_there m q
      made_births q = rw (get-insert who_total m.bodies who b q) (by (eq_by_cmp who_cmp q who) refl)
        where
          by : (t : Bool) → eq_by_cmp who_cmp q who ≡ t → and_then stored_birth (cond t (Some b) (get m.bodies q)) ≡ birth_there m q
          by false e = refl
          by true e = let here : q ≡ who = who_tied q who e in rw (here, empty) plain

      pub path-made : path (with_body m who b) ≡ path m
      path-made = path-births m kept (with_body m who b) made_births

      pub world-made : world (with_body m who b) ≡ apply (Make (place (path m) who) (body_by (path m) b)) (world m)
      unfolding world apply same_path
      world-made = λ i. record {
        body = λ q. bodies q i;
        page = λ s page. and_then (λ n. get m.pages (n, page)) (space_at-births m kept (with_body m who b) made_births s i);
        next = m.next;
      }
        where
          bodies : (q : Path) → body_at (with_body m who b) q ≡ cond (same_path q (place (path m) who)) (Some (body_by (path m) b)) (body_at m q)
          bodies [] = refl
          bodies (j ∷ s) = rw (path-made, space_at-births m kept (with_body m who b) made_births s) (put_at m kept who live b (body_by (path m)) j s)

      pub kept-made : OnNamed (λ q. is_there m q ≡ true) b → IsSized b → IsWellFormed (with_body m who b)
      kept-made named sized = record {
        begun = kept.begun;
        alone = λ q n h. home-births m kept (with_body m who b) made_births n ∙ kept.alone q n (sym (made_births q) ∙ h);
        younger = λ q n h. kept.younger q n (sym (made_births q) ∙ h);
        born = λ q n h. kept.born q n (sym (made_births q) ∙ h);
        slots = λ q h. elim (before_there q h) [ inl e ↦ rw e slot | inr there ↦ kept.slots q there ];
        housed = λ q h. is_live-births m kept (with_body m who b) made_births q.space
            ∙ elim (before_there q h) [ inl e ↦ rw e live | inr there ↦ kept.housed q there ];
        paged = λ space page h. is_live-births m kept (with_body m who b) made_births space ∙ kept.paged space page h;
        leads = after_body (OnNamed (λ q. is_there (with_body m who b) q ≡ true))
            (OnNamed-map (λ q. is_there m q ≡ true) (λ q. is_there (with_body m who b) q ≡ true) after_there b named)
            (λ q c h. OnNamed-map (λ q. is_there m q ≡ true) (λ q. is_there (with_body m who b) q ≡ true) after_there c (kept.leads q c h));
        sized = after_body IsSized sized kept.sized;
        full = kept.full;
      }
