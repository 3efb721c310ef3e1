-- Where a restorer stands between two objects, and what a list of orders leaves of that.
use Rattle.std.proofs.Common.{◌≡◌, ℕ, true, false, eqb, IsSome, List, [], ◌∷◌, ◌++◌, Option, Some, None, refl, sym, subst, ◌∙◌}
use Rattle.fk_model.specs.declared.names.Kind.TheVariants as kinds
use Rattle.fk_model.specs.Places.{Path}
use Rattle.fk_model.specs.Places.Ptr.{Dead, At, Out}
use Rattle.fk_model.specs.World.{World}
use Rattle.laws_restore.specs.Sites.Orders.{Spot, Pin, Site, Order, does, May, with_built, stays_in, IsPlace}
use Rattle.laws_restore.specs.Sites.Orders.Spot.{To}
use Rattle.laws_restore.specs.Sites.Orders.Pin.{NoPin, Fast}
use Rattle.laws_restore.specs.Sites.Orders.Named.{ByScratch}
use Rattle.laws_restore.specs.Sites.Owed.{Suits}
use Rattle.laws_restore.specs.Restore.Fits.{there, IsWay}
use Rattle.laws_restore.specs.Restore.Script.{P, T, U, D, goes_to, leads_to_at}
use Rattle.laws_restore.proofs.InRestore.Ways.{is_look, Runs, none, one, on, Walked, goes, leads, space_kind}

module _ (slot : ℕ) (Safe : ℕ → Site → Type 0) where
  -- T is free for use, or leads to the port to which the pin leads
  abbrev pub IsAimed : Option ℕ → Option Spot → Pin → Type 0
  IsAimed None spot pin = IsSome spot × (stays_in spot ≡ true)
  IsAimed (Some j) spot pin = (spot ≡ Some (To (Out j))) × (pin ≡ Fast j)

  -- it has built this, P stands at that space, and T is aimed so
  pub record Good (c : World) (p : Path) (aim : Option ℕ) (g : Site) : Type 0 where
    pub built : g.built ≡ c
    pub at : g.spot P ≡ Some (To (At p))
    pub aimed : IsAimed aim (g.spot T) g.pin
    pub u : IsSome (g.spot U) × (stays_in (g.spot U) ≡ true)
    pub dead : g.spot D ≡ Some (To Dead)
    pub none : (k : ℕ) → eqb k P ≡ false → eqb k T ≡ false → eqb k U ≡ false → eqb k D ≡ false → g.spot k ≡ None
    pub pin : g.pin ≡ NoPin → ⊥

  pub record Next (c : World) (p : Path) (aim : Option ℕ) (g : Site) (os : List Order) : Type 0 where
    pub site : Site
    pub runs : Runs slot Safe g site os
    pub good : Good c p aim site

  abbrev pub Leaves : World → Path → Option ℕ → World → Path → Option ℕ → List Order → Type 0
  Leaves c p a d q b os = (g : Site) → Good c p a g → Next d q b g os

  pub leaves_on : (c : World) (p : Path) (a : Option ℕ) (d : World) (q : Path) (b : Option ℕ) (e : World) (r : Path) (f : Option ℕ) (os ps : List Order) →
      Leaves c p a d q b os → Leaves d q b e r f ps → Leaves c p a e r f (os ++ ps)
  leaves_on c p a d q b e r f os ps first second g good =
      let there = first g good in
      let end = second there.site there.good in
      record { site = end.site; runs = on slot Safe g there.site end.site os ps there.runs end.runs; good = end.good }

  pub leaves_none : (c d : World) (p : Path) (a : Option ℕ) → c ≡ d → Leaves c p a d p a []
  leaves_none c d p a e g good = record { site = g; runs = none slot Safe g; good = subst (λ (c : World). Good c p a g) e good }

  pub leaves_to : (c d e : World) (p q : Path) (a b : Option ℕ) (os : List Order) → d ≡ e → Leaves c p a d q b os → Leaves c p a e q b os
  leaves_to c d e p q a b os same first = subst (λ (w : World). Leaves c p a w q b os) same first

  -- ---- P goes on

  goes_good : (c : World) (p q : Path) (aim : Option ℕ) (g : Site) (os : List Order) → Good c p aim g → (way : Walked slot Safe g P q os)
      → Good c q aim way.site
  goes_good c p q aim g os good way = record {
    built = way.built ∙ good.built;
    at = way.at;
    aimed = by aim good.aimed;
    u = rw (way.others U refl) good.u;
    dead = way.others D refl ∙ good.dead;
    none = λ k p t u d. way.others k p ∙ good.none k p t u d;
    pin = λ e. good.pin (sym way.pin ∙ e);
  }
    where
      by : (aim : Option ℕ) → IsAimed aim (g.spot T) g.pin → IsAimed aim (way.site.spot T) way.site.pin
      by None h = rw (way.others T refl) h
      by (Some j) h = (way.others T refl ∙ h.0, way.pin ∙ h.1)

  pub leaves_goes : (c : World) (p q : Path) (aim : Option ℕ) → IsWay (there c) q → Leaves c p aim c q aim (goes_to slot p q)
  leaves_goes c p q aim way g good =
      let walked = goes slot Safe g p q good.at (subst (λ (c : World). IsWay (there c) q) (sym good.built) way) in
      record { site = walked.site; runs = walked.runs; good = goes_good c p q aim g (goes_to slot p q) good walked }

  -- ---- T, or U, is led

  -- with what it leads to
  pub record Led (c : World) (p : Path) (g : Site) (r : ℕ) (z : Path) (os : List Order) : Type 0 where
    pub site : Site
    pub runs : Runs slot Safe g site os
    pub good : Good c p None site
    pub to : site.spot r ≡ Some (To (At z))
    pub others : (k : ℕ) → eqb k r ≡ false → site.spot k ≡ g.spot k

  pub leads_t : (c : World) (p z : Path) (g : Site) → Good c p None g → IsWay (there c) z → Led c p g T z (leads_to_at slot T p z)
  leads_t c p z g good way =
      let walked = leads slot Safe g T p z refl good.aimed.0 good.at (subst (λ (c : World). IsWay (there c) z) (sym good.built) way) in
      record {
        site = walked.site;
        runs = walked.runs;
        good = record {
          built = walked.built ∙ good.built;
          at = walked.others P refl ∙ good.at;
          aimed = rw walked.at (refl, refl);
          u = rw (walked.others U refl) good.u;
          dead = walked.others D refl ∙ good.dead;
          none = λ k p t u d. walked.others k t ∙ good.none k p t u d;
          pin = λ e. good.pin (sym walked.pin ∙ e);
        };
        to = walked.at;
        others = walked.others;
      }

  pub leads_u : (c : World) (p z : Path) (g : Site) → Good c p None g → IsWay (there c) z → Led c p g U z (leads_to_at slot U p z)
  leads_u c p z g good way =
      let walked = leads slot Safe g U p z refl good.u.0 good.at (subst (λ (c : World). IsWay (there c) z) (sym good.built) way) in
      record {
        site = walked.site;
        runs = walked.runs;
        good = record {
          built = walked.built ∙ good.built;
          at = walked.others P refl ∙ good.at;
          aimed = rw (walked.others T refl) good.aimed;
          u = rw walked.at (refl, refl);
          dead = walked.others D refl ∙ good.dead;
          none = λ k p t u d. walked.others k u ∙ good.none k p t u d;
          pin = λ e. good.pin (sym walked.pin ∙ e);
        };
        to = walked.at;
        others = walked.others;
      }

  -- ---- an order at the place where P stands, which makes one world of another

  pub built_good : (c d : World) (p : Path) (aim : Option ℕ) (g : Site) (built : World) → built ≡ d → Good c p aim g → Good d p aim (with_built built g)
  built_good c d p aim g built e good = record { built = e; at = good.at; aimed = good.aimed; u = good.u; dead = good.dead; none = good.none; pin = good.pin }

  pub place_of : (c : World) (q : Path) (aim : Option ℕ) (g : Site) → Good c q aim g → there c q ≡ Some kinds.Space → IsPlace g slot P q
  place_of c q aim g good space = record {
    named = ByScratch P q refl good.at;
    space = space_kind (g.built.body q) (subst (λ (c : World). there c q ≡ Some kinds.Space) (sym good.built) space);
  }

  pub ordered : (c d : World) (q : Path) (aim : Option ℕ) (g : Site) (o : Order) (built : World) → Good c q aim g → is_look o ≡ false
      → does o g ≡ with_built built g → built ≡ d → May slot o g → Suits g o → Next d q aim g (o ∷ [])
  ordered c d q aim g o built good off makes e may suits = record {
    site = does o g;
    runs = one slot Safe g o may suits off;
    good = rw makes (built_good c d q aim g built e good);
  }
