-- InPlace: a body that changes where it stands, and stays of its kind.
use Rattle.std.proofs.Common.{◌≡◌, ℕ, true, Option, Some, None, option_map, refl, sym, ap, subst, ◌∙◌}
use Rattle.std.specs.FinMap.{FinMap, get, insert}
use Rattle.fk_model.specs.declared.names.Who.{Who}
use Rattle.fk_model.specs.declared.body.Body.{Body}
use Rattle.fk_model.specs.Places.{Path}
use Rattle.fk_model.specs.Objects.{kind_of}
use Rattle.fk_model.specs.World.{Edit, edited, apply}
use Rattle.fk_model.specs.World.Change.{Alter}
use Rattle.fk_model.specs.Valid.{kind_there}
use Rattle.fk_store.specs.Store.Names.{who_cmp}
use Rattle.fk_store.specs.Store.Contents.{Contents}
use Rattle.fk_store.specs.Store.Paths.{place, path, IsAtHome}
use Rattle.fk_store.specs.Store.Bodies.{body_by}
use Rattle.fk_store.specs.Store.Named.{OnNamed}
use Rattle.fk_store.specs.Store.World.{world, IsLive}
use Rattle.fk_store.specs.Store.WellFormed.{is_there, IsSized, IsWellFormed}
use Rattle.fk_store.proofs.InStore.finding.NamedLaws.{OnNamed-map}
use Rattle.fk_store.proofs.InStore.finding.LookUps.{body-place, there-IsLive}
use Rattle.fk_store.proofs.InStore.finding.LookUps.{there-IsAtHome}
use Rattle.fk_store.proofs.InStore.changing.EditLaws.{alter_nothing}
use Rattle.fk_store.proofs.InStore.changing.Sets.{with_body, set-kept, set-edits, set-kinds, set-paths}

-- the kind, the place and what is named stay
pub record Stays (f : Body → Body) (p : ℕ → Path) (who : Who) (P : Who → Type 0) (b : Body) : Type 0 where
  pub kind : kind_of (body_by p b) ≡ kind_of (body_by p (f b))
  pub home : IsAtHome p who b → IsAtHome p who (f b)
  pub named : OnNamed P b → OnNamed P (f b)
  pub sized : IsSized b → IsSized (f b)

pub record Changes (m now : Contents) (who : Who) (e : Edit) : Type 0 where
  pub kept : IsWellFormed now
  pub step : world now ≡ apply (Alter (place (path m) who) e) (world m)
  pub kinds : kind_there (world now) ≡ kind_there (world m)
  pub paths : path now ≡ path m

-- where nothing is there all stays as it is
module _ (f : Body → Body) (e : Edit) (edits : (p : ℕ → Path) (b : Body) → edited e (body_by p b) ≡ body_by p (f b))
    (stays : (p : ℕ → Path) (who : Who) (P : Who → Type 0) (b : Body) → Stays f p who P b)
    (m : Contents) (kept : IsWellFormed m) (who : Who) where
  there_changes : (b : Body) → get m.bodies who ≡ Some b → Changes m (with_body m who (f b)) who e
  unfolding kind_there
  there_changes b is = record {
    kept = set-kept m kept who (f b) kind home named (same.sized (kept.sized who b is));
    step = set-edits m kept who (f b) kind home e (ap (option_map (edited e)) here ∙ ap Some (edits (path m) b));
    kinds = set-kinds m kept who (f b) kind home;
    paths = set-paths m kept who (f b) kind home;
  }
    where
      same : Stays f (path m) who (IsLive m) b
      same = stays (path m) who (IsLive m) b

      here : (world m).body (place (path m) who) ≡ Some (body_by (path m) b)
      here = body-place m kept who ∙ ap (option_map (body_by (path m))) is

      kind : kind_there (world m) (place (path m) who) ≡ Some (kind_of (body_by (path m) (f b)))
      kind = ap (option_map kind_of) here ∙ ap Some same.kind

      home : IsAtHome (path m) who (f b)
      home = same.home (there-IsAtHome m kept who b is)

      named : OnNamed (IsLive m) (f b)
      named = same.named (OnNamed-map (λ q. is_there m q ≡ true) (IsLive m) (there-IsLive m kept) b (kept.leads who b is))

  nobody_changes : get m.bodies who ≡ None → Changes m m who e
  nobody_changes none = record {
    kept = kept;
    step = alter_nothing (world m) (place (path m) who) e (body-place m kept who ∙ ap (option_map (body_by (path m))) none);
    kinds = refl;
    paths = refl;
  }

  pub changes : (bodies2 : FinMap who_cmp Body) → ((b : Body) → get m.bodies who ≡ Some b → bodies2 ≡ insert m.bodies who (f b)) →
      (get m.bodies who ≡ None → bodies2 ≡ m.bodies) → Changes m (record m { bodies = bodies2 }) who e
  changes bodies2 there none = by (get m.bodies who) refl
    where
      by : (o : Option Body) → get m.bodies who ≡ o → Changes m (record m { bodies = bodies2 }) who e
      by None is = subst (λ bs. Changes m (record m { bodies = bs }) who e) (sym (none is)) (nobody_changes is)
      by (Some b) is = subst (λ bs. Changes m (record m { bodies = bs }) who e) (sym (there b is)) (there_changes b is)
