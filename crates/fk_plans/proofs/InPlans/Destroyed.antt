-- Destroyed: when the freezing rule lets an object be destroyed, and what the machine makes of it then.
use Rattle.std.proofs.Common.{◌≡◌, ◌↔◌, ℕ, Bool, true, false, List, [], Option, Some, None, option_map, refl, ap}
use Rattle.fk_model.specs.declared.names.Who.{Who}
use Rattle.fk_model.specs.declared.statuses.status.TheConstants.{OK}
use Rattle.fk_model.specs.Freezing.{MayKill}
use Rattle.fk_model.specs.Moves.{closed, stepped, GoesAllowed}
use Rattle.fk_model.specs.ObjectRows.{kills, told_with}
use Rattle.fk_model.specs.Outcomes as outcomes
use Rattle.fk_model.specs.Outcomes.Said.{Answered}
use Rattle.fk_model.specs.Places.{Path}
use Rattle.fk_model.specs.World.{World, apply, apply_all}
use Rattle.fk_model.specs.World.Change.{Alter}
use Rattle.fk_model.specs.World.Edit.{Finish}
use Rattle.fk_changes.specs.Deaths.Told.{told_at}
use Rattle.fk_changes.proofs.InDeaths.Allowed.{killing_iff}
use Rattle.fk_store.specs.Store.Contents.{Contents}
use Rattle.fk_store.specs.Store.Named.{Each}
use Rattle.fk_store.specs.Store.Paths.{path, place}
use Rattle.fk_store.specs.Store.Threads.{is_free_at}
use Rattle.fk_store.specs.Store.World.{world, IsLive}
use Rattle.fk_store.proofs.InStore.finding.Freedom.{free_itself, may_alter}
use Rattle.fk_changes.specs.declared.readers.caller.Caller.{Caller}
use Rattle.fk_plans.specs.Plans.Destroys.{destroyed}
use Rattle.fk_plans.specs.Plans.Plans.{caller_by}
use Rattle.fk_plans.proofs.InPlans.Lists.{own_iff, own_last}

-- ---- when it is allowed

module _ (m : Contents) (c : Caller) (words : List ℕ) (free : c.is_porter ≡ false → is_free_at (world m) (place (path m) c.who) ≡ true)
    (object : Who) (last : Bool) where
  abbrev me : Path
  me = place (path m) c.who

  abbrev x : Path
  x = place (path m) object

  abbrev caller : outcomes.Caller
  caller = caller_by (path m) c words

  pub destroys_iff : MayKill (world m) me x ↔ GoesAllowed (world m) me (closed caller (destroyed (world m) caller x last))
  destroys_iff = by c.is_porter last refl
    where
      by : (b last : Bool) → c.is_porter ≡ b → MayKill (world m) me x
          ↔ GoesAllowed (world m) me (closed (record caller { is_porter = b }) (destroyed (world m) (record caller { is_porter = b }) x last))
      by true true e = killing_iff (world m) me x
      by true false e = killing_iff (world m) me x
      by false true e = own_iff (world m) me (Alter me (Finish [])) (kills (world m) x) (may_alter (world m) me me (Finish [])
          (record { changed = λ b. refl; made = refl }) (free_itself (world m) c.who.slot (path m c.who.space) (free e))) (killing_iff (world m) me x)
      by false false e = killing_iff (world m) me x

-- ---- what it makes

module _ (w : World) (p : ℕ → Path) (who : Who) (words : List ℕ) (x : Path) where
  abbrev maker : Bool → outcomes.Caller
  maker is_porter = caller_by p (record { who = who; is_porter = is_porter }) words

  pub porter_step : (is_porter last : Bool) → is_porter ≡ true → stepped w (closed (maker is_porter) (destroyed w (maker is_porter) x last))
      ≡ record { world = apply_all (kills w x) w; said = Answered OK [] }
  porter_step true true is = refl
  porter_step true false is = refl
  porter_step false last is = absurd (cc)

  pub last_step : (is_porter : Bool) → is_porter ≡ false → stepped w (closed (maker is_porter) (destroyed w (maker is_porter) x true))
      ≡ record { world = apply (Alter (place p who) (Finish [])) (apply_all (kills w x) w); said = told_with w x (w.body x) }
  last_step true is = absurd (cc)
  last_step false is = rw (own_last (kills w x) (Alter (place p who) (Finish [])) w) refl

  pub stays_step : (is_porter : Bool) → is_porter ≡ false → stepped w (closed (maker is_porter) (destroyed w (maker is_porter) x false))
      ≡ record { world = apply_all (kills w x) w; said = told_with w x (w.body x) }
  stays_step true is = absurd (cc)
  stays_step false is = refl

-- who is told has its name still
pub told_still : (m : Contents) (p : ℕ → Path) (o : Option Who) →
    Each (IsLive m) o → ((other : Who) → IsLive m other → place p other ≡ place (path m) other) →
    told_at (option_map (place p) o) ≡ told_at (option_map (place (path m)) o)
told_still m p None live places = refl
told_still m p (Some who) live places = ap (λ x. told_at (Some x)) (places who live)
