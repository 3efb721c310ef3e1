-- What stands in a world while a scenario's entries are made.
use Rattle.std.specs.Prelude.{◌≡◌, ℕ, ◌+◌, ◌<◌, ◌||◌, IsSome, is_some, IfSome, List, [], ◌∷◌, length, None, Some, reverse}
use Rattle.fk_model.specs.Places.{Path}
use Rattle.fk_model.specs.Valid.{birth_at, kind_there}
use Rattle.fk_model.specs.declared.limits.TheConstants.{LAST_PORTER_SLOT}
use Rattle.fk_model.specs.declared.names.Kind.TheVariants as kinds
use Rattle.fk_model.specs.World.{World, apply_all}
use Rattle.fk_scenario.specs.Fields.Paths.{enclosing}
use Rattle.fk_boot.specs.FirstWorld.{porter_changes}
use Rattle.fk_scenario.specs.Sections.Spaces.{has_space_or_root, count_beneath}
use Rattle.fk_scenario.specs.Sections.Objects.{has_object}
use Rattle.fk_scenario.specs.declared.entries.types.SpaceEntry.{SpaceEntry}
use Rattle.fk_scenario.specs.declared.entries.types.ObjectEntry.{ObjectEntry}
use Rattle.fk_scenario.specs.declared.entries.types.Spec.{Spec}
use Rattle.fk_scenario.specs.declared.entries.types.Spec.TheVariants.{Thread, Mutex, Cond, Portset, Mapping, Region, Port, Reference}

-- ---- places, by their slots from the root down

-- an object may be made there: its space is there, and nothing stands in its slot
pub record HasPlace (w : World) (slots : List ℕ) : Type 0 where
  pub space : IsSome (birth_at w (reverse (enclosing slots)))
  pub empty : w.body (reverse slots) ≡ None

-- a space may be made there; the root is there already
abbrev pub CanStand : World → List ℕ → Type 0
CanStand w [] = birth_at w [] ≡ Some 0
CanStand w (k ∷ slots) = HasPlace w (k ∷ slots)

-- the birth numbers of spaces are below the next one
abbrev pub AreBorn : World → Type 0
AreBorn w = (x : Path) (birth : ℕ) → birth_at w x ≡ Some birth → birth < w.next

-- an object, or a space beneath the root, is there
pub record StandsAt (w : World) (slots : List ℕ) : Type 0 where
  pub beneath : 0 < length slots
  pub there : IsSome (kind_there w (reverse slots))

-- what an object leads to is there
abbrev pub AimStands : World → Spec → Type 0
AimStands w (Mapping region first count offset write) = IfSome region (StandsAt w)
AimStands w (Region first count write keeper) = IfSome keeper (StandsAt w)
AimStands w (Reference to) = IfSome to (StandsAt w)
AimStands w (Port set) = Unit {0}
AimStands w (Thread entry regs stops) = Unit {0}
AimStands w (Mutex locked) = Unit {0}
AimStands w Cond = Unit {0}
AimStands w Portset = Unit {0}

-- an object may lead where its entry says: it is there, and what it leads to
pub record CanAim (w : World) (o : ObjectEntry) : Type 0 where
  pub itself : StandsAt w o.path
  pub aim : AimStands w o.spec

-- ---- what stands

-- the spaces of some entries stand, and the root
pub record HasSpaces (w : World) (entries : List SpaceEntry) : Type 0 where
  pub root : birth_at w [] ≡ Some 0
  pub births : (slots : List ℕ) → is_some (birth_at w (reverse slots)) ≡ has_space_or_root entries slots
  -- and nothing else
  pub alone : (slots : List ℕ) → is_some (w.body (reverse slots)) ≡ has_space_or_root entries slots
  pub born : AreBorn w
  pub next : w.next ≡ 1 + count_beneath entries

-- the spaces of some entries stand, and the root, the objects of others, and nothing else
pub record HasObjects (w : World) (spaces : List SpaceEntry) (objects : List ObjectEntry) : Type 0 where
  pub births : (slots : List ℕ) → is_some (birth_at w (reverse slots)) ≡ has_space_or_root spaces slots
  pub alone : (slots : List ℕ) → is_some (w.body (reverse slots)) ≡ (has_space_or_root spaces slots || has_object objects slots)

-- ---- porters

-- a porter may be made in a space: it is there, and nothing stands in its last slot
pub record CanNest (w : World) (s : SpaceEntry) : Type 0 where
  pub space : kind_there w (reverse s.path) ≡ Some kinds.Space
  pub empty : w.body (LAST_PORTER_SLOT ∷ reverse s.path) ≡ None

-- porters may be made in some spaces, one after the other
abbrev pub AreNestable : World → List SpaceEntry → Type 0
AreNestable w [] = Unit {0}
AreNestable w (s ∷ ss) = CanNest w s × AreNestable (apply_all (porter_changes s) w) ss
