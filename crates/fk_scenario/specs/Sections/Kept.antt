-- What every space and object that is read keeps.
use Rattle.std.specs.Prelude.{◌≡◌, ◌<◌, ◌≤◌, true, false, List, [], ◌∷◌, ◌++◌, length, All, IfSome}
use Rattle.fk_scenario.specs.Fields.Paths.{enclosing}
use Rattle.fk_scenario.specs.declared.entries.types.Program.{Program}
use Rattle.fk_scenario.specs.declared.entries.types.SpaceEntry.{SpaceEntry}
use Rattle.fk_scenario.specs.declared.entries.types.ObjectEntry.{ObjectEntry}
use Rattle.fk_scenario.specs.Entries.Kept.{AreSlots, IsSpecInRange}
use Rattle.fk_scenario.specs.Sections.Spaces.{has_space, has_space_or_root, may_stand}
use Rattle.fk_scenario.specs.Sections.Objects.{has_object}

-- each of some elements is right after those before it
abbrev pub EachAfter : {X : Type 0} → (List X → X → Type 0) → List X → List X → Type 0
EachAfter P before [] = Unit {0}
EachAfter P before (x ∷ xs) = P before x × EachAfter P (before ++ x ∷ []) xs

-- a space after those before it: its parent is there, its place is free, the program that it names is there, and its pages are ones that
-- a space has
pub record KeepsSpace (programs : List Program) (before : List SpaceEntry) (s : SpaceEntry) : Type 0 where
  pub slots : AreSlots s.path
  pub stands : may_stand before s.path ≡ true
  pub has_program : IfSome s.program (λ index. index < length programs)
  pub pages : All (λ page. page ≤ 255) s.pages

-- an object after those before it: its space is there, and its slot is free
pub record KeepsObject (spaces : List SpaceEntry) (before : List ObjectEntry) (o : ObjectEntry) : Type 0 where
  pub slots : AreSlots o.path
  pub inside : 0 < length o.path
  pub in_space : has_space_or_root spaces (enclosing o.path) ≡ true
  pub no_space : has_space spaces o.path ≡ false
  pub no_object : has_object before o.path ≡ false
  pub in_range : IsSpecInRange o.spec
