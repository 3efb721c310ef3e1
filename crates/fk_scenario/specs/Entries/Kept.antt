-- What every object and every job that is read keeps.
use Rattle.std.specs.Prelude.{◌≡◌, ℕ, ◌+◌, ◌<◌, ◌≤◌, true, List, length, All, IfSome}
use Rattle.fk_model.specs.Sound.{are_apart, bind_same}
use Rattle.fk_scenario.specs.declared.entries.types.ObjectEntry.{ObjectEntry}
use Rattle.fk_scenario.specs.declared.entries.jobs.JobEntry.{JobEntry}
use Rattle.fk_scenario.specs.declared.entries.jobs.JobKind.{JobKind}
use Rattle.fk_scenario.specs.declared.entries.jobs.JobKind.TheVariants as kinds
use Rattle.fk_scenario.specs.declared.entries.types.Spec.{Spec}
use Rattle.fk_scenario.specs.declared.entries.types.Spec.TheVariants.{Thread, Mutex, Cond, Portset, Mapping, Region, Port, Reference}

-- the slots of a path are ones that users may name
abbrev pub AreSlots : List ℕ → Type 0
AreSlots path = All (λ slot. slot ≤ 239) path

-- the numbers of an object are in their ranges
abbrev pub IsSpecInRange : Spec → Type 0
IsSpecInRange (Thread entry regs stops) = (entry ≤ 16383) × (length regs ≤ 16) × (stops ≤ 65535)
IsSpecInRange (Mutex locked) = Unit {0}
IsSpecInRange Cond = Unit {0}
IsSpecInRange Portset = Unit {0}
IsSpecInRange (Mapping region first count offset write) = (1 ≤ count) × (first + count ≤ 256) × (offset ≤ 255)
IsSpecInRange (Region first count write keeper) = (1 ≤ count) × (first + count ≤ 256)
IsSpecInRange (Port set) = IfSome set (λ slot. slot ≤ 239)
IsSpecInRange (Reference to) = Unit {0}

-- an object by itself: the root's path is none
pub record KeepsEntry (o : ObjectEntry) : Type 0 where
  pub slots : AreSlots o.path
  pub inside : 0 < length o.path
  pub in_range : IsSpecInRange o.spec

-- pairs of slots that users may name
abbrev pub ArePairs : List (ℕ × ℕ) → Type 0
ArePairs pairs = All (λ p. (p.0 ≤ 239) × (p.1 ≤ 239)) pairs

-- what a restore binds, each slot once
abbrev pub BindsSlots : JobKind → Type 0
BindsSlots kinds.Checkpoint = Unit {0}
BindsSlots (kinds.Restore bind) = ArePairs bind × (are_apart bind_same bind ≡ true)

-- a job by itself
pub record KeepsJob (j : JobEntry) : Type 0 where
  pub nester : AreSlots j.nester
  pub slot : j.slot ≤ 239
  pub bound : BindsSlots j.kind
