-- Effects: the outcome of a verdict on an instruction, where the thread's registers and its counter are at hand.
use Rattle.std.specs.Prelude.{ℕ, List, [], ◌∷◌}
use Rattle.fk_model.specs.declared.names.Who.{Who}
use Rattle.fk_model.specs.declared.thread.Thread.{Thread}
use Rattle.fk_model.specs.Outcomes.{Outcome}
use Rattle.fk_model.specs.Outcomes.Outcome.{Goes, Waits}
use Rattle.fk_model.specs.Outcomes.Said.{Nothing}
use Rattle.fk_model.specs.Places.Ptr.{At}
use Rattle.fk_model.specs.Readers.{fault_on}
use Rattle.fk_store.specs.Store.Contents.{Contents}
use Rattle.fk_store.specs.Store.Paths.{path, place}
use Rattle.fk_store.specs.Store.World.{world, IsLive}
use Rattle.fk_plans.specs.declared.plans.plan.Verdict.{Verdict}
use Rattle.fk_plans.specs.declared.plans.plan.Verdict.TheVariants as verdicts
use Rattle.fk_plans.specs.Plans.Effects.{effect_by, IsEffect}
use Rattle.fk_user.specs.declared.effect.Instruction.{Instruction}
use Rattle.fk_user.specs.declared.effect.Instruction.TheVariants as instructions

-- what an instruction comes to, as a verdict on the thread's stage
abbrev pub verdict_of : Instruction → Verdict
verdict_of (instructions.Runs e) = verdicts.Runs e
verdict_of (instructions.Faults page write port) = verdicts.Faults page write port

-- what an instruction comes to, by what is to be done for it
abbrev pub outcome_at : Contents → Who → Thread → Verdict → Outcome
outcome_at m me t (verdicts.Runs e) = effect_by (world m) (path m) (place (path m) me) e t.regs t.pc
outcome_at m me t (verdicts.Faults page write port) = Goes (fault_on (place (path m) me) page write (At (place (path m) port)) ∷ []) Nothing
outcome_at m me t other = Waits

-- a verdict on an instruction, which can be carried out on these registers
abbrev pub IsInstruction : Contents → List ℕ → Verdict → Type 0
IsInstruction m g (verdicts.Runs e) = IsEffect (path m) (world m) g e
IsInstruction m g (verdicts.Faults page write port) = IsLive m port
IsInstruction m g other = ⊥
