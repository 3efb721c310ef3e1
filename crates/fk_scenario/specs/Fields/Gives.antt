-- Readings that may be refused, and what a function that may want memory gives of one.
use Rattle.std.specs.Prelude.{◌≡◌, ℕ, Bool, Option, Some, None, Result, Ok, Err, if◌then◌else◌}
use Rattle.fk_scenario.specs.declared.fields.fail.Fail.{Fail}
use Rattle.fk_scenario.specs.declared.fields.fail.Fail.TheVariants as fails
use Rattle.fk_scenario.specs.declared.fields.fail.ScenarioError.{ScenarioError}
use Rattle.fk_scenario.specs.declared.fields.fail.ScenarioFail.{ScenarioFail}
use Rattle.fk_scenario.specs.declared.fields.fail.ScenarioFail.TheVariants as ends

-- a step that is refused ends the whole with its refusal
infixl 10 ◌>>=◌
abbrev pub ◌>>=◌ : {A B E : Type 0} → Result A E → (A → Result B E) → Result B E
(Ok x) >>= rest = rest x
(Err e) >>= rest = Err e

-- a value, or else the rule
abbrev pub or_rule : {A : Type 0} → ℕ → Option A → Result A ℕ
or_rule rule None = Err rule
or_rule rule (Some x) = Ok x

-- the rule unless a test holds
abbrev pub unless : ℕ → Bool → Result (Unit {0}) ℕ
unless rule holds = if holds then Ok tt else Err rule

-- what an entry reads as, its refusals placed at a section and an index
abbrev pub placed : {A : Type 0} → ℕ → ℕ → Result A ℕ → Result A ScenarioError
placed section index (Ok x) = Ok x
placed section index (Err rule) = Err (record { rule = rule; section = section; index = index })

-- a refusal by a rule, unless there was no memory
abbrev pub IsFail : {Y : Type 0} → Fail → Result Y ℕ → Type 0
IsFail fails.NoMemory read = Unit {0}
IsFail (fails.Rule rule) read = read ≡ Err rule

-- a function for a part of an entry gives what is read of it, seen by `view`, unless there was no memory
abbrev pub Gives : {X Y : Type 0} → (X → Y) → Result X Fail → Result Y ℕ → Type 0
Gives view (Ok x) read = read ≡ Ok (view x)
Gives view (Err fail) read = IsFail fail read

-- the first refusal, unless there was no memory
abbrev pub IsFirstRefusal : {Y : Type 0} → ScenarioFail → Result Y ScenarioError → Type 0
IsFirstRefusal ends.NoMemory read = Unit {0}
IsFirstRefusal (ends.Scenario error) read = read ≡ Err error

-- a function for a section or a whole document gives what is read of it, unless there was no memory
abbrev pub Answers : {X : Type 0} → Result X ScenarioFail → Result X ScenarioError → Type 0
Answers (Ok x) read = read ≡ Ok x
Answers (Err fail) read = IsFirstRefusal fail read

-- an entry's refusal at a section and an index
abbrev pub fail_at : ℕ → ℕ → Fail → ScenarioFail
fail_at section index (fails.Rule rule) = ends.Scenario (record { rule = rule; section = section; index = index })
fail_at section index fails.NoMemory = ends.NoMemory
