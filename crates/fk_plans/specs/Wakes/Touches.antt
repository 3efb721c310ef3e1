-- Touches: which objects a move may change.
use Rattle.std.specs.Prelude.{◌≡◌, ℕ, Bool, true, false, ◌||◌, ◌&&◌, ◌==◌, List, [], ◌∷◌, Option, Some, None}
use Rattle.fk_model.specs.declared.moves.Ask.TheVariants as asks
use Rattle.fk_model.specs.declared.names.Who.{Who}
use Rattle.fk_model.specs.Moves.{outcome}
use Rattle.fk_model.specs.Objects.{holds}
use Rattle.fk_model.specs.Outcomes.{Outcome, listed}
use Rattle.fk_model.specs.Outcomes.Outcome.{Goes, Refused, Waits}
use Rattle.fk_model.specs.Places.{Path, same_path}
use Rattle.fk_model.specs.Searches.{client_at}
use Rattle.fk_model.specs.World.{World, Change}
use Rattle.fk_model.specs.World.Change.{Alter, Kill, Make, MakeSpace, Move}
use Rattle.fk_model.specs.World.Edit.{Finish}
use Rattle.fk_store.specs.Store.Paths.{place}
use Rattle.fk_plans.specs.declared.plans.plan.Deed.{Deed}
use Rattle.fk_plans.specs.declared.plans.plan.Deed.TheVariants as deeds
use Rattle.fk_plans.specs.declared.plans.plan.Plan.{Plan}
use Rattle.fk_plans.specs.declared.plans.plan.Plan.TheVariants as plans
use Rattle.fk_plans.specs.declared.plans.plan.Verdict.{Verdict}
use Rattle.fk_plans.specs.declared.plans.plan.Verdict.TheVariants as verdicts
use Rattle.laws_moves.specs.Machine.Frame.{name_body}
use Rattle.fk_plans.specs.declared.wakes.touching.Touched.{Touched}
use Rattle.fk_plans.specs.declared.wakes.touching.Touched.TheVariants.{Any, Dies, Few, Makes, Moves}

-- the object that a deed changes
abbrev pub changed_by : Deed → Option Who
changed_by (deeds.Locks mutex locked) = Some mutex
changed_by (deeds.Points object to) = Some object
changed_by (deeds.Wakes thread mutex) = Some thread
changed_by (deeds.Sleeps thread cond mutex) = Some thread
changed_by (deeds.Sends block) = None
changed_by (deeds.Records object to at) = None
changed_by (deeds.Counts client count) = Some client
changed_by (deeds.Shifts thread count) = Some thread
changed_by (deeds.Ends thread status) = Some thread
changed_by (deeds.Finishes thread came) = Some thread
changed_by (deeds.Passes client turn) = Some client
changed_by (deeds.Unlinks client) = Some client
changed_by (deeds.Links client talk) = Some client
changed_by (deeds.Serves client peer) = Some client
changed_by (deeds.Frees thread) = Some thread
changed_by (deeds.Raises thread fault) = Some thread
changed_by (deeds.Takes thread taker) = Some thread
changed_by (deeds.Holds space holder) = Some space
changed_by (deeds.Stops thread stops) = Some thread
changed_by (deeds.Copies from to) = None
changed_by (deeds.Drops space page) = None

-- the objects that a plan changes
abbrev pub planned : Plan → Touched
planned plans.Nothing = Few None None None
planned (plans.One a) = Few (changed_by a) None None
planned (plans.Two a b) = Few (changed_by a) (changed_by b) None
planned (plans.Moves block client receiver sender) = Few (Some client) (Some receiver) (Some sender)
planned (plans.HandsOver reference to receiver client turn) = Few (Some reference) (Some receiver) (Some client)
planned (plans.Makes object kind) = Makes object
planned (plans.MakesHeld object holder) = Makes object
planned (plans.Gives space page source) = Few None None None

-- and a verdict besides its caller
abbrev pub judged : Verdict → Touched
judged (verdicts.Done plan answers) = planned plan
judged (verdicts.Ends plan answers) = planned plan
judged (verdicts.Shows plan space page) = planned plan
judged (verdicts.Goes plan) = planned plan
judged (verdicts.Tells plan news last) = planned plan
judged (verdicts.Sets object from) = Few (Some object) None None
judged (verdicts.Renames object slot) = Moves object slot
judged (verdicts.Destroys object last) = Dies object
judged (verdicts.WakesAll cond) = Any
judged other = Few None None None

-- a path is where a name leads
abbrev pub is_at : (ℕ → Path) → Option Who → Path → Bool
is_at p who x = holds (λ (w : Who). same_path x (place p w)) who

-- a change may reach an object; of many changes it isn't told which
abbrev pub is_touched : (ℕ → Path) → Touched → Path → Bool
is_touched p (Few first second third) x = is_at p first x || (is_at p second x || is_at p third x)
is_touched p (Makes object) x = same_path x (place p object)
is_touched p other x = true

-- something is made
abbrev pub is_making : Touched → Bool
is_making (Makes object) = true
is_making other = false

abbrev pub makes : (ℕ → Path) → Touched → Path → Bool
makes p (Makes object) x = same_path x (place p object)
makes p other x = false

abbrev pub dies : (ℕ → Path) → Touched → Path → Bool
dies p (Dies object) x = same_path x (place p object)
dies p other x = false

abbrev pub moves : (ℕ → Path) → Touched → Path → ℕ → Bool
moves p (Moves object slot) x to = same_path x (place p object) && slot == to
moves p other x to = false

-- a change makes nothing and takes nothing from its place but what is told
abbrev pub leaves : (ℕ → Path) → Touched → Change → Bool
leaves p touched (Make x body) = makes p touched x
leaves p touched (MakeSpace x holder) = makes p touched x
leaves p touched (Kill x) = dies p touched x
leaves p touched (Move x slot) = moves p touched x slot
leaves p touched other = true

-- changes reach no other objects than these
abbrev pub leave : (ℕ → Path) → Touched → List Change → Bool
leave p touched [] = true
leave p touched (c ∷ cs) = leaves p touched c && leave p touched cs

-- calls are done, and nothing else
abbrev pub are_done : List Change → Bool
are_done [] = true
are_done (Alter x (Finish answers) ∷ cs) = are_done cs
are_done other = false

-- what gets another slot gets it first of all, and after it calls are done alone
abbrev pub moves_first : (ℕ → Path) → Touched → List Change → Bool
moves_first p (Moves object slot) (Move x to ∷ cs) = (same_path x (place p object) && slot == to) && are_done cs
moves_first p (Moves object slot) other = false
moves_first p other cs = true

-- the same of what a move comes to
abbrev pub MovesFirst : (ℕ → Path) → Touched → Outcome → Type 0
MovesFirst p touched (Goes changes said) = moves_first p touched changes ≡ true
MovesFirst p touched (Refused status) = Unit {0}
MovesFirst p touched Waits = Unit {0}

-- no body but one's is named, nothing is made, and nothing is taken from its place
pub record TouchesOne (p : ℕ → Path) (touched : Touched) (w : World) (who : Option Path) (cs : List Change) : Type 0 where
  pub names : (x : Path) → name_body w cs x ≡ true → holds (λ (y : Path). same_path x y) who ≡ true
  pub leaves : leave p touched cs ≡ true

-- an act of a native server changes its client alone, the one that it picks or has
pub record ActsTouch (p : ℕ → Path) (touched : Touched) (w : World) (port : Path) (pick : Option Path) : Type 0 where
  pub accept : TouchesOne p touched w pick (listed (outcome w port pick asks.Accept))
  pub give : (words : List ℕ) (len : ℕ) → TouchesOne p touched w (client_at w port) (listed (outcome w port pick (asks.Give words len)))
  pub over : TouchesOne p touched w (client_at w port) (listed (outcome w port pick asks.Over))
