-- Allowed: what the freezing rule and the picks say of a verdict, as tests.
use Rattle.std.specs.Prelude.{ℕ, Bool, true, false, not, ◌&&◌, ◌||◌, is_none, IsTrue, [], ◌∷◌, Option}
use Rattle.fk_model.specs.declared.names.Who.{Who}
use Rattle.fk_model.specs.Freezing.{are_unfrozen, body_pointers, of_fault, of_talk, MayKill, MayMove}
use Rattle.fk_model.specs.Holds.{is_frozen_for, leads_to_frozen}
use Rattle.fk_model.specs.Objects.{Fault, Talk}
use Rattle.fk_model.specs.Places.{Path}
use Rattle.fk_model.specs.Searches.{fault_pointers, option_list, peer_pointer, talk_pointers}
use Rattle.fk_model.specs.World.{World}
use Rattle.fk_store.specs.Store.Bodies.{fault_by, peer_by, pointer_by, talk_by}
use Rattle.fk_store.specs.Store.Paths.{place}
use Rattle.fk_plans.specs.Plans.Plans.{holder_by}
use Rattle.fk_plans.specs.declared.plans.plan.Deed.{Deed}
use Rattle.fk_plans.specs.declared.plans.plan.Deed.TheVariants as deeds
use Rattle.fk_plans.specs.declared.plans.plan.Effect.{Effect}
use Rattle.fk_plans.specs.declared.plans.plan.Effect.TheVariants as effects
use Rattle.fk_plans.specs.declared.plans.plan.Plan.{Plan}
use Rattle.fk_plans.specs.declared.plans.plan.Plan.TheVariants as plans
use Rattle.fk_plans.specs.declared.plans.plan.Verdict.{Verdict}
use Rattle.fk_plans.specs.declared.plans.plan.Verdict.TheVariants as verdicts

abbrev pub is_deed_allowed : World → Path → (ℕ → Path) → Deed → Bool
is_deed_allowed w me p (deeds.Locks mutex locked) = not (is_frozen_for w me (place p mutex))
is_deed_allowed w me p (deeds.Points object to) =
    not (is_frozen_for w me (place p object)) && are_unfrozen w me (body_pointers (w.body (place p object))) && not (leads_to_frozen w me (pointer_by p to))
is_deed_allowed w me p (deeds.Wakes thread mutex) = not (is_frozen_for w me (place p thread))
is_deed_allowed w me p (deeds.Sleeps thread cond mutex) = not (is_frozen_for w me (place p thread))
is_deed_allowed w me p (deeds.Records object to at) = not (is_frozen_for w me (p to.0))
is_deed_allowed w me p (deeds.Sends block) = not (is_frozen_for w me (p block.to.0))
is_deed_allowed w me p (deeds.Counts client count) = not (is_frozen_for w me (place p client))
is_deed_allowed w me p (deeds.Shifts thread count) = not (is_frozen_for w me (place p thread))
is_deed_allowed w me p (deeds.Ends thread status) = not (is_frozen_for w me (place p thread))
is_deed_allowed w me p (deeds.Finishes thread came) = not (is_frozen_for w me (place p thread))
is_deed_allowed w me p (deeds.Passes client turn) = not (is_frozen_for w me (place p client))
is_deed_allowed w me p (deeds.Unlinks client) =
    not (is_frozen_for w me (place p client)) && are_unfrozen w me (option_list (of_talk talk_pointers) (w.body (place p client)))
is_deed_allowed w me p (deeds.Links client talk) = not (is_frozen_for w me (place p client))
    && are_unfrozen w me (option_list (of_talk talk_pointers) (w.body (place p client))) && are_unfrozen w me (talk_pointers (talk_by p talk))
is_deed_allowed w me p (deeds.Serves client peer) = not (is_frozen_for w me (place p client))
    && are_unfrozen w me (option_list (of_talk (λ (talk : Talk). peer_pointer talk.peer)) (w.body (place p client)))
    && are_unfrozen w me (peer_pointer (peer_by p peer))
is_deed_allowed w me p (deeds.Frees thread) =
    not (is_frozen_for w me (place p thread)) && are_unfrozen w me (option_list (of_fault fault_pointers) (w.body (place p thread)))
is_deed_allowed w me p (deeds.Raises thread fault) = not (is_frozen_for w me (place p thread))
    && are_unfrozen w me (option_list (of_fault fault_pointers) (w.body (place p thread))) && are_unfrozen w me (fault_pointers (fault_by p fault))
is_deed_allowed w me p (deeds.Takes thread taker) = not (is_frozen_for w me (place p thread))
    && are_unfrozen w me (option_list (of_fault (λ (fault : Fault). option_list peer_pointer fault.taker)) (w.body (place p thread)))
    && are_unfrozen w me (peer_pointer (peer_by p taker))
is_deed_allowed w me p (deeds.Holds space holder) = not (is_frozen_for w me (place p space))
    && are_unfrozen w me (body_pointers (w.body (place p space))) && are_unfrozen w me (option_list (λ to. to ∷ []) (holder_by p holder))
is_deed_allowed w me p (deeds.Stops thread stops) = not (is_frozen_for w me (place p thread))
is_deed_allowed w me p (deeds.Copies from to) = not (is_frozen_for w me (p to.0))
is_deed_allowed w me p (deeds.Drops space page) = not (is_frozen_for w me (p space))

abbrev pub is_plan_allowed : World → Path → (ℕ → Path) → Plan → Bool
is_plan_allowed w me p plans.Nothing = true
is_plan_allowed w me p (plans.One a) = is_deed_allowed w me p a
is_plan_allowed w me p (plans.Two a b) = is_deed_allowed w me p a && is_deed_allowed w me p b
is_plan_allowed w me p (plans.Moves block client receiver sender) = not (is_frozen_for w me (p block.to.0))
    && (not (is_frozen_for w me (place p client)) && (not (is_frozen_for w me (place p receiver)) && not (is_frozen_for w me (place p sender))))
is_plan_allowed w me p (plans.HandsOver reference to receiver client turn) =
    is_deed_allowed w me p (deeds.Points reference to) && (not (is_frozen_for w me (place p receiver)) && not (is_frozen_for w me (place p client)))
is_plan_allowed w me p (plans.Makes object kind) = not (is_frozen_for w me (place p object))
is_plan_allowed w me p (plans.MakesHeld object holder) = not (is_frozen_for w me (place p object)) && not (is_frozen_for w me (place p holder))
is_plan_allowed w me p (plans.Gives space page source) = not (is_frozen_for w me (p space))

abbrev pub is_effect_allowed : World → Path → (ℕ → Path) → Effect → Bool
is_effect_allowed w me p (effects.Stores space page at value) = not (is_frozen_for w me (p space))
is_effect_allowed w me p other = true

-- the freezing rule allows what a verdict does
abbrev pub IsVerdictAllowed : World → Path → (ℕ → Path) → Verdict → Type 0
IsVerdictAllowed w me p (verdicts.Runs e) = IsTrue (is_effect_allowed w me p e)
IsVerdictAllowed w me p (verdicts.Refused status) = IsTrue true
IsVerdictAllowed w me p verdicts.Waits = IsTrue false
IsVerdictAllowed w me p (verdicts.Done plan answers) = IsTrue (is_plan_allowed w me p plan)
IsVerdictAllowed w me p (verdicts.Ends plan answers) = IsTrue (is_plan_allowed w me p plan)
IsVerdictAllowed w me p (verdicts.Shows plan space page) = IsTrue (is_plan_allowed w me p plan)
IsVerdictAllowed w me p (verdicts.ShowsRecord object) = IsTrue true
IsVerdictAllowed w me p (verdicts.Sets object from) = IsTrue true
IsVerdictAllowed w me p (verdicts.Renames object slot) = MayMove w me (place p object)
IsVerdictAllowed w me p (verdicts.Destroys object last) = MayKill w me (place p object)
IsVerdictAllowed w me p (verdicts.WakesAll cond) = IsTrue true
IsVerdictAllowed w me p (verdicts.Goes plan) = IsTrue (is_plan_allowed w me p plan)
IsVerdictAllowed w me p (verdicts.Tells plan news last) = IsTrue (is_plan_allowed w me p plan)
IsVerdictAllowed w me p (verdicts.Faults page write port) = IsTrue (not (is_frozen_for w me (place p port)))

-- a stage that chooses may pick, where it isn't refused; every other picks nobody
abbrev pub may_pick : Bool → Option Who → Verdict → Bool
may_pick chooses pick (verdicts.Runs e) = chooses || is_none pick
may_pick chooses pick (verdicts.Refused status) = is_none pick
may_pick chooses pick verdicts.Waits = true
may_pick chooses pick (verdicts.Done plan answers) = chooses || is_none pick
may_pick chooses pick (verdicts.Ends plan answers) = chooses || is_none pick
may_pick chooses pick (verdicts.Shows plan space page) = chooses || is_none pick
may_pick chooses pick (verdicts.ShowsRecord object) = chooses || is_none pick
may_pick chooses pick (verdicts.Sets object from) = chooses || is_none pick
may_pick chooses pick (verdicts.Renames object slot) = chooses || is_none pick
may_pick chooses pick (verdicts.Destroys object last) = chooses || is_none pick
may_pick chooses pick (verdicts.WakesAll cond) = chooses || is_none pick
may_pick chooses pick (verdicts.Goes plan) = chooses || is_none pick
may_pick chooses pick (verdicts.Tells plan news last) = chooses || is_none pick
may_pick chooses pick (verdicts.Faults page write port) = chooses || is_none pick
