-- The laws for one event.
use Rattle.std.proofs.Common.{◌≡◌, ℕ, ◌∷◌, Some, refl, subst}
use Rattle.fk_model.specs.Places.{Path}
use Rattle.fk_model.specs.Objects.{Body}
use Rattle.fk_model.specs.Objects.Body.{Thread_of, Mutex}
use Rattle.fk_model.specs.World.{World}
use Rattle.fk_model.specs.Outcomes.{Caller, Said}
use Rattle.fk_model.specs.LinkRows.{user_at}
use Rattle.fk_model.specs.Shapes.{IsShaped}
use Rattle.fk_model.specs.Moves.{Step, step, porter_at}
use Rattle.fk_model.specs.Runs.{Event}
use Rattle.laws_moves.specs.Whole.Runnable.{IsRunnable}
use Rattle.laws_moves.proofs.InWhole.Laws.{keeps_runnable}
use Rattle.laws_moves.proofs.InMachine.safety.Reads.{object-there}
use Rattle.laws_moves.specs.Prompt.Correct.{IsNamed, HasShapes}
use Rattle.laws_moves.specs.Prompt.Events.{PromptIsReady, IsCorrect, StepsAreCorrect}
use Rattle.laws_moves.specs.Prompt.Events.IsPrompt.{Gets, PorterGets, Holds, PorterHolds}
use Rattle.laws_moves.proofs.InPrompt.Correct.{get_state_shows, get_state_answers}
use Rattle.laws_moves.proofs.InPrompt.Setting.{set_state_of_itself, porters_set_state_of_itself}
use Rattle.laws_moves.proofs.InPrompt.Prompt.{get_state_is_prompt, porters_get_state_is_prompt}
use Rattle.laws_moves.proofs.InPrompt.Holding.{space_hold_is_prompt, porters_space_hold_is_prompt}
use Rattle.laws_moves.proofs.InPrompt.Destroying.{users_destroy_one, porters_destroy_one}
use Rattle.laws_moves.proofs.InPrompt.Brief.{moves_are_brief}

pub prompt_is_ready : PromptIsReady
prompt_is_ready w _ (Gets space slot s x address at unbarred) = get_state_is_prompt w space slot s x address at unbarred
prompt_is_ready w _ (PorterGets space slot s x address words at) = porters_get_state_is_prompt w space slot s x address words at
prompt_is_ready w _ (Holds space slot s x at may) = space_hold_is_prompt w space slot s x at may
prompt_is_ready w _ (PorterHolds space slot s x words at may) = porters_space_hold_is_prompt w space slot s x words at may

shaped-body : (w : World) → HasShapes w → (x : Path) (b : Body) → w.body x ≡ Some b → IsShaped b
shaped-body w shapes x (Thread_of t) there = shapes x t (rw there refl)
shaped-body w shapes x (Mutex locked) there = tt
shaped-body w shapes x b there = tt

-- what a caller names is well shaped, where every thread is
shaped-named : (w : World) → HasShapes w → (c : Caller) (s x : ℕ) (b : Body) → IsNamed w c s x b → IsShaped b
shaped-named w shapes c s x b named = shaped-body w shapes (x ∷ named.space) b (object-there w c x named.space b named.object)

pub steps_are_correct : StepsAreCorrect
steps_are_correct w e runs shapes = record {
  got = λ space slot s x address is at. rw is (get_state_shows w space slot s x address runs at);
  answered = λ space slot s x address words answer is at. rw is (get_state_answers w space slot s x address words answer at);
  set = λ space slot s x address is at meets. rw is (set_state_of_itself w space slot s x address runs.registers at meets
      (shaped-named w shapes (user_at (slot ∷ space)) s x meets.body meets.named));
  given = λ space slot s x address words is at gives. rw is (porters_set_state_of_itself w space slot s x address words at gives
      (shaped-named w shapes (porter_at (slot ∷ space) words) s x gives.body gives.named));
  destroyed = λ space slot s x is at. rw is (users_destroy_one w space slot s x at);
  removed = λ space slot s x words is at. rw is (porters_destroy_one w space slot s x words at);
  brief = moves_are_brief w e.mover e.pick e.ask;
  runs = keeps_runnable w e runs;
}

-- for a step that is known by what it leads to and tells
pub correct_step : (w : World) (e : Event) (v : World) (said : Said) → IsRunnable w → HasShapes w →
    step w e.mover e.pick e.ask ≡ record { world = v; said = said } → IsCorrect w e v said
correct_step w e v said runs shapes is = subst (λ (step : Step). IsCorrect w e step.world step.said) is (steps_are_correct w e runs shapes)
