use Rattle.laws_moves.proofs.InPrompt.Prompt.{get_state_faults}
use Rattle.laws_moves.proofs.prompt.a_missing_page_is_the_callers_fault.Goals as goal

pub returns : goal.returns
returns c = get_state_faults
