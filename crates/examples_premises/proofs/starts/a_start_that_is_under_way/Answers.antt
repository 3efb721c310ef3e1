use Rattle.std.proofs.Common.{[], ◌∷◌, refl}
use Rattle.examples_premises.specs.Starts.{starts}
use Rattle.examples_premises.proofs.starts.a_start_that_is_under_way.Goals as goal

pub returns-clause-held : goal.returns-clause-held
unfolding starts
returns-clause-held c = λ sound. let h = sound.idle.unheld (1 ∷ []) in cc

pub returns-clause-talking : goal.returns-clause-talking
unfolding starts
returns-clause-talking c = λ sound. let h = sound.idle.untalked (0 ∷ 1 ∷ []) in cc

pub returns-clause-faulty : goal.returns-clause-faulty
unfolding starts
returns-clause-faulty c = λ sound. let h = sound.idle.unfaulted (0 ∷ 1 ∷ []) in cc

pub returns-clause-scratch : goal.returns-clause-scratch
unfolding starts
returns-clause-scratch c = λ sound. let h = sound.clean [] 240 refl in cc
