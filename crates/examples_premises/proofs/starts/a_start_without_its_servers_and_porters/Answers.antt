use Rattle.std.proofs.Common.{[], ◌∷◌}
use Rattle.examples_premises.specs.Starts.{starts}
use Rattle.examples_premises.proofs.starts.a_start_without_its_servers_and_porters.Goals as goal

pub returns-clause-no_porter : goal.returns-clause-no_porter
unfolding starts
returns-clause-no_porter c = λ sound. let h = sound.porters (255 ∷ 1 ∷ []) in cc

pub returns-clause-no_nester : goal.returns-clause-no_nester
unfolding starts
returns-clause-no_nester c = λ sound. let h = sound.porters (255 ∷ 2 ∷ []) in cc

pub returns-clause-stray : goal.returns-clause-stray
unfolding starts
returns-clause-stray c = λ sound. let h = sound.porters (255 ∷ 1 ∷ []) in cc

pub returns-clause-unserved : goal.returns-clause-unserved
unfolding starts
returns-clause-unserved c = λ sound. let h = sound.served (8 ∷ []) in cc

pub returns-clause-no_server : goal.returns-clause-no_server
unfolding starts
returns-clause-no_server c = λ sound. let h = sound.served (9 ∷ []) in cc

pub returns-clause-other_server : goal.returns-clause-other_server
unfolding starts
returns-clause-other_server c = λ sound. let h = sound.served (9 ∷ []) in cc

pub returns-clause-two_servers : goal.returns-clause-two_servers
unfolding starts
returns-clause-two_servers c = λ sound. let h = sound.one_each in cc

pub returns-clause-one_more : goal.returns-clause-one_more
unfolding starts
returns-clause-one_more c = λ sound. let h = sound.served (7 ∷ []) in cc
