use Rattle.laws_subtrees.proofs.InFurther.told.Laws.{words_are_told, overs_are_told}
use Rattle.laws_subtrees.proofs.further.words_and_overs_are_told.Goals as goal

pub returns-clause-words : goal.returns-clause-words
returns-clause-words c = words_are_told

pub returns-clause-overs : goal.returns-clause-overs
returns-clause-overs c = overs_are_told
