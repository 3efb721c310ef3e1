use Rattle.std.proofs.Common.{refl, sym}
use Rattle.fk_stretch.proofs.stretch.word_at.Goals as goal

pub returns-in-Some : goal.returns-in-Some
returns-in-Some c = record { words = c.in-Some.words.now; there = sym c.in-Some.ensures; is = refl }
