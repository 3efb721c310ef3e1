use Rattle.laws_checkpoint.proofs.Contents.{spaces_are_read}
use Rattle.laws_checkpoint.proofs.the_spaces_are_read.Goals as goal

pub returns : goal.returns
returns c = spaces_are_read
