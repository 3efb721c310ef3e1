use Rattle.std.proofs.Common.{arith}
use Rattle.std.specs.Prelude.{slice_get}
use Rattle.std.proofs.lemmas.Grind.{common_steps}
use Rattle.std.proofs.lemmas.Bool.{lt-ltb}
use Rattle.std.proofs.lemmas.Option.{gets}
use Rattle.fk_restore.proofs.InOrders.Given.{part_given}
use Rattle.fk_restore.proofs.orders.words.room_words.Goals as goal

pub returns-then-part-lt6 : goal.returns-then-part-lt6
returns-then-part-lt6 c slot bind =
    part_given c.args.spaces.now slot bind c.args.pass c.args.number c.args.item c.args.part (slice_get c.args.spaces.now c.args.number) c.in-Some.space.now _
    (grind (arith, common_steps, gets)) (lt-ltb c.args.part 6 c.if-part-lt6.true) (c.part_words.ensures c.args.spaces.now slot bind c.args.number)
