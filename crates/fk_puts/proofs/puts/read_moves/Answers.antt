use Rattle.std.proofs.Common.{◌≤◌, All, None, length, take, sym, subst, rules}
use Rattle.std.proofs.lemmas.List.{take_all, take_more}
use Rattle.std.proofs.lemmas.List.Elements.{All-push}
use Rattle.std.specs.List.{slice_index_or}
use Rattle.fk_model.specs.declared.moves.Move.{Move}
use Rattle.fk_puts.proofs.puts.read_moves.Goals as goal
use Rattle.fk_trace_text.specs.Trace.{IsMove}

pub loop-one-preserved : goal.loop-one-preserved
loop-one-preserved c =
    let moves = c.args.moves.now in
    let at = c.loop-one.one-index in
    let other : Move = record { who = record { space = 0; slot = 0 }; pick = None } in
    subst (All IsMove) (sym (take_more moves at other c.loop-one-test.true))
    (All-push IsMove (take at moves) (slice_index_or moves at other) c.loop-one.invariant c.read_move.ensures)

pub returns : goal.returns
returns c =
    let whole : length c.args.moves.now ≤ c.loop-one.one-index = search rules in
    subst (All IsMove) (take_all c.loop-one.one-index c.args.moves.now whole) c.loop-one.invariant
