use Rattle.std.proofs.Common.{refl}
use Rattle.fk_model.specs.World.{apply_all}
use Rattle.fk_calls.proofs.calls.silent.rename_silently.Goals as goal
use Rattle.fk_calls.proofs.calls.silent.rename_silently.Goals.{then-is_itself, else-is_itself}

pub returns : goal.returns
unfolding apply_all
returns c = record {
  step = elim c.if-is_itself.branch [
    | then-is_itself w ↦
        rw (
          c.requires.user,
          ← c.is_named-is_itself.ensures,
          w.if-is_itself.true,
          c.finish.ensures.world,
          w.me-is,
          c.move_to.ensures.target,
          c.move_to.ensures.world,
        )
        refl
    | else-is_itself w ↦
        rw (
          c.requires.user,
          ← c.is_named-is_itself.ensures,
          w.if-is_itself.false,
          c.finish.ensures.world,
          w.me-is,
          c.move_to.ensures.places c.args.caller.who c.requires.live,
          c.move_to.ensures.world,
        ) refl
  ];
}
