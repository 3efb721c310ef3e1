use Rattle.std.proofs.Common.{◌≡◌, true, sym, subst}
use Rattle.std.specs.Prelude.{IfSome, IfNone}
use Rattle.fk_image.specs.Image.Valid.{is_valid}
use Rattle.laws_jobs.specs.Machines.Head.{Asks}
use Rattle.laws_restore.specs.Restore.Restore as machine
use Rattle.laws_restore.specs.Rooms.Restoring.{restore_of}
use Rattle.fk_restore.specs.Orders.Left.{image_of}
use Rattle.fk_restore.specs.Restore.Restores.{phase_of, HasEnded, IsSoundPhase}
use Rattle.fk_restore.proofs.restore.restore.called.Goals as goal

pub call-requires-clause-valid : goal.call-requires-clause-valid
call-requires-clause-valid c = subst (λ ss. is_valid (image_of ss) ≡ true) (sym c.as_slice-spaces.ensures) c.requires.valid

pub call-requires-clause-sound : goal.call-requires-clause-sound
call-requires-clause-sound c =
    subst (λ ss. IsSoundPhase ss c.args.slot c.as_slice-bound.result.now c.args.phase.now) (sym c.as_slice-spaces.ensures)
    (subst (λ ps. IsSoundPhase c.args.image.now.spaces c.args.slot ps c.args.phase.now) (sym c.as_slice-bound.ensures) c.requires.sound)

pub returns-clause-asks : goal.returns-clause-asks
returns-clause-asks c =
    subst (λ ps. IfSome c.call.result (λ stage. machine.head c.args.slot (phase_of c.args.image.now.spaces c.args.slot ps c.args.phase.now)
    ≡ Asks stage c.call.new.words))
    c.as_slice-bound.ensures
    (subst (λ ss. IfSome c.call.result (λ stage. machine.head c.args.slot (phase_of ss c.args.slot c.as_slice-bound.result.now c.args.phase.now)
    ≡ Asks stage c.call.new.words))
    c.as_slice-spaces.ensures c.call.ensures.asks)

pub returns-clause-none : goal.returns-clause-none
returns-clause-none c =
    subst (λ ps. IfNone c.call.result (HasEnded (phase_of c.args.image.now.spaces c.args.slot ps c.args.phase.now))) c.as_slice-bound.ensures
    (subst (λ ss. IfNone c.call.result (HasEnded (phase_of ss c.args.slot c.as_slice-bound.result.now c.args.phase.now)))
    c.as_slice-spaces.ensures c.call.ensures.none)
