use Rattle.std.proofs.Common.{◌≡◌, true, sym, subst}
use Rattle.std.specs.Prelude.{IfSome}
use Rattle.fk_image.specs.Image.Valid.{is_valid}
use Rattle.laws_jobs.specs.Machines.Head.{Asks}
use Rattle.laws_restore.specs.Restore.Restore as machine
use Rattle.laws_restore.specs.Rooms.Restoring.{restore_of}
use Rattle.fk_restore.specs.Orders.Left.{image_of}
use Rattle.fk_restore.specs.Restore.Restores.{phase_of, IsSoundPhase}
use Rattle.fk_restore.proofs.restore.restore.answered_in.Goals as goal

pub after-requires-clause-valid : goal.after-requires-clause-valid
after-requires-clause-valid c = subst (λ ss. is_valid (image_of ss) ≡ true) (sym c.as_slice-spaces.ensures) c.requires.valid

pub after-requires-clause-sound : goal.after-requires-clause-sound
after-requires-clause-sound c =
    subst (λ ss. IsSoundPhase ss c.args.slot c.as_slice-bound.result.now c.args.phase) (sym c.as_slice-spaces.ensures)
    (subst (λ ps. IsSoundPhase c.args.image.now.spaces c.args.slot ps c.args.phase) (sym c.as_slice-bound.ensures) c.requires.sound)

pub returns-clause-sound : goal.returns-clause-sound
returns-clause-sound c =
    subst (λ ps. IsSoundPhase c.args.image.now.spaces c.args.slot ps c.after.result) c.as_slice-bound.ensures
    (subst (λ ss. IsSoundPhase ss c.args.slot c.as_slice-bound.result.now c.after.result) c.as_slice-spaces.ensures c.after.ensures.sound)

pub returns-clause-state : goal.returns-clause-state
returns-clause-state c =
    subst (λ ws. phase_of c.args.image.now.spaces c.args.slot c.args.pairs.now c.after.result
    ≡ (restore_of c.args.slot c.args.image.now c.args.pairs.now).next
    (phase_of c.args.image.now.spaces c.args.slot c.args.pairs.now c.args.phase) c.args.answer.now.status ws)
    c.words_of-words.ensures
    (subst (λ ps. phase_of c.args.image.now.spaces c.args.slot ps c.after.result
    ≡ (restore_of c.args.slot c.args.image.now ps).next
    (phase_of c.args.image.now.spaces c.args.slot ps c.args.phase) c.args.answer.now.status c.words_of-words.result.now)
    c.as_slice-bound.ensures
    (subst (λ ss. phase_of ss c.args.slot c.as_slice-bound.result.now c.after.result
    ≡ (restore_of c.args.slot (image_of ss) c.as_slice-bound.result.now).next
    (phase_of ss c.args.slot c.as_slice-bound.result.now c.args.phase) c.args.answer.now.status c.words_of-words.result.now)
    c.as_slice-spaces.ensures c.after.ensures.state))
