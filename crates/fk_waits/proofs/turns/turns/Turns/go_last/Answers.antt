use Rattle.std.proofs.Common.{sym, subst, ◌∙◌}
use Rattle.fk_waits.specs.Turns.Turns.{IsSound}
use Rattle.fk_waits.proofs.InTurns.Woken.{front_first, sound_turned}
use Rattle.fk_waits.specs.Waits.Lists.{Lists}
use Rattle.fk_waits.proofs.InWaits.Listed.{front_passes, front_stands}
use Rattle.fk_waits.proofs.turns.turns.Turns.go_last.Goals as goal

pub returns-clause-turned : goal.returns-clause-turned
returns-clause-turned c =
    let waits = c.args.self.now.waits in
    let first = front_first c.args.who waits.ready (sym c.is_front.ensures ∙ c.if-not-is_front.false) in
    c.pass.ensures ∙ sym (front_passes c.args.who waits c.once.ensures first)

pub returns-clause-stood : goal.returns-clause-stood
returns-clause-stood c =
    let waits = c.args.self.now.waits in
    front_stands c.args.who waits (front_first c.args.who waits.ready (sym c.is_front.ensures ∙ c.if-not-is_front.false))

pub returns-clause-sound : goal.returns-clause-sound
returns-clause-sound c =
    let waits = c.args.self.now.waits in
    let first = front_first c.args.who waits.ready (sym c.is_front.ensures ∙ c.if-not-is_front.false) in
    subst (λ (l : Lists). IsSound l c.args.self.now.marks) (sym (c.pass.ensures ∙ sym (front_passes c.args.who waits c.once.ensures first)))
    (sound_turned c.args.who waits c.args.self.now.marks c.requires.sound (front_stands c.args.who waits first))
