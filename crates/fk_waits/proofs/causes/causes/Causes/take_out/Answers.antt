use Rattle.fk_waits.proofs.InCauses.Shown.{placed_key}
use Rattle.fk_waits.proofs.InCauses.Steps.{gone_so, waited_by}
use Rattle.fk_waits.proofs.causes.causes.Causes.take_out.Goals as goal

pub leave-requires : goal.leave-requires
leave-requires c =
    let h = c.requires in placed_key c.args.self.now c.args.self.now.ready c.args.key h.before h.one h.behind h.is h.standing

pub returns-clause-standing : goal.returns-clause-standing
returns-clause-standing c a b s standing is =
    let e = c.leave.ensures in
    gone_so c.args.self.now c.leave.new.self e.heads e.room c.args.key e.filed e.len.0 e.len.1 a b s standing is

pub returns-clause-waited : goal.returns-clause-waited
returns-clause-waited c a b s standing is =
    waited_by c.args.self.now c.args.self.now.ready c.args.key c.leave.result a s b standing is c.leave.ensures.left
