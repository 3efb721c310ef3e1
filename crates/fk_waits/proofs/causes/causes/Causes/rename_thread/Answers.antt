use Rattle.fk_waits.proofs.InCauses.Shown.{placed_key}
use Rattle.fk_waits.proofs.InCauses.Steps.{named_so}
use Rattle.fk_waits.proofs.causes.causes.Causes.rename_thread.Goals as goal

pub rename_thread-requires : goal.rename_thread-requires
rename_thread-requires c =
    let h = c.requires in placed_key c.args.self.now c.args.self.now.ready c.args.key h.before h.one h.behind h.is h.standing

pub returns-clause-standing : goal.returns-clause-standing
returns-clause-standing c a b s standing is =
    let e = c.rename_thread.ensures in
    named_so c.args.self.now c.rename_thread.new.self e.heads e.room c.args.key c.args.who e.filed e.len.0 e.len.1 a b s standing is
