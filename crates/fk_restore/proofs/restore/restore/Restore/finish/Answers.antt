use Rattle.std.proofs.Common.{subst}
use Rattle.laws_jobs.specs.Machines.{IsAtCall}
use Rattle.laws_restore.specs.Rooms.Restoring.{restore_of}
use Rattle.fk_restore.specs.Restore.Restores.{Restoring}
use Rattle.fk_restore.proofs.InRestore.Worked.{at_call}
use Rattle.fk_restore.proofs.restore.restore.Restore.finish.Goals as goal

pub returns : goal.returns
returns c =
    let i = c.self.inside in
    record {
      some = tt;
      none = subst (λ (r : Restoring). IsAtCall (restore_of r.slot r.image r.pairs) r.state) c.self.view_is
          (at_call i.slot i.image i.pairs i.phase c.in_default.not-Over);
    }
