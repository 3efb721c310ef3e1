use Rattle.fk_pager.specs.Desks.{desk_of_root}
use Rattle.fk_pager.specs.Paged.{first_of}
use Rattle.fk_pager.proofs.Driving.{paged-out}
use Rattle.fk_pager.proofs.paged.run_paged.Goals as goal

pub returns : goal.returns
returns g c =
    let d = desk_of_root c.args.slot c.args.desk.port c.args.desk.set c.args.room in
    let first = first_of c.args.host.kernel c.args.host.services.list in
    let made = c.in_ok-run.ensures in
    let ended = c.in_ok-end.ensures in
    let new = c.drive.new.self in
    let out = paged-out c.in_ok-run.run' new d first c.args.budget c.in_ok-end.end made.here made.moment made.history ended.drives ended.within ended.end in
    rw (c.into_parts.ensures.host, c.into_parts.ensures.paged) out
