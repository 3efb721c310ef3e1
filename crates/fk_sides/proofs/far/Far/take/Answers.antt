use Rattle.std.proofs.lemmas.Result.{err_from_is_err_and}
use Rattle.fk_sides.specs.declared.far.Makes.TheVariants as makes
use Rattle.fk_sides.specs.Sides.{packet_of}
use Rattle.fk_sides.proofs.Hearing.{taken_so, lacking_so, never_so, restores_so}
use Rattle.fk_sides.proofs.far.Far.take.Goals as goal

pub returns-in-Some-clause-told : goal.returns-in-Some-clause-told
returns-in-Some-clause-told c =
    taken_so c.args.self.now.slot c.args.self.now.makes _ c.in-Listens.came _ c.in-Listens.is (rw c.in-Some.is at c.in_ok-next-in-Listens.ensures.told)

pub returns-in-None-clause-told : goal.returns-in-None-clause-told
returns-in-None-clause-told c =
    taken_so c.args.self.now.slot c.args.self.now.makes (makes.Listens c.listen.new.came) c.in-Listens.came (packet_of c.args.packet.now) c.in-Listens.is (rw c.in-None.is at c.in_ok-next-in-Listens.ensures.told)

pub returns-in-Never-clause-told : goal.returns-in-Never-clause-told
returns-in-Never-clause-told c = never_so c.args.self.now.slot c.args.self.now.makes _ c.in-Never.is

pub returns-in-Restores-clause-told : goal.returns-in-Restores-clause-told
returns-in-Restores-clause-told c =
    restores_so c.args.self.now.slot c.args.self.now.makes c.in-Restores.restore c.in-Restores.stand _ _ c.in-Restores.is
    (c.told.ensures c.args.self.now.slot)

pub returns-in_err-next-in-Listens-clause-lacking : goal.returns-in_err-next-in-Listens-clause-lacking
returns-in_err-next-in-Listens-clause-lacking c =
    let p = err_from_is_err_and c.from_residual.result c.from_residual.ensures.1 in rw p.1 (lacking_so c.args.self.now.makes c.in-Listens.came _ c.in-Listens.is c.in_err-next-in-Listens.ensures.lacking)
