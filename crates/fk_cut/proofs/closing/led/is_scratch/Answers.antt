use Rattle.fk_cut.proofs.InClosing.Leads.{scratch_at}
use Rattle.fk_cut.proofs.closing.led.is_scratch.Goals as goal

pub returns-in-Some-Space-default-Some : goal.returns-in-Some-Space-default-Some
returns-in-Some-Space-default-Some c =
    let found = c.in-Some-Space-default-Some in
    rw (c.all_three.ensures, c.from-slot.ensures) (scratch_at c.args.store.now c.args.root c.args.from found.holder found.field-0.now
    found.field-0-0 found.field-0-1 found.field-0-is found.field-0-1-is c.requires found.ensures.body)
