use Rattle.fk_model.specs.Places.Ptr.{At}
use Rattle.fk_store.specs.Store.World.{place_of}
use Rattle.fk_cut.specs.Closing.Walks.{seen}
use Rattle.fk_cut.proofs.InClosing.Leads.{held_outside}
use Rattle.fk_cut.proofs.closing.far.is_held_outside.Goals as goal

pub returns-in-Some : goal.returns-in-Some
returns-in-Some c = λ q is. rw (c.in-Some.is, c.all_three.ensures, c.eq-top.ensures)
    (held_outside c.args.store.now c.args.root c.args.who q c.requires.own is
    (seen c.args.store.now c.args.root (At (place_of c.args.store.now c.in-Some.holder))) c.is_outside.result c.is_outside.ensures)
