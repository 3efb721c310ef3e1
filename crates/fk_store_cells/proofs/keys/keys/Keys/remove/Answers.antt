use Rattle.std.proofs.Common.{None, arith}
use Rattle.fk_store_cells.specs.Keys.Tables.{marks_in}
use Rattle.fk_store_cells.proofs.InKeys.TableLaws.{keys_put}
use Rattle.fk_store_cells.proofs.InKeys.PlaceLaws.{altered_seen, altered_here, put_kept, marks_alike, alike}
use Rattle.fk_store_cells.proofs.keys.keys.Keys.remove.Goals as goal

pub invariant_of-self : goal.invariant_of-self
invariant_of-self c =
    let alters = rw c.place_of-place.ensures at c.remove_in.ensures in
    put_kept c.self.inside.places.items c.self.inside.tables c.remove_in.new.tables c.self.invariant c.args.space c.args.slot (omega arith) None alters

pub returns-clause-left : goal.returns-clause-left
returns-clause-left c =
    let alters = rw c.place_of-place.ensures at c.remove_in.ensures in
    let here = altered_here c.self.inside.places.items c.self.inside.tables c.remove_in.new.tables c.self.invariant.placed c.args.space _ alters in
    rw (← c.self.view_is) (keys_put _ _ c.args.space _
    (altered_seen c.self.inside.places.items c.self.inside.tables c.remove_in.new.tables c.self.invariant.placed c.args.space _ alters) c.args.slot
    None here.keys)

pub returns-clause-marks : goal.returns-clause-marks
returns-clause-marks c = rw (← c.self.view_is) (marks_alike c.self.inside.tables c.remove_in.new.tables
    (alike marks_in c.self.inside.tables c.remove_in.new.tables c.place_of-place.result c.remove_in.ensures.here.marks c.remove_in.ensures.others)
    c.self.inside.places.items)
