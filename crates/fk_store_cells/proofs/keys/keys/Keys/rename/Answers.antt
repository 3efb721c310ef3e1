use Rattle.std.proofs.Common.{arith}
use Rattle.fk_store_cells.specs.Keys.Tables.{marks_in}
use Rattle.fk_store_cells.proofs.InKeys.TableLaws.{keys_renamed}
use Rattle.fk_store_cells.proofs.InKeys.PlaceLaws.{altered_seen, altered_here, moved_kept, marks_alike, alike}
use Rattle.fk_store_cells.proofs.keys.keys.Keys.rename.Goals as goal

pub invariant_of-self : goal.invariant_of-self
invariant_of-self c =
    let alters = rw c.place_of-place.ensures at c.rename_in.ensures in
    moved_kept c.self.inside.places.items c.self.inside.tables c.rename_in.new.tables c.self.invariant c.args.space c.args.from c.args.to (omega arith) alters

pub returns-clause-moved : goal.returns-clause-moved
returns-clause-moved c =
    let alters = rw c.place_of-place.ensures at c.rename_in.ensures in
    let here = altered_here c.self.inside.places.items c.self.inside.tables c.rename_in.new.tables c.self.invariant.placed c.args.space _ alters in
    rw (← c.self.view_is) (keys_renamed _ _ c.args.space _
    (altered_seen c.self.inside.places.items c.self.inside.tables c.rename_in.new.tables c.self.invariant.placed c.args.space _ alters) c.args.from
    c.args.to here.keys)

pub returns-clause-marks : goal.returns-clause-marks
returns-clause-marks c = rw (← c.self.view_is) (marks_alike c.self.inside.tables c.rename_in.new.tables
    (alike marks_in c.self.inside.tables c.rename_in.new.tables c.place_of-place.result c.rename_in.ensures.here.marks c.rename_in.ensures.others)
    c.self.inside.places.items)
