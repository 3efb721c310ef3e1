use Rattle.std.proofs.Common.{IsSome, subst, sym}
use Rattle.slab.specs.Slab.{get}
use Rattle.fk_store_cells.specs.Keys.Tables.{keys_in}
use Rattle.fk_store_cells.proofs.InKeys.TableLaws.{marks_put}
use Rattle.fk_store_cells.proofs.InKeys.PlaceLaws.{altered_seen, altered_here, marked_kept, keys_alike, alike, has_table}
use Rattle.fk_store_cells.proofs.keys.keys.Keys.mark.Goals as goal

pub mark_in-requires-clause-there : goal.mark_in-requires-clause-there
mark_in-requires-clause-there c = subst (λ p. IsSome (get c.self.inside.tables p)) (sym c.place_of-place.ensures)
    (has_table c.self.inside.places.items c.self.inside.tables c.self.invariant.placed.none c.args.space c.args.slot
    (rw (← c.self.view_is) at c.requires.there))

pub invariant_of-self : goal.invariant_of-self
invariant_of-self c =
    let alters = rw c.place_of-place.ensures at c.mark_in.ensures in
    marked_kept c.self.inside.places.items c.self.inside.tables c.mark_in.new.tables c.self.invariant c.args.space c.args.mark alters

pub returns-clause-keys : goal.returns-clause-keys
returns-clause-keys c = rw (← c.self.view_is) (keys_alike c.self.inside.tables c.mark_in.new.tables
    (alike keys_in c.self.inside.tables c.mark_in.new.tables c.place_of-place.result c.mark_in.ensures.here.keys c.mark_in.ensures.others)
    c.self.inside.places.items)

pub returns-clause-marks : goal.returns-clause-marks
returns-clause-marks c =
    let alters = rw c.place_of-place.ensures at c.mark_in.ensures in
    let here = altered_here c.self.inside.places.items c.self.inside.tables c.mark_in.new.tables c.self.invariant.placed c.args.space _ alters in
    rw (← c.self.view_is) (marks_put _ _ c.args.space _
    (altered_seen c.self.inside.places.items c.self.inside.tables c.mark_in.new.tables c.self.invariant.placed c.args.space _ alters) c.args.mark here.marks)
