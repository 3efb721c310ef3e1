use Rattle.std.proofs.Common.{◌∙◌, ap, cond, Some, ◌&&◌, ◌==◌, arith}
use Rattle.slab.specs.Slab.{get}
use Rattle.fk_store_cells.specs.Keys.Tables.{marked_in, place_at, all_keys, all_marks, mark_at}
use Rattle.fk_store_cells.specs.Slots.Cells.{cell}
use Rattle.fk_store_cells.proofs.InKeys.Results.{any_err}
use Rattle.fk_store_cells.proofs.InKeys.TableLaws.{keys_put, marks_same, same_keys, same_marks}
use Rattle.fk_store_cells.proofs.InKeys.PlaceLaws.{grown_all, grown_same, altered_seen, altered_here, put_kept, alike_kept, shown_alike, vacant_of}
use Rattle.fk_store_cells.proofs.InKeys.PlaceLaws.{added_kept, added_seen, added_keys, added_marks}
use Rattle.fk_store_cells.proofs.keys.keys.Keys.put.Goals as goal

-- no room for more places
pub invariant_of-self : goal.invariant_of-self
invariant_of-self c = grown_all c.self.inside.places.items c.grow.new.places.items c.self.inside.tables c.self.invariant c.grow.ensures.same c.grow.ensures.few

pub returns-in_err-grow-clause-err : goal.returns-in_err-grow-clause-err
returns-in_err-grow-clause-err c = rw (← c.self.view_is) (any_err c.from_residual.result _
    (same_keys _ _ (grown_same c.self.inside.places.items c.grow.new.places.items c.self.inside.tables c.self.invariant.placed.none c.grow.ensures.same)))

pub returns-in_err-grow-clause-marks : goal.returns-in_err-grow-clause-marks
returns-in_err-grow-clause-marks c = rw (← c.self.view_is) (same_marks _ _
    (grown_same c.self.inside.places.items c.grow.new.places.items c.self.inside.tables c.self.invariant.placed.none c.grow.ensures.same))

-- the space has a table
pub invariant_of-self-then-contains : goal.invariant_of-self-then-contains
invariant_of-self-then-contains c =
    let grown = grown_all c.self.inside.places.items c.grow.new.places.items c.self.inside.tables c.self.invariant c.grow.ensures.same c.grow.ensures.few in
    let alters = rw c.place_of-place.ensures at c.put_in.ensures in
    put_kept c.grow.new.places.items c.self.inside.tables c.put_in.new.tables grown c.args.space c.args.slot (omega arith) (Some c.args.key) alters

pub returns-then-contains-clause-ok : goal.returns-then-contains-clause-ok
returns-then-contains-clause-ok c =
    let grown = grown_all c.self.inside.places.items c.grow.new.places.items c.self.inside.tables c.self.invariant c.grow.ensures.same c.grow.ensures.few in
    let alters = rw c.place_of-place.ensures at c.put_in.ensures in
    let here = altered_here c.grow.new.places.items c.self.inside.tables c.put_in.new.tables grown.placed c.args.space _ alters in
    rw (← c.self.view_is) (λ s k. keys_put _ _ c.args.space _
    (altered_seen c.grow.new.places.items c.self.inside.tables c.put_in.new.tables grown.placed c.args.space _ alters)
    c.args.slot (Some c.args.key) here.keys s k
    ∙ ap (cond (s == c.args.space && k == c.args.slot) (Some c.args.key))
    (same_keys _ _ (grown_same c.self.inside.places.items c.grow.new.places.items c.self.inside.tables c.self.invariant.placed.none c.grow.ensures.same) s k))

pub returns-then-contains-clause-marks : goal.returns-then-contains-clause-marks
returns-then-contains-clause-marks c =
    let grown = grown_all c.self.inside.places.items c.grow.new.places.items c.self.inside.tables c.self.invariant c.grow.ensures.same c.grow.ensures.few in
    let alters = rw c.place_of-place.ensures at c.put_in.ensures in
    let here = altered_here c.grow.new.places.items c.self.inside.tables c.put_in.new.tables grown.placed c.args.space _ alters in
    rw (← c.self.view_is) (λ s m. marks_same _ _ c.args.space _
    (altered_seen c.grow.new.places.items c.self.inside.tables c.put_in.new.tables grown.placed c.args.space _ alters)
    (λ m. ap (λ marks. marked_in marks m) here.marks) s m ∙ same_marks _ _
    (grown_same c.self.inside.places.items c.grow.new.places.items c.self.inside.tables c.self.invariant.placed.none c.grow.ensures.same) s m)

-- no room for a table
pub invariant_of-self-in_err-place : goal.invariant_of-self-in_err-place
invariant_of-self-in_err-place c =
    let grown = grown_all c.self.inside.places.items c.grow.new.places.items c.self.inside.tables c.self.invariant c.grow.ensures.same c.grow.ensures.few in
    alike_kept c.grow.new.places.items c.self.inside.tables c.add.new.tables c.in_err-place.ensures.err grown

pub returns-in_err-place-clause-err : goal.returns-in_err-place-clause-err
returns-in_err-place-clause-err c = rw (← c.self.view_is) (any_err c.from_residual-in_err-place.result _
    (λ s k. ap (λ ts. cell (all_keys ts) s k) (shown_alike c.self.inside.tables c.add.new.tables c.in_err-place.ensures.err c.grow.new.places.items)
    ∙ same_keys _ _ (grown_same c.self.inside.places.items c.grow.new.places.items c.self.inside.tables c.self.invariant.placed.none
    c.grow.ensures.same) s k))

pub returns-in_err-place-clause-marks : goal.returns-in_err-place-clause-marks
returns-in_err-place-clause-marks c = rw (← c.self.view_is)
    (λ s m. ap (λ ts. mark_at (all_marks ts) s m) (shown_alike c.self.inside.tables c.add.new.tables c.in_err-place.ensures.err
    c.grow.new.places.items) ∙ same_marks _ _ (grown_same c.self.inside.places.items c.grow.new.places.items c.self.inside.tables
    c.self.invariant.placed.none c.grow.ensures.same) s m)

-- a table comes
pub invariant_of-self-2 : goal.invariant_of-self-2
invariant_of-self-2 c =
    let grown = grown_all c.self.inside.places.items c.grow.new.places.items c.self.inside.tables c.self.invariant c.grow.ensures.same c.grow.ensures.few in
    let free = vacant_of (get c.self.inside.tables (place_at c.grow.new.places.items c.args.space)) c.contains.result
    (rw c.place_of-place.ensures at c.contains.ensures) c.if-contains.false in
    added_kept c.grow.new.places.items c.self.inside.tables c.add.new.tables grown c.args.space c.args.slot c.args.key c.in_ok-place.place
    c.in_ok-grow.ensures.long free c.in_ok-place.ensures.ok (omega arith)

pub returns-clause-ok : goal.returns-clause-ok
returns-clause-ok c =
    let grown = grown_all c.self.inside.places.items c.grow.new.places.items c.self.inside.tables c.self.invariant c.grow.ensures.same c.grow.ensures.few in
    let free = vacant_of (get c.self.inside.tables (place_at c.grow.new.places.items c.args.space)) c.contains.result
    (rw c.place_of-place.ensures at c.contains.ensures) c.if-contains.false in
    rw (← c.self.view_is) (λ s k. keys_put _ _ c.args.space _
    (added_seen c.grow.new.places.items c.self.inside.tables c.add.new.tables grown c.args.space c.args.slot c.args.key c.in_ok-place.place
    c.in_ok-grow.ensures.long free c.in_ok-place.ensures.ok) c.args.slot (Some c.args.key)
    (added_keys c.grow.new.places.items c.self.inside.tables c.add.new.tables grown c.args.space c.args.slot c.args.key c.in_ok-place.place
    c.in_ok-grow.ensures.long free c.in_ok-place.ensures.ok) s k
    ∙ ap (cond (s == c.args.space && k == c.args.slot) (Some c.args.key))
    (same_keys _ _ (grown_same c.self.inside.places.items c.grow.new.places.items c.self.inside.tables c.self.invariant.placed.none c.grow.ensures.same) s k))

pub returns-clause-marks : goal.returns-clause-marks
returns-clause-marks c =
    let grown = grown_all c.self.inside.places.items c.grow.new.places.items c.self.inside.tables c.self.invariant c.grow.ensures.same c.grow.ensures.few in
    let free = vacant_of (get c.self.inside.tables (place_at c.grow.new.places.items c.args.space)) c.contains.result
    (rw c.place_of-place.ensures at c.contains.ensures) c.if-contains.false in
    rw (← c.self.view_is) (λ s m. marks_same _ _ c.args.space _
    (added_seen c.grow.new.places.items c.self.inside.tables c.add.new.tables grown c.args.space c.args.slot c.args.key c.in_ok-place.place
    c.in_ok-grow.ensures.long free c.in_ok-place.ensures.ok)
    (added_marks c.grow.new.places.items c.self.inside.tables c.add.new.tables grown c.args.space c.args.slot c.args.key c.in_ok-place.place
    c.in_ok-grow.ensures.long free c.in_ok-place.ensures.ok) s m
    ∙ same_marks _ _ (grown_same c.self.inside.places.items c.grow.new.places.items c.self.inside.tables c.self.invariant.placed.none
    c.grow.ensures.same) s m)
