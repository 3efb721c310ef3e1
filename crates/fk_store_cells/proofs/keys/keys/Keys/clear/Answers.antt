use Rattle.std.proofs.Common.{◌<◌, ◌∙◌, length, refl, arith}
use Rattle.std.proofs.lemmas.List.{get_or_default}
use Rattle.fk_store_cells.specs.Keys.Tables.{nothing}
use Rattle.fk_store_cells.proofs.InKeys.TableLaws.{keys_cleared, marks_cleared, keys_cleared_past, marks_cleared_past}
use Rattle.fk_store_cells.proofs.InKeys.PlaceLaws.{cleared_kept, cleared_seen, shown_long}
use Rattle.fk_store_cells.proofs.keys.keys.Keys.clear.Goals as goal

pub invariant_of-self : goal.invariant_of-self
invariant_of-self c =
    let low : c.args.space < length c.self.inside.places.items = omega arith in
    let is = c.index-place.ensures ∙ get_or_default c.self.inside.places.items c.args.space _ nothing low in
    cleared_kept c.self.inside.places.items c.self.inside.tables c.give_back.new.tables c.self.invariant c.args.space _ low is c.give_back.ensures

pub returns-then-at-len-clause-keys : goal.returns-then-at-len-clause-keys
returns-then-at-len-clause-keys c =
    let low : c.args.space < length c.self.inside.places.items = omega arith in
    let is = c.index-place.ensures ∙ get_or_default c.self.inside.places.items c.args.space _ nothing low in
    rw (← c.self.view_is) (keys_cleared _ _ c.args.space _ (cleared_seen c.self.inside.places.items c.self.inside.tables c.give_back.new.tables
    c.self.invariant c.args.space _ low is c.give_back.ensures) refl)

pub returns-then-at-len-clause-marks : goal.returns-then-at-len-clause-marks
returns-then-at-len-clause-marks c =
    let low : c.args.space < length c.self.inside.places.items = omega arith in
    let is = c.index-place.ensures ∙ get_or_default c.self.inside.places.items c.args.space _ nothing low in
    rw (← c.self.view_is) (marks_cleared _ _ c.args.space _ (cleared_seen c.self.inside.places.items c.self.inside.tables c.give_back.new.tables
    c.self.invariant c.args.space _ low is c.give_back.ensures) refl)

pub returns-else-at-len-clause-keys : goal.returns-else-at-len-clause-keys
returns-else-at-len-clause-keys c = let long = shown_long c.self.inside.places.items c.self.inside.tables in
    rw (← c.self.view_is) (keys_cleared_past _ c.args.space (omega (arith, long)))

pub returns-else-at-len-clause-marks : goal.returns-else-at-len-clause-marks
returns-else-at-len-clause-marks c = let long = shown_long c.self.inside.places.items c.self.inside.tables in
    rw (← c.self.view_is) (marks_cleared_past _ c.args.space (omega (arith, long)))
