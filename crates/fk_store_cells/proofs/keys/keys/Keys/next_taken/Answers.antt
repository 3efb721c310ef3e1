use Rattle.std.proofs.Common.{◌≤◌, length, refl, arith}
use Rattle.fk_store_cells.proofs.InSlots.ScanLaws.{from_here, from_later, from_next, taken-some, taken-first, taken-next, taken-past, not_true}
use Rattle.fk_store_cells.specs.Keys.Tables.{all_keys, shown}
use Rattle.fk_store_cells.proofs.InKeys.TableLaws.{rows_long}
use Rattle.fk_store_cells.proofs.InKeys.PlaceLaws.{row_read, shown_long}
use Rattle.fk_store_cells.proofs.keys.keys.Keys.next_taken.Goals as goal

pub loop-at-init : goal.loop-at-init
loop-at-init c = record { later = from_here c.args.space c.args.slot; none = λ s k some later. later }

pub returns-in-Some-clause-some : goal.returns-in-Some-clause-some
returns-in-Some-clause-some c =
    let ts = shown c.self.inside.places.items c.self.inside.tables in
    let found = c.in-Some.ensures.some in
    let long = rows_long ts in
    let all = shown_long c.self.inside.places.items c.self.inside.tables in
    let row = row_read c.self.inside.places.items c.self.inside.tables c.self.invariant c.loop-at.at _ c.table_at-table.ensures (omega arith) in
    let so_far = rw (← c.self.view_is) at c.loop-at.invariant in
    rw (← c.self.view_is) (
      taken-some (all_keys ts) c.loop-at.at c.loop-at.from _ (omega (arith, long, all)) row c.in-Some.slot found.0,
      from_later c.args.space c.args.slot c.loop-at.at c.loop-at.from c.in-Some.slot so_far.later found.1,
      λ s k some later.
          taken-first (all_keys ts) c.loop-at.at c.loop-at.from _ (omega (arith, long, all)) row c.in-Some.slot found.2 s k some (so_far.none s k some later),
    )

pub loop-at-preserved : goal.loop-at-preserved
loop-at-preserved c =
    let ts = shown c.self.inside.places.items c.self.inside.tables in
    let long = rows_long ts in
    let all = shown_long c.self.inside.places.items c.self.inside.tables in
    let row = row_read c.self.inside.places.items c.self.inside.tables c.self.invariant c.loop-at.at _ c.table_at-table.ensures (omega arith) in
    let so_far = rw (← c.self.view_is) at c.loop-at.invariant in
    rw (← c.self.view_is) (record {
      later = from_next c.args.space c.args.slot c.loop-at.at c.loop-at.from so_far.later;
      none = λ s k some later. taken-next (all_keys ts) c.loop-at.at c.loop-at.from _ (omega (arith, long, all)) row (c.in_default.ensures.none refl) s k some
          (so_far.none s k some later);
    })

pub returns-clause-none : goal.returns-clause-none
returns-clause-none c =
    let ts = shown c.self.inside.places.items c.self.inside.tables in
    let long = rows_long ts in
    let all = shown_long c.self.inside.places.items c.self.inside.tables in
    let so_far = rw (← c.self.view_is) at c.loop-at.invariant in
    rw (← c.self.view_is) (λ is s k some. not_true _ (λ later.
    let past : length (all_keys ts) ≤ c.loop-at.at = omega (arith, long, all) in
    taken-past (all_keys ts) c.loop-at.at c.loop-at.from s k past some (so_far.none s k some later)))
