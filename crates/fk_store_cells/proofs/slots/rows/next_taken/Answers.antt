use Rattle.std.proofs.Common.{◌≤◌, length, refl, arith}
use Rattle.fk_store_cells.proofs.InSlots.ScanLaws.{from_here, from_later, from_next, taken-some, taken-first, taken-next, taken-past, not_true}
use Rattle.fk_store_cells.proofs.slots.rows.next_taken.Goals as goal

pub loop-at-init : goal.loop-at-init
loop-at-init g c = record { later = from_here c.args.space c.args.slot; none = λ s k some later. later }

pub returns-in-Some-clause-some : goal.returns-in-Some-clause-some
returns-in-Some-clause-some g c =
    let found = c.in-Some.ensures.some in (
      taken-some _ c.loop-at.at c.loop-at.from _ (omega arith) c.index.ensures c.in-Some.slot found.0,
      from_later c.args.space c.args.slot c.loop-at.at c.loop-at.from c.in-Some.slot c.loop-at.invariant.later found.1,
      λ s k some later.
          taken-first _ c.loop-at.at c.loop-at.from _ (omega arith) c.index.ensures c.in-Some.slot found.2 s k some (c.loop-at.invariant.none s k some later),
    )

pub loop-at-preserved : goal.loop-at-preserved
loop-at-preserved g c = record {
  later = from_next c.args.space c.args.slot c.loop-at.at c.loop-at.from c.loop-at.invariant.later;
  none = λ s k some later. taken-next _ c.loop-at.at c.loop-at.from _ (omega arith) c.index.ensures (c.in_default.ensures.none refl) s k some
      (c.loop-at.invariant.none s k some later);
}

pub returns-clause-none : goal.returns-clause-none
returns-clause-none g c = λ is s k some. not_true _ (λ later.
    let past : length c.args.rows.now.items ≤ c.loop-at.at = omega arith in
    taken-past _ c.loop-at.at c.loop-at.from s k past some (c.loop-at.invariant.none s k some later))
