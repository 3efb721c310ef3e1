use Rattle.std.proofs.Common.{refl, ap, arith}
use Rattle.slab.specs.Slab.{Slab}
use Rattle.fk_store_cells.specs.declared.objects.entry.Entry.{Entry}
use Rattle.fk_store_cells.proofs.InObjects.Results.{any_err}
use Rattle.fk_store_cells.proofs.InObjects.ChangeLaws.{kept, kept_filed, made_all, made_all_filed}
use Rattle.fk_store_cells.proofs.objects.objects.Objects.make.Goals as goal

pub invariant_of-self : goal.invariant_of-self
invariant_of-self c = kept_filed _ _ _ _ c.self.inside.entries c.reserve.new.self
    (ap (λ (x : Slab Entry). x.slots) c.reserve.ensures.rest_kept) (λ a k. refl) c.self.invariant

pub returns-in_err-reserve-clause-err : goal.returns-in_err-reserve-clause-err
returns-in_err-reserve-clause-err c = any_err c.from_residual.result _
    (rw (← c.self.view_is) (kept _ _ _ _ c.self.inside.entries c.reserve.new.self
    (ap (λ (x : Slab Entry). x.slots) c.reserve.ensures.rest_kept) (λ a k. refl) (λ a m. refl)))

pub invariant_of-self-in_err-put : goal.invariant_of-self-in_err-put
invariant_of-self-in_err-put c =
    kept_filed _ _ _ _ c.self.inside.entries c.reserve.new.self
    (ap (λ (x : Slab Entry). x.slots) c.reserve.ensures.rest_kept) c.in_err-put.ensures.err c.self.invariant

pub returns-in_err-put-clause-err : goal.returns-in_err-put-clause-err
returns-in_err-put-clause-err c = any_err c.from_residual-in_err-put.result _
    (rw (← c.self.view_is) (kept _ _ _ _ c.self.inside.entries c.reserve.new.self
    (ap (λ (x : Slab Entry). x.slots) c.reserve.ensures.rest_kept) c.in_err-put.ensures.err c.put.ensures.marks))

pub invariant_of-self-2 : goal.invariant_of-self-2
invariant_of-self-2 c = made_all_filed _ _ _ _ c.self.inside.entries c.reserve.new.self c.insert_reserved.new.self
    c.vacant_key-key.result c.insert_reserved.result c.args.who _ c.args.body
    c.reserve.ensures.rest_kept c.vacant_key-key.ensures.value c.insert_reserved.ensures.key c.insert_reserved.ensures.was_vacant
    c.insert_reserved.ensures.updates c.fresh.ensures (omega arith) c.in_ok-put.ensures.ok (rw (← c.self.view_is) at c.requires.empty) c.self.invariant

pub returns-clause-ok : goal.returns-clause-ok
returns-clause-ok c = rw (← c.self.view_is)
    (made_all _ _ _ _ c.self.inside.entries c.reserve.new.self c.insert_reserved.new.self
    c.vacant_key-key.result c.insert_reserved.result c.args.who _ c.args.body
    c.reserve.ensures.rest_kept c.vacant_key-key.ensures.value c.insert_reserved.ensures.key c.insert_reserved.ensures.was_vacant
    c.insert_reserved.ensures.updates c.fresh.ensures (omega arith) c.in_ok-put.ensures.ok c.put.ensures.marks)
