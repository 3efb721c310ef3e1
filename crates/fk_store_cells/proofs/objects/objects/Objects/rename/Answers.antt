use Rattle.fk_store_cells.proofs.InObjects.ChangeLaws.{contains, under_is, renamed, renamed_filed}
use Rattle.fk_store_cells.proofs.objects.objects.Objects.rename.Goals as goal

pub index-requires : goal.index-requires
index-requires c = contains _ _ c.self.inside.entries _ (rw (← c.self.view_is) at c.requires.there)

pub invariant_of-self : goal.invariant_of-self
invariant_of-self c =
    let space = (rw (← c.self.view_is) at c.requires.space) c.index.result.now (under_is _ _ c.self.inside.entries _ _ c.index.ensures) in
    renamed_filed _ _ _ _ c.self.inside.entries c.write_name.new.entries _ c.index.result.now
    c.args.to c.index.ensures space c.write_name.ensures c.self.invariant c.rename.ensures.moved
    (rw (← c.self.view_is) at c.requires.free)

pub returns : goal.returns
returns c =
    let space = (rw (← c.self.view_is) at c.requires.space) c.index.result.now (under_is _ _ c.self.inside.entries _ _ c.index.ensures) in
    rw (← c.self.view_is) (renamed _ _ _ _ c.self.inside.entries c.write_name.new.entries _ c.index.result.now
    c.args.to c.index.ensures space c.write_name.ensures c.self.invariant
    c.rename.ensures.moved c.rename.ensures.marks)
