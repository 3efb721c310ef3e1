use Rattle.fk_store_cells.proofs.InObjects.ChangeLaws.{is_key, has_name, is_small}
use Rattle.fk_store_cells.proofs.objects.objects.Objects.key.Goals as goal

pub returns-clause-key : goal.returns-clause-key
returns-clause-key c = rw (← c.self.view_is) (is_key _ _ c.self.inside.entries c.args.who c.at.result c.at.ensures)

pub returns-clause-filed : goal.returns-clause-filed
returns-clause-filed c =
    rw (← c.self.view_is) (has_name _ c.args.who c.at.result c.self.invariant (is_key _ _ c.self.inside.entries c.args.who c.at.result c.at.ensures))

pub returns-clause-small : goal.returns-clause-small
returns-clause-small c = is_small _ c.args.who c.at.result c.self.invariant (is_key _ _ c.self.inside.entries c.args.who c.at.result c.at.ensures)
