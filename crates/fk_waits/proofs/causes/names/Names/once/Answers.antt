use Rattle.std.proofs.Common.{ℕ, List, ap, subst}
use Rattle.fk_waits.specs.Causes.Names.{AreOnce}
use Rattle.fk_waits.specs.declared.causes.names.Name.{Name}
use Rattle.fk_waits.proofs.InCauses.Order.{once}
use Rattle.fk_waits.proofs.causes.names.Names.once.Goals as goal

pub returns : goal.returns
returns c = subst AreOnce (ap (λ (p : List Name × ℕ). p.0) c.self.view_is) (once c.self.inside.items.items c.self.invariant.0)
