use Rattle.std.proofs.Common.{◌≡◌, ℕ, List, sym, ap, ◌∙◌}
use Rattle.fk_waits.specs.Causes.Names.{key_at}
use Rattle.fk_waits.specs.declared.causes.names.Name.{Name}
use Rattle.fk_waits.proofs.causes.names.Names.find_far.Goals as goal

pub invariant_of-self : goal.invariant_of-self
invariant_of-self c =
    let l = c.self.inside.items.items in
    let is : l ≡ c.args.self.now.0 = ap (λ (p : List Name × ℕ). p.0) c.self.view_is in (
      c.self.invariant.0,
      c.note.ensures.others l c.self.invariant.1,
      c.note.ensures.right l c.self.invariant.2 (ap (λ (k : List Name). key_at k c.args.who) is ∙ sym c.in_ok-key.ensures),
    )
