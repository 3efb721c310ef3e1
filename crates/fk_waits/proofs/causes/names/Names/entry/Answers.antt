use Rattle.std.proofs.Common.{◌≡◌, ◌<◌, ℕ, List, length, get_or, true, Some, sym, ap, subst, ◌∙◌}
use Rattle.fk_waits.specs.Causes.Names.{is_same, key_at}
use Rattle.fk_waits.specs.declared.causes.names.Name.{Name}
use Rattle.fk_waits.proofs.InCauses.Order.{any_default, found_there, same_self}
use Rattle.fk_waits.proofs.causes.names.Names.entry.Goals as goal

pub returns-clause-name : goal.returns-clause-name
returns-clause-name c d =
    let l = c.self.inside.items.items in
    let is : l ≡ c.args.self.now.0 = ap (λ (p : List Name × ℕ). p.0) c.self.view_is in
    let low : c.args.place < length l = subst (λ (k : List Name). c.args.place < length k) (sym is) c.requires in
    ap (λ (k : List Name). get_or k c.args.place d) (sym is) ∙ any_default l c.args.place d c.index.result.now low ∙ sym c.index.ensures

pub returns-clause-number : goal.returns-clause-number
returns-clause-number c =
    let l = c.self.inside.items.items in
    let n = c.index.result.now in
    let is : l ≡ c.args.self.now.0 = ap (λ (p : List Name × ℕ). p.0) c.self.view_is in
    let low : c.args.place < length l = subst (λ (k : List Name). c.args.place < length k) (sym is) c.requires in
    let same : is_same (get_or l c.args.place n).who n.who ≡ true = ap (λ (m : Name). is_same m.who n.who) (sym c.index.ensures) ∙ same_self n.who in
    ap (λ (k : List Name). key_at k n.who) (sym is) ∙ found_there l c.args.place n n.who c.self.invariant.0 low same
    ∙ ap (λ (m : Name). Some m.key) (sym c.index.ensures)
