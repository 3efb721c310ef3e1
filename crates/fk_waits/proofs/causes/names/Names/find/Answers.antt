use Rattle.std.proofs.Common.{◌≡◌, ℕ, List, sym, ap, ◌∙◌}
use Rattle.fk_waits.specs.Causes.Names.{key_at, near_at}
use Rattle.fk_waits.specs.declared.causes.names.Name.{Name}
use Rattle.fk_waits.specs.declared.causes.names.Near.{Near}
use Rattle.fk_waits.proofs.InCauses.Near.{found_near, none_near}
use Rattle.fk_waits.proofs.causes.names.Names.find.Goals as goal

pub returns-then-near-own : goal.returns-then-near-own
returns-then-near-own c =
    let l = c.self.inside.items.items in
    let is : l ≡ c.args.self.now.0 = ap (λ (p : List Name × ℕ). p.0) c.self.view_is in
    let at : c.near_in-near.result ≡ near_at c.self.inside.near.items c.args.who =
    c.near_in-near.ensures ∙ ap (λ (n : List Near). near_at n c.args.who) c.deref.ensures.value in
    sym (found_near c.near_in-near.result l c.args.who c.self.inside.near.items c.self.invariant.2 at c.rank-own.ensures.few c.rank-own.ensures.slot
    (c.if-near-own.true ∙ c.rank-own.ensures.place)) ∙ ap (λ (k : List Name). key_at k c.args.who) is

pub returns-then-near-eq-NOBODY : goal.returns-then-near-eq-NOBODY
returns-then-near-eq-NOBODY c =
    let l = c.self.inside.items.items in
    let is : l ≡ c.args.self.now.0 = ap (λ (p : List Name × ℕ). p.0) c.self.view_is in
    let at : c.near_in-near.result ≡ near_at c.self.inside.near.items c.args.who =
    c.near_in-near.ensures ∙ ap (λ (n : List Near). near_at n c.args.who) c.deref.ensures.value in
    sym (none_near c.self.inside.near.items l c.args.who c.self.invariant.1 (ap (λ (n : Near). n.rank) (sym at) ∙ c.if-near-eq-NOBODY.true))
    ∙ ap (λ (k : List Name). key_at k c.args.who) is
