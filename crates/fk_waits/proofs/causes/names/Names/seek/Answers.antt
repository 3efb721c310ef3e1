use Rattle.std.proofs.Common.{◌≡◌, ℕ, List, ap, ◌∙◌}
use Rattle.fk_waits.specs.Causes.Names.{key_at, rank}
use Rattle.fk_waits.specs.declared.causes.names.Name.{Name}
use Rattle.fk_waits.proofs.InCauses.Order.{is_place, place_found}
use Rattle.fk_waits.proofs.causes.names.Names.seek.Goals as goal

pub returns : goal.returns
returns c =
    let l = c.self.inside.items.items in
    let place = is_place (rank c.args.who) c.deref-2.result.now c.place_of.result c.place_of.ensures.within
    c.place_of.ensures.before c.place_of.ensures.behind in
    let there = rw c.deref.ensures.value at c.key_in.ensures.there in
    let none = rw c.deref.ensures.value at c.key_in.ensures.none in
    let is : l ≡ c.args.self.now.0 = ap (λ (p : List Name × ℕ). p.0) c.self.view_is in
    place_found l c.place_of.result c.args.who c.key_in.result (rw c.deref-2.ensures.value at place) c.self.invariant.0 there none
    ∙ ap (λ (k : List Name). key_at k c.args.who) is
