use Rattle.std.proofs.Common.{◌≡◌, ◌++◌, ℕ, suc, List, take, drop, Some, None, refl, sym, ap, ◌∙◌}
use Rattle.fk_waits.specs.Causes.Names.{key_at, near_at, rank}
use Rattle.fk_waits.specs.declared.causes.names.Name.{Name}
use Rattle.fk_waits.specs.declared.causes.names.Near.{Near}
use Rattle.fk_waits.proofs.InCauses.Near.{left_near, none_near}
use Rattle.fk_waits.proofs.InCauses.Order.{found, is_place, key_left, none_left, not_found, rising_left}
use Rattle.fk_waits.proofs.causes.names.Names.take.Goals as goal

pub returns-in-None-clause-taken : goal.returns-in-None-clause-taken
returns-in-None-clause-taken c =
    let l = c.self.inside.items.items in
    let at = c.place_of-at.result in
    let is : l ≡ c.args.self.now.0 = ap (λ (p : List Name × ℕ). p.0) c.self.view_is in
    let d : Name = record { who = c.args.who; key = 0 } in
    let first = is_place (rank c.args.who) c.deref-2.result.now at c.place_of-at.ensures.within c.place_of-at.ensures.before c.place_of-at.ensures.behind in
    let place = rw c.deref-2.ensures.value at first in
    let differs = rw c.deref-3.ensures.value at c.in-None.ensures.none in
    let none : key_at l c.args.who ≡ None = not_found l at d c.args.who place c.self.invariant.0 (differs refl d) in
    sym none ∙ ap (λ (k : List Name). key_at k c.args.who) is

pub returns-in-None-clause-left : goal.returns-in-None-clause-left
returns-in-None-clause-left c other =
    let l = c.self.inside.items.items in
    let at = c.place_of-at.result in
    let is : l ≡ c.args.self.now.0 = ap (λ (p : List Name × ℕ). p.0) c.self.view_is in
    let d : Name = record { who = c.args.who; key = 0 } in
    let first = is_place (rank c.args.who) c.deref-2.result.now at c.place_of-at.ensures.within c.place_of-at.ensures.before c.place_of-at.ensures.behind in
    let place = rw c.deref-2.ensures.value at first in
    let differs = rw c.deref-3.ensures.value at c.in-None.ensures.none in
    let none : key_at l c.args.who ≡ None = not_found l at d c.args.who place c.self.invariant.0 (differs refl d) in
    rw (← is) (none_left l c.args.who other none)

pub invariant_of-self : goal.invariant_of-self
invariant_of-self c =
    let l = c.self.inside.items.items in
    let at = c.place_of-at.result in
    let d : Name = record { who = c.args.who; key = 0 } in
    let first = is_place (rank c.args.who) c.deref-2.result.now at c.place_of-at.ensures.within c.place_of-at.ensures.before c.place_of-at.ensures.behind in
    let place = rw c.deref-2.ensures.value at first in
    let there = rw c.deref-3.ensures.value at c.in-Some.ensures.there in
    let here = there.1 d in
    rw c.remove.ensures.items (
      rising_left l at c.self.invariant.0,
      left_near c.forget.new.near.items l at (c.forget.ensures.others l c.self.invariant.1),
      c.forget.ensures.right l (take at l ++ drop (suc at) l) c.self.invariant.2
          (λ other. key_left l at d c.args.who other place c.self.invariant.0 there.0 here.0),
    )

pub returns-in-Some-clause-taken : goal.returns-in-Some-clause-taken
returns-in-Some-clause-taken c =
    let l = c.self.inside.items.items in
    let at = c.place_of-at.result in
    let is : l ≡ c.args.self.now.0 = ap (λ (p : List Name × ℕ). p.0) c.self.view_is in
    let d : Name = record { who = c.args.who; key = 0 } in
    let first = is_place (rank c.args.who) c.deref-2.result.now at c.place_of-at.ensures.within c.place_of-at.ensures.before c.place_of-at.ensures.behind in
    let place = rw c.deref-2.ensures.value at first in
    let there = rw c.deref-3.ensures.value at c.in-Some.ensures.there in
    let here = there.1 d in
    sym (found l at d c.args.who place there.0 here.0 ∙ ap (λ (k : ℕ). Some k) here.1) ∙ ap (λ (k : List Name). key_at k c.args.who) is

pub returns-in-Some-clause-left : goal.returns-in-Some-clause-left
returns-in-Some-clause-left c other =
    let l = c.self.inside.items.items in
    let at = c.place_of-at.result in
    let is : l ≡ c.args.self.now.0 = ap (λ (p : List Name × ℕ). p.0) c.self.view_is in
    let d : Name = record { who = c.args.who; key = 0 } in
    let first = is_place (rank c.args.who) c.deref-2.result.now at c.place_of-at.ensures.within c.place_of-at.ensures.before c.place_of-at.ensures.behind in
    let place = rw c.deref-2.ensures.value at first in
    let there = rw c.deref-3.ensures.value at c.in-Some.ensures.there in
    let here = there.1 d in
    rw (c.remove.ensures.items, ← is) (key_left l at d c.args.who other place c.self.invariant.0 there.0 here.0)

pub returns-then-near-eq-NOBODY-clause-taken : goal.returns-then-near-eq-NOBODY-clause-taken
returns-then-near-eq-NOBODY-clause-taken c =
    let l = c.self.inside.items.items in
    let is : l ≡ c.args.self.now.0 = ap (λ (p : List Name × ℕ). p.0) c.self.view_is in
    let at : c.near_in-near.result ≡ near_at c.self.inside.near.items c.args.who =
    c.near_in-near.ensures ∙ ap (λ (n : List Near). near_at n c.args.who) c.deref.ensures.value in
    sym (none_near c.self.inside.near.items l c.args.who c.self.invariant.1 (ap (λ (n : Near). n.rank) (sym at) ∙ c.if-near-eq-NOBODY.true))
    ∙ ap (λ (k : List Name). key_at k c.args.who) is

pub returns-then-near-eq-NOBODY-clause-left : goal.returns-then-near-eq-NOBODY-clause-left
returns-then-near-eq-NOBODY-clause-left c other =
    let l = c.self.inside.items.items in
    let is : l ≡ c.args.self.now.0 = ap (λ (p : List Name × ℕ). p.0) c.self.view_is in
    let at : c.near_in-near.result ≡ near_at c.self.inside.near.items c.args.who =
    c.near_in-near.ensures ∙ ap (λ (n : List Near). near_at n c.args.who) c.deref.ensures.value in
    let none = none_near c.self.inside.near.items l c.args.who c.self.invariant.1 (ap (λ (n : Near). n.rank) (sym at) ∙ c.if-near-eq-NOBODY.true) in
    rw (← is) (none_left l c.args.who other none)
