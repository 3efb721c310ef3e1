use Rattle.std.proofs.Common.{◌≡◌, ◌∷◌, ◌++◌, ℕ, List, take, drop, Some, None, if◌then◌else◌, refl, sym, ap, ◌∙◌}
use Rattle.fk_model.specs.declared.names.Who.{Who}
use Rattle.fk_waits.specs.Causes.Names.{is_same, key_at, rank}
use Rattle.fk_waits.specs.declared.causes.names.Name.{Name}
use Rattle.fk_waits.proofs.InCauses.Near.{put_near, put_right}
use Rattle.fk_waits.proofs.InCauses.Order.{is_place, key_put, rising_put, same_self}
use Rattle.fk_waits.proofs.causes.names.Names.put.Goals as goal

pub invariant_of-self : goal.invariant_of-self
invariant_of-self c =
    let l = c.self.inside.items.items in
    let at = c.place_of-at.result in
    let n : Name = record { who = c.args.who; key = c.args.key } in
    let is : l ≡ c.args.self.now.0 = ap (λ (p : List Name × ℕ). p.0) c.self.view_is in
    let place = is_place (rank c.args.who) c.deref.result.now at c.place_of-at.ensures.within c.place_of-at.ensures.before c.place_of-at.ensures.behind in
    let none : key_at l c.args.who ≡ None = rw (sym is) at c.requires.new in
    let put : (other : Who) → key_at (take at l ++ n ∷ drop at l) other ≡ (if is_same c.args.who other then Some c.args.key else key_at l other) =
    λ other. key_put l at n other (rw c.deref.ensures.value at place) in
    rw c.in-Ok.ensures.items (
      rising_put l at n c.place_of-at.ensures.slot (rw c.deref.ensures.value at place) c.self.invariant.0 none,
      put_near c.note.new.near.items l at n (c.note.ensures.others l c.self.invariant.1) c.note.ensures.mine,
      c.note.ensures.right (take at l ++ n ∷ drop at l) (put_right c.self.inside.near.items l (take at l ++ n ∷ drop at l) c.args.who c.args.key
          c.self.invariant.2 none put) (put c.args.who ∙ rw (same_self c.args.who) refl),
    )

pub returns-clause-put : goal.returns-clause-put
returns-clause-put c other =
    let l = c.self.inside.items.items in
    let at = c.place_of-at.result in
    let n : Name = record { who = c.args.who; key = c.args.key } in
    let is : l ≡ c.args.self.now.0 = ap (λ (p : List Name × ℕ). p.0) c.self.view_is in
    let place = is_place (rank c.args.who) c.deref.result.now at c.place_of-at.ensures.within c.place_of-at.ensures.before c.place_of-at.ensures.behind in
    rw (c.in-Ok.ensures.items, ← is) (key_put l at n other (rw c.deref.ensures.value at place))
