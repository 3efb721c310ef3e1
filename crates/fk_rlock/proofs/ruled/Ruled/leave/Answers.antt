use Rattle.std.proofs.Common.{rules, ap, arith, ◌∙◌, true, false}
use Rattle.atomic_table.specs.Table.{rest}
use Rattle.fk_rlock.specs.Rule.{view_at}
use Rattle.fk_rlock.proofs.Keeps.{raises, gives_it, passes}
use Rattle.fk_rlock.proofs.ruled.Ruled.leave.Goals as goal

pub store-requires : goal.store-requires
store-requires g c = let h = c.requires.held in (
  search rules,
  omega (arith, c.self.inside.sized.0),
  raises _ _ _ _ _ _ _ h.0 _ (ap (λ m. m.0) h.2) c.requires.up,
)

pub load-requires : goal.load-requires
load-requires g c = let h = c.requires.held in
    let e = c.store.ensures.2 ∙ ap (λ m. (view_at m.0.ticket true true true c.args.count m.0.parts m.0.boot, m.1)) h.2 in
    (search rules, omega (arith, c.self.inside.sized.0), gives_it _ _ _ _ _ _ _ h.0 h.1 _ e h.3 h.4)

pub fetch_add-requires : goal.fetch_add-requires
fetch_add-requires g c = let h = c.requires.held in
    let e = c.store.ensures.2 ∙ ap (λ m. (view_at m.0.ticket true true true c.args.count m.0.parts m.0.boot, m.1)) h.2 in
    let f = c.load.ensures.2 ∙ ap (λ m. (view_at m.0.ticket true true false m.0.seen m.0.parts m.0.boot, rest m.1)) e in
    (search rules, omega (arith, c.self.inside.sized.0), passes _ _ _ _ _ _ _ h.0 (ap (λ m. m.0) f))
