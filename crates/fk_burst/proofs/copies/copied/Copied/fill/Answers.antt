use Rattle.std.proofs.Common.{rules, ◌/◌, false, [], ◌∷◌, ap, ◌∙◌}
use Rattle.std.specs.Option.{option_copied}
use Rattle.fk_store.specs.Store.Paths.{path}
use Rattle.fk_store.specs.Store.World.{world}
use Rattle.fk_burst.specs.Copies.Copies.{burst_of, laid}
use Rattle.fk_burst.proofs.InCopies.Places.{filled}
use Rattle.fk_burst.proofs.copies.copied.Copied.fill.Goals as goal

pub returns-clause-begun : goal.returns-clause-begun
returns-clause-begun c =
    let t = c.args.thread.now in
    let first = option_copied c.near.result in
    let second = option_copied c.near-2.result in
    let third = option_copied c.near-3.result in
    let fourth = option_copied c.near-4.result in
    ap burst_of (λ i. record {
      registers = t.regs;
      counter = t.pc;
      first = t.pc / 64;
      there = c.lay.ensures.there i ∷ c.lay-2.ensures.there i ∷ c.lay-3.ensures.there i ∷ c.lay-4.ensures.there i ∷ [];
      used = false ∷ false ∷ false ∷ false ∷ [];
      words = (c.lay-4.ensures.words ∙ ap (laid 3 fourth) (c.lay-3.ensures.words ∙ ap (laid 2 third)
          (c.lay-2.ensures.words ∙ ap (laid 1 second) c.lay.ensures.words))) i;
    }) ∙ filled (world c.args.store.now) (path c.args.store.now c.args.space) t.regs t.pc c.args.self.now.words first second third fourth (search rules)
    c.near.ensures c.near-2.ensures c.near-3.ensures c.near-4.ensures
