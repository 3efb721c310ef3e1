use Rattle.std.proofs.Common.{refl, ◌∙◌}
use Rattle.fk_store.specs.Store.Paths.{path}
use Rattle.fk_kernel.proofs.Replacing.{rewritten-none, first-there, goes-rest, goes-there}
use Rattle.fk_kernel.proofs.replace.rewrite.Goals as goal

pub loop-page-init : goal.loop-page-init
loop-page-init c = record { paths = refl; rest = refl; there = c.requires }

pub rewrite_one-requires : goal.rewrite_one-requires
rewrite_one-requires c =
    let kept = c.loop-page.invariant in
    first-there c.loop-page.store (path c.args.store.now) c.args.pages.now c.loop-page.page-index _ kept.paths kept.there c.loop-page-test.true

pub loop-page-preserved : goal.loop-page-preserved
loop-page-preserved c =
    let kept = c.loop-page.invariant in
    let old = path c.args.store.now in
    let i = c.loop-page.page-index in
    record {
      paths = c.rewrite_one.ensures.paths ∙ kept.paths;
      rest = goes-rest old c.loop-page.store c.rewrite_one.new.store c.args.pages.now i _ kept.paths c.rewrite_one.ensures.world _ c.loop-page-test.true
          kept.rest;
      there = goes-there old c.loop-page.store c.rewrite_one.new.store c.args.pages.now i _ kept.paths c.rewrite_one.ensures.world kept.there;
    }

pub returns-clause-world : goal.returns-clause-world
returns-clause-world c =
    rewritten-none (path c.args.store.now) c.args.pages.now c.loop-page.page-index _ _ c.loop-page-test.false c.loop-page.invariant.rest
