use Rattle.std.proofs.Common.{sym, ◌∙◌}
use Rattle.fk_store.specs.Store.Paths.{path}
use Rattle.fk_turns.proofs.whys.whys.locked_before.Goals as goal

pub locked_at-requires : goal.locked_at-requires
locked_at-requires c =
    let m = c.args.store.now in
    record {
      unheld = c.requires.unheld;
      there = c.requires.there;
      awake = sym (c.is_resting.ensures (path m)) ∙ c.if-is_resting.false;
      stage = sym (c.in-Some.ensures (path m));
    }
