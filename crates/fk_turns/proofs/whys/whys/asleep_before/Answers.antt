use Rattle.std.proofs.Common.{sym, ◌∙◌}
use Rattle.fk_store.specs.Store.Paths.{path}
use Rattle.fk_turns.proofs.whys.whys.asleep_before.Goals as goal

pub asleep_in-requires : goal.asleep_in-requires
asleep_in-requires c =
    let m = c.args.store.now in
    record {
      unheld = c.requires.unheld;
      there = c.requires.there;
      awake = sym (c.is_resting.ensures (path m)) ∙ c.if-is_resting.false;
      stage = sym (c.in-Some.ensures (path m));
    }
