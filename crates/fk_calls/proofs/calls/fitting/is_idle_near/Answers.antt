use Rattle.std.proofs.Common.{◌≡◌, Bool, true, false, not, IsSome, is_some, Option, Some, None, option_map, refl, sym, ◌∙◌}
use Rattle.fk_model.specs.Objects.{Body, kind_of}
use Rattle.fk_model.specs.Places.{Path}
use Rattle.fk_model.specs.Valid.{kind_there}
use Rattle.fk_model.specs.World.{World}
use Rattle.fk_store.specs.Store.Paths.{path, place}
use Rattle.fk_store.specs.Store.World.{world}
use Rattle.fk_calls.proofs.calls.fitting.is_idle_near.Goals as goal

there : (w : World) (x : Path) → IsSome (kind_there w x) → IsSome (w.body x)
unfolding kind_there
there w x live = by (w.body x) live
  where
    by : (b : Option Body) → is_some (option_map kind_of b) ≡ true → is_some b ≡ true
    by None live = absurd (cc)
    by (Some b) live = refl

flip : (a b : Bool) → a ≡ not b → b ≡ not a
flip a true e = rw e refl
flip a false e = rw e refl

pub returns-then-not-is_in : goal.returns-then-not-is_in
returns-then-not-is_in c =
    let live = there (world c.args.store.now) (place (path c.args.store.now) c.args.server) c.requires.live in
    let apart = sym (c.is_in.ensures.same live) ∙ c.if-not-is_in.true in
    rw apart refl

pub returns : goal.returns
returns c =
    let live = there (world c.args.store.now) (place (path c.args.store.now) c.args.server) c.requires.live in
    let near = sym (c.is_in.ensures.same live) ∙ c.if-not-is_in.false in
    rw (near, ← c.served_by.ensures.some) (flip (is_some c.served_by.result) c.is_none.result c.is_none.ensures)
