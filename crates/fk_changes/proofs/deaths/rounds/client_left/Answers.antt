use Rattle.std.proofs.Common.{◌≢◌, [], refl, sym, ◌∙◌}
use Rattle.fk_store.specs.Store.Paths.{path, place}
use Rattle.fk_store.specs.Store.World.{world}
use Rattle.fk_changes.specs.Deaths.Ends.{ends_at}
use Rattle.fk_store.proofs.InStore.finding.Lefts.{left_more, nobody_left, fewer_left}
use Rattle.fk_changes.proofs.InDeaths.Lefts.{is_empty, ending_points}
use Rattle.fk_changes.proofs.deaths.rounds.client_left.Goals as goal

pub loop-who-init : goal.loop-who-init
loop-who-init c =
    let m = c.args.store.now in
    record { left = λ all x some. c.leaders-leaders.ensures all x (ending_points (world m) (place (path m) c.args.port) x some) }

pub loop-who-preserved : goal.loop-who-preserved
loop-who-preserved c =
    let m = c.args.store.now in
    record {
      left = λ all. left_more (path m) (λ x. ends_at (world m) (place (path m) c.args.port) x ≢ []) c.in-Some.who _ _ c.in-Some.ensures.some
          (λ some. some (c.is_left.ensures c.if-is_left.false)) (c.loop-who.invariant.left (sym c.next.ensures.all ∙ all));
    }

pub loop-who-smaller : goal.loop-who-smaller
loop-who-smaller c = fewer_left c.in-Some.who _ _ c.in-Some.ensures.some

pub are_all-requires : goal.are_all-requires
are_all-requires c = (c.in_default.ensures.none refl).1

pub returns-then-are_all : goal.returns-then-are_all
returns-then-are_all c =
    let m = c.args.store.now in
    record {
      nobody = λ x. is_empty (ends_at (world m) (place (path m) c.args.port) x)
          (nobody_left (path m) (λ x. ends_at (world m) (place (path m) c.args.port) x ≢ []) _ (c.in_default.ensures.none refl).0
          (c.loop-who.invariant.left (sym c.next.ensures.all ∙ sym c.are_all.ensures ∙ c.if-are_all.true)) x);
    }
