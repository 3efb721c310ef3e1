use Rattle.std.proofs.Common.{◌≡◌, ◌≤◌, ℕ, [], refl, sym, subst, ◌∙◌, arith}
use Rattle.fk_model.specs.Places.{Path}
use Rattle.fk_model.specs.Searches.{depth}
use Rattle.fk_store.specs.Store.Paths.{path, place, HasOwnPath}
use Rattle.fk_store.specs.Store.World.{world}
use Rattle.fk_changes.specs.Deaths.Ends.{ends_at}
use Rattle.fk_changes.proofs.InDeaths.Clients.{none_ended, more_ended, ended_whole}
use Rattle.fk_changes.proofs.InDeaths.Lefts.{has_ended}
use Rattle.fk_changes.proofs.deaths.rounds.end_found.Goals as goal

pub loop-round-init : goal.loop-round-init
loop-round-init c =
    let m = c.args.store.now in
    record { ended = none_ended (world m) (place (path m) c.args.port); kinds = refl; paths = refl }

pub client_left-requires : goal.client_left-requires
client_left-requires c = record { apart = subst (λ p. HasOwnPath p c.args.port) (sym c.loop-round.invariant.paths) c.requires.apart }

pub end_client-requires : goal.end_client-requires
end_client-requires c = record { apart = subst (λ p. HasOwnPath p c.args.port) (sym c.loop-round.invariant.paths) c.requires.apart }

pub loop-round-preserved : goal.loop-round-preserved
loop-round-preserved c =
    let m = c.args.store.now in
    let kept = c.loop-round.invariant in
    let done = c.end_client.ensures in
    record {
      ended = more_ended (world m) (world c.loop-round.store) (world c.end_client.new.store) (place (path m) c.args.port)
          (place (path m) c.in-Client.who) kept.ended (rw kept.paths at done.ends);
      kinds = done.kinds ∙ kept.kinds;
      paths = done.paths ∙ kept.paths;
    }

pub returns-in-Nobody-clause-ended : goal.returns-in-Nobody-clause-ended
returns-in-Nobody-clause-ended c = c.loop-round.invariant.ended

pub returns-in-Nobody-clause-all : goal.returns-in-Nobody-clause-all
returns-in-Nobody-clause-all c = λ all.
    let m = c.args.store.now in
    let kept = c.loop-round.invariant in
    let few : (world m).next ≤ depth = omega (arith, c.next_birth-below_2_32.ensures) in
    ended_whole (world m) (world c.loop-round.store) (place (path m) c.args.port) c.requires.valid few kept.ended
    (λ client q. has_ended (world m) (world c.loop-round.store) kept.ended.test kept.ended.made (place (path m) c.args.port) client q
    (subst (λ (p : ℕ → Path). ends_at (world c.loop-round.store) (place p c.args.port) client ≡ []) kept.paths (c.in-Nobody.ensures.nobody client)))

pub returns-in-Nobody-clause-kinds : goal.returns-in-Nobody-clause-kinds
returns-in-Nobody-clause-kinds c = c.loop-round.invariant.kinds

pub returns-in-Nobody-clause-paths : goal.returns-in-Nobody-clause-paths
returns-in-Nobody-clause-paths c = c.loop-round.invariant.paths

pub returns-in-Unknown-clause-ended : goal.returns-in-Unknown-clause-ended
returns-in-Unknown-clause-ended c = c.loop-round.invariant.ended

pub returns-in-Unknown-clause-kinds : goal.returns-in-Unknown-clause-kinds
returns-in-Unknown-clause-kinds c = c.loop-round.invariant.kinds

pub returns-in-Unknown-clause-paths : goal.returns-in-Unknown-clause-paths
returns-in-Unknown-clause-paths c = c.loop-round.invariant.paths

pub returns-clause-ended : goal.returns-clause-ended
returns-clause-ended c = c.loop-round.invariant.ended

pub returns-clause-kinds : goal.returns-clause-kinds
returns-clause-kinds c = c.loop-round.invariant.kinds

pub returns-clause-paths : goal.returns-clause-paths
returns-clause-paths c = c.loop-round.invariant.paths
