use Rattle.std.proofs.Common.{◌≤◌, arith}
use Rattle.fk_model.specs.Searches.{depth}
use Rattle.fk_store.proofs.InStore.finding.Players.{found-same, found-some, found-plays, found-lives, nobody-plays}
use Rattle.fk_store.proofs.store.store.Store.first.Goals as goal

pub returns : goal.returns
returns c =
    let few : c.self.inside.next ≤ depth = omega arith in
    rw (← c.self.view_is) (record {
      some = found-some _ c.self.invariant c.args.part few c.first.result c.first.ensures.some c.first.ensures.none;
      same = found-same _ c.self.invariant c.args.part few c.first.result c.first.ensures.some c.first.ensures.none;
      plays = found-plays _ c.self.invariant c.args.part few c.first.result c.first.ensures.some c.first.ensures.none;
      nobody = nobody-plays _ c.self.invariant c.args.part few c.first.result c.first.ensures.some c.first.ensures.none;
      live = found-lives _ c.self.invariant c.args.part few c.first.result c.first.ensures.some c.first.ensures.none;
    })
