use Rattle.std.proofs.Common.{◌∷◌, subst}
use Rattle.fk_waits.proofs.InCauses.Numbers.{clash}
use Rattle.fk_waits.specs.Waits.Threads.{is_there, AreThere}
use Rattle.fk_waits.proofs.InWaits.AllWoken.{front_goes, front_there}
use Rattle.fk_waits.proofs.waits.threads.Threads.wake_front.Goals as goal

pub settle-requires : goal.settle-requires
settle-requires c = record {
  list = c.requires.list;
  there = c.requires.there;
  seat = λ off. clash (is_there c.in-Some.who c.requires.list)
      (front_there c.in-Some.who c.requires.list (c.in-Some.ensures c.requires.list c.requires.there)) off;
}

pub returns-in-Some-clause-there : goal.returns-in-Some-clause-there
returns-in-Some-clause-there c x l there =
    subst (AreThere c.settle.new.self) (front_goes c.in-Some.who x l there.apart (c.in-Some.ensures (x ∷ l) there)) (c.settle.ensures.there (x ∷ l) there)
