-- Several: moves of one mover, made at once.
use Rattle.std.proofs.Common.{◌≡◌, ℕ, ◌<◌, true, false, List, [], Option, Some, None, ap, ◌∙◌, sym, arith}
use Rattle.fk_model.specs.declared.moves.Move.{Move}
use Rattle.laws_house.specs.Houses.{Job}
use Rattle.laws_runs.specs.Cores.IsRun.{Begins, Goes}
use Rattle.fk_jobs.specs.Jobs.{Queue, current}
use Rattle.fk_core.specs.Rounds.Events.{is_who}
use Rattle.fk_core.specs.Cores.Bursts.{AreMade}
use Rattle.fk_core.specs.Cores.Cores.{RunCore, porter_of, IsAdvanced, IsFirstDue}

-- one move is
pub one_made : (jobs : List Job) (budget most : ℕ) (c d : RunCore) (m : Move) → 0 < most → IsAdvanced jobs budget c (Some m) d →
    AreMade jobs budget most c m 1 d
one_made jobs budget most c d m some advanced = record {
  some = omega arith;
  few = omega (arith, some);
  round = omega arith;
  within = (let below = advanced.0 in omega (arith, below));
  events = advanced.3;
  run = Goes [] c m d Begins advanced.1 advanced.2;
}

-- where no job is left none is due
pub none_first : (q : Queue) (budget : ℕ) (c : RunCore) (chosen : Option Move) → current q ≡ None → IsFirstDue q budget c chosen
none_first q budget c chosen none even below m its ready =
    let off : false ≡ true = sym (ap (λ o. is_who (porter_of o) m.who) none) ∙ its in absurd (cc)
