use Rattle.std.proofs.Common.{ap, refl}
use Rattle.fk_plans.specs.Plans.Hearers.{to_servers}
use Rattle.fk_calls.proofs.calls.foretelling.foretell_act.Goals as goal

pub returns-clause-told : goal.returns-clause-told
returns-clause-told c = record {
  said = ap to_servers c.in_ok-said.ensures.said;
  heard = c.in_ok-said.ensures.heard;
  ending = c.in_ok-said.ensures.clients refl;
  apart = tt;
}
