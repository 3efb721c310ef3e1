use Rattle.std.proofs.Common.{subst}
use Rattle.fk_migrate.specs.Pairs.{shown, IsReady}
use Rattle.fk_migrate.proofs.pair.Pair.make.Goals as goal

pub near_move-requires-clause-ready : goal.near_move-requires-clause-ready
near_move-requires-clause-ready g c = subst (IsReady (shown c.args.self.now)) c.in-Near.is c.requires.ready

pub far_move-requires-clause-ready : goal.far_move-requires-clause-ready
far_move-requires-clause-ready g c = subst (IsReady (shown c.args.self.now)) c.in-Far.is c.requires.ready

pub to_far-requires : goal.to_far-requires
to_far-requires g c = record { ready = subst (IsReady (shown c.args.self.now)) c.in-ToFar.is c.requires.ready }

pub to_near-requires : goal.to_near-requires
to_near-requires g c = record { ready = subst (IsReady (shown c.args.self.now)) c.in-ToNear.is c.requires.ready }

pub give_up-requires : goal.give_up-requires
give_up-requires g c = record { ready = subst (IsReady (shown c.args.self.now)) c.in-GiveUp.is c.requires.ready }

pub returns-in-Near-clause-leads : goal.returns-in-Near-clause-leads
returns-in-Near-clause-leads g c = rw c.in-Near.is c.near_move.ensures.leads

pub returns-in-Far-clause-leads : goal.returns-in-Far-clause-leads
returns-in-Far-clause-leads g c = rw c.in-Far.is c.far_move.ensures.leads

pub returns-in-ToFar-clause-leads : goal.returns-in-ToFar-clause-leads
returns-in-ToFar-clause-leads g c = rw c.in-ToFar.is c.to_far.ensures.leads

pub returns-in-ToNear-clause-leads : goal.returns-in-ToNear-clause-leads
returns-in-ToNear-clause-leads g c = rw c.in-ToNear.is c.to_near.ensures.leads

pub returns-in-GiveUp-clause-leads : goal.returns-in-GiveUp-clause-leads
returns-in-GiveUp-clause-leads g c = rw c.in-GiveUp.is c.give_up.ensures.leads
