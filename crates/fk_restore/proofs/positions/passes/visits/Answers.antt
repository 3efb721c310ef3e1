use Rattle.fk_restore.proofs.InPositions.Visited.{visits_in, visits_out, visits_ties}
use Rattle.fk_restore.proofs.positions.passes.visits.Goals as goal

pub returns-in-Inward : goal.returns-in-Inward
returns-in-Inward c =
    visits_in c.args.spaces.now c.args.pass c.args.number c.args.space.now c.as_slice.result.now c.any_leads_in.result c.in-Inward.is
    c.as_slice.ensures c.any_leads_in.ensures

pub returns-in-Outward : goal.returns-in-Outward
returns-in-Outward c =
    visits_out c.args.spaces.now c.args.pass c.in-Outward.slot c.args.number c.args.space.now c.as_slice-in-Outward.result.now c.any_leads_out.result
    c.in-Outward.is c.as_slice-in-Outward.ensures c.any_leads_out.ensures

pub returns-in-Ties : goal.returns-in-Ties
returns-in-Ties c =
    visits_ties c.args.spaces.now c.args.pass c.args.number c.args.space.now c.as_slice-in-Ties.result.now c.any_ties.result c.in-Ties.is
    c.as_slice-in-Ties.ensures c.any_ties.ensures
