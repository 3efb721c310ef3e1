use Rattle.std.proofs.Common.{ap, ◌∙◌}
use Rattle.fk_scenario.specs.Fields.Entries.{place_in, with_place}
use Rattle.fk_scenario.proofs.InFields.Places.{with_place-added}
use Rattle.fk_scenario.proofs.fields.entries.Entries.with.Goals as goal

pub invariant_of-result : goal.invariant_of-result
invariant_of-result g c = λ q.
    let old = place_in c.self.inside.places in
    rw c.in_ok-push.ensures.ok
    (c.in_ok-places.ensures q
    ∙ ap (λ k. with_place k c.len.result old q) c.key.ensures
    ∙ ap (λ n. with_place (g.T.Keyed.key c.args.entry) n old q) c.len.ensures
    ∙ with_place-added g.T.Keyed.key c.self.inside.list c.args.entry old c.self.invariant q)
