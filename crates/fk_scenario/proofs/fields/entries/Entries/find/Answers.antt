use Rattle.std.proofs.Common.{◌≡◌, Some, sym, ◌∙◌, rules}
use Rattle.std.specs.List.{position_from}
use Rattle.std.specs.Str.{bytes_eq}
use Rattle.fk_scenario.proofs.InFields.Places.{found_at, not_found, got_item}
use Rattle.fk_scenario.proofs.fields.entries.Entries.find.Goals as goal

pub returns-in-Some : goal.returns-in-Some
returns-in-Some g c =
    let place : position_from (λ x. bytes_eq (g.T.Keyed.key x) c.args.key.now) 0 c.args.self.now ≡ Some c.in-Some.place = sym c.position.ensures
    ∙ c.in-Some.is in
    got_item c.args.self.now c.in-Some.place c.get.result (search rules)
    ∙ sym (found_at (λ x. bytes_eq (g.T.Keyed.key x) c.args.key.now) c.args.self.now c.in-Some.place place)

pub returns-in-None : goal.returns-in-None
returns-in-None g c = sym (not_found (λ x. bytes_eq (g.T.Keyed.key x) c.args.key.now) 0 c.args.self.now (sym c.position.ensures ∙ c.in-None.is))
