use Rattle.std.proofs.Common.{◌≡◌, false, is_some, Some, cond, ap, ◌∙◌, rules}
use Rattle.std.specs.Str.{bytes_eq}
use Rattle.fk_scenario.specs.Fields.Entries.{place_in}
use Rattle.fk_scenario.proofs.InFields.Places.{place_in-inserted}
use Rattle.fk_scenario.proofs.fields.entries.with_place.Goals as goal

pub returns-in-Ok : goal.returns-in-Ok
returns-in-Ok c = λ q.
    let none : is_some (place_in c.args.places c.args.key.now) ≡ false = search rules in
    rw none
    (place_in-inserted c.args.places c.insert.new.self c.in_ok-key.key c.args.place c.in-Ok.ensures.updates q
    ∙ ap (λ k. cond (bytes_eq k q) (Some c.args.place) (place_in c.args.places q)) c.in_ok-key.ensures.items)
