use Rattle.std.proofs.Common.{rules, ◌≡◌, ap, ◌∙◌}
use Rattle.laws_handover.specs.Handover.{near_told}
use Rattle.fk_sides.specs.declared.near.Since.{Since}
use Rattle.fk_sides.specs.Nears.{since_of}
use Rattle.fk_sides.specs.Sides.{both, packet_of}
use Rattle.fk_sides.proofs.Nearness.{told_works, told_gathered}
use Rattle.fk_sides.proofs.near.Near.take.Goals as goal

pub returns-in-Works-clause-told : goal.returns-in-Works-clause-told
returns-in-Works-clause-told c =
    told_works c.args.self.now.slot c.args.self.now.saves c.spell.new.self.saves c.in-Works.field-0 _ c.in-Works.is c.in_ok-spell.ensures.spelled
    c.spell.ensures.same

pub returns-in-Gathered-clause-told : goal.returns-in-Gathered-clause-told
returns-in-Gathered-clause-told c =
    let self = c.args.self.now in
    let was : c.replace-was.result ≡ c.in-Gathered.since = search rules in
    told_gathered self.slot self.saves c.spell.new.self.saves c.in-Gathered.spelled c.in-Gathered.since c.told_since.result (packet_of c.args.packet)
    c.in-Gathered.is c.spell.ensures.same
    (c.told_since.ensures self.slot
    ∙ ap (λ (since : Since). near_told (both self.slot) (since_of c.in-Gathered.spelled since) (packet_of c.args.packet)) was)
