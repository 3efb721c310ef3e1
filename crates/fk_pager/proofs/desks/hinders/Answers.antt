use Rattle.fk_model.specs.Objects.{kind_of}
use Rattle.fk_model.specs.Valid.{kind_there}
use Rattle.fk_store.specs.Store.World.{world, body_of, place_of}
use Rattle.fk_pager.proofs.Hindering.{found-some, keeper-there, mapping-bars, port-bars, region-bars}
use Rattle.fk_pager.proofs.desks.hinders.Goals as goal

pub returns-in-Some-Mapping : goal.returns-in-Some-Mapping
returns-in-Some-Mapping c =
    let found = c.in-Some-Mapping in
    mapping-bars c.args.store.now c.args.space c.args.desk.port c.args.desk.set c.args.who found.field-0.now found.ensures.body
    found.field-0-0 found.field-0-1 found.field-0-2 found.field-0-3 found.field-0-4 found.field-0-is c.requires (found.ensures.space (cc))

pub returns-in-Some-Port : goal.returns-in-Some-Port
returns-in-Some-Port c =
    let found = c.in-Some-Port in
    rw (c.all_three.ensures, c.is_in-member.ensures) (port-bars c.args.store.now c.args.space c.args.desk.port c.args.desk.set c.args.who
    found.field-0.now found.ensures.body found.set found.field-0-1 found.field-0-is (found.ensures.space (cc)))

pub returns-in-Some-Region-default-default-default-At : goal.returns-in-Some-Region-default-default-default-At
returns-in-Some-Region-default-default-default-At c =
    let m = c.args.store.now in
    let found = c.in-Some-Region-default-default-default-At in
    let live = keeper-there m found.field-0.now found.field-0-0 found.field-0-1 found.field-0-2 found.field-0-3 found.keeper
    found.field-0-is found.field-0-3-is found.ensures.named in
    let apart = c.at-there.ensures.apart (found-some (λ b. kind_of (body_of m b)) (kind_there (world m) (place_of m found.keeper)) c.at-there.result
    c.at-there.ensures.kind live) in
    rw (c.both.ensures, c.is_in_root-ours.ensures) (region-bars m c.args.space c.args.desk.port c.args.desk.set c.args.who
    found.field-0.now found.ensures.body found.field-0-0 found.field-0-1 found.field-0-2 found.field-0-3 found.keeper found.field-0-is found.field-0-3-is
    c.requires (found.ensures.space (cc)) apart)
