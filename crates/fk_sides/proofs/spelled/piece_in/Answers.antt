use Rattle.std.proofs.Common.{ℕ, ◌*◌, List, take, ap, ◌∙◌, refl, arith}
use Rattle.laws_handover.specs.Pieces.{piece}
use Rattle.fk_sides.proofs.Cuts.{no_piece, packet_is, piece_told, rest_is, within_bytes}
use Rattle.fk_sides.proofs.spelled.piece_in.Goals as goal

pub returns-then-number-total : goal.returns-then-number-total
returns-then-number-total c =
    let total = c.total_of-total.ensures.total in
    let past = c.if-number-total.true in
    rw (no_piece c.args.bytes.now c.args.number (omega (arith, total, past))) refl

pub slice_bounds-rest-start : goal.slice_bounds-rest-start
slice_bounds-rest-start c =
    let total = c.total_of-total.ensures.total in
    let below = c.if-number-total.false in
    let within = within_bytes c.args.bytes.now c.args.number (omega (arith, total, below)) in
    omega (arith, within)

pub slice_bounds-rest-count : goal.slice_bounds-rest-count
slice_bounds-rest-count c =
    let total = c.total_of-total.ensures.total in
    let below = c.if-number-total.false in
    let within = within_bytes c.args.bytes.now c.args.number (omega (arith, total, below)) in
    omega (arith, within)

pub returns : goal.returns
returns c =
    piece_told c.args.bytes.now c.total_of-total.result c.args.number (c.args.number * 512) _ c.total_of-total.ensures.total c.if-number-total.false refl
    (c.piece_of.ensures
    ∙ ap (λ (rest : List ℕ). packet_is (piece c.args.number c.total_of-total.result (take 512 rest))) (rest_is c.args.bytes.now (c.args.number * 512)))
