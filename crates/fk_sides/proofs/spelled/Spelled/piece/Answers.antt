use Rattle.std.proofs.Common.{ℕ, List, option_map, ap, ◌∙◌}
use Rattle.std.specs.List.{slice_get}
use Rattle.fk_image.specs.declared.image.image.Image.{Image}
use Rattle.fk_image.specs.Format.Spelling.{spelling}
use Rattle.laws_handover.specs.Pieces.{pieces}
use Rattle.fk_sides.proofs.Cuts.{packet_is}
use Rattle.fk_sides.proofs.spelled.Spelled.piece.Goals as goal

pub returns : goal.returns
returns c =
    c.piece_in.ensures
    ∙ ap (λ (bytes : List ℕ). option_map packet_is (slice_get (pieces bytes) c.args.number))
    (c.as_slice.ensures.value ∙ c.self.invariant ∙ ap (λ (i : Image). spelling i) c.self.view_is)
