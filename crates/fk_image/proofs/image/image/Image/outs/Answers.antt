use Rattle.std.proofs.Common.{◌∙◌, Bool, false, ◌||◌, ap, List}
use Rattle.std.specs.List.{list_any, flat_map}
use Rattle.std.proofs.lemmas.List.{get_or-replicate}
use Rattle.fk_image.specs.declared.image.image.SpaceRec.{SpaceRec}
use Rattle.fk_image.specs.Image.Outs.{leads_out_at, space_links}
use Rattle.fk_image.proofs.image.image.Image.outs.Goals as goal

pub returns : goal.returns
returns c = λ slot lt.
    c.mark_spaces.ensures slot lt
    ∙ ap (λ (b : Bool). b || list_any (leads_out_at slot) (flat_map space_links c.as_slice.result.now)) (get_or-replicate 240 slot false false lt)
    ∙ ap (λ (ss : List SpaceRec). list_any (leads_out_at slot) (flat_map space_links ss)) c.as_slice.ensures
