use Rattle.std.proofs.Common.{◌∙◌, ap}
use Rattle.fk_image.specs.Format.Offsets.{Named}
use Rattle.fk_image.proofs.InPointers.Sets.{all_places}
use Rattle.fk_image.proofs.pointers.places.Index.has_space_at.Goals as goal

pub returns-clause-lies : goal.returns-clause-lies
returns-clause-lies c = c.contains-lies.ensures ∙ ap (λ (named : Named). named c.args.space c.args.slot)
    (all_places c.in_ok-places.places c.args.spaces.now c.behind_first.result.now c.behind_first.ensures c.in_ok-places.ensures)

pub returns-clause-index : goal.returns-clause-index
returns-clause-index c = record {
  places = all_places c.in_ok-places.places c.args.spaces.now c.behind_first.result.now c.behind_first.ensures c.in_ok-places.ensures;
  ends = c.requires.ends;
}
