use Rattle.fk_image.proofs.pointers.places.Index.of.Goals as goal

pub returns : goal.returns
returns c = record { places = tt; ends = c.in_ok-ends_of.ensures }
