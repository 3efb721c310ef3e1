use Rattle.std.proofs.Common.{◌≡◌, ◌-◌, []}
use Rattle.fk_image.specs.Image.Objects.{next_slot}
use Rattle.fk_image.specs.Image.Valid.{after_object}
use Rattle.fk_image.specs.Format.Fields.{read_many}
use Rattle.fk_image.specs.Format.Reading.{read_object}
use Rattle.fk_codec.proofs.reading.objects.objects_from.Given as goal

abbrev pub invariant-loop : goal.invariant-loop
invariant-loop l = (l.floor ≡ next_slot l.objects) ×
    (read_many (read_object l.newer) after_object (l.count - l.counter) l.floor l.objects l.rest ≡ read_many (read_object l.newer) after_object l.count 0 [] l.bytes)
