use Rattle.std.proofs.Common.{◌≡◌, ◌-◌, []}
use Rattle.fk_image.specs.Image.Valid.{after_page}
use Rattle.fk_image.specs.Format.Fields.{read_many}
use Rattle.fk_image.specs.Format.Reading.{read_page}
use Rattle.fk_codec.proofs.reading.objects.pages_from.Given as goal

abbrev pub invariant-loop : goal.invariant-loop
invariant-loop l = read_many read_page after_page (l.count - l.counter) l.floor l.pages l.rest ≡ read_many read_page after_page l.count 0 [] l.bytes
