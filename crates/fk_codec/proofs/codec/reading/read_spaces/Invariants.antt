use Rattle.std.proofs.Common.{◌≡◌, ◌-◌, [], length}
use Rattle.fk_image.specs.Image.Preorder.{after_space, root_path}
use Rattle.fk_image.specs.Format.Fields.{read_many}
use Rattle.fk_image.specs.Format.Reading.{read_space}
use Rattle.fk_codec.proofs.codec.reading.read_spaces.Given as goal

abbrev pub invariant-loop-number : goal.invariant-loop-number
invariant-loop-number l = (l.number ≡ length l.spaces) ×
    (read_many (read_space l.newer) after_space (l.count - l.number) (l.spaces, l.path) l.spaces l.rest
    ≡ read_many (read_space l.newer) after_space l.count ([], root_path) [] l.bytes)
