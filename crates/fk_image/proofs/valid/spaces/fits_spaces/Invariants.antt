use Rattle.std.proofs.Common.{◌≡◌, take, drop, []}
use Rattle.fk_image.specs.Image.Preorder.{after_space, root_path}
use Rattle.fk_image.specs.Image.Valid.{all_from, fits_space}
use Rattle.fk_image.proofs.valid.spaces.fits_spaces.Given as goal

abbrev pub invariant-loop-number : goal.invariant-loop-number
invariant-loop-number l =
    all_from after_space fits_space (take l.number l.spaces, l.path) (drop l.number l.spaces) ≡ all_from after_space fits_space ([], root_path) l.spaces
