use Rattle.std.proofs.Common.{◌≡◌, drop}
use Rattle.fk_image.specs.Image.Valid.{all_from, after_object, fits_object}
use Rattle.fk_image.proofs.valid.objects.fits_objects.Given as goal

abbrev pub invariant-loop-object : goal.invariant-loop-object
invariant-loop-object l = all_from after_object fits_object l.floor (drop l.object-index l.objects) ≡ all_from after_object fits_object 0 l.objects
