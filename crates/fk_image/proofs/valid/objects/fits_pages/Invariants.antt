use Rattle.std.proofs.Common.{◌≡◌, drop}
use Rattle.fk_image.specs.Image.Valid.{all_from, after_page, fits_page}
use Rattle.fk_image.proofs.valid.objects.fits_pages.Given as goal

abbrev pub invariant-loop-page : goal.invariant-loop-page
invariant-loop-page l = all_from after_page fits_page l.floor (drop l.page-index l.pages) ≡ all_from after_page fits_page 0 l.pages
