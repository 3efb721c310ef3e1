use Rattle.std.proofs.Common.{◌≡◌, ◌≤◌, ℕ, ◌+◌, List, [], ◌∷◌, ◌++◌, length, length-append, take, Option, Some, None, Ok, Err, sym, subst, ◌∙◌, arith, rules}
use Rattle.std.specs.List.{slice_get}
use Rattle.std.proofs.lemmas.Grind.{common_steps}
use Rattle.std.proofs.lemmas.Option.{gets, slice_get_within}
use Rattle.fk_plays.specs.Images.{needed, Finds, FindsImages, UnlessFailed}
use Rattle.fk_plays.proofs.Found.{FindsFrom, NeedsFrom, unless-of, finds-on, finds-refused, finds-all, needs-on}
use Rattle.fk_plays.proofs.images.images_for.Goals as goal

pub returns-in_err-image-clause-lack : goal.returns-in_err-image-clause-lack
returns-in_err-image-clause-lack g c =
    let files = g.H.Shelf.files c.args.shelf.now in
    let jobs = c.args.jobs.now in
    let images = c.loop-job.images in
    let job = c.in-Some.job.now in
    let status = c.in_err-image.field-0.0 in
    let got : slice_get jobs (length images) ≡ Some job = grind (arith, common_steps, gets) in
    let lack : UnlessFailed status (Finds files (needed (take (length images) jobs) job) (Err status)) = search rules in
    let refused : UnlessFailed status (FindsImages files [] jobs (Err status)) =
    unless-of (Finds files (needed (take (length images) jobs) job) (Err status)) (FindsImages files [] jobs (Err status))
    (finds-refused files jobs (length images) images job status got c.loop-job.invariant.found) status lack in
    search (rules, refused)

pub loop-job-preserved : goal.loop-job-preserved
loop-job-preserved g c =
    let files = g.H.Shelf.files c.args.shelf.now in
    let jobs = c.args.jobs.now in
    let images = c.loop-job.images in
    let job = c.in-Some.job.now in
    let image = c.in_ok-image.image in
    let got : slice_get jobs (length images) ≡ Some job = grind (arith, common_steps, gets) in
    let within = slice_get_within jobs (length images) job got in
    let found : Finds files (needed (take (length images) jobs) job) (Ok image) = search rules in
    let long : length (images ++ image ∷ []) ≡ length images + 1 = length-append images (image ∷ []) in
    let before = c.loop-job.invariant.later in
    let after = c.image_for.ensures.later in
    rw c.in_ok-push.ensures.ok (record {
      found = subst (λ n. FindsFrom files jobs n (images ++ image ∷ [])) (sym long)
          (finds-on files jobs (length images) images job image got found c.loop-job.invariant.found);
      need = subst (NeedsFrom files jobs) (sym long) (needs-on files jobs (length images) job got c.loop-job.invariant.need);
      within = omega (arith, long, within);
      later = omega (arith, before, after);
      kept = c.in_ok-image.ensures.kept_gets ∙ c.loop-job.invariant.kept;
      same_files = c.image_for.ensures.same_files ∙ c.loop-job.invariant.same_files;
      same_puts = c.image_for.ensures.same_puts ∙ c.loop-job.invariant.same_puts;
    })

pub returns-clause-found : goal.returns-clause-found
returns-clause-found g c =
    let jobs = c.args.jobs.now in
    let none : slice_get jobs (length c.loop-job.images) ≡ None = grind (arith, common_steps, gets) in
    finds-all (g.H.Shelf.files c.args.shelf.now) jobs (length c.loop-job.images) c.loop-job.images none c.loop-job.invariant.found
