use Rattle.std.proofs.Common.{◌≡◌, ◌≤◌, ◌-◌, length}
use Rattle.fk_plays.proofs.Found.{FindsFrom, NeedsFrom}
use Rattle.fk_plays.proofs.images.images_for.Given as goal

-- whatever is found of the jobs that are left makes the whole
abbrev pub invariant-loop-job : goal.invariant-loop-job
invariant-loop-job g l = record {
  found : FindsFrom (g.H.Shelf.files l.fn.shelf) l.jobs (length l.images) l.images;
  need : NeedsFrom (g.H.Shelf.files l.fn.shelf) l.jobs (length l.images);
  within : length l.images ≤ length l.jobs;
  later : g.H.Shelf.failed_gets l.fn.shelf ≤ g.H.Shelf.failed_gets l.shelf;
  kept : g.H.Shelf.failed_gets l.shelf ≡ g.H.Shelf.failed_gets l.fn.shelf;
  same_files : g.H.Shelf.files l.shelf ≡ g.H.Shelf.files l.fn.shelf;
  same_puts : g.H.Shelf.failed_puts l.shelf ≡ g.H.Shelf.failed_puts l.fn.shelf;
}

abbrev pub decreases-loop-job : goal.decreases-loop-job
decreases-loop-job g l = length l.jobs - length l.images
