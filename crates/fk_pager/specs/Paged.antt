-- What a run with a pager comes to, from its beginning to its end.
use Rattle.std.specs.Prelude.{◌≡◌, ◌≤◌, ◌+◌, ℕ, length, if◌then◌else◌}
use Rattle.fk_extras.specs.declared.paged.Paged.{Paged}
use Rattle.fk_host.specs.Kernels.{Kept}
use Rattle.fk_host.specs.Kernels.{world_of as world}
use Rattle.fk_host.specs.Served.{Services}
use Rattle.laws_filled.specs.Pager as pagers
use Rattle.laws_filled.specs.Pager.{Desk, is_opening}
use Rattle.fk_pager.specs.Ends.{IsEnd}
use Rattle.fk_pager.specs.Runs.{Moment, IsRun}

-- a kernel and its servers, whose pager hasn't begun
abbrev pub first_of : Kept → Services → Moment
first_of kernel services = record { world = world kernel; services = services; state = pagers.first; opened = 0 }

-- how many moves the opening has made; one more than were made, where it isn't done
abbrev pub opened_by : ℕ → Moment → ℕ
opened_by made at = if is_opening at.state.phase then made + 1 else at.opened

-- a run from a first moment that makes at most so many moves, and leaves this kernel with these servers
pub record IsPaged (d : Desk) (first : Moment) (budget : ℕ) (kernel : Kept) (services : Services) (p : Paged) : Type 0 where
  pub at : Moment
  pub there : at.world ≡ world kernel
  pub serve : at.services ≡ services
  pub run : IsRun d first p.history at
  pub within : length p.history ≤ budget
  pub opened : p.opened ≡ opened_by (length p.history) at
  pub faults : p.faults ≡ at.state.faults
  pub end : IsEnd d budget (length p.history) at p.end
