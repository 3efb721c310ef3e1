-- A pager that may begin is hidden in all of its runs.
use Rattle.std.proofs.Common.{ℕ, ◌≤◌}
use Rattle.fk_model.specs.declared.limits.TheConstants.{LAST_USER_SLOT}
use Rattle.fk_pager.specs.Desks.{desk_of_root}
use Rattle.fk_pager.specs.Hides.{HidesPager}
use Rattle.fk_pager.specs.Left.{IsQuiet}
use Rattle.fk_pager.specs.Runs.{Moment}
use Rattle.fk_pager.specs.Unseen.{IsBeginning}
use Rattle.fk_pager.proofs.Alike.{runs_end_alike}
use Rattle.fk_pager.proofs.Bounds.{calls_are_bounded}
use Rattle.fk_pager.proofs.Counted.{faults_are_counted}
use Rattle.fk_pager.proofs.Left.{runs_leave_none}
use Rattle.fk_pager.proofs.Opened.{openings_take_all}
use Rattle.fk_pager.proofs.Unseen.{pagers_are_hidden}

pub hides : (slot port set room : ℕ) (first : Moment) → slot ≤ LAST_USER_SLOT → 1 ≤ room → IsBeginning slot port set first → IsQuiet set first.world
    → HidesPager (desk_of_root slot port set room) first
hides slot port set room first low some begins quiet = record {
  hidden = λ moves at run dark. pagers_are_hidden slot port set room first moves at low some begins run dark;
  opens = λ moves at run opened count. openings_take_all slot port set room first moves at low some begins run opened count;
  leaves_none = λ moves at run dark free none. runs_leave_none slot port set room first moves at low some begins quiet run dark free none;
  ends_alike = λ moves at run dark free kept none. runs_end_alike slot port set room first moves at low some begins quiet run dark free kept none;
  counted = λ moves at run. faults_are_counted (desk_of_root slot port set room) first moves at begins.state run;
  bounded = λ moves at run spared. calls_are_bounded slot port set room first moves at low some begins run spared;
}
