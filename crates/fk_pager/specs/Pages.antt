-- The command `page`: what a scenario comes to that runs with a pager of one of its subtrees.
use Rattle.std.specs.Prelude.{◌≡◌, ℕ, List, [], ◌++◌, map, codes, decimal, Option, Some, None, string_bytes}
use Rattle.fk_boot.specs.FirstWorld.{booted}
use Rattle.fk_boot.specs.Services.{first_services}
use Rattle.fk_extras.specs.declared.paged.Paged.{Paged}
use Rattle.fk_host.specs.Kernels.{Kept}
use Rattle.fk_host.specs.Kernels.{world_of as world}
use Rattle.fk_host.specs.Served.{Services}
use Rattle.fk_model.specs.Who.{named}
use Rattle.fk_pager.specs.Desks.{desk_of_root, IsPageable}
use Rattle.fk_pager.specs.Hides.{HidesPager}
use Rattle.fk_pager.specs.Left.{IsQuiet}
use Rattle.fk_pager.specs.Paged.{IsPaged}
use Rattle.fk_pager.specs.Runs.{Moment}
use Rattle.fk_pager.specs.Unseen.{IsBeginning}
use Rattle.fk_pager.specs.declared.page.Page.{Page}
use Rattle.fk_report.specs.declared.end.End.{End}
use Rattle.fk_report.specs.declared.threads.ThreadState.{ThreadState}
use Rattle.fk_report.specs.Report.{end_word, outs_text}
use Rattle.fk_report.specs.Threads.{AreThreads}
use Rattle.fk_scenario.specs.declared.scenario.scenario.Scenario.{Scenario}

-- ---- the text

-- how often the pager gave a page or saw that it is home, how the run ended, and what comes behind that line
abbrev pub page_text : (slot room faults : ℕ) → End → List ℕ → List ℕ
page_text slot room faults end outs =
    codes "page " ++ (decimal slot ++ (codes " " ++ (decimal room ++ (codes " faults " ++ (decimal faults ++ (codes " end " ++ (end_word end
    ++ (codes "\n" ++ outs))))))))

-- a text tells a run that has left this kernel with these servers: behind the first line come the lines of consoles and of user threads
pub record IsTold (slot room : ℕ) (p : Paged) (kernel : Kept) (services : Services) (text : List ℕ) : Type 0 where
  pub threads : List ThreadState
  pub all : AreThreads (world kernel) threads
  pub lines : text ≡ page_text slot room p.faults p.end (outs_text (map (λ e. e.1) services) threads)

-- ---- the run

-- a run from a first moment with a pager at these slots, and the text that tells it
pub record IsWritten (slot port set room : ℕ) (first : Moment) (budget : ℕ) (p : Paged) (text : List ℕ) : Type 0 where
  pub kernel : Kept
  pub services : Services
  pub paged : IsPaged (desk_of_root slot port set room) first budget kernel services p
  pub told : IsTold slot room p kernel services text

-- it is one of a scenario: from its first world, with its servers and its budget; and from there on its pager is hidden
pub record IsPageOf (slot room : ℕ) (s : Scenario) (p : Paged) (text : List ℕ) : Type 0 where
  pub port : ℕ
  pub set : ℕ
  pub first : Moment
  pub boots : first.world ≡ booted s
  pub serves : map (λ e. (named first.world e.0, e.1)) first.services ≡ first_services s.servers
  pub begins : IsBeginning slot port set first
  pub quiet : IsQuiet set first.world
  pub hides : HidesPager (desk_of_root slot port set room) first
  pub written : IsWritten slot port set room first s.budget p text

-- a scenario without jobs whose subtree in this slot of the root may be paged in its first world
abbrev pub MayBePaged : ℕ → Scenario → Type 0
MayBePaged slot s = (s.jobs ≡ []) × IsPageable (booted s) slot

-- what is told of a scenario: nothing exactly where it may not be paged
abbrev pub IsPage : (slot room : ℕ) → Scenario → Option Page → Type 0
IsPage slot room s None = MayBePaged slot s → ⊥
IsPage slot room s (Some page) = IsPageOf slot room s page.paged (string_bytes page.text)
