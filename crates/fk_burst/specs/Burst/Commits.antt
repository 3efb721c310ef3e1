-- Commits: when a burst may be committed, and which pages it hands back.
use Rattle.std.specs.Prelude.{◌≡◌, ℕ, zero, suc, ◌+◌, ◌≤◌, Bool, false, List, [], ◌∷◌, ◌++◌, None, if◌then◌else◌, slice_index_or}
use Rattle.std.specs.Bool.{OnTrue, OnFalse}
use Rattle.fk_model.specs.declared.names.Who.{Who}
use Rattle.fk_model.specs.Who.{named}
use Rattle.fk_model.specs.World.{World}
use Rattle.fk_kernel.specs.declared.replace.BurstPage.{BurstPage}
use Rattle.fk_kernel.specs.Kernels.{world_of}
use Rattle.fk_kernel.specs.Kernels.{Kept}
use Rattle.laws_bursts.specs.Laws.{HasPages}
use Rattle.laws_turns.specs.Quiet.{LeadRunning}
use Rattle.fk_burst.specs.declared.copies.copied.Copied.{Copied}
use Rattle.fk_burst.specs.Copies.Copies.{burst_of}
use Rattle.fk_burst.specs.Burst.Lease.{Lease}
use Rattle.fk_burst.specs.Burst.Leases.{HasWords, IsReadyToRun}

-- the thread in a slot is ready in running mode, where a copy was taken, and the pages that the copy has used since are as they were
pub record IsCurrent (w : World) (who : Who) (taken now : Copied) : Type 0 where
  pub ready : IsReadyToRun w who
  pub words : HasWords w (named w who) (burst_of taken)
  pub pages : HasPages w (named w who) (burst_of now) (burst_of taken)

-- and so many moves are left
abbrev pub MayCommit : World → Lease → ℕ → Type 0
MayCommit w l left = IsCurrent w l.thread l.taken l.copy × (l.count ≤ left)

-- what a commit does to a kernel: so many ready moves of the thread, which runs, where it may; and else nothing
pub record CommitsSo (l : Lease) (left : ℕ) (k : Kept) (done : Bool) (n : Kept) : Type 0 where
  pub running : OnTrue done (LeadRunning (record { who = l.thread; pick = None }) l.count (world_of k) (world_of n))
  pub may : OnTrue done (MayCommit (world_of k) l left)
  pub may_not : OnFalse done (MayCommit (world_of k) l left → ⊥)
  pub same : OnFalse done (n ≡ k)

-- the page at a place of a copy
abbrev pub page_at : Copied → ℕ → ℕ → BurstPage
page_at c space k = record { space = space; page = c.first + k; words = slice_index_or c.words k [] }

-- those of the first places that have been used
unfoldable pub used_pages : ℕ → Copied → ℕ → List BurstPage
used_pages zero c space = []
used_pages (suc k) c space = used_pages k c space ++ (if slice_index_or c.used k false then page_at c space k ∷ [] else [])
