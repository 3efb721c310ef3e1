-- Leasing: what a lease begins with.
use Rattle.std.proofs.Common.{◌≡◌, ℕ, ◌+◌, ◌/◌, ◌↔◌, Bool, true, false, List, None, Some, IsTrue, refl, sym, ap, ◌∙◌}
use Rattle.std.specs.Bool.{OnTrue, OnFalse}
use Rattle.fk_model.specs.declared.moves.Ask.TheVariants as asks
use Rattle.fk_model.specs.declared.names.Who.{Who}
use Rattle.fk_model.specs.declared.thread.Mode as modes_of
use Rattle.fk_model.specs.declared.thread.Mode.TheVariants as modes
use Rattle.fk_model.specs.declared.thread.Thread as threads_of
use Rattle.fk_model.specs.Moves.{IsReady}
use Rattle.fk_model.specs.Objects.Mode.{Running}
use Rattle.fk_model.specs.Places.{Path}
use Rattle.fk_model.specs.Searches.{thread_at}
use Rattle.fk_model.specs.Who.{named, space_born}
use Rattle.fk_model.specs.World.{World}
use Rattle.fk_plans.specs.Plans.Effects.{is_running}
use Rattle.fk_store.specs.Store.Bodies.{mode_by, thread_by}
use Rattle.fk_store.specs.Store.Contents.{Contents}
use Rattle.fk_store.specs.Store.Paths.{path, place}
use Rattle.fk_store.specs.Store.World.{world}
use Rattle.laws_bursts.specs.Bursts.{Burst, made}
use Rattle.fk_burst.specs.declared.copies.copied.Copied.{Copied}
use Rattle.fk_burst.specs.Copies.Copies.{burst_of, begun}
use Rattle.fk_burst.specs.Burst.Kept.{IsKept}
use Rattle.fk_burst.specs.Burst.Lease.{Lease}
use Rattle.fk_burst.specs.Burst.Leases.{IsCopied, IsLeased, IsReadyToRun}
use Rattle.fk_burst.proofs.InBurst.Runs.{made_none, made_all}

module _ (m : Contents) (who : Who) (born : path m ≡ space_born (world m)) (running : is_running (thread_at (world m) (named (world m) who)) ≡ true)
    (t : threads_of.Thread) (there : Some (thread_by (path m) t) ≡ thread_at (world m) (place (path m) who)) where
  pub stands : Some (thread_by (path m) t) ≡ thread_at (world m) (named (world m) who)
  stands = there ∙ ap (λ (p : ℕ → Path). thread_at (world m) (place p who)) born

  pub in-running : mode_by t.mode t.regs ≡ Running t.regs
  in-running = by t.mode (ap is_running stands ∙ running)
    where
      by : (mode : modes_of.Mode) → is_running (Some (record (thread_by (path m) t) { mode = mode_by mode t.regs })) ≡ true →
          mode_by mode t.regs ≡ Running t.regs
      by modes.Running is = refl
      by modes.Calling is = absurd (cc)
      by (modes.Halted code) is = absurd (cc)
      by modes.Native is = absurd (cc)

-- what is copied of a thread that runs is a lease that begins
pub is_leased : (m : Contents) (who : Who) (l : Lease) → path m ≡ space_born (world m) → is_running (thread_at (world m) (named (world m) who)) ≡ true →
    IsCopied m who l → IsLeased (world m) who l
is_leased m who l born running copied = record {
  thread = copied.thread;
  words = record {
    thread = thread_by (path m) copied.there;
    there = sym (stands m who born running copied.there copied.is);
    mode = in-running m who born running copied.there copied.is ∙ ap (λ (b : Burst). Running b.registers) (sym copied.taken);
    counter = ap (λ (b : Burst). b.counter) (sym copied.taken);
  };
  pages = copied.taken
      ∙ ap (λ (p : ℕ → Path). begun (world m) (p who.space) copied.there.regs copied.there.pc) born
      ∙ ap (λ (b : Burst). begun (world m) (space_born (world m) who.space) b.registers b.counter) (sym copied.taken);
  copy = copied.copy;
  count = copied.count;
}

-- where no thread stands none runs
pub nobody_runs : (m : Contents) (who : Who) → path m ≡ space_born (world m) → is_running (thread_at (world m) (named (world m) who)) ≡ true →
    None ≡ thread_at (world m) (place (path m) who) → ⊥
nobody_runs m who born running none =
    let nobody : None ≡ thread_at (world m) (named (world m) who) = none ∙ ap (λ (p : ℕ → Path). thread_at (world m) (place p who)) born in
    let not = ap is_running nobody ∙ running in
    cc

-- a copy is one of a lease where the thread is ready
module _ (m : Contents) (who : Who) (born : path m ≡ space_born (world m)) where
  pub leased_ready : (r : Bool) → IsReadyToRun (world m) who → OnFalse r (None ≡ thread_at (world m) (place (path m) who)) →
      IsTrue r ↔ IsReadyToRun (world m) who
  leased_ready true ready none = ((λ so. ready), (λ ready. refl))
  leased_ready false ready none = absurd (nobody_runs m who born ready.0 none)

  pub leased_so : (r : Bool) (l : Lease) → IsReadyToRun (world m) who → OnTrue r (IsCopied m who l) → OnTrue r (IsLeased (world m) who l)
  leased_so true l ready copied = is_leased m who l born ready.0 copied
  leased_so false l ready copied = tt

  module _ (running : Bool) (is : running ≡ is_running (thread_at (world m) (place (path m) who))) where
    runs-there : running ≡ is_running (thread_at (world m) (named (world m) who))
    runs-there = is ∙ ap (λ (p : ℕ → Path). is_running (thread_at (world m) (place p who))) born

    pub ready_running : (r : Bool) → running ≡ true → (IsTrue r ↔ IsReady (world m) (named (world m) who) None asks.Run) →
        IsTrue r ↔ IsReadyToRun (world m) who
    ready_running r there iff = ((λ so. (sym runs-there ∙ there, iff.0 so)), (λ both. iff.1 both.1))

    pub unready_resting : running ≡ false → IsTrue false ↔ IsReadyToRun (world m) who
    unready_resting rests = ((λ so. absurd (cc)), (λ both. let not_so = sym rests ∙ runs-there ∙ both.0 in absurd (cc)))

-- a lease that begins keeps what a lease keeps
pub kept_fresh : (who : Who) (taken : Copied) → ((page : ℕ) → (burst_of taken).used page ≡ false) → taken.first ≡ taken.counter / 64 →
    IsKept (record { thread = who; taken = taken; copy = taken; count = 0 })
kept_fresh who taken fresh first = record { comes = made_none (burst_of taken); fresh = fresh; begins = first; first = refl }

pub kept_first : (who : Who) (taken : Copied) (w : World) (space : Path) (registers : List ℕ) (counter : ℕ) → burst_of taken ≡ begun w space registers counter →
    taken.first ≡ taken.counter / 64 → IsKept (record { thread = who; taken = taken; copy = taken; count = 0 })
kept_first who taken w space registers counter is first = kept_fresh who taken (λ page. ap (λ (b : Burst). b.used page) is) first

-- and so does one that has made more instructions
pub kept_more : (who : Who) (taken now next : Copied) (count more : ℕ) → IsKept (record { thread = who; taken = taken; copy = now; count = count }) →
    made more (burst_of now) ≡ Some (burst_of next) → next.first ≡ now.first →
    IsKept (record { thread = who; taken = taken; copy = next; count = count + more })
kept_more who taken now next count more kept is first = record {
  comes = made_all count more (burst_of taken) (burst_of now) (burst_of next) kept.comes is;
  fresh = kept.fresh;
  begins = kept.begins;
  first = first ∙ kept.first;
}
