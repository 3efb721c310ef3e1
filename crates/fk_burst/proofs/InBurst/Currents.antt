-- Currents: a thread with the copy's words is where it was leased, and what follows from that.
use Rattle.std.proofs.Common.{◌≡◌, ℕ, ◌+◌, ◌<◌, Bool, true, false, cond, List, [], ◌∷◌}
use Rattle.std.proofs.Common.{All, length, Some, None, is_some, slice_index_or, suc, zero, replicate, refl, sym, ap, subst, ◌∙◌}
use Rattle.std.proofs.lemmas.List.Elements.{All-append, All-cons, All-nil}
use Rattle.std.proofs.lemmas.Option.{same_Some}
use Rattle.std.specs.Bool.{OnTrue, OnFalse}
use Rattle.fk_model.specs.declared.moves.Ask.TheVariants as asks
use Rattle.fk_model.specs.declared.moves.Move.{Move}
use Rattle.fk_model.specs.declared.names.Who.{Who}
use Rattle.fk_model.specs.declared.thread.Thread as threads_of
use Rattle.fk_model.specs.Holds.{is_free}
use Rattle.fk_model.specs.Moves.{IsReady, GoesAllowed, goes_on, user_move, outcome}
use Rattle.fk_model.specs.Objects.{Mode, Thread}
use Rattle.fk_model.specs.Objects.Mode.{Running}
use Rattle.fk_model.specs.Outcomes.{when}
use Rattle.fk_model.specs.Places.{Path, parent}
use Rattle.fk_model.specs.Searches.{thread_at}
use Rattle.fk_model.specs.Valid.{IsValid, birth_at}
use Rattle.fk_model.specs.Who.{named, space_born}
use Rattle.fk_model.specs.World.{World}
use Rattle.fk_kernel.specs.declared.replace.BurstPage.{BurstPage}
use Rattle.fk_kernel.specs.Replaced.{IsPageThere, replaced}
use Rattle.fk_store.specs.Store.Bodies.{thread_by}
use Rattle.fk_store.specs.Store.Contents.{Contents}
use Rattle.fk_store.specs.Store.Paths.{path, place}
use Rattle.fk_store.specs.Store.World.{world}
use Rattle.laws_bursts.specs.Bursts.{Burst}
use Rattle.laws_bursts.specs.Laws.{HasPages, IsWhereItBegan, LeadQuietly, committed, move_of}
use Rattle.laws_bursts.proofs.Moves.{bursts_are_moves_lem}
use Rattle.laws_turns.specs.Quiet.{LeadRunning}
use Rattle.laws_turns.proofs.Running.{bursts_run_lem}
use Rattle.fk_burst.specs.declared.copies.copied.Copied.{Copied}
use Rattle.fk_burst.specs.Burst.Commits.{IsCurrent, page_at, used_pages}
use Rattle.fk_burst.specs.Copies.Copies.{for_page, burst_of}
use Rattle.fk_burst.specs.Burst.Kept.{IsKept}
use Rattle.fk_burst.specs.Burst.Lease.{Lease}
use Rattle.fk_burst.specs.Burst.Leases.{IsReadyToRun}
use Rattle.fk_burst.proofs.InBurst.Committing.{replaced_is_committed}
use Rattle.fk_burst.proofs.InBurst.Leasing.{stands, in-running}
use Rattle.fk_burst.proofs.InCopies.Places.{at-places}
use Rattle.fk_burst.proofs.InCopies.Used.{HasUsed, made-has, made-pages}

-- ---- a thread that is looked at

-- what comes of an answer, by what is known of it
pub on-true-by : (r : Bool) (P Q : Type 0) → OnTrue r P → (P → Q) → OnTrue r Q
on-true-by true P Q h f = f h
on-true-by false P Q h f = h

pub on-false-by : (r : Bool) (P Q : Type 0) → OnFalse r P → (P → Q) → OnFalse r Q
on-false-by true P Q h f = h
on-false-by false P Q h f = f h

running-registers : Mode → List ℕ
running-registers (Running g) = g
running-registers other = []

module _ (m : Contents) (who : Who) (taken now : Copied) (born : path m ≡ space_born (world m)) (ready : IsReadyToRun (world m) who)
    (t : threads_of.Thread) (there : Some (thread_by (path m) t) ≡ thread_at (world m) (place (path m) who)) where
  pub is-current : t.regs ≡ taken.registers → t.pc ≡ taken.counter → HasPages (world m) (place (path m) who) (burst_of now) (burst_of taken) →
      IsCurrent (world m) who taken now
  unfolding burst_of
  is-current registers counter pages = record {
    ready = ready;
    words = record {
      thread = thread_by (path m) t;
      there = sym (stands m who born ready.0 t there);
      mode = in-running m who born ready.0 t there ∙ ap (λ g. Running g) registers;
      counter = counter;
    };
    pages = subst (λ (p : ℕ → Path). HasPages (world m) (place p who) (burst_of now) (burst_of taken)) born pages;
  }

  module _ (current : IsCurrent (world m) who taken now) where
    same-thread : thread_by (path m) t ≡ current.words.thread
    same-thread = same_Some _ _ (stands m who born ready.0 t there ∙ current.words.there)

    pub current-registers : t.regs ≡ taken.registers
    unfolding burst_of running-registers
    current-registers =
        ap running-registers (sym (in-running m who born ready.0 t there) ∙ ap (λ (u : Thread). u.mode) same-thread ∙ current.words.mode)

    pub current-counter : t.pc ≡ taken.counter
    unfolding burst_of
    current-counter = ap (λ (u : Thread). u.counter) same-thread ∙ current.words.counter

    pub current-pages : HasPages (world m) (place (path m) who) (burst_of now) (burst_of taken)
    current-pages = subst (λ (p : ℕ → Path). HasPages (world m) (place p who) (burst_of now) (burst_of taken)) (sym born) current.pages

pub on-true-any : (r : Bool) (P : Type 0) → P → OnTrue r P
on-true-any true P p = p
on-true-any false P p = tt

-- the space of a thread that is there
pub space-born : (m : Contents) (space : ℕ) → path m ≡ space_born (world m) → birth_at (world m) (path m space) ≡ Some space →
    birth_at (world m) (space_born (world m) space) ≡ Some space
space-born m space born is = subst (λ (p : ℕ → Path). birth_at (world m) (p space) ≡ Some space) born is

-- ---- what is ready is free

ready-free : (w : World) (x : Path) (t : Thread) → thread_at w x ≡ Some t → IsReady w x None asks.Run → is_free w (parent x) t ≡ true
unfolding outcome
ready-free w x t there ready = by (is_free w (parent x) t) refl (subst (λ o. GoesAllowed w x (user_move w x None o)) there ready)
  where
    by : (free : Bool) → is_free w (parent x) t ≡ free → GoesAllowed w x (when free (goes_on w x None t t.mode)) → free ≡ true
    by true is goes = refl
    by false is goes = absurd goes

-- ---- pages that are handed back

module _ (w : World) (l : Lease) (valid : IsValid w) (kept : IsKept l) (current : IsCurrent w l.thread l.taken l.copy) (long : length l.copy.used ≡ 4) where
  abbrev b : Burst
  b = burst_of l.taken

  abbrev c : Burst
  c = burst_of l.copy

  fresh : HasUsed b
  fresh page is = let none = kept.fresh page in let not_so = sym none ∙ is in absurd (cc)

  pub has-used : HasUsed c
  has-used = made-has l.count b c fresh kept.comes

  in-world : (page : ℕ) → c.used page ≡ true → is_some (w.page (space_born w l.thread.space) page) ≡ true
  in-world page is = ap is_some (current.pages page is) ∙ made-pages l.count b c page kept.comes (has-used page is)

  pub low-pages : (k : ℕ) → slice_index_or l.copy.used k false ≡ true → l.copy.first + k < 256
  low-pages = at-places l.copy (λ page. page < 256) (λ page is. (valid.paged (space_born w l.thread.space) page (in-world page is)).number)

  pub pages-there : birth_at w (space_born w l.thread.space) ≡ Some l.thread.space → (k : ℕ) →
      All (IsPageThere (space_born w) w) (used_pages k l.copy l.thread.space)
  unfolding used_pages
  pages-there space zero = All-nil (IsPageThere (space_born w) w)
  pages-there space (suc k) = All-append (IsPageThere (space_born w) w) (used_pages k l.copy l.thread.space)
      (cond (slice_index_or l.copy.used k false) (page_at l.copy l.thread.space k ∷ []) []) (pages-there space k) (by (slice_index_or l.copy.used k false) refl)
    where
      by : (u : Bool) → slice_index_or l.copy.used k false ≡ u → All (IsPageThere (space_born w) w) (cond u (page_at l.copy l.thread.space k ∷ []) [])
      by true is =
          let there : IsPageThere (space_born w) w (page_at l.copy l.thread.space k) =
          (space, at-places l.copy (λ page. is_some (w.page (space_born w l.thread.space) page) ≡ true) in-world k is) in
          All-cons (IsPageThere (space_born w) w) (page_at l.copy l.thread.space k) [] there (All-nil (IsPageThere (space_born w) w))
      by false is = All-nil (IsPageThere (space_born w) w)

  began : IsWhereItBegan w (named w l.thread) b
  began = record {
    thread = current.words.thread;
    there = current.words.there;
    free = ready-free w (named w l.thread) current.words.thread current.words.there current.ready.1;
    mode = current.words.mode;
    counter = current.words.counter;
  }

  pub leads : (v : World) → v ≡ committed w (named w l.thread) c → LeadQuietly w (replicate l.count (move_of (named w l.thread))) v
  leads v becomes = subst (LeadQuietly w (replicate l.count (move_of (named w l.thread)))) (sym becomes)
      (bursts_are_moves_lem w l.thread.slot (space_born w l.thread.space) l.count b c valid.paged began kept.comes current.pages)

  abbrev move : Move
  move = record { who = l.thread; pick = None }

  pub leads-running : (v : World) → v ≡ committed w (named w l.thread) c → LeadRunning move l.count w v
  leads-running v becomes = subst (LeadRunning move l.count w) (sym becomes)
      (bursts_run_lem move w l.count b c refl valid.paged began kept.comes current.pages)

-- what has been used has words
has-words : (c : Copied) → HasUsed (burst_of c) → (page : ℕ) → (burst_of c).used page ≡ true → (burst_of c).page page ≡ Some (for_page c.first c.words [] page)
unfolding burst_of
has-words c used page is = by (for_page c.first c.there false page) (used page is)
  where
    by : (t : Bool) → is_some (cond t (Some (for_page c.first c.words [] page)) None) ≡ true →
        cond t (Some (for_page c.first c.words [] page)) None ≡ Some (for_page c.first c.words [] page)
    by true h = refl
    by false h = absurd (cc)

pub becomes-committed : (w v : World) (who : Who) (c : Copied) (pages : List BurstPage) → length c.used ≡ 4 → HasUsed (burst_of c) →
    pages ≡ used_pages 4 c who.space → v ≡ replaced w who c.registers c.counter pages → v ≡ committed w (named w who) (burst_of c)
becomes-committed w v who c pages long used same becomes =
    becomes ∙ ap (replaced w who c.registers c.counter) same ∙ replaced_is_committed w who c long (has-words c used)
