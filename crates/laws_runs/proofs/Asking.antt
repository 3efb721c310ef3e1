-- Who asks for what, read back.
use Rattle.std.proofs.Common.{◌≡◌, ℕ, Bool, true, false, ◌==◌, List, Option, Some, None, refl, ap, ◌∙◌, if◌then◌else◌, eqb-true, cond}
use Rattle.std.proofs.lemmas.Bool.{and_parts}
use Rattle.fk_model.specs.declared.limits.TheConstants.{LAST_PORTER_SLOT}
use Rattle.fk_model.specs.declared.moves.Ask.{Ask}
use Rattle.fk_model.specs.declared.names.Who.{Who}
use Rattle.fk_model.specs.declared.stage.Stage.{Stage}
use Rattle.laws_moves.specs.Frozen.Users.{is_users}
use Rattle.laws_jobs.specs.Machines.{Head}
use Rattle.laws_jobs.specs.Machines.Head.{Stops, Asks}
use Rattle.laws_runs.specs.Cores.{House, Work, Core, current, is_porter_of, others_ask, job_asks, work_of, work_asks, asks_of_job, Asker, asker}
use Rattle.laws_runs.specs.Cores.Asker.{Nobody, Others, Job}
use Rattle.laws_moves.specs.Whole.Runnable.{has_all_words}
use Rattle.laws_runs.specs.Composed.{AskAsUsers}

module _ {J S A V : Type 0} (h : House J S A V) (c : Core S A V) (who : Who) where
  -- the job that asks is the current one, by its nester's porter
  pub record JobAsks (begun : ℕ) (t : S) (stage : Stage) (words : List ℕ) : Type 0 where
    pub job : J
    pub its : current h c ≡ Some job
    pub slot : who.slot ≡ LAST_PORTER_SLOT
    pub space : who.space ≡ h.nester job
    pub work : work_of c.events c.work (h.begins job c.ends) ≡ Some (record { begun = begun; state = t })
    pub asked : h.machine.head t ≡ Asks stage words

  none_for : (o : Option Ask) (begun : ℕ) (t : S) (stage : Stage) (words : List ℕ) → others_ask o ≡ Job begun t stage words → ⊥
  none_for None begun t stage words e = cc
  none_for (Some ask) begun t stage words e = by (has_all_words ask) e
    where
      by : (b : Bool) → (if b then Others ask else Nobody) ≡ Job begun t stage words → ⊥
      by true e = cc
      by false e = cc

  pub job_of : (begun : ℕ) (t : S) (stage : Stage) (words : List ℕ) → asker h c who ≡ Job begun t stage words → JobAsks begun t stage words
  job_of begun t stage words e = by (current h c) refl e
    where
      at_head : (j : J) → current h c ≡ Some j → is_porter_of (h.nester j) who ≡ true → (k : Work S) →
          work_of c.events c.work (h.begins j c.ends) ≡ Some k → (head : Head A) →
          h.machine.head k.state ≡ head → job_asks k.begun k.state head ≡ Job begun t stage words → JobAsks begun t stage words
      at_head j its porter k work (Stops end) stops e = cc
      at_head j its porter k work (Asks asked given) asks e =
          let both = and_parts (who.space == h.nester j) (who.slot == LAST_PORTER_SLOT) porter in
          let one : k.begun ≡ begun = cc in
          let two : k.state ≡ t = cc in
          let three : asked ≡ stage = cc in
          let four : given ≡ words = cc in
          record {
            job = j;
            its = its;
            slot = eqb-true who.slot LAST_PORTER_SLOT both.1;
            space = eqb-true who.space (h.nester j) both.0;
            work = work ∙ (λ i. Some (record { begun = one i; state = two i }));
            asked = rw (← two, ← three, ← four) asks;
          }

      at_work : (j : J) → current h c ≡ Some j → is_porter_of (h.nester j) who ≡ true → (k : Option (Work S)) →
          work_of c.events c.work (h.begins j c.ends) ≡ k → work_asks h.machine k ≡ Job begun t stage words → JobAsks begun t stage words
      at_work j its porter None work e = cc
      at_work j its porter (Some k) work e = at_head j its porter k work (h.machine.head k.state) refl e

      at_job : (j : J) → current h c ≡ Some j → (b : Bool) → is_porter_of (h.nester j) who ≡ b →
          (if b then work_asks h.machine (work_of c.events c.work (h.begins j c.ends)) else others_ask (h.servers.asks c.servers c.world who))
          ≡ Job begun t stage words → JobAsks begun t stage words
      at_job j its true porter e = at_work j its porter (work_of c.events c.work (h.begins j c.ends)) refl e
      at_job j its false porter e = absurd (none_for (h.servers.asks c.servers c.world who) begun t stage words e)

      by : (o : Option J) → current h c ≡ o → asks_of_job h c who o ≡ Job begun t stage words → JobAsks begun t stage words
      by None its e = absurd (none_for (h.servers.asks c.servers c.world who) begun t stage words e)
      by (Some j) its e = at_job j its (is_porter_of (h.nester j) who) refl e

  others_from : AskAsUsers h → (ask : Ask) (o : Option Ask) → h.servers.asks c.servers c.world who ≡ o → others_ask {S = S} o ≡ Others ask →
      (is_users ask ≡ true) × (has_all_words ask ≡ true)
  others_from users ask None its e = cc
  others_from users ask (Some found) its e = by (has_all_words found) refl e
    where
      by : (b : Bool) → has_all_words found ≡ b → cond {A = Asker S} b (Others found) Nobody ≡ Others ask → (is_users ask ≡ true) × (has_all_words ask ≡ true)
      by true words e = let same : found ≡ ask = cc in (rw (← same) (users c.servers c.world who found its), rw (← same) words)
      by false words e = cc

  job_never : (ask : Ask) (k : Option (Work S)) → work_asks h.machine k ≡ Others ask → ⊥
  job_never ask None e = cc
  job_never ask (Some k) e = by (h.machine.head k.state) e
    where
      by : (head : Head A) → job_asks k.begun k.state head ≡ Others ask → ⊥
      by (Stops end) e = cc
      by (Asks stage words) e = cc

  -- what others ask for is what users may, and what they give is words
  pub others_of : AskAsUsers h → (ask : Ask) → asker h c who ≡ Others ask → (is_users ask ≡ true) × (has_all_words ask ≡ true)
  others_of users ask e = by (current h c) e
    where
      at_job : (j : J) (b : Bool) →
          (if b then work_asks h.machine (work_of c.events c.work (h.begins j c.ends)) else others_ask (h.servers.asks c.servers c.world who)) ≡ Others ask →
          (is_users ask ≡ true) × (has_all_words ask ≡ true)
      at_job j true e = absurd (job_never ask (work_of c.events c.work (h.begins j c.ends)) e)
      at_job j false e = others_from users ask (h.servers.asks c.servers c.world who) refl e

      by : (o : Option J) → asks_of_job h c who o ≡ Others ask → (is_users ask ≡ true) × (has_all_words ask ≡ true)
      by None e = others_from users ask (h.servers.asks c.servers c.world who) refl e
      by (Some j) e = at_job j (is_porter_of (h.nester j) who) e

abbrev work : {S : Type 0} → ℕ → S → Work S
work begun t = record { begun = begun; state = t }

-- a job that has made a move is the one that is at work
pub goes_on_work : {S : Type 0} (events : ℕ) (first : Option S) (k : Work S) (begun : ℕ) (t : S) →
    work_of events (Some k) first ≡ Some (work begun t) → (k.begun ≡ begun) × (k.state ≡ t)
goes_on_work {S = S} events first k begun t e =
    let same : k ≡ work begun t = cc in
    (ap (λ (r : Work S). r.begun) same, ap (λ (r : Work S). r.state) same)

-- one that has made none begins
pub begins_work : {S : Type 0} (events : ℕ) (first : Option S) (begun : ℕ) (t : S) →
    work_of events None first ≡ Some (work begun t) → (events ≡ begun) × (first ≡ Some t)
begins_work events None begun t e = cc
begins_work {S = S} events (Some s) begun t e =
    let same : work events s ≡ work begun t = cc in
    (ap (λ (r : Work S). r.begun) same, ap (λ (r : Work S). Some r.state) same)
