-- Trying: what comes of moves that are tried, and of advances.
use Rattle.std.proofs.Common.{◌≡◌, ℕ, ◌<◌, Bool, true, false, List, Option, Some, None, Result, Ok, Err, IfOk, IfSome, IfNone, OnErr, subst}
use Rattle.fk_model.specs.declared.moves.Move.{Move}
use Rattle.fk_model.specs.World.{World}
use Rattle.laws_house.specs.Houses.{Job}
use Rattle.fk_jobs.specs.Jobs.{Queue}
use Rattle.fk_jobs.specs.Turns.{core_of}
use Rattle.fk_core.specs.Rounds.Served.{Services}
use Rattle.fk_core.specs.Cores.Cores.{RunCore, has_come, is_porter, IsReadyMove, IsFirstDue, IsOver, IsTried, IsAdvanced, IsAdvancedOrOver, IsChoice, IsLacking}
use Rattle.fk_core.proofs.InRounds.Due.{chosen_first}

-- a move that is tried is ready as this exactly where it is as that
-- and may lack memory as this where it may as that
pub tried_as : {E L M : Type 0} (r : Result Bool E) (A B : Type 0) (jobs : List Job) (c : RunCore) (m : Move) (d : RunCore) → (A → B) → (B → A) → (L → M) →
    IsTried A L jobs c m d r → IsTried B M jobs c m d r
tried_as (Ok true) A B jobs c m d f g l h = (f h.0, h.1, h.2)
tried_as (Ok false) A B jobs c m d f g l h = (λ b. h.0 (g b), h.1)
tried_as (Err e) A B jobs c m d f g l h = (f h.0, l h.1, h.2)

-- what holds of jobs and a core holds of those that they are
pub there : (P : Queue → RunCore → Type 0) (q r : Queue) (c d : RunCore) → r ≡ q → d ≡ c → P r d → P q c
there P q r c d same at holds = subst (λ q. P q c) same (subst (P r) at holds)

-- and of the budget that they have
pub there_by : (P : Queue → ℕ → RunCore → Type 0) (q r : Queue) (budget other : ℕ) (c d : RunCore) → r ≡ q → other ≡ budget → d ≡ c → P r other d →
    P q budget c
there_by P q r budget other c d same few at holds = there (λ q c. P q budget c) q r c d same at (subst (λ b. P r b d) few holds)

-- what holds at any time holds once the time has come
pub whenever : {E : Type 0} (r : Result (Option Move) E) (A B : Type 0) → (A → B) → IfOk r (λ made. IfNone made A) → IfOk r (λ made. IfNone made B)
whenever (Ok (Some m)) A B f h = tt
whenever (Ok None) A B f h = f h
whenever (Err e) A B f h = tt

-- ---- what an advance says, part by part

pub advanced_of : {E : Type 0} (r : Result (Option Move) E) (jobs : List Job) (budget : ℕ) (c d : RunCore) → IsAdvancedOrOver jobs budget c d r →
    IfOk r (λ made. IsAdvanced jobs budget c made d)
advanced_of (Ok (Some m)) jobs budget c d h = h
advanced_of (Ok None) jobs budget c d h = h.1
advanced_of (Err e) jobs budget c d h = tt

pub over_of : {E : Type 0} (r : Result (Option Move) E) (jobs : List Job) (budget : ℕ) (c d : RunCore) → IsAdvancedOrOver jobs budget c d r →
    IfOk r (λ made. IfNone made (IsOver jobs budget c))
over_of (Ok (Some m)) jobs budget c d h = tt
over_of (Ok None) jobs budget c d h = h.0
over_of (Err e) jobs budget c d h = tt

pub lacking_of : {E : Type 0} (r : Result (Option Move) E) (jobs : List Job) (budget : ℕ) (c d : RunCore) → IsAdvancedOrOver jobs budget c d r →
    OnErr r (d ≡ c)
lacking_of (Ok made) jobs budget c d h = tt
lacking_of (Err e) jobs budget c d h = h.1

pub lacks_of : {E : Type 0} (r : Result (Option Move) E) (jobs : List Job) (budget : ℕ) (c d : RunCore) → IsAdvancedOrOver jobs budget c d r →
    OnErr r (IsLacking jobs budget c)
lacks_of (Ok made) jobs budget c d h = tt
lacks_of (Err e) jobs budget c d h = h.0

-- from where nothing was made it is the same advance
pub from_same : {E : Type 0} (r : Result (Option Move) E) (jobs more : List Job) (budget other : ℕ) (c d last : RunCore) → more ≡ jobs → other ≡ budget
    → d ≡ c → IsAdvancedOrOver more other d last r → IsAdvancedOrOver jobs budget c last r
from_same r jobs more budget other c d last same_jobs same_budget same h =
    subst (λ j. IsAdvancedOrOver j budget c last r) same_jobs (subst (λ b. IsAdvancedOrOver more b c last r) same_budget
    (subst (λ c. IsAdvancedOrOver more other c last r) same h))

advanced_ready : (made : Option Move) (jobs : List Job) (budget : ℕ) (c d : RunCore) → IsAdvanced jobs budget c made d →
    IfSome made (λ m. (c.events < budget) × IsReadyMove jobs c m)
advanced_ready None jobs budget c d made = tt
advanced_ready (Some m) jobs budget c d made = (made.0, made.1)

-- where the job's move isn't ready whose time has come, whatever is made is chosen well
pub first_further : {E : Type 0} (r : Result (Option Move) E) (q : Queue) (w : World) (services : Services) (events budget : ℕ) (jobs : List Job) (other : ℕ)
    (c d : RunCore) → jobs ≡ q.jobs → other ≡ budget → c ≡ core_of w services q events →
    (has_come q budget events ≡ true → (m : Move) → is_porter q m.who ≡ true → IsReadyMove q.jobs (core_of w services q events) m → ⊥) →
    IfOk r (λ made. IsAdvanced jobs other c made d) → IfOk r (λ made. IsFirstDue q budget (core_of w services q events) made)
first_further (Err e) q w services events budget jobs other c d same_jobs same_budget same none advanced = tt
first_further (Ok made) q w services events budget jobs other c d same_jobs same_budget same none advanced =
    let one = subst (λ j. IsAdvanced j other c made d) same_jobs advanced in
    let two = subst (λ b. IsAdvanced q.jobs b c made d) same_budget one in
    let three = subst (λ c. IsAdvanced q.jobs budget c made d) same two in
    chosen_first q w services events budget made none (advanced_ready made q.jobs budget (core_of w services q events) d three)

-- ---- legal choices

pub choice_of : (o : Option Move) (q : Queue) (budget : ℕ) (c : RunCore) → IfSome o (λ m. (c.events < budget) × IsReadyMove q.jobs c m) →
    IfNone o (IsOver q.jobs budget c) → IsFirstDue q budget c o → IsChoice q budget c o
choice_of None q budget c ready none first = none
choice_of (Some m) q budget c ready none first = (ready.0, ready.1, first)

pub choice_made : {E : Type 0} (r : Result (Option Move) E) (q : Queue) (budget : ℕ) (c d : RunCore) → IsAdvancedOrOver q.jobs budget c d r →
    IfOk r (λ made. IsFirstDue q budget c made) → IfOk r (λ made. IsChoice q budget c made)
choice_made (Ok (Some m)) q budget c d h first = (h.0, h.1, first)
choice_made (Ok None) q budget c d h first = h.0
choice_made (Err e) q budget c d h first = tt
