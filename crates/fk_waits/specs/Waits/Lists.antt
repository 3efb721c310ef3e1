-- Lists: who is ready and who is queued, and what each call makes of it.
use Rattle.std.specs.Prelude.{◌≡◌, ℕ, ◌+◌, ◌-◌, Bool, true, false, ◌||◌, ◌&&◌, List, [], ◌∷◌, ◌++◌, map, Option, Some, None, if◌then◌else◌}
use Rattle.fk_model.specs.declared.names.Who.{Who}
use Rattle.fk_waits.specs.Causes.Names.{is_same}
use Rattle.fk_waits.specs.Causes.Causes.{is_same_cause}

-- the threads that are ready, in order; those that are queued, each behind its cause, in the order in which they were
-- parked; and for how many more there is room
pub record Lists : Type 0 where
  pub ready : List Who
  pub queued : List (Who × Who)
  pub spare : ℕ

-- a thread is in a list
abbrev pub is_in : Who → List Who → Bool
is_in thread [] = false
is_in thread (x ∷ l) = is_same x thread || is_in thread l

-- a thread is queued somewhere
abbrev pub is_queued : Who → List (Who × Who) → Bool
is_queued thread [] = false
is_queued thread (q ∷ l) = is_same q.1 thread || is_queued thread l

-- a thread stands in one of the lists
abbrev pub stands : Who → Lists → Bool
stands thread lists = is_in thread lists.ready || is_queued thread lists.queued

-- a thread is queued at this
abbrev pub is_cause : Who → List (Who × Who) → Bool
is_cause cause [] = false
is_cause cause (q ∷ l) = is_same q.0 cause || is_cause cause l

-- the others
abbrev pub without : Who → List Who → List Who
without thread [] = []
without thread (x ∷ l) = if is_same x thread then without thread l else x ∷ without thread l

abbrev pub without_queued : Who → List (Who × Who) → List (Who × Who)
without_queued thread [] = []
without_queued thread (q ∷ l) = if is_same q.1 thread then without_queued thread l else q ∷ without_queued thread l

-- the room once a thread stands: one that stood nowhere takes some
abbrev pub room_with : Who → Lists → ℕ
room_with thread lists = if stands thread lists then lists.spare else lists.spare - 1

-- a thread is parked
abbrev pub parked : Who → Who → Lists → Lists
parked thread cause lists = record {
  ready = without thread lists.ready;
  queued = without_queued thread lists.queued ++ (cause, thread) ∷ [];
  spare = room_with thread lists;
}

-- a thread is woken
abbrev pub woken : Who → Lists → Lists
woken thread lists = record {
  ready = without thread lists.ready ++ thread ∷ [];
  queued = without_queued thread lists.queued;
  spare = room_with thread lists;
}

-- a thread with a cause is parked, one without is woken
abbrev pub settled : Who → Option Who → Lists → Lists
settled thread None lists = woken thread lists
settled thread (Some cause) lists = parked thread cause lists

-- a thread goes
abbrev pub left : Who → Lists → Lists
left thread lists = record {
  ready = without thread lists.ready;
  queued = without_queued thread lists.queued;
  spare = if stands thread lists then lists.spare + 1 else lists.spare;
}

-- something has another name
abbrev pub new_name : Who → Who → Who → Who
new_name from to x = if is_same x from then to else x

-- the lists after an object was renamed
abbrev pub renamed : Who → Who → Lists → Lists
renamed from to lists = record {
  ready = map (new_name from to) lists.ready;
  queued = map (λ (q : Who × Who). (new_name from to q.0, new_name from to q.1)) lists.queued;
  spare = lists.spare;
}

-- the front of the ready goes last
abbrev pub turned : List Who → List Who
turned [] = []
turned (x ∷ l) = l ++ x ∷ []

-- the first of the ready goes to their end
abbrev pub passed : Lists → Lists
passed lists = record { ready = turned lists.ready; queued = lists.queued; spare = lists.spare }

-- who is ready and comes first
abbrev pub first_ready : List Who → Option Who
first_ready [] = None
first_ready (x ∷ l) = Some x

-- the first that is queued at a cause
abbrev pub first_queued : Who → List (Who × Who) → Option Who
first_queued cause [] = None
first_queued cause (q ∷ l) = if is_same q.0 cause then Some q.1 else first_queued cause l

-- each thread stands once
abbrev pub AreOnce : List Who → Type 0
AreOnce [] = Unit {0}
AreOnce (x ∷ l) = (is_in x l ≡ false) × AreOnce l

-- each thread stands once: among the ready, or in one queue
pub record StandOnce (lists : Lists) : Type 0 where
  pub ready : AreOnce lists.ready
  pub queued : AreOnce (map (λ (q : Who × Who). q.1) lists.queued)
  pub apart : (thread : Who) → is_in thread lists.ready ≡ true → is_queued thread lists.queued ≡ false

-- a thread is the last of these
pub record IsLast (thread : Who) (ready : List Who) : Type 0 where
  pub front : List Who
  pub is : ready ≡ front ++ thread ∷ []

-- a thread is the last of those that are queued, at this cause
pub record IsLastAt (thread cause : Who) (queued : List (Who × Who)) : Type 0 where
  pub front : List (Who × Who)
  pub is : queued ≡ front ++ (cause, thread) ∷ []

abbrev pub IsLastFor : Who → Option Who → Lists → Type 0
IsLastFor thread None lists = IsLast thread lists.ready
IsLastFor thread (Some cause) lists = IsLastAt thread cause lists.queued

-- the last, as far as it is known, once a thread is out
abbrev pub last_without : Who → Option Who → Option Who
last_without thread None = None
last_without thread (Some who) = if is_same who thread then None else Some who

abbrev pub is_known : Option Who → Who → Bool
is_known None thread = false
is_known (Some who) thread = is_same who thread

abbrev pub is_put : Option Who → Option Who → Who → Option Who → Bool
is_put last its thread cause = is_known last thread && is_same_cause its cause
