-- Threads: those that stand, in the order in which they came to where they stand, each with what it waits for.
use Rattle.std.specs.Prelude.{◌≡◌, ◌+◌, ◌≤◌, ◌<◌, ◌^◌, ◌-◌, ℕ, Bool, false, ◌||◌, List, [], ◌∷◌, length, map, Option, Some, None, is_some, IfSome}
use Rattle.std.specs.Prelude.{if◌then◌else◌}
use Rattle.fk_model.specs.declared.names.Who.{Who}
use Rattle.fk_waits.specs.Causes.Names.{is_same, key_at}
use Rattle.fk_waits.specs.Waits.Lists.{IsLastFor, Lists, new_name}
use Rattle.fk_waits.specs.Causes.Causes.{is_same_cause, new_cause, standings, AreStanding, Standing}
use Rattle.fk_waits.specs.declared.waits.threads.Threads.{Threads}

abbrev pub pair_of : Standing → Who × Option Who
pair_of s = (s.who, s.cause)

-- the number of a thread
abbrev pub key_of : Who → List Standing → Option ℕ
key_of thread [] = None
key_of thread (s ∷ l) = if is_same s.who thread then Some s.key else key_of thread l

-- a thread stands somewhere
abbrev pub is_there : Who → List (Who × Option Who) → Bool
is_there thread [] = false
is_there thread (x ∷ l) = is_same x.0 thread || is_there thread l

-- all but one thread
abbrev pub besides : Who → List (Who × Option Who) → List (Who × Option Who)
besides thread [] = []
besides thread (x ∷ l) = if is_same x.0 thread then besides thread l else x ∷ besides thread l

abbrev pub StandApart : List (Who × Option Who) → Type 0
StandApart [] = Unit {0}
StandApart (x ∷ l) = (is_there x.0 l ≡ false) × StandApart l

-- threads, each with what it waits for or among the ready
abbrev pub Pairs : Type 0
Pairs = List (Who × Option Who)

-- the first that waits for something
abbrev pub first_for : Option Who → List (Who × Option Who) → Option Who
first_for cause [] = None
first_for cause (x ∷ l) = if is_same_cause x.1 cause then Some x.0 else first_for cause l

-- the first of all
abbrev pub front_for : List (Who × Option Who) → Option Who
front_for [] = None
front_for (x ∷ l) = Some x.0

-- the same, but that none of them waits
abbrev pub all_ready : List (Who × Option Who) → List (Who × Option Who)
all_ready l = map (λ (x : Who × Option Who). (x.0, None)) l

-- a thread waits
abbrev pub is_waiting : Who → Pairs → Bool
is_waiting thread [] = false
is_waiting thread (x ∷ l) = if is_same x.0 thread then is_some x.1 else is_waiting thread l

abbrev pub is_waited_for : Who → Pairs → Bool
is_waited_for cause [] = false
is_waited_for cause (x ∷ l) = is_same_cause x.1 (Some cause) || is_waited_for cause l

-- they stand so
pub record AreThere (t : Threads) (l : List (Who × Option Who)) : Type 0 where
  pub list : List Standing
  pub pairs : map pair_of list ≡ l
  pub standing : AreStanding t.causes t.causes.ready list
  pub found : (thread : Who) → key_at t.names.0 thread ≡ key_of thread list
  pub apart : StandApart l
  pub many : length t.names.0 ≡ length l
  pub room : t.causes.seats ≤ t.names.1
  pub bound : t.causes.seats < 2 ^ 62

-- the threads that stand, in order
pub record Stand (t : Threads) : Type 0 where
  pub list : Pairs
  pub there : AreThere t list

-- a thread stands, or there is room for it
pub record Fits (t : Threads) (thread : Who) : Type 0 where
  pub list : Pairs
  pub there : AreThere t list
  pub seat : is_there thread list ≡ false → length list + 1 ≤ t.causes.seats

-- nobody waits for this
pub record IsUnused (t : Threads) (cause : Who) : Type 0 where
  pub list : Pairs
  pub there : AreThere t list
  pub none : is_waited_for cause list ≡ false

-- nobody has this name
pub record IsNobody (t : Threads) (thread : Who) : Type 0 where
  pub list : Pairs
  pub there : AreThere t list
  pub none : is_there thread list ≡ false

-- as the nodes show it
abbrev pub pairs_of : Threads → List (Who × Option Who)
pairs_of t = map pair_of (standings t.causes (length t.names.0))

abbrev pub are_ready : List (Who × Option Who) → List Who
are_ready [] = []
are_ready (x ∷ l) = if is_some x.1 then are_ready l else x.0 ∷ are_ready l

-- with a thread in front, if it has a cause
abbrev pub and_queued : Who → Option Who → List (Who × Who) → List (Who × Who)
and_queued thread None l = l
and_queued thread (Some cause) l = (cause, thread) ∷ l

abbrev pub are_queued : List (Who × Option Who) → List (Who × Who)
are_queued [] = []
are_queued (x ∷ l) = and_queued x.0 x.1 (are_queued l)

abbrev pub lists_of : Threads → Lists
lists_of t = record { ready = are_ready (pairs_of t); queued = are_queued (pairs_of t); spare = t.causes.seats - length t.names.0 }

-- a thread, or a cause, has another name
abbrev pub with_name : Who → Who → Who × Option Who → Who × Option Who
with_name from to x = (new_name from to x.0, x.1)

-- a thread after what it waits for was renamed
abbrev pub with_cause : Who → Who → Who × Option Who → Who × Option Who
with_cause from to x = (x.0, new_cause from to x.1)

-- they stand so, and so many are queued
pub record IsKept (t : Threads) (queued : ℕ) : Type 0 where
  pub there : AreThere t (pairs_of t)
  pub count : queued ≡ length (are_queued (pairs_of t))

-- the invariant of the lists: besides, who is known to have been put last of all stands last
pub record IsHeld (t : Threads) (queued : ℕ) (last cause : Option Who) : Type 0 where
  pub kept : IsKept t queued
  pub last_is : IfSome last (λ who. IsLastFor who cause (lists_of t))
