-- Causes: threads in the queues of what they wait for, and of those that are ready.
use Rattle.std.specs.Prelude.{◌≡◌, ◌≢◌, ◌+◌, ◌≤◌, ◌<◌, ℕ, ◌==◌, Bool, true, false, List, [], ◌∷◌, ◌++◌, length, map, Option, Some, None, if◌then◌else◌}
use Rattle.std.specs.Prelude.{slice_index_or}
use Rattle.slab.specs.Slab.{slab_len}
use Rattle.fk_model.specs.declared.names.Who.{Who}
use Rattle.fk_waits.specs.Queues.Nodes.{shown_at}
use Rattle.fk_waits.specs.Causes.Names.{is_same, key_at}
use Rattle.fk_waits.specs.declared.causes.names.Name.{Name}
use Rattle.fk_waits.specs.Queues.Places.{first_at, places_from, who_shown, AreFiled, IsHead, Place}
use Rattle.fk_waits.specs.declared.causes.causes.Causes.{Causes}

-- a thread, its node in the order, and what it waits for: nothing where it is ready
pub record Standing : Type 0 where
  pub key : ℕ
  pub who : Who
  pub cause : Option Who

-- what those in a queue wait for
abbrev pub cause_of : Causes → ℕ → Option Who
cause_of c h = if h == c.ready then None else who_shown (shown_at c.queues.lines h)

abbrev pub standing_of : Causes → Place → Standing
standing_of c p = record { key = p.key; who = p.who; cause = cause_of c p.head }

-- so many threads, as the nodes show them
abbrev pub standings : Causes → ℕ → List Standing
standings c n = map (standing_of c) (places_from c.queues n c.queues.first)

-- there is a queue for each cause that has a name, and one that a thread comes to or leaves. In any of them nobody may stand
pub record ArePlaced (c : Causes) (queue : ℕ) (l : List Place) : Type 0 where
  pub filed : AreFiled c.queues l
  pub ready : IsHead c.queues.lines c.ready
  pub one : IsHead c.queues.lines queue
  pub known : (name : Who) (h : ℕ) → key_at c.names.0 name ≡ Some h → (shown_at c.queues.lines h ≡ Some (name, h)) × (h ≢ c.ready)
  pub found : (name : Who) (h : ℕ) → shown_at c.queues.lines h ≡ Some (name, h) → h ≢ c.ready → key_at c.names.0 name ≡ Some h
  pub order : slab_len c.queues.order ≡ length l + 1
  pub lines : slab_len c.queues.lines ≡ length l + length c.names.0 + 1
  pub few : length l ≤ c.seats
  pub many : length c.names.0 ≤ c.most

-- there is room for so many threads in all, and for as many queues as there may be, which are more than these
pub record IsRoomy (c : Causes) : Type 0 where
  pub order : c.seats + 1 ≤ c.queues.order.capacity
  pub lines : c.seats + c.most + 1 ≤ c.queues.lines.capacity
  pub names : c.most ≤ c.names.1
  pub most : c.most ≡ c.seats + c.seats + 14

-- threads stand so
pub record AreStanding (c : Causes) (queue : ℕ) (l : List Standing) : Type 0 where
  pub places : List Place
  pub shown : map (standing_of c) places ≡ l
  pub placed : ArePlaced c queue places
  pub roomy : IsRoomy c

-- who stands in a queue, in order
pub record Stand (c : Causes) (queue : ℕ) : Type 0 where
  pub list : List Standing
  pub standing : AreStanding c queue list

-- the thread with a node in the order stands there
pub record HasStanding (c : Causes) (queue key : ℕ) : Type 0 where
  pub before : List Standing
  pub one : Standing
  pub behind : List Standing
  pub is : one.key ≡ key
  pub standing : AreStanding c queue (before ++ one ∷ behind)

-- there is room for one more
pub record HasSeat (c : Causes) (queue : ℕ) : Type 0 where
  pub list : List Standing
  pub standing : AreStanding c queue list
  pub seat : length list + 1 ≤ c.seats

-- nobody stands in a queue
abbrev pub IsEmpty : Causes → ℕ → Type 0
IsEmpty c h = (l : List Place) → AreFiled c.queues l → first_at h l ≡ None

-- somebody stands in each of the queues whose names stand at these places
abbrev pub AreTaken : Causes → ℕ → ℕ → Type 0
AreTaken c from to =
    (k : ℕ) (d : Name) → from ≤ k → k < to → (l : List Place) → AreFiled c.queues l → first_at (slice_index_or c.names.0 k d).key l ≢ None

abbrev pub is_same_cause : Option Who → Option Who → Bool
is_same_cause None None = true
is_same_cause (Some a) (Some b) = is_same a b
is_same_cause None (Some b) = false
is_same_cause (Some a) None = false

-- the first that waits for something
abbrev pub first_of : Option Who → List Standing → Option Who
first_of cause [] = None
first_of cause (s ∷ l) = if is_same_cause s.cause cause then Some s.who else first_of cause l

-- the first of all
abbrev pub front_of : List Standing → Option Who
front_of [] = None
front_of (s ∷ l) = Some s.who

-- a cause has another name
abbrev pub new_cause : Who → Who → Option Who → Option Who
new_cause from to None = None
new_cause from to (Some name) = if is_same name from then Some to else Some name

-- who stands somewhere after an object was renamed
abbrev pub recaused : Who → Who → Standing → Standing
recaused from to s = record { key = s.key; who = s.who; cause = new_cause from to s.cause }
