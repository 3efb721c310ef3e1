-- Valid worlds: what holds of every world that is reached from a valid one by fit moves.
use Rattle.std.specs.Prelude.{◌≡◌, ℕ, ◌+◌, ◌<◌, ◌≤◌, Bool, true, false, not, ◌&&◌, ◌||◌, ◌==◌, nat_le, nat_lt, IsSome, List, [], ◌∷◌, Option, Some, None}
use Rattle.std.specs.Prelude.{Result, Ok, Err, option_map, slice_index}
use Rattle.std.specs.List.{list_any}
use Rattle.fk_model.specs.declared.limits.TheConstants.{SLOTS, PAGES, MOST_MOVED}
use Rattle.fk_model.specs.declared.moves.Ask.{Ask}
use Rattle.fk_model.specs.declared.moves.Ask.TheVariants as asks
use Rattle.fk_model.specs.declared.names.Kind.{Kind}
use Rattle.fk_model.specs.declared.names.Kind.TheVariants as kinds
use Rattle.fk_model.specs.declared.stage.Stage.{Stage}
use Rattle.fk_model.specs.declared.stage.Stage.TheVariants.{LinkSet, LinkPark, FaultSet, FaultPark}
use Rattle.fk_model.specs.Places.{Path, same_path, parent, Ptr}
use Rattle.fk_model.specs.Places.Ptr.{Null, Dead, At}
use Rattle.fk_model.specs.Objects.{Peer, Talk, Fault, Body, kind_of, same_kind, port_of, and_then, holds, flag_of}
use Rattle.fk_model.specs.Objects.Peer.{Server, Service, Parked}
use Rattle.fk_model.specs.Objects.Body.{Mapping, Region, Port, Space, Thread_of, Reference}
use Rattle.fk_model.specs.World.{World, set_at, serves}
use Rattle.fk_model.specs.Searches.{talk_at, fault_at, is_serving}
use Rattle.fk_model.specs.Records.{is_page_range}
use Rattle.fk_model.specs.StateRows.{referable}
use Rattle.fk_model.specs.Outcomes.{Caller}
use Rattle.fk_model.specs.Readers.{and_read, referred}
use Rattle.fk_model.specs.FaultRows.{named_taker}
use Rattle.fk_model.specs.Moves.{porter_at}

-- ---- pointers lead to objects of the kinds that their fields hold

-- the kind of what stands at a path
unfoldable pub kind_there : World → Path → Option Kind
kind_there w x = option_map kind_of (w.body x)

abbrev pub is_one_of : List Kind → Option Kind → Bool
is_one_of wanted kind = holds (λ k. list_any (same_kind k) wanted) kind

-- it leads to an object of one of these kinds. What leads out of a subtree that is seen alone is not looked at
abbrev pub leads_there : (Path → Option Kind) → List Kind → Ptr → Bool
leads_there there wanted (At x) = is_one_of wanted (there x)
leads_there there wanted Null = false
leads_there there wanted Dead = false
leads_there there wanted other = true

-- or to nothing, or to what was destroyed
abbrev pub may_lead : (Path → Option Kind) → List Kind → Ptr → Bool
may_lead there wanted (At x) = leads_there there wanted (At x)
may_lead there wanted other = true

abbrev pub all_in : {A : Type 0} → (A → Bool) → Option A → Bool
all_in test None = true
all_in test (Some a) = test a

abbrev pub is_good_peer : (Path → Option Kind) → Peer → Bool
is_good_peer there (Server thread) = leads_there there (kinds.Thread ∷ []) thread
is_good_peer there Service = true
is_good_peer there Parked = true

abbrev pub is_good_talk : (Path → Option Kind) → Talk → Bool
is_good_talk there talk = leads_there there (kinds.Port ∷ []) talk.port && is_good_peer there talk.peer

abbrev pub is_good_fault : (Path → Option Kind) → Fault → Bool
is_good_fault there fault = leads_there there (kinds.Port ∷ []) fault.port && all_in (is_good_peer there) fault.taker

-- a port is in no set, or in a port set of its space; a served port is in none
abbrev pub is_good_set : (Path → Option Kind) → Path → Option ℕ → Bool → Bool
is_good_set there at None served = true
is_good_set there at (Some set) served = not served && is_one_of (kinds.Portset ∷ []) (there (set_at at set))

-- the pointers and the numbers of an object are such as its kind has
abbrev pub is_good : (Path → Option Kind) → Path → Body → Bool
is_good there at (Mapping m) = is_page_range m.first m.count && nat_lt m.offset PAGES && may_lead there (kinds.Region ∷ []) m.region
is_good there at (Region r) = is_page_range r.first r.count && may_lead there (kinds.Port ∷ []) r.keeper
is_good there at (Port set served) = is_good_set there at set served
is_good there at (Space birth holder) = all_in (leads_there there (kinds.Thread ∷ [])) holder
is_good there at (Thread_of t) = all_in (is_good_talk there) t.talk && all_in (is_good_fault there) t.fault
is_good there at (Reference to) = may_lead there referable to
is_good there at other = true

-- ---- spaces, talks and faults

abbrev pub birth_of : Body → Option ℕ
birth_of (Space birth holder) = Some birth
birth_of other = None

-- the birth number of the space at a path
abbrev pub birth_at : World → Path → Option ℕ
birth_at w x = and_then birth_of (w.body x)

-- a pointer leads to a port that a native server serves
abbrev pub is_served_port : World → Ptr → Bool
is_served_port w (At x) = holds (λ (port : Option ℕ × Bool). port.1) (and_then port_of (w.body x))
is_served_port w other = false

-- the client at x has this port's native server as its peer
abbrev pub HasService : World → Path → Ptr → Type 0
HasService w x port = (talk : Talk) × (talk_at w x ≡ Some talk) × (talk.port ≡ port) × (talk.peer ≡ Service)

-- how often a thread serves another: its talk, and its fault
abbrev pub services : World → Path → Path → ℕ
services w server x =
    flag_of (holds (λ (talk : Talk). serves server talk.peer) (talk_at w x))
    + flag_of (holds (λ (fault : Fault). holds (serves server) fault.taker) (fault_at w x))

-- the space of a port, where a pointer leads to one
abbrev pub lies_with : Ptr → Ptr → Type 0
lies_with (At port) (At server) = parent server ≡ parent port
lies_with port server = Unit {0}

-- what stands in the slots fits together
pub record IsConsistent (w : World) : Type 0 where
  -- what has something in it is a space
  pub parents : (k : ℕ) (x : Path) → IsSome (w.body (k ∷ x)) → kind_there w x ≡ Some kinds.Space
  pub good : (x : Path) → all_in (is_good (kind_there w) x) (w.body x) ≡ true
  -- birth numbers differ, and are below the next one
  pub apart : (x y : Path) (birth : ℕ) → birth_at w x ≡ Some birth → birth_at w y ≡ Some birth → x ≡ y
  pub born : (x : Path) (birth : ℕ) → birth_at w x ≡ Some birth → birth < w.next
  -- a native peer serves a served port, and one client at a time
  pub served : (x : Path) (port : Ptr) → HasService w x port → is_served_port w port ≡ true
  pub one_client : (x y : Path) (port : Ptr) → HasService w x port → HasService w y port → x ≡ y
  -- a server lives in its port's space, and serves one talk or one fault
  pub talks_near : (x : Path) (talk : Talk) (server : Ptr) → talk_at w x ≡ Some talk → talk.peer ≡ Server server → lies_with talk.port server
  pub faults_near : (x : Path) (fault : Fault) (taker : Ptr) → fault_at w x ≡ Some fault → fault.taker ≡ Some (Server taker) → lies_with fault.port taker
  pub one_service : (server x y : Path) → 0 < services w server x → 0 < services w server y → x ≡ y
  pub one_each : (server x : Path) → services w server x ≤ 1

-- the root is a space, and slots are below 256
pub record IsRooted (w : World) : Type 0 where
  pub root : kind_there w [] ≡ Some kinds.Space
  pub slots : (k : ℕ) (x : Path) → IsSome (w.body (k ∷ x)) → k < SLOTS

-- a page lies in a space that is there, and its number is below 256
pub record HasPlace (w : World) (s : Path) (page : ℕ) : Type 0 where
  pub space : kind_there w s ≡ Some kinds.Space
  pub number : page < PAGES

-- where a page stands there is a space, and the page is one that it can have
abbrev pub IsPaged : World → Type 0
IsPaged w = (s : Path) (page : ℕ) → IsSome (w.page s page) → HasPlace w s page

-- a world as a store can stand for it: pointers lead to what their fields may hold, the root stands, pages lie in spaces
pub record IsValid (w : World) : Type 0 where
  pub consistent : IsConsistent w
  pub rooted : IsRooted w
  pub paged : IsPaged w

-- ---- fit asks: a porter gives words in range, and names a server in its port's space that serves nobody

abbrev pub is_turn_word : ℕ → Bool
is_turn_word n = n == 1 || n == 2

-- what a porter gives with a talk is in range: whose turn it is, and how many words were moved
abbrev pub are_talk_words : List ℕ → Bool
are_talk_words words = is_turn_word (slice_index words 0) && nat_le (slice_index words 1) MOST_MOVED

-- what a porter gives with a fault is in range: its page, and whether it was a write
abbrev pub are_fault_words : List ℕ → Bool
are_fault_words words = nat_lt (slice_index words 0) PAGES && nat_le (slice_index words 1) 1

abbrev pub is_near : Ptr → Ptr → Bool
is_near (At port) (At server) = same_path (parent server) (parent port)
is_near port server = true

abbrev pub is_idle : World → Ptr → Bool
is_idle w (At server) = not (is_serving w server)
is_idle w server = true

abbrev pub is_idle_near : World → Ptr → Ptr → Bool
is_idle_near w port server = is_near port server && is_idle w server

abbrev pub is_idle_peer : World → Ptr → Option Peer → Bool
is_idle_peer w port None = true
is_idle_peer w port (Some (Server thread)) = is_idle_near w port thread
is_idle_peer w port (Some Service) = true
is_idle_peer w port (Some Parked) = true

-- where the port and the peer are read at all
abbrev pub both_idle : World → Result Ptr ℕ → Result (Option Peer) ℕ → Bool
both_idle w (Ok port) (Ok peer) = is_idle_peer w port peer
both_idle w (Ok port) (Err status) = true
both_idle w (Err status) peer = true

abbrev pub server_named : World → Caller → ℕ → Result (Option Peer) ℕ
server_named w c server = and_read (referred w c kinds.Thread server) (λ thread. Ok (Some (Server thread)))

abbrev pub is_fit_stage : World → Caller → Stage → Bool
is_fit_stage w c (LinkSet s x port server) = are_talk_words c.words && both_idle w (referred w c kinds.Port port) (server_named w c server)
is_fit_stage w c (LinkPark s x port) = are_talk_words c.words
is_fit_stage w c (FaultSet s x port taker) = are_fault_words c.words && both_idle w (referred w c kinds.Port port) (named_taker w c taker)
is_fit_stage w c (FaultPark s x port taken) = are_fault_words c.words && nat_le taken 1
is_fit_stage w c other = true

unfoldable pub is_fit : World → Path → Ask → Bool
is_fit w x (asks.Call stage words) = is_fit_stage w (porter_at x words) stage
is_fit w x other = true
