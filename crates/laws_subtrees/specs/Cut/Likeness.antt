-- Likenesses: a small world that shows what lies at and beneath a root of a big one, and nothing else.
--
-- A subtree that is seen alone is a likeness of its world, and a subtree whose outward ports have got other names is an
-- likeness of what it was. The paths of a likeness begin at the root. `see` says what each pointer is seen as: inside by its
-- path there, a port outside by a slot. Who is at such a port is seen as Outside, whoever it is. What a move does inside it
-- does alike in the likeness.
use Rattle.std.specs.Prelude.{◌≡◌, ℕ, zero, ◌<◌, Bool, true, false, List, [], ◌∷◌, ◌++◌, Option, Some, None, IfSome, is_some, option_map, Result, Ok, Err}
use Rattle.std.specs.List.{list_any}
use Rattle.fk_model.specs.declared.names.Kind.{Kind}
use Rattle.fk_model.specs.declared.names.Kind.TheVariants as kinds
use Rattle.fk_model.specs.Places.{Path, same_path, is_within, Ptr}
use Rattle.fk_model.specs.Places.Ptr.{Null, Dead, At, Out, Outside}
use Rattle.fk_model.specs.Objects.{Peer, Talk, Fault, Thread, Window, Extent, Body, and_then}
use Rattle.fk_model.specs.Objects.Peer.{Server, Service, Parked}
use Rattle.fk_model.specs.Objects.Body.{Mutex, Cond, Mapping, Region, Port, Portset, Space, Thread_of, Reference}
use Rattle.fk_model.specs.World.{World, Sweep, serves}
use Rattle.fk_model.specs.Searches.{objects, talk_at, fault_at}
use Rattle.fk_model.specs.Reach.{Reach}
use Rattle.fk_model.specs.Reach.Reach.{Home, Missing, Bad}
use Rattle.fk_model.specs.Holds.{is_porter}
use Rattle.fk_model.specs.Outcomes.{Caller}
use Rattle.fk_model.specs.Readers.{kind_at, is_kind}
use Rattle.fk_model.specs.Talks.{Line}
use Rattle.fk_model.specs.LinkRows.{Candidate}
use Rattle.fk_model.specs.LinkRows.Candidate.{Faulting, Connecting, Resuming}
use Rattle.fk_model.specs.Valid.{kind_there, services}
use Rattle.fk_model.specs.Cut.{is_out, seen_by, unheld, is_served_by}

-- ---- what is seen of a peer, a talk, a fault and a thread, where `see` says what each pointer is seen as

abbrev pub seen_peer : (Ptr → Ptr) → (out : Bool) → Peer → Peer
seen_peer see true peer = Server Outside
seen_peer see false (Server thread) = Server (see thread)
seen_peer see false Service = Service
seen_peer see false Parked = Parked

abbrev pub seen_talk : (Ptr → Ptr) → Talk → Talk
seen_talk see talk =
    let port = see talk.port in
    record talk { port = port; peer = seen_peer see (is_out port) talk.peer }

abbrev pub seen_fault : (Ptr → Ptr) → Fault → Fault
seen_fault see fault =
    let port = see fault.port in
    record fault { port = port; taker = option_map (seen_peer see (is_out port)) fault.taker }

-- what a likeness makes of each pointer
abbrev pub seeing : (Ptr → Ptr) → Sweep
seeing see = record {
  pointer = see;
  holder = λ p. Some (see p);
  talk = λ talk. Some (seen_talk see talk);
  fault = λ fault. Some (seen_fault see fault);
  set = λ port set. Some set;
}

abbrev pub seen_thread : (Ptr → Ptr) → Thread → Thread
seen_thread see t = record t { talk = and_then (seeing see).talk t.talk; fault = and_then (seeing see).fault t.fault }

abbrev pub seen_window : (Ptr → Ptr) → Window → Window
seen_window see m = record m { region = see m.region }

abbrev pub seen_extent : (Ptr → Ptr) → Extent → Extent
seen_extent see r = record r { keeper = see r.keeper }

-- ---- likenesses

-- a pointer of the big world, and what it is seen as
pub data PtrLikeness (root : Path) (big : World) : Ptr → Ptr → Type 0 where
  Nulls : PtrLikeness root big Null Null
  Deads : PtrLikeness root big Dead Dead
  Inside : (x : Path) → PtrLikeness root big (At (x ++ root)) (At x)
  -- a port outside, and one that led out before
  PortAt : (x : Path) (slot : ℕ) → is_within root x ≡ false → kind_at big (At x) ≡ Some kinds.Port → PtrLikeness root big (At x) (Out slot)
  PortOut : (old slot : ℕ) → PtrLikeness root big (Out old) (Out slot)

abbrev pub HasLikeness : Path → (Ptr → Ptr) → World → Ptr → Type 0
HasLikeness root see big p = PtrLikeness root big p (see p)

-- P holds of the pointers that count: who is at a port that is seen outside doesn't
abbrev pub IfServer : (out : Bool) → Peer → (Ptr → Type 0) → Type 0
IfServer true peer P = Unit {0}
IfServer false (Server thread) P = P thread
IfServer false Service P = Unit {0}
IfServer false Parked P = Unit {0}

abbrev pub AllInTalk : (Ptr → Ptr) → (Ptr → Type 0) → Talk → Type 0
AllInTalk see P talk = P talk.port × IfServer (is_out (see talk.port)) talk.peer P

abbrev pub AllInFault : (Ptr → Ptr) → (Ptr → Type 0) → Fault → Type 0
AllInFault see P fault = P fault.port × IfSome fault.taker (λ taker. IfServer (is_out (see fault.port)) taker P)

-- an object of which each pointer that counts has P. It is no served port, and no porter
abbrev pub IsPlainBody : (Ptr → Ptr) → (Ptr → Type 0) → Body → Type 0
IsPlainBody see P (Mutex locked) = Unit {0}
IsPlainBody see P Cond = Unit {0}
IsPlainBody see P (Mapping m) = P m.region
IsPlainBody see P (Region r) = P r.keeper
IsPlainBody see P (Port set served) = served ≡ false
IsPlainBody see P Portset = Unit {0}
IsPlainBody see P (Space birth holder) = IfSome holder P
IsPlainBody see P (Thread_of t) = IfSome t.talk (AllInTalk see P) × IfSome t.fault (AllInFault see P) × (is_porter t.mode ≡ false)
IsPlainBody see P (Reference to) = P to

pub record IsLikeness (root : Path) (see : Ptr → Ptr) (small big : World) : Type 0 where
  -- what stands at each path; who holds the root is no part of it
  pub bodies : (q : Path) → small.body q ≡ option_map (λ b. unheld q (seen_by (seeing see) b)) (big.body (q ++ root))
  pub pages : (q : Path) (page : ℕ) → small.page q page ≡ big.page (q ++ root) page
  -- birth numbers are 0, and stay so
  pub unborn : small.next ≡ zero
  -- the root is a space
  pub top : kind_there big root ≡ Some kinds.Space
  -- nothing beneath it leads anywhere but inside or to ports outside, is a porter or a served port
  pub plain : (k : ℕ) (q : Path) → IfSome (big.body (k ∷ (q ++ root))) (IsPlainBody see (HasLikeness root see big))
  pub within : (x : Path) → see (At (x ++ root)) ≡ At x
  pub null : see Null ≡ Null
  pub dead : see Dead ≡ Dead

-- a world as a subtree that is seen alone is: it is its own likeness
abbrev pub IsCutWorld : World → Type 0
IsCutWorld c = IsLikeness [] (λ p. p) c c

-- a peer is nobody inside
abbrev pub IsOuter : Path → Peer → Type 0
IsOuter root peer = (x : Path) → serves (x ++ root) peer ≡ false

-- nobody inside is the peer of a talk at a port outside, or has taken a fault there
pub record ServesNobodyOutside (root : Path) (see : Ptr → Ptr) (big : World) : Type 0 where
  pub talks : (k : ℕ) (q : Path) (talk : Talk) → talk_at big (k ∷ (q ++ root)) ≡ Some talk → is_out (see talk.port) ≡ true → IsOuter root talk.peer
  pub faults : (k : ℕ) (q : Path) (fault : Fault) (taker : Peer) →
      fault_at big (k ∷ (q ++ root)) ≡ Some fault → is_out (see fault.port) ≡ true → fault.taker ≡ Some taker → IsOuter root taker

-- x is among these paths
abbrev pub is_listed : Path → List Path → Bool
is_listed x xs = list_any (same_path x) xs

-- the walk from the root finds every object
pub record IsWalked (w : World) : Type 0 where
  pub found : (k : ℕ) (x : Path) → is_some (w.body (k ∷ x)) ≡ true → is_listed (k ∷ x) (objects w) ≡ true

-- each thread serves one thread at most, one inside serves none outside, and the walk from the root finds every object
pub record IsServedAlike (root : Path) (see : Ptr → Ptr) (big : World) : Type 0 where
  pub walked : IsWalked big
  pub apart : ServesNobodyOutside root see big
  pub one : (server x y : Path) → 0 < services big server x → 0 < services big server y → x ≡ y
  pub inside : (x : Path) → is_within root x ≡ false → is_served_by root (big.body x) ≡ false

-- ---- what is read alike

-- a caller inside, as the big world has it
abbrev pub under : Path → Caller → Caller
under root c = record c { space = c.space ++ root }

-- both answer, and alike; or both are refused with one status
abbrev pub AlikeResults : {A B : Type 0} → (A → B → Type 0) → Result A ℕ → Result B ℕ → Type 0
AlikeResults R (Ok a) (Ok b) = R a b
AlikeResults R (Err status) (Err refusal) = status ≡ refusal
AlikeResults R (Ok a) (Err refusal) = ⊥
AlikeResults R (Err status) (Ok b) = ⊥

-- both are there, and alike; or neither is
abbrev pub AlikeOptions : {A B : Type 0} → (A → B → Type 0) → Option A → Option B → Type 0
AlikeOptions R None None = Unit {0}
AlikeOptions R (Some a) (Some b) = R a b
AlikeOptions R None (Some b) = ⊥
AlikeOptions R (Some a) None = ⊥

-- the same path, which in the big world lies beneath the root
abbrev pub IsBeneath : Path → Path → Path → Type 0
IsBeneath root q x = x ≡ q ++ root

-- the same pointer
abbrev pub IsSeenAs : Path → (Ptr → Ptr) → World → Ptr → Ptr → Type 0
IsSeenAs root see big seen p = (seen ≡ see p) × HasLikeness root see big p

-- and it leads to an object of this kind
abbrev pub IsSeenHandle : Path → (Ptr → Ptr) → World → Kind → Ptr → Ptr → Type 0
IsSeenHandle root see big wanted seen p = (seen ≡ see p) × HasLikeness root see big p × (is_kind wanted (kind_at big p) ≡ true)

-- the same object
abbrev pub IsSeenBody : Path → (Ptr → Ptr) → World → Body → Body → Type 0
IsSeenBody root see big seen b = (seen ≡ seen_by (seeing see) b) × IsPlainBody see (HasLikeness root see big) b

-- the same thread, and the same holder
abbrev pub IsSeenThread : Path → (Ptr → Ptr) → World → Thread → Thread → Type 0
IsSeenThread root see big seen t = (seen ≡ seen_thread see t) × IsPlainBody see (HasLikeness root see big) (Thread_of t)

abbrev pub IsSeenHolder : Path → (Ptr → Ptr) → World → Option Ptr → Option Ptr → Type 0
IsSeenHolder root see big seen holder = (seen ≡ and_then (seeing see).holder holder) × IfSome holder (HasLikeness root see big)

-- the same mapping, and the same region
abbrev pub IsSeenWindow : Path → (Ptr → Ptr) → World → Window → Window → Type 0
IsSeenWindow root see big seen m = (seen ≡ seen_window see m) × HasLikeness root see big m.region

abbrev pub IsSeenExtent : Path → (Ptr → Ptr) → World → Extent → Extent → Type 0
IsSeenExtent root see big seen r = (seen ≡ seen_extent see r) × HasLikeness root see big r.keeper

-- the same page, of a space inside
abbrev pub IsSeenPlace : Path → Path × ℕ → Path × ℕ → Type 0
IsSeenPlace root place there = IsBeneath root place.0 there.0 × (place.1 ≡ there.1)

-- an access comes to the same
pub data ReachLikeness (root : Path) (see : Ptr → Ptr) (big : World) : Reach → Reach → Type 0 where
  Homes : (s : Path) (page : ℕ) → ReachLikeness root see big (Home s page) (Home (s ++ root) page)
  Misses : (s : Path) (page : ℕ) (keeper port : Option Ptr) →
      AlikeOptions (IsSeenAs root see big) keeper port → ReachLikeness root see big (Missing s page keeper) (Missing (s ++ root) page port)
  Bads : ReachLikeness root see big Bad Bad

-- the same talk, and the same fault
abbrev pub IsSeenTalk : Path → (Ptr → Ptr) → World → Talk → Talk → Type 0
IsSeenTalk root see big seen talk = (seen ≡ seen_talk see talk) × AllInTalk see (HasLikeness root see big) talk

abbrev pub IsSeenFault : Path → (Ptr → Ptr) → World → Fault → Fault → Type 0
IsSeenFault root see big seen fault = (seen ≡ seen_fault see fault) × AllInFault see (HasLikeness root see big) fault

-- a peer of the big world, and what it is seen as
pub data PeerLikeness (root : Path) (see : Ptr → Ptr) (big : World) : Peer → Peer → Type 0 where
  -- who is at a port outside
  Outsiders : (peer : Peer) → IsOuter root peer → PeerLikeness root see big peer (Server Outside)
  Servers : (thread : Ptr) → HasLikeness root see big thread → PeerLikeness root see big (Server thread) (Server (see thread))
  Services : PeerLikeness root see big Service Service
  Waiters : PeerLikeness root see big Parked Parked

-- the same thread inside, with its path
pub data EndLikeness (root : Path) (see : Ptr → Ptr) (big : World) : Path × Thread → Path × Thread → Type 0 where
  Ends : (k : ℕ) (q : Path) (t : Thread) → big.body (k ∷ (q ++ root)) ≡ Some (Thread_of t) →
      IsPlainBody see (HasLikeness root see big) (Thread_of t) → EndLikeness root see big (k ∷ q, seen_thread see t) (k ∷ (q ++ root), t)

-- the same talk of a client inside, with who is at the other end
pub data LineLikeness (root : Path) (see : Ptr → Ptr) (big : World) : Line → Line → Type 0 where
  Lines : (k : ℕ) (q : Path) (talk : Talk) (other seen : Peer) →
      talk_at big (k ∷ (q ++ root)) ≡ Some talk → AllInTalk see (HasLikeness root see big) talk → PeerLikeness root see big other seen →
      LineLikeness root
      see big (record { client = k ∷ q; talk = seen_talk see talk; other = seen }) (record { client = k ∷ (q ++ root); talk = talk; other = other })

-- the thread at x is the same candidate for a wait; who it asks for stands inside
pub data CandidateLikeness (see : Ptr → Ptr) (big : World) (x : Path) : Candidate → Candidate → Type 0 where
  Faults : (slot : ℕ) (fault : Fault) →
      fault_at big x ≡ Some fault → is_out (see fault.port) ≡ false → CandidateLikeness see big x (Faulting slot (seen_fault see fault)) (Faulting slot fault)
  Connects : (slot : ℕ) → CandidateLikeness see big x (Connecting slot) (Connecting slot)
  Resumes : (slot : ℕ) (talk : Talk) →
      talk_at big x ≡ Some talk → is_out (see talk.port) ≡ false → CandidateLikeness see big x (Resuming slot (seen_talk see talk)) (Resuming slot talk)
