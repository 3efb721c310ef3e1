-- A restorer's calls, and what each makes of the subtree that it builds, seen alone.
--
-- A restorer knows from its image which calls it will make: its state is the list of those that are left. A site is what it has
-- made so far: the subtree seen alone, to what its references in the nester's scratch lead, and its reference in the new space, the
-- pin, by which it keeps a port of the nester in its place while it looks whether it is one.
use Rattle.std.specs.Prelude.{◌≡◌, ℕ, ◌≤◌, Bool, true, false, not, ◌&&◌, ◌==◌, nat_le, nat_lt, IsSome, is_some, List, [], ◌∷◌, ◌++◌, length, map, Option, Some}
use Rattle.std.specs.Prelude.{None, option_map, if◌then◌else◌, slice_index}
use Rattle.std.specs.List.{list_any}
use Rattle.fk_model.specs.declared.limits.TheConstants.{OWN_SPACE, LAST_USER_SLOT, FIRST_SCRATCH_SLOT, LAST_SCRATCH_SLOT, LAST_PORTER_SLOT, PAGES, PAGE_WORDS}
use Rattle.fk_model.specs.declared.names.Kind.{Kind}
use Rattle.fk_model.specs.declared.names.Kind.TheVariants as kinds
use Rattle.fk_model.specs.declared.stage.Stage.{Stage}
use Rattle.fk_model.specs.declared.stage.Stage.TheVariants.{Create, Destroy, Point, Locate, SetState, SetPtr, PageGive, LinkSet, LinkPark, FaultSet, FaultPark}
use Rattle.fk_model.specs.declared.stage.Stage.TheVariants.{HoldSet}
use Rattle.fk_model.specs.declared.statuses.status.TheConstants.{OK}
use Rattle.fk_model.specs.Places.{Path, Ptr}
use Rattle.fk_model.specs.Places.Ptr.{Null, Dead, At, Out, Outside, Far}
use Rattle.fk_model.specs.Objects.{Body, Talk, Fault, kind_of, number_of_kind, same_kind, and_then, holds, space_of, thread_of}
use Rattle.fk_model.specs.Objects.Body.{Space, Reference}
use Rattle.fk_model.specs.Objects.Peer.{Server}
use Rattle.fk_model.specs.World.{World, apply, apply_all, at_path}
use Rattle.fk_model.specs.World.Change.{Alter, PutPage}
use Rattle.fk_model.specs.World.Edit.{SetPointer, SetHolder, SetTalk, SetFault}
use Rattle.fk_model.specs.Holds.{holder_of, decider}
use Rattle.fk_model.specs.Readers.{kind_at}
use Rattle.fk_model.specs.Records.{set_edits, takes_state}
use Rattle.fk_model.specs.StateRows.{is_native, held_kinds, is_of_kinds, referable}
use Rattle.fk_model.specs.LinkRows.{turn_by}
use Rattle.fk_model.specs.ObjectRows.{is_scratch}
use Rattle.fk_model.specs.Valid.{kind_there}
use Rattle.fk_model.specs.Cut.{cut_ptr, is_out}
use Rattle.laws_subtrees.specs.Cut.Likeness.{IsLikeness}
use Rattle.laws_jobs.specs.Calls.{fresh, has_pointer}
use Rattle.laws_jobs.specs.Machines.{Head, Machine, no_words}
use Rattle.laws_jobs.specs.Machines.Head.{Stops, Asks}

-- ---- sites

-- a scratch reference: it leads to this, as the subtree sees it, or to whatever the pin leads to
pub data Spot : Type 0 where
  To : (p : Ptr) → Spot
  Unsure : Spot

-- the pin: there is none, it leads anywhere, or to a port in this slot of the nester
pub data Pin : Type 0 where
  NoPin : Pin
  Loose : Pin
  Fast : (i : ℕ) → Pin

pub record Site : Type 0 where
  pub built : World
  pub spot : ℕ → Option Spot
  pub pin : Pin

abbrev pub pin_of : Path → Path
pin_of root = FIRST_SCRATCH_SLOT ∷ root

-- a pointer of the subtree, as the world has it
abbrev pub lifted : Path → ℕ → Ptr → Ptr
lifted nester slot (At q) = At (q ++ slot ∷ nester)
lifted nester slot (Out i) = At (i ∷ nester)
lifted nester slot Null = Null
lifted nester slot Dead = Dead
lifted nester slot Outside = Outside
lifted nester slot Far = Far

-- what a pointer is seen as, whatever stands in the nester's slots
abbrev pub eye : Path → ℕ → Ptr → Ptr
eye nester slot = cut_ptr (λ i. true) nester slot

-- the world without the pin
abbrev pub bare : Path → World → World
bare root w = at_path (pin_of root) (λ there. None) w

-- ---- a world shows a site

abbrev pub PinShows : Path → ℕ → World → Pin → Type 0
PinShows nester slot w NoPin = w.body (pin_of (slot ∷ nester)) ≡ None
PinShows nester slot w Loose = (to : Ptr) × (w.body (pin_of (slot ∷ nester)) ≡ Some (Reference to))
PinShows nester slot w (Fast i) = (w.body (pin_of (slot ∷ nester)) ≡ Some (Reference (At (i ∷ nester)))) × (kind_there w (i ∷ nester) ≡ Some kinds.Port)

-- where it leads out, the pin leads there too
abbrev pub IsKeptBy : Pin → Ptr → Type 0
IsKeptBy pin (Out i) = pin ≡ Fast i
IsKeptBy pin Null = Unit {0}
IsKeptBy pin Dead = Unit {0}
IsKeptBy pin (At q) = Unit {0}
IsKeptBy pin Outside = ⊥
IsKeptBy pin Far = ⊥

abbrev pub SpotShows : Path → ℕ → World → Pin → ℕ → Option Spot → Type 0
SpotShows nester slot w pin k None = w.body (k ∷ nester) ≡ None
SpotShows nester slot w pin k (Some (To p)) = (w.body (k ∷ nester) ≡ Some (Reference (lifted nester slot p))) × IsKeptBy pin p
SpotShows nester slot w pin k (Some Unsure) = (to : Ptr) × (w.body (k ∷ nester) ≡ Some (Reference to)) × (w.body (pin_of (slot ∷ nester)) ≡ Some (Reference to))

pub record Shows (nester : Path) (slot : ℕ) (g : Site) (w : World) : Type 0 where
  pub low : slot ≤ LAST_USER_SLOT
  pub holder : holder_of (w.body (slot ∷ nester)) ≡ Some (At (LAST_PORTER_SLOT ∷ nester))
  pub above : decider w nester ≡ None
  pub porter : holds is_native (w.body (LAST_PORTER_SLOT ∷ nester)) ≡ true
  pub like : IsLikeness (slot ∷ nester) (eye nester slot) g.built (bare (slot ∷ nester) w)
  pub pin : PinShows nester slot w g.pin
  pub spots : (k : ℕ) → is_scratch nester (k ∷ nester) ≡ true → SpotShows nester slot w g.pin k (g.spot k)

-- ---- orders

-- `s` is the slot of the nester that names the space at q of the subtree: the subtree's own, or a scratch reference
pub data Order : Type 0 where
  -- a new scratch reference
  Readies : (r : ℕ) → Order
  -- scratch r leads to what stands in a slot of a space, to the subtree itself, or to what another leads to
  Leads : (r s : ℕ) (q : Path) (x : ℕ) → Order
  LeadsTop : (r : ℕ) → Order
  Makes : (s : ℕ) (q : Path) (x : ℕ) (kind : Kind) → Order
  Sets : (s : ℕ) (q : Path) (x : ℕ) (words : List ℕ) → Order
  -- the pointer of a mapping, a region or a reference becomes that of scratch r
  Points : (s : ℕ) (q : Path) (x r : ℕ) → Order
  Gives : (s : ℕ) (q : Path) (page : ℕ) (words : List ℕ) → Order
  -- the pin, led to a slot of the nester; scratch r led there too; and whether it is a port in that slot
  MakesPin : Order
  Pins : (i : ℕ) → Order
  Takes : (r : ℕ) → Order
  Checks : (r i : ℕ) → Order
  -- a talk or a fault at the port to which the pin leads
  ParksTalk : (s : ℕ) (q : Path) (x i : ℕ) (words : List ℕ) → Order
  ParksFault : (s : ℕ) (q : Path) (x i taken : ℕ) (words : List ℕ) → Order
  -- a talk with a thread inside: scratch r leads to the port at k, u to the server at j
  LinksTalk : (s : ℕ) (q : Path) (x r u : ℕ) (port server : Path) (words : List ℕ) → Order
  -- a fault at a port inside, to which scratch r leads: raised, or taken by the thread to which u leads
  RaisesFault : (s : ℕ) (q : Path) (x r : ℕ) (port : Path) (words : List ℕ) → Order
  LinksFault : (s : ℕ) (q : Path) (x r u : ℕ) (port taker : Path) (words : List ℕ) → Order
  -- an inner space gets a holder, to which scratch r leads
  Holds : (s : ℕ) (q : Path) (x r : ℕ) (holder : Path) → Order
  -- the end of a scratch reference, and of the pin
  Drops : (r : ℕ) → Order
  DropsPin : Order
  -- the region in the first slot of the new space, and it alone, goes again, so that scratch r leads to what was destroyed
  Deadens : (r : ℕ) → Order

-- the call by which an order is carried out
abbrev pub stage_of : ℕ → Order → Stage
stage_of slot (Readies r) = Create OWN_SPACE r 9
stage_of slot (Leads r s q x) = Point OWN_SPACE r s x
stage_of slot (LeadsTop r) = Point OWN_SPACE r OWN_SPACE slot
stage_of slot (Makes s q x kind) = Create s x (number_of_kind kind)
stage_of slot (Sets s q x words) = SetState s x 0
stage_of slot (Points s q x r) = SetPtr s x 0 r
stage_of slot (Gives s q page words) = PageGive s page 0
stage_of slot MakesPin = Create slot FIRST_SCRATCH_SLOT 9
stage_of slot (Pins i) = Point slot FIRST_SCRATCH_SLOT OWN_SPACE i
stage_of slot (Takes r) = Point OWN_SPACE r slot FIRST_SCRATCH_SLOT
stage_of slot (Checks r i) = Locate r OWN_SPACE
stage_of slot (ParksTalk s q x i words) = LinkPark s x i
stage_of slot (ParksFault s q x i taken words) = FaultPark s x i taken
stage_of slot (LinksTalk s q x r u port server words) = LinkSet s x r u
stage_of slot (RaisesFault s q x r port words) = FaultSet s x r OWN_SPACE
stage_of slot (LinksFault s q x r u port taker words) = FaultSet s x r u
stage_of slot (Holds s q x r holder) = HoldSet s x r
stage_of slot (Drops r) = Destroy OWN_SPACE r
stage_of slot DropsPin = Destroy slot FIRST_SCRATCH_SLOT
stage_of slot (Deadens r) = Destroy slot 0

abbrev pub words_of : Order → List ℕ
words_of (Sets s q x words) = words
words_of (Gives s q page words) = words
words_of (ParksTalk s q x i words) = words
words_of (ParksFault s q x i taken words) = words
words_of (LinksTalk s q x r u port server words) = words
words_of (RaisesFault s q x r port words) = words
words_of (LinksFault s q x r u port taker words) = words
words_of other = no_words

-- ---- what an order makes of a site

abbrev pub alone_at : Path → Option Body
alone_at [] = Some (Space 0 None)
alone_at (k ∷ q) = None

-- a space with nothing in it
abbrev pub alone : World
alone = record { body = alone_at; page = λ q page. None; next = 0 }

abbrev pub with_spot : ℕ → Option Spot → Site → Site
with_spot r spot g = record g { spot = λ k. if k == r then spot else g.spot k }

abbrev pub with_built : World → Site → Site
with_built built g = record g { built = built }

abbrev pub with_pin : Pin → Site → Site
with_pin pin g = record g { pin = pin }

abbrev pub after_set : Path → List ℕ → Option Body → World → World
after_set x words None c = c
after_set x words (Some b) c = apply_all (map (Alter x) (set_edits b words)) c

abbrev pub after_pointer : Path → Option Spot → World → World
after_pointer x (Some (To p)) c = apply (Alter x (SetPointer p)) c
after_pointer x (Some Unsure) c = c
after_pointer x None c = c

-- the talk and the fault that are parked at a port outside, as the subtree sees them
abbrev pub parked_talk : ℕ → List ℕ → Talk
parked_talk i words = record { port = Out i; peer = Server Outside; turn = turn_by (slice_index words 0); moved = slice_index words 1 }

abbrev pub parked_fault : ℕ → ℕ → List ℕ → Fault
parked_fault i taken words = record {
  page = slice_index words 0;
  write = slice_index words 1 == 1;
  port = Out i;
  taker = if taken
      == 1 then Some (Server Outside) else None;
}

abbrev pub inner_talk : Path → Path → List ℕ → Talk
inner_talk port server words = record { port = At port; peer = Server (At server); turn = turn_by (slice_index words 0); moved = slice_index words 1 }

abbrev pub inner_fault : Path → Option Path → List ℕ → Fault
inner_fault port taker words = record {
  page = slice_index words 0;
  write = slice_index words 1
      == 1;
  port = At port;
  taker = option_map (λ thread. Server (At thread)) taker;
}

abbrev pub does : Order → Site → Site
does (Readies r) g = with_spot r (Some (To Null)) g
does (Leads r s q x) g = with_spot r (Some (To (At (x ∷ q)))) g
does (LeadsTop r) g = with_spot r (Some (To (At []))) g
does (Makes s q x kind) g = with_built (apply (fresh (x ∷ q) kind) g.built) g
does (Sets s q x words) g = with_built (after_set (x ∷ q) words (g.built.body (x ∷ q)) g.built) g
does (Points s q x r) g = with_built (after_pointer (x ∷ q) (g.spot r) g.built) g
does (Gives s q page words) g = with_built (apply (PutPage q page words) g.built) g
does MakesPin g = with_pin Loose g
does (Pins i) g = with_pin Loose g
does (Takes r) g = with_spot r (Some Unsure) g
does (Checks r i) g = with_pin (Fast i) (with_spot r (Some (To (Out i))) g)
does (ParksTalk s q x i words) g = with_built (apply (Alter (x ∷ q) (SetTalk (Some (parked_talk i words)))) g.built) g
does (ParksFault s q x i taken words) g = with_built (apply (Alter (x ∷ q) (SetFault (Some (parked_fault i taken words)))) g.built) g
does (LinksTalk s q x r u port server words) g = with_built (apply (Alter (x ∷ q) (SetTalk (Some (inner_talk port server words)))) g.built) g
does (RaisesFault s q x r port words) g = with_built (apply (Alter (x ∷ q) (SetFault (Some (inner_fault port None words)))) g.built) g
does (LinksFault s q x r u port taker words) g = with_built (apply (Alter (x ∷ q) (SetFault (Some (inner_fault port (Some taker) words)))) g.built) g
does (Holds s q x r holder) g = with_built (apply (Alter (x ∷ q) (SetHolder (Some (At holder)))) g.built) g
does (Drops r) g = with_spot r None g
does DropsPin g = with_pin NoPin g
does (Deadens r) g = with_spot r (Some (To Dead)) (with_built alone g)

unfoldable pub does_all : List Order → Site → Site
does_all [] g = g
does_all (o ∷ os) g = does_all os (does o g)

-- ---- what an order needs of a site

abbrev pub is_space : Option Body → Bool
is_space o = is_some (and_then space_of o)

abbrev pub is_ref_slot : ℕ → Bool
is_ref_slot r = nat_le FIRST_SCRATCH_SLOT r && nat_le r LAST_SCRATCH_SLOT

pub data Named (g : Site) (slot : ℕ) : ℕ → Path → Type 0 where
  ByRoot : Named g slot slot []
  ByScratch : (s : ℕ) (q : Path) → is_ref_slot s ≡ true → g.spot s ≡ Some (To (At q)) → Named g slot s q

pub record IsPlace (g : Site) (slot s : ℕ) (q : Path) : Type 0 where
  pub named : Named g slot s q
  pub space : is_space (g.built.body q) ≡ true

-- nothing in scratch leads out
abbrev pub stays_in : Option Spot → Bool
stays_in None = true
stays_in (Some (To p)) = not (is_out p)
stays_in (Some Unsure) = false

pub record MayMake (g : Site) (slot s : ℕ) (q : Path) (x : ℕ) : Type 0 where
  pub place : IsPlace g slot s q
  pub low : x ≤ LAST_USER_SLOT
  pub empty : g.built.body (x ∷ q) ≡ None

pub record MaySet (g : Site) (slot s : ℕ) (q : Path) (x : ℕ) (words : List ℕ) : Type 0 where
  pub place : IsPlace g slot s q
  pub low : x ≤ LAST_USER_SLOT
  pub object : Body
  pub there : g.built.body (x ∷ q) ≡ Some object
  pub takes : takes_state g.built q object words ≡ true

-- what it leads to inside is there
abbrev pub IsLive : World → Ptr → Type 0
IsLive c (At q) = IsSome (c.body q)
IsLive c Null = Unit {0}
IsLive c Dead = Unit {0}
IsLive c (Out i) = Unit {0}
IsLive c Outside = Unit {0}
IsLive c Far = Unit {0}

pub record MayPoint (g : Site) (slot s : ℕ) (q : Path) (x r : ℕ) : Type 0 where
  pub place : IsPlace g slot s q
  pub low : x ≤ LAST_USER_SLOT
  pub scratch : is_ref_slot r ≡ true
  pub object : Body
  pub there : g.built.body (x ∷ q) ≡ Some object
  pub to : Ptr
  pub led : g.spot r ≡ Some (To to)
  pub live : IsLive g.built to
  pub has : has_pointer object ≡ true
  pub fits : is_of_kinds (held_kinds object) (kind_at g.built to) ≡ true

pub record MayLead (g : Site) (slot r s : ℕ) (q : Path) (x : ℕ) : Type 0 where
  pub scratch : is_ref_slot r ≡ true
  pub ready : IsSome (g.spot r)
  pub place : IsPlace g slot s q
  pub low : x ≤ LAST_USER_SLOT
  pub object : Body
  pub there : g.built.body (x ∷ q) ≡ Some object
  pub leads : list_any (same_kind (kind_of object)) referable ≡ true

pub record MayGive (g : Site) (slot s : ℕ) (q : Path) (page : ℕ) (words : List ℕ) : Type 0 where
  pub place : IsPlace g slot s q
  pub fits : nat_lt page PAGES ≡ true
  pub empty : g.built.page q page ≡ None
  pub full : length words ≡ PAGE_WORDS

pub record MayPark (g : Site) (slot s : ℕ) (q : Path) (x i : ℕ) : Type 0 where
  pub place : IsPlace g slot s q
  pub low : x ≤ LAST_USER_SLOT
  pub thread : is_some (and_then thread_of (g.built.body (x ∷ q))) ≡ true
  pub pinned : g.pin ≡ Fast i
  pub port : i ≤ LAST_USER_SLOT

-- an object of a kind stands there, and it isn't the root
pub record IsKindThere (c : World) (y : Path) (kind : Kind) : Type 0 where
  pub slot : ℕ
  pub space : Path
  pub is : y ≡ slot ∷ space
  pub body : Body
  pub there : c.body y ≡ Some body
  pub is_kind : kind_of body ≡ kind

pub record MayLink (g : Site) (slot s : ℕ) (q : Path) (x r u : ℕ) (port server : Path) : Type 0 where
  pub place : IsPlace g slot s q
  pub low : x ≤ LAST_USER_SLOT
  pub thread : is_some (and_then thread_of (g.built.body (x ∷ q))) ≡ true
  pub scratch : is_ref_slot r ≡ true
  pub led : g.spot r ≡ Some (To (At port))
  pub port_there : IsKindThere g.built port kinds.Port
  pub second : is_ref_slot u ≡ true
  pub served : g.spot u ≡ Some (To (At server))
  pub server_there : IsKindThere g.built server kinds.Thread

pub record MayHold (g : Site) (slot s : ℕ) (q : Path) (x r : ℕ) (holder : Path) : Type 0 where
  pub place : IsPlace g slot s q
  pub low : x ≤ LAST_USER_SLOT
  pub body : Body
  pub there : g.built.body (x ∷ q) ≡ Some body
  pub space : is_some (space_of body) ≡ true
  pub scratch : is_ref_slot r ≡ true
  pub led : g.spot r ≡ Some (To (At holder))
  pub holder_there : IsKindThere g.built holder kinds.Thread

abbrev pub leads_nowhere : Option Spot → Bool
leads_nowhere None = true
leads_nowhere (Some (To Null)) = true
leads_nowhere other = false

pub record MayDeaden (g : Site) (r : ℕ) : Type 0 where
  pub scratch : is_ref_slot r ≡ true
  pub led : g.spot r ≡ Some (To (At (0 ∷ [])))
  pub others : (k : ℕ) → (k ≡ r → ⊥) → leads_nowhere (g.spot k) ≡ true
  pub pin : g.pin ≡ NoPin
  pub region : g.built ≡ apply (fresh (0 ∷ []) kinds.Region) alone

pub record MayRaise (g : Site) (slot s : ℕ) (q : Path) (x r : ℕ) (port : Path) : Type 0 where
  pub place : IsPlace g slot s q
  pub low : x ≤ LAST_USER_SLOT
  pub thread : is_some (and_then thread_of (g.built.body (x ∷ q))) ≡ true
  pub scratch : is_ref_slot r ≡ true
  pub led : g.spot r ≡ Some (To (At port))
  pub port_there : IsKindThere g.built port kinds.Port

abbrev pub May : ℕ → Order → Site → Type 0
May slot (Readies r) g = (is_ref_slot r ≡ true) × (g.spot r ≡ None)
May slot (Leads r s q x) g = MayLead g slot r s q x
May slot (LeadsTop r) g = (is_ref_slot r ≡ true) × IsSome (g.spot r)
May slot (Makes s q x kind) g = MayMake g slot s q x
May slot (Sets s q x words) g = MaySet g slot s q x words
May slot (Points s q x r) g = MayPoint g slot s q x r
May slot (Gives s q page words) g = MayGive g slot s q page words
May slot MakesPin g = g.pin ≡ NoPin
May slot (Pins i) g = ((g.pin ≡ NoPin) → ⊥) × ((k : ℕ) → stays_in (g.spot k) ≡ true) × (i ≤ LAST_USER_SLOT)
May slot (Takes r) g = (is_ref_slot r ≡ true) × IsSome (g.spot r) × (g.pin ≡ Loose)
May slot (Checks r i) g = (is_ref_slot r ≡ true) × (g.spot r ≡ Some Unsure) × ((k : ℕ) → (k ≡ r → ⊥) → stays_in (g.spot k) ≡ true) × (i ≤ LAST_USER_SLOT)
May slot (ParksTalk s q x i words) g = MayPark g slot s q x i
May slot (ParksFault s q x i taken words) g = MayPark g slot s q x i
May slot (LinksTalk s q x r u port server words) g = MayLink g slot s q x r u port server
May slot (RaisesFault s q x r port words) g = MayRaise g slot s q x r port
May slot (LinksFault s q x r u port taker words) g = MayLink g slot s q x r u port taker
May slot (Holds s q x r holder) g = MayHold g slot s q x r holder
May slot (Drops r) g = (is_ref_slot r ≡ true) × IsSome (g.spot r)
May slot DropsPin g = ((g.pin ≡ NoPin) → ⊥) × ((k : ℕ) → stays_in (g.spot k) ≡ true)
May slot (Deadens r) g = MayDeaden g r

abbrev pub MayAll : ℕ → List Order → Site → Type 0
MayAll slot [] g = Unit {0}
MayAll slot (o ∷ os) g = May slot o g × MayAll slot os (does o g)

-- ---- the machine

pub data End : Type 0 where
  Done : End
  NoPort : (i : ℕ) → End
  -- an answer that no restorer gets
  Lost : End

pub data State : Type 0 where
  Working : (orders : List Order) → State
  Over : (end : End) → State

abbrev pub head : ℕ → State → Head End
head slot (Working []) = Stops Done
head slot (Working (o ∷ os)) = Asks (stage_of slot o) (words_of o)
head slot (Over end) = Stops end

abbrev pub is_port_in : ℕ → List ℕ → Bool
is_port_in i (k ∷ deeper ∷ kind ∷ []) = k == i && deeper == 0 && kind == number_of_kind kinds.Port
is_port_in i other = false

abbrev pub passes : Order → ℕ → List ℕ → Bool
passes (Checks r i) status words = status == OK && is_port_in i words
passes other status words = status == OK

abbrev pub fails : Order → End
fails (Pins i) = NoPort i
fails (Checks r i) = NoPort i
fails other = Lost

abbrev pub next : State → ℕ → List ℕ → State
next (Working []) status words = Working []
next (Working (o ∷ os)) status words = if passes o status words then Working os else Over (fails o)
next (Over end) status words = Over end

abbrev pub restorer : ℕ → Machine State End
restorer slot = record { head = head slot; next = next }
