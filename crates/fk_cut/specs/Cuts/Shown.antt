-- Shown: objects and pages of a subtree that is seen alone, as lists. A path is told from the subtree's root, which is the machine's path
-- the other way round.
use Rattle.std.specs.Prelude.{◌≡◌, ℕ, Bool, List, [], ◌∷◌, map, reverse, unwrap_or, Option, Some, None, option_map}
use Rattle.std.specs.List.{flat_map}
use Rattle.fk_model.specs.declared.limits.TheConstants.{PAGES}
use Rattle.fk_model.specs.declared.thread.Fault.{Fault as StoredFault}
use Rattle.fk_model.specs.declared.thread.Peer.{Peer as StoredPeer}
use Rattle.fk_model.specs.declared.thread.Talk.{Talk as StoredTalk}
use Rattle.fk_model.specs.declared.thread.Thread.{Thread as StoredThread}
use Rattle.fk_model.specs.Cut.{cut_peer, is_out, ports_of}
use Rattle.fk_model.specs.Objects.{Peer, Talk, Fault, Thread, Body, and_then}
use Rattle.fk_model.specs.Objects.Peer.{Server, Service, Parked}
use Rattle.fk_model.specs.Objects.Body.{Mutex, Cond, Mapping, Region, Port, Portset, Space, Thread_of, Reference}
use Rattle.fk_model.specs.Places.{Path, Ptr, strip}
use Rattle.fk_model.specs.Places.Ptr.{Null, Dead, At, Out, Outside, Far}
use Rattle.fk_model.specs.Searches as searches
use Rattle.fk_model.specs.Searches.{slots}
use Rattle.fk_model.specs.World.{World}
use Rattle.fk_store.specs.Store.Bodies.{peer_by}
use Rattle.fk_store.specs.Store.Contents.{Contents}
use Rattle.fk_store.specs.Store.Paths.{path}
use Rattle.fk_store.specs.Store.World.{world, place_of}
use Rattle.fk_model.specs.declared.names.Who.{Who}
use Rattle.fk_cut.specs.declared.cuts.cutting.CutObject.{CutObject}
use Rattle.fk_cut.specs.declared.cuts.cutting.CutPage.{CutPage}
use Rattle.fk_cut.specs.declared.cuts.cutting.CutWorld.{CutWorld}
use Rattle.fk_cut.specs.declared.cuts.shown.CutPtr.{CutPtr}
use Rattle.fk_cut.specs.declared.cuts.shown.CutPtr.TheVariants as shows
use Rattle.fk_cut.specs.Closing.Walks.{seen}
pub use Rattle.fk_changes.specs.Records.Settings.{record_there}

-- ---- pointers

abbrev pub shown : Ptr → CutPtr
shown Null = shows.Null
shown Dead = shows.Dead
shown (At q) = shows.At (reverse q)
shown (Out slot) = shows.Out slot
shown Outside = shows.Outside
shown Far = shows.Far

-- a field that may be empty
abbrev pub shown_each : Option Ptr → CutPtr
shown_each None = shows.Null
shown_each (Some to) = shown to

abbrev pub shown_peer : Peer → CutPtr
shown_peer (Server thread) = shown thread
shown_peer Service = shows.Service
shown_peer Parked = shows.Parked

abbrev pub shown_peers : Option Peer → CutPtr
shown_peers None = shows.Null
shown_peers (Some peer) = shown_peer peer

abbrev pub alone : CutPtr → List CutPtr
alone first = first ∷ shows.Null ∷ shows.Null ∷ shows.Null ∷ []

-- the pointer fields of an object by their numbers: the port and the server of a talk, the port and the taker of a fault
abbrev pub fields_of : Body → List CutPtr
fields_of (Mapping m) = alone (shown m.region)
fields_of (Region r) = alone (shown r.keeper)
fields_of (Space birth holder) = alone (shown_each holder)
fields_of (Thread_of t) =
    shown_each (option_map (λ (talk : Talk). talk.port) t.talk) ∷ shown_peers (option_map (λ (talk : Talk). talk.peer) t.talk)
    ∷ shown_each (option_map (λ (fault : Fault). fault.port) t.fault) ∷ shown_peers (and_then (λ (fault : Fault). fault.taker) t.fault) ∷ []
fields_of (Reference to) = alone (shown to)
fields_of (Mutex locked) = alone shows.Null
fields_of Cond = alone shows.Null
fields_of (Port set served) = alone shows.Null
fields_of Portset = alone shows.Null

-- the pointers of what stands somewhere, of nothing where nothing does
abbrev pub fields_there : Option Body → List CutPtr
fields_there None = alone shows.Null
fields_there (Some b) = fields_of b

-- ---- of a store

-- who serves a talk, at a port that leads out or doesn't
abbrev pub peer_seen : Contents → Who → Bool → StoredPeer → Peer
peer_seen m root out peer = cut_peer (ports_of (world m) (path m root.space) root.slot) (path m root.space) root.slot out (peer_by (path m) peer)

abbrev pub server_of : Contents → Who → Option StoredTalk → CutPtr
server_of m root None = shows.Null
server_of m root (Some talk) = shown_peer (peer_seen m root (is_out (seen m root (At (place_of m talk.port)))) talk.peer)

abbrev pub taken_by : Contents → Who → Bool → Option StoredPeer → CutPtr
taken_by m root out None = shows.Null
taken_by m root out (Some taker) = shown_peer (peer_seen m root out taker)

abbrev pub taker_of : Contents → Who → Option StoredFault → CutPtr
taker_of m root None = shows.Null
taker_of m root (Some fault) = taken_by m root (is_out (seen m root (At (place_of m fault.port)))) fault.taker

abbrev pub each_seen : Contents → Who → Option Who → CutPtr
each_seen m root who = shown_each (option_map (λ who. seen m root (At (place_of m who))) who)

abbrev pub thread_fields : Contents → Who → StoredThread → List CutPtr
thread_fields m root t =
    each_seen m root (option_map (λ (talk : StoredTalk). talk.port) t.talk) ∷ server_of m root t.talk
    ∷ each_seen m root (option_map (λ (fault : StoredFault). fault.port) t.fault) ∷ taker_of m root t.fault ∷ []

-- the path of an object from the subtree's root
abbrev pub below : Contents → Who → Who → Path
below m root who = unwrap_or (strip (place_of m root) (place_of m who)) []

-- ---- objects and pages of a world

abbrev pub object_there : World → Path → CutObject
object_there c q = record { path = reverse q; words = record_there (c.body q); ptrs = fields_there (c.body q) }

abbrev pub page_shown : Path → ℕ → Option (List ℕ) → List CutPage
page_shown q page None = []
page_shown q page (Some words) = record { path = reverse q; page = page; words = words } ∷ []

-- the pages of a space, by rising number
abbrev pub pages_there : World → Path → List CutPage
pages_there c q = flat_map (λ page. page_shown q page (c.page q page)) (slots PAGES)

-- all objects of a world in preorder, the root first, and all pages, by the spaces in that order
pub record IsShown (c : World) (w : CutWorld) : Type 0 where
  pub objects : w.objects ≡ map (object_there c) ([] ∷ searches.objects c)
  pub pages : w.pages ≡ flat_map (pages_there c) ([] ∷ searches.objects c)
