-- Filled: a world as it would be if a pager kept no page of a space back.
--
-- A pager takes the pages of a space into a list of its own, and gives one back where a thread misses it. What it keeps back stands in its list, and who
-- misses a page of it has a fault at its port. With the pages of the list put in and these faults left out, nobody sees that there is a pager.
use Rattle.std.specs.Prelude.{◌≡◌, ℕ, Bool, true, false, ◌&&◌, nat_lt, is_some, List, [], Option, Some, None, option_map, if◌then◌else◌}
use Rattle.std.specs.List.{list_any}
use Rattle.fk_model.specs.declared.limits.TheConstants.{PAGES}
use Rattle.fk_model.specs.declared.moves.Ask.{Ask}
use Rattle.fk_model.specs.declared.moves.Ask.TheVariants as asks
use Rattle.fk_model.specs.declared.stage.Stage.{Stage}
use Rattle.fk_model.specs.StageFacts.{Peeking, facts_of}
use Rattle.fk_model.specs.StageFacts.Peeking.{Nobody_peeks, Everybody_peeks, Roots_peek}
use Rattle.fk_model.specs.Places.{Path, same_path, parent, leads_to}
use Rattle.fk_model.specs.Places.Ptr.{At}
use Rattle.fk_model.specs.Objects.{space_of, Peer, Fault, Thread, Body, and_then, or_else, holds}
use Rattle.fk_model.specs.Objects.Peer.{Server, Service, Parked}
use Rattle.fk_model.specs.Objects.Body.{Thread_of}
use Rattle.fk_model.specs.World.{World, Change, serves}
use Rattle.fk_model.specs.World.Change.{Alter}
use Rattle.fk_model.specs.World.Edit.{SetFault}
use Rattle.fk_model.specs.Searches.{thread_at, fault_at}
use Rattle.fk_model.specs.Reach.{mapping_at, keeper}
use Rattle.fk_model.specs.Outcomes.{listed}
use Rattle.fk_model.specs.Talks.{first_stage}
use Rattle.fk_model.specs.Moves.{outcome}

-- a pager: the space whose pages it keeps, the port at which faults on them are raised, the porter that takes these, and the words of each page that it
-- has taken, whether that is back in the space or not
pub record Paging : Type 0 where
  pub space : Path
  pub port : Path
  pub porter : Path
  pub backing : ℕ → Option (List ℕ)

abbrev pub is_listed : Paging → ℕ → Bool
is_listed p page = is_some (p.backing page)

-- a fault at its port on a page of its list
abbrev pub is_paged : Paging → Fault → Bool
is_paged p fault = leads_to p.port fault.port && is_listed p fault.page

abbrev pub kept_fault : Paging → Fault → Option Fault
kept_fault p fault = if is_paged p fault then None else Some fault

abbrev pub unfaulted : Paging → Body → Body
unfaulted p (Thread_of t) = Thread_of (record t { fault = and_then (kept_fault p) t.fault })
unfaulted p other = other

-- the words of a page of the space, where the list has it
abbrev pub kept_back : Paging → Path → ℕ → Option (List ℕ)
kept_back p s page = if same_path s p.space then p.backing page else None

-- with each page of the list that isn't home put in, and without the faults at its port on pages of the list
abbrev pub filled : Paging → World → World
filled p w = record {
  body = λ q. option_map (unfaulted p) (w.body q);
  page = λ s page. or_else (w.page s page) (kept_back p s page);
  next = w.next;
}

-- ---- what holds of a world that is paged

-- who took such a fault is the pager's porter
abbrev pub IsOurs : Paging → Option Peer → Type 0
IsOurs p None = Unit {0}
IsOurs p (Some (Server thread)) = leads_to p.porter thread ≡ true
IsOurs p (Some Service) = ⊥
IsOurs p (Some Parked) = ⊥

pub record IsPaging (p : Paging) (w : World) : Type 0 where
  -- the root is no thread
  pub root : thread_at w [] ≡ None
  -- the space is there, and has no mapping
  pub there : is_some (and_then space_of (w.body p.space)) ≡ true
  pub mapless : (page : ℕ) → mapping_at w p.space page ≡ None
  -- the port is the keeper of each of its pages
  pub kept : (page : ℕ) → nat_lt page PAGES ≡ true → keeper w p.space page ≡ Some (At p.port)
  pub few : (page : ℕ) → is_listed p page ≡ true → nat_lt page PAGES ≡ true
  -- who has taken a fault on one of them is the pager's porter, and it has taken no other
  pub taken : (y : Path) (fault : Fault) → fault_at w y ≡ Some fault → is_paged p fault ≡ true → IsOurs p fault.taker
  pub ours : (y : Path) (fault : Fault) → fault_at w y ≡ Some fault → holds (serves p.porter) fault.taker ≡ true → is_paged p fault ≡ true

-- ---- moves

-- whether a thread may learn or change by a stage what pages are home; by a wait those alone that are in the space of the pager's port
abbrev pub is_peeking : Paging → Path → Peeking → Bool
is_peeking p x Nobody_peeks = false
is_peeking p x Everybody_peeks = true
is_peeking p x Roots_peek = same_path (parent x) (parent p.port)

abbrev pub is_peek : Paging → Path → Stage → Bool
is_peek p x stage = is_peeking p x (facts_of stage).peeks

abbrev pub peeks : Paging → World → Path → Ask → Bool
peeks p w x asks.Run = holds (is_peek p x) (and_then (λ (t : Thread). first_stage t.mode) (thread_at w x))
peeks p w x other = false

-- a change that raises such a fault
abbrev pub is_raise : Paging → Change → Bool
is_raise p (Alter x (SetFault (Some fault))) = is_paged p fault
is_raise p other = false

-- the row of a move lists one
abbrev pub raises : Paging → World → Path → Option Path → Ask → Bool
raises p w x pick ask = list_any (is_raise p) (listed (outcome w x pick ask))
