-- What users and native servers see of a pager: nothing.
use Rattle.std.specs.Prelude.{◌≡◌, ℕ, Bool, true, false, is_some, Option, Some}
use Rattle.fk_model.specs.declared.moves.Ask.{Ask}
use Rattle.fk_model.specs.declared.moves.Ask.TheVariants as asks
use Rattle.fk_model.specs.declared.names.Who.{Who}
use Rattle.fk_model.specs.Endings.{has_ended}
use Rattle.fk_model.specs.Valid.{is_served_port}
use Rattle.fk_model.specs.Who.{named}
use Rattle.fk_model.specs.Places.{Path, same_path, Ptr}
use Rattle.fk_model.specs.World.{World, serves}
use Rattle.fk_model.specs.Objects.{Fault, holds}
use Rattle.fk_model.specs.Searches.{fault_at}
use Rattle.fk_model.specs.Outcomes.Said.{Nothing}
use Rattle.fk_model.specs.Moves.{IsReady, Step, step}
use Rattle.laws_filled.specs.Filled.{Paging, filled, IsPaging, peeks, raises}

-- a move of a user thread or of a native server
abbrev pub is_others : Ask → Bool
is_others asks.Run = true
is_others (asks.Call stage words) = false
is_others asks.Accept = true
is_others (asks.Give words len) = true
is_others asks.Over = true

abbrev pub with_filled : Paging → Step → Step
with_filled p s = record { world = filled p s.world; said = s.said }

-- a ready move that neither peeks nor raises a fault of the pager's is ready in the filled world as well, tells the same there, and leaves what is filled of
-- what it leaves
abbrev pub FilledMovesAlike : Type 0
FilledMovesAlike = (p : Paging) (w : World) (x : Path) (pick : Option Path) (ask : Ask) → IsPaging p w → same_path p.porter x ≡ false →
    is_others ask ≡ true → peeks p w x ask ≡ false → IsReady w x pick ask → raises p w x pick ask ≡ false →
    IsReady (filled p w) x pick ask × (step (filled p w) x pick ask ≡ with_filled p (step w x pick ask))

-- one that raises such a fault leaves the filled world, and tells nothing
abbrev pub RaisesAreUnseen : Type 0
RaisesAreUnseen = (p : Paging) (w : World) (x : Path) (pick : Option Path) (ask : Ask) → IsPaging p w → same_path p.porter x ≡ false →
    is_others ask ≡ true → peeks p w x ask ≡ false → IsReady w x pick ask → raises p w x pick ask ≡ true →
    step w x pick ask ≡ record { world = (step w x pick ask).world; said = Nothing } × (filled p (step w x pick ask).world ≡ filled p w)

-- each page that was home is home, and no other
abbrev pub PagesStay : World → World → Type 0
PagesStay w v = (s : Path) (page : ℕ) → is_some (v.page s page) ≡ is_some (w.page s page)

-- each fault that the pager's porter has taken it had taken before
abbrev pub is_ours : Paging → Option Fault → Bool
is_ours p o = holds (λ (fault : Fault). holds (serves p.porter) fault.taker) o

abbrev pub TakenStay : Paging → World → World → Type 0
TakenStay p w v = (y : Path) (fault : Fault) → fault_at v y ≡ Some fault → is_ours p (Some fault) ≡ true → fault_at w y ≡ Some fault

-- a move that doesn't peek leaves what a pager asks of the world, and which pages are home
abbrev pub PagingStays : Type 0
PagingStays = (p : Paging) (w : World) (x : Path) (pick : Option Path) (ask : Ask) → IsPaging p w → same_path p.porter x ≡ false →
    is_others ask ≡ true → peeks p w x ask ≡ false →
    IsPaging p (step w x pick ask).world × PagesStay w (step w x pick ask).world × TakenStay p w (step w x pick ask).world

-- what is asked by names is asked alike: names lead to the same, native servers stand where they stood, and lose their clients by the same moves; and what
-- leaves the filled world leaves each server its client
abbrev pub NamesLeadAlike : Type 0
NamesLeadAlike = (p : Paging) (w : World) (who : Who) → named (filled p w) who ≡ named w who

-- a port is served in the filled world where it is served in the world
abbrev pub PortsAreServedAlike : Type 0
PortsAreServedAlike = (p : Paging) (w : World) (port : Ptr) → is_served_port (filled p w) port ≡ is_served_port w port

-- a native server loses its client by the same moves in the filled world
abbrev pub TalksEndAlike : Type 0
TalksEndAlike = (p : Paging) (w v : World) (port : Path) → has_ended (filled p w) (filled p v) port ≡ has_ended w v port

-- where a move leaves the filled world as it was no native server loses its client
abbrev pub UnseenEndsNoTalk : Type 0
UnseenEndsNoTalk = (p q : Paging) (w v : World) → filled q v ≡ filled p w → (port : Path) → has_ended w v port ≡ false
