-- The pager as a machine over answers, and its moves among those of others.
use Rattle.std.specs.Prelude.{◌≡◌, ℕ, zero, suc, ◌+◌, ◌*◌, ◌≤◌, ◌<◌, Bool, true, false, ◌&&◌, ◌==◌, nat_le, nat_lt, is_some, List, [], ◌∷◌, ◌++◌, drop, length}
use Rattle.std.specs.Prelude.{min, replicate, Option, Some, None, unwrap_or, if◌then◌else◌, slice_index}
use Rattle.std.specs.List.{list_any}
use Rattle.fk_model.specs.declared.limits.TheConstants.{LAST_PORTER_SLOT, LAST_USER_SLOT, PAGES, PAGE_WORDS}
use Rattle.fk_model.specs.declared.moves.Ask.TheVariants as asks
use Rattle.fk_model.specs.declared.stage.Stage.{Stage}
use Rattle.fk_model.specs.declared.stage.Stage.TheVariants.{PageNext, PageTake, PageGive, Wait, FaultDone}
use Rattle.fk_model.specs.declared.statuses.status.TheConstants.{OK, HELD}
use Rattle.fk_model.specs.Places.{Path, same_path}
use Rattle.fk_model.specs.Objects.{Fault, Thread, space_of, and_then, holds}
use Rattle.fk_model.specs.Places.Ptr.{At}
use Rattle.fk_model.specs.Reach.{mapping_at, keeper}
use Rattle.fk_model.specs.World.{World, serves}
use Rattle.fk_model.specs.Searches.{depth, thread_at, fault_at, client_of}
use Rattle.fk_model.specs.Holds.{decider, is_porter}
use Rattle.fk_model.specs.LinkRows.{is_member, portset_of}
use Rattle.fk_model.specs.Outcomes.{Said}
use Rattle.fk_model.specs.Outcomes.Said.{Answered}
use Rattle.fk_model.specs.Moves.{IsReady, step}
use Rattle.fk_model.specs.Valid.{IsValid}
use Rattle.fk_model.specs.Runs.{Event, after, run, IsLegal}
use Rattle.laws_filled.specs.Filled.{Paging, filled, is_paged, is_listed, IsPaging, peeks, raises}
use Rattle.laws_filled.specs.Laws.{is_others}

abbrev pub MOST_FAULTS : ℕ
MOST_FAULTS = 18446744073709551615

-- the nester whose porter pages; the slots there of the space, of its port and of the set that has this port; and how many pages may be home
pub record Desk : Type 0 where
  pub nester : Path
  pub slot : ℕ
  pub port : ℕ
  pub set : ℕ
  pub room : ℕ

-- it looks for a page to take, from a number on; takes it; waits for a fault; looks whether the page is home; takes the one that came in first; gives the page
-- that is missed; ends the fault
pub data Phase : Type 0 where
  Seeking : (from : ℕ) → Phase
  Taking : (page : ℕ) → Phase
  Waiting : Phase
  Looking : (page : ℕ) → Phase
  Evicting : (old page : ℕ) → Phase
  Giving : (page : ℕ) → Phase
  Ending : (page : ℕ) → Phase

-- its list; the pages that it gave and has not taken out since, the first that came in first
pub record State : Type 0 where
  pub backing : ℕ → Option (List ℕ)
  pub inside : List ℕ
  pub faults : ℕ
  pub phase : Phase

abbrev pub at_phase : State → Phase → State
at_phase s phase = record { backing = s.backing; inside = s.inside; faults = s.faults; phase = phase }

-- with these words of a page in its list
abbrev pub put : ℕ → List ℕ → (ℕ → Option (List ℕ)) → ℕ → Option (List ℕ)
put page words backing g = if g == page then Some words else backing g

abbrev pub paging : Desk → State → Paging
paging d s = record { space = d.slot ∷ d.nester; port = d.port ∷ d.nester; porter = LAST_PORTER_SLOT ∷ d.nester; backing = s.backing }

-- ---- what it asks, and the words that it gives

abbrev pub no_words : List ℕ
no_words = replicate PAGE_WORDS 0

abbrev pub stage_of : Desk → Phase → Stage
stage_of d (Seeking from) = PageNext d.slot from
stage_of d (Taking page) = PageTake d.slot page 0
stage_of d Waiting = Wait d.set
stage_of d (Looking page) = PageNext d.slot page
stage_of d (Evicting old page) = PageTake d.slot old 0
stage_of d (Giving page) = PageGive d.slot page 0
stage_of d (Ending page) = FaultDone

abbrev pub words_of : State → Phase → List ℕ
words_of s (Giving page) = unwrap_or (s.backing page) no_words
words_of s other = no_words

-- ---- what it becomes by an answer

-- where the page isn't home: room is made for it, where there is none
abbrev pub makes_room : Desk → State → ℕ → List ℕ → State
makes_room d s page [] = at_phase s (Giving page)
makes_room d s page (old ∷ rest) = if nat_le d.room (length (old ∷ rest)) then at_phase s (Evicting old page) else at_phase s (Giving page)

abbrev pub looked : Desk → State → ℕ → State
looked d s page = makes_room d s page s.inside

-- up to the last number that it can tell
abbrev pub counted : ℕ → ℕ
counted n = min MOST_FAULTS (n + 1)

unfoldable pub next : Desk → State → Phase → ℕ → List ℕ → State
next d s (Seeking from) status words = if status == OK then at_phase s (Taking (slice_index words 0)) else at_phase s Waiting
next d s (Taking page) status words =
    if status == OK then record { backing = put page words s.backing; inside = s.inside; faults = s.faults; phase = Seeking (page + 1) }
    else (if status == HELD then s else at_phase s (Seeking (page + 1)))
next d s Waiting status words = if status == OK then at_phase s (Looking (slice_index words 2)) else s
next d s (Looking page) status words = if status == OK && slice_index words 0 == page then at_phase s (Ending page) else looked d s page
next d s (Evicting old page) status words =
    if status == OK then record { backing = put old words s.backing; inside = drop 1 s.inside; faults = s.faults; phase = Giving page }
    else (if status == HELD then s else record { backing = s.backing; inside = drop 1 s.inside; faults = s.faults; phase = Giving page })
next d s (Giving page) status words =
    if status == OK then record { backing = s.backing; inside = s.inside ++ page ∷ []; faults = s.faults; phase = Ending page }
    else (if status == HELD then s else at_phase s (Ending page))
next d s (Ending page) status words =
    if status == OK then record { backing = s.backing; inside = s.inside; faults = counted s.faults; phase = Waiting } else at_phase s Waiting

abbrev pub hears : Desk → State → Said → State
hears d s (Answered status words) = next d s s.phase status words
hears d s other = s

-- ---- its moves among those of others

abbrev pub is_opening : Phase → Bool
is_opening (Seeking from) = true
is_opening (Taking page) = true
is_opening other = false

-- whom its wait picks has a fault at its port on a page of its list
abbrev pub IsPick : Desk → State → World → Phase → Option Path → Type 0
IsPick d s w Waiting (Some y) = holds (is_paged (paging d s)) (fault_at w y) ≡ true
IsPick d s w Waiting None = ⊥
IsPick d s w other pick = pick ≡ None

abbrev pub call_of : Desk → State → Option Path → Event
call_of d s pick = record { mover = LAST_PORTER_SLOT ∷ d.nester; pick = pick; ask = asks.Call (stage_of d s.phase) (words_of s s.phase) }

-- a ready move of another that doesn't peek. Nobody else moves before the opening is done
pub record IsOthers (d : Desk) (w : World) (s : State) (e : Event) : Type 0 where
  pub opened : is_opening s.phase ≡ false
  pub other : same_path (LAST_PORTER_SLOT ∷ d.nester) e.mover ≡ false
  pub asks : is_others e.ask ≡ true
  pub dark : peeks (paging d s) w e.mover e.ask ≡ false
  pub ready : IsReady w e.mover e.pick e.ask

pub record IsOwn (d : Desk) (w : World) (s : State) (pick : Option Path) : Type 0 where
  pub valid : IsValid w
  pub few : w.next ≤ depth
  pub picks : IsPick d s w s.phase pick
  pub ready : IsReady w (LAST_PORTER_SLOT ∷ d.nester) pick (asks.Call (stage_of d s.phase) (words_of s s.phase))

abbrev pub said_of : World → Event → Said
said_of w e = (step w e.mover e.pick e.ask).said

-- moves of the pager and of others, from a world and a state to a world and a state
pub data IsPaged (d : Desk) : World → State → List Event → World → State → Type 0 where
  Here : (w : World) (s : State) → IsPaged d w s [] w s
  Another : (w : World) (s : State) (e : Event) (es : List Event) (v : World) (t : State) → IsOthers d w s e →
      IsPaged d (after w e) s es v t → IsPaged d w s (e ∷ es) v t
  Own : (w : World) (s : State) (pick : Option Path) (es : List Event) (v : World) (t : State) → IsOwn d w s pick →
      IsPaged d (after w (call_of d s pick)) (hears d s (said_of w (call_of d s pick))) es v t → IsPaged d w s (call_of d s pick ∷ es) v t

-- without the pager's moves, and those that raise a fault of its own
abbrev pub unless_raised : Bool → Event → List Event → List Event
unless_raised true e es = es
unless_raised false e es = e ∷ es

unfoldable pub struck : {d : Desk} {w : World} {s : State} {es : List Event} {v : World} {t : State} → IsPaged d w s es v t → List Event
struck (Here w s) = []
struck {d = d} (Another w s e es v t others rest) = unless_raised (raises (paging d s) w e.mover e.pick e.ask) e (struck rest)
struck (Own w s pick es v t own rest) = struck rest

-- ---- what holds at each moment

abbrev pub IsAmong : ℕ → List ℕ → Type 0
IsAmong g xs = list_any (λ x. x == g) xs ≡ true

-- nobody has a fault
abbrev pub IsClear : World → Type 0
IsClear w = (y : Path) → fault_at w y ≡ None

-- no page below a number is home
abbrev pub AreTaken : Desk → World → ℕ → Type 0
AreTaken d w from = (page : ℕ) → page < from → w.page (d.slot ∷ d.nester) page ≡ None

abbrev pub IsAway : Desk → World → ℕ → Type 0
IsAway d w page = w.page (d.slot ∷ d.nester) page ≡ None

abbrev pub IsHome : Desk → World → ℕ → Type 0
IsHome d w page = is_some (w.page (d.slot ∷ d.nester) page) ≡ true

abbrev pub BeginsWith : ℕ → List ℕ → Type 0
BeginsWith old xs = (rest : List ℕ) × (xs ≡ old ∷ rest)

-- the pages that are in are pages of the list
abbrev pub AreListed : State → Type 0
AreListed s = (page : ℕ) → IsAmong page s.inside → is_some (s.backing page) ≡ true

-- the pages of the list that are home are among those that are in
abbrev pub AreWithin : Desk → World → State → Type 0
AreWithin d w s = (page : ℕ) → is_listed (paging d s) page ≡ true → is_some (w.page (d.slot ∷ d.nester) page) ≡ true → IsAmong page s.inside

abbrev pub IsAt : Desk → World → State → Phase → Type 0
IsAt d w s (Seeking from) = IsClear w × (s.inside ≡ []) × AreTaken d w from
IsAt d w s (Taking page) = IsClear w × (s.inside ≡ []) × AreTaken d w page × (nat_lt page PAGES ≡ true)
IsAt d w s Waiting = AreListed s × AreWithin d w s × (length s.inside ≤ d.room)
IsAt d w s (Looking page) = AreListed s × AreWithin d w s × (length s.inside ≤ d.room) × (is_listed (paging d s) page ≡ true)
IsAt d w s (Evicting old page) =
    AreListed s × AreWithin d w s × (length s.inside ≤ d.room) × (is_listed (paging d s) page ≡ true) × IsAway d w page × BeginsWith old s.inside
IsAt d w s (Giving page) = AreListed s × AreWithin d w s × (length s.inside + 1 ≤ d.room) × (is_listed (paging d s) page ≡ true) × IsAway d w page
IsAt d w s (Ending page) = AreListed s × AreWithin d w s × (length s.inside ≤ d.room) × IsHome d w page

pub record IsGood (d : Desk) (w : World) (s : State) : Type 0 where
  pub paging : IsPaging (paging d s) w
  pub phase : IsAt d w s s.phase

-- the run without the pager: legal in the filled world, and it comes to the filled one of where the whole has come
pub record IsUnseen (d : Desk) (w : World) (s : State) (struck : List Event) (v : World) (t : State) : Type 0 where
  pub legal : IsLegal (filled (paging d s) w) struck
  pub world : run (filled (paging d s) w) struck ≡ filled (paging d t) v
  pub good : IsGood d v t

-- the moves of others among those of a pager are a run of their own in the filled world
abbrev pub PagersAreUnseen : Type 0
PagersAreUnseen = (d : Desk) (w : World) (s : State) (es : List Event) (v : World) (t : State) → nat_le d.slot LAST_USER_SLOT ≡ true → 1 ≤ d.room →
    IsGood d w s →
    (moves : IsPaged d w s es v t) → IsUnseen d w s (struck moves) v t

-- ---- from the first world on

-- a pager that has done nothing yet
unfoldable pub first : State
first = record { backing = λ page. None; inside = []; faults = 0; phase = Seeking 0 }

-- a world in which a pager may begin: the space is there, has no mapping, and the port keeps each of its pages; and nobody has a fault
pub record IsFirst (d : Desk) (w : World) : Type 0 where
  pub root : thread_at w [] ≡ None
  pub there : is_some (and_then space_of (w.body (d.slot ∷ d.nester))) ≡ true
  pub mapless : (page : ℕ) → mapping_at w (d.slot ∷ d.nester) page ≡ None
  pub kept : (page : ℕ) → nat_lt page PAGES ≡ true → keeper w (d.slot ∷ d.nester) page ≡ Some (At (d.port ∷ d.nester))
  pub few : (page : ℕ) → is_some (w.page (d.slot ∷ d.nester) page) ≡ true → nat_lt page PAGES ≡ true
  pub clear : IsClear w

-- the moves without the pager's, and without those that raise a fault of its own, are legal from that world on, in which all pages are home, and end in the
-- filled one of where the whole has come; and from the opening on the pages of the list that are home are among the pages that are in, at most so many
pub record IsHidden (d : Desk) (w : World) (struck : List Event) (v : World) (t : State) : Type 0 where
  pub legal : IsLegal w struck
  pub world : run w struck ≡ filled (paging d t) v
  pub within : is_opening t.phase ≡ false → AreWithin d v t × (length t.inside ≤ d.room)

-- from a world in which nobody has a fault these are a run of that very world, and few pages are home
abbrev pub PagersAreHidden : Type 0
PagersAreHidden = (d : Desk) (w : World) (es : List Event) (v : World) (t : State) → nat_le d.slot LAST_USER_SLOT ≡ true → 1 ≤ d.room → IsFirst d w →
    (moves : IsPaged d w first es v t) → IsHidden d w (struck moves) v t

-- the opening: the pager alone, until it is done
pub data IsOpening (d : Desk) : World → State → World → State → Type 0 where
  Opened : (w : World) (s : State) → is_opening s.phase ≡ false → IsOpening d w s w s
  Opens : (w : World) (s : State) (pick : Option Path) (v : World) (t : State) → is_opening s.phase ≡ true → IsOwn d w s pick →
      IsOpening d (after w (call_of d s pick)) (hears d s (said_of w (call_of d s pick))) v t → IsOpening d w s v t

-- the list is the pages that were home, with their words; none is home any more
pub record HasAll (d : Desk) (w v : World) (t : State) : Type 0 where
  pub waits : t.phase ≡ Waiting
  pub empty : t.inside ≡ []
  pub list : (page : ℕ) → t.backing page ≡ w.page (d.slot ∷ d.nester) page
  pub away : (page : ℕ) → v.page (d.slot ∷ d.nester) page ≡ None

-- the opening takes every page that was home, and no other
abbrev pub OpeningTakesAll : Type 0
OpeningTakesAll = (d : Desk) (w v : World) (t : State) → nat_le d.slot LAST_USER_SLOT ≡ true → 1 ≤ d.room → IsFirst d w → IsOpening d w first v t →
    HasAll d w v t

-- ---- one fault at a time, and how it ends

-- the porter has taken the fault
abbrev pub is_held_fault : Desk → Option Fault → Bool
is_held_fault d o = holds (λ (fault : Fault). holds (serves (LAST_PORTER_SLOT ∷ d.nester)) fault.taker) o

abbrev pub HasTakenNone : Desk → World → Type 0
HasTakenNone d w = (y : Path) → is_held_fault d (fault_at w y) ≡ false

abbrev pub HasTakenOne : Desk → World → ℕ → Type 0
HasTakenOne d w page = (x : Path) × ((y : Path) → is_held_fault d (fault_at w y) ≡ true → y ≡ x)
    × ((y : Path) (fault : Fault) → fault_at w y ≡ Some fault → is_held_fault d (Some fault) ≡ true → fault.page ≡ page)

-- it has taken none while it waits, and one at most while it works on one
abbrev pub HasTaken : Desk → World → Phase → Type 0
HasTaken d w (Seeking from) = HasTakenNone d w
HasTaken d w (Taking page) = HasTakenNone d w
HasTaken d w Waiting = HasTakenNone d w
HasTaken d w (Looking page) = HasTakenOne d w page
HasTaken d w (Evicting old page) = HasTakenOne d w page
HasTaken d w (Giving page) = HasTakenOne d w page
HasTaken d w (Ending page) = HasTakenOne d w page

-- a pager has taken no fault while it waits, and one at most while it works on one
abbrev pub PagersTakeOne : Type 0
PagersTakeOne = (d : Desk) (w : World) (s : State) (es : List Event) (v : World) (t : State) → nat_le d.slot LAST_USER_SLOT ≡ true → 1 ≤ d.room → IsGood d w s →
    HasTaken d w s.phase → IsPaged d w s es v t → HasTaken d v t.phase

-- the porter, its set and its port stand, it serves no talk, and nothing is held
pub record HasDesk (d : Desk) (w : World) : Type 0 where
  pub valid : IsValid w
  pub few : w.next ≤ depth
  pub unheld : (q : Path) → decider w q ≡ None
  pub porter : holds (λ (t : Thread). is_porter t.mode) (thread_at w (LAST_PORTER_SLOT ∷ d.nester)) ≡ true
  pub talkless : client_of w (LAST_PORTER_SLOT ∷ d.nester) ≡ None
  pub low : nat_le d.set LAST_USER_SLOT ≡ true
  pub set : is_some (and_then portset_of (w.body (d.set ∷ d.nester))) ≡ true
  pub port : is_member d.set (w.body (d.port ∷ d.nester)) ≡ true

-- where no move of the pager's is ready it waits, and no fault of its own is left
abbrev pub NoFaultIsLeft : Type 0
NoFaultIsLeft = (d : Desk) (w : World) (s : State) → nat_le d.slot LAST_USER_SLOT ≡ true → IsGood d w s → HasTaken d w s.phase → HasDesk d w →
    ((pick : Option Path) → IsOwn d w s pick → ⊥) →
    (s.phase ≡ Waiting) × ((y : Path) (fault : Fault) → fault_at w y ≡ Some fault → is_paged (paging d s) fault ≡ false)

-- ---- how many calls it makes

-- the most that are left of its work on one fault
abbrev pub left_of : Phase → ℕ
left_of (Seeking from) = 0
left_of (Taking page) = 0
left_of Waiting = 0
left_of (Looking page) = 4
left_of (Evicting old page) = 3
left_of (Giving page) = 2
left_of (Ending page) = 1

-- a call counts unless it is refused HELD
abbrev pub spent : ℕ → ℕ
spent status = if status == HELD then 0 else 1

-- a wait that is done begins at most five calls
abbrev pub begun : Phase → ℕ
begun Waiting = 5
begun other = 0

-- a pager makes at most five calls for each fault that it takes, besides those that are refused HELD
abbrev pub CallsAreFew : Type 0
CallsAreFew = (d : Desk) (s : State) (phase : Phase) (status : ℕ) (words : List ℕ) → is_opening phase ≡ false → (phase ≡ Waiting → status ≡ OK) →
    left_of (next d (at_phase s phase) phase status words).phase + spent status ≤ left_of phase + begun phase

-- as a pager ends a fault the page of that fault is home
abbrev pub FaultsEndAtHome : Type 0
FaultsEndAtHome = (d : Desk) (w : World) (s : State) (page : ℕ) → IsGood d w s → HasTaken d w s.phase → s.phase ≡ Ending page →
    (y : Path) (fault : Fault) → fault_at w y ≡ Some fault → is_held_fault d (Some fault) ≡ true → is_some (w.page (d.slot ∷ d.nester) fault.page) ≡ true

-- ---- how long the opening is

-- how many of the first pages of a space are home
unfoldable pub homes : World → Path → ℕ → ℕ
homes w space zero = 0
homes w space (suc n) = homes w space n + (if is_some (w.page space n) then 1 else 0)

abbrev pub spent_by : Said → ℕ
spent_by (Answered status words) = spent status
spent_by other = 0

unfoldable pub spent_in : {d : Desk} {w : World} {s : State} {v : World} {t : State} → IsOpening d w s v t → ℕ
spent_in (Opened w s opened) = 0
spent_in {d = d} (Opens w s pick v t opening own rest) = spent_by (said_of w (call_of d s pick)) + spent_in rest

-- two calls for each page that was home, and one
abbrev pub OpeningIsShort : Type 0
OpeningIsShort = (d : Desk) (w v : World) (t : State) → nat_le d.slot LAST_USER_SLOT ≡ true → 1 ≤ d.room → IsFirst d w → (moves : IsOpening d w first v t) →
    spent_in moves ≤ 2 * homes w (d.slot ∷ d.nester) PAGES + 1
