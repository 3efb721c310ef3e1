-- A subtree seen alone that its rooms list, and that can be made again: every space before what lies in it, nothing twice, nothing
-- left out, each record such as a new object takes, each pointer such as its field holds.
use Rattle.std.specs.Prelude.{◌≡◌, ℕ, ◌≤◌, ◌<◌, true, false, List, [], ◌∷◌, length, Option, Some, None}
use Rattle.fk_model.specs.declared.limits.TheConstants.{LAST_USER_SLOT, PAGES, PAGE_WORDS}
use Rattle.fk_model.specs.declared.names.Kind.TheVariants as kinds
use Rattle.fk_model.specs.Places.{Path, Ptr, is_within}
use Rattle.fk_model.specs.Places.Ptr.{Null, Dead, At, Out, Outside, Far}
use Rattle.fk_model.specs.Objects.{Peer, Talk, Fault, Body, space_of}
use Rattle.fk_model.specs.Objects.Peer.{Server}
use Rattle.fk_model.specs.Objects.Body.{Space, Thread_of}
use Rattle.fk_model.specs.World.{World}
use Rattle.fk_model.specs.Valid.{services, are_talk_words, are_fault_words}
use Rattle.fk_model.specs.Records.{record_of, set, takes_state}
use Rattle.fk_model.specs.StateRows.{held_kinds, is_of_kinds}
use Rattle.laws_restore.specs.Sites.Owed.{IsGiven}
use Rattle.laws_restore.specs.Restore.Fits.{there, IsWay}
use Rattle.laws_restore.specs.Restore.Rooms.{Item, Sheet, Room}
use Rattle.laws_restore.specs.Restore.Script.{pointer_of, padded, talk_words, fault_words}
use Rattle.laws_restore.specs.Restore.Stages.{blank, recorded, is_among, is_given}

-- what a pointer of this body leads to is there, and its field may hold it
abbrev pub IsAim : (ℕ → ℕ) → World → Body → Ptr → Type 0
IsAim bind c b Null = Unit {0}
IsAim bind c b Dead = Unit {0}
IsAim bind c b (At z) = IsWay (there c) z × (is_of_kinds (held_kinds b) (there c z) ≡ true)
IsAim bind c b (Out i) = (i ≤ LAST_USER_SLOT) × (bind i ≤ LAST_USER_SLOT) × (is_of_kinds (held_kinds b) (Some kinds.Port) ≡ true)
IsAim bind c b Outside = ⊥
IsAim bind c b Far = ⊥

-- two objects in one space
abbrev pub AreBeside : Path → Path → Type 0
AreBeside (j ∷ p) (k ∷ q) = p ≡ q
AreBeside x y = ⊥

-- somebody at a port: a thread inside, beside a port inside; a peer outside at a port outside
abbrev pub IsPair : (ℕ → ℕ) → World → Ptr → Peer → Type 0
IsPair bind c (At port) (Server (At thread)) = IsWay (there c) port × (there c port ≡ Some kinds.Port) × IsWay (there c) thread
    × (there c thread ≡ Some kinds.Thread) × AreBeside port thread
IsPair bind c (Out i) (Server Outside) = (i ≤ LAST_USER_SLOT) × (bind i ≤ LAST_USER_SLOT)
IsPair bind c port peer = ⊥

abbrev pub IsTalkAim : (ℕ → ℕ) → World → Option Talk → Type 0
IsTalkAim bind c None = Unit {0}
IsTalkAim bind c (Some talk) = IsPair bind c talk.port talk.peer

abbrev pub IsPortAim : (ℕ → ℕ) → World → Ptr → Type 0
IsPortAim bind c (At port) = IsWay (there c) port × (there c port ≡ Some kinds.Port)
IsPortAim bind c (Out i) = (i ≤ LAST_USER_SLOT) × (bind i ≤ LAST_USER_SLOT)
IsPortAim bind c other = ⊥

abbrev pub IsTakenAim : (ℕ → ℕ) → World → Ptr → Option Peer → Type 0
IsTakenAim bind c port None = IsPortAim bind c port
IsTakenAim bind c port (Some taker) = IsPair bind c port taker

abbrev pub IsFaultAim : (ℕ → ℕ) → World → Option Fault → Type 0
IsFaultAim bind c None = Unit {0}
IsFaultAim bind c (Some fault) = IsTakenAim bind c fault.port fault.taker

abbrev pub AreAims : (ℕ → ℕ) → World → Body → Type 0
AreAims bind c (Thread_of t) = IsTalkAim bind c t.talk × IsFaultAim bind c t.fault
AreAims bind c b = IsAim bind c b (pointer_of b)

-- a porter can give the words that make them
abbrev pub GivesTalk : Option Talk → Type 0
GivesTalk None = Unit {0}
GivesTalk (Some talk) = IsGiven (talk_words talk) × (are_talk_words (talk_words talk) ≡ true)

abbrev pub GivesFault : Option Fault → Type 0
GivesFault None = Unit {0}
GivesFault (Some fault) = IsGiven (fault_words fault) × (are_fault_words (fault_words fault) ≡ true)

abbrev pub AreTold : Body → Type 0
AreTold (Thread_of t) = GivesTalk t.talk × GivesFault t.fault
AreTold b = Unit {0}

-- an object whose record a new one takes, which then says all of it but its pointers, and whose pointers can be led
pub record IsAble (bind : ℕ → ℕ) (c : World) (q : Path) (x : ℕ) (b : Body) : Type 0 where
  pub there : c.body (x ∷ q) ≡ Some b
  pub low : x ≤ LAST_USER_SLOT
  pub no_space : space_of b ≡ None
  pub takes : takes_state c q (blank b) (padded (record_of b)) ≡ true
  pub says : set (blank b) (padded (record_of b)) ≡ recorded b
  pub aims : AreAims bind c b
  pub given : IsGiven (padded (record_of b))
  pub told : AreTold b

-- ---- items and sheets of a room

abbrev pub AreItems : (ℕ → ℕ) → World → Path → List Item → List Path → Type 0
AreItems bind c q [] done = Unit {0}
AreItems bind c q (i ∷ is) done = IsAble bind c q i.slot i.body × (is_among (i.slot ∷ q) done ≡ false) × AreItems bind c q is ((i.slot ∷ q) ∷ done)

abbrev pub AreSheets : World → Path → List Sheet → List (Path × ℕ) → Type 0
AreSheets c q [] given = Unit {0}
AreSheets c q (s ∷ ss) given =
    ((c.page q s.number ≡ Some s.words) × (s.number < PAGES) × (length s.words ≡ PAGE_WORDS) × (is_given q s.number given ≡ false) × IsGiven s.words)
    × AreSheets c q ss ((q, s.number) ∷ given)

abbrev pub with_items : Path → List Item → List Path → List Path
with_items q [] done = done
with_items q (i ∷ is) done = with_items q is ((i.slot ∷ q) ∷ done)

abbrev pub with_sheets : Path → List Sheet → List (Path × ℕ) → List (Path × ℕ)
with_sheets q [] given = given
with_sheets q (s ∷ ss) given = with_sheets q ss ((q, s.number) ∷ given)

-- every space on the way to it is made, and it itself
abbrev pub AreMade : Path → List Path → Type 0
AreMade [] made = Unit {0}
AreMade (k ∷ q) made = (is_among (k ∷ q) made ≡ true) × AreMade q made

-- ---- spaces, each after the one in which it lies

abbrev pub IsHolderAim : World → Option Ptr → Type 0
IsHolderAim c None = Unit {0}
IsHolderAim c (Some (At x)) = IsWay (there c) x × (there c x ≡ Some kinds.Thread)
IsHolderAim c (Some other) = ⊥

-- the holder doesn't lie in what it holds
abbrev pub IsOutside : Path → Option Ptr → Type 0
IsOutside x (Some (At holder)) = is_within x holder ≡ false
IsOutside x other = Unit {0}

abbrev pub IsNewSpace : World → Path → Option Ptr → List Path → Type 0
IsNewSpace c [] holder made = holder ≡ None
IsNewSpace c (k ∷ q) holder made =
    (c.body (k ∷ q) ≡ Some (Space 0 holder)) × (k ≤ LAST_USER_SLOT) × (there c q ≡ Some kinds.Space) × IsWay (there c) q × AreMade q made
    × (is_among (k ∷ q) made ≡ false) × IsHolderAim c holder × IsOutside (k ∷ q) holder

abbrev pub with_space : Path → List Path → List Path
with_space [] made = made
with_space (k ∷ q) made = (k ∷ q) ∷ made

abbrev pub AreSpaces : World → List Room → List Path → Type 0
AreSpaces c [] made = Unit {0}
AreSpaces c (r ∷ rs) made = IsNewSpace c r.path r.holder made × AreSpaces c rs (with_space r.path made)

abbrev pub with_spaces : List Room → List Path → List Path
with_spaces [] made = made
with_spaces (r ∷ rs) made = with_spaces rs (with_space r.path made)

-- ---- what stands in each

pub record IsRoom (bind : ℕ → ℕ) (c : World) (r : Room) (made : List Path) (given : List (Path × ℕ)) : Type 0 where
  pub space : there c r.path ≡ Some kinds.Space
  pub way : IsWay (there c) r.path
  pub above : AreMade r.path made
  pub items : AreItems bind c r.path r.items made
  pub whole : (k : ℕ) → is_among (k ∷ r.path) (with_items r.path r.items made) ≡ false → c.body (k ∷ r.path) ≡ None
  pub sheets : AreSheets c r.path r.sheets given

abbrev pub AreRooms : (ℕ → ℕ) → World → List Room → List Path → List (Path × ℕ) → Type 0
AreRooms bind c [] made given = Unit {0}
AreRooms bind c (r ∷ rs) made given = IsRoom bind c r made given × AreRooms bind c rs (with_items r.path r.items made) (with_sheets r.path r.sheets given)

abbrev pub all_made : List Room → List Path → List Path
all_made [] made = made
all_made (r ∷ rs) made = all_made rs (with_items r.path r.items made)

abbrev pub all_given : List Room → List (Path × ℕ) → List (Path × ℕ)
all_given [] given = given
all_given (r ∷ rs) given = all_given rs (with_sheets r.path r.sheets given)

-- all of it
pub record IsRoomed (bind : ℕ → ℕ) (c : World) (rooms : List Room) : Type 0 where
  pub root : c.body [] ≡ Some (Space 0 None)
  pub unborn : c.next ≡ 0
  -- the nester's ports are bound to slots of users
  pub binds : (i : ℕ) → i ≤ LAST_USER_SLOT → bind i ≤ LAST_USER_SLOT
  pub spaces : AreSpaces c rooms []
  pub filled : AreRooms bind c rooms (with_spaces rooms []) []
  pub whole : (k : ℕ) (q : Path) → is_among (k ∷ q) (all_made rooms (with_spaces rooms [])) ≡ false → c.body (k ∷ q) ≡ None
  -- a thread serves one talk or one fault
  pub one_service : (server x y : Path) → 0 < services c server x → 0 < services c server y → x ≡ y
  pub one_each : (server x : Path) → services c server x ≤ 1
  pub pages : (q : Path) (n : ℕ) → is_given q n (all_given rooms []) ≡ false → c.page q n ≡ None
