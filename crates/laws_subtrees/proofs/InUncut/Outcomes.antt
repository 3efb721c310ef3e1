-- Outcomes whose changes set no pointer that stands in cuts alone: how a row's parts make one.
use Rattle.std.proofs.Common.{◌≡◌, true, false, nat_le, List, [], ◌∷◌, ◌++◌}
use Rattle.std.specs.List.{list_any}
use Rattle.fk_model.specs.Places.{Ptr}
use Rattle.fk_model.specs.Objects.{holds, is_served}
use Rattle.fk_model.specs.World.{World, Change, Edit}
use Rattle.fk_model.specs.World.Change.{Alter, Make, MakeSpace, Kill, Move, PutPage, DropPage}
use Rattle.fk_model.specs.World.Edit.{Proceed, SetPointer, SetHolder, SetTalk, SetPeer, SetFault, SetTaker}
use Rattle.fk_model.specs.Searches.{peer_pointer, option_list, talk_pointers, fault_pointers, pointers}
use Rattle.fk_model.specs.Outcomes.{Outcome}
use Rattle.fk_model.specs.Outcomes.Outcome.{Refused, Waits, Goes}
use Rattle.fk_model.specs.Holds.{is_porter}
use Rattle.fk_model.specs.StateRows.{is_native}
use Rattle.fk_model.specs.declared.limits.TheConstants.{LAST_USER_SLOT}
use Rattle.fk_model.specs.Sound.{is_cut_pointer}

-- ---- pointers, and changes that set them

abbrev pub IsOurs : Ptr → Type 0
IsOurs p = is_cut_pointer p ≡ false

abbrev pub AreOurs : List Ptr → Type 0
AreOurs ps = list_any is_cut_pointer ps ≡ false

abbrev pub IsOursEdit : Edit → Type 0
IsOursEdit (SetPointer to) = IsOurs to
IsOursEdit (SetHolder holder) = AreOurs (option_list (λ p. p ∷ []) holder)
IsOursEdit (SetTalk talk) = AreOurs (option_list talk_pointers talk)
IsOursEdit (SetPeer peer) = AreOurs (peer_pointer peer)
IsOursEdit (SetFault fault) = AreOurs (option_list fault_pointers fault)
IsOursEdit (SetTaker taker) = AreOurs (option_list peer_pointer taker)
IsOursEdit (Proceed mode counter) = is_porter mode ≡ false
IsOursEdit other = Unit {0}

abbrev pub SetsOurs : Change → Type 0
SetsOurs (Alter x edit) = IsOursEdit edit
SetsOurs (Make x body) = AreOurs (pointers body) × (is_native body ≡ false) × (is_served body ≡ false)
SetsOurs (MakeSpace x holder) = ⊥
SetsOurs (Kill x) = Unit {0}
SetsOurs (Move x slot) = ⊥
SetsOurs (PutPage space page words) = Unit {0}
SetsOurs (DropPage space page) = Unit {0}

abbrev pub SetOurs : List Change → Type 0
SetOurs [] = Unit {0}
SetOurs (c ∷ cs) = SetsOurs c × SetOurs cs

-- the first of them may make a space, or rename what is no served port to a slot of users
abbrev pub IsOursRow : World → List Change → Type 0
IsOursRow w [] = Unit {0}
IsOursRow w (Move x slot ∷ cs) = (nat_le slot LAST_USER_SLOT ≡ true) × (holds is_served (w.body x) ≡ false) × SetOurs cs
IsOursRow w (MakeSpace x holder ∷ cs) = AreOurs (option_list (λ p. p ∷ []) holder) × SetOurs cs
IsOursRow w (c ∷ cs) = SetsOurs c × SetOurs cs

pub ours-row : (w : World) (cs : List Change) → SetOurs cs → IsOursRow w cs
ours-row w [] ours = ours
ours-row w (Alter x edit ∷ cs) ours = ours
ours-row w (Make x body ∷ cs) ours = ours
ours-row w (MakeSpace x holder ∷ cs) ours = absurd ours.0
ours-row w (Kill x ∷ cs) ours = ours
ours-row w (Move x slot ∷ cs) ours = absurd ours.0
ours-row w (PutPage space page words ∷ cs) ours = ours
ours-row w (DropPage space page ∷ cs) ours = ours

-- ---- outcomes

abbrev pub OursIn : World → Outcome → Type 0
OursIn w (Refused status) = Unit {0}
OursIn w Waits = Unit {0}
OursIn w (Goes changes said) = IsOursRow w changes

-- (a record, so that the world and the outcome are read off a goal)
pub record OursOutcome (w : World) (o : Outcome) : Type 0 where
  pub ours : OursIn w o

-- ---- lists

pub ours-then : (cs ds : List Change) → SetOurs cs → SetOurs ds → SetOurs (cs ++ ds)
ours-then [] ds ours behind = behind
ours-then (c ∷ cs) ds ours behind = (ours.0, ours-then cs ds ours.1 behind)

pub row-then : (w : World) (cs ds : List Change) → IsOursRow w cs → SetOurs ds → IsOursRow w (cs ++ ds)
row-then w [] ds ours behind = ours-row w ds behind
row-then w (Move x slot ∷ cs) ds ours behind = (ours.0, ours.1, ours-then cs ds ours.2 behind)
row-then w (MakeSpace x holder ∷ cs) ds ours behind = (ours.0, ours-then cs ds ours.1 behind)
row-then w (Alter x edit ∷ cs) ds ours behind = (ours.0, ours-then cs ds ours.1 behind)
row-then w (c ∷ cs) ds ours behind = (ours.0, ours-then cs ds ours.1 behind)
