-- What a pager keeps of its own numbers, whatever it is answered: pages are those of a space, and there is room for those that are in.
use Rattle.std.specs.Prelude.{◌≡◌, ℕ, ◌+◌, ◌≤◌, ◌<◌, List, [], ◌∷◌, length, vec_capacity, slice_index}
use Rattle.fk_model.specs.declared.statuses.status.TheConstants.{OK}
use Rattle.laws_filled.specs.Pager.{Phase, State}
use Rattle.laws_filled.specs.Pager.Phase.{Seeking, Taking, Waiting, Looking, Evicting, Giving, Ending}
use Rattle.fk_paging.specs.Pagers.{state_of}
use Rattle.fk_paging.specs.declared.pager.Pager.{Pager}

-- they are pages of a space
abbrev pub ArePages : List ℕ → Type 0
ArePages [] = Unit {0}
ArePages (page ∷ pages) = (page < 256) × ArePages pages

abbrev pub HasNumbers : ℕ → ℕ → Phase → Type 0
HasNumbers room within (Seeking from) = Unit {0}
HasNumbers room within (Taking page) = page < 256
HasNumbers room within Waiting = Unit {0}
HasNumbers room within (Looking page) = page < 256
HasNumbers room within (Evicting old page) = (old < 256) × (page < 256)
HasNumbers room within (Giving page) = (page < 256) × (within + 1 ≤ room)
HasNumbers room within (Ending page) = Unit {0}

pub record IsSaneState (room : ℕ) (s : State) : Type 0 where
  pub few : length s.inside ≤ room
  pub pages : ArePages s.inside
  pub phase : HasNumbers room (length s.inside) s.phase

pub record IsSane (p : Pager) : Type 0 where
  pub low : p.slot ≤ 239
  pub whole : length p.pages.items ≡ 256
  pub spare : 256 ≤ vec_capacity p.inside
  pub some : 1 ≤ p.room
  pub most : p.room ≤ 256
  pub state : IsSaneState p.room (state_of p)

-- an answer on which it counts: a page that is named is one of a space, and one that is taken is whole
abbrev pub IsGoodAnswer : Phase → ℕ → List ℕ → Type 0
IsGoodAnswer (Seeking from) status words = status ≡ OK → slice_index words 0 < 256
IsGoodAnswer (Taking page) status words = status ≡ OK → length words ≡ 64
IsGoodAnswer Waiting status words = status ≡ OK → slice_index words 2 < 256
IsGoodAnswer (Evicting old page) status words = status ≡ OK → length words ≡ 64
IsGoodAnswer other status words = Unit {0}
