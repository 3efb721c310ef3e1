-- Copies: the burst that a copy of a thread in code is, and that with which it begins.
use Rattle.std.specs.Prelude.{◌≡◌, ℕ, ◌+◌, ◌-◌, ◌/◌, Bool, true, false, ◌&&◌, nat_le, nat_lt, List, [], Some, None}
use Rattle.std.specs.Prelude.{Option, if◌then◌else◌, slice_index_or, slice_set}
use Rattle.fk_model.specs.declared.limits.TheConstants.{PAGE_WORDS}
use Rattle.fk_model.specs.Places.{Path}
use Rattle.fk_model.specs.World.{World}
use Rattle.laws_bursts.specs.Bursts.{Burst}
use Rattle.fk_burst.specs.declared.copies.copied.Copied.{Copied}

-- what a list that begins with the page `first` has for a page; `other` where it has nothing
abbrev pub for_page : {A : Type 0} → ℕ → List A → A → ℕ → A
for_page first list other page = if nat_le first page then slice_index_or list (page - first) other else other

-- a copy as the laws of bursts have it
unfoldable pub burst_of : Copied → Burst
burst_of c = record {
  registers = c.registers;
  counter = c.counter;
  page = λ page. if for_page c.first c.there false page then Some (for_page c.first c.words [] page) else None;
  used = λ page. for_page c.first c.used false page;
}

-- the page of the counter and the three after it
abbrev pub is_near : ℕ → ℕ → Bool
is_near counter page = nat_le (counter / PAGE_WORDS) page && nat_lt page (counter / PAGE_WORDS + 4)

-- with the pages of its space that are there among these, and none of them used
abbrev pub begun : World → Path → List ℕ → ℕ → Burst
begun w space registers counter = record {
  registers = registers;
  counter = counter;
  page = λ page. if is_near counter page then w.page space page else None;
  used = λ page. false;
}

-- the page at a place, if a copy has used it, is in a space as another copy has it
abbrev pub IsSameAt : World → Path → Copied → Copied → ℕ → Type 0
IsSameAt w space now taken k = slice_index_or now.used k false ≡ true → w.page space (now.first + k) ≡ (burst_of taken).page (now.first + k)

-- a page at a place of a list, if there is one
abbrev pub laid : ℕ → Option (List ℕ) → List (List ℕ) → List (List ℕ)
laid k (Some page) pages = slice_set pages k page
laid k None pages = pages
