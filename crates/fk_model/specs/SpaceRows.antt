-- Spaces: holds, stop counts and pages.
use Rattle.std.specs.Prelude.{ℕ, ◌+◌, ◌-◌, ◌%◌, Bool, true, false, not, ◌&&◌, ◌||◌, ◌==◌, nat_le, nat_lt, is_some, List, [], ◌∷◌, replicate, Option, Some, None}
use Rattle.std.specs.Prelude.{Result, option_map, if◌then◌else◌}
use Rattle.std.specs.List.{list_any}
use Rattle.fk_model.specs.declared.limits.TheConstants.{PAGES, PAGE_WORDS, MOST_STOPS, ZEROS}
use Rattle.fk_model.specs.declared.names.Kind.TheVariants as kinds
use Rattle.fk_model.specs.declared.statuses.status.TheConstants as status
use Rattle.fk_model.specs.Places.{Path, is_within, leads_to}
use Rattle.fk_model.specs.Places.Ptr.{At}
use Rattle.fk_model.specs.Objects.{Thread, space_of, holds}
use Rattle.fk_model.specs.World.{World}
use Rattle.fk_model.specs.World.Change.{Alter, MakeSpace, PutPage, DropPage}
use Rattle.fk_model.specs.World.Edit.{SetHolder, SetStops}
use Rattle.fk_model.specs.Searches.{lowest, beneath}
use Rattle.fk_model.specs.Reach.{words_at}
use Rattle.fk_model.specs.Holds.{holder_of, is_frozen_for, is_porter}
use Rattle.fk_model.specs.Outcomes.{Outcome, ◌>>=◌, refuse, or_refuse, when, Caller, path_of, done}
use Rattle.fk_model.specs.Readers.{and_read, slot_for, object_in, handle, space_argument, referred, own_page}
use Rattle.fk_model.specs.Talks.{thread_led_to}

-- ---- holds

-- a space is held by a porter
abbrev pub has_porter : World → Path → Bool
has_porter w s = holds (λ holder. holds (λ (e : Path × Thread). is_porter e.1.mode) (thread_led_to w holder)) (holder_of (w.body s))

abbrev pub is_held_by_other : World → Path → Path → Bool
is_held_by_other w me s = holds (λ holder. not (leads_to me holder)) (holder_of (w.body s))

-- not ready while another holds the space, or a porter a space beneath it
unfoldable pub space_hold : World → Caller → ℕ → ℕ → Outcome
space_hold w c s x = do
  space ← space_argument w c s
  _ ← object_in w c space_of space x
  _ ← refuse status.HELD (is_frozen_for w (path_of c) space)
  _ ← refuse status.DENIED (is_within (x ∷ space) c.space)
  when (not (is_held_by_other w (path_of c) (x ∷ space)) && not (list_any (has_porter w) (beneath w (x ∷ space))))
      (done c (Alter (x ∷ space) (SetHolder (Some (At (path_of c)))) ∷ []) [])

-- space_release: a space that the caller holds is held no more
unfoldable pub space_release : World → Caller → ℕ → ℕ → Outcome
space_release w c s x = do
  space ← space_argument w c s
  holder ← object_in w c space_of space x
  _ ← refuse status.HELD (is_frozen_for w (path_of c) space)
  _ ← refuse status.DENIED (not (holds (leads_to (path_of c)) holder))
  done c (Alter (x ∷ space) (SetHolder None) ∷ []) []

-- ---- stop counts

-- the thread that a handle names, with its path
abbrev pub thread_by_handle : World → Caller → ℕ → Result (Path × Thread) ℕ
thread_by_handle w c h = and_read (handle w c kinds.Thread h) (λ p. or_refuse status.WRONGKIND (thread_led_to w p))

-- thread_stop: a thread is stopped once more
unfoldable pub thread_stop : World → Caller → ℕ → Outcome
thread_stop w c h = do
  e ← thread_by_handle w c h
  _ ← refuse status.HELD (is_frozen_for w (path_of c) e.0)
  _ ← refuse status.FULL (nat_le MOST_STOPS e.1.stops)
  done c (Alter e.0 (SetStops (e.1.stops + 1)) ∷ []) []

-- thread_go: a thread is stopped once less
unfoldable pub thread_go : World → Caller → ℕ → Outcome
thread_go w c h = do
  e ← thread_by_handle w c h
  _ ← refuse status.HELD (is_frozen_for w (path_of c) e.0)
  _ ← refuse status.NOTSTOPPED (e.1.stops == 0)
  done c (Alter e.0 (SetStops (e.1.stops - 1)) ∷ []) []

-- ---- pages

abbrev pub is_page : ℕ → Bool
is_page page = nat_lt page PAGES

abbrev pub is_page_address : ℕ → Bool
is_page_address address = address % PAGE_WORDS == 0

-- the words become a home page of the space
abbrev pub gives_page : World → Caller → Path → ℕ → List ℕ → Outcome
gives_page w c space page words = do
  _ ← refuse status.OCCUPIED (is_some (w.page space page))
  done c (PutPage space page words ∷ []) []

-- a porter gives the words themselves; an address of all ones stands for a page of zeros
abbrev pub gives_from : World → Caller → Path → ℕ → ℕ → Outcome
gives_from w c space page address =
    if c.is_porter then gives_page w c space page c.words
    else (if address == ZEROS then gives_page w c space page (replicate PAGE_WORDS 0)
    else own_page w c address false (λ s own. gives_page w c space page (words_at w s own)))

abbrev pub is_bad_source : Caller → ℕ → Bool
is_bad_source c address = not c.is_porter && not (address == ZEROS) && not (is_page_address address)

-- page_give: a space gets a page, a copy of the caller's at an address, or of zeros
unfoldable pub page_give : World → Caller → ℕ → ℕ → ℕ → Outcome
page_give w c s page address = do
  space ← space_argument w c s
  _ ← refuse status.HELD (is_frozen_for w (path_of c) space)
  _ ← refuse status.BADADDRESS (not (is_page page) || is_bad_source c address)
  gives_from w c space page address

-- the words of a home page go to the caller's page, and then the page may go
abbrev pub copies : Caller → Path → ℕ → Bool → List ℕ → Path → ℕ → Outcome
copies c space page drops words s own = done c (PutPage s own words ∷ (if drops then DropPage space page ∷ [] else [])) []

abbrev pub copies_home : World → Caller → Path → ℕ → Bool → Path → ℕ → Outcome
copies_home w c space page drops s own = do
  words ← or_refuse status.NONE (w.page space page)
  copies c space page drops words s own

-- a porter gets the words as its answer
abbrev pub answers_home : World → Caller → Path → ℕ → Bool → Outcome
answers_home w c space page drops = do
  words ← or_refuse status.NONE (w.page space page)
  done c (if drops then DropPage space page ∷ [] else []) words

abbrev pub copies_to : World → Caller → Path → ℕ → Bool → ℕ → Outcome
copies_to w c space page drops address =
    if c.is_porter then answers_home w c space page drops
    else own_page w c address true (copies_home w c space page drops)

abbrev pub is_bad_target : Caller → ℕ → Bool
is_bad_target c address = not c.is_porter && not (is_page_address address)

-- page_take: a space loses a page, which is copied to the caller
unfoldable pub page_take : World → Caller → ℕ → ℕ → ℕ → Outcome
page_take w c s page address = do
  space ← space_argument w c s
  _ ← refuse status.HELD (is_frozen_for w (path_of c) space)
  _ ← refuse status.BADADDRESS (not (is_page page) || is_bad_target c address)
  copies_to w c space page true address

-- page_read: a page of a space is copied to the caller
unfoldable pub page_read : World → Caller → ℕ → ℕ → ℕ → Outcome
page_read w c s page address = do
  space ← space_argument w c s
  _ ← refuse status.BADADDRESS (not (is_page page) || is_bad_target c address)
  copies_to w c space page false address

-- the first home page at or above a number
unfoldable pub next_page : World → Path → ℕ → Option ℕ
next_page w space from = lowest PAGES (λ page. if nat_le from page then option_map (λ words. page) (w.page space page) else None)

-- page_next: the first page of a space from a number on
unfoldable pub page_next : World → Caller → ℕ → ℕ → Outcome
page_next w c s from = do
  space ← space_argument w c s
  page ← or_refuse status.NONE (next_page w space from)
  done c [] (page ∷ [])

-- ---- a porter restores a holder, and makes a space that it holds

-- hold_set: a space is held again, by the thread to which a reference leads
unfoldable pub hold_set : World → Caller → ℕ → ℕ → ℕ → Outcome
hold_set w c s x thread = do
  space ← space_argument w c s
  _ ← object_in w c space_of space x
  holder ← referred w c kinds.Thread thread
  _ ← refuse status.HELD (is_frozen_for w (path_of c) (x ∷ space))
  done c (Alter (x ∷ space) (SetHolder (Some holder)) ∷ []) []

-- space_make_held: a space is made in an empty slot of the caller's, and he holds it
unfoldable pub space_make_held : World → Caller → ℕ → Outcome
space_make_held w c x = do
  _ ← slot_for c x
  _ ← refuse status.OCCUPIED (is_some (w.body (x ∷ c.space)))
  done c (MakeSpace (x ∷ c.space) (Some (At (path_of c))) ∷ []) []
