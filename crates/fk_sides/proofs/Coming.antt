-- A piece more among those that have come.
use Rattle.std.proofs.Common.{◌≡◌, ℕ, zero, suc, ◌+◌, ◌<◌, ◌≤◌, Bool, true, false, cond, eqb-true, eq-eqb, ◌==◌, List, [], ◌∷◌, ◌++◌, length}
use Rattle.std.proofs.Common.{Option, Some, None, option_map, is_some, ◌⊎◌, inl, inr, refl, sym, ap, subst, ◌∙◌, arith, append_assoc, drop, drop-cons, get_or}
use Rattle.std.specs.List.{slice_get, slice_set}
use Rattle.laws_handover.specs.Pieces.{Piece, content, found, behind, joined_from, joined, read_from}
use Rattle.laws_migrate.specs.Images.{read_bytes, valid_image}
use Rattle.std.specs.Prelude.{Result, Ok, Err}
use Rattle.fk_image.specs.Format.Reading.{image_reading}
use Rattle.fk_image.specs.Format.Spelling.{spelling}
use Rattle.fk_image.proofs.InFormat.RoundTrip.{reading_takes}
use Rattle.fk_image.specs.declared.image.image.Image.{Image}
use Rattle.fk_sides.specs.declared.blocks.Block.{Block}
use Rattle.fk_sides.specs.Blocks.{bytes_of, bytes_in, bytes_at, shown, spelled, piece_of, IsFilled, IsFilledTo, IsIdle, IsOpen, read_of, Begins, IsIn, Comes}

abbrev no_block : Option Block
no_block = None

abbrev Blocks : Type 0
Blocks = List (Option Block)

-- in each place stands the first piece with that number
record Shows (blocks : Blocks) (got : List Piece) : Type 0 where
  at : (n : ℕ) → n < length blocks → bytes_at blocks n ≡ option_map content (found n got)

abbrev some_bytes : List ℕ → Option (List ℕ)
some_bytes xs = Some xs

no_bytes : (xs : List ℕ) → some_bytes xs ≡ None → ⊥
no_bytes xs e = cc

-- ---- the first with a number, where one more has come

-- this piece, if it has the number
abbrev last_found : ℕ → Piece → Option Piece
last_found n p = found n (p ∷ [])

abbrev or_last : ℕ → Piece → Option Piece → Option Piece
or_last n p (Some q) = Some q
or_last n p None = last_found n p

found_more : (n : ℕ) (got : List Piece) (p : Piece) → found n (got ++ p ∷ []) ≡ or_last n p (found n got)
found_more n [] p = refl
found_more n (q ∷ got) p = by (q.number == n) (found_more n got p)
  where
    by : (b : Bool) → found n (got ++ p ∷ []) ≡ or_last n p (found n got)
        → cond b (Some q) (found n (got ++ p ∷ [])) ≡ or_last n p (cond b (Some q) (found n got))
    by true rest = refl
    by false rest = rest

-- one that was found is found
found_kept : (n : ℕ) (got : List Piece) (p q : Piece) → found n got ≡ Some q → found n (got ++ p ∷ []) ≡ Some q
found_kept n got p q e = found_more n got p ∙ ap (or_last n p) e

-- nor does another number change anything
other_last : (n : ℕ) (p : Piece) → (p.number ≡ n → ⊥) → last_found n p ≡ None
other_last n p other = by (p.number == n) refl
  where
    by : (b : Bool) → (p.number == n) ≡ b → cond b (Some p) None ≡ None
    by true e = absurd (other (eqb-true p.number n e))
    by false e = refl

or_none : (n : ℕ) (p : Piece) (o : Option Piece) → last_found n p ≡ None → or_last n p o ≡ o
or_none n p (Some q) e = refl
or_none n p None e = e

found_other : (n : ℕ) (got : List Piece) (p : Piece) → (p.number ≡ n → ⊥) → found n (got ++ p ∷ []) ≡ found n got
found_other n got p other = found_more n got p ∙ or_none n p (found n got) (other_last n p other)

abbrev some_piece : Piece → Option Piece
some_piece p = Some p

found_new : (n : ℕ) (got : List Piece) (p : Piece) → p.number ≡ n → found n got ≡ None → found n (got ++ p ∷ []) ≡ Some p
found_new n got p is none = found_more n got p ∙ ap (or_last n p) none ∙ ap (λ (b : Bool). cond b (some_piece p) None) (eq-eqb p.number n is)

same_or_other : (m n : ℕ) → (m ≡ n) ⊎ (m ≡ n → ⊥)
same_or_other m n = by (m == n) refl
  where
    by : (b : Bool) → (m == n) ≡ b → (m ≡ n) ⊎ (m ≡ n → ⊥)
    by true e = inl (eqb-true m n e)
    by false e = inr (λ is. let both = sym (eq-eqb m n is) ∙ e in cc)

-- ---- a piece that changes nothing: its number is past the last place, or it has come

idle_found : (blocks : Blocks) (got : List Piece) (p : Piece) → Shows blocks got → IsIdle blocks p.number → (n : ℕ) → n < length blocks
    → found n (got ++ p ∷ []) ≡ found n got
idle_found blocks got p shows (inl past) n lt = found_other n got p (λ is. omega (arith, past, lt, is))
idle_found blocks got p shows (inr taken) n lt = by (same_or_other p.number n)
  where
    there : (o : Option Piece) → found n got ≡ o → bytes_at blocks n ≡ option_map content o → (bytes_at blocks n ≡ None → ⊥)
        → found n (got ++ p ∷ []) ≡ found n got
    there (Some q) e shown full = found_kept n got p q e ∙ sym e
    there None e shown full = absurd (full shown)

    by : (p.number ≡ n) ⊎ (p.number ≡ n → ⊥) → found n (got ++ p ∷ []) ≡ found n got
    by (inr other) = found_other n got p other
    by (inl is) =
        there (found n got) refl (shows.at n lt) (λ none. taken (ap (bytes_at blocks) is ∙ none))

idle_shows : (blocks : Blocks) (got : List Piece) (p : Piece) → Shows blocks got → IsIdle blocks p.number → Shows blocks (got ++ p ∷ [])
idle_shows blocks got p shows idle = record {
  at = λ n lt. shows.at n lt ∙ ap (option_map content) (sym (idle_found blocks got p shows idle n lt));
}

-- ---- all have come, or one hasn't

gap : (count number m : ℕ) (got : List Piece) → number ≤ m → m < number + count → found m got ≡ None → joined_from count number got ≡ None
gap zero number m got low high none = absurd (omega (arith, low, high))
gap (suc count) number m got low high none =
    by (same_or_other number m) (λ past. gap count (suc number) m got past (omega (arith, high)) none)
  where
    nothing : (o : Option Piece) → behind o None ≡ None
    nothing None = refl
    nothing (Some p) = refl

    by : (number ≡ m) ⊎ (number ≡ m → ⊥) → (suc number ≤ m → joined_from count (suc number) got ≡ None)
        → behind (found number got) (joined_from count (suc number) got) ≡ None
    by (inl is) rest = ap (λ (o : Option Piece). behind o (joined_from count (suc number) got)) (ap (λ (k : ℕ). found k got) is ∙ none)
    by (inr other) rest =
        ap (λ (r : Option (List ℕ)). behind (found number got) r) (rest (omega (arith, low, other))) ∙ nothing (found number got)

-- each is there
whole : (blocks : Blocks) (number : ℕ) (got : List Piece) → ((j : ℕ) → j < length blocks → bytes_at blocks j ≡ option_map content (found (number + j) got))
    → ((j : ℕ) → j < length blocks → bytes_at blocks j ≡ None → ⊥) → joined_from (length blocks) number got ≡ Some (spelled blocks)
whole [] number got shown full = refl
whole (None ∷ blocks) number got shown full = absurd (full 0 (omega arith) refl)
whole (Some b ∷ blocks) number got shown full =
    by (found number got) refl (shown 0 (omega arith) ∙ ap (λ (k : ℕ). option_map content (found k got)) (let same : number + 0 ≡ number = omega arith in same))
    (whole blocks (suc number) got
    (λ j lt. shown (suc j) (omega (arith, lt))
    ∙ ap (λ (k : ℕ). option_map content (found k got)) (let same : number + suc j ≡ suc number + j = omega arith in same))
    (λ j lt. full (suc j) (omega (arith, lt))))
  where
    by : (o : Option Piece) → found number got ≡ o → some_bytes (bytes_of b) ≡ option_map content (found number got)
        → joined_from (length blocks) (suc number) got ≡ Some (spelled blocks)
        → behind (found number got) (joined_from (length blocks) (suc number) got) ≡ Some (bytes_of b ++ spelled blocks)
    by None e here rest = absurd (no_bytes (bytes_of b) (here ∙ ap (option_map content) e))
    by (Some q) e here rest =
        let both : some_bytes (bytes_of b) ≡ some_bytes (content q) = here ∙ ap (option_map content) e in
        let same : bytes_of b ≡ content q = cc in
        ap (λ (o : Option Piece). behind o (joined_from (length blocks) (suc number) got)) e
        ∙ ap (λ (r : Option (List ℕ)). behind (some_piece q) r) rest ∙ ap (λ (xs : List ℕ). some_bytes (xs ++ spelled blocks)) (sym same)

abbrev IsGoing : Blocks → List Piece → Type 0
IsGoing blocks got = Begins got (length blocks) (length blocks)

-- the joined bytes, where so many are wanted and the list isn't empty
joined_gap : (blocks : Blocks) (first : ℕ) (p : Piece) (ps : List Piece) → Shows blocks (p ∷ ps) → p.total ≡ length blocks → bytes_at blocks first ≡ None
    → first < length blocks → joined (p ∷ ps) ≡ None
joined_gap blocks first p ps shows total free lt =
    gap p.total 0 first (p ∷ ps) (omega arith) (omega (arith, total, lt)) (missing (found first (p ∷ ps)) (sym free ∙ shows.at first lt))
  where
    missing : (o : Option Piece) → None ≡ option_map content o → o ≡ None
    missing None e = refl
    missing (Some q) e = absurd (no_bytes (content q) (sym e))

joined_whole : (blocks : Blocks) (first : ℕ) (p : Piece) (ps : List Piece) → Shows blocks (p ∷ ps) → p.total ≡ length blocks → IsFilledTo blocks first
    → length blocks ≤ first → joined (p ∷ ps) ≡ Some (spelled blocks)
joined_whole blocks first p ps shows total filled le =
    ap (λ (k : ℕ). joined_from k 0 (p ∷ ps)) total
    ∙ whole blocks 0 (p ∷ ps) (λ j lt. shows.at j lt ∙ ap (λ (k : ℕ). option_map content (found k (p ∷ ps))) (let same : j ≡ 0 + j = omega arith in same))
    (λ j lt none. filled.filled j (omega (arith, lt, le)) none)

-- ---- an idle piece

-- no bytes spell an image
nothing_read : read_bytes [] ≡ None
nothing_read = by (image_reading []) refl
  where
    by : (r : Result Image (ℕ × ℕ)) → image_reading [] ≡ r → valid_image r ≡ None
    by (Err fault) e = refl
    by (Ok i) e = let both : [] ≡ spelling i = (reading_takes [] i (λ i. omega arith) e).spelled in cc

first_idle : (blocks : Blocks) (first : ℕ) (p : Piece) → Shows blocks [] → IsFilled blocks first → IsIdle blocks p.number → p.total ≡ length blocks
    → read_of (p ∷ []) ≡ None
first_idle [] first p shows filled idle total = ap (λ (k : ℕ). read_from read_bytes (joined_from k 0 (p ∷ []))) total ∙ nothing_read
first_idle (b ∷ blocks) zero p shows filled idle total =
    ap (read_from read_bytes) (joined_gap (b ∷ blocks) 0 p [] (idle_shows (b ∷ blocks) [] p shows idle) total filled.open_at (omega arith))
first_idle (b ∷ blocks) (suc first) p shows filled idle total = absurd (filled.to.filled 0 (omega arith) (shows.at 0 (omega arith)))

idle_unread : (blocks : Blocks) (first : ℕ) (got : List Piece) (p : Piece) → Shows blocks got → IsFilled blocks first → IsIdle blocks p.number
    → IsGoing blocks got → Begins got p.total (length blocks) → read_of got ≡ None → read_of (got ++ p ∷ []) ≡ None
idle_unread blocks first [] p shows filled idle going total unread = first_idle blocks first p shows filled idle total
idle_unread blocks first (q ∷ qs) p shows filled idle going total unread = by (below first (length blocks))
  where
    below : (m n : ℕ) → (m < n) ⊎ (n ≤ m)
    below zero zero = inr (omega arith)
    below zero (suc n) = inl (omega arith)
    below (suc m) zero = inr (omega arith)
    below (suc m) (suc n) = on (below m n)
      where
        on : (m < n) ⊎ (n ≤ m) → (suc m < suc n) ⊎ (suc n ≤ suc m)
        on (inl lt) = inl (omega (arith, lt))
        on (inr le) = inr (omega (arith, le))

    more : Shows blocks (q ∷ (qs ++ p ∷ []))
    more = idle_shows blocks (q ∷ qs) p shows idle

    by : (first < length blocks) ⊎ (length blocks ≤ first) → read_of (q ∷ (qs ++ p ∷ [])) ≡ None
    by (inl lt) = ap (read_from read_bytes) (joined_gap blocks first q (qs ++ p ∷ []) more going filled.open_at lt)
    by (inr le) =
        ap (read_from read_bytes) (joined_whole blocks first q (qs ++ p ∷ []) more going filled.to le ∙ sym (joined_whole blocks first q qs shows going filled.to le))
        ∙ unread

-- ---- a piece in a free place

set_long : {X : Type 0} (xs : List X) (k : ℕ) (x : X) → length (slice_set xs k x) ≡ length xs
set_long [] k x = refl
set_long (y ∷ xs) zero x = refl
set_long (y ∷ xs) (suc k) x = ap suc (set_long xs k x)

set_here : (xs : Blocks) (k : ℕ) (x : Option Block) → k < length xs → slice_get (slice_set xs k x) k ≡ Some x
set_here [] k x lt = absurd (omega (arith, lt))
set_here (y ∷ xs) zero x lt = refl
set_here (y ∷ xs) (suc k) x lt = set_here xs k x (omega (arith, lt))

set_there : (xs : Blocks) (k m : ℕ) (x : Option Block) → (k ≡ m → ⊥) → slice_get (slice_set xs k x) m ≡ slice_get xs m
set_there [] k m x other = refl
set_there (y ∷ xs) zero zero x other = absurd (other refl)
set_there (y ∷ xs) zero (suc m) x other = refl
set_there (y ∷ xs) (suc k) zero x other = refl
set_there (y ∷ xs) (suc k) (suc m) x other = set_there xs k m x (λ is. other (ap suc is))

-- what was free is free again
pub set_back : (xs : Blocks) (k : ℕ) (x : Option Block) → k < length xs → bytes_at xs k ≡ None → slice_set (slice_set xs k x) k None ≡ xs
set_back [] k x lt free = absurd (omega (arith, lt))
set_back (None ∷ xs) zero x lt free = refl
set_back (Some b ∷ xs) zero x lt free = absurd (no_bytes (bytes_of b) free)
set_back (y ∷ xs) (suc k) x lt free = ap (λ (zs : Blocks). y ∷ zs) (set_back xs k x (omega (arith, lt)) free)

put_shows : (blocks : Blocks) (got : List Piece) (n total : ℕ) (b : Block) → Shows blocks got → n < length blocks → bytes_at blocks n ≡ None
    → Shows (slice_set blocks n (Some b)) (got ++ piece_of n total b ∷ [])
put_shows blocks got n total b shows lt free =
    record { at = λ m within. by m (let long = set_long blocks n (Some b) in omega (arith, long, within)) (same_or_other n m) }
  where
    p : Piece
    p = piece_of n total b

    missing : (o : Option Piece) → None ≡ option_map content o → o ≡ None
    missing None e = refl
    missing (Some q) e = absurd (no_bytes (content q) (sym e))

    by : (m : ℕ) → m < length blocks → (n ≡ m) ⊎ (n ≡ m → ⊥)
        → bytes_at (slice_set blocks n (Some b)) m ≡ option_map content (found m (got ++ p ∷ []))
    by m within (inl is) =
        ap bytes_in (ap (slice_get (slice_set blocks n (Some b))) (sym is) ∙ set_here blocks n (Some b) lt)
        ∙ sym (ap (option_map content) (found_new m got p is (missing (found m got) (sym (sym (ap (bytes_at blocks) is) ∙ free) ∙ shows.at m within))))
    by m within (inr other) =
        ap bytes_in (set_there blocks n m (Some b) other) ∙ shows.at m within ∙ ap (option_map content) (sym (found_other m got p other))

more_going : (got : List Piece) (p : Piece) (many : ℕ) → Begins got many many → Begins got p.total many → Begins (got ++ p ∷ []) many many
more_going [] p many going total = total
more_going (q ∷ qs) p many going total = going

-- where one is still free nothing is read
open_unread : (blocks : Blocks) (first : ℕ) (got : List Piece) → IsGoing blocks got → Shows blocks got → bytes_at blocks first ≡ None → first < length blocks
    → read_of got ≡ None
open_unread blocks first [] going shows free lt = refl
open_unread blocks first (p ∷ ps) going shows free lt = ap (read_from read_bytes) (joined_gap blocks first p ps shows going free lt)

-- where none is all are read
whole_read : (blocks : Blocks) (first : ℕ) (got : List Piece) (p : Piece) → IsGoing blocks (got ++ p ∷ []) → Shows blocks (got ++ p ∷ []) → IsFilledTo blocks first
    → length blocks ≤ first → read_of (got ++ p ∷ []) ≡ read_bytes (spelled blocks)
whole_read blocks first [] p going shows filled le = ap (read_from read_bytes) (joined_whole blocks first p [] shows going filled le)
whole_read blocks first (q ∷ qs) p going shows filled le = ap (read_from read_bytes) (joined_whole blocks first q (qs ++ p ∷ []) shows going filled le)

-- ---- what becomes of the places

shows_of : (blocks : Blocks) (got : List Piece) → IsIn blocks got → Shows blocks got
shows_of blocks got its = record { at = its.at }

-- one that changes nothing
pub idles : (blocks : Blocks) (first : ℕ) (got : List Piece) (number total : ℕ) (b : Block) → IsFilled blocks first → IsIdle blocks number → IsIn blocks got
    → Begins got total (length blocks) → IsIn blocks (got ++ piece_of number total b ∷ [])
idles blocks first got number total b filled idle its begins = record {
  at = (idle_shows blocks got (piece_of number total b) (shows_of blocks got its) idle).at;
  unread = idle_unread blocks first got (piece_of number total b) (shows_of blocks got its) filled idle its.many begins its.unread;
  many = more_going got (piece_of number total b) (length blocks) its.many begins;
}

-- one that is put in its place: what is shown then
placed : (blocks new : Blocks) (got : List Piece) (number total : ℕ) (b : Block) → IsOpen blocks number → IsIn blocks got
    → new ≡ slice_set blocks number (Some b) → Shows new (got ++ piece_of number total b ∷ [])
placed blocks new got number total b free its is =
    subst (λ (xs : Blocks). Shows xs (got ++ piece_of number total b ∷ [])) (sym is)
    (put_shows blocks got number total b (shows_of blocks got its) free.within free.none)

as_long : (blocks new : Blocks) (number : ℕ) (x : Option Block) → new ≡ slice_set blocks number x → length new ≡ length blocks
as_long blocks new number x is = ap (λ (xs : Blocks). length xs) is ∙ set_long blocks number x

goes_on : (blocks new : Blocks) (got : List Piece) (p : Piece) → length new ≡ length blocks → IsIn blocks got → Begins got p.total (length blocks)
    → Begins (got ++ p ∷ []) (length new) (length new)
goes_on blocks new got p long its begins =
    subst (λ (n : ℕ). Begins (got ++ p ∷ []) n n) (sym long) (more_going got p (length blocks) its.many begins)

-- some are still free
pub opens : (blocks new : Blocks) (first : ℕ) (got : List Piece) (number total : ℕ) (b : Block) → IsOpen blocks number → IsIn blocks got
    → Begins got total (length blocks) → new ≡ slice_set blocks number (Some b) → bytes_at new first ≡ None → first < length new
    → IsIn new (got ++ piece_of number total b ∷ [])
opens blocks new first got number total b free its begins is open_at lt =
    let shows = placed blocks new got number total b free its is in
    let many = goes_on blocks new got (piece_of number total b) (as_long blocks new number (Some b) is) its begins in
    record {
      at = shows.at;
      unread = open_unread new first (got ++ piece_of number total b ∷ []) many shows open_at lt;
      many = many;
    }

-- none is: all are read
pub reads : (blocks new : Blocks) (first : ℕ) (got : List Piece) (number total : ℕ) (b : Block) (o : Option Image) → IsOpen blocks number → IsIn blocks got
    → Begins got total (length blocks) → new ≡ slice_set blocks number (Some b) → IsFilledTo new first → length new ≤ first
    → o ≡ read_bytes (spelled new) → Comes o new (got ++ piece_of number total b ∷ [])
reads blocks new first got number total b o free its begins is filled le read = by o (whole ∙ sym read)
  where
    shows : Shows new (got ++ piece_of number total b ∷ [])
    shows = placed blocks new got number total b free its is

    many : Begins (got ++ piece_of number total b ∷ []) (length new) (length new)
    many = goes_on blocks new got (piece_of number total b) (as_long blocks new number (Some b) is) its begins

    whole : read_of (got ++ piece_of number total b ∷ []) ≡ read_bytes (spelled new)
    whole = whole_read new first got (piece_of number total b) many shows filled le

    by : (o : Option Image) → read_of (got ++ piece_of number total b ∷ []) ≡ o → Comes o new (got ++ piece_of number total b ∷ [])
    by None e = record { at = shows.at; unread = e; many = many }
    by (Some image) e = e

-- ---- all blocks, one after the other

pub joined_more : (blocks : Blocks) (i : ℕ) (d : Option Block) (before now : List ℕ) → i < length blocks → now ≡ before ++ shown (get_or blocks i d)
    → before ++ spelled (drop i blocks) ≡ spelled blocks → now ++ spelled (drop (i + 1) blocks) ≡ spelled blocks
joined_more blocks i d before now lt is so_far =
    let here : drop i blocks ≡ get_or blocks i d ∷ drop (i + 1) blocks =
    drop-cons blocks i d lt ∙ ap (λ (n : ℕ). get_or blocks i d ∷ drop n blocks) (let one : suc i ≡ i + 1 = omega arith in one) in
    ap (λ (bytes : List ℕ). bytes ++ spelled (drop (i + 1) blocks)) is
    ∙ append_assoc before (shown (get_or blocks i d)) (spelled (drop (i + 1) blocks))
    ∙ ap (λ (xs : Blocks). before ++ spelled xs) (sym here) ∙ so_far

-- ---- the first open place

pub is_within : (blocks : Blocks) (n : ℕ) → is_some (bytes_at blocks n) ≡ true → n < length blocks
is_within [] n there = cc
is_within (b ∷ blocks) zero there = omega arith
is_within (b ∷ blocks) (suc n) there = let rest = is_within blocks n there in omega (arith, rest)

some_not_none : (o : Option (List ℕ)) → is_some o ≡ true → o ≡ None → ⊥
some_not_none (Some xs) there none = cc
some_not_none None there none = cc

pub filled_more : (blocks : Blocks) (first : ℕ) → IsFilledTo blocks first → is_some (bytes_at blocks first) ≡ true → IsFilledTo blocks (first + 1)
filled_more blocks first filled there = record {
  within = (let here = is_within blocks first there in omega (arith, here));
  filled = λ n lt none. by n lt none (same_or_other n first);
}
  where
    by : (n : ℕ) → n < first + 1 → bytes_at blocks n ≡ None → (n ≡ first) ⊎ (n ≡ first → ⊥) → ⊥
    by n lt none (inl is) = some_not_none (bytes_at blocks first) there (ap (bytes_at blocks) (sym is) ∙ none)
    by n lt none (inr other) = filled.filled n (omega (arith, lt, other)) none

pub none_there : (o : Option (List ℕ)) → is_some o ≡ false → o ≡ None
none_there None e = refl
none_there (Some xs) e = cc

pub filled_end : (blocks : Blocks) (first : ℕ) → IsFilledTo blocks first → is_some (bytes_at blocks first) ≡ false → IsFilled blocks first
filled_end blocks first filled none = record { to = filled; open_at = none_there (bytes_at blocks first) none }

-- nothing is lost by one more
pub filled_put : (blocks new : Blocks) (first number : ℕ) (b : Block) → IsFilledTo blocks first → IsOpen blocks number → new ≡ slice_set blocks number (Some b)
    → IsFilledTo new first
filled_put blocks new first number b filled free is =
    subst (λ (xs : Blocks). IsFilledTo xs first) (sym is) (record {
      within = (let long = set_long blocks number (Some b) in let so_far = filled.within in omega (arith, long, so_far));
      filled = λ n lt none. by n lt none (same_or_other number n);
    })
  where
    by : (n : ℕ) → n < first → bytes_at (slice_set blocks number (Some b)) n ≡ None → (number ≡ n) ⊎ (number ≡ n → ⊥) → ⊥
    by n lt none (inl same) = filled.filled n lt (ap (bytes_at blocks) (sym same) ∙ free.none)
    by n lt none (inr other) = filled.filled n lt (ap bytes_in (sym (set_there blocks number n (Some b) other)) ∙ none)
