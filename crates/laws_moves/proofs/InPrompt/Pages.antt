-- The words of a page: an access comes to a page that is there, and a record that was written in it is read again.
use Rattle.std.proofs.Common.{◌≡◌, ℕ, zero, suc, ◌+◌, ◌%◌, ◌≤◌, Bool, IsSome, List, [], ◌∷◌, ◌++◌, length, take, drop, refl, ap, ◌∙◌, arith}
use Rattle.std.proofs.lemmas.List.{length-take-le}
use Rattle.fk_model.specs.declared.limits.TheConstants.{PAGE_WORDS, RECORD_WORDS}
use Rattle.fk_model.specs.Places.{Path}
use Rattle.fk_model.specs.World.{World}
use Rattle.fk_model.specs.Reach.{reach_word, words_at}
use Rattle.fk_model.specs.Reach.Reach.{Home}
use Rattle.fk_model.specs.TransferRows.{overwritten}
use Rattle.fk_model.specs.StateRows.{record_at}
use Rattle.fk_model.specs.Whole.{HasFullPages}
use Rattle.laws_moves.proofs.InWhole.Memory.{word-there, words-full}

-- the page that an address reaches is there
pub reached-there : (w : World) (s : Path) (address : ℕ) (write : Bool) (t : Path) (page : ℕ) →
    reach_word w s address write ≡ Home t page → IsSome (w.page t page)
reached-there w s address write t page h = let there = word-there w s address write in rw h at there

-- and has 64 words
pub reached-full : (w : World) → HasFullPages w → (s : Path) (address : ℕ) (write : Bool) (t : Path) (page : ℕ) →
    reach_word w s address write ≡ Home t page → length (words_at w t page) ≡ PAGE_WORDS
reached-full w pages s address write t page h = words-full w pages t page (reached-there w s address write t page h)

-- ---- records in a page

-- what lies behind a list of so many
drop-past : {A : Type 0} (n : ℕ) (xs ys : List A) → length xs ≡ n → drop n (xs ++ ys) ≡ ys
drop-past zero [] ys h = refl
drop-past zero (x ∷ xs) ys h = cc
drop-past (suc n) [] ys h = cc
drop-past (suc n) (x ∷ xs) ys h = drop-past n xs ys (let e : suc (length xs) ≡ suc n = h in cc)

take-all : {A : Type 0} (n : ℕ) (xs ys : List A) → length xs ≡ n → take n (xs ++ ys) ≡ xs
take-all zero [] ys h = refl
take-all zero (x ∷ xs) ys h = cc
take-all (suc n) [] ys h = cc
take-all (suc n) (x ∷ xs) ys h = ap (λ xs. x ∷ xs) (take-all n xs ys (let e : suc (length xs) ≡ suc n = h in cc))

-- a record that was written in a page is read again
pub record-read : (page shown : List ℕ) (address : ℕ) → length page ≡ PAGE_WORDS → length shown ≡ RECORD_WORDS →
    address % PAGE_WORDS + RECORD_WORDS ≤ PAGE_WORDS → record_at (overwritten page (address % PAGE_WORDS) shown) address ≡ shown
record-read page shown address full all fits =
    let at = address % PAGE_WORDS in
    ap (take RECORD_WORDS) (drop-past at (take at page) (shown ++ drop (at + length shown) page) (length-take-le at page (omega (arith, full, fits))))
    ∙ take-all RECORD_WORDS shown (drop (at + length shown) page) all
