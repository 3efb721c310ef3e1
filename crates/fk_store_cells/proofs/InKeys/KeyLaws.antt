-- KeyLaws: the keys of one space as they come and go.
use Rattle.std.proofs.Common.{◌≡◌, ℕ, zero, suc, ◌<◌, Bool, true, false, cond, ◌==◌, List, [], ◌∷◌, length, get_or, set, replicate, Some, None, refl}
use Rattle.std.proofs.Common.{sym, ap, ◌∙◌, arith, length-set}
use Rattle.std.proofs.lemmas.Bool.Decides.{nat_tests}
use Rattle.std.proofs.lemmas.List.{length-replicate, get_or_default}
use Rattle.fk_store_cells.specs.Slots.Cells.{cell_in}
use Rattle.fk_store_cells.proofs.InSlots.CellLaws.{get_or_set}
use Rattle.fk_store_cells.specs.Keys.Tables.{nothing, number_of, keyed, marked_in}

pub keyed-at : (keys : List ℕ) (k : ℕ) → cell_in (keyed keys) k ≡ number_of (get_or keys k nothing)
keyed-at [] k = refl
keyed-at (x ∷ keys) zero = refl
keyed-at (x ∷ keys) (suc k) = keyed-at keys k

-- one slot has another key
pub keyed-set : (keys : List ℕ) (slot word : ℕ) → slot < length keys →
    (k : ℕ) → cell_in (keyed (set keys slot word)) k ≡ cond (k == slot) (number_of word) (cell_in (keyed keys) k)
keyed-set keys slot word low k = keyed-at (set keys slot word) k ∙ ap number_of (get_or_set keys slot k word nothing low) ∙ by (k == slot)
  where
    by : (b : Bool) → number_of (cond b word (get_or keys k nothing)) ≡ cond b (number_of word) (cell_in (keyed keys) k)
    by true = refl
    by false = sym (keyed-at keys k)

pub keyed_gone : (keys : List ℕ) (slot : ℕ) → slot < length keys →
    (k : ℕ) → cell_in (keyed (set keys slot nothing)) k ≡ cond (k == slot) None (cell_in (keyed keys) k)
keyed_gone keys slot low k = keyed-set keys slot nothing low k

pub some_number : (key : ℕ) → key < nothing → number_of key ≡ Some key
some_number key low = let apart : (key == nothing) ≡ false = grind (arith, nat_tests) in rw apart refl

pub keyed_put : (keys : List ℕ) (slot key : ℕ) → slot < length keys → key < nothing →
    (k : ℕ) → cell_in (keyed (set keys slot key)) k ≡ cond (k == slot) (Some key) (cell_in (keyed keys) k)
keyed_put keys slot key low small k = keyed-set keys slot key low k ∙ ap (λ o. cond (k == slot) o (cell_in (keyed keys) k)) (some_number key small)

-- a slot's key goes to another slot
pub keyed_moved : (keys : List ℕ) (from to : ℕ) → from < length keys → to < length keys →
    (k : ℕ) → cell_in (keyed (set (set keys from nothing) to (get_or keys from 0))) k
    ≡ cond (k == to) (cell_in (keyed keys) from) (cond (k == from) None (cell_in (keyed keys) k))
keyed_moved keys from to low high k =
    let long : to < length (set keys from nothing) = simp length-set high in
    keyed-set (set keys from nothing) to (get_or keys from 0) long k
    ∙ ap (λ o. cond (k == to) (number_of (get_or keys from 0)) o) (keyed-set keys from nothing low k)
    ∙ ap (λ o. cond (k == to) o (cond (k == from) None (cell_in (keyed keys) k)))
    (ap number_of (get_or_default keys from 0 nothing low) ∙ sym (keyed-at keys from))

-- ---- a new table

keyed-none : (n k : ℕ) → cell_in (keyed (replicate n nothing)) k ≡ None
keyed-none zero k = refl
keyed-none (suc n) zero = refl
keyed-none (suc n) (suc k) = keyed-none n k

pub keyed-one : (n slot key k : ℕ) → slot < n → key < nothing →
    cell_in (keyed (set (replicate n nothing) slot key)) k ≡ cond (k == slot) (Some key) None
keyed-one n slot key k low small =
    let within : slot < length (replicate n nothing) = simp length-replicate low in
    keyed_put (replicate n nothing) slot key within small k ∙ ap (cond (k == slot) (Some key)) (keyed-none n k)

pub unmarked : (n m : ℕ) → marked_in (replicate n false) m ≡ false
unmarked zero m = refl
unmarked (suc n) zero = refl
unmarked (suc n) (suc m) = unmarked n m
