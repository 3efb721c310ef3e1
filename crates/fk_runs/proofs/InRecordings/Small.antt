-- Numbers that are small by their types.
use Rattle.std.proofs.Common.{◌≡◌, ℕ, ◌<◌, ◌≤◌, ◌^◌, true, nat_lt, List, length, take}
use Rattle.std.proofs.lemmas.Bool.{ltb-true}
use Rattle.std.proofs.lemmas.List.Elements.{All-weaker}
use Rattle.std.proofs.lemmas.List.Sums.{AllPass-from_list_all}
use Rattle.std.specs.List.{All, list_all}
use Rattle.fk_model.specs.Whole.{are_words}
use Rattle.fk_record_text.specs.Record.{AreWords}

pub all-below : (n : ℕ) (xs : List ℕ) → list_all (λ x. nat_lt x n) xs ≡ true → All (λ x. x < n) xs
all-below n xs is = All-weaker (λ x. nat_lt x n ≡ true) (λ x. x < n) (λ x low. ltb-true x n low) xs (AllPass-from_list_all (λ x. nat_lt x n) xs is)

pub reply_small : (words : List ℕ) → length words ≤ 64 → are_words words ≡ true → AreWords words
reply_small words few small = record { few = few; small = all-below (2 ^ 64) words small }
