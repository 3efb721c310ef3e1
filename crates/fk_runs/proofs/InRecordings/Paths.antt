-- The path of a port has bytes above 32 alone.
use Rattle.std.proofs.Common.{◌≡◌, ℕ, ◌<◌, ◌≤◌, ◌^◌, false, true, nat_le, nat_lt, List, [], ◌∷◌, ◌++◌, decimal, arith}
use Rattle.std.proofs.lemmas.Bool.{leb-false}
use Rattle.std.proofs.lemmas.List.Elements.{All-nil, All-cons, All-head, All-tail, All-append, All-weaker, All-from_recursion}
use Rattle.std.specs.List.{All, list_all}
use Rattle.fk_model.proofs.numbers.Decimals.{decimal_avoids}
use Rattle.fk_record_text.specs.Lines.{IsPath}
use Rattle.fk_runs.proofs.InRecordings.Small.{all-below}
use Rattle.fk_report.specs.Paths.{down_text}

high : (b : ℕ) → 48 ≤ b → b ≤ 57 → nat_le b 32 ≡ false
high b low most = grind (arith, low)

decimal_path : (n : ℕ) → n < 2 ^ 64 → IsPath (decimal n)
decimal_path n small = All-weaker (λ b. nat_le b 32 ≡ false) (λ b. 32 < b) (λ b no. leb-false b 32 no) (decimal n)
    (All-from_recursion (λ b. nat_le b 32 ≡ false) (decimal n) (decimal_avoids (λ b. nat_le b 32) high n small))

pub all_high : (path : List ℕ) → All (λ slot. slot < 256) path → IsPath (down_text path)
all_high [] are = All-nil (λ b. 32 < b)
all_high (s ∷ ss) are =
    let low = All-head (λ slot. slot < 256) s ss are in
    All-append (λ b. 32 < b) (47 ∷ decimal s) (down_text ss)
    (All-cons (λ b. 32 < b) 47 (decimal s) (omega arith) (decimal_path s (omega (arith, low)))) (all_high ss (All-tail (λ slot. slot < 256) s ss are))

pub is_path : (path : List ℕ) → list_all (λ slot. nat_lt slot 256) path ≡ true → IsPath (down_text path)
is_path path are = all_high path (all-below 256 path are)
