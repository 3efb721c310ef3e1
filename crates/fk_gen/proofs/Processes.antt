-- Processes one after the other.
use Rattle.std.proofs.Common.{◌≡◌, ℕ, suc, ◌+◌, ◌-◌, ◌<◌, ◌≤◌, [], ◌++◌, refl, arith}
use Rattle.fk_gen.specs.Soak.{process_text, processes_from}

pub next_process : (k n : ℕ) → k < n → processes_from k (n - k) ≡ process_text k ++ processes_from (k + 1) (n - (k + 1))
unfolding processes_from
next_process k n lt = let left : n - k ≡ suc (n - (k + 1)) = omega arith in rw left refl

pub no_process : (k n : ℕ) → n ≤ k → processes_from k (n - k) ≡ []
unfolding processes_from
no_process k n le = let left : n - k ≡ 0 = omega arith in rw left refl
