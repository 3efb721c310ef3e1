-- How a run goes on and ends.
use Rattle.std.proofs.Common.{◌≡◌, ℕ, zero, suc, ◌+◌, true, false, refl}
use Rattle.fk_lone.specs.Machine.{State, instructed, is_running, run, events}

-- n instructions are one and then k
pub run_more : (n k : ℕ) (s : State) → n ≡ suc k → is_running s ≡ true → run k (instructed s) ≡ run n s
unfolding run
run_more n k s h e = rw (h, e) refl

pub run_ended : (n : ℕ) (s : State) → is_running s ≡ false → s ≡ run n s
unfolding run
run_ended zero s e = refl
run_ended (suc n) s e = rw e refl

pub run_none : (n : ℕ) (s : State) → n ≡ 0 → run n s ≡ s
unfolding run
run_none n s h = rw h refl

pub events_more : (n k : ℕ) (s : State) → n ≡ suc k → is_running s ≡ true → 1 + events k (instructed s) ≡ events n s
unfolding events
events_more n k s h e = rw (h, e) refl

pub events_ended : (n : ℕ) (s : State) → is_running s ≡ false → events n s ≡ 0
unfolding events
events_ended zero s e = refl
events_ended (suc n) s e = rw e refl

pub events_none : (n : ℕ) (s : State) → n ≡ 0 → events n s ≡ 0
unfolding events
events_none n s h = rw h refl
