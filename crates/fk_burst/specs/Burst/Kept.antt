-- Kept: what a lease keeps.
use Rattle.std.specs.Prelude.{◌≡◌, ℕ, ◌/◌, false, Some}
use Rattle.fk_model.specs.declared.limits.TheConstants.{PAGE_WORDS}
use Rattle.laws_bursts.specs.Bursts.{made}
use Rattle.fk_burst.specs.Copies.Copies.{burst_of}
use Rattle.fk_burst.specs.Burst.Lease.{Lease}

-- its copy has come by so many instructions to what it is, from one of which nothing was used. Its pages begin with that of the counter
pub record IsKept (l : Lease) : Type 0 where
  pub comes : made l.count (burst_of l.taken) ≡ Some (burst_of l.copy)
  pub fresh : (page : ℕ) → (burst_of l.taken).used page ≡ false
  pub begins : l.taken.first ≡ l.taken.counter / PAGE_WORDS
  pub first : l.copy.first ≡ l.taken.first
