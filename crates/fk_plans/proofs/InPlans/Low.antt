-- Low: addresses that lead somewhere.
use Rattle.std.proofs.Common.{◌≡◌, ℕ, ◌<◌, ◌/◌, Bool, true, false, cond, nat_lt, refl, arith}
use Rattle.std.proofs.lemmas.Bool.Decides.{nat_tests}
use Rattle.fk_model.specs.Places.{Path}
use Rattle.fk_model.specs.Reach.{reach_word, reach}
use Rattle.fk_model.specs.Reach.Reach.{Home, Bad}
use Rattle.fk_model.specs.World.{World}

-- an address with a page is within its space
pub home_low : (w : World) (s t : Path) (address page : ℕ) (write : Bool) → Home t page ≡ reach_word w s address write → address < 16384
home_low w s t address page write is = by (nat_lt address 16384) refl is
  where
    by : (b : Bool) → nat_lt address 16384 ≡ b → Home t page ≡ cond b (reach w s (address / 64) write) Bad → address < 16384
    by true low is = grind (arith, nat_tests)
    by false low is = absurd (cc)
