-- What a walk over pointers gives, against what it should: want of memory says nothing.
use Rattle.std.specs.Prelude.{◌≡◌, ℕ, Option, Some, None, Result, Ok, Err}
use Rattle.fk_image.specs.Format.Offsets.{Named, Walk}
use Rattle.fk_image.specs.declared.pointers.fail.PointerFail.{PointerFail}
use Rattle.fk_image.specs.declared.pointers.fail.PointerFail.TheVariants as fails
use Rattle.fk_image.specs.declared.pointers.places.Places.{Places}
use Rattle.fk_image.specs.Pointers.Places.{has_place}

abbrev pub standing : ℕ → Places → Walk
standing at named = record { at = at; named = has_place named }

abbrev pub Sums : Result ℕ PointerFail → ℕ → Type 0
Sums (Ok sum) n = sum ≡ n
Sums (Err e) n = e ≡ fails.NoMemory

abbrev pub Misleads : {X : Type 0} → PointerFail → Result X ℕ → Type 0
Misleads fails.NoMemory walk = Unit {0}
Misleads (fails.Wrong at) walk = walk ≡ Err at

abbrev pub Expects : Result (Unit {0}) PointerFail → Result (Unit {0}) ℕ → Type 0
Expects (Ok _) test = test ≡ Ok tt
Expects (Err e) test = Misleads e test

abbrev pub Names : Result (Unit {0}) PointerFail → Named → Named → Type 0
Names (Ok _) new named = new ≡ named
Names (Err e) new named = e ≡ fails.NoMemory

-- the offset at which a walk ends, and who is named then
abbrev pub Ends : Result ℕ PointerFail → Named → Result Walk ℕ → Type 0
Ends (Ok at) named walk = walk ≡ Ok (record { at = at; named = named })
Ends (Err e) named walk = Misleads e walk

abbrev pub Walks : Result ℕ PointerFail → Places → Result Walk ℕ → Type 0
Walks result named walk = Ends result (has_place named) walk

abbrev pub Breaks : PointerFail → Option ℕ → Type 0
Breaks fails.NoMemory wrong = Unit {0}
Breaks (fails.Wrong at) wrong = wrong ≡ Some at

-- what a walk over pointers finds: none is wrong, or the first that is
abbrev pub Checks : Result (Unit {0}) PointerFail → Option ℕ → Type 0
Checks (Ok _) wrong = wrong ≡ None
Checks (Err e) wrong = Breaks e wrong
