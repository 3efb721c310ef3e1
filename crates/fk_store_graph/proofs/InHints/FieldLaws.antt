-- No field past the last leads anywhere.
use Rattle.std.proofs.Common.{◌≡◌, ◌≤◌, ℕ, Bool, true, false, ◌==◌, ltb, Option, Some, None, is_some, cond, refl, arith}
use Rattle.std.proofs.lemmas.Bool.Decides.{nat_tests}
use Rattle.fk_model.specs.declared.thread.Fault.{Fault}
use Rattle.fk_model.specs.declared.thread.Talk.{Talk}
use Rattle.fk_model.specs.declared.body.Body.{Body}
use Rattle.fk_model.specs.declared.body.Body.TheVariants.{Mutex, Cond, Mapping, Region, Port, Portset, Space, Thread, Reference}
use Rattle.fk_model.specs.Objects.{and_then}
use Rattle.fk_store_graph.specs.declared.hints.lead.Lead.{Lead}
use Rattle.fk_store_graph.specs.Hints.Leads.{of_talk, of_fault, of_thread, led}

pub led_past : (b : Body) (i : ℕ) → 6 ≤ i → led b i ≡ None
unfolding led of_thread of_talk of_fault
led_past (Mutex locked) i high = refl
led_past Cond i high = refl
led_past (Mapping first count offset write region) i high = let off : (i == 0) ≡ false = grind (arith, nat_tests) in rw off refl
led_past (Region first count write keeper) i high = let off : (i == 0) ≡ false = grind (arith, nat_tests) in rw off refl
led_past (Port set served) i high = refl
led_past Portset i high = refl
led_past (Space birth holder) i high = let off : (i == 0) ≡ false = grind (arith, nat_tests) in rw off refl
led_past (Thread thread) i high = rw below (faults thread.fault)
  where
    below : ltb i 3 ≡ false
    below = grind (arith, nat_tests)

    three : (i == 3) ≡ false
    three = grind (arith, nat_tests)

    four : (i == 4) ≡ false
    four = grind (arith, nat_tests)

    five : (i == 5) ≡ false
    five = grind (arith, nat_tests)

    faults : (o : Option Fault) → and_then (of_fault i) o ≡ None
    faults None = refl
    faults (Some fault) = rw (three, four, five) refl
led_past (Reference to) i high = let off : (i == 0) ≡ false = grind (arith, nat_tests) in rw off refl

-- a thread in no talk and with no fault leads nowhere
pub idle : (talk : Option Talk) (fault : Option Fault) → is_some talk ≡ false → None ≡ fault → (i : ℕ) → of_thread talk fault i ≡ None
unfolding of_thread
idle (Some t) fault h k i = absurd (cc)
idle None (Some f) h k i = absurd (cc)
idle None None h k i = nowhere (ltb i 3)
  where
    nowhere : (b : Bool) → cond {A = Option Lead} b None None ≡ None
    nowhere true = refl
    nowhere false = refl
