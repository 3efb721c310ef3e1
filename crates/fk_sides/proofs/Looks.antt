-- Where a restore stands after an answer.
use Rattle.std.proofs.Common.{◌≡◌, ℕ, zero, suc, ◌-◌, arith, Bool, true, false, List, [], ◌∷◌, Some, refl, sym, ap}
use Rattle.fk_image.specs.declared.image.image.Image.{Image}
use Rattle.fk_restore.specs.declared.restore.end.RestoreEnd.{RestoreEnd}
use Rattle.fk_restore.specs.Restore.Restores.{end_of, is_built}
use Rattle.laws_jobs.specs.Machines.{IsAtCall}
use Rattle.laws_jobs.specs.Machines.Head.{Asks, Stops}
use Rattle.laws_restore.specs.Restore.Restore as restores
use Rattle.laws_restore.specs.Rooms.Restoring.{restore_of}
use Rattle.laws_handover.specs.FarSide as far
use Rattle.laws_handover.specs.FarSide.{Made}
use Rattle.laws_migrate.specs.Migration.{Why, Job, made, made_end, of_job}
use Rattle.fk_sides.specs.Sides.{FarSide, far_heard}

abbrev Standing : Type 0
Standing = Made Job Why

abbrev builds : Standing
builds = far.Builds

abbrev goes : Image → restores.State → Standing
goes i s = far.Goes (record { image = i; state = s })

pub is_built_so : (i : Image) (s : restores.State) → is_built s ≡ true → of_job i (made s) ≡ builds
is_built_so i (restores.Works []) e = refl
is_built_so i (restores.Works (o ∷ os)) e = cc
is_built_so i restores.Makes e = cc
is_built_so i (restores.Clears os more port) e = cc
is_built_so i (restores.Over end) e = cc

pub goes_so : (slot : ℕ) (i : Image) (s : restores.State) → is_built s ≡ false → IsAtCall (restore_of slot i []) s → of_job i (made s) ≡ goes i s
goes_so slot i (restores.Works []) e call = cc
goes_so slot i (restores.Works (o ∷ os)) e call = refl
goes_so slot i restores.Makes e call = refl
goes_so slot i (restores.Clears os more port) e call = refl
goes_so slot i (restores.Over end) e call = let never : restores.head slot (restores.Over end) ≡ Asks call.0 call.1 = call.2 in cc

over_so : (slot : ℕ) (i : Image) (s : restores.State) (end : restores.End) → restores.head slot s ≡ Stops end → of_job i (made s) ≡ of_job i (made_end end)
over_so slot i restores.Makes end e = cc
over_so slot i (restores.Works []) end e = cc
over_so slot i (restores.Works (o ∷ os)) end e = cc
over_so slot i (restores.Clears [] more port) end e = cc
over_so slot i (restores.Clears (o ∷ os) more port) end e = cc
over_so slot i (restores.Over other) end e = let same : other ≡ end = cc in ap (λ (x : restores.End). of_job i (made_end x)) same

-- how an end is told, where it is neither of those two
pub ended_so : (slot : ℕ) (i : Image) (s : restores.State) (end : RestoreEnd) → restores.head slot s ≡ Stops (end_of end)
    → of_job i (made s) ≡ of_job i (made_end (end_of end))
ended_so slot i s end e = over_so slot i s (end_of end) e

-- ---- stages of destroying

abbrev ended : Image → Bool → FarSide
ended i ready = far.Ended (Some i) ready

abbrev clearing : Image → ℕ → Bool → FarSide
clearing i more ready = far.Clears i more ready

pub clears_done : (slot : ℕ) (i : Image) (more : ℕ) (ready : Bool) (status : ℕ) (words : List ℕ) → more ≡ 0
    → ended i ready ≡ far_heard slot (clearing i more ready) status words
clears_done slot i more ready status words e = sym (ap (λ (n : ℕ). far_heard slot (clearing i n ready) status words) e)

pub clears_on : (slot : ℕ) (i : Image) (more : ℕ) (ready : Bool) (status : ℕ) (words : List ℕ) → (more ≡ 0 → ⊥)
    → clearing i (more - 1) ready ≡ far_heard slot (clearing i more ready) status words
clears_on slot i zero ready status words e = absurd (e refl)
clears_on slot i (suc more) ready status words e = ap (λ (n : ℕ). clearing i n ready) (let one : suc more - 1 ≡ more = omega arith in one)
