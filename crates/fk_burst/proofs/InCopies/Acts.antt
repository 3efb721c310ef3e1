-- Acts: what an act and an instruction make of a burst, by the pages that it has.
use Rattle.std.proofs.Common.{◌≡◌, ℕ, ◌/◌, ◌%◌, List, Option, Some, None, slice_index, slice_set, sym, ap, ◌∙◌}
use Rattle.fk_model.specs.declared.instruction.Act.TheVariants.{Load, Store}
use Rattle.fk_model.specs.Instructions.{act}
use Rattle.fk_model.specs.Objects.{and_then}
use Rattle.laws_bursts.specs.Bursts.{Burst, using, put, write, load, store, acted, fetched, instructed}

module _ (b : Burst) where
  pub loaded : (register address : ℕ) (words : List ℕ) (d : Burst) → b.page (address / 64) ≡ Some words →
      d ≡ put register (slice_index words (address % 64)) (using (address / 64) b) → acted (Load register address) b ≡ Some d
  loaded register address words d there is =
      ap (and_then (λ words. load register address words (using (address / 64) b))) there ∙ ap (λ e. Some e) (sym is)

  pub unloaded : (register address : ℕ) → b.page (address / 64) ≡ None → acted (Load register address) b ≡ None
  unloaded register address none = ap (and_then (λ words. load register address words (using (address / 64) b))) none

  pub stored : (address value : ℕ) (words : List ℕ) (d : Burst) → b.page (address / 64) ≡ Some words →
      d ≡ write (address / 64) (slice_set words (address % 64) value) (using (address / 64) b) → acted (Store address value) b ≡ Some d
  stored address value words d there is =
      ap (and_then (λ words. store address value words (using (address / 64) b))) there ∙ ap (λ e. Some e) (sym is)

  pub unstored : (address value : ℕ) → b.page (address / 64) ≡ None → acted (Store address value) b ≡ None
  unstored address value none = ap (and_then (λ words. store address value words (using (address / 64) b))) none

  pub fetches : (words : List ℕ) (o : Option Burst) → b.page (b.counter / 64) ≡ Some words →
      acted (act (slice_index words (b.counter % 64)) b.registers b.counter) (using (b.counter / 64) b) ≡ o → instructed b ≡ o
  fetches words o there is = ap (and_then (λ words. fetched b words (using (b.counter / 64) b))) there ∙ is

  pub fetches_nothing : b.page (b.counter / 64) ≡ None → instructed b ≡ None
  fetches_nothing none = ap (and_then (λ words. fetched b words (using (b.counter / 64) b))) none
