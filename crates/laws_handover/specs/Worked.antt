-- Lists of events over small kernels: a checkpoint of two calls, an image of two pieces, a restore of one call before its release, a subtree of two objects.
use Rattle.std.specs.Prelude.{◌≡◌, ℕ, zero, suc, Bool, true, false, ◌&&◌, ◌==◌, List, [], ◌∷◌, Some, None, if◌then◌else◌}
use Rattle.std.specs.List.{list_any}
use Rattle.laws_handover.specs.NearSide as near
use Rattle.laws_handover.specs.NearSide.{Saved, NearKernel}
use Rattle.laws_handover.specs.FarSide as far
use Rattle.laws_handover.specs.FarSide.{Made, FarKernel}
use Rattle.laws_handover.specs.Handover.{Kernels, Pair, Event, run, first}
use Rattle.laws_handover.specs.Handover.Event.{NearOwn, FarOwn, ToFar, ToNear, GiveUp}

abbrev pub saves_so : ℕ → Saved ℕ ℕ ℕ
saves_so zero = near.Goes 1
saves_so (suc n) = near.Gathers 7

abbrev pub makes_so : Bool → Made ℕ ℕ
makes_so true = far.Builds
makes_so false = far.Fails 5

-- pieces 0 and 1
abbrev pub has_both : List ℕ → Bool
has_both got = list_any (λ n. n == 0) got && list_any (λ n. n == 1) got

-- a restore that is built, or refused
abbrev pub small : Bool → Kernels ℕ ℕ ℕ ℕ ℕ ℕ ℕ ℕ ℕ
small built = record {
  near = record { others = λ w e. w; begins = 0; saves = λ w s. w; saved = λ w s. saves_so s; stages = λ i. 1; clears = λ w. w; releases = λ w. w };
  far = record { others = λ v e. v; begins = λ i. 0; makes = λ v t. v; made = λ v t. makes_so built; stages = λ i. 1; clears = λ v. v; releases = λ v. v };
  codec = record { pieces = λ i. 0 ∷ 1 ∷ []; reads = λ got. if has_both got then Some 7 else None };
  gave_up = 9;
}

abbrev pub Small : Type 0
Small = Pair ℕ ℕ ℕ ℕ ℕ ℕ ℕ

abbrev pub ends : Bool → List (Event ℕ ℕ) → Small
ends built es = run (small built) (first (small built) 0 0) es

-- both packets of the near side twice and in falling order, and so on: it moves
abbrev pub moving : List (Event ℕ ℕ)
moving =
    NearOwn ∷ NearOwn ∷ ToFar 1 ∷ ToFar 1 ∷ ToFar 0 ∷ ToFar 0 ∷ FarOwn ∷ ToNear 0 ∷ ToNear 0 ∷ NearOwn ∷ NearOwn ∷ ToFar 2 ∷ ToFar 2 ∷ ToFar 1 ∷ FarOwn
    ∷ []

-- lists of events over small kernels, and how they end
pub record ListsEndSo : Type 0 where
  pub moves : (ends true moving).far ≡ far.Moved 7
  pub clears : (ends true moving).near ≡ near.Cleared 7
  -- it gives up before Ready was sent, and after: Cancel is packet 2
  pub gives_up_early : (ends true (NearOwn ∷ NearOwn ∷ GiveUp ∷ NearOwn ∷ ToFar 0 ∷ ToFar 1 ∷ FarOwn ∷ ToNear 0 ∷ ToFar 2 ∷ FarOwn ∷ FarOwn ∷ [])).far
      ≡ far.Ended (Some 7) true
  pub keeps_early : (ends true (NearOwn ∷ NearOwn ∷ GiveUp ∷ NearOwn ∷ ToFar 0 ∷ ToFar 1 ∷ FarOwn ∷ ToNear 0 ∷ [])).near ≡ near.Cancelled 7 9
  pub gives_up_late : (ends true (NearOwn ∷ NearOwn ∷ ToFar 0 ∷ ToFar 1 ∷ FarOwn ∷ GiveUp ∷ ToNear 0 ∷ NearOwn ∷ [])).near ≡ near.Cancelled 7 9
  -- Ready was taken: it can't be given up
  pub too_late : (ends true (NearOwn ∷ NearOwn ∷ ToFar 0 ∷ ToFar 1 ∷ FarOwn ∷ ToNear 0 ∷ GiveUp ∷ [])).near ≡ near.Clears 7 1
  -- Cancel comes before the pieces, and between them
  pub cancels_first : (ends true (NearOwn ∷ NearOwn ∷ GiveUp ∷ ToFar 2 ∷ ToFar 0 ∷ ToFar 1 ∷ [])).far ≡ far.Ended None false
  pub cancels_between : (ends true (NearOwn ∷ NearOwn ∷ ToFar 0 ∷ GiveUp ∷ ToFar 2 ∷ ToFar 1 ∷ [])).far ≡ far.Ended None false
  -- and while the restore works
  pub undoes : (ends true (NearOwn ∷ NearOwn ∷ ToFar 0 ∷ ToFar 1 ∷ GiveUp ∷ ToFar 2 ∷ FarOwn ∷ FarOwn ∷ FarOwn ∷ [])).far ≡ far.Ended (Some 7) false
  -- a restore that is refused
  pub refused : (ends false (NearOwn ∷ NearOwn ∷ ToFar 1 ∷ ToFar 0 ∷ FarOwn ∷ ToNear 0 ∷ NearOwn ∷ ToFar 2 ∷ [])).near ≡ near.Cancelled 7 5
  pub refuses : (ends false (NearOwn ∷ NearOwn ∷ ToFar 1 ∷ ToFar 0 ∷ FarOwn ∷ ToNear 0 ∷ NearOwn ∷ ToFar 2 ∷ [])).far ≡ far.Refuses 7 5
  -- Gone is lost: nothing is left of the near one, and the copy stays held
  pub lost : (ends true (NearOwn ∷ NearOwn ∷ ToFar 0 ∷ ToFar 1 ∷ FarOwn ∷ ToNear 0 ∷ NearOwn ∷ NearOwn ∷ FarOwn ∷ [])).far ≡ far.Built 7
