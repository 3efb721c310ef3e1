-- A space with a porter is the one that was there.
use Rattle.std.proofs.Common.{◌≡◌, ℕ, true, false, nat_le, IsSome, List, [], ◌∷◌, Option, Some, None, refl, ◌∙◌}
use Rattle.fk_model.specs.declared.limits.TheConstants.{LAST_USER_SLOT, LAST_PORTER_SLOT}
use Rattle.fk_model.specs.Places.{Path, Ptr}
use Rattle.fk_model.specs.Objects.{Body, holds, is_served}
use Rattle.fk_model.specs.World.{World, Change, apply, apply_all}
use Rattle.fk_model.specs.World.Change.{Alter, Make, MakeSpace, Kill, Move, PutPage, DropPage}
use Rattle.fk_model.specs.StateRows.{is_native}
use Rattle.fk_model.specs.Outcomes.{Outcome}
use Rattle.fk_model.specs.Outcomes.Outcome.{Refused, Waits, Goes}
use Rattle.fk_model.specs.Moves.{stepped, outcome, step}
use Rattle.fk_model.specs.Valid.{IsConsistent, birth_at}
use Rattle.laws_moves.proofs.InMachine.validity.Changes.{valid-apply}
use Rattle.laws_moves.proofs.InMachine.safety.Safe.{AreSafe}
use Rattle.laws_moves.proofs.InMachine.validity.Steps.{facts_of}
use Rattle.laws_moves.proofs.InMachine.safety.Staying.{birth_one}
use Rattle.laws_moves.proofs.InMachine.safety.Outcomes.{SafeOutcome}
use Rattle.laws_moves.proofs.InMachine.safety.Moves.{outcome-safe}
use Rattle.laws_subtrees.specs.Uncut.Placed.{PortersSpaceStays}
use Rattle.laws_subtrees.proofs.InUncut.Outcomes.{SetsOurs, SetOurs, IsOursRow, OursOutcome}
use Rattle.laws_subtrees.proofs.InUncut.Moves.{outcome-ours}
use Rattle.laws_subtrees.proofs.InUncut.Stood.{edited-native, through-native, native-moves, IsLast, left-apply, left-all, left-move, left-space}

some_native : (o : Option Body) → holds is_native o ≡ true → IsSome o
some_native (Some b) h = refl
some_native None h = cc

-- ---- a move's changes

no_native : (x : Path) (b : Body) → SetsOurs (Make x b) → is_native b ≡ false
no_native x b new = new.1

module _ (x : Path) where
  Porter : World → Type 0
  Porter v = holds is_native (v.body (LAST_PORTER_SLOT ∷ x)) ≡ true

  live : (v : World) → Porter v → IsSome (v.body (LAST_PORTER_SLOT ∷ x))
  unfolding Porter
  live v there = some_native (v.body (LAST_PORTER_SLOT ∷ x)) there

  was_one : (c : Change) (v : World) → SetsOurs c → Porter (apply c v) → Porter v
  unfolding Porter
  was_one c v new there = left-apply is_native edited-native through-native no_native (λ birth holder. refl) c v new (LAST_PORTER_SLOT ∷ x) there

  was_all : (cs : List Change) (v : World) → SetOurs cs → Porter (apply_all cs v) → Porter v
  unfolding Porter
  was_all cs v new there = left-all is_native edited-native through-native no_native (λ birth holder. refl) cs v new (LAST_PORTER_SLOT ∷ x) there

  was_moved : (y : Path) (slot : ℕ) (v : World) → nat_le slot LAST_USER_SLOT ≡ true → holds is_served (v.body y) ≡ false → Porter (apply (Move y slot) v)
      → Porter v
  unfolding Porter
  was_moved y slot v low apart there =
      left-move is_native edited-native through-native no_native (λ birth holder. refl) IsLast native-moves y slot v low apart (LAST_PORTER_SLOT ∷ x) refl there

  was_space : (y : Path) (holder : Option Ptr) (v : World) → Porter (apply (MakeSpace y holder) v) → Porter v
  unfolding Porter
  was_space y holder v there =
      left-space is_native edited-native through-native no_native (λ birth holder. refl) y holder v (LAST_PORTER_SLOT ∷ x) there

  birth_all : (cs : List Change) (v : World) → IsConsistent v → AreSafe v cs → SetOurs cs → Porter (apply_all cs v) → birth_at (apply_all cs v) x ≡ birth_at v x
  unfolding apply_all
  birth_all [] v valid safe new there = refl
  birth_all (c ∷ cs) v valid safe new there =
      let then_there = was_all cs (apply c v) new.1 there in
      birth_all cs (apply c v) (valid-apply c v valid safe.0) safe.1 new.1 there
      ∙ birth_one v valid LAST_PORTER_SLOT x (live v (was_one c v new.0 then_there)) c safe.0

  birth_row : (cs : List Change) (v : World) → IsConsistent v → AreSafe v cs → IsOursRow v cs → Porter (apply_all cs v)
      → birth_at (apply_all cs v) x ≡ birth_at v x
  unfolding apply_all
  birth_row [] v valid safe new there = refl
  birth_row (Move y slot ∷ cs) v valid safe new there =
      let then_there = was_all cs (apply (Move y slot) v) new.2 there in
      birth_all cs (apply (Move y slot) v) (valid-apply (Move y slot) v valid safe.0) safe.1 new.2 there
      ∙ birth_one v valid LAST_PORTER_SLOT x (live v (was_moved y slot v new.0 new.1 then_there)) (Move y slot) safe.0
  birth_row (Alter y edit ∷ cs) v valid safe new there = birth_all (Alter y edit ∷ cs) v valid safe new there
  birth_row (Make y body ∷ cs) v valid safe new there = birth_all (Make y body ∷ cs) v valid safe new there
  birth_row (MakeSpace y holder ∷ cs) v valid safe new there =
      let then_there = was_all cs (apply (MakeSpace y holder) v) new.1 there in
      birth_all cs (apply (MakeSpace y holder) v) (valid-apply (MakeSpace y holder) v valid safe.0) safe.1 new.1 there
      ∙ birth_one v valid LAST_PORTER_SLOT x (live v (was_space y holder v then_there)) (MakeSpace y holder) safe.0
  birth_row (Kill y ∷ cs) v valid safe new there = birth_all (Kill y ∷ cs) v valid safe new there
  birth_row (PutPage space page words ∷ cs) v valid safe new there = birth_all (PutPage space page words ∷ cs) v valid safe new there
  birth_row (DropPage space page ∷ cs) v valid safe new there = birth_all (DropPage space page ∷ cs) v valid safe new there

  birth_stepped : (w : World) (o : Outcome) → IsConsistent w → SafeOutcome w o → OursOutcome w o → Porter (stepped w o).world
      → birth_at (stepped w o).world x ≡ birth_at w x
  birth_stepped w (Goes cs said) valid safe new there = birth_row cs w valid safe.safe new.ours there
  birth_stepped w (Refused status) valid safe new there = refl
  birth_stepped w Waits valid safe new there = refl

pub porters_space_stays : PortersSpaceStays
unfolding step Porter
porters_space_stays w e uncut valid few fit x there =
    birth_stepped x w (outcome w e.mover e.pick e.ask) valid.consistent (outcome-safe w e.mover e.pick e.ask (facts_of w valid few) fit)
    (outcome-ours w e.mover e.pick e.ask uncut) there
