-- Kinds: what a stage that users or porters alone make comes to, for whom.
use Rattle.std.proofs.Common.{◌≡◌, Bool, true, false, cond, Option, refl}
use Rattle.fk_model.specs.declared.stage.Stage.{Stage}
use Rattle.fk_model.specs.declared.statuses.status.TheConstants.{DENIED}
use Rattle.fk_model.specs.Moves.{allowed_row, is_for_porters, is_for_users, stage_row}
use Rattle.fk_model.specs.Outcomes.{Caller, Outcome}
use Rattle.fk_model.specs.Outcomes.Outcome.{Refused}
use Rattle.fk_model.specs.Places.{Path}
use Rattle.fk_model.specs.StageFacts.{Maker, facts_of, is_porters_alone, is_users_alone}
use Rattle.fk_model.specs.StageFacts.Maker.{Anybody, Users, Porters}
use Rattle.fk_model.specs.World.{World}

-- ---- no stage is for both

users_not_porters : (m : Maker) → is_users_alone m ≡ true → is_porters_alone m ≡ false
users_not_porters Users h = refl
users_not_porters Porters h = absurd (cc)
users_not_porters Anybody h = absurd (cc)

porters_not_users : (m : Maker) → is_porters_alone m ≡ true → is_users_alone m ≡ false
porters_not_users Porters h = refl
porters_not_users Users h = absurd (cc)
porters_not_users Anybody h = absurd (cc)

-- ---- the other kind is denied

-- a choice by who moves, and by whether the stage is for users, or for porters
denied : (row : Outcome) (porter users porters : Bool) → cond porter users porters ≡ true → Refused DENIED ≡ cond (cond porter users porters) (Refused DENIED) row
denied row true true porters h = refl
denied row true false porters h = absurd (cc)
denied row false users true h = refl
denied row false users false h = absurd (cc)

allowed : (row : Outcome) (porter users porters : Bool) → cond porter users porters ≡ false → cond (cond porter users porters) (Refused DENIED) row ≡ row
allowed row true false porters h = refl
allowed row true true porters h = absurd (cc)
allowed row false users false h = refl
allowed row false users true h = absurd (cc)

kind_of : (porter users porters : Bool) (kind : Bool) → (porter ≡ true → users ≡ kind) → (porter ≡ false → porters ≡ kind) → cond porter users porters ≡ kind
kind_of true users porters kind if_porter if_user = if_porter refl
kind_of false users porters kind if_porter if_user = if_user refl

module _ (w : World) (c : Caller) (pick : Option Path) (stage : Stage) where
  pub porter_denied : c.is_porter ≡ true → is_for_users stage ≡ true → Refused DENIED ≡ allowed_row w c pick stage
  porter_denied porter users =
      denied (stage_row w c pick stage) c.is_porter (is_for_users stage) (is_for_porters stage)
      (kind_of c.is_porter (is_for_users stage) (is_for_porters stage) true (λ is. users) (λ not. absurd (cc)))

  pub user_denied : c.is_porter ≡ false → is_for_porters stage ≡ true → Refused DENIED ≡ allowed_row w c pick stage
  user_denied user porters =
      denied (stage_row w c pick stage) c.is_porter (is_for_users stage) (is_for_porters stage)
      (kind_of c.is_porter (is_for_users stage) (is_for_porters stage) true (λ is. absurd (cc)) (λ not. porters))

  pub user_allowed : c.is_porter ≡ false → is_for_users stage ≡ true → allowed_row w c pick stage ≡ stage_row w c pick stage
  user_allowed user users =
      allowed (stage_row w c pick stage) c.is_porter (is_for_users stage) (is_for_porters stage)
      (kind_of c.is_porter (is_for_users stage) (is_for_porters stage) false (λ is. absurd (cc)) (λ not. users_not_porters (facts_of stage).who users))

  pub porter_allowed : c.is_porter ≡ true → is_for_porters stage ≡ true → allowed_row w c pick stage ≡ stage_row w c pick stage
  porter_allowed porter porters =
      allowed (stage_row w c pick stage) c.is_porter (is_for_users stage) (is_for_porters stage)
      (kind_of c.is_porter (is_for_users stage) (is_for_porters stage) false (λ is. porters_not_users (facts_of stage).who porters) (λ not. absurd (cc)))

  pub all_allowed : is_for_users stage ≡ false → is_for_porters stage ≡ false → allowed_row w c pick stage ≡ stage_row w c pick stage
  all_allowed users porters =
      allowed (stage_row w c pick stage) c.is_porter (is_for_users stage) (is_for_porters stage)
      (kind_of c.is_porter (is_for_users stage) (is_for_porters stage) false (λ is. users) (λ not. porters))
