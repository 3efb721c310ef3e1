-- What contracts see of a book, and what becomes of it.
use Rattle.std.specs.Prelude.{◌≡◌, ◌⊎◌, ℕ, ◌%◌, true, List, [], ◌∷◌, ◌++◌, replicate, refl}
use Rattle.std.specs.Coded.{Coded, code_by, coded×, coded_list}
use Rattle.fk_model.specs.declared.moves.Move.{Move}
use Rattle.fk_model.specs.contracts.moves.Move as move
use Rattle.fk_burst.specs.Burst.Lease.{Lease}
use Rattle.fk_workers.specs.Books.Shown.{Shown, Moves, MovesSo, MayMove, MayBurst, HasRun, is_porter}

-- what it was begun from, the core to which its moves have come, and these
pub record Told (C : Type 0) : Type 0 where
  pub boot : C
  pub core : C
  pub history : List Move

abbrev pub told_code : {C : Type 0} → Coded C → Coded (Told C)
told_code {C} c = code_by (C × (C × List Move)) (coded× c (coded× c (coded_list move.the_row.coded))) (λ b. (b.boot, (b.core, b.history)))
    (λ p. record { boot = p.0; core = p.1.0; history = p.1.1 }) (λ _. refl)

-- it has more moves, or the same ones, from the same beginning
pub record GoesOn {C : Type 0} (b d : Told C) : Type 0 where
  pub boot : d.boot ≡ b.boot
  pub more : List Move
  pub history : d.history ≡ b.history ++ more

module _ {C : Type 0} (shown : C → Shown) where
  -- its moves are a run from what it was begun from
  abbrev pub IsKept : Told C → Type 0
  IsKept b = HasRun (shown b.boot) b.history (shown b.core)

  -- nothing of it has changed
  pub record IsSame (b d : Told C) : Type 0 where
    pub boot : d.boot ≡ b.boot
    pub core : shown d.core ≡ shown b.core
    pub history : d.history ≡ b.history

  -- it has one move more, and its core has made it
  pub record IsOneMore (b : Told C) (m : Move) (d : Told C) : Type 0 where
    pub boot : d.boot ≡ b.boot
    pub moved : Moves (shown b.core) m (shown d.core)
    pub history : d.history ≡ b.history ++ m ∷ []

  -- it has these moves more, and its core has made them
  pub record HasMore (b : Told C) (ms : List Move) (d : Told C) : Type 0 where
    pub boot : d.boot ≡ b.boot
    pub moved : MovesSo (shown b.core) ms (shown d.core)
    pub history : d.history ≡ b.history ++ ms

  -- it has so many moves of one mover more
  abbrev pub HasMadeSo : Told C → ℕ → Told C → Type 0
  HasMadeSo b times d = (m : Move) × HasMore b (replicate times m) d

  -- a book has one move more than another
  abbrev pub HasOneMore : Told C → Told C → Type 0
  HasOneMore b d = (m : Move) × IsOneMore b m d

  -- the move that it has more, after an even number of them, is a due job's where one is ready
  abbrev pub TakesDue : Told C → List Move → Type 0
  TakesDue b after = (shown b.core).core.events % 2 ≡ 0 → (due : Move) → is_porter (shown b.core) due.who ≡ true → MayMove (shown b.core) due
      → (m : Move) × (after ≡ b.history ++ m ∷ []) × (is_porter (shown b.core) m.who ≡ true)

  -- the same of the first of several
  abbrev pub BeginsDue : Told C → List Move → Type 0
  BeginsDue b after = (shown b.core).core.events % 2 ≡ 0 → (due : Move) → is_porter (shown b.core) due.who ≡ true → MayMove (shown b.core) due
      → (m : Move) × (rest : List Move) × (after ≡ b.history ++ m ∷ rest) × (is_porter (shown b.core) m.who ≡ true)

  -- so many of the moves are a lease's: all that it has where it may be committed, and none where it may not
  abbrev pub MakesLease : Told C → Lease → ℕ → Type 0
  MakesLease b l moves = (MayBurst (shown b.core) l × (moves ≡ l.count)) ⊎ ((MayBurst (shown b.core) l → ⊥) × (moves ≡ 0))
