-- A turn of a kernel with a side of a migration: the root's porter makes the calls for which the side asks, and the side hears the answers.
use Rattle.std.specs.Prelude.{◌≡◌, ℕ, [], ◌∷◌, List, Bool, true, false, take, Option, Some, None, IfSome, if◌then◌else◌}
use Rattle.fk_model.specs.declared.limits.TheConstants.{LAST_PORTER_SLOT}
use Rattle.fk_model.specs.declared.moves.Ask.{Ask}
use Rattle.fk_model.specs.declared.moves.Ask.TheVariants as asks
use Rattle.fk_model.specs.declared.moves.Move.{Move}
use Rattle.fk_model.specs.declared.moves.Said.{Said}
use Rattle.fk_model.specs.declared.moves.Said.TheVariants as says
use Rattle.fk_model.specs.declared.names.Who.{Who}
use Rattle.fk_model.specs.Places.{same_path}
use Rattle.fk_model.specs.Valid.{IsValid}
use Rattle.fk_model.specs.Who.{named}
use Rattle.fk_model.specs.World.{World}
use Rattle.fk_host.specs.Hosts.{IsReadyWith, IsFitWith, IsTurn}
use Rattle.fk_served.specs.Kernels.{Kept}
use Rattle.fk_served.specs.Served.{Services, asked}
use Rattle.laws_moves.specs.Whole.Runnable.{has_all_words}
use Rattle.laws_migrate.specs.Migration.{top, HasRoom}
use Rattle.fk_sides.specs.declared.far.Makes.{Makes}
use Rattle.fk_sides.specs.Fars.{IsFar}
use Rattle.fk_sides.specs.Sides.{NearSide, FarSide, near_call, far_call}

-- its mover is the root's porter
abbrev pub is_porters : World → Move → Bool
is_porters w m = same_path (LAST_PORTER_SLOT ∷ top) (named w m.who)

-- a porter picks nobody
abbrev pub unpicking : Option Who → Option Ask → Option Ask
unpicking None call = call
unpicking (Some who) call = None

-- what is handed in with a move, where the side asks for this call: to the root's porter that, to everybody else that it runs
abbrev pub given_in : World → Option Ask → Move → Option Ask
given_in w call m = if is_porters w m then unpicking m.pick call else Some asks.Run

abbrev pub IsReadyGiven : Services → World → Move → Option Ask → Type 0
IsReadyGiven services w m None = ⊥
IsReadyGiven services w m (Some ask) = IsReadyWith services w m ask

abbrev pub IsFitGiven : Services → World → Move → Option Ask → Type 0
IsFitGiven services w m None = Unit {0}
IsFitGiven services w m (Some ask) = IsFitWith services w m ask

abbrev pub IsTurnGiven : Kept → Services → Move → Option Ask → Said → Kept → Services → Type 0
IsTurnGiven m services move None said n new = ⊥
IsTurnGiven m services move (Some ask) said n new = IsTurn m services move ask said n new

-- the answer that a move tells, as a porter hears it
abbrev pub status_in : Said → ℕ
status_in (says.Answer answer) = answer.status
status_in other = 0

abbrev pub words_in : Said → List ℕ
words_in (says.Answer answer) = take answer.len answer.words
words_in other = []

-- what becomes of a side: it hears the answers to its own calls alone
abbrev pub heard_by : {X : Type 0} → Bool → (ℕ → List ℕ → X) → X → Said → X
heard_by true heard x said = heard (status_in said) (words_in said)
heard_by false heard x said = x

-- what is known of a kernel with its servers, and of what a mover asks for
pub record IsKept (services : Services) (w : World) (who : Who) : Type 0 where
  pub valid : IsValid w
  -- a birth number is left
  pub room : HasRoom w
  -- what a server gives is words
  pub words : IfSome (asked services w who) (λ ask. has_all_words ask ≡ true)

-- ---- the near kernel

-- its world, its servers, and what its side has come to
pub record NearPart : Type 0 where
  pub world : World
  pub servers : Services
  pub side : NearSide

-- a move is ready in the near part: its porter's next call, or one of anybody else
abbrev pub IsNearMove : ℕ → NearPart → Move → Type 0
IsNearMove slot p m = IsReadyGiven p.servers p.world m (given_in p.world (near_call slot p.side) m)

-- a move is fit in the near part
abbrev pub IsNearFit : ℕ → NearPart → Move → Type 0
IsNearFit slot p m = IsFitGiven p.servers p.world m (given_in p.world (near_call slot p.side) m)

-- ---- the far kernel

pub record FarPart : Type 0 where
  pub world : World
  pub servers : Services

-- a move is ready in the far part: its porter's next call, or one of anybody else
abbrev pub IsFarMove : ℕ → FarPart → FarSide → Move → Type 0
IsFarMove slot p f m = IsReadyGiven p.servers p.world m (given_in p.world (far_call slot f) m)

abbrev pub IsFarFit : ℕ → FarPart → FarSide → Move → Type 0
IsFarFit slot p f m = IsFitGiven p.servers p.world m (given_in p.world (far_call slot f) m)

-- it is ready and fit, whatever the side has come to
pub record HasFarMove (slot : ℕ) (p : FarPart) (makes : Makes) (m : Move) : Type 0 where
  pub side : FarSide
  pub is : IsFar makes side
  pub ready : IsFarMove slot p side m
  pub fit : IsFarFit slot p side m
