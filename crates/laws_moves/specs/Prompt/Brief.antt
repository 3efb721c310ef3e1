-- Brevity: a move does little. It writes at most one page, which has 64 words, counts at most 64 words as moved, and makes,
-- destroys or renames at most one object.
use Rattle.std.specs.Prelude.{◌≡◌, ℕ, ◌≤◌, true, not, ◌&&◌, List, [], ◌∷◌, is_some, Option}
use Rattle.fk_model.specs.declared.limits.TheConstants.{BLOCK_WORDS}
use Rattle.fk_model.specs.declared.moves.Ask.{Ask}
use Rattle.fk_model.specs.declared.stage.Stage.TheVariants.{Destroy}
use Rattle.fk_model.specs.Places.{Path, same_path}
use Rattle.fk_model.specs.World.{World, Change, Edit}
use Rattle.fk_model.specs.World.Change.{Alter, DropPage}
use Rattle.fk_model.specs.World.Edit.{CountMoved, Shift}
use Rattle.fk_model.specs.Outcomes.{Outcome, listed}
use Rattle.fk_model.specs.Outcomes.Outcome.{Refused, Waits, Goes}
use Rattle.fk_model.specs.LinkRows.{user_at}
use Rattle.fk_model.specs.ObjectRows.{destroy}
use Rattle.fk_model.specs.Moves.{outcome, porter_at}
use Rattle.laws_moves.specs.Prompt.Callers.{IsUserAt, IsPorterFor, users_step, porters_step}

-- it counts no more words than a block has
abbrev pub IsSmallEdit : Edit → Type 0
IsSmallEdit (CountMoved count) = count ≤ BLOCK_WORDS
IsSmallEdit (Shift count) = count ≤ BLOCK_WORDS
IsSmallEdit other = Unit {0}

-- one object becomes another, or a page is taken away
abbrev pub IsSmall : Change → Type 0
IsSmall (Alter x edit) = IsSmallEdit edit
IsSmall (DropPage space page) = Unit {0}
IsSmall other = ⊥

abbrev pub AreSmall : List Change → Type 0
AreSmall [] = Unit {0}
AreSmall (c ∷ cs) = IsSmall c × AreSmall cs

-- the first of them alone may write a page, or make, destroy or rename an object
abbrev pub AreBrief : List Change → Type 0
AreBrief [] = Unit {0}
AreBrief (Alter x edit ∷ cs) = IsSmallEdit edit × AreSmall cs
AreBrief (c ∷ cs) = AreSmall cs

-- so it is with every move: of users, porters and native servers, whatever they pick
abbrev pub MovesAreBrief : Type 0
MovesAreBrief = (w : World) (x : Path) (pick : Option Path) (ask : Ask) → AreBrief (listed (outcome w x pick ask))

-- ---- destroy

-- an object that stood in one world is gone in the other; all else that stood there stands, and nothing more
pub record RemovesOne (w v : World) : Type 0 where
  pub gone : Path
  pub there : is_some (w.body gone) ≡ true
  pub rest : (q : Path) → is_some (v.body q) ≡ (is_some (w.body q) && not (same_path q gone))

-- a stage of destroy that is refused leaves all that stands, one that goes removes exactly one object, and none waits
abbrev pub Destroys : World → World → Outcome → Type 0
Destroys w v (Refused status) = (q : Path) → is_some (v.body q) ≡ is_some (w.body q)
Destroys w v Waits = ⊥
Destroys w v (Goes changes said) = RemovesOne w v

-- a user's stage of `destroy` that goes removes exactly one object, one that is refused none, and neither brings one
abbrev pub UsersDestroyOne : Type 0
UsersDestroyOne = (w : World) (space : Path) (slot s x : ℕ) → IsUserAt w space slot (Destroy s x) →
    Destroys w (users_step w space slot).world (destroy w (user_at (slot ∷ space)) s x)

-- a porter's stage of `destroy` that goes removes exactly one object, one that is refused none, and neither brings one
abbrev pub PortersDestroyOne : Type 0
PortersDestroyOne = (w : World) (space : Path) (slot s x : ℕ) (words : List ℕ) → IsPorterFor w space slot (Destroy s x) →
    Destroys w (porters_step w space slot (Destroy s x) words).world (destroy w (porter_at (slot ∷ space) words) s x)
