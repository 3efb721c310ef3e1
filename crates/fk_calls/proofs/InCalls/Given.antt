-- Given: the words that a porter gives for a stage are in range.
use Rattle.std.proofs.Common.{◌≡◌, ℕ, Bool, true, false, ◌&&◌, List, replicate, refl}
use Rattle.fk_model.specs.declared.moves.Ask.{Ask}
use Rattle.fk_model.specs.declared.moves.Ask.TheVariants as asks
use Rattle.fk_model.specs.declared.stage.Stage.{Stage}
use Rattle.fk_model.specs.declared.stage.Stage.TheVariants.{LinkSet, LinkPark, FaultSet, FaultPark}
use Rattle.fk_model.specs.Moves.{porter_at}
use Rattle.fk_model.specs.Outcomes as outcomes
use Rattle.fk_model.specs.Places.{Path}
use Rattle.fk_model.specs.Valid.{is_fit, is_fit_stage}
use Rattle.fk_model.specs.World.{World}
use Rattle.fk_calls.specs.Calls.Rows.{are_given, are_given_for, restores}

first_true : (a b : Bool) → (a && b) ≡ true → a ≡ true
first_true true b both = refl
first_true false b both = absurd (cc)

fit_stage : (w : World) (c : outcomes.Caller) (stage : Stage) → is_fit_stage w c stage ≡ true → are_given stage c.words ≡ true
fit_stage w c (LinkSet s x port server) fit = first_true _ _ fit
fit_stage w c (LinkPark s x port) fit = fit
fit_stage w c (FaultSet s x port taker) fit = first_true _ _ fit
fit_stage w c (FaultPark s x port taken) fit = first_true _ _ fit
fit_stage w c other fit = refl

-- those of a fit ask
pub fit_given : (w : World) (x : Path) (ask : Ask) → is_fit w x ask ≡ true → are_given_for ask ≡ true
unfolding is_fit
fit_given w x (asks.Call stage words) fit = fit_stage w (porter_at x words) stage fit
fit_given w x asks.Run fit = refl
fit_given w x asks.Accept fit = refl
fit_given w x (asks.Give words len) fit = refl
fit_given w x asks.Over fit = refl

-- any words, for a stage that makes nothing again
any_given : (stage : Stage) (words : List ℕ) → restores stage ≡ false → are_given stage words ≡ true
any_given (LinkSet s x port server) words none = absurd (cc)
any_given (LinkPark s x port) words none = absurd (cc)
any_given (FaultSet s x port taker) words none = absurd (cc)
any_given (FaultPark s x port taken) words none = absurd (cc)
any_given other words none = refl

pub called_given : (ask : Ask) (stage : Stage) (words : List ℕ) → ask ≡ asks.Call stage words → restores stage ≡ false → are_given_for ask ≡ true
called_given ask stage words is none = rw is (any_given stage words none)

-- ones
pub ones_given : (stage : Stage) → are_given stage (replicate 64 1) ≡ true
ones_given (LinkSet s x port server) = refl
ones_given (LinkPark s x port) = refl
ones_given (FaultSet s x port taker) = refl
ones_given (FaultPark s x port taken) = refl
ones_given other = refl
