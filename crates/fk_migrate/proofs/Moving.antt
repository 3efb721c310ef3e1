-- Whose a move is that is ready, and whose a turn was: the root's porter with the call for which its side asks, or whoever else with what he asks for.
use Rattle.std.proofs.Common.{◌≡◌, ℕ, Bool, true, false, List, ◌∷◌, Option, Some, None, option_map, if◌then◌else◌, refl, sym, subst}
use Rattle.fk_model.specs.declared.limits.TheConstants.{LAST_PORTER_SLOT}
use Rattle.fk_model.specs.declared.moves.Ask.{Ask}
use Rattle.fk_model.specs.declared.moves.Ask.TheVariants as asks
use Rattle.fk_model.specs.declared.moves.Move.{Move}
use Rattle.fk_model.specs.declared.moves.Said.{Said}
use Rattle.fk_model.specs.declared.names.Who.{Who}
use Rattle.fk_model.specs.declared.stage.Stage.{Stage}
use Rattle.fk_model.specs.Places.{Path}
use Rattle.fk_model.specs.Runs.{Event}
use Rattle.fk_model.specs.Valid.{is_fit}
use Rattle.fk_model.specs.Who.{named, event_of}
use Rattle.fk_model.specs.World.{World}
use Rattle.fk_model.proofs.walks.PlaceLaws.{same_path_eq}
use Rattle.fk_host.specs.Hosts.{asked_with, IsFitFor, IsStepped, IsTurnFor}
use Rattle.fk_served.specs.Acts.{IsReadyFor}
use Rattle.fk_served.specs.Kernels.{Kept}
use Rattle.fk_served.specs.Kernels.{world_of as world}
use Rattle.fk_served.specs.Served.{Services, asked}
use Rattle.fk_served.proofs.Acts.{fit-asked}
use Rattle.laws_jobs.specs.Machines.{IsReadyAt}
use Rattle.laws_migrate.specs.Migration.{top}
use Rattle.fk_migrate.specs.Turns.{is_porters, unpicking, IsReadyGiven, IsFitGiven, IsTurnGiven, given_in}
use Rattle.fk_migrate.proofs.Calls.{call}

-- a side asks for calls alone
abbrev pub AsksCalls : Option Ask → Type 0
AsksCalls o = (ask : Ask) → o ≡ Some ask → (stage : Stage) × (words : List ℕ) × (ask ≡ asks.Call stage words)

some_same : (a b : Ask) → Some a ≡ Some b → a ≡ b
some_same a b e = cc

-- so whoever asks, that is asked
pub asked_call : (services : Services) (w : World) (who : Who) (o : Option Ask) (ask : Ask) → AsksCalls o → o ≡ Some ask → asked_with services w who ask ≡ Some ask
asked_call services w who o ask calls e =
    let its = calls ask e in
    subst (λ (a : Ask). asked_with services w who a ≡ Some a) (sym its.2) refl

pub porters_path : (w : World) (m : Move) → is_porters w m ≡ true → named w m.who ≡ LAST_PORTER_SLOT ∷ top
porters_path w m is = sym (same_path_eq (LAST_PORTER_SLOT ∷ top) (named w m.who) is)

pub porters_event : (w : World) (m : Move) (ask : Ask) → is_porters w m ≡ true → m.pick ≡ None → event_of w ask m ≡ call ask
porters_event w m ask is none = λ i. record { mover = porters_path w m is i; pick = option_map (named w) (none i); ask = ask }

-- ---- a move that is ready

pub data IsMove (services : Services) (w : World) (o : Option Ask) (m : Move) : Type 0 where
  Own : (ask : Ask) → is_porters w m ≡ true → m.pick ≡ None → o ≡ Some ask → IsReadyAt w (call ask) → IsMove services w o m
  Others : (ask : Ask) → is_porters w m ≡ false → asked services w m.who ≡ Some ask → IsReadyAt w (event_of w ask m) → IsMove services w o m

module _ (services : Services) (w : World) (o : Option Ask) (m : Move) where
  abbrev Moves : Type 0
  Moves = IsMove services w o m

  own_move : (pick : Option Who) (p : Option Ask) → AsksCalls o → is_porters w m ≡ true → m.pick ≡ pick → o ≡ p
      → IsReadyGiven services w m (unpicking pick p) → Moves
  own_move (Some who) p calls is picks e ready = absurd ready
  own_move None None calls is picks e ready = absurd ready
  own_move None (Some ask) calls is picks e ready =
      let so : IsReadyFor w m (Some ask) = subst (λ (a : Option Ask). IsReadyFor w m a) (asked_call services w m.who o ask calls e) ready in
      IsMove.Own ask is picks e (subst (λ (x : Event). IsReadyAt w x) (porters_event w m ask is picks) so)

  others_move : (p : Option Ask) → is_porters w m ≡ false → asked services w m.who ≡ p → IsReadyFor w m p → Moves
  others_move None is e ready = absurd ready
  others_move (Some ask) is e ready = IsMove.Others ask is e ready

  pub moves : AsksCalls o → IsReadyGiven services w m (given_in w o m) → Moves
  moves calls ready = by (is_porters w m) refl ready
    where
      by : (b : Bool) → is_porters w m ≡ b → IsReadyGiven services w m (if b then unpicking m.pick o else Some asks.Run) → Moves
      by true is ready = own_move m.pick o calls is refl refl ready
      by false is ready = others_move (asked services w m.who) is refl ready

  pub moves_back : AsksCalls o → Moves → IsReadyGiven services w m (given_in w o m)
  moves_back calls (IsMove.Own ask is picks e ready) =
      let given : given_in w o m ≡ Some ask = λ i. if is i then unpicking (picks i) (e i) else Some asks.Run in
      subst (IsReadyGiven services w m) (sym given)
      (subst (λ (a : Option Ask). IsReadyFor w m a) (sym (asked_call services w m.who o ask calls e))
      (subst (λ (x : Event). IsReadyAt w x) (sym (porters_event w m ask is picks)) ready))
  moves_back calls (IsMove.Others ask is e ready) =
      let given : given_in w o m ≡ Some asks.Run = λ i. if is i then unpicking m.pick o else Some asks.Run in
      subst (IsReadyGiven services w m) (sym given) (subst (λ (a : Option Ask). IsReadyFor w m a) (sym e) ready)

  -- and it is fit, where the call for which the side asks is
  pub fits : AsksCalls o → ((ask : Ask) → o ≡ Some ask → is_fit w (LAST_PORTER_SLOT ∷ top) ask ≡ true) → Moves → IsFitGiven services w m (given_in w o m)
  fits calls fit (IsMove.Own ask is picks e ready) =
      let given : given_in w o m ≡ Some ask = λ i. if is i then unpicking (picks i) (e i) else Some asks.Run in
      subst (IsFitGiven services w m) (sym given)
      (subst (λ (a : Option Ask). IsFitFor w m a) (sym (asked_call services w m.who o ask calls e))
      (subst (λ (x : Path). is_fit w x ask ≡ true) (sym (porters_path w m is)) (fit ask e)))
  fits calls fit (IsMove.Others ask is e ready) =
      let given : given_in w o m ≡ Some asks.Run = λ i. if is i then unpicking m.pick o else Some asks.Run in
      subst (IsFitGiven services w m) (sym given)
      (subst (λ (a : Option Ask). IsFitFor w m a) (sym e) (fit-asked services w m.who ask (named w m.who) e))

-- ---- a turn that was made

pub data IsMade (k : Kept) (services : Services) (o : Option Ask) (m : Move) (said : Said) (n : Kept) (new : Services) : Type 0 where
  Own : (ask : Ask) → is_porters (world k) m ≡ true → m.pick ≡ None → o ≡ Some ask → IsStepped k services (call ask) said n new
      → IsMade k services o m said n new
  Others : (ask : Ask) → is_porters (world k) m ≡ false → asked services (world k) m.who ≡ Some ask
      → IsStepped k services (event_of (world k) ask m) said n new → IsMade k services o m said n new

module _ (k : Kept) (services : Services) (o : Option Ask) (m : Move) (said : Said) (n : Kept) (new : Services) where
  abbrev Made : Type 0
  Made = IsMade k services o m said n new

  own_made : (pick : Option Who) (p : Option Ask) → AsksCalls o → is_porters (world k) m ≡ true → m.pick ≡ pick → o ≡ p
      → IsTurnGiven k services m (unpicking pick p) said n new → Made
  own_made (Some who) p calls is picks e turn = absurd turn
  own_made None None calls is picks e turn = absurd turn
  own_made None (Some ask) calls is picks e turn =
      let so : IsTurnFor k services m (Some ask) said n new =
      subst (λ (a : Option Ask). IsTurnFor k services m a said n new) (asked_call services (world k) m.who o ask calls e) turn in
      IsMade.Own ask is picks e (subst (λ (x : Event). IsStepped k services x said n new) (porters_event (world k) m ask is picks) so)

  others_made : (p : Option Ask) → is_porters (world k) m ≡ false → asked services (world k) m.who ≡ p → IsTurnFor k services m p said n new → Made
  others_made None is e turn = absurd turn
  others_made (Some ask) is e turn = IsMade.Others ask is e turn

  pub made : AsksCalls o → IsTurnGiven k services m (given_in (world k) o m) said n new → Made
  made calls turn = by (is_porters (world k) m) refl turn
    where
      by : (b : Bool) → is_porters (world k) m ≡ b → IsTurnGiven k services m (if b then unpicking m.pick o else Some asks.Run) said n new → Made
      by true is turn = own_made m.pick o calls is refl refl turn
      by false is turn = others_made (asked services (world k) m.who) is refl turn
