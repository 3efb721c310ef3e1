-- A move that tells nothing, and ends no talk: no server hears of it.
use Rattle.std.proofs.Common.{◌≡◌, false, List, [], ◌∷◌, map, Option, Some, None, refl, sym, ap, subst, ◌∙◌, if◌then◌else◌}
use Rattle.fk_host.specs.Hosts.{IsStepped, IsTurn, IsTurnFor}
use Rattle.fk_model.specs.declared.moves.Ask.{Ask}
use Rattle.fk_model.specs.declared.moves.Ask.TheVariants as asks
use Rattle.fk_model.specs.declared.moves.Move.{Move}
use Rattle.fk_model.specs.declared.moves.Said.TheVariants as says
use Rattle.fk_model.specs.declared.names.Who.{Who}
use Rattle.fk_model.specs.Endings.{has_ended}
use Rattle.fk_model.specs.Moves.{Step}
use Rattle.fk_model.specs.Outcomes.Said.{Nothing}
use Rattle.fk_model.specs.Runs.{Event, after}
use Rattle.fk_model.specs.Who.{event_of, named}
use Rattle.fk_natives.specs.Natives as natives
use Rattle.fk_served.specs.Events.{step_of}
use Rattle.fk_served.specs.Kernels.{Kept}
use Rattle.fk_served.specs.Kernels.{world_of as world}
use Rattle.fk_served.specs.Served.{Services, asked, hears_of, news_at, after_news, said_at}

module _ (m n : Kept) (e : Event) (made : step_of (world m) e ≡ record { world = world n; said = Nothing })
    (ends : (port : Who) → has_ended (world m) (world n) (named (world m) port) ≡ false) where
  none : (port : Who) → news_at (world m) e (named (world m) port) ≡ None
  none port =
      let goes : after (world m) e ≡ world n = ap (λ (t : Step). t.world) made in
      let kept = subst (λ v. has_ended (world m) v (named (world m) port) ≡ false) (sym goes) (ends port) in
      ap (λ t. if t then Some natives.Ended else said_at (step_of (world m) e).said (named (world m) port)) kept
      ∙ ap (λ (t : Step). said_at t.said (named (world m) port)) made

  unheard : (services : Services) → services ≡ map (hears_of (world m) e) services
  unheard [] = refl
  unheard (s ∷ ss) =
      let here : hears_of (world m) e s ≡ s = ap (λ news. (s.0, after_news news s.1)) (none s.0) in
      ap (λ xs. s ∷ xs) (unheard ss) ∙ sym (ap (λ x. x ∷ map (hears_of (world m) e) ss) here)

pub quiet-turn : (m n : Kept) (services : Services) (move : Move) → asked services (world m) move.who ≡ Some asks.Run →
    step_of (world m) (event_of (world m) asks.Run move) ≡ record { world = world n; said = Nothing } →
    ((port : Who) → has_ended (world m) (world n) (named (world m) port) ≡ false) → IsTurn m services move asks.Run says.Nothing n services
quiet-turn m n services move runs made ends =
    let stepped : IsStepped m services (event_of (world m) asks.Run move) says.Nothing n services =
    record { step = made; hears = unheard m n (event_of (world m) asks.Run move) made ends services } in
    subst (λ (o : Option Ask). IsTurnFor m services move o says.Nothing n services) (sym runs) stepped
