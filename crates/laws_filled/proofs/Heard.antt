-- What native servers hear along a pager's run.
use Rattle.std.proofs.Common.{◌≡◌, ℕ, ◌≤◌, Bool, true, false, nat_le, is_some, List, [], ◌∷◌, Option, Some, None, refl, sym, ap, subst, ◌∙◌}
use Rattle.fk_model.specs.declared.limits.TheConstants.{LAST_PORTER_SLOT, LAST_USER_SLOT}
use Rattle.fk_model.specs.declared.moves.Ask.{Ask}
use Rattle.fk_model.specs.declared.moves.Ask.TheVariants as asks
use Rattle.fk_model.specs.Endings.{has_ended}
use Rattle.fk_model.specs.Places.{Path}
use Rattle.fk_model.specs.Objects.{Fault, space_of, and_then, holds}
use Rattle.fk_model.specs.World.{World}
use Rattle.fk_model.specs.Searches.{fault_at}
use Rattle.fk_model.specs.Outcomes.{Outcome}
use Rattle.fk_model.specs.Moves.{Step, stepped, outcome, step, call_row, porter_at, IsReady}
use Rattle.fk_model.specs.Runs.{Event, after}
use Rattle.laws_filled.specs.Filled.{filled, is_paged, raises}
use Rattle.laws_filled.specs.Pager.{Desk, Phase, State, no_words, stage_of, words_of, paging, IsPick, said_of, call_of, hears, IsPaged}
use Rattle.laws_filled.specs.Pager.{struck, unless_raised, IsGood}
use Rattle.laws_filled.specs.Pager.Phase.{Seeking, Taking, Waiting, Looking, Evicting, Giving, Ending}
use Rattle.laws_filled.specs.Pager.IsPaged.{Here, Another, Own}
use Rattle.laws_filled.specs.Heard.{Heard, heard_of, heard_in, is_for_nobody, IsSilent, HearAlike, ServersHearAlike}
use Rattle.laws_filled.specs.Heard.HearAlike.{Neither, Both, First_alone}
use Rattle.laws_filled.proofs.Moves.{filled_moves_alike_lem, raises_are_unseen_lem}
use Rattle.laws_filled.proofs.Servers.{names_lead_alike_lem, talks_end_alike_lem, unseen_ends_no_talk_lem}
use Rattle.laws_filled.proofs.Results.{is_call, next_result, take_result, give_result, done_result, wait_result}
use Rattle.laws_filled.proofs.Results.{NextResult, TakeResult, GiveResult, DoneResult, WaitResult}
use Rattle.laws_filled.proofs.Results.NextResult.{NoneLeft, Found}
use Rattle.laws_filled.proofs.Results.TakeResult.{TakeHeld, TakeBad, TakeGone, TookPage}
use Rattle.laws_filled.proofs.Results.GiveResult.{GiveHeld, GiveBad, Occupied, Gave}
use Rattle.laws_filled.proofs.Results.DoneResult.{Unlinked, Busy, Freed}
use Rattle.laws_filled.proofs.Results.WaitResult.{Idle, TookFault}
use Rattle.laws_filled.proofs.Own.{own, others-good}

-- whoever leaves what is filled and tells nobody anything is silent
silent : (d : Desk) (w : World) (s t : State) (e : Event) → is_for_nobody (said_of w e) ≡ true →
    filled (paging d t) (after w e) ≡ filled (paging d s) w → IsSilent (heard_of w e)
silent d w s t e nobody same = record { said = nobody; ended = unseen_ends_no_talk_lem (paging d s) (paging d t) w (after w e) same }

-- what is heard in the filled world is what is heard
same-heard : (d : Desk) (w : World) (s : State) (e : Event) → said_of (filled (paging d s) w) e ≡ said_of w e →
    after (filled (paging d s) w) e ≡ filled (paging d s) (after w e) → heard_of (filled (paging d s) w) e ≡ heard_of w e
same-heard d w s e said same = λ i. record {
  said = said i;
  ended = λ port. (ap (λ (v : World). has_ended (filled (paging d s) w) v port) same ∙ talks_end_alike_lem (paging d s) w (after w e) port) i;
  place = λ who. names_lead_alike_lem (paging d s) w who i;
}

-- ---- a pager's call is answered to its porter alone

module _ (d : Desk) (low : nat_le d.slot LAST_USER_SLOT ≡ true) (w : World) (s : State) where
  abbrev TellsNobody : Outcome → Type 0
  TellsNobody o = is_for_nobody (stepped w o).said ≡ true

  next-tells : (there : is_some (and_then space_of (w.body (d.slot ∷ d.nester))) ≡ true) (from : ℕ) (o : Outcome) →
      NextResult d.nester d.slot low w no_words there from o → TellsNobody o
  next-tells there from _ (NoneLeft none) = refl
  next-tells there from _ (Found page some) = refl

  take-tells : (there : is_some (and_then space_of (w.body (d.slot ∷ d.nester))) ≡ true) (page : ℕ) (o : Outcome) →
      TakeResult d.nester d.slot low w no_words there page o → TellsNobody o
  take-tells there page _ TakeHeld = refl
  take-tells there page _ (TakeBad far) = refl
  take-tells there page _ (TakeGone none) = refl
  take-tells there page _ (TookPage words home) = refl

  give-tells : (words : List ℕ) (there : is_some (and_then space_of (w.body (d.slot ∷ d.nester))) ≡ true) (page : ℕ) (o : Outcome) →
      GiveResult d.nester d.slot low w words there page o → TellsNobody o
  give-tells words there page _ GiveHeld = refl
  give-tells words there page _ (GiveBad far) = refl
  give-tells words there page _ (Occupied home) = refl
  give-tells words there page _ Gave = refl

  done-tells : (o : Outcome) → DoneResult d.nester d.slot low w no_words o → TellsNobody o
  done-tells _ (Unlinked none) = refl
  done-tells _ (Busy x held) = refl
  done-tells _ (Freed x has) = refl

  wait-tells : (y : Path) (fault : Fault) (o : Outcome) → WaitResult d.nester d.slot low w no_words y fault o → TellsNobody o
  wait-tells y fault _ Idle = refl
  wait-tells y fault _ (TookFault slot kind) = refl

  abbrev asked : Phase → Ask
  asked ph = asks.Call (stage_of d ph) (words_of s ph)

  by_row : (ph : Phase) (pick : Option Path) → IsReady w (LAST_PORTER_SLOT ∷ d.nester) pick (asked ph) →
      TellsNobody (call_row w (porter_at (LAST_PORTER_SLOT ∷ d.nester) (words_of s ph)) pick (stage_of d ph)) →
      TellsNobody (outcome w (LAST_PORTER_SLOT ∷ d.nester) pick (asked ph))
  by_row ph pick ready tells = subst TellsNobody (sym (is_call d.nester d.slot low w (words_of s ph) pick (stage_of d ph) ready)) tells

  own-tells : (ph : Phase) (pick : Option Path) → is_some (and_then space_of (w.body (d.slot ∷ d.nester))) ≡ true → IsPick d s w ph pick →
      IsReady w (LAST_PORTER_SLOT ∷ d.nester) pick (asked ph) → TellsNobody (outcome w (LAST_PORTER_SLOT ∷ d.nester) pick (asked ph))
  own-tells (Seeking from) (Some y) there picks ready = cc
  own-tells (Taking page) (Some y) there picks ready = cc
  own-tells (Looking page) (Some y) there picks ready = cc
  own-tells (Evicting old page) (Some y) there picks ready = cc
  own-tells (Giving page) (Some y) there picks ready = cc
  own-tells (Ending page) (Some y) there picks ready = cc
  own-tells Waiting None there picks ready = absurd picks
  own-tells (Seeking from) None there picks ready =
      by_row (Seeking from) None ready (next-tells there from _ (next_result d.nester d.slot low w no_words there from))
  own-tells (Taking page) None there picks ready =
      by_row (Taking page) None ready (take-tells there page _ (take_result d.nester d.slot low w no_words there page 0))
  own-tells (Looking page) None there picks ready =
      by_row (Looking page) None ready (next-tells there page _ (next_result d.nester d.slot low w no_words there page))
  own-tells (Evicting old page) None there picks ready =
      by_row (Evicting old page) None ready (take-tells there old _ (take_result d.nester d.slot low w no_words there old 0))
  own-tells (Giving page) None there picks ready = by_row (Giving page) None ready
      (give-tells (words_of s (Giving page)) there page _ (give_result d.nester d.slot low w (words_of s (Giving page)) there page 0))
  own-tells (Ending page) None there picks ready =
      by_row (Ending page) None ready (done-tells _ (done_result d.nester d.slot low w no_words))
  own-tells Waiting (Some y) there picks ready = by (fault_at w y) refl picks
    where
      by : (o : Option Fault) → fault_at w y ≡ o → holds (is_paged (paging d s)) o ≡ true →
          TellsNobody (outcome w (LAST_PORTER_SLOT ∷ d.nester) (Some y) (asked Waiting))
      by None e h = cc
      by (Some fault) e h =
          by_row Waiting (Some y) ready (wait-tells y fault _ (wait_result d.nester d.slot low w no_words d.set y fault e))

-- ---- along a run

pub servers_hear_alike_lem : ServersHearAlike
unfolding struck step
servers_hear_alike_lem d w s _ v t low room good (Here _ _) = Neither
servers_hear_alike_lem d w s _ v t low room good (Another _ _ e es _ _ others rest) =
    by (raises (paging d s) w e.mover e.pick e.ask) refl
    (servers_hear_alike_lem d (after w e) s es v t low room (others-good d low room w s e others good) rest)
  where
    by : (b : Bool) → raises (paging d s) w e.mover e.pick e.ask ≡ b →
        HearAlike (heard_in (after w e) es) (heard_in (filled (paging d s) (after w e)) (struck rest)) →
        HearAlike (heard_of w e ∷ heard_in (after w e) es) (heard_in (filled (paging d s) w) (unless_raised b e (struck rest)))
    by true raising alike =
        let unseen = raises_are_unseen_lem (paging d s) w e.mover e.pick e.ask good.paging others.other others.asks others.dark others.ready raising in
        let nobody : is_for_nobody (said_of w e) ≡ true = ap (λ (x : Step). is_for_nobody x.said) unseen.0 in
        First_alone (heard_of w e) _ _ (silent d w s s e nobody unseen.1)
        (subst (λ x. HearAlike (heard_in (after w e) es) (heard_in x (struck rest))) unseen.1 alike)
    by false raising alike =
        let one = filled_moves_alike_lem (paging d s) w e.mover e.pick e.ask good.paging others.other others.asks others.dark others.ready raising in
        let same : after (filled (paging d s) w) e ≡ filled (paging d s) (after w e) = ap (λ (x : Step). x.world) one.1 in
        let heard = same-heard d w s e (ap (λ (x : Step). x.said) one.1) same in
        let tail = subst (λ x. HearAlike (heard_in (after w e) es) (heard_in x (struck rest))) (sym same) alike in
        subst (λ h. HearAlike (heard_of w e ∷ heard_in (after w e) es) (h ∷ heard_in (after (filled (paging d s) w) e) (struck rest))) (sym heard)
        (Both (heard_of w e) _ _ tail)
servers_hear_alike_lem d w s _ v t low room good (Own _ _ pick es _ _ own_move rest) =
    let comes = own d low room w s s.phase pick good own_move.picks own_move.ready in
    let t1 = hears d s (said_of w (call_of d s pick)) in
    let alike = servers_hear_alike_lem d (after w (call_of d s pick)) t1 es v t low room comes.1 rest in
    First_alone (heard_of w (call_of d s pick)) _ _
    (silent d w s t1 (call_of d s pick) (own-tells d low w s s.phase pick good.paging.there own_move.picks own_move.ready) comes.0)
    (subst (λ x. HearAlike (heard_in (after w (call_of d s pick)) es) (heard_in x (struck rest))) comes.0 alike)
