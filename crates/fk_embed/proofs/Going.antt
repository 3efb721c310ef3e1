-- A job goes on by a call of its porter's.
use Rattle.std.proofs.Common.{◌≡◌, ℕ, List, ◌∷◌, Option, Some, None, refl, sym, ap, subst, ◌∙◌}
use Rattle.fk_embed.specs.Jobs.{GoesOn, IsUnderWay}
use Rattle.fk_embed.specs.Jobs.IsUnderWay.{Begins, Works}
use Rattle.fk_jobs.specs.Jobs.{call_at}
use Rattle.fk_model.specs.declared.limits.TheConstants.{LAST_PORTER_SLOT}
use Rattle.fk_model.specs.declared.moves.Ask.{Ask}
use Rattle.fk_model.specs.declared.moves.Ask.TheVariants as asks
use Rattle.fk_model.specs.declared.moves.Move.{Move}
use Rattle.fk_model.specs.declared.stage.Stage.{Stage}
use Rattle.fk_model.specs.Moves.{Step}
use Rattle.fk_model.specs.Outcomes.{Said}
use Rattle.fk_model.specs.Places.{Path}
use Rattle.fk_model.specs.Runs.{Event, after}
use Rattle.fk_model.specs.Valid.{birth_at}
use Rattle.fk_model.specs.Whole.{IsWhole}
use Rattle.fk_model.specs.Who.{event_of, space_born}
use Rattle.fk_model.specs.World.{World}
use Rattle.fk_served.specs.Events.{step_of}
use Rattle.laws_house.specs.Houses.{End, State, machine}
use Rattle.laws_jobs.proofs.Weaving.{now_sound, work_begins, work_goes_on}
use Rattle.laws_jobs.specs.Jobs.{MeetsContract, MayBegin}
use Rattle.laws_jobs.specs.Machines.{AtWork, Head, IsOwedCall, IsReadyAt, call_of, heard, reply_of, said_of}
use Rattle.laws_jobs.specs.Machines.Head.{Asks, Stops}
use Rattle.laws_moves.proofs.InSavable.Laws.{keeps_savable}
use Rattle.laws_moves.proofs.InUsers.Named.{named_is}
use Rattle.laws_moves.specs.Savable.Savable.{IsSound}

-- a job that makes no call is where it was
pub stays : (birth : ℕ) (v : World) (t : State) → GoesOn birth v t v t
stays birth v t nester w s may contract under = under

pub further : (birth : ℕ) (v : World) (t : State) (u : World) (r : State) (x : World) (q : State) → GoesOn birth v t u r → GoesOn birth u r x q → GoesOn birth v t x q
further birth v t u r x q one two nester w s may contract under = two nester w s may contract (one nester w s may contract under)

-- who has a call to make asks for it
pub asks_it : (h : Head End) (stage : Stage) (words : List ℕ) → call_at h ≡ Some (asks.Call stage words) → h ≡ Asks stage words
asks_it (Asks other given) stage words e =
    let one : other ≡ stage = cc in
    let two : given ≡ words = cc in
    λ i. Asks (one i) (two i)
asks_it (Stops end) stage words e = cc

-- the move of the porter of a nester with this birth number
abbrev pub own : ℕ → Move
own birth = record { who = record { space = birth; slot = LAST_PORTER_SLOT }; pick = None }

module _ (birth : ℕ) (v u : World) (t r : State) (stage : Stage) (words : List ℕ) (said : Said) (whole : IsWhole u) (before : IsWhole v)
    (asked : machine.head t ≡ Asks stage words) (ready : IsReadyAt v (event_of v (asks.Call stage words) (own birth)))
    (steps : step_of v (event_of v (asks.Call stage words) (own birth)) ≡ record { world = u; said = said })
    (hears : r ≡ machine.next t (reply_of said).status (reply_of said).words) where
  -- that of a nester which has this number is a call of its porter's
  module _ (nester : Path) (named : birth_at v nester ≡ Some birth) where
    abbrev event : Event
    event = call_of nester stage words

    is_event : event_of v (asks.Call stage words) (own birth) ≡ event
    is_event = ap (λ (x : Path). call_of x stage words) (named_is v before.valid before.few birth nester named)

    ready_there : IsReadyAt v event
    ready_there = subst (IsReadyAt v) is_event ready

    steps_there : step_of v event ≡ record { world = u; said = said }
    steps_there = subst (λ (e : Event). step_of v e ≡ record { world = u; said = said }) is_event steps

    world_there : after v event ≡ u
    world_there = ap (λ (s : Step). s.world) steps_there

    said_there : said_of v event ≡ said
    said_there = ap (λ (s : Step). s.said) steps_there

    hears_there : heard machine t (said_of v event) ≡ r
    hears_there = ap (heard machine t) said_there ∙ sym hears

    -- what comes of it is sound, since the call is owed
    sound_there : IsSound v → IsOwedCall v nester stage words → IsSound (after v event)
    sound_there sound owed = record {
      whole = subst IsWhole (sym world_there) whole;
      savable = keeps_savable v event sound.whole sound.savable owed.proper owed.owes;
    }

    works_there : (w : World) (s : State) → AtWork machine nester w s (after v event) (heard machine t (said_of v event)) → IsUnderWay nester w s u r
    works_there w s work = Works u r (subst (λ (x : World). AtWork machine nester w s x r) world_there
        (subst (λ (q : State). AtWork machine nester w s (after v event) q) hears_there work))

  goes : (nester : Path) (w : World) (s : State) → MayBegin w nester birth → MeetsContract machine birth s → (x : World) (q : State) → IsUnderWay nester w s x q
      → x ≡ v → q ≡ t → IsUnderWay nester w s u r
  goes nester w s may contract _ _ Begins here same =
      let begins = subst (λ (x : World). MayBegin x nester birth) here may in
      let first = subst (λ (q : State). machine.head q ≡ Asks stage words) (sym same) asked in
      let owed = contract.first v nester begins stage words first in
      let made = work_begins machine nester v t stage words asked (ready_there nester begins.named) (sound_there nester begins.named begins.sound owed) in
      let back = works_there nester begins.named v t made in
      subst (λ (q : State). IsUnderWay nester w q u r) (sym same) (subst (λ (x : World). IsUnderWay nester x t u r) (sym here) back)
  goes nester w s may contract _ _ (Works x q work) here same =
      let now = subst (λ (z : World). AtWork machine nester w s z t) here (subst (λ (z : State). AtWork machine nester w s x z) same work) in
      let named = (contract.stays w nester v t may now stage words asked).named in
      let owed = contract.later w nester v t may now stage words asked in
      let sound = now_sound machine nester w s v t now in
      works_there nester named w s
      (work_goes_on machine nester w s v t stage words now asked (ready_there nester named) (sound_there nester named sound owed))

  pub goes_on : GoesOn birth v t u r
  goes_on nester w s may contract under = goes nester w s may contract v t under refl refl
