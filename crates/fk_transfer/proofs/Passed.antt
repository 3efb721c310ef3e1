-- Passed: a turn that is handed to a thread.
use Rattle.std.proofs.Common.{◌≡◌, ℕ, Bool, true, false, [], Option, Some, None, Ok, Err, is_some, if◌then◌else◌, refl, ap, sym, ◌∙◌}
use Rattle.fk_changes.specs.Threads.Answers.{came_answers}
use Rattle.fk_model.specs.declared.names.Who.{Who}
use Rattle.fk_model.specs.declared.thread.Turn.{Turn}
use Rattle.fk_model.specs.declared.thread.Turn.TheVariants as turns
use Rattle.fk_model.specs.declared.statuses.status.TheConstants.{WRONGTURN}
use Rattle.fk_model.specs.Objects.{Talk, Thread}
use Rattle.fk_model.specs.Objects.Peer.{Server, Service}
use Rattle.fk_model.specs.Outcomes.{Caller, path_of, telling, when}
use Rattle.fk_model.specs.Outcomes.Said.{Passed}
use Rattle.fk_model.specs.Places.{Path, parent, Ptr}
use Rattle.fk_model.specs.Places.Ptr.{At}
use Rattle.fk_model.specs.Searches.{talk_at, thread_at}
use Rattle.fk_model.specs.Talks.{awaited, is_service_free, line, line_from, other_side, receiving, same_side, thread_led_to, Line}
use Rattle.fk_model.specs.TransferRows.{at_turn, in_turn, over, passes, passes_to_thread, taken_answers, takes_turn}
use Rattle.fk_model.specs.World.{World}
use Rattle.fk_plans.specs.Plans.Verdicts.{outcome_by}
use Rattle.fk_store.specs.Store.Paths.{place}
use Rattle.fk_store.specs.Store.Threads.{is_free_at}
use Rattle.fk_transfer.specs.Lines.{passed_by, IsServed}

-- where it is free, by its being at its Receive
pub passed_free : (w : World) (c : Caller) (side : Turn) (client y : Path) (carried : Option Ptr) (t : Thread) (b : Bool) →
    Some t ≡ thread_at w y → is_free_at w y ≡ true → is_some (receiving w (parent y) (other_side side) t.mode) ≡ b →
    when b (passes c side client (takes_turn y carried (awaited t.mode))) ≡ passes_to_thread w c side client carried (thread_led_to w (At y))
unfolding is_free_at
passed_free w c side client y carried t b there free at = let free_there = rw (← there) at free in rw (← there, free_there, at) refl

-- what hands the turn over without a pointer
pub passed_row : (w : World) (p : ℕ → Path) (c : Caller) (side turn : Turn) (client receiver : Who) (came : Option Bool) (to : Option ℕ) →
    turn ≡ other_side side → came_answers came ≡ taken_answers to None →
    outcome_by w p c (passed_by client turn receiver came) ≡ passes c side (place p client) (takes_turn (place p receiver) None to)
passed_row w p c side turn client receiver came to is answers = rw (is, answers) refl

-- a client's own talk at its own turn
own_line : (w : World) (me : Path) (l : Line) → Ok l ≡ in_turn w me turns.Client turns.Client →
    (l.client ≡ me) × (talk_at w me ≡ Some l.talk) × (l.other ≡ l.talk.peer)
unfolding line
own_line w me l is = by (talk_at w me) refl is
  where
    of : (talk : Talk) (b : Bool) → talk_at w me ≡ Some talk →
        Ok l ≡ (if b then Ok (record { client = me; talk = talk; other = talk.peer }) else Err WRONGTURN) → (l.client ≡ me) × (talk_at w me ≡ Some l.talk) × (l.other ≡ l.talk.peer)
    of talk true e is =
        let same : l ≡ record { client = me; talk = talk; other = talk.peer } = cc in
        rw same (refl, e, refl)
    of talk false e is = absurd (cc)

    by : (o : Option Talk) → talk_at w me ≡ o → Ok l ≡ at_turn turns.Client (line_from me (λ (talk : Talk). talk.peer) o) →
        (l.client ≡ me) × (talk_at w me ≡ Some l.talk) × (l.other ≡ l.talk.peer)
    by None e is = absurd (cc)
    by (Some talk) e is = of talk (same_side talk.turn turns.Client) e is

pub own_client : (w : World) (me : Path) (l : Line) → Ok l ≡ in_turn w me turns.Client turns.Client → l.client ≡ me
own_client w me l is = (own_line w me l is).0

-- whose other end is a native server
pub served_line : (w : World) (me : Path) (l : Line) → Ok l ≡ in_turn w me turns.Client turns.Client → l.other ≡ Service → IsServed w me
served_line w me l is other =
    let own = own_line w me l is in
    record { talk = l.talk; there = own.1; service = sym own.2 ∙ other }

-- the row of an Over where a native server is there
pub over_yields : (w : World) (c : Caller) (l : Line) → Ok l ≡ in_turn w (path_of c) turns.Client turns.Client → l.other ≡ Service →
    is_service_free w l.talk.port ≡ true → telling (Passed l.talk.port) (passes c turns.Client (path_of c) []) ≡ over w c turns.Client None
unfolding over
over_yields w c l line other free =
    ap (λ (client : Path). telling (Passed l.talk.port) (passes c turns.Client client [])) (sym (own_client w (path_of c) l line))
    ∙ rw (← line, other, free) refl

-- the row of an Over where a thread is at the other end
pub over_goes : (w : World) (c : Caller) (side : Turn) (l : Line) (y : Path) → Ok l ≡ in_turn w (path_of c) side side → l.other ≡ Server (At y) →
    passes_to_thread w c side l.client None (thread_led_to w (At y)) ≡ over w c side None
unfolding over
over_goes w c side l y line other = rw (← line, other) refl
