-- Sends: who sends words to a native server, or passes the turn to it, can move, while nothing is held.
use Rattle.std.proofs.Common.{◌≡◌, ◌==◌, ◌||◌, ℕ, Bool, true, false, if◌then◌else◌, List, [], ◌∷◌, Option, Some, None, Ok, Err, unwrap_or, slice_index}
use Rattle.std.proofs.Common.{◌⊎◌, inl, inr, refl, ap, ◌∙◌}
use Rattle.std.proofs.lemmas.Bool.{eqb-true}
use Rattle.fk_model.specs.declared.stage.Stage.{Stage}
use Rattle.fk_model.specs.declared.stage.Stage.TheVariants.{ClientSend, ClientOver, ClientReceive}
use Rattle.fk_model.specs.declared.statuses.status.TheConstants as status
use Rattle.fk_model.specs.declared.thread.Turn.TheVariants as turns
use Rattle.fk_model.specs.Calls.{todo_of, rest_of}
use Rattle.fk_model.specs.Holds.{decider, is_free}
use Rattle.fk_model.specs.LinkRows.{user_at}
use Rattle.fk_model.specs.Objects.{Mode, Peer, Talk, Thread}
use Rattle.fk_model.specs.Objects.Mode.{Calling}
use Rattle.fk_model.specs.Objects.Peer.{Server, Service, Parked}
use Rattle.fk_model.specs.Outcomes.{Outcome, Said, ◌>>=◌, when, done}
use Rattle.fk_model.specs.Outcomes.Outcome.{Waits}
use Rattle.fk_model.specs.Outcomes.Said.{Passed, Words}
use Rattle.fk_model.specs.Places.{Path, parent}
use Rattle.fk_model.specs.Places.Ptr.{At}
use Rattle.fk_model.specs.Reach.{Reach, reach_word, words_at}
use Rattle.fk_model.specs.Reach.Reach.{Home, Missing, Bad}
use Rattle.fk_model.specs.Readers.{own_page_at}
use Rattle.fk_model.specs.Searches.{talk_at, thread_at}
use Rattle.fk_model.specs.Talks.{Line, line, line_from, other_side, same_side}
use Rattle.fk_model.specs.TransferRows.{at_turn, block, has_sent, moved_words, over, passes_on, passes_to, send, sends, sends_to}
use Rattle.fk_model.specs.declared.limits.TheConstants.{BLOCK_WORDS}
use Rattle.fk_model.specs.World.{World, Change}
use Rattle.fk_model.specs.World.Change.{Alter}
use Rattle.fk_model.specs.World.Edit.{CountMoved, PassTurn}
use Rattle.fk_store.specs.Store.Bodies.{calling_mode}
use Rattle.fk_turns.specs.Next.Waiting.{IsMoveReady}
use Rattle.laws_waits.proofs.Complete.{stage-ready, thread_ready}
use Rattle.laws_waits.proofs.Never.{done-moves, either, goes, telling-moves}
use Rattle.fk_turns.specs.Steps.Steps.{begins_with_over, begins_with_send, speaks}

-- ---- its call

pub record BeginsWithSend (m : Mode) : Type 0 where
  pub address : ℕ
  pub count : ℕ
  pub later : List Stage
  pub rest : List ℕ
  pub is : m ≡ Calling (ClientSend address count ∷ later) rest

by_stages : (g : List ℕ) (address count : ℕ) (later : List Stage) → todo_of g ≡ Some (ClientSend address count ∷ later) → BeginsWithSend (calling_mode g)
by_stages g address count later e = record {
  address = address;
  count = count;
  later = later;
  rest = rest_of (ClientSend address count ∷ later) g;
  is = ap (λ (o : Option (List Stage)). let todo = unwrap_or o [] in Calling todo (rest_of todo g)) e;
}

pub record BeginsWithOver (m : Mode) : Type 0 where
  pub later : List Stage
  pub rest : List ℕ
  pub is : m ≡ Calling (ClientOver ∷ later) rest

over_stages : (g : List ℕ) (later : List Stage) → todo_of g ≡ Some (ClientOver ∷ later) → BeginsWithOver (calling_mode g)
over_stages g later e = record {
  later = later;
  rest = rest_of (ClientOver ∷ later) g;
  is = ap (λ (o : Option (List Stage)). let todo = unwrap_or o [] in Calling todo (rest_of todo g)) e;
}

begins_over : (g : List ℕ) → begins_with_over (slice_index g 0) ≡ true → BeginsWithOver (calling_mode g)
unfolding todo_of
begins_over g is = by (slice_index g 0 == 38) refl is
  where
    by : (b : Bool) → (slice_index g 0 == 38) ≡ b → (b || slice_index g 0 == 35) ≡ true → BeginsWithOver (calling_mode g)
    by true e is = over_stages g [] (let at = eqb-true (slice_index g 0) 38 e in rw at (refl {a = Some (ClientOver ∷ [])}))
    by false e is =
        over_stages g (ClientReceive (slice_index g 4) (slice_index g 5) ∷ [])
        (let at = eqb-true (slice_index g 0) 35 is in rw at (refl {a = Some (ClientOver ∷ ClientReceive (slice_index g 4) (slice_index g 5) ∷ [])}))

begins_send : (g : List ℕ) → begins_with_send (slice_index g 0) ≡ true → BeginsWithSend (calling_mode g)
unfolding todo_of
begins_send g is = by (slice_index g 0 == 37) refl is
  where
    by : (b : Bool) → (slice_index g 0 == 37) ≡ b → (b || slice_index g 0 == 34) ≡ true → BeginsWithSend (calling_mode g)
    by true e is =
        by_stages g (slice_index g 2) (slice_index g 3) []
        (let at = eqb-true (slice_index g 0) 37 e in rw at (refl {a = Some (ClientSend (slice_index g 2) (slice_index g 3) ∷ [])}))
    by false e is =
        by_stages g (slice_index g 2) (slice_index g 3) (ClientOver ∷ ClientReceive (slice_index g 4) (slice_index g 5) ∷ [])
        (let at = eqb-true (slice_index g 0) 34 is in
        rw at (refl {a = Some (ClientSend (slice_index g 2) (slice_index g 3) ∷ ClientOver ∷ ClientReceive (slice_index g 4) (slice_index g 5) ∷ [])}))

pub begins : (g : List ℕ) → speaks (slice_index g 0) ≡ true → BeginsWithSend (calling_mode g) ⊎ BeginsWithOver (calling_mode g)
begins g is = by (begins_with_send (slice_index g 0)) refl is
  where
    by : (b : Bool) → begins_with_send (slice_index g 0) ≡ b → (b || begins_with_over (slice_index g 0)) ≡ true →
        BeginsWithSend (calling_mode g) ⊎ BeginsWithOver (calling_mode g)
    by true e is = inl (begins_send g e)
    by false e is = inr (begins_over g is)

-- ---- its stage

module _ (w : World) (unheld : (q : Path) → decider w q ≡ None) (k : ℕ) (s : Path) where
  abbrev me : Path
  me = k ∷ s

  when_goes : (b : Bool) (o : Outcome) → b ≡ true → (o ≡ Waits → ⊥) → when b o ≡ Waits → ⊥
  when_goes true o e moves h = moves h
  when_goes false o e moves h = absurd (cc)

  own_goes : (go : Path → ℕ → Outcome) (r : Reach) → ((t : Path) (g : ℕ) → go t g ≡ Waits → ⊥) → own_page_at me false go r ≡ Waits → ⊥
  own_goes go (Home t g) moves h = moves t g h
  own_goes go (Missing t g (Some port)) moves h = absurd (cc)
  own_goes go (Missing t g None) moves h = absurd (cc)
  own_goes go Bad moves h = absurd (cc)

  sent_goes : (j count : ℕ) (changes : List Change) (said : Said) → has_sent (user_at me) j count changes said ≡ Waits → ⊥
  sent_goes j count changes said = either (j == count) _ _ (telling-moves said _ (done-moves (user_at me) _ _)) (goes _ _)

  module _ (address count : ℕ) where
    peer_goes : (talk : Talk) (port : Path) → talk.port ≡ At port → (page : List ℕ) (q : Peer) → q ≡ Service →
        sends_to w (user_at me) turns.Client (record { client = me; talk = talk; other = talk.peer }) address count page q ≡ Waits → ⊥
    peer_goes talk port leads page Service e h =
        when_goes _ _ (rw (leads, unheld (parent port)) refl)
        (sent_goes (moved_words address count 0 BLOCK_WORDS) count (Alter me (CountMoved (moved_words address count 0 BLOCK_WORDS)) ∷ [])
        (Words talk.port (block (moved_words address count 0 BLOCK_WORDS) address page))) h
    peer_goes talk port leads page (Server q) e h = absurd (cc)
    peer_goes talk port leads page Parked e h = absurd (cc)

    line_goes : (o : Option Talk) (talk : Talk) (port : Path) → o ≡ Some talk → talk.peer ≡ Service → talk.port ≡ At port →
        (at_turn turns.Client (line_from me (λ (talk : Talk). talk.peer) o) >>= sends w (user_at me) turns.Client address count) ≡ Waits → ⊥
    line_goes None talk port at peer leads h = absurd (cc)
    line_goes (Some other) talk port at peer leads h = turn_goes (same_side other.turn turns.Client) h
      where
        its : Line
        its = record { client = me; talk = other; other = other.peer }

        same : other ≡ talk
        same = cc

        count_goes : (b : Bool) → (if b then done (user_at me) [] [] else own_page_at me false
            (λ t page. sends_to w (user_at me) turns.Client its address count (words_at w t page) other.peer) (reach_word w s address false)) ≡ Waits → ⊥
        count_goes true h = done-moves (user_at me) [] [] h
        count_goes false h =
            own_goes _ (reach_word w s address false)
            (λ t page. peer_goes other port (ap (λ (t : Talk). t.port) same ∙ leads) (words_at w t page) other.peer (ap (λ (t : Talk). t.peer) same ∙ peer)) h

        turn_goes : (b : Bool) → ((if b then Ok its else Err status.WRONGTURN) >>= sends w (user_at me) turns.Client address count) ≡ Waits → ⊥
        turn_goes true h = count_goes (count == 0) h
        turn_goes false h = absurd (cc)

    send_goes : (talk : Talk) (port : Path) → talk_at w me ≡ Some talk → talk.peer ≡ Service → talk.port ≡ At port →
        send w (user_at me) turns.Client address count ≡ Waits → ⊥
    unfolding send line
    send_goes talk port at peer leads h = line_goes (talk_at w me) talk port at peer leads h

  over_peer : (talk : Talk) (port : Path) → talk.port ≡ At port → (q : Peer) → q ≡ Service →
      passes_to w (user_at me) turns.Client (record { client = me; talk = talk; other = talk.peer }) None q ≡ Waits → ⊥
  over_peer talk port leads Service e h =
      when_goes _ _ (rw (leads, unheld (parent port)) refl) (telling-moves (Passed talk.port) _
      (done-moves (user_at me) (Alter me (PassTurn (other_side turns.Client)) ∷ []) [])) h
  over_peer talk port leads (Server q) e h = absurd (cc)
  over_peer talk port leads Parked e h = absurd (cc)

  over_line : (o : Option Talk) (talk : Talk) (port : Path) → o ≡ Some talk → talk.peer ≡ Service → talk.port ≡ At port →
      (at_turn turns.Client (line_from me (λ (talk : Talk). talk.peer) o) >>= passes_on w (user_at me) turns.Client None) ≡ Waits → ⊥
  over_line None talk port at peer leads h = absurd (cc)
  over_line (Some other) talk port at peer leads h = turn_goes (same_side other.turn turns.Client) h
    where
      its : Line
      its = record { client = me; talk = other; other = other.peer }

      same : other ≡ talk
      same = cc

      turn_goes : (b : Bool) → ((if b then Ok its else Err status.WRONGTURN) >>= passes_on w (user_at me) turns.Client None) ≡ Waits → ⊥
      turn_goes true h = over_peer other port (ap (λ (t : Talk). t.port) same ∙ leads) other.peer (ap (λ (t : Talk). t.peer) same ∙ peer) h
      turn_goes false h = absurd (cc)

  over_goes : (talk : Talk) (port : Path) → talk_at w me ≡ Some talk → talk.peer ≡ Service → talk.port ≡ At port →
      over w (user_at me) turns.Client None ≡ Waits → ⊥
  unfolding over line
  over_goes talk port at peer leads h = over_line (talk_at w me) talk port at peer leads h

  pub over_up : (t : Thread) (talk : Talk) (port : Path) → thread_at w me ≡ Some t → is_free w s t ≡ true → BeginsWithOver t.mode → t.talk ≡ Some talk →
      talk.peer ≡ Service → talk.port ≡ At port → IsMoveReady w me
  over_up t talk port there free begins talking peer leads =
      let at : talk_at w me ≡ Some talk = rw there talking in (
        None,
        thread_ready w unheld me None t ClientOver begins.later begins.rest there free begins.is
            (stage-ready w unheld me ClientOver refl (λ h. over_goes talk port at peer leads h)),
      )

  pub sends_up : (t : Thread) (talk : Talk) (port : Path) → thread_at w me ≡ Some t → is_free w s t ≡ true → BeginsWithSend t.mode → t.talk ≡ Some talk →
      talk.peer ≡ Service → talk.port ≡ At port → IsMoveReady w me
  sends_up t talk port there free begins talking peer leads =
      let at : talk_at w me ≡ Some talk = rw there talking in (
        None,
        thread_ready w unheld me None t (ClientSend begins.address begins.count) begins.later begins.rest there free begins.is
            (stage-ready w unheld me (ClientSend begins.address begins.count) refl
            (λ h. send_goes begins.address begins.count talk port at peer leads h)),
      )
