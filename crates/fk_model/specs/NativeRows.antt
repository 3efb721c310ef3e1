-- Native servers: accept a client, give it words, hand it the turn. None of these is ever refused.
use Rattle.std.specs.Prelude.{ℕ, ◌%◌, Bool, true, false, ◌&&◌, ◌==◌, is_none, List, [], ◌∷◌, take, length, Option, Some, None, if◌then◌else◌}
use Rattle.fk_model.specs.declared.limits.TheConstants.{PAGE_WORDS}
use Rattle.fk_model.specs.declared.statuses.status.TheConstants.{FULL}
use Rattle.fk_model.specs.declared.thread.Turn.TheVariants as turns
use Rattle.fk_model.specs.Places.{Path, parent, leads_to}
use Rattle.fk_model.specs.Places.Ptr.{At}
use Rattle.fk_model.specs.Objects.{Talk, Thread, port_of, thread_of, and_then, holds}
use Rattle.fk_model.specs.Objects.Peer.{Service}
use Rattle.fk_model.specs.World.{World}
use Rattle.fk_model.specs.World.Change.{Alter, PutPage}
use Rattle.fk_model.specs.World.Edit.{Shift, Finish, End, SetTalk, CountMoved, PassTurn, SetPeer}
use Rattle.fk_model.specs.Searches.{talk_at, thread_at, client_at}
use Rattle.fk_model.specs.Reach.{words_at}
use Rattle.fk_model.specs.Holds.{is_free, is_unheld}
use Rattle.fk_model.specs.Outcomes.{Outcome, when}
use Rattle.fk_model.specs.Outcomes.Outcome.{Waits, Goes}
use Rattle.fk_model.specs.Outcomes.Said.{Taken, Given, Full, Passed}
use Rattle.fk_model.specs.Readers.{their_page}
use Rattle.fk_model.specs.Talks.{receiving, awaited, same_side}
use Rattle.fk_model.specs.TransferRows.{overwritten, moved_words, takes_turn}
use Rattle.fk_model.specs.LinkRows.{connecting_to, is_parked, new_talk}

-- the server of a port is free
abbrev pub is_serving_port : World → Path → Bool
is_serving_port w port = holds (λ (state : Option ℕ × Bool). state.1) (and_then port_of (w.body port)) && is_unheld w (parent port)

-- ---- accept: a free thread at its Connect to the port; else one with a parked talk at the port

abbrev pub connects_here : World → Path → Path → Thread → Bool
connects_here w port x t = holds (leads_to port) (connecting_to w x t)

abbrev pub parked_here : Path → Thread → Option Talk
parked_here port t = and_then (λ (talk : Talk). if leads_to port talk.port && is_parked (Some talk.peer) then Some talk else None) t.talk

abbrev pub takes_up : Path → Path → Option Talk → Outcome
takes_up port x None = Waits
takes_up port x (Some talk) = Goes (Alter x (SetPeer Service) ∷ []) (Taken (At port) x true talk.turn talk.moved)

abbrev pub accepts_thread : World → Path → Path → Thread → Outcome
accepts_thread w port x t =
    if connects_here w port x t
    then Goes (Alter x (SetTalk (Some (new_talk (At port) Service))) ∷ Alter x (Finish []) ∷ []) (Taken (At port) x false turns.Client 0)
    else takes_up port x (parked_here port t)

abbrev pub accepts_found : World → Path → Path → Option Thread → Outcome
accepts_found w port x None = Waits
accepts_found w port x (Some t) = when (is_free w (parent x) t) (accepts_thread w port x t)

abbrev pub takes_client : World → Path → Option Path → Outcome
takes_client w port None = Waits
takes_client w port (Some x) = accepts_found w port x (and_then thread_of (w.body x))

-- not while the port has a client
unfoldable pub accept_row : World → Path → Option Path → Outcome
accept_row w port pick = when (is_serving_port w port && is_none (client_at w port)) (takes_client w port pick)

-- ---- the client of a server whose turn it is, where it is free and at its Receive

abbrev pub if_receiving : World → Path → (Path → ℕ × ℕ → Outcome) → Thread → Outcome
if_receiving w x go t =
    when (is_free w (parent x) t && holds (λ (talk : Talk). same_side talk.turn turns.Server) t.talk) (received (receiving w (parent x) turns.Client t.mode))
  where
    received : Option (ℕ × ℕ) → Outcome
    received None = Waits
    received (Some receive) = go x receive

abbrev pub with_client : World → Path → (Path → ℕ × ℕ → Outcome) → Outcome
with_client w port go = when (is_serving_port w port) (client (client_at w port))
  where
    of_thread : Path → Option Thread → Outcome
    of_thread x None = Waits
    of_thread x (Some t) = if_receiving w x go t

    client : Option Path → Outcome
    client None = Waits
    client (Some x) = of_thread x (and_then thread_of (w.body x))

-- ---- give: a block of words, under the rule of Send

abbrev pub gives_words : World → Path → Path → List ℕ → ℕ → ℕ → Path → ℕ → Outcome
gives_words w port x words into room s page =
    let k = moved_words 0 (length words) into room in
    Goes (PutPage s page (overwritten (words_at w s page) (into % PAGE_WORDS) (take k words)) ∷ Alter x (CountMoved k) ∷ Alter x (Shift k) ∷ [])
    (Given (At port) k)

abbrev pub gives_to : World → Path → List ℕ → Path → ℕ × ℕ → Outcome
gives_to w port words x receive =
    if receive.1 == 0 then Goes (Alter x (End FULL []) ∷ []) (Full (At port))
    else their_page w (parent x) receive.0 (gives_words w port x words receive.0 receive.1)

-- the port's client has handed its server the turn
abbrev pub has_turn : World → Path → Bool
has_turn w port = holds (λ x. holds (λ (talk : Talk). same_side talk.turn turns.Server) (talk_at w x)) (client_at w port)

-- with nothing to give it is done at once, whatever the client does
unfoldable pub give_row : World → Path → List ℕ → Outcome
give_row w port [] = when (is_serving_port w port && has_turn w port) (Goes [] (Given (At port) 0))
give_row w port (word ∷ words) = with_client w port (gives_to w port (word ∷ words))

-- ---- over: the client's Receive is done, and the client has the turn. A native server gives no pointer

-- the slot of the reference that the thread at x is to fill
abbrev pub awaited_at : World → Path → Option ℕ
awaited_at w x = and_then (λ (t : Thread). awaited t.mode) (thread_at w x)

abbrev pub passes_client : World → Path → Path → ℕ × ℕ → Outcome
passes_client w port x receive = Goes (Alter x (PassTurn turns.Client) ∷ takes_turn x None (awaited_at w x)) (Passed (At port))

-- a native server hands its port's client the turn
unfoldable pub over_row : World → Path → Outcome
over_row w port = with_client w port (passes_client w port)
