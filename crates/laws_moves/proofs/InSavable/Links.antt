-- The rows of talks and faults, and those of native servers, keep what can be saved.
use Rattle.std.proofs.Common.{◌≡◌, ℕ, ◌%◌, ◌<◌, ◌≤◌, Bool, true, false, if◌then◌else◌, ◌&&◌, ◌==◌, nat_lt, is_none, is_some, List, [], ◌∷◌, ◌++◌, take, length}
use Rattle.std.proofs.Common.{slice_index, Option, Some, None, Result, Ok, Err, refl, inl, inr, arith}
use Rattle.std.proofs.lemmas.Bool.{cases_Bool, and_parts, leb-true, ltb-true}
use Rattle.fk_model.specs.declared.limits.TheConstants.{LAST_PORTER_SLOT, OWN_SPACE, MOST_MOVED, PAGES, PAGE_WORDS, SPACE_WORDS}
use Rattle.fk_model.specs.declared.names.Kind.TheVariants as kinds
use Rattle.fk_model.specs.declared.thread.Turn.{Turn}
use Rattle.fk_model.specs.declared.thread.Turn.TheVariants as turns
use Rattle.fk_model.specs.Places.{Path, parent, Ptr, leads_to}
use Rattle.fk_model.specs.Places.Ptr.{At}
use Rattle.fk_model.specs.Objects.{Peer, Talk, Thread, thread_of, and_then, holds, flag_of}
use Rattle.fk_model.specs.Objects.Peer.{Server, Service, Parked}
use Rattle.fk_model.specs.World.{World, apply, apply_all}
use Rattle.fk_model.specs.World.Change.{Alter}
use Rattle.fk_model.specs.Reach.{words_at}
use Rattle.fk_model.specs.TransferRows.{moved_words, taken_answers}
use Rattle.fk_model.specs.World.Edit.{SetTalk, SetFault, Finish, PassTurn}
use Rattle.fk_model.specs.Searches.{talk_at, client_at}
use Rattle.fk_model.specs.Holds.{is_free}
use Rattle.fk_model.specs.Outcomes.{Outcome, Caller, path_of, done}
use Rattle.fk_model.specs.Readers.{and_read, referred}
use Rattle.fk_model.specs.Talks.{Line, ends_beyond, receiving, same_side, awaited}
use Rattle.fk_model.specs.LinkRows.{Candidate, candidate, new_talk, is_parked, turn_number, takes_candidate, takes_picked, wait, connect, end_all, removes}
use Rattle.fk_model.specs.LinkRows.{disconnect, given_talk, link_set, link_park}
use Rattle.fk_model.specs.LinkRows.Candidate.{Faulting, Connecting, Resuming}
use Rattle.fk_model.specs.FaultRows.{frees, fault_done, given_fault, named_taker, fault_set, fault_park}
use Rattle.fk_model.specs.NativeRows.{takes_up, parked_here, connects_here, accepts_thread, accepts_found, takes_client, accept_row, is_serving_port}
use Rattle.fk_model.specs.NativeRows.{awaited_at}
use Rattle.fk_model.specs.NativeRows.{if_receiving, gives_words, gives_to, give_row, over_row, with_client, passes_client}
use Rattle.fk_model.specs.StateRows.{is_native}
use Rattle.fk_model.specs.Valid.{IsConsistent, IsRooted, all_in, is_served_port, is_turn_word, are_talk_words, are_fault_words}
use Rattle.fk_model.specs.Whole.{is_placed}
use Rattle.fk_model.proofs.walks.PlaceLaws.{leads_to_at}
use Rattle.laws_moves.proofs.InSavable.Refusals.{kept_row}
use Rattle.laws_moves.proofs.InSavable.Kept.{AreTidy, leaves_room, of_thread, KeptOutcome, waits, goes, kept-then, kept-end_all, kept-when, if-kept, kept-done}
use Rattle.laws_moves.proofs.InSavable.Kept.{IsKept}
use Rattle.laws_moves.proofs.InSavable.Kept.{kept-answers, kept-ended, kept-telling}
use Rattle.laws_moves.proofs.InSavable.Words.{IsWord, AreWords, words-take, has_way}
use Rattle.laws_moves.proofs.InSavable.Reached.{Memory}
use Rattle.laws_moves.proofs.InSavable.Answers.{small-word, flag-word, turn-word, IsFewCandidate, candidate-few}
use Rattle.laws_moves.proofs.InSavable.Persisting.{room-talked, way-counted, fits-single, single-turned}
use Rattle.laws_moves.proofs.InSavable.Rows.{their_page-kept, overwritten-words, received-way, moved-few, awaiting-single}

-- ---- wait

-- a user's Wait has at most a Receive behind it
abbrev pub HasRoom : World → Caller → Type 0
HasRoom w c = c.is_porter ≡ false → of_thread (leaves_room 2) (w.body (path_of c)) ≡ true

takes-kept : (w : World) (valid : IsConsistent w) (rooted : IsRooted w) (c : Caller) → HasRoom w c → (x : Path) (o : Option Candidate) →
    IsFewCandidate w valid rooted o → KeptOutcome w (takes_candidate c x o)
unfolding apply_all
takes-kept w valid rooted c room x None few = waits
takes-kept w valid rooted c room x (Some (Faulting slot fault)) few =
    let at = few.0 in
    let page = few.1 in
    kept-ended w c _ (slot ∷ (if is_some fault.taker then 3 else 1) ∷ fault.page ∷ flag_of fault.write ∷ []) ((λ found there. refl), tt)
    (small-word slot (omega (arith, at)), (how (is_some fault.taker), (small-word fault.page (omega (arith, page)), (flag-word fault.write, tt))))
  where
    how : (t : Bool) → IsWord (if t then 3 else 1)
    how true = refl
    how false = refl
takes-kept w valid rooted c room x (Some (Connecting slot)) few =
    let talk = Some (new_talk (At (slot ∷ c.space)) (Server (At (path_of c)))) in
    kept-answers w c (Alter x (SetTalk talk) ∷ Alter x (Finish []) ∷ []) (slot ∷ 0 ∷ []) ((refl, omega arith), ((tt, tt), tt))
    (λ user. (room-talked x talk 2 w (path_of c) (room user), (small-word slot (omega (arith, few)), (refl, tt))))
takes-kept w valid rooted c room x (Some (Resuming slot talk)) few =
    let at = few.0 in
    kept-ended w c _ (slot ∷ 2 ∷ turn_number talk.turn ∷ talk.moved ∷ []) ((λ found there. refl), tt)
    (small-word slot (omega (arith, at)), (refl, (turn-word talk.turn, (small-word talk.moved few.1, tt))))

takes_picked-kept : (w : World) → IsConsistent w → IsRooted w → AreTidy w → (c : Caller) → HasRoom w c → (set : ℕ) (pick : Option Path) →
    KeptOutcome w (takes_picked w c set pick)
takes_picked-kept w valid rooted tidy c room set None = waits
takes_picked-kept w valid rooted tidy c room set (Some x) =
    takes-kept w valid rooted c room x (candidate w c.space set x) (candidate-few w valid rooted tidy c.space set x)

pub wait-kept : (w : World) → IsConsistent w → IsRooted w → AreTidy w → (c : Caller) → HasRoom w c → (pick : Option Path) (set : ℕ) →
    KeptOutcome w (wait w c pick set)
unfolding wait
wait-kept w valid rooted tidy c room pick set = search (kept_row, takes_picked-kept)

-- ---- connect, disconnect, end and fault_done

pub connect-kept : (w : World) (c : Caller) (h : ℕ) → KeptOutcome w (connect w c h)
unfolding connect
connect-kept w c h = search kept_row

removes-kept : (w : World) (c : Caller) (side : Turn) (l : Line) → KeptOutcome w (removes w c side l)
removes-kept w c side l =
    kept-telling w _ _ (kept-done w c (end_all (ends_beyond w side l) ++ Alter l.client (SetTalk None) ∷ [])
    (kept-then (end_all (ends_beyond w side l)) _ w (kept-end_all _ w) (tt, tt)))

pub disconnect-kept : (w : World) (c : Caller) (side : Turn) → KeptOutcome w (disconnect w c side)
unfolding disconnect
disconnect-kept w c side = search (kept_row, removes-kept)

frees-kept : (w : World) (c : Caller) (x : Path) → KeptOutcome w (frees w c x)
frees-kept w c x = search (kept_row, kept-done)

pub fault_done-kept : (w : World) (c : Caller) → KeptOutcome w (fault_done w c)
unfolding fault_done
fault_done-kept w c = search (kept_row, frees-kept)

-- ---- what a porter makes again

-- the caller is a porter in its space's last slot
abbrev pub IsNester : World → Caller → Type 0
IsNester w c = holds is_native (w.body (LAST_PORTER_SLOT ∷ c.space)) ≡ true

-- the words moved, and the page, are in range
abbrev pub GivesTalk : Caller → Type 0
GivesTalk c = are_talk_words c.words ≡ true

abbrev pub GivesFault : Caller → Type 0
GivesFault c = are_fault_words c.words ≡ true

few-given : (c : Caller) → GivesTalk c → slice_index c.words 1 ≤ MOST_MOVED
few-given c given = leb-true (slice_index c.words 1) MOST_MOVED (and_parts (is_turn_word (slice_index c.words 0)) _ given).1

page-given : (c : Caller) → GivesFault c → slice_index c.words 0 < PAGES
page-given c given = ltb-true (slice_index c.words 0) PAGES (and_parts (nat_lt (slice_index c.words 0) PAGES) _ given).0

link_set-goes : (w : World) (c : Caller) → GivesTalk c → (x : Path) (at thread : Ptr) →
    KeptOutcome w (done c (Alter x (SetTalk (given_talk c at (Server thread))) ∷ []) [])
link_set-goes w c given x at thread = kept-done w c (Alter x (SetTalk (given_talk c at (Server thread))) ∷ []) ((refl, few-given c given), tt)

pub link_set-kept : (w : World) (c : Caller) → GivesTalk c → (s x port server : ℕ) → KeptOutcome w (link_set w c s x port server)
unfolding link_set
link_set-kept w c given s x port server = search (kept_row, link_set-goes) depth 9

link_park-goes : (w : World) (c : Caller) → IsNester w c → GivesTalk c → (x : Path) (port : ℕ) →
    KeptOutcome w (done c (Alter x (SetTalk (given_talk c (At (port ∷ c.space)) Parked)) ∷ []) [])
link_park-goes w c nester given x port =
    kept-done w c (Alter x (SetTalk (given_talk c (At (port ∷ c.space)) Parked)) ∷ []) ((nester, few-given c given), tt)

pub link_park-kept : (w : World) (c : Caller) → IsNester w c → GivesTalk c → (s x port : ℕ) → KeptOutcome w (link_park w c s x port)
unfolding link_park
link_park-kept w c nester given s x port = search (kept_row, link_park-goes) depth 9

taker-placed : (w : World) (c : Caller) (taker : ℕ) (at : Ptr) (by : Option Peer) → named_taker w c taker ≡ Ok by → all_in (is_placed w at) by ≡ true
taker-placed w c taker at by named = test (taker == OWN_SPACE) named
  where
    read : (r : Result Ptr ℕ) → and_read r (λ thread. Ok (Some (Server thread))) ≡ Ok by → all_in (is_placed w at) by ≡ true
    read (Ok thread) h = let same : Some (Server thread) ≡ by = cc in rw (← same) refl
    read (Err status) h = cc

    test : (t : Bool) → (if t then Ok None else and_read (referred w c kinds.Thread taker) (λ thread. Ok (Some (Server thread)))) ≡ Ok by →
        all_in (is_placed w at) by ≡ true
    test true h = let same : None ≡ by = cc in rw (← same) refl
    test false h = read (referred w c kinds.Thread taker) h

fault_set-goes : (w : World) (c : Caller) → GivesFault c → (x : Path) (taker : ℕ) (at : Ptr) (by : Option Peer) → named_taker w c taker ≡ Ok by →
    KeptOutcome w (done c (Alter x (SetFault (given_fault c at by)) ∷ []) [])
fault_set-goes w c given x taker at by named =
    kept-done w c (Alter x (SetFault (given_fault c at by)) ∷ []) ((taker-placed w c taker at by named, page-given c given), tt)

pub fault_set-kept : (w : World) (c : Caller) → GivesFault c → (s x port taker : ℕ) → KeptOutcome w (fault_set w c s x port taker)
unfolding fault_set
fault_set-kept w c given s x port taker = search (kept_row, fault_set-goes) depth 9

fault_park-goes : (w : World) (c : Caller) → IsNester w c → GivesFault c → (x : Path) (port taken : ℕ) →
    KeptOutcome w (done c (Alter x (SetFault (given_fault c (At (port ∷ c.space)) (if taken == 1 then Some Parked else None))) ∷ []) [])
fault_park-goes w c nester given x port taken =
    kept-done w c (Alter x (SetFault (given_fault c (At (port ∷ c.space)) (if taken == 1 then Some Parked else None))) ∷ [])
    ((by (taken == 1), page-given c given), tt)
  where
    by : (t : Bool) → all_in (is_placed w (At (port ∷ c.space))) (if t then Some Parked else None) ≡ true
    by true = nester
    by false = refl

pub fault_park-kept : (w : World) (c : Caller) → IsNester w c → GivesFault c → (s x port taken : ℕ) → KeptOutcome w (fault_park w c s x port taken)
unfolding fault_park
fault_park-kept w c nester given s x port taken = search (kept_row, fault_park-goes) depth 9

-- ---- accept

takes_up-kept : (w : World) (port x : Path) (t : Thread) → is_served_port w (At port) ≡ true → and_then thread_of (w.body x) ≡ Some t →
    KeptOutcome w (takes_up port x (parked_here port t))
takes_up-kept w port x t served there = by t.talk refl
  where
    up : (talk : Talk) → t.talk ≡ Some talk → (b : Bool) → (leads_to port talk.port && is_parked (Some talk.peer)) ≡ b →
        KeptOutcome w (takes_up port x (if b then Some talk else None))
    up talk e false test = waits
    up talk e true test = goes (peer, tt)
      where
        peer : (found : Talk) → talk_at w x ≡ Some found → is_placed w found.port Service ≡ true
        peer found at =
            let same : found ≡ talk = (let here : talk_at w x ≡ Some talk = rw there e in cc) in
            let to = leads_to_at port talk.port (and_parts _ _ test).0 in
            rw (same, to) served

    by : (o : Option Talk) → t.talk ≡ o →
        KeptOutcome w (takes_up port x (and_then (λ (talk : Talk). if leads_to port talk.port && is_parked (Some talk.peer) then Some talk else None) o))
    by None e = waits
    by (Some talk) e = up talk e _ refl

accepts_thread-kept : (w : World) (port x : Path) (t : Thread) → is_served_port w (At port) ≡ true → and_then thread_of (w.body x) ≡ Some t →
    KeptOutcome w (accepts_thread w port x t)
accepts_thread-kept w port x t served there = if-kept w (connects_here w port x t) _ _ (goes ((served, omega arith), ((tt, tt), tt)))
    (takes_up-kept w port x t served there)

accepts_found-kept : (w : World) (port x : Path) (o : Option Thread) → is_served_port w (At port) ≡ true → and_then thread_of (w.body x) ≡ o →
    KeptOutcome w (accepts_found w port x o)
accepts_found-kept w port x None served there = waits
accepts_found-kept w port x (Some t) served there = search (kept-when, accepts_thread-kept)

takes_client-kept : (w : World) (port : Path) (pick : Option Path) → (is_serving_port w port && is_none (client_at w port)) ≡ true →
    KeptOutcome w (takes_client w port pick)
takes_client-kept w port None free = waits
takes_client-kept w port (Some x) free =
    accepts_found-kept w port x (and_then thread_of (w.body x)) (and_parts _ _ (and_parts (is_serving_port w port) _ free).0).0 refl

pub accept_row-kept : (w : World) (port : Path) (pick : Option Path) → KeptOutcome w (accept_row w port pick)
unfolding accept_row
accept_row-kept w port pick = kept-when w _ (takes_client w port pick) (λ free. takes_client-kept w port pick free)

-- ---- give and over

-- what an option is
data Is {A : Type 0} (o : Option A) : Type 0 where
  Absent : o ≡ None → Is o
  Present : (a : A) → o ≡ Some a → Is o

is : {A : Type 0} (o : Option A) → Is o
is None = Absent refl
is (Some a) = Present a refl

-- a client at its Receive
abbrev IsAt : World → Path → ℕ × ℕ → Type 0
IsAt w x space = (t : Thread) × (and_then thread_of (w.body x) ≡ Some t) × (receiving w (parent x) turns.Client t.mode ≡ Some space)

if_receiving-kept : (w : World) (x : Path) (go : Path → ℕ × ℕ → Outcome) (t : Thread) → and_then thread_of (w.body x) ≡ Some t →
    ((x : Path) (space : ℕ × ℕ) → IsAt w x space → KeptOutcome w (go x space)) → KeptOutcome w (if_receiving w x go t)
if_receiving-kept w x go t there going = elim (cases_Bool (is_free w (parent x) t && holds (λ (talk : Talk). same_side talk.turn turns.Server) t.talk)) [
  | inr off ↦ rw off waits
  | inl on ↦ rw on (elim (is (receiving w (parent x) turns.Client t.mode)) [ Absent e ↦ rw e waits | Present space e ↦ rw e (going x space (t, there, e)) ])
]

with_client-kept : (w : World) (port : Path) (go : Path → ℕ × ℕ → Outcome) → ((x : Path) (space : ℕ × ℕ) → IsAt w x space → KeptOutcome w (go x space)) →
    KeptOutcome w (with_client w port go)
with_client-kept w port go going = elim (cases_Bool (is_serving_port w port)) [
  | inr off ↦ rw off waits
  | inl on ↦ rw on (elim (is (client_at w port)) [
    | Absent e ↦ rw e waits
    | Present x e ↦ rw e (elim (is (and_then thread_of (w.body x))) [ Absent e2 ↦ rw e2 waits | Present t e2 ↦ rw e2 (if_receiving-kept w x go t e2 going) ])
  ])
]

gives_to-kept : (w : World) → Memory w → (port : Path) (words : List ℕ) → AreWords words → (x : Path) (receive : ℕ × ℕ) → IsAt w x receive →
    KeptOutcome w (gives_to w port words x receive)
unfolding apply_all apply
gives_to-kept w memory port words all x receive at = if-kept w (receive.1 == 0) _ _ (goes ((refl, tt), tt))
    (their_page-kept w memory (parent x) receive.0 (gives_words w port x words receive.0 receive.1) (λ s page reached. goes (
      overwritten-words (words_at w s page) (take (moved_words 0 (length words) receive.0 receive.1) words) (receive.0 % PAGE_WORDS) reached.words
          (words-take _ words all),
      (tt, (way-counted x _ (moved_words 0 (length words) receive.0 receive.1) w x (way (and_then thread_of (w.body x)) at.1 reached.low), tt)),
    )))
  where
    way : (o : Option Thread) → o ≡ Some at.0 → receive.0 < SPACE_WORDS →
        all_in (λ (t : Thread). has_way (moved_words 0 (length words) receive.0 receive.1) t.mode) o ≡ true
    way (Some t) e low = let same : t ≡ at.0 = cc in
        rw same (received-way w (parent x) _ (moved-few 0 (length words) receive.0 receive.1) turns.Client at.0.mode receive at.2 low)
    way None e low = refl

pub give_row-kept : (w : World) → Memory w → (port : Path) (words : List ℕ) → AreWords words → KeptOutcome w (give_row w port words)
unfolding give_row
give_row-kept w memory port [] all = search (kept-when, goes)
give_row-kept w memory port (word ∷ words) all =
    with_client-kept w port (gives_to w port (word ∷ words)) (gives_to-kept w memory port (word ∷ words) all)

-- whatever was awaited, the thread has one stage alone then
passes_client-kept : (w : World) → AreTidy w → (port x : Path) (receive : ℕ × ℕ) → IsAt w x receive → KeptOutcome w (passes_client w port x receive)
passes_client-kept w tidy port x receive at = goes (tt, (by (awaited at.0.mode) refl, tt))
  where
    by : (to : Option ℕ) → awaited at.0.mode ≡ to →
        IsKept (apply (Alter x (PassTurn turns.Client)) w) (Alter x (Finish (taken_answers (awaited_at w x) None)))
    by None e = rw (at.1, e) (tt, tt)
    by (Some k) e = rw (at.1, e) (fits-single (0 ∷ []) _ (single-turned x turns.Client w x (awaiting-single w tidy x at.0 at.1 k e)), (refl, tt))

pub over_row-kept : (w : World) → AreTidy w → (port : Path) → KeptOutcome w (over_row w port)
unfolding over_row
over_row-kept w tidy port = with_client-kept w port (passes_client w port) (λ x receive at. passes_client-kept w tidy port x receive at)
