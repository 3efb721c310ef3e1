-- The law of the cut for a Send of a server outside: the subtree sees that words are given to a thread of it, or that it has
-- no room for them.
use Rattle.std.proofs.Common.{◌≡◌, ℕ, zero, suc, ◌+◌, ◌/◌, ◌%◌, ◌<◌, ◌≤◌, eqb, ltb, min, Bool, true, false, cond, not, ◌&&◌, List, [], ◌∷◌, ◌++◌, take, drop}
use Rattle.std.proofs.Common.{length, Option, Some, None, is_some, is_none, option_map, unwrap_or, Ok, Err, refl, sym, ap, subst, ◌∙◌, arith}
use Rattle.std.proofs.lemmas.Bool.{le-leb, lt-ltb, ne_eqb, and_parts}
use Rattle.std.proofs.lemmas.List.{length-drop, length-take-le}
use Rattle.std.proofs.Math.Seq.{drop-append_seam, take-append_seam}
use Rattle.fk_model.specs.declared.limits.TheConstants.{PAGE_WORDS, SPACE_WORDS, MAPPINGS, BLOCK_WORDS}
use Rattle.fk_model.specs.declared.names.Kind.TheVariants as kinds
use Rattle.fk_model.specs.declared.moves.Ask.TheVariants as asks
use Rattle.fk_model.specs.declared.statuses.status.TheConstants.{BADADDRESS, FULL, WRONGTURN}
use Rattle.fk_model.specs.declared.stage.Stage.TheVariants.{ServerSend}
use Rattle.fk_model.specs.declared.thread.Turn.TheVariants as turns
use Rattle.fk_model.specs.Places.{Path, same_path, strip, is_within, parent, slot_of, Ptr, leads_to}
use Rattle.fk_model.specs.Places.Ptr.{At}
use Rattle.fk_model.specs.Objects.{Talk, Thread, Body, kind_of, thread_of, and_then, or_else, holds}
use Rattle.fk_model.specs.Objects.Peer.{Server}
use Rattle.fk_model.specs.Objects.Body.{Mutex, Space, Port}
use Rattle.fk_model.specs.World.{World, Change, apply_all, serves}
use Rattle.fk_model.specs.World.Change.{Alter, PutPage}
use Rattle.fk_model.specs.World.Edit.{Shift, Finish, End, CountMoved, SetFault}
use Rattle.fk_model.specs.Searches.{talk_at, client_of, client_at, objects, thread_at}
use Rattle.fk_model.specs.Reach.{Reach, at_home, mapped, followed, mapping_at, keeper, led_by, reach_within, reach, reach_word, words_at}
use Rattle.fk_model.specs.Reach.Reach.{Home, Missing, Bad}
use Rattle.fk_model.specs.Holds.{holder_of, decider, is_frozen_for, is_free, is_unheld, is_frozen}
use Rattle.fk_model.specs.Outcomes.{Said, Outcome, ◌>>=◌, when, done, listed}
use Rattle.fk_model.specs.Outcomes.Outcome.{Refused, Waits, Goes}
use Rattle.fk_model.specs.Outcomes.Said.{Nothing, Full, Given as SaidGiven}
use Rattle.fk_model.specs.NativeRows.{is_serving_port, has_turn, if_receiving, gives_words, gives_to, give_row}
use Rattle.fk_model.specs.Readers.{own_page_at, own_page, their_page_at, their_page}
use Rattle.fk_model.specs.Talks.{Line, line, same_side, receiving, thread_led_to}
use Rattle.fk_model.specs.TransferRows.{overwritten, block, to_page_end, moved_words, sends_words, sends_into, sends_to_thread, sends, send}
use Rattle.fk_model.specs.LinkRows.{user_at}
use Rattle.fk_model.specs.Moves.{with_pick, closed, call_row, outcome, GoesAllowed, IsReady, stepped, step}
use Rattle.fk_model.specs.Valid.{is_fit, kind_there, leads_there, is_good_peer, lies_with, all_in, is_good, is_one_of, IsConsistent}
use Rattle.fk_model.specs.Whole.{HasFullPages, IsWhole}
use Rattle.fk_model.specs.Cut.{is_out, ports_of, cut_ptr, cut, IsPlain}
use Rattle.fk_model.specs.Further.{Touch, Onward, Told, if_awaiting, given_to, filled_at, touch_row, IsOnward}
use Rattle.fk_model.specs.Further.Touch.{Given, Filled}
use Rattle.fk_model.specs.Further.Onward.{ByOthers}
use Rattle.fk_model.specs.Seen.Seen.{Onwards, Unseen, Other}
use Rattle.fk_model.specs.Seen.{Seen, count_set, page_put, fills, given_by, given_of, received_words, on_inner, IsSeen}
use Rattle.fk_model.proofs.walks.PlaceLaws.{same_path_eq, same_path_refl, strip-append}
use Rattle.laws_subtrees.specs.Cut.CutLaws.{HasDone, KeepsCut, IsAtStage, moves, IsServerSend, StageKeepsCut}
use Rattle.laws_subtrees.specs.Cut.Likeness.{seen_thread, PtrLikeness, ReachLikeness, AlikeOptions, IsSeenAs}
use Rattle.laws_subtrees.specs.Cut.Likeness.PtrLikeness.{Nulls, Deads, Inside, PortAt, PortOut}
use Rattle.laws_subtrees.specs.Cut.Likeness.ReachLikeness.{Homes, Misses, Bads}
use Rattle.laws_subtrees.specs.Cut.LikeChanges.{LikeChanges}
use Rattle.laws_subtrees.specs.Cut.LikeChanges.LikeChange.{Alters, PutsPage}
use Rattle.laws_subtrees.specs.Cut.LikeChanges.LikeChanges.{Empty, Both, Beyond}
use Rattle.laws_subtrees.proofs.InCut.likeness.Instances.{cut-like}
use Rattle.laws_subtrees.proofs.InCut.likeness.Memory.{reach_word-like, words_at-like}
use Rattle.laws_subtrees.proofs.InCut.likeness.Holds.{strip_none, decider-like, is_free-like, unheld-free}
use Rattle.laws_subtrees.proofs.InCut.cut.Plain.{AreQuiet}
use Rattle.laws_subtrees.proofs.InCut.cut.Inside.{thread_seen, thread_beneath}
use Rattle.laws_subtrees.proofs.InCut.likeness.Servers.{find_some, serves_is, good_talk}
use Rattle.laws_subtrees.proofs.InCut.cut.Pages.{has_touched, seen_outside, taken_row, stands_in_slot}
use Rattle.laws_subtrees.proofs.InCut.talks.Clients.{some_words, outside_at}
use Rattle.laws_subtrees.proofs.InCut.talks.Sends.{still-when, still-call, still-send, still-plain, server_send_keeps}
use Rattle.laws_subtrees.proofs.InCut.cut.Outside.{stage_outcome, stage_called}
use Rattle.laws_subtrees.proofs.InCut.likeness.Sends.{receiving-like}
use Rattle.laws_subtrees.proofs.InCut.talks.Accepts.{outward}

-- ---- pages that are there

-- a home page is there
abbrev IsThere : World → Reach → Type 0
IsThere w (Home s page) = is_some (w.page s page) ≡ true
IsThere w (Missing s page keeper) = Unit {0}
IsThere w Bad = Unit {0}

there-home : (w : World) (s : Path) (page : ℕ) (away : Reach) (o : Option (List ℕ)) →
    w.page s page ≡ o → IsThere w away → IsThere w (at_home (Home s page) away o)
there-home w s page away None e h = h
there-home w s page away (Some words) e h = ap is_some e

there-mapped : (w : World) (go : _ → Reach) (missing : Reach) (o : Option _) →
    ((m : _) → IsThere w (go m)) → IsThere w missing → IsThere w (mapped go missing o)
there-mapped w go missing None h g = g
there-mapped w go missing (Some m) h g = h m

there-followed : (w : World) (go : Path → ℕ → Reach) (o : Option (Path × ℕ)) → ((s : Path) (page : ℕ) → IsThere w (go s page)) → IsThere w (followed go o)
there-followed w go None h = tt
there-followed w go (Some place) h = h place.0 place.1

there-reach_by : (n : ℕ) (w : World) (s : Path) (page : ℕ) (write : Bool) → IsThere w (reach_within n w s page write)
unfolding reach_within
there-reach_by zero w s page write = there-home w s page _ (w.page s page) refl (there-mapped w _ _ (mapping_at w s page) (λ m. tt) tt)
there-reach_by (suc n) w s page write =
    there-home w s page _ (w.page s page) refl
    (there-mapped w _ _ (mapping_at w s page) (λ m. there-followed w _ (led_by w m page write m.region) (λ t other. there-reach_by n w t other write)) tt)

there-word : (w : World) (s : Path) (address : ℕ) (write : Bool) → IsThere w (reach_word w s address write)
unfolding reach
there-word w s address write = by (ltb address SPACE_WORDS)
  where
    by : (b : Bool) → IsThere w (cond b (reach w s (address / PAGE_WORDS) write) Bad)
    by true = there-reach_by MAPPINGS w s (address / PAGE_WORDS) write
    by false = tt

full_page : (w : World) → HasFullPages w → (s : Path) (page : ℕ) → is_some (w.page s page) ≡ true → length (words_at w s page) ≡ PAGE_WORDS
full_page w full s page there = by (w.page s page) refl there
  where
    by : (o : Option (List ℕ)) → w.page s page ≡ o → is_some o ≡ true → length (unwrap_or o []) ≡ PAGE_WORDS
    by None e h = cc
    by (Some words) e h = full s page words e

-- ---- a block of words, and a page into which it was written

block_long : (m address : ℕ) (page : List ℕ) → length page ≡ PAGE_WORDS → m ≤ to_page_end address → length (block m address page) ≡ m
block_long m address page long fits = length-take-le m (drop (address % PAGE_WORDS) page) (omega (arith, long, fits, length-drop (address % PAGE_WORDS) page))

take_back : (m at : ℕ) (page words : List ℕ) → at ≤ length page → length words ≡ m → take m (drop at (overwritten page at words)) ≡ words
take_back m at page words inside long =
    let head : length (take at page) ≡ at = length-take-le at page inside in
    let rest : List ℕ = words ++ drop (at + length words) page in
    let behind : drop at (take at page ++ rest) ≡ rest = subst (λ (n : ℕ). drop n (take at page ++ rest) ≡ rest) head (drop-append_seam (take at page) rest) in
    ap (take m) behind ∙ subst (λ (n : ℕ). take n rest ≡ words) long (take-append_seam words (drop (at + length words) page))

-- ---- who decides is a thread

decider_thread : (w : World) → IsConsistent w → (x : Path) (p : Ptr) → decider w x ≡ Some p → leads_there (kind_there w) (kinds.Thread ∷ []) p ≡ true
unfolding decider
decider_thread w valid x p = by x
  where
    holds_thread : (x : Path) → holder_of (w.body x) ≡ Some p → leads_there (kind_there w) (kinds.Thread ∷ []) p ≡ true
    holds_thread x h = of (w.body x) (valid.good x) h
      where
        of : (o : Option Body) → all_in (is_good (kind_there w) x) o ≡ true → holder_of o ≡ Some p → leads_there (kind_there w) (kinds.Thread ∷ []) p ≡ true
        of (Some (Space birth (Some q))) good h = let same : q ≡ p = cc in rw same at good
        of (Some (Space birth None)) good h = cc
        of (Some (Mutex locked)) good h = cc
        of (Some b) good h = cc
        of None good h = cc

    either : (o q : Option Ptr) → or_else o q ≡ Some p → (o ≡ Some p → leads_there (kind_there w) (kinds.Thread ∷ []) p ≡ true) →
        (q ≡ Some p → leads_there (kind_there w) (kinds.Thread ∷ []) p ≡ true) → leads_there (kind_there w) (kinds.Thread ∷ []) p ≡ true
    either None q h first second = second h
    either (Some r) q h first second = first h

    by : (x : Path) → decider w x ≡ Some p → leads_there (kind_there w) (kinds.Thread ∷ []) p ≡ true
    by [] h = holds_thread [] h
    by (k ∷ x) h = either (decider w x) (holder_of (w.body (k ∷ x))) h (by x) (holds_thread (k ∷ x))

-- what one outside may change, where nobody holds the subtree itself, no hold inside freezes
pub thawed : (w : World) (nester : Path) (slot : ℕ) (plain : IsPlain w nester slot) → IsConsistent w → (me : Path) → is_within (slot ∷ nester) me ≡ false →
    is_frozen w (slot ∷ nester) ≡ false → (s : Path) → is_frozen_for w me (s ++ slot ∷ nester) ≡ false → is_frozen (cut w nester slot) s ≡ false
unfolding kind_there
thawed w nester slot plain valid me out free s allowed =
    let like = cut-like w nester slot plain in
    by (decider small s) (decider w (s ++ root)) refl refl (decider-like like free s)
  where
    root : Path
    root = slot ∷ nester

    small : World
    small = cut w nester slot

    see : Ptr → Ptr
    see = cut_ptr (ports_of w nester slot) nester slot

    nobody : (p seen : Ptr) → PtrLikeness root w p seen → leads_there (kind_there w) (kinds.Thread ∷ []) p ≡ true → leads_to me p ≡ true → ⊥
    nobody _ _ Nulls thread mine = cc
    nobody _ _ Deads thread mine = cc
    nobody _ _ (Inside y) thread mine =
        let same = same_path_eq (y ++ root) me mine in
        let there : is_within root me ≡ true = ap (is_within root) (sym same) ∙ ap is_some (strip-append root y) in
        let clash : true ≡ false = sym there ∙ out in
        cc
    nobody _ _ (PortAt y slot apart kind) thread mine = port (w.body y) kind thread
      where
        port : (o : Option Body) → and_then (λ b. Some (kind_of b)) o ≡ Some kinds.Port → is_one_of (kinds.Thread ∷ []) (option_map kind_of o) ≡ true → ⊥
        port None kind thread = cc
        port (Some b) kind thread = let same : kind_of b ≡ kinds.Port = cc in let never = rw same at thread in cc
    nobody _ _ (PortOut old slot) thread mine = cc

    by : (o p : Option Ptr) → decider small s ≡ o → decider w (s ++ root) ≡ p → AlikeOptions (IsSeenAs root see w) o p → is_frozen small s ≡ false
    by None p e f h = rw e refl
    by (Some seen) None e f h = absurd h
    by (Some seen) (Some p) e f h =
        absurd (nobody p (see p) h.1 (decider_thread w valid (s ++ root) p f) (not_off (leads_to me p) (rw f at allowed)))
      where
        not_off : (b : Bool) → not b ≡ false → b ≡ true
        not_off true h = refl
        not_off false h = cc

-- ---- whom a server outside serves, it serves at a port outside

module _ (w : World) (root : Path) (birth : ℕ) (holder : Option Ptr) (top : w.body root ≡ Some (Space birth holder)) where
  pub port_out : (j : ℕ) (s : Path) → is_within root (j ∷ s) ≡ false →
      (p seen : Ptr) → PtrLikeness root w p seen → leads_there (kind_there w) (kinds.Port ∷ []) p ≡ true → lies_with p (At (j ∷ s)) → is_out seen ≡ true
  unfolding kind_there
  port_out j s out _ _ Nulls good near = cc
  port_out j s out _ _ Deads good near = cc
  port_out j s out _ _ (Inside []) good near = let off = rw top at good in cc
  port_out j s out _ _ (Inside (i ∷ y)) good near =
      let there : is_within root (j ∷ s) ≡ true = ap (λ (v : Path). is_within root (j ∷ v)) near ∙ ap is_some (strip-append root (j ∷ y)) in
      let clash : true ≡ false = sym there ∙ out in
      cc
  port_out j s out _ _ (PortAt y slot apart kind) good near = refl
  port_out j s out _ _ (PortOut old slot) good near = refl

-- who is served, with its talk
pub its_client : (w : World) (j : ℕ) (s c : Path) → client_of w (j ∷ s) ≡ Some c →
    (t : Thread) × (talk : Talk) × (and_then thread_of (w.body c) ≡ Some t) × (t.talk ≡ Some talk) × (talk.peer ≡ Server (At (j ∷ s)))
unfolding client_of
its_client w j s c served =
    by (and_then thread_of (w.body c)) refl (find_some (λ (y : Path). holds (λ (talk : Talk). serves (j ∷ s) talk.peer) (talk_at w y)) (objects w) c served)
  where
    of_talk : (t : Thread) → and_then thread_of (w.body c) ≡ Some t → (o : Option Talk) → t.talk ≡ o → holds (λ (talk : Talk). serves (j ∷ s) talk.peer)
        o ≡ true → (t : Thread) × (talk : Talk) × (and_then thread_of (w.body c) ≡ Some t) × (t.talk ≡ Some talk) × (talk.peer ≡ Server (At (j ∷ s)))
    of_talk t is None its h = cc
    of_talk t is (Some talk) its h = (t, talk, is, its, serves_is (j ∷ s) talk.peer h)

    by : (o : Option Thread) →
        and_then thread_of (w.body c) ≡ o → holds (λ (talk : Talk). serves (j ∷ s) talk.peer) (and_then (λ (t : Thread). t.talk) o) ≡ true →
        (t : Thread) × (talk : Talk) × (and_then thread_of (w.body c) ≡ Some t) × (t.talk ≡ Some talk) × (talk.peer ≡ Server (At (j ∷ s)))
    by None is h = cc
    by (Some t) is h = of_talk t is t.talk refl h

-- it lies inside, and its talk is at a port outside
pub served_outward : (w : World) (nester : Path) (slot : ℕ) → IsPlain w nester slot →
    IsWhole w → (j : ℕ) (s : Path) → is_within (slot ∷ nester) (j ∷ s) ≡ false → (k : ℕ) (z : Path) → client_of w (j ∷ s) ≡ Some (k ∷ (z ++ slot ∷ nester)) →
    (t : Thread) × (talk : Talk) × (and_then thread_of (w.body (k ∷ (z ++ slot ∷ nester))) ≡ Some t) ×
    (t.talk ≡ Some talk) × (is_out (cut_ptr (ports_of w nester slot) nester slot talk.port) ≡ true)
served_outward w nester slot plain sound j s out k z served =
    let its = its_client w j s (k ∷ (z ++ slot ∷ nester)) served in
    let talk = its.1 in
    let talks : talk_at w (k ∷ (z ++ slot ∷ nester)) ≡ Some talk = ap (and_then (λ (t : Thread). t.talk)) its.2 ∙ its.3 in
    let seen = outside_at (cut-like w nester slot plain) k z _ refl talk talks in
    let good = good_talk (kind_there w)
    (k ∷ (z ++ slot ∷ nester)) (w.body (k ∷ (z ++ slot ∷ nester))) talk (sound.valid.consistent.good (k ∷ (z ++ slot ∷ nester))) talks in
    let near = sound.valid.consistent.talks_near (k ∷ (z ++ slot ∷ nester)) talk (At (j ∷ s)) talks its.4 in
    let port = port_out w (slot ∷ nester) plain.birth plain.holder plain.root j s out talk.port (cut_ptr (ports_of w nester slot) nester slot talk.port)
    seen.1.0 (and_parts (leads_there (kind_there w) (kinds.Port ∷ []) talk.port) (is_good_peer (kind_there w) talk.peer) good).0 near in
    (its.0, talk, its.2, its.3, port)

module _ (w : World) (nester : Path) (slot : ℕ) (plain : IsPlain w nester slot) (full : HasFullPages w) (valid : IsConsistent w) (x : Path) (out : is_within
    (slot ∷ nester) (slot_of x ∷ parent x) ≡ false) (k : ℕ) (z : Path) (t : Thread) (is : and_then thread_of (w.body (k ∷ (z ++ slot ∷ nester))) ≡ Some t)
    (talk : Talk) (its : t.talk ≡ Some talk) (outward : is_out (cut_ptr (ports_of w nester slot) nester slot talk.port) ≡ true) where
  abbrev root : Path
  root = slot ∷ nester

  abbrev see : Ptr → Ptr
  see = cut_ptr (ports_of w nester slot) nester slot

  abbrev small : World
  small = cut w nester slot

  abbrev me : Path
  me = slot_of x ∷ parent x

  abbrev client : Path
  client = k ∷ (z ++ root)

  abbrev IsTouched : Touch → World → Type 0
  IsTouched touch later = IsPlain later nester slot × ((told : List Told) × IsOnward small (ByOthers touch) told (cut later nester slot))

  -- what is seen of a row's changes, where they are allowed, has been done to the subtree
  abbrev Touches : Outcome → Type 0
  Touches o = (touch : Touch) → GoesAllowed w me o → given_of w (listed o) client (k ∷ z) ≡ Some touch → IsTouched touch (stepped w o).world

  nothing_seen : (o : Outcome) → count_set (listed o) ≡ None → fills client (listed o) ≡ false → Touches o
  nothing_seen o uncounted unfilled touch allowed h = absurd (by (count_set (listed o)) (fills client (listed o)) uncounted unfilled h)
    where
      by : (count : Option ℕ) (b : Bool) → count ≡ None → b ≡ false → given_by w client (k ∷ z) (listed o) count (page_put (listed o)) ≡ Some touch → ⊥
      by count b e f = rw e (λ h. let off = rw unfilled at h in cc)

  not_client : same_path me client ≡ false
  not_client = by (same_path me client) refl
    where
      by : (b : Bool) → same_path me client ≡ b → b ≡ false
      by false e = refl
      by true e =
          let there : is_within root me ≡ true = ap (is_within root) (same_path_eq me client e) ∙ ap is_some (strip-append root (k ∷ z)) in
          sym there ∙ out

  touches-closed : (o : Outcome) → Touches o → Touches (closed (user_at x) o)
  touches-closed (Refused status) h = nothing_seen (Goes (Alter me (End status []) ∷ []) Nothing) refl not_client
  touches-closed Waits h = h
  touches-closed (Goes cs said) h = h

  touches-when : (b : Bool) (o : Outcome) → Touches o → Touches (when b o)
  touches-when true o h = h
  touches-when false o h = nothing_seen Waits refl refl

  pub touches-picked : (pick : Option Path) (o : Outcome) → Touches o → Touches (with_pick false pick o)
  touches-picked pick (Refused status) h = touches-when (is_none pick) (Refused status) h
  touches-picked pick Waits h = h
  touches-picked pick (Goes cs said) h = touches-when (is_none pick) (Goes cs said) h

  touches-own : (go : Path → ℕ → Outcome) (r : Reach) →
      IsThere w r → ((s : Path) (page : ℕ) → is_some (w.page s page) ≡ true → Touches (go s page)) → Touches (own_page_at me false go r)
  touches-own go (Home s page) there h = h s page there
  touches-own go (Missing s page None) there h = nothing_seen (Refused BADADDRESS) refl refl
  touches-own go (Missing s page (Some port)) there h =
      nothing_seen (Goes (Alter me (SetFault (Some (record { page = page; write = false; port = port; taker = None }))) ∷ []) Nothing) refl refl
  touches-own go Bad there h = nothing_seen (Refused BADADDRESS) refl refl

  -- ---- the client awaits words

  module _ (turn : same_side talk.turn turns.Server ≡ true)
      (free : is_free w (z ++ root) t ≡ true) (receive : ℕ × ℕ) (awaits : receiving w (z ++ root) turns.Client t.mode ≡ Some receive) where
    here : thread_at small (k ∷ z) ≡ Some (seen_thread see t)
    here = rw ((cut-like w nester slot plain).bodies (k ∷ z)) (thread_seen see k z (w.body client) t is)

    free_here : is_free small z (seen_thread see t) ≡ true
    free_here = let like = cut-like w nester slot plain in is_free-like like (unheld-free like z t free) z t ∙ free

    awaiting : (go : ℕ × ℕ → Outcome) → if_awaiting small (k ∷ z) go (seen_thread see t) ≡ go receive
    awaiting go = let like = cut-like w nester slot plain in
        rw (free_here, its, receiving-like like z turns.Client t.mode ∙ awaits) (rw (outward, turn) refl)

    filled_row : eqb receive.1 0 ≡ true → touch_row small (Filled (k ∷ z)) ≡ Goes (Alter (k ∷ z) (End FULL []) ∷ []) Nothing
    unfolding touch_row
    filled_row none = rw here (awaiting (filled_at (k ∷ z)) ∙ rw none refl)

    filled : eqb receive.1 0 ≡ true → Touches (Goes (Alter client (End FULL []) ∷ []) Nothing)
    filled none touch allowed h =
        let same = rw (same_path_refl client) at h in
        let form : touch ≡ Filled (k ∷ z) = cc in
        rw form (has_touched w nester slot plain (Filled (k ∷ z)) (Alter (k ∷ z) (End FULL []) ∷ [])
        (Alter client (End FULL []) ∷ []) Nothing (filled_row none) (Both (Alters k z _ (End FULL []) refl tt) Empty) (tt, tt))

    -- ---- the words that it gets

    module _ (m : ℕ) (words : List ℕ) (longs : length words ≡ m) (some : 0 < m) (room : m ≤ min BLOCK_WORDS (min receive.1 (to_page_end receive.0))) where
      module _ (s : Path) (p : ℕ) (home : reach_word small z receive.0 true ≡ Home s p) (there : is_some (w.page (s ++ root) p) ≡ true) where
        abbrev put : List ℕ
        put = overwritten (words_at w (s ++ root) p) (receive.0 % PAGE_WORDS) words

        abbrev near : List Change
        near = PutPage s p put ∷ Alter (k ∷ z) (CountMoved (length words)) ∷ Alter (k ∷ z) (Shift (length words)) ∷ []

        abbrev far : List Change → List Change
        far tail = PutPage (s ++ root) p put ∷ Alter client (CountMoved m) ∷ Alter client (Shift m) ∷ tail

        -- a page that one outside may write, where nobody holds the subtree itself, nobody holds
        unheld_here : is_frozen_for w me (s ++ root) ≡ false → is_unheld small s ≡ true
        unheld_here allowed =
            let like = cut-like w nester slot plain in ap not (thawed w nester slot plain valid me out (unheld-free like z t free) s allowed)

        given_row : is_unheld small s ≡ true → touch_row small (Given (k ∷ z) words) ≡ Goes near Nothing
        unfolding touch_row
        given_row unheld =
            rw here (awaiting (given_to small (k ∷ z) words) ∙ rw (
              lt-ltb 0 (length words) (omega (arith, longs, some)),
              le-leb (length words) (min BLOCK_WORDS
                  (min receive.1 (to_page_end receive.0))) (omega (arith, longs, room)),
              home,
              unheld,
              words_at-like (cut-like w nester slot plain) s p,
            ) refl)

        read_back : received_words w client m put ≡ words
        read_back =
            rw (is, awaits) (take_back m (receive.0 % PAGE_WORDS) (words_at w (s ++ root) p) words (omega (arith, full_page w full (s ++ root) p there)) longs)

        given : (tail : List Change) (said : Said) → LikeChanges root see (apply_all (far []) w) [] tail → AreQuiet root tail → Touches (Goes (far tail) said)
        unfolding apply_all
        given tail said beyond quiet touch allowed h =
            let shown : Some (Given (k ∷ z) words) ≡ Some touch = subst (λ (v : List ℕ). Some (Given (k ∷ z) v) ≡ Some touch) read_back h in
            let form : touch ≡ Given (k ∷ z) words = cc in
            rw form (has_touched w nester slot plain (Given (k ∷ z) words) near (far tail)
            Nothing (given_row (unheld_here allowed.0))
            (Both (PutsPage s p put) (Both (Alters k z (CountMoved (length words)) (CountMoved m) (ap (λ (n : ℕ). CountMoved n) longs) tt)
            (Both (Alters k z (Shift (length words)) (Shift m) (ap (λ (n : ℕ). Shift n) longs) tt) beyond))) (tt, (tt, (tt, quiet))))

  -- ---- the row of a Send

  sent : (turn : same_side talk.turn turns.Server ≡ true)
      (free : is_free w (z ++ root) t ≡ true) (receive : ℕ × ℕ) (awaits : receiving w (z ++ root) turns.Client t.mode ≡ Some receive) (address count : ℕ)
      (page : List ℕ) →
      length page ≡ PAGE_WORDS → 0 < moved_words address count receive.0 receive.1 →
      (s : Path) (p : ℕ) → reach_word small z receive.0 true ≡ Home s p → is_some (w.page (s ++ root) p) ≡ true → Touches (sends_words (user_at x)
      client client (moved_words address count receive.0 receive.1) address count page receive.0 (s ++ root) p (words_at w (s ++ root) p))
  sent turn free receive awaits address count page long some s p home there = by (eqb m count)
    where
      m : ℕ
      m = moved_words address count receive.0 receive.1

      far : List Change → List Change
      far tail = PutPage (s ++ root)
          p (overwritten (words_at w (s ++ root) p) (receive.0 % PAGE_WORDS) (block (moved_words address count receive.0 receive.1) address page)) ∷ Alter
          client (CountMoved (moved_words address count receive.0 receive.1)) ∷ Alter client (Shift (moved_words address count receive.0 receive.1)) ∷ tail

      goes : (tail : List Change) → LikeChanges root see (apply_all (far []) w) [] tail → AreQuiet root tail → Touches (Goes (far tail) Nothing)
      goes tail beyond quiet =
          given turn free receive awaits (moved_words address count receive.0 receive.1) (block (moved_words address count receive.0 receive.1) address page)
          (block_long (moved_words address count receive.0 receive.1) address page long (omega arith))
          some (omega arith) s p home there tail Nothing beyond quiet

      by : (b : Bool) → Touches (cond b (Goes (far (Alter me (Shift m) ∷ Alter me (Finish []) ∷ [])) Nothing) (Goes (far (Alter me (Shift m) ∷ [])) Nothing))
      by true = goes (Alter me (Shift m) ∷ Alter me (Finish []) ∷ []) (Beyond out (Beyond out Empty)) (tt, (tt, tt))
      by false = goes (Alter me (Shift m) ∷ []) (Beyond out Empty) (tt, tt)

  their : (turn : same_side talk.turn turns.Server ≡ true)
      (free : is_free w (z ++ root) t ≡ true) (receive : ℕ × ℕ) (awaits : receiving w (z ++ root) turns.Client t.mode ≡ Some receive) (address count : ℕ)
      (page : List ℕ) →
      length page ≡ PAGE_WORDS → 0 < moved_words address count receive.0 receive.1 →
      (a b : Reach) → reach_word small z receive.0 true ≡ a → IsThere w b → ReachLikeness root see w a b → Touches (their_page_at (λ s other.
      sends_words (user_at x) client client (moved_words address count receive.0 receive.1) address count page receive.0 s other (words_at w s other)) b)
  their turn free receive awaits address count page long some _ _ e there (Homes s p) = sent turn free receive awaits address count page long some s p e there
  their turn free receive awaits address count page long some _ _ e there (Misses s p keeper port h) = nothing_seen Waits refl refl
  their turn free receive awaits address count page long some _ _ e there Bads = nothing_seen Waits refl refl

  into : same_side talk.turn turns.Server ≡ true → is_free w (z ++ root) t ≡ true → (address count : ℕ) (page : List ℕ) → length page ≡ PAGE_WORDS →
      eqb count 0 ≡ false → (o : Option (ℕ × ℕ)) → receiving w (z ++ root) turns.Client t.mode ≡ o → Touches
      (sends_into w (user_at x) client client address count page o)
  into turn free address count page long many None awaits = nothing_seen Waits refl refl
  into turn free address count page long many (Some receive) awaits = by (eqb receive.1 0) refl
    where
      by : (b : Bool) → eqb receive.1 0 ≡ b → Touches (cond b (Goes (Alter client (End FULL []) ∷ []) Nothing) (their_page w (z ++ root) receive.0 (λ s other.
          sends_words (user_at x) client client (moved_words address count receive.0 receive.1) address count page receive.0 s other (words_at w s other))))
      by true e = filled turn free receive awaits e
      by false e =
          their turn free receive awaits address count page long (some_words address count receive.0 receive.1 many e)
          (reach_word small z receive.0 true) (reach_word w (z ++ root) receive.0 true) refl (there-word w (z ++ root) receive.0 true)
          (reach_word-like (cut-like w nester slot plain) z receive.0 true)

  to_thread : same_side talk.turn turns.Server ≡ true → (address count : ℕ) (page : List ℕ) → length page ≡ PAGE_WORDS →
      eqb count 0 ≡ false → Touches (sends_to_thread w (user_at x) turns.Server client address count page (thread_led_to w (At client)))
  to_thread turn address count page long many = rw is (by (is_free w (z ++ root) t) refl)
    where
      by : (b : Bool) →
          is_free w (z ++ root) t ≡ b → Touches
          (when b (sends_into w (user_at x) client client address count page (receiving w (z ++ root) turns.Client t.mode)))
      by true e = into turn e address count page long many (receiving w (z ++ root) turns.Client t.mode) refl
      by false e = nothing_seen Waits refl refl

  abbrev its_line : Line
  its_line = record { client = client; talk = talk; other = Server (At client) }

  sends_seen : same_side talk.turn turns.Server ≡ true → (address count : ℕ) → Touches (sends w (user_at x) turns.Server address count its_line)
  sends_seen turn address count = by (eqb count 0) refl
    where
      by : (b : Bool) → eqb count 0 ≡ b → Touches (cond b (done (user_at x) [] []) (own_page w (user_at x)
          address false (λ s page. sends_to_thread w (user_at x) turns.Server client address count (words_at w s page) (thread_led_to w (At client)))))
      by true e = nothing_seen (Goes (Alter me (Finish []) ∷ []) Nothing) refl refl
      by false e = touches-own _ (reach_word w (parent x) address false)
          (there-word w (parent x) address false) (λ s page there. to_thread turn address count (words_at w s page) (full_page w full s page there) e)

  send_seen : client_of w me ≡ Some client → (address count : ℕ) → Touches (send w (user_at x) turns.Server address count)
  unfolding send line
  send_seen served address count = rw (served, ap (and_then (λ (t : Thread). t.talk)) is ∙ its) (by (same_side talk.turn turns.Server) refl)
    where
      by : (b : Bool) → same_side talk.turn turns.Server ≡ b → Touches (cond b (Ok its_line) (Err WRONGTURN) >>= sends w (user_at x) turns.Server address count)
      by true e = sends_seen e address count
      by false e = nothing_seen (Refused WRONGTURN) refl refl

  call_seen : client_of w me ≡ Some client → (address count : ℕ) (pick : Option Path) → Touches (call_row w (user_at x) pick (ServerSend address count))
  unfolding call_row
  call_seen served address count pick = touches-closed _ (touches-picked pick _ (send_seen served address count))

  -- ---- the row of a native server

  touches-so : (b : Bool) (o : Outcome) → (b ≡ true → Touches o) → Touches (when b o)
  touches-so true o h = h refl
  touches-so false o h = nothing_seen Waits refl refl

  native_words : same_side talk.turn turns.Server ≡ true → is_free w (z ++ root) t ≡ true →
      (receive : ℕ × ℕ) → receiving w (z ++ root) turns.Client t.mode ≡ Some receive → (port : Path) (words : List ℕ) → 0 < moved_words 0
      (length words) receive.0 receive.1 →
      (a b : Reach) → reach_word small z receive.0 true ≡ a → IsThere w b → ReachLikeness root see w a b →
      Touches (their_page_at (gives_words w port client words receive.0 receive.1) b)
  native_words turn free receive awaits port words some _ _ home there (Homes s p) =
      let m : ℕ = moved_words 0 (length words) receive.0 receive.1 in
      given turn
      free receive awaits m (take m words) (length-take-le m words (omega arith)) some (omega arith) s p home there [] (SaidGiven (At port) m) Empty tt
  native_words turn free receive awaits port words some _ _ home there (Misses s p keeper kept h) = nothing_seen Waits refl refl
  native_words turn free receive awaits port words some _ _ home there Bads = nothing_seen Waits refl refl

  native_gives : same_side talk.turn turns.Server ≡ true → is_free w (z ++ root) t ≡ true → (receive : ℕ × ℕ) → receiving w (z ++ root) turns.Client t.mode
      ≡ Some receive →
      (port : Path) (words : List ℕ) → eqb (length words) 0 ≡ false → Touches (gives_to w port words client receive)
  native_gives turn free receive awaits port words many = by (eqb receive.1 0) refl
    where
      by : (b : Bool) → eqb receive.1 0 ≡ b → Touches (cond b
          (Goes (Alter client (End FULL []) ∷ []) (Full (At port))) (their_page w (z ++ root) receive.0 (gives_words w port client words receive.0 receive.1)))
      by true e = filled turn free receive awaits e
      by false e =
          native_words turn free receive awaits port words (some_words 0 (length words) receive.0 receive.1 many e)
          (reach_word small z receive.0 true) (reach_word w (z ++ root) receive.0 true) refl (there-word w (z ++ root) receive.0 true)
          (reach_word-like (cut-like w nester slot plain) z receive.0 true)

  native_client : (go : Path → ℕ × ℕ → Outcome) → (same_side talk.turn turns.Server ≡ true → is_free w (z ++ root) t ≡ true →
      (receive : ℕ × ℕ) → receiving w (z ++ root) turns.Client t.mode ≡ Some receive → Touches (go client receive)) → Touches (if_receiving w client go t)
  native_client go goes = by (receiving w (z ++ root) turns.Client t.mode) refl
    where
      by : (o : Option (ℕ × ℕ)) → receiving w (z ++ root) turns.Client t.mode ≡ o → Touches (if_receiving w client go t)
      by None e = rw e (touches-when _ Waits (nothing_seen Waits refl refl))
      by (Some receive) e = rw (e, its) (touches-so (is_free w (z ++ root) t && same_side talk.turn turns.Server)
          (go client receive) (λ on. let both = and_parts (is_free w (z ++ root) t) (same_side talk.turn turns.Server) on in goes both.1 both.0 receive e))

  pub give_seen : (port : Path) → client_at w port ≡ Some client → (words : List ℕ) → Touches (give_row w port words)
  unfolding give_row
  give_seen port served [] = touches-when (is_serving_port w port && has_turn w port) _ (nothing_seen (Goes [] (SaidGiven (At port) 0)) refl refl)
  give_seen port served (word ∷ words) = touches-when (is_serving_port w port) _ (rw (served, is) (native_client (gives_to w port (word ∷ words))
      (λ turn free receive awaits. native_gives turn free receive awaits port (word ∷ words) (ne_eqb (length (word ∷ words)) 0 (λ e. omega (arith, e))))))

-- ---- the law

module _ (w : World) (nester : Path) (slot : ℕ) (plain : IsPlain w nester slot) (full : HasFullPages w) (sound : IsWhole w) (j : ℕ) (s : Path)
    (out : is_within (slot ∷ nester) (j ∷ s) ≡ false) (pick : Option Path) (address count : ℕ) (at : IsAtStage w (j ∷ s) (ServerSend address count))
    (ready : GoesAllowed w (j ∷ s) (outcome w (j ∷ s) pick asks.Run)) where
  abbrev asked : Outcome
  asked = outcome w (j ∷ s) pick asks.Run

  abbrev Touched : Touch → Type 0
  Touched touch = IsPlain (stepped w asked).world nester slot ×
      ((told : List Told) × IsOnward (cut w nester slot) (ByOthers touch) told (cut (stepped w asked).world nester slot))

  touched_inside : (k : ℕ) (z : Path) → client_of w (j ∷ s) ≡ Some (k ∷ (z ++ slot ∷ nester)) →
      (touch : Touch) → given_of w (listed asked) (k ∷ (z ++ slot ∷ nester)) (k ∷ z) ≡ Some touch → Touched touch
  touched_inside k z served touch =
      let its = served_outward w nester slot plain sound j s out k z served in
      let row = stage_outcome w nester slot plain (j ∷ s) pick (ServerSend address count) at in
      let calls = call_seen w nester slot plain full sound.valid.consistent (j ∷ s) out k z its.0 its.2 its.1 its.3 its.4 served address count pick in
      subst (λ (o : Outcome). (touch : Touch) → GoesAllowed w (j ∷ s) o → given_of w (listed o) (k ∷ (z ++ slot ∷ nester)) (k ∷ z) ≡ Some touch
      → IsPlain (stepped w o).world
      nester slot × ((told : List Told) × IsOnward (cut w nester slot) (ByOthers touch) told (cut (stepped w o).world nester slot))) (sym row.1)
      (touches-when w nester slot
      plain full sound.valid.consistent (j ∷ s) out k z its.0 its.2 its.1 its.3 its.4 (is_free w s row.0)
      (call_row w (user_at (j ∷ s)) pick (ServerSend address count)) calls) touch ready

  touched_at : (c q : Path) (k : ℕ) (z : Path) →
      c ≡ k ∷ (z ++ slot ∷ nester) → q ≡ k ∷ z → client_of w (j ∷ s) ≡ Some c → (touch : Touch) → given_of w (listed asked) c q ≡ Some touch → Touched touch
  touched_at c q k z e f served touch = rw (e, f) (touched_inside k z (served ∙ ap (λ (y : Path). Some y) e) touch)

  abbrev TouchedBy : Onward → Type 0
  TouchedBy m =
      IsPlain (stepped w asked).world nester slot × ((told : List Told) × IsOnward (cut w nester slot) m told (cut (stepped w asked).world nester slot))

  touched_by : (onward : Onward) → option_map (λ (touch : Touch). ByOthers touch)
      (on_inner (slot ∷ nester) (given_of w (listed asked)) (client_of w (j ∷ s))) ≡ Some onward → TouchedBy onward
  touched_by onward = by (client_of w (j ∷ s)) refl
    where
      same_path_is : (a b : Path) → Some a ≡ Some b → a ≡ b
      same_path_is a b h = cc

      of_touch : (c q : Path) (o : Option Touch) →
          ((touch : Touch) → o ≡ Some touch → Touched touch) → option_map (λ (touch : Touch). ByOthers touch) o ≡ Some onward → TouchedBy onward
      of_touch c q None go h = cc
      of_touch c q (Some touch) go h = let form : onward ≡ ByOthers touch = cc in rw form (go touch refl)

      of_path : (c : Path) → client_of w (j ∷ s) ≡ Some c → (r : Option Path) → strip (slot ∷ nester) c ≡ r →
          option_map (λ (touch : Touch). ByOthers touch) (and_then (given_of w (listed asked) c) r) ≡ Some onward → TouchedBy onward
      of_path c served None e h = cc
      of_path c served (Some q) e h =
          let its = its_client w j s c served in
          let under = thread_beneath w nester slot plain c its.0 (ap is_some e) its.2 in
          let place : q ≡ under.0
          ∷ under.1 = same_path_is q (under.0 ∷ under.1) (sym e ∙ ap (strip (slot ∷ nester)) under.2 ∙ strip-append (slot ∷ nester) (under.0 ∷ under.1)) in
          of_touch c q (given_of w (listed asked) c q) (touched_at c q under.0 under.1 under.2 place served) h

      by : (o : Option Path) → client_of w (j ∷ s) ≡ o →
          option_map (λ (touch : Touch). ByOthers touch) (on_inner (slot ∷ nester) (given_of w (listed asked)) o) ≡ Some onward → TouchedBy onward
      by None served h = cc
      by (Some c) served h = of_path c served (strip (slot ∷ nester) c) refl h

send_outside : (w : World) (nester : Path) (slot : ℕ) → IsPlain w nester slot → HasFullPages w → (j : ℕ) (s : Path) (pick : Option Path) (address count : ℕ) →
    is_within (slot ∷ nester) (j ∷ s) ≡ false → IsAtStage w (j ∷ s) (ServerSend address count) → KeepsCut w nester slot (moves (j ∷ s) pick)
unfolding step
send_outside w nester slot plain full j s pick address count out at sound same fit ready (Onwards m) seen =
    let far = seen_outside w
    (slot ∷ nester) (j ∷ s) pick (outcome w (j ∷ s) pick asks.Run) (strip (slot ∷ nester) (j ∷ s)) m (strip_none (slot ∷ nester) (j ∷ s) out) seen.1 in
    touched_by w nester slot plain full sound j s out pick address count at ready m
    (taken_row w (slot ∷ nester) (moves (j ∷ s) pick)
    (outcome w (j ∷ s) pick asks.Run) None _ (ServerSend address count) m refl (stage_called w nester slot plain (j ∷ s) (ServerSend address count) at) far)
send_outside w nester slot plain full j s pick address count out at sound same fit ready Unseen seen =
    let is = stage_outcome w nester slot plain (j ∷ s) pick (ServerSend address count) at in
    still-plain w nester slot plain (outcome w (j ∷ s) pick asks.Run)
    (rw is.1 (still-when (slot ∷ nester) (is_free w s is.0)
    _ (still-call (slot ∷ nester) w (j ∷ s) pick (ServerSend address count) (still-send (slot ∷ nester) w (j ∷ s) turns.Server address count)))) seen.1.0
send_outside w nester slot plain full j s pick address count out at sound same fit ready Other seen = tt

pub server_words_keep : StageKeepsCut IsServerSend
server_words_keep w nester slot x pick stage such at sound plain = by (is_within (slot ∷ nester) x) refl
  where
    outside : (y : Path) → y ≡ x → (j : ℕ) (s : Path) → j ∷ s ≡ y → is_within (slot ∷ nester) x ≡ false → is_fit w x asks.Run ≡ true →
        IsReady w x pick asks.Run → (seen : Seen) → IsSeen w nester slot (moves x pick) seen → HasDone w nester slot (moves x pick) seen
    outside y e j s f out =
        let here : x ≡ j ∷ s = sym (f ∙ e) in
        rw here (send_outside w nester slot plain sound.full j s pick such.0 such.1 (rw here at out) (rw (such.2, here) at at) sound plain)

    by : (b : Bool) → is_within (slot ∷ nester) x ≡ b → is_fit w x asks.Run ≡ true →
        IsReady w x pick asks.Run → (seen : Seen) → IsSeen w nester slot (moves x pick) seen → HasDone w nester slot (moves x pick) seen
    by true e = server_send_keeps w nester slot x pick stage such e at sound plain
    by false e = outside x refl (slot_of x) (parent x) (stands_in_slot w sound x at.0 at.3) e
