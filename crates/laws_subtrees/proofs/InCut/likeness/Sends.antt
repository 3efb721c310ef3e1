-- A Send and an Over go alike in a likeness where their other end is seen, and the outside hears of them alike.
use Rattle.std.proofs.Common.{◌≡◌, ℕ, ◌%◌, eqb, Bool, true, false, cond, not, ◌&&◌, List, [], ◌∷◌, ◌++◌, Option, Some, None, is_some, Result, Ok, Err, refl}
use Rattle.std.proofs.Common.{nat_le, option_map}
use Rattle.std.proofs.Common.{sym, ap, ◌∙◌, subst}
use Rattle.fk_model.specs.declared.limits.TheConstants.{PAGE_WORDS, BLOCK_WORDS, LAST_USER_SLOT}
use Rattle.fk_model.specs.declared.statuses.status.TheConstants.{FULL, WRONGTURN}
use Rattle.fk_model.specs.declared.thread.Turn.{Turn}
use Rattle.fk_model.specs.declared.thread.Turn.TheVariants as turns
use Rattle.fk_model.specs.Places.{Path, parent, Ptr}
use Rattle.fk_model.specs.Places.Ptr.{Null, Dead, At, Out, Outside, Far}
use Rattle.fk_model.specs.Objects.{Peer, Talk, Fault, Thread, Body, Mode, and_then, holds, reference_of}
use Rattle.fk_model.specs.Objects.Peer.{Server, Service, Parked}
use Rattle.fk_model.specs.World.{World, Change}
use Rattle.fk_model.specs.World.Change.{Alter}
use Rattle.fk_model.specs.World.Edit.{Shift, Finish, End, CountMoved, PassTurn, SetFault, SetPointer}
use Rattle.fk_model.specs.Searches.{talk_at, client_of}
use Rattle.fk_model.specs.Reach.{Reach, words_at}
use Rattle.fk_model.specs.Holds.{is_frozen, is_free, is_unheld, leads_to_frozen}
use Rattle.fk_model.specs.Outcomes.{Said, Outcome, ◌>>=◌, when, done}
use Rattle.fk_model.specs.Outcomes.Outcome.{Refused, Waits, Goes}
use Rattle.fk_model.specs.Outcomes.Said.{Nothing, Words, Passed}
use Rattle.fk_model.specs.Readers.{own_page_at, own_page, their_page_at, their_page, object_in}
use Rattle.fk_model.specs.Talks.{Line, line_from, line, other_side, same_side, receiving, path_to, is_service_free, awaited, first_stage, is_handled}
use Rattle.fk_model.specs.Talks.{receive_on}
use Rattle.fk_model.specs.TransferRows.{overwritten, block, moved_words, at_turn, has_sent, sends_words, sends_into, sends_to_thread, sends_to, sends, send}
use Rattle.fk_model.specs.TransferRows.{may_carry}
use Rattle.fk_model.specs.TransferRows.{passes, passes_to_thread, passes_to, over, over_ref, taken_answers, takes_turn}
use Rattle.fk_model.specs.LinkRows.{user_at}
use Rattle.fk_model.specs.Cut.{is_out, seen_by, unheld}
use Rattle.fk_model.specs.Further.{told_by_said}
use Rattle.laws_subtrees.specs.Cut.Likeness.{seen_peer, seen_talk, seen_thread, PtrLikeness, HasLikeness, IfServer, IsLikeness, AlikeResults, AlikeOptions}
use Rattle.laws_subtrees.specs.Cut.Likeness.{IsBeneath, IsSeenAs}
use Rattle.laws_subtrees.specs.Cut.Likeness.{IsSeenTalk, ReachLikeness, PeerLikeness, EndLikeness, seeing}
use Rattle.laws_subtrees.specs.Cut.Likeness.PtrLikeness.{Nulls, Deads, Inside, PortAt, PortOut}
use Rattle.laws_subtrees.specs.Cut.Likeness.ReachLikeness.{Homes, Misses, Bads}
use Rattle.laws_subtrees.specs.Cut.Likeness.PeerLikeness.{Outsiders, Servers, Services, Waiters}
use Rattle.laws_subtrees.specs.Cut.Likeness.EndLikeness.{Ends}
use Rattle.laws_subtrees.specs.Cut.LikeChanges.{LikeChanges, IsLikeOutcome, IsLikeUnlessWaiting}
use Rattle.laws_subtrees.specs.Cut.LikeChanges.LikeChange.{Alters, PutsPage}
use Rattle.laws_subtrees.specs.Cut.LikeChanges.LikeChanges.{Empty, Both}
use Rattle.laws_subtrees.proofs.InCut.likeness.Alike.{alike_if, alike_and_then, alike-holds}
use Rattle.laws_subtrees.proofs.InCut.likeness.Memory.{root_space, root_seen, reach_word-like, words_at-like}
use Rattle.laws_subtrees.proofs.InCut.likeness.Holds.{root_unfrozen, is_unheld-like, is_free-like, leads_to_frozen-like}
use Rattle.laws_subtrees.proofs.InCut.likeness.Talks.{talk_at-like, thread_at-like, path_to-like, peer-like}
use Rattle.laws_subtrees.proofs.InCut.likeness.Outcomes.{append-like, unless_waiting}
use Rattle.fk_model.specs.Objects.Body.{Reference}
use Rattle.fk_model.specs.TransferRows.{fills_in}
use Rattle.laws_subtrees.proofs.InCut.likeness.Reads.{reference_in-like}

-- ---- what the outside hears

-- the same words, or the same turn, at the port as it is seen
pub data SaidLikeness (see : Ptr → Ptr) : Said → Said → Type 0 where
  Hushed : (said told : Said) → ((v : World) (x : Path) → told_by_said v x said ≡ []) → ((v : World) (x : Path) → told_by_said v x told ≡ [])
      → SaidLikeness see said told
  SaysWords : (port : Ptr) (words : List ℕ) → SaidLikeness see (Words (see port) words) (Words port words)
  SaysPassed : (port : Ptr) → SaidLikeness see (Passed (see port)) (Passed port)

abbrev pub IsHeard : (Ptr → Ptr) → Outcome → Outcome → Type 0
IsHeard see near Waits = Unit {0}
IsHeard see near (Refused status) = Unit {0}
IsHeard see (Goes cs said) (Goes ds told) = SaidLikeness see said told
IsHeard see other (Goes ds told) = Unit {0}

pub says_nothing : {see : Ptr → Ptr} → SaidLikeness see Nothing Nothing
says_nothing = Hushed Nothing Nothing (λ v x. refl) (λ v x. refl)

-- ---- lines of which the other end is seen

-- who is at the other end of a talk at this port is inside
abbrev pub ends_inside : Ptr → Peer → Bool
ends_inside port (Server Outside) = false
ends_inside port (Server Null) = true
ends_inside port (Server Dead) = true
ends_inside port (Server (At x)) = true
ends_inside port (Server (Out slot)) = true
ends_inside port (Server Far) = true
ends_inside port Service = not (is_out port)
ends_inside port Parked = true

-- the same talk of a client inside, with an other end inside
pub data NearLine (root : Path) (see : Ptr → Ptr) (big : World) : Line → Line → Type 0 where
  Near : (j : ℕ) (z : Path) (talk : Talk) (other seen : Peer) →
      HasLikeness root see big talk.port → PeerLikeness root see big other seen → ends_inside (see talk.port) seen ≡ true →
      NearLine root
      see big (record { client = j ∷ z; talk = seen_talk see talk; other = seen }) (record { client = j ∷ (z ++ root); talk = talk; other = other })

module _ {root : Path} {see : Ptr → Ptr} {small big : World} (like : IsLikeness root see small big) where
  -- alike, and heard alike
  abbrev pub Same : Outcome → Outcome → Type 0
  Same near far = IsLikeOutcome root see big near far × IsHeard see near far

  -- ---- combinators

  pub same_bind : {A B : Type 0} (R : A → B → Type 0) (a : Result A ℕ) (b : Result B ℕ) (f : A → Outcome) (g : B → Outcome) →
      AlikeResults R a b → ((x : A) (y : B) → R x y → Same (f x) (g y)) → Same (a >>= f) (b >>= g)
  same_bind R (Ok x) (Ok y) f g h go = go x y h
  same_bind R (Err status) (Err refusal) f g h go = (h, tt)
  same_bind R (Ok x) (Err refusal) f g h go = absurd h
  same_bind R (Err status) (Ok y) f g h go = absurd h

  pub same_when : (a b : Bool) (near far : Outcome) → a ≡ b → Same near far → Same (when a near) (when b far)
  same_when a b near far e h = rw e (by b)
    where
      by : (b : Bool) → Same (when b near) (when b far)
      by true = h
      by false = (tt, tt)

  same_own_at : (k : ℕ) (q : Path) (write : Bool) (go on : Path → ℕ → Outcome) (a b : Reach) → ReachLikeness root see big a b →
      ((s : Path) (page : ℕ) → Same (go s page) (on (s ++ root) page)) → Same (own_page_at (k ∷ q) write go a) (own_page_at (k ∷ (q ++ root)) write on b)
  same_own_at k q write go on _ _ (Homes s page) goes = goes s page
  same_own_at k q write go on _ _ (Misses s page None None h) goes = (refl, tt)
  same_own_at k q write go on _ _ (Misses s page (Some seen) (Some port) h) goes =
      let fault : Fault = record { page = page; write = write; port = port; taker = None } in
      rw h.0 (Both (Alters k q _ (SetFault (Some fault)) refl (h.1, tt)) Empty, says_nothing)
  same_own_at k q write go on _ _ (Misses s page None (Some port) h) goes = absurd h
  same_own_at k q write go on _ _ (Misses s page (Some seen) None h) goes = absurd h
  same_own_at k q write go on _ _ Bads goes = (refl, tt)

  pub same_own : (k : ℕ) (q : Path) (address : ℕ) (write : Bool) (go on : Path → ℕ → Outcome) →
      ((s : Path) (page : ℕ) → Same (go s page) (on (s ++ root) page)) →
      Same (own_page small (user_at (k ∷ q)) address write go) (own_page big (user_at (k ∷ (q ++ root))) address write on)
  same_own k q address write go on goes = same_own_at k q write go on _ _ (reach_word-like like q address write) goes

  same_their_at : (go on : Path → ℕ → Outcome) (a b : Reach) →
      ReachLikeness root see big a b → ((s : Path) (page : ℕ) → Same (go s page) (on (s ++ root) page)) → Same (their_page_at go a) (their_page_at on b)
  same_their_at go on _ _ (Homes s page) goes = goes s page
  same_their_at go on _ _ (Misses s page keeper port h) goes = (tt, tt)
  same_their_at go on _ _ Bads goes = (tt, tt)

  -- ---- the sender's part

  pub sent-like : (k : ℕ) (q : Path) (n count : ℕ) (cs ds : List Change) (said told : Said) → LikeChanges root see big cs ds →
      IsLikeOutcome root see big (has_sent (user_at (k ∷ q)) n count cs said) (has_sent (user_at (k ∷ (q ++ root))) n count ds told)
  sent-like k q n count cs ds said told h = by (eqb n count)
    where
      by : (b : Bool) → IsLikeOutcome root
          see big (cond b (Goes ((cs ++ Alter (k ∷ q) (Shift n) ∷ []) ++ Alter (k ∷ q) (Finish []) ∷ []) said) (Goes (cs ++ Alter (k ∷ q) (Shift n) ∷ []) said))
          (cond b (Goes ((ds ++ Alter (k ∷ (q ++ root)) (Shift n) ∷ []) ++ Alter (k ∷ (q ++ root)) (Finish []) ∷ []) told)
          (Goes (ds ++ Alter (k ∷ (q ++ root)) (Shift n) ∷ []) told))
      by true = append-like (append-like h (Both (Alters k q _ (Shift n) refl tt) Empty)) (Both (Alters k q _ (Finish []) refl tt) Empty)
      by false = append-like h (Both (Alters k q _ (Shift n) refl tt) Empty)

  pub same_sent : (k : ℕ) (q : Path) (n count : ℕ) (cs ds : List Change) (said told : Said) → LikeChanges root see big cs ds → SaidLikeness see said told →
      Same (has_sent (user_at (k ∷ q)) n count cs said) (has_sent (user_at (k ∷ (q ++ root))) n count ds told)
  same_sent k q n count cs ds said told h heard = (sent-like k q n count cs ds said told h, by (eqb n count))
    where
      by : (b : Bool) → IsHeard see
          (cond b (Goes ((cs ++ Alter (k ∷ q) (Shift n) ∷ []) ++ Alter (k ∷ q) (Finish []) ∷ []) said) (Goes (cs ++ Alter (k ∷ q) (Shift n) ∷ []) said))
          (cond b (Goes ((ds ++ Alter (k ∷ (q ++ root)) (Shift n) ∷ []) ++ Alter (k ∷ (q ++ root)) (Finish []) ∷ []) told)
          (Goes (ds ++ Alter (k ∷ (q ++ root)) (Shift n) ∷ []) told))
      by true = heard
      by false = heard

  -- ---- who receives

  reference-seen : (space : Path) (k : ℕ) → holds (λ b. is_some (reference_of b)) (small.body (k ∷ space)) ≡ holds (λ b. is_some (reference_of b))
      (big.body (k ∷ (space ++ root)))
  unfolding seen_by
  reference-seen space k = rw (like.bodies (k ∷ space)) (by (big.body (k ∷ (space ++ root))))
    where
      by : (o : Option Body) → holds (λ b. is_some (reference_of b)) (option_map (λ b. unheld (k ∷ space) (seen_by (seeing see) b)) o) ≡ holds
          (λ b. is_some (reference_of b)) o
      by None = refl
      by (Some (Reference to)) = refl
      by (Some b) = refl

  pub is_handled-like : (space : Path) (to : Option ℕ) → is_handled small space to ≡ is_handled big (space ++ root) to
  is_handled-like space None = refl
  is_handled-like space (Some k) = ap (λ (b : Bool). nat_le k LAST_USER_SLOT && b) (reference-seen space k)

  pub receiving-like : (space : Path) (side : Turn) (m : Mode) → receiving small space side m ≡ receiving big (space ++ root) side m
  receiving-like space side m = ap (λ (b : Bool). cond b (and_then (receive_on side) (first_stage m)) None) (is_handled-like space (awaited m))

  -- the pointer that goes with a turn is seen alike
  abbrev pub CarriedLike : Option Ptr → Option Ptr → Type 0
  CarriedLike seen carried = AlikeOptions (IsSeenAs root see big) seen carried

  fills-like : (space : Path) (seen carried : Option Ptr) (to : Option ℕ) → CarriedLike seen carried → LikeChanges root see big (fills_in space seen to)
      (fills_in (space ++ root) carried to)
  fills-like space None None to h = Empty
  fills-like space (Some seen) (Some p) None h = Empty
  fills-like space (Some seen) (Some p) (Some k) h = Both (Alters k space (SetPointer seen) (SetPointer p) (ap SetPointer h.0) h.1) Empty
  fills-like space None (Some p) to h = absurd h
  fills-like space (Some seen) None to h = absurd h

  answers-like : (seen carried : Option Ptr) (to : Option ℕ) → CarriedLike seen carried → taken_answers to seen ≡ taken_answers to carried
  answers-like seen carried None h = refl
  answers-like None None (Some k) h = refl
  answers-like (Some seen) (Some p) (Some k) h = refl
  answers-like None (Some p) (Some k) h = absurd h
  answers-like (Some seen) None (Some k) h = absurd h

  pub takes_turn-like : (i : ℕ) (y : Path) (seen carried : Option Ptr) (to : Option ℕ) → CarriedLike seen carried →
      LikeChanges root see big (takes_turn (i ∷ y) seen to) (takes_turn (i ∷ (y ++ root)) carried to)
  takes_turn-like i y seen carried to h =
      append-like (fills-like y seen carried to h)
      (Both (Alters i y _ (Finish (taken_answers to carried)) (ap Finish (answers-like seen carried to h)) tt) Empty)

  -- ---- a Send

  module _ (free : is_frozen big root ≡ false) (k : ℕ) (q : Path) where
    same_into : (j i : ℕ) (z y : Path) (address count : ℕ) (page : List ℕ) (o : Option (ℕ × ℕ)) →
        Same (sends_into small (user_at (k ∷ q)) (j ∷ z) (i ∷ y) address count page o)
        (sends_into big (user_at (k ∷ (q ++ root))) (j ∷ (z ++ root)) (i ∷ (y ++ root)) address count page o)
    same_into j i z y address count page None = (tt, tt)
    same_into j i z y address count page (Some receive) = by (eqb receive.1 0)
      where
        n : ℕ
        n = moved_words address count receive.0 receive.1

        puts : (s : Path) (other : ℕ) → Same (sends_words (user_at (k ∷ q)) (j ∷ z) (i ∷ y) n address count page receive.0 s other (words_at small s other))
            (sends_words (user_at (k ∷ (q ++ root)))
            (j ∷ (z ++ root)) (i ∷ (y ++ root)) n address count page receive.0 (s ++ root) other (words_at big (s ++ root) other))
        puts s other = rw (words_at-like like s other)
            (same_sent k q n count _ _ Nothing Nothing (Both (PutsPage s other (overwritten (words_at big (s ++ root) other) (receive.0 % PAGE_WORDS)
            (block n address page))) (Both (Alters j z _ (CountMoved n) refl tt) (Both (Alters i y _ (Shift n) refl tt) Empty))) says_nothing)

        by : (b : Bool) → Same (cond b (Goes (Alter (i ∷ y) (End FULL []) ∷ []) Nothing) (their_page small y receive.0
            (λ t other_page. sends_words (user_at (k ∷ q)) (j ∷ z) (i ∷ y) n address count page receive.0 t other_page (words_at small t other_page))))
            (cond b (Goes (Alter (i ∷ (y ++ root)) (End FULL []) ∷ []) Nothing) (their_page big (y ++ root) receive.0 (λ t other_page. sends_words
            (user_at (k ∷ (q ++ root))) (j ∷ (z ++ root)) (i ∷ (y ++ root)) n address count page receive.0 t other_page (words_at big t other_page))))
        by true = (Both (Alters i y _ (End FULL []) refl tt) Empty, says_nothing)
        by false = same_their_at _ _ _ _ (reach_word-like like y receive.0 true) puts

    same_to_thread : (side : Turn) (j : ℕ) (z : Path) (address count : ℕ) (page : List ℕ) (o p : Option (Path × Thread)) →
        AlikeOptions (EndLikeness root see big) o p →
        Same (sends_to_thread small (user_at (k ∷ q)) side (j ∷ z) address count page o)
        (sends_to_thread big (user_at (k ∷ (q ++ root))) side (j ∷ (z ++ root)) address count page p)
    same_to_thread side j z address count page None None h = (tt, tt)
    same_to_thread side j z address count page (Some seen) (Some e) h = by seen e h
      where
        by : (seen e : Path × Thread) →
            EndLikeness root see big seen e → Same (sends_to_thread small (user_at (k ∷ q)) side (j ∷ z) address count page (Some seen))
            (sends_to_thread big (user_at (k ∷ (q ++ root))) side (j ∷ (z ++ root)) address count page (Some e))
        by _ _ (Ends i y t is near) = same_when (is_free small y (seen_thread see t))
            (is_free big (y ++ root) t) _ _ (is_free-like like free y t)
            (rw (receiving-like y (other_side side) t.mode) (same_into j i z y address count page (receiving big (y ++ root) (other_side side) t.mode)))
    same_to_thread side j z address count page None (Some e) h = absurd h
    same_to_thread side j z address count page (Some seen) None h = absurd h

    -- a native server inside is free alike
    unheld_there : (x y : Path) → IsBeneath root x y → is_unheld small (parent x) ≡ is_unheld big (parent y)
    unheld_there (i ∷ x) y h = rw h (is_unheld-like like free x)
    unheld_there [] y h = rw h (is_unheld-like like free [] ∙ ap not (free ∙ sym (above root free)))
      where
        above : (r : Path) → is_frozen big r ≡ false → is_frozen big (parent r) ≡ false
        above [] h = h
        above (i ∷ r) h = root_unfrozen big r (i ∷ []) h

    service_free : (port : Ptr) → HasLikeness root see big port → is_out (see port) ≡ false → is_service_free small (see port) ≡ is_service_free big port
    service_free port has near = alike-holds (IsBeneath root) (path_to (see port)) (path_to port) _ _ (path_to-like like port (see port) has near) unheld_there

    same_to : (side : Turn) (j : ℕ) (z : Path) (talk : Talk) (other seen : Peer) (address count : ℕ) (page : List ℕ) →
        HasLikeness root see big talk.port → PeerLikeness root see big other seen → ends_inside (see talk.port) seen ≡ true →
        Same (sends_to small (user_at (k ∷ q)) side (record { client = j ∷ z; talk = seen_talk see talk; other = seen }) address count page seen)
        (sends_to big (user_at (k ∷ (q ++ root))) side (record { client = j ∷ (z ++ root); talk = talk; other = other }) address count page other)
    same_to side j z talk _ _ address count page has (Outsiders peer outer) ends = cc
    same_to side j z talk _ _ address count page has (Servers thread h) ends =
        same_to_thread side j z address count page _ _ (thread_at-like like thread (see thread) h)
    same_to side j z talk _ _ address count page has Services ends =
        same_when (is_service_free small (see talk.port)) (is_service_free big talk.port) _ _ (service_free talk.port has (off (is_out (see talk.port)) ends))
        (same_sent k q (moved_words address count 0 BLOCK_WORDS) count _ _ _ _ (Both (Alters j z _ (CountMoved (moved_words address count 0 BLOCK_WORDS))
        refl tt) Empty) (SaysWords talk.port (block (moved_words address count 0 BLOCK_WORDS) address page)))
      where
        off : (b : Bool) → not b ≡ true → b ≡ false
        off false h = refl
        off true h = cc
    same_to side j z talk _ _ address count page has Waiters ends = (tt, tt)

    same_sends : (side : Turn) (address count : ℕ) (near far : Line) → NearLine root see big near far →
        Same (sends small (user_at (k ∷ q)) side address count near) (sends big (user_at (k ∷ (q ++ root))) side address count far)
    same_sends side address count _ _ (Near j z talk other seen has peer ends) = by (eqb count 0)
      where
        l : Line
        l = record { client = j ∷ z; talk = seen_talk see talk; other = seen }

        m : Line
        m = record { client = j ∷ (z ++ root); talk = talk; other = other }

        by : (b : Bool) → Same (cond b (done (user_at (k ∷ q)) [] [])
            (own_page small (user_at (k ∷ q)) address false (λ s page. sends_to small (user_at (k ∷ q)) side l address count (words_at small s page) seen)))
            (cond b (done (user_at (k ∷ (q ++ root))) [] []) (own_page big (user_at (k ∷ (q ++ root)))
            address false (λ s page. sends_to big (user_at (k ∷ (q ++ root))) side m address count (words_at big s page) other)))
        by true = (Both (Alters k q _ (Finish []) refl tt) Empty, says_nothing)
        by false = same_own k q address
            false _ _ (λ s page. rw (words_at-like like s page) (same_to side j z talk other seen address count (words_at big (s ++ root) page) has peer ends))

    -- ---- an Over

    same_passes : (side : Turn) (j : ℕ) (z : Path) (cs ds : List Change) → LikeChanges root see big cs ds →
        IsLikeOutcome root see big (passes (user_at (k ∷ q)) side (j ∷ z) cs) (passes (user_at (k ∷ (q ++ root))) side (j ∷ (z ++ root)) ds)
    same_passes side j z cs ds h =
        append-like (append-like h (Both (Alters j z _ (PassTurn (other_side side)) refl tt) Empty)) (Both (Alters k q _ (Finish []) refl tt) Empty)

    passes_to_same : (side : Turn) (j : ℕ) (z : Path) (seen_carried carried : Option Ptr) (o p : Option (Path × Thread)) → CarriedLike seen_carried carried →
        AlikeOptions (EndLikeness root see big) o p →
        Same (passes_to_thread small (user_at (k ∷ q)) side (j ∷ z) seen_carried o)
        (passes_to_thread big (user_at (k ∷ (q ++ root))) side (j ∷ (z ++ root)) carried p)
    passes_to_same side j z seen_carried carried None None alike h = (tt, tt)
    passes_to_same side j z seen_carried carried (Some seen) (Some e) alike h = by seen e h
      where
        by : (seen e : Path × Thread) → EndLikeness root see big seen e → Same (passes_to_thread small (user_at (k ∷ q)) side (j ∷ z) seen_carried (Some seen))
            (passes_to_thread big (user_at (k ∷ (q ++ root))) side (j ∷ (z ++ root)) carried (Some e))
        by _ _ (Ends i y t is near) = same_when (is_free small y (seen_thread see t) && is_some (receiving small y (other_side side) t.mode))
            (is_free big (y ++ root) t && is_some (receiving big (y ++ root) (other_side side) t.mode))
            _ _ (rw (is_free-like like free y t, receiving-like y (other_side side) t.mode) refl)
            (same_passes side j z _ _ (takes_turn-like i y seen_carried carried (awaited t.mode) alike), says_nothing)
    passes_to_same side j z seen_carried carried None (Some e) alike h = absurd h
    passes_to_same side j z seen_carried carried (Some seen) None alike h = absurd h

    passes_same : (side : Turn) (seen_carried carried : Option Ptr) → CarriedLike seen_carried carried → (near far : Line) → NearLine root see big near far →
        Same (passes_to small (user_at (k ∷ q)) side near seen_carried near.other) (passes_to big (user_at (k ∷ (q ++ root))) side far carried far.other)
    passes_same side seen_carried carried alike _ _ (Near j z talk other seen has peer ends) = by other seen peer ends
      where
        off : (b : Bool) → not b ≡ true → b ≡ false
        off false h = refl
        off true h = cc

        by : (other seen : Peer) → PeerLikeness root see big other seen → ends_inside (see talk.port) seen ≡ true →
            Same (passes_to small (user_at (k ∷ q)) side (record { client = j ∷ z; talk = seen_talk see talk; other = seen }) seen_carried seen)
            (passes_to big (user_at (k ∷ (q ++ root))) side (record { client = j ∷ (z ++ root); talk = talk; other = other }) carried other)
        by _ _ (Outsiders peer outer) ends = cc
        by _ _ (Servers thread h) ends = passes_to_same side j z seen_carried carried _ _ alike (thread_at-like like thread (see thread) h)
        by _ _ Services ends =
            same_when (is_service_free small (see talk.port)) (is_service_free big talk.port)
            _ _ (service_free talk.port has (off (is_out (see talk.port)) ends)) (same_passes side j z [] [] Empty, SaysPassed talk.port)
        by _ _ Waiters ends = (tt, tt)

    -- what may be handed on in the big world may be here. A port outside may be frozen, and isn't seen to be
    pub may_carry-like : (seen carried : Option Ptr) → CarriedLike seen carried → may_carry big (k ∷ (q ++ root)) carried ≡ true → may_carry small
        (k ∷ q) seen ≡ true
    may_carry-like None None h on = refl
    may_carry-like (Some seen) (Some p) h on =
        ap not (leads_to_frozen-like like free (k ∷ q) p seen (subst (λ (s : Ptr). PtrLikeness root big p s) (sym h.0) h.1)
        (off (leads_to_frozen big (k ∷ (q ++ root)) p) on))
      where
        off : (b : Bool) → not b ≡ true → b ≡ false
        off false h = refl
        off true h = cc
    may_carry-like None (Some p) h on = absurd h
    may_carry-like (Some seen) None h on = absurd h

    -- ---- the rows

    turn_near : (turn : Turn) (o p : Option Line) →
        AlikeOptions (NearLine root see big) o p → AlikeResults (NearLine root see big) (at_turn turn o) (at_turn turn p)
    turn_near turn None None h = refl
    turn_near turn (Some near) (Some far) h = by near far h
      where
        by : (near far : Line) → NearLine root see big near far → AlikeResults (NearLine root see big) (at_turn turn (Some near)) (at_turn turn (Some far))
        by _ _ (Near j z talk other seen has peer ends) =
            alike_if (NearLine root see big) (same_side talk.turn turn) WRONGTURN _ _ (λ e. Near j z talk other seen has peer ends)
    turn_near turn None (Some far) h = absurd h
    turn_near turn (Some near) None h = absurd h

    pub send-same : (side : Turn) (address count : ℕ) → AlikeOptions (NearLine root see big) (line small (k ∷ q) side) (line big (k ∷ (q ++ root)) side) →
        Same (send small (user_at (k ∷ q)) side address count) (send big (user_at (k ∷ (q ++ root))) side address count)
    unfolding send
    send-same side address count lines = same_bind (NearLine root see big) _ _ _ _ (turn_near side _ _ lines) (same_sends side address count)

    -- where both may be handed on, or neither
    pub over-same : (side : Turn) (seen carried : Option Ptr) → CarriedLike seen carried → may_carry small (k ∷ q) seen ≡ may_carry big
        (k ∷ (q ++ root)) carried →
        AlikeOptions (NearLine root see big) (line small (k ∷ q) side) (line big (k ∷ (q ++ root)) side) →
        Same (over small (user_at (k ∷ q)) side seen) (over big (user_at (k ∷ (q ++ root))) side carried)
    unfolding over
    over-same side seen carried alike may lines = same_bind (NearLine root see big) _ _ _ _ (turn_near side _ _ lines)
        (λ near far h. same_when (may_carry small (k ∷ q) seen) (may_carry big (k ∷ (q ++ root)) carried) _ _ may
        (passes_same side seen carried alike near far h))

    pub weak_bind : {A B : Type 0} (R : A → B → Type 0) (a : Result A ℕ) (b : Result B ℕ) (f : A → Outcome) (g : B → Outcome) →
        AlikeResults R a b → ((x : A) (y : B) → R x y → IsLikeUnlessWaiting root see big (f x) (g y)) → IsLikeUnlessWaiting root see big (a >>= f) (b >>= g)
    weak_bind R (Ok x) (Ok y) f g h go = go x y h
    weak_bind R (Err status) (Err refusal) f g h go = h
    weak_bind R (Ok x) (Err refusal) f g h go = absurd h
    weak_bind R (Err status) (Ok y) f g h go = absurd h

    pub weak_when : (a b : Bool) (near far : Outcome) → (b ≡ true → a ≡ true) → IsLikeUnlessWaiting root see big near far →
        IsLikeUnlessWaiting root see big (when a near) (when b far)
    weak_when a true near far e h = rw (e refl) h
    weak_when a false near far e h = tt

    pub over-weak : (side : Turn) (seen carried : Option Ptr) → CarriedLike seen carried →
        AlikeOptions (NearLine root see big) (line small (k ∷ q) side) (line big (k ∷ (q ++ root)) side) →
        IsLikeUnlessWaiting root see big (over small (user_at (k ∷ q)) side seen) (over big (user_at (k ∷ (q ++ root))) side carried)
    unfolding over
    over-weak side seen carried alike lines = weak_bind (NearLine root see big) _ _ _ _ (turn_near side _ _ lines)
        (λ near far h. weak_when (may_carry small (k ∷ q) seen) (may_carry big (k ∷ (q ++ root)) carried) _ _ (may_carry-like seen carried alike)
        (unless_waiting like _ _ (passes_same side seen carried alike near far h).0))

    pub over_ref-weak : (side : Turn) (reference : ℕ) → AlikeOptions (NearLine root see big) (line small (k ∷ q) side) (line big (k ∷ (q ++ root)) side) →
        IsLikeUnlessWaiting root see big (over_ref small (user_at (k ∷ q)) side reference) (over_ref big (user_at (k ∷ (q ++ root))) side reference)
    unfolding over_ref
    over_ref-weak side reference lines = weak_bind (IsSeenAs root see big) (object_in small (user_at (k ∷ q)) reference_of q reference)
        (object_in big (user_at (k ∷ (q ++ root))) reference_of (q ++ root) reference) _ _ (reference_in-like like (user_at (k ∷ q)) q reference)
        (λ seen p h. over-weak side (Some seen) (Some p) h lines)

    pub over_ref-same : ((p : Ptr) → HasLikeness root see big p → may_carry small (k ∷ q) (Some (see p)) ≡ may_carry big (k ∷ (q ++ root)) (Some p)) →
        (side : Turn) (reference : ℕ) →
        AlikeOptions (NearLine root see big) (line small (k ∷ q) side) (line big (k ∷ (q ++ root)) side) →
        Same (over_ref small (user_at (k ∷ q)) side reference) (over_ref big (user_at (k ∷ (q ++ root))) side reference)
    unfolding over_ref
    over_ref-same may side reference lines = same_bind (IsSeenAs root see big) (object_in small (user_at (k ∷ q)) reference_of q reference)
        (object_in big (user_at (k ∷ (q ++ root))) reference_of (q ++ root) reference) _ _ (reference_in-like like (user_at (k ∷ q)) q reference)
        (λ seen p h. over-same side (Some seen) (Some p) h
        (subst (λ (s : Ptr). may_carry small (k ∷ q) (Some s) ≡ may_carry big (k ∷ (q ++ root)) (Some p)) (sym h.0) (may p h.1)) lines)

  -- ---- the lines

  seen_inside : (port : Ptr) (p seen : Ptr) → PtrLikeness root big p seen → ends_inside port (Server seen) ≡ true
  seen_inside port _ _ Nulls = refl
  seen_inside port _ _ Deads = refl
  seen_inside port _ _ (Inside x) = refl
  seen_inside port _ _ (PortAt x slot apart kind) = refl
  seen_inside port _ _ (PortOut old slot) = refl

  ends_seen : (port : Ptr) (peer : Peer) (out : Bool) →
      is_out port ≡ out → out ≡ false → IfServer out peer (HasLikeness root see big) → ends_inside port (seen_peer see out peer) ≡ true
  ends_seen port peer true e near h = cc
  ends_seen port (Server thread) false e near h = seen_inside port thread (see thread) h
  ends_seen port Service false e near h = rw e refl
  ends_seen port Parked false e near h = refl

  -- of a client whose talk isn't at a port outside
  pub client_near : (k : ℕ) (q : Path) → ((talk : Talk) → talk_at big (k ∷ (q ++ root)) ≡ Some talk → is_out (see talk.port) ≡ false) →
      AlikeOptions (NearLine root see big) (line small (k ∷ q) turns.Client) (line big (k ∷ (q ++ root)) turns.Client)
  unfolding line
  client_near k q near = by (talk_at small (k ∷ q)) (talk_at big (k ∷ (q ++ root))) refl (talk_at-like like (k ∷ q))
    where
      by : (o p : Option Talk) → talk_at big (k ∷ (q ++ root)) ≡ p → AlikeOptions (IsSeenTalk root see big) o p →
          AlikeOptions (NearLine root see big) (line_from (k ∷ q) (λ talk. talk.peer) o) (line_from (k ∷ (q ++ root)) (λ talk. talk.peer) p)
      by None None is h = tt
      by (Some seen) (Some talk) is h =
          let off = near talk is in
          rw h.0 (Near k q talk talk.peer _ h.1.0 (peer-like like (is_out (see talk.port)) talk.peer
          h.1.1 (λ on. absurd (apart (is_out (see talk.port)) on off))) (ends_seen (see talk.port) talk.peer (is_out (see talk.port)) refl off h.1.1))
        where
          apart : (b : Bool) → b ≡ true → b ≡ false → ⊥
          apart true e f = cc
          apart false e f = cc
      by None (Some talk) is h = absurd h
      by (Some seen) None is h = absurd h

  -- of a server, where its client is found alike
  pub server_near : (me : Path) → AlikeOptions (IsBeneath root) (client_of small me) (client_of big (me ++ root)) →
      AlikeOptions (NearLine root see big) (line small me turns.Server) (line big (me ++ root) turns.Server)
  unfolding line
  server_near me found =
      alike_and_then (IsBeneath root) (NearLine root see big) (client_of small me) (client_of big (me ++ root)) _ _ found (λ client there h. rw h (at client))
    where
      by : (k : ℕ) (q : Path) (o p : Option Talk) → AlikeOptions (IsSeenTalk root see big) o p → AlikeOptions (NearLine root see big)
          (line_from (k ∷ q) (λ talk. Server (At (k ∷ q))) o) (line_from (k ∷ (q ++ root)) (λ talk. Server (At (k ∷ (q ++ root)))) p)
      by k q None None h = tt
      by k q (Some seen) (Some talk) h =
          let inside : HasLikeness root see big (At (k ∷ (q ++ root))) = rw (like.within (k ∷ q)) (Inside (k ∷ q)) in
          let server : PeerLikeness
          root see big (Server (At (k ∷ (q ++ root)))) (Server (see (At (k ∷ (q ++ root))))) = Servers (At (k ∷ (q ++ root))) inside in
          rw h.0 (Near k q talk (Server (At (k ∷ (q ++ root)))) (Server (At (k ∷ q))) h.1.0 (rw (like.within (k ∷ q)) at server) refl)
      by k q None (Some talk) h = absurd h
      by k q (Some seen) None h = absurd h

      at : (client : Path) → AlikeOptions (NearLine root see big) (line_from client (λ talk. Server (At client)) (talk_at small client))
          (line_from (client ++ root) (λ talk. Server (At (client ++ root))) (talk_at big (client ++ root)))
      at [] = rw ((root_space like).2, root_seen like) tt
      at (k ∷ q) = by k q (talk_at small (k ∷ q)) (talk_at big (k ∷ (q ++ root))) (talk_at-like like (k ∷ q))
