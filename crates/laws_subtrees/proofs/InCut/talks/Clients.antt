-- A Send and an Over of a client inside to a peer outside: the cut's own row for them is alike.
use Rattle.std.proofs.Common.{◌≡◌, ℕ, ◌%◌, ◌<◌, ◌≤◌, eqb, Bool, true, false, cond, not, ◌&&◌, ◌||◌, List, [], ◌∷◌, ◌++◌, Option, Some, None, is_some, unwrap_or}
use Rattle.std.proofs.Common.{Ok, Err, refl, sym, ap, subst, ◌∙◌, arith, append_assoc}
use Rattle.std.proofs.lemmas.Bool.{le-leb, lt-ltb, eqb-false, and_parts}
use Rattle.fk_model.specs.declared.limits.TheConstants.{PAGE_WORDS, BLOCK_WORDS}
use Rattle.fk_model.specs.declared.statuses.status.TheConstants.{FULL, WRONGTURN}
use Rattle.fk_model.specs.declared.stage.Stage.{Stage}
use Rattle.fk_model.specs.declared.thread.Turn.TheVariants as turns
use Rattle.fk_model.specs.Places.{Path, same_path, strip, is_within, parent, slot_of, Ptr}
use Rattle.fk_model.specs.Places.Ptr.{Null, Dead, At, Out, Outside, Far}
use Rattle.fk_model.specs.Objects.{Peer, Talk, Fault, Thread, thread_of, and_then, holds, reference_of}
use Rattle.fk_model.specs.Objects.Peer.{Server, Service, Parked}
use Rattle.fk_model.specs.World.{World, Change}
use Rattle.fk_model.specs.World.Change.{Alter, PutPage}
use Rattle.fk_model.specs.World.Edit.{Shift, Finish, End, CountMoved, PassTurn, SetFault}
use Rattle.fk_model.specs.Searches.{talk_at}
use Rattle.fk_model.specs.Reach.{Reach, reach_word, words_at}
use Rattle.fk_model.specs.Reach.Reach.{Home, Missing, Bad}
use Rattle.fk_model.specs.Holds.{is_free, is_frozen}
use Rattle.fk_model.specs.Outcomes.{Said, Outcome, ◌>>=◌, when, done, listed}
use Rattle.fk_model.specs.Outcomes.Outcome.{Refused, Waits, Goes}
use Rattle.fk_model.specs.Outcomes.Said.{Nothing, Words, Passed}
use Rattle.fk_model.specs.Readers.{own_page_at, own_page, their_page_at, their_page, object_in, handled}
use Rattle.fk_model.specs.Talks.{Line, line, same_side, receiving, thread_led_to, is_service_free, awaited, is_handled}
use Rattle.fk_model.specs.TransferRows.{overwritten, block, moved_words, in_turn, has_sent, sends_words, sends_into, sends_to_thread, sends_to_service}
use Rattle.fk_model.specs.TransferRows.{may_carry, over_ref}
use Rattle.fk_model.specs.TransferRows.{sends_to, sends, send, passes, passes_to_thread, passes_to, over, takes_turn}
use Rattle.fk_model.specs.LinkRows.{user_at}
use Rattle.fk_model.specs.Moves.{stage_row, is_for_porters, chooses, with_pick, closed, call_row}
use Rattle.fk_model.specs.Cut.{is_out}
use Rattle.fk_model.specs.Further.{is_outside, counted, takes_words, sends_outside, passes_outside, talks_outside, over_outside}
use Rattle.fk_model.specs.Seen.{count_set, writes_inside, only_fills, leads_out}
use Rattle.fk_model.proofs.walks.PlaceLaws.{same_path_refl, strip_some, strip-append}
use Rattle.laws_moves.proofs.InMachine.Frame.{or_off}
use Rattle.laws_subtrees.specs.Cut.Likeness.{seen_peer, seen_talk, PtrLikeness, HasLikeness, IfServer, AllInTalk, IsLikeness, IsOuter, AlikeOptions, IsSeenTalk}
use Rattle.laws_subtrees.specs.Cut.Likeness.{IsSeenAs}
use Rattle.laws_subtrees.specs.Cut.Likeness.{ReachLikeness}
use Rattle.laws_subtrees.specs.Cut.Likeness.PtrLikeness.{Nulls, Deads, Inside, PortAt, PortOut}
use Rattle.laws_subtrees.specs.Cut.Likeness.ReachLikeness.{Homes, Misses, Bads}
use Rattle.laws_subtrees.specs.Cut.LikeChanges.{LikeChanges, IsLikeOutcome, IsLikeUnlessWaiting}
use Rattle.laws_subtrees.specs.Cut.LikeChanges.LikeChange.{Alters}
use Rattle.laws_subtrees.specs.Cut.LikeChanges.LikeChanges.{Empty, Both, Beyond}
use Rattle.laws_subtrees.proofs.InCut.likeness.Memory.{reach_word-like, words_at-like}
use Rattle.laws_subtrees.proofs.InCut.likeness.Talks.{talk_at-like}
use Rattle.laws_subtrees.proofs.InCut.likeness.Outcomes.{append-like, unless_waiting}
use Rattle.laws_subtrees.proofs.InCut.likeness.Sends.{sent-like, CarriedLike, weak_bind, may_carry-like}
use Rattle.laws_subtrees.proofs.InCut.likeness.Reads.{reference_in-like}
use Rattle.laws_moves.proofs.InRows.Handles.{receives-handled}
use Rattle.laws_subtrees.proofs.InCut.likeness.Waits.{reference_beside}

-- ---- how many words a peer outside takes

pub some_words : (address count into room : ℕ) → eqb count 0 ≡ false → eqb room 0 ≡ false → 0 < moved_words address count into room
some_words address count into room many wide = omega (arith, eqb-false count 0 many, eqb-false room 0 wide)

no_more : (address count into room : ℕ) → moved_words address count into room ≤ moved_words address count 0 BLOCK_WORDS
no_more address count into room = omega arith

-- ---- far rows whose changes are those of a move of its own, with n words taken

module _ (root : Path) (see : Ptr → Ptr) (big : World) (n : ℕ) where
  -- n words are counted, no page inside is put, and it isn't a Send that met no room
  pub record Takes (far : Outcome) : Type 0 where
    pub puts_none : writes_inside root (listed far) ≡ false
    pub fills_none : only_fills root (listed far) ≡ false
    pub counts : n ≡ unwrap_or (count_set (listed far)) 0

  abbrev pub AlikeTaking : Outcome → Outcome → Type 0
  AlikeTaking near far = Takes far → IsLikeUnlessWaiting root see big (counted n near) far

-- who isn't among the peers inside is outside
outer_at : (w : World) (root : Path) (thread : Ptr) (e : Path × Thread) →
    IsOuter root (Server thread) → thread_led_to w thread ≡ Some e → is_within root e.0 ≡ false
outer_at w root (At x) e outer is = by (and_then thread_of (w.body x)) is
  where
    outside : (r : Option Path) → strip root x ≡ r → is_some r ≡ false
    outside None h = refl
    outside (Some z) h =
        let there = strip_some root x z h in
        let off : same_path (z ++ root) (z ++ root) ≡ false = subst (λ (y : Path). same_path y (z ++ root) ≡ false) there (outer z) in
        absurd (clash (same_path (z ++ root) (z ++ root)) (same_path_refl (z ++ root)) off)
      where
        clash : (b : Bool) → b ≡ true → b ≡ false → ⊥
        clash true e f = cc
        clash false e f = cc

    by : (o : Option Thread) → and_then (λ (t : Thread). Some (x, t)) o ≡ Some e → is_within root e.0 ≡ false
    by None h = cc
    by (Some t) h = let here : e.0 ≡ x = ap (λ (d : Path × Thread). d.0) (the_one (x, t) e h) in rw here (outside (strip root x) refl)
      where
        the_one : (a b : Path × Thread) → Some a ≡ Some b → b ≡ a
        the_one a b h = cc
outer_at w root Null e outer is = cc
outer_at w root Dead e outer is = cc
outer_at w root (Out slot) e outer is = cc
outer_at w root Outside e outer is = cc
outer_at w root Far e outer is = cc

-- words that are sent to a port outside count
counted_sent : (n m count : ℕ) (x : Path) (cs : List Change) (port : Ptr) (words : List ℕ) →
    is_out port ≡ true → counted n (has_sent (user_at x) m count cs (Words port words)) ≡ has_sent (user_at x) m count cs (Words port words)
counted_sent n m count x cs port words out = by (eqb m count)
  where
    so : (a : Bool) (ds : List Change) → when (a || is_out port) (Goes ds (Words port words)) ≡ Goes ds (Words port words)
    so true ds = refl
    so false ds = rw out refl

    by : (b : Bool) →
        counted n (cond b (Goes ((cs ++ Alter (slot_of x ∷ parent x) (Shift m) ∷ []) ++ Alter (slot_of x ∷ parent x) (Finish []) ∷ []) (Words port words))
        (Goes (cs ++ Alter (slot_of x ∷ parent x) (Shift m) ∷ []) (Words port words))) ≡
        cond b (Goes ((cs ++ Alter (slot_of x ∷ parent x) (Shift m) ∷ []) ++ Alter (slot_of x ∷ parent x) (Finish []) ∷ []) (Words port words))
        (Goes (cs ++ Alter (slot_of x ∷ parent x) (Shift m) ∷ []) (Words port words))
    by true = so (eqb n 0) _
    by false = so (eqb n 0) _

module _ {root : Path} {see : Ptr → Ptr} {small big : World}
    (like : IsLikeness root see small big) (k : ℕ) (q : Path) (talk : Talk) (n address count : ℕ) (outward : is_out (see talk.port) ≡ true) where
  abbrev Alike : Outcome → Outcome → Type 0
  Alike = IsLikeOutcome root see big

  abbrev Taking : Outcome → Outcome → Type 0
  Taking = AlikeTaking root see big n

  abbrev me : Path
  me = k ∷ (q ++ root)

  abbrev near_row : List ℕ → Outcome
  near_row page = takes_words (user_at (k ∷ q)) (k ∷ q) (see talk.port) n address count page

  -- the row of the cut, where so many words are taken as the big world moves
  took : (page : List ℕ) (m : ℕ) (ds : List Change) (told : Said) → n ≡ m → 0 < m → m ≤ moved_words address count 0 BLOCK_WORDS → LikeChanges root
      see big (Alter (k ∷ q) (CountMoved m) ∷ []) ds → IsLikeUnlessWaiting root see big (counted n (near_row page)) (has_sent (user_at me) m count ds told)
  took page m ds told e some few h =
      rw (
        e,
        lt-ltb 0 m some,
        le-leb m (moved_words address count 0 BLOCK_WORDS) few,
        counted_sent m m count (k ∷ q) (Alter (k ∷ q) (CountMoved m) ∷ []) (see talk.port) (block m address page) outward,
      )
      (unless_waiting like _ _ (sent-like like k q m count (Alter (k ∷ q) (CountMoved m) ∷ []) ds (Words (see talk.port) (block m address page)) told h))

  -- what is listed where words are sent
  sent_list : (P : List Change → Type 0) (m : ℕ) (ds : List Change) (told : Said) →
      ((tail : List Change) → P (ds ++ tail)) → P (listed (has_sent (user_at me) m count ds told))
  sent_list P m ds told h = by (eqb m count)
    where
      by : (b : Bool) →
          P (listed (cond b (Goes ((ds ++ Alter me (Shift m) ∷ []) ++ Alter me (Finish []) ∷ []) told) (Goes (ds ++ Alter me (Shift m) ∷ []) told)))
      by true = subst P (sym (append_assoc ds (Alter me (Shift m) ∷ []) (Alter me (Finish []) ∷ []))) (h (Alter me (Shift m) ∷ Alter me (Finish []) ∷ []))
      by false = h (Alter me (Shift m) ∷ [])

  -- ---- a Send to a thread outside, or to a native server

  module _ (y : Path) (out : is_within root y ≡ false) where
    -- the words go to a page of a space
    puts : (page : List ℕ) (m into : ℕ) (s : Path) (other : ℕ) (words : List ℕ) → 0 < m → m ≤ moved_words address count 0 BLOCK_WORDS →
        Taking (near_row page) (sends_words (user_at me) me y m address count page into s other words)
    puts page m into s other words some few takes =
        let ds : List Change = PutPage s other (overwritten words (into % PAGE_WORDS) (block m address page))
        ∷ Alter me (CountMoved m) ∷ Alter y (Shift m) ∷ [] in
        let counted : unwrap_or (count_set (listed (has_sent (user_at me) m count ds Nothing)))
        0 ≡ m = sent_list (λ cs. unwrap_or (count_set cs) 0 ≡ m) m ds Nothing (λ tail. refl) in
        let apart = sent_list (λ cs. writes_inside root cs ≡ false → is_within root s ≡ false)
        m ds Nothing (λ tail h. (or_off (is_within root s) _ h).0) takes.puts_none in
        took page m ds Nothing (takes.counts ∙ counted) some few (Beyond apart (Both (Alters k q _ (CountMoved m) refl tt) (Beyond out Empty)))

    into : (page : List ℕ) (o : Option (ℕ × ℕ)) → eqb count 0 ≡ false → Taking (near_row page) (sends_into big (user_at me) me y address count page o)
    into page None many = λ takes. tt
    into page (Some receive) many = by (eqb receive.1 0) refl
      where
        m : ℕ
        m = moved_words address count receive.0 receive.1

        there : eqb receive.1 0 ≡ false → (r : Reach) → Taking (near_row page) (their_page_at (λ t other.
            sends_words (user_at me) me y (moved_words address count receive.0 receive.1) address count page receive.0 t other (words_at big t other)) r)
        there wide (Home s other) = puts page (moved_words address count receive.0 receive.1)
            receive.0 s other (words_at big s other) (some_words address count receive.0 receive.1 many wide) (no_more address count receive.0 receive.1)
        there wide (Missing s other keeper) = λ takes. tt
        there wide Bad = λ takes. tt

        by : (b : Bool) →
            eqb receive.1 0 ≡ b → Taking (near_row page) (cond b (Goes (Alter y (End FULL []) ∷ []) Nothing) (their_page big (parent y) receive.0 (λ t other.
            sends_words (user_at me) me y (moved_words address count receive.0 receive.1) address count page receive.0 t other (words_at big t other))))
        by true e = λ takes. absurd (filled (is_within root y) out takes.fills_none)
          where
            filled : (b : Bool) → b ≡ false → not b ≡ false → ⊥
            filled false h g = cc
            filled true h g = cc
        by false e = there e (reach_word big (parent y) receive.0 true)

  to_thread : (page : List ℕ) (o : Option (Path × Thread)) → ((e : Path × Thread) → o ≡ Some e → is_within root e.0 ≡ false) →
      eqb count 0 ≡ false → Taking (near_row page) (sends_to_thread big (user_at me) turns.Client me address count page o)
  to_thread page None outer many = λ takes. tt
  to_thread page (Some e) outer many = by (is_free big (parent e.0) e.1)
    where
      by : (b : Bool) → Taking (near_row page)
          (when b (sends_into big (user_at me) me e.0 address count page (receiving big (parent e.0) turns.Server e.1.mode)))
      by true = into e.0 (outer e refl) page (receiving big (parent e.0) turns.Server e.1.mode) many
      by false = λ takes. tt

  abbrev far_line : Line
  far_line = record { client = me; talk = talk; other = talk.peer }

  to_service : (page : List ℕ) (b : Bool) →
      eqb count 0 ≡ false → Taking (near_row page) (when b (sends_to_service (user_at me) me talk.port address count page))
  to_service page false many = λ takes. tt
  to_service page true many = λ takes.
      let m : ℕ = moved_words address count 0 BLOCK_WORDS in
      let ds : List Change = Alter me (CountMoved m) ∷ [] in
      let told : Said = Words talk.port (block m address page) in
      let counted : unwrap_or
      (count_set (listed (has_sent (user_at me) m count ds told))) 0 ≡ m = sent_list (λ cs. unwrap_or (count_set cs) 0 ≡ m) m ds told (λ tail. refl) in
      took page m ds told (takes.counts ∙ counted) (some_words address count 0 BLOCK_WORDS many refl)
      (no_more address count 0 BLOCK_WORDS) (Both (Alters k q _ (CountMoved m) refl tt) Empty)

  to : (page : List ℕ) (peer : Peer) →
      IsOuter root peer → eqb count 0 ≡ false → Taking (near_row page) (sends_to big (user_at me) turns.Client far_line address count page peer)
  to page (Server thread) outer many = to_thread page (thread_led_to big thread) (λ e is. outer_at big root thread e outer is) many
  to page Service outer many = to_service page (is_service_free big talk.port) many
  to page Parked outer many = λ takes. tt

  abbrev near_line : Line
  near_line = record { client = k ∷ q; talk = seen_talk see talk; other = (seen_talk see talk).peer }

  at_own : (near far : Path → ℕ → Outcome) (a b : Reach) → ReachLikeness root see big a b →
      ((s : Path) (page : ℕ) → Taking (near s page) (far (s ++ root) page)) → Taking (own_page_at (k ∷ q) false near a) (own_page_at me false far b)
  at_own near far _ _ (Homes s page) goes = goes s page
  at_own near far _ _ (Misses s page None None h) goes = λ takes. rw (takes.counts) refl
  at_own near far _ _ (Misses s page (Some seen) (Some port) h) goes = λ takes.
      let fault : Fault = record { page = page; write = false; port = port; taker = None } in
      rw (takes.counts, h.0) (Both (Alters k q _ (SetFault (Some fault)) refl (h.1, tt)) Empty)
  at_own near far _ _ (Misses s page None (Some port) h) goes = absurd h
  at_own near far _ _ (Misses s page (Some seen) None h) goes = absurd h
  at_own near far _ _ Bads goes = λ takes. rw (takes.counts) refl

  sends_out_alike : IsOuter root talk.peer →
      Taking (sends_outside small (user_at (k ∷ q)) n address count near_line) (sends big (user_at me) turns.Client address count far_line)
  sends_out_alike outer = by (eqb count 0) refl
    where
      by : (b : Bool) → eqb count 0 ≡ b → Taking (cond b (done (user_at (k ∷ q)) [] []) (own_page small
          (user_at (k ∷ q)) address false (λ s page. takes_words (user_at (k ∷ q)) (k ∷ q) (see talk.port) n address count (words_at small s page))))
          (cond b (done (user_at me) [] []) (own_page big
          (user_at me) address false (λ s page. sends_to big (user_at me) turns.Client far_line address count (words_at big s page) talk.peer)))
      by true e = λ takes. rw (takes.counts) (Both (Alters k q _ (Finish []) refl tt) Empty)
      by false e = at_own _
          _ _ _ (reach_word-like like q address false) (λ s page. rw (words_at-like like s page) (to (words_at big (s ++ root) page) talk.peer outer e))

  -- ---- the row of a Send

  pub send_out : talk_at small (k ∷ q) ≡ Some (seen_talk see talk) → talk_at big me ≡ Some talk → IsOuter root talk.peer →
      Taking (in_turn small (k ∷ q) turns.Client turns.Client >>= sends_outside small (user_at (k ∷ q)) n address count)
      (send big (user_at me) turns.Client address count)
  unfolding send line
  send_out near far outer = rw (near, far) (by (same_side talk.turn turns.Client))
    where
      by : (b : Bool) → Taking (cond b (Ok near_line) (Err WRONGTURN) >>= sends_outside small (user_at (k ∷ q)) n address count)
          (cond b (Ok far_line) (Err WRONGTURN) >>= sends big (user_at me) turns.Client address count)
      by true = sends_out_alike outer
      by false = λ takes. rw (takes.counts) refl

  -- ---- an Over

  abbrev Passing : Outcome → Outcome → Type 0
  Passing = IsLikeUnlessWaiting root see big

  -- a pointer that may be handed on in the world may be by the subtree alone
  module _ (free : is_frozen big root ≡ false) (seen carried : Option Ptr) (alike : CarriedLike like seen carried) where
    passed : (ds : List Change) (told : Said) → may_carry small (k ∷ q) seen ≡ true → LikeChanges root see big [] ds →
        Passing (passes_outside small (user_at (k ∷ q)) seen near_line) (Goes ((ds ++ Alter me (PassTurn turns.Server) ∷ []) ++ Alter me (Finish []) ∷ []) told)
    passed ds told on h =
        rw on (append-like (append-like h (Both (Alters k q _ (PassTurn turns.Server) refl tt) Empty)) (Both (Alters k q _ (Finish []) refl tt) Empty))

    turn-beyond : (y : Path) → is_within root y ≡ false → (to : Option ℕ) → is_handled big (parent y) to ≡ true → LikeChanges root see big []
        (takes_turn y carried to)
    turn-beyond y out to handled = by carried to handled
      where
        by : (carried : Option Ptr) (to : Option ℕ) → is_handled big (parent y) to ≡ true → LikeChanges root see big [] (takes_turn y carried to)
        by None to handled = Beyond out Empty
        by (Some p) None handled = Beyond out Empty
        by (Some p) (Some i) handled = Beyond (reference_beside like y i out handled) (Beyond out Empty)

    passes_thread : (o : Option (Path × Thread)) → ((e : Path × Thread) → o ≡ Some e → is_within root e.0 ≡ false) → may_carry small (k ∷ q) seen ≡ true →
        Passing (passes_outside small (user_at (k ∷ q)) seen near_line) (passes_to_thread big (user_at me) turns.Client me carried o)
    passes_thread None outer on = tt
    passes_thread (Some e) outer on = by (is_free big (parent e.0) e.1 && is_some (receiving big (parent e.0) turns.Server e.1.mode)) refl
      where
        by : (b : Bool) → (is_free big (parent e.0) e.1 && is_some (receiving big (parent e.0) turns.Server e.1.mode)) ≡ b →
            Passing (passes_outside small (user_at (k ∷ q)) seen near_line)
            (when b (passes (user_at me) turns.Client me (takes_turn e.0 carried (awaited e.1.mode))))
        by true at = passed (takes_turn e.0 carried (awaited e.1.mode)) Nothing on (turn-beyond e.0 (outer e refl) (awaited e.1.mode)
            (receives-handled big (parent e.0) turns.Server e.1.mode (and_parts (is_free big (parent e.0) e.1) _ at).1))
        by false at = tt

    passes_out : (peer : Peer) → IsOuter root peer → may_carry small (k ∷ q) seen ≡ true →
        Passing (passes_outside small (user_at (k ∷ q)) seen near_line) (passes_to big (user_at me) turns.Client far_line carried peer)
    passes_out (Server thread) outer on = passes_thread (thread_led_to big thread) (λ e is. outer_at big root thread e outer is) on
    passes_out Service outer on = by (is_service_free big talk.port)
      where
        by : (b : Bool) → Passing (passes_outside small (user_at (k ∷ q)) seen near_line)
            (when b (Goes (Alter me (PassTurn turns.Server) ∷ Alter me (Finish []) ∷ []) (Passed talk.port)))
        by true = passed [] (Passed talk.port) on Empty
        by false = tt
    passes_out Parked outer on = tt

    passes_on_out : (peer : Peer) → IsOuter root peer → (b : Bool) → may_carry big me carried ≡ b →
        Passing (passes_outside small (user_at (k ∷ q)) seen near_line) (when b (passes_to big (user_at me) turns.Client far_line carried peer))
    passes_on_out peer outer true e = passes_out peer outer (may_carry-like like free k q seen carried alike e)
    passes_on_out peer outer false e = tt

    pub over_out : talk_at small (k ∷ q) ≡ Some (seen_talk see talk) → talk_at big me ≡ Some talk → IsOuter root talk.peer →
        Passing (over_outside small (user_at (k ∷ q)) seen) (over big (user_at me) turns.Client carried)
    unfolding over line
    over_out near far outer = rw (near, far) (by (same_side talk.turn turns.Client))
      where
        by : (b : Bool) → Passing (cond b (Ok near_line) (Err WRONGTURN) >>= passes_outside small (user_at (k ∷ q)) seen)
            (cond b (Ok far_line) (Err WRONGTURN) >>= λ l. when (may_carry big me carried) (passes_to big (user_at me) turns.Client l carried l.other))
        by true = passes_on_out talk.peer outer (may_carry big me carried) refl
        by false = refl

  pub over_ref_out : is_frozen big root ≡ false → (reference : ℕ) → talk_at small (k ∷ q) ≡ Some (seen_talk see talk) → talk_at big me ≡ Some talk →
      IsOuter root talk.peer →
      Passing (object_in small (user_at (k ∷ q)) reference_of q reference >>= λ p. over_outside small (user_at (k ∷ q)) (Some p))
      (over_ref big (user_at me) turns.Client reference)
  unfolding over_ref
  over_ref_out free reference near far outer = weak_bind like free k q (IsSeenAs root see big) (object_in small (user_at (k ∷ q)) reference_of q reference)
      (object_in big (user_at me) reference_of (q ++ root) reference) _ _ (reference_in-like like (user_at (k ∷ q)) q reference)
      (λ seen p h. over_out free (Some seen) (Some p) h near far outer)

-- ---- a client inside

-- a call of no pick that is for users
pub alone : (w : World) (x : Path) (stage : Stage) →
    chooses stage ≡ false → is_for_porters stage ≡ false → call_row w (user_at x) None stage ≡ closed (user_at x) (stage_row w (user_at x) None stage)
unfolding call_row
alone w x stage picks porters = rw (picks, porters) (by (stage_row w (user_at x) None stage))
  where
    by : (o : Outcome) → closed (user_at x) (with_pick false None o) ≡ closed (user_at x) o
    by (Refused status) = refl
    by Waits = refl
    by (Goes cs said) = refl

pub picked : (w : World) (x y : Path) (stage : Stage) → chooses stage ≡ false → call_row w (user_at x) (Some y) stage ≡ Waits
unfolding call_row
picked w x y stage picks = rw picks (by _)
  where
    by : (o : Outcome) → closed (user_at x) (with_pick false (Some y) o) ≡ Waits
    by (Refused status) = refl
    by Waits = refl
    by (Goes cs said) = refl

pub inward_only : (root : Path) (big : World) (p seen : Ptr) → PtrLikeness root big p seen → is_out seen ≡ false → leads_out root p ≡ false
inward_only root big _ _ Nulls h = refl
inward_only root big _ _ Deads h = refl
inward_only root big _ _ (Inside x) h = rw (strip-append root x) refl
inward_only root big _ _ (PortAt x slot apart kind) h = cc
inward_only root big _ _ (PortOut old slot) h = cc

pub outward_only : (root : Path) (big : World) (p seen : Ptr) → PtrLikeness root big p seen → is_out seen ≡ true → leads_out root p ≡ true
outward_only root big _ _ Nulls h = cc
outward_only root big _ _ Deads h = cc
outward_only root big _ _ (Inside x) h = cc
outward_only root big _ _ (PortAt x slot apart kind) h = ap not apart
outward_only root big _ _ (PortOut old slot) h = refl

-- nobody is seen as Outside but at a port that is
not_outside : (root : Path) (big : World) (p seen : Ptr) → PtrLikeness root big p seen → is_outside (Server seen) ≡ false
not_outside root big _ _ Nulls = refl
not_outside root big _ _ Deads = refl
not_outside root big _ _ (Inside x) = refl
not_outside root big _ _ (PortAt x slot apart kind) = refl
not_outside root big _ _ (PortOut old slot) = refl

pub peer_out : (root : Path) (see : Ptr → Ptr) (big : World) (out : Bool) (peer : Peer) →
    IfServer out peer (HasLikeness root see big) → is_outside (seen_peer see out peer) ≡ out
peer_out root see big true peer h = refl
peer_out root see big false (Server thread) h = not_outside root big thread (see thread) h
peer_out root see big false Service h = refl
peer_out root see big false Parked h = refl

module _ {root : Path} {see : Ptr → Ptr} {small big : World} (like : IsLikeness root see small big) (k : ℕ) (q : Path) where
  -- the peer of a talk is seen outside exactly where its port is
  pub outside_at : (b : Bool) → talks_outside small (k ∷ q) ≡ b → (talk : Talk) → talk_at big (k ∷ (q ++ root)) ≡ Some talk →
      (talk_at small (k ∷ q) ≡ Some (seen_talk see talk)) × AllInTalk see (HasLikeness root see big) talk × (is_out (see talk.port) ≡ b)
  outside_at b outside talk is = by (talk_at small (k ∷ q)) refl (talk_at big (k ∷ (q ++ root))) is (talk_at-like like (k ∷ q))
    where
      by : (o : Option Talk) → talk_at small (k ∷ q) ≡ o → (p : Option Talk) → p ≡ Some talk → AlikeOptions (IsSeenTalk root see big) o p →
          (talk_at small (k ∷ q) ≡ Some (seen_talk see talk)) × AllInTalk see (HasLikeness root see big) talk × (is_out (see talk.port) ≡ b)
      by None at None e h = cc
      by (Some seen) at None e h = absurd h
      by None at (Some found) e h = absurd h
      by (Some seen) at (Some found) e h =
          let both : IsSeenTalk root see big seen talk = subst (λ (f : Talk). IsSeenTalk root see big seen f) (the_one found talk e) h in
          let seen_at : talk_at small (k ∷ q) ≡ Some (seen_talk see talk) = at ∙ ap Some both.0 in (
            seen_at,
            both.1,
            sym (peer_out root see big (is_out (see talk.port)) talk.peer both.1.1)
                ∙ sym (ap (holds (λ (talk : Talk). is_outside talk.peer)) seen_at) ∙ outside,
          )
        where
          the_one : (a b : Talk) → Some a ≡ Some b → a ≡ b
          the_one a b h = cc

  -- a talk is seen outside, so there is one
  pub outside_talk : talks_outside small (k ∷ q) ≡ true → (talk : Talk) × (talk_at big (k ∷ (q ++ root)) ≡ Some talk)
  outside_talk outside = by (talk_at small (k ∷ q)) (talk_at big (k ∷ (q ++ root))) refl outside (talk_at-like like (k ∷ q))
    where
      by : (o p : Option Talk) → talk_at big (k ∷ (q ++ root)) ≡ p → holds (λ (talk : Talk). is_outside talk.peer) o ≡ true →
          AlikeOptions (IsSeenTalk root see big) o p → (talk : Talk) × (talk_at big (k ∷ (q ++ root)) ≡ Some talk)
      by o (Some talk) is e h = (talk, is)
      by None None is e h = cc
      by (Some seen) None is e h = absurd h
