-- The law of rebinding for a Send and an Over, with what the outside is told of them.
use Rattle.std.proofs.Common.{◌≡◌, ℕ, eqb, leb, ltb, Bool, true, false, cond, ◌&&◌, List, [], ◌∷◌, ◌++◌, map, find, Option, Some, None, is_none, Ok, Err, refl}
use Rattle.std.proofs.Common.{not}
use Rattle.std.proofs.Common.{sym, ap, subst, ◌∙◌, append-nil}
use Rattle.fk_model.specs.declared.limits.TheConstants.{BLOCK_WORDS}
use Rattle.fk_model.specs.declared.statuses.status.TheConstants.{WRONGTURN}
use Rattle.fk_model.specs.declared.stage.Stage.{Stage}
use Rattle.fk_model.specs.declared.stage.Stage.TheVariants.{ClientSend, ClientOver, ServerSend, ServerOver, ClientOverRef, ServerOverRef}
use Rattle.fk_model.specs.declared.thread.Turn.TheVariants as turns
use Rattle.fk_model.specs.Places.{Path, parent, Ptr}
use Rattle.fk_model.specs.Objects.{Talk, Thread, holds, reference_of}
use Rattle.fk_model.specs.Objects.Mode.{Calling}
use Rattle.fk_model.specs.World.{World, serves}
use Rattle.fk_model.specs.World.Change.{Alter}
use Rattle.fk_model.specs.World.Edit.{Finish, End, CountMoved, PassTurn}
use Rattle.fk_model.specs.Searches.{talk_at, client_of, objects, thread_at}
use Rattle.fk_model.specs.Reach.{words_at}
use Rattle.fk_model.specs.Holds.{is_frozen, is_free, leads_to_frozen}
use Rattle.fk_model.specs.Outcomes.{Outcome, ◌>>=◌, when, done}
use Rattle.fk_model.specs.Outcomes.Outcome.{Refused, Waits, Goes}
use Rattle.fk_model.specs.Readers.{own_page, object_in}
use Rattle.fk_model.specs.Talks.{Line, line, same_side}
use Rattle.fk_model.specs.TransferRows.{block, moved_words, in_turn, may_carry}
use Rattle.fk_model.specs.LinkRows.{user_at}
use Rattle.fk_model.specs.Moves.{stage_row, is_for_porters, chooses, closed, call_row}
use Rattle.fk_model.specs.Cut.{is_out}
use Rattle.fk_model.specs.Further.{is_outside, takes_words, sends_outside, passes_outside, talks_outside, outside_row, own_row, counted, onward_row}
use Rattle.fk_model.specs.Further.{over_outside}
use Rattle.fk_model.specs.Further.Onward.{Own}
use Rattle.fk_model.specs.Rebind.{rebound_ptr, rebound}
use Rattle.laws_subtrees.specs.Cut.CutLaws.{IsAtStage, IsServerSend, IsServerOver, IsClientSend, IsClientOver, IsClientOverRef, IsServerOverRef}
use Rattle.laws_subtrees.specs.Cut.Likeness.{seen_talk, seen_thread, IsLikeness, IsCutWorld, ServesNobodyOutside, IsBeneath, AlikeOptions, IsSeenTalk, IsSeenAs}
use Rattle.laws_subtrees.specs.Cut.Likeness.{PtrLikeness}
use Rattle.laws_subtrees.specs.Cut.LikeChanges.LikeChange.{Alters}
use Rattle.laws_subtrees.specs.Cut.LikeChanges.LikeChanges.{Empty, Both}
use Rattle.laws_subtrees.specs.Cut.RebindLaws.{RebindsTo, StageRebinds}
use Rattle.laws_subtrees.proofs.InCut.likeness.Instances.{rebound-like}
use Rattle.laws_subtrees.proofs.InCut.likeness.Memory.{root_space, root_seen, words_at-like}
use Rattle.laws_subtrees.proofs.InCut.likeness.Holds.{is_free-like, is_frozen_for-like}
use Rattle.laws_subtrees.proofs.InCut.likeness.Talks.{talk_at-like}
use Rattle.laws_subtrees.proofs.InCut.likeness.Walks.{beneath-like}
use Rattle.laws_subtrees.proofs.InCut.likeness.Sweeps.{serves_alike}
use Rattle.laws_subtrees.proofs.InCut.likeness.Servers.{cut_world-apart}
use Rattle.laws_subtrees.proofs.InCut.likeness.Sends.{NearLine, says_nothing, Same, same_when, same_own, same_sent, send-same, over-same, client_near}
use Rattle.laws_subtrees.proofs.InCut.likeness.Sends.{server_near, CarriedLike, over_ref-same}
use Rattle.laws_subtrees.proofs.InCut.likeness.Sends.{same_bind}
use Rattle.laws_subtrees.proofs.InCut.likeness.Sends.SaidLikeness.{SaysWords, SaysPassed}
use Rattle.laws_subtrees.proofs.InCut.cut.Inside.{call_closed}
use Rattle.laws_subtrees.proofs.InCut.rebinding.Freedom.{out_kept, top_free, nothing_outside}
use Rattle.laws_subtrees.proofs.InCut.rebinding.Rebound.{no_thread, thread_named, rebinds_by}
use Rattle.laws_subtrees.proofs.InCut.talks.Sends.{own_is}
use Rattle.laws_subtrees.proofs.InCut.talks.Clients.{alone, picked, outside_at, outside_talk}
use Rattle.laws_subtrees.specs.Cut.Likeness.PtrLikeness.{Deads, Inside, Nulls, PortAt, PortOut}
use Rattle.laws_subtrees.proofs.InCut.likeness.Reads.{reference_in-like}

-- ---- calls act and are heard alike

module _ {root : Path} {see : Ptr → Ptr} {small big : World} (like : IsLikeness root see small big) where
  pub same_closed : (k : ℕ) (q : Path) (near far : Outcome) →
      Same like near far → Same like (closed (user_at (k ∷ q)) near) (closed (user_at (k ∷ (q ++ root))) far)
  same_closed k q Waits Waits h = (tt, tt)
  same_closed k q (Refused status) Waits h = absurd h.0
  same_closed k q (Goes cs said) Waits h = absurd h.0
  same_closed k q (Refused status) (Refused refusal) h =
      (Both (Alters k q (End status []) (End refusal []) (ap (λ (s : ℕ). End s []) h.0) tt) Empty, says_nothing)
  same_closed k q (Goes cs said) (Goes ds told) h = h
  same_closed k q (Refused status) (Goes ds told) h = absurd h.0
  same_closed k q (Goes cs said) (Refused refusal) h = absurd h.0
  same_closed k q Waits (Refused refusal) h = absurd h.0
  same_closed k q Waits (Goes ds told) h = absurd h.0

  pub same_call : (k : ℕ) (q : Path) (p : Option Path) (stage : Stage) → chooses stage ≡ false →
      is_for_porters stage ≡ false → Same like (stage_row small (user_at (k ∷ q)) None stage) (stage_row big (user_at (k ∷ (q ++ root))) None stage) →
      Same like (call_row small (user_at (k ∷ q)) p stage) (call_row big (user_at (k ∷ (q ++ root))) p stage)
  same_call k q None stage picks users h = rw (alone small (k ∷ q) stage picks users, alone big (k ∷ (q ++ root)) stage picks users) (same_closed k q _ _ h)
  same_call k q (Some y) stage picks users h = rw (picked small (k ∷ q) y stage picks, picked big (k ∷ (q ++ root)) y stage picks) (tt, tt)

  -- ---- who serves whom, in a list of the same objects

  pub found_same : (near far : Path → Bool) (xs : List Path) →
      ((x : Path) → near x ≡ far (x ++ root)) → AlikeOptions (IsBeneath root) (find near xs) (find far (map (λ x. x ++ root) xs))
  found_same near far [] same = tt
  found_same near far (x ∷ xs) same = rw (same x) (by (far (x ++ root)) (found_same near far xs same))
    where
      by : (b : Bool) → AlikeOptions (IsBeneath root) (find near xs) (find far (map (λ x. x ++ root) xs)) →
          AlikeOptions (IsBeneath root) (cond b (Some x) (find near xs)) (cond b (Some (x ++ root)) (find far (map (λ x. x ++ root) xs)))
      by true h = refl
      by false h = h

  serves_like : ServesNobodyOutside root see big → (me x : Path) →
      holds (λ (talk : Talk). serves me talk.peer) (talk_at small x) ≡ holds (λ (talk : Talk). serves (me ++ root) talk.peer) (talk_at big (x ++ root))
  serves_like apart me [] = rw ((root_space like).2, root_seen like) refl
  serves_like apart me (j ∷ q) = by (talk_at small (j ∷ q)) (talk_at big (j ∷ (q ++ root))) refl (talk_at-like like (j ∷ q))
    where
      by : (o p : Option Talk) → talk_at big (j ∷ (q ++ root)) ≡ p →
          AlikeOptions (IsSeenTalk root see big) o p → holds (λ (talk : Talk). serves me talk.peer) o ≡ holds (λ (talk : Talk). serves (me ++ root) talk.peer) p
      by None None is h = refl
      by (Some seen) (Some talk) is h = rw h.0 (serves_alike like me (is_out (see talk.port)) talk.peer h.1.1 (λ out. apart.talks j q talk is out me))
      by None (Some talk) is h = absurd h
      by (Some seen) None is h = absurd h

-- of a world that is all inside, the clients are found alike
pub client_same : {see : Ptr → Ptr} {small big : World} (like : IsLikeness [] see small big) →
    ServesNobodyOutside [] see big → (me : Path) → AlikeOptions (IsBeneath []) (client_of small me) (client_of big (me ++ []))
unfolding client_of
client_same {see} {small} {big} like apart me =
    subst (λ (xs : List Path). AlikeOptions (IsBeneath []) (find (λ c. holds (λ (talk : Talk). serves me talk.peer) (talk_at small c)) (objects small))
    (find (λ c. holds (λ (talk : Talk). serves (me ++ []) talk.peer) (talk_at big c)) xs)) (sym (beneath-like like []))
    (found_same like _ _ (objects small) (serves_like like apart me))

-- ---- a row of its own, at the same path

-- the row of a move of its own, of a thread at a stage
abbrev pub its_row : Option Path → ℕ → Stage → World → Path → Outcome
its_row p n stage w x = cond (talks_outside w x && is_none p)
    (closed (user_at x) (outside_row w (user_at x) n stage (call_row w (user_at x) p stage))) (call_row w (user_at x) p stage)

its_row_is : (p : Option Path) (n : ℕ) (stage : Stage) (w : World) (x : Path) (t : Thread) (todo : List Stage) (rest : List ℕ) →
    thread_at w x ≡ Some t → t.mode ≡ Calling (stage ∷ todo) rest → onward_row w (Own x p n) ≡ counted n (when (is_free w (parent x) t) (its_row p n stage w x))
unfolding onward_row
its_row_is p n stage w x t todo rest is e = ap (counted n) (ap (own_row w x p n) is ∙ own_is w x p n t stage todo rest e ∙ by (talks_outside w x && is_none p))
  where
    by : (b : Bool) → cond b (when (is_free w (parent x) t) (closed (user_at x) (outside_row w (user_at x) n stage (call_row w (user_at x) p stage))))
        (when (is_free w (parent x) t) (call_row w (user_at x) p stage)) ≡
        when (is_free w (parent x) t)
        (cond b (closed (user_at x) (outside_row w (user_at x) n stage (call_row w (user_at x) p stage))) (call_row w (user_at x) p stage))
    by true = refl
    by false = refl

-- rows that are alike and heard alike in every likeness with the same ports outside
abbrev pub IsRebound : Option Path → ℕ → Stage → Type 0
IsRebound p n stage = (see : Ptr → Ptr) (small c : World) (like : IsLikeness [] see small c) → ((p : Ptr) → is_out (see p) ≡ is_out p) →
    IsCutWorld c → (k : ℕ) (q : Path) → Same like (its_row p n stage small (k ∷ q)) (its_row p n stage c (k ∷ (q ++ [])))

module _ (bind : ℕ → ℕ) (c : World)
    (world : IsCutWorld c) (k : ℕ) (q : Path) (p : Option Path) (n : ℕ) (stage : Stage) (at : IsAtStage c (k ∷ q) stage) (alike : IsRebound p n stage) where
  abbrev likeness_of : IsLikeness [] (rebound_ptr bind) (rebound bind c) c
  likeness_of = rebound-like bind (λ p. p) [] c c world

  at_path : (see : Ptr → Ptr) (small : World) (like : IsLikeness [] see small c) → ((p : Ptr) → is_out (see p) ≡ is_out p) →
      (free : Bool) → free ≡ is_free c q at.0 → Same like (when free (its_row p n stage small (k ∷ q))) (when (is_free c q at.0) (its_row p n stage c (k ∷ q)))
  at_path see small like outs free e = same_when like free (is_free c q at.0) _ _
      e (subst (λ (y : Path). Same like (its_row p n stage small (k ∷ q)) (its_row p n stage c (k ∷ y))) (append-nil q) (alike see small c like outs world k q))

  told_anew : RebindsTo bind c (Own (k ∷ q) p n)
  told_anew =
      let see : Ptr → Ptr = rebound_ptr bind in
      let far_is = its_row_is p n stage c (k ∷ q) at.0 at.1 at.2 at.3 at.4 in
      let near_is = its_row_is p
      n stage (rebound bind c) (k ∷ q) (seen_thread see at.0) at.1 at.2 (thread_named see c (rebound bind c) (k ∷ q) likeness_of at.0 at.3) at.4 in
      let near = at_path see (rebound bind c) likeness_of (out_kept bind) (is_free (rebound bind c) q (seen_thread see at.0))
      (is_free-like likeness_of (top_free c world) q at.0 ∙ ap (λ (y : Path). is_free c y at.0) (append-nil q)) in
      let far = at_path (λ p. p) c world (λ p. refl) (is_free c q at.0) refl in
      rebinds_by bind c world k q p n _ _ near.0 far.0 near.1 near_is far_is

pub told_rebinds : (IsSuch : Stage → Type 0) → ((p : Option Path) (n : ℕ) (stage : Stage) → IsSuch stage → IsRebound p n stage) → StageRebinds IsSuch
told_rebinds IsSuch alike c [] p n stage such at bind world = absurd (no_thread at.0 (c.body []) (root_seen world) at.3)
told_rebinds IsSuch alike c (k ∷ q) p n stage such at bind world = told_anew bind c world k q p n stage at (alike p n stage such)

-- ---- a server

pub silent_row : (p : Option Path) (n : ℕ) (stage : Stage) (w : World) (x : Path) →
    ((n : ℕ) (o : Outcome) → outside_row w (user_at x) n stage o ≡ o) → its_row p n stage w x ≡ call_row w (user_at x) p stage
silent_row p n stage w x silent = rw (silent n (call_row w (user_at x) p stage), call_closed w x p stage) (by (talks_outside w x && is_none p))
  where
    by : (b : Bool) → cond b (call_row w (user_at x) p stage) (call_row w (user_at x) p stage) ≡ call_row w (user_at x) p stage
    by true = refl
    by false = refl

pub server_send_rebinds : StageRebinds IsServerSend
server_send_rebinds = told_rebinds IsServerSend (λ p n stage such. rw such.2 (law p n such.0 such.1))
  where
    law : (p : Option Path) (n address count : ℕ) → IsRebound p n (ServerSend address count)
    law p n address count see small c like outs world k q =
        rw (silent_row p n (ServerSend address count) small (k ∷ q) (λ n o. refl), silent_row p n (ServerSend address count) c (k ∷ (q ++ [])) (λ n o. refl))
        (same_call like k q p (ServerSend address count) refl refl (send-same like
        (top_free c world) k q turns.Server address count (server_near like (k ∷ q) (client_same like (cut_world-apart c see outs world) (k ∷ q)))))

pub server_over_rebinds : StageRebinds IsServerOver
server_over_rebinds = told_rebinds IsServerOver (λ p n stage such. rw such (law p n))
  where
    law : (p : Option Path) (n : ℕ) → IsRebound p n ServerOver
    law p n see small c like outs world k q =
        rw (silent_row p n ServerOver small (k ∷ q) (λ n o. refl), silent_row p n ServerOver c (k ∷ (q ++ [])) (λ n o. refl))
        (same_call like k q p ServerOver refl
        refl (over-same like (top_free c world) k q turns.Server None None tt refl
        (server_near like (k ∷ q) (client_same like (cut_world-apart c see outs world) (k ∷ q)))))

-- in a world that is all inside, what is frozen is seen so
frozen_alike : {see : Ptr → Ptr} {small c : World} (like : IsLikeness [] see small c) → is_frozen c [] ≡ false → (me : Path) (p seen : Ptr)
    → PtrLikeness [] c p seen →
    leads_to_frozen small me seen ≡ leads_to_frozen c (me ++ []) p
frozen_alike like free me _ _ Nulls = refl
frozen_alike like free me _ _ Deads = refl
frozen_alike like free me _ _ (Inside x) = is_frozen_for-like like free me x
frozen_alike like free me _ _ (PortAt x slot apart kind) = absurd (nothing_outside x apart)
frozen_alike like free me _ _ (PortOut old slot) = refl

pub server_over_ref_rebinds : StageRebinds IsServerOverRef
server_over_ref_rebinds = told_rebinds IsServerOverRef (λ p n stage such. rw such.1 (law p n such.0))
  where
    law : (p : Option Path) (n reference : ℕ) → IsRebound p n (ServerOverRef reference)
    law p n reference see small c like outs world k q =
        rw (silent_row p n (ServerOverRef reference) small (k ∷ q) (λ n o. refl), silent_row p n (ServerOverRef reference) c (k ∷ (q ++ [])) (λ n o. refl))
        (same_call like k q p (ServerOverRef reference) refl refl (over_ref-same like (top_free c world) k q
        (λ p h. ap not (frozen_alike like (top_free c world) (k ∷ q) p (see p) h)) turns.Server reference
        (server_near like (k ∷ q) (client_same like (cut_world-apart c see outs world) (k ∷ q)))))

-- ---- a client

-- a talk is outside in both or in none
outside_same : (see : Ptr → Ptr) (small c : World) (like : IsLikeness [] see small c) →
    ((p : Ptr) → is_out (see p) ≡ is_out p) → IsCutWorld c → (k : ℕ) (q : Path) → talks_outside small (k ∷ q) ≡ talks_outside c (k ∷ (q ++ []))
outside_same see small c like outs world k q = by (talk_at c (k ∷ (q ++ []))) refl
  where
    none : (b : Bool) → talks_outside small (k ∷ q) ≡ b → talk_at c (k ∷ (q ++ [])) ≡ None → b ≡ false
    none false e is = refl
    none true e is = let there = outside_talk like k q e in let clash : Some there.0 ≡ None = sym there.1 ∙ is in cc

    by : (o : Option Talk) → talk_at c (k ∷ (q ++ [])) ≡ o → talks_outside small (k ∷ q) ≡ talks_outside c (k ∷ (q ++ []))
    by None is = none (talks_outside small (k ∷ q)) refl is ∙ sym (ap (holds (λ (talk : Talk). is_outside talk.peer)) is)
    by (Some talk) is =
        sym (outside_at like k q (talks_outside small (k ∷ q)) refl talk is).2
        ∙ outs talk.port ∙ (outside_at world k q (talks_outside c (k ∷ q)) refl talk is).2 ∙ ap (λ (y : Path). talks_outside c (k ∷ y)) (sym (append-nil q))

-- a stage of a client, by its rows
client_rebound : (n : ℕ) (stage : Stage) → chooses stage ≡ false → is_for_porters stage ≡ false →
    ((see : Ptr → Ptr) (small c : World) (like : IsLikeness [] see small c) →
    is_frozen c [] ≡ false → (k : ℕ) (q : Path) → AlikeOptions (NearLine [] see c) (line small (k ∷ q) turns.Client) (line c (k ∷ (q ++ [])) turns.Client) →
    Same like (stage_row small (user_at (k ∷ q)) None stage) (stage_row c (user_at (k ∷ (q ++ []))) None stage)) →
    ((see : Ptr → Ptr) (small c : World) (like : IsLikeness [] see small c) → is_frozen c [] ≡ false → (k : ℕ) (q : Path) (talk : Talk) →
    talk_at small (k ∷ q) ≡ Some (seen_talk see talk) → talk_at c (k ∷ (q ++ [])) ≡ Some talk → (o p : Outcome) →
    Same like (outside_row small (user_at (k ∷ q)) n stage o) (outside_row c (user_at (k ∷ (q ++ []))) n stage p)) →
    (p : Option Path) → IsRebound p n stage
client_rebound n stage picks users near out (Some y) see small c like outs world k q =
    rw (picked small (k ∷ q) y stage picks, picked c (k ∷ (q ++ [])) y stage picks) (by (talks_outside small (k ∷ q)) (talks_outside c (k ∷ (q ++ []))))
  where
    by : (a b : Bool) → Same like (cond (a && false) (closed (user_at (k ∷ q)) (outside_row small (user_at (k ∷ q)) n stage Waits)) Waits)
        (cond (b && false) (closed (user_at (k ∷ (q ++ []))) (outside_row c (user_at (k ∷ (q ++ []))) n stage Waits)) Waits)
    by true true = (tt, tt)
    by true false = (tt, tt)
    by false true = (tt, tt)
    by false false = (tt, tt)
client_rebound n stage picks users near out None see small c like outs world k q =
    rw (outside_same see small c like outs world k q) (by (talks_outside c (k ∷ (q ++ []))) refl)
  where
    by : (b : Bool) → talks_outside c (k ∷ (q ++ [])) ≡ b →
        Same like (cond (b && true) (closed (user_at (k ∷ q)) (outside_row small (user_at (k ∷ q)) n stage (call_row small (user_at (k ∷ q)) None stage)))
        (call_row small (user_at (k ∷ q)) None stage))
        (cond (b && true) (closed (user_at (k ∷ (q ++ []))) (outside_row c (user_at (k ∷ (q ++ []))) n stage (call_row c (user_at (k ∷ (q ++ []))) None stage)))
        (call_row c (user_at (k ∷ (q ++ []))) None stage))
    by true e =
        let on = outside_same see small c like outs world k q ∙ e in
        let there = outside_talk like k q on in
        same_closed like k q _ _ (out see small c like (top_free c world) k q there.0 (outside_at like k q true on there.0 there.1).0 there.1 _ _)
    by false e =
        let off = outside_same see small c like outs world k q ∙ e in
        same_call like k q
        None stage picks users (near see small c like (top_free c world) k q (client_near like k q (λ talk is. (outside_at like k q false off talk is).2)))

module _ {root : Path} {see : Ptr → Ptr} {small big : World} (like : IsLikeness root see small big)
    (k : ℕ) (q : Path) (talk : Talk) (near : talk_at small (k ∷ q) ≡ Some (seen_talk see talk)) (far : talk_at big (k ∷ (q ++ root)) ≡ Some talk) where
  abbrev me : Path
  me = k ∷ (q ++ root)

  abbrev near_line : Line
  near_line = record { client = k ∷ q; talk = seen_talk see talk; other = (seen_talk see talk).peer }

  abbrev far_line : Line
  far_line = record { client = me; talk = talk; other = talk.peer }

  same_takes : (n address count : ℕ) (page : List ℕ) →
      Same like (takes_words (user_at (k ∷ q)) (k ∷ q) (see talk.port) n address count page) (takes_words (user_at me) me talk.port n address count page)
  same_takes n address count page =
      same_when like (ltb 0 n && leb n (moved_words address count 0 BLOCK_WORDS)) (ltb 0 n && leb n (moved_words address count 0 BLOCK_WORDS)) _ _ refl
      (same_sent like k q n count (Alter (k ∷ q) (CountMoved n) ∷ [])
      (Alter me (CountMoved n) ∷ []) _ _ (Both (Alters k q _ (CountMoved n) refl tt) Empty) (SaysWords talk.port (block n address page)))

  send_told : (n address count : ℕ) → Same like (in_turn small (k ∷ q) turns.Client turns.Client >>= sends_outside small (user_at (k ∷ q)) n address count)
      (in_turn big me turns.Client turns.Client >>= sends_outside big (user_at me) n address count)
  unfolding line
  send_told n address count = rw (near, far) (by (same_side talk.turn turns.Client))
    where
      sent : (b : Bool) → Same like (cond b (done (user_at (k ∷ q)) [] []) (own_page small
          (user_at (k ∷ q)) address false (λ s page. takes_words (user_at (k ∷ q)) (k ∷ q) (see talk.port) n address count (words_at small s page))))
          (cond b (done (user_at me) [] [])
          (own_page big (user_at me) address false (λ s page. takes_words (user_at me) me talk.port n address count (words_at big s page))))
      sent true = (Both (Alters k q _ (Finish []) refl tt) Empty, says_nothing)
      sent false = same_own like k q address false _ _ (λ s page. rw (words_at-like like s page) (same_takes n address count (words_at big (s ++ root) page)))

      by : (b : Bool) → Same like (cond b (Ok near_line) (Err WRONGTURN) >>= sends_outside small (user_at (k ∷ q)) n address count)
          (cond b (Ok far_line) (Err WRONGTURN) >>= sends_outside big (user_at me) n address count)
      by true = sent (eqb count 0)
      by false = (refl, tt)

  over_told : (seen carried : Option Ptr) → CarriedLike like seen carried → may_carry small (k ∷ q) seen ≡ may_carry big me carried →
      Same like (over_outside small (user_at (k ∷ q)) seen) (over_outside big (user_at me) carried)
  unfolding line
  over_told seen carried alike may = rw (near, far) (by (same_side talk.turn turns.Client))
    where
      by : (b : Bool) → Same like
          (cond b (Ok near_line) (Err WRONGTURN) >>= passes_outside small (user_at (k ∷ q)) seen)
          (cond b (Ok far_line) (Err WRONGTURN) >>= passes_outside big (user_at me) carried)
      by true = same_when like (may_carry small (k ∷ q) seen) (may_carry big me carried) _ _ may
          (Both (Alters k q _ (PassTurn turns.Server) refl tt) (Both (Alters k q _ (Finish []) refl tt) Empty), SaysPassed talk.port)
      by false = (refl, tt)

pub client_send_rebinds : StageRebinds IsClientSend
client_send_rebinds = told_rebinds IsClientSend (λ p n stage such. rw such.2 (law p n such.0 such.1))
  where
    law : (p : Option Path) (n address count : ℕ) → IsRebound p n (ClientSend address count)
    law p n address count =
        client_rebound n (ClientSend address count) refl refl (λ see small c like free k q lines. send-same like free k q turns.Client address count lines)
        (λ see small c like free k q talk near far o o2. send_told like k q talk near far n address count) p

pub client_over_rebinds : StageRebinds IsClientOver
client_over_rebinds = told_rebinds IsClientOver (λ p n stage such. rw such (law p n))
  where
    law : (p : Option Path) (n : ℕ) → IsRebound p n ClientOver
    law p n =
        client_rebound n ClientOver refl refl (λ see small c like free k q lines. over-same like free k q turns.Client None None tt refl lines)
        (λ see small c like free k q talk near far o o2. over_told like k q talk near far None None tt refl) p

pub client_over_ref_rebinds : StageRebinds IsClientOverRef
client_over_ref_rebinds = told_rebinds IsClientOverRef (λ p n stage such. rw such.1 (law p n such.0))
  where
    law : (p : Option Path) (n reference : ℕ) → IsRebound p n (ClientOverRef reference)
    law p n reference =
        client_rebound n (ClientOverRef reference) refl refl
        (λ see small c like free k q lines. over_ref-same like free k q
        (λ p h. ap not (frozen_alike like free (k ∷ q) p (see p) h)) turns.Client reference lines)
        (λ see small c like free k q talk near far o o2.
        same_bind like (IsSeenAs [] see c) (object_in small (user_at (k ∷ q)) reference_of q reference)
        (object_in c (user_at (k ∷ (q ++ []))) reference_of (q ++ []) reference)
        _ _ (reference_in-like like (user_at (k ∷ q)) q reference) (λ seen p h. over_told like k q talk near far (Some seen) (Some p) h
        (ap not (frozen_alike like free (k ∷ q) p seen (subst (λ (s : Ptr). PtrLikeness [] c p s) (sym h.0) h.1))))) p
