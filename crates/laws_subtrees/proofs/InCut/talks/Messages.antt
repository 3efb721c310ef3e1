-- The law of the cut for a Send and an Over of a client inside, to a peer inside or outside.
use Rattle.std.proofs.Common.{◌≡◌, ℕ, Bool, true, false, cond, eqb, ◌&&◌, ◌||◌, List, ◌∷◌, ◌++◌, Option, Some, None, is_none, unwrap_or, refl, sym, ap, ◌∙◌}
use Rattle.std.proofs.lemmas.Bool.{and_parts}
use Rattle.fk_model.specs.declared.moves.Ask.TheVariants as asks
use Rattle.fk_model.specs.declared.stage.Stage.{Stage}
use Rattle.fk_model.specs.declared.stage.Stage.TheVariants.{ClientSend, ClientOver, ClientOverRef}
use Rattle.fk_model.specs.declared.thread.Turn.TheVariants as turns
use Rattle.fk_model.specs.Places.{Path, is_within, Ptr}
use Rattle.fk_model.specs.Objects.{Talk, Thread, and_then, holds}
use Rattle.fk_model.specs.World.{World, Change}
use Rattle.fk_model.specs.Searches.{talk_at}
use Rattle.fk_model.specs.Holds.{is_frozen, is_free}
use Rattle.fk_model.specs.Outcomes.{Outcome, listed, when}
use Rattle.fk_model.specs.Outcomes.Outcome.{Refused, Waits, Goes}
use Rattle.fk_model.specs.Talks.{line}
use Rattle.fk_model.specs.LinkRows.{user_at}
use Rattle.fk_model.specs.Moves.{stage_row, is_for_porters, chooses, closed, call_row, IsReady}
use Rattle.fk_model.specs.Valid.{is_fit}
use Rattle.fk_model.specs.Cut.{ports_of, cut_ptr, cut, IsPlain, is_out}
use Rattle.fk_model.specs.Further.{talks_outside, outside_row, goes_out, counted}
use Rattle.fk_model.specs.Seen.{Seen, IsSeen, count_set, writes_inside, only_fills, leads_out, sends_out, words_out, is_send}
use Rattle.laws_subtrees.specs.Cut.CutLaws.{HasDone, KeepsCut, IsAtStage, moves, IsClientSend, IsClientOver, StageKeepsCut, StageInsideKeepsCut}
use Rattle.laws_subtrees.specs.Cut.CutLaws.{IsClientOverRef}
use Rattle.laws_subtrees.specs.Cut.Likeness.{seen_talk, seen_thread, IsLikeness, IsOuter, AlikeOptions}
use Rattle.laws_subtrees.specs.Cut.LikeChanges.{IsLikeOutcome, IsLikeUnlessWaiting}
use Rattle.laws_subtrees.proofs.InCut.likeness.Instances.{cut-like}
use Rattle.laws_subtrees.proofs.InCut.likeness.Holds.{is_free-like}
use Rattle.laws_subtrees.proofs.InCut.likeness.Servers.{cut-apart}
use Rattle.laws_subtrees.proofs.InCut.likeness.Outcomes.{unless_waiting, closed-like, closed-unless}
use Rattle.laws_subtrees.proofs.InCut.likeness.Sends.{NearLine, send-same, over-same, client_near, over_ref-weak}
use Rattle.laws_subtrees.proofs.InCut.cut.Inside.{call_row-like, inside_stages, unsent_counts, unsent_stage}
use Rattle.laws_subtrees.proofs.InCut.talks.Sends.{Still, still_outside, own_is, either_way, own_law, still-call, still-send, still-over, call_weak}
use Rattle.laws_subtrees.proofs.InCut.talks.Sends.{still-over_ref}
use Rattle.laws_subtrees.proofs.InCut.talks.Clients.{Takes, AlikeTaking, send_out, over_out, alone, picked, outward_only, outside_at, outside_talk, inward_only}
use Rattle.laws_subtrees.proofs.InCut.talks.Clients.{over_ref_out}

-- a row that is refused takes no words
module _ {root : Path} {see : Ptr → Ptr} {small big : World} (like : IsLikeness root see small big) (k : ℕ) (q : Path) where
  counted_closed : (n : ℕ) (x : Path) (near : Outcome) → counted n (closed (user_at x) near) ≡ closed (user_at x) (counted n near)
  counted_closed n x (Goes cs said) = by (eqb n 0 || goes_out (Goes cs said))
    where
      by : (b : Bool) → when b (Goes cs said) ≡ closed (user_at x) (when b (Goes cs said))
      by true = refl
      by false = refl
  counted_closed n x Waits = by (eqb n 0 || false)
    where
      by : (b : Bool) → when b Waits ≡ closed (user_at x) (when b Waits)
      by true = refl
      by false = refl
  counted_closed n x (Refused status) = by (eqb n 0 || false)
    where
      by : (b : Bool) → when b (closed (user_at x) (Refused status)) ≡ closed (user_at x) (when b (Refused status))
      by true = refl
      by false = refl

  closed_taking : (near far : Outcome) (n : ℕ) → AlikeTaking root see big n near far → Takes root see big n (closed (user_at (k ∷ (q ++ root))) far) →
      IsLikeUnlessWaiting root see big (counted n (closed (user_at (k ∷ q)) near)) (closed (user_at (k ∷ (q ++ root))) far)
  closed_taking near (Refused status) n h takes = rw (counted_closed n (k ∷ q) near)
      (closed-like like (user_at (k ∷ q)) (counted n near) (Refused status) (h (record { puts_none = refl; fills_none = refl; counts = takes.counts })))
  closed_taking near Waits n h takes = tt
  closed_taking near (Goes ds told) n h takes =
      rw (counted_closed n (k ∷ q) near) (closed-like like (user_at (k ∷ q)) (counted n near) (Goes ds told) (h takes))

-- a stage of a client, by the row that its thread has where the peer is seen, and where it is outside
module _ (w : World) (nester : Path) (slot : ℕ) (plain : IsPlain w nester slot) (k : ℕ)
    (q : Path) (stage : Stage) (at : IsAtStage w (k ∷ (q ++ slot ∷ nester)) stage) (picks : chooses stage ≡ false) (users : is_for_porters stage ≡ false) where
  abbrev root : Path
  root = slot ∷ nester

  abbrev see : Ptr → Ptr
  see = cut_ptr (ports_of w nester slot) nester slot

  abbrev small : World
  small = cut w nester slot

  abbrev me : Path
  me = k ∷ (q ++ root)

  abbrev AlikeHere : Outcome → Outcome → Type 0
  AlikeHere = IsLikeOutcome root see w

  abbrev WeaklyHere : Outcome → Outcome → Type 0
  WeaklyHere = IsLikeUnlessWaiting root see w

  -- alike where the other end is seen
  abbrev IsAlikeNear : Type 0
  IsAlikeNear = is_frozen w root ≡ false → AlikeOptions (NearLine root see w) (line small (k ∷ q) turns.Client) (line w me turns.Client) →
      WeaklyHere (stage_row small (user_at (k ∷ q)) None stage) (stage_row w (user_at me) None stage)

  -- alike where it is outside
  abbrev IsAlikeOut : Type 0
  IsAlikeOut = is_frozen w root ≡ false → (talk : Talk) → talk_at small (k ∷ q) ≡ Some (seen_talk see talk) → talk_at w me ≡ Some talk
      → IsOuter root talk.peer → leads_out root
      talk.port ≡ true → is_out (see talk.port) ≡ true → (cs : List Change) → cs ≡ listed (closed (user_at me) (stage_row w (user_at me) None stage)) →
      (sends_out w root me && only_fills root cs) ≡ false → (writes_inside root cs && sends_out w root me) ≡ false → (o : Outcome) →
      WeaklyHere (counted (words_out w root me cs) (closed (user_at (k ∷ q)) (outside_row small (user_at (k ∷ q)) (words_out w root me cs) stage o)))
      (closed (user_at me) (stage_row w (user_at me) None stage))

  -- a talk inside takes no words to the outside
  stays_inside : talks_outside small (k ∷ q) ≡ false → sends_out w root me ≡ false
  stays_inside off = rw at.3 (rw at.4 (by (is_send stage) at.0.talk refl))
    where
      by : (b : Bool) (o : Option Talk) → at.0.talk ≡ o → (b && holds (λ (talk : Talk). leads_out root talk.port) o) ≡ false
      by false o is = refl
      by true None is = refl
      by true (Some talk) is =
          let seen = outside_at (cut-like w nester slot plain) k q false off talk (ap (and_then (λ (t : Thread). t.talk)) at.3 ∙ is) in
          inward_only root w talk.port (see talk.port) seen.1.0 seen.2

  client_law : (pick : Option Path) → Still root (stage_row w (user_at me) pick stage) → IsAlikeNear → IsAlikeOut → KeepsCut w nester slot (moves me pick)
  client_law None still near out sound same =
      own_law w nester slot plain k q None stage at (still-call root w me None stage still)
      (λ p e free f fills through.
      rw (own_is small (k ∷ q) p (words_out w root me (listed (call_row w (user_at me) None stage))) (seen_thread see at.0) stage at.1 at.2 at.4)
      (either_way root see w (words_out w root me (listed (call_row w (user_at me) None stage))) (talks_outside small (k ∷ q) && is_none p)
      (is_free small q (seen_thread see at.0)) _ _ (call_row w (user_at me) None stage) (is_free-like (cut-like w nester slot plain) free q at.0 ∙ f)
      (λ on. outward free (and_parts (talks_outside small (k ∷ q)) (is_none p) on).0 fills through (call_row small (user_at (k ∷ q)) p stage))
      (λ off. inward_none p e free (left_off (talks_outside small (k ∷ q)) (is_none p) e off))))
      sound same
    where
      left_off : (a b : Bool) → b ≡ true → (a && b) ≡ false → a ≡ false
      left_off false b e h = refl
      left_off true b e h = let clash : true ≡ false = sym e ∙ h in cc

      inward : (p : Option Path) → is_none p ≡ true → is_frozen w root ≡ false →
          talks_outside small (k ∷ q) ≡ false → WeaklyHere (call_row small (user_at (k ∷ q)) p stage) (call_row w (user_at me) None stage)
      inward None e free off =
          let like = cut-like w nester slot plain in
          call_weak like k q None None stage picks users refl (near free (client_near like k q (λ talk is. (outside_at like k q false off talk is).2)))
      inward (Some y) e free off = cc

      inward_none : (p : Option Path) → is_none p ≡ true → is_frozen w root ≡ false → talks_outside small (k ∷ q) ≡ false →
          WeaklyHere (counted (words_out w root me (listed (call_row w (user_at me) None stage))) (call_row small (user_at (k ∷ q)) p stage))
          (call_row w (user_at me) None stage)
      inward_none p e free off = rw (unsent_counts w root me (listed (call_row w (user_at me) None stage)) (stays_inside off))
          (inward p e free off)

      outward : is_frozen w root ≡ false → talks_outside small (k ∷ q) ≡ true →
          (sends_out w root me && only_fills root (listed (call_row w (user_at me) None stage))) ≡ false →
          (writes_inside root (listed (call_row w (user_at me) None stage)) && sends_out w root me) ≡ false → (o : Outcome) →
          WeaklyHere (counted (words_out w root me (listed (call_row w (user_at me) None stage)))
          (closed (user_at (k ∷ q)) (outside_row small (user_at (k ∷ q)) (words_out w root me (listed (call_row w (user_at me) None stage))) stage o)))
          (call_row w (user_at me) None stage)
      outward free on = rw (alone w me stage picks users)
          (let like = cut-like w nester slot plain in
          let there = outside_talk like k q on in
          let talk = there.0 in
          let seen = outside_at like k q true on talk there.1 in
          λ fills through o. out free talk seen.0 there.1 ((cut-apart w nester slot sound.valid plain).talks k q talk there.1 seen.2)
          (outward_only root w talk.port (see talk.port) seen.1.0 seen.2) seen.2 _ refl fills through o)
  client_law (Some y) still near out sound same =
      own_law w nester slot
      plain k q (Some y) stage at (still-call root w me (Some y) stage still) (λ p e free f fills through. rw (picked w me y stage picks) tt) sound same

-- by a thread inside, and by one outside
pub whole : (IsSuch : Stage → Type 0) →
    StageInsideKeepsCut IsSuch → ((w : World) (nester : Path) (slot : ℕ) → IsPlain w nester slot → (x : Path) (pick : Option Path) (stage : Stage) →
    IsSuch stage → is_within (slot ∷ nester) x ≡ false → IsAtStage w x stage → KeepsCut w nester slot (moves x pick)) → StageKeepsCut IsSuch
whole IsSuch inside outside w nester slot x pick stage such at sound plain = by (is_within (slot ∷ nester) x) refl
  where
    by : (b : Bool) → is_within (slot ∷ nester) x ≡ b → is_fit w x asks.Run ≡ true →
        IsReady w x pick asks.Run → (seen : Seen) → IsSeen w nester slot (moves x pick) seen → HasDone w nester slot (moves x pick) seen
    by true e = inside w nester slot x pick stage such e at sound plain
    by false e = outside w nester slot plain x pick stage such e at sound plain

-- ---- an Over

pub client_over_keeps : StageKeepsCut IsClientOver
client_over_keeps = whole IsClientOver (inside_stages IsClientOver law) (λ w nester slot plain x pick stage such out at.
    still_outside w nester slot plain x pick ClientOver out (rw such at at) (λ cs. refl) (still-over (slot ∷ nester) w x turns.Client None))
  where
    law : (w : World) (nester : Path) (slot : ℕ) → IsPlain w nester slot → (k : ℕ) (q : Path) (pick : Option Path) (stage : Stage) →
        IsClientOver stage → IsAtStage w (k ∷ (q ++ slot ∷ nester)) stage → KeepsCut w nester slot (moves (k ∷ (q ++ slot ∷ nester)) pick)
    law w nester slot plain k q pick stage such at =
        let like = cut-like w nester slot plain in
        client_law w nester slot plain k q ClientOver (rw such at at) refl refl pick (still-over (slot ∷ nester) w (k ∷ (q ++ slot ∷ nester)) turns.Client None)
        (λ free lines. unless_waiting like _ _ (over-same like free k q turns.Client None None tt refl lines).0)
        (λ free talk near far outer leads out cs is fills through o.
        rw (unsent_counts w (slot ∷ nester) (k ∷ (q ++ slot ∷ nester)) cs (unsent_stage w (slot ∷ nester) (k ∷ (q ++ slot ∷ nester))
        ClientOver refl (rw such at at))) (closed-unless like (user_at (k ∷ q)) _ _ (over_out like k q talk 0 0 0 out free None None tt near far outer)))

pub client_over_ref_keeps : StageKeepsCut IsClientOverRef
client_over_ref_keeps = whole IsClientOverRef (inside_stages IsClientOverRef law) (λ w nester slot plain x pick stage such out at.
    still_outside w nester slot plain x pick (ClientOverRef such.0) out (rw such.1 at at) (λ cs. refl) (still-over_ref (slot ∷ nester) w x turns.Client such.0))
  where
    law : (w : World) (nester : Path) (slot : ℕ) → IsPlain w nester slot → (k : ℕ) (q : Path) (pick : Option Path) (stage : Stage) →
        IsClientOverRef stage → IsAtStage w (k ∷ (q ++ slot ∷ nester)) stage → KeepsCut w nester slot (moves (k ∷ (q ++ slot ∷ nester)) pick)
    law w nester slot plain k q pick stage such at =
        let like = cut-like w nester slot plain in
        client_law w nester slot plain k q (ClientOverRef such.0) (rw such.1 at at) refl refl pick
        (still-over_ref (slot ∷ nester) w (k ∷ (q ++ slot ∷ nester)) turns.Client such.0)
        (λ free lines. over_ref-weak like free k q turns.Client such.0 lines)
        (λ free talk near far outer leads out cs is fills through o.
        rw (unsent_counts w (slot ∷ nester) (k ∷ (q ++ slot ∷ nester)) cs (unsent_stage w (slot ∷ nester) (k ∷ (q ++ slot ∷ nester))
        (ClientOverRef such.0) refl (rw such.1 at at)))
        (closed-unless like (user_at (k ∷ q)) _ _ (over_ref_out like k q talk 0 0 0 out free such.0 near far outer)))

-- ---- a Send

-- it is seen that words go out, and how many
module _ (w : World) (root : Path) (me : Path) (address count : ℕ)
    (at : IsAtStage w me (ClientSend address count)) (talk : Talk) (here : talk_at w me ≡ Some talk) (leads : leads_out root talk.port ≡ true) where
  it_sends : sends_out w root me ≡ true
  it_sends = rw at.3 (rw at.4 (rw talk_is leads))
    where
      talk_is : at.0.talk ≡ Some talk
      talk_is = sym (ap (and_then (λ (t : Thread). t.talk)) at.3) ∙ here

  taking : (b : Bool) (cs : List Change) → b ≡ true → (b && only_fills root cs) ≡ false → (writes_inside root cs && b) ≡ false →
      (only_fills root cs ≡ false) × (writes_inside root cs ≡ false) × (cond b (unwrap_or (count_set cs) 0) 0 ≡ unwrap_or (count_set cs) 0)
  taking true cs e fills through = (fills, right_off (writes_inside root cs) through, refl)
    where
      right_off : (a : Bool) → (a && true) ≡ false → a ≡ false
      right_off false h = refl
      right_off true h = h
  taking false cs e fills through = cc

pub client_send_keeps : StageKeepsCut IsClientSend
client_send_keeps = whole IsClientSend (inside_stages IsClientSend law) (λ w nester slot plain x pick stage such out at. still_outside
    w nester slot plain x pick (ClientSend such.0 such.1) out (rw such.2 at at) (λ cs. refl) (still-send (slot ∷ nester) w x turns.Client such.0 such.1))
  where
    law : (w : World) (nester : Path) (slot : ℕ) → IsPlain w nester slot → (k : ℕ) (q : Path) (pick : Option Path) (stage : Stage) →
        IsClientSend stage → IsAtStage w (k ∷ (q ++ slot ∷ nester)) stage → KeepsCut w nester slot (moves (k ∷ (q ++ slot ∷ nester)) pick)
    law w nester slot plain k q pick stage such at =
        let root : Path = slot ∷ nester in
        let me : Path = k ∷ (q ++ root) in
        let like = cut-like w nester slot plain in
        let here : IsAtStage w me (ClientSend such.0 such.1) = rw such.2 at at in
        client_law w nester slot plain k q (ClientSend such.0 such.1) here refl refl pick (still-send root w me turns.Client such.0 such.1)
        (λ free lines. unless_waiting like _ _ (send-same like free k q turns.Client such.0 such.1 lines).0)
        (λ free talk near far outer leads out cs is fills through o.
        let facts = taking w
        root me such.0 such.1 here talk far leads (sends_out w root me) cs (it_sends w root me such.0 such.1 here talk far leads) fills through in
        closed_taking like k q _ _ (words_out w root me cs) (send_out like k q talk (words_out w root me cs) such.0 such.1 out near far outer)
        (record { puts_none = rw (sym is) facts.1; fills_none = rw (sym is) facts.0; counts = rw (sym is) facts.2 }))
