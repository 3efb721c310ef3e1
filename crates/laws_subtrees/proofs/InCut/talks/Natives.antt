-- The law of the cut for a native server that gives words, or hands its client the turn.
use Rattle.std.proofs.Common.{◌≡◌, ℕ, eqb, Bool, true, false, ◌&&◌, List, [], ◌∷◌, ◌++◌, take, Option, Some, None, is_some, is_none, option_map, refl, sym, ap}
use Rattle.std.proofs.Common.{subst, ◌∙◌}
use Rattle.std.proofs.lemmas.Bool.{and_parts}
use Rattle.fk_model.specs.declared.moves.Ask.TheVariants as asks
use Rattle.fk_model.specs.declared.names.Kind.TheVariants as kinds
use Rattle.fk_model.specs.declared.thread.Turn.TheVariants as turns
use Rattle.fk_model.specs.Places.{Path, strip, is_within, parent, slot_of, Ptr, leads_to}
use Rattle.fk_model.specs.Places.Ptr.{At}
use Rattle.fk_model.specs.Objects.{Talk, Thread, Body, kind_of, port_of, thread_of, and_then, holds}
use Rattle.fk_model.specs.Objects.Body.{Port}
use Rattle.fk_model.specs.World.{World, apply_all}
use Rattle.fk_model.specs.World.Change.{Alter}
use Rattle.fk_model.specs.World.Edit.{Finish, PassTurn}
use Rattle.fk_model.specs.Searches.{is_service, talk_at, client_at, objects, thread_at}
use Rattle.fk_model.specs.Reach.{reach_word}
use Rattle.fk_model.specs.Holds.{is_free}
use Rattle.fk_model.specs.Outcomes.{Outcome, when, listed}
use Rattle.fk_model.specs.Outcomes.Outcome.{Refused, Waits, Goes}
use Rattle.fk_model.specs.Outcomes.Said.{Nothing}
use Rattle.fk_model.specs.Talks.{same_side, receiving, awaited}
use Rattle.fk_model.specs.NativeRows.{is_serving_port, has_turn, if_receiving, with_client, gives_words, gives_to, give_row, passes_client, over_row}
use Rattle.fk_model.specs.Moves.{with_pick, outcome, GoesAllowed, stepped, step}
use Rattle.fk_model.specs.Valid.{IsValid, kind_there}
use Rattle.fk_model.specs.Runs.{Event}
use Rattle.fk_model.specs.Cut.{is_out, ports_of, cut_ptr, cut, IsPlain}
use Rattle.fk_model.specs.Further.{Touch, Onward, Told, touch_row, IsOnward}
use Rattle.fk_model.specs.Further.Touch.{Handed}
use Rattle.fk_model.specs.Further.Onward.{ByOthers}
use Rattle.fk_model.specs.Seen.{given_of, on_inner, outer_touch, row_of}
use Rattle.fk_model.specs.Seen.Seen.{Onwards, Unseen, Other}
use Rattle.fk_model.proofs.walks.PlaceLaws.{strip-append, leads_to_at}
use Rattle.laws_subtrees.specs.Cut.CutLaws.{GiveKeepsCut, OverKeepsCut}
use Rattle.laws_subtrees.specs.Cut.Likeness.{seen_thread}
use Rattle.laws_subtrees.specs.Cut.LikeChanges.LikeChange.{Alters}
use Rattle.laws_subtrees.specs.Cut.LikeChanges.LikeChanges.{Empty, Both}
use Rattle.laws_subtrees.proofs.InCut.likeness.Instances.{cut-like}
use Rattle.laws_subtrees.proofs.InCut.likeness.Holds.{strip_none, is_free-like, unheld-free}
use Rattle.laws_subtrees.proofs.InCut.likeness.Servers.{find_some}
use Rattle.laws_subtrees.proofs.InCut.cut.Inside.{thread_seen, thread_beneath}
use Rattle.laws_subtrees.proofs.InCut.cut.Pages.{has_touched}
use Rattle.laws_subtrees.proofs.InCut.talks.Clients.{outside_at}
use Rattle.laws_subtrees.proofs.InCut.talks.Sends.{Still, still-goes, still-waits, still-when, still-if, still-their, still-picked, still-plain}
use Rattle.laws_subtrees.proofs.InCut.talks.Accepts.{outward, unready}
use Rattle.laws_subtrees.proofs.InCut.talks.Given.{give_seen, touches-picked}
use Rattle.laws_subtrees.proofs.InCut.likeness.Sends.{receiving-like}
use Rattle.fk_model.specs.TransferRows.{awaits, taken_answers, takes_turn}

-- ---- whom a port's native server serves

native_client : (w : World) (port c : Path) →
    client_at w port ≡ Some c → (t : Thread) × (talk : Talk) × (and_then thread_of (w.body c) ≡ Some t) × (t.talk ≡ Some talk) × (talk.port ≡ At port)
unfolding client_at
native_client w port c served = by (and_then thread_of (w.body c))
    refl (find_some (λ (y : Path). holds (λ (talk : Talk). leads_to port talk.port && is_service talk.peer) (talk_at w y)) (objects w) c served)
  where
    of_talk : (t : Thread) → and_then thread_of (w.body c) ≡ Some t →
        (o : Option Talk) → t.talk ≡ o → holds (λ (talk : Talk). leads_to port talk.port && is_service talk.peer) o ≡ true →
        (t : Thread) × (talk : Talk) × (and_then thread_of (w.body c) ≡ Some t) × (t.talk ≡ Some talk) × (talk.port ≡ At port)
    of_talk t is None its h = cc
    of_talk t is (Some talk) its h = (t, talk, is, its, leads_to_at port talk.port (and_parts (leads_to port talk.port) (is_service talk.peer) h).0)

    by : (o : Option Thread) → and_then thread_of (w.body c) ≡ o →
        holds (λ (talk : Talk). leads_to port talk.port && is_service talk.peer) (and_then (λ (t : Thread). t.talk) o) ≡ true →
        (t : Thread) × (talk : Talk) × (and_then thread_of (w.body c) ≡ Some t) × (t.talk ≡ Some talk) × (talk.port ≡ At port)
    by None is h = cc
    by (Some t) is h = of_talk t is t.talk refl h

module _ (w : World) (nester : Path) (slot : ℕ) (plain : IsPlain w nester slot) (port : Path) (pick : Option Path) where
  abbrev root : Path
  root = slot ∷ nester

  abbrev see : Ptr → Ptr
  see = cut_ptr (ports_of w nester slot) nester slot

  abbrev small : World
  small = cut w nester slot

  native_outward : is_within root port ≡ false → (k : ℕ) (z : Path) → client_at w port ≡ Some (k ∷ (z ++ root)) →
      (t : Thread) × (talk : Talk) × (and_then thread_of (w.body (k ∷ (z ++ root))) ≡ Some t) × (t.talk ≡ Some talk) × (is_out (see talk.port) ≡ true)
  native_outward out k z served =
      let its = native_client w port (k ∷ (z ++ root)) served in
      let talk = its.1 in
      let talks : talk_at w (k ∷ (z ++ root)) ≡ Some talk = ap (and_then (λ (t : Thread). t.talk)) its.2 ∙ its.3 in
      let seen = outside_at (cut-like w nester slot plain) k z _ refl talk talks in
      let name = outward w nester slot plain port pick talk.port (see talk.port) seen.1.0 its.4 out in
      (its.0, talk, its.2, its.3, ap is_out name.1)

  -- ---- whom it touches

  abbrev DoneBy : Onward → World → Type 0
  DoneBy m later = IsPlain later nester slot × ((told : List Told) × IsOnward small m told (cut later nester slot))

  by_client : (later : World) (f : Path → Path → Option Touch) (m : Onward) → ((k : ℕ) (z : Path) →
      client_at w port ≡ Some (k ∷ (z ++ root)) → (touch : Touch) → f (k ∷ (z ++ root)) (k ∷ z) ≡ Some touch → DoneBy (ByOthers touch) later) →
      option_map (λ (touch : Touch). ByOthers touch) (on_inner root f (client_at w port)) ≡ Some m → DoneBy m later
  by_client later f m go = by (client_at w port) refl
    where
      same_path_is : (a b : Path) → Some a ≡ Some b → a ≡ b
      same_path_is a b h = cc

      of_touch : (o : Option Touch) →
          ((touch : Touch) → o ≡ Some touch → DoneBy (ByOthers touch) later) → option_map (λ (touch : Touch). ByOthers touch) o ≡ Some m → DoneBy m later
      of_touch None go h = cc
      of_touch (Some touch) go h = let form : m ≡ ByOthers touch = cc in rw form (go touch refl)

      at_place : (c q : Path) (k : ℕ) (z : Path) →
          c ≡ k ∷ (z ++ root) → q ≡ k ∷ z → client_at w port ≡ Some c → (touch : Touch) → f c q ≡ Some touch → DoneBy (ByOthers touch) later
      at_place c q k z e g served touch = rw (e, g) (go k z (served ∙ ap (λ (y : Path). Some y) e) touch)

      of_path : (c : Path) → client_at w port ≡ Some c →
          (r : Option Path) → strip root c ≡ r → option_map (λ (touch : Touch). ByOthers touch) (and_then (f c) r) ≡ Some m → DoneBy m later
      of_path c served None e h = cc
      of_path c served (Some q) e h =
          let its = native_client w port c served in
          let under = thread_beneath w nester slot plain c its.0 (ap is_some e) its.2 in
          let place : q ≡ under.0 ∷ under.1 = same_path_is q (under.0 ∷ under.1) (sym e ∙ ap (strip root) under.2 ∙ strip-append root (under.0 ∷ under.1)) in
          of_touch (f c q) (at_place c q under.0 under.1 under.2 place served) h

      by : (o : Option Path) → client_at w port ≡ o → option_map (λ (touch : Touch). ByOthers touch) (on_inner root f o) ≡ Some m → DoneBy m later
      by None served h = cc
      by (Some c) served h = of_path c served (strip root c) refl h

  -- ---- where it is ready it serves, and lies outside

  picked_goes : (o : Outcome) → GoesAllowed w port (with_pick false pick o) → GoesAllowed w port o
  picked_goes (Refused status) h = by (is_none pick) h
    where
      by : (b : Bool) → GoesAllowed w port (when b (Refused status)) → ⊥
      by true h = h
      by false h = h
  picked_goes Waits h = h
  picked_goes (Goes cs said) h = by (is_none pick) h
    where
      by : (b : Bool) → GoesAllowed w port (when b (Goes cs said)) → GoesAllowed w port (Goes cs said)
      by true h = h
      by false h = absurd h

  holds_when : (b : Bool) (o : Outcome) → GoesAllowed w port (when b o) → b ≡ true
  holds_when true o h = refl
  holds_when false o h = absurd h

  serves_when : (o : Outcome) → GoesAllowed w port (when (is_serving_port w port) o) → is_serving_port w port ≡ true
  serves_when o = holds_when (is_serving_port w port) o

  lies_outside : is_serving_port w port ≡ true → is_within root port ≡ false
  lies_outside serving = by (is_within root port) refl
    where
      by : (b : Bool) → is_within root port ≡ b → b ≡ false
      by false e = refl
      by true e = absurd (unready w nester slot plain port pick e Waits serving)

  give_serves : (words : List ℕ) → GoesAllowed w port (give_row w port words) → is_serving_port w port ≡ true
  unfolding give_row
  give_serves [] = λ ready. (and_parts (is_serving_port w port) (has_turn w port) (holds_when (is_serving_port w port && has_turn w port) _ ready)).0
  give_serves (word ∷ words) = serves_when _

  over_serves : GoesAllowed w port (over_row w port) → is_serving_port w port ≡ true
  unfolding over_row
  over_serves = serves_when _

  seen_touch : (e : Event) (o : Outcome) (r : Option Path) (m : Onward) →
      r ≡ None → row_of w root e o r ≡ Some m → option_map (λ (touch : Touch). ByOthers touch) (outer_touch w root e.mover e.pick e.ask o) ≡ Some m
  seen_touch e o r m none = rw none (λ h. h)

  -- ---- an Over

  module _ (k : ℕ) (z : Path) (t : Thread) (is : and_then thread_of (w.body (k ∷ (z ++ slot ∷ nester))) ≡ Some t)
      (talk : Talk) (its : t.talk ≡ Some talk) (outside : is_out (cut_ptr (ports_of w nester slot) nester slot talk.port) ≡ true) where
    abbrev client : Path
    client = k ∷ (z ++ root)

    -- if it goes, the turn has been handed
    abbrev Hands : Outcome → Type 0
    Hands o = GoesAllowed w port o → DoneBy (ByOthers (Handed (k ∷ z))) (stepped w o).world

    hands-so : (b : Bool) (o : Outcome) → (b ≡ true → Hands o) → Hands (when b o)
    hands-so true o h = h refl
    hands-so false o h = λ ready. absurd ready

    handed : same_side talk.turn turns.Server ≡ true →
        is_free w (z ++ root) t ≡ true → (receive : ℕ × ℕ) → receiving w (z ++ root) turns.Client t.mode ≡ Some receive → Hands
        (passes_client w port client receive)
    unfolding touch_row
    handed turn free receive awaits ready =
        let like = cut-like w nester slot plain in
        let here : thread_at small (k ∷ z) ≡ Some (seen_thread see t) = rw (like.bodies (k ∷ z)) (thread_seen see k z (w.body client) t is) in
        let free_here : is_free small z (seen_thread see t) ≡ true = is_free-like like (unheld-free like z t free) z t ∙ free in
        let near_awaits = receiving-like like z turns.Client t.mode ∙ awaits in
        let answers : List ℕ = taken_answers (awaited t.mode) None in
        let row : touch_row small (Handed (k ∷ z)) ≡ Goes (Alter (k ∷ z) (PassTurn turns.Client) ∷ Alter (k ∷ z) (Finish answers) ∷ []) Nothing =
        rw (here, free_here, its, near_awaits) (rw (outside, turn) refl) in
        subst (λ (o : Option Thread). DoneBy (ByOthers (Handed (k ∷ z))) (apply_all (Alter client (PassTurn turns.Client)
        ∷ takes_turn client None (and_then (λ (t : Thread). awaited t.mode) o)) w)) (sym is)
        (has_touched w nester slot plain (Handed (k ∷ z)) (Alter (k ∷ z) (PassTurn turns.Client) ∷ Alter (k ∷ z) (Finish answers) ∷ [])
        (Alter client (PassTurn turns.Client) ∷ Alter client (Finish answers) ∷ []) Nothing row
        (Both (Alters k z _ (PassTurn turns.Client) refl tt) (Both (Alters k z _ (Finish answers) refl tt) Empty)) (tt, (tt, tt)))

    hands_client : Hands (if_receiving w client (passes_client w port) t)
    hands_client = by (receiving w (z ++ root) turns.Client t.mode) refl
      where
        by : (o : Option (ℕ × ℕ)) → receiving w (z ++ root) turns.Client t.mode ≡ o → Hands (if_receiving w client (passes_client w port) t)
        by None e = rw e (hands-so _ Waits (λ on ready. absurd ready))
        by (Some receive) e = rw (e, its) (hands-so (is_free w (z ++ root) t && same_side talk.turn turns.Server) (passes_client w port client receive)
            (λ on. let both = and_parts (is_free w (z ++ root) t) (same_side talk.turn turns.Server) on in handed both.1 both.0 receive e))

    over_hands : client_at w port ≡ Some client → Hands (over_row w port)
    unfolding over_row
    over_hands served = hands-so (is_serving_port w port) _ (λ serving. rw (served, is) hands_client)

    picked_hands : (o : Outcome) → Hands o → Hands (with_pick false pick o)
    picked_hands (Refused status) h = hands-so (is_none pick) (Refused status) (λ on. h)
    picked_hands Waits h = h
    picked_hands (Goes cs said) h = hands-so (is_none pick) (Goes cs said) (λ on. h)

-- ---- which changes they make

still_with : (root : Path) (w : World) (port : Path) (go : Path → ℕ × ℕ → Outcome) →
    ((x : Path) (receive : ℕ × ℕ) → Still root (go x receive)) → Still root (with_client w port go)
still_with root w port go still = by (client_at w port) refl
  where
    of_mode : (x : Path) (t : Thread) (o : Option (ℕ × ℕ)) → receiving w (parent x) turns.Client t.mode ≡ o → Still root (if_receiving w x go t)
    of_mode x t None e = rw e (still-when root _ Waits still-waits)
    of_mode x t (Some receive) e = rw e (still-when root _ (go x receive) (still x receive))

    of_thread : (x : Path) → client_at w port ≡ Some x → (o : Option Thread) → and_then thread_of (w.body x) ≡ o → Still root (with_client w port go)
    of_thread x e None f = rw (e, f) (still-when root (is_serving_port w port) Waits still-waits)
    of_thread x e (Some t) f = rw (e, f)
        (still-when root (is_serving_port w port) (if_receiving w x go t) (of_mode x t (receiving w (parent x) turns.Client t.mode) refl))

    by : (o : Option Path) → client_at w port ≡ o → Still root (with_client w port go)
    by None e = rw e (still-when root (is_serving_port w port) Waits still-waits)
    by (Some x) e = of_thread x e (and_then thread_of (w.body x)) refl

still_give : (root : Path) (w : World) (port : Path) (words : List ℕ) → Still root (give_row w port words)
unfolding give_row
still_give root w port [] = still-when root (is_serving_port w port && has_turn w port) _ (still-goes tt)
still_give root w port (word ∷ words) =
    still_with root w port (gives_to w port (word ∷ words))
    (λ x receive. still-if root (eqb receive.1 0) _ _ (still-goes (tt, tt)) (still-their root
    (gives_words w port x (word ∷ words) receive.0 receive.1) (reach_word w (parent x) receive.0 true) (λ s page. still-goes (tt, (tt, (tt, tt))))))

still_over : (root : Path) (w : World) (port : Path) → Still root (over_row w port)
unfolding over_row
still_over root w port = still_with root w port (passes_client w port) (λ x receive. still-goes (tt, (tt, tt)))

-- ---- the laws

-- a path that is no root's
slots_of : (port : Path) → (port ≡ [] → ⊥) → slot_of port ∷ parent port ≡ port
slots_of [] h = absurd (h refl)
slots_of (k ∷ port) h = refl

not_root : (w : World) (birth : ℕ) (holder : Option Ptr) (port : Path) → IsValid w → is_serving_port w port ≡ true → port ≡ [] → ⊥
unfolding kind_there
not_root w birth holder port valid serving is =
    by (w.body []) valid.rooted.root (rw is at (and_parts (holds (λ (state : Option ℕ × Bool). state.1) (and_then port_of (w.body port))) _ serving).0)
  where
    by : (o : Option Body) → option_map kind_of o ≡ Some kinds.Space → holds (λ (state : Option ℕ × Bool). state.1) (and_then port_of o) ≡ true → ⊥
    by None e h = cc
    by (Some (Port set served)) e h = cc
    by (Some b) e h = cc

pub give_keeps : GiveKeepsCut
unfolding step outcome
give_keeps w nester slot port pick words len sound plain fit ready (Onwards m) seen =
    let serving = give_serves w
    nester slot plain port pick (take len words) (picked_goes w nester slot plain port pick (give_row w port (take len words)) ready) in
    let out = lies_outside w nester slot plain port pick serving in
    let here = slots_of port (not_root w plain.birth plain.holder port sound.valid serving) in
    let o : Outcome = with_pick false pick (give_row w port (take len words)) in
    by_client w nester slot plain port pick (stepped w o).world (given_of w (listed o)) m
    (λ k z served touch.
    let its = native_outward w nester slot plain port pick out k z served in
    let root : Path = slot ∷ nester in
    let beyond : is_within root (slot_of port ∷ parent port) ≡ false = ap (is_within root) here ∙ out in
    let valid = sound.valid.consistent in
    touches-picked w nester slot plain sound.full valid port beyond k z its.0 its.2 its.1 its.3 its.4 pick (give_row w port (take len words))
    (give_seen w nester slot plain sound.full valid port beyond k z its.0 its.2 its.1 its.3 its.4 port served (take len words)) touch
    (subst (λ (y : Path). GoesAllowed w y o) (sym here) ready))
    (seen_touch w nester slot plain port
    pick (record { mover = port; pick = pick; ask = asks.Give words len }) o (strip (slot ∷ nester) port) m (strip_none (slot ∷ nester) port out) seen.1)
give_keeps w nester slot port pick words len sound plain fit ready Unseen seen =
    still-plain w nester slot plain (with_pick false pick (give_row w port (take len words)))
    (still-picked (slot ∷ nester) false pick (give_row w port (take len words)) (still_give (slot ∷ nester) w port (take len words))) seen.1.0
give_keeps w nester slot port pick words len sound plain fit ready Other seen = tt

pub over_keeps : OverKeepsCut
unfolding step outcome
over_keeps w nester slot port pick sound plain fit ready (Onwards m) seen =
    let serving = over_serves w nester slot plain port pick (picked_goes w nester slot plain port pick (over_row w port) ready) in
    let out = lies_outside w nester slot plain port pick serving in
    let o : Outcome = with_pick false pick (over_row w port) in
    by_client w nester slot plain port pick (stepped w o).world (λ x q. Some (Handed q)) m
    (λ k z served touch shown.
    let its = native_outward w nester slot plain port pick out k z served in
    let form : touch ≡ Handed (k ∷ z) = cc in
    rw form (picked_hands w nester slot plain port
    pick k z its.0 its.2 its.1 its.3 its.4 (over_row w port) (over_hands w nester slot plain port pick k z its.0 its.2 its.1 its.3 its.4 served) ready))
    (seen_touch w nester slot
    plain port pick (record { mover = port; pick = pick; ask = asks.Over }) o (strip (slot ∷ nester) port) m (strip_none (slot ∷ nester) port out) seen.1)
over_keeps w nester slot port pick sound plain fit ready Unseen seen =
    still-plain w nester slot
    plain (with_pick false pick (over_row w port)) (still-picked (slot ∷ nester) false pick (over_row w port) (still_over (slot ∷ nester) w port)) seen.1.0
over_keeps w nester slot port pick sound plain fit ready Other seen = tt
