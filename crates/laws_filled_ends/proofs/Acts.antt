-- Acts of native servers in a settled world.
use Rattle.std.proofs.Common.{◌≡◌, ℕ, Bool, true, false, not, cond, ◌&&◌, ◌||◌, ◌==◌, is_some, is_none, if◌then◌else◌, List, [], ◌∷◌, take, Option, Some, None}
use Rattle.std.proofs.Common.{option_map, refl, sym, ap, subst, ◌∙◌, inl, inr}
use Rattle.std.proofs.lemmas.Bool.{cases_Bool, and_parts}
use Rattle.fk_model.specs.declared.moves.Ask.{Ask}
use Rattle.fk_model.specs.declared.moves.Ask.TheVariants as asks
use Rattle.fk_model.specs.declared.thread.Turn.{Turn}
use Rattle.fk_model.specs.declared.thread.Turn.TheVariants as turns
use Rattle.fk_model.specs.Places.{Path, parent, Ptr, leads_to}
use Rattle.fk_model.specs.Objects.{Mode, Talk, Fault, Thread, port_of, thread_of, and_then, holds}
use Rattle.fk_model.specs.World.{World}
use Rattle.fk_model.specs.Searches.{thread_at, talk_at, client_at}
use Rattle.fk_model.specs.Holds.{is_frozen, is_free, is_unheld, is_user}
use Rattle.fk_model.specs.Reach.{Reach, reach_word, words_at}
use Rattle.fk_model.specs.Outcomes.{Outcome, when}
use Rattle.fk_model.specs.Outcomes.Outcome.{Waits, Goes}
use Rattle.fk_model.specs.Outcomes.Said.{Given}
use Rattle.fk_model.specs.Places.Ptr.{At}
use Rattle.fk_model.specs.Readers.{handle, their_page_at, their_page}
use Rattle.fk_model.specs.Talks.{same_side, awaited, is_handled, receiving}
use Rattle.fk_model.specs.NativeRows.{is_serving_port, accepts_thread, accepts_found, takes_client, accept_row, if_receiving, with_client, gives_words}
use Rattle.fk_model.specs.NativeRows.{gives_to, has_turn, give_row, passes_client, over_row}
use Rattle.fk_model.specs.Moves.{with_pick, outcome}
use Rattle.laws_waits.specs.Touching.{is_home}
use Rattle.laws_waits.specs.Stuck.{is_resting, awaits_on}
use Rattle.laws_filled.specs.Filled.{Paging, filled}
use Rattle.laws_filled.proofs.Memory.{Reached, reached_word, words-same}
use Rattle.laws_filled.proofs.Memory.Reached.{AtHome, KeptBack, Missed, Nowhere}
use Rattle.laws_filled.proofs.Reading.{client_at-same}
use Rattle.laws_filled_ends.specs.Ends.{is_act, IsIdle, IsSettled, ActsStaySame}
use Rattle.laws_filled_ends.proofs.Ends.{G, as-filled, decider-g, rests}

data Is {A : Type 0} (o : Option A) : Type 0 where
  Absent : o ≡ None → Is o
  Present : (a : A) → o ≡ Some a → Is o

is-one : {A : Type 0} (o : Option A) → Is o
is-one None = Absent refl
is-one (Some a) = Present a refl

module _ (p : Paging) (w : World) (is : IsSettled p w) (idle : IsIdle w) where
  abbrev H : World
  H = G p w is idle

  client-g : (port : Path) → client_at H port ≡ client_at w port
  client-g port = ap (λ (v : World). client_at v port) (sym (as-filled p w is idle)) ∙ client_at-same p w port

  serving-g : (port : Path) → is_serving_port H port ≡ is_serving_port w port
  serving-g port = λ i. holds (λ (state : Option ℕ × Bool). state.1) (and_then port_of (w.body port)) && not (is_some (decider-g p w is idle (parent port) i))

  free-g : (x : Path) (t : Thread) → is_free H (parent x) t ≡ is_free w (parent x) t
  free-g x t = λ i. not (is_some (decider-g p w is idle (parent x) i)) && t.stops == 0 && is_none t.fault && is_user t.mode

  -- ---- accept

  thread-g : (port x : Path) (t : Thread) → accepts_thread H port x t ≡ accepts_thread w port x t
  unfolding handle
  thread-g port x t = refl

  found-g : (port x : Path) (o : Option Thread) → accepts_found H port x o ≡ accepts_found w port x o
  found-g port x None = refl
  found-g port x (Some t) = λ i. when (free-g x t i) (thread-g port x t i)

  client-taken-g : (port : Path) (pick : Option Path) → takes_client H port pick ≡ takes_client w port pick
  client-taken-g port None = refl
  client-taken-g port (Some x) = found-g port x (and_then thread_of (w.body x))

  accept-g : (port : Path) (pick : Option Path) → accept_row H port pick ≡ accept_row w port pick
  unfolding accept_row
  accept-g port pick = λ i. when (serving-g port i && is_none (client-g port i)) (client-taken-g port pick i)

  -- ---- a client that is at its Receive

  receiving-g : (x : Path) (go go' : Path → ℕ × ℕ → Outcome) (t : Thread) →
      ((room : ℕ × ℕ) → is_free w (parent x) t ≡ true → receiving w (parent x) turns.Client t.mode ≡ Some room → go' x room ≡ go x room) →
      if_receiving H x go' t ≡ if_receiving w x go t
  receiving-g x go go' t same = elim (cases_Bool (is_free w (parent x) t)) [
    | inr off ↦ rw (free-g x t, off) refl
    | inl on ↦ rw (free-g x t, on) (elim (cases_Bool (holds (λ (talk : Talk). same_side talk.turn turns.Server) t.talk)) [
      | inr off ↦ rw off refl
      | inl turn ↦ rw turn (elim (is-one (receiving w (parent x) turns.Client t.mode)) [ Absent e ↦ rw e refl | Present room e ↦ rw e (same room on e) ])
    ])
  ]

  with_client-g : (port : Path) (go go' : Path → ℕ × ℕ → Outcome) →
      ((x : Path) (t : Thread) (room : ℕ × ℕ) → thread_at w x ≡ Some t → is_free w (parent x) t ≡ true →
      receiving w (parent x) turns.Client t.mode ≡ Some room → go' x room ≡ go x room) →
      with_client H port go' ≡ with_client w port go
  with_client-g port go go' same = elim (cases_Bool (is_serving_port w port)) [
    | inr off ↦ rw (serving-g port, off) refl
    | inl on ↦ rw (serving-g port, on, client-g port) (elim (is-one (client_at w port)) [
      | Absent e ↦ rw e refl
      | Present x e ↦ rw e (elim (is-one (and_then thread_of (w.body x))) [
        | Absent here ↦ rw here refl
        | Present t here ↦ rw here (receiving-g x go go' t (λ room free at. same x t room here free at))
      ])
    ])
  ]

  over-g : (port : Path) → over_row H port ≡ over_row w port
  unfolding over_row
  over-g port = with_client-g port (passes_client w port) (passes_client H port) (λ x t room here free at. refl)

  -- ---- give

  awake : (t : Thread) (space : Path) → is_free w space t ≡ true → is_resting t ≡ true → ⊥
  awake t space free rest = by (not (is_frozen w space)) (t.stops == 0) t.fault (is_user t.mode) free rest
    where
      by : (a b : Bool) (o : Option Fault) (u : Bool) → (a && b && is_none o && u) ≡ true → (not b || is_some o || not u) ≡ true → ⊥
      by true true None true e f = cc
      by true true None false e f = cc
      by true true (Some fault) u e f = cc
      by true false o u e f = cc
      by false b o u e f = cc

  awaits-of : (space : Path) (side : Turn) (mode : Mode) (room : ℕ × ℕ) → receiving w space side mode ≡ Some room → awaits_on side mode ≡ Some room
  awaits-of space side mode room = by (is_handled w space (awaited mode)) (awaits_on side mode)
    where
      by : (b : Bool) (o : Option (ℕ × ℕ)) → (if b then o else None) ≡ Some room → o ≡ Some room
      by true o e = e
      by false o e = cc

  given-g : (port : Path) (words : List ℕ) (x : Path) (t : Thread) (room : ℕ × ℕ) → thread_at w x ≡ Some t → is_free w (parent x) t ≡ true →
      receiving w (parent x) turns.Client t.mode ≡ Some room → gives_to H port words x room ≡ gives_to w port words x room
  given-g port words x t room here free at = by (room.1 == 0) refl
    where
      home : (s : Path) (g : ℕ) (there : List ℕ) → w.page s g ≡ Some there →
          gives_words H port x words room.0 room.1 s g ≡ gives_words w port x words room.0 room.1 s g
      home s g there has = rw has refl

      reached : (r r' : Reach) → Reached p w r r' → reach_word w (parent x) room.0 true ≡ r → (room.1 == 0) ≡ false →
          their_page_at (gives_words H port x words room.0 room.1) r' ≡ their_page_at (gives_words w port x words room.0 room.1) r
      reached _ _ (AtHome s g there has) e f = home s g there has
      reached _ _ (KeptBack s g r' listed) e f =
          let rest = rests p w is idle turns.Server x room.0 room.1
          (ap (and_then {B = ℕ × ℕ} (λ (u : Thread). awaits_on turns.Client u.mode)) here ∙ awaits-of (parent x) turns.Client t.mode room at, f)
          (ap is_home e) in
          absurd (awake t (parent x) free (sym (ap (holds is_resting) here) ∙ rest))
      reached _ _ (Missed s g keeper) e f = refl
      reached _ _ Nowhere e f = refl

      by : (b : Bool) → (room.1 == 0) ≡ b → gives_to H port words x room ≡ gives_to w port words x room
      by true e = rw e refl
      by false e = rw e (reached _ _
          (subst (λ v. Reached p w (reach_word w (parent x) room.0 true) (reach_word v (parent x) room.0 true)) (as-filled p w is idle)
          (reached_word p w is.paging (parent x) room.0 true)) refl e)

  turn-g : (port : Path) → has_turn H port ≡ has_turn w port
  turn-g port = λ i. holds (λ x. holds (λ (talk : Talk). same_side talk.turn turns.Server) (talk_at w x)) (client-g port i)

  give-g : (port : Path) (words : List ℕ) → give_row H port words ≡ give_row w port words
  unfolding give_row
  give-g port [] = λ i. when (serving-g port i && turn-g port i) (Goes [] (Given (At port) 0))
  give-g port (word ∷ words) = with_client-g port (gives_to w port (word ∷ words)) (gives_to H port (word ∷ words)) (given-g port (word ∷ words))

  outcome-g : (port : Path) (pick : Option Path) (ask : Ask) → is_act ask ≡ true → outcome H port pick ask ≡ outcome w port pick ask
  unfolding outcome
  outcome-g port pick asks.Run act = cc
  outcome-g port pick (asks.Call stage words) act = cc
  outcome-g port pick asks.Accept act = accept-g port pick
  outcome-g port pick (asks.Give words len) act = ap (with_pick false pick) (give-g port (take len words))
  outcome-g port pick asks.Over act = ap (with_pick false pick) (over-g port)

pub acts_stay_same_lem : ActsStaySame
acts_stay_same_lem p w is idle port pick ask act =
    ap (λ (v : World). outcome v port pick ask) (as-filled p w is idle) ∙ outcome-g p w is idle port pick ask act
