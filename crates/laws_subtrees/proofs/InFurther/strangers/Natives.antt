-- Each act of a native server whose port is away changes only what is away from the subtree.
use Rattle.std.proofs.Common.{◌≡◌, ℕ, Bool, true, false, if◌then◌else◌, ◌&&◌, ◌==◌, List, [], ◌∷◌, take, is_none, Option, Some, None, refl, inl, inr}
use Rattle.std.proofs.lemmas.Bool.{cases_Bool}
use Rattle.fk_model.specs.declared.moves.Ask.{Ask}
use Rattle.fk_model.specs.declared.moves.Ask.TheVariants as asks
use Rattle.fk_model.specs.declared.thread.Turn.TheVariants as turns
use Rattle.fk_model.specs.Places.{Path, is_within, parent}
use Rattle.fk_model.specs.Places.Ptr.{At}
use Rattle.fk_model.specs.Objects.{Talk, Thread, thread_of, and_then, holds}
use Rattle.fk_model.specs.Objects.Peer.{Service}
use Rattle.fk_model.specs.World.{World}
use Rattle.fk_model.specs.World.Change.{Alter}
use Rattle.fk_model.specs.World.Edit.{SetTalk, Finish}
use Rattle.fk_model.specs.Searches.{client_at}
use Rattle.fk_model.specs.Holds.{is_free}
use Rattle.fk_model.specs.Outcomes.{Outcome, when}
use Rattle.fk_model.specs.Outcomes.Outcome.{Refused, Waits, Goes}
use Rattle.fk_model.specs.Outcomes.Said.{Taken, Given}
use Rattle.fk_model.specs.Talks.{receiving, same_side}
use Rattle.fk_model.specs.LinkRows.{new_talk}
use Rattle.fk_model.specs.NativeRows.{is_serving_port, connects_here, parked_here, takes_up, accepts_thread, accepts_found, takes_client, accept_row}
use Rattle.fk_model.specs.NativeRows.{if_receiving, with_client, gives_words, gives_to, has_turn, give_row, passes_client, over_row}
use Rattle.fk_model.specs.Moves.{outcome, with_pick}
use Rattle.fk_model.specs.Valid.{IsConsistent}
use Rattle.fk_model.specs.Cut.{IsPlain}
use Rattle.laws_subtrees.specs.Further.Strangers.{HasNoWindow, is_of_server}
use Rattle.laws_subtrees.proofs.InFurther.strangers.Places.{IsAwayObject}
use Rattle.laws_subtrees.proofs.InFurther.strangers.Talks.{guest_of-out, waiter-out, joiner-out}
use Rattle.laws_subtrees.proofs.InFurther.strangers.Rows.{AwayOutcome, waits, goes, away-when, away-if, their_page-away, parent_out}

-- what an option is
data Is {A : Type 0} (o : Option A) : Type 0 where
  Absent : o ≡ None → Is o
  Present : (a : A) → o ≡ Some a → Is o

is : {A : Type 0} (o : Option A) → Is o
is None = Absent refl
is (Some a) = Present a refl

-- what holds where it comes to something
abbrev pub IfGoes : Type 0 → Outcome → Type 0
IfGoes P (Goes changes said) = P
IfGoes P (Refused status) = Unit {0}
IfGoes P Waits = Unit {0}

module _ (w : World) (nester : Path) (slot : ℕ) (valid : IsConsistent w) (plain : IsPlain w nester slot)
    (port : Path) (away : IsAwayObject nester slot port) where
  -- ---- whom it meets

  abbrev IsOut : Path → Type 0
  IsOut x = is_within (slot ∷ nester) x ≡ false

  if_when : (P : Type 0) (test : Bool) (o : Outcome) → IfGoes P o → IfGoes P (when test o)
  if_when P true o h = h
  if_when P false o h = tt

  up_out : (x : Path) (o : Option Talk) → ((talk : Talk) → o ≡ Some talk → IsOut x) → IfGoes (IsOut x) (takes_up port x o)
  up_out x None out = tt
  up_out x (Some talk) out = out talk refl

  thread_out : (x : Path) (t : Thread) → and_then thread_of (w.body x) ≡ Some t → IfGoes (IsOut x) (accepts_thread w port x t)
  thread_out x t there = by (connects_here w port x t) refl
    where
      by : (b : Bool) → connects_here w port x t ≡ b → IfGoes (IsOut x) (if b then Goes (Alter x (SetTalk (Some (new_talk (At port) Service)))
          ∷ Alter x (Finish []) ∷ []) (Taken (At port) x false turns.Client 0) else takes_up port x (parked_here port t))
      by true e = joiner-out w nester slot valid plain x t port away there e
      by false e = up_out x (parked_here port t) (λ talk found. waiter-out w nester slot valid plain x t port talk away there found)

  found_out : (x : Path) (o : Option Thread) → and_then thread_of (w.body x) ≡ o → IfGoes (IsOut x) (accepts_found w port x o)
  found_out x None there = tt
  found_out x (Some t) there = if_when (IsOut x) (is_free w (parent x) t) (accepts_thread w port x t) (thread_out x t there)

  pub picked-out : (x : Path) → IfGoes (IsOut x) (accept_row w port (Some x))
  unfolding accept_row
  picked-out x = if_when (IsOut x) (is_serving_port w port && is_none (client_at w port)) (takes_client w port (Some x))
      (found_out x (and_then thread_of (w.body x)) refl)

  -- nobody inside is its client
  pub guest-out : (x : Path) → client_at w port ≡ Some x → is_within (slot ∷ nester) x ≡ false
  guest-out x found = guest_of-out w nester slot valid plain port x away found

module _ (w : World) (nester : Path) (slot : ℕ) (valid : IsConsistent w) (plain : IsPlain w nester slot) (windows : HasNoWindow w nester slot)
    (port : Path) (away : IsAwayObject nester slot port) where
  abbrev IsClear : Path → Type 0
  IsClear x = is_within (slot ∷ nester) x ≡ false

  abbrev Goes_away : Outcome → Type 0
  Goes_away o = AwayOutcome w nester slot valid plain windows o

  -- ---- accept

  takes_up-away : (x : Path) (o : Option Talk) → ((talk : Talk) → o ≡ Some talk → IsClear x) → Goes_away (takes_up port x o)
  takes_up-away x None out = waits w nester slot valid plain windows
  takes_up-away x (Some talk) out = goes w nester slot valid plain windows ((out talk refl, tt), tt)

  accepts_thread-away : (x : Path) (t : Thread) → and_then thread_of (w.body x) ≡ Some t → Goes_away (accepts_thread w port x t)
  accepts_thread-away x t there = by (connects_here w port x t) refl
    where
      by : (b : Bool) → connects_here w port x t ≡ b → Goes_away (if b then Goes (Alter x (SetTalk (Some (new_talk (At port) Service)))
          ∷ Alter x (Finish []) ∷ []) (Taken (At port) x false turns.Client 0) else takes_up port x (parked_here port t))
      by true e = let out = joiner-out w nester slot valid plain x t port away there e in
          goes w nester slot valid plain windows ((out, refl), ((out, tt), tt))
      by false e = takes_up-away x (parked_here port t) (λ talk found. waiter-out w nester slot valid plain x t port talk away there found)

  accepts_found-away : (x : Path) (o : Option Thread) → and_then thread_of (w.body x) ≡ o → Goes_away (accepts_found w port x o)
  accepts_found-away x None there = waits w nester slot valid plain windows
  accepts_found-away x (Some t) there = away-when w nester slot valid plain windows (is_free w (parent x) t) (accepts_thread w port x t)
      (λ free. accepts_thread-away x t there)

  takes_client-away : (pick : Option Path) → Goes_away (takes_client w port pick)
  takes_client-away None = waits w nester slot valid plain windows
  takes_client-away (Some x) = accepts_found-away x (and_then thread_of (w.body x)) refl

  accept_row-away : (pick : Option Path) → Goes_away (accept_row w port pick)
  unfolding accept_row
  accept_row-away pick = away-when w nester slot valid plain windows (is_serving_port w port && is_none (client_at w port)) (takes_client w port pick)
      (λ free. takes_client-away pick)

  -- ---- give and over

  if_receiving-away : (x : Path) (go : Path → ℕ × ℕ → Outcome) (t : Thread) → ((space : ℕ × ℕ) → Goes_away (go x space)) → Goes_away (if_receiving w x go t)
  if_receiving-away x go t going = elim (cases_Bool (is_free w (parent x) t && holds (λ (talk : Talk). same_side talk.turn turns.Server) t.talk)) [
    | inr off ↦ rw off (waits w nester slot valid plain windows)
    | inl on ↦ rw on (elim (is (receiving w (parent x) turns.Client t.mode)) [
      | Absent e ↦ rw e (waits w nester slot valid plain windows)
      | Present space e ↦ rw e (going space)
    ])
  ]

  with_client-away : (go : Path → ℕ × ℕ → Outcome) → ((x : Path) (space : ℕ × ℕ) → client_at w port ≡ Some x → Goes_away (go x space)) →
      Goes_away (with_client w port go)
  with_client-away go going = elim (cases_Bool (is_serving_port w port)) [
    | inr off ↦ rw off (waits w nester slot valid plain windows)
    | inl on ↦ rw on (elim (is (client_at w port)) [
      | Absent e ↦ rw e (waits w nester slot valid plain windows)
      | Present x e ↦ rw e (elim (is (and_then thread_of (w.body x))) [
        | Absent e2 ↦ rw e2 (waits w nester slot valid plain windows)
        | Present t e2 ↦ rw e2 (if_receiving-away x go t (λ space. going x space e))
      ])
    ])
  ]

  gives_to-away : (words : List ℕ) (x : Path) (space : ℕ × ℕ) → IsClear x → Goes_away (gives_to w port words x space)
  gives_to-away words x space out = away-if w nester slot valid plain windows (space.1 == 0) _ _ (goes w nester slot valid plain windows ((out, tt), tt))
      (their_page-away w nester slot valid plain windows (parent x) space.0 (gives_words w port x words space.0 space.1)
      (parent_out w nester slot valid plain windows x out)
      (λ s page home. goes w nester slot valid plain windows (home, ((out, tt), ((out, tt), tt)))))

  give_row-away : (words : List ℕ) → Goes_away (give_row w port words)
  unfolding give_row
  give_row-away [] = away-when w nester slot valid plain windows (is_serving_port w port && has_turn w port) (Goes [] (Given (At port) 0))
      (λ free. goes w nester slot valid plain windows {cs = []} tt)
  give_row-away (word ∷ words) = with_client-away (gives_to w port (word ∷ words))
      (λ x space found. gives_to-away (word ∷ words) x space (guest-out w nester slot valid plain port away x found))

  over_row-away : Goes_away (over_row w port)
  unfolding over_row
  over_row-away = with_client-away (passes_client w port) (λ x space found. let out = guest-out w nester slot valid plain port away x found in
      goes w nester slot valid plain windows ((out, tt), ((out, tt), tt)))

  -- ---- an act

  with_pick-away : (pick : Option Path) (o : Outcome) → Goes_away o → Goes_away (with_pick false pick o)
  with_pick-away pick (Refused status) its = away-when w nester slot valid plain windows (is_none pick) (Refused status) (λ none. its)
  with_pick-away pick Waits its = its
  with_pick-away pick (Goes changes said) its = away-when w nester slot valid plain windows (is_none pick) (Goes changes said) (λ none. its)

  pub act-away : (pick : Option Path) (ask : Ask) → is_of_server ask ≡ true → Goes_away (outcome w port pick ask)
  unfolding outcome
  act-away pick asks.Accept its = accept_row-away pick
  act-away pick (asks.Give words len) its =
      with_pick-away pick (give_row w port (take len words)) (give_row-away (take len words))
  act-away pick asks.Over its = with_pick-away pick (over_row w port) over_row-away
  act-away pick asks.Run its = cc
  act-away pick (asks.Call stage words) its = cc
