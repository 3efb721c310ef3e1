-- Acts: what native servers do changes their clients alone.
use Rattle.std.proofs.Common.{◌≡◌, ℕ, Bool, true, false, if◌then◌else◌, ◌&&◌, ◌||◌, ◌==◌, is_none, List, [], ◌∷◌, take, Option, Some, None, refl, inl, inr}
use Rattle.std.proofs.lemmas.Bool.{cases_Bool}
use Rattle.fk_model.specs.declared.thread.Turn.TheVariants as turns
use Rattle.fk_model.specs.Holds.{is_free}
use Rattle.fk_model.specs.Moves.{outcome, with_pick}
use Rattle.fk_model.specs.NativeRows.{accept_row, accepts_found, accepts_thread, connects_here, give_row, gives_to, gives_words, has_turn, if_receiving}
use Rattle.fk_model.specs.NativeRows.{is_serving_port, over_row, parked_here, passes_client, takes_client, takes_up, with_client}
use Rattle.fk_model.specs.Objects.{Talk, Thread, and_then, holds, thread_of}
use Rattle.fk_model.specs.Outcomes.{Outcome, listed, when}
use Rattle.fk_model.specs.Outcomes.Outcome.{Goes, Refused, Waits}
use Rattle.fk_model.specs.Outcomes.Said.{Given}
use Rattle.fk_model.specs.Places.{Path, parent, same_path}
use Rattle.fk_model.specs.Places.Ptr.{At}
use Rattle.fk_model.specs.Reach.{Reach, reach_word}
use Rattle.fk_model.specs.Reach.Reach.{Bad, Home, Missing}
use Rattle.fk_model.specs.Readers.{their_page_at}
use Rattle.fk_model.specs.Searches.{client_at}
use Rattle.fk_model.specs.Talks.{receiving, same_side}
use Rattle.fk_model.specs.World.{World}
use Rattle.fk_plans.specs.declared.wakes.touching.Touched.{Touched}
use Rattle.fk_plans.specs.Wakes.Touches.{ActsTouch, TouchesOne}

-- what an option is
data Is {A : Type 0} (o : Option A) : Type 0 where
  Absent : o ≡ None → Is o
  Present : (a : A) → o ≡ Some a → Is o

is : {A : Type 0} (o : Option A) → Is o
is None = Absent refl
is (Some a) = Present a refl

once : (a : Bool) → (a || false) ≡ true → a ≡ true
once true is = refl
once false is = absurd (cc)

twice : (a : Bool) → (a || (a || false)) ≡ true → a ≡ true
twice true is = refl
twice false is = absurd (cc)

-- what an outcome touches
record Touch (p : ℕ → Path) (t : Touched) (w : World) (who : Option Path) (o : Outcome) : Type 0 where
  one : TouchesOne p t w who (listed o)

module _ (p : ℕ → Path) (t : Touched) (w : World) where
  none : {who : Option Path} → TouchesOne p t w who []
  none = record { names = λ y named. absurd (cc); leaves = refl }

  waits : {who : Option Path} → Touch p t w who Waits
  waits = record { one = none }

  if_test : {who : Option Path} (test : Bool) (a b : Outcome) → Touch p t w who a → Touch p t w who b → Touch p t w who (if test then a else b)
  if_test true a b first second = first
  if_test false a b first second = second

  when_test : {who : Option Path} (test : Bool) (o : Outcome) → Touch p t w who o → Touch p t w who (when test o)
  when_test true o touch = touch
  when_test false o touch = waits

  picked : {who : Option Path} (pick : Option Path) (o : Outcome) → Touch p t w who o → Touch p t w who (with_pick false pick o)
  picked pick (Refused status) touch = when_test (is_none pick) (Refused status) touch
  picked pick Waits touch = touch
  picked pick (Goes changes said) touch = when_test (false || is_none pick) (Goes changes said) touch

  -- ---- a client is taken

  taken_up : (port x : Path) (o : Option Talk) → Touch p t w (Some x) (takes_up port x o)
  taken_up port x None = waits
  taken_up port x (Some talk) = record { one = record { names = λ y named. once (same_path y x) named; leaves = refl } }

  accepted : (port x : Path) (u : Thread) → Touch p t w (Some x) (accepts_thread w port x u)
  accepted port x u =
      if_test (connects_here w port x u) _ _ (record { one = record { names = λ y named. twice (same_path y x) named; leaves = refl } })
      (taken_up port x (parked_here port u))

  found : (port x : Path) (o : Option Thread) → Touch p t w (Some x) (accepts_found w port x o)
  found port x None = waits
  found port x (Some u) = when_test (is_free w (parent x) u) (accepts_thread w port x u) (accepted port x u)

  taken : (port : Path) (pick : Option Path) → Touch p t w pick (takes_client w port pick)
  taken port None = waits
  taken port (Some x) = found port x (and_then thread_of (w.body x))

  accept_touches : (port : Path) (pick : Option Path) → Touch p t w pick (accept_row w port pick)
  unfolding accept_row
  accept_touches port pick = when_test (is_serving_port w port && is_none (client_at w port)) (takes_client w port pick) (taken port pick)

  -- ---- the client that receives

  received : (x : Path) (go : Path → ℕ × ℕ → Outcome) (u : Thread) → ((x : Path) (space : ℕ × ℕ) → Touch p t w (Some x) (go x space)) →
      Touch p t w (Some x) (if_receiving w x go u)
  received x go u going = elim (cases_Bool (is_free w (parent x) u && holds (λ (talk : Talk). same_side talk.turn turns.Server) u.talk)) [
    | inr off ↦ rw off waits
    | inl on ↦ rw on (elim (is (receiving w (parent x) turns.Client u.mode)) [ Absent e ↦ rw e waits | Present space e ↦ rw e (going x space) ])
  ]

  of_client : (port : Path) (go : Path → ℕ × ℕ → Outcome) → ((x : Path) (space : ℕ × ℕ) → Touch p t w (Some x) (go x space)) →
      Touch p t w (client_at w port) (with_client w port go)
  of_client port go going = elim (cases_Bool (is_serving_port w port)) [
    | inr off ↦ rw off waits
    | inl on ↦ rw on (elim (is (client_at w port)) [
      | Absent e ↦ rw e waits
      | Present x e ↦ rw e (elim (is (and_then thread_of (w.body x))) [ Absent e2 ↦ rw e2 waits | Present u e2 ↦ rw e2 (received x go u going) ])
    ])
  ]

  their_page_touches : (x : Path) (go : Path → ℕ → Outcome) (r : Reach) → ((s : Path) (page : ℕ) → Touch p t w (Some x) (go s page)) →
      Touch p t w (Some x) (their_page_at go r)
  their_page_touches x go (Home s page) going = going s page
  their_page_touches x go (Missing s page keeper) going = waits
  their_page_touches x go Bad going = waits

  given_to : (port : Path) (words : List ℕ) (x : Path) (receive : ℕ × ℕ) → Touch p t w (Some x) (gives_to w port words x receive)
  given_to port words x receive =
      if_test (receive.1 == 0) _ _ (record { one = record { names = λ y named. once (same_path y x) named; leaves = refl } })
      (their_page_touches x (gives_words w port x words receive.0 receive.1) (reach_word w (parent x) receive.0 true)
      (λ s page. record { one = record { names = λ y named. twice (same_path y x) named; leaves = refl } }))

  give_touches : (port : Path) (words : List ℕ) → Touch p t w (client_at w port) (give_row w port words)
  unfolding give_row
  give_touches port [] = when_test (is_serving_port w port && has_turn w port) (Goes [] (Given (At port) 0)) (record { one = none })
  give_touches port (word ∷ words) = of_client port (gives_to w port (word ∷ words)) (given_to port (word ∷ words))

  over_touches : (port : Path) → Touch p t w (client_at w port) (over_row w port)
  unfolding over_row
  over_touches port =
      of_client port (passes_client w port) (λ x receive. record { one = record { names = λ y named. twice (same_path y x) named; leaves = refl } })

pub acts_touch : (p : ℕ → Path) (t : Touched) (w : World) (port : Path) (pick : Option Path) → ActsTouch p t w port pick
unfolding outcome
acts_touch p t w port pick = record {
  accept = (accept_touches p t w port pick).one;
  give = λ words len. (picked p t w pick (give_row w port (take len words)) (give_touches p t w port (take len words))).one;
  over = (picked p t w pick (over_row w port) (over_touches p t w port)).one;
}
