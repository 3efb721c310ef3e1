-- Rows: what the rows of native servers come to, case by case.
use Rattle.std.proofs.Common.{◌≡◌, ◌≤◌, ◌<◌, ◌+◌, ◌^◌, ℕ, min, Bool, true, false, cond, if◌then◌else◌, ◌&&◌, ◌==◌, is_none, is_some, List, [], ◌∷◌, take, length, Option, Some, None, option_map, IsSome, refl, sym, ap, subst, ◌∙◌, arith}
use Rattle.std.proofs.lemmas.Bool.{and_parts}
use Rattle.std.proofs.lemmas.List.{take_min as take-min}
use Rattle.fk_model.specs.declared.thread.Turn.TheVariants as turns
use Rattle.fk_model.specs.Holds.{is_free}
use Rattle.fk_model.specs.LinkRows.{is_parked, new_talk, port_named}
use Rattle.fk_model.specs.NativeRows.{accept_row, accepts_found, accepts_thread, connects_here, give_row, gives_to, has_turn, is_serving_port, parked_here, takes_up, with_client}
use Rattle.fk_model.specs.Objects.{Mode, Peer, Talk, Thread, Body, thread_of, and_then, holds}
use Rattle.fk_model.specs.Objects.Mode.{Running, Calling, Halted, Native}
use Rattle.fk_model.specs.Objects.Peer.{Service}
use Rattle.fk_model.specs.Outcomes.{Outcome, when}
use Rattle.fk_model.specs.Outcomes.Outcome.{Waits, Goes}
use Rattle.fk_model.specs.Outcomes.Said.{Taken, Given}
use Rattle.fk_model.specs.Places.{Path, parent, Ptr, leads_to}
use Rattle.fk_model.specs.Places.Ptr.{At}
use Rattle.fk_model.specs.Searches.{client_at, talk_at, thread_at}
use Rattle.fk_model.specs.Talks.{first_stage, receive_on, receiving, same_side}
use Rattle.fk_model.specs.World.{World}
use Rattle.fk_model.specs.World.Change.{Alter}
use Rattle.fk_model.specs.World.Edit.{Finish, SetPeer, SetTalk}
use Rattle.fk_model.specs.declared.stage.Stage.TheVariants.{ClientReceive, ClientReceiveRef}
use Rattle.fk_store.specs.Store.Threads.{is_free_at, todo_at, todo_of_mode}
use Rattle.fk_changes.specs.Threads.Shifted.{address_of}
use Rattle.laws_moves.proofs.InRows.Handles.{received-stage}
use Rattle.fk_calls.specs.Acts.Acts.{IsReceiver}

pub take_min : (n : ℕ) (xs : List ℕ) → length xs ≡ 64 → take (min n 64) xs ≡ take n xs
take_min n xs long = subst (λ k. take (min n k) xs ≡ take n xs) long (take-min n xs)

-- ---- accept

-- whom isn't free
pub accepts_held : (w : World) (port x : Path) → is_free_at w x ≡ false → Waits ≡ accepts_found w port x (thread_at w x)
unfolding is_free_at
accepts_held w port x held = by (thread_at w x) held
  where
    by : (o : Option Thread) → holds (is_free w (parent x)) o ≡ false → Waits ≡ accepts_found w port x o
    by None held = refl
    by (Some t) held = rw held refl

module _ (w : World) (port x : Path) (t : Thread) (there : Some t ≡ thread_at w x) (free : is_free_at w x ≡ true) where
  accepts_free : accepts_thread w port x t ≡ accepts_found w port x (thread_at w x)
  unfolding is_free_at
  accepts_free = let free_there = rw (← there) at free in rw (← there, free_there) refl

  -- one at its connect
  pub accepts_connecting : connects_here w port x t ≡ true →
      Goes (Alter x (SetTalk (Some (new_talk (At port) Service))) ∷ Alter x (Finish []) ∷ []) (Taken (At port) x false turns.Client 0)
      ≡ accepts_found w port x (thread_at w x)
  accepts_connecting connects = rw connects at accepts_free

  -- and one whose talk may be parked
  pub accepts_parked : connects_here w port x t ≡ false → takes_up port x (parked_here port t) ≡ accepts_found w port x (thread_at w x)
  accepts_parked connects = rw connects at accepts_free

-- who connects is in no talk
pub connects_free : (w : World) (port x : Path) (t : Thread) → Some t ≡ thread_at w x → connects_here w port x t ≡ true → talk_at w x ≡ None
connects_free w port x t there connects = rw (← there) (by t.talk connects)
  where
    by : (o : Option Talk) → holds (leads_to port) (cond {A = Option Ptr} (is_some o) None (and_then (port_named w x) (first_stage t.mode))) ≡ true → o ≡ None
    by None connects = refl
    by (Some talk) connects = absurd (cc)

-- and who is taken up has a talk that is parked
pub taken_parked : (port : Path) (t : Thread) (talk : Talk) → Some talk ≡ parked_here port t → holds (λ (talk : Talk). is_parked (Some talk.peer)) t.talk ≡ true
taken_parked port t talk is = by t.talk is
  where
    test : (other : Talk) (b : Bool) → (leads_to port other.port && is_parked (Some other.peer)) ≡ b →
        Some talk ≡ cond {A = Option Talk} b (Some other) None → is_parked (Some other.peer) ≡ true
    test other true e is = (and_parts _ _ e).1
    test other false e is = absurd (cc)

    by : (o : Option Talk) → Some talk ≡ and_then (λ (talk : Talk). if leads_to port talk.port && is_parked (Some talk.peer) then Some talk else None) o →
        holds (λ (talk : Talk). is_parked (Some talk.peer)) o ≡ true
    by None is = absurd (cc)
    by (Some other) is = test other _ refl is

-- ---- the client

module _ (w : World) (port : Path) (go : Path → ℕ × ℕ → Outcome) where
  -- of a server that isn't free
  pub client_held : is_serving_port w port ≡ false → with_client w port go ≡ Waits
  client_held held = rw held refl

  module _ (serving : is_serving_port w port ≡ true) where
    pub client_none : None ≡ client_at w port → with_client w port go ≡ Waits
    client_none none = rw (serving, ← none) refl

    module _ (x : Path) (found : Some x ≡ client_at w port) where
      -- one that isn't free
      pub client_unfree : is_free_at w x ≡ false → with_client w port go ≡ Waits
      unfolding is_free_at
      client_unfree held = by (thread_at w x) refl held
        where
          by : (o : Option Thread) → thread_at w x ≡ o → holds (is_free w (parent x)) o ≡ false → with_client w port go ≡ Waits
          by None there held = rw (serving, ← found, there) refl
          by (Some t) there held = rw (serving, ← found, there, held) refl

      module _ (t : Thread) (there : Some t ≡ thread_at w x) (free : is_free_at w x ≡ true) where
        abbrev turned : Bool
        turned = holds (λ (talk : Talk). same_side talk.turn turns.Server) t.talk

        pub client_unturned : turned ≡ false → with_client w port go ≡ Waits
        unfolding is_free_at
        client_unturned off = let free_there = rw (← there) at free in rw (serving, ← found, ← there, free_there, off) refl

        pub client_away : turned ≡ true → None ≡ receiving w (parent x) turns.Client t.mode → with_client w port go ≡ Waits
        unfolding is_free_at
        client_away on none = let free_there = rw (← there) at free in rw (serving, ← found, ← there, free_there, on, ← none) refl

        pub client_receives : (r : ℕ × ℕ) → turned ≡ true → Some r ≡ receiving w (parent x) turns.Client t.mode → with_client w port go ≡ go x r
        unfolding is_free_at
        client_receives r on is = let free_there = rw (← there) at free in rw (serving, ← found, ← there, free_there, on, ← is) refl

-- its stage has no higher address
receives_low : (m : Mode) (r : ℕ × ℕ) → Some r ≡ and_then (receive_on turns.Client) (first_stage m) → address_of (todo_of_mode m) ≤ r.0
receives_low (Running g) r is = absurd (cc)
receives_low (Calling [] rest) r is = absurd (cc)
receives_low (Calling (ClientReceive into room ∷ todo) rest) r is = let same : r ≡ (into, room) = cc in rw same (omega arith)
receives_low (Calling (ClientReceiveRef into room reference ∷ todo) rest) r is = let same : r ≡ (into, room) = cc in rw same (omega arith)
receives_low (Calling (stage ∷ todo) rest) r is = absurd (cc)
receives_low (Halted g code) r is = absurd (cc)
receives_low (Native g) r is = absurd (cc)

pub receiver : (w : World) (x : Path) (t : Thread) (r : ℕ × ℕ) → Some t ≡ thread_at w x → is_free_at w x ≡ true →
    Some r ≡ receiving w (parent x) turns.Client t.mode → IsReceiver w x r.0
unfolding todo_at
receiver w x t r there free is = record { free = free; low = rw (← there) (receives_low t.mode r (sym (received-stage w (parent x) turns.Client t.mode r (sym is)))) }

-- ---- nothing to give

module _ (w : World) (port : Path) where
  pub nothing_held : is_serving_port w port ≡ false → Waits ≡ give_row w port []
  unfolding give_row
  nothing_held held = rw held refl

  pub nothing_alone : is_serving_port w port ≡ true → None ≡ client_at w port → Waits ≡ give_row w port []
  unfolding give_row
  nothing_alone serving none = rw (serving, ← none) refl

  pub nothing_given : (x : Path) (b : Bool) → is_serving_port w port ≡ true → Some x ≡ client_at w port →
      holds (λ (talk : Talk). same_side talk.turn turns.Server) (talk_at w x) ≡ b → when b (Goes [] (Given (At port) 0)) ≡ give_row w port []
  unfolding give_row
  nothing_given x b serving found turn = rw (serving, ← found, turn) refl

-- ---- something to give

pub some_given : (w : World) (port : Path) (words : List ℕ) → (length words ≡ 0 → ⊥) → with_client w port (gives_to w port words) ≡ give_row w port words
unfolding give_row
some_given w port [] some = absurd (some refl)
some_given w port (word ∷ words) some = refl
