-- A seeker's calls are bounded by its tasks.
use Rattle.std.proofs.Common.{◌≡◌, ℕ, ◌+◌, ◌*◌, ◌≤◌, Bool, true, false, cond, ◌&&◌, ◌||◌, ◌==◌, List, [], ◌∷◌, length, Some, arith}
use Rattle.fk_model.specs.declared.stage.Stage.{Stage}
use Rattle.fk_model.specs.declared.statuses.status.TheConstants.{OK}
use Rattle.fk_model.specs.Places.{Path}
use Rattle.fk_model.specs.World.{World}
use Rattle.fk_model.specs.Runs.{Event, after}
use Rattle.fk_model.specs.Closed.{led_to_from_outside}
use Rattle.laws_jobs.specs.Machines.{reply_of, said_of, call_of, Interleaved, own_moves}
use Rattle.laws_jobs.specs.Machines.Head.{Asks}
use Rattle.laws_jobs.specs.Machines.Interleaved.{Here, Another, Own}
use Rattle.laws_checkpoint.specs.Foreign.{Task, State, place_of, way_from, begin_at, begin, arrive, head, next, is_zero, read, tells_port, seeker, costs}
use Rattle.laws_checkpoint.specs.Foreign.{ForeignIsBounded}
use Rattle.laws_checkpoint.specs.Foreign.State.{Down, Fields, Inside, Beside, Over}

-- the calls that a state may still make
abbrev pub left : State → ℕ
left (Down from [] t ts) = 0
left (Down from (k ∷ ways) t ts) = length (k ∷ ways) + (3 * length t.fields + 1) + costs ts
left (Fields fs t ts) = (3 * length fs + 1) + costs ts
left (Inside n fs t ts) = 2 + (3 * length fs + 1) + costs ts
left (Beside n fs t ts) = 1 + (3 * length fs + 1) + costs ts
left (Over place) = 0

pub way-long : (q : Path) (below : List ℕ) → length (way_from below q) ≡ length q + length below
way-long [] below = omega arith
way-long (k ∷ q) below = let rest = way-long q (k ∷ below) in omega (arith, rest)

begins-at : (slot : ℕ) (q : Path) (t : Task) (ts : List Task) → left (begin_at slot q t ts) ≤ length q + (3 * length t.fields + 1) + costs ts
begins-at slot [] t ts = omega arith
begins-at slot (k ∷ q) t ts = let rest = way-long q [] in omega (arith, rest)

pub begins : (slot : ℕ) (ts : List Task) → left (begin slot ts) ≤ costs ts
begins slot [] = omega arith
begins slot (t ∷ ts) = let first = begins-at slot t.path t ts in omega (arith, first)

module _ (slot : ℕ) where
  pub fewer : (s : State) (stage : Stage) (words answer : List ℕ) (status : ℕ) → head slot s ≡ Asks stage words → left (next slot s status answer) + 1 ≤ left s
  fewer (Down from [] t ts) stage words answer status asks = cc
  fewer (Down from (k ∷ ways) t ts) stage words answer status asks = by ways
    where
      by : (ways : List ℕ) → left (arrive ways t ts) + 1 ≤ length (k ∷ ways) + (3 * length t.fields + 1) + costs ts
      by [] = omega arith
      by (j ∷ ways) = omega arith
  fewer (Fields [] t ts) stage words answer status asks = by (is_zero answer)
    where
      by : (b : Bool) → left (cond b (begin slot ts) (Over (Some (place_of slot t led_to_from_outside)))) + 1 ≤ (3 * length {A = ℕ} [] + 1) + costs ts
      by true = let rest = begins slot ts in omega (arith, rest)
      by false = omega arith
  fewer (Fields (n ∷ fs) t ts) stage words answer status asks = by answer
    where
      by_two : (b : Bool) → left (cond b (Inside n fs t ts) (Over (Some (place_of slot t n)))) + 1 ≤ (3 * length (n ∷ fs) + 1) + costs ts
      by_two true = omega arith
      by_two false = omega arith

      by_one : (a b : Bool) → left (cond a (Fields fs t ts) (cond b (Inside n fs t ts) (Over (Some (place_of slot t n))))) + 1 ≤
          (3 * length (n ∷ fs) + 1) + costs ts
      by_one true b = omega arith
      by_one false b = by_two b

      by : (answer : List ℕ) → left (read (Fields fs t ts) (Inside n fs t ts) (Over (Some (place_of slot t n))) answer) + 1 ≤
          (3 * length (n ∷ fs) + 1) + costs ts
      by [] = omega arith
      by (m ∷ ms) = by_one (m == 0 || m == 1) (m == 2)
  fewer (Inside n fs t ts) stage words answer status asks = by (status == OK) t.strict
    where
      by : (a b : Bool) → left (cond a (Fields fs t ts) (cond b (Over (Some (place_of slot t n))) (Beside n fs t ts))) + 1 ≤ 2 + (3 * length fs + 1) + costs ts
      by true b = omega arith
      by false true = omega arith
      by false false = omega arith
  fewer (Beside n fs t ts) stage words answer status asks = by (status == OK && tells_port answer)
    where
      by : (a : Bool) → left (cond a (Fields fs t ts) (Over (Some (place_of slot t n)))) + 1 ≤ 1 + (3 * length fs + 1) + costs ts
      by true = omega arith
      by false = omega arith
  fewer (Over place) stage words answer status asks = cc

  pub bounded : (nester : Path) (w v : World) (s t : State) (es : List Event) → (run : Interleaved (seeker slot) nester w s es v t) → own_moves run ≤ left s
  bounded nester _ _ _ _ _ (Here w s sound) = omega arith
  bounded nester _ v _ t _ (Another w s e es _ _ sound works moves rest) = bounded nester (after w e) v s t es rest
  bounded nester _ v _ t _ (Own w s stage words es _ _ sound asks ready rest) =
      let reply = reply_of (said_of w (call_of nester stage words)) in
      let less = bounded nester (after w (call_of nester stage words)) v (next slot s reply.status reply.words) t es rest in
      let one = fewer s stage words reply.words reply.status asks in
      omega (arith, less, one)

pub foreign_is_bounded : ForeignIsBounded
foreign_is_bounded nester slot w v t es ts run =
    let most = bounded slot nester w v (begin slot ts) t es run in
    let first = begins slot ts in
    omega (arith, most, first)
