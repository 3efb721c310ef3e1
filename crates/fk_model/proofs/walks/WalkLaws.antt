-- Walks: in a valid world they come to every object.
--
-- No path is longer than there are birth numbers, since the spaces on it have numbers of their own below the next one.
use Rattle.std.proofs.Common.{◌≡◌, ℕ, zero, suc, ◌+◌, ◌<◌, ◌≤◌, Bool, true, false, ◌&&◌, find, eqb, IsSome, is_some, List, [], ◌∷◌, ◌++◌, length, Option, Some}
use Rattle.std.proofs.Common.{None, option_map, unwrap_or, ◌⊎◌, inl, inr, refl, sym, ap, arith, le_trans, ne_eqb, eqb-true, ◌∙◌}
use Rattle.std.specs.List.{IsDistinct, AllByRecursion, list_any}
use Rattle.std.proofs.lemmas.Bool.{or_parts, or_cases, cases_lt}
use Rattle.std.proofs.lemmas.Map.Steps.{length-le_from_distinct_below}
use Rattle.fk_model.specs.declared.limits.TheConstants.{SLOTS}
use Rattle.fk_model.specs.declared.names.Kind.{Kind}
use Rattle.fk_model.specs.declared.names.Kind.TheVariants as kinds
use Rattle.fk_model.specs.Places.{Path, same_path, leads_to}
use Rattle.fk_model.specs.Places.Ptr.{At}
use Rattle.fk_model.specs.Objects.{Talk, Fault, Thread, Body, kind_of, thread_of, and_then, holds}
use Rattle.fk_model.specs.Objects.Body.{Mutex, Cond, Mapping, Region, Port, Portset, Space, Thread_of, Reference}
use Rattle.fk_model.specs.World.{World, serves}
use Rattle.fk_model.specs.Searches.{slots, residents, depth, beneath_by, beneath, objects, talk_at, fault_at, client_of, faulter_of, is_serving, is_service}
use Rattle.fk_model.specs.Searches.{client_at}
use Rattle.fk_model.specs.Valid.{IsConsistent, kind_there, birth_of, birth_at, HasService, services, IsRooted}
use Rattle.fk_model.proofs.walks.Members.{IsIn, in_left, in_right, in_filter, of_filter, find_none, any_in, in_flat_map, of_flat_map}
use Rattle.fk_model.proofs.walks.PlaceLaws.{same_path_refl}

-- ---- what is live lies in live spaces

is_some-kind : (o : Option Body) → is_some (option_map kind_of o) ≡ is_some o
is_some-kind None = refl
is_some-kind (Some b) = refl

pub live-kind : (w : World) (x : Path) → is_some (kind_there w x) ≡ is_some (w.body x)
unfolding kind_there
live-kind w x = is_some-kind (w.body x)

live_from_kind : (w : World) (x : Path) (kind : Kind) → kind_there w x ≡ Some kind → IsSome (w.body x)
live_from_kind w x kind h = sym (live-kind w x) ∙ ap is_some h

pub live_above : (w : World) → IsConsistent w → (k : ℕ) (x : Path) → IsSome (w.body (k ∷ x)) → IsSome (w.body x)
live_above w valid k x live = live_from_kind w x kinds.Space (valid.parents k x live)

-- ---- birth numbers on a way

abbrev number : World → Path → ℕ
number w x = unwrap_or (birth_at w x) 0

numbered : (w : World) → IsConsistent w → (k : ℕ) (x : Path) → IsSome (w.body (k ∷ x)) → birth_at w x ≡ Some (number w x)
unfolding kind_there
numbered w valid k x live = by (w.body x) (valid.parents k x live)
  where
    by : (o : Option Body) → option_map kind_of o ≡ Some kinds.Space → and_then birth_of o ≡ Some (unwrap_or (and_then birth_of o) 0)
    by (Some (Space birth holder)) h = refl
    by (Some (Mutex locked)) h = cc
    by (Some Cond) h = cc
    by (Some (Mapping m)) h = cc
    by (Some (Region r)) h = cc
    by (Some (Port set served)) h = cc
    by (Some Portset) h = cc
    by (Some (Thread_of t)) h = cc
    by (Some (Reference to)) h = cc
    by None h = cc

-- the numbers of the spaces above x
abbrev numbers : World → Path → List ℕ
numbers w [] = []
numbers w (k ∷ x) = number w x ∷ numbers w x

numbers-long : (w : World) (x : Path) → length (numbers w x) ≡ length x
numbers-long w [] = refl
numbers-long w (k ∷ x) = ap suc (numbers-long w x)

numbers-below : (w : World) → IsConsistent w → (x : Path) → IsSome (w.body x) → (q : ℕ) → list_any (eqb q) (numbers w x) ≡ true → q < w.next
numbers-below w valid [] live q h = cc
numbers-below w valid (k ∷ x) live q h =
    by (or_cases (eqb q (number w x)) (list_any (eqb q) (numbers w x)) h) (numbers-below w valid x (live_above w valid k x live) q)
  where
    by : (eqb q (number w x) ≡ true) ⊎ (list_any (eqb q) (numbers w x) ≡ true) → (list_any (eqb q) (numbers w x) ≡ true → q < w.next) → q < w.next
    by (inl e) rest = let below = valid.born x (number w x) (numbered w valid k x live) in let same = eqb-true q (number w x) e in omega arith
    by (inr e) rest = rest e

-- a longer path's number is none of these
numbers-other : (w : World) → IsConsistent w →
    (x z : Path) → birth_at w x ≡ Some (number w x) → length z ≤ length x → IsSome (w.body z) → AllByRecursion (λ n. eqb (number w x) n ≡ false) (numbers w z)
numbers-other w valid x [] is long live = tt
numbers-other w valid x (k ∷ z) is long live =
    (ne_eqb (number w x) (number w z) other, numbers-other w valid x z is (omega arith) (live_above w valid k z live))
  where
    other : number w x ≡ number w z → ⊥
    other e = let same = valid.apart x z (number w z) (is ∙ ap Some e) (numbered w valid k z live) in omega (arith, ap length same)

numbers-distinct : (w : World) → IsConsistent w → (x : Path) → IsSome (w.body x) → IsDistinct eqb (numbers w x)
unfolding IsDistinct
numbers-distinct w valid [] live = tt
numbers-distinct w valid (k ∷ x) live =
    let above = live_above w valid k x live in
    (numbers-other w valid x x (numbered w valid k x live) (omega arith) above, numbers-distinct w valid x above)

pub short : (w : World) → IsConsistent w → (x : Path) → IsSome (w.body x) → length x ≤ w.next
short w valid x live =
    rw (← numbers-long w x) (length-le_from_distinct_below (numbers w x) w.next (numbers-distinct w valid x live) (numbers-below w valid x live))

-- ---- the residents of a space

in_slots : (n k : ℕ) → k < n → IsIn k (slots n)
unfolding slots
in_slots zero k h = absurd (omega arith)
in_slots (suc n) k h = by (cases_lt k n) (in_slots n k)
  where
    by : (k < n) ⊎ (n ≤ k) → (k < n → IsIn k (slots n)) → IsIn k (slots n ++ n ∷ [])
    by (inl g) rest = in_left k (slots n) (n ∷ []) (rest g)
    by (inr g) rest = in_right k (slots n) (n ∷ []) (inl (omega arith))

in_residents : (w : World) → IsRooted w → (k : ℕ) (s : Path) → IsSome (w.body (k ∷ s)) → IsIn k (residents w s)
unfolding residents
in_residents w rooted k s live = in_filter (λ k. is_some (w.body (k ∷ s))) k (slots SLOTS) (in_slots SLOTS k (rooted.slots k s live)) live

of_residents : (w : World) (k : ℕ) (s : Path) → IsIn k (residents w s) → IsSome (w.body (k ∷ s))
unfolding residents
of_residents w k s h = (of_filter (λ k. is_some (w.body (k ∷ s))) k (slots SLOTS) h).1

-- ---- all that lies beneath a space

in_first : (n : ℕ) (w : World) → IsRooted w → (k : ℕ) (s : Path) → 0 < n → IsSome (w.body (k ∷ s)) → IsIn (k ∷ s) (beneath_by n w s)
unfolding beneath_by
in_first zero w rooted k s h live = absurd (omega arith)
in_first (suc n) w rooted k s h live = in_flat_map (λ k. (k ∷ s) ∷ beneath_by n w (k ∷ s)) k (k ∷ s) (residents w s) (in_residents w rooted k s live) (inl refl)

-- with an object the walk comes to what lies in it
in_next : (n : ℕ) (w : World) →
    IsRooted w → (s y : Path) (k : ℕ) → IsIn y (beneath_by n w s) → length y < n + length s → IsSome (w.body (k ∷ y)) → IsIn (k ∷ y) (beneath_by n w s)
unfolding beneath_by
in_next zero w rooted s y k h few live = absurd h
in_next (suc n) w rooted s y k h few live =
    let found = of_flat_map (λ j. (j ∷ s) ∷ beneath_by n w (j ∷ s)) y (residents w s) h in
    in_flat_map (λ j. (j ∷ s) ∷ beneath_by n w (j ∷ s))
    found.0 (k ∷ y) (residents w s) found.1 (inr (by found.0 found.2 (λ j g. in_next n w rooted (j ∷ s) y k g (omega arith) live)))
  where
    by : (j : ℕ) → (j ∷ s ≡ y) ⊎ IsIn y (beneath_by n w (j ∷ s)) →
        ((j : ℕ) → IsIn y (beneath_by n w (j ∷ s)) → IsIn (k ∷ y) (beneath_by n w (j ∷ s))) → IsIn (k ∷ y) (beneath_by n w (j ∷ s))
    by j (inl e) rest = rw (e) (in_first n w rooted k y (omega (arith, ap length e)) live)
    by j (inr g) rest = rest j g

in_walk : (n : ℕ) (w : World) → ((k : ℕ) (x : Path) → IsSome (w.body (k ∷ x)) → IsSome (w.body x)) →
    IsRooted w → (x : Path) (k : ℕ) → IsSome (w.body (k ∷ x)) → length (k ∷ x) ≤ n → IsIn (k ∷ x) (beneath_by n w [])
in_walk n w above rooted [] k live few = in_first n w rooted k [] (omega arith) live
in_walk n w above rooted (j ∷ y) k live few =
    in_next n w rooted [] (j ∷ y) k (in_walk n w above rooted y j (above k (j ∷ y) live) (omega arith)) (omega arith) live

of_walk : (n : ℕ) (w : World) (s x : Path) → IsIn x (beneath_by n w s) → IsSome (w.body x)
unfolding beneath_by
of_walk zero w s x h = absurd h
of_walk (suc n) w s x h = let found = of_flat_map (λ j. (j ∷ s) ∷ beneath_by n w (j ∷ s)) x (residents w s) h in
    by found.0 (of_residents w found.0 s found.1) found.2 (of_walk n w (found.0 ∷ s) x)
  where
    by : (j : ℕ) →
        IsSome (w.body (j ∷ s)) → (j ∷ s ≡ x) ⊎ IsIn x (beneath_by n w (j ∷ s)) → (IsIn x (beneath_by n w (j ∷ s)) → IsSome (w.body x)) → IsSome (w.body x)
    by j live (inl e) rest = rw e at live
    by j live (inr g) rest = rest g

-- ---- every object

-- where what has something in it is live, and no path is too long
pub walked : (w : World) → ((k : ℕ) (x : Path) → IsSome (w.body (k ∷ x)) → IsSome (w.body x)) →
    IsRooted w → (k : ℕ) (x : Path) → IsSome (w.body (k ∷ x)) → length (k ∷ x) ≤ depth → IsIn (k ∷ x) (objects w)
unfolding beneath
walked w above rooted k x live few = in_walk depth w above rooted x k live few

pub in_objects : (w : World) → IsConsistent w → IsRooted w → w.next ≤ depth → (k : ℕ) (x : Path) → IsSome (w.body (k ∷ x)) → IsIn (k ∷ x) (objects w)
in_objects w valid rooted few k x live = walked w (live_above w valid) rooted k x live (le_trans (short w valid (k ∷ x) live) few)

pub objects-all : (w : World) →
    IsConsistent w → IsRooted w → w.next ≤ depth → (k : ℕ) (x : Path) → IsSome (w.body (k ∷ x)) → list_any (same_path (k ∷ x)) (objects w) ≡ true
objects-all w valid rooted few k x live = any_in (same_path (k ∷ x)) (k ∷ x) (objects w) (in_objects w valid rooted few k x live) (same_path_refl (k ∷ x))

-- ---- who serves

-- a test that no object passes, and nothing else could
no_thread : (w : World) → IsConsistent w → IsRooted w → w.next ≤ depth → (test : Option Thread → Bool) →
    test None ≡ false → find (λ c. test (and_then thread_of (w.body c))) (objects w) ≡ None → (q : Path) → test (and_then thread_of (w.body q)) ≡ false
unfolding kind_there
no_thread w valid rooted few test nothing none [] = by (w.body []) rooted.root
  where
    by : (o : Option Body) → option_map kind_of o ≡ Some kinds.Space → test (and_then thread_of o) ≡ false
    by (Some (Thread_of t)) h = cc
    by (Some (Mutex locked)) h = nothing
    by (Some Cond) h = nothing
    by (Some (Mapping m)) h = nothing
    by (Some (Region r)) h = nothing
    by (Some (Port set served)) h = nothing
    by (Some Portset) h = nothing
    by (Some (Space birth holder)) h = nothing
    by (Some (Reference to)) h = nothing
    by None h = nothing
no_thread w valid rooted few test nothing none (k ∷ x) = by (w.body (k ∷ x)) refl
  where
    by : (o : Option Body) → w.body (k ∷ x) ≡ o → test (and_then thread_of (w.body (k ∷ x))) ≡ false
    by None e = rw e nothing
    by (Some b) e = find_none (λ c. test (and_then thread_of (w.body c))) (k ∷ x) (objects w) none (in_objects w valid rooted few k x (rw e refl))

abbrev serves_by_talk : Path → Option Thread → Bool
serves_by_talk server o = holds (λ (talk : Talk). serves server talk.peer) (and_then (λ (t : Thread). t.talk) o)

abbrev serves_by_fault : Path → Option Thread → Bool
serves_by_fault server o = holds (λ (fault : Fault). holds (serves server) fault.taker) (and_then (λ (t : Thread). t.fault) o)

pub none_from : {A : Type 0} (o : Option A) → is_some o ≡ false → o ≡ None
none_from None h = refl
none_from (Some a) h = cc

pub no_client : (w : World) → IsConsistent w → IsRooted w →
    w.next ≤ depth → (server : Path) → client_of w server ≡ None → (q : Path) → holds (λ (talk : Talk). serves server talk.peer) (talk_at w q) ≡ false
unfolding client_of
no_client w valid rooted few server none q = no_thread w valid rooted few (serves_by_talk server) refl none q

pub no_faulter : (w : World) → IsConsistent w → IsRooted w → w.next ≤ depth →
    (server : Path) → faulter_of w server ≡ None → (q : Path) → holds (λ (fault : Fault). holds (serves server) fault.taker) (fault_at w q) ≡ false
unfolding faulter_of
no_faulter w valid rooted few server none q = no_thread w valid rooted few (serves_by_fault server) refl none q

-- who serves nobody
pub idle : (w : World) → IsConsistent w → IsRooted w → w.next ≤ depth → (server : Path) → is_serving w server ≡ false → (q : Path) → services w server q ≡ 0
idle w valid rooted few server h q =
    let both = or_parts (is_some (client_of w server)) (is_some (faulter_of w server)) h in
    rw (
      no_client w valid rooted few server (none_from (client_of w server) both.0) q,
      no_faulter w valid rooted few server (none_from (faulter_of w server) both.1) q,
    ) refl

abbrev served_here : Path → Option Thread → Bool
served_here port o = holds (λ (talk : Talk). leads_to port talk.port && is_service talk.peer) (and_then (λ (t : Thread). t.talk) o)

-- a served port without a client
pub no_service : (w : World) →
    IsConsistent w → IsRooted w → w.next ≤ depth → (port : Path) → client_at w port ≡ None → (q : Path) → HasService w q (At port) → ⊥
unfolding client_at
no_service w valid rooted few port none q h =
    let off = no_thread w valid rooted few (served_here port) refl none q in
    let on : holds (λ (talk : Talk). leads_to port talk.port && is_service talk.peer) (talk_at w q) ≡ true = rw (h.1, h.2, h.3, same_path_refl port) refl in
    cc

-- ---- who is found
