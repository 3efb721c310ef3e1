-- What the calls of a checkpoint's parts have come to, against what they have found: a relation that each call keeps.
use Rattle.std.proofs.Common.{◌≡◌, ℕ, suc, ◌+◌, ◌*◌, ◌≤◌, Bool, true, false, cond, ◌&&◌, ◌==◌, nat_le, nat_lt, List, [], ◌∷◌, ◌++◌, length, Some, None, ap}
use Rattle.std.proofs.Common.{arith}
use Rattle.fk_model.specs.declared.limits.TheConstants.{OWN_SPACE, SLOTS}
use Rattle.fk_model.specs.declared.names.Kind.TheVariants as kinds
use Rattle.fk_model.specs.declared.stage.Stage.{Stage}
use Rattle.fk_model.specs.declared.statuses.status.TheConstants.{OK}
use Rattle.fk_model.specs.Objects.{number_of_kind}
use Rattle.fk_model.specs.Places.{Path, Ptr}
use Rattle.fk_model.specs.Places.Ptr.{Null, Dead, At, Far}
use Rattle.laws_jobs.specs.Machines.Head.{Asks}
use Rattle.laws_checkpoint.specs.Foreign.{Task, told_pointer}
use Rattle.laws_checkpoint.specs.Walk as walks
use Rattle.laws_checkpoint.specs.Walk.{Met}
use Rattle.laws_checkpoint.specs.Walk.State.{Down as w_Down, Searches as w_Searches, Over as w_Over}
use Rattle.laws_checkpoint.specs.Gather as gathers
use Rattle.laws_checkpoint.specs.Gather.State.{Down as g_Down, Fields as g_Fields, Looks as g_Looks, Leads as g_Leads, Beside as g_Beside, Over as g_Over}
use Rattle.laws_checkpoint.proofs.SeekBounds.{way-long}

-- so much for each of a list
abbrev pub weigh : {A : Type 0} → ℕ → List A → ℕ
weigh m [] = 0
weigh m (x ∷ xs) = m + weigh m xs

pub weigh-last : {A : Type 0} (m : ℕ) (xs : List A) (x : A) → weigh m (xs ++ x ∷ []) ≡ weigh m xs + m
weigh-last m [] x = omega arith
weigh-last m (y ∷ xs) x = let rest = weigh-last m xs x in omega (arith, rest)

pub weigh-more : {A : Type 0} (m : ℕ) (xs ys : List A) → weigh m xs ≤ weigh m (xs ++ ys)
weigh-more m [] ys = omega arith
weigh-more m (x ∷ xs) ys = let rest = weigh-more m xs ys in omega (arith, rest)

abbrev pub walks_got : walks.State → List Met
walks_got (w_Down from ways q k got) = got
walks_got (w_Searches q k got) = got
walks_got (w_Over got) = got

-- ---- a walker: each object pays for its own search, and a space for its last search and the way back

module _ (slot d base : ℕ) where
  abbrev pub Walked : ℕ → walks.State → Type 0
  Walked n (w_Down from ways q k got) = n + length ways + weigh (d + 3) q ≤ base + weigh (d + 6) got
  Walked n (w_Searches q k got) = n + weigh (d + 3) q ≤ base + weigh (d + 6) got
  Walked n (w_Over got) = n ≤ base + weigh (d + 6) got + 1

  abbrev pub walk_place : walks.State → Path
  walk_place (w_Down from ways q k got) = q
  walk_place (w_Searches q k got) = q
  walk_place (w_Over got) = []

  left_it : (n : ℕ) (q : Path) (got : List Met) → length q ≤ d → n + weigh (d + 3) q ≤ base + weigh (d + 6) got → Walked (n + 1) (walks.leaves slot q got)
  left_it n [] got deep few = omega (arith, few)
  left_it n (j ∷ []) got deep few = omega (arith, few)
  left_it n (j ∷ i ∷ q) got deep few = let long = way-long (i ∷ q) [] in omega (arith, few, deep, long)

  entered : (n : ℕ) (q : Path) (j : ℕ) (got : List Met) (x : Met) → n + weigh (d + 3) q ≤ base + weigh (d + 6) got
      → Walked (n + 1) (walks.enters slot q j (got ++ x ∷ []))
  entered n [] j got x few = let more = weigh-last (d + 6) got x in omega (arith, few, more)
  entered n (i ∷ q) j got x few = let more = weigh-last (d + 6) got x in omega (arith, few, more)

  pub walked_on : (n : ℕ) (s : walks.State) (stage : Stage) (words answer : List ℕ) (status : ℕ) → walks.head slot s ≡ Asks stage words
      → length (walk_place s) ≤ d →
      Walked n s → Walked (n + 1) (walks.next slot s status answer)
  walked_on n (w_Down from [] q k got) stage words answer status asks deep few = cc
  walked_on n (w_Down from (way ∷ ways) q k got) stage words answer status asks deep few = by ways few
    where
      by : (ways : List ℕ) → n + suc (length ways) + weigh (d + 3) q ≤ base + weigh (d + 6) got → Walked (n + 1) (walks.arrive ways q k got)
      by [] few = omega (arith, few)
      by (j ∷ ways) few = omega (arith, few)
  walked_on n (w_Searches q k got) stage words answer status asks deep few = by answer
    where
      met : ℕ → ℕ → Met
      met j kind = record { path = j ∷ q; kind = kind }

      goes : (j kind : ℕ) (space : Bool) → Walked (n + 1)
          (cond space (walks.enters slot q j (got ++ met j kind ∷ [])) (w_Searches q (j + 1) (got ++ met j kind ∷ [])))
      goes j kind true = entered n q j got (met j kind) few
      goes j kind false = let more = weigh-last (d + 6) got (met j kind) in omega (arith, few, more)

      found : (j kind : ℕ) (is : Bool) → Walked (n + 1) (cond is (walks.goes_on slot q j kind (got ++ met j kind ∷ [])) (walks.leaves slot q got))
      found j kind true = goes j kind (kind == number_of_kind kinds.Space)
      found j kind false = left_it n q got deep few

      by : (answer : List ℕ) → Walked (n + 1) (walks.found slot q k got status answer)
      by [] = left_it n q got deep few
      by (j ∷ []) = left_it n q got deep few
      by (j ∷ kind ∷ rest) = found j kind (status == OK && (nat_le k j && nat_lt j SLOTS))
  walked_on n (w_Over got) stage words answer status asks deep few = cc

  pub walked_most : (n : ℕ) (s : walks.State) → Walked n s → (rest total : List Met) → (walks_got s) ++ rest ≡ total → n ≤ base + weigh (d + 6) total + 1
  walked_most n s few rest total e = by s few e
    where
      within : (got : List Met) → got ++ rest ≡ total → weigh (d + 6) got ≤ weigh (d + 6) total
      within got e = let more = weigh-more (d + 6) got rest in let is = ap (weigh (d + 6)) e in omega (arith, more, is)

      by : (s : walks.State) → Walked n s → walks_got s ++ rest ≡ total → n ≤ base + weigh (d + 6) total + 1
      by (w_Down from ways q k got) few e = let more = within got e in omega (arith, few, more)
      by (w_Searches q k got) few e = let more = within got e in omega (arith, few, more)
      by (w_Over got) few e = let more = within got e in omega (arith, few, more)

-- ---- a gatherer: each field pays for its reading and for a descent to the bottom

module _ (slot d most : ℕ) where
  abbrev pub field : ℕ
  field = 2 * d + 3

  abbrev pub gather_costs : List Task → ℕ
  gather_costs [] = 0
  gather_costs (t ∷ ts) = length t.path + weigh field t.fields + gather_costs ts

  abbrev pub Gathered : ℕ → gathers.State → Type 0
  Gathered n (g_Down from ways t ts got) = n + length ways + weigh field t.fields + gather_costs ts ≤ most
  Gathered n (g_Fields m fs t ts got) = n + field + weigh field fs + gather_costs ts ≤ most
  Gathered n (g_Looks at m fs t ts got) = n + weigh field fs + (2 * d + 2) + gather_costs ts ≤ most + 2 * length at
  Gathered n (g_Leads k at m fs t ts got) = n + weigh field fs + (2 * d + 1) + gather_costs ts ≤ most + 2 * length at
  Gathered n (g_Beside m fs t ts got) = n + weigh field fs + 1 + gather_costs ts ≤ most
  Gathered n (g_Over got) = n ≤ most

  -- how far down it has come
  abbrev pub gather_depth : gathers.State → ℕ
  gather_depth (g_Down from ways t ts got) = 0
  gather_depth (g_Fields m fs t ts got) = 0
  gather_depth (g_Looks at m fs t ts got) = length at
  gather_depth (g_Leads k at m fs t ts got) = length at
  gather_depth (g_Beside m fs t ts got) = 0
  gather_depth (g_Over got) = 0

  begun_at : (n : ℕ) (q : Path) (fs : List ℕ) (t : Task) (ts : List Task) (got : List Ptr) (rest : gathers.State)
      → n + length q + weigh field t.fields + gather_costs ts ≤ most →
      Gathered n rest → Gathered n (gathers.begin_at slot q fs t ts got rest)
  begun_at n [] fs t ts got rest few later = later
  begun_at n (k ∷ q) [] t ts got rest few later = later
  begun_at n (k ∷ q) (f ∷ fs) t ts got rest few later = let long = way-long q [] in omega (arith, few, long)

  pub gather_begun : (n : ℕ) (ts : List Task) (got : List Ptr) → n + gather_costs ts ≤ most → Gathered n (gathers.begin slot ts got)
  gather_begun n [] got few = omega (arith, few)
  gather_begun n (t ∷ ts) got few = begun_at n t.path t.fields t ts got (gathers.begin slot ts got) (omega (arith, few))
      (gather_begun n ts got (omega (arith, few)))

  went_on : (n : ℕ) (fs : List ℕ) (t : Task) (ts : List Task) (got : List Ptr) → n + weigh field fs + gather_costs ts ≤ most
      → Gathered n (gathers.go_on slot fs t ts got)
  went_on n [] t ts got few = gather_begun n ts got (omega (arith, few))
  went_on n (f ∷ fs) t ts got few = omega (arith, few)

  pub gathered_on : (n : ℕ) (s : gathers.State) (stage : Stage) (words answer : List ℕ) (status : ℕ) → gathers.head slot s ≡ Asks stage words
      → gather_depth s ≤ d →
      Gathered n s → Gathered (n + 1) (gathers.next slot s status answer)
  gathered_on n (g_Down from [] t ts got) stage words answer status asks deep few = cc
  gathered_on n (g_Down from (k ∷ ways) t ts got) stage words answer status asks deep few = by ways few
    where
      by : (ways : List ℕ) → n + suc (length ways) + weigh field t.fields + gather_costs ts ≤ most → Gathered (n + 1) (gathers.arrive slot ways t ts got)
      by [] few = went_on (n + 1) t.fields t ts got (omega (arith, few))
      by (j ∷ ways) few = omega (arith, few)
  gathered_on n (g_Fields m fs t ts got) stage words answer status asks deep few = by answer
    where
      taken : (p : Ptr) → Gathered (n + 1) (gathers.takes slot p fs t ts got)
      taken p = went_on (n + 1) fs t ts (got ++ p ∷ []) (omega (arith, few))

      three : (b : Bool) → Gathered (n + 1) (cond b (g_Looks [] m fs t ts got) (gathers.takes slot Far fs t ts got))
      three true = omega (arith, few)
      three false = taken Far

      two : (a b : Bool) → Gathered (n + 1) (cond a (gathers.takes slot Dead fs t ts got)
          (cond b (g_Looks [] m fs t ts got) (gathers.takes slot Far fs t ts got)))
      two true b = taken Dead
      two false b = three b

      one : (a b c : Bool) → Gathered (n + 1) (cond a (gathers.takes slot Null fs t ts got)
          (cond b (gathers.takes slot Dead fs t ts got) (cond c (g_Looks [] m fs t ts got) (gathers.takes slot Far fs t ts got))))
      one true b c = taken Null
      one false b c = two b c

      by : (answer : List ℕ) → Gathered (n + 1) (gathers.read slot m fs t ts got answer)
      by [] = omega (arith, few)
      by (k ∷ ks) = one (k == 0) (k == 1) (k == 2)
  gathered_on n (g_Looks at m fs t ts got) stage words answer status asks deep few = by (status == OK)
    where
      taken : (p : Ptr) → Gathered (n + 1) (gathers.takes slot p fs t ts got)
      taken p = went_on (n + 1) fs t ts (got ++ p ∷ []) (omega (arith, few, deep))

      own : (k : ℕ) (b : Bool) → Gathered (n + 1) (cond b (gathers.takes slot (At at) fs t ts got) (gathers.takes slot (At (k ∷ at)) fs t ts got))
      own k true = taken (At at)
      own k false = taken (At (k ∷ at))

      near : (k : ℕ) (a b : Bool) → Gathered (n + 1)
          (cond a (cond b (gathers.takes slot (At at) fs t ts got) (gathers.takes slot (At (k ∷ at)) fs t ts got)) (g_Leads k at m fs t ts got))
      near k true b = own k b
      near k false b = omega (arith, few)

      told : (answer : List ℕ) → Gathered (n + 1) (gathers.looked slot at m fs t ts got answer)
      told [] = omega (arith, few, deep)
      told (k ∷ []) = omega (arith, few, deep)
      told (k ∷ far ∷ rest) = near k (far == 0) (k == OWN_SPACE)

      by : (b : Bool) → Gathered (n + 1) (cond b (gathers.looked slot at m fs t ts got answer) (g_Beside m fs t ts got))
      by true = told answer
      by false = omega (arith, few, deep)
  gathered_on n (g_Leads k at m fs t ts got) stage words answer status asks deep few = omega (arith, few)
  gathered_on n (g_Beside m fs t ts got) stage words answer status asks deep few =
      went_on (n + 1) fs t ts (got ++ told_pointer None (cond (status == OK) (Some answer) None) ∷ []) (omega (arith, few))
  gathered_on n (g_Over got) stage words answer status asks deep few = cc

  pub gathered_most : (n : ℕ) (s : gathers.State) → gather_depth s ≤ d → Gathered n s → n ≤ most
  gathered_most n (g_Down from ways t ts got) deep few = omega (arith, few)
  gathered_most n (g_Fields m fs t ts got) deep few = omega (arith, few)
  gathered_most n (g_Looks at m fs t ts got) deep few = omega (arith, few, deep)
  gathered_most n (g_Leads k at m fs t ts got) deep few = omega (arith, few, deep)
  gathered_most n (g_Beside m fs t ts got) deep few = omega (arith, few)
  gathered_most n (g_Over got) deep few = omega (arith, few)
