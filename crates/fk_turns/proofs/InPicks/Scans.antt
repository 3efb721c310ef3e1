-- Scans: who is ready among all objects, from one object on.
use Rattle.std.proofs.Common.{◌≡◌, ℕ, ◌+◌, ◌-◌, ◌*◌, Bool, true, false, ◌&&◌, is_none, IsTrue, IsSome, [], ◌∷◌, Option, Some, None, is_some}
use Rattle.std.proofs.Common.{option_map, refl, sym, subst}
use Rattle.std.specs.declared.cmp.Ordering.{Ordering}
use Rattle.std.specs.declared.cmp.Ordering.TheVariants.{Less, Equal, Greater}
use Rattle.std.specs.Ordering.{is_le, nat_cmp, ordering_then}
use Rattle.std.proofs.lemmas.Map.Lookups.{exact_unsigned}
use Rattle.fk_model.specs.declared.names.Who.{Who}
use Rattle.fk_model.specs.Places.{Path}
use Rattle.fk_model.specs.Objects.{Thread, Body, kind_of, thread_of, and_then}
use Rattle.fk_model.specs.World.{World}
use Rattle.fk_model.specs.Searches.{thread_at}
use Rattle.fk_model.specs.Valid.{kind_there}
use Rattle.fk_store.specs.Store.Contents.{Contents}
use Rattle.fk_store.specs.Store.Names.{who_cmp, rank}
use Rattle.fk_store.specs.Store.Orders.{IsFirstAfter}
use Rattle.fk_store.specs.Store.World.{world, place_of, IsLive}
use Rattle.fk_calls.proofs.InCalls.Choices.{nobody_picked}
use Rattle.fk_model.specs.Moves.{outcome, GoesAllowed}
use Rattle.fk_model.specs.NativeRows.{accept_row, accepts_found, is_serving_port}
use Rattle.fk_model.specs.Outcomes.{when}
use Rattle.fk_model.specs.Searches.{client_at}
use Rattle.fk_turns.specs.Picks.Stands.{IsPicked}
use Rattle.fk_turns.specs.declared.picks.moves.Picker.{Picker}
use Rattle.fk_turns.specs.declared.picks.moves.Picker.TheVariants.{User, Server}

-- ---- who is yet to come

-- each object of which a fact holds comes at this one or after it
abbrev pub IsAhead : Contents → (Who → Type 0) → Option Who → Type 0
IsAhead m P None = (other : Who) → IsLive m other → P other → ⊥
IsAhead m P (Some who) = (other : Who) → IsLive m other → P other → IsTrue (is_le (who_cmp who other))

who_same : (a b : Who) → who_cmp a b ≡ Equal → a ≡ b
who_same a b = by (nat_cmp a.space b.space) refl
  where
    by : (r : Ordering) → nat_cmp a.space b.space ≡ r → ordering_then r (nat_cmp a.slot b.slot) ≡ Equal → a ≡ b
    by Less e is = absurd (cc)
    by Greater e is = absurd (cc)
    by Equal e is = let spaces = exact_unsigned a.space b.space e in
        let slots = exact_unsigned a.slot b.slot is in λ i. record { space = spaces i; slot = slots i }

-- past one of which it doesn't hold
none_ahead : (m : Contents) (P : Who → Type 0) (who : Who) → IsAhead m P (Some who) → (P who → ⊥) →
    IsFirstAfter who_cmp (IsLive m) (Some who) None → (other : Who) → IsLive m other → P other → ⊥
none_ahead m P who ahead here first other live is = by (who_cmp who other) refl (ahead other live is)
  where
    by : (r : Ordering) → who_cmp who other ≡ r → IsTrue (is_le r) → ⊥
    by Less e le = first other live (rw e refl)
    by Equal e le = here (subst P (sym (who_same who other e)) is)
    by Greater e le = absurd (cc)

some_ahead : (m : Contents) (P : Who → Type 0) (who at : Who) → IsAhead m P (Some who) → (P who → ⊥) →
    IsFirstAfter who_cmp (IsLive m) (Some who) (Some at) → (other : Who) → IsLive m other → P other → IsTrue (is_le (who_cmp at other))
some_ahead m P who at ahead here first other live is = by (who_cmp who other) refl (ahead other live is)
  where
    by : (r : Ordering) → who_cmp who other ≡ r → IsTrue (is_le r) → IsTrue (is_le (who_cmp at other))
    by Less e le = first.2 other live (rw e refl)
    by Equal e le = absurd (here (subst P (sym (who_same who other e)) is))
    by Greater e le = absurd (cc)

pub ahead_next : (m : Contents) (P : Who → Type 0) (who : Who) (next : Option Who) →
    IsAhead m P (Some who) → (P who → ⊥) → IsFirstAfter who_cmp (IsLive m) (Some who) next → IsAhead m P next
ahead_next m P who None ahead here first = none_ahead m P who ahead here first
ahead_next m P who (Some at) ahead here first = some_ahead m P who at ahead here first

-- how many names are left to look at
abbrev pub left_from : Contents → Option Who → ℕ
left_from m None = 0
left_from m (Some who) = 1 + ((world m).next * 256 - rank (Some who))

-- ---- who is picked is an object with a name

pub thread_there : (w : World) (x : Path) (t : Thread) → thread_at w x ≡ Some t → IsSome (kind_there w x)
unfolding kind_there
thread_there w x t is = by (w.body x) is
  where
    by : (b : Option Body) → and_then thread_of b ≡ Some t → is_some (option_map kind_of b) ≡ true
    by None is = absurd (cc)
    by (Some b) is = refl

pub rootless : (m : Contents) → thread_at (world m) [] ≡ None
unfolding world
rootless m = refl

-- what is no thread is picked by nobody
pub nobody : (m : Contents) (me : Picker) (q : Path) → thread_at (world m) q ≡ None → IsPicked m me q → ⊥
unfolding outcome accept_row
nobody m (User who) q none picked = rw (nobody_picked (world m) q none (place_of m who)) at picked
nobody m (Server port) q none picked = by (is_serving_port (world m) (place_of m port) && is_none (client_at (world m) (place_of m port))) (rw none at picked)
  where
    by : (b : Bool) → GoesAllowed (world m) (place_of m port) (when b (accepts_found (world m) (place_of m port) q None)) → ⊥
    by true ready = ready
    by false ready = ready

-- a name for each object
abbrev pub AreNamed : Contents → Type 0
AreNamed m = (k : ℕ) (s : Path) → IsSome (kind_there (world m) (k ∷ s)) → (other : Who) × (place_of m other ≡ k ∷ s)

pub record IsNamed (m : Contents) (q : Path) : Type 0 where
  pub who : Who
  pub at : place_of m who ≡ q
  pub live : IsLive m who

pub picked_named : (m : Contents) (me : Picker) (q : Path) → AreNamed m → IsPicked m me q → IsNamed m q
picked_named m me [] named picked = absurd (nobody m me [] (rootless m) picked)
picked_named m me (k ∷ s) named picked = by (thread_at (world m) (k ∷ s)) refl
  where
    by : (o : Option Thread) → thread_at (world m) (k ∷ s) ≡ o → IsNamed m (k ∷ s)
    by None e = absurd (nobody m me (k ∷ s) e picked)
    by (Some t) e =
        let some = thread_there (world m) (k ∷ s) t e in
        let other = named k s some in
        record { who = other.0; at = other.1; live = rw (other.1) some }

-- so nobody else is picked
pub nobody_to_pick : (m : Contents) (me : Picker) → AreNamed m → IsAhead m (λ other. IsPicked m me (place_of m other)) None → (q : Path) → IsPicked m me q → ⊥
nobody_to_pick m me named none q picked =
    let who = picked_named m me q named picked in none who.who who.live (rw who.at picked)
