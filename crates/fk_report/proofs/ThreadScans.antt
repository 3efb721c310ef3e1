-- Thread scans: which user threads are found among all objects, up to one object.
use Rattle.std.proofs.Common.{◌≡◌, ◌⊎◌, ◌↔◌, ℕ, false, ◌+◌, ◌-◌, ◌*◌, ◌^◌, true, IsTrue, IsSome, List, [], ◌∷◌, Contains, Option, Some, None, is_some, option_map, refl, sym, ap, subst, ◌∙◌, inl, inr}
use Rattle.std.proofs.lemmas.Map.Lookups.{exact_unsigned}
use Rattle.std.specs.declared.cmp.Ordering.{Ordering}
use Rattle.std.specs.declared.cmp.Ordering.TheVariants.{Less, Equal, Greater}
use Rattle.std.specs.Ordering.{is_le, nat_cmp, ordering_then}
use Rattle.fk_model.specs.declared.names.Who.{Who}
use Rattle.fk_model.specs.declared.thread.Mode.{Mode as CodeMode}
use Rattle.fk_model.specs.declared.thread.Mode.TheVariants as modes
use Rattle.fk_model.specs.declared.thread.Thread.{Thread as CodeThread}
use Rattle.fk_model.specs.Searches.{thread_at}
use Rattle.fk_model.specs.Places.{Path}
use Rattle.fk_model.specs.Objects.{Mode, Thread, Body, kind_of, thread_of, and_then}
use Rattle.fk_model.specs.Objects.Mode.{Running, Calling, Halted, Native}
use Rattle.fk_model.specs.World.{World}
use Rattle.fk_model.specs.Valid.{kind_there}
use Rattle.fk_store.specs.Store.Bodies.{mode_by, thread_by}
use Rattle.fk_store.specs.Store.Contents.{Contents}
use Rattle.fk_store_graph.specs.Leads.Names.{who_cmp}
use Rattle.fk_store_graph.specs.Bodies.Orders.{IsFirstAfter}
use Rattle.fk_store.specs.Store.World.{world, place_of, IsLive}
use Rattle.fk_report.specs.declared.threads.ThreadState.{ThreadState}
use Rattle.fk_report.specs.Threads.{state_in, state_at, is_halted, is_over, HasHalted, HaveHalted}

-- ---- the state at a path

state-path_in : (x : Path) (m : Mode) (t : ThreadState) → state_in x m ≡ Some t → t.path ≡ x
state-path_in x (Running g) t is = cc
state-path_in x (Calling todo rest) t is = cc
state-path_in x (Halted g code) t is = cc
state-path_in x (Native g) t is = absurd (cc)

pub state-path : (w : World) (x : Path) (t : ThreadState) → state_at w x ≡ Some t → t.path ≡ x
state-path w x t = by (and_then thread_of (w.body x))
  where
    by : (o : Option Thread) → and_then (λ (t : Thread). state_in x t.mode) o ≡ Some t → t.path ≡ x
    by None is = absurd (cc)
    by (Some thread) is = state-path_in x thread.mode t is

pub state-itself : (w : World) (x : Path) (t : ThreadState) → state_at w x ≡ Some t → state_at w t.path ≡ Some t
state-itself w x t is = subst (λ y. state_at w y ≡ Some t) (sym (state-path w x t is)) is

pub state-there : (w : World) (x : Path) (t : ThreadState) → state_at w x ≡ Some t → IsSome (kind_there w x)
unfolding kind_there
state-there w x t is = by (w.body x) is
  where
    by : (b : Option Body) → and_then (λ (t : Thread). state_in x t.mode) (and_then thread_of b) ≡ Some t → is_some (option_map kind_of b) ≡ true
    by None is = absurd (cc)
    by (Some b) is = refl

rootless : (m : Contents) → state_at (world m) [] ≡ None
unfolding world
rootless m = refl

-- ---- a scan

-- one comes at this object or after it
abbrev pub IsFrom : Option Who → Who → Type 0
IsFrom None other = ⊥
IsFrom (Some who) other = IsTrue (is_le (who_cmp who other))

-- each user thread is found, or is yet to come
abbrev pub AreFound : Contents → Option Who → List ThreadState → Type 0
AreFound m at found = (other : Who) (t : ThreadState) → state_at (world m) (place_of m other) ≡ Some t → Contains found t ⊎ IsFrom at other

-- how many names are left to look at
abbrev pub left_from : Option Who → ℕ
left_from None = 0
left_from (Some who) = 2 ^ 40 - (who.space * 256 + who.slot)

pub found-first : (m : Contents) (at : Option Who) → IsFirstAfter who_cmp (IsLive m) None at → AreFound m at []
found-first m None first other t is = absurd (first other (state-there (world m) _ t is) refl)
found-first m (Some next) first other t is = inr (first.2 other (state-there (world m) _ t is) refl)

who_same : (a b : Who) → who_cmp a b ≡ Equal → a ≡ b
who_same a b = by (nat_cmp a.space b.space) refl
  where
    by : (r : Ordering) → nat_cmp a.space b.space ≡ r → ordering_then r (nat_cmp a.slot b.slot) ≡ Equal → a ≡ b
    by Less e is = absurd (cc)
    by Greater e is = absurd (cc)
    by Equal e is = let spaces = exact_unsigned a.space b.space e in
        let slots = exact_unsigned a.slot b.slot is in λ i. record { space = spaces i; slot = slots i }

module _ (m : Contents) (who : Who) (next : Option Who) (old new : List ThreadState) where
  pub found-more : AreFound m (Some who) old
      → ((t : ThreadState) → state_at (world m) t.path ≡ Some t → Contains old t → Contains new t)
      → ((t : ThreadState) → state_at (world m) (place_of m who) ≡ Some t → Contains new t)
      → IsFirstAfter who_cmp (IsLive m) (Some who) next → AreFound m next new
  found-more found kept here first other t is = by (found other t is)
    where
      later : (at : Option Who) → IsFirstAfter who_cmp (IsLive m) (Some who) at → who_cmp who other ≡ Less → IsFrom at other
      later None first less = first other (state-there (world m) _ t is) (rw less refl)
      later (Some at) first less = first.2 other (state-there (world m) _ t is) (rw less refl)

      after : (r : Ordering) → who_cmp who other ≡ r → IsTrue (is_le r) → Contains new t ⊎ IsFrom next other
      after Less e le = inr (later next first e)
      after Equal e le = inl (here t (subst (λ q. state_at (world m) (place_of m q) ≡ Some t) (sym (who_same who other e)) is))
      after Greater e le = absurd (cc)

      by : Contains old t ⊎ IsTrue (is_le (who_cmp who other)) → Contains new t ⊎ IsFrom next other
      by (inl there) = inl (kept t (state-itself (world m) _ t is) there)
      by (inr from) = after (who_cmp who other) refl from

pub found-all : (m : Contents) (found : List ThreadState) →
    ((k : ℕ) (s : Path) → IsSome (kind_there (world m) (k ∷ s)) → (other : Who) × (place_of m other ≡ k ∷ s)) →
    AreFound m None found → (x : Path) (t : ThreadState) → state_at (world m) x ≡ Some t → Contains found t
found-all m found named all [] t is = let none = rootless m in absurd (cc)
found-all m found named all (k ∷ s) t is = by (named k s (state-there (world m) (k ∷ s) t is))
  where
    by : (other : Who) × (place_of m other ≡ k ∷ s) → Contains found t
    by (other, place) = all_at (all other t (subst (λ y. state_at (world m) y ≡ Some t) (sym place) is))
      where
        all_at : Contains found t ⊎ ⊥ → Contains found t
        all_at (inl there) = there
        all_at (inr never) = absurd never

-- ---- a scan for one that hasn't halted

-- whether a thread that stands there has halted is told by its mode
module _ (w : World) (x : Path) (p : ℕ → Path) (thread : CodeThread) (there : thread_at w x ≡ Some (thread_by p thread)) where
  state_there : (mode : CodeMode) → thread.mode ≡ mode → state_at w x ≡ state_in x (mode_by mode thread.regs)
  state_there mode is = ap (and_then (λ (t : Thread). state_in x t.mode)) there ∙ ap (λ m. state_in x (mode_by m thread.regs)) is

  no-halt : (mode : CodeMode) → state_at w x ≡ Some (record { path = x; mode = mode }) → is_halted mode ≡ false → HasHalted w x → ⊥
  no-halt mode is not all = let yes = all (record { path = x; mode = mode }) is in let no : true ≡ false = sym yes ∙ not in absurd (cc)

  pub over-thread : IsTrue (is_over thread.mode) ↔ HasHalted w x
  over-thread = by thread.mode refl
    where
      by : (mode : CodeMode) → thread.mode ≡ mode → IsTrue (is_over mode) ↔ HasHalted w x
      by modes.Running is = (λ yes. absurd (cc), λ all. absurd (no-halt modes.Running (state_there modes.Running is) refl all))
      by modes.Calling is = (λ yes. absurd (cc), λ all. absurd (no-halt modes.Calling (state_there modes.Calling is) refl all))
      by (modes.Halted code) is = (λ yes. halted, λ all. refl)
        where
          halted : HasHalted w x
          halted t at =
              let same : Some (record { path = x; mode = modes.Halted code }) ≡ Some t = sym (state_there (modes.Halted code) is) ∙ at in
              let one : record { path = x; mode = modes.Halted code } ≡ t = cc in
              subst (λ (t : ThreadState). is_halted t.mode ≡ true) one refl
      by modes.Native is = (λ yes. none, λ all. refl)
        where
          none : HasHalted w x
          none t at = let no : None ≡ Some t = sym (state_there modes.Native is) ∙ at in absurd (cc)

pub over-nobody : (w : World) (x : Path) → thread_at w x ≡ None → IsTrue true ↔ HasHalted w x
over-nobody w x nobody = (λ yes. none, λ all. refl)
  where
    none : HasHalted w x
    none t at = let no : None ≡ Some t = sym (ap (and_then (λ (t : Thread). state_in x t.mode)) nobody) ∙ at in absurd (cc)

-- each user thread has halted, or is yet to come
abbrev pub AreOver : Contents → Option Who → Type 0
AreOver m at = (other : Who) → HasHalted (world m) (place_of m other) ⊎ IsFrom at other

-- there is none, or one stands there
over-or-there : (w : World) (x : Path) → HasHalted w x ⊎ IsSome (kind_there w x)
over-or-there w x = by (state_at w x) refl
  where
    by : (o : Option ThreadState) → state_at w x ≡ o → HasHalted w x ⊎ IsSome (kind_there w x)
    by None e = inl (λ t is. let no : None ≡ Some t = sym e ∙ is in absurd (cc))
    by (Some t) e = inr (state-there w x t e)

pub over-first : (m : Contents) (at : Option Who) → IsFirstAfter who_cmp (IsLive m) None at → AreOver m at
over-first m at first other = by at first (over-or-there (world m) (place_of m other))
  where
    by : (at : Option Who) → IsFirstAfter who_cmp (IsLive m) None at → HasHalted (world m) (place_of m other) ⊎ IsLive m other →
        HasHalted (world m) (place_of m other) ⊎ IsFrom at other
    by at first (inl over) = inl over
    by None first (inr there) = absurd (first other there refl)
    by (Some next) first (inr there) = inr (first.2 other there refl)

pub over-more : (m : Contents) (who : Who) (next : Option Who) → AreOver m (Some who) → HasHalted (world m) (place_of m who) →
    IsFirstAfter who_cmp (IsLive m) (Some who) next → AreOver m next
over-more m who next over here first other = by (over other) (over-or-there (world m) (place_of m other))
  where
    later : (at : Option Who) → IsFirstAfter who_cmp (IsLive m) (Some who) at → IsLive m other → who_cmp who other ≡ Less → IsFrom at other
    later None first there less = first other there (rw less refl)
    later (Some at) first there less = first.2 other there (rw less refl)

    after : (r : Ordering) → who_cmp who other ≡ r → IsTrue (is_le r) → IsLive m other → HasHalted (world m) (place_of m other) ⊎ IsFrom next other
    after Less e le there = inr (later next first there e)
    after Equal e le there = inl (subst (λ q. HasHalted (world m) (place_of m q)) (who_same who other e) here)
    after Greater e le there = absurd (cc)

    by : HasHalted (world m) (place_of m other) ⊎ IsTrue (is_le (who_cmp who other)) → HasHalted (world m) (place_of m other) ⊎ IsLive m other →
        HasHalted (world m) (place_of m other) ⊎ IsFrom next other
    by (inl done) there = inl done
    by (inr from) (inl done) = inl done
    by (inr from) (inr there) = after (who_cmp who other) refl from there

pub over-all : (m : Contents) → ((k : ℕ) (s : Path) → IsSome (kind_there (world m) (k ∷ s)) → (other : Who) × (place_of m other ≡ k ∷ s)) →
    AreOver m None → HaveHalted (world m)
over-all m named over [] t is = let none = rootless m in absurd (cc)
over-all m named over (k ∷ s) t is = by (named k s (state-there (world m) (k ∷ s) t is))
  where
    by : (other : Who) × (place_of m other ≡ k ∷ s) → is_halted t.mode ≡ true
    by (other, place) = done (over other)
      where
        done : HasHalted (world m) (place_of m other) ⊎ ⊥ → is_halted t.mode ≡ true
        done (inl halted) = halted t (subst (λ y. state_at (world m) y ≡ Some t) (sym place) is)
        done (inr never) = absurd never
