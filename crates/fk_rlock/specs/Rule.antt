-- The rule of the table. Word 0 counts the tickets that were drawn and word 1 those that were served, modulo 2^64. Word 2 is the front, the count of the value
-- at home.
use Rattle.std.specs.Prelude.{◌≡◌, ℕ, ◌+◌, ◌%◌, ◌^◌, ◌<◌, ◌≤◌, List, [], ◌∷◌, Bool, true, false, cond, ◌==◌, max, Option, None, Some}
use mathlib.Core.Option.{none, some}
use mathlib.Core.Option as home
use lib.ListN.{get_elem?}
use Rattle.atomic_table.specs.Table.{State}
use Rattle.fk_rlock.specs.declared.view.View.{View}

abbrev pub total : {A : Type 0} → (A → ℕ) → List A → ℕ
total f [] = 0
total f (x ∷ xs) = f x + total f xs

abbrev pub flag : Bool → ℕ
flag b = cond b 1 0

abbrev pub waits : Option ℕ → ℕ
waits None = 0
waits (Some t) = 1

abbrev pub number : Option ℕ → ℕ
number None = 0
number (Some t) = t

-- it is the ticket t
abbrev pub has : ℕ → Option ℕ → ℕ
has t None = 0
has t (Some u) = cond (u == t) 1 0

abbrev pub absent : {T : Type 0} → home.Option T → ℕ
absent none = 1
absent (some x) = 0

module _ {B : Type 0} where
  abbrev pub view_at : Option ℕ → Bool → Bool → Bool → ℕ → ℕ → Option B → View B
  view_at ticket turn knows out seen parts boot = record { ticket = ticket; turn = turn; knows = knows; out = out; seen = seen; parts = parts; boot = boot }

  abbrev pub idle : ℕ → ℕ → Option B → View B
  idle seen parts boot = view_at None false false false seen parts boot

  abbrev pub queued : ℕ → ℕ → ℕ → Option B → View B
  queued t seen parts boot = view_at (Some t) false false false seen parts boot

  abbrev pub called : ℕ → ℕ → ℕ → Option B → View B
  called t seen parts boot = view_at (Some t) true false false seen parts boot

  abbrev pub knowing : ℕ → ℕ → ℕ → Option B → View B
  knowing t seen parts boot = view_at (Some t) true true false seen parts boot

  abbrev pub holding : ℕ → ℕ → ℕ → Option B → View B
  holding t seen parts boot = view_at (Some t) true true true seen parts boot

  abbrev pub both : View B → View B → View B
  both v w = idle (max v.seen w.seen) (v.parts + w.parts) v.boot

  -- a view with parts has the boot, and has seen no more than the front. One with a ticket waits to be served, and one in its turn is served now
  pub record Fits (boot : B) (front served drawn : ℕ) (v : View B) : Type 0 where
    pub begun : 0 < v.parts → (v.boot ≡ Some boot) × (v.seen ≤ front)
    pub waiting : (t : ℕ) → v.ticket ≡ Some t → (0 < v.parts) × (served ≤ t) × (t < drawn)
    pub turn : v.turn ≡ true → v.ticket ≡ Some served
    pub knows : v.knows ≡ true → (v.turn ≡ true) × (v.seen ≡ front)
    pub out : v.out ≡ true → v.turn ≡ true

module _ {T B : Type 0} (boot_of : T → B) (count_of : T → ℕ) (boot : B) (seats : ℕ) where
  pub record Orderly (s : State T (View B)) : Type 0 where
    pub drawn : ℕ
    pub served : ℕ
    pub front : ℕ
    pub home : home.Option T
    pub few : seats ≤ 9
    pub words : s.words ≡ drawn % 2 ^ 64 ∷ served % 2 ^ 64 ∷ front ∷ []
    pub homes : s.homes ≡ home ∷ []
    pub waiting : served + total (λ v. waits v.ticket) s.views ≡ drawn
    pub apart : (t : ℕ) → total (λ v. has t v.ticket) s.views ≤ 1
    pub parts : total (λ v. v.parts) s.views ≡ seats
    pub out : total (λ v. flag v.out) s.views ≡ absent home
    pub value : (x : T) → home ≡ some x → (boot_of x ≡ boot) × (count_of x ≡ front)
    pub views : (j : ℕ) (v : View B) → get_elem? s.views j ≡ some v → Fits boot front served drawn v
