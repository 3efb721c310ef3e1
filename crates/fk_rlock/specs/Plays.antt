-- What each step tells: of the step, the seat before, the number found and the seat after.
use Rattle.std.specs.Prelude.{◌≡◌, ◌≢◌, ℕ, ◌%◌, ◌^◌, ◌≤◌, [], ◌∷◌, true, false, Some}
use Rattle.atomic_table.specs.Table.{Me, Step, rest}
use Rattle.fk_rlock.specs.declared.view.View.{View}
use Rattle.fk_rlock.specs.Rule.{number, view_at, idle, queued, holding}

abbrev pub Play : Type 0 → Type 0 → Type 1
Play T B = Step T → Me T (View B) → ℕ → Me T (View B) → Type 0

module _ {T B : Type 0} where
  abbrev pub drew : Play T B
  drew st m r n = (t : ℕ) × (t % 2 ^ 64 ≡ r) × (n ≡ (queued t m.0.seen m.0.parts m.0.boot, m.1))

  abbrev pub looked : Play T B
  looked st m r n = (r ≡ number m.0.ticket % 2 ^ 64 → n ≡ (view_at m.0.ticket true false false m.0.seen m.0.parts m.0.boot, m.1))
      × (r ≢ number m.0.ticket % 2 ^ 64 → n ≡ m)

  abbrev pub learned : Play T B
  learned st m r n = (m.0.seen ≤ r) × (n ≡ (view_at m.0.ticket true true false r m.0.parts m.0.boot, m.1))

  abbrev pub took : (T → B) → (T → ℕ) → Play T B
  took boot_of count_of st m r n = (x : T) × (m.0.boot ≡ Some (boot_of x)) × (count_of x ≡ m.0.seen)
      × (n ≡ (view_at m.0.ticket true true true m.0.seen m.0.parts m.0.boot, (0, x) ∷ m.1))

  abbrev pub raised : Play T B
  raised st m r n = n ≡ (view_at m.0.ticket true true true st.first m.0.parts m.0.boot, m.1)

  abbrev pub gave : Play T B
  gave st m r n = n ≡ (view_at m.0.ticket true true false m.0.seen m.0.parts m.0.boot, rest m.1)

  abbrev pub passed : Play T B
  passed st m r n = n ≡ (idle m.0.seen m.0.parts m.0.boot, m.1)

  -- a seat with the view v has come in, and has the value out
  abbrev pub Entered : (T → B) → (T → ℕ) → View B → Me T (View B) → Type 0
  Entered boot_of count_of v n = (t : ℕ) × (x : T) × (v.boot ≡ Some (boot_of x)) × (v.seen ≤ count_of x)
      × (n ≡ (holding t (count_of x) v.parts v.boot, (0, x) ∷ []))
