-- To make the table, to cut a pass in two, to join two passes and to close keep the rule.
use Rattle.std.proofs.Common.{◌≡◌, ℕ, zero, suc, ◌+◌, ◌-◌, ◌<◌, ◌≤◌, List, [], ◌∷◌, ◌++◌, set, max, sym, refl, ap, ◌∙◌, subst, ⊎_elim, arith, Bool, true, false, Option, Some, None}
use mathlib.Core.Logic.{dite}
use mathlib.Core.Option.{some, none, some-injective, some-ne-none}
use mathlib.Core.Option as home
use native.Mathlib.Decide.{ℕ_discrete}
use lib.ListN.{get_elem?}
use Rattle.atomic_table.specs.Table.{State, Splits, Joins, opening, Final, Seen}
use Rattle.atomic_table.proofs.Lists.{at_set, at_snoc}
use Rattle.fk_rlock.specs.declared.view.View.{View}
use Rattle.fk_rlock.specs.Rule.{total, flag, waits, has, absent, idle, both, Fits, Orderly}
use Rattle.fk_rlock.proofs.Totals.{total-append, total-set, terms_le, total-none}
use Rattle.fk_rlock.proofs.Keeps.{never, none_some}

module _ {T B : Type 0} (boot_of : T → B) (count_of : T → ℕ) (boot : B) (seats : ℕ) where
  abbrev Kept : State T (View B) → Type 0
  Kept = Orderly boot_of count_of boot seats

  -- with no ticket a view fits by its boot and what it has seen
  idles : (front served drawn seen parts : ℕ) (b : Option B) → (0 < parts → (b ≡ Some boot) × (seen ≤ front)) → Fits boot front served drawn (idle seen parts b)
  idles front served drawn seen parts b begun = record {
    begun = begun;
    waiting = λ t e. absurd (none_some e);
    turn = λ e. never e;
    knows = λ e. never e;
    out = λ e. never e;
  }

  pub splits : (id : ℕ) (v : View B) {seen parts : ℕ} {b : Option B} → v ≡ idle seen parts b → 2 ≤ v.parts
      → Splits Kept id v (idle v.seen (v.parts - 1) v.boot) (idle v.seen 1 v.boot)
  splits id v is two s o me =
      let left : View B = idle v.seen (v.parts - 1) v.boot in let right : View B = idle v.seen 1 v.boot in let vs : List (View B) = set s.views id left in
      let moved : (g : View B → ℕ) → total g (vs ++ right ∷ []) + g v
      ≡ total g s.views + g left + g right = λ g. omega (arith, total-set g s.views id v left me, total-append g vs (right ∷ [])) in
      let begun = (o.views id v me).begun (omega arith) in
      let none-waits : waits v.ticket ≡ 0 = ap (λ (u : View B). waits u.ticket) is in let not-out : flag v.out ≡ 0 = ap (λ (u : View B). flag u.out) is in
      record {
        drawn = o.drawn;
        served = o.served;
        front = o.front;
        home = o.home;
        few = o.few;
        words = o.words;
        homes = o.homes;
        waiting = omega (arith, o.waiting, moved (λ u. waits u.ticket));
        apart = λ t. omega (arith, o.apart t, moved (λ u. has t u.ticket));
        parts = omega (arith, o.parts, moved (λ u. u.parts));
        out = omega (arith, o.out, moved (λ u. flag u.out));
        value = o.value;
        views = λ k u e. ⊎_elim
            (λ a. ⊎_elim (λ t. subst (Fits boot o.front o.served o.drawn) t.1 (idles o.front o.served o.drawn v.seen (v.parts - 1) v.boot (λ _. begun)))
            (λ t. o.views k u t.1) (at_set s.views id k left u a))
            (λ r. subst (Fits boot o.front o.served o.drawn) r (idles o.front o.served o.drawn v.seen 1 v.boot (λ _. begun)))
            (at_snoc vs right u k e);
      }

  pub joins : (id : ℕ) (v : View B) (other : ℕ) (u : View B) {seen parts : ℕ} {b : Option B} {seen' parts' : ℕ} {b' : Option B} → v ≡ idle seen parts b
      → u ≡ idle seen' parts' b' → 0 < v.parts → 0 < u.parts
      → Joins Kept id v other u (both v u) (idle 0 0 None)
  joins id v other u is is' alive alive' s o me apart them =
      let w : View B = both v u in let spent : View B = idle 0 0 None in let vs : List (View B) = set s.views id w in
      let was : get_elem? s.views other ≡ some u = ⊎_elim (λ t. absurd (apart t.0)) (λ t. t.1) (at_set s.views id other w u them) in
      let moved : (g : View B → ℕ) → total g (set vs other spent) + g u + g v
      ≡ total g s.views + g w + g spent = λ g. omega (arith, total-set g s.views id v w me, total-set g vs other u spent them) in
      let begun = (o.views id v me).begun alive in let a = begun.1 in let c = ((o.views other u was).begun alive').1 in
      let none-waits : waits v.ticket ≡ 0 = ap (λ (x : View B). waits x.ticket) is in let not-out : flag v.out ≡ 0 = ap (λ (x : View B). flag x.out) is in
      let none-waits' : waits u.ticket ≡ 0 = ap (λ (x : View B). waits x.ticket) is' in let not-out' : flag u.out ≡ 0 = ap (λ (x : View B). flag x.out) is' in
      record {
        drawn = o.drawn;
        served = o.served;
        front = o.front;
        home = o.home;
        few = o.few;
        words = o.words;
        homes = o.homes;
        waiting = omega (arith, o.waiting, moved (λ x. waits x.ticket));
        apart = λ t. omega (arith, o.apart t, moved (λ x. has t x.ticket));
        parts = omega (arith, o.parts, moved (λ x. x.parts));
        out = omega (arith, o.out, moved (λ x. flag x.out));
        value = o.value;
        views = λ k x e. ⊎_elim
            (λ t. subst (Fits boot o.front o.served o.drawn) t.1 (idles o.front o.served o.drawn 0 0 None (λ l. absurd (omega arith))))
            (λ t. ⊎_elim (λ r. subst (Fits boot o.front o.served o.drawn) r.1
            (idles o.front o.served o.drawn (max v.seen u.seen) (v.parts + u.parts) v.boot (λ _. (begun.0, omega arith)))) (λ r. o.views k x r.1)
            (at_set s.views id k w x t.1))
            (at_set vs other k spent x e);
      }

  -- where one view has all parts, no other has the value out
  nobody_out : (s : State T (View B)) (o : Kept s) (id : ℕ) (v : View B) → get_elem? s.views id ≡ some v → v.parts ≡ seats → v.out ≡ false
      → total (λ u. flag u.out) s.views ≡ 0
  nobody_out s o id v me all not-out = total-none (λ u. flag u.out) s.views (λ k u e. by k u u.out u.ticket e refl refl)
    where
      by : (k : ℕ) (u : View B) (out : Bool) (ticket : Option ℕ) → get_elem? s.views k ≡ some u → u.out ≡ out → u.ticket ≡ ticket → flag out ≡ 0
      by k u false ticket e is has-it = refl
      by k u true None e is has-it = let f = o.views k u e in absurd (none_some (sym has-it ∙ f.turn (f.out is)))
      by k u true (Some t) e is has-it = dite (ℕ_discrete k id)
          (λ same. let it : v ≡ u = some-injective v u (sym me ∙ (ap (λ i. get_elem? s.views i) (sym same) ∙ e)) in
          never (sym not-out ∙ (ap (λ (x : View B). x.out) it ∙ is)))
          (λ ne. let f = (o.views k u e).waiting t has-it in
          let alive = f.0 in absurd (omega (arith, all, o.parts, terms_le (λ x. x.parts) s.views id k v u ne me e)))

  pub closes : (id : ℕ) (v : View B) (ws : List ℕ) (xs : List T) (y : T) {seen parts : ℕ} {b : Option B} → v ≡ idle seen parts b → 0 < v.parts
      → v.parts ≡ seats → Final (Seen Kept id v) ws xs → get_elem? xs 0 ≡ some y
      → (v.boot ≡ Some (boot_of y)) × (v.seen ≤ count_of y)
  closes id v ws xs y is alive all final there = by final.0 final.1.0 final.1.1 final.4 final.1.0.home refl
    where
      by : (s : State T (View B)) (o : Kept s) → get_elem? s.views id ≡ some v
          → ((k : ℕ) (z : T) → get_elem? s.homes k ≡ some (some z) → get_elem? xs k ≡ some z) → (h : home.Option T) → o.home ≡ h
          → (v.boot ≡ Some (boot_of y)) × (v.seen ≤ count_of y)
      by s o me at none gone = absurd (omega (arith, o.out, ap absent gone, nobody_out s o id v me all (ap (λ (u : View B). u.out) is)))
      by s o me at (some x) here = let begun = (o.views id v me).begun alive in let value = o.value x here in
          let same : x ≡ y = some-injective x y (sym (at 0 x (ap (λ hs. get_elem? hs 0) o.homes ∙ ap some here)) ∙ there) in
          let low = begun.1 in let counted = value.1 in
          (begun.0 ∙ ap (λ (c : B). Some c) (sym value.0 ∙ ap boot_of same), omega (arith, ap count_of same))

pub starts : {T B : Type 0} (boot_of : T → B) (count_of : T → ℕ) (seats : ℕ) (x : T) → 0 < seats → seats ≤ 9
    → Orderly boot_of count_of (boot_of x) seats (opening (0 ∷ 0 ∷ count_of x ∷ []) (x ∷ []) (idle (count_of x) seats (Some (boot_of x))))
starts {T} {B} boot_of count_of seats x some-seats few =
    let v : View B = idle (count_of x) seats (Some (boot_of x)) in record {
      drawn = 0;
      served = 0;
      front = count_of x;
      home = some x;
      few = few;
      words = refl;
      homes = refl;
      waiting = refl;
      apart = λ t. omega arith;
      parts = omega arith;
      out = refl;
      value = λ y e. subst (λ z. (boot_of z ≡ boot_of x) × (count_of z ≡ count_of x)) (some-injective x y e) (refl, refl);
      views = λ k u e. by v k u e (idles boot_of count_of (boot_of x) seats (count_of x) 0 0 (count_of x) seats (Some (boot_of x)) (λ _. (refl, omega arith)));
    }
  where
    by : (v : View B) (k : ℕ) (u : View B) → get_elem? (v ∷ []) k ≡ some u → Fits (boot_of x) (count_of x) 0 0 v → Fits (boot_of x) (count_of x) 0 0 u
    by v zero u e fits = subst (Fits (boot_of x) (count_of x) 0 0) (some-injective v u e) fits
    by v (suc k) u e fits = absurd (some-ne-none u (sym e))

pub starts_with : {T B : Type 0} (boot_of : T → B) (count_of : T → ℕ) (seats n : ℕ) (x : T) (xs : List T) → 0 < seats → seats ≤ 9 → n ≡ count_of x → xs ≡ x ∷ []
    → Orderly boot_of count_of (boot_of x) seats (opening (0 ∷ 0 ∷ n ∷ []) xs (idle (count_of x) seats (Some (boot_of x))))
starts_with boot_of count_of seats n x xs some-seats few counted alone =
    let P : ℕ → List _ → Type 0 = λ k ys. Orderly boot_of count_of (boot_of x) seats
    (opening (0 ∷ 0 ∷ k ∷ []) ys (idle (count_of x) seats (Some (boot_of x)))) in
    subst (λ ys. P n ys) (sym alone) (subst (λ k. P k (x ∷ [])) (sym counted) (starts boot_of count_of seats x some-seats few))
