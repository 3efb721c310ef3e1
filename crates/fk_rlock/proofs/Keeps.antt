-- Each step keeps the rule.
use Rattle.std.proofs.Common.{◌≡◌, ℕ, ◌+◌, ◌%◌, ◌^◌, ◌<◌, ◌≤◌, ◌≢◌, List, [], ◌∷◌, set, get_or, sym, refl, ap, ◌∙◌, subst, ⊎_elim, arith, cond, eq-eqb, ne_eqb, Bool, true, false, Option, Some, None}
use mathlib.Core.Logic.{dite}
use mathlib.Core.Option.{some, none, some-injective, some-ne-none}
use mathlib.Core.Option as home
use native.Mathlib.Decide.{ℕ_discrete}
use lib.ListN.{get_elem?}
use Rattle.atomic_table.specs.Table.{State, Me, step, Act, keeps, takes, gives, Valid, carried_after, homes_after, Allows}
use Rattle.atomic_table.proofs.Lists.{at_set}
use Rattle.fk_rlock.specs.declared.view.View.{View}
use Rattle.fk_rlock.specs.Rule.{total, flag, number, waits, has, absent, view_at, idle, queued, called, knowing, holding, Fits, Orderly}
use Rattle.fk_rlock.specs.Plays.{drew, looked, learned, took, raised, gave, passed}
use Rattle.fk_rlock.proofs.Held.{inside}
use Rattle.fk_rlock.proofs.Totals.{total-set, term_le, terms_le, total-none, total-le}

pub has_yes : (t u : ℕ) → u ≡ t → has t (Some u) ≡ 1
has_yes t u e = ap (λ b. cond b 1 0) (eq-eqb u t e)

has_no : (t u : ℕ) → u ≢ t → has t (Some u) ≡ 0
has_no t u n = ap (λ b. cond b 1 0) (ne_eqb u t n)

pub never : {X : Type 0} → false ≡ true → X
never e = absurd (omega (arith, ap flag e))

pub none_some : {t : ℕ} → None ≡ Some t → ⊥
none_some e = omega (arith, ap waits e)

module _ {T B : Type 0} (boot_of : T → B) (count_of : T → ℕ) (boot : B) (seats : ℕ) where
  abbrev St : Type 0
  St = State T (View B)

  abbrev Kept : St → Type 0
  Kept = Orderly boot_of count_of boot seats

  abbrev board : ℕ → ℕ → ℕ → home.Option T → List (View B) → St
  board drawn served front h vs = record { words = drawn % 2 ^ 64 ∷ served % 2 ^ 64 ∷ front ∷ []; homes = h ∷ []; views = vs }

  -- the view at j goes from v to w, with its parts
  moved : (s : St) (o : Kept s) (j : ℕ) (v w : View B) (drawn served front : ℕ) (h : home.Option T) → get_elem? s.views j ≡ some v
      → drawn + o.served + waits v.ticket ≡ o.drawn + served + waits w.ticket
      → ((t : ℕ) → total (λ u. has t u.ticket) (set s.views j w) ≤ 1)
      → w.parts ≡ v.parts
      → flag w.out + absent o.home ≡ flag v.out + absent h
      → ((x : T) → h ≡ some x → (boot_of x ≡ boot) × (count_of x ≡ front))
      → Fits boot front served drawn w
      → ((k : ℕ) (u : View B) → k ≢ j → get_elem? s.views k ≡ some u → Fits boot o.front o.served o.drawn u → Fits boot front served drawn u)
      → Kept (board drawn served front h (set s.views j w))
  moved s o j v w drawn served front h me waiting apart parts out value fits others = record {
    drawn = drawn;
    served = served;
    front = front;
    home = h;
    few = o.few;
    words = refl;
    homes = refl;
    waiting = omega (arith, waiting, o.waiting, total-set (λ u. waits u.ticket) s.views j v w me);
    apart = apart;
    parts = omega (arith, parts, o.parts, total-set (λ u. u.parts) s.views j v w me);
    out = omega (arith, out, o.out, total-set (λ u. flag u.out) s.views j v w me);
    value = value;
    views = λ k u e. ⊎_elim (λ t. subst (Fits boot front served drawn) t.1 fits) (λ t. others k u t.0 t.1 (o.views k u t.1)) (at_set s.views j k w u e);
  }

  -- where a ticket stays, tickets still differ
  tickets : (s : St) (o : Kept s) (j : ℕ) (v w : View B) → get_elem? s.views j ≡ some v → w.ticket ≡ v.ticket → (t : ℕ)
      → total (λ u. has t u.ticket) (set s.views j w) ≤ 1
  tickets s o j v w me same t = omega (arith, o.apart t, ap (has t) same, total-set (λ u. has t u.ticket) s.views j v w me)

  abbrev Goes : ℕ → ℕ → Me T (View B) → (ℕ → ℕ) → (ℕ → Me T (View B) → Type 0) → List (View B) → List ℕ → List (home.Option T) → Type 0
  Goes i id m f then vs ws hs = (w : View B) × (a : Act T) × Valid hs m.1 a
      × Kept record { words = set ws i (f (get_or ws i 0)); homes = homes_after hs m.1 a; views = set vs id w } × then (get_or ws i 0) (w, carried_after m.1 a)

  through : (n id i : ℕ) (m : Me T (View B)) (f : ℕ → ℕ) (then : ℕ → Me T (View B) → Type 0)
      → ((s : St) (o : Kept s) → get_elem? s.views id ≡ some m.0 → get_or (o.drawn % 2 ^ 64 ∷ o.served % 2 ^ 64 ∷ o.front ∷ []) i 0 < 2 ^ 64
      → Goes i id m f then s.views (o.drawn % 2 ^ 64 ∷ o.served % 2 ^ 64 ∷ o.front ∷ []) (o.home ∷ []))
      → Allows Kept n id m i f then
  through n id i m f then step s o wide me small =
      subst (λ hs. Goes i id m f then s.views s.words hs) (sym o.homes) (subst (λ ws. Goes i id m f then s.views ws (o.home ∷ [])) (sym o.words)
      (step s o me (subst (λ ws. get_or ws i 0 < 2 ^ 64) o.words small)))

  -- no view has a ticket that was not drawn yet
  undrawn : (s : St) (o : Kept s) → total (λ u. has o.drawn u.ticket) s.views ≡ 0
  undrawn s o = total-none (λ u. has o.drawn u.ticket) s.views (λ k u e. by k u u.ticket e refl)
    where
      by : (k : ℕ) (u : View B) (ticket : _) → get_elem? s.views k ≡ some u → u.ticket ≡ ticket → has o.drawn ticket ≡ 0
      by k u None e is = refl
      by k u (Some t) e is = has_no o.drawn t (λ same. let late = ((o.views k u e).waiting t is).2 in omega arith)

  -- there are at most as many views with a ticket as there are parts
  few_wait : (s : St) (o : Kept s) → o.drawn ≤ o.served + 9
  few_wait s o = omega (arith, o.few, o.waiting, o.parts, total-le (λ u. waits u.ticket) (λ u. u.parts) s.views (λ k u e. by k u u.ticket e refl))
    where
      by : (k : ℕ) (u : View B) (ticket : _) → get_elem? s.views k ≡ some u → u.ticket ≡ ticket → waits ticket ≤ u.parts
      by k u None e is = omega arith
      by k u (Some t) e is = let alive = ((o.views k u e).waiting t is).0 in omega arith

  -- no two views have the ticket that is served
  alone : (s : St) (o : Kept s) (j k : ℕ) (v u : View B) → k ≢ j → get_elem? s.views j ≡ some v → get_elem? s.views k ≡ some u → v.ticket ≡ Some o.served
      → u.ticket ≡ Some o.served → ⊥
  alone s o j k v u ne me them mine theirs = let one = has_yes o.served o.served refl in
      omega (arith, one, ap (has o.served) mine, ap (has o.served) theirs, o.apart o.served, terms_le (λ x. has o.served x.ticket) s.views j k v u ne me them)

  -- where one view's turn has come, no other has the value out
  others_out : (s : St) (o : Kept s) (j : ℕ) (v : View B) → get_elem? s.views j ≡ some v → v.turn ≡ true → v.out ≡ false → total (λ u. flag u.out) s.views ≡ 0
  others_out s o j v me turn not-out = total-none (λ u. flag u.out) s.views (λ k u e. by k u u.out e refl)
    where
      by : (k : ℕ) (u : View B) (b : Bool) → get_elem? s.views k ≡ some u → u.out ≡ b → flag b ≡ 0
      by k u false e is = refl
      by k u true e is = dite (ℕ_discrete k j)
          (λ same. let it : v ≡ u = some-injective v u (sym me ∙ (ap (λ i. get_elem? s.views i) (sym same) ∙ e)) in
          never (sym not-out ∙ (ap (λ (x : View B). x.out) it ∙ is)))
          (λ ne. absurd (alone s o j k v u ne me e ((o.views j v me).turn turn) ((o.views k u e).turn ((o.views k u e).out is))))

  absent_le : (h : home.Option T) → absent h ≤ 1
  absent_le none = omega arith
  absent_le (some x) = omega arith

  pub draws : (n id : ℕ) (m : Me T (View B)) → {seen parts : ℕ} {b : Option B} → m.0 ≡ idle seen parts b → 0 < m.0.parts
      → Allows Kept n id m 0 (λ x. (x + 1) % 2 ^ 64) (drew (step n 0 1 0 none) m)
  draws n id m is alive = through n id 0 m (λ x. (x + 1) % 2 ^ 64) (drew (step n 0 1 0 none) m) (λ s o me small.
      let w : View B = queued o.drawn m.0.seen m.0.parts m.0.boot in let v = m.0 in let free : v.ticket ≡ None = ap (λ (u : View B). u.ticket) is in
      let none-waits : waits v.ticket ≡ 0 = ap waits free in let not-out : flag v.out ≡ 0 = ap (λ (u : View B). flag u.out) is in
      let fits = o.views id v me in let before : o.served ≤ o.drawn = omega (arith, o.waiting) in
      let next : (o.drawn % 2 ^ 64 + 1) % 2 ^ 64 ≡ (o.drawn + 1) % 2 ^ 64 = omega arith in (
        w,
        keeps,
        tt,
        subst (λ k. Kept record { words = k ∷ o.served % 2 ^ 64 ∷ o.front ∷ []; homes = o.home ∷ []; views = set s.views id w }) (sym next)
            (moved s o id v w (o.drawn + 1) o.served o.front o.home me (omega arith)
            (λ t. dite (ℕ_discrete t o.drawn)
            (λ same. let one = has_yes t o.drawn (sym same) in
            omega (arith, one, undrawn s o, ap (λ (k : ℕ). total (λ u. has k u.ticket) s.views) same, total-set (λ u. has t u.ticket) s.views id v w me))
            (λ ne. let zero-here = has_no t o.drawn (λ e. ne (sym e)) in
            omega (arith, zero-here, o.apart t, total-set (λ u. has t u.ticket) s.views id v w me)))
            refl (omega arith) o.value
            record {
              begun = fits.begun;
              waiting = λ t e. let same : o.drawn ≡ t = ap number e in
                  (alive, omega arith, omega arith);
              turn = λ e. never e;
              knows = λ e. never e;
              out = λ e. never e;
            }
            (λ k u ne e f. record {
              begun = f.begun;
              waiting = λ t has-it. let r = f.waiting t has-it in
                  let late = r.2 in (r.0, r.1, omega arith);
              turn = f.turn;
              knows = f.knows;
              out = f.out;
            })),
        (o.drawn, refl, refl),
      ))

  pub looks : (n id : ℕ) (m : Me T (View B)) (t : ℕ) → {seen parts : ℕ} {b : Option B} → m.0 ≡ queued t seen parts b
      → Allows Kept n id m 1 (λ x. x) (looked (step n 1 0 0 none) m)
  looks n id m t is = through n id 1 m (λ x. x) (looked (step n 1 0 0 none) m) (λ s o me small.
      let v = m.0 in let w : View B = view_at v.ticket true false false v.seen v.parts v.boot in let fits = o.views id v me in
      let mine : v.ticket ≡ Some t = ap (λ (u : View B). u.ticket) is in let num : number v.ticket ≡ t = ap number mine in
      let not-out : flag v.out ≡ 0 = ap (λ (u : View B). flag u.out) is in
      let G = Goes 1 id m (λ x. x) (looked (step n 1 0 0 none) m) s.views (o.drawn % 2 ^ 64 ∷ o.served % 2 ^ 64 ∷ o.front ∷ []) (o.home ∷ []) in
      let miss : (o.served % 2 ^ 64 ≢ number v.ticket % 2 ^ 64) → G = λ ne. (
        v,
        keeps,
        tt,
        moved s o id v v o.drawn o.served o.front o.home me (omega arith) (tickets s o id v v me refl) refl (omega arith) o.value fits (λ k u away e f. f),
        ((λ e. absurd (ne e)), λ _. refl),
      ) in
      dite (ℕ_discrete (o.served % 2 ^ 64) (number v.ticket % 2 ^ 64))
      (λ hit. let wait = fits.waiting t mine in let a = wait.1 in let b = wait.2 in let c = few_wait s o in
      let same : t ≡ o.served = omega (arith, hit, num) in (
        w,
        keeps,
        tt,
        moved s o id v w o.drawn o.served o.front o.home me (omega arith) (tickets s o id v w me refl) refl (omega arith) o.value
            record { begun = fits.begun; waiting = fits.waiting; turn = λ _. mine ∙ ap (λ (x : ℕ). Some x) same; knows = λ e. never e; out = λ e. never e }
            (λ k u away e f. f),
        ((λ _. refl), λ ne. absurd (ne hit)),
      ))
      miss)

  pub learns : (n id : ℕ) (m : Me T (View B)) (t : ℕ) → {seen parts : ℕ} {b : Option B} → m.0 ≡ called t seen parts b
      → Allows Kept n id m 2 (λ x. x) (learned (step n 2 0 0 none) m)
  learns n id m t is = through n id 2 m (λ x. x) (learned (step n 2 0 0 none) m) (λ s o me small.
      let v = m.0 in let w : View B = view_at v.ticket true true false o.front v.parts v.boot in let fits = o.views id v me in
      let mine : v.ticket ≡ Some t = ap (λ (u : View B). u.ticket) is in let turn : v.turn ≡ true = ap (λ (u : View B). u.turn) is in
      let not-out : flag v.out ≡ 0 = ap (λ (u : View B). flag u.out) is in let begun = fits.begun (fits.waiting t mine).0 in (
        w,
        keeps,
        tt,
        moved s o id v w o.drawn o.served o.front o.home me (omega arith) (tickets s o id v w me refl) refl (omega arith) o.value
            record { begun = λ _. (begun.0, omega arith); waiting = fits.waiting; turn = λ _. fits.turn turn; knows = λ _. (refl, refl); out = λ e. never e }
            (λ k u away e f. f),
        (begun.1, refl),
      ))

  pub takes_it : (n id : ℕ) (m : Me T (View B)) (t : ℕ) → {seen parts : ℕ} {b : Option B} → m.0 ≡ knowing t seen parts b
      → Allows Kept n id m 2 (λ x. x) (took boot_of count_of (step n 2 0 0 none) m)
  takes_it n id m t is = through n id 2 m (λ x. x) (took boot_of count_of (step n 2 0 0 none) m) (λ s o me small. by s o me o.home refl)
    where
      by : (s : St) (o : Kept s) → get_elem? s.views id ≡ some m.0 → (h : home.Option T) → o.home ≡ h
          → Goes 2 id m (λ x. x) (took boot_of count_of (step n 2 0 0 none) m) s.views (o.drawn % 2 ^ 64 ∷ o.served % 2 ^ 64 ∷ o.front ∷ []) (o.home ∷ [])
      by s o me none there = absurd (omega (
        arith,
        o.out,
        ap absent there,
        others_out s o id m.0 me (ap (λ (u : View B). u.turn) is) (ap (λ (u : View B). u.out) is),
      ))
      by s o me (some x) there =
          let v = m.0 in let w : View B = view_at v.ticket true true true v.seen v.parts v.boot in let fits = o.views id v me in
          let mine : v.ticket ≡ Some t = ap (λ (u : View B). u.ticket) is in let turn : v.turn ≡ true = ap (λ (u : View B). u.turn) is in
          let knows : v.knows ≡ true = ap (λ (u : View B). u.knows) is in
          let not-out : flag v.out ≡ 0 = ap (λ (u : View B). flag u.out) is in let begun = fits.begun (fits.waiting t mine).0 in
          let value = o.value x there in (
            w,
            takes 0 x,
            ap some there,
            moved s o id v w o.drawn o.served o.front none me (omega arith) (tickets s o id v w me refl) refl (omega (arith, ap absent there))
                (λ y e. absurd (some-ne-none y (sym e)))
                record { begun = fits.begun; waiting = fits.waiting; turn = λ _. fits.turn turn; knows = λ _. (refl, (fits.knows knows).1); out = λ _. refl }
                (λ k u away e f. f),
            (x, begun.0 ∙ ap (λ (b : B). Some b) (sym value.0), value.1 ∙ sym (fits.knows knows).1, refl),
          )

  pub raises : (n id : ℕ) (m : Me T (View B)) (t new : ℕ) → {seen parts : ℕ} {b : Option B} → m.0 ≡ holding t seen parts b → m.0.seen ≤ new
      → Allows Kept n id m 2 (λ _. new) (λ _. raised (step n 2 new 0 none) m new)
  raises n id m t new is up = through n id 2 m (λ _. new) (λ _. raised (step n 2 new 0 none) m new) (λ s o me small.
      let v = m.0 in let w : View B = view_at v.ticket true true true new v.parts v.boot in let fits = o.views id v me in
      let mine : v.ticket ≡ Some t = ap (λ (u : View B). u.ticket) is in let turn : v.turn ≡ true = ap (λ (u : View B). u.turn) is in
      let knows : v.knows ≡ true = ap (λ (u : View B). u.knows) is in
      let out : flag v.out ≡ 1 = ap (λ (u : View B). flag u.out) is in let begun = fits.begun (fits.waiting t mine).0 in
      let now : v.seen ≡ o.front = (fits.knows knows).1 in let up' : o.front ≤ new = omega arith in (
        w,
        keeps,
        tt,
        moved s o id v w o.drawn o.served new o.home me (omega arith) (tickets s o id v w me refl) refl (omega arith)
            (λ x e. absurd (omega (arith, o.out, ap absent e, term_le (λ u. flag u.out) s.views id v me)))
            record { begun = λ _. (begun.0, omega arith); waiting = fits.waiting; turn = λ _. fits.turn turn; knows = λ _. (refl, refl); out = λ _. refl }
            (λ k u away e f. record {
              begun = λ alive. let b = f.begun alive in let low = b.1 in (b.0, omega arith);
              waiting = f.waiting;
              turn = f.turn;
              knows = λ know. absurd (alone s o id k v u away me e (fits.turn turn) (f.turn (f.knows know).0));
              out = f.out;
            }),
        refl,
      ))

  gives_held : (n id : ℕ) (v : View B) (x : T) (more : List (ℕ × T)) (t : ℕ) → {seen parts : ℕ} {b : Option B} → v ≡ holding t seen parts b
      → v.boot ≡ Some (boot_of x) → count_of x ≡ v.seen
      → Allows Kept n id (v, (0, x) ∷ more) 2 (λ y. y) (gave (step n 2 0 0 none) (v, (0, x) ∷ more))
  gives_held n id v x more t is boots counts = through n id 2 (v, (0, x) ∷ more) (λ y. y) (gave (step n 2 0 0 none) (v, (0, x) ∷ more)) (λ s o me small.
      let w : View B = view_at v.ticket true true false v.seen v.parts v.boot in let fits = o.views id v me in
      let mine : v.ticket ≡ Some t = ap (λ (u : View B). u.ticket) is in let turn : v.turn ≡ true = ap (λ (u : View B). u.turn) is in
      let knows : v.knows ≡ true = ap (λ (u : View B). u.knows) is in
      let out : flag v.out ≡ 1 = ap (λ (u : View B). flag u.out) is in let begun = fits.begun (fits.waiting t mine).0 in
      let same : boot_of x ≡ boot = inside (boot_of x) boot (sym boots ∙ begun.0) in let counted : count_of x ≡ o.front = counts ∙ (fits.knows knows).1 in (
        w,
        gives,
        tt,
        moved s o id v w o.drawn o.served o.front (some x) me (omega arith) (tickets s o id v w me refl) refl
            (omega (arith, o.out, absent_le o.home, term_le (λ u. flag u.out) s.views id v me))
            (λ y e. subst (λ z. (boot_of z ≡ boot) × (count_of z ≡ o.front)) (some-injective x y e) (same, counted))
            record { begun = fits.begun; waiting = fits.waiting; turn = λ _. fits.turn turn; knows = λ _. (refl, (fits.knows knows).1); out = λ e. never e }
            (λ k u away e f. f),
        refl,
      ))

  pub gives_it : (n id : ℕ) (m : Me T (View B)) (t : ℕ) (x : T) (more : List (ℕ × T)) → {seen parts : ℕ} {b : Option B}
      → m ≡ (holding t seen parts b, (0, x) ∷ more) → b ≡ Some (boot_of x) → count_of x ≡ seen
      → Allows Kept n id m 2 (λ y. y) (gave (step n 2 0 0 none) m)
  gives_it n id m t x more {seen} {parts} {b} is boots counts = subst (λ k. Allows Kept n id k 2 (λ y. y) (gave (step n 2 0 0 none) k)) (sym is)
      (gives_held n id (holding t seen parts b) x more t refl boots counts)

  pub passes : (n id : ℕ) (m : Me T (View B)) (t : ℕ) → {seen parts : ℕ} {b : Option B} → m.0 ≡ knowing t seen parts b
      → Allows Kept n id m 1 (λ x. (x + 1) % 2 ^ 64) (passed (step n 1 1 0 none) m)
  passes n id m t is = through n id 1 m (λ x. (x + 1) % 2 ^ 64) (passed (step n 1 1 0 none) m) (λ s o me small.
      let v = m.0 in let w : View B = idle v.seen v.parts v.boot in let fits = o.views id v me in
      let mine : v.ticket ≡ Some t = ap (λ (u : View B). u.ticket) is in let turn : v.turn ≡ true = ap (λ (u : View B). u.turn) is in
      let one : waits v.ticket ≡ 1 = ap waits mine in let not-out : flag v.out ≡ 0 = ap (λ (u : View B). flag u.out) is in
      let next : (o.served % 2 ^ 64 + 1) % 2 ^ 64 ≡ (o.served + 1) % 2 ^ 64 = omega arith in (
        w,
        keeps,
        tt,
        subst (λ k. Kept record { words = o.drawn % 2 ^ 64 ∷ k ∷ o.front ∷ []; homes = o.home ∷ []; views = set s.views id w }) (sym next)
            (moved s o id v w o.drawn (o.served + 1) o.front o.home me (omega arith)
            (λ i. omega (arith, o.apart i, total-set (λ u. has i u.ticket) s.views id v w me))
            refl (omega arith) o.value
            record { begun = fits.begun; waiting = λ i e. absurd (none_some e); turn = λ e. never e; knows = λ e. never e; out = λ e. never e }
            (λ k u away e f. record {
              begun = f.begun;
              waiting = λ i has-it. let r = f.waiting i has-it in let late = r.1 in
                  let other : i ≢ o.served = λ same. alone s o id k v u away me e (fits.turn turn) (has-it ∙ ap (λ (x : ℕ). Some x) same) in
                  (r.0, omega arith, r.2);
              turn = λ on. absurd (alone s o id k v u away me e (fits.turn turn) (f.turn on));
              knows = λ know. absurd (alone s o id k v u away me e (fits.turn turn) (f.turn (f.knows know).0));
              out = f.out;
            })),
        refl,
      ))
