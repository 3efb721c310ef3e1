-- Judged: what is told of a list of places in order is the first of them that is wrong.
use Rattle.std.proofs.Common.{◌≡◌, ℕ, suc, ◌<◌, ◌≤◌, ◌⊎◌, ◌↔◌, inl, inr, Bool, true, false, cond, not, ◌&&◌, ◌||◌, ◌==◌, List, [], ◌∷◌, ◌++◌, Option, Some}
use Rattle.std.proofs.Common.{None, Result, Ok, Err}
use Rattle.std.proofs.Common.{refl, sym, ap, subst, ◌∙◌, arith, append_assoc, eqb-true, eq-eqb}
use Rattle.fk_image.specs.declared.image.image.Link.{Link}
use Rattle.fk_image.specs.declared.image.image.Link.TheVariants.{Null, Dead, In, Out, Root, Outside}
use Rattle.fk_image.specs.declared.image.image.SpaceRec.{SpaceRec}
use Rattle.fk_image.specs.Format.Offsets.{Named, nobody, with_thread}
use Rattle.fk_image.specs.Form.Holding.PointerField.{Holder, MappedRegion, Keeper, Target, AtPort, Server}
use Rattle.laws_image_faults.proofs.Events.{What, Event, right, again, with_named, judge, event}
use Rattle.laws_image_faults.proofs.Events.What.{Points, Sets}

-- ---- members

pub data Among (e : Event) : List Event → Type 0 where
  Here : (es : List Event) → Among e (e ∷ es)
  Later : (f : Event) (es : List Event) → Among e es → Among e (f ∷ es)

pub among-first : (e : Event) (es fs : List Event) → Among e es → Among e (es ++ fs)
among-first e _ fs (Here es) = Here (es ++ fs)
among-first e _ fs (Later f es m) = Later f (es ++ fs) (among-first e es fs m)

pub among-behind : (e : Event) (es fs : List Event) → Among e fs → Among e (es ++ fs)
among-behind e [] fs m = m
among-behind e (f ∷ es) fs m = Later f (es ++ fs) (among-behind e es fs m)

pub among-cons : (e f : Event) (es all : List Event) → all ≡ f ∷ es → Among e all → (e ≡ f) ⊎ Among e es
among-cons e f es _ is (Here gs) = inl (one e f gs es is)
  where
    one : (e f : Event) (gs es : List Event) → e ∷ gs ≡ f ∷ es → e ≡ f
    one e f gs es is = cc
among-cons e f es _ is (Later g gs m) = inr (subst (Among e) (one g f gs es is) m)
  where
    one : (g f : Event) (gs es : List Event) → g ∷ gs ≡ f ∷ es → gs ≡ es
    one g f gs es is = cc

pub among-none : (e : Event) (all : List Event) → all ≡ [] → Among e all → ⊥
among-none e _ is (Here es) = absurd cc
among-none e _ is (Later f es m) = absurd cc

pub among-append : (e : Event) (es fs : List Event) → Among e (es ++ fs) → Among e es ⊎ Among e fs
among-append e [] fs m = inr m
among-append e (g ∷ es) fs m = by (among-cons e g (es ++ fs) ((g ∷ es) ++ fs) refl m) (among-append e es fs)
  where
    by : (e ≡ g) ⊎ Among e (es ++ fs) → (Among e (es ++ fs) → Among e es ⊎ Among e fs) → Among e (g ∷ es) ⊎ Among e fs
    by (inl is) more = inl (subst (λ h. Among h (g ∷ es)) (sym is) (Here es))
    by (inr m) more = later (more m)
      where
        later : Among e es ⊎ Among e fs → Among e (g ∷ es) ⊎ Among e fs
        later (inl h) = inl (Later g es h)
        later (inr h) = inr h

-- ---- order

-- the places rise from one on, and end before another
abbrev pub Rises : ℕ → List Event → ℕ → Type 0
Rises low [] high = low ≤ high
Rises low (e ∷ es) high = (low ≤ e.at) × Rises (suc e.at) es high

pub rises-from : (low lower : ℕ) (es : List Event) (high : ℕ) → lower ≤ low → Rises low es high → Rises lower es high
rises-from low lower [] high le r = omega (arith, le, r)
rises-from low lower (e ∷ es) high le r = let first = r.0 in (omega (arith, le, first), r.1)

pub rises-append : (low mid high : ℕ) (es fs : List Event) → Rises low es mid → Rises mid fs high → Rises low (es ++ fs) high
rises-append low mid high [] fs one two = rises-from mid low fs high one two
rises-append low mid high (e ∷ es) fs one two = (one.0, rises-append (suc e.at) mid high es fs one.1 two)

rises-low : (low high : ℕ) (es : List Event) → Rises low es high → (f : Event) → Among f es → low ≤ f.at
rises-low low high [] r f m = absurd (among-none f [] refl m)
rises-low low high (e ∷ es) r f m = by (among-cons f e es (e ∷ es) refl m) (rises-low (suc e.at) high es r.1 f)
  where
    by : (f ≡ e) ⊎ Among f es → (Among f es → suc e.at ≤ f.at) → low ≤ f.at
    by (inl is) more = let first = r.0 in let same = ap (λ (f : Event). f.at) is in omega (arith, first, same)
    by (inr m) more = let first = r.0 in let le = more m in omega (arith, first, le)

-- all before an event of a list in order stand before it, all behind it behind
rises-before : (low high : ℕ) (done : List Event) (e : Event) (rest : List Event)
    → Rises low (done ++ (e ∷ rest)) high → (f : Event) → Among f done → f.at < e.at
rises-before low high [] e rest r f m = absurd (among-none f [] refl m)
rises-before low high (d ∷ done) e rest r f m = by (among-cons f d done (d ∷ done) refl m) (rises-before (suc d.at) high done e rest r.1 f)
  where
    by : (f ≡ d) ⊎ Among f done → (Among f done → f.at < e.at) → f.at < e.at
    by (inl is) more =
        let same = ap (λ (f : Event). f.at) is in
        let le = rises-low (suc d.at) high (done ++ (e ∷ rest)) r.1 e (among-behind e done (e ∷ rest) (Here rest)) in
        omega (arith, same, le)
    by (inr m) more = more m

rises-behind : (low high : ℕ) (done : List Event) (e : Event) (rest : List Event)
    → Rises low (done ++ (e ∷ rest)) high → (f : Event) → Among f rest → e.at < f.at
rises-behind low high [] e rest r f m = rises-low (suc e.at) high rest r.1 f m
rises-behind low high (d ∷ done) e rest r f m = rises-behind (suc d.at) high done e rest r.1 f m

-- ---- the first that is wrong

pub data Bad (spaces : List SpaceRec) (es : List Event) : ℕ → Type 0 where
  NotRight : (at : ℕ) (what : What) → Among (event at what) es → right spaces what ≡ false → Bad spaces es at
  Twice : (earlier at slot n : ℕ) (port other : Link) → Among (event earlier (Points (Server port) (In slot n))) es → earlier < at →
      Among (event at (Points (Server other) (In slot n))) es → Bad spaces es at

abbrev NamedIn : List Event → Named → Type 0
NamedIn done named = (n slot : ℕ) → (named n slot ≡ true) ↔ ((at : ℕ) × (port : Link) × Among (event at (Points (Server port) (In slot n))) done)

abbrev pub Told : List SpaceRec → List Event → Result Named ℕ → Type 0
Told spaces es (Ok named) = (at : ℕ) → Bad spaces es at → ⊥
Told spaces es (Err offset) = Bad spaces es offset × ((at : ℕ) → Bad spaces es at → offset ≤ at)

-- the thread that is named there as a server or a taker
peer_of : What → Option (ℕ × ℕ)
peer_of (Points (Server port) (In slot n)) = Some (n, slot)
peer_of other = None

abbrev with_pair : Option (ℕ × ℕ) → Named → Named
with_pair None named = named
with_pair (Some p) named = with_thread p.0 p.1 named

abbrev was : Option (ℕ × ℕ) → Named → Bool
was None named = false
was (Some p) named = named p.0 p.1

with-is : (what : What) (named : Named) → with_named what named ≡ with_pair (peer_of what) named
unfolding peer_of
with-is (Points (Server port) (In slot n)) named = refl
with-is (Points (Server port) Null) named = refl
with-is (Points (Server port) Dead) named = refl
with-is (Points (Server port) (Out slot)) named = refl
with-is (Points (Server port) Root) named = refl
with-is (Points (Server port) Outside) named = refl
with-is (Points (Holder m) to) named = refl
with-is (Points MappedRegion to) named = refl
with-is (Points Keeper to) named = refl
with-is (Points Target to) named = refl
with-is (Points AtPort to) named = refl
with-is (Sets objects set) named = refl

again-is : (what : What) (named : Named) → again what named ≡ was (peer_of what) named
unfolding peer_of
again-is (Points (Server port) (In slot n)) named = refl
again-is (Points (Server port) Null) named = refl
again-is (Points (Server port) Dead) named = refl
again-is (Points (Server port) (Out slot)) named = refl
again-is (Points (Server port) Root) named = refl
again-is (Points (Server port) Outside) named = refl
again-is (Points (Holder m) to) named = refl
again-is (Points MappedRegion to) named = refl
again-is (Points Keeper to) named = refl
again-is (Points Target to) named = refl
again-is (Points AtPort to) named = refl
again-is (Sets objects set) named = refl

-- it names the thread in this slot of the space with this number
abbrev Names : What → ℕ → ℕ → Type 0
Names what n slot = (port : Link) × (what ≡ Points (Server port) (In slot n))

names-peer : (what : What) (n slot : ℕ) → Names what n slot → peer_of what ≡ Some (n, slot)
unfolding peer_of
names-peer what n slot h = ap peer_of h.1

peer-names : (what : What) (n slot : ℕ) → peer_of what ≡ Some (n, slot) → Names what n slot
unfolding peer_of
peer-names (Points (Server port) (In s m)) n slot e = (port, same)
  where
    pair : ◌≡◌ {A = ℕ × ℕ} (m, s) (n, slot)
    pair = cc

    same : Points (Server port) (In s m) ≡ Points (Server port) (In slot n)
    same = λ i. Points (Server port) (In (ap (λ (p : ℕ × ℕ). p.1) pair i) (ap (λ (p : ℕ × ℕ). p.0) pair i))
peer-names (Points (Server port) Null) n slot e = absurd cc
peer-names (Points (Server port) Dead) n slot e = absurd cc
peer-names (Points (Server port) (Out s)) n slot e = absurd cc
peer-names (Points (Server port) Root) n slot e = absurd cc
peer-names (Points (Server port) Outside) n slot e = absurd cc
peer-names (Points (Holder m) to) n slot e = absurd cc
peer-names (Points MappedRegion to) n slot e = absurd cc
peer-names (Points Keeper to) n slot e = absurd cc
peer-names (Points Target to) n slot e = absurd cc
peer-names (Points AtPort to) n slot e = absurd cc
peer-names (Sets objects set) n slot e = absurd cc

again-names : (what : What) (named : Named) → again what named ≡ true → (n : ℕ) × (slot : ℕ) × Names what n slot × (named n slot ≡ true)
again-names what named e = by (peer_of what) refl (sym (again-is what named) ∙ e)
  where
    by : (o : Option (ℕ × ℕ)) → peer_of what ≡ o → was o named ≡ true → (n : ℕ) × (slot : ℕ) × Names what n slot × (named n slot ≡ true)
    by None is e = absurd cc
    by (Some p) is e = (p.0, p.1, peer-names what p.0 p.1 is, e)

names-again : (what : What) (named : Named) (n slot : ℕ) → Names what n slot → named n slot ≡ true → again what named ≡ true
names-again what named n slot h e = again-is what named ∙ ap (λ o. was o named) (names-peer what n slot h) ∙ e

-- who is named with one more
more-named : (what : What) (named : Named) (n slot : ℕ) → with_named what named n slot ≡ true → Names what n slot ⊎ (named n slot ≡ true)
more-named what named n slot e = by (peer_of what) refl (ap (λ (f : Named). f n slot) (sym (with-is what named)) ∙ e)
  where
    by : (o : Option (ℕ × ℕ)) → peer_of what ≡ o → with_pair o named n slot ≡ true → Names what n slot ⊎ (named n slot ≡ true)
    by None is e = inr e
    by (Some p) is e = split (p.0 == n) refl (p.1 == slot) refl e
      where
        split : (a : Bool) → (p.0 == n) ≡ a → (b : Bool) → (p.1 == slot) ≡ b → ((a && b) || named n slot) ≡ true → Names what n slot ⊎ (named n slot ≡ true)
        split true f true g e = inl (peer-names what n slot (is ∙ ap Some (λ i. (eqb-true p.0 n f i, eqb-true p.1 slot g i))))
        split true f false g e = inr e
        split false f b g e = inr e

named-more : (what : What) (named : Named) (n slot : ℕ) → Names what n slot ⊎ (named n slot ≡ true) → with_named what named n slot ≡ true
named-more what named n slot h = ap (λ (f : Named). f n slot) (with-is what named) ∙ by h
  where
    by : Names what n slot ⊎ (named n slot ≡ true) → with_pair (peer_of what) named n slot ≡ true
    by (inl h) = ap (λ o. with_pair o named n slot) (names-peer what n slot h) ∙ rw (eq-eqb n n refl, eq-eqb slot slot refl) refl
    by (inr e) = old (peer_of what)
      where
        old : (o : Option (ℕ × ℕ)) → with_pair o named n slot ≡ true
        old None = e
        old (Some p) = or (p.0 == n && p.1 == slot)
          where
            or : (b : Bool) → (b || named n slot) ≡ true
            or true = refl
            or false = e

module _ (spaces : List SpaceRec) (low high : ℕ) where
  -- whatever is wrong stands among those that are left
  abbrev IsLeft : List Event → List Event → Type 0
  IsLeft es rest = (at : ℕ) → Bad spaces es at → (what : What) × Among (event at what) rest

  bad-low : (es : List Event) (at : ℕ) → Bad spaces es at → (what : What) × Among (event at what) es
  bad-low es at (NotRight _ what m off) = (what, m)
  bad-low es at (Twice earlier _ slot n port other one lt two) = (Points (Server other) (In slot n), two)

  told-by : (rest done es : List Event) (named : Named) → es ≡ done ++ rest → Rises low es high → NamedIn done named → IsLeft es rest
      → Told spaces es (judge spaces rest named)
  unfolding judge
  told-by [] done es named is rises names left = λ at bad. among-none (event at (left at bad).0) [] refl (left at bad).1
  told-by (e ∷ rest) done es named is rises names left =
      by (right spaces e.what) refl (again e.what named) refl
      (told-by rest (done ++ e ∷ []) es (with_named e.what named) (is ∙ sym (append_assoc done (e ∷ []) rest)) rises)
    where
      in_order : Rises low (done ++ (e ∷ rest)) high
      in_order = subst (λ es. Rises low es high) is rises

      here : Among e es
      here = subst (Among e) (sym is) (among-behind e done (e ∷ rest) (Here rest))

      early : (f : Event) → Among f done → f.at < e.at
      early f m = rises-before low high done e rest in_order f m

      late : (f : Event) → Among f rest → e.at < f.at
      late f m = rises-behind low high done e rest in_order f m

      -- what stands at its place is this one
      only : (f : Event) → Among f es → f.at ≡ e.at → f ≡ e
      only f m same = first (among-append f done (e ∷ rest) (subst (Among f) is m))
        where
          second : (f ≡ e) ⊎ Among f rest → f ≡ e
          second (inl h) = h
          second (inr h) = let lt = late f h in absurd (omega (arith, lt, same))

          first : Among f done ⊎ Among f (e ∷ rest) → f ≡ e
          first (inl h) = let lt = early f h in absurd (omega (arith, lt, same))
          first (inr h) = second (among-cons f e rest (e ∷ rest) refl h)

      -- whatever stands before its place was met before it
      earlier-done : (f : Event) → Among f es → f.at < e.at → Among f done
      earlier-done f m lt = first (among-append f done (e ∷ rest) (subst (Among f) is m))
        where
          second : (f ≡ e) ⊎ Among f rest → Among f done
          second (inl h) = let same = ap (λ (f : Event). f.at) h in absurd (omega (arith, same, lt))
          second (inr h) = let more = late f h in absurd (omega (arith, lt, more))

          first : Among f done ⊎ Among f (e ∷ rest) → Among f done
          first (inl h) = h
          first (inr h) = second (among-cons f e rest (e ∷ rest) refl h)

      not-before : (at : ℕ) → Bad spaces es at → e.at ≤ at
      not-before at bad = let l = left at bad in by (among-cons (event at l.0) e rest (e ∷ rest) refl l.1)
        where
          by : {what : What} → (event at what ≡ e) ⊎ Among (event at what) rest → e.at ≤ at
          by (inl h) = let same = ap (λ (f : Event). f.at) h in omega (arith, same)
          by {what} (inr h) = let lt = late (event at what) h in omega (arith, lt)

      names-more : NamedIn (done ++ e ∷ []) (with_named e.what named)
      names-more n slot = (to, from)
        where
          to : with_named e.what named n slot ≡ true → (at : ℕ) × (port : Link) × Among (event at (Points (Server port) (In slot n))) (done ++ e ∷ [])
          to t = by (more-named e.what named n slot t)
            where
              by : Names e.what n slot ⊎ (named n slot ≡ true) → (at : ℕ) × (port : Link) × Among (event at (Points (Server port) (In slot n))) (done ++ e ∷ [])
              by (inl h) = (e.at, h.0, subst (λ w. Among (event e.at w) (done ++ e ∷ [])) h.1 (among-behind e done (e ∷ []) (Here [])))
              by (inr h) = let old = (names n slot).0 h in (old.0, old.1, among-first _ done (e ∷ []) old.2)

          from : ((at : ℕ) × (port : Link) × Among (event at (Points (Server port) (In slot n))) (done ++ e ∷ [])) → with_named e.what named n slot ≡ true
          from h = by (among-append (event h.0 (Points (Server h.1) (In slot n))) done (e ∷ []) h.2)
            where
              last : (event h.0 (Points (Server h.1) (In slot n)) ≡ e) ⊎ Among (event h.0 (Points (Server h.1) (In slot n))) []
                  → with_named e.what named n slot ≡ true
              last (inl same) = named-more e.what named n slot (inl (h.1, sym (ap (λ (f : Event). f.what) same)))
              last (inr m) = absurd (among-none _ [] refl m)

              by : Among (event h.0 (Points (Server h.1) (In slot n))) done ⊎ Among (event h.0 (Points (Server h.1) (In slot n))) (e ∷ [])
                  → with_named e.what named n slot ≡ true
              by (inl m) = named-more e.what named n slot (inr ((names n slot).1 (h.0, h.1, m)))
              by (inr m) = last (among-cons _ e [] (e ∷ []) refl m)

      bad-here : right spaces e.what ≡ true → again e.what named ≡ false → (at : ℕ) → at ≡ e.at → Bad spaces es at → ⊥
      bad-here is-right fresh at same (NotRight _ what m off) =
          clash (sym is-right ∙ ap (right spaces) (sym (ap (λ (f : Event). f.what) (only (event at what) m same))) ∙ off)
        where
          clash : true ≡ false → ⊥
          clash e = cc
      bad-here is-right fresh at same (Twice earlier _ slot n port other one lt two) =
          let before = earlier-done (event earlier (Points (Server port) (In slot n))) one (omega (arith, lt, same)) in
          let what = ap (λ (f : Event). f.what) (only (event at (Points (Server other) (In slot n))) two same) in
          clash (sym (names-again e.what named n slot (other, sym what) ((names n slot).1 (earlier, port, before))) ∙ fresh)
        where
          clash : true ≡ false → ⊥
          clash e = cc

      left-more : right spaces e.what ≡ true → again e.what named ≡ false → IsLeft es rest
      left-more is-right fresh at bad = let l = left at bad in by l.0 (among-cons (event at l.0) e rest (e ∷ rest) refl l.1)
        where
          by : (what : What) → (event at what ≡ e) ⊎ Among (event at what) rest → (what : What) × Among (event at what) rest
          by what (inl h) = absurd (bad-here is-right fresh at (ap (λ (f : Event). f.at) h) bad)
          by what (inr h) = (what, h)

      bad-again : again e.what named ≡ true → Bad spaces es e.at
      bad-again is-again =
          let h = again-names e.what named is-again in
          let old = (names h.0 h.1).0 h.3 in
          let first = event old.0 (Points (Server old.1) (In h.1 h.0)) in
          Twice old.0 e.at h.1 h.0 old.1 h.2.0 (subst (Among first) (sym is) (among-first first done (e ∷ rest) old.2)) (early first old.2)
          (subst (λ w. Among (event e.at w) es) h.2.1 here)

      by : (a : Bool) → right spaces e.what ≡ a → (b : Bool) → again e.what named ≡ b
          → (NamedIn (done ++ e ∷ []) (with_named e.what named) → IsLeft es rest → Told spaces es (judge spaces rest (with_named e.what named)))
          → Told spaces es (cond (a && not b) (judge spaces rest (with_named e.what named)) (Err e.at))
      by true is-right false fresh go = go names-more (left-more is-right fresh)
      by true is-right true is-again go = (bad-again is-again, not-before)
      by false off b any go = (NotRight e.at e.what here off, not-before)

  pub told : (es : List Event) → Rises low es high → Told spaces es (judge spaces es nobody)
  told es rises = told-by es [] es nobody refl rises none (bad-low es)
    where
      none : NamedIn [] nobody
      none n slot = ((λ e. absurd cc), (λ h. absurd (among-none _ [] refl h.2)))
