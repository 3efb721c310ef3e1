-- The faults at a port that a porter hasn't taken are among those of a list, change by change.
use Rattle.std.proofs.Common.{◌≡◌, ℕ, zero, suc, ◌+◌, ◌≤◌, Bool, true, false, not, cond, if◌then◌else◌, ◌||◌, is_some, List, [], ◌∷◌, ◌++◌, length, map, Option}
use Rattle.std.proofs.Common.{Some, None, option_map, refl, sym, ap, subst, ◌∙◌, ◌⊎◌, inl, inr, arith}
use Rattle.std.proofs.lemmas.Option.{same_Some}
use Rattle.fk_model.specs.Places.{Path, same_path, parent, slot_of, Ptr, leads_to}
use Rattle.fk_model.specs.Places.Ptr.{At}
use Rattle.fk_model.specs.Objects.{Peer, Fault, Thread, Body, thread_of, and_then, holds}
use Rattle.fk_model.specs.Objects.Peer.{Server, Service, Parked}
use Rattle.fk_model.specs.Objects.Body.{Space, Thread_of}
use Rattle.fk_model.specs.World.{World, Change, Edit, serves, edited, through, death_sweep, following, follow, follow_peer, fault_without, taker_without, apply}
use Rattle.fk_model.specs.World.{apply_all}
use Rattle.fk_model.specs.World.Change.{Alter, Make, MakeSpace, Kill, Move, PutPage, DropPage}
use Rattle.fk_model.specs.World.Edit.{SetFault, SetTaker}
use Rattle.fk_model.specs.Searches.{fault_at}
use Rattle.fk_model.specs.LinkRows.{is_open}
use Rattle.fk_model.specs.Outcomes.{Outcome, listed}
use Rattle.fk_model.specs.Outcomes.Outcome.{Refused, Waits, Goes}
use Rattle.laws_filled_bounds.specs.Taken.IsSparing.{Here, Goes as Runs}
use Rattle.fk_model.specs.Moves.{outcome, stepped, step}
use Rattle.fk_model.specs.Runs.{Event, after}
use Rattle.fk_model.proofs.walks.Members.{IsIn}
use Rattle.fk_model.proofs.walks.PlaceLaws.{same_path_eq, same_path_refl, leads_to_at}
use Rattle.laws_filled.proofs.Kept.{fault_of, sets_fault, fault-edited}
use Rattle.laws_filled_bounds.specs.Gentle.{IsGentle, AreGentle}
use Rattle.laws_filled_bounds.specs.Taken.{raised_by, taken_by, raised_in, taken_in, spares, IsAtPort, AreSparing, IsSparing, TakenAreRaised}
use Rattle.laws_filled_bounds.proofs.Gentle.{rows_are_gentle_lem}

-- ---- lists of paths

unfoldable without : Path → List Path → List Path
without x [] = []
without x (y ∷ ys) = if same_path y x then ys else y ∷ without x ys

in-without : (z x : Path) (ys : List Path) → same_path z x ≡ false → IsIn z ys → IsIn z (without x ys)
unfolding without
in-without z x [] apart among = absurd among
in-without z x (y ∷ ys) apart among = by (same_path y x) refl among (in-without z x ys apart)
  where
    by : (b : Bool) → same_path y x ≡ b → (y ≡ z) ⊎ IsIn z ys → (IsIn z ys → IsIn z (without x ys)) → IsIn z (if b then ys else y ∷ without x ys)
    by true e (inl same) rest = let both : same_path z x ≡ true = ap (λ (q : Path). same_path q x) (sym same) ∙ e in absurd (cc)
    by true e (inr there) rest = there
    by false e (inl same) rest = inl same
    by false e (inr there) rest = inr (rest there)

without-short : (x : Path) (ys : List Path) → IsIn x ys → length (without x ys) + 1 ≡ length ys
unfolding without
without-short x [] among = absurd among
without-short x (y ∷ ys) among = by (same_path y x) refl among (without-short x ys)
  where
    by : (b : Bool) → same_path y x ≡ b → (y ≡ x) ⊎ IsIn x ys → (IsIn x ys → length (without x ys) + 1 ≡ length ys) →
        length (if b then ys else y ∷ without x ys) + 1 ≡ suc (length ys)
    by true e h rest = omega arith
    by false e (inl same) rest = let both : same_path y x ≡ true = ap (λ (q : Path). same_path q x) same ∙ same_path_refl x in absurd (cc)
    by false e (inr there) rest = omega (arith, rest there)

moved : Path → Path → Path → Path
moved x y q = if same_path q x then y else q

in-moved : (x y z : Path) (ys : List Path) → IsIn z ys → IsIn (moved x y z) (map (moved x y) ys)
in-moved x y z [] among = absurd among
in-moved x y z (u ∷ ys) (inl same) = inl (ap (moved x y) same)
in-moved x y z (u ∷ ys) (inr there) = inr (in-moved x y z ys there)

length-moved : (x y : Path) (ys : List Path) → length (map (moved x y) ys) ≡ length ys
length-moved x y [] = refl
length-moved x y (u ∷ ys) = ap suc (length-moved x y ys)

module _ (port me : Path) where
  -- ---- who is tracked

  abbrev Counts : Option Fault → Type 0
  Counts o = (fault : Fault) × (o ≡ Some fault) × (leads_to port fault.port ≡ true) × (holds (serves me) fault.taker ≡ false)

  abbrev IsTracked : List Path → World → Type 0
  IsTracked ys w = (y : Path) → Counts (fault_at w y) → IsIn y ys

  abbrev grown : Change → List Path → List Path
  grown (Alter x (SetFault (Some fault))) ys = if leads_to port fault.port then x ∷ ys else ys
  grown (Alter x (SetTaker taker)) ys = if holds (serves me) taker then without x ys else ys
  grown (Move x slot) ys = map (moved x (slot ∷ parent x)) ys
  grown other ys = ys

  none-counts : Counts None → ⊥
  none-counts c = cc

  -- ---- edits

  module _ (w : World) (ys : List Path) (tracked : IsTracked ys w) where
    altered : (x : Path) (edit : Edit) (zs : List Path) →
        (Counts (fault_of (option_map (edited edit) (w.body x))) → IsIn x zs) → ((y : Path) → same_path y x ≡ false → IsIn y ys → IsIn y zs) →
        IsTracked zs (apply (Alter x edit) w)
    unfolding apply
    altered x edit zs here there y = by (same_path y x) refl
      where
        by : (m : Bool) → same_path y x ≡ m → Counts (fault_of (cond m (option_map (edited edit) (w.body y)) (w.body y))) → IsIn y zs
        by true e counts = let same = same_path_eq y x e in
            subst (λ (q : Path). IsIn q zs) (sym same) (here (subst (λ (q : Path). Counts (fault_of (option_map (edited edit) (w.body q)))) same counts))
        by false e counts = there y e (tracked y counts)

    same-fault : (edit : Edit) (o : Option Body) → sets_fault edit ≡ false → fault_of (option_map (edited edit) o) ≡ fault_of o
    same-fault edit None other = refl
    same-fault edit (Some b) other = fault-edited edit b other

    plainly : (x : Path) (edit : Edit) → sets_fault edit ≡ false → IsTracked ys (apply (Alter x edit) w)
    plainly x edit other = altered x edit ys (λ counts. tracked x (subst Counts (same-fault edit (w.body x) other) counts)) (λ y apart among. among)

    -- a fault is raised, or ends
    new-fault : (new : Option Fault) (o : Option Body) → Counts (fault_of (option_map (edited (SetFault new)) o)) → Counts new
    unfolding edited
    new-fault new None counts = absurd (none-counts counts)
    new-fault new (Some (Thread_of t)) counts = counts
    new-fault new (Some b) counts = absurd (none-counts counts)

    raised : (x : Path) (fault : Fault) → IsTracked (grown (Alter x (SetFault (Some fault))) ys) (apply (Alter x (SetFault (Some fault))) w)
    raised x fault = by (leads_to port fault.port) refl
      where
        by : (b : Bool) → leads_to port fault.port ≡ b → IsTracked (if b then x ∷ ys else ys) (apply (Alter x (SetFault (Some fault))) w)
        by true e = altered x (SetFault (Some fault)) (x ∷ ys) (λ counts. inl refl) (λ y apart among. inr among)
        by false e = altered x (SetFault (Some fault)) ys (λ counts. absurd (off (new-fault (Some fault) (w.body x) counts))) (λ y apart among. among)
          where
            off : Counts (Some fault) → ⊥
            off counts = let on : leads_to port fault.port ≡ true = ap (λ (f : Fault). leads_to port f.port) (same_Some fault counts.0 counts.1) ∙ counts.2 in
                cc

    ended : (x : Path) → IsTracked ys (apply (Alter x (SetFault None)) w)
    ended x = altered x (SetFault None) ys (λ counts. absurd (none-counts (new-fault None (w.body x) counts))) (λ y apart among. among)

    -- an open fault is taken
    open-counts : (o : Option Fault) → holds (λ (fault : Fault). is_open fault.taker) o ≡ true → holds (λ (fault : Fault). leads_to port fault.port) o ≡ true →
        Counts o
    open-counts None opened at = cc
    open-counts (Some fault) opened at = (fault, refl, at, by fault.taker opened)
      where
        by : (t : Option Peer) → is_open t ≡ true → holds (serves me) t ≡ false
        by None e = refl
        by (Some Parked) e = refl
        by (Some Service) e = cc
        by (Some (Server thread)) e = cc

    retaken : (taker : Option Peer) (o : Option Body) → Counts (fault_of (option_map (edited (SetTaker taker)) o)) →
        (holds (serves me) taker ≡ false) × (holds (λ (fault : Fault). leads_to port fault.port) (fault_of o) ≡ true)
    unfolding edited
    retaken taker None counts = absurd (none-counts counts)
    retaken taker (Some (Thread_of t)) counts = by t.fault counts
      where
        by : (o : Option Fault) → Counts (option_map (λ (f : Fault). record f { taker = taker }) o) →
            (holds (serves me) taker ≡ false) × (holds (λ (fault : Fault). leads_to port fault.port) o ≡ true)
        by None counts = absurd (none-counts counts)
        by (Some f) counts = let same = same_Some (record f { taker = taker }) counts.0 counts.1 in
            (ap (λ (g : Fault). holds (serves me) g.taker) same ∙ counts.3, ap (λ (g : Fault). leads_to port g.port) same ∙ counts.2)
    retaken taker (Some b) counts = absurd (none-counts counts)

    taken : (x : Path) (taker : Option Peer) → holds (λ (fault : Fault). is_open fault.taker) (fault_at w x) ≡ true →
        IsTracked (grown (Alter x (SetTaker taker)) ys) (apply (Alter x (SetTaker taker)) w)
    taken x taker opened = by (holds (serves me) taker) refl
      where
        by : (b : Bool) → holds (serves me) taker ≡ b → IsTracked (if b then without x ys else ys) (apply (Alter x (SetTaker taker)) w)
        by true e = altered x (SetTaker taker) (without x ys) (λ counts. let both = retaken taker (w.body x) counts in absurd (apart e both.0))
            (λ y other among. in-without y x ys other among)
          where
            apart : {b : Bool} → b ≡ true → b ≡ false → ⊥
            apart f g = cc
        by false e = altered x (SetTaker taker) ys (λ counts. tracked x (open-counts (fault_at w x) opened (retaken taker (w.body x) counts).1))
            (λ y other among. among)

    -- ---- makes

    put-there : (x : Path) (body : Body) → fault_of (Some body) ≡ None → (y : Path) → Counts (fault_of (cond (same_path y x) (Some body) (w.body y))) →
        IsIn y ys
    put-there x body clear y counts = by (same_path y x) counts
      where
        by : (m : Bool) → Counts (fault_of (cond m (Some body) (w.body y))) → IsIn y ys
        by true c = absurd (none-counts (subst Counts clear c))
        by false c = tracked y c

    -- ---- deaths

    swept : (x : Path) (o : Option Body) (q : Path) → fault_of (option_map (through (death_sweep x) q) o) ≡ and_then (fault_without x) (fault_of o)
    swept x None q = refl
    swept x (Some (Thread_of t)) q = refl
    swept x (Some b) q = refl

    survived : (x : Path) (o : Option Fault) → same_path me x ≡ false → Counts (and_then (fault_without x) o) → Counts o
    survived x None other counts = absurd (none-counts counts)
    survived x (Some f) other counts = by (leads_to x f.port) counts
      where
        keeps : (t : Option Peer) → holds (serves me) (and_then (taker_without x) t) ≡ false → holds (serves me) t ≡ false
        keeps None e = refl
        keeps (Some Service) e = refl
        keeps (Some Parked) e = refl
        keeps (Some (Server thread)) e = of_bool (leads_to me thread) refl (leads_to x thread) refl e
          where
            of_bool : (m : Bool) → leads_to me thread ≡ m → (n : Bool) → leads_to x thread ≡ n →
                holds (serves me) (if n then None else Some (Server thread)) ≡ false → m ≡ false
            of_bool false g n h e = refl
            of_bool true g false h e = sym g ∙ e
            of_bool true g true h e =
                let mine = leads_to_at me thread g in
                let both : same_path me x ≡ true = ap (leads_to x) (sym mine) ∙ h in absurd (cc)

        by : (b : Bool) → Counts (if b then None else Some (record f { taker = and_then (taker_without x) f.taker })) → Counts (Some f)
        by true c = absurd (none-counts c)
        by false c = let same = same_Some (record f { taker = and_then (taker_without x) f.taker }) c.0 c.1 in
            (f, refl, ap (λ (g : Fault). leads_to port g.port) same ∙ c.2, keeps f.taker (ap (λ (g : Fault). holds (serves me) g.taker) same ∙ c.3))

    killed : (x : Path) → same_path me x ≡ false → IsTracked ys (apply (Kill x) w)
    unfolding apply
    killed x other y counts = by (same_path y x) counts
      where
        by : (m : Bool) → Counts (fault_of (cond m None (option_map (through (death_sweep x) y) (w.body y)))) → IsIn y ys
        by true c = absurd (none-counts c)
        by false c = tracked y (survived x (fault_at w y) other (subst Counts (swept x (w.body y) y) c))

    -- ---- renames

    followed : (x z : Path) (o : Option Body) (q : Path) → fault_of (option_map (through (following x z) q) o)
        ≡ and_then (λ (f : Fault). Some (record f { port = follow x z f.port; taker = option_map (follow_peer x z) f.taker })) (fault_of o)
    followed x z None q = refl
    followed x z (Some (Thread_of t)) q = refl
    followed x z (Some b) q = refl

    -- where x isn't u, and z isn't either, what follows leads to u as before
    follows-to : (x z u : Path) (to : Ptr) → same_path u x ≡ false → same_path z u ≡ false → leads_to u (follow x z to) ≡ leads_to u to
    follows-to x z u to other off = by (leads_to x to) refl
      where
        by : (b : Bool) → leads_to x to ≡ b → leads_to u (if b then At z else to) ≡ leads_to u to
        by false e = refl
        by true e = off ∙ sym (ap (leads_to u) (leads_to_at x to e) ∙ turned (same_path x u) refl)
          where
            turned : (b : Bool) → same_path x u ≡ b → same_path x u ≡ false
            turned true f = let both : same_path u x ≡ true = ap (λ (q : Path). same_path q x) (sym (same_path_eq x u f)) ∙ same_path_refl x in absurd (cc)
            turned false f = f

    back : (x z : Path) (o : Option Fault) → same_path port x ≡ false → same_path me x ≡ false → same_path z port ≡ false → same_path z me ≡ false →
        Counts (and_then (λ (f : Fault). Some (record f { port = follow x z f.port; taker = option_map (follow_peer x z) f.taker })) o) → Counts o
    back x z None a b c e counts = absurd (none-counts counts)
    back x z (Some f) a b c e counts =
        let same = same_Some (record f { port = follow x z f.port; taker = option_map (follow_peer x z) f.taker }) counts.0 counts.1 in (
          f,
          refl,
          sym (follows-to x z port f.port a c) ∙ ap (λ (g : Fault). leads_to port g.port) same ∙ counts.2,
          by f.taker (ap (λ (g : Fault). holds (serves me) g.taker) same ∙ counts.3),
        )
      where
        by : (t : Option Peer) → holds (serves me) (option_map (follow_peer x z) t) ≡ false → holds (serves me) t ≡ false
        by None h = refl
        by (Some (Server thread)) h = sym (follows-to x z me thread b e) ∙ h
        by (Some Service) h = refl
        by (Some Parked) h = refl

    renamed : (x : Path) (slot : ℕ) → same_path port x ≡ false → same_path me x ≡ false → same_path (slot ∷ parent x) port ≡ false →
        same_path (slot ∷ parent x) me ≡ false →
        IsTracked (map (moved x (slot ∷ parent x)) ys) (apply (Move x slot) w)
    unfolding apply moved
    renamed x slot a b c e y counts = by (same_path y (slot ∷ parent x)) refl (same_path y x) refl counts
      where
        z : Path
        z = slot ∷ parent x

        by : (m : Bool) → same_path y (slot ∷ parent x) ≡ m → (n : Bool) → same_path y x ≡ n →
            Counts (fault_of (cond m (option_map (through (following x (slot ∷ parent x)) (slot ∷ parent x)) (w.body x))
            (cond n None (option_map (through (following x (slot ∷ parent x)) y) (w.body y))))) → IsIn y (map (moved x (slot ∷ parent x)) ys)
        by true f n g h =
            let there = in-moved x (slot ∷ parent x) x ys
            (tracked x (back x (slot ∷ parent x) (fault_at w x) a b c e (subst Counts (followed x (slot ∷ parent x) (w.body x) (slot ∷ parent x)) h))) in
            subst (λ (q : Path). IsIn q (map (moved x (slot ∷ parent x)) ys))
            (ap (λ (m : Bool). if m then slot ∷ parent x else x) (same_path_refl x) ∙ sym (same_path_eq y (slot ∷ parent x) f)) there
        by false f true g h = absurd (none-counts h)
        by false f false g h =
            let there = in-moved x (slot ∷ parent x) y ys
            (tracked y (back x (slot ∷ parent x) (fault_at w y) a b c e (subst Counts (followed x (slot ∷ parent x) (w.body y) y) h))) in
            subst (λ (q : Path). IsIn q (map (moved x (slot ∷ parent x)) ys)) (ap (λ (m : Bool). if m then slot ∷ parent x else y) g) there

  -- ---- one change, whatever it is

  abbrev Stand : World → Type 0
  Stand w = (is_some (w.body port) ≡ true) × (is_some (w.body me) ≡ true)

  not-true : (b : Bool) → not b ≡ true → b ≡ false
  not-true true e = cc
  not-true false e = refl

  -- an empty place isn't where something stands
  empty-apart : (w : World) (z q : Path) → w.body z ≡ None → is_some (w.body q) ≡ true → same_path z q ≡ false
  empty-apart w z q empty there = by (same_path z q) refl
    where
      by : (b : Bool) → same_path z q ≡ b → same_path z q ≡ false
      by true e = let none : is_some (w.body q) ≡ false = ap is_some (sym (ap (λ (u : Path). w.body u) (same_path_eq z q e)) ∙ empty) in cc
      by false e = e

  stays-there : (w : World) (c : Change) (q : Path) → IsGentle w c → spares q c ≡ true → is_some (w.body q) ≡ true → is_some ((apply c w).body q) ≡ true
  unfolding apply
  stays-there w (Alter x edit) q gentle spared there = by (same_path q x)
    where
      mapped : (o : Option Body) → is_some o ≡ true → is_some (option_map (edited edit) o) ≡ true
      mapped None e = cc
      mapped (Some b) e = refl

      by : (m : Bool) → is_some (cond m (option_map (edited edit) (w.body q)) (w.body q)) ≡ true
      by true = mapped (w.body q) there
      by false = there
  stays-there w (Make x body) q gentle spared there = by (same_path q x)
    where
      by : (m : Bool) → is_some (cond m (Some body) (w.body q)) ≡ true
      by true = refl
      by false = there
  stays-there w (MakeSpace x holder) q gentle spared there = by (same_path q x)
    where
      by : (m : Bool) → is_some (cond m (Some (Space w.next holder)) (w.body q)) ≡ true
      by true = refl
      by false = there
  stays-there w (Kill x) q gentle spared there = rw (not-true _ spared) (by (w.body q) there)
    where
      by : (o : Option Body) → is_some o ≡ true → is_some (option_map (through (death_sweep x) q) o) ≡ true
      by None e = cc
      by (Some b) e = refl
  stays-there w (Move x slot) q gentle spared there =
      rw (turned (same_path q (slot ∷ parent x)) refl, not-true _ spared) (by (w.body q) there)
    where
      turned : (b : Bool) → same_path q (slot ∷ parent x) ≡ b → same_path q (slot ∷ parent x) ≡ false
      turned true e = let none : is_some (w.body q) ≡ false = ap is_some (ap (λ (u : Path). w.body u) (same_path_eq q (slot ∷ parent x) e) ∙ gentle) in cc
      turned false e = e

      by : (o : Option Body) → is_some o ≡ true → is_some (option_map (through (following x (slot ∷ parent x)) q) o) ≡ true
      by None e = cc
      by (Some b) e = refl
  stays-there w (PutPage space page words) q gentle spared there = there
  stays-there w (DropPage space page) q gentle spared there = there

  module _ (w : World) (ys : List Path) (tracked : IsTracked ys w) (stand : Stand w) where
    abbrev Follows : Change → Type 0
    Follows c = IsTracked (grown c ys) (apply c w) × (length (grown c ys) + taken_by me c ≤ length ys + raised_by port c)

    follows-raise : (x : Path) (fault : Fault) → Follows (Alter x (SetFault (Some fault)))
    follows-raise x fault = (raised w ys tracked x fault, by (leads_to port fault.port))
      where
        by : (b : Bool) → length (if b then x ∷ ys else ys) + 0 ≤ length ys + (if b then 1 else 0)
        by true = omega arith
        by false = omega arith

    follows-take : (x : Path) (taker : Option Peer) → holds (λ (fault : Fault). is_open fault.taker) (fault_at w x) ≡ true →
        IsAtPort port me w (Alter x (SetTaker taker)) →
        Follows (Alter x (SetTaker taker))
    follows-take x taker opened at = (taken w ys tracked x taker opened, by (holds (serves me) taker) refl)
      where
        by : (b : Bool) → holds (serves me) taker ≡ b → length (if b then without x ys else ys) + (if b then 1 else 0) ≤ length ys + 0
        by true e = omega (arith, without-short x ys (tracked x (open-counts w ys tracked (fault_at w x) opened (at e))))
        by false e = omega arith

    follows : (c : Change) → IsGentle w c → spares port c ≡ true → spares me c ≡ true → IsAtPort port me w c → Follows c
    unfolding apply
    follows (Alter x (SetFault (Some fault))) gentle a b at = follows-raise x fault
    follows (Alter x (SetFault None)) gentle a b at = (ended w ys tracked x, omega arith)
    follows (Alter x (SetTaker taker)) gentle a b at = follows-take x taker gentle at
    follows (Alter x edit) gentle a b at = (plainly w ys tracked x edit refl, omega arith)
    follows (Make x body) gentle a b at = (made, omega arith)
      where
        made : IsTracked ys (apply (Make x body) w)
        made y counts = put-there w ys tracked x body gentle y counts
    follows (MakeSpace x holder) gentle a b at = (made, omega arith)
      where
        made : IsTracked ys (apply (MakeSpace x holder) w)
        made y counts = put-there w ys tracked x (Space w.next holder) refl y counts
    follows (Kill x) gentle a b at = (killed w ys tracked x (not-true _ b), omega arith)
    follows (Move x slot) gentle a b at = (
      renamed w ys tracked x slot (not-true _ a) (not-true _ b) (empty-apart w (slot ∷ parent x) port gentle stand.0)
          (empty-apart w (slot ∷ parent x) me gentle stand.1),
      omega (arith, length-moved x (slot ∷ parent x) ys),
    )
    follows (PutPage space page words) gentle a b at = (tracked, omega arith)
    follows (DropPage space page) gentle a b at = (tracked, omega arith)

  -- ---- lists of changes, and runs

  record Comes (w : World) (ys : List Path) (taken raised : ℕ) : Type 0 where
    list : List Path
    tracked : IsTracked list w
    stand : Stand w
    short : length list + taken ≤ length ys + raised

  all-follow : (cs : List Change) (w : World) (ys : List Path) → IsTracked ys w → Stand w → AreGentle w cs → AreSparing port me w cs →
      Comes (apply_all cs w) ys (taken_in me cs) (raised_in port cs)
  unfolding apply_all
  all-follow [] w ys tracked stand gentle sparing = record { list = ys; tracked = tracked; stand = stand; short = omega arith }
  all-follow (c ∷ cs) w ys tracked stand gentle sparing =
      let one = follows w ys tracked stand c gentle.0 sparing.0 sparing.1 sparing.2 in
      let there : Stand (apply c w) = (stays-there w c port gentle.0 sparing.0 stand.0, stays-there w c me gentle.0 sparing.1 stand.1) in
      let rest = all-follow cs (apply c w) (grown c ys) one.0 there gentle.1 sparing.3 in
      record { list = rest.list; tracked = rest.tracked; stand = rest.stand; short = omega (arith, one.1, rest.short) }

  after-listed : (w : World) (o : Outcome) → (stepped w o).world ≡ apply_all (listed o) w
  unfolding apply_all
  after-listed w (Goes changes said) = refl
  after-listed w (Refused status) = refl
  after-listed w Waits = refl

  runs-follow : (w v : World) (taken raised : ℕ) (ys : List Path) → IsTracked ys w → Stand w → IsSparing port me w v taken raised → Comes v ys taken raised
  unfolding step
  runs-follow w _ _ _ ys tracked stand (Here _) = record { list = ys; tracked = tracked; stand = stand; short = omega arith }
  runs-follow w v _ _ ys tracked stand (Runs _ e _ taken raised sparing moves) =
      let one = all-follow (listed (outcome w e.mover e.pick e.ask)) w ys tracked stand (rows_are_gentle_lem w e.mover e.pick e.ask) sparing in
      let same = sym (after-listed w (outcome w e.mover e.pick e.ask)) in
      let rest = runs-follow (after w e) v taken raised one.list (subst (IsTracked one.list) same one.tracked) (subst Stand same one.stand) moves in
      record { list = rest.list; tracked = rest.tracked; stand = rest.stand; short = omega (arith, one.short, rest.short) }

pub taken_are_raised_lem : TakenAreRaised
taken_are_raised_lem port me w v taken raised there mine clear moves =
    let end = runs-follow port me w v taken raised [] (λ y counts. let none = clear y in absurd (none-counts port me (subst (Counts port me) none counts)))
    (there, mine) moves in
    omega (arith, end.short)
