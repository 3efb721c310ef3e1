-- The fields that count, and what the answers to two look-ups tell of a pointer.
use Rattle.std.proofs.Common.{◌≡◌, ℕ, suc, Bool, true, false, cond, not, ◌&&◌, ◌||◌, ◌==◌, nat_le, is_some, List, [], ◌∷◌, ◌++◌, length, Option, Some, None}
use Rattle.std.proofs.Common.{option_map, refl, sym, ap, subst, arith, length-append, ◌∙◌}
use Rattle.std.specs.List.{list_any}
use Rattle.std.proofs.lemmas.Bool.{ne_eqb}
use Rattle.std.proofs.lemmas.Bool.Decides.{nat_tests}
use Rattle.fk_model.specs.declared.limits.TheConstants.{OWN_SPACE, LAST_PORTER_SLOT}
use Rattle.fk_model.specs.declared.names.Kind.TheVariants as kinds
use Rattle.fk_model.specs.Places.{Path, same_path, strip, Ptr, leads_to}
use Rattle.fk_model.specs.Places.Ptr.{Null, Dead, At, Out, Outside, Far}
use Rattle.fk_model.specs.Objects.{Window, Extent, Talk, Fault, Thread, Body, kind_of, and_then, or_else, holds}
use Rattle.fk_model.specs.Objects.Body.{Mutex, Cond, Mapping, Region, Port, Portset, Space, Thread_of, Reference}
use Rattle.fk_model.specs.World.{World}
use Rattle.fk_model.specs.Searches.{pointers, talk_pointers, fault_pointers}
use Rattle.fk_model.specs.Holds.{holder_of}
use Rattle.fk_model.specs.Readers.{kind_at}
use Rattle.fk_model.specs.StateRows.{Field, field_of, field_number}
use Rattle.fk_model.specs.StateRows.Field.{Pointer, NoThread}
use Rattle.fk_model.specs.ObjectRows.{way_down, way_to, kind_number}
use Rattle.fk_model.specs.Valid.{IsValid, kind_there}
use Rattle.fk_model.specs.Closed.{far_field, when_bad}
use Rattle.fk_model.specs.Cut.{is_port, ports_of, cut_out, cut_ptr, cutting, seen_by, is_far, is_out}
use Rattle.laws_moves.specs.Frozen.Holding.{IsHolding}
use Rattle.fk_model.proofs.walks.PlaceLaws.{same_path_refl, same_path_ne, strip_some, strip-append}
use Rattle.laws_checkpoint.specs.Foreign.{fields_of, is_strict, tells_port, told_pointer, located_at, PointerIsTold}

-- ---- the fields that count

pub data Counted : Body → ℕ → Type 0 where
  Maps : {m : Window} → Counted (Mapping m) 0
  Keeps : {r : Extent} → Counted (Region r) 0
  Refers : {to : Ptr} → Counted (Reference to) 0
  Holds : {birth : ℕ} {holder : Option Ptr} → Counted (Space birth holder) 0
  Talks : {t : Thread} → Counted (Thread_of t) 0
  Faults : {t : Thread} → Counted (Thread_of t) 2

abbrev pub AllCounted : Body → List ℕ → Type 0
AllCounted b [] = Unit {0}
AllCounted b (n ∷ ns) = Counted b n × AllCounted b ns

pub all_counted : (b : Body) → AllCounted b (fields_of (Some b))
all_counted (Mapping m) = (Maps, tt)
all_counted (Region r) = (Keeps, tt)
all_counted (Reference to) = (Refers, tt)
all_counted (Space birth holder) = (Holds, tt)
all_counted (Thread_of t) = (Talks, (Faults, tt))
all_counted (Mutex locked) = tt
all_counted Cond = tt
all_counted (Port set served) = tt
all_counted Portset = tt

-- what a field of a body, seen alone or not, leads to
abbrev pub leads_by : Option Field → Ptr
leads_by None = Null
leads_by (Some (Pointer p)) = p
leads_by (Some NoThread) = Null

abbrev pub seen_at : ℕ → Option Body → Ptr
seen_at n None = Null
seen_at n (Some b) = leads_by (field_of n b)

abbrev pub is_bad : Bool → Ptr → Bool
is_bad strict p = is_far p || (strict && is_out p)

abbrev pub first_bad : Bool → Option Body → List ℕ → Option ℕ
first_bad strict o [] = None
first_bad strict o (n ∷ ns) = or_else (when_bad (is_bad strict (seen_at n o)) n) (first_bad strict o ns)

last_bad : (t : Bool) (n : ℕ) → when_bad t n ≡ or_else (when_bad t n) None
last_bad true n = refl
last_bad false n = refl

loose : (p : Ptr) → is_far p ≡ is_bad false p
loose Null = refl
loose Dead = refl
loose (At x) = refl
loose (Out i) = refl
loose Outside = refl
loose Far = refl

pub far_is : (o : Option Body) → far_field o ≡ first_bad (is_strict o) o (fields_of o)
far_is None = refl
far_is (Some (Mapping m)) = last_bad (is_far m.region || is_out m.region) 0
far_is (Some (Region r)) = ap (λ t. when_bad t 0) (loose r.keeper) ∙ last_bad (is_bad false r.keeper) 0
far_is (Some (Reference to)) = ap (λ t. when_bad t 0) (loose to) ∙ last_bad (is_bad false to) 0
far_is (Some (Space birth None)) = refl
far_is (Some (Space birth (Some p))) = last_bad (is_far p || is_out p) 0
far_is (Some (Thread_of t)) = by t.talk t.fault
  where
    by : (o : Option Talk) (p : Option Fault) → or_else (when_bad (holds (λ (talk : Talk). is_far talk.port) o) 0)
        (when_bad (holds (λ (fault : Fault). is_far fault.port) p) 2)
        ≡ first_bad false (Some (Thread_of (record t { talk = o; fault = p }))) (0 ∷ 2 ∷ [])
    by None None = refl
    by None (Some fault) = ap (λ b. when_bad b 2) (loose fault.port) ∙ last_bad (is_bad false fault.port) 2
    by (Some talk) None = ap (λ b. or_else (when_bad b 0) None) (loose talk.port)
    by (Some talk) (Some fault) =
        ap (λ b. or_else (when_bad b 0) (when_bad (is_far fault.port) 2)) (loose talk.port)
        ∙ ap (λ b. or_else (when_bad (is_bad false talk.port) 0) (when_bad b 2)) (loose fault.port)
        ∙ ap (or_else (when_bad (is_bad false talk.port) 0)) (last_bad (is_bad false fault.port) 2)
far_is (Some (Mutex locked)) = refl
far_is (Some Cond) = refl
far_is (Some (Port set served)) = refl
far_is (Some Portset) = refl

module _ (ports : ℕ → Bool) (nester : Path) (slot : ℕ) where
  abbrev see : Body → Body
  see b = seen_by (cutting ports nester slot) b

  pub same_fields : (b : Body) → fields_of (Some (see b)) ≡ fields_of (Some b)
  unfolding seen_by
  same_fields (Mapping m) = refl
  same_fields (Region r) = refl
  same_fields (Reference to) = refl
  same_fields (Space birth holder) = refl
  same_fields (Thread_of t) = refl
  same_fields (Mutex locked) = refl
  same_fields Cond = refl
  same_fields (Port set served) = refl
  same_fields Portset = refl

  pub record IsCounted (b : Body) (n : ℕ) : Type 0 where
    pub to : Ptr
    pub field : field_of n b ≡ Some (Pointer to)
    pub seen : seen_at n (Some (see b)) ≡ cut_ptr ports nester slot to
    pub near : (x : Path) → leads_to x to ≡ true → list_any (leads_to x) (pointers b) ≡ true

  one_on : (x : Path) (p : Ptr) (ps : List Ptr) → leads_to x p ≡ true → list_any (leads_to x) (p ∷ ps) ≡ true
  one_on x p ps h = rw h refl

  on_right : (x : Path) (ps qs : List Ptr) → list_any (leads_to x) qs ≡ true → list_any (leads_to x) (ps ++ qs) ≡ true
  on_right x [] qs h = h
  on_right x (p ∷ ps) qs h = by (leads_to x p) (on_right x ps qs h)
    where
      by : (t : Bool) → list_any (leads_to x) (ps ++ qs) ≡ true → (t || list_any (leads_to x) (ps ++ qs)) ≡ true
      by true rest = refl
      by false rest = rest

  pub counted : (b : Body) (n : ℕ) → Counted b n → IsCounted b n
  unfolding seen_by
  counted (Mapping m) _ Maps = record { to = m.region; field = refl; seen = refl; near = λ x led. one_on x m.region [] led }
  counted (Region r) _ Keeps = record { to = r.keeper; field = refl; seen = refl; near = λ x led. one_on x r.keeper [] led }
  counted (Reference to) _ Refers = record { to = to; field = refl; seen = refl; near = λ x led. one_on x to [] led }
  counted (Space birth None) _ Holds = record { to = Null; field = refl; seen = refl; near = λ x led. cc }
  counted (Space birth (Some p)) _ Holds = record { to = p; field = refl; seen = refl; near = λ x led. one_on x p [] led }
  counted (Mutex locked) n c = elim c [ ]
  counted Cond n c = elim c [ ]
  counted (Port set served) n c = elim c [ ]
  counted Portset n c = elim c [ ]
  counted (Thread_of t) _ Talks = by t.talk
    where
      by : (o : Option Talk) → IsCounted (Thread_of (record t { talk = o })) 0
      by None = record { to = Null; field = refl; seen = refl; near = λ x led. cc }
      by (Some talk) = record { to = talk.port; field = refl; seen = refl; near = λ x led. rw led refl }
  counted (Thread_of t) _ Faults = by t.talk t.fault
    where
      by : (o : Option Talk) (p : Option Fault) → IsCounted (Thread_of (record t { talk = o; fault = p })) 2
      by o None = record { to = Null; field = refl; seen = refl; near = λ x led. cc }
      by None (Some fault) = record { to = fault.port; field = refl; seen = refl; near = λ x led. rw led refl }
      by (Some talk) (Some fault) = record {
        to = fault.port;
        field = refl;
        seen = refl;
        near = λ x led. on_right x (talk_pointers talk) (fault_pointers fault) (rw led refl);
      }

-- ---- what the two look-ups tell of a pointer that leads somewhere

module _ (nester : Path) (slot : ℕ) (w : World) (holding : IsHolding nester slot w) (valid : IsValid w) where
  abbrev root : Path
  root = slot ∷ nester

  abbrev cut_to : Ptr → Ptr
  cut_to p = cut_ptr (ports_of w nester slot) nester slot p

  live_kind : (o : Option Body) → holder_of o ≡ Some (At (LAST_PORTER_SLOT ∷ nester)) → option_map kind_of o ≡ Some kinds.Space
  live_kind (Some (Space birth holder)) h = refl
  live_kind (Some (Mutex locked)) h = cc
  live_kind (Some Cond) h = cc
  live_kind (Some (Mapping m)) h = cc
  live_kind (Some (Region r)) h = cc
  live_kind (Some (Port set served)) h = cc
  live_kind (Some Portset) h = cc
  live_kind (Some (Thread_of t)) h = cc
  live_kind (Some (Reference to)) h = cc
  live_kind None h = cc

  pub root_kind : kind_there w root ≡ Some kinds.Space
  unfolding kind_there
  root_kind = live_kind (w.body root) holding.holder

  is_there : (o : Option Body) → option_map kind_of o ≡ Some kinds.Space → is_some o ≡ true
  is_there None h = cc
  is_there (Some b) h = refl

  kind_live : (x : Path) → kind_there w x ≡ Some kinds.Space → is_some (w.body x) ≡ true
  unfolding kind_there
  kind_live x h = is_there (w.body x) h

  pub above_kind : (k : ℕ) (x : Path) → kind_there w (k ∷ x) ≡ Some kinds.Space → kind_there w x ≡ Some kinds.Space
  above_kind k x h = valid.consistent.parents k x (kind_live (k ∷ x) h)

  pub nester_kind : kind_there w nester ≡ Some kinds.Space
  nester_kind = above_kind slot nester root_kind

  -- it is inside exactly where it can be located from the root
  pub told_inside : (to : Ptr) → is_some (way_to root to) ≡ true → (strict : Bool) → is_bad strict (cut_to to) ≡ false
  told_inside (At x) h strict = by (strip root x) h
    where
      off : (strict : Bool) (q : Path) → is_bad strict (At q) ≡ false
      off true q = refl
      off false q = refl

      by : (o : Option Path) → is_some (option_map way_down o) ≡ true
          → is_bad strict (elim o [ None ↦ cut_out (ports_of w nester slot) nester x | Some q ↦ At q ]) ≡ false
      by None h = cc
      by (Some q) h = off strict q
  told_inside Null h strict = cc
  told_inside Dead h strict = cc
  told_inside (Out i) h strict = cc
  told_inside Outside h strict = cc
  told_inside Far h strict = cc

  -- what leads somewhere, and not inside, leads out or far
  abbrev pub Somewhere : Ptr → Type 0
  Somewhere to = field_number (Pointer to) ≡ 2

  strict_out : (nester : Path) (ports : ℕ → Bool) (x : Path) → is_bad true (cut_out ports nester x) ≡ true
  strict_out nester ports [] = refl
  strict_out nester ports (i ∷ x) = by (same_path x nester && ports i)
    where
      by : (t : Bool) → is_bad true (cond t (Out i) Far) ≡ true
      by true = refl
      by false = refl

  pub told_outside : (to : Ptr) → Somewhere to → is_some (way_to root to) ≡ false → is_bad true (cut_to to) ≡ true
  told_outside (At x) some h = by (strip root x) h
    where
      by : (o : Option Path) → is_some (option_map way_down o) ≡ false
          → is_bad true (elim o [ None ↦ cut_out (ports_of w nester slot) nester x | Some q ↦ At q ]) ≡ true
      by None h = strict_out nester (ports_of w nester slot) x
      by (Some q) h = cc
  told_outside Null some h = cc
  told_outside Dead some h = cc
  told_outside (Out i) some h = refl
  told_outside Outside some h = refl
  told_outside Far some h = refl

  -- a port of the nester is told as one
  abbrev pub beside : Ptr → Bool
  beside to = elim (way_to nester to) [
    | None ↦ false
    | Some way ↦ tells_port (way ++ kind_number (kind_at w to) ∷ [])
  ]

  far_bad : (x : Path) → ((i : ℕ) → x ≡ i ∷ nester → ⊥) → is_bad false (cut_out (ports_of w nester slot) nester x) ≡ true
  far_bad [] apart = refl
  far_bad (i ∷ x) apart = rw (same_path_ne x nester (λ e. apart i (ap (λ (y : Path). i ∷ y) e))) refl

  port_number : (o : Option Body) → (kind_number (and_then (λ b. Some (kind_of b)) o) == 5) ≡ is_port o
  port_number None = refl
  port_number (Some (Mutex locked)) = refl
  port_number (Some Cond) = refl
  port_number (Some (Mapping m)) = refl
  port_number (Some (Region r)) = refl
  port_number (Some (Port set served)) = refl
  port_number (Some Portset) = refl
  port_number (Some (Space birth holder)) = refl
  port_number (Some (Thread_of t)) = refl
  port_number (Some (Reference to)) = refl

  no_port : (o : Option Body) → option_map kind_of o ≡ Some kinds.Space → is_port o ≡ false
  no_port (Some (Port set served)) h = cc
  no_port (Some (Mutex locked)) h = refl
  no_port (Some b) h = refl
  no_port None h = refl

  nester_no_port : is_port (w.body nester) ≡ false
  unfolding kind_there
  nester_no_port = no_port (w.body nester) nester_kind

  own_slot : (i : ℕ) → is_some (way_to root (At (i ∷ nester))) ≡ false → (i == slot) ≡ false
  own_slot i off = ne_eqb i slot (λ e. let on : is_some (option_map way_down (strip root root))
      ≡ true = ap (λ (o : Option Path). is_some (option_map way_down o)) (strip-append root []) in
      let here : is_some (option_map way_down (strip root root))
      ≡ false = subst (λ (k : ℕ). is_some (option_map way_down (strip root (k ∷ nester))) ≡ false) e off in
      let both = sym on ∙ here in cc)

  beside_one : (i : ℕ) → is_some (way_to root (At (i ∷ nester))) ≡ false
      → (kind_number (kind_at w (At (i ∷ nester))) == 5) ≡ not (is_bad false (cut_out (ports_of w nester slot) nester (i ∷ nester)))
  beside_one i off = port_number (w.body (i ∷ nester)) ∙ rw (same_path_refl nester, own_slot i off) (by (is_port (w.body (i ∷ nester))))
    where
      by : (t : Bool) → t ≡ not (is_bad false (cond t (Out i) Far))
      by true = refl
      by false = refl

  outer_cut : (x : Path) → strip root x ≡ None → cut_to (At x) ≡ cut_out (ports_of w nester slot) nester x
  outer_cut x e = rw e refl

  not_within : (o : Option Path) → is_some (option_map way_down o) ≡ false → o ≡ None
  not_within None h = refl
  not_within (Some q) h = cc

  two_long : (n : ℕ) → nat_le (suc (suc n)) 1 ≡ false
  two_long n = grind (arith, nat_tests)

  beside_at : (x q : Path) → x ≡ q ++ nester → is_some (way_to root (At x)) ≡ false
      → tells_port (way_down q ++ kind_number (kind_at w (At x)) ∷ []) ≡ not (is_bad false (cut_to (At x)))
  beside_at x [] e off =
      ap (λ (o : Option Body). kind_number (and_then (λ b. Some (kind_of b)) o) == 5) (ap w.body e) ∙ port_number (w.body nester) ∙ nester_no_port
      ∙ sym (ap not (ap (is_bad false) (outer_cut x (not_within (strip root x) off))
      ∙ far_bad x (λ i same. let long = ap length (sym e ∙ same) in omega (arith, long))))
  beside_at x (i ∷ []) e off =
      let here : is_some (way_to root (At (i ∷ nester))) ≡ false = subst (λ (y : Path). is_some (way_to root (At y)) ≡ false) e off in
      ap (λ (y : Path). kind_number (kind_at w (At y)) == 5) e ∙ beside_one i here
      ∙ sym (ap not (ap (is_bad false) (outer_cut x (not_within (strip root x) off) ∙ ap (cut_out (ports_of w nester slot) nester) e)))
  beside_at x (j ∷ i ∷ q) e off =
      rw (two_long (length q)) refl ∙ sym (ap not (ap (is_bad false) (outer_cut x (not_within (strip root x) off))
      ∙ far_bad x (λ k same. let long = ap length (sym e ∙ same) in omega (arith, long, length-append q nester))))

  pub told_beside : (to : Ptr) → Somewhere to → is_some (way_to root to) ≡ false → beside to ≡ not (is_bad false (cut_to to))
  told_beside (At x) some off = by (strip nester x) refl
    where
      by : (o : Option Path) → strip nester x ≡ o → (elim (option_map way_down o) [
        | None ↦ false
        | Some way ↦ tells_port (way ++ kind_number (kind_at w (At x)) ∷ [])
      ]) ≡ not (is_bad false (cut_to (At x)))
      by (Some q) e = beside_at x q (strip_some nester x q e) off
      by None e = sym (ap not (ap (is_bad false) (outer_cut x (not_within (strip root x) off)) ∙ far_bad x (λ i same.
          let found : strip nester (i ∷ nester) ≡ None = subst (λ (y : Path). strip nester y ≡ None) same e in
          let there = strip-append nester (i ∷ []) in let both = sym there ∙ found in cc)))
  told_beside Null some h = cc
  told_beside Dead some h = cc
  told_beside (Out i) some h = refl
  told_beside Outside some h = cc
  told_beside Far some h = refl

  -- a port of the nester is told by its slot
  told_one : (i : ℕ) → is_some (way_to root (At (i ∷ nester))) ≡ false
      → cut_out (ports_of w nester slot) nester (i ∷ nester) ≡ cond (kind_number (kind_at w (At (i ∷ nester))) == 5) (Out i) Far
  told_one i off = rw (port_number (w.body (i ∷ nester)), same_path_refl nester, own_slot i off) refl

  far_cut : (x : Path) → ((i : ℕ) → x ≡ i ∷ nester → ⊥) → cut_out (ports_of w nester slot) nester x ≡ Far
  far_cut [] apart = refl
  far_cut (i ∷ x) apart = rw (same_path_ne x nester (λ e. apart i (ap (λ (y : Path). i ∷ y) e))) refl

  out_told : (x q : Path) → x ≡ q ++ nester → is_some (way_to root (At x)) ≡ false
      → cut_out (ports_of w nester slot) nester x ≡ told_pointer None (Some (way_down q ++ kind_number (kind_at w (At x)) ∷ []))
  out_told x [] e off =
      far_cut x (λ i same. let long = ap length (sym e ∙ same) in omega (arith, long))
      ∙ sym (ap (λ (b : Bool). cond b (Out OWN_SPACE) Far) (ap (λ (o : Option Body). kind_number (and_then (λ b. Some (kind_of b)) o) == 5) (ap w.body e)
      ∙ port_number (w.body nester) ∙ nester_no_port))
  out_told x (i ∷ []) e off =
      let here : is_some (way_to root (At (i ∷ nester))) ≡ false = subst (λ (y : Path). is_some (way_to root (At y)) ≡ false) e off in
      ap (cut_out (ports_of w nester slot) nester) e ∙ told_one i here ∙ sym (ap (λ (y : Path). cond (kind_number (kind_at w (At y)) == 5) (Out i) Far) e)
  out_told x (j ∷ i ∷ q) e off =
      far_cut x (λ k same. let long = ap length (sym e ∙ same) in omega (arith, long, length-append q nester)) ∙ rw (two_long (length q)) refl

  pub pointer_told : (x : Path) → cut_to (At x) ≡ told_pointer (strip root x) (located_at w nester x)
  pointer_told x = by (strip root x) refl
    where
      by_nester : (o : Option Path) → strip nester x ≡ o → is_some (way_to root (At x)) ≡ false
          → cut_out (ports_of w nester slot) nester x ≡ told_pointer None (option_map (λ q. way_down q ++ kind_number (kind_at w (At x)) ∷ []) o)
      by_nester (Some q) e off = out_told x q (strip_some nester x q e) off
      by_nester None e off = far_cut x (λ i same.
          let found : strip nester (i ∷ nester) ≡ None = subst (λ (y : Path). strip nester y ≡ None) same e in
          let there = strip-append nester (i ∷ []) in let both = sym there ∙ found in cc)

      by : (o : Option Path) → strip root x ≡ o
          → elim o [ None ↦ cut_out (ports_of w nester slot) nester x | Some q ↦ At q ] ≡ told_pointer o (located_at w nester x)
      by (Some q) e = refl
      by None e = by_nester (strip nester x) refl (ap (λ (o : Option Path). is_some (option_map way_down o)) e)

pub pointer_is_told : PointerIsTold
pointer_is_told nester slot w x holding valid = pointer_told nester slot w holding valid x
