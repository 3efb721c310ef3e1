-- Leads: where pointers lead, seen from a subtree, and what leads into it.
use Rattle.std.proofs.Common.{◌≡◌, ◌≢◌, ◌⊎◌, ℕ, zero, suc, ◌+◌, ◌<◌, Bool, true, false, cond, not, ◌&&◌, ◌||◌, ◌==◌, nat_lt, nat_le, eq-eqb, eqb-true}
use Rattle.std.proofs.Common.{if◌then◌else◌, List, [], ◌∷◌, ◌++◌, length, count_by, find, Option, Some, None, option_map, unwrap_or, is_some, IsSome}
use Rattle.std.proofs.Common.{IfSome, refl, sym, ap, subst, ◌∙◌, inl, inr, arith}
use Rattle.std.specs.List.{list_any}
use Rattle.std.proofs.lemmas.Bool.{cases_lt}
use Rattle.std.proofs.lemmas.Bool.Decides.{nat_tests}
use Rattle.std.proofs.lemmas.List.Sums.{sum_by-cons}
use Rattle.fk_model.specs.declared.limits.TheConstants.{SLOTS, FIRST_SCRATCH_SLOT, LAST_SCRATCH_SLOT}
use Rattle.fk_model.specs.declared.names.Who.{Who}
use Rattle.fk_model.specs.declared.body.Body as bodies_of
use Rattle.fk_model.specs.declared.body.Body.TheVariants as bodies
use Rattle.fk_model.specs.declared.names.Ptr as stored_ptr
use Rattle.fk_model.specs.declared.thread.Fault.{Fault as StoredFault}
use Rattle.fk_model.specs.declared.thread.Talk.{Talk as StoredTalk}
use Rattle.fk_model.specs.declared.thread.Thread.{Thread as StoredThread}
use Rattle.fk_model.specs.Closed.{far_field, when_bad, is_holders_scratch, leads_in_from, is_led_to}
use Rattle.fk_model.specs.Cut.{cut_out, cut_to, is_far, is_out, is_port, ports_of, seen_by}
use Rattle.fk_model.specs.Objects.{Body, kind_of, or_else, holds}
use Rattle.fk_model.specs.Objects.Body.{Space}
use Rattle.fk_model.specs.Places.{Path, Ptr, same_path, is_within, leads_to}
use Rattle.fk_model.specs.Places.Ptr.{At, Out, Far}
use Rattle.fk_model.specs.Searches.{slots, residents, depth, beneath_by, beneath, objects, pointers, pointers_to}
use Rattle.fk_model.specs.Valid.{birth_at, kind_there}
use Rattle.fk_model.specs.Who.{nowhere, is_born, space_born}
use Rattle.fk_model.specs.World.{World}
use Rattle.fk_model.proofs.walks.Members.{IsIn, in_left, in_right, in_filter, any_in, of_any, in_flat_map, of_flat_map, find_some}
use Rattle.fk_model.proofs.walks.PlaceLaws.{same_path_beneath, same_path_refl}
use Rattle.fk_store.specs.Store.Bodies.{body_by, pointer_by}
use Rattle.fk_store.specs.Store.Contents.{Contents}
use Rattle.fk_store.specs.Store.Names.{at, same_who, who_cmp}
use Rattle.fk_store.specs.Store.Orders.{IsFirstAfter}
use Rattle.fk_store.specs.Store.Paths.{path, HasOwnPath}
use Rattle.fk_store.specs.Store.World.{world, place_of, IsLive}
use Rattle.fk_changes.proofs.InDeaths.Scans.{ArePassed, passed_all}
use Rattle.fk_cut.specs.Closing.Walks.{seen, held_by, seen_body}

-- ---- bools

pub and_none : (a : Bool) → (a && false) ≡ false
and_none true = refl
and_none false = refl

and_turned : (a b c : Bool) → (a && b && c) ≡ (c && b && a)
and_turned true true true = refl
and_turned true true false = refl
and_turned true false true = refl
and_turned true false false = refl
and_turned false true true = refl
and_turned false true false = refl
and_turned false false true = refl
and_turned false false false = refl

and_apart : (a b c : Bool) → (a && b && c) ≡ (a && (b && c))
and_apart true b c = refl
and_apart false b c = refl

any_counted : {A : Type 0} (test : A → Bool) (xs : List A) → list_any test xs ≡ nat_lt 0 (count_by test xs)
any_counted test [] = refl
any_counted {A} test (x ∷ xs) = by (test x) (any_counted test xs) ∙ ap (nat_lt 0) (sym (sum_by-cons (λ x. cond {A = ℕ} (test x) 1 0) x xs))
  where
    by : (b : Bool) → list_any test xs ≡ nat_lt 0 (count_by test xs) → (b || list_any test xs) ≡ nat_lt 0 (cond {A = ℕ} b 1 0 + count_by test xs)
    by true h = grind (arith, nat_tests)
    by false h = h ∙ ap (nat_lt 0) (let none : 0 + count_by test xs ≡ count_by test xs = omega arith in sym none)

-- ---- spaces that are the same

-- two objects stand in one space where their spaces have one birth number
pub same_space : (p : ℕ → Path) (who : Who) (n : ℕ) → HasOwnPath p who → same_path (p who.space) (p n) ≡ (who.space == n)
unfolding same_path
same_space p who n own =
    let both : (who.slot == who.slot && same_path (p who.space) (p n)) ≡ (who.space == n && who.slot == who.slot) = (own (at n who.slot)).1 in
    by (same_path (p who.space) (p n)) (who.space == n) (rw (eq-eqb who.slot who.slot refl) at both)
  where
    by : (a b : Bool) → (true && a) ≡ (b && true) → a ≡ b
    by true true h = refl
    by true false h = cc
    by false true h = cc
    by false false h = refl

-- ---- the walk through all objects comes to each that is there

in_slots : (n k : ℕ) → k < n → IsIn k (slots n)
unfolding slots
in_slots zero k low = absurd (omega arith)
in_slots (suc n) k low = elim (cases_lt k n) [
  | inl less ↦ in_left k (slots n) (n ∷ []) (in_slots n k less)
  | inr past ↦ in_right k (slots n) (n ∷ []) (inl (omega arith))
]

in_residents : (w : World) (k : ℕ) (s : Path) → k < 256 → IsSome (w.body (k ∷ s)) → IsIn k (residents w s)
unfolding residents
in_residents w k s low live = in_filter (λ j. is_some (w.body (j ∷ s))) k (slots SLOTS) (in_slots SLOTS k low) live

-- with an object, or the space where it begins, a walk comes to what lies in it
met_next : (n : ℕ) (w : World) (s y : Path) (k : ℕ) → k < 256 → IsIn y (s ∷ beneath_by n w s) → length y < n + length s → IsSome (w.body (k ∷ y)) →
    IsIn (k ∷ y) (beneath_by n w s)
unfolding beneath_by
met_next zero w s y k low (inl e) few live = absurd (omega (arith, ap length e))
met_next zero w s y k low (inr h) few live = absurd h
met_next (suc n) w s y k low (inl e) few live =
    in_flat_map (λ j. (j ∷ s) ∷ beneath_by n w (j ∷ s)) k (k ∷ y) (residents w s)
    (in_residents w k s low (subst (λ x. IsSome (w.body (k ∷ x))) (sym e) live)) (inl (ap (λ x. k ∷ x) e))
met_next (suc n) w s y k low (inr h) few live =
    let found = of_flat_map (λ j. (j ∷ s) ∷ beneath_by n w (j ∷ s)) y (residents w s) h in
    in_flat_map (λ j. (j ∷ s) ∷ beneath_by n w (j ∷ s)) found.0 (k ∷ y) (residents w s) found.1
    (inr (met_next n w (found.0 ∷ s) y k low found.2 (omega arith) live))

born_there : (w : World) (n : ℕ) (s : Path) (xs : List Path) →
    s ≡ unwrap_or (find (λ s. is_born n (birth_at w s)) xs) nowhere → ((k : ℕ) (t : Path) → s ≡ k ∷ t → k < 256) → IsIn s xs
born_there w n s xs is low = by (find (λ s. is_born n (birth_at w s)) xs) refl
  where
    by : (o : Option Path) → find (λ s. is_born n (birth_at w s)) xs ≡ o → IsIn s xs
    by None e = let past = low 256 [] (is ∙ ap (λ o. unwrap_or o nowhere) e) in absurd (omega arith)
    by (Some t) e = let here : s ≡ t = is ∙ ap (λ o. unwrap_or o nowhere) e in subst (λ x. IsIn x xs) (sym here) (find_some _ t xs e).0

-- the space of an object is the root or stands in a slot
pub low_space : (x : Path) (k : ℕ) (t : Path) → x ≡ k ∷ t → k < 256 → (j : ℕ) (u : Path) → x ≡ j ∷ u → j < 256
low_space x k t is low j u here = let same : j ≡ k = cc in subst (λ n. n < 256) (sym same) low

pub no_slot : (x : Path) → x ≡ [] → (j : ℕ) (u : Path) → x ≡ j ∷ u → j < 256
no_slot x is j u here = absurd (cc)

live_body : (o : Option Body) → IsSome (option_map kind_of o) → IsSome o
live_body None h = absurd (cc)
live_body (Some b) h = refl

pub met : (m : Contents) (who : Who) → path m ≡ space_born (world m) → who.slot < 256 → length (path m who.space) < depth →
    ((j : ℕ) (u : Path) → path m who.space ≡ j ∷ u → j < 256) → IsLive m who → IsIn (place_of m who) (objects (world m))
unfolding beneath space_born kind_there
met m who born slot few low live =
    met_next depth (world m) [] (path m who.space) who.slot slot
    (born_there (world m) who.space (path m who.space) ([] ∷ objects (world m)) (ap (λ p. p who.space) born) low)
    (omega (arith, few)) (live_body ((world m).body (place_of m who)) live)

-- ---- what leads in

pub leads_when : (root x y : Path) (w : World) (b : Body) → w.body x ≡ Some b → (points scratch inside : Bool) →
    points ≡ list_any (leads_to y) (pointers b) → scratch ≡ is_holders_scratch w root x → inside ≡ is_within root x →
    (points && not scratch && not inside) ≡ leads_in_from w root y x
leads_when root x y w b is points scratch inside here kept within =
    rw (is, here, kept, within) (ap (λ p. p && not (is_holders_scratch w root x) && not (is_within root x)) (any_counted (leads_to y) (pointers b))
    ∙ and_turned (nat_lt 0 (count_by (leads_to y) (pointers b))) (not (is_holders_scratch w root x)) (not (is_within root x)))

pub leads_off : (root x y : Path) (w : World) (b : Body) → w.body x ≡ Some b → false ≡ list_any (leads_to y) (pointers b) → false ≡ leads_in_from w root y x
leads_off root x y w b is off =
    let none : nat_lt 0 (count_by (leads_to y) (pointers b)) ≡ false = sym (any_counted (leads_to y) (pointers b)) ∙ sym off in
    rw (is, none) (sym (and_none (not (is_within root x) && not (is_holders_scratch w root x))))

pub leads_on : (root x y : Path) (w : World) (b : Body) → w.body x ≡ Some b → (scratch inside : Bool) → true ≡ list_any (leads_to y) (pointers b) →
    scratch ≡ is_holders_scratch w root x → inside ≡ is_within root x → (true && not scratch && not inside) ≡ leads_in_from w root y x
leads_on root x y w b is scratch inside on kept within = leads_when root x y w b is true scratch inside on kept within

pub leads_nowhere : (root x y : Path) (w : World) → w.body x ≡ None → leads_in_from w root y x ≡ false
leads_nowhere root x y w is = rw is (and_none (not (is_within root x) && not (is_holders_scratch w root x)))

-- an object from which nothing leads in
abbrev pub IsHarmless : Contents → Path → Path → Who → Type 0
IsHarmless m root y from = leads_in_from (world m) root y (place_of m from) ≡ false

pub first_live : (P : Who → Type 0) (k next : Option Who) → IsFirstAfter who_cmp P k next → IfSome next P
first_live P k None first = tt
first_live P k (Some who) first = first.0

pub led_from : (m : Contents) (root y : Path) (from : Who) → IsIn (place_of m from) (objects (world m)) →
    leads_in_from (world m) root y (place_of m from) ≡ true → true ≡ is_led_to (world m) root y
led_from m root y from met leads = sym (any_in (leads_in_from (world m) root y) (place_of m from) ([] ∷ objects (world m)) (inr met) leads)

module _ (m : Contents) (root y : Path) (named : (k : ℕ) (s : Path) → IsSome (kind_there (world m) (k ∷ s)) → (other : Who) × (place_of m other ≡ k ∷ s))
    (all : ArePassed (IsLive m) (IsHarmless m root y) None) where
  harmless : (x : Path) → leads_in_from (world m) root y x ≡ false
  unfolding world kind_there
  harmless [] = and_none (not (is_within root []) && not (is_holders_scratch (world m) root []))
  harmless (k ∷ s) = by ((world m).body (k ∷ s)) refl
    where
      by : (o : Option Body) → (world m).body (k ∷ s) ≡ o → leads_in_from (world m) root y (k ∷ s) ≡ false
      by None e = leads_nowhere root (k ∷ s) y (world m) e
      by (Some b) e =
          let live : IsSome (kind_there (world m) (k ∷ s)) = rw e refl in
          let other = named k s live in
          subst (λ x. leads_in_from (world m) root y x ≡ false) other.1
          (passed_all (IsLive m) (IsHarmless m root y) all other.0 (subst (λ x. IsSome (kind_there (world m) x)) (sym other.1) live))

  pub led_by_none : false ≡ is_led_to (world m) root y
  led_by_none = by (is_led_to (world m) root y) refl
    where
      by : (b : Bool) → is_led_to (world m) root y ≡ b → false ≡ b
      by false e = refl
      by true e =
          let found = of_any (leads_in_from (world m) root y) ([] ∷ objects (world m)) e in
          let none = harmless found.0 in
          absurd (cc)

-- what leads in, at a path
abbrev pub LeadsIn : Contents → Path → Path → Path → Type 0
LeadsIn m root y x = leads_in_from (world m) root y x ≡ true

pub leads_pointed : (w : World) (root y x : Path) → leads_in_from w root y x ≡ true → pointers_to y (w.body x) ≢ 0
leads_pointed w root y x leads none =
    let off : leads_in_from w root y x ≡ false = rw none (and_none (not (is_within root x) && not (is_holders_scratch w root x))) in
    absurd (cc)

-- who leads in is there
pub leads_live : (m : Contents) (root y : Path) (from : Who) → leads_in_from (world m) root y (place_of m from) ≡ true → IsLive m from
unfolding kind_there
leads_live m root y from leads = by ((world m).body (place_of m from)) refl
  where
    by : (o : Option Body) → (world m).body (place_of m from) ≡ o → IsSome (option_map kind_of o)
    by None e = let off = leads_nowhere root (place_of m from) y (world m) e in absurd (cc)
    by (Some b) e = refl

pub not_both : (b : Bool) → b ≡ false → b ≡ true → ⊥
not_both b off on = absurd (cc)

-- where nothing leads in, nothing outside leads to an object
pub led_by_nothing : (w : World) (root y : Path) → ((x : Path) → leads_in_from w root y x ≡ true → ⊥) → false ≡ is_led_to w root y
led_by_nothing w root y none = by (is_led_to w root y) refl
  where
    by : (b : Bool) → is_led_to w root y ≡ b → false ≡ b
    by false e = refl
    by true e = let found = of_any (leads_in_from w root y) ([] ∷ objects w) e in absurd (none found.0 found.2)

-- ---- pointers seen from a subtree

far_or_out : (ports : ℕ → Bool) (nester x : Path) → is_far (cut_out ports nester x) ≡ not (is_out (cut_out ports nester x))
far_or_out ports nester [] = refl
far_or_out ports nester (i ∷ x) = by (same_path x nester && ports i)
  where
    by : (b : Bool) → is_far (if b then Out i else Far) ≡ not (is_out (if b then Out i else Far))
    by true = refl
    by false = refl

pub seen_far : (ports : ℕ → Bool) (nester x : Path) (o : Option Path) (inside port : Bool) → inside ≡ is_some o → port ≡ is_out (cut_out ports nester x) →
    (not inside && not port) ≡ is_far (cut_to ports nester x o)
seen_far ports nester x None inside port here there = rw (here, there) (sym (far_or_out ports nester x))
seen_far ports nester x (Some q) inside port here there = rw here refl

pub seen_outside : (ports : ℕ → Bool) (nester x : Path) (o : Option Path) (inside : Bool) → inside ≡ is_some o →
    not inside ≡ (is_far (cut_to ports nester x o) || is_out (cut_to ports nester x o))
seen_outside ports nester x None inside here = rw (here, far_or_out ports nester x) (by (is_out (cut_out ports nester x)))
  where
    by : (b : Bool) → true ≡ (not b || b)
    by true = refl
    by false = refl
seen_outside ports nester x (Some q) inside here = rw here refl

pub nesters_port : (m : Contents) (root who : Who) → HasOwnPath (path m) who → (port : Bool) → port ≡ is_port ((world m).body (place_of m who)) →
    (who.space == root.space && not (who.slot == root.slot) && port)
    ≡ is_out (cut_out (ports_of (world m) (path m root.space) root.slot) (path m root.space) (place_of m who))
nesters_port m root who own port is =
    and_apart (who.space == root.space) (not (who.slot == root.slot)) port
    ∙ rw (same_space (path m) who root.space own) (by (who.space == root.space) refl)
  where
    shown : (b : Bool) → b ≡ is_out (if b then Out who.slot else Far)
    shown true = refl
    shown false = refl

    by : (b : Bool) → (who.space == root.space) ≡ b → (b && (not (who.slot == root.slot) && port))
        ≡ is_out (if b && ports_of (world m) (path m root.space) root.slot who.slot then Out who.slot else Far)
    by false e = refl
    by true e =
        let there : port ≡ is_port ((world m).body (who.slot ∷ path m root.space)) =
        is ∙ ap (λ n. is_port ((world m).body (who.slot ∷ path m n))) (eqb-true who.space root.space e) in
        rw there (shown (not (who.slot == root.slot) && is_port ((world m).body (who.slot ∷ path m root.space))))

-- scratch of a thread that holds the root
pub scratch_of : (m : Contents) (root from holder : Who) (birth : ℕ) → HasOwnPath (path m) from →
    (world m).body (place_of m root) ≡ Some (Space birth (Some (At (place_of m holder)))) →
    (from.space == holder.space && nat_le FIRST_SCRATCH_SLOT from.slot && nat_le from.slot LAST_SCRATCH_SLOT)
    ≡ is_holders_scratch (world m) (place_of m root) (place_of m from)
scratch_of m root from holder birth own is = rw (is, same_space (path m) from holder.space own) refl

pub scratch_at : (m : Contents) (root from holder : Who) (b : bodies_of.Body) (birth : ℕ) (held : Option Who) → b ≡ bodies.Space birth held →
    held ≡ Some holder → HasOwnPath (path m) from → (world m).body (place_of m root) ≡ Some (body_by (path m) b) →
    (from.space == holder.space && nat_le FIRST_SCRATCH_SLOT from.slot && nat_le from.slot LAST_SCRATCH_SLOT)
    ≡ is_holders_scratch (world m) (place_of m root) (place_of m from)
scratch_at m root from holder b birth held is some own there =
    scratch_of m root from holder birth own (there ∙ ap (λ b. Some (body_by (path m) b)) (is ∙ ap (bodies.Space birth) some))

-- ---- the fields of a body

abbrev wrong : Option Ptr → Bool
wrong holder = holds (λ to. is_far to || is_out to) holder

pub held_root : (m : Contents) (root who : Who) (q : Path) → HasOwnPath (path m) root → place_of m who ≡ q ++ place_of m root →
    (holder : Ptr) (outside : Bool) → outside ≡ (is_far holder || is_out holder) → (not (same_who who root) && outside) ≡ wrong (held_by q (Some holder))
held_root m root who [] own is holder outside out =
    rw (← (own who).0, is, same_path_refl (place_of m root)) refl
held_root m root who (k ∷ q) own is holder outside out =
    rw (← (own who).0, is, same_path_beneath k q (place_of m root)) out

module _ (m : Contents) (root : Who) where
  pub far_mapping : (q : Path) (first count offset : ℕ) (write : Bool) (to : stored_ptr.Ptr) (bad : Bool) →
      bad ≡ (is_far (seen m root (pointer_by (path m) to)) || is_out (seen m root (pointer_by (path m) to))) →
      when_bad bad 0 ≡ far_field (seen_body m root q (bodies.Mapping first count offset write to))
  unfolding seen_by
  far_mapping [] first count offset write to bad is = ap (λ b. when_bad b 0) is
  far_mapping (k ∷ q) first count offset write to bad is = ap (λ b. when_bad b 0) is

  pub far_region : (q : Path) (first count : ℕ) (write : Bool) (to : stored_ptr.Ptr) (bad : Bool) → bad ≡ is_far (seen m root (pointer_by (path m) to)) →
      when_bad bad 0 ≡ far_field (seen_body m root q (bodies.Region first count write to))
  unfolding seen_by
  far_region [] first count write to bad is = ap (λ b. when_bad b 0) is
  far_region (k ∷ q) first count write to bad is = ap (λ b. when_bad b 0) is

  pub far_reference : (q : Path) (to : stored_ptr.Ptr) (bad : Bool) → bad ≡ is_far (seen m root (pointer_by (path m) to)) →
      when_bad bad 0 ≡ far_field (seen_body m root q (bodies.Reference to))
  unfolding seen_by
  far_reference [] to bad is = ap (λ b. when_bad b 0) is
  far_reference (k ∷ q) to bad is = ap (λ b. when_bad b 0) is

  pub far_space : (q : Path) (birth : ℕ) (holder : Option Who) (bad : Bool) →
      bad ≡ wrong (held_by q (option_map (λ who. seen m root (At (place_of m who))) holder)) →
      when_bad bad 0 ≡ far_field (seen_body m root q (bodies.Space birth holder))
  unfolding seen_by
  far_space [] birth None bad is = ap (λ b. when_bad b 0) is
  far_space [] birth (Some who) bad is = ap (λ b. when_bad b 0) is
  far_space (k ∷ q) birth None bad is = ap (λ b. when_bad b 0) is
  far_space (k ∷ q) birth (Some who) bad is = ap (λ b. when_bad b 0) is

  pub far_thread : (q : Path) (thread : StoredThread) (talk fault : Bool) →
      talk ≡ holds (λ (talk : StoredTalk). is_far (seen m root (At (place_of m talk.port)))) thread.talk →
      fault ≡ holds (λ (fault : StoredFault). is_far (seen m root (At (place_of m fault.port)))) thread.fault →
      or_else (when_bad talk 0) (when_bad fault 2) ≡ far_field (seen_body m root q (bodies.Thread thread))
  unfolding seen_by
  far_thread q thread talk fault one two = by q thread.talk thread.fault one two
    where
      by : (q : Path) (t : Option StoredTalk) (f : Option StoredFault) →
          talk ≡ holds (λ (talk : StoredTalk). is_far (seen m root (At (place_of m talk.port)))) t →
          fault ≡ holds (λ (fault : StoredFault). is_far (seen m root (At (place_of m fault.port)))) f →
          or_else (when_bad talk 0) (when_bad fault 2) ≡ far_field (seen_body m root q (bodies.Thread (record thread { talk = t; fault = f })))
      by [] None None one two = rw (one, two) refl
      by [] None (Some f) one two = rw (one, two) refl
      by [] (Some t) None one two = rw (one, two) refl
      by [] (Some t) (Some f) one two = rw (one, two) refl
      by (k ∷ q) None None one two = rw (one, two) refl
      by (k ∷ q) None (Some f) one two = rw (one, two) refl
      by (k ∷ q) (Some t) None one two = rw (one, two) refl
      by (k ∷ q) (Some t) (Some f) one two = rw (one, two) refl

-- whether an object of this kind has pointer fields
abbrev pub has_pointers : bodies_of.Body → Bool
has_pointers (bodies.Mutex locked) = false
has_pointers bodies.Cond = false
has_pointers (bodies.Port set served) = false
has_pointers bodies.Portset = false
has_pointers (bodies.Mapping first count offset write region) = true
has_pointers (bodies.Region first count write keeper) = true
has_pointers (bodies.Space birth holder) = true
has_pointers (bodies.Thread thread) = true
has_pointers (bodies.Reference to) = true

pub plain_kind : (b : bodies_of.Body) → ((x : Bool) × (b ≡ bodies.Mutex x)) ⊎ ((b ≡ bodies.Cond)
    ⊎ (((x : Option ℕ) × (y : Bool) × (b ≡ bodies.Port x y)) ⊎ (b ≡ bodies.Portset))) → has_pointers b ≡ false
plain_kind b (inl e) = ap has_pointers e.1
plain_kind b (inr (inl e)) = ap has_pointers e
plain_kind b (inr (inr (inl e))) = ap has_pointers e.2
plain_kind b (inr (inr (inr e))) = ap has_pointers e

pub far_nothing : (m : Contents) (root : Who) (q : Path) (b : bodies_of.Body) → has_pointers b ≡ false → None ≡ far_field (seen_body m root q b)
unfolding seen_by
far_nothing m root [] (bodies.Mutex locked) none = refl
far_nothing m root [] bodies.Cond none = refl
far_nothing m root [] (bodies.Port set served) none = refl
far_nothing m root [] bodies.Portset none = refl
far_nothing m root (k ∷ q) (bodies.Mutex locked) none = refl
far_nothing m root (k ∷ q) bodies.Cond none = refl
far_nothing m root (k ∷ q) (bodies.Port set served) none = refl
far_nothing m root (k ∷ q) bodies.Portset none = refl
far_nothing m root q (bodies.Mapping first count offset write region) none = cc
far_nothing m root q (bodies.Region first count write keeper) none = cc
far_nothing m root q (bodies.Space birth holder) none = cc
far_nothing m root q (bodies.Thread thread) none = cc
far_nothing m root q (bodies.Reference to) none = cc

-- a fact of what a body is seen as, for the body that it is
pub seen_as : (m : Contents) (root : Who) (q : Path) (b d : bodies_of.Body) (o : Option ℕ) → b ≡ d → o ≡ far_field (seen_body m root q d) →
    o ≡ far_field (seen_body m root q b)
seen_as m root q b d o is far = far ∙ ap (λ x. far_field (seen_body m root q x)) (sym is)

pub held_outside : (m : Contents) (root who : Who) (q : Path) → HasOwnPath (path m) root → place_of m who ≡ q ++ place_of m root →
    (holder : Ptr) (outside : Bool) → outside ≡ (is_far holder || is_out holder) →
    (true && not (same_who who root) && outside) ≡ wrong (held_by q (Some holder))
held_outside m root who q own is holder outside out = held_root m root who q own is holder outside out
