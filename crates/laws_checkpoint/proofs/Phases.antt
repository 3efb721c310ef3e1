-- A checkpoint from its first call to its last: what holds in each of its states.
use Rattle.std.proofs.Common.{◌≡◌, ℕ, ◌≤◌, Bool, true, false, cond, ◌&&◌, nat_le, IsSome, is_some, List, [], ◌∷◌, ◌++◌, length, Option, Some, None, option_map}
use Rattle.std.proofs.Common.{refl, sym, ap, subst, arith, length-append, ◌∙◌, inl, inr}
use Rattle.std.specs.List.{list_any}
use Rattle.std.proofs.lemmas.Bool.{and_parts}
use Rattle.fk_model.specs.declared.limits.TheConstants.{OWN_SPACE, FIRST_SCRATCH_SLOT, LAST_SCRATCH_SLOT, LAST_PORTER_SLOT}
use Rattle.fk_model.specs.declared.names.Kind.TheVariants as kinds
use Rattle.fk_model.specs.declared.stage.Stage.TheVariants.{Create, Destroy}
use Rattle.fk_model.specs.declared.statuses.status.TheConstants.{OK}
use Rattle.fk_model.specs.Places.{Path, same_path, strip, is_within, Ptr, leads_to}
use Rattle.fk_model.specs.Places.Ptr.{Null}
use Rattle.fk_model.specs.Objects.{Body, number_of_kind, and_then, holds}
use Rattle.fk_model.specs.Objects.Body.{Reference}
use Rattle.fk_model.specs.World.{World, Change, edited, apply, apply_all}
use Rattle.fk_model.specs.World.Change.{Alter, Make, Kill}
use Rattle.fk_model.specs.World.Edit.{SetPointer, SetHolder}
use Rattle.fk_model.specs.Searches.{depth}
use Rattle.fk_model.specs.Holds.{decider, is_frozen_for}
use Rattle.fk_model.specs.Freezing.{body_pointers}
use Rattle.fk_model.specs.Outcomes.Outcome.{Goes}
use Rattle.fk_model.specs.Outcomes.Said.{Answered}
use Rattle.fk_model.specs.Readers.{anything}
use Rattle.fk_model.specs.StateRows.{is_native}
use Rattle.fk_model.specs.ObjectRows.{is_scratch}
use Rattle.fk_model.specs.Moves.{call_row}
use Rattle.fk_model.specs.Runs.{Event, after}
use Rattle.fk_model.specs.Valid.{IsValid, birth_of, birth_at}
use Rattle.fk_model.specs.Closed.{is_led_to, far_field}
use Rattle.fk_model.specs.Cut.{cut}
use Rattle.fk_model.specs.Sound.{IsClean}
use Rattle.fk_model.proofs.walks.PlaceLaws.{same_path_refl, same_path_eq, same_path_ne, strip_some}
use Rattle.fk_model.proofs.walks.Members.{IsIn}
use Rattle.laws_moves.specs.Frozen.Frozen.{IsSameInside}
use Rattle.laws_moves.specs.Frozen.Holding.{IsHolding, IsUsersMove, IsNear, only_reference}
use Rattle.laws_moves.proofs.InFrozen.Holding.{others_keep_hold}
use Rattle.laws_moves.proofs.InFrozen.FrozenCut.{same-cut}
use Rattle.laws_jobs.specs.Machines.{porter, no_words}
use Rattle.laws_jobs.proofs.Filling.{users_fill_low, scratch_high}
use Rattle.laws_jobs.proofs.Nesters.{nester_stays}
use Rattle.laws_jobs.proofs.LeadLaws.{others_keep_leads}
use Rattle.laws_jobs.proofs.Dropped.{inside, scratch_leads, scratch_holding}
use Rattle.laws_jobs.proofs.Gone.{bodies_stay, pages_stay, gone, destroy-row}
use Rattle.laws_jobs.proofs.Rows.{own-place, object-there, create-row}
use Rattle.laws_checkpoint.specs.Foreign.{IsScratched}
use Rattle.laws_checkpoint.proofs.Same.{inside-then}
use Rattle.laws_checkpoint.proofs.Mild.{IsOwnSlot, IsMild}
use Rattle.laws_checkpoint.proofs.Mild.IsOwnSlot.{Places, Targets, Steps}
use Rattle.laws_checkpoint.proofs.Mild.IsMild.{Changes_nothing, Leads}
use Rattle.laws_checkpoint.proofs.Seeks.{Base}

-- ---- the porter's own slots

pub own_scratch : (nester : Path) (r : ℕ) → IsOwnSlot r → is_scratch nester (r ∷ nester) ≡ true
own_scratch nester _ Places = rw (same_path_refl nester) refl
own_scratch nester _ Targets = rw (same_path_refl nester) refl
own_scratch nester _ Steps = rw (same_path_refl nester) refl

own_fits : (r : ℕ) → IsOwnSlot r → nat_le r LAST_PORTER_SLOT ≡ true
own_fits _ Places = refl
own_fits _ Targets = refl
own_fits _ Steps = refl

no_such : (P : Type 0) (o : Option Body) → o ≡ None → IsSome o → P
no_such P None e h = cc
no_such P (Some b) e h = cc

empty_from : (o : Option Body) → (IsSome o → ⊥) → o ≡ None
empty_from None h = refl
empty_from (Some b) h = absurd (h refl)

-- a scratch slot is a slot of its nester
pub scratch_slot : (nester y : Path) → is_scratch nester y ≡ true → (k : ℕ) × (y ≡ k ∷ nester)
scratch_slot nester [] h =
    let both = and_parts (same_path [] nester && nat_le FIRST_SCRATCH_SLOT 0) (nat_le 0 LAST_SCRATCH_SLOT) h in
    let first = and_parts (same_path [] nester) (nat_le FIRST_SCRATCH_SLOT 0) both.0 in
    let second = first.1 in cc
scratch_slot nester (k ∷ y) h =
    let both = and_parts (same_path y nester && nat_le FIRST_SCRATCH_SLOT k) (nat_le k LAST_SCRATCH_SLOT) h in
    let first = and_parts (same_path y nester) (nat_le FIRST_SCRATCH_SLOT k) both.0 in
    (k, ap (λ (x : Path). k ∷ x) (same_path_eq y nester first.0))

module _ (nester : Path) (slot birth : ℕ) where
  abbrev root : Path
  root = slot ∷ nester

  abbrev me : Path
  me = LAST_PORTER_SLOT ∷ nester

  -- the nester stands, and of all scratch only these slots of it are taken
  pub record Tidy (v : World) (made : List ℕ) : Type 0 where
    pub named : birth_at v nester ≡ Some birth
    pub clean : (s : Path) (k : ℕ) → is_scratch s (k ∷ s) ≡ true → IsSome (v.body (k ∷ s)) → (s ≡ nester) × IsIn k made

  pub tidy_empty : (v : World) (made : List ℕ) (r : ℕ) → Tidy v made → is_scratch nester (r ∷ nester) ≡ true → (IsIn r made → ⊥) → v.body (r ∷ nester) ≡ None
  tidy_empty v made r tidy is other = empty_from (v.body (r ∷ nester)) (λ live. other (tidy.clean nester r is live).1)

  pub tidy_clean : (v : World) → Tidy v [] → IsClean v
  tidy_clean v tidy s k is = empty_from (v.body (k ∷ s)) (λ live. (tidy.clean s k is live).1)

  pub tidy_others : (v : World) (e : Event) (made : List ℕ) → IsUsersMove nester v e → holds is_native ((after v e).body me) ≡ true → Tidy v made
      → Tidy (after v e) made
  tidy_others v e made moves native tidy = record {
    named = nester_stays v e moves.valid moves.few moves.users nester native ∙ tidy.named;
    clean = λ s k is live. tidy.clean s k is (users_fill_low v e moves.valid.rooted moves.users s k (scratch_high s k is) live);
  }

  -- a reference is led anew
  pub tidy_mild : (v : World) (changes : List Change) (made : List ℕ) → IsMild nester v changes → Tidy v made → Tidy (apply_all changes v) made
  unfolding apply_all apply edited
  tidy_mild v _ made Changes_nothing tidy = tidy
  tidy_mild v _ made (Leads r old to own there) tidy = record {
    named = by_nester (same_path nester (r ∷ nester)) refl ∙ tidy.named;
    clean = λ s k is live. tidy.clean s k is (was (same_path (k ∷ s) (r ∷ nester)) (v.body (k ∷ s)) live);
  }
    where
      by_nester : (t : Bool) → same_path nester (r ∷ nester) ≡ t
          → and_then birth_of (cond t (option_map (edited (SetPointer to)) (v.body nester)) (v.body nester)) ≡ and_then birth_of (v.body nester)
      by_nester false e = refl
      by_nester true e = let same = same_path_eq nester (r ∷ nester) e in absurd (omega (arith, ap length same))

      was : (t : Bool) (o : Option Body) → IsSome (cond t (option_map (edited (SetPointer to)) o) o) → IsSome o
      was true (Some b) h = refl
      was true None h = cc
      was false o h = h

  -- a reference is made, or destroyed
  pub tidy_made : (v : World) (made : List ℕ) (r : ℕ) → Tidy v made → Tidy (apply (Make (r ∷ nester) (Reference Null)) v) (r ∷ made)
  unfolding apply
  tidy_made v made r tidy = record {
    named = by_nester (same_path nester (r ∷ nester)) refl ∙ tidy.named;
    clean = λ s k is live. by s k is (same_path (k ∷ s) (r ∷ nester)) refl live;
  }
    where
      by_nester : (t : Bool) → same_path nester (r ∷ nester) ≡ t
          → and_then birth_of (cond t (Some (Reference Null)) (v.body nester)) ≡ and_then birth_of (v.body nester)
      by_nester false e = refl
      by_nester true e = let same = same_path_eq nester (r ∷ nester) e in absurd (omega (arith, ap length same))

      by : (s : Path) (k : ℕ) → is_scratch s (k ∷ s) ≡ true → (t : Bool) → same_path (k ∷ s) (r ∷ nester) ≡ t
          → IsSome (cond t (Some (Reference Null)) (v.body (k ∷ s))) →
          (s ≡ nester) × IsIn k (r ∷ made)
      by s k is true e live = let same = same_path_eq (k ∷ s) (r ∷ nester) e in let slots : k ≡ r = cc in
          let spaces : s ≡ nester = cc in (spaces, inl (sym slots))
      by s k is false e live = let its = tidy.clean s k is live in (its.0, inr its.1)

  pub tidy_dropped : (v : World) (made : List ℕ) (r : ℕ) (to : Ptr) → IsValid v → v.body (r ∷ nester) ≡ Some (Reference to) → Tidy v (r ∷ made)
      → Tidy (apply (Kill (r ∷ nester)) v) made
  tidy_dropped v made r to valid there tidy = record {
    named = ap (and_then birth_of) (bodies_stay v valid (r ∷ nester) to there nester (same_path_ne nester (r ∷ nester) (λ e. omega (arith, ap length e))))
        ∙ tidy.named;
    clean = λ s k is live. by s k is (same_path (k ∷ s) (r ∷ nester)) refl live;
  }
    where
      by : (s : Path) (k : ℕ) → is_scratch s (k ∷ s) ≡ true → (t : Bool) → same_path (k ∷ s) (r ∷ nester) ≡ t
          → IsSome ((apply (Kill (r ∷ nester)) v).body (k ∷ s)) → (s ≡ nester) × IsIn k made
      by s k is true e live =
          let same = same_path_eq (k ∷ s) (r ∷ nester) e in
          no_such ((s ≡ nester) × IsIn k made) ((apply (Kill (r ∷ nester)) v).body (k ∷ s)) (ap (apply (Kill (r ∷ nester)) v).body same
          ∙ gone v valid (r ∷ nester) to there) live
      by s k is false e live = others (tidy.clean s k is (subst (λ (o : Option Body). IsSome o) (bodies_stay v valid (r ∷ nester) to there (k ∷ s) e) live))
        where
          others : (s ≡ nester) × IsIn k (r ∷ made) → (s ≡ nester) × IsIn k made
          others (space, inl same) =
              let on : same_path (k ∷ s) (r ∷ nester)
              ≡ true = subst (λ (j : ℕ). same_path (j ∷ s) (r ∷ nester) ≡ true) same
              (subst (λ (y : Path). same_path (r ∷ y) (r ∷ nester) ≡ true) (sym space) (same_path_refl (r ∷ nester))) in
              let both = sym on ∙ e in
              cc
          others (space, inr rest) = (space, rest)

  pub tidy_held : (v : World) (made : List ℕ) (holder : Option Ptr) → Tidy v made → Tidy (apply (Alter root (SetHolder holder)) v) made
  unfolding apply edited
  tidy_held v made holder tidy = record {
    named = by_nester (same_path nester root) refl ∙ tidy.named;
    clean = λ s k is live. tidy.clean s k is (was (same_path (k ∷ s) root) (v.body (k ∷ s)) live);
  }
    where
      by_nester : (t : Bool) → same_path nester root ≡ t
          → and_then birth_of (cond t (option_map (edited (SetHolder holder)) (v.body nester)) (v.body nester)) ≡ and_then birth_of (v.body nester)
      by_nester false e = refl
      by_nester true e = let same = same_path_eq nester root e in absurd (omega (arith, ap length same))

      was : (t : Bool) (o : Option Body) → IsSome (cond t (option_map (edited (SetHolder holder)) o) o) → IsSome o
      was true (Some b) h = refl
      was true None h = cc
      was false o h = h

  -- ---- while the porter holds on

  module _ (start : World) where
    pub record Held_on (v : World) : Type 0 where
      pub holding : IsHolding nester slot v
      pub inside : IsSameInside root start v
      pub leads : (q : Path) → is_led_to v root (q ++ root) ≡ is_led_to start root (q ++ root)

    pub held_others : (v : World) (e : Event) → IsUsersMove nester v e → (after v e).next ≤ depth → Held_on v → Held_on (after v e)
    held_others v e moves few its =
        let kept = others_keep_hold nester slot v e its.holding moves in
        record {
          holding = kept.holding;
          inside = inside-then root start v (after v e) its.inside kept.inside;
          leads = λ q. others_keep_leads nester slot v e its.holding moves few q ∙ its.leads q;
        }

    ref_others : (v : World) (e : Event) (r : ℕ) → IsUsersMove nester v e → Held_on v → IsOwnSlot r → (p : Ptr) × (v.body (r ∷ nester) ≡ Some (Reference p)) →
        (p : Ptr) × ((after v e).body (r ∷ nester) ≡ Some (Reference p))
    ref_others v e r moves its own ref = (ref.0, (others_keep_hold nester slot v e its.holding moves).around.scratch r (own_scratch nester r own) ∙ ref.1)

    -- ---- a reference is made

    unfrozen : (v : World) → Held_on v → is_frozen_for v me nester ≡ false
    unfrozen v its = rw its.holding.above refl

    pub make-row : (v : World) (r : ℕ) → Held_on v → IsOwnSlot r → v.body (r ∷ nester) ≡ None →
        call_row v (porter nester no_words) None (Create OWN_SPACE r (number_of_kind kinds.Reference))
        ≡ Goes (Make (r ∷ nester) (Reference Null) ∷ []) (Answered OK [])
    make-row v r its own empty = create-row nester no_words v OWN_SPACE r kinds.Reference nester (own-place nester no_words v) (own_fits r own)
        (unfrozen v its) empty

    module _ (v : World) (r : ℕ) (its : Held_on v) (own : IsOwnSlot r) (valid : IsValid v) (few : v.next ≤ depth) where
      abbrev x : Path
      x = r ∷ nester

      is_own : is_scratch nester x ≡ true
      is_own = own_scratch nester r own

      apart : (y : Path) → is_scratch nester y ≡ false → same_path y x ≡ false
      apart y off = same_path_ne y x (λ e. let on : is_scratch nester y ≡ true = subst (λ (y : Path). is_scratch nester y ≡ true) (sym e) is_own in
          let both = sym on ∙ off in cc)

      pub held_made : IsValid (apply (Make x (Reference Null)) v) → Held_on (apply (Make x (Reference Null)) v)
      unfolding apply
      held_made valid_after = record {
        holding = scratch_holding nester slot v u its.holding valid valid_after few few bodies pages
            (λ k is. references k is (same_path (k ∷ nester) x) refl) (λ k y is led. near k y is (same_path (k ∷ nester) x) refl led);
        inside = inside-then root start v u its.inside (inside nester slot v u its.holding valid valid_after few few bodies pages);
        leads = λ q. scratch_leads nester slot v u its.holding valid valid_after few few bodies pages (q ++ root) ∙ its.leads q;
      }
        where
          u : World
          u = apply (Make x (Reference Null)) v

          bodies : (y : Path) → is_scratch nester y ≡ false → u.body y ≡ v.body y
          bodies y off = rw (apart y off) refl

          pages : (y : Path) (page : ℕ) → is_scratch nester y ≡ false → u.page y page ≡ v.page y page
          pages y page off = refl

          references : (k : ℕ) → is_scratch nester (k ∷ nester) ≡ true → (t : Bool) → same_path (k ∷ nester) x ≡ t
              → only_reference (cond t (Some (Reference Null)) (v.body (k ∷ nester))) ≡ true
          references k is true e = refl
          references k is false e = its.holding.scratch k is

          near : (k : ℕ) (y : Path) → is_scratch nester (k ∷ nester) ≡ true → (t : Bool) → same_path (k ∷ nester) x ≡ t →
              list_any (leads_to y) (body_pointers (cond t (Some (Reference Null)) (v.body (k ∷ nester)))) ≡ true → IsNear v root y
          near k y is true e led = cc
          near k y is false e led = its.holding.near k y is led

      pub made_there : (apply (Make x (Reference Null)) v).body x ≡ Some (Reference Null)
      unfolding apply
      made_there = rw (same_path_refl x) refl

      pub made_other : (y : Path) → same_path y x ≡ false → (apply (Make x (Reference Null)) v).body y ≡ v.body y
      unfolding apply
      made_other y off = rw off refl

      -- ---- and destroyed

      module _ (to : Ptr) (there : v.body x ≡ Some (Reference to)) where
        not_above : is_within x nester ≡ false
        not_above = by (strip x nester) refl
          where
            by : (o : Option Path) → strip x nester ≡ o → is_some o ≡ false
            by None e = refl
            by (Some q) e = let at = strip_some x nester q e in absurd (omega (arith, ap length at, length-append q x))

        free_ref : is_frozen_for v me x ≡ false
        unfolding decider
        free_ref = rw (its.holding.above, there) refl

        pub drop-row : call_row v (porter nester no_words) None (Destroy OWN_SPACE r) ≡ Goes (Kill x ∷ []) (Answered OK [])
        drop-row =
            destroy-row nester v valid OWN_SPACE r nester to there (own-place nester no_words v)
            (object-there nester no_words v anything nester r (Reference to) (Reference to) (own_fits r own) there refl) free_ref not_above

        pub held_dropped : IsValid (apply (Kill x) v) → (apply (Kill x) v).next ≤ depth → Held_on (apply (Kill x) v)
        held_dropped valid_after few_after = record {
          holding = scratch_holding nester slot v u its.holding valid valid_after few few_after bodies pages
              (λ k is. references k is (same_path (k ∷ nester) x) refl) (λ k y is led. near k y is (same_path (k ∷ nester) x) refl led);
          inside = inside-then root start v u its.inside (inside nester slot v u its.holding valid valid_after few few_after bodies pages);
          leads = λ q. scratch_leads nester slot v u its.holding valid valid_after few few_after bodies pages (q ++ root) ∙ its.leads q;
        }
          where
            u : World
            u = apply (Kill x) v

            bodies : (y : Path) → is_scratch nester y ≡ false → u.body y ≡ v.body y
            bodies y off = bodies_stay v valid x to there y (apart y off)

            pages : (y : Path) (page : ℕ) → is_scratch nester y ≡ false → u.page y page ≡ v.page y page
            pages y page off = pages_stay v valid x to there y page

            at : (k : ℕ) → same_path (k ∷ nester) x ≡ true → u.body (k ∷ nester) ≡ None
            at k e = ap u.body (same_path_eq (k ∷ nester) x e) ∙ gone v valid x to there

            references : (k : ℕ) → is_scratch nester (k ∷ nester) ≡ true → (t : Bool) → same_path (k ∷ nester) x ≡ t
                → only_reference (u.body (k ∷ nester)) ≡ true
            references k is true e = ap only_reference (at k e)
            references k is false e = ap only_reference (bodies_stay v valid x to there (k ∷ nester) e) ∙ its.holding.scratch k is

            near : (k : ℕ) (y : Path) → is_scratch nester (k ∷ nester) ≡ true → (t : Bool) → same_path (k ∷ nester) x ≡ t →
                list_any (leads_to y) (body_pointers (u.body (k ∷ nester))) ≡ true → IsNear v root y
            near k y is true e led =
                let off : list_any (leads_to y) (body_pointers (u.body (k ∷ nester)))
                ≡ false = ap (λ (o : Option Body). list_any (leads_to y) (body_pointers o)) (at k e) in
                let both = sym led ∙ off in
                cc
            near k y is false e led =
                its.holding.near k y is (subst (λ (o : Option Body). list_any (leads_to y) (body_pointers o) ≡ true)
                (bodies_stay v valid x to there (k ∷ nester) e) led)

        pub dropped_other : (y : Path) → same_path y x ≡ false → (apply (Kill x) v).body y ≡ v.body y
        dropped_other y off = bodies_stay v valid x to there y off

    -- with all three references there, the parts of the checkpoint can work
    pub base_of : (near : far_field ((cut start nester slot).body []) ≡ None) (v : World) → Held_on v → IsScratched nester v → Base nester slot start near v
    unfolding Rattle.laws_checkpoint.proofs.Seeks.led
    base_of near v its scratched = record {
      holding = its.holding;
      inside = its.inside;
      same = same-cut start v nester slot its.inside;
      leads = its.leads;
      scratched = scratched;
    }

    pub held_of : (near : far_field ((cut start nester slot).body []) ≡ None) (v : World) → Base nester slot start near v → Held_on v
    unfolding Rattle.laws_checkpoint.proofs.Seeks.led
    held_of near v base = record { holding = base.holding; inside = base.inside; leads = base.leads }
