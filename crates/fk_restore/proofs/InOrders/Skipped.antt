-- Places that are gone by at once: a slot of the nester to which nothing leads, and parts behind the last one of an item.
use Rattle.std.proofs.Common.{◌≡◌, ℕ, zero, suc, ◌+◌, ◌<◌, Bool, true, false, cond, ltb, ◌||◌, ◌==◌, List, [], ◌∷◌, ◌++◌, length}
use Rattle.std.proofs.Common.{◌-◌, ◌≤◌, ◌⊎◌, inl, inr, Option, Some, None, ltb-true, ne_eqb}
use Rattle.std.proofs.Common.{refl, sym, ap, subst, ◌∙◌, arith}
use Rattle.std.specs.List.{list_any}
use Rattle.std.specs.Prelude.{slice_get}
use Rattle.std.proofs.lemmas.Bool.{cases_lt, lt-ltb, le-ltb}
use Rattle.fk_image.specs.declared.image.image.Image.{Image}
use Rattle.fk_image.specs.declared.image.image.SpaceRec.{SpaceRec}
use Rattle.fk_image.specs.Image.Valid.{is_valid}
use Rattle.laws_restore.specs.Sites.Orders.{Order}
use Rattle.laws_restore.specs.Sites.Orders.Order.{LeadsTop}
use Rattle.laws_restore.specs.Restore.Script.{T, has, leads_out}
use Rattle.laws_restore.specs.Rooms.Rooms.{room_of, rooms_from}
use Rattle.fk_restore.specs.declared.positions.position.Walk.{Walk, Walk as walks}
use Rattle.fk_restore.specs.declared.positions.position.Walk.TheVariants.{Done, Top, Down}
use Rattle.fk_restore.specs.declared.positions.position.Pass.{Pass, Pass as passes}
use Rattle.fk_restore.specs.declared.positions.position.Pass.TheVariants.{Spaces, Fills, Inward, Outward, Ties, Holds}
use Rattle.fk_restore.specs.declared.positions.position.Spot.{Spot, Spot as spots}
use Rattle.fk_restore.specs.declared.positions.position.Spot.TheVariants.{Before, Room, Part, After}
use Rattle.fk_restore.specs.declared.positions.position.Position.{Position}
use Rattle.fk_restore.specs.Positions.Walks.{walk_rest, goes}
use Rattle.fk_restore.specs.Positions.Passes.{items_from, leads_out_any, pass_from, pass_end}
use Rattle.fk_restore.specs.Positions.Positions.{rest, spot_rest, onwards, IsPosition, IsPass, listed, at, next_pass}
use Rattle.fk_restore.specs.Positions.Doing.{pins}
use Rattle.fk_restore.proofs.InPositions.Scripted.{positions_are_the_places}
use Rattle.fk_restore.specs.Orders.Left.{begins, begins_by, slot_pass, places_left, GoesBy}
use Rattle.fk_restore.proofs.InOrders.Lefts.{after_pass}
use Rattle.fk_restore.proofs.InOrders.Spent.{then_by}

module _ (i : Image) (slot : ℕ) (bind : ℕ → ℕ) where
  abbrev ss : List SpaceRec
  ss = i.spaces

  -- no space is visited where nothing leads out to a slot
  unvisited : (out a n : ℕ) (xs : List SpaceRec) → list_any (has (leads_out out)) (rooms_from ss n xs) ≡ false →
      (pass_from ss slot bind (passes.Outward out) a n xs ≡ []) × (pass_end ss (passes.Outward out) a n xs ≡ a)
  unvisited out a n [] e = (refl, refl)
  unvisited out a n (s ∷ xs) e =
      by (has (leads_out out) (room_of ss n s)) e (λ h. let next : n + 1 ≡ suc n = omega arith in
      unvisited out a (suc n) xs (subst (λ m. list_any (has (leads_out out)) (rooms_from ss m xs) ≡ false) next h))
    where
      by : (t : Bool) → (t || list_any (has (leads_out out)) (rooms_from ss (n + 1) xs)) ≡ false →
          (list_any (has (leads_out out)) (rooms_from ss (n + 1) xs) ≡ false →
          (pass_from ss slot bind (passes.Outward out) a (suc n) xs ≡ []) × (pass_end ss (passes.Outward out) a (suc n) xs ≡ a)) →
          (cond t (walk_rest ss (goes ss slot a n) ++ (items_from ss slot bind n s (passes.Outward out) 0
          ++ pass_from ss slot bind (passes.Outward out) n (suc n) xs)) (pass_from ss slot bind (passes.Outward out) a (suc n) xs) ≡ [])
          × (cond t (pass_end ss (passes.Outward out) n (suc n) xs) (pass_end ss (passes.Outward out) a (suc n) xs) ≡ a)
      by true e more = absurd cc
      by false e more = more e

  -- its pass is what comes behind it
  pass_empty : (out a : ℕ) → leads_out_any ss out ≡ false →
      spot_rest ss slot bind (passes.Outward out) a (spots.Before 0) ≡ onwards ss slot bind (passes.Outward out) a
  pass_empty out a e =
      let none = unvisited out a 0 ss e in
      (λ j. cond (e j) (pins (bind out)) [] ++ (none.0 j ++ (cond (e j) (LeadsTop T ∷ []) [] ++ onwards ss slot bind (passes.Outward out) (none.1 j))))

  abbrev Next : ℕ → ℕ → Bool → Position
  Next out a t = cond (ltb 0 (length {A = Order} (cond t (LeadsTop T ∷ []) []))) (at ss slot bind (passes.Outward out) a (spots.After 1))
      (next_pass ss slot bind (passes.Outward out) a)

  pass_next : (out a : ℕ) → is_valid i ≡ true → IsPosition ss slot bind (at ss slot bind (passes.Outward out) a (spots.After 0))
      → leads_out_any ss out ≡ false →
      (onwards ss slot bind (passes.Outward out) a ≡ rest ss slot bind (next_pass ss slot bind (passes.Outward out) a))
      × IsPosition ss slot bind (next_pass ss slot bind (passes.Outward out) a)
  pass_next out a valid good e =
      let step = positions_are_the_places i slot bind (at ss slot bind (passes.Outward out) a (spots.After 0)) valid good in (
        (λ j. cond (sym e j) (LeadsTop T ∷ []) [] ++ onwards ss slot bind (passes.Outward out) a) ∙ step.0
            ∙ (λ j. listed ss slot bind (slice_get (cond (e j) (LeadsTop T ∷ []) []) 0) ++ rest ss slot bind (Next out a (e j))),
        subst (λ t. IsPosition ss slot bind (Next out a t)) e step.1,
      )

  -- ---- slots to which nothing leads

  abbrev before_pass : Pass → ℕ → Position
  before_pass pass a = record { walk = walks.Done; pass = pass; spot = spots.Before 0; stands = a }

  -- the pass of one is gone by
  slot_gone : (out a : ℕ) → is_valid i ≡ true → out < 240 → IsPosition ss slot bind (before_pass (passes.Outward out) a) → leads_out_any ss out ≡ false
      → GoesBy ss slot bind (before_pass (passes.Outward out) a) (before_pass (slot_pass (suc out)) a)
  slot_gone out a valid lt good none =
      let next = pass_next out a valid (record { walk = tt; pass = good.pass; spot = tt; stands = good.stands }) none in
      let less = after_pass ss slot bind (passes.Outward out) a 0 refl in
      subst (GoesBy ss slot bind (before_pass (passes.Outward out) a)) (same (cases_lt out 239)) record {
        rest = pass_empty out a none ∙ next.0;
        place = next.1;
        fewer = omega (arith, less);
      }
    where
      either : Bool → Position
      either t = cond t (before_pass (passes.Outward (suc out)) a) (before_pass passes.Ties a)

      choose : (t : Bool) → either t ≡ before_pass (cond t (passes.Outward (suc out)) passes.Ties) a
      choose true = refl
      choose false = refl

      same : (out < 239) ⊎ (239 ≤ out) → next_pass ss slot bind (passes.Outward out) a ≡ before_pass (slot_pass (suc out)) a
      same (inl lt) =
          ap either (lt-ltb out 239 lt) ∙ ap (λ t. before_pass (cond t (passes.Outward (suc out)) passes.Ties) a)
          (sym (lt-ltb (suc out) 240 (omega (arith, lt))))
      same (inr le) =
          ap either (le-ltb out 239 le) ∙ ap (λ t. before_pass (cond t (passes.Outward (suc out)) passes.Ties) a)
          (sym (le-ltb (suc out) 240 (omega (arith, le))))

  -- and those of more that follow it
  slots_gone : (m out a : ℕ) → is_valid i ≡ true → out < 240 → IsPosition ss slot bind (before_pass (passes.Outward out) a)
      → ((l : ℕ) → out ≤ l → l < suc (out + m) → leads_out_any ss l ≡ false)
      → GoesBy ss slot bind (before_pass (passes.Outward out) a) (before_pass (slot_pass (suc (out + m))) a)
  slots_gone zero out a valid lt good none =
      let same : out ≡ out + 0 = omega arith in
      subst (λ l. GoesBy ss slot bind (before_pass (passes.Outward out) a) (before_pass (slot_pass (suc l)) a)) same
      (slot_gone out a valid lt good (none out (omega arith) (omega arith)))
  slots_gone (suc m) out a valid lt good none = by (slots_gone m (suc out) a valid) (cases_lt (suc out) 240)
    where
      one : GoesBy ss slot bind (before_pass (passes.Outward out) a) (before_pass (slot_pass (suc out)) a)
      one = slot_gone out a valid lt good (none out (omega arith) (omega arith))

      same : suc out + m ≡ out + suc m
      same = omega arith

      by : (suc out < 240 → IsPosition ss slot bind (before_pass (passes.Outward (suc out)) a)
          → ((l : ℕ) → suc out ≤ l → l < suc (suc out + m) → leads_out_any ss l ≡ false)
          → GoesBy ss slot bind (before_pass (passes.Outward (suc out)) a) (before_pass (slot_pass (suc (suc out + m))) a))
          → (suc out < 240) ⊎ (240 ≤ suc out)
          → GoesBy ss slot bind (before_pass (passes.Outward out) a) (before_pass (slot_pass (suc (out + suc m))) a)
      by others (inl more) =
          let here : slot_pass (suc out) ≡ passes.Outward (suc out) = ap (λ t. cond t (passes.Outward (suc out)) passes.Ties) (lt-ltb (suc out) 240 more) in
          let first : GoesBy ss slot bind (before_pass (passes.Outward out) a) (before_pass (passes.Outward (suc out)) a) =
          subst (λ pass. GoesBy ss slot bind (before_pass (passes.Outward out) a) (before_pass pass a)) here one in
          subst (λ l. GoesBy ss slot bind (before_pass (passes.Outward out) a) (before_pass (slot_pass (suc l)) a)) same
          (then_by ss slot bind (before_pass (passes.Outward out) a) (before_pass (passes.Outward (suc out)) a) (before_pass (slot_pass (suc (suc out + m))) a)
          first (others more first.place (λ l le lt. none l (omega (arith, le)) (omega (arith, lt)))))
      by others (inr all) =
          let last : (l : ℕ) → out ≤ l → slot_pass (suc l) ≡ passes.Ties =
          (λ l le. ap (λ t. cond t (passes.Outward (suc l)) passes.Ties) (le-ltb (suc l) 240 (omega (arith, all, le)))) in
          subst (λ pass. GoesBy ss slot bind (before_pass (passes.Outward out) a) (before_pass pass a))
          (last out (omega arith) ∙ sym (last (out + suc m) (omega arith))) one

  pub unused_gone : (p : Position) (out used : ℕ) → is_valid i ≡ true → IsPosition ss slot bind p → begins p ≡ Some out → out < used
      → ((l : ℕ) → out ≤ l → l < used → leads_out_any ss l ≡ false) → GoesBy ss slot bind p (before_pass (slot_pass used) p.stands)
  unused_gone p out used valid good is far none = by p.walk p.pass p.spot p.stands good is
    where
      to : (w : Walk) (pass : Pass) (at : Spot) (a : ℕ) → Position
      to w pass at a = record { walk = w; pass = pass; spot = at; stands = a }

      past : (a : ℕ) → IsPosition ss slot bind (before_pass (passes.Outward out) a)
          → GoesBy ss slot bind (before_pass (passes.Outward out) a) (before_pass (slot_pass used) a)
      past a good =
          let same : suc (out + (used - suc out)) ≡ used = omega (arith, far) in
          subst (λ l. GoesBy ss slot bind (before_pass (passes.Outward out) a) (before_pass (slot_pass l) a)) same
          (slots_gone (used - suc out) out a valid (ltb-true out 240 good.pass) good (λ l le lt. none l le (omega (arith, far, lt))))

      by : (w : Walk) (pass : Pass) (at : Spot) (a : ℕ) → IsPosition ss slot bind (to w pass at a) → begins_by w pass at ≡ Some out
          → GoesBy ss slot bind (to w pass at a) (before_pass (slot_pass used) a)
      by Done (Outward o) (Before zero) a good is =
          let same : o ≡ out = cc in
          subst (λ o. IsPosition ss slot bind (before_pass (passes.Outward o) a)
          → GoesBy ss slot bind (before_pass (passes.Outward o) a) (before_pass (slot_pass used) a)) (sym same) (past a) good
      by Done (Outward o) (Before (suc k)) a good is =
          let later : (suc k == 0) ≡ false = ne_eqb (suc k) 0 (λ e. omega (arith, e)) in
          let none : None ≡ Some out = sym (ap (λ t. cond t (Some o) None) later) ∙ is in absurd cc
      by Done (Outward o) (Room n) a good is = absurd cc
      by Done (Outward o) (Part n j k) a good is = absurd cc
      by Done (Outward o) (After k) a good is = absurd cc
      by Done Spaces at a good is = absurd cc
      by Done Fills at a good is = absurd cc
      by Done Inward at a good is = absurd cc
      by Done Ties at a good is = absurd cc
      by Done Holds at a good is = absurd cc
      by (Top r) pass at a good is = absurd cc
      by (Down r name from to last) pass at a good is = absurd cc
