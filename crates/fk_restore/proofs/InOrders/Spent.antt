-- Parts behind the last one of an item in which something may be done are gone by at once.
use Rattle.std.proofs.Common.{◌≡◌, ℕ, zero, suc, ◌-◌, ◌<◌, ◌≤◌, ◌⊎◌, inl, inr, Bool, true, false, not, cond, ltb, leb}
use Rattle.std.proofs.Common.{◌==◌, ◌&&◌, ◌||◌, ne_eqb, leb-true, ltb-true}
use Rattle.std.proofs.Common.{List, [], ◌++◌, Option, Some, None, refl, sym, ap, subst, ◌∙◌, arith}
use Rattle.std.proofs.Common.{◌+◌}
use Rattle.std.specs.Prelude.{slice_get}
use Rattle.std.proofs.lemmas.Bool.{cases_lt, le-ltb, lt-ltb}
use Rattle.fk_image.specs.declared.image.image.Image.{Image}
use Rattle.fk_image.specs.Image.Valid.{is_valid}
use Rattle.fk_image.specs.declared.image.image.Link.{Link}
use Rattle.fk_image.specs.declared.image.image.Link.TheVariants.{Null, Dead, In, Out, Root, Outside}
use Rattle.fk_image.specs.declared.image.image.TalkRec.{TalkRec}
use Rattle.fk_image.specs.declared.image.image.FaultRec.{FaultRec}
use Rattle.fk_image.specs.declared.image.image.Rec.{Rec}
use Rattle.fk_image.specs.declared.image.image.ObjectRec.{ObjectRec}
use Rattle.laws_restore.specs.Restore.Script.{T}
use Rattle.fk_image.specs.declared.image.image.SpaceRec.{SpaceRec}
use Rattle.fk_restore.specs.declared.positions.position.Walk.{Walk, Walk as walks}
use Rattle.fk_restore.specs.declared.positions.position.Walk.TheVariants.{Done, Top, Down}
use Rattle.fk_restore.specs.declared.positions.position.Pass.{Pass, Pass as passes}
use Rattle.fk_restore.specs.declared.positions.position.Pass.TheVariants.{Spaces, Fills, Inward, Outward, Ties, Holds}
use Rattle.fk_restore.specs.declared.positions.position.Spot.{Spot, Spot as spots}
use Rattle.fk_restore.specs.declared.positions.position.Spot.TheVariants.{Before, Room, Part, After}
use Rattle.fk_restore.specs.declared.positions.position.Position.{Position}
use Rattle.fk_restore.specs.Positions.Code as code
use Rattle.fk_restore.specs.Positions.Code.{stays_within}
use Rattle.fk_restore.specs.Positions.Passes as words
use Rattle.fk_restore.specs.Positions.Passes.{makes_part, fills_part, holds_part, link_of, walks_to, points_to}
use Rattle.fk_restore.specs.Positions.Passes.{points_out_part, parks_talk_part, parks_fault_part, taken_part}
use Rattle.fk_restore.specs.Positions.Passes.{part_at, inward_part, outward_part, ties_part, talk_part, fault_part, talk_of, fault_of}
use Rattle.fk_restore.specs.Positions.Passes.{leads_within, items_from}
use Rattle.fk_restore.specs.Positions.Passes.Part.{Nothing}
use Rattle.fk_restore.specs.Positions.Doing.{next_item}
use Rattle.fk_restore.specs.Positions.Positions.{rest, spot_rest, room_rest, part_rest, part_orders, parts_by, order_at, asked_in, next_of, next_part}
use Rattle.fk_restore.specs.Positions.Positions.{IsPosition, IsRoom}
use Rattle.fk_restore.specs.Orders.Left.{parts_of, idle_in, idle_at, is_spent, item_left, places_left, closes, IsBehind, GoesBy}
use Rattle.fk_restore.proofs.InOrders.Lefts.{stays, falls}

module _ (ss : List SpaceRec) (slot : ℕ) (bind : ℕ → ℕ) where
  module _ (n : ℕ) (s : SpaceRec) where
    -- a choice by a number that is another
    other : (k m : ℕ) (p q : words.Part) → m < k → cond (k == m) p q ≡ q
    other k m p q lt = ap (λ t. cond t p q) (ne_eqb k m (λ e. omega (arith, lt, e)))

    nothing : (pass : Pass) (j k : ℕ) → parts_of pass ≤ k → part_at ss slot bind n s pass j k ≡ Nothing
    nothing Spaces j k le = other k 0 _ _ (omega (arith, le))
    nothing Fills j k le = other k 0 _ _ (omega (arith, le))
    nothing Inward j k le = by (slice_get s.objects j)
      where
        by : (o : Option ObjectRec) → elim o [ None ↦ Nothing | Some o ↦ inward_part ss slot bind n s o.slot o.body k ] ≡ Nothing
        by None = refl
        by (Some o) = other k 0 _ _ (omega (arith, le)) ∙ other k 1 _ _ (omega (arith, le))
    nothing (Outward i) j k le = by (slice_get s.objects j)
      where
        by : (o : Option ObjectRec) → elim o [ None ↦ Nothing | Some o ↦ outward_part ss slot bind n s i o.slot o.body k ] ≡ Nothing
        by None = refl
        by (Some o) = other k 0 _ _ (omega (arith, le)) ∙ other k 1 _ _ (omega (arith, le)) ∙ other k 2 _ _ (omega (arith, le))
    nothing Ties j k le = by (slice_get s.objects j)
      where
        by : (o : Option ObjectRec) → elim o [ None ↦ Nothing | Some o ↦ ties_part ss slot bind n s o.slot o.body k ] ≡ Nothing
        by None = refl
        by (Some o) =
            ap (λ t. cond t (talk_part ss slot bind n s o.slot k (talk_of o.body))
            (cond (ltb k 6) (fault_part ss slot bind n s o.slot (k - 3) (fault_of o.body)) Nothing)) (le-ltb k 3 (omega (arith, le)))
            ∙ ap (λ t. cond t (fault_part ss slot bind n s o.slot (k - 3) (fault_of o.body)) Nothing) (le-ltb k 6 le)
    nothing Holds j k le = by (leads_within s.holder) _ _
      where
        by : (t : Bool) (p q : words.Part) → cond t (cond (k == 0) p (cond (k == 1) q Nothing)) Nothing ≡ Nothing
        by true p q = other k 0 p (cond (k == 1) q Nothing) (omega (arith, le)) ∙ other k 1 q Nothing (omega (arith, le))
        by false p q = refl

    -- ---- an object at which nothing is done

    neither : (t u : Bool) → cond t Nothing (cond u Nothing Nothing) ≡ Nothing
    neither true u = refl
    neither false true = refl
    neither false false = refl

    any : (t u v : Bool) → cond t Nothing (cond u Nothing (cond v Nothing Nothing)) ≡ Nothing
    any true u v = refl
    any false u v = neither u v

    no : (t : Bool) → not t ≡ true → t ≡ false
    no true is = absurd (cc)
    no false is = refl

    none_of : (a b c : Bool) → (a || b || c) ≡ false → (a ≡ false) × (b ≡ false) × (c ≡ false)
    none_of true b c is = absurd (cc)
    none_of false true c is = absurd (cc)
    none_of false false true is = absurd (cc)
    none_of false false false is = (refl, refl, refl)

    neither_of : (a b : Bool) → (a || b) ≡ false → (a ≡ false) × (b ≡ false)
    neither_of true b is = absurd (cc)
    neither_of false true is = absurd (cc)
    neither_of false false is = (refl, refl)

    off : (t : Bool) (p : words.Part) → t ≡ false → cond t p Nothing ≡ Nothing
    off true p none = absurd (cc)
    off false p none = refl

    idle_inward : (x : ℕ) (to : Link) (k : ℕ) → stays_within to ≡ false →
        cond (k == 0) (walks_to ss slot bind n s T n to) (cond (k == 1) (points_to ss slot bind n s x to) Nothing) ≡ Nothing
    idle_inward x Null k none = neither (k == 0) (k == 1)
    idle_inward x Dead k none = absurd (cc)
    idle_inward x (In slot space) k none = absurd (cc)
    idle_inward x (Out i) k none = neither (k == 0) (k == 1)
    idle_inward x Root k none = absurd (cc)
    idle_inward x Outside k none = neither (k == 0) (k == 1)

    same_out : (i : ℕ) (to : Link) → words.is_out ss slot bind n s i to ≡ code.is_out i to
    same_out i Null = refl
    same_out i Dead = refl
    same_out i (In slot space) = refl
    same_out i (Out j) = refl
    same_out i Root = refl
    same_out i Outside = refl

    idle_points : (i x : ℕ) (to : Link) → code.is_out i to ≡ false → points_out_part ss slot bind n s i x to ≡ Nothing
    idle_points i x to none = off (words.is_out ss slot bind n s i to) _ (same_out i to ∙ none)

    idle_talk_out : (i x : ℕ) (talk : Option TalkRec) → code.talk_is_out i talk ≡ false → parks_talk_part ss slot bind n s i x talk ≡ Nothing
    idle_talk_out i x None none = refl
    idle_talk_out i x (Some t) none = off (words.is_out ss slot bind n s i t.port) _ (same_out i t.port ∙ none)

    idle_fault_out : (i x : ℕ) (fault : Option FaultRec) → code.fault_is_out i fault ≡ false → parks_fault_part ss slot bind n s i x fault ≡ Nothing
    idle_fault_out i x None none = refl
    idle_fault_out i x (Some f) none = off (words.is_out ss slot bind n s i f.port) _ (same_out i f.port ∙ none)

    idle_outward : (i x : ℕ) (r : Rec) (k : ℕ) → code.leads_out i r ≡ false → outward_part ss slot bind n s i x r k ≡ Nothing
    idle_outward i x r k none =
        let each = none_of (code.is_out i (link_of r)) (code.talk_is_out i (talk_of r)) (code.fault_is_out i (fault_of r)) none in
        (λ j. cond (k == 0) (idle_points i x (link_of r) each.0 j) (cond (k == 1) (idle_talk_out i x (talk_of r) each.1 j)
        (cond (k == 2) (idle_fault_out i x (fault_of r) each.2 j) Nothing)))
        ∙ any (k == 0) (k == 1) (k == 2)

    idle_talk : (x k : ℕ) (talk : Option TalkRec) → code.talk_is_within talk ≡ false → talk_part ss slot bind n s x k talk ≡ Nothing
    idle_talk x k None none = refl
    idle_talk x k (Some t) none =
        off (cond (leads_within t.port) (leads_within t.server) false) _ (ap (λ u. cond u (leads_within t.server) false) none)

    idle_fault : (x k : ℕ) (fault : Option FaultRec) → code.fault_is_within fault ≡ false → fault_part ss slot bind n s x k fault ≡ Nothing
    idle_fault x k None none = refl
    idle_fault x k (Some f) none = by f.taker
      where
        by : (taker : Option Link) → taken_part ss slot bind n s x k f taker ≡ Nothing
        by None = off (leads_within f.port) _ none
        by (Some taker) = off (cond (leads_within f.port) (leads_within taker) false) _ (ap (λ u. cond u (leads_within taker) false) none)

    idle_ties : (x : ℕ) (r : Rec) (k : ℕ) → code.ties_inside r ≡ false → ties_part ss slot bind n s x r k ≡ Nothing
    idle_ties x r k none =
        let each = neither_of (code.talk_is_within (talk_of r)) (code.fault_is_within (fault_of r)) none in
        (λ j. cond (ltb k 3) (idle_talk x k (talk_of r) each.0 j) (cond (ltb k 6) (idle_fault x (k - 3) (fault_of r) each.1 j) Nothing))
        ∙ neither (ltb k 3) (ltb k 6)

    idle : (pass : Pass) (j k : ℕ) → idle_in pass (slice_get s.objects j) ≡ true → part_at ss slot bind n s pass j k ≡ Nothing
    idle Spaces j k is = by (slice_get s.objects j) is
      where
        by : (o : Option ObjectRec) → idle_in passes.Spaces o ≡ true → makes_part ss slot bind n s k ≡ Nothing
        by None is = absurd (cc)
        by (Some o) is = absurd (cc)
    idle Fills j k is = by (slice_get s.objects j) is
      where
        by : (o : Option ObjectRec) → idle_in passes.Fills o ≡ true → fills_part ss slot bind n s j k ≡ Nothing
        by None is = absurd (cc)
        by (Some o) is = absurd (cc)
    idle Inward j k is = by (slice_get s.objects j) is
      where
        by : (o : Option ObjectRec) → idle_in passes.Inward o ≡ true →
            elim o [ None ↦ Nothing | Some o ↦ inward_part ss slot bind n s o.slot o.body k ] ≡ Nothing
        by None is = refl
        by (Some o) is = idle_inward o.slot (link_of o.body) k (no (code.leads_in o.body) is)
    idle (Outward i) j k is = by (slice_get s.objects j) is
      where
        by : (o : Option ObjectRec) → idle_in (passes.Outward i) o ≡ true → elim o [ None ↦ Nothing | Some o ↦ outward_part ss slot bind n s i o.slot o.body k ]
            ≡ Nothing
        by None is = refl
        by (Some o) is = idle_outward i o.slot o.body k (no (code.leads_out i o.body) is)
    idle Ties j k is = by (slice_get s.objects j) is
      where
        by : (o : Option ObjectRec) → idle_in passes.Ties o ≡ true → elim o [ None ↦ Nothing | Some o ↦ ties_part ss slot bind n s o.slot o.body k ] ≡ Nothing
        by None is = refl
        by (Some o) is = idle_ties o.slot o.body k (no (code.ties_inside o.body) is)
    idle Holds j k is = by (slice_get s.objects j) is
      where
        by : (o : Option ObjectRec) → idle_in passes.Holds o ≡ true → holds_part ss slot bind n s k ≡ Nothing
        by None is = absurd (cc)
        by (Some o) is = absurd (cc)

    none_left : (m k : ℕ) (pass : Pass) (j : ℕ) → ((l : ℕ) → k ≤ l → part_at ss slot bind n s pass j l ≡ Nothing) → parts_by ss slot bind m n s pass j k ≡ []
    none_left zero k pass j none = refl
    none_left (suc m) k pass j none =
        ap (λ p. part_orders ss slot bind p ++ parts_by ss slot bind m n s pass j (suc k)) (none k (omega arith))
        ∙ none_left m (suc k) pass j (λ l le. none l (omega (arith, le)))

  -- nothing is done in an item from a part on
  abbrev Spent : Pass → ℕ → ℕ → Option SpaceRec → Type 0
  Spent pass j k o = (parts_of pass ≤ k) ⊎ (idle_at pass j o ≡ true)

  gone : (pass : Pass) (a n j k : ℕ) → Spent pass j k (slice_get ss n) →
      spot_rest ss slot bind pass a (spots.Part n j k) ≡ spot_rest ss slot bind pass a (spots.Part n j 6)
  gone pass a n j k spent = by (slice_get ss n) spent
    where
      nothing_more : (s : SpaceRec) → Spent pass j k (Some s) → (l : ℕ) → k ≤ l → part_at ss slot bind n s pass j l ≡ Nothing
      nothing_more s (inl le) l more = nothing n s pass j l (omega (arith, le, more))
      nothing_more s (inr is) l more = idle n s pass j l is

      by : (o : Option SpaceRec) → Spent pass j k o → part_rest ss slot bind pass a n j k o ≡ part_rest ss slot bind pass a n j 6 o
      by None spent = refl
      by (Some s) spent =
          ap (λ os. os ++ (items_from ss slot bind n s pass (suc j) ++ room_rest ss slot bind pass a (suc n)))
          (none_left n s (6 - k) k pass j (nothing_more s spent))

  fewer : (pass : Pass) (a n j k : ℕ) → k < 6 → IsRoom ss slot bind pass a n (slice_get ss n) →
      item_left pass j 6 (slice_get ss n) < item_left pass j k (slice_get ss n)
  fewer pass a n j k lt there = by (slice_get ss n) there
    where
      by : (o : Option SpaceRec) → IsRoom ss slot bind pass a n o → item_left pass j 6 o < item_left pass j k o
      by None there = absurd there
      by (Some s) there = omega (arith, lt)

  -- ---- behind an item

  not_closing : (pass : Pass) (n j k : ℕ) → closes walks.Done pass (spots.Part n j k) ≡ false
  not_closing Spaces n j k = refl
  not_closing Fills n j k = refl
  not_closing Inward n j k = refl
  not_closing (Outward i) n j k = refl
  not_closing Ties n j k = refl
  not_closing Holds n j k = refl

  abbrev spot_at : Pass → ℕ → Spot → Position
  spot_at pass a spot = record { walk = walks.Done; pass = pass; spot = spot; stands = a }

  -- the place behind the end of an item
  behind_end : (pass : Pass) (a n j : ℕ) (s : SpaceRec) → slice_get ss n ≡ Some s
      → next_of ss slot bind (spot_at pass a (spots.Part n j 6)) ≡ spot_at pass a (next_item pass n s j)
  behind_end pass a n j s there =
      ap (next_part ss slot bind pass a n j 6) there ∙ by (ltb (suc j) (words.items_of pass s))
    where
      by : (t : Bool) → cond t (spot_at pass a (spots.Part n (suc j) 0)) (spot_at pass a (spots.Room (suc n)))
          ≡ spot_at pass a (cond t (spots.Part n (suc j) 0) (spots.Room (suc n)))
      by true = refl
      by false = refl

pub then_by : (ss : List SpaceRec) (slot : ℕ) (bind : ℕ → ℕ) (p q r : Position) → GoesBy ss slot bind p q → GoesBy ss slot bind q r
    → GoesBy ss slot bind p r
then_by ss slot bind p q r one two =
    let less = one.fewer in let more = two.fewer in
    record { rest = one.rest ∙ two.rest; place = two.place; fewer = omega (arith, less, more) }

module _ (i : Image) (slot : ℕ) (bind : ℕ → ℕ) (valid : is_valid i ≡ true) where
  abbrev Goes : Position → Position → Type 0
  Goes p q = GoesBy i.spaces slot bind p q

  abbrev spot_of : Pass → ℕ → Spot → Position
  spot_of pass a spot = record { walk = walks.Done; pass = pass; spot = spot; stands = a }

  -- an item in which nothing more is done is gone by
  item_gone : (pass : Pass) (a n j k : ℕ) (s : SpaceRec) → slice_get i.spaces n ≡ Some s → IsPosition i.spaces slot bind (spot_of pass a (spots.Part n j k))
      → k < 6 → Spent i.spaces slot bind pass j k (slice_get i.spaces n) → Goes (spot_of pass a (spots.Part n j k)) (spot_of pass a (next_item pass n s j))
  item_gone pass a n j k s there good lt spent =
      let end : Position = spot_of pass a (spots.Part n j 6) in
      let place : IsPosition i.spaces slot bind end = record { walk = tt; pass = good.pass; spot = good.spot; stands = good.stands } in
      let none : order_at i.spaces slot bind end ≡ None = ap (asked_in i.spaces slot bind pass n j 6) there in
      let step = stays i slot bind end valid place none in
      let less = fewer i.spaces slot bind pass a n j k lt good.spot in
      let falling = falls i.spaces slot bind end none (not_closing i.spaces slot bind pass n j 6) in
      subst (Goes (spot_of pass a (spots.Part n j k))) (behind_end i.spaces slot bind pass a n j s there) record {
        rest = gone i.spaces slot bind pass a n j k spent ∙ step.0;
        place = step.1;
        fewer = omega (arith, less, falling);
      }

  -- and so are those that follow it, up to one
  items_gone : (m : ℕ) (pass : Pass) (a n j k : ℕ) (s : SpaceRec) → slice_get i.spaces n ≡ Some s
      → IsPosition i.spaces slot bind (spot_of pass a (spots.Part n j k)) → k < 6 → Spent i.spaces slot bind pass j k (slice_get i.spaces n)
      → ((l : ℕ) → j < l → l ≤ j + m → idle_in pass (slice_get s.objects l) ≡ true)
      → Goes (spot_of pass a (spots.Part n j k)) (spot_of pass a (next_item pass n s (j + m)))
  items_gone zero pass a n j k s there good lt spent idles =
      let same : j ≡ j + 0 = omega arith in
      subst (λ l. Goes (spot_of pass a (spots.Part n j k)) (spot_of pass a (next_item pass n s l))) same (item_gone pass a n j k s there good lt spent)
  items_gone (suc m) pass a n j k s there good lt spent idles =
      by (items_gone m pass a n (suc j) 0 s there) (cases_lt (suc j) (words.items_of pass s))
    where
      one : Goes (spot_of pass a (spots.Part n j k)) (spot_of pass a (next_item pass n s j))
      one = item_gone pass a n j k s there good lt spent

      same : suc j + m ≡ j + suc m
      same = omega arith

      by : (IsPosition i.spaces slot bind (spot_of pass a (spots.Part n (suc j) 0)) → 0 < 6 → Spent i.spaces slot bind pass (suc j) 0 (slice_get i.spaces n)
          → ((l : ℕ) → suc j < l → l ≤ suc j + m → idle_in pass (slice_get s.objects l) ≡ true)
          → Goes (spot_of pass a (spots.Part n (suc j) 0)) (spot_of pass a (next_item pass n s (suc j + m))))
          → (suc j < words.items_of pass s) ⊎ (words.items_of pass s ≤ suc j)
          → Goes (spot_of pass a (spots.Part n j k)) (spot_of pass a (next_item pass n s (j + suc m)))
      by others (inl more) =
          let here : next_item pass n s j ≡ spots.Part n (suc j) 0 =
          ap (λ t. cond t (spots.Part n (suc j) 0) (spots.Room (suc n))) (lt-ltb (suc j) (words.items_of pass s) more) in
          let first : Goes (spot_of pass a (spots.Part n j k)) (spot_of pass a (spots.Part n (suc j) 0)) =
          subst (λ spot. Goes (spot_of pass a (spots.Part n j k)) (spot_of pass a spot)) here one in
          let still : idle_at pass (suc j) (slice_get i.spaces n) ≡ true = ap (idle_at pass (suc j)) there ∙ idles (suc j) (omega arith) (omega arith) in
          subst (λ l. Goes (spot_of pass a (spots.Part n j k)) (spot_of pass a (next_item pass n s l))) same
          (then_by i.spaces slot bind (spot_of pass a (spots.Part n j k)) (spot_of pass a (spots.Part n (suc j) 0))
          (spot_of pass a (next_item pass n s (suc j + m))) first
          (others first.place (omega arith) (inr still) (λ l lt le. idles l (omega (arith, lt)) (omega (arith, le)))))
      by others (inr none) =
          let last : (l : ℕ) → j ≤ l → next_item pass n s l ≡ spots.Room (suc n) =
          (λ l le. ap (λ t. cond t (spots.Part n (suc l) 0) (spots.Room (suc n))) (le-ltb (suc l) (words.items_of pass s) (omega (arith, none, le)))) in
          subst (λ spot. Goes (spot_of pass a (spots.Part n j k)) (spot_of pass a spot)) (last j (omega arith) ∙ sym (last (j + suc m) (omega arith))) one

  spent_so : (pass : Pass) (n j k : ℕ) → is_spent i.spaces pass n j k ≡ true → (k < 6) × Spent i.spaces slot bind pass j k (slice_get i.spaces n)
  spent_so pass n j k is = by (ltb k 6) (leb (parts_of pass) k) (idle_at pass j (slice_get i.spaces n)) refl refl refl is
    where
      by : (high low still : Bool) → ltb k 6 ≡ high → leb (parts_of pass) k ≡ low → idle_at pass j (slice_get i.spaces n) ≡ still
          → (high && (low || still)) ≡ true → (k < 6) × Spent i.spaces slot bind pass j k (slice_get i.spaces n)
      by true true still high low idles is = (ltb-true k 6 high, inl (leb-true (parts_of pass) k low))
      by true false true high low idles is = (ltb-true k 6 high, inr idles)
      by true false false high low idles is = absurd (cc)
      by false low still high lows idles is = absurd (cc)

  pub spent_gone : (p : Position) (spot : Spot) → IsPosition i.spaces slot bind p → p.walk ≡ walks.Done → IsBehind i.spaces p.pass p.spot spot
      → Goes p (spot_of p.pass p.stands spot)
  spent_gone p spot good done behind = by p.walk p.pass p.spot p.stands good done behind
    where
      to : (w : Walk) (pass : Pass) (at : Spot) (a : ℕ) → Position
      to w pass at a = record { walk = w; pass = pass; spot = at; stands = a }

      by : (w : Walk) (pass : Pass) (at : Spot) (a : ℕ) → IsPosition i.spaces slot bind (to w pass at a) → w ≡ walks.Done → IsBehind i.spaces pass at spot
          → Goes (to w pass at a) (spot_of pass a spot)
      by Done pass (Part n j k) a good done behind =
          let so = spent_so pass n j k behind.spent in
          let from = behind.from in
          let far : j + (behind.last - j) ≡ behind.last = omega (arith, from) in
          subst (λ spot. Goes (spot_of pass a (spots.Part n j k)) (spot_of pass a spot)) (ap (next_item pass n behind.space) far ∙ sym behind.is)
          (items_gone (behind.last - j) pass a n j k behind.space behind.there good so.0 so.1
          (λ l lt le. behind.idle l lt (omega (arith, from, le))))
      by Done pass (Before k) a good done behind = absurd behind
      by Done pass (Room n) a good done behind = absurd behind
      by Done pass (After k) a good done behind = absurd behind
      by (Top r) pass spot a good done behind = absurd (cc)
      by (Down r name from to last) pass spot a good done behind = absurd (cc)
