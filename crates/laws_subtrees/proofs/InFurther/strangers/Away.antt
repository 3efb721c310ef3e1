-- Changes away from a plain subtree leave its cut, and nobody in it comes to serve the outside by them.
use Rattle.std.proofs.Common.{◌≡◌, ℕ, Bool, true, false, if◌then◌else◌, ◌&&◌, ◌||◌, is_some, List, [], ◌∷◌, ◌++◌, Option, Some, None, option_map, refl, ap, ◌∙◌}
use Rattle.std.specs.List.{list_any}
use Rattle.fk_model.specs.Places.{Path, same_path, strip, is_within, parent, leads_to}
use Rattle.fk_model.specs.Objects.{Body, kind_of, holds}
use Rattle.fk_model.specs.Objects.Body.{Mutex, Port}
use Rattle.fk_model.specs.World.{World, Change, Edit, edited, through, death_sweep, following, apply, apply_all}
use Rattle.fk_model.specs.World.Change.{Alter, Make, MakeSpace, Kill, Move, PutPage, DropPage}
use Rattle.fk_model.specs.World.Edit.{SetTalk, SetFault}
use Rattle.fk_model.specs.Freezing.{body_pointers, is_swept, is_in_set}
use Rattle.fk_model.specs.Valid.{IsConsistent, kind_there}
use Rattle.fk_model.specs.Cut.{is_inner_peer, IsPlain}
use Rattle.fk_model.specs.Seen.{serves_outside}
use Rattle.fk_model.proofs.walks.PlaceLaws.{same_path_ne, same_path_outside}
use Rattle.laws_moves.specs.Machine.Frame.{names_body, names_page}
use Rattle.laws_moves.proofs.InMachine.Frame.{apply-body, apply-page}
use Rattle.laws_moves.proofs.InMachine.validity.Edits.{outline-edited}
use Rattle.laws_moves.proofs.InMachine.validity.Kills.{outline-without}
use Rattle.laws_moves.proofs.InMachine.validity.Renames.{outline-following}
use Rattle.laws_moves.proofs.InMachine.safety.Safe.{IsSafe, AreSafe}
use Rattle.laws_moves.proofs.InFrozen.Frozen.{there_live, kind_outline, edited_outline}
use Rattle.laws_subtrees.proofs.InFurther.strangers.Places.{IsAwayObject, away_object, object_out}
use Rattle.laws_subtrees.proofs.InFurther.strangers.Leads.{inside_unled}

module _ (nester : Path) (slot : ℕ) where
  abbrev pub root : Path
  root = slot ∷ nester

  -- nobody inside comes to serve by it
  abbrev pub IsAwayEdit : Edit → Type 0
  IsAwayEdit (SetTalk (Some talk)) = is_inner_peer root talk.peer ≡ false
  IsAwayEdit (SetFault (Some fault)) = holds (is_inner_peer root) fault.taker ≡ false
  IsAwayEdit other = Unit {0}

  abbrev pub IsAwayChange : Change → Type 0
  IsAwayChange (Alter y edit) = (is_within root y ≡ false) × IsAwayEdit edit
  IsAwayChange (Make y body) = is_within root y ≡ false
  IsAwayChange (MakeSpace y holder) = is_within root y ≡ false
  IsAwayChange (Kill y) = IsAwayObject nester slot y
  IsAwayChange (Move y k) = IsAwayObject nester slot y
  IsAwayChange (PutPage space page words) = is_within root space ≡ false
  IsAwayChange (DropPage space page) = is_within root space ≡ false

  abbrev pub AreAwayChanges : List Change → Type 0
  AreAwayChanges [] = Unit {0}
  AreAwayChanges (c ∷ cs) = IsAwayChange c × AreAwayChanges cs

  pub away-serves : (cs : List Change) → AreAwayChanges cs → serves_outside root cs ≡ false
  away-serves [] away = refl
  away-serves (Alter y (SetTalk (Some talk)) ∷ cs) away = rw (away.0.0, away.0.1) (away-serves cs away.1)
  away-serves (Alter y (SetFault (Some fault)) ∷ cs) away = rw (away.0.0, away.0.1) (away-serves cs away.1)
  away-serves (c ∷ cs) away = away-serves cs away.1

-- ---- what stays

-- the root is still a space; all beneath it, and its pages, stay; and what that leads to is of the kind that it was
pub record IsSameBelow (root : Path) (w v : World) : Type 0 where
  pub bodies : (k : ℕ) (q : Path) → v.body (k ∷ (q ++ root)) ≡ w.body (k ∷ (q ++ root))
  pub top : kind_there v root ≡ kind_there w root
  pub pages : (q : Path) (page : ℕ) → v.page (q ++ root) page ≡ w.page (q ++ root) page
  pub kinds : (x : Path) (k : ℕ) (q : Path) → list_any (leads_to x) (body_pointers (w.body (k ∷ (q ++ root)))) ≡ true → kind_there v x ≡ kind_there w x

if_kind : (t : Bool) (a b : Option Body) → (t ≡ true → option_map kind_of a ≡ option_map kind_of b) →
    option_map kind_of (if t then a else b) ≡ option_map kind_of b
if_kind true a b h = h refl
if_kind false a b h = refl

module _ (w : World) (nester : Path) (slot : ℕ) (valid : IsConsistent w) (plain : IsPlain w nester slot) where
  apart : (q y : Path) → is_within (slot ∷ nester) y ≡ false → same_path (q ++ slot ∷ nester) y ≡ false
  apart q y out = same_path_outside (slot ∷ nester) q y (by (strip (slot ∷ nester) y) out)
    where
      by : (o : Option Path) → is_some o ≡ false → o ≡ None
      by None h = refl
      by (Some x) h = cc

  off_both : (a b : Bool) → a ≡ false → b ≡ false → (a || b) ≡ false
  off_both a b h g = rw h g

  off_and : (a b : Bool) → a ≡ false → (a && b) ≡ false
  off_and a b h = rw h refl

  IsLed : Path → ℕ → Path → Type 0
  IsLed x k q = list_any (leads_to x) (body_pointers (w.body (k ∷ (q ++ slot ∷ nester)))) ≡ true

  -- nothing beneath the root is swept with what is away
  unswept : (y : Path) (k : ℕ) (q : Path) → IsAwayObject nester slot y → is_swept y (k ∷ (q ++ slot ∷ nester)) (w.body (k ∷ (q ++ slot ∷ nester))) ≡ false
  unswept y k q away = by (w.body (k ∷ (q ++ slot ∷ nester))) (inside_unled w nester slot valid plain k q y away)
    where
      set : (j : ℕ) → same_path (j ∷ (q ++ slot ∷ nester)) y ≡ false
      set j = apart (j ∷ q) y (object_out nester slot y away)

      in_set : (b : Body) → is_in_set y (k ∷ (q ++ slot ∷ nester)) b ≡ false
      in_set (Port (Some j) served) = set j
      in_set (Port None served) = refl
      in_set (Mutex locked) = refl
      in_set b = refl

      by : (o : Option Body) → list_any (leads_to y) (body_pointers o) ≡ false → is_swept y (k ∷ (q ++ slot ∷ nester)) o ≡ false
      by None none = refl
      by (Some b) none = off_both _ _ none (in_set b)

  unfolding_led : (x y : Path) (k : ℕ) (q : Path) → IsAwayObject nester slot y → IsLed x k q → same_path x y ≡ false
  unfolding IsLed
  unfolding_led x y k q away led = same_path_ne x y (λ e. let here : list_any (leads_to y) (body_pointers (w.body (k ∷ (q ++ slot ∷ nester)))) ≡ true =
      rw e at led in
      let none = inside_unled w nester slot valid plain k q y away in cc)

  module _ (v : World) (same : IsSameBelow (slot ∷ nester) w v) where
    bodies_named : (c : Change) → ((k : ℕ) (q : Path) → names_body v c (k ∷ (q ++ slot ∷ nester)) ≡ false) → (k : ℕ) (q : Path) →
        (apply c v).body (k ∷ (q ++ slot ∷ nester)) ≡ w.body (k ∷ (q ++ slot ∷ nester))
    bodies_named c off k q = apply-body c v (k ∷ (q ++ slot ∷ nester)) (off k q) ∙ same.bodies k q

    pages_named : (c : Change) → ((q : Path) (page : ℕ) → names_page c (q ++ slot ∷ nester) page ≡ false) → (q : Path) (page : ℕ) →
        (apply c v).page (q ++ slot ∷ nester) page ≡ w.page (q ++ slot ∷ nester) page
    pages_named c off q page = apply-page c v (q ++ slot ∷ nester) page (off q page) ∙ same.pages q page

    -- what something inside leads to isn't an empty place
    not_vacant : (y x : Path) (k : ℕ) (q : Path) → v.body y ≡ None → IsLed x k q → same_path x y ≡ false
    unfolding kind_there IsLed
    not_vacant y x k q empty led = same_path_ne x y (λ e.
        let live = there_live (kind_there w) x (k ∷ (q ++ slot ∷ nester)) (w.body (k ∷ (q ++ slot ∷ nester))) (valid.good (k ∷ (q ++ slot ∷ nester))) led in
        let here : kind_there v x ≡ None = rw (e, empty) refl in
        let kinds = same.kinds x k q led in
        let some : is_some (kind_there v x) ≡ true = rw kinds live in
        let off : false ≡ true = rw here at some in cc)

    swept_here : (y : Path) (k : ℕ) (q : Path) → IsAwayObject nester slot y → is_swept y (k ∷ (q ++ slot ∷ nester)) (v.body (k ∷ (q ++ slot ∷ nester))) ≡ false
    swept_here y k q away = rw (same.bodies k q) (unswept y k q away)

    moved_object : (y : Path) (j : ℕ) → IsAwayObject nester slot y → IsAwayObject nester slot (j ∷ parent y)
    moved_object y j away = rw (ap parent away.is) (away_object nester slot j away.space away.away)

    pub change-same : (c : Change) → IsAwayChange nester slot c → IsSafe v c → IsSameBelow (slot ∷ nester) w (apply c v)
    unfolding apply kind_there IsLed
    change-same (Alter y edit) away safe = record {
      bodies = bodies_named (Alter y edit) (λ k q. apart (k ∷ q) y away.0);
      top = if_kind (same_path (slot ∷ nester) y) _ (v.body (slot ∷ nester))
          (λ e. kind_outline (edited edit) (edited_outline (edited edit) (outline-edited edit)) (v.body (slot ∷ nester))) ∙ same.top;
      pages = λ q page. same.pages q page;
      kinds = λ x k q led. if_kind (same_path x y) _ (v.body x) (λ e. kind_outline (edited edit) (edited_outline (edited edit) (outline-edited edit))
          (v.body x)) ∙ same.kinds x k q led;
    }
    change-same (Make [] body) away safe = absurd safe
    change-same (Make (j ∷ s) body) away safe = record {
      bodies = bodies_named (Make (j ∷ s) body) (λ k q. apart (k ∷ q) (j ∷ s) away);
      top = rw (apart [] (j ∷ s) away) same.top;
      pages = λ q page. same.pages q page;
      kinds = λ x k q led. rw (not_vacant (j ∷ s) x k q safe.place.empty led) (same.kinds x k q led);
    }
    change-same (MakeSpace [] holder) away safe = absurd safe
    change-same (MakeSpace (j ∷ s) holder) away safe = record {
      bodies = bodies_named (MakeSpace (j ∷ s) holder) (λ k q. apart (k ∷ q) (j ∷ s) away);
      top = rw (apart [] (j ∷ s) away) same.top;
      pages = λ q page. same.pages q page;
      kinds = λ x k q led. rw (not_vacant (j ∷ s) x k q safe.place.empty led) (same.kinds x k q led);
    }
    change-same (Kill y) away safe = record {
      bodies = bodies_named (Kill y) (λ k q. off_both _ _ (apart (k ∷ q) y (object_out nester slot y away)) (swept_here y k q away));
      top = rw (apart [] y (object_out nester slot y away))
          (kind_outline (through (death_sweep y) (slot ∷ nester)) (outline-without y (slot ∷ nester)) (v.body (slot ∷ nester)) ∙ same.top);
      pages = pages_named (Kill y) (λ q page. apart q y (object_out nester slot y away));
      kinds = λ x k q led. rw (unfolding_led x y k q away led) (kind_outline (through (death_sweep y) x) (outline-without y x) (v.body x)
          ∙ same.kinds x k q led);
    }
    change-same (Move [] j) away safe = absurd safe
    change-same (Move (i ∷ s) j) away safe =
        let out = object_out nester slot (i ∷ s) away in
        let there = moved_object (i ∷ s) j away in
        let out_there = object_out nester slot (j ∷ s) there in
        record {
          bodies = bodies_named (Move (i ∷ s) j) (λ k q. off_both _ _ (apart (k ∷ q) (j ∷ s) out_there)
              (off_both _ _ (apart (k ∷ q) (i ∷ s) out) (swept_here (i ∷ s) k q away)));
          top = rw (apart [] (j ∷ s) out_there, apart [] (i ∷ s) out)
              (kind_outline (through (following (i ∷ s) (j ∷ s)) (slot ∷ nester)) (outline-following (i ∷ s) (j ∷ s) (slot ∷ nester)) (v.body (slot ∷ nester))
              ∙ same.top);
          pages = pages_named (Move (i ∷ s) j) (λ q page. off_both _ _ (apart q (j ∷ s) out_there) (apart q (i ∷ s) out));
          kinds = λ x k q led. rw (unfolding_led x (j ∷ s) k q there led, unfolding_led x (i ∷ s) k q away led)
              (kind_outline (through (following (i ∷ s) (j ∷ s)) x) (outline-following (i ∷ s) (j ∷ s) x) (v.body x) ∙ same.kinds x k q led);
        }
    change-same (PutPage space page words) away safe = record {
      bodies = same.bodies;
      top = same.top;
      pages = pages_named (PutPage space page words) (λ q g. off_and _ _ (apart q space away));
      kinds = same.kinds;
    }
    change-same (DropPage space page) away safe = record {
      bodies = same.bodies;
      top = same.top;
      pages = pages_named (DropPage space page) (λ q g. off_and _ _ (apart q space away));
      kinds = same.kinds;
    }

changes-same_from : (w : World) (nester : Path) (slot : ℕ) → IsConsistent w → IsPlain w nester slot → (cs : List Change) (v : World) →
    IsSameBelow (slot ∷ nester) w v →
    AreAwayChanges nester slot cs → AreSafe v cs → IsSameBelow (slot ∷ nester) w (apply_all cs v)
unfolding apply_all
changes-same_from w nester slot valid plain [] v same away safe = same
changes-same_from w nester slot valid plain (c ∷ cs) v same away safe =
    changes-same_from w nester slot valid plain cs (apply c v) (change-same w nester slot valid plain v same c away.0 safe.0) away.1 safe.1

pub changes-below : (w : World) (nester : Path) (slot : ℕ) → IsConsistent w → IsPlain w nester slot → (cs : List Change) →
    AreAwayChanges nester slot cs → AreSafe w cs → IsSameBelow (slot ∷ nester) w (apply_all cs w)
changes-below w nester slot valid plain cs away safe =
    changes-same_from w nester slot valid plain cs w (record { bodies = λ k q. refl; top = refl; pages = λ q page. refl; kinds = λ x k q led. refl }) away safe
