-- Changes that the freezing rule allows to one who doesn't decide leave what lies at and beneath a frozen root.
use Rattle.std.proofs.Common.{◌≡◌, ℕ, Bool, true, false, cond, not, ◌&&◌, ◌||◌, IsSome, is_some, List, [], ◌∷◌, ◌++◌, Option, Some, None, option_map, refl, sym}
use Rattle.std.proofs.Common.{ap, ◌∙◌, ◌⊎◌, inl, inr}
use Rattle.std.specs.List.{list_any}
use Rattle.std.proofs.lemmas.Bool.{or_cases, and_parts}
use Rattle.std.proofs.lemmas.List.Folds.{list_any-append}
use Rattle.fk_model.specs.declared.names.Kind.{Kind}
use Rattle.fk_model.specs.declared.names.Kind.TheVariants as kinds
use Rattle.fk_model.specs.Places.{Path, same_path, Ptr, leads_to}
use Rattle.fk_model.specs.Objects.{Peer, Talk, Fault, Body, kind_of, or_else, holds}
use Rattle.fk_model.specs.Objects.Peer.{Server, Service, Parked}
use Rattle.fk_model.specs.Objects.Body.{Mutex, Cond, Mapping, Region, Port, Portset, Space, Thread_of, Reference}
use Rattle.fk_model.specs.World.{World, Change, edited, through, death_sweep, following, apply, apply_all}
use Rattle.fk_model.specs.World.Change.{Alter, Make, MakeSpace, Kill, Move, PutPage, DropPage}
use Rattle.fk_model.specs.Searches.{pointers, option_list, talk_pointers, fault_pointers, peer_pointer}
use Rattle.fk_model.specs.Holds.{holder_of, decider, is_frozen_for}
use Rattle.fk_model.specs.StateRows.{referable}
use Rattle.fk_model.specs.Freezing.{body_pointers, is_swept, are_unfrozen, lost_with, IsAllowed, AreAllowed}
use Rattle.laws_moves.specs.Machine.Frame.{names_body, names_page}
use Rattle.fk_model.specs.Valid.{IsConsistent, kind_there, is_one_of, leads_there, may_lead, all_in, is_good, is_good_peer, is_good_talk, is_good_fault}
use Rattle.laws_moves.proofs.InMachine.Frame.{apply-body, apply-page}
use Rattle.fk_model.proofs.walks.PlaceLaws.{same_path_ne, leads_to_at}
use Rattle.laws_moves.proofs.InMachine.validity.Outlines.{Outline, outline_of, outline-kind}
use Rattle.laws_moves.proofs.InMachine.validity.Edits.{outline-edited}
use Rattle.laws_moves.proofs.InMachine.validity.Kills.{outline-without}
use Rattle.laws_moves.proofs.InMachine.validity.Renames.{outline-following}
use Rattle.laws_moves.proofs.InMachine.safety.Safe.{IsSafe, AreSafe}
use Rattle.laws_moves.specs.Frozen.Frozen.{IsSameInside}

-- ---- what lies beneath a frozen root is frozen

held_above : (test : Ptr → Bool) (a b : Option Ptr) → holds test a ≡ true → holds test (or_else a b) ≡ true
held_above test (Some p) b h = h
held_above test None b h = cc

pub frozen_inside : (w : World) (me root q : Path) → is_frozen_for w me root ≡ true → is_frozen_for w me (q ++ root) ≡ true
unfolding decider
frozen_inside w me root [] h = h
frozen_inside w me root (k ∷ q) h = held_above _ (decider w (q ++ root)) (holder_of (w.body (k ∷ (q ++ root)))) (frozen_inside w me root q h)

-- so whoever may change an object isn't inside
pub apart : (w : World) (me root q x : Path) → is_frozen_for w me root ≡ true → is_frozen_for w me x ≡ false → same_path (q ++ root) x ≡ false
apart w me root q x frozen free = same_path_ne (q ++ root) x (λ e. let inside = frozen_inside w me root q frozen in let free_there = rw (← e) at free in cc)

-- ---- in a consistent world a pointer leads to something

live_one_of : (wanted : List Kind) (o : Option Kind) → is_one_of wanted o ≡ true → IsSome o
live_one_of wanted (Some kind) h = refl
live_one_of wanted None h = cc

module _ (there : Path → Option Kind) (x : Path) where
  leads_live : (wanted : List Kind) (p : Ptr) → leads_there there wanted p ≡ true → leads_to x p ≡ true → IsSome (there x)
  leads_live wanted p good led = let is = leads_to_at x p led in let good_there = rw is at good in live_one_of wanted (there x) good_there

  may_live : (wanted : List Kind) (p : Ptr) → may_lead there wanted p ≡ true → leads_to x p ≡ true → IsSome (there x)
  may_live wanted p good led = let is = leads_to_at x p led in let good_there = rw is at good in live_one_of wanted (there x) good_there

  one_led : (P : Type 0) (p : Ptr) → (leads_to x p ≡ true → P) → list_any (leads_to x) (p ∷ []) ≡ true → P
  one_led P p go h = by (or_cases (leads_to x p) false h)
    where
      by : (leads_to x p ≡ true) ⊎ (false ≡ true) → P
      by (inl e) = go e
      by (inr e) = cc

  peer_live : (peer : Peer) → is_good_peer there peer ≡ true → list_any (leads_to x) (peer_pointer peer) ≡ true → IsSome (there x)
  peer_live (Server thread) good h = one_led (IsSome (there x)) thread (leads_live (kinds.Thread ∷ []) thread good) h
  peer_live Service good h = cc
  peer_live Parked good h = cc

  both_led : (P : Type 0) (ps qs : List Ptr) → (list_any (leads_to x) ps ≡ true → P) → (list_any (leads_to x) qs ≡ true → P) →
      list_any (leads_to x) (ps ++ qs) ≡ true → P
  both_led P ps qs first then h = by (or_cases (list_any (leads_to x) ps) (list_any (leads_to x) qs) (sym (list_any-append (leads_to x) ps qs) ∙ h))
    where
      by : (list_any (leads_to x) ps ≡ true) ⊎ (list_any (leads_to x) qs ≡ true) → P
      by (inl e) = first e
      by (inr e) = then e

  talk_live : (o : Option Talk) → all_in (is_good_talk there) o ≡ true → list_any (leads_to x) (option_list talk_pointers o) ≡ true → IsSome (there x)
  talk_live None good h = cc
  talk_live (Some talk) good h =
      let goods = and_parts _ _ good in
      both_led (IsSome (there x)) (talk.port ∷ []) (peer_pointer talk.peer)
      (one_led (IsSome (there x)) talk.port (leads_live (kinds.Port ∷ []) talk.port goods.0)) (peer_live talk.peer goods.1) h

  taker_live : (o : Option Peer) → all_in (is_good_peer there) o ≡ true → list_any (leads_to x) (option_list peer_pointer o) ≡ true → IsSome (there x)
  taker_live None good h = cc
  taker_live (Some peer) good h = peer_live peer good h

  fault_live : (o : Option Fault) → all_in (is_good_fault there) o ≡ true → list_any (leads_to x) (option_list fault_pointers o) ≡ true → IsSome (there x)
  fault_live None good h = cc
  fault_live (Some fault) good h =
      let goods = and_parts _ _ good in
      both_led (IsSome (there x)) (fault.port ∷ []) (option_list peer_pointer fault.taker)
      (one_led (IsSome (there x)) fault.port (leads_live (kinds.Port ∷ []) fault.port goods.0)) (taker_live fault.taker goods.1) h

  holder_live : (o : Option Ptr) → all_in (leads_there there (kinds.Thread ∷ [])) o ≡ true → list_any (leads_to x) (option_list (λ p. p ∷ []) o) ≡ true →
      IsSome (there x)
  holder_live None good h = cc
  holder_live (Some p) good h = one_led (IsSome (there x)) p (leads_live (kinds.Thread ∷ []) p good) h

  body_live : (at : Path) (b : Body) → is_good there at b ≡ true → list_any (leads_to x) (pointers b) ≡ true → IsSome (there x)
  body_live at (Mapping m) good h = one_led (IsSome (there x)) m.region (may_live (kinds.Region ∷ []) m.region (and_parts _ _ good).1) h
  body_live at (Region r) good h = one_led (IsSome (there x)) r.keeper (may_live (kinds.Port ∷ []) r.keeper (and_parts _ _ good).1) h
  body_live at (Space birth holder) good h = holder_live holder good h
  body_live at (Thread_of t) good h =
      let goods = and_parts _ _ good in
      both_led (IsSome (there x)) (option_list talk_pointers t.talk) (option_list fault_pointers t.fault) (talk_live t.talk goods.0)
      (fault_live t.fault goods.1) h
  body_live at (Reference to) good h = one_led (IsSome (there x)) to (may_live referable to good) h
  body_live at (Mutex locked) good h = cc
  body_live at Cond good h = cc
  body_live at (Port set served) good h = cc
  body_live at Portset good h = cc

  pub there_live : (at : Path) (o : Option Body) → all_in (is_good there at) o ≡ true → list_any (leads_to x) (body_pointers o) ≡ true → IsSome (there x)
  there_live at None good h = cc
  there_live at (Some b) good h = body_live at b good h

-- ---- a place to which an object is renamed

-- where the place is the root, the hold is on the root itself or above the object, and neither can be
pub root_apart : (w : World) (me : Path) (k slot : ℕ) (s : Path) → is_frozen_for w me (slot ∷ s) ≡ true → w.body (slot ∷ s) ≡ None →
    is_frozen_for w me (k ∷ s) ≡ false → ⊥
unfolding decider
root_apart w me k slot s frozen empty free = by (decider w s) frozen free
  where
    by : (d : Option Ptr) → holds (λ holder. not (leads_to me holder)) (or_else d (holder_of (w.body (slot ∷ s)))) ≡ true →
        holds (λ holder. not (leads_to me holder)) (or_else d (holder_of (w.body (k ∷ s)))) ≡ false → ⊥
    by (Some p) on off = cc
    by None on off = let none : false ≡ true = rw empty at on in cc

pub place_apart : (w v : World) (me root : Path) (k slot : ℕ) (s : Path) → is_frozen_for w me root ≡ true → v.body root ≡ w.body root
    → v.body (slot ∷ s) ≡ None →
    is_frozen_for w me (k ∷ s) ≡ false → (q : Path) → same_path (q ++ root) (slot ∷ s) ≡ false
place_apart w v me root k slot s frozen same empty free [] = same_path_ne root (slot ∷ s) (λ e.
    let frozen_there : is_frozen_for w me (slot ∷ s) ≡ true = rw e at frozen in
    let same_there : v.body (slot ∷ s) ≡ w.body (slot ∷ s) = rw e at same in
    root_apart w me k slot s frozen_there (sym same_there ∙ empty) free)
place_apart w v me root k slot s frozen same empty free (j ∷ q) = same_path_ne (j ∷ (q ++ root)) (slot ∷ s) (λ e.
    let beneath : q ++ root ≡ s = cc in
    let inside = frozen_inside w me root (k ∷ q) frozen in
    let inside_there : is_frozen_for w me (k ∷ s) ≡ true = rw beneath at inside in cc)

-- ---- what the objects inside lead to keeps its kind

pub kind_outline : (f : Body → Body) → ((o : Option Body) → option_map outline_of (option_map f o) ≡ option_map outline_of o) → (o : Option Body) →
    option_map kind_of (option_map f o) ≡ option_map kind_of o
kind_outline f same o = outline-kind (option_map f o) ∙ ap (option_map (λ (t : Outline). t.kind)) (same o) ∙ sym (outline-kind o)

pub edited_outline : (f : Body → Body) → ((b : Body) → outline_of (f b) ≡ outline_of b) → (o : Option Body) →
    option_map outline_of (option_map f o) ≡ option_map outline_of o
edited_outline f same None = refl
edited_outline f same (Some b) = ap (λ (t : Outline). Some t) (same b)

if_kind : (t : Bool) (a b : Option Body) → (t ≡ true → option_map kind_of a ≡ option_map kind_of b) → option_map kind_of (cond t a b) ≡ option_map kind_of b
if_kind true a b h = h refl
if_kind false a b h = refl

-- with what it is swept
swept_by : (x q : Path) (o : Option Body) → list_any (leads_to x) (body_pointers o) ≡ true → is_swept x q o ≡ true
swept_by x q None h = cc
swept_by x q (Some b) h = rw h refl

module _ (w : World) (root me : Path) (valid : IsConsistent w) (frozen : is_frozen_for w me root ≡ true) where
  abbrev IsLed : Path → Path → Type 0
  IsLed x q = list_any (leads_to x) (body_pointers (w.body (q ++ root))) ≡ true

  led_live : (x q : Path) → IsLed x q → IsSome (kind_there w x)
  led_live x q led = there_live (kind_there w) x (q ++ root) (w.body (q ++ root)) (valid.good (q ++ root)) led

  pub not_swept : (x q : Path) →
      (not (is_swept x (q ++ root) (w.body (q ++ root))) || (not (is_frozen_for w me (q ++ root)) && are_unfrozen w me
      (lost_with x (w.body (q ++ root))))) ≡ true → is_swept x (q ++ root) (w.body (q ++ root)) ≡ false
  not_swept x q may = by (is_swept x (q ++ root) (w.body (q ++ root))) (is_frozen_for w me (q ++ root)) (frozen_inside w me root q frozen) may
    where
      by : (s f : Bool) → f ≡ true → (not s || (not f && are_unfrozen w me (lost_with x (w.body (q ++ root))))) ≡ true → s ≡ false
      by true true e h = cc
      by true false e h = cc
      by false f e h = refl

  pub not_followed : (x q : Path) → (not (is_swept x (q ++ root) (w.body (q ++ root))) || not (is_frozen_for w me (q ++ root))) ≡ true →
      is_swept x (q ++ root) (w.body (q ++ root)) ≡ false
  not_followed x q may = by (is_swept x (q ++ root) (w.body (q ++ root))) (is_frozen_for w me (q ++ root)) (frozen_inside w me root q frozen) may
    where
      by : (s f : Bool) → f ≡ true → (not s || not f) ≡ true → s ≡ false
      by true true e h = cc
      by true false e h = cc
      by false f e h = refl

  module _ (v : World) (same : IsSameInside root w v) where
    -- what an object inside leads to isn't an empty place
    not_vacant : (k : ℕ) (s x q : Path) → v.body (k ∷ s) ≡ None → IsLed x q → same_path x (k ∷ s) ≡ false
    unfolding kind_there
    not_vacant k s x q empty led = same_path_ne x (k ∷ s) (λ e.
        let live = led_live x q led in
        let here : kind_there v x ≡ None = rw (e, empty) refl in
        let kinds = same.kinds x q led in
        let some : is_some (kind_there v x) ≡ true = rw kinds live in
        let off : false ≡ true = rw here at some in cc)

    abbrev swept_here : Path → Path → Bool
    swept_here x q = is_swept x (q ++ root) (v.body (q ++ root))

    here_off : (x q : Path) → is_swept x (q ++ root) (w.body (q ++ root)) ≡ false → swept_here x q ≡ false
    here_off x q h = rw (same.bodies q) h

    -- what an object inside leads to isn't what is destroyed or renamed
    pub not_gone : (x y q : Path) → is_swept y (q ++ root) (w.body (q ++ root)) ≡ false → IsLed x q → same_path x y ≡ false
    not_gone x y q off led = same_path_ne x y (λ e.
        let led_y : IsLed y q = rw e at led in
        let on = swept_by y (q ++ root) (w.body (q ++ root)) led_y in cc)

    bodies_named : (c : Change) → ((q : Path) → names_body v c (q ++ root) ≡ false) → (q : Path) → (apply c v).body (q ++ root) ≡ w.body (q ++ root)
    bodies_named c off q = apply-body c v (q ++ root) (off q) ∙ same.bodies q

    pages_named : (c : Change) → ((q : Path) (page : ℕ) → names_page c (q ++ root) page ≡ false) → (q : Path) (page : ℕ) →
        (apply c v).page (q ++ root) page ≡ w.page (q ++ root) page
    pages_named c off q page = apply-page c v (q ++ root) page (off q page) ∙ same.pages q page

    off_both : (a b : Bool) → a ≡ false → b ≡ false → (a || b) ≡ false
    off_both a b h g = rw h g

    off_and : (a b : Bool) → a ≡ false → (a && b) ≡ false
    off_and a b h = rw h refl

    -- a place next to what isn't inside isn't inside, unless it is the root
    pub change-same : (c : Change) → IsAllowed w me c → IsSafe v c → IsSameInside root w (apply c v)
    unfolding apply kind_there
    change-same (Alter x edit) may safe = record {
      bodies = bodies_named (Alter x edit) (λ q. apart w me root q x frozen may.object);
      pages = λ q page. same.pages q page;
      kinds = λ y q led. if_kind (same_path y x) _ (v.body y) (λ e. kind_outline (edited edit) (edited_outline (edited edit) (outline-edited edit))
          (v.body y)) ∙ same.kinds y q led;
    }
    change-same (Make [] body) may safe = absurd safe
    change-same (Make (k ∷ s) body) may safe = record {
      bodies = bodies_named (Make (k ∷ s) body) (λ q. apart w me root q (k ∷ s) frozen may.object);
      pages = λ q page. same.pages q page;
      kinds = λ y q led. rw (not_vacant k s y q safe.place.empty led) (same.kinds y q led);
    }
    change-same (MakeSpace [] holder) may safe = absurd safe
    change-same (MakeSpace (k ∷ s) holder) may safe = record {
      bodies = bodies_named (MakeSpace (k ∷ s) holder) (λ q. apart w me root q (k ∷ s) frozen may.object);
      pages = λ q page. same.pages q page;
      kinds = λ y q led. rw (not_vacant k s y q safe.place.empty led) (same.kinds y q led);
    }
    change-same (Kill x) may safe = record {
      bodies = bodies_named (Kill x) (λ q. off_both _ _ (apart w me root q x frozen may.object) (here_off x q (not_swept x q (may.others (q ++ root)))));
      pages = pages_named (Kill x) (λ q page. apart w me root q x frozen may.object);
      kinds = λ y q led. rw (not_gone y x q (not_swept x q (may.others (q ++ root))) led)
          (kind_outline (through (death_sweep x) y) (outline-without x y) (v.body y) ∙ same.kinds y q led);
    }
    change-same (Move [] slot) may safe = absurd safe
    change-same (Move (k ∷ s) slot) may safe = record {
      bodies = bodies_named (Move (k ∷ s) slot) (λ q. off_both _ _ (target q)
          (off_both _ _ (apart w me root q (k ∷ s) frozen may.object) (here_off (k ∷ s) q (not_followed (k ∷ s) q (may.others (q ++ root))))));
      pages = pages_named (Move (k ∷ s) slot) (λ q page. off_both _ _ (target q) (apart w me root q (k ∷ s) frozen may.object));
      kinds = λ y q led. rw (not_vacant slot s y q safe.empty led, not_gone y (k ∷ s) q (not_followed (k ∷ s) q (may.others (q ++ root))) led)
          (kind_outline (through (following (k ∷ s) (slot ∷ s)) y) (outline-following (k ∷ s) (slot ∷ s) y) (v.body y) ∙ same.kinds y q led);
    }
      where
        target : (q : Path) → same_path (q ++ root) (slot ∷ s) ≡ false
        target q = place_apart w v me root k slot s frozen (same.bodies []) safe.empty may.object q
    change-same (PutPage space page words) may safe = record {
      bodies = same.bodies;
      pages = pages_named (PutPage space page words) (λ q g. off_and _ _ (apart w me root q space frozen may));
      kinds = same.kinds;
    }
    change-same (DropPage space page) may safe = record {
      bodies = same.bodies;
      pages = pages_named (DropPage space page) (λ q g. off_and _ _ (apart w me root q space frozen may));
      kinds = same.kinds;
    }

-- ---- a list of changes

changes-same_from : (w : World) (root me : Path) (valid : IsConsistent w) (frozen : is_frozen_for w me root ≡ true) (cs : List Change) (v : World) →
    IsSameInside root w v → AreAllowed w me cs → AreSafe v cs → IsSameInside root w (apply_all cs v)
unfolding apply_all
changes-same_from w root me valid frozen [] v same may safe = same
changes-same_from w root me valid frozen (c ∷ cs) v same may safe =
    changes-same_from w root me valid frozen cs (apply c v) (change-same w root me valid frozen v same c may.0 safe.0) may.1 safe.1

pub changes-same : (w : World) (root me : Path) → IsConsistent w → is_frozen_for w me root ≡ true → (cs : List Change) → AreAllowed w me cs → AreSafe w cs →
    IsSameInside root w (apply_all cs w)
changes-same w root me valid frozen cs may safe = changes-same_from w root me valid frozen cs w
    (record { bodies = λ q. refl; pages = λ q page. refl; kinds = λ x q led. refl }) may safe
