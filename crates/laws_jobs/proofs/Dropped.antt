-- Nothing leads to a reference, so a porter that makes, leads or destroys its scratch references leaves what leads in, and where the subtree isn't closed.
use Rattle.std.proofs.Common.{◌≡◌, ℕ, ◌≤◌, Bool, true, false, not, ◌&&◌, ◌||◌, nat_le, is_some, List, [], ◌∷◌, ◌++◌, length, Option, Some, None, option_map}
use Rattle.std.proofs.Common.{refl, sym, ap, subst, arith, length-append, ◌∙◌, ◌⊎◌, inl, inr}
use Rattle.std.specs.List.{list_any}
use Rattle.std.proofs.lemmas.Bool.{or_cases, and_parts, leb-true}
use Rattle.std.proofs.lemmas.List.Folds.{list_any-append}
use Rattle.fk_model.specs.declared.limits.TheConstants.{FIRST_SCRATCH_SLOT, LAST_SCRATCH_SLOT, LAST_PORTER_SLOT}
use Rattle.fk_model.specs.declared.names.Kind.{Kind}
use Rattle.fk_model.specs.declared.names.Kind.TheVariants as kinds
use Rattle.fk_model.specs.Places.{Path, same_path, Ptr, leads_to}
use Rattle.fk_model.specs.Places.Ptr.{Null}
use Rattle.fk_model.specs.Objects.{Peer, Talk, Fault, Body, kind_of, holds}
use Rattle.fk_model.specs.Objects.Peer.{Server, Service, Parked}
use Rattle.fk_model.specs.Objects.Body.{Mutex, Cond, Mapping, Region, Port, Portset, Space, Thread_of, Reference}
use Rattle.fk_model.specs.World.{World, set_at, apply}
use Rattle.fk_model.specs.World.Change.{Alter, Make, Kill}
use Rattle.fk_model.specs.World.Edit.{SetPointer}
use Rattle.fk_model.specs.Searches.{pointers, option_list, talk_pointers, fault_pointers, peer_pointer, depth}
use Rattle.fk_model.specs.StateRows.{referable, is_native}
use Rattle.fk_model.specs.Holds.{holder_of, decider}
use Rattle.fk_model.specs.Freezing.{body_pointers, is_in_set, is_swept}
use Rattle.fk_model.specs.ObjectRows.{is_scratch}
use Rattle.fk_model.specs.Valid.{IsValid, kind_there, is_one_of, leads_there, may_lead, all_in, is_good, is_good_peer, is_good_talk, is_good_fault}
use Rattle.fk_model.specs.Closed.{open_place, is_led_to}
use Rattle.laws_moves.proofs.InMachine.Frame.{apply-body}
use Rattle.fk_model.proofs.walks.PlaceLaws.{same_path_eq, same_path_ne, leads_to_at}
use Rattle.laws_moves.specs.Frozen.Frozen.{IsSameInside}
use Rattle.laws_moves.specs.Frozen.Holding.{IsHolding, IsNear, only_reference}
use Rattle.laws_moves.proofs.InFrozen.Holding.{holder_none, none_above, decider_none}
use Rattle.laws_moves.proofs.InFrozen.Frozen.{there_live as led_live}
use Rattle.laws_moves.proofs.InFrozen.FrozenCut.{same-cut}
use Rattle.laws_jobs.specs.Leads.{OwnKeepOpenPlace}
use Rattle.laws_jobs.proofs.LeadLaws.{open_same}
use Rattle.laws_jobs.proofs.Own.{leads_same}

module _ (there : Path → Option Kind) (x : Path) (is : there x ≡ Some kinds.Reference) where
  none_of : (wanted : List Kind) → is_one_of wanted (Some kinds.Reference) ≡ false → is_one_of wanted (there x) ≡ true → ⊥
  none_of wanted off on = let here : is_one_of wanted (Some kinds.Reference) ≡ true = subst (λ (k : Option Kind). is_one_of wanted k ≡ true) is on in cc

  leads_live : (wanted : List Kind) → is_one_of wanted (Some kinds.Reference) ≡ false → (p : Ptr) → leads_there there wanted p ≡ true → leads_to x p ≡ true → ⊥
  leads_live wanted off p good led = none_of wanted off (subst (λ (p : Ptr). leads_there there wanted p ≡ true) (leads_to_at x p led) good)

  may_live : (wanted : List Kind) → is_one_of wanted (Some kinds.Reference) ≡ false → (p : Ptr) → may_lead there wanted p ≡ true → leads_to x p ≡ true → ⊥
  may_live wanted off p good led = none_of wanted off (subst (λ (p : Ptr). may_lead there wanted p ≡ true) (leads_to_at x p led) good)

  one_led : (P : Type 0) (p : Ptr) → (leads_to x p ≡ true → P) → list_any (leads_to x) (p ∷ []) ≡ true → P
  one_led P p go h = by (or_cases (leads_to x p) false h)
    where
      by : (leads_to x p ≡ true) ⊎ (false ≡ true) → P
      by (inl e) = go e
      by (inr e) = cc

  peer_live : (peer : Peer) → is_good_peer there peer ≡ true → list_any (leads_to x) (peer_pointer peer) ≡ true → ⊥
  peer_live (Server thread) good h = one_led (⊥) thread (leads_live (kinds.Thread ∷ []) refl thread good) h
  peer_live Service good h = cc
  peer_live Parked good h = cc

  both_led : (P : Type 0) (ps qs : List Ptr) → (list_any (leads_to x) ps ≡ true → P) → (list_any (leads_to x) qs ≡ true → P) →
      list_any (leads_to x) (ps ++ qs) ≡ true → P
  both_led P ps qs first then h = by (or_cases (list_any (leads_to x) ps) (list_any (leads_to x) qs) (sym (list_any-append (leads_to x) ps qs) ∙ h))
    where
      by : (list_any (leads_to x) ps ≡ true) ⊎ (list_any (leads_to x) qs ≡ true) → P
      by (inl e) = first e
      by (inr e) = then e

  talk_live : (o : Option Talk) → all_in (is_good_talk there) o ≡ true → list_any (leads_to x) (option_list talk_pointers o) ≡ true → ⊥
  talk_live None good h = cc
  talk_live (Some talk) good h =
      let goods = and_parts _ _ good in
      both_led (⊥) (talk.port ∷ []) (peer_pointer talk.peer)
      (one_led (⊥) talk.port (leads_live (kinds.Port ∷ []) refl talk.port goods.0)) (peer_live talk.peer goods.1) h

  taker_live : (o : Option Peer) → all_in (is_good_peer there) o ≡ true → list_any (leads_to x) (option_list peer_pointer o) ≡ true → ⊥
  taker_live None good h = cc
  taker_live (Some peer) good h = peer_live peer good h

  fault_live : (o : Option Fault) → all_in (is_good_fault there) o ≡ true → list_any (leads_to x) (option_list fault_pointers o) ≡ true → ⊥
  fault_live None good h = cc
  fault_live (Some fault) good h =
      let goods = and_parts _ _ good in
      both_led (⊥) (fault.port ∷ []) (option_list peer_pointer fault.taker)
      (one_led (⊥) fault.port (leads_live (kinds.Port ∷ []) refl fault.port goods.0)) (taker_live fault.taker goods.1) h

  holder_live : (o : Option Ptr) → all_in (leads_there there (kinds.Thread ∷ [])) o ≡ true → list_any (leads_to x) (option_list (λ p. p ∷ []) o) ≡ true →
      ⊥
  holder_live None good h = cc
  holder_live (Some p) good h = one_led (⊥) p (leads_live (kinds.Thread ∷ []) refl p good) h

  body_live : (at : Path) (b : Body) → is_good there at b ≡ true → list_any (leads_to x) (pointers b) ≡ true → ⊥
  body_live at (Mapping m) good h = one_led (⊥) m.region (may_live (kinds.Region ∷ []) refl m.region (and_parts _ _ good).1) h
  body_live at (Region r) good h = one_led (⊥) r.keeper (may_live (kinds.Port ∷ []) refl r.keeper (and_parts _ _ good).1) h
  body_live at (Space birth holder) good h = holder_live holder good h
  body_live at (Thread_of t) good h =
      let goods = and_parts _ _ good in
      both_led (⊥) (option_list talk_pointers t.talk) (option_list fault_pointers t.fault) (talk_live t.talk goods.0)
      (fault_live t.fault goods.1) h
  body_live at (Reference to) good h = one_led (⊥) to (may_live referable refl to good) h
  body_live at (Mutex locked) good h = cc
  body_live at Cond good h = cc
  body_live at (Port set served) good h = cc
  body_live at Portset good h = cc

  pub there_live : (at : Path) (o : Option Body) → all_in (is_good there at) o ≡ true → list_any (leads_to x) (body_pointers o) ≡ true → ⊥
  there_live at None good h = cc
  there_live at (Some b) good h = body_live at b good h

  in_set : (at : Path) (b : Body) → is_good there at b ≡ true → is_in_set x at b ≡ false
  in_set at (Port None served) good = refl
  in_set at (Port (Some set) served) good = by (same_path (set_at at set) x) refl
    where
      by : (t : Bool) → same_path (set_at at set) x ≡ t → t ≡ false
      by false e = refl
      by true e =
          let same = same_path_eq (set_at at set) x e in
          let parts = and_parts (not served) (is_one_of (kinds.Portset ∷ []) (there (set_at at set))) good in
          absurd (none_of (kinds.Portset ∷ []) refl (subst (λ (y : Path). is_one_of (kinds.Portset ∷ []) (there y) ≡ true) same parts.1))
  in_set at (Mutex locked) good = refl
  in_set at b good = refl

  pub unswept : (at : Path) (o : Option Body) → all_in (is_good there at) o ≡ true → is_swept x at o ≡ false
  unswept at None good = refl
  unswept at (Some b) good = by (list_any (leads_to x) (pointers b)) (is_in_set x at b) refl (in_set at b good)
    where
      by : (p s : Bool) → list_any (leads_to x) (pointers b) ≡ p → s ≡ false → (p || s) ≡ false
      by false s e h = h
      by true s e h = absurd (body_live at b good e)

module _ (nester : Path) (slot : ℕ) (w v : World) (holding : IsHolding nester slot w) (valid : IsValid w) (valid_after : IsValid v) (few : w.next ≤ depth)
    (few_after : v.next ≤ depth)
    (bodies : (y : Path) → is_scratch nester y ≡ false → v.body y ≡ w.body y)
    (pages : (y : Path) (page : ℕ) → is_scratch nester y ≡ false → v.page y page ≡ w.page y page) where
  abbrev root : Path
  root = slot ∷ nester

  clash : (P : Type 0) (b : Bool) → b ≡ true → b ≡ false → P
  clash P b on off = let both : true ≡ false = sym on ∙ off in cc

  pub inside_plain : (q : Path) → is_scratch nester (q ++ root) ≡ false
  inside_plain q = by (is_scratch nester (q ++ root)) refl
    where
      by_path : (q : Path) → is_scratch nester (q ++ root) ≡ true → ⊥
      by_path [] e =
          let both = and_parts (same_path nester nester && nat_le FIRST_SCRATCH_SLOT slot) (nat_le slot LAST_SCRATCH_SLOT) e in
          let first = and_parts (same_path nester nester) (nat_le FIRST_SCRATCH_SLOT slot) both.0 in
          let least = leb-true FIRST_SCRATCH_SLOT slot first.1 in
          let low = holding.low in omega (arith, least, low)
      by_path (k ∷ q) e =
          let both = and_parts (same_path (q ++ root) nester && nat_le FIRST_SCRATCH_SLOT k) (nat_le k LAST_SCRATCH_SLOT) e in
          let first = and_parts (same_path (q ++ root) nester) (nat_le FIRST_SCRATCH_SLOT k) both.0 in
          omega (arith, ap length (same_path_eq (q ++ root) nester first.0), length-append q root)

      by : (t : Bool) → is_scratch nester (q ++ root) ≡ t → t ≡ false
      by false e = refl
      by true e = absurd (by_path q e)

  -- what stands in scratch is no more than a reference, to which nothing leads
  led_plain : (x q : Path) → list_any (leads_to x) (body_pointers (w.body (q ++ root))) ≡ true → is_scratch nester x ≡ false
  unfolding kind_there
  led_plain x q led = by (is_scratch nester x) refl
    where
      live : is_some (kind_there w x) ≡ true
      live = led_live (kind_there w) x (q ++ root) (w.body (q ++ root)) (valid.consistent.good (q ++ root)) led

      by_body : (o : Option Body) → w.body x ≡ o → only_reference o ≡ true → is_some (option_map kind_of o) ≡ true → ⊥
      by_body (Some (Reference to)) e h live = there_live (kind_there w) x (ap (option_map kind_of) e) (q ++ root) (w.body (q ++ root))
          (valid.consistent.good (q ++ root)) led
      by_body (Some (Mutex locked)) e h live = cc
      by_body (Some Cond) e h live = cc
      by_body (Some (Mapping m)) e h live = cc
      by_body (Some (Region r)) e h live = cc
      by_body (Some (Port set served)) e h live = cc
      by_body (Some Portset) e h live = cc
      by_body (Some (Space birth holder)) e h live = cc
      by_body (Some (Thread_of t)) e h live = cc
      by_body None e h live = cc

      scratch_body : (x : Path) → is_scratch nester x ≡ true → only_reference (w.body x) ≡ true
      scratch_body [] e =
          let both = and_parts (same_path [] nester && nat_le FIRST_SCRATCH_SLOT 0) (nat_le 0 LAST_SCRATCH_SLOT) e in
          let first = and_parts (same_path [] nester) (nat_le FIRST_SCRATCH_SLOT 0) both.0 in
          let second = first.1 in cc
      scratch_body (k ∷ y) e =
          let both = and_parts (same_path y nester && nat_le FIRST_SCRATCH_SLOT k) (nat_le k LAST_SCRATCH_SLOT) e in
          let first = and_parts (same_path y nester) (nat_le FIRST_SCRATCH_SLOT k) both.0 in
          let at = same_path_eq y nester first.0 in
          let there : is_scratch nester (k ∷ nester) ≡ true = subst (λ (y : Path). is_scratch nester (k ∷ y) ≡ true) at e in
          subst (λ (y : Path). only_reference (w.body (k ∷ y)) ≡ true) (sym at) (holding.scratch k there)

      by : (t : Bool) → is_scratch nester x ≡ t → t ≡ false
      by false e = refl
      by true e = absurd (by_body (w.body x) refl (scratch_body x e) live)

  pub inside : IsSameInside root w v
  unfolding kind_there
  inside = record {
    bodies = λ q. bodies (q ++ root) (inside_plain q);
    pages = λ q page. pages (q ++ root) page (inside_plain q);
    kinds = λ x q led. ap (option_map kind_of) (bodies x (led_plain x q led));
  }

  pub scratch_leads : (z : Path) → is_led_to v root z ≡ is_led_to w root z
  scratch_leads = leads_same nester slot w v holding.holder (ap holder_of (bodies root (inside_plain []))
      ∙ holding.holder) valid valid_after few few_after bodies

  -- the porter holds on, if its scratch is near and references alone
  pub scratch_holding : ((k : ℕ) → is_scratch nester (k ∷ nester) ≡ true → only_reference (v.body (k ∷ nester)) ≡ true) →
      ((k : ℕ) (x : Path) → is_scratch nester (k ∷ nester) ≡ true → list_any (leads_to x) (body_pointers (v.body (k ∷ nester))) ≡ true → IsNear w root x)
      → IsHolding nester slot v
  scratch_holding references near = record {
    low = holding.low;
    holder = ap holder_of (bodies root (inside_plain [])) ∙ holding.holder;
    above = decider_none v nester (λ p a e. ap holder_of (bodies a (higher p a e))
        ∙ holder_none w a (none_above w p a (subst (λ (y : Path). decider w y ≡ None) e holding.above)));
    porter = ap (holds is_native) (bodies (LAST_PORTER_SLOT ∷ nester) porters_place) ∙ holding.porter;
    scratch = references;
    near = λ k x its led. still (near k x its led);
  }
    where
      still : {x : Path} → IsNear w root x → IsNear v root x
      still (inl its) = inl its
      still {x = x} (inr its) = inr (
        its.0,
        subst (λ (o : Option Body). list_any (leads_to x) (body_pointers o) ≡ true)
            (sym (bodies (its.0 ++ root) (inside_plain its.0))) its.1,
      )

      porters_place : is_scratch nester (LAST_PORTER_SLOT ∷ nester) ≡ false
      porters_place = by (same_path nester nester && nat_le FIRST_SCRATCH_SLOT LAST_PORTER_SLOT)
        where
          by : (t : Bool) → (t && nat_le LAST_PORTER_SLOT LAST_SCRATCH_SLOT) ≡ false
          by true = refl
          by false = refl

      higher : (p a : Path) → nester ≡ p ++ a → is_scratch nester a ≡ false
      higher p a e = by (is_scratch nester a) refl
        where
          at : (a : Path) → nester ≡ p ++ a → is_scratch nester a ≡ true → ⊥
          at [] e h =
              let both = and_parts (same_path [] nester && nat_le FIRST_SCRATCH_SLOT 0) (nat_le 0 LAST_SCRATCH_SLOT) h in
              let first = and_parts (same_path [] nester) (nat_le FIRST_SCRATCH_SLOT 0) both.0 in
              let second = first.1 in cc
          at (k ∷ y) e h =
              let both = and_parts (same_path y nester && nat_le FIRST_SCRATCH_SLOT k) (nat_le k LAST_SCRATCH_SLOT) h in
              let first = and_parts (same_path y nester) (nat_le FIRST_SCRATCH_SLOT k) both.0 in
              omega (arith, ap length (same_path_eq y nester first.0), ap length e, length-append p (k ∷ y))

          by : (t : Bool) → is_scratch nester a ≡ t → t ≡ false
          by false h = refl
          by true h = absurd (at a e h)

  pub scratch_open : open_place v nester slot ≡ open_place w nester slot
  scratch_open =
      open_same w v nester slot (same-cut w v nester slot inside)
      (λ q. leads_same nester slot w v holding.holder (ap holder_of (bodies root (inside_plain [])) ∙ holding.holder) valid valid_after few few_after bodies
      (q ++ root))

apart_from : (nester x y : Path) → is_scratch nester x ≡ true → is_scratch nester y ≡ false → same_path y x ≡ false
apart_from nester x y is off = same_path_ne y x (λ e. let on : is_scratch nester y ≡ true = subst (λ (z : Path). is_scratch nester z ≡ true) (sym e) is in
    let both = sym on ∙ off in cc)

pub own_keep_open_place : OwnKeepOpenPlace
unfolding apply kind_there
own_keep_open_place nester slot w (Alter x (SetPointer to)) holding valid valid_after few own =
    scratch_open nester slot w (apply (Alter x (SetPointer to)) w) holding valid valid_after few few (λ y off. rw (apart_from nester x y own.0 off) refl)
    (λ y page off. refl)
own_keep_open_place nester slot w (Make x (Reference Null)) holding valid valid_after few own =
    scratch_open nester slot w (apply (Make x (Reference Null)) w) holding valid valid_after few few (λ y off. rw (apart_from nester x y own.0 off) refl)
    (λ y page off. refl)
own_keep_open_place nester slot w (Kill x) holding valid valid_after few own =
    scratch_open nester slot w (apply (Kill x) w) holding valid valid_after few few
    (λ y off. apply-body (Kill x) w y (rw (
      apart_from nester x y own.0 off,
      unswept (kind_there w) x (is_reference own.1.0 own.1.1) y (w.body y) (valid.consistent.good y),
    ) refl))
    (λ y page off. rw (apart_from nester x y own.0 off) refl)
  where
    is_reference : (p : Ptr) → w.body x ≡ Some (Reference p) → kind_there w x ≡ Some kinds.Reference
    is_reference p there = ap (option_map kind_of) there
own_keep_open_place nester slot w c holding valid valid_after few own = absurd own
