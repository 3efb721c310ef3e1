-- What a restorer has led out keeps its port: where something that it has built leads to a slot of the nester, a port stands there.
use Rattle.std.proofs.Common.{◌≡◌, ℕ, Bool, true, false, cond, ◌&&◌, ◌||◌, ◌⊎◌, inl, inr, IfSome, List, [], ◌∷◌, length, Option, Some, None, refl, ap, subst}
use Rattle.std.proofs.Common.{arith, ◌<◌, nat_lt, eqb, eq-eqb, option_map, ◌∙◌}
use Rattle.std.specs.List.{list_any}
use Rattle.std.proofs.lemmas.Bool.{lt-ltb, or_cases}
use Rattle.fk_model.specs.declared.names.Kind.TheVariants as kinds
use Rattle.fk_model.specs.Places.{Path, Ptr, same_path, strip}
use Rattle.fk_model.specs.Places.Ptr.{At, Out, Far}
use Rattle.fk_model.specs.Objects.{Talk, Fault, Body, and_then, kind_of, same_kind}
use Rattle.fk_model.specs.Objects.Body.{Mutex, Cond, Mapping, Region, Port, Portset, Space, Thread_of, Reference}
use Rattle.fk_model.specs.World.{World}
use Rattle.fk_model.specs.Rebind.{rebinding}
use Rattle.fk_model.specs.Readers.{kind_at}
use Rattle.fk_model.specs.Cut.{is_port, cut_to, cut_out, seen_by}
use Rattle.fk_model.proofs.walks.PlaceLaws.{same_path_eq, same_path_ne}
use Rattle.laws_subtrees.specs.Cut.Likeness.{seeing, PtrLikeness, HasLikeness, AllInTalk, AllInFault, IsPlainBody}
use Rattle.laws_subtrees.specs.Cut.Likeness.PtrLikeness.{Nulls, Deads, Inside, PortAt, PortOut}
use Rattle.laws_moves.proofs.InFrozen.FrozenCut.{port_by_kind}
use Rattle.laws_restore.specs.Sites.Orders.{Site, Shows, eye, bare, pin_of}
use Rattle.laws_restore.proofs.InSites.Standing.{big}
use Rattle.laws_restore.specs.Restore.Rooms.{Item, Room}
use Rattle.laws_restore.specs.Restore.Script.{has, is_out_to, is_talk_out, is_fault_out, leads_out}
use Rattle.laws_restore.specs.Restore.Stages.{Mask, shown_talk, shown_fault, bound, leading, led_below, is_out_below}
use Rattle.laws_restore.specs.Restore.Roomed.{AreItems, AreRooms, with_items, with_sheets}
use Rattle.laws_restore.proofs.InRestore.Outward.{is_out_at}

-- something that is built leads to slot j of the nester
pub record IsUsed (j : ℕ) (g : Site) : Type 0 where
  pub slot : ℕ
  pub space : Path
  pub body : Body
  pub there : g.built.body (slot ∷ space) ≡ Some body
  pub leads : leads_out j body ≡ true

-- ---- then a port stands there

module _ (nester : Path) (slot : ℕ) (g : Site) (w : World) (shows : Shows nester slot g w) (j : ℕ) where
  abbrev root : Path
  root = slot ∷ nester

  abbrev see : Ptr → Ptr
  see = eye nester slot

  abbrev Stands : Type 0
  Stands = is_port (w.body (j ∷ nester)) ≡ true

  of_kind : (o : Option Body) → and_then (λ b. Some (kind_of b)) o ≡ Some kinds.Port → is_port o ≡ true
  of_kind None h = cc
  of_kind (Some b) h = let is : kind_of b ≡ kinds.Port = cc in port_by_kind (Some b) ∙ ap (same_kind kinds.Port) is

  port_at : (i : ℕ) → i ≡ j → kind_at (bare root w) (At (i ∷ nester)) ≡ Some kinds.Port → Stands
  port_at i same kind = subst (λ (k : ℕ). is_port (w.body (k ∷ nester)) ≡ true) same
      (of_kind (w.body (i ∷ nester)) (subst (λ (t : Bool). and_then (λ b. Some (kind_of b)) (cond t None (w.body (i ∷ nester))) ≡ Some kinds.Port) apart kind))
    where
      apart : same_path (i ∷ nester) (pin_of root) ≡ false
      apart = same_path_ne (i ∷ nester) (pin_of root) (λ e. omega (arith, ap length e))

  outside_port : (x : Path) → kind_at (bare root w) (At x) ≡ Some kinds.Port → cut_out (λ i. true) nester x ≡ Out j → Stands
  outside_port [] kind e = cc
  outside_port (i ∷ x) kind e = by (same_path x nester) refl e
    where
      by : (t : Bool) → same_path x nester ≡ t → cond (t && true) (Out i) Far ≡ Out j → Stands
      by true is e = let same : i ≡ j = cc in port_at i same
          (subst (λ (x : Path). kind_at (bare root w) (At (i ∷ x)) ≡ Some kinds.Port) (same_path_eq x nester is) kind)
      by false is e = cc

  seen_port : (x : Path) → kind_at (bare root w) (At x) ≡ Some kinds.Port → (o : Option Path) → cut_to (λ i. true) nester x o ≡ Out j → Stands
  seen_port x kind None e = outside_port x kind e
  seen_port x kind (Some q) e = cc

  port_there : (p seen : Ptr) → PtrLikeness root (bare root w) p seen → see p ≡ seen → seen ≡ Out j → Stands
  port_there _ _ Nulls e out = cc
  port_there _ _ Deads e out = cc
  port_there _ _ (Inside x) e out = cc
  port_there _ _ (PortAt x i apart kind) e out = seen_port x kind (strip root x) (e ∙ out)
  port_there _ _ (PortOut old i) e out = cc

  shown_port : (p : Ptr) → HasLikeness root see (bare root w) p → is_out_to j (see p) ≡ true → Stands
  shown_port p like h = port_there p (see p) like refl (is_out_at j (see p) h)

  talk_port : (o : Option Talk) → IfSome o (AllInTalk see (HasLikeness root see (bare root w))) → is_talk_out j (and_then (seeing see).talk o) ≡ true → Stands
  talk_port None like h = cc
  talk_port (Some talk) like h = shown_port talk.port like.0 h

  fault_port : (o : Option Fault) → IfSome o (AllInFault see (HasLikeness root see (bare root w))) → is_fault_out j (and_then (seeing see).fault o) ≡ true
      → Stands
  fault_port None like h = cc
  fault_port (Some fault) like h = shown_port fault.port like.0 h

  body_port : (b : Body) → IsPlainBody see (HasLikeness root see (bare root w)) b → leads_out j (seen_by (seeing see) b) ≡ true → Stands
  unfolding seen_by
  body_port (Mapping m) plain h = shown_port m.region plain h
  body_port (Region r) plain h = shown_port r.keeper plain h
  body_port (Reference to) plain h = shown_port to plain h
  body_port (Thread_of t) plain h = by (or_cases (is_talk_out j (and_then (seeing see).talk t.talk)) (is_fault_out j (and_then (seeing see).fault t.fault)) h)
    where
      by : (is_talk_out j (and_then (seeing see).talk t.talk) ≡ true) ⊎ (is_fault_out j (and_then (seeing see).fault t.fault) ≡ true) → Stands
      by (inl h) = talk_port t.talk plain.0 h
      by (inr h) = fault_port t.fault plain.1 h
  body_port (Mutex locked) plain h = cc
  body_port Cond plain h = cc
  body_port (Port set served) plain h = cc
  body_port Portset plain h = cc
  body_port (Space birth holder) plain h = cc

  pub used_stands : IsUsed j g → is_port (w.body (j ∷ nester)) ≡ true
  used_stands used =
      let found = big nester slot g w shows used.slot used.space used.body used.there in
      body_port found.body found.plain (subst (λ (b : Body). leads_out j b ≡ true) found.seen used.leads)

-- ---- what leads out to slot i is shown bound once the slots below a higher one are led

module _ (bind : ℕ → ℕ) (i n : ℕ) (low : i < n) where
  abbrev m : Mask
  m = led_below n

  below : nat_lt i n ≡ true
  below = lt-ltb i n low

  here : eqb (bind i) (bind i) ≡ true
  here = eq-eqb (bind i) (bind i) refl

  first_of : (a b : Bool) → a ≡ true → (a || b) ≡ true
  first_of true b h = refl
  first_of false b h = cc

  second_of : (a b : Bool) → b ≡ true → (a || b) ≡ true
  second_of true b h = refl
  second_of false b h = h

  shown_leads : (y : Path) (b : Body) → leads_out i b ≡ true → leads_out (bind i) (bound bind m y b) ≡ true
  shown_leads y (Mapping w) h = let is = is_out_at i w.region h in rw (is, below) here
  shown_leads y (Region r) h = let is = is_out_at i r.keeper h in rw (is, below) here
  shown_leads y (Reference to) h = let is = is_out_at i to h in rw (is, below) here
  shown_leads y (Thread_of t) h = by (or_cases (is_talk_out i t.talk) (is_fault_out i t.fault) h)
    where
      talked : (o : Option Talk) → is_talk_out i o ≡ true → t.talk ≡ o → leads_out (bind i) (bound bind m y (Thread_of t)) ≡ true
      talked None h e = cc
      talked (Some talk) h e = let is = is_out_at i talk.port h in
          first_of (is_talk_out (bind i) (and_then (rebinding bind).talk (shown_talk (is_out_below n) t.talk)))
          (is_fault_out (bind i) (and_then (rebinding bind).fault (shown_fault (is_out_below n) t.fault))) (rw (e, is, below) here)

      faulted : (o : Option Fault) → is_fault_out i o ≡ true → t.fault ≡ o → leads_out (bind i) (bound bind m y (Thread_of t)) ≡ true
      faulted None h e = cc
      faulted (Some fault) h e = let is = is_out_at i fault.port h in
          second_of (is_talk_out (bind i) (and_then (rebinding bind).talk (shown_talk (is_out_below n) t.talk)))
          (is_fault_out (bind i) (and_then (rebinding bind).fault (shown_fault (is_out_below n) t.fault))) (rw (e, is, below) here)

      by : (is_talk_out i t.talk ≡ true) ⊎ (is_fault_out i t.fault ≡ true) → leads_out (bind i) (bound bind m y (Thread_of t)) ≡ true
      by (inl h) = talked t.talk h refl
      by (inr h) = faulted t.fault h refl
  shown_leads y (Mutex locked) h = cc
  shown_leads y Cond h = cc
  shown_leads y (Port set served) h = cc
  shown_leads y Portset h = cc
  shown_leads y (Space birth holder) h = cc

  module _ (c : World) where
    record IsLed : Type 0 where
      pub slot : ℕ
      pub space : Path
      pub body : Body
      pub there : c.body (slot ∷ space) ≡ Some body
      pub leads : leads_out i body ≡ true

    item_led : (q : Path) (is : List Item) (made : List Path) → AreItems bind c q is made → list_any (λ (x : Item). leads_out i x.body) is ≡ true → IsLed
    item_led q [] made its h = cc
    item_led q (x ∷ is) made its h = by (item_led q is ((x.slot ∷ q) ∷ made) its.2)
        (or_cases (leads_out i x.body) (list_any (λ (x : Item). leads_out i x.body) is) h)
      where
        by : (list_any (λ (x : Item). leads_out i x.body) is ≡ true → IsLed)
            → (leads_out i x.body ≡ true) ⊎ (list_any (λ (x : Item). leads_out i x.body) is ≡ true) → IsLed
        by later (inl h) = record { slot = x.slot; space = q; body = x.body; there = its.0.there; leads = h }
        by later (inr h) = later h

    room_led : (rooms : List Room) (made : List Path) (given : List (Path × ℕ)) → AreRooms bind c rooms made given → list_any (has (leads_out i)) rooms ≡ true
        → IsLed
    room_led [] made given its h = cc
    room_led (r ∷ rs) made given its h = by (room_led rs (with_items r.path r.items made) (with_sheets r.path r.sheets given) its.1)
        (or_cases (has (leads_out i) r) (list_any (has (leads_out i)) rs) h)
      where
        by : (list_any (has (leads_out i)) rs ≡ true → IsLed) → (has (leads_out i) r ≡ true) ⊎ (list_any (has (leads_out i)) rs ≡ true) → IsLed
        by later (inl h) = item_led r.path r.items made its.0.items h
        by later (inr h) = later h

    pub used_below : (rooms : List Room) (made : List Path) (given : List (Path × ℕ)) → AreRooms bind c rooms made given
        → list_any (has (leads_out i)) rooms ≡ true → (g : Site) → g.built ≡ leading bind c m m [] → IsUsed (bind i) g
    used_below rooms made given its h g built =
        let led = room_led rooms made given its h in
        record {
          slot = led.slot;
          space = led.space;
          body = bound bind m (led.slot ∷ led.space) led.body;
          there = ap (λ (w : World). w.body (led.slot ∷ led.space)) built ∙ ap (option_map (bound bind m (led.slot ∷ led.space))) led.there;
          leads = shown_leads (led.slot ∷ led.space) led.body led.leads;
        }
