-- Where what lies inside a plain subtree leads: inside, or to what stands in a slot of the nester. So nothing inside leads to
-- an object that is away, but who holds the root may be one.
use Rattle.std.proofs.Common.{◌≡◌, ◌⊎◌, inl, inr, ℕ, Bool, true, false, if◌then◌else◌, ◌&&◌, ◌||◌, List, [], ◌∷◌, ◌++◌, Option, Some, None, option_map, refl}
use Rattle.std.proofs.Common.{sym, ap, ◌∙◌}
use Rattle.std.specs.List.{list_any}
use Rattle.std.proofs.lemmas.Bool.{or_cases}
use Rattle.std.proofs.lemmas.List.Folds.{list_any-append}
use Rattle.fk_model.specs.Places.{Path, same_path, strip, is_within, parent, Ptr, leads_to}
use Rattle.fk_model.specs.Places.Ptr.{Null, Dead, At, Out, Outside, Far}
use Rattle.fk_model.specs.Objects.{Peer, Talk, Fault, Body, and_then}
use Rattle.fk_model.specs.Objects.Peer.{Server, Service, Parked}
use Rattle.fk_model.specs.Objects.Body.{Mutex, Cond, Mapping, Region, Port, Portset, Space, Thread_of, Reference}
use Rattle.fk_model.specs.World.{World}
use Rattle.fk_model.specs.Searches.{talk_at, fault_at, pointers, option_list, talk_pointers, fault_pointers, peer_pointer}
use Rattle.fk_model.specs.Freezing.{body_pointers}
use Rattle.fk_model.specs.Valid.{IsConsistent, lies_with}
use Rattle.fk_model.specs.Cut.{ports_of, cut_out, cut_to, cut_ptr, is_out, cut_peer, cutting, seen_by, cut, is_far, has_far, IsPlain}
use Rattle.fk_model.proofs.walks.PlaceLaws.{same_path_eq, leads_to_at}
use Rattle.laws_subtrees.proofs.InFurther.strangers.Places.{off_from, IsAwayObject, object_out, away_not_nester}

first_off : (a b : Bool) → (a || b) ≡ false → a ≡ false
first_off false b h = refl
first_off true b h = cc

next_off : (a b : Bool) → (a || b) ≡ false → b ≡ false
next_off false b h = h
next_off true b h = cc

module _ (w : World) (nester : Path) (slot : ℕ) (valid : IsConsistent w) (plain : IsPlain w nester slot) where
  abbrev root : Path
  root = slot ∷ nester

  abbrev see : Ptr → Ptr
  see = cut_ptr (ports_of w nester slot) nester slot

  -- inside, or in a slot of the nester
  abbrev pub IsNear : Path → Type 0
  IsNear y = (is_within root y ≡ true) ⊎ (parent y ≡ nester)

  near_out : (y : Path) → is_far (cut_out (ports_of w nester slot) nester y) ≡ false → parent y ≡ nester
  near_out [] far = cc
  near_out (i ∷ u) far = by (same_path u nester) (ports_of w nester slot i) refl far
    where
      by : (a b : Bool) → same_path u nester ≡ a → is_far (if a && b then Out i else Far) ≡ false → u ≡ nester
      by true b e far = same_path_eq u nester e
      by false b e far = cc

  near_ptr : (y : Path) (p : Ptr) → is_far (see p) ≡ false → leads_to y p ≡ true → IsNear y
  near_ptr y p far led = let is = leads_to_at y p led in let near : is_far (see (At y)) ≡ false = rw is at far in by (strip root y) refl near
    where
      by : (o : Option Path) → strip root y ≡ o → is_far (cut_to (ports_of w nester slot) nester y o) ≡ false → IsNear y
      by (Some q) e near = inl (rw e refl)
      by None e near = inr (near_out y near)

  -- what leads out leads to a slot of the nester
  out_port : (p : Ptr) → is_out (see p) ≡ true → (z : Path) × (p ≡ At z) × (parent z ≡ nester)
  out_port (At z) out = (z, refl, by (strip root z) refl out)
    where
      at : (z : Path) → is_out (cut_out (ports_of w nester slot) nester z) ≡ true → parent z ≡ nester
      at [] out = cc
      at (i ∷ u) out = test (same_path u nester) (ports_of w nester slot i) refl out
        where
          test : (a b : Bool) → same_path u nester ≡ a → is_out (if a && b then Out i else Far) ≡ true → u ≡ nester
          test true b e out = same_path_eq u nester e
          test false b e out = cc

      by : (o : Option Path) → strip root z ≡ o → is_out (cut_to (ports_of w nester slot) nester z o) ≡ true → parent z ≡ nester
      by (Some q) e out = cc
      by None e out = at z out
  out_port Null out = cc
  out_port Dead out = cc
  out_port (Out i) out = cc
  out_port Outside out = cc
  out_port Far out = cc

  one_near : (y : Path) (p : Ptr) → list_any is_far (see p ∷ []) ≡ false → list_any (leads_to y) (p ∷ []) ≡ true → IsNear y
  one_near y p far led = by (or_cases (leads_to y p) false led)
    where
      by : (leads_to y p ≡ true) ⊎ (false ≡ true) → IsNear y
      by (inl h) = near_ptr y p (first_off _ _ far) h
      by (inr h) = cc

  peer_near : (y : Path) (port : Ptr) (peer : Peer) → list_any is_far
      (peer_pointer (cut_peer (ports_of w nester slot) nester slot (is_out (see port)) peer)) ≡ false →
      ((server : Ptr) → peer ≡ Server server → lies_with port server) → list_any (leads_to y) (peer_pointer peer) ≡ true → IsNear y
  peer_near y port Service far lies led = cc
  peer_near y port Parked far lies led = cc
  peer_near y port (Server server) far lies led = by (is_out (see port)) refl far
    where
      leads : (leads_to y server ≡ true) ⊎ (false ≡ true) → leads_to y server ≡ true
      leads (inl h) = h
      leads (inr h) = cc

      at : leads_to y server ≡ true
      at = leads (or_cases (leads_to y server) false led)

      by : (b : Bool) → is_out (see port) ≡ b → list_any is_far (peer_pointer (cut_peer (ports_of w nester slot) nester slot b (Server server))) ≡ false →
          IsNear y
      by true e far =
          let out = out_port port e in
          let is = leads_to_at y server at in
          let near = lies server refl in
          let same : parent y ≡ parent out.0 = rw (is, out.1) at near in
          inr (same ∙ out.2)
      by false e far = near_ptr y server (first_off _ _ far) at

  both_near : (y : Path) (ps qs : List Ptr) → (list_any (leads_to y) ps ≡ true → IsNear y) → (list_any (leads_to y) qs ≡ true → IsNear y) →
      list_any (leads_to y) (ps ++ qs) ≡ true → IsNear y
  both_near y ps qs first second h = by (or_cases (list_any (leads_to y) ps) (list_any (leads_to y) qs) (sym (list_any-append (leads_to y) ps qs) ∙ h))
    where
      by : (list_any (leads_to y) ps ≡ true) ⊎ (list_any (leads_to y) qs ≡ true) → IsNear y
      by (inl e) = first e
      by (inr e) = second e

  talk_near : (y x : Path) (o : Option Talk) → talk_at w x ≡ o →
      list_any is_far (option_list talk_pointers (and_then (cutting (ports_of w nester slot) nester slot).talk o)) ≡ false →
      list_any (leads_to y) (option_list talk_pointers o) ≡ true → IsNear y
  talk_near y x None there far led = cc
  talk_near y x (Some talk) there far led =
      both_near y (talk.port ∷ []) (peer_pointer talk.peer) (λ h. one_near y talk.port (rw (first_off (is_far (see talk.port)) _ far) refl) h)
      (λ h. peer_near y talk.port talk.peer (next_off (is_far (see talk.port)) _ far) (λ server is. valid.talks_near x talk server there is) h) led

  taker_near : (y : Path) (port : Ptr) (o : Option Peer) → list_any is_far
      (option_list peer_pointer (option_map (cut_peer (ports_of w nester slot) nester slot (is_out (see port))) o)) ≡ false →
      ((server : Ptr) → o ≡ Some (Server server) → lies_with port server) → list_any (leads_to y) (option_list peer_pointer o) ≡ true → IsNear y
  taker_near y port None far lies led = cc
  taker_near y port (Some peer) far lies led = peer_near y port peer far (λ server is. lies server (ap Some is)) led

  fault_near : (y x : Path) (o : Option Fault) → fault_at w x ≡ o →
      list_any is_far (option_list fault_pointers (and_then (cutting (ports_of w nester slot) nester slot).fault o)) ≡ false →
      list_any (leads_to y) (option_list fault_pointers o) ≡ true → IsNear y
  fault_near y x None there far led = cc
  fault_near y x (Some fault) there far led =
      both_near y (fault.port ∷ []) (option_list peer_pointer fault.taker) (λ h. one_near y fault.port (rw (first_off (is_far (see fault.port)) _ far) refl) h)
      (λ h. taker_near y fault.port fault.taker (next_off (is_far (see fault.port)) _ far) (λ server is. valid.faults_near x fault server there is) h) led

  holder_near : (y : Path) (o : Option Ptr) →
      list_any is_far (option_list (λ p. p ∷ []) (and_then (cutting (ports_of w nester slot) nester slot).holder o)) ≡ false →
      list_any (leads_to y) (option_list (λ p. p ∷ []) o) ≡ true → IsNear y
  holder_near y None far led = cc
  holder_near y (Some p) far led = one_near y p far led

  body_near : (y x : Path) (b : Body) → w.body x ≡ Some b → list_any is_far (pointers (seen_by (cutting (ports_of w nester slot) nester slot) b)) ≡ false →
      list_any (leads_to y) (pointers b) ≡ true → IsNear y
  unfolding seen_by
  body_near y x (Mapping m) there far led = one_near y m.region far led
  body_near y x (Region r) there far led = one_near y r.keeper far led
  body_near y x (Space birth holder) there far led = holder_near y holder far led
  body_near y x (Reference to) there far led = one_near y to far led
  body_near y x (Thread_of t) there far led =
      let fars = sym (list_any-append is_far (option_list talk_pointers (and_then (cutting (ports_of w nester slot) nester slot).talk t.talk))
      (option_list fault_pointers (and_then (cutting (ports_of w nester slot) nester slot).fault t.fault))) ∙ far in
      both_near y (option_list talk_pointers t.talk) (option_list fault_pointers t.fault)
      (λ h. talk_near y x t.talk (rw there refl) (first_off _ _ fars) h) (λ h. fault_near y x t.fault (rw there refl) (next_off _ _ fars) h) led
  body_near y x (Mutex locked) there far led = cc
  body_near y x Cond there far led = cc
  body_near y x (Port set served) there far led = cc
  body_near y x Portset there far led = cc

  -- what lies beneath the root leads near
  pub inside_near : (k : ℕ) (q y : Path) → list_any (leads_to y) (body_pointers (w.body (k ∷ (q ++ root)))) ≡ true → IsNear y
  unfolding cut
  inside_near k q y led = by (w.body (k ∷ (q ++ root))) refl (plain.near (k ∷ q)) led
    where
      by : (o : Option Body) → w.body (k ∷ (q ++ root)) ≡ o → has_far (option_map (λ b. seen_by (cutting (ports_of w nester slot) nester slot) b) o) ≡ false →
          list_any (leads_to y) (body_pointers o) ≡ true → IsNear y
      by (Some b) e far led = body_near y (k ∷ (q ++ root)) b e far led
      by None e far led = cc

  -- so not to what is away
  pub inside_unled : (k : ℕ) (q y : Path) → IsAwayObject nester slot y → list_any (leads_to y) (body_pointers (w.body (k ∷ (q ++ root)))) ≡ false
  inside_unled k q y away = off_from _ (λ led. by (inside_near k q y led))
    where
      by : IsNear y → ⊥
      by (inl inside) = let out = object_out nester slot y away in cc
      by (inr same) = away_not_nester nester slot away.space away.away (let is : parent y ≡ away.space = ap parent away.is in sym is ∙ same)
