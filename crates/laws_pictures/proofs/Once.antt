-- A thread of a subtree that is seen alone serves one talk or one fault, and so the subtree has an image.
use Rattle.std.proofs.Common.{◌≡◌, ℕ, ◌+◌, ◌≤◌, Bool, true, false, [], ◌∷◌, ◌++◌, Option, Some, None, option_map, refl, sym, ap, ◌∙◌, arith}
use Rattle.std.proofs.lemmas.List.{append_cancel_right}
use Rattle.fk_model.specs.Places.{Path, leads_to}
use Rattle.fk_model.specs.Objects.{Body, Body as bodies, Peer, Peer as peers, Talk, Fault, Thread, and_then, thread_of, holds, flag_of}
use Rattle.fk_model.specs.World.{World, serves}
use Rattle.fk_model.specs.Valid.{services}
use Rattle.fk_model.specs.Cut.{ports_of, cut_peer, cut_ptr, cutting, is_out, seen_by, cut}
use Rattle.fk_model.proofs.walks.PlaceLaws.{same_path_refl, leads_to_at}
use Rattle.laws_pictures.specs.Imaged.{ServesOnce}
use Rattle.laws_pictures.specs.Saved.{IsSavedSubtree, SubtreeHasImage}
use Rattle.laws_pictures.proofs.Imaged.{picture_of_image}
use Rattle.laws_pictures.proofs.Validated.{image_is_valid}
use Rattle.laws_pictures.proofs.Saved.{see_at, of_seen, top_is, subtree_is_sound}

flags_grow : (a b d e : Bool) → (a ≡ true → d ≡ true) → (b ≡ true → e ≡ true) → flag_of a + flag_of b ≤ flag_of d + flag_of e
flags_grow true b false e f g = absurd (clash (f refl))
  where
    clash : false ≡ true → ⊥
    clash e = cc
flags_grow a true d false f g = absurd (clash (g refl))
  where
    clash : false ≡ true → ⊥
    clash e = cc
flags_grow true true true true f g = omega arith
flags_grow true false true e f g = omega arith
flags_grow false true d true f g = omega arith
flags_grow false false d e f g = omega arith

module _ (w : World) (nester : Path) (slot : ℕ) (it : IsSavedSubtree w nester slot) where
  abbrev root : Path
  root = slot ∷ nester

  abbrev c : World
  c = cut w nester slot

  serves_seen : (y : Path) (out : Bool) (peer : Peer) → serves y (cut_peer (ports_of w nester slot) nester slot out peer) ≡ true
      → serves (y ++ root) peer ≡ true
  serves_seen y true peer e = absurd cc
  serves_seen y false (peers.Server p) e =
      let at = see_at w nester slot it p y (leads_to_at y (cut_ptr (ports_of w nester slot) nester slot p) e) in
      ap (leads_to (y ++ root)) at ∙ same_path_refl (y ++ root)
  serves_seen y false peers.Service e = absurd cc
  serves_seen y false peers.Parked e = absurd cc

  talk_seen : (y : Path) (o : Option Talk) → holds (λ (talk : Talk). serves y talk.peer) (and_then (cutting (ports_of w nester slot) nester slot).talk o)
      ≡ true → holds (λ (talk : Talk). serves (y ++ root) talk.peer) o ≡ true
  talk_seen y None e = absurd cc
  talk_seen y (Some talk) e = serves_seen y (is_out (cut_ptr (ports_of w nester slot) nester slot talk.port)) talk.peer e

  fault_seen : (y : Path) (o : Option Fault) → holds (λ (fault : Fault). holds (serves y) fault.taker)
      (and_then (cutting (ports_of w nester slot) nester slot).fault o) ≡ true → holds (λ (fault : Fault). holds (serves (y ++ root)) fault.taker) o ≡ true
  fault_seen y None e = absurd cc
  fault_seen y (Some fault) e = by fault.taker e
    where
      by : (o : Option Peer) → holds (serves y) (option_map
          (cut_peer (ports_of w nester slot) nester slot (is_out (cut_ptr (ports_of w nester slot) nester slot fault.port))) o) ≡ true
          → holds (serves (y ++ root)) o ≡ true
      by None e = absurd cc
      by (Some peer) e = serves_seen y (is_out (cut_ptr (ports_of w nester slot) nester slot fault.port)) peer e

  abbrev of_talk : Path → Option Body → Bool
  of_talk y o = holds (λ (talk : Talk). serves y talk.peer) (and_then (λ (t : Thread). t.talk) (and_then thread_of o))

  abbrev of_fault : Path → Option Body → Bool
  of_fault y o = holds (λ (fault : Fault). holds (serves y) fault.taker) (and_then (λ (t : Thread). t.fault) (and_then thread_of o))

  talk_by : (y : Path) (d : Body) → of_talk y (Some (seen_by (cutting (ports_of w nester slot) nester slot) d)) ≡ true → of_talk (y ++ root) (Some d) ≡ true
  unfolding seen_by
  talk_by y (bodies.Thread_of t) e = talk_seen y t.talk e
  talk_by y (bodies.Mutex locked) e = absurd cc
  talk_by y bodies.Cond e = absurd cc
  talk_by y (bodies.Mapping m) e = absurd cc
  talk_by y (bodies.Region r) e = absurd cc
  talk_by y (bodies.Port set served) e = absurd cc
  talk_by y bodies.Portset e = absurd cc
  talk_by y (bodies.Space birth holder) e = absurd cc
  talk_by y (bodies.Reference to) e = absurd cc

  fault_by : (y : Path) (d : Body) → of_fault y (Some (seen_by (cutting (ports_of w nester slot) nester slot) d)) ≡ true → of_fault (y ++ root) (Some d) ≡ true
  unfolding seen_by
  fault_by y (bodies.Thread_of t) e = fault_seen y t.fault e
  fault_by y (bodies.Mutex locked) e = absurd cc
  fault_by y bodies.Cond e = absurd cc
  fault_by y (bodies.Mapping m) e = absurd cc
  fault_by y (bodies.Region r) e = absurd cc
  fault_by y (bodies.Port set served) e = absurd cc
  fault_by y bodies.Portset e = absurd cc
  fault_by y (bodies.Space birth holder) e = absurd cc
  fault_by y (bodies.Reference to) e = absurd cc

  -- what holds of a body's threads inside holds of the world's
  carried : (test new : Option Body → Bool) → test None ≡ false → test (Some (bodies.Space 0 None)) ≡ false
      → ((d : Body) → test (Some (seen_by (cutting (ports_of w nester slot) nester slot) d)) ≡ true → new (Some d) ≡ true) →
      (x : Path) → test (c.body x) ≡ true → new (w.body (x ++ root)) ≡ true
  carried test new none top each [] e = absurd (clash (sym e ∙ ap test (top_is w nester slot it) ∙ top))
    where
      clash : true ≡ false → ⊥
      clash e = cc
  carried test new none top each (k ∷ q) e = by (c.body (k ∷ q)) refl e
    where
      clash : true ≡ false → ⊥
      clash e = cc

      by : (o : Option Body) → c.body (k ∷ q) ≡ o → test o ≡ true → new (w.body (k ∷ (q ++ root))) ≡ true
      by None is e = absurd (clash (sym e ∙ none))
      by (Some b) is e = let d = of_seen w nester slot it k q b is in ap new d.1 ∙ each d.0 (ap (λ b. test (Some b)) d.2 ∙ e)

  fewer : (y x : Path) → services c y x ≤ services w (y ++ root) (x ++ root)
  fewer y x = flags_grow (of_talk y (c.body x)) (of_fault y (c.body x)) (of_talk (y ++ root) (w.body (x ++ root))) (of_fault (y ++ root) (w.body (x ++ root)))
      (carried (of_talk y) (of_talk (y ++ root)) refl refl (talk_by y) x) (carried (of_fault y) (of_fault (y ++ root)) refl refl (fault_by y) x)

  pub serves_once : ServesOnce c
  serves_once = record {
    one = λ server x y p q. (let a = fewer server x in let b = fewer server y in
        append_cancel_right x y root (it.whole.valid.consistent.one_service (server ++ root) (x ++ root) (y ++ root) (omega (arith, a, p))
        (omega (arith, b, q))));
    each = λ server x. (let a = fewer server x in let b = it.whole.valid.consistent.one_each (server ++ root) (x ++ root) in omega (arith, a, b));
  }

pub subtree_has_image : SubtreeHasImage
subtree_has_image w nester slot sp it its numbers few =
    let sound = subtree_is_sound w nester slot it in
    (image_is_valid (cut w nester slot) sp sound.0 its sound.1 numbers (serves_once w nester slot it) few, picture_of_image (cut w nester slot) sp sound.0 its)
