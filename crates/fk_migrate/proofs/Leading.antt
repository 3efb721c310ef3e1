-- Where each kind of event leads a pair.
use Rattle.std.proofs.Common.{◌≡◌, ◌↔◌, ℕ, ◌≤◌, Bool, true, false, IsTrue, List, [], ◌∷◌, length, Option, Some, None, option_map, is_some, refl, sym, ap, subst, ◌∙◌, arith}
use Rattle.std.specs.List.{slice_get}
use Rattle.fk_model.specs.declared.moves.Move.{Move}
use Rattle.fk_packets.specs.declared.events.Event.TheVariants as events
use Rattle.fk_packets.specs.declared.packet.Packet.{Packet}
use Rattle.laws_handover.specs.Packets.{Packet as Sent}
use Rattle.laws_handover.specs.Pieces.{Piece}
use Rattle.laws_handover.specs.FarSide as far
use Rattle.laws_handover.specs.Handover as handover
use Rattle.laws_handover.specs.Handover.{far_told, delivered_far, delivered_near}
use Rattle.laws_handover.specs.Sent.{sent_near, sent_far}
use Rattle.laws_migrate.specs.Images.{image_codec}
use Rattle.laws_migrate.specs.Migration.{Why, may_give_up}
use Rattle.fk_sides.specs.Fars.{IsFar}
use Rattle.fk_sides.specs.Sides.{FarSide, both, packet_of}
use Rattle.fk_migrate.specs.Turns.{NearPart}
use Rattle.fk_migrate.specs.Runs.{Run, near_part, far_part, next_run}
use Rattle.fk_migrate.specs.Parts.{NearLands, FarLands, told_near, given_up}
use Rattle.fk_migrate.specs.Pairs.{Shown, Start, IsRunOf, IsReady, LeadsTo}
use Rattle.fk_migrate.specs.Runs.{IsReadyEvent}
use Rattle.fk_migrate.proofs.Nearing.{near_alone}
use Rattle.fk_migrate.proofs.Faring.{far_alone}
use Rattle.fk_migrate.proofs.Stepping.{steps_so, sent_exact}

abbrev Packets : Type 0
Packets = Sent Piece Why

-- ---- moves

pub leads_near : (s t : Shown) (m : Move) → t.slot ≡ s.slot → t.far_slot ≡ s.far_slot → NearLands s.slot s.near m t.near → t.far ≡ s.far
    → ((f : FarSide) → IsFar s.makes f → IsFar t.makes f) → IsReady s (events.Near m) → LeadsTo s (events.Near m) t
leads_near s t m slot far_slot lands far makes ready from its =
    let step = steps_so from.slot its.run (events.Near m) (ready from its) in
    let here : NearLands from.slot s.near m t.near = subst (λ (k : ℕ). NearLands k s.near m t.near) its.slot lands in
    let alone = near_alone from.slot its.run m step.0 step.1 in
    record {
      slot = slot ∙ its.slot;
      far_slot = far_slot ∙ its.far_slot;
      step = step.0;
      is = step.1;
      ready = step.2;
      stands = record {
        near = here its.run step.0 its.stands.near step.1;
        far = far ∙ its.stands.far ∙ sym alone.0;
        far_side = subst (IsFar t.makes) (sym alone.1) (makes its.run.pair.far its.stands.far_side);
      };
    }

pub leads_far : (s t : Shown) (m : Move) → t.slot ≡ s.slot → t.far_slot ≡ s.far_slot → FarLands s.far_slot s.far s.makes m t.far t.makes → t.near ≡ s.near
    → IsReady s (events.Far m) → LeadsTo s (events.Far m) t
leads_far s t m slot far_slot lands near ready from its =
    let step = steps_so from.slot its.run (events.Far m) (ready from its) in
    let here : FarLands from.slot s.far s.makes m t.far t.makes = subst (λ (k : ℕ). FarLands k s.far s.makes m t.far t.makes) its.far_slot lands in
    let there = here its.run step.0 its.stands.far its.stands.far_side step.1 in
    record {
      slot = slot ∙ its.slot;
      far_slot = far_slot ∙ its.far_slot;
      step = step.0;
      is = step.1;
      ready = step.2;
      stands = record {
        near = near ∙ its.stands.near ∙ sym (far_alone from.slot its.run m step.0 step.1);
        far = there.part;
        far_side = there.side;
      };
    }

-- ---- packets

-- what a packet makes of the far side, if there is one
abbrev pub told_far : ℕ → FarSide → Option Packets → FarSide
told_far slot f None = f
told_far slot f (Some p) = far_told (both slot) f p

-- and of the near one
abbrev pub near_after : ℕ → NearPart → Option Packet → NearPart
near_after slot p None = p
near_after slot p (Some packet) = told_near slot p packet

module _ (slot : ℕ) (r : Run) (number : ℕ) where
  abbrev to_far : Option Packets → Run
  to_far o = record r { pair = delivered_far (both slot) r.pair number o }

  abbrev to_near : Option Packets → Run
  to_near o = record r { pair = delivered_near (both slot) r.pair number o }

  far_stays : (o : Option Packets) → (near_part (to_far o) ≡ near_part r) × (far_part (to_far o) ≡ far_part r) × ((to_far o).pair.far ≡ told_far slot r.pair.far o)
  far_stays None = (refl, refl, refl)
  far_stays (Some p) = (refl, refl, refl)

  near_stays : (packet : Option Packet) → (near_after slot (near_part r) packet ≡ near_part (to_near (option_map packet_of packet)))
      × (far_part (to_near (option_map packet_of packet)) ≡ far_part r) × ((to_near (option_map packet_of packet)).pair.far ≡ r.pair.far)
  near_stays None = (refl, refl, refl)
  near_stays (Some p) = (refl, refl, refl)

pub leads_to_far : (s t : Shown) (number : ℕ) (packet : Option Packet) → t.slot ≡ s.slot → t.far_slot ≡ s.far_slot → t.near ≡ s.near → t.far ≡ s.far
    → option_map packet_of packet ≡ slice_get (sent_near image_codec s.near.side) number
    → ((f : FarSide) → IsFar s.makes f → IsFar t.makes (told_far s.far_slot f (option_map packet_of packet)))
    → IsReady s (events.ToFar number) → LeadsTo s (events.ToFar number) t
leads_to_far s t number packet slot far_slot near far is tells ready from its =
    let sent : option_map packet_of packet ≡ slice_get (sent_near image_codec its.run.pair.near) number =
    is ∙ ap (λ (p : NearPart). slice_get (sent_near image_codec p.side) number) its.stands.near in
    let stays = far_stays from.slot its.run number (slice_get (sent_near image_codec its.run.pair.near) number) in
    let told : told_far s.far_slot its.run.pair.far (option_map packet_of packet)
    ≡ told_far from.slot its.run.pair.far (slice_get (sent_near image_codec its.run.pair.near) number) =
    λ i. told_far (its.far_slot i) its.run.pair.far (sent i) in
    record {
      slot = slot ∙ its.slot;
      far_slot = far_slot ∙ its.far_slot;
      step = handover.ToFar number;
      is = refl;
      ready = ready from its;
      stands = record {
        near = near ∙ its.stands.near ∙ sym stays.0;
        far = far ∙ its.stands.far ∙ sym stays.1;
        far_side = subst (IsFar t.makes) (told ∙ sym stays.2) (tells its.run.pair.far its.stands.far_side);
      };
    }

pub leads_to_near : (s t : Shown) (number : ℕ) (packet : Option Packet) → t.slot ≡ s.slot → t.far_slot ≡ s.far_slot → t.far ≡ s.far
    → ((f : FarSide) → IsFar s.makes f → IsFar t.makes f)
    → ((f : FarSide) → IsFar s.makes f → option_map packet_of packet ≡ slice_get (sent_far f) number)
    → t.near ≡ near_after s.slot s.near packet
    → IsReady s (events.ToNear number) → LeadsTo s (events.ToNear number) t
leads_to_near s t number packet slot far_slot far makes is tells ready from its =
    let sent = is its.run.pair.far its.stands.far_side in
    let stays = near_stays from.slot its.run number packet in
    let there : t.near ≡ near_after from.slot (near_part its.run) packet = tells ∙ (λ i. near_after (its.slot i) (its.stands.near i) packet) in
    let next : to_near from.slot its.run number (option_map packet_of packet) ≡ next_run from.slot its.run (handover.ToNear number) =
    ap (to_near from.slot its.run number) sent in
    record {
      slot = slot ∙ its.slot;
      far_slot = far_slot ∙ its.far_slot;
      step = handover.ToNear number;
      is = refl;
      ready = ready from its;
      stands = record {
        near = there ∙ stays.0 ∙ ap near_part next;
        far = far ∙ its.stands.far ∙ sym stays.1 ∙ ap far_part next;
        far_side = subst (IsFar t.makes) (sym stays.2 ∙ ap (λ (r : Run). r.pair.far) next) (makes its.run.pair.far its.stands.far_side);
      };
    }

pub leads_give_up : (s t : Shown) → t.slot ≡ s.slot → t.far_slot ≡ s.far_slot → t.far ≡ s.far → ((f : FarSide) → IsFar s.makes f → IsFar t.makes f)
    → t.near ≡ given_up s.slot s.near → IsReady s events.GiveUp → LeadsTo s events.GiveUp t
leads_give_up s t slot far_slot far makes gives ready from its = record {
  slot = slot ∙ its.slot;
  far_slot = far_slot ∙ its.far_slot;
  step = handover.GiveUp;
  is = refl;
  ready = ready from its;
  stands = record {
    near = gives ∙ (λ i. given_up (its.slot i) (its.stands.near i));
    far = far ∙ its.stands.far;
    far_side = makes its.run.pair.far its.stands.far_side;
  };
}

-- ---- which packets are ready

pub to_far_exact : (s : Shown) (number : ℕ) (b : Bool) (packet : Option Packet) → b ≡ is_some packet
    → option_map packet_of packet ≡ slice_get (sent_near image_codec s.near.side) number
    → (from : Start) (its : IsRunOf s from) → IsTrue b ↔ IsReadyEvent from.slot its.run (events.ToFar number)
to_far_exact s number b packet there is from its =
    let sent : option_map packet_of packet ≡ slice_get (sent_near image_codec its.run.pair.near) number =
    is ∙ ap (λ (p : NearPart). slice_get (sent_near image_codec p.side) number) its.stands.near in
    let exact = sent_exact packet_of (sent_near image_codec its.run.pair.near) number packet sent in
    (λ yes. exact.0 (sym there ∙ yes), λ lt. there ∙ exact.1 lt)

pub to_near_exact : (s : Shown) (number : ℕ) (b : Bool) (packet : Option Packet) → b ≡ is_some packet
    → ((f : FarSide) → IsFar s.makes f → option_map packet_of packet ≡ slice_get (sent_far f) number)
    → (from : Start) (its : IsRunOf s from) → IsTrue b ↔ IsReadyEvent from.slot its.run (events.ToNear number)
to_near_exact s number b packet there is from its =
    let exact = sent_exact packet_of (sent_far its.run.pair.far) number packet (is its.run.pair.far its.stands.far_side) in
    (λ yes. exact.0 (sym there ∙ yes), λ lt. there ∙ exact.1 lt)

pub give_up_exact : (s : Shown) (b : Bool) → IsTrue b ↔ may_give_up s.near.side
    → (from : Start) (its : IsRunOf s from) → IsTrue b ↔ IsReadyEvent from.slot its.run events.GiveUp
give_up_exact s b exact from its = (
  λ yes. subst (λ (p : NearPart). may_give_up p.side) its.stands.near (exact.0 yes),
  λ may. exact.1 (subst (λ (p : NearPart). may_give_up p.side) (sym its.stands.near) may),
)

-- ---- the far side sends one packet at most

few_sent : (f : FarSide) → length (sent_far f) ≤ 1
few_sent (far.Listens got) = omega arith
few_sent (far.Makes i j) = omega arith
few_sent (far.Built i) = omega arith
few_sent (far.Releases i) = omega arith
few_sent (far.Moved i) = omega arith
few_sent (far.Refuses i why) = omega arith
few_sent (far.Undoes i j) = omega arith
few_sent (far.Clears i more true) = omega arith
few_sent (far.Clears i more false) = omega arith
few_sent (far.Ended image true) = omega arith
few_sent (far.Ended image false) = omega arith

one_there : (ps : List Packets) (x : Packets) → length ps ≤ 1 → Some x ≡ slice_get ps 0 → 1 ≡ length ps
one_there [] x few is = cc
one_there (p ∷ []) x few is = refl
one_there (p ∷ (q ∷ ps)) x few is = absurd (omega (arith, few))

none_there : (ps : List Packets) → None ≡ slice_get ps 0 → 0 ≡ length ps
none_there [] is = refl
none_there (p ∷ ps) is = cc

pub one_sent : (f : FarSide) (o : Option Packet) (b : Bool) → b ≡ is_some o → b ≡ true → option_map packet_of o ≡ slice_get (sent_far f) 0 → 1 ≡ length (sent_far f)
one_sent f None b there is sent = cc
one_sent f (Some x) b there is sent = one_there (sent_far f) (packet_of x) (few_sent f) sent

pub none_sent : (f : FarSide) (o : Option Packet) (b : Bool) → b ≡ is_some o → b ≡ false → option_map packet_of o ≡ slice_get (sent_far f) 0
    → 0 ≡ length (sent_far f)
none_sent f None b there is sent = none_there (sent_far f) sent
none_sent f (Some x) b there is sent = cc
