-- First calls have places among their kernel's moves.
use Rattle.std.proofs.Common.{◌≡◌, ℕ, zero, suc, Bool, false, cond, List, [], ◌∷◌, Option, Some, None, option_map, refl, sym, ap, ◌∙◌}
use Rattle.std.specs.List.{slice_get}
use Rattle.fk_model.specs.World.{World}
use Rattle.fk_image.specs.declared.image.image.Image.{Image}
use Rattle.laws_handover.specs.Packets.{Packet, Codec}
use Rattle.laws_handover.specs.Handover as handover
use Rattle.laws_handover.specs.Handover.{Pair, next, delivered_near, delivered_far}
use Rattle.laws_handover.specs.Sent.{sent_near, sent_far}
use Rattle.laws_migrate.specs.Migration.{Why, kernels, Both, Step, near_asked, far_asked, asked_from, hold_from, make_from, is_near_own, is_far_own}
use Rattle.laws_migrate.specs.Places.{is_near, is_far, place_of, world_at, near_at, far_at, CallsHavePlaces}

module _ {P : Type 0} (codec : Codec Image P) (slot : ℕ) where
  abbrev Pairs : Type 0
  Pairs = Both codec slot

  abbrev Events : Type 0
  Events = Step codec slot

  abbrev after_step : Pairs → Events → Pairs
  after_step p e = next (kernels codec slot) p e

  some_world : World → Option World
  some_world w = Some w

  -- what is noted stays
  stays : (asked : Pairs → Events → Option World) (w v : World) (p : Pairs) (es : List Events) → asked_from codec slot asked (Some w) p es ≡ Some v → w ≡ v
  stays asked w v p [] e = let same : w ≡ v = cc in same
  stays asked w v p (e ∷ es) is = stays asked w v (after_step p e) es is

  passed : (side : Pairs → World) (of : Events → Bool) (n : ℕ) (p : Pairs) (e : Events) (es : List Events) → of e ≡ false → side (after_step p e) ≡ side p
      → world_at codec slot side of n p (e ∷ es) ≡ world_at codec slot side of n (after_step p e) es
  passed side of zero p e es off same = sym same
  passed side of (suc n) p e es off same = ap (λ (b : Bool). world_at codec slot side of (cond b n (suc n)) (after_step p e) es) off

  told_far : (p : Pairs) (number : ℕ) (o : Option (Packet P Why)) → (delivered_far (kernels codec slot) p number o).near_world ≡ p.near_world
  told_far p number None = refl
  told_far p number (Some packet) = refl

  told_near : (p : Pairs) (number : ℕ) (o : Option (Packet P Why)) → (delivered_near (kernels codec slot) p number o).near_world ≡ p.near_world
  told_near p number None = refl
  told_near p number (Some packet) = refl

  far_told_far : (p : Pairs) (number : ℕ) (o : Option (Packet P Why)) → (delivered_far (kernels codec slot) p number o).far_world ≡ p.far_world
  far_told_far p number None = refl
  far_told_far p number (Some packet) = refl

  far_told_near : (p : Pairs) (number : ℕ) (o : Option (Packet P Why)) → (delivered_near (kernels codec slot) p number o).far_world ≡ p.far_world
  far_told_near p number None = refl
  far_told_near p number (Some packet) = refl

  abbrev near_side : Pairs → World
  near_side q = q.near_world

  abbrev far_side : Pairs → World
  far_side q = q.far_world

  abbrev HoldAt : Pairs → List Events → World → Type 0
  HoldAt p es w = (n : ℕ) × (place_of is_near_own is_near es ≡ Some n) × (near_at codec slot n p es ≡ w)

  abbrev MakeAt : Pairs → List Events → World → Type 0
  MakeAt p es w = (n : ℕ) × (place_of is_far_own is_far es ≡ Some n) × (far_at codec slot n p es ≡ w)

  pub hold_at : (p : Pairs) (es : List Events) (w : World) → hold_from codec slot None p es ≡ Some w → HoldAt p es w
  hold_at p [] w is = cc
  hold_at p (handover.NearOwn ∷ es) w is = (0, refl, stays (near_asked codec slot) p.near_world w (after_step p handover.NearOwn) es is)
  hold_at p (handover.OfNear e ∷ es) w is =
      let rest = hold_at (after_step p (handover.OfNear e)) es w is in
      (suc rest.0, ap (λ (o : Option ℕ). option_map suc o) rest.1, rest.2)
  hold_at p (handover.OfFar e ∷ es) w is =
      let rest = hold_at (after_step p (handover.OfFar e)) es w is in
      (rest.0, rest.1, passed near_side is_near rest.0 p (handover.OfFar e) es refl refl ∙ rest.2)
  hold_at p (handover.FarOwn ∷ es) w is =
      let rest = hold_at (after_step p handover.FarOwn) es w is in
      (rest.0, rest.1, passed near_side is_near rest.0 p handover.FarOwn es refl refl ∙ rest.2)
  hold_at p (handover.GiveUp ∷ es) w is =
      let rest = hold_at (after_step p handover.GiveUp) es w is in
      (rest.0, rest.1, passed near_side is_near rest.0 p handover.GiveUp es refl refl ∙ rest.2)
  hold_at p (handover.ToFar number ∷ es) w is =
      let rest = hold_at (after_step p (handover.ToFar number)) es w is in (
        rest.0,
        rest.1,
        passed near_side is_near rest.0 p (handover.ToFar number) es refl
            (told_far p number (slice_get (sent_near codec p.near) number)) ∙ rest.2,
      )
  hold_at p (handover.ToNear number ∷ es) w is =
      let rest = hold_at (after_step p (handover.ToNear number)) es w is in (
        rest.0,
        rest.1,
        passed near_side is_near rest.0 p (handover.ToNear number) es refl
            (told_near p number (slice_get (sent_far p.far) number)) ∙ rest.2,
      )

  pub make_at : (p : Pairs) (es : List Events) (w : World) → make_from codec slot None p es ≡ Some w → MakeAt p es w
  make_at p [] w is = cc
  make_at p (handover.FarOwn ∷ es) w is = (0, refl, stays (far_asked codec slot) p.far_world w (after_step p handover.FarOwn) es is)
  make_at p (handover.OfFar e ∷ es) w is =
      let rest = make_at (after_step p (handover.OfFar e)) es w is in
      (suc rest.0, ap (λ (o : Option ℕ). option_map suc o) rest.1, rest.2)
  make_at p (handover.OfNear e ∷ es) w is =
      let rest = make_at (after_step p (handover.OfNear e)) es w is in
      (rest.0, rest.1, passed far_side is_far rest.0 p (handover.OfNear e) es refl refl ∙ rest.2)
  make_at p (handover.NearOwn ∷ es) w is =
      let rest = make_at (after_step p handover.NearOwn) es w is in
      (rest.0, rest.1, passed far_side is_far rest.0 p handover.NearOwn es refl refl ∙ rest.2)
  make_at p (handover.GiveUp ∷ es) w is =
      let rest = make_at (after_step p handover.GiveUp) es w is in
      (rest.0, rest.1, passed far_side is_far rest.0 p handover.GiveUp es refl refl ∙ rest.2)
  make_at p (handover.ToFar number ∷ es) w is =
      let rest = make_at (after_step p (handover.ToFar number)) es w is in (
        rest.0,
        rest.1,
        passed far_side is_far rest.0 p (handover.ToFar number) es refl
            (far_told_far p number (slice_get (sent_near codec p.near) number)) ∙ rest.2,
      )
  make_at p (handover.ToNear number ∷ es) w is =
      let rest = make_at (after_step p (handover.ToNear number)) es w is in (
        rest.0,
        rest.1,
        passed far_side is_far rest.0 p (handover.ToNear number) es refl
            (far_told_near p number (slice_get (sent_far p.far) number)) ∙ rest.2,
      )

pub calls_have_places : {P : Type 0} → CallsHavePlaces P
calls_have_places codec slot p es w = (hold_at codec slot p es w, make_at codec slot p es w)
