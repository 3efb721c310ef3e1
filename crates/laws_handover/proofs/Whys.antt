-- Why the near one is kept.
use Rattle.std.proofs.Common.{◌≡◌, ℕ, zero, suc, true, false, ◌⊎◌, inl, inr, List, [], ◌∷◌, Option, Some, None, refl, sym, ap, subst}
use Rattle.std.specs.List.{slice_get}
use Rattle.laws_handover.specs.Packets.{Packet}
use Rattle.laws_handover.specs.Packets.Packet.{Piece, Ready, Refused, Gone, Cancel}
use Rattle.laws_handover.specs.NearSide as near
use Rattle.laws_handover.specs.NearSide.{Near, Saved}
use Rattle.laws_handover.specs.FarSide as far
use Rattle.laws_handover.specs.FarSide.{Far}
use Rattle.laws_handover.specs.Sent.{sent_near, sent_far}
use Rattle.laws_handover.specs.Handover.{Kernels, Pair, Event, saved_as, near_own, far_own, near_told, far_told, gives_up}
use Rattle.laws_handover.specs.Handover.{delivered_near, delivered_far, next, run, first}
use Rattle.laws_handover.specs.Handover.Event.{OfNear, OfFar, NearOwn, FarOwn, ToFar, ToNear, GiveUp}
use Rattle.laws_handover.specs.Laws.{IsIn, why_cancelled}

module _ {W E S V F T I P Y : Type 0} (k : Kernels W E S V F T I P Y) where
  abbrev Both : Type 0
  Both = Pair W S V T I P Y

  abbrev NearSide : Type 0
  NearSide = Near S I Y

  abbrev FarSide : Type 0
  FarSide = Far T I P Y

  -- a cancelled one was given up, which is so where G, or the restore has ended without a copy
  Says : NearSide → FarSide → Type 0 → Type 0
  Says n f G = (why : Y) → why_cancelled n ≡ Some why → ((why ≡ k.gave_up) × G) ⊎ ((i : I) × (f ≡ far.Refuses i why))

  -- ---- the near side

  never : {A : Type 0} (o : Option Y) → o ≡ None → (why : Y) → o ≡ Some why → A
  never None e why h = cc
  never (Some y) e why h = cc

  saved_none : (x : Saved S I Y) → why_cancelled (saved_as k x) ≡ None
  saved_none (near.Goes s) = refl
  saved_none (near.Gathers i) = refl
  saved_none (near.Fails why) = refl

  near_own_says : (w : W) (n : NearSide) (f : FarSide) (G : Type 0) → Says n f G → Says (near_own k w n) f G
  unfolding Says
  near_own_says w (near.Saves s) f G h why e = never (why_cancelled (saved_as k (k.near.saved w s))) (saved_none (k.near.saved w s)) why e
  near_own_says w (near.Clears i zero) f G h why e = cc
  near_own_says w (near.Clears i (suc more)) f G h why e = cc
  near_own_says w (near.Cancels i y) f G h why e = h why e
  near_own_says w (near.Cancelled i y) f G h why e = h why e
  near_own_says w (near.Waits i) f G h why e = cc
  near_own_says w (near.Cleared i) f G h why e = cc
  near_own_says w (near.Failed y) f G h why e = cc

  -- a reason that has come is that of the far side
  abbrev ready : List (Packet P Y)
  ready = Ready ∷ []

  abbrev nothing : List (Packet P Y)
  nothing = []

  ready_alone : {A : Type 0} (y : Y) (number : ℕ) → slice_get ready number ≡ Some (Refused y) → A
  ready_alone y zero e = cc
  ready_alone y (suc number) e = cc

  none_sent : {A : Type 0} (y : Y) (number : ℕ) → slice_get nothing number ≡ Some (Refused y) → A
  none_sent y number e = cc

  refused_by : (f : FarSide) (y : Y) (number : ℕ) → slice_get (sent_far f) number ≡ Some (Refused y) → (i : I) × (f ≡ far.Refuses i y)
  refused_by (far.Refuses i why) y zero e = (i, (let same : why ≡ y = cc in ap (λ (x : Y). far.Refuses i x) same))
  refused_by (far.Refuses i why) y (suc number) e = cc
  refused_by (far.Built i) y number e = ready_alone y number e
  refused_by (far.Releases i) y number e = ready_alone y number e
  refused_by (far.Moved i) y number e = ready_alone y number e
  refused_by (far.Clears i more true) y number e = ready_alone y number e
  refused_by (far.Clears i more false) y number e = none_sent y number e
  refused_by (far.Ended image true) y number e = ready_alone y number e
  refused_by (far.Ended image false) y number e = none_sent y number e
  refused_by (far.Listens got) y number e = none_sent y number e
  refused_by (far.Makes i t) y number e = none_sent y number e
  refused_by (far.Undoes i t) y number e = none_sent y number e

  near_told_says : (n : NearSide) (f : FarSide) (packet : Packet P Y) (number : ℕ) (G : Type 0) → slice_get (sent_far f) number ≡ Some packet
      → Says n f G → Says (near_told k n packet) f G
  unfolding Says
  near_told_says (near.Waits i) f (Refused y) number G sent h why e =
      let same : y ≡ why = cc in
      inr (subst (λ (x : Y). (i : I) × (f ≡ far.Refuses i x)) same (refused_by f y number sent))
  near_told_says (near.Waits i) f Ready number G sent h why e = cc
  near_told_says (near.Waits i) f (Piece q) number G sent h why e = cc
  near_told_says (near.Waits i) f Gone number G sent h why e = cc
  near_told_says (near.Waits i) f Cancel number G sent h why e = cc
  near_told_says (near.Saves s) f packet number G sent h why e = h why e
  near_told_says (near.Clears i more) f packet number G sent h why e = h why e
  near_told_says (near.Cleared i) f packet number G sent h why e = h why e
  near_told_says (near.Cancels i y) f packet number G sent h why e = h why e
  near_told_says (near.Cancelled i y) f packet number G sent h why e = h why e
  near_told_says (near.Failed y) f packet number G sent h why e = h why e

  gives_up_says : (n : NearSide) (f : FarSide) (G H : Type 0) → (G → H) → H → Says n f G → Says (gives_up k n) f H
  unfolding Says
  gives_up_says n f G H on given h = by n h
    where
      later : (why : Y) → ((why ≡ k.gave_up) × G) ⊎ ((i : I) × (f ≡ far.Refuses i why)) → ((why ≡ k.gave_up) × H) ⊎ ((i : I) × (f ≡ far.Refuses i why))
      later why (inl up) = inl (up.0, on up.1)
      later why (inr so) = inr so

      by : (n : NearSide) → Says n f G → Says (gives_up k n) f H
      by (near.Waits i) h why e = let same : k.gave_up ≡ why = cc in inl (sym same, given)
      by (near.Saves s) h why e = later why (h why e)
      by (near.Clears i more) h why e = later why (h why e)
      by (near.Cleared i) h why e = later why (h why e)
      by (near.Cancels i y) h why e = later why (h why e)
      by (near.Cancelled i y) h why e = later why (h why e)
      by (near.Failed y) h why e = later why (h why e)

  -- ---- the far side: a restore that has ended without a copy has ended

  stays_refused : (n : NearSide) (f g : FarSide) (G : Type 0) → ((i : I) (why : Y) → f ≡ far.Refuses i why → g ≡ far.Refuses i why) → Says n f G → Says n g G
  unfolding Says
  stays_refused n f g G stays h why e = by (h why e)
    where
      by : ((why ≡ k.gave_up) × G) ⊎ ((i : I) × (f ≡ far.Refuses i why)) → ((why ≡ k.gave_up) × G) ⊎ ((i : I) × (g ≡ far.Refuses i why))
      by (inl up) = inl up
      by (inr so) = inr (so.0, stays so.0 why so.1)

  -- ---- each event

  weaker : (n : NearSide) (f : FarSide) (G H : Type 0) → (G → H) → Says n f G → Says n f H
  unfolding Says
  weaker n f G H on h why e = by (h why e)
    where
      by : ((why ≡ k.gave_up) × G) ⊎ ((i : I) × (f ≡ far.Refuses i why)) → ((why ≡ k.gave_up) × H) ⊎ ((i : I) × (f ≡ far.Refuses i why))
      by (inl up) = inl (up.0, on up.1)
      by (inr so) = inr so

  to_near : (p : Both) (number : ℕ) (o : Option (Packet P Y)) (G : Type 0) → slice_get (sent_far p.far) number ≡ o → Says p.near p.far G
      → Says (delivered_near k p number o).near (delivered_near k p number o).far G
  to_near p number None G sent h = h
  to_near p number (Some packet) G sent h = near_told_says p.near p.far packet number G sent h

  to_far : (p : Both) (number : ℕ) (o : Option (Packet P Y)) (G : Type 0) → Says p.near p.far G
      → Says (delivered_far k p number o).near (delivered_far k p number o).far G
  to_far p number None G h = h
  to_far p number (Some packet) G h =
      stays_refused p.near p.far (far_told k p.far packet) G (λ i why e. ap (λ (f : FarSide). far_told k f packet) e) h

  next_says : (p : Both) (e : Event E F) (G : Type 0) → Says p.near p.far G → Says (next k p e).near (next k p e).far (G ⊎ (e ≡ GiveUp))
  next_says p (OfNear e) G h = weaker p.near p.far G _ (λ g. inl g) h
  next_says p (OfFar e) G h = weaker p.near p.far G _ (λ g. inl g) h
  next_says p NearOwn G h = weaker (near_own k p.near_world p.near) p.far G _ (λ g. inl g) (near_own_says p.near_world p.near p.far G h)
  next_says p FarOwn G h =
      weaker p.near (far_own k p.far_world p.far) G _ (λ g. inl g)
      (stays_refused p.near p.far (far_own k p.far_world p.far) G (λ i why e. ap (λ (f : FarSide). far_own k p.far_world f) e) h)
  next_says p (ToFar number) G h =
      weaker (next k p (ToFar number)).near (next k p (ToFar number)).far G _ (λ g. inl g) (to_far p number (slice_get (sent_near k.codec p.near) number) G h)
  next_says p (ToNear number) G h =
      weaker (next k p (ToNear number)).near (next k p (ToNear number)).far G _ (λ g. inl g) (to_near p number (slice_get (sent_far p.far) number) G refl h)
  next_says p GiveUp G h = gives_up_says p.near p.far G _ (λ g. inl g) (inr refl) h

  run_says : (p : Both) (es : List (Event E F)) (G : Type 0) → Says p.near p.far G → Says (run k p es).near (run k p es).far (G ⊎ IsIn GiveUp es)
  unfolding run
  run_says p [] G h = weaker p.near p.far G _ (λ g. inl g) h
  run_says p (e ∷ es) G h =
      weaker (run k (next k p e) es).near (run k (next k p e) es).far _ _ so (run_says (next k p e) es (G ⊎ (e ≡ GiveUp)) (next_says p e G h))
    where
      so : (G ⊎ (e ≡ GiveUp)) ⊎ IsIn GiveUp es → G ⊎ IsIn GiveUp (e ∷ es)
      so (inl (inl g)) = inl g
      so (inl (inr same)) = inr (inl same)
      so (inr later) = inr (inr later)

  pub cancel_says_why : (w : W) (v : V) (es : List (Event E F)) (why : Y) → why_cancelled (run k (first k w v) es).near ≡ Some why
      → ((why ≡ k.gave_up) × IsIn GiveUp es) ⊎ ((i : I) × ((run k (first k w v) es).far ≡ far.Refuses i why))
  unfolding Says
  cancel_says_why w v es why e = by (run_says (first k w v) es ⊥ (λ why e. cc) why e)
    where
      given : ⊥ ⊎ IsIn GiveUp es → IsIn GiveUp es
      given (inl off) = absurd off
      given (inr is) = is

      by : ((why ≡ k.gave_up) × (⊥ ⊎ IsIn GiveUp es)) ⊎ ((i : I) × ((run k (first k w v) es).far ≡ far.Refuses i why))
          → ((why ≡ k.gave_up) × IsIn GiveUp es) ⊎ ((i : I) × ((run k (first k w v) es).far ≡ far.Refuses i why))
      by (inl up) = inl (up.0, given up.1)
      by (inr so) = inr so
