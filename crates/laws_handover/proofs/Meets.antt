-- Where both sides stand together, over every list of events.
use Rattle.std.proofs.Common.{◌≡◌, ℕ, zero, suc, ◌<◌, true, false, ◌⊎◌, inl, inr, List, [], ◌∷◌, ◌++◌, map, length, Option, Some, None, refl, sym, ap, subst}
use Rattle.std.proofs.Common.{arith, ◌∙◌}
use Rattle.std.specs.List.{slice_get}
use Rattle.laws_handover.specs.Packets.{Packet}
use Rattle.laws_handover.specs.NearSide as near
use Rattle.laws_handover.specs.NearSide.{Near, Saved}
use Rattle.laws_handover.specs.FarSide as far
use Rattle.laws_handover.specs.FarSide.{Far, Made}
use Rattle.laws_handover.specs.Sent.{pieces_sent, ready_sent, sent_near, sent_far}
use Rattle.laws_handover.specs.Packets.Packet.{Piece, Ready, Refused, Gone, Cancel}
use Rattle.laws_handover.specs.Handover.{Kernels, Pair, Event, saved_as, near_own, made_as, undone_as, far_own, near_told, listened, far_told, gives_up}
use Rattle.laws_handover.specs.Handover.{delivered_far, delivered_near, next, run, first}
use Rattle.laws_handover.specs.Handover.Event.{OfNear, OfFar, NearOwn, FarOwn, ToFar, ToNear, GiveUp}
use Rattle.laws_handover.specs.Laws.{IsIn, IsExact, GatherExactly, is_let_go, Extends, near_asks, far_asks, is_over, AllCame, near_image, far_image}

-- ---- lists

in_more : {A : Type 0} (x y : A) (xs : List A) → IsIn x (xs ++ y ∷ []) → IsIn x xs ⊎ (y ≡ x)
in_more x y [] (inl e) = inr e
in_more x y [] (inr h) = absurd h
in_more x y (z ∷ xs) (inl e) = inl (inl e)
in_more x y (z ∷ xs) (inr h) = by (in_more x y xs h)
  where
    by : IsIn x xs ⊎ (y ≡ x) → (IsIn x (z ∷ xs)) ⊎ (y ≡ x)
    by (inl i) = inl (inr i)
    by (inr e) = inr e

in_before : {A : Type 0} (x y : A) (xs : List A) → IsIn x xs → IsIn x (xs ++ y ∷ [])
in_before x y [] h = absurd h
in_before x y (z ∷ xs) (inl e) = inl e
in_before x y (z ∷ xs) (inr h) = inr (in_before x y xs h)

in_last : {A : Type 0} (y : A) (xs : List A) → IsIn y (xs ++ y ∷ [])
in_last y [] = inl refl
in_last y (z ∷ xs) = inr (in_last y xs)

-- an element of a list has a place in it
place_of : {A : Type 0} (x : A) (xs : List A) → IsIn x xs → (n : ℕ) × (n < length xs) × (slice_get xs n ≡ Some x)
place_of x [] h = absurd h
place_of x (y ∷ xs) (inl e) = (0, omega arith, ap (λ (z : _). Some z) e)
place_of x (y ∷ xs) (inr h) = let rest = place_of x xs h in (suc rest.0, (let low = rest.1 in omega (arith, low)), rest.2)

at_of : {A : Type 0} (x : A) (xs : List A) (n : ℕ) → slice_get xs n ≡ Some x → IsIn x xs
at_of x [] n e = cc
at_of x (y ∷ xs) zero e = inl (let same : y ≡ x = cc in same)
at_of x (y ∷ xs) (suc n) e = inr (at_of x xs n e)

at_longer : {A : Type 0} (x : A) (xs more : List A) (n : ℕ) → slice_get xs n ≡ Some x → slice_get (xs ++ more) n ≡ Some x
at_longer x [] more n e = cc
at_longer x (y ∷ xs) more zero e = e
at_longer x (y ∷ xs) more (suc n) e = at_longer x xs more n e

module _ {W E S V F T I P Y : Type 0} (k : Kernels W E S V F T I P Y) where
  abbrev NearSide : Type 0
  NearSide = Near S I Y

  abbrev FarSide : Type 0
  FarSide = Far T I P Y

  abbrev APacket : Type 0
  APacket = Packet P Y

  -- those got are pieces of the image
  record AreOf (i : I) (got : List P) : Type 0 where
    exact : IsExact k.codec i
    of : (p : P) → IsIn p got → IsIn p (k.codec.pieces i)

  abbrev IsListening : NearSide → List P → Type 0
  IsListening (near.Saves s) got = got ≡ []
  IsListening (near.Failed why) got = got ≡ []
  IsListening (near.Waits i) got = AreOf i got
  IsListening (near.Cancels i why) got = AreOf i got
  IsListening (near.Cancelled i why) got = AreOf i got
  IsListening (near.Clears i more) got = ⊥
  IsListening (near.Cleared i) got = ⊥

  -- not decided, or cancelled
  abbrev IsOpen : I → NearSide → Type 0
  IsOpen i (near.Waits j) = j ≡ i
  IsOpen i (near.Cancels j why) = j ≡ i
  IsOpen i (near.Cancelled j why) = j ≡ i
  IsOpen i (near.Saves s) = ⊥
  IsOpen i (near.Failed why) = ⊥
  IsOpen i (near.Clears j more) = ⊥
  IsOpen i (near.Cleared j) = ⊥

  abbrev IsAny : I → NearSide → Type 0
  IsAny i (near.Waits j) = j ≡ i
  IsAny i (near.Cancels j why) = j ≡ i
  IsAny i (near.Cancelled j why) = j ≡ i
  IsAny i (near.Saves s) = ⊥
  IsAny i (near.Failed why) = ⊥
  IsAny i (near.Clears j more) = j ≡ i
  IsAny i (near.Cleared j) = j ≡ i

  abbrev IsGone : I → NearSide → Type 0
  IsGone i (near.Cleared j) = j ≡ i
  IsGone i (near.Waits j) = ⊥
  IsGone i (near.Cancels j why) = ⊥
  IsGone i (near.Cancelled j why) = ⊥
  IsGone i (near.Saves s) = ⊥
  IsGone i (near.Failed why) = ⊥
  IsGone i (near.Clears j more) = ⊥

  abbrev IsOff : NearSide → Type 0
  IsOff (near.Cancels j why) = Unit {0}
  IsOff (near.Cancelled j why) = Unit {0}
  IsOff (near.Cleared j) = ⊥
  IsOff (near.Waits j) = ⊥
  IsOff (near.Saves s) = ⊥
  IsOff (near.Failed why) = ⊥
  IsOff (near.Clears j more) = ⊥

  -- cancelled, with this image
  abbrev IsKept : I → NearSide → Type 0
  IsKept i (near.Cancels j why) = j ≡ i
  IsKept i (near.Cancelled j why) = j ≡ i
  IsKept i (near.Cleared j) = ⊥
  IsKept i (near.Waits j) = ⊥
  IsKept i (near.Saves s) = ⊥
  IsKept i (near.Failed why) = ⊥
  IsKept i (near.Clears j more) = ⊥

  abbrev IsEnded : Option I → NearSide → Type 0
  IsEnded None n = IsOff n
  IsEnded (Some i) n = IsKept i n

  abbrev Meet : NearSide → FarSide → Type 0
  Meet n (far.Listens got) = IsListening n got × (k.codec.reads got ≡ None)
  Meet n (far.Makes i t) = IsOpen i n
  Meet n (far.Built i) = IsAny i n
  Meet n (far.Releases i) = IsGone i n
  Meet n (far.Moved i) = IsGone i n
  Meet n (far.Refuses i why) = IsOpen i n
  Meet n (far.Undoes i t) = IsKept i n
  Meet n (far.Clears i more ready) = IsKept i n
  Meet n (far.Ended image ready) = IsEnded image n

  kept_off : (i : I) (n : NearSide) → IsKept i n → IsOff n
  kept_off i (near.Cancels j why) h = tt
  kept_off i (near.Cancelled j why) h = tt
  kept_off i (near.Cleared j) h = absurd h
  kept_off i (near.Waits j) h = absurd h
  kept_off i (near.Saves s) h = absurd h
  kept_off i (near.Failed why) h = absurd h
  kept_off i (near.Clears j more) h = absurd h

  ended_off : (image : Option I) (n : NearSide) → IsEnded image n → IsOff n
  ended_off None n h = h
  ended_off (Some i) n h = kept_off i n h

  -- ---- the near porter's call

  abbrev Exactly : NearSide → Type 0
  Exactly n = (i : I) → n ≡ near.Waits i → IsExact k.codec i

  saved_meet : (s : S) (x : Saved S I Y) → Exactly (saved_as k x) → (f : FarSide) → Meet (near.Saves s) f → Meet (saved_as k x) f
  saved_meet s (near.Goes t) exact (far.Listens got) h = h
  saved_meet s (near.Fails why) exact (far.Listens got) h = h
  saved_meet s (near.Gathers i) exact (far.Listens got) h =
      (record { exact = exact i refl; of = λ p is. absurd (subst (IsIn p) h.0 is) }, h.1)
  saved_meet s x exact (far.Makes i t) h = absurd h
  saved_meet s x exact (far.Built i) h = absurd h
  saved_meet s x exact (far.Releases i) h = absurd h
  saved_meet s x exact (far.Moved i) h = absurd h
  saved_meet s x exact (far.Refuses i why) h = absurd h
  saved_meet s x exact (far.Undoes i t) h = absurd h
  saved_meet s x exact (far.Clears i more ready) h = absurd h
  saved_meet s x exact (far.Ended image ready) h = absurd (ended_off image (near.Saves s) h)

  -- a change of the near side that takes each of its kinds to itself
  record IsOn (n m : NearSide) : Type 0 where
    listening : (got : List P) → IsListening n got → IsListening m got
    still : (i : I) → IsOpen i n → IsOpen i m
    any : (i : I) → IsAny i n → IsAny i m
    gone : (i : I) → IsGone i n → IsGone i m
    off : IsOff n → IsOff m
    kept : (i : I) → IsKept i n → IsKept i m

  goes_on : (n m : NearSide) → IsOn n m → (f : FarSide) → Meet n f → Meet m f
  goes_on n m on (far.Listens got) h = (on.listening got h.0, h.1)
  goes_on n m on (far.Makes i t) h = on.still i h
  goes_on n m on (far.Built i) h = on.any i h
  goes_on n m on (far.Releases i) h = on.gone i h
  goes_on n m on (far.Moved i) h = on.gone i h
  goes_on n m on (far.Refuses i why) h = on.still i h
  goes_on n m on (far.Undoes i t) h = on.kept i h
  goes_on n m on (far.Clears i more ready) h = on.kept i h
  goes_on n m on (far.Ended None ready) h = on.off h
  goes_on n m on (far.Ended (Some i) ready) h = on.kept i h

  same_on : (n : NearSide) → IsOn n n
  same_on n = record { listening = λ got h. h; still = λ i h. h; any = λ i h. h; gone = λ i h. h; off = λ h. h; kept = λ i h. h }

  near_own_meet : (w : W) (n : NearSide) → Exactly (near_own k w n) → (f : FarSide) → Meet n f → Meet (near_own k w n) f
  near_own_meet w (near.Saves s) exact f h = saved_meet s (k.near.saved w s) exact f h
  near_own_meet w (near.Clears i zero) exact f h = goes_on (near.Clears i zero) (near.Cleared i) (record {
    listening = λ got x. absurd x;
    still = λ j x. absurd x;
    any = λ j x. x;
    gone = λ j x. absurd x;
    off = λ x. absurd x;
    kept = λ j x. absurd x;
  }) f h
  near_own_meet w (near.Clears i (suc more)) exact f h = goes_on (near.Clears i (suc more)) (near.Clears i more) (record {
    listening = λ got x. absurd x;
    still = λ j x. absurd x;
    any = λ j x. x;
    gone = λ j x. absurd x;
    off = λ x. absurd x;
    kept = λ j x. absurd x;
  }) f h
  near_own_meet w (near.Cancels i why) exact f h = goes_on (near.Cancels i why) (near.Cancelled i why) (record {
    listening = λ got x. x;
    still = λ j x. x;
    any = λ j x. x;
    gone = λ j x. absurd x;
    off = λ x. x;
    kept = λ j x. x;
  }) f h
  near_own_meet w (near.Waits i) exact f h = h
  near_own_meet w (near.Cleared i) exact f h = h
  near_own_meet w (near.Cancelled i why) exact f h = h
  near_own_meet w (near.Failed why) exact f h = h

  -- ---- it keeps its own

  off_on : (i : I) (why : Y) → IsOn (near.Waits i) (near.Cancels i why)
  off_on i why = record {
    listening = λ got x. x;
    still = λ j x. x;
    any = λ j x. x;
    gone = λ j x. absurd x;
    off = λ x. absurd x;
    kept = λ j x. absurd x;
  }

  gives_up_meet : (n : NearSide) (f : FarSide) → Meet n f → Meet (gives_up k n) f
  gives_up_meet (near.Waits i) f h = goes_on (near.Waits i) (near.Cancels i k.gave_up) (off_on i k.gave_up) f h
  gives_up_meet (near.Saves s) f h = h
  gives_up_meet (near.Clears i more) f h = h
  gives_up_meet (near.Cleared i) f h = h
  gives_up_meet (near.Cancels i why) f h = h
  gives_up_meet (near.Cancelled i why) f h = h
  gives_up_meet (near.Failed why) f h = h

  -- ---- the far porter's call

  made_meet : (n : NearSide) (i : I) (x : Made T Y) → IsOpen i n → Meet n (made_as k i x)
  made_meet n i (far.Goes t) h = h
  made_meet n i (far.Fails why) h = h
  made_meet (near.Waits j) i far.Builds h = h
  made_meet (near.Cancels j why) i far.Builds h = h
  made_meet (near.Cancelled j why) i far.Builds h = h
  made_meet (near.Saves s) i far.Builds h = absurd h
  made_meet (near.Failed why) i far.Builds h = absurd h
  made_meet (near.Clears j more) i far.Builds h = absurd h
  made_meet (near.Cleared j) i far.Builds h = absurd h

  undone_meet : (n : NearSide) (i : I) (x : Made T Y) → IsKept i n → Meet n (undone_as k i x)
  undone_meet n i (far.Goes t) h = h
  undone_meet n i (far.Fails why) h = h
  undone_meet n i far.Builds h = h

  far_own_meet : (v : V) (n : NearSide) (f : FarSide) → Meet n f → Meet n (far_own k v f)
  far_own_meet v n (far.Makes i t) h = made_meet n i (k.far.made v t) h
  far_own_meet v n (far.Releases i) h = h
  far_own_meet v n (far.Undoes i t) h = undone_meet n i (k.far.made v t) h
  far_own_meet v n (far.Clears i zero ready) h = h
  far_own_meet v n (far.Clears i (suc more) ready) h = h
  far_own_meet v n (far.Listens got) h = h
  far_own_meet v n (far.Built i) h = h
  far_own_meet v n (far.Moved i) h = h
  far_own_meet v n (far.Refuses i why) h = h
  far_own_meet v n (far.Ended image ready) h = h

  -- ---- to the near side

  one_sent : {A : Type 0} (x y : A) (number : ℕ) → slice_get (x ∷ []) number ≡ Some y → x ≡ y
  one_sent x y zero e = cc
  one_sent x y (suc number) e = cc

  ready_meet : (n : NearSide) (i : I) → IsAny i n → Meet (near_told k n Ready) (far.Built i)
  ready_meet (near.Waits j) i h = h
  ready_meet (near.Saves s) i h = absurd h
  ready_meet (near.Failed why) i h = absurd h
  ready_meet (near.Clears j more) i h = h
  ready_meet (near.Cleared j) i h = h
  ready_meet (near.Cancels j why) i h = h
  ready_meet (near.Cancelled j why) i h = h

  refused_meet : (n : NearSide) (i : I) (why : Y) → IsOpen i n → IsOpen i (near_told k n (Refused why))
  refused_meet (near.Waits j) i why h = h
  refused_meet (near.Saves s) i why h = absurd h
  refused_meet (near.Failed w) i why h = absurd h
  refused_meet (near.Clears j more) i why h = absurd h
  refused_meet (near.Cleared j) i why h = absurd h
  refused_meet (near.Cancels j w) i why h = h
  refused_meet (near.Cancelled j w) i why h = h

  gone_told : (n : NearSide) (i : I) (p : APacket) → IsGone i n → IsGone i (near_told k n p)
  gone_told (near.Cleared j) i p h = h
  gone_told (near.Waits j) i p h = absurd h
  gone_told (near.Saves s) i p h = absurd h
  gone_told (near.Failed w) i p h = absurd h
  gone_told (near.Clears j more) i p h = absurd h
  gone_told (near.Cancels j w) i p h = absurd h
  gone_told (near.Cancelled j w) i p h = absurd h

  off_told : (n : NearSide) (p : APacket) → IsOff n → IsOff (near_told k n p)
  off_told (near.Cancels j w) p h = h
  off_told (near.Cancelled j w) p h = h
  off_told (near.Cleared j) p h = absurd h
  off_told (near.Waits j) p h = absurd h
  off_told (near.Saves s) p h = absurd h
  off_told (near.Failed w) p h = absurd h
  off_told (near.Clears j more) p h = absurd h

  kept_told : (n : NearSide) (i : I) (p : APacket) → IsKept i n → IsKept i (near_told k n p)
  kept_told (near.Cancels j w) i p h = h
  kept_told (near.Cancelled j w) i p h = h
  kept_told (near.Cleared j) i p h = absurd h
  kept_told (near.Waits j) i p h = absurd h
  kept_told (near.Saves s) i p h = absurd h
  kept_told (near.Failed w) i p h = absurd h
  kept_told (near.Clears j more) i p h = absurd h

  near_told_meet : (n : NearSide) (f : FarSide) (p : APacket) (number : ℕ) → slice_get (sent_far f) number ≡ Some p → Meet n f → Meet (near_told k n p) f
  near_told_meet n (far.Listens got) p number e h = cc
  near_told_meet n (far.Makes i t) p number e h = cc
  near_told_meet n (far.Undoes i t) p number e h = cc
  near_told_meet n (far.Built i) p number e h = subst (λ (q : APacket). Meet (near_told k n q) (far.Built i)) (one_sent Ready p number e) (ready_meet n i h)
  near_told_meet n (far.Refuses i why) p number e h =
      subst (λ (q : APacket). IsOpen i (near_told k n q)) (one_sent (Refused why) p number e) (refused_meet n i why h)
  near_told_meet n (far.Releases i) p number e h = gone_told n i p h
  near_told_meet n (far.Moved i) p number e h = gone_told n i p h
  near_told_meet n (far.Clears i more ready) p number e h = kept_told n i p h
  near_told_meet n (far.Ended None ready) p number e h = off_told n p h
  near_told_meet n (far.Ended (Some i) ready) p number e h = kept_told n i p h

  -- ---- to the far side

  -- what the near side sends
  data IsSent : NearSide → APacket → Type 0 where
    APiece : (n : NearSide) (i : I) (q : P) → IsAny i n → IsIn q (k.codec.pieces i) → IsSent n (Piece q)
    AGone : (i : I) → IsSent (near.Cleared i) Gone
    ACancel : (n : NearSide) → IsOff n → IsSent n Cancel

  from_pieces : (qs : List P) (rest : List APacket) (p : APacket) (number : ℕ) → slice_get (map Piece qs ++ rest) number ≡ Some p →
      ((q : P) × IsIn q qs × (Piece q ≡ p)) ⊎ IsIn p rest
  from_pieces [] rest p number e = inr (at_of p rest number e)
  from_pieces (q ∷ qs) rest p zero e = inl (q, inl refl, (let same : Piece q ≡ p = cc in same))
  from_pieces (q ∷ qs) rest p (suc number) e = by (from_pieces qs rest p number e)
    where
      by : ((r : P) × IsIn r qs × (Piece r ≡ p)) ⊎ IsIn p rest → ((r : P) × IsIn r (q ∷ qs) × (Piece r ≡ p)) ⊎ IsIn p rest
      by (inl its) = inl (its.0, inr its.1, its.2)
      by (inr h) = inr h

  sent_so : (n : NearSide) (i : I) (rest : List APacket) (p : APacket) (number : ℕ) → IsAny i n → (IsIn p rest → IsSent n p)
      → slice_get (pieces_sent k.codec i rest) number ≡ Some p → IsSent n p
  sent_so n i rest p number any other e = by (from_pieces (k.codec.pieces i) rest p number e)
    where
      by : ((q : P) × IsIn q (k.codec.pieces i) × (Piece q ≡ p)) ⊎ IsIn p rest → IsSent n p
      by (inl its) = subst (IsSent n) its.2 (APiece n i its.0 any its.1)
      by (inr h) = other h

  none_more : (n : NearSide) (p : APacket) → IsIn p [] → IsSent n p
  none_more n p h = absurd h

  gone_more : (i : I) (p : APacket) → IsIn p (Gone ∷ []) → IsSent (near.Cleared i) p
  gone_more i p (inl e) = subst (IsSent (near.Cleared i)) e (AGone i)
  gone_more i p (inr h) = absurd h

  cancel_more : (n : NearSide) (p : APacket) → IsOff n → IsIn p (Cancel ∷ []) → IsSent n p
  cancel_more n p off (inl e) = subst (IsSent n) e (ACancel n off)
  cancel_more n p off (inr h) = absurd h

  is_sent : (n : NearSide) (p : APacket) (number : ℕ) → slice_get (sent_near k.codec n) number ≡ Some p → IsSent n p
  is_sent (near.Saves s) p number e = cc
  is_sent (near.Failed why) p number e = cc
  is_sent (near.Waits i) p number e = sent_so (near.Waits i) i [] p number refl (none_more (near.Waits i) p) e
  is_sent (near.Clears i more) p number e = sent_so (near.Clears i more) i [] p number refl (none_more (near.Clears i more) p) e
  is_sent (near.Cleared i) p number e = sent_so (near.Cleared i) i (Gone ∷ []) p number refl (gone_more i p) e
  is_sent (near.Cancels i why) p number e = sent_so (near.Cancels i why) i (Cancel ∷ []) p number refl (cancel_more (near.Cancels i why) p tt) e
  is_sent (near.Cancelled i why) p number e = sent_so (near.Cancelled i why) i (Cancel ∷ []) p number refl (cancel_more (near.Cancelled i why) p tt) e

  -- ---- to the far side

  heard : (n : NearSide) (got : List P) (q : P) (i : I) → AreOf i got → IsIn q (k.codec.pieces i)
      → ((got : List P) → AreOf i got → IsListening n got) → IsOpen i n →
      (o : Option I) → k.codec.reads (got ++ q ∷ []) ≡ o → Meet n (listened k (got ++ q ∷ []) o)
  heard n got q i are is back opened o e = by o e
    where
      more : AreOf i (got ++ q ∷ [])
      more = record { exact = are.exact; of = λ p among. either p (in_more p q got among) }
        where
          either : (p : P) → IsIn p got ⊎ (q ≡ p) → IsIn p (k.codec.pieces i)
          either p (inl h) = are.of p h
          either p (inr same) = subst (λ (r : P). IsIn r (k.codec.pieces i)) same is

      by : (o : Option I) → k.codec.reads (got ++ q ∷ []) ≡ o → Meet n (listened k (got ++ q ∷ []) o)
      by None e = (back (got ++ q ∷ []) more, e)
      by (Some j) e = subst (λ (x : I). IsOpen x n) (sym (are.exact.same (got ++ q ∷ []) j more.of e)) opened

  piece_meet : (n : NearSide) (got : List P) (i : I) (q : P) → IsAny i n → IsIn q (k.codec.pieces i) → IsListening n got →
      Meet n (far_told k (far.Listens got) (Piece q))
  piece_meet (near.Waits j) got i q any is h =
      heard (near.Waits j) got q j h (subst (λ (x : I). IsIn q (k.codec.pieces x)) (sym any) is) (λ g are. are) refl _ refl
  piece_meet (near.Cancels j why) got i q any is h =
      heard (near.Cancels j why) got q j h (subst (λ (x : I). IsIn q (k.codec.pieces x)) (sym any) is) (λ g are. are) refl _ refl
  piece_meet (near.Cancelled j why) got i q any is h =
      heard (near.Cancelled j why) got q j h (subst (λ (x : I). IsIn q (k.codec.pieces x)) (sym any) is) (λ g are. are) refl _ refl
  piece_meet (near.Saves s) got i q any is h = absurd any
  piece_meet (near.Failed why) got i q any is h = absurd any
  piece_meet (near.Clears j more) got i q any is h = absurd h
  piece_meet (near.Cleared j) got i q any is h = absurd h

  any_kept : (n : NearSide) (i : I) → IsOff n → IsAny i n → IsKept i n
  any_kept (near.Cancels j w) i off h = h
  any_kept (near.Cancelled j w) i off h = h
  any_kept (near.Cleared j) i off h = absurd off
  any_kept (near.Waits j) i off h = absurd off
  any_kept (near.Saves s) i off h = absurd off
  any_kept (near.Failed w) i off h = absurd off
  any_kept (near.Clears j more) i off h = absurd off

  open_kept : (n : NearSide) (i : I) → IsOff n → IsOpen i n → IsKept i n
  open_kept (near.Cancels j w) i off h = h
  open_kept (near.Cancelled j w) i off h = h
  open_kept (near.Cleared j) i off h = absurd off
  open_kept (near.Waits j) i off h = absurd off
  open_kept (near.Saves s) i off h = absurd off
  open_kept (near.Failed w) i off h = absurd off
  open_kept (near.Clears j more) i off h = absurd off

  cancelled_meet : (n : NearSide) (f : FarSide) → IsOff n → Meet n f → Meet n (far_told k f Cancel)
  cancelled_meet n (far.Listens got) off h = off
  cancelled_meet n (far.Makes i t) off h = open_kept n i off h
  cancelled_meet n (far.Built i) off h = any_kept n i off h
  cancelled_meet n (far.Releases i) off h = h
  cancelled_meet n (far.Moved i) off h = h
  cancelled_meet n (far.Refuses i why) off h = h
  cancelled_meet n (far.Undoes i t) off h = h
  cancelled_meet n (far.Clears i more ready) off h = h
  cancelled_meet n (far.Ended image ready) off h = h

  far_told_meet : (n : NearSide) (f : FarSide) (p : APacket) → IsSent n p → Meet n f → Meet n (far_told k f p)
  far_told_meet _ f _ (ACancel n off) h = cancelled_meet n f off h
  far_told_meet _ (far.Listens got) _ (AGone i) h = absurd h.0
  far_told_meet _ (far.Makes i t) _ (AGone j) h = h
  far_told_meet _ (far.Built i) _ (AGone j) h = h
  far_told_meet _ (far.Releases i) _ (AGone j) h = h
  far_told_meet _ (far.Moved i) _ (AGone j) h = h
  far_told_meet _ (far.Refuses i why) _ (AGone j) h = h
  far_told_meet _ (far.Undoes i t) _ (AGone j) h = h
  far_told_meet _ (far.Clears i more ready) _ (AGone j) h = h
  far_told_meet _ (far.Ended image ready) _ (AGone j) h = h
  far_told_meet _ (far.Listens got) _ (APiece n i q any is) h = piece_meet n got i q any is h.0
  far_told_meet _ (far.Makes i t) _ (APiece n j q any is) h = h
  far_told_meet _ (far.Built i) _ (APiece n j q any is) h = h
  far_told_meet _ (far.Releases i) _ (APiece n j q any is) h = h
  far_told_meet _ (far.Moved i) _ (APiece n j q any is) h = h
  far_told_meet _ (far.Refuses i why) _ (APiece n j q any is) h = h
  far_told_meet _ (far.Undoes i t) _ (APiece n j q any is) h = h
  far_told_meet _ (far.Clears i more ready) _ (APiece n j q any is) h = h
  far_told_meet _ (far.Ended image ready) _ (APiece n j q any is) h = h

  -- ---- over a list of events

  abbrev Both : Type 0
  Both = Pair W S V T I P Y

  Meets : Both → Type 0
  Meets p = Meet p.near p.far

  to_far : (p : Both) (number : ℕ) (o : Option APacket) → slice_get (sent_near k.codec p.near) number ≡ o → Meets p → Meets (delivered_far k p number o)
  unfolding Meets
  to_far p number None e h = h
  to_far p number (Some packet) e h = far_told_meet p.near p.far packet (is_sent p.near packet number e) h

  to_near : (p : Both) (number : ℕ) (o : Option APacket) → slice_get (sent_far p.far) number ≡ o → Meets p → Meets (delivered_near k p number o)
  unfolding Meets
  to_near p number None e h = h
  to_near p number (Some packet) e h = near_told_meet p.near p.far packet number e h

  next_meets : (p : Both) (e : Event E F) → Exactly (next k p e).near → Meets p → Meets (next k p e)
  unfolding Meets
  next_meets p (OfNear e) exact h = h
  next_meets p (OfFar e) exact h = h
  next_meets p NearOwn exact h = near_own_meet p.near_world p.near exact p.far h
  next_meets p FarOwn exact h = far_own_meet p.far_world p.near p.far h
  next_meets p (ToFar number) exact h = to_far p number (slice_get (sent_near k.codec p.near) number) refl h
  next_meets p (ToNear number) exact h = to_near p number (slice_get (sent_far p.far) number) refl h
  next_meets p GiveUp exact h = gives_up_meet p.near p.far h

  run_meets : (p : Both) (es : List (Event E F)) → GatherExactly k p es → Meets p → Meets (run k p es)
  unfolding run
  run_meets p [] all h = h
  run_meets p (e ∷ es) all h = run_meets (next k p e) es all.1 (next_meets p e all.0 h)

  first_meets : (w : W) (v : V) → k.codec.reads [] ≡ None → Meets (first k w v)
  unfolding Meets
  first_meets w v nothing = (refl, nothing)

  gone_is : (n : NearSide) (j i : I) → IsGone j n → j ≡ i → n ≡ near.Cleared i
  gone_is (near.Cleared m) j i h e = ap (λ (x : I). near.Cleared x) (h ∙ e)
  gone_is (near.Saves s) j i h e = absurd h
  gone_is (near.Failed why) j i h e = absurd h
  gone_is (near.Waits m) j i h e = absurd h
  gone_is (near.Clears m more) j i h e = absurd h
  gone_is (near.Cancels m why) j i h e = absurd h
  gone_is (near.Cancelled m why) j i h e = absurd h

  -- both sides have one image

  abbrev Has : NearSide → I → Type 0
  Has n i = near_image n ≡ Some i

  abbrev has_image : I → Option I
  has_image i = Some i

  open_has : (n : NearSide) (i : I) → IsOpen i n → Has n i
  open_has (near.Waits j) i h = ap has_image h
  open_has (near.Cancels j why) i h = ap has_image h
  open_has (near.Cancelled j why) i h = ap has_image h
  open_has (near.Saves s) i h = absurd h
  open_has (near.Failed why) i h = absurd h
  open_has (near.Clears j more) i h = absurd h
  open_has (near.Cleared j) i h = absurd h

  any_has : (n : NearSide) (i : I) → IsAny i n → Has n i
  any_has (near.Waits j) i h = ap has_image h
  any_has (near.Cancels j why) i h = ap has_image h
  any_has (near.Cancelled j why) i h = ap has_image h
  any_has (near.Clears j more) i h = ap has_image h
  any_has (near.Cleared j) i h = ap has_image h
  any_has (near.Saves s) i h = absurd h
  any_has (near.Failed why) i h = absurd h

  gone_has : (n : NearSide) (i : I) → IsGone i n → Has n i
  gone_has (near.Cleared j) i h = ap has_image h
  gone_has (near.Waits j) i h = absurd h
  gone_has (near.Cancels j why) i h = absurd h
  gone_has (near.Cancelled j why) i h = absurd h
  gone_has (near.Saves s) i h = absurd h
  gone_has (near.Failed why) i h = absurd h
  gone_has (near.Clears j more) i h = absurd h

  kept_has : (n : NearSide) (i : I) → IsKept i n → Has n i
  kept_has (near.Cancels j why) i h = ap has_image h
  kept_has (near.Cancelled j why) i h = ap has_image h
  kept_has (near.Cleared j) i h = absurd h
  kept_has (near.Waits j) i h = absurd h
  kept_has (near.Saves s) i h = absurd h
  kept_has (near.Failed why) i h = absurd h
  kept_has (near.Clears j more) i h = absurd h

  both_have : (n : NearSide) (f : FarSide) (i : I) → Meet n f → far_image f ≡ Some i → Has n i
  both_have n (far.Makes j t) i h e = open_has n j h ∙ e
  both_have n (far.Built j) i h e = any_has n j h ∙ e
  both_have n (far.Releases j) i h e = gone_has n j h ∙ e
  both_have n (far.Moved j) i h e = gone_has n j h ∙ e
  both_have n (far.Refuses j why) i h e = open_has n j h ∙ e
  both_have n (far.Undoes j t) i h e = kept_has n j h ∙ e
  both_have n (far.Clears j more ready) i h e = kept_has n j h ∙ e
  both_have n (far.Ended (Some j) ready) i h e = kept_has n j h ∙ e
  both_have n (far.Ended None ready) i h e = cc
  both_have n (far.Listens got) i h e = cc

  pub same_image : k.codec.reads [] ≡ None → (w : W) (v : V) (es : List (Event E F)) (i : I) → GatherExactly k (first k w v) es
      → far_image (run k (first k w v) es).far ≡ Some i → near_image (run k (first k w v) es).near ≡ Some i
  unfolding Meets
  same_image nothing w v es i all e =
      both_have (run k (first k w v) es).near (run k (first k w v) es).far i (run_meets (first k w v) es all (first_meets w v nothing)) e

  let_go : (n : NearSide) (f : FarSide) (i : I) → Meet n f → is_let_go f ≡ Some i → n ≡ near.Cleared i
  let_go n (far.Releases j) i h e = gone_is n j i h (let same : j ≡ i = cc in same)
  let_go n (far.Moved j) i h e = gone_is n j i h (let same : j ≡ i = cc in same)
  let_go n (far.Listens got) i h e = cc
  let_go n (far.Makes j t) i h e = cc
  let_go n (far.Built j) i h e = cc
  let_go n (far.Refuses j why) i h e = cc
  let_go n (far.Undoes j t) i h e = cc
  let_go n (far.Clears j more ready) i h e = cc
  let_go n (far.Ended image ready) i h e = cc

  pub never_both : k.codec.reads [] ≡ None → (w : W) (v : V) (es : List (Event E F)) (i : I) → GatherExactly k (first k w v) es
      → is_let_go (run k (first k w v) es).far ≡ Some i → (run k (first k w v) es).near ≡ near.Cleared i
  unfolding Meets
  never_both nothing w v es i all e = let_go (run k (first k w v) es).near (run k (first k w v) es).far i
      (run_meets (first k w v) es all (first_meets w v nothing)) e

  -- ---- packets keep their numbers

  append_nil : {A : Type 0} (xs : List A) → xs ++ [] ≡ xs
  append_nil [] = refl
  append_nil {A} (x ∷ xs) = ap (λ (ys : List A). x ∷ ys) (append_nil xs)

  itself : {A : Type 0} (xs : List A) → Extends xs xs
  itself xs = ([], sym (append_nil xs))

  one_more : (i : I) (p : APacket) → Extends (pieces_sent k.codec i []) (pieces_sent k.codec i (p ∷ []))
  one_more i p = (p ∷ [], ap (λ (xs : List APacket). xs ++ p ∷ []) (sym (append_nil (map Piece (k.codec.pieces i)))))

  Longer : NearSide → NearSide → Type 0
  Longer n m = Extends (sent_near k.codec n) (sent_near k.codec m)

  abbrev LongerFar : FarSide → FarSide → Type 0
  LongerFar f g = Extends (sent_far f) (sent_far g)

  saved_longer : (x : Saved S I Y) (s : S) → Longer (near.Saves s) (saved_as k x)
  unfolding Longer
  saved_longer (near.Goes t) s = ([], refl)
  saved_longer (near.Gathers i) s = (pieces_sent k.codec i [], refl)
  saved_longer (near.Fails why) s = ([], refl)

  near_own_longer : (w : W) (n : NearSide) → Longer n (near_own k w n)
  unfolding Longer
  near_own_longer w (near.Saves s) = saved_longer (k.near.saved w s) s
  near_own_longer w (near.Clears i zero) = one_more i Gone
  near_own_longer w (near.Clears i (suc more)) = itself (pieces_sent k.codec i [])
  near_own_longer w (near.Cancels i why) = itself (pieces_sent k.codec i (Cancel ∷ []))
  near_own_longer w (near.Waits i) = itself (pieces_sent k.codec i [])
  near_own_longer w (near.Cleared i) = itself (pieces_sent k.codec i (Gone ∷ []))
  near_own_longer w (near.Cancelled i why) = itself (pieces_sent k.codec i (Cancel ∷ []))
  near_own_longer w (near.Failed why) = itself []

  near_told_longer : (n : NearSide) (p : APacket) → Longer n (near_told k n p)
  unfolding Longer
  near_told_longer (near.Waits i) Ready = itself (pieces_sent k.codec i [])
  near_told_longer (near.Waits i) (Refused why) = one_more i Cancel
  near_told_longer (near.Waits i) (Piece q) = itself (pieces_sent k.codec i [])
  near_told_longer (near.Waits i) Gone = itself (pieces_sent k.codec i [])
  near_told_longer (near.Waits i) Cancel = itself (pieces_sent k.codec i [])
  near_told_longer (near.Saves s) p = itself []
  near_told_longer (near.Clears i more) p = itself (pieces_sent k.codec i [])
  near_told_longer (near.Cleared i) p = itself (pieces_sent k.codec i (Gone ∷ []))
  near_told_longer (near.Cancels i why) p = itself (pieces_sent k.codec i (Cancel ∷ []))
  near_told_longer (near.Cancelled i why) p = itself (pieces_sent k.codec i (Cancel ∷ []))
  near_told_longer (near.Failed why) p = itself []

  gives_up_longer : (n : NearSide) → Longer n (gives_up k n)
  unfolding Longer
  gives_up_longer (near.Waits i) = one_more i Cancel
  gives_up_longer (near.Saves s) = itself []
  gives_up_longer (near.Clears i more) = itself (pieces_sent k.codec i [])
  gives_up_longer (near.Cleared i) = itself (pieces_sent k.codec i (Gone ∷ []))
  gives_up_longer (near.Cancels i why) = itself (pieces_sent k.codec i (Cancel ∷ []))
  gives_up_longer (near.Cancelled i why) = itself (pieces_sent k.codec i (Cancel ∷ []))
  gives_up_longer (near.Failed why) = itself []

  from_none : (g : FarSide) → Extends [] (sent_far g)
  from_none g = (sent_far g, refl)

  far_own_longer : (v : V) (f : FarSide) → LongerFar f (far_own k v f)
  far_own_longer v (far.Makes i t) = from_none (made_as k i (k.far.made v t))
  far_own_longer v (far.Undoes i t) = from_none (undone_as k i (k.far.made v t))
  far_own_longer v (far.Releases i) = itself (Ready ∷ [])
  far_own_longer v (far.Clears i zero ready) = itself (ready_sent ready)
  far_own_longer v (far.Clears i (suc more) ready) = itself (ready_sent ready)
  far_own_longer v (far.Listens got) = itself []
  far_own_longer v (far.Built i) = itself (Ready ∷ [])
  far_own_longer v (far.Moved i) = itself (Ready ∷ [])
  far_own_longer v (far.Refuses i why) = itself (Refused why ∷ [])
  far_own_longer v (far.Ended image ready) = itself (ready_sent ready)

  far_told_longer : (f : FarSide) (p : APacket) → LongerFar f (far_told k f p)
  far_told_longer (far.Listens got) p = from_none (far_told k (far.Listens got) p)
  far_told_longer (far.Makes i t) p = from_none (far_told k (far.Makes i t) p)
  far_told_longer (far.Undoes i t) p = itself []
  far_told_longer (far.Built i) (Piece q) = itself (Ready ∷ [])
  far_told_longer (far.Built i) Ready = itself (Ready ∷ [])
  far_told_longer (far.Built i) (Refused why) = itself (Ready ∷ [])
  far_told_longer (far.Built i) Gone = itself (Ready ∷ [])
  far_told_longer (far.Built i) Cancel = itself (Ready ∷ [])
  far_told_longer (far.Releases i) p = itself (Ready ∷ [])
  far_told_longer (far.Moved i) p = itself (Ready ∷ [])
  far_told_longer (far.Refuses i why) p = itself (Refused why ∷ [])
  far_told_longer (far.Clears i more ready) p = itself (ready_sent ready)
  far_told_longer (far.Ended image ready) p = itself (ready_sent ready)

  abbrev LongerBoth : Both → Both → Type 0
  LongerBoth p q = Longer p.near q.near × LongerFar p.far q.far

  near_itself : (n : NearSide) → Longer n n
  unfolding Longer
  near_itself n = itself (sent_near k.codec n)

  to_far_longer : (p : Both) (number : ℕ) (o : Option APacket) → LongerBoth p (delivered_far k p number o)
  to_far_longer p number None = (near_itself p.near, itself (sent_far p.far))
  to_far_longer p number (Some packet) = (near_itself p.near, far_told_longer p.far packet)

  to_near_longer : (p : Both) (number : ℕ) (o : Option APacket) → LongerBoth p (delivered_near k p number o)
  to_near_longer p number None = (near_itself p.near, itself (sent_far p.far))
  to_near_longer p number (Some packet) = (near_told_longer p.near packet, itself (sent_far p.far))

  next_longer : (p : Both) (e : Event E F) → LongerBoth p (next k p e)
  next_longer p (OfNear e) = (near_itself p.near, itself (sent_far p.far))
  next_longer p (OfFar e) = (near_itself p.near, itself (sent_far p.far))
  next_longer p NearOwn = (near_own_longer p.near_world p.near, itself (sent_far p.far))
  next_longer p FarOwn = (near_itself p.near, far_own_longer p.far_world p.far)
  next_longer p (ToFar number) = to_far_longer p number (slice_get (sent_near k.codec p.near) number)
  next_longer p (ToNear number) = to_near_longer p number (slice_get (sent_far p.far) number)
  next_longer p GiveUp = (gives_up_longer p.near, itself (sent_far p.far))

  run_snoc : (p : Both) (es : List (Event E F)) (e : Event E F) → run k p (es ++ e ∷ []) ≡ next k (run k p es) e
  unfolding run
  run_snoc p [] e = refl
  run_snoc p (d ∷ es) e = run_snoc (next k p d) es e

  pub sent_stays : (w : W) (v : V) (es : List (Event E F)) (e : Event E F) →
      Extends (sent_near k.codec (run k (first k w v) es).near) (sent_near k.codec (run k (first k w v) (es ++ e ∷ [])).near) ×
      Extends (sent_far (run k (first k w v) es).far) (sent_far (run k (first k w v) (es ++ e ∷ [])).far)
  unfolding Longer
  sent_stays w v es e = subst (λ (q : Both). LongerBoth (run k (first k w v) es) q) (sym (run_snoc (first k w v) es e)) (next_longer (run k (first k w v) es) e)

  -- ---- what has been delivered is known

  abbrev IsPieceAt : NearSide → ℕ → P → Type 0
  IsPieceAt n number q = slice_get (sent_near k.codec n) number ≡ Some (Piece q)

  abbrev PiecesCame : NearSide → List ℕ → (P → Type 0) → Type 0
  PiecesCame n told Q = (number : ℕ) → IsIn number told → (q : P) × IsPieceAt n number q × Q q

  abbrev NearKnows : NearSide → List ℕ → Type 0
  NearKnows (near.Saves s) told = told ≡ []
  NearKnows (near.Waits i) told = told ≡ []
  NearKnows (near.Clears i more) told = Unit {0}
  NearKnows (near.Cleared i) told = Unit {0}
  NearKnows (near.Cancels i why) told = Unit {0}
  NearKnows (near.Cancelled i why) told = Unit {0}
  NearKnows (near.Failed why) told = Unit {0}

  abbrev FarKnows : NearSide → FarSide → List ℕ → Type 0
  FarKnows n (far.Listens got) told = PiecesCame n told (λ q. IsIn q got)
  FarKnows n (far.Makes i t) told = PiecesCame n told (λ q. Unit {0})
  FarKnows n (far.Built i) told = PiecesCame n told (λ q. Unit {0})
  FarKnows n (far.Releases i) told = Unit {0}
  FarKnows n (far.Moved i) told = Unit {0}
  FarKnows n (far.Refuses i why) told = Unit {0}
  FarKnows n (far.Undoes i t) told = Unit {0}
  FarKnows n (far.Clears i more ready) told = Unit {0}
  FarKnows n (far.Ended image ready) told = Unit {0}

  came_on : (n m : NearSide) (told : List ℕ) (Q : P → Type 0) → Longer n m → PiecesCame n told Q → PiecesCame m told Q
  unfolding Longer
  came_on n m told Q longer came number is =
      let its = came number is in
      (its.0, ap (λ (ps : List APacket). slice_get ps number) longer.1 ∙ at_longer (Piece its.0) (sent_near k.codec n) longer.0 number its.1, its.2)

  knows_on : (n m : NearSide) (f : FarSide) (told : List ℕ) → Longer n m → FarKnows n f told → FarKnows m f told
  knows_on n m (far.Listens got) told longer h = came_on n m told (λ q. IsIn q got) longer h
  knows_on n m (far.Makes i t) told longer h = came_on n m told (λ q. Unit {0}) longer h
  knows_on n m (far.Built i) told longer h = came_on n m told (λ q. Unit {0}) longer h
  knows_on n m (far.Releases i) told longer h = tt
  knows_on n m (far.Moved i) told longer h = tt
  knows_on n m (far.Refuses i why) told longer h = tt
  knows_on n m (far.Undoes i t) told longer h = tt
  knows_on n m (far.Clears i more ready) told longer h = tt
  knows_on n m (far.Ended image ready) told longer h = tt

  Knows : Both → Type 0
  Knows p = NearKnows p.near p.told_near × FarKnows p.near p.far p.told_far

  saved_knows : (s : S) (x : Saved S I Y) (told : List ℕ) → NearKnows (near.Saves s) told → NearKnows (saved_as k x) told
  saved_knows s (near.Goes t) told h = h
  saved_knows s (near.Gathers i) told h = h
  saved_knows s (near.Fails why) told h = tt

  near_own_knows : (w : W) (n : NearSide) (told : List ℕ) → NearKnows n told → NearKnows (near_own k w n) told
  near_own_knows w (near.Saves s) told h = saved_knows s (k.near.saved w s) told h
  near_own_knows w (near.Clears i zero) told h = tt
  near_own_knows w (near.Clears i (suc more)) told h = tt
  near_own_knows w (near.Cancels i why) told h = tt
  near_own_knows w (near.Waits i) told h = h
  near_own_knows w (near.Cleared i) told h = tt
  near_own_knows w (near.Cancelled i why) told h = tt
  near_own_knows w (near.Failed why) told h = tt

  gives_up_knows : (n : NearSide) (told : List ℕ) → NearKnows n told → NearKnows (gives_up k n) told
  gives_up_knows (near.Waits i) told h = tt
  gives_up_knows (near.Saves s) told h = h
  gives_up_knows (near.Clears i more) told h = tt
  gives_up_knows (near.Cleared i) told h = tt
  gives_up_knows (near.Cancels i why) told h = tt
  gives_up_knows (near.Cancelled i why) told h = tt
  gives_up_knows (near.Failed why) told h = tt

  made_knows : (n : NearSide) (i : I) (t : T) (x : Made T Y) (told : List ℕ) → FarKnows n (far.Makes i t) told → FarKnows n (made_as k i x) told
  made_knows n i t (far.Goes u) told h = h
  made_knows n i t far.Builds told h = h
  made_knows n i t (far.Fails why) told h = tt

  undone_knows : (n : NearSide) (i : I) (x : Made T Y) (told : List ℕ) → FarKnows n (undone_as k i x) told
  undone_knows n i (far.Goes u) told = tt
  undone_knows n i far.Builds told = tt
  undone_knows n i (far.Fails why) told = tt

  far_own_knows : (v : V) (n : NearSide) (f : FarSide) (told : List ℕ) → FarKnows n f told → FarKnows n (far_own k v f) told
  far_own_knows v n (far.Makes i t) told h = made_knows n i t (k.far.made v t) told h
  far_own_knows v n (far.Undoes i t) told h = undone_knows n i (k.far.made v t) told
  far_own_knows v n (far.Releases i) told h = tt
  far_own_knows v n (far.Clears i zero ready) told h = tt
  far_own_knows v n (far.Clears i (suc more) ready) told h = tt
  far_own_knows v n (far.Listens got) told h = h
  far_own_knows v n (far.Built i) told h = h
  far_own_knows v n (far.Moved i) told h = tt
  far_own_knows v n (far.Refuses i why) told h = tt
  far_own_knows v n (far.Ended image ready) told h = tt

  -- whatever comes to the near side while it waits decides
  near_told_knows : (n : NearSide) (f : FarSide) (p : APacket) (number : ℕ) (told : List ℕ) → slice_get (sent_far f) number ≡ Some p → Meet n f
      → NearKnows (near_told k n p) (number ∷ told)
  near_told_knows (near.Clears i more) f p number told e h = tt
  near_told_knows (near.Cleared i) f p number told e h = tt
  near_told_knows (near.Cancels i why) f p number told e h = tt
  near_told_knows (near.Cancelled i why) f p number told e h = tt
  near_told_knows (near.Failed why) f p number told e h = tt
  near_told_knows n (far.Listens got) p number told e h = cc
  near_told_knows n (far.Makes i t) p number told e h = cc
  near_told_knows n (far.Undoes i t) p number told e h = cc
  near_told_knows (near.Saves s) (far.Built j) p number told e h = absurd h
  near_told_knows (near.Saves s) (far.Releases j) p number told e h = absurd h
  near_told_knows (near.Saves s) (far.Moved j) p number told e h = absurd h
  near_told_knows (near.Saves s) (far.Refuses j why) p number told e h = absurd h
  near_told_knows (near.Saves s) (far.Clears j more ready) p number told e h = absurd h
  near_told_knows (near.Saves s) (far.Ended image ready) p number told e h = absurd (ended_off image (near.Saves s) h)
  near_told_knows (near.Waits i) (far.Built j) p number told e h =
      subst (λ (q : APacket). NearKnows (near_told k (near.Waits i) q) (number ∷ told)) (one_sent Ready p number e) tt
  near_told_knows (near.Waits i) (far.Refuses j why) p number told e h =
      subst (λ (q : APacket). NearKnows (near_told k (near.Waits i) q) (number ∷ told)) (one_sent (Refused why) p number e) tt
  near_told_knows (near.Waits i) (far.Releases j) p number told e h = absurd h
  near_told_knows (near.Waits i) (far.Moved j) p number told e h = absurd h
  near_told_knows (near.Waits i) (far.Clears j more ready) p number told e h = absurd h
  near_told_knows (near.Waits i) (far.Ended image ready) p number told e h = absurd (ended_off image (near.Waits i) h)

  came_too : (n : NearSide) (number : ℕ) (told : List ℕ) (q : P) (Q R : P → Type 0) → IsPieceAt n number q → R q → ((r : P) → Q r → R r)
      → PiecesCame n told Q → PiecesCame n (number ∷ told) R
  came_too n number told q Q R at its weaker came m (inl same) = (q, subst (λ (x : ℕ). IsPieceAt n x q) same at, its)
  came_too n number told q Q R at its weaker came m (inr is) = let old = came m is in (old.0, old.1, weaker old.0 old.2)

  far_told_knows : (n : NearSide) (f : FarSide) (p : APacket) (number : ℕ) (told : List ℕ) → slice_get (sent_near k.codec n) number ≡ Some p → IsSent n p
      → Meet n f → FarKnows n f told → FarKnows n (far_told k f p) (number ∷ told)
  far_told_knows n (far.Releases i) p number told e sent h knows = tt
  far_told_knows n (far.Moved i) p number told e sent h knows = tt
  far_told_knows n (far.Refuses i why) p number told e sent h knows = tt
  far_told_knows n (far.Undoes i t) p number told e sent h knows = tt
  far_told_knows n (far.Clears i more ready) p number told e sent h knows = tt
  far_told_knows n (far.Ended image ready) p number told e sent h knows = tt
  far_told_knows _ (far.Listens got) _ number told e (ACancel n off) h knows = tt
  far_told_knows _ (far.Makes i t) _ number told e (ACancel n off) h knows = tt
  far_told_knows _ (far.Built i) _ number told e (ACancel n off) h knows = tt
  far_told_knows _ (far.Listens got) _ number told e (AGone i) h knows = absurd h.0
  far_told_knows _ (far.Makes j t) _ number told e (AGone i) h knows = absurd h
  far_told_knows _ (far.Built j) _ number told e (AGone i) h knows = tt
  far_told_knows _ (far.Listens got) _ number told e (APiece n i q any is) h knows = by (k.codec.reads (got ++ q ∷ []))
    where
      by : (o : Option I) → FarKnows n (listened k (got ++ q ∷ []) o) (number ∷ told)
      by None = came_too n number told q (λ r. IsIn r got) (λ r. IsIn r (got ++ q ∷ [])) e (in_last q got) (λ r is. in_before r q got is) knows
      by (Some j) = came_too n number told q (λ r. IsIn r got) (λ r. Unit {0}) e tt (λ r is. tt) knows
  far_told_knows _ (far.Makes j t) _ number told e (APiece n i q any is) h knows =
      came_too n number told q (λ r. Unit {0}) (λ r. Unit {0}) e tt (λ r x. tt) knows
  far_told_knows _ (far.Built j) _ number told e (APiece n i q any is) h knows = came_too n number told q (λ r. Unit {0}) (λ r. Unit {0}) e tt (λ r x. tt) knows

  to_far_knows : (p : Both) (number : ℕ) (o : Option APacket) → slice_get (sent_near k.codec p.near) number ≡ o → Meets p → Knows p
      → Knows (delivered_far k p number o)
  unfolding Meets Knows
  to_far_knows p number None e h knows = knows
  to_far_knows p number (Some packet) e h knows = (knows.0, far_told_knows p.near p.far packet number p.told_far e (is_sent p.near packet number e) h knows.1)

  to_near_knows : (p : Both) (number : ℕ) (o : Option APacket) → slice_get (sent_far p.far) number ≡ o → Meets p → Knows p
      → Knows (delivered_near k p number o)
  unfolding Meets Knows
  to_near_knows p number None e h knows = knows
  to_near_knows p number (Some packet) e h knows = (
    near_told_knows p.near p.far packet number p.told_near e h,
    knows_on p.near (near_told k p.near packet) p.far p.told_far (near_told_longer p.near packet) knows.1,
  )

  next_knows : (p : Both) (e : Event E F) → Meets p → Knows p → Knows (next k p e)
  unfolding Knows
  next_knows p (OfNear e) h knows = knows
  next_knows p (OfFar e) h knows = knows
  next_knows p NearOwn h knows = (
    near_own_knows p.near_world p.near p.told_near knows.0,
    knows_on p.near (near_own k p.near_world p.near) p.far p.told_far (near_own_longer p.near_world p.near) knows.1,
  )
  next_knows p FarOwn h knows = (knows.0, far_own_knows p.far_world p.near p.far p.told_far knows.1)
  next_knows p (ToFar number) h knows = to_far_knows p number (slice_get (sent_near k.codec p.near) number) refl h knows
  next_knows p (ToNear number) h knows = to_near_knows p number (slice_get (sent_far p.far) number) refl h knows
  next_knows p GiveUp h knows = (
    gives_up_knows p.near p.told_near knows.0,
    knows_on p.near (gives_up k p.near) p.far p.told_far (gives_up_longer p.near) knows.1,
  )

  run_knows : (p : Both) (es : List (Event E F)) → GatherExactly k p es → Meets p → Knows p → Knows (run k p es)
  unfolding run
  run_knows p [] all h knows = knows
  run_knows p (e ∷ es) all h knows = run_knows (next k p e) es all.1 (next_meets p e all.0 h) (next_knows p e h knows)

  -- ---- where all have come

  at_piece : (qs : List P) (rest : List APacket) (q : P) (number : ℕ) → slice_get qs number ≡ Some q → slice_get (map Piece qs ++ rest) number ≡ Some (Piece q)
  at_piece [] rest q number e = cc
  at_piece (r ∷ qs) rest q zero e = ap (λ (o : P). Some (Piece o)) (let same : r ≡ q = cc in same)
  at_piece (r ∷ qs) rest q (suc number) e = at_piece qs rest q number e

  at_end : (qs : List P) (p : APacket) → slice_get (map Piece qs ++ p ∷ []) (length qs) ≡ Some p
  at_end [] p = refl
  at_end (q ∷ qs) p = at_end qs p

  within : (ps : List APacket) (p : APacket) (number : ℕ) → slice_get ps number ≡ Some p → number < length ps
  within [] p number e = cc
  within (x ∷ ps) p zero e = omega arith
  within (x ∷ ps) p (suc number) e = let low = within ps p number e in omega (arith, low)

  some_packet : APacket → Option APacket
  some_packet p = Some p

  same_piece : (q r : P) → some_packet (Piece q) ≡ some_packet (Piece r) → q ≡ r
  unfolding some_packet
  same_piece q r e = cc

  no_gone : (r : P) → some_packet Gone ≡ some_packet (Piece r) → ⊥
  unfolding some_packet
  no_gone r e = cc

  abbrev kept : NearSide → NearSide
  kept n = n

  -- whoever waits has heard nothing of what was sent
  none_told : (told : List ℕ) (ps : List APacket) (p : APacket) → told ≡ [] → ((number : ℕ) → number < length (p ∷ ps) → IsIn number told) → ⊥
  none_told told ps p none came = let its = came 0 (omega arith) in absurd (subst (IsIn 0) none its)

  listening_over : (i : I) (got : List P) (told : List ℕ) → AreOf i got → k.codec.reads got ≡ None → PiecesCame (near.Waits i) told (λ q. IsIn q got)
      → ((number : ℕ) → number < length (sent_near k.codec (kept (near.Waits i))) → IsIn number told) → ⊥
  unfolding some_packet
  listening_over i got told are none came all = let whole = are.exact.whole got are.of got_all in let both = sym none ∙ whole in cc
    where
      got_all : (p : P) → IsIn p (k.codec.pieces i) → IsIn p got
      got_all p is =
          let place = place_of p (k.codec.pieces i) is in
          let at = at_piece (k.codec.pieces i) [] p place.0 place.2 in
          let its = came place.0 (all place.0 (within (pieces_sent k.codec i []) (Piece p) place.0 at)) in
          subst (λ (q : P). IsIn q got) (same_piece its.0 p (sym its.1 ∙ at)) its.2

  cleared_over : (i j : I) (told : List ℕ) → PiecesCame (near.Cleared i) told (λ q. Unit {0})
      → ((number : ℕ) → number < length (sent_near k.codec (kept (near.Cleared i))) → IsIn number told) → ⊥
  unfolding some_packet
  cleared_over i j told came all =
      let at = at_end (k.codec.pieces i) Gone in
      let its = came (length (k.codec.pieces i))
      (all (length (k.codec.pieces i)) (within (pieces_sent k.codec i (Gone ∷ [])) Gone (length (k.codec.pieces i)) at)) in
      no_gone its.0 (sym at ∙ its.1)

  abbrev Asks : NearSide → FarSide → Type 0
  Asks n f = (near_asks n ≡ true) ⊎ (far_asks f ≡ true)

  asks_at : (n : NearSide) (f : FarSide) (tn tf : List ℕ) → Meet n f → NearKnows n tn → FarKnows n f tf
      → ((number : ℕ) → number < length (sent_far f) → IsIn number tn) → ((number : ℕ) → number < length (sent_near k.codec n) → IsIn number tf)
      → is_over n f ≡ false → Asks n f
  asks_at (near.Saves s) f tn tf h near_knows far_knows all_near all_far over = inl refl
  asks_at (near.Clears i more) f tn tf h near_knows far_knows all_near all_far over = inl refl
  asks_at (near.Cancels i why) f tn tf h near_knows far_knows all_near all_far over = inl refl
  asks_at (near.Failed why) f tn tf h near_knows far_knows all_near all_far over = cc
  asks_at (near.Cancelled i why) f tn tf h near_knows far_knows all_near all_far over = cc
  asks_at (near.Waits i) (far.Listens got) tn tf h near_knows far_knows all_near all_far over = absurd (listening_over i got tf h.0 h.1 far_knows all_far)
  asks_at (near.Waits i) (far.Makes j t) tn tf h near_knows far_knows all_near all_far over = inr refl
  asks_at (near.Waits i) (far.Built j) tn tf h near_knows far_knows all_near all_far over = absurd (none_told tn [] Ready near_knows all_near)
  asks_at (near.Waits i) (far.Refuses j why) tn tf h near_knows far_knows all_near all_far over = absurd (none_told tn [] (Refused why) near_knows all_near)
  asks_at (near.Waits i) (far.Releases j) tn tf h near_knows far_knows all_near all_far over = absurd h
  asks_at (near.Waits i) (far.Moved j) tn tf h near_knows far_knows all_near all_far over = absurd h
  asks_at (near.Waits i) (far.Undoes j t) tn tf h near_knows far_knows all_near all_far over = absurd h
  asks_at (near.Waits i) (far.Clears j more ready) tn tf h near_knows far_knows all_near all_far over = absurd h
  asks_at (near.Waits i) (far.Ended image ready) tn tf h near_knows far_knows all_near all_far over = absurd (ended_off image (near.Waits i) h)
  asks_at (near.Cleared i) (far.Listens got) tn tf h near_knows far_knows all_near all_far over = absurd h.0
  asks_at (near.Cleared i) (far.Makes j t) tn tf h near_knows far_knows all_near all_far over = absurd h
  asks_at (near.Cleared i) (far.Built j) tn tf h near_knows far_knows all_near all_far over = absurd (cleared_over i j tf far_knows all_far)
  asks_at (near.Cleared i) (far.Refuses j why) tn tf h near_knows far_knows all_near all_far over = absurd h
  asks_at (near.Cleared i) (far.Releases j) tn tf h near_knows far_knows all_near all_far over = inr refl
  asks_at (near.Cleared i) (far.Moved j) tn tf h near_knows far_knows all_near all_far over = cc
  asks_at (near.Cleared i) (far.Undoes j t) tn tf h near_knows far_knows all_near all_far over = absurd h
  asks_at (near.Cleared i) (far.Clears j more ready) tn tf h near_knows far_knows all_near all_far over = absurd h
  asks_at (near.Cleared i) (far.Ended image ready) tn tf h near_knows far_knows all_near all_far over =
      absurd (ended_off image (near.Cleared i) h)

  first_knows : (w : W) (v : V) → Knows (first k w v)
  unfolding Knows
  first_knows w v = (refl, λ number is. absurd is)

  pub goes_on_so : k.codec.reads [] ≡ None → (w : W) (v : V) (es : List (Event E F)) → GatherExactly k (first k w v) es → AllCame k (run k (first k w v) es)
      → is_over (run k (first k w v) es).near (run k (first k w v) es).far ≡ false →
      (near_asks (run k (first k w v) es).near ≡ true) ⊎ (far_asks (run k (first k w v) es).far ≡ true)
  unfolding Meets Knows
  goes_on_so nothing w v es exactly all over =
      let p = run k (first k w v) es in
      let meets = run_meets (first k w v) es exactly (first_meets w v nothing) in
      let knows = run_knows (first k w v) es exactly (first_meets w v nothing) (first_knows w v) in
      asks_at p.near p.far p.told_near p.told_far meets knows.0 knows.1 all.near all.far over
