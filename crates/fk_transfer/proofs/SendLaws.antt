-- Sends: who is where, so that both ends can be advanced.
use Rattle.std.proofs.Common.{◌≡◌, ℕ, ◌+◌, ◌<◌, ◌≤◌, ◌^◌, Bool, true, false, cond, List, [], ◌∷◌, Option, Some, None, option_map, IfSome, Ok, ◌==◌, refl, sym, ap, subst, ◌∙◌, arith}
use Rattle.std.proofs.lemmas.Bool.Decides.{nat_tests}
use Rattle.fk_model.specs.declared.stage.Stage.{Stage}
use Rattle.fk_model.specs.declared.stage.Stage.TheVariants.{ClientReceive, ServerReceive, ClientReceiveRef, ServerReceiveRef}
use Rattle.fk_model.specs.declared.thread.Turn.{Turn}
use Rattle.fk_model.specs.declared.thread.Turn.TheVariants as turns
use Rattle.fk_model.specs.Objects.{Mode, Thread, Body, thread_of, and_then}
use Rattle.fk_model.specs.Objects.Body.{Mutex, Cond, Mapping, Region, Port, Portset, Space, Thread_of, Reference}
use Rattle.fk_model.specs.Objects.Mode.{Running, Calling, Halted, Native}
use Rattle.fk_model.specs.Objects.Peer.{Server, Service}
use Rattle.fk_model.specs.Outcomes.{Caller, Outcome, path_of}
use Rattle.fk_model.specs.Places.{Path, same_path, parent}
use Rattle.fk_model.specs.Places.Ptr.{At}
use Rattle.fk_model.specs.Reach.{reach_word, words_at}
use Rattle.fk_model.specs.Reach.Reach.{Home}
use Rattle.fk_model.specs.Searches.{thread_at}
use Rattle.fk_model.specs.Talks as talks
use Rattle.fk_model.specs.Talks.{other_side, receive_on, receiving, first_stage, awaited, is_handled, is_service_free}
use Rattle.fk_model.specs.TransferRows.{in_turn, send, sends_into, sends_to_service, sends_to_thread}
use Rattle.fk_model.specs.World.{World, Edit, apply, edited}
use Rattle.fk_model.specs.World.Change.{Alter, PutPage}
use Rattle.fk_model.specs.World.Edit.{CountMoved, Shift}
use Rattle.fk_store.specs.Store.Threads.{todo_of_mode, todo_of_thread, todo_at, is_free_at}
use Rattle.fk_store.proofs.InStore.finding.Walks.{same_path_true}
use Rattle.fk_plans.specs.declared.plans.plan.Moving.{Moving}
use Rattle.fk_changes.specs.Threads.Shifted.{address_of, IsLow}
use Rattle.fk_transfer.specs.Lines.{sending, AreEnds, IsFirst, IsSender}
use Rattle.fk_transfer.proofs.Passed.{own_client}

-- ---- who is at a Send or a Receive has no higher address

pub sends_low : (side : Turn) (address count : ℕ) (todo : List Stage) → IsFirst (sending side address count) todo → address_of todo ≤ address
sends_low side address count [] first = omega arith
sends_low side address count (stage ∷ later) first = by side first
  where
    by : (side : Turn) → stage ≡ sending side address count → address_of (stage ∷ later) ≤ address
    by turns.Client is = rw is (omega arith)
    by turns.Server is = rw is (omega arith)

abbrev first_or : Option (ℕ × ℕ) → ℕ
first_or None = 0
first_or (Some p) = p.0

-- at a Receive on this side, whatever its handle
abbrev awaiting : Turn → Mode → Option (ℕ × ℕ)
awaiting side m = and_then (receive_on side) (first_stage m)

pub received : (w : World) (space : Path) (side : Turn) (m : Mode) (r : ℕ × ℕ) → Some r ≡ receiving w space side m → Some r ≡ awaiting side m
received w space side m r h = by (is_handled w space (awaited m)) h
  where
    by : (b : Bool) → Some r ≡ cond b (awaiting side m) None → Some r ≡ awaiting side m
    by true h = h
    by false h = absurd (cc)

receives_low : (side : Turn) (m : Mode) (into room : ℕ) → Some (into, room) ≡ awaiting side m → address_of (todo_of_mode m) ≤ into
receives_low side (Running g) into room is = absurd (cc)
receives_low side (Calling [] rest) into room is = absurd (cc)
receives_low turns.Client (Calling (ClientReceive i r ∷ todo) rest) into room is = let same : into ≡ i = ap first_or is in omega arith
receives_low turns.Server (Calling (ServerReceive i r ∷ todo) rest) into room is = let same : into ≡ i = ap first_or is in omega arith
receives_low turns.Client (Calling (ClientReceiveRef i r reference ∷ todo) rest) into room is = let same : into ≡ i = ap first_or is in omega arith
receives_low turns.Server (Calling (ServerReceiveRef i r reference ∷ todo) rest) into room is = let same : into ≡ i = ap first_or is in omega arith
receives_low side (Calling (stage ∷ todo) rest) into room is = absurd (cc)
receives_low side (Halted g code) into room is = absurd (cc)
receives_low side (Native g) into room is = absurd (cc)

-- nobody does both
no_sender : (side : Turn) (m : Mode) (address count into room : ℕ) →
    IsFirst (sending side address count) (todo_of_mode m) → Some (into, room) ≡ awaiting (other_side side) m → ⊥
no_sender side (Running g) address count into room first is = absurd (cc)
no_sender side (Calling [] rest) address count into room first is = absurd (cc)
no_sender side (Calling (stage ∷ later) rest) address count into room first is = by side first is
  where
    by : (side : Turn) → stage ≡ sending side address count → Some (into, room) ≡ receive_on (other_side side) stage → ⊥
    by turns.Client first is = let bad = subst (λ s. Some (into, room) ≡ receive_on turns.Server s) first is in absurd (cc)
    by turns.Server first is = let bad = subst (λ s. Some (into, room) ≡ receive_on turns.Client s) first is in absurd (cc)
no_sender side (Halted g code) address count into room first is = absurd (cc)
no_sender side (Native g) address count into room first is = absurd (cc)

apart : (w : World) (me you : Path) (side : Turn) (address count into room : ℕ) (t : Thread) → IsSender w me side address count →
    Some t ≡ thread_at w you → Some (into, room) ≡ awaiting (other_side side) t.mode → same_path me you ≡ false
unfolding todo_at
apart w me you side address count into room t sends there is = by (same_path me you) refl
  where
    by : (b : Bool) → same_path me you ≡ b → b ≡ false
    by false e = refl
    by true e =
        let here = subst (λ x. IsFirst (sending side address count) (todo_of_thread (thread_at w x))) (same_path_true me you e) sends in
        let at = subst (λ o. IsFirst (sending side address count) (todo_of_thread o)) (sym there) here in
        absurd (no_sender side t.mode address count into room at is)

ends : (w : World) (me you : Path) (side : Turn) (address count into room : ℕ) (t : Thread) → IsSender w me side address count →
    Some t ≡ thread_at w you → Some (into, room) ≡ awaiting (other_side side) t.mode → AreEnds w me you address into
unfolding todo_at
ends w me you side address count into room t sends there is = record {
  apart = apart w me you side address count into room t sends there is;
  sends = sends_low side address count (todo_at w me) sends;
  receives = subst (λ o. address_of (todo_of_thread o) ≤ into) there (receives_low (other_side side) t.mode into room is);
}

pub ends_if : (w : World) (me you : Path) (side : Turn) (address count : ℕ) (t : Thread) (receive : Option (ℕ × ℕ)) → IsSender w me side address count →
    Some t ≡ thread_at w you → receive ≡ receiving w (parent you) (other_side side) t.mode → IfSome receive (λ r. AreEnds w me you address r.0)
ends_if w me you side address count t None sends there is = tt
ends_if w me you side address count t (Some r) sends there is = ends w me you side address count r.0 r.1 t sends there (received w (parent you) (other_side side) t.mode r is)

-- it is free and at this, so the row goes on
pub to_thread : (w : World) (c : Caller) (side : Turn) (client you : Path)
    (address count : ℕ) (page : List ℕ) (t : Thread) (receive : Option (ℕ × ℕ)) (o : Outcome) →
    Some t ≡ thread_at w you → is_free_at w you ≡ true → receive ≡ receiving w (parent you) (other_side side) t.mode →
    o ≡ sends_into w c client you address count page receive → o ≡ sends_to_thread w c side client address count page (talks.thread_led_to w (At you))
unfolding is_free_at
to_thread w c side client you address count page t receive o there free is goes = let here = rw (← there) at free in rw (← there, here, ← is) goes

-- the row of a Send where the sender's page is there and a thread is at the other end
pub send_goes : (w : World) (c : Caller) (side : Turn) (address count page : ℕ) (l : talks.Line) (you s : Path) →
    Ok l ≡ in_turn w (path_of c) side side → l.other ≡ Server (At you) → (count == 0) ≡ false → Home s page ≡ reach_word w c.space address false →
    sends_to_thread w c side l.client address count (words_at w s page) (talks.thread_led_to w (At you)) ≡ send w c side address count
unfolding send
send_goes w c side address count page l you s line other some home = rw (← line, some, ← home, other) refl

-- the row of a Send to a native server
pub send_tells : (w : World) (c : Caller) (address count page : ℕ) (l : talks.Line) (s : Path) →
    Ok l ≡ in_turn w (path_of c) turns.Client turns.Client → l.other ≡ Service → (count == 0) ≡ false → Home s page ≡ reach_word w c.space address false →
    is_service_free w l.talk.port ≡ true →
    sends_to_service c (path_of c) l.talk.port address count (words_at w s page) ≡ send w c turns.Client address count
unfolding send
send_tells w c address count page l s line other some home free =
    ap (λ (client : Path). sends_to_service c client l.talk.port address count (words_at w s page)) (sym (own_client w (path_of c) l line))
    ∙ rw (← line, some, ← home, other, free) refl

pub some_words : (count : ℕ) → (count ≡ 0 → ⊥) → (count == 0) ≡ false
some_words count some = grind (arith, nat_tests, some)

pub if_moving : {P Q : Moving → Type 0} → (o : Option Moving) → ((m : Moving) → P m → Q m) → IfSome o P → IfSome o Q
if_moving None f h = tt
if_moving (Some m) f h = f m h

-- ---- what is left as it is before each is advanced

pub todo_counted : (w : World) (x y : Path) (k : ℕ) → todo_at (apply (Alter y (CountMoved k)) w) x ≡ todo_at w x
unfolding todo_at apply edited
todo_counted w x y k = by (same_path x y) (w.body x)
  where
    by : (t : Bool) (b : Option Body) →
        todo_of_thread (and_then thread_of (cond t (option_map (edited (CountMoved k)) b) b)) ≡ todo_of_thread (and_then thread_of b)
    by false b = refl
    by true None = refl
    by true (Some (Mutex old)) = refl
    by true (Some Cond) = refl
    by true (Some (Mapping window)) = refl
    by true (Some (Region extent)) = refl
    by true (Some (Port set served)) = refl
    by true (Some Portset) = refl
    by true (Some (Space birth holder)) = refl
    by true (Some (Thread_of thread)) = refl
    by true (Some (Reference old)) = refl

pub todo_paged : (w : World) (x s : Path) (page : ℕ) (words : List ℕ) → todo_at (apply (PutPage s page words) w) x ≡ todo_at w x
unfolding todo_at apply
todo_paged w x s page words = refl

todo_elsewhere : (w : World) (x y : Path) (e : Edit) → same_path x y ≡ false → todo_at (apply (Alter y e) w) x ≡ todo_at w x
unfolding todo_at apply
todo_elsewhere w x y e other = ap (λ b. todo_of_thread (and_then thread_of (cond b (option_map (edited e) (w.body x)) (w.body x)))) other

-- so both can be advanced in the worlds that the earlier changes make
pub both_low : (w : World) (me you client s : Path) (page : ℕ) (words : List ℕ) (address into k : ℕ) →
    AreEnds w me you address into → into + k < 2 ^ 64 → address + k < 2 ^ 64 →
    let counted = apply (Alter client (CountMoved k)) (apply (PutPage s page words) w) in
    IsLow counted you k × IsLow (apply (Alter you (Shift k)) counted) me k
both_low w me you client s page words address into k ends into_low address_low =
    let paged = apply (PutPage s page words) w in
    let counted = apply (Alter client (CountMoved k)) paged in
    let yours : todo_at counted you ≡ todo_at w you = todo_counted paged you client k ∙ todo_paged w you s page words in
    let mine : todo_at (apply (Alter you (Shift k)) counted) me ≡ todo_at w me =
    todo_elsewhere counted me you (Shift k) ends.apart ∙ todo_counted paged me client k ∙ todo_paged w me s page words in
    let receives = ends.receives in
    let sends = ends.sends in
    (rw yours (omega arith), rw mine (omega arith))

-- the sender alone is advanced where a native server is told
pub own_low : (w : World) (me client : Path) (side : Turn) (address count k : ℕ) →
    IsSender w me side address count → address + k < 2 ^ 64 → IsLow (apply (Alter client (CountMoved k)) w) me k
own_low w me client side address count k sends low =
    let least : address_of (todo_at w me) ≤ address = sends_low side address count (todo_at w me) sends in
    rw (todo_counted w me client k) (omega arith)
