-- Places: the places that the walk judges are those where pointers and sets stand, in the order of their offsets.
use Rattle.std.proofs.Common.{◌≡◌, ℕ, suc, ◌+◌, ◌≤◌, ◌⊎◌, inl, inr, List, [], ◌∷◌, ◌++◌, length, Option, Some, None}
use Rattle.std.proofs.Common.{refl, sym, ap, subst, ◌∙◌, arith, append_assoc}
use Rattle.std.specs.List.{sum_by}
use Rattle.std.proofs.lemmas.List.{length-append}
use Rattle.std.proofs.lemmas.List.Sums.{sum_by-cons, sum_by_push}
use Rattle.fk_image.specs.declared.image.image.Link.{Link}
use Rattle.fk_image.specs.declared.image.image.Link.TheVariants.{Null, Dead, In, Out, Root, Outside}
use Rattle.fk_image.specs.declared.image.image.TalkRec.{TalkRec}
use Rattle.fk_image.specs.declared.image.image.FaultRec.{FaultRec}
use Rattle.fk_image.specs.declared.image.image.ThreadRec.{ThreadRec}
use Rattle.fk_image.specs.declared.image.image.Rec.{Rec}
use Rattle.fk_image.specs.declared.image.image.Rec.TheVariants.{Mutex, Cond, Portset, Mapping, Region, Port, Thread, Reference}
use Rattle.fk_image.specs.declared.image.image.ObjectRec.{ObjectRec}
use Rattle.fk_image.specs.declared.image.image.SpaceRec.{SpaceRec}
use Rattle.fk_image.specs.Form.Holding.{PointerField}
use Rattle.fk_image.specs.Form.Holding.PointerField.{Holder, MappedRegion, Keeper, Target, AtPort, Server}
use Rattle.fk_image.specs.Form.Standing.{link_size, talk_size, taker_size, fault_size, talk_begins, fault_begins, body_size, object_size, objects_begin}
use Rattle.fk_image.specs.Form.Standing.{space_size}
use Rattle.fk_image.specs.Form.Standing.{SpaceAt, ObjectAt, HasPointer}
use Rattle.fk_image.specs.Form.Standing.HasPointer.{OfMapping, OfRegion, OfReference, TalkPort, TalkServer, FaultPort, FaultTaker}
use Rattle.laws_image_faults.proofs.Events.{What, Event, event, talk_events, taker_events, fault_events, body_events, objects_events, space_events}
use Rattle.laws_image_faults.proofs.Events.{spaces_events}
use Rattle.laws_image_faults.proofs.Events.What.{Points, Sets}
use Rattle.laws_image_faults.proofs.Judged.{Among, among-first, among-behind, among-cons, among-none, among-append, Rises, rises-append}
use Rattle.laws_image_faults.proofs.Judged.Among.{Here, Later}

-- ---- what stands at an event

-- so many bytes behind the beginning of an object
pub data StandsIn (objects : List ObjectRec) (b : Rec) : ℕ → What → Type 0 where
  InPointer : (behind : ℕ) (f : PointerField) (to : Link) → HasPointer b behind f to → StandsIn objects b behind (Points f to)
  InSet : (set : ℕ) → b ≡ Port set → StandsIn objects b 2 (Sets objects set)

pub data Stands (spaces : List SpaceRec) : ℕ → What → Type 0 where
  OfHolder : (start number : ℕ) (s : SpaceRec) → SpaceAt spaces start number s → Stands spaces (start + 5) (Points (Holder number) s.holder)
  OfBody : (start behind : ℕ) (s : SpaceRec) (o : ObjectRec) (what : What) → ObjectAt spaces start s o → StandsIn s.objects o.body behind what
      → Stands spaces (start + behind) what

-- ---- from events

abbrev StandsFrom : List ObjectRec → Rec → ℕ → Event → Type 0
StandsFrom objects b at e = (behind : ℕ) × (e.at ≡ at + behind) × StandsIn objects b behind e.what

one-event : (objects : List ObjectRec) (b : Rec) (at behind : ℕ) (what : What) (e : Event) → StandsIn objects b behind what
    → Among e (event (at + behind) what ∷ []) → StandsFrom objects b at e
one-event objects b at behind what e stands m = by (among-cons e (event (at + behind) what) [] (event (at + behind) what ∷ []) refl m)
  where
    by : (e ≡ event (at + behind) what) ⊎ Among e [] → StandsFrom objects b at e
    by (inl is) = (behind, ap (λ (e : Event). e.at) is, subst (StandsIn objects b behind) (sym (ap (λ (e : Event). e.what) is)) stands)
    by (inr n) = absurd (among-none e [] refl n)

two-events : (objects : List ObjectRec) (b : Rec) (at : ℕ) (f : Event) (es : List Event) (e : Event) → StandsFrom objects b at f
    → (Among e es → StandsFrom objects b at e) → Among e (f ∷ es) → StandsFrom objects b at e
two-events objects b at f es e first rest m = by (among-cons e f es (f ∷ es) refl m)
  where
    by : (e ≡ f) ⊎ Among e es → StandsFrom objects b at e
    by (inl is) = subst (StandsFrom objects b at) (sym is) first
    by (inr n) = rest n

module _ (objects : List ObjectRec) (t : ThreadRec) (at : ℕ) (e : Event) where
  talk-stands : (o : Option TalkRec) → t.talk ≡ o → Among e (talk_events o (at + talk_begins)) → StandsFrom objects (Thread t) at e
  talk-stands None is m = absurd (among-none e [] refl m)
  talk-stands (Some talk) is m =
      let second = at + talk_begins + 3 + link_size talk.port in
      two-events objects (Thread t) at (event (at + talk_begins + 3) (Points AtPort talk.port)) (event second (Points (Server talk.port) talk.server) ∷ []) e
      (talk_begins + 3, omega arith, InPointer (talk_begins + 3) AtPort talk.port (TalkPort t talk is))
      (λ n. two-events objects (Thread t) at (event second (Points (Server talk.port) talk.server)) [] e (
        talk_begins + 3 + link_size talk.port,
        omega arith,
        InPointer (talk_begins + 3 + link_size talk.port) (Server talk.port) talk.server (TalkServer t talk is),
      )
      (λ none. absurd (among-none e [] refl none)) n) m

  taker-stands : (fault : FaultRec) → t.fault ≡ Some fault → (o : Option Link) → fault.taker ≡ o
      → Among e (taker_events fault.port o (at + fault_begins t + 3 + link_size fault.port)) → StandsFrom objects (Thread t) at e
  taker-stands fault is None took m = absurd (among-none e [] refl m)
  taker-stands fault is (Some taker) took m =
      two-events objects (Thread t) at (event (at + fault_begins t + 3 + link_size fault.port) (Points (Server fault.port) taker)) [] e (
        fault_begins t + 3 + link_size fault.port,
        omega arith,
        InPointer (fault_begins t + 3 + link_size fault.port) (Server fault.port) taker (FaultTaker t fault taker is took),
      )
      (λ none. absurd (among-none e [] refl none)) m

  fault-stands : (o : Option FaultRec) → t.fault ≡ o → Among e (fault_events o (at + fault_begins t)) → StandsFrom objects (Thread t) at e
  fault-stands None is m = absurd (among-none e [] refl m)
  fault-stands (Some fault) is m =
      two-events objects (Thread t) at (event (at + fault_begins t + 3) (Points AtPort fault.port))
      (taker_events fault.port fault.taker (at + fault_begins t + 3 + link_size fault.port)) e
      (fault_begins t + 3, omega arith, InPointer (fault_begins t + 3) AtPort fault.port (FaultPort t fault is))
      (λ n. taker-stands fault is fault.taker refl n) m

  thread-stands : Among e (talk_events t.talk (at + talk_begins) ++ fault_events t.fault (at + fault_begins t)) → StandsFrom objects (Thread t) at e
  thread-stands m = by (among-append e (talk_events t.talk (at + talk_begins)) (fault_events t.fault (at + fault_begins t)) m)
    where
      by : Among e (talk_events t.talk (at + talk_begins)) ⊎ Among e (fault_events t.fault (at + fault_begins t)) → StandsFrom objects (Thread t) at e
      by (inl n) = talk-stands t.talk refl n
      by (inr n) = fault-stands t.fault refl n

body-stands : (objects : List ObjectRec) (b : Rec) (at : ℕ) (e : Event) → Among e (body_events objects b at) → StandsFrom objects b at e
body-stands objects (Mutex locked) at e m = absurd (among-none e [] refl m)
body-stands objects Cond at e m = absurd (among-none e [] refl m)
body-stands objects Portset at e m = absurd (among-none e [] refl m)
body-stands objects (Mapping first count offset write region) at e m =
    one-event objects (Mapping first count offset write region) at 7 (Points MappedRegion region) e
    (InPointer 7 MappedRegion region (OfMapping first count offset write region)) m
body-stands objects (Region first count write keeper) at e m =
    one-event objects (Region first count write keeper) at 6 (Points Keeper keeper) e (InPointer 6 Keeper keeper (OfRegion first count write keeper)) m
body-stands objects (Port set) at e m = one-event objects (Port set) at 2 (Sets objects set) e (InSet set refl) m
body-stands objects (Thread t) at e m = thread-stands objects t at e m
body-stands objects (Reference to) at e m = one-event objects (Reference to) at 2 (Points Target to) e (InPointer 2 Target to (OfReference to)) m

module _ (spaces : List SpaceRec) (e : Event) where
  objects-stand : (s : SpaceRec) (start number : ℕ) → SpaceAt spaces start number s → (os before : List ObjectRec) (at : ℕ) → s.objects ≡ before ++ os
      → at ≡ start + objects_begin s + sum_by object_size before → Among e (objects_events s.objects os at) → Stands spaces e.at e.what
  objects-stand s start number there [] before at listed begins m = absurd (among-none e [] refl m)
  objects-stand s start number there (o ∷ os) before at listed begins m =
      by (λ n. objects-stand s start number there os (before ++ o ∷ []) (at + object_size o) (listed ∙ sym (append_assoc before (o ∷ []) os))
      (let sum = sum_by_push object_size before o in omega (arith, begins, sum)) n)
      (among-append e (body_events s.objects o.body at) (objects_events s.objects os (at + object_size o)) m)
    where
      here : StandsFrom s.objects o.body at e → Stands spaces e.at e.what
      here h = subst (λ at. Stands spaces at e.what) (sym h.1) (OfBody at h.0 s o e.what
          (record { start = start; number = number; space = there; before = before; after = os; listed = listed; begins = begins }) h.2)

      by : (Among e (objects_events s.objects os (at + object_size o)) → Stands spaces e.at e.what)
          → Among e (body_events s.objects o.body at) ⊎ Among e (objects_events s.objects os (at + object_size o)) → Stands spaces e.at e.what
      by more (inl n) = here (body-stands s.objects o.body at e n)
      by more (inr n) = more n

  space-stands : (n : ℕ) (s : SpaceRec) (at : ℕ) → SpaceAt spaces at n s → Among e (space_events n s at) → Stands spaces e.at e.what
  space-stands n s at there m = by (among-cons e holder rest (holder ∷ rest) refl m)
    where
      holder : Event
      holder = event (at + 5) (Points (Holder n) s.holder)

      rest : List Event
      rest = objects_events s.objects s.objects (at + objects_begin s)

      by : (e ≡ event (at + 5) (Points (Holder n) s.holder)) ⊎ Among e (objects_events s.objects s.objects (at + objects_begin s)) → Stands spaces e.at e.what
      by (inl is) = subst (λ (e : Event). Stands spaces e.at e.what) (sym is) (OfHolder at n s there)
      by (inr h) = objects-stand s at n there s.objects [] (at + objects_begin s) refl (omega arith) h

  spaces-stand : (ss before : List SpaceRec) (n at : ℕ) → spaces ≡ before ++ ss → length before ≡ n → at ≡ 14 + sum_by space_size before
      → Among e (spaces_events n ss at) → Stands spaces e.at e.what
  spaces-stand [] before n at listed counted begins m = absurd (among-none e [] refl m)
  spaces-stand (s ∷ ss) before n at listed counted begins m =
      by (λ h. spaces-stand ss (before ++ s ∷ []) (n + 1) (at + space_size s) (listed ∙ sym (append_assoc before (s ∷ []) ss))
      (let long = length-append before (s ∷ []) in omega (arith, long, counted)) (let sum = sum_by_push space_size before s in omega (arith, begins, sum)) h)
      (among-append e (space_events n s at) (spaces_events (n + 1) ss (at + space_size s)) m)
    where
      by : (Among e (spaces_events (n + 1) ss (at + space_size s)) → Stands spaces e.at e.what)
          → Among e (space_events n s at) ⊎ Among e (spaces_events (n + 1) ss (at + space_size s)) → Stands spaces e.at e.what
      by more (inl h) = space-stands n s at (record { before = before; after = ss; listed = listed; counted = counted; begins = begins }) h
      by more (inr h) = more h

  pub event-stands : Among e (spaces_events 0 spaces 14) → Stands spaces e.at e.what
  event-stands m = spaces-stand spaces [] 0 14 refl refl refl m

-- ---- to events

abbrev shifted : (what : What) (a b : ℕ) (es : List Event) → a ≡ b → Among (event a what) es → Among (event b what) es
shifted what a b es same m = subst (λ at. Among (event at what) es) same m

talk-among : (o : Option TalkRec) (talk : TalkRec) (at : ℕ) → o ≡ Some talk →
    Among (event (at + 3) (Points AtPort talk.port)) (talk_events o at)
    × Among (event (at + 3 + link_size talk.port) (Points (Server talk.port) talk.server)) (talk_events o at)
talk-among None talk at is = absurd cc
talk-among (Some other) talk at is =
    let same : other ≡ talk = one other talk is in
    subst (λ (o : TalkRec). Among (event (at + 3) (Points AtPort o.port)) (talk_events (Some other) at)
    × Among (event (at + 3 + link_size o.port) (Points (Server o.port) o.server)) (talk_events (Some other) at)) same (Here _, Later _ _ (Here _))
  where
    one : (a b : TalkRec) → Some a ≡ Some b → a ≡ b
    one a b is = cc

taker-among : (port : Link) (o : Option Link) (taker : Link) (at : ℕ) → o ≡ Some taker → Among (event at (Points (Server port) taker)) (taker_events port o at)
taker-among port None taker at is = absurd cc
taker-among port (Some other) taker at is =
    subst (λ l. Among (event at (Points (Server port) l)) (taker_events port (Some other) at)) (one other taker is) (Here [])
  where
    one : (a b : Link) → Some a ≡ Some b → a ≡ b
    one a b is = cc

fault-among : (o : Option FaultRec) (fault : FaultRec) (at : ℕ) → o ≡ Some fault →
    Among (event (at + 3) (Points AtPort fault.port)) (fault_events o at)
    × ((taker : Link) → fault.taker ≡ Some taker → Among (event (at + 3 + link_size fault.port) (Points (Server fault.port) taker)) (fault_events o at))
fault-among None fault at is = absurd cc
fault-among (Some other) fault at is =
    let same : other ≡ fault = one other fault is in
    subst (λ (o : FaultRec). Among (event (at + 3) (Points AtPort o.port)) (fault_events (Some other) at)
    × ((taker : Link) → o.taker ≡ Some taker → Among (event (at + 3 + link_size o.port) (Points (Server o.port) taker)) (fault_events (Some other) at))) same
    (Here _, λ taker took. Later _ _ (taker-among other.port other.taker taker (at + 3 + link_size other.port) took))
  where
    one : (a b : FaultRec) → Some a ≡ Some b → a ≡ b
    one a b is = cc

pointer-among : (objects : List ObjectRec) (b : Rec) (behind : ℕ) (f : PointerField) (to : Link) (at : ℕ) → HasPointer b behind f to
    → Among (event (at + behind) (Points f to)) (body_events objects b at)
pointer-among objects _ _ _ _ at (OfMapping first count offset write region) = Here []
pointer-among objects _ _ _ _ at (OfRegion first count write keeper) = Here []
pointer-among objects _ _ _ _ at (OfReference to) = Here []
pointer-among objects _ _ _ _ at (TalkPort t talk is) =
    let es = talk_events t.talk (at + talk_begins) in
    shifted (Points AtPort talk.port) (at + talk_begins + 3) (at + (talk_begins + 3)) (es ++ fault_events t.fault (at + fault_begins t)) (omega arith)
    (among-first _ es (fault_events t.fault (at + fault_begins t)) (talk-among t.talk talk (at + talk_begins) is).0)
pointer-among objects _ _ _ _ at (TalkServer t talk is) =
    let es = talk_events t.talk (at + talk_begins) in
    shifted (Points (Server talk.port) talk.server) (at + talk_begins + 3 + link_size talk.port) (at + (talk_begins + 3 + link_size talk.port))
    (es ++ fault_events t.fault (at + fault_begins t)) (omega arith)
    (among-first _ es (fault_events t.fault (at + fault_begins t)) (talk-among t.talk talk (at + talk_begins) is).1)
pointer-among objects _ _ _ _ at (FaultPort t fault is) =
    let es = talk_events t.talk (at + talk_begins) in
    shifted (Points AtPort fault.port) (at + fault_begins t + 3) (at + (fault_begins t + 3)) (es ++ fault_events t.fault (at + fault_begins t)) (omega arith)
    (among-behind _ es (fault_events t.fault (at + fault_begins t)) (fault-among t.fault fault (at + fault_begins t) is).0)
pointer-among objects _ _ _ _ at (FaultTaker t fault taker is took) =
    let es = talk_events t.talk (at + talk_begins) in
    shifted (Points (Server fault.port) taker) (at + fault_begins t + 3 + link_size fault.port) (at + (fault_begins t + 3 + link_size fault.port))
    (es ++ fault_events t.fault (at + fault_begins t)) (omega arith)
    (among-behind _ es (fault_events t.fault (at + fault_begins t)) ((fault-among t.fault fault (at + fault_begins t) is).1 taker took))

body-among : (objects : List ObjectRec) (b : Rec) (behind : ℕ) (what : What) (at : ℕ) → StandsIn objects b behind what
    → Among (event (at + behind) what) (body_events objects b at)
body-among objects b _ _ at (InPointer behind f to has) = pointer-among objects b behind f to at has
body-among objects b _ _ at (InSet set is) = subst (λ b. Among (event (at + 2) (Sets objects set)) (body_events objects b at)) (sym is) (Here [])

objects-among : (all before : List ObjectRec) (o : ObjectRec) (after : List ObjectRec) (at : ℕ) (e : Event)
    → Among e (body_events all o.body (at + sum_by object_size before)) → Among e (objects_events all (before ++ (o ∷ after)) at)
objects-among all [] o after at e m =
    let same : at + 0 ≡ at = omega arith in
    among-first e (body_events all o.body at) (objects_events all after (at + object_size o)) (subst (λ at. Among e (body_events all o.body at)) same m)
objects-among all (p ∷ before) o after at e m =
    let sum = sum_by-cons object_size p before in
    let same : at + sum_by object_size (p ∷ before) ≡ at + object_size p + sum_by object_size before = omega (arith, sum) in
    among-behind e (body_events all p.body at) (objects_events all (before ++ (o ∷ after)) (at + object_size p))
    (objects-among all before o after (at + object_size p) e (subst (λ at. Among e (body_events all o.body at)) same m))

spaces-among : (before : List SpaceRec) (s : SpaceRec) (after : List SpaceRec) (n at : ℕ) (e : Event)
    → Among e (space_events (n + length before) s (at + sum_by space_size before)) → Among e (spaces_events n (before ++ (s ∷ after)) at)
spaces-among [] s after n at e m =
    let same : at + 0 ≡ at = omega arith in
    let none : n + 0 ≡ n = omega arith in
    among-first e (space_events n s at) (spaces_events (n + 1) after (at + space_size s))
    (subst (λ at. Among e (space_events n s at)) same (subst (λ n. Among e (space_events n s (at + 0))) none m))
spaces-among (p ∷ before) s after n at e m =
    let sum = sum_by-cons space_size p before in
    let same : at + sum_by space_size (p ∷ before) ≡ at + space_size p + sum_by space_size before = omega (arith, sum) in
    let more : n + length (p ∷ before) ≡ n + 1 + length before = omega arith in
    among-behind e (space_events n p at) (spaces_events (n + 1) (before ++ (s ∷ after)) (at + space_size p))
    (spaces-among before s after (n + 1) (at + space_size p) e (subst (λ at. Among e (space_events (n + 1 + length before) s at)) same
    (subst (λ n. Among e (space_events n s (at + sum_by space_size (p ∷ before)))) more m)))

module _ (spaces : List SpaceRec) where
  space-among : (start number : ℕ) (s : SpaceRec) (e : Event) → SpaceAt spaces start number s → Among e (space_events number s start)
      → Among e (spaces_events 0 spaces 14)
  space-among start number s e there m =
      let none : number ≡ 0 + length there.before = let counted = there.counted in omega (arith, counted) in
      subst (λ ss. Among e (spaces_events 0 ss 14)) (sym there.listed)
      (spaces-among there.before s there.after 0 14 e (subst (λ at. Among e (space_events (0 + length there.before) s at)) there.begins
      (subst (λ n. Among e (space_events n s start)) none m)))

  pub stands-event : (at : ℕ) (what : What) → Stands spaces at what → Among (event at what) (spaces_events 0 spaces 14)
  stands-event _ _ (OfHolder start number s there) = space-among start number s (event (start + 5) (Points (Holder number) s.holder)) there (Here _)
  stands-event _ _ (OfBody start behind s o what there stands) =
      let e = event (start + behind) what in
      let here = body-among s.objects o.body behind what start stands in
      let all = objects-among s.objects there.before o there.after (there.start + objects_begin s) e
      (subst (λ at. Among e (body_events s.objects o.body at)) there.begins here) in
      space-among there.start there.number s e there.space
      (Later _ _ (subst (λ os. Among e (objects_events s.objects os (there.start + objects_begin s))) (sym there.listed) all))

-- ---- in order

link-some : (to : Link) → 1 ≤ link_size to
link-some Null = omega arith
link-some Dead = omega arith
link-some (In slot space) = omega arith
link-some (Out slot) = omega arith
link-some Root = omega arith
link-some Outside = omega arith

talk-rises : (o : Option TalkRec) (at : ℕ) → Rises at (talk_events o at) (at + talk_size o)
talk-rises None at = omega arith
talk-rises (Some talk) at =
    let one = link-some talk.port in
    let two = link-some talk.server in
    (omega arith, (omega (arith, one), omega (arith, two)))

taker-rises : (port : Link) (o : Option Link) (at : ℕ) → Rises at (taker_events port o at) (at + taker_size o)
taker-rises port None at = omega arith
taker-rises port (Some taker) at = let one = link-some taker in (omega arith, omega (arith, one))

fault-rises : (o : Option FaultRec) (at : ℕ) → Rises at (fault_events o at) (at + fault_size o)
fault-rises None at = omega arith
fault-rises (Some fault) at =
    let one = link-some fault.port in
    let es = taker_events fault.port fault.taker (at + 3 + link_size fault.port) in
    let end : at + 3 + link_size fault.port + taker_size fault.taker ≡ at + (3 + link_size fault.port + taker_size fault.taker) = omega arith in (
      omega arith,
      rises-append (suc (at + 3)) (at + 3 + link_size fault.port) (at + (3 + link_size fault.port + taker_size fault.taker)) [] es (omega (arith, one))
          (subst (λ high. Rises (at + 3 + link_size fault.port) es high) end (taker-rises fault.port fault.taker (at + 3 + link_size fault.port))),
    )

thread-rises : (t : ThreadRec) (at : ℕ)
    → Rises at (talk_events t.talk (at + talk_begins) ++ fault_events t.fault (at + fault_begins t)) (at + (fault_begins t + fault_size t.fault))
thread-rises t at =
    let talk = talk_events t.talk (at + talk_begins) in
    let fault = fault_events t.fault (at + fault_begins t) in
    let mid : at + talk_begins + talk_size t.talk ≡ at + fault_begins t = omega arith in
    let end : at + fault_begins t + fault_size t.fault ≡ at + (fault_begins t + fault_size t.fault) = omega arith in
    rises-append at (at + talk_begins) (at + (fault_begins t + fault_size t.fault)) [] (talk ++ fault) (omega arith)
    (rises-append (at + talk_begins) (at + fault_begins t) (at + (fault_begins t + fault_size t.fault)) talk fault
    (subst (λ high. Rises (at + talk_begins) talk high) mid (talk-rises t.talk (at + talk_begins)))
    (subst (λ high. Rises (at + fault_begins t) fault high) end (fault-rises t.fault (at + fault_begins t))))

body-rises : (objects : List ObjectRec) (b : Rec) (at : ℕ) → Rises at (body_events objects b at) (at + body_size b)
body-rises objects (Mutex locked) at = omega arith
body-rises objects Cond at = omega arith
body-rises objects Portset at = omega arith
body-rises objects (Mapping first count offset write region) at = let one = link-some region in (omega arith, omega (arith, one))
body-rises objects (Region first count write keeper) at = let one = link-some keeper in (omega arith, omega (arith, one))
body-rises objects (Port set) at = (omega arith, omega arith)
body-rises objects (Thread t) at = thread-rises t at
body-rises objects (Reference to) at = let one = link-some to in (omega arith, omega (arith, one))

objects-rise : (all os : List ObjectRec) (at : ℕ) → Rises at (objects_events all os at) (at + sum_by object_size os)
objects-rise all [] at = omega arith
objects-rise all (o ∷ os) at =
    let sum = sum_by-cons object_size o os in
    let end : at + object_size o + sum_by object_size os ≡ at + sum_by object_size (o ∷ os) = omega (arith, sum) in
    rises-append at (at + object_size o) (at + sum_by object_size (o ∷ os)) (body_events all o.body at) (objects_events all os (at + object_size o))
    (body-rises all o.body at) (subst (λ high. Rises (at + object_size o) (objects_events all os (at + object_size o)) high) end
    (objects-rise all os (at + object_size o)))

space-rises : (n : ℕ) (s : SpaceRec) (at : ℕ) → Rises at (space_events n s at) (at + space_size s)
space-rises n s at =
    let one = link-some s.holder in
    let es = objects_events s.objects s.objects (at + objects_begin s) in
    let end = at + objects_begin s + sum_by object_size s.objects in
    let objects = objects-rise s.objects s.objects (at + objects_begin s) in (
      omega arith,
      rises-append (suc (at + 5)) (at + objects_begin s) (at + space_size s) [] es (omega (arith, one))
          (raised (at + objects_begin s) end (at + space_size s) es (omega arith) objects),
    )
  where
    raised : (low mid high : ℕ) (es : List Event) → mid ≤ high → Rises low es mid → Rises low es high
    raised low mid high [] le r = omega (arith, le, r)
    raised low mid high (e ∷ es) le r = (r.0, raised (suc e.at) mid high es le r.1)

pub spaces-rise : (n : ℕ) (ss : List SpaceRec) (at : ℕ) → Rises at (spaces_events n ss at) (at + sum_by space_size ss)
spaces-rise n [] at = omega arith
spaces-rise n (s ∷ ss) at =
    let sum = sum_by-cons space_size s ss in
    let end : at + space_size s + sum_by space_size ss ≡ at + sum_by space_size (s ∷ ss) = omega (arith, sum) in
    rises-append at (at + space_size s) (at + sum_by space_size (s ∷ ss)) (space_events n s at) (spaces_events (n + 1) ss (at + space_size s))
    (space-rises n s at) (subst (λ high. Rises (at + space_size s) (spaces_events (n + 1) ss (at + space_size s)) high) end
    (spaces-rise (n + 1) ss (at + space_size s)))
