-- Steps: threads as they stand after each step of the queues of causes.
use Rattle.std.proofs.Common.{◌≡◌, ◌≢◌, ◌≤◌, ◌<◌, ◌+◌, ◌*◌, ◌==◌, ℕ, nat_lt, get_or, Bool, true, false, not, List, [], ◌∷◌, ◌++◌, length, map, Option, Some}
use Rattle.std.proofs.Common.{None, is_some, IsSome, if◌then◌else◌, refl, sym, ap, subst, ◌∙◌, arith, eq-eqb}
use Rattle.std.proofs.lemmas.Bool.{eqb-true, ltb-false}
use Rattle.std.proofs.lemmas.Bool.Decides.{Decides-ltb}
use Rattle.slab.specs.Slab.{slab_len, HasRoomFor}
use Rattle.fk_model.specs.declared.names.Who.{Who}
use Rattle.fk_waits.specs.Queues.Nodes.{shown_at}
use Rattle.fk_waits.specs.Causes.Names.{is_same, key_at, AreOnce, HasRoom}
use Rattle.fk_waits.specs.declared.causes.names.Name.{Name}
use Rattle.fk_waits.specs.Queues.Places.{first_at, front_of as front_at, in_queue, place_at, who_shown, AreFiled, IsHead, Place, SameHeads, SameRoom}
use Rattle.fk_waits.specs.declared.queues.queues.Queues.{Queues}
use Rattle.fk_waits.proofs.InQueues.Places.{filed_middle}
use Rattle.fk_waits.proofs.InQueues.Turned.{all_without}
use Rattle.fk_waits.proofs.InQueues.Heads.{all_before, all_behind}
use Rattle.fk_waits.proofs.InQueues.Walk.{head_is}
use Rattle.fk_waits.specs.Causes.Causes.{cause_of, first_of, front_of, recaused, standing_of, ArePlaced, AreStanding, AreTaken}
use Rattle.fk_waits.specs.Causes.Causes.{HasSeat, IsEmpty, IsRoomy, Stand, Standing}
use Rattle.fk_waits.specs.declared.causes.causes.Causes.{Causes}
use Rattle.fk_waits.proofs.InCauses.Numbers.{clash, unlike}
use Rattle.fk_waits.proofs.InCauses.Order.{is_placed, IsPlaced}
use Rattle.fk_waits.proofs.InCauses.Placed.{alike, alike_but, all_taken, at_queue, closed, none_first, opened, vacant_heads, with_both, with_queues}
use Rattle.fk_waits.proofs.InCauses.Moved.{at_head, come, gone, moved, named, with_name}
use Rattle.fk_waits.proofs.InCauses.Named.{cause_named, causes_named, causes_same}
use Rattle.fk_waits.proofs.InCauses.Shown.{first_is, none_waits, parts, shown_long, shown_split, Parts}

-- who stands first of all, by the queues
pub front_shown : (c : Causes) (l : List Place) → front_at l ≡ front_of (map (standing_of c) l)
front_shown c [] = refl
front_shown c (p ∷ l) = refl

-- ---- room

roomy_still : (c : Causes) (q : Queues) (names : List Name × ℕ) → SameRoom c.queues q → c.names.1 ≤ names.1 → IsRoomy c → IsRoomy (with_both c q names)
roomy_still c q names room more roomy = record {
  order = omega (arith, room.order, roomy.order);
  lines = omega (arith, room.lines, roomy.lines);
  names = omega (arith, more, roomy.names);
  most = roomy.most;
}

pub long_places : (c : Causes) (free : ℕ) (l : List Standing) (s : AreStanding c free l) → length s.places ≡ length l
long_places c free l s = sym (shown_long c s.places) ∙ ap (λ (k : List Standing). length k) s.shown

pub seat_order : (c : Causes) (free : ℕ) → HasSeat c free → HasRoomFor c.queues.order 1
seat_order c free h =
    let long = long_places c free h.list h.standing in
    omega (arith, long, h.seat, h.standing.placed.order, h.standing.roomy.order)

pub seat_lines : (c : Causes) (free : ℕ) → HasSeat c free → HasRoomFor c.queues.lines 1
seat_lines c free h =
    let long = long_places c free h.list h.standing in
    omega (arith, long, h.seat, h.standing.placed.many, h.standing.placed.lines, h.standing.roomy.lines)

pub open_room : (c : Causes) → Stand c c.ready → length c.names.0 < c.most → HasRoomFor c.queues.lines 1
open_room c h place = omega (arith, place, h.standing.placed.few, h.standing.placed.lines, h.standing.roomy.lines)

pub put_room : (c : Causes) → Stand c c.ready → length c.names.0 < c.most → HasRoom c.names 1
put_room c h place = omega (arith, place, h.standing.roomy.names)

-- ---- the middle of a list

record Middle (c : Causes) (free key : ℕ) (a : List Standing) (s : Standing) (b : List Standing) : Type 0 where
  places : List Place
  split : Parts c a s b places
  placed : ArePlaced c free (split.before ++ split.one ∷ split.behind)
  key_is : split.one.key ≡ key

middle : (c : Causes) (free key : ℕ) (a : List Standing) (s : Standing) (b : List Standing) → AreStanding c free (a ++ s ∷ b) → s.key ≡ key →
    Middle c free key a s b
middle c free key a s b standing is =
    let p = parts c standing.places a s b standing.shown in
    record {
      places = standing.places;
      split = p;
      placed = subst (ArePlaced c free) p.is standing.placed;
      key_is = ap (λ (x : Standing). x.key) p.mine ∙ is;
    }

-- the queue that the code reads
left_is : (c : Causes) (free key left : ℕ) (a : List Standing) (s : Standing) (b : List Standing) (m : Middle c free key a s b) →
    left ≡ (place_at c.queues key).head → left ≡ m.split.one.head
left_is c free key left a s b m is =
    let p = m.split in
    is ∙ ap (λ (k : ℕ). (place_at c.queues k).head) (sym m.key_is) ∙ head_is c.queues p.before p.one p.behind m.placed.filed

-- ready or not
pub some_cause : (c : Causes) (h : ℕ) → IsHead c.queues.lines h → is_some (cause_of c h) ≡ not (h == c.ready)
some_cause c h is = by (h == c.ready) refl
  where
    by : (t : Bool) → (h == c.ready) ≡ t → is_some (cause_of c h) ≡ not (h == c.ready)
    by true e = rw e refl
    by false e = rw e (ap (λ (o : Option (Who × ℕ)). is_some (who_shown o)) is.1)

pub waited_by : (c : Causes) (free key left : ℕ) (a : List Standing) (s : Standing) (b : List Standing) → AreStanding c free (a ++ s ∷ b) → s.key ≡ key →
    left ≡ (place_at c.queues key).head → is_some s.cause ≡ not (left == c.ready)
waited_by c free key left a s b standing is at =
    let m = middle c free key a s b standing is in
    let p = m.split in
    let head = (filed_middle c.queues.order c.queues.lines p.before p.one p.behind m.placed.filed.filed).head in
    ap (λ (x : Standing). is_some x.cause) (sym p.mine) ∙ some_cause c p.one.head head
    ∙ ap (λ (n : ℕ). not (n == c.ready)) (sym (left_is c free key left a s b m at))

-- ---- the steps

module _ (c : Causes) (q : Queues) (same : SameHeads c.queues.lines q.lines) (room : SameRoom c.queues q) where
  others : (a b : List Place) (p : Place) → AreFiled c.queues (a ++ p ∷ b) →
      map (standing_of (with_queues c q)) (a ++ b) ≡ map (standing_of c) a ++ map (standing_of c) b
  others a b p filed =
      alike c q c.names c.queues.order (a ++ b) (all_without c.queues.order c.queues.lines a p b filed.filed) same ∙ shown_split c a b

  roomy : IsRoomy c → IsRoomy (with_queues c q)
  roomy r = roomy_still c q c.names room (omega arith) r

  -- a thread goes to another queue
  pub turned_so : (key head : ℕ) →
      ((a b : List Place) (p : Place) → AreFiled c.queues (a ++ p ∷ b) → p.key ≡ key → AreFiled q ((a ++ b) ++ at_head p head ∷ [])) →
      slab_len q.order ≡ slab_len c.queues.order → slab_len q.lines ≡ slab_len c.queues.lines →
      (a b : List Standing) (s : Standing) → AreStanding c head (a ++ s ∷ b) → s.key ≡ key →
      AreStanding (with_queues c q) c.ready ((a ++ b) ++ record { key = s.key; who = s.who; cause = cause_of c head } ∷ [])
  turned_so key head filed order lines a b s standing is =
      let m = middle c head key a s b standing is in
      let p = m.split in
      let kept = others p.before p.behind p.one m.placed.filed in
      let last : standing_of (with_queues c q) (at_head p.one head) ≡ record { key = s.key; who = s.who; cause = cause_of c head } =
      λ i. record {
        key = (p.mine i).key;
        who = (p.mine i).who;
        cause = (if head == c.ready then None else who_shown (same.kept head standing.placed.one i));
      } in
      record {
        places = (p.before ++ p.behind) ++ at_head p.one head ∷ [];
        shown = shown_split (with_queues c q) (p.before ++ p.behind) (at_head p.one head ∷ [])
            ∙ (λ i. kept i ++ last i ∷ []) ∙ (λ i. (p.first i ++ p.last i) ++ record { key = s.key; who = s.who; cause = cause_of c head } ∷ []);
        placed = moved c q same head p.before p.one p.behind m.placed (filed p.before p.behind p.one m.placed.filed m.key_is) order lines;
        roomy = roomy standing.roomy;
      }

  -- a thread goes
  pub gone_so : (key : ℕ) →
      ((a b : List Place) (p : Place) → AreFiled c.queues (a ++ p ∷ b) → p.key ≡ key → AreFiled q (a ++ b)) →
      slab_len q.order + 1 ≡ slab_len c.queues.order → slab_len q.lines + 1 ≡ slab_len c.queues.lines →
      (a b : List Standing) (s : Standing) → AreStanding c c.ready (a ++ s ∷ b) → s.key ≡ key → AreStanding (with_queues c q) c.ready (a ++ b)
  gone_so key filed order lines a b s standing is =
      let m = middle c c.ready key a s b standing is in
      let p = m.split in
      record {
        places = p.before ++ p.behind;
        shown = others p.before p.behind p.one m.placed.filed ∙ (λ i. p.first i ++ p.last i);
        placed = gone c q same p.before p.one p.behind m.placed (filed p.before p.behind p.one m.placed.filed m.key_is) order lines;
        roomy = roomy standing.roomy;
      }

  -- a thread comes
  pub come_so : (key node head : ℕ) (who : Who) →
      ((l : List Place) → AreFiled c.queues l → AreFiled q (l ++ record { key = key; node = node; who = who; head = head } ∷ [])) →
      slab_len q.order ≡ slab_len c.queues.order + 1 → slab_len q.lines ≡ slab_len c.queues.lines + 1 →
      (l : List Standing) → AreStanding c head l → length l + 1 ≤ c.seats →
      AreStanding (with_queues c q) c.ready (l ++ record { key = key; who = who; cause = cause_of c head } ∷ [])
  come_so key node head who filed order lines l standing seat =
      let p : Place = record { key = key; node = node; who = who; head = head } in
      let long = long_places c head l standing in
      let kept = alike c q c.names c.queues.order standing.places standing.placed.filed.filed same ∙ standing.shown in
      let last : standing_of (with_queues c q) p ≡ record { key = key; who = who; cause = cause_of c head } =
      λ i. record { key = key; who = who; cause = (if head == c.ready then None else who_shown (same.kept head standing.placed.one i)) } in
      record {
        places = standing.places ++ p ∷ [];
        shown = shown_split (with_queues c q) standing.places (p ∷ []) ∙ (λ i. kept i ++ last i ∷ []);
        placed = come c q same standing.places p standing.placed (filed standing.places standing.placed.filed) order lines (omega (arith, long, seat));
        roomy = roomy standing.roomy;
      }

  -- a thread has another name
  pub named_so : (key : ℕ) (who : Who) →
      ((a b : List Place) (p : Place) → AreFiled c.queues (a ++ p ∷ b) → p.key ≡ key → AreFiled q (a ++ with_name p who ∷ b)) →
      slab_len q.order ≡ slab_len c.queues.order → slab_len q.lines ≡ slab_len c.queues.lines →
      (a b : List Standing) (s : Standing) → AreStanding c c.ready (a ++ s ∷ b) → s.key ≡ key →
      AreStanding (with_queues c q) c.ready (a ++ record { key = s.key; who = who; cause = s.cause } ∷ b)
  named_so key who filed order lines a b s standing is =
      let m = middle c c.ready key a s b standing is in
      let p = m.split in
      let all = m.placed.filed.filed in
      let head = filed_middle c.queues.order c.queues.lines p.before p.one p.behind all in
      let mine : standing_of (with_queues c q) (with_name p.one who) ≡ record { key = s.key; who = who; cause = s.cause } =
      λ i. record {
        key = (p.mine i).key;
        who = who;
        cause = (ap (λ (o : Option (Who × ℕ)). if p.one.head == c.ready then None else who_shown o) (same.kept p.one.head head.head)
            ∙ ap (λ (x : Standing). x.cause) p.mine) i;
      } in
      let front = alike c q c.names c.queues.order p.before (all_before c.queues.order c.queues.lines p.before p.one p.behind all) same ∙ p.first in
      let back = alike c q c.names c.queues.order p.behind (all_behind c.queues.order c.queues.lines p.before p.one p.behind all) same ∙ p.last in
      record {
        places = p.before ++ with_name p.one who ∷ p.behind;
        shown = shown_split (with_queues c q) p.before (with_name p.one who ∷ p.behind) ∙ (λ i. front i ++ mine i ∷ back i);
        placed = named c q same p.before p.one p.behind who m.placed (filed p.before p.behind p.one m.placed.filed m.key_is) order lines;
        roomy = roomy standing.roomy;
      }

-- ---- a queue is found, or comes

-- whichever queue a thread comes to, or leaves
pub queue_so : (c : Causes) (g h : ℕ) (l : List Standing) → AreStanding c g l → IsHead c.queues.lines h → AreStanding c h l
queue_so c g h l standing head = record {
  places = standing.places;
  shown = standing.shown;
  placed = at_queue c g h standing.places standing.placed head;
  roomy = standing.roomy;
}

pub found_so : (c : Causes) (h : ℕ) (name : Who) → Some h ≡ key_at c.names.0 name → (l : List Standing) → AreStanding c c.ready l → AreStanding c h l
found_so c h name is l standing = queue_so c c.ready h l standing (name, (standing.placed.known name h (sym is)).0)

pub found_cause : (c : Causes) (h : ℕ) (name : Who) → Some h ≡ key_at c.names.0 name → Stand c c.ready → cause_of c h ≡ Some name
found_cause c h name is stand =
    let known = stand.standing.placed.known name h (sym is) in
    let not_so = unlike h c.ready known.1 in
    rw not_so (ap who_shown known.0)

module _ (c : Causes) (q : Queues) (names : List Name × ℕ) (h : ℕ) (name : Who) (unknown : key_at c.names.0 name ≡ None)
    (new : shown_at c.queues.lines h ≡ None) (shown : shown_at q.lines h ≡ Some (name, h))
    (others_same : (m : ℕ) → m ≢ h → shown_at q.lines m ≡ shown_at c.queues.lines m)
    (put : (other : Who) → key_at names.0 other ≡ (if is_same name other then Some h else key_at c.names.0 other))
    (more : length names.0 ≡ length c.names.0 + 1) (place : length c.names.0 < c.most) (wide : c.names.1 ≤ names.1)
    (order : slab_len q.order ≡ slab_len c.queues.order) (lines : slab_len q.lines ≡ slab_len c.queues.lines + 1)
    (room : SameRoom c.queues q) (filed : (l : List Place) → AreFiled c.queues l → AreFiled q l) where
  pub opened_so : (l : List Standing) → AreStanding c c.ready l → AreStanding (with_both c q names) h l
  opened_so l standing =
      let none = vacant_heads c.queues.order c.queues.lines h new standing.places standing.placed.filed.filed in
      record {
        places = standing.places;
        shown = alike_but c q names h standing.places none others_same ∙ standing.shown;
        placed = opened c q names h name unknown new shown others_same put more order lines standing.places standing.placed
            (filed standing.places standing.placed.filed) place;
        roomy = roomy_still c q names room wide standing.roomy;
      }

  pub opened_cause : Stand c c.ready → cause_of (with_both c q names) h ≡ Some name
  opened_cause stand =
      let off : h ≢ c.ready = λ (same : h ≡ c.ready). none_some (sym new ∙ ap (shown_at c.queues.lines) same ∙ stand.standing.placed.ready.1) in
      let not_so = unlike h c.ready off in
      rw not_so (ap who_shown shown)
    where
      none_some : {x : Who × ℕ} → None ≡ Some x → ⊥
      none_some is = absurd (cc)

-- ---- a queue goes

-- the place from which one is looked for
abbrev pub with_hand : Causes → ℕ → Causes
with_hand c hand = record { queues = c.queues; names = c.names; ready = c.ready; seats = c.seats; most = c.most; hand = hand }

pub hand_so : (c : Causes) (hand : ℕ) (l : List Standing) → AreStanding c c.ready l → AreStanding (with_hand c hand) c.ready l
hand_so c hand l standing =
    let p = standing.placed in
    let r = standing.roomy in
    record {
      places = standing.places;
      shown = standing.shown;
      placed = record {
        filed = p.filed;
        ready = p.ready;
        one = p.one;
        known = p.known;
        found = p.found;
        order = p.order;
        lines = p.lines;
        few = p.few;
        many = p.many;
      };
      roomy = record { order = r.order; lines = r.lines; names = r.names; most = r.most };
    }

module _ (c : Causes) (q : Queues) (names : List Name × ℕ) (h : ℕ) (name : Who) (there : key_at c.names.0 name ≡ Some h)
    (gone_now : shown_at q.lines h ≡ None) (others_same : (m : ℕ) → m ≢ h → shown_at q.lines m ≡ shown_at c.queues.lines m)
    (taken : (other : Who) → key_at names.0 other ≡ (if is_same name other then None else key_at c.names.0 other))
    (fewer : length names.0 + 1 ≡ length c.names.0) (wide : c.names.1 ≡ names.1)
    (order : slab_len q.order ≡ slab_len c.queues.order) (lines : slab_len q.lines + 1 ≡ slab_len c.queues.lines)
    (room : SameRoom c.queues q) (filed : (l : List Place) → AreFiled c.queues l → in_queue h l ≡ [] → AreFiled q l) (empty : IsEmpty c h) where
  pub closed_so : (l : List Standing) → AreStanding c c.ready l → AreStanding (with_both c q names) c.ready l
  closed_so l standing =
      let none = none_first h standing.places (empty standing.places standing.placed.filed) in
      record {
        places = standing.places;
        shown = alike_but c q names h standing.places none.0 others_same ∙ standing.shown;
        placed = closed c q names h name there gone_now others_same taken fewer order lines standing.places standing.placed
            (filed standing.places standing.placed.filed none.1);
        roomy = roomy_still c q names room (omega (arith, wide)) standing.roomy;
      }

-- a queue with a name is a head
pub named_head : (c : Causes) (h : ℕ) (name : Who) → key_at c.names.0 name ≡ Some h → Stand c c.ready → IsHead c.queues.lines h
named_head c h name is stand = (name, (stand.standing.placed.known name h is).0)

-- somebody stands in one more of those that have a name
pub taken_more : (c : Causes) (from at : ℕ) (n : Name) → ((d : Name) → get_or c.names.0 at d ≡ n) →
    ((l : List Place) → AreFiled c.queues l → first_at n.key l ≢ None) → AreTaken c from at → AreTaken c from (at + 1)
taken_more c from at n is some before k d low high l filed = by (k == at) refl
  where
    by : (t : Bool) → (k == at) ≡ t → first_at (get_or c.names.0 k d).key l ≢ None
    by true e = subst (λ (m : ℕ). first_at (get_or c.names.0 m d).key l ≢ None) (sym (eqb-true k at e))
        (subst (λ (m : Name). first_at m.key l ≢ None) (sym (is d)) (some l filed))
    by false e = before k d low (less (λ (same : k ≡ at). clash (k == at) (eq-eqb k at same) e)) l filed
      where
        less : k ≢ at → k < at
        less off = omega (arith, high, off)

-- where somebody stands in each that has a name, there are no more of these than threads
pub never_taken : {X : Type 0} (c : Causes) → Stand c c.ready → AreOnce c.names.0 → c.seats < length c.names.0 → (hand : ℕ) →
    AreTaken c hand (length c.names.0) → AreTaken c 0 hand → X
never_taken c stand once more hand behind before =
    let standing = stand.standing in
    let p = standing.placed in
    let few = all_taken c standing.places p once (λ name h is. each name h is standing.places p.filed) in
    let seats = p.few in
    absurd (omega (arith, few, seats, more))
  where
    each : (name : Who) (h : ℕ) → key_at c.names.0 name ≡ Some h → (l : List Place) → AreFiled c.queues l → first_at h l ≢ None
    each name h is l filed = subst (λ (n : ℕ). first_at n l ≢ None) (at.is any) (by (nat_lt at.place hand) refl)
      where
        at : IsPlaced c.names.0 name h
        at = is_placed c.names.0 name h is

        any : Name
        any = record { who = name; key = h }

        by : (t : Bool) → nat_lt at.place hand ≡ t → first_at (get_or c.names.0 at.place any).key l ≢ None
        by true e = before at.place any (omega arith) ((Decides-ltb at.place hand).0 e) l filed
        by false e = behind at.place any (ltb-false at.place hand e) at.within l filed

-- ---- a cause has another name

module _ (c : Causes) (q : Queues) (names : List Name × ℕ) (h : ℕ) (from to : Who) (there : Some h ≡ key_at c.names.0 from)
    (unused : key_at c.names.0 to ≡ None)
    (shown : shown_at q.lines h ≡ Some (to, h)) (others_same : (m : ℕ) → m ≢ h → shown_at q.lines m ≡ shown_at c.queues.lines m)
    (put : (other : Who) → key_at names.0 other ≡ (if is_same to other then Some h else (if is_same from other then None else key_at c.names.0 other)))
    (many : length names.0 ≡ length c.names.0) (wide : c.names.1 ≤ names.1)
    (order : slab_len q.order ≡ slab_len c.queues.order) (lines : slab_len q.lines ≡ slab_len c.queues.lines)
    (room : SameRoom c.queues q) (filed : (l : List Place) → AreFiled c.queues l → AreFiled q l) where
  pub renamed_so : (l : List Standing) → AreStanding c c.ready l → AreStanding (with_both c q names) c.ready (map (recaused from to) l)
  renamed_so l standing =
      let p = standing.placed in
      record {
        places = standing.places;
        shown = causes_named c q names h from to (sym there) unused shown others_same put many order lines standing.places p c.queues.order standing.places
            p.filed.filed ∙ ap (map (recaused from to)) standing.shown;
        placed = cause_named c q names h from to (sym there) unused shown others_same put many order lines standing.places p
            (filed standing.places p.filed);
        roomy = roomy_still c q names room wide standing.roomy;
      }

pub unnamed_so : (c : Causes) (from to : Who) → None ≡ key_at c.names.0 from → (l : List Standing) → AreStanding c c.ready l →
    AreStanding c c.ready (map (recaused from to) l)
unnamed_so c from to none l standing = record {
  places = standing.places;
  shown = causes_same c from to standing.places standing.placed none c.queues.order standing.places standing.placed.filed.filed
      ∙ ap (map (recaused from to)) standing.shown;
  placed = standing.placed;
  roomy = standing.roomy;
}

-- ---- who is first

pub first_so : (c : Causes) (h : ℕ) (cause : Option Who) (found : Option Who) → cause_of c h ≡ cause →
    ((k : List Place) → AreFiled c.queues k → found ≡ first_at h k) →
    (l : List Standing) → AreStanding c c.ready l → IsHead c.queues.lines h → found ≡ first_of cause l
first_so c h cause found is first l standing head =
    let p = standing.placed in
    first standing.places p.filed ∙ first_is c standing.places p h head c.queues.order standing.places p.filed.filed
    ∙ ap (λ (o : Option Who). first_of o (map (standing_of c) standing.places)) is ∙ ap (first_of cause) standing.shown

pub nobody_so : (c : Causes) (name : Who) → None ≡ key_at c.names.0 name → (l : List Standing) → AreStanding c c.ready l → None ≡ first_of (Some name) l
nobody_so c name none l standing =
    let p = standing.placed in
    none_waits c standing.places p name none c.queues.order standing.places p.filed.filed ∙ ap (first_of (Some name)) standing.shown

-- a queue with a name in which somebody stands: he waits for what has this name
pub somebody_waits : {X : Type 0} (c : Causes) (h : ℕ) (name : Who) → Some h ≡ key_at c.names.0 name → (l : List Standing) → AreStanding c c.ready l →
    first_of (Some name) l ≡ None → ((k : List Place) → AreFiled c.queues k → first_at h k ≢ None) → X
somebody_waits c h name is l standing none some =
    let p = standing.placed in
    let stand : Stand c c.ready = record { list = l; standing = standing } in
    let first = first_is c standing.places p h (named_head c h name (sym is) stand) c.queues.order standing.places p.filed.filed in
    let cause = found_cause c h name is stand in
    absurd (some standing.places p.filed
    (first ∙ ap (λ (o : Option Who). first_of o (map (standing_of c) standing.places)) cause ∙ ap (first_of (Some name)) standing.shown ∙ none))

pub ready_cause : (c : Causes) → cause_of c c.ready ≡ None
ready_cause c = let is_so = eq-eqb c.ready c.ready refl in rw is_so refl

-- ---- what was taken out

pub take_len : {x y : Option ℕ} {h : ℕ} → x ≡ y → y ≡ Some h → IsSome x
take_len {x} {y} {h} same is = ap (λ (o : Option ℕ). is_some o) (same ∙ is)

pub unnamed_same : (c : Causes) (names : List Name × ℕ) (from to : Who) → None ≡ key_at c.names.0 from → names ≡ c.names →
    (l : List Standing) → AreStanding c c.ready l → AreStanding (with_both c c.queues names) c.ready (map (recaused from to) l)
unnamed_same c names from to none same l standing =
    subst (λ (n : List Name × ℕ). AreStanding (with_both c c.queues n) c.ready (map (recaused from to) l)) (sym same) (unnamed_so c from to none l standing)

pub taken_head : (c : Causes) (h : ℕ) (from : Who) → Some h ≡ key_at c.names.0 from → Stand c c.ready → IsHead c.queues.lines h
taken_head c h from is stand = (from, (stand.standing.placed.known from h (sym is)).0)

pub taken_new : (c : Causes) (names : List Name × ℕ) (from to : Who) → key_at c.names.0 to ≡ None →
    ((other : Who) → key_at names.0 other ≡ (if is_same from other then None else key_at c.names.0 other)) → key_at names.0 to ≡ None
taken_new c names from to unused taken = taken to ∙ by (is_same from to) refl
  where
    by : (t : Bool) → is_same from to ≡ t → (if is_same from to then None else key_at c.names.0 to) ≡ None
    by true e = rw e refl
    by false e = rw e unused

-- what stays without a number, and what has none then
pub none_taken : (names after : List Name × ℕ) (name other : Who) →
    ((x : Who) → key_at after.0 x ≡ (if is_same name x then None else key_at names.0 x)) → is_same name other ≡ true → key_at after.0 other ≡ None
none_taken names after name other taken is = taken other ∙ rw is refl

pub still_none : (names after : List Name × ℕ) (name other : Who) →
    ((x : Who) → key_at after.0 x ≡ (if is_same name x then None else key_at names.0 x)) → key_at names.0 other ≡ None → key_at after.0 other ≡ None
still_none names after name other taken none = taken other ∙ by (is_same name other) refl
  where
    by : (t : Bool) → is_same name other ≡ t → (if is_same name other then None else key_at names.0 other) ≡ None
    by true e = rw e refl
    by false e = rw e none

pub taken_room : (c : Causes) (names : List Name × ℕ) → length names.0 + 1 ≡ length c.names.0 → c.names.1 ≡ names.1 → Stand c c.ready → HasRoom names 1
taken_room c names fewer wide stand = omega (arith, fewer, wide, stand.standing.placed.many, stand.standing.roomy.names)

pub taken_put : (c : Causes) (names after : List Name × ℕ) (h : ℕ) (from to : Who) →
    ((other : Who) → key_at names.0 other ≡ (if is_same from other then None else key_at c.names.0 other)) →
    ((other : Who) → key_at after.0 other ≡ (if is_same to other then Some h else key_at names.0 other)) →
    (other : Who) → key_at after.0 other ≡ (if is_same to other then Some h else (if is_same from other then None else key_at c.names.0 other))
taken_put c names after h from to taken put other = put other ∙ ap (λ (o : Option ℕ). if is_same to other then Some h else o) (taken other)

pub taken_long : (c : Causes) (names after : List Name × ℕ) → length names.0 + 1 ≡ length c.names.0 → length after.0 ≡ length names.0 + 1 →
    length after.0 ≡ length c.names.0
taken_long c names after fewer more = omega (arith, fewer, more)

-- ---- more room, and none yet

abbrev pub with_room : Causes → Queues → List Name × ℕ → ℕ → ℕ → Causes
with_room c q names seats most = record { queues = q; names = names; ready = c.ready; seats = seats; most = most; hand = c.hand }

pub wider_so : (c : Causes) (q : Queues) (names : List Name × ℕ) (seats most : ℕ) → ((l : List Place) → AreFiled c.queues l → AreFiled q l) →
    ((h : ℕ) → shown_at q.lines h ≡ shown_at c.queues.lines h) → slab_len q.order ≡ slab_len c.queues.order → slab_len q.lines ≡ slab_len c.queues.lines →
    names.0 ≡ c.names.0 → c.seats ≤ seats → (IsRoomy c → length c.names.0 ≤ c.most → length c.names.0 ≤ most) →
    (IsRoomy c → IsRoomy (with_room c q names seats most)) → (l : List Standing) → AreStanding c c.ready l → AreStanding (with_room c q names seats most) c.ready l
wider_so c q names seats most filed shown order lines same more many room l standing =
    let p = standing.placed in
    let long = ap (λ (n : List Name). length n) same in
    record {
      places = standing.places;
      shown = alike c q names c.queues.order standing.places p.filed.filed (record { kept = λ h is. shown h; none = was }) ∙ standing.shown;
      placed = record {
        filed = filed standing.places p.filed;
        ready = (p.ready.0, shown c.ready ∙ p.ready.1);
        one = (p.one.0, shown c.ready ∙ p.one.1);
        known = λ name h is. let k = p.known name h (sym (ap (λ (n : List Name). key_at n name) same) ∙ is) in (shown h ∙ k.0, k.1);
        found = λ name h is off. ap (λ (n : List Name). key_at n name) same ∙ p.found name h (sym (shown h) ∙ is) off;
        order = order ∙ p.order;
        lines = omega (arith, lines, p.lines, long);
        few = omega (arith, p.few, more);
        many = let still = many standing.roomy p.many in omega (arith, still, long);
      };
      roomy = room standing.roomy;
    }
  where
    was : (h : ℕ) → IsHead q.lines h → IsHead c.queues.lines h
    was h is = (is.0, sym (shown h) ∙ is.1)

pub wider_names : (c : Causes) (names : List Name × ℕ) → names.0 ≡ c.names.0 → c.names.1 ≤ names.1 → (l : List Standing) → AreStanding c c.ready l →
    AreStanding (with_both c c.queues names) c.ready l
wider_names c names same wide l standing =
    wider_so c c.queues names c.seats c.most (λ k filed. filed) (λ h. refl) refl refl same (omega arith) (λ r many. many)
    (λ r. record { order = r.order; lines = r.lines; names = omega (arith, r.names, wide); most = r.most }) l standing

pub wider_both : (c : Causes) (q : Queues) (names : List Name × ℕ) → ((l : List Place) → AreFiled c.queues l → AreFiled q l) →
    ((h : ℕ) → shown_at q.lines h ≡ shown_at c.queues.lines h) → slab_len q.order ≡ slab_len c.queues.order → slab_len q.lines ≡ slab_len c.queues.lines →
    c.queues.order.capacity ≤ q.order.capacity → c.queues.lines.capacity ≤ q.lines.capacity → names.0 ≡ c.names.0 → c.names.1 ≤ names.1 →
    (l : List Standing) → AreStanding c c.ready l → AreStanding (with_both c q names) c.ready l
wider_both c q names filed shown order lines first second same wide l standing =
    wider_so c q names c.seats c.most filed shown order lines same (omega arith) (λ r many. many)
    (λ r. record { order = omega (arith, r.order, first); lines = omega (arith, r.lines, second); names = omega (arith, r.names, wide); most = r.most })
    l standing

pub reserved_so : (c : Causes) (q : Queues) (names : List Name × ℕ) (seats : ℕ) → ((l : List Place) → AreFiled c.queues l → AreFiled q l) →
    ((h : ℕ) → shown_at q.lines h ≡ shown_at c.queues.lines h) → slab_len q.order ≡ slab_len c.queues.order → slab_len q.lines ≡ slab_len c.queues.lines →
    names.0 ≡ c.names.0 → c.seats ≤ seats → HasRoomFor q.order (seats + 1) → HasRoomFor q.lines (seats + (2 * seats + 14) + 1) → HasRoom names (2 * seats + 14) →
    (l : List Standing) → AreStanding c c.ready l → AreStanding (with_room c q names seats (2 * seats + 14)) c.ready l
reserved_so c q names seats filed shown order lines same more first second third l standing =
    wider_so c q names seats (2 * seats + 14) filed shown order lines same more (λ r many. let most = r.most in omega (arith, most, many, more))
    (λ r. record { order = omega (arith, first); lines = omega (arith, second); names = omega (arith, third); most = omega arith }) l standing

pub none_so : (q r : Queues) (names : List Name × ℕ) (ready : ℕ) (name : Who) → AreFiled r [] → ((h : ℕ) → shown_at q.lines h ≡ None) →
    shown_at r.lines ready ≡ Some (name, ready) → ((m : ℕ) → m ≢ ready → shown_at r.lines m ≡ shown_at q.lines m) → names.0 ≡ [] →
    slab_len r.order ≡ 1 → slab_len r.lines ≡ 1 → 1 ≤ r.order.capacity → 15 ≤ r.lines.capacity → 14 ≤ names.1 →
    AreStanding (record { queues = r; names = names; ready = ready; seats = 0; most = 14; hand = 0 }) ready []
none_so q r names ready name filed none shown others empty order lines first second third =
    let long = ap (λ (k : List Name). length k) empty in
    record {
      places = [];
      shown = refl;
      placed = record {
        filed = filed;
        ready = (name, shown);
        one = (name, shown);
        known = λ n h is. no_key (sym (ap (λ (k : List Name). key_at k n) empty) ∙ is);
        found = λ n h is off. no_shown (sym (none h) ∙ sym (others h off) ∙ is);
        order = order;
        lines = omega (arith, lines, long);
        few = omega arith;
        many = omega (arith, long);
      };
      roomy = record { order = omega (arith, first); lines = omega (arith, second); names = omega (arith, third); most = refl };
    }
  where
    no_key : {X : Type 0} {h : ℕ} → None ≡ Some h → X
    no_key is = absurd (cc)

    no_shown : {X : Type 0} {x : Who × ℕ} → None ≡ Some x → X
    no_shown is = absurd (cc)
