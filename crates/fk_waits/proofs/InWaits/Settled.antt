-- Settled: threads by their names, once one has come, has turned, has gone, or has another name.
use Rattle.std.proofs.Common.{◌≡◌, ◌≤◌, ◌<◌, ◌^◌, ◌+◌, ℕ, suc, Bool, true, false, List, [], ◌∷◌, ◌++◌, length, length-append, map}
use Rattle.std.proofs.Common.{Option, Some, None}
use Rattle.std.proofs.Common.{is_some, if◌then◌else◌, refl, sym, ap, subst, ◌∙◌, arith}
use Rattle.std.proofs.lemmas.Bool.{or_parts}
use Rattle.fk_model.specs.declared.names.Who.{Who}
use Rattle.fk_waits.specs.Causes.Names.{is_same, key_at, HasRoom}
use Rattle.fk_waits.specs.declared.causes.names.Name.{Name}
use Rattle.fk_waits.proofs.InCauses.Order.{same_who}
use Rattle.fk_waits.specs.Causes.Causes.{first_of, is_same_cause, recaused, AreStanding, HasSeat, HasStanding, Standing}
use Rattle.fk_waits.specs.Waits.Threads.{besides, first_for, is_there, is_waited_for, is_waiting, key_of, pair_of, with_cause, with_name, AreThere, Fits}
use Rattle.fk_waits.specs.Waits.Threads.{IsNobody, IsUnused, Pairs}
use Rattle.fk_waits.specs.Waits.Threads.{StandApart}
use Rattle.fk_waits.specs.declared.causes.causes.Causes.{Causes}
use Rattle.fk_waits.specs.declared.waits.threads.Threads.{Threads}
use Rattle.fk_waits.proofs.InCauses.Shown.{shown_long}
use Rattle.fk_waits.proofs.InWaits.There.{apart_settled, besides_middle, besides_none, is_at, key_by_off, key_come, key_gone, key_moved, off_by_key, pairs_split}
use Rattle.fk_waits.proofs.InWaits.There.{waiting_middle}
use Rattle.fk_waits.proofs.InWaits.There.{apart_besides, off_besides, waiting_none, IsAt}
use Rattle.fk_waits.proofs.InWaits.Renamed.{apart_caused, apart_named, called, key_named, none_named, one_named, pairs_caused, pairs_named, with_who}

abbrev pub with_causes : Threads → Causes → Threads
with_causes t c = record { causes = c; names = t.names }

abbrev pub with_all : Threads → Causes → List Name × ℕ → Threads
with_all t c names = record { causes = c; names = names }

long_pairs : (l : List Standing) → length (map pair_of l) ≡ length l
long_pairs [] = refl
long_pairs (s ∷ l) = ap (λ (n : ℕ). suc n) (long_pairs l)

pub long_list : (t : Threads) (l : Pairs) (there : AreThere t l) → length there.list ≡ length l
long_list t l there = sym (long_pairs there.list) ∙ ap (λ (k : Pairs). length k) there.pairs

pub few_there : (t : Threads) (l : Pairs) → AreThere t l → (length t.names.0 ≤ t.causes.seats) × (length l ≤ t.causes.seats)
few_there t l there =
    let places = there.standing.placed.few in
    let shown = shown_long t.causes there.standing.places in
    let long = ap (λ (k : List Standing). length k) there.standing.shown in
    let pairs = long_pairs there.list in
    let all = ap (λ (k : Pairs). length k) there.pairs in
    (omega (arith, places, shown, long, pairs, all, there.many), omega (arith, places, shown, long, pairs, all))

-- ---- the thread with a name

record Mine (t : Threads) (thread : Who) (key : ℕ) (l : Pairs) (there : AreThere t l) : Type 0 where
  at : IsAt thread key there.list
  list_is : l ≡ map pair_of at.before ++ pair_of at.one ∷ map pair_of at.behind
  standing : AreStanding t.causes t.causes.ready (at.before ++ at.one ∷ at.behind)
  apart : StandApart (map pair_of at.before ++ pair_of at.one ∷ map pair_of at.behind)
  rest : besides thread l ≡ map pair_of at.before ++ map pair_of at.behind

mine : (t : Threads) (thread : Who) (key : ℕ) (l : Pairs) (there : AreThere t l) → Some key ≡ key_at t.names.0 thread → Mine t thread key l there
mine t thread key l there some =
    let at = is_at thread key there.list (some ∙ there.found thread) in
    let list_is = sym there.pairs ∙ ap (map pair_of) at.is ∙ pairs_split at.before (at.one ∷ at.behind) in
    let apart = subst StandApart list_is there.apart in
    record {
      at = at;
      list_is = list_is;
      standing = subst (AreStanding t.causes t.causes.ready) at.is there.standing;
      apart = apart;
      rest = ap (besides thread) list_is ∙ besides_middle thread (map pair_of at.before) (pair_of at.one) (map pair_of at.behind) apart at.same;
    }

pub has_key : (t : Threads) (thread : Who) (key : ℕ) (l : Pairs) → AreThere t l → Some key ≡ key_at t.names.0 thread → HasStanding t.causes t.causes.ready key
has_key t thread key l there some =
    let m = mine t thread key l there some in
    record { before = m.at.before; one = m.at.one; behind = m.at.behind; is = m.at.number; standing = m.standing }

pub off_there : (t : Threads) (thread : Who) (l : Pairs) → AreThere t l → None ≡ key_at t.names.0 thread → is_there thread l ≡ false
off_there t thread l there none =
    subst (λ (k : Pairs). is_there thread k ≡ false) there.pairs (off_by_key thread there.list (none ∙ there.found thread))

pub none_there : (t : Threads) (thread : Who) (l : Pairs) → AreThere t l → is_there thread l ≡ false → key_at t.names.0 thread ≡ None
none_there t thread l there off =
    there.found thread ∙ key_by_off thread there.list (subst (λ (k : Pairs). is_there thread k ≡ false) (sym there.pairs) off)

pub key_there : (t : Threads) (thread : Who) (key : ℕ) (l : Pairs) → AreThere t l → Some key ≡ key_at t.names.0 thread → is_there thread l ≡ true
key_there t thread key l there some = by (is_there thread l) refl
  where
    by : (b : Bool) → is_there thread l ≡ b → is_there thread l ≡ true
    by true e = e
    by false e = let none : Some key ≡ None = some ∙ none_there t thread l there e in absurd (cc)

pub has_seat : (t : Threads) (thread : Who) → Fits t thread → None ≡ key_at t.names.0 thread → HasSeat t.causes t.causes.ready
has_seat t thread fits none =
    let there = fits.there in
    let seat = fits.seat (off_there t thread fits.list there none) in
    let long = long_list t fits.list there in
    record { list = there.list; standing = there.standing; seat = omega (arith, seat, long) }

pub put_fits : (t : Threads) (thread : Who) → Fits t thread → None ≡ key_at t.names.0 thread → HasRoom t.names 1
put_fits t thread fits none =
    let seat = fits.seat (off_there t thread fits.list fits.there none) in
    omega (arith, seat, fits.there.many, fits.there.room)

-- ---- one turns

pub turned_there : (t : Threads) (c : Causes) (thread : Who) (cause : Option Who) (key : ℕ) → Some key ≡ key_at t.names.0 thread →
    ((a b : List Standing) (s : Standing) → AreStanding t.causes t.causes.ready (a ++ s ∷ b) → s.key ≡ key →
    AreStanding c c.ready ((a ++ b) ++ record { key = s.key; who = s.who; cause = cause } ∷ [])) → c.seats ≡ t.causes.seats →
    (l : Pairs) → AreThere t l → AreThere (with_causes t c) (besides thread l ++ (thread, cause) ∷ [])
turned_there t c thread cause key some turn seats l there =
    let m = mine t thread key l there some in
    let a = m.at.before in
    let s = m.at.one in
    let b = m.at.behind in
    let now : Standing = record { key = s.key; who = s.who; cause = cause } in
    let who = same_who s.who thread m.at.same in
    let rest = m.rest in
    let shown : map pair_of ((a ++ b) ++ now ∷ []) ≡ besides thread l ++ (thread, cause) ∷ [] =
    pairs_split (a ++ b) (now ∷ []) ∙ ap (λ (k : Pairs). k ++ (s.who, cause) ∷ []) (pairs_split a b ∙ sym rest)
    ∙ ap (λ (w : Who). besides thread l ++ (w, cause) ∷ []) who in
    let apart : StandApart (map pair_of (a ++ s ∷ b)) = subst StandApart (sym (pairs_split a (s ∷ b))) m.apart in
    let one = length-append (map pair_of a) (pair_of s ∷ map pair_of b) in
    let two = length-append (map pair_of a) (map pair_of b) in
    let three = length-append (besides thread l) ((thread, cause) ∷ []) in
    let four : length l ≡ length (map pair_of a ++ pair_of s ∷ map pair_of b) = ap (λ (k : Pairs). length k) m.list_is in
    let five : length (besides thread l) ≡ length (map pair_of a ++ map pair_of b) = ap (λ (k : Pairs). length k) rest in
    record {
      list = (a ++ b) ++ now ∷ [];
      pairs = shown;
      standing = turn a b s m.standing m.at.number;
      found = λ n. there.found n ∙ ap (key_of n) m.at.is ∙ key_moved n a s b cause apart;
      apart = apart_settled thread cause l there.apart;
      many = omega (arith, there.many, one, two, three, four, five);
      room = omega (arith, there.room, seats);
      bound = omega (arith, there.bound, seats);
    }

pub turned_waited : (t : Threads) (thread : Who) (key : ℕ) (told : Bool) → Some key ≡ key_at t.names.0 thread →
    ((a b : List Standing) (s : Standing) → AreStanding t.causes t.causes.ready (a ++ s ∷ b) → s.key ≡ key → told ≡ is_some s.cause) →
    (l : Pairs) → AreThere t l → told ≡ is_waiting thread l
turned_waited t thread key told some waited l there =
    let m = mine t thread key l there some in
    waited m.at.before m.at.behind m.at.one m.standing m.at.number
    ∙ sym (ap (is_waiting thread) m.list_is
    ∙ waiting_middle thread (map pair_of m.at.before) (pair_of m.at.one) (map pair_of m.at.behind) m.apart m.at.same)

pub come_waited : (t : Threads) (thread : Who) → None ≡ key_at t.names.0 thread → (l : Pairs) → AreThere t l → false ≡ is_waiting thread l
come_waited t thread none l there = sym (waiting_none thread l (off_there t thread l there none))

-- ---- one comes

pub come_there : (t : Threads) (c : Causes) (names : List Name × ℕ) (thread : Who) (cause : Option Who) (key : ℕ) → None ≡ key_at t.names.0 thread →
    Fits t thread →
    ((l : List Standing) → AreStanding t.causes t.causes.ready l → length l + 1 ≤ t.causes.seats →
    AreStanding c c.ready (l ++ record { key = key; who = thread; cause = cause } ∷ [])) → c.seats ≡ t.causes.seats →
    ((other : Who) → key_at names.0 other ≡ (if is_same thread other then Some key else key_at t.names.0 other)) → length names.0 ≡ length t.names.0 + 1 →
    t.names.1 ≤ names.1 → (l : Pairs) → AreThere t l → AreThere (with_all t c names) (besides thread l ++ (thread, cause) ∷ [])
come_there t c names thread cause key none fits enter seats put more wide l there =
    let off = off_there t thread l there none in
    let seat = fits.seat (off_there t thread fits.list fits.there none) in
    let long = long_list t l there in
    let rest = besides_none thread l off in
    let now : Standing = record { key = key; who = thread; cause = cause } in
    let last = length-append (besides thread l) ((thread, cause) ∷ []) in
    let five : length (besides thread l) ≡ length l = ap (λ (k : Pairs). length k) rest in
    record {
      list = there.list ++ now ∷ [];
      pairs = pairs_split there.list (now ∷ []) ∙ ap (λ (k : Pairs). k ++ (thread, cause) ∷ []) (there.pairs ∙ sym rest);
      standing = enter there.list there.standing (omega (arith, seat, long, there.many, fits.there.many));
      found = λ n. put n ∙ ap (λ (o : Option ℕ). if is_same thread n then Some key else o) (there.found n)
          ∙ key_come n there.list now (subst (λ (k : Pairs). is_there thread k ≡ false) (sym there.pairs) off);
      apart = apart_settled thread cause l there.apart;
      many = omega (arith, there.many, more, last, five);
      room = omega (arith, there.room, seats, wide);
      bound = omega (arith, there.bound, seats);
    }

-- ---- one goes

pub left_there : (t : Threads) (c : Causes) (names : List Name × ℕ) (thread : Who) (key : ℕ) → Some key ≡ key_at t.names.0 thread →
    ((a b : List Standing) (s : Standing) → AreStanding t.causes t.causes.ready (a ++ s ∷ b) → s.key ≡ key → AreStanding c c.ready (a ++ b)) →
    c.seats ≡ t.causes.seats →
    ((other : Who) → key_at names.0 other ≡ (if is_same thread other then None else key_at t.names.0 other)) → length names.0 + 1 ≡ length t.names.0 →
    t.names.1 ≡ names.1 → (l : Pairs) → AreThere t l → AreThere (with_all t c names) (besides thread l)
left_there t c names thread key some leave seats taken fewer wide l there =
    let m = mine t thread key l there some in
    let a = m.at.before in
    let s = m.at.one in
    let b = m.at.behind in
    let rest = m.rest in
    let one = length-append (map pair_of a) (pair_of s ∷ map pair_of b) in
    let two = length-append (map pair_of a) (map pair_of b) in
    let four : length l ≡ length (map pair_of a ++ pair_of s ∷ map pair_of b) = ap (λ (k : Pairs). length k) m.list_is in
    let five : length (besides thread l) ≡ length (map pair_of a ++ map pair_of b) = ap (λ (k : Pairs). length k) rest in
    let off : is_there thread (map pair_of (a ++ b)) ≡ false =
    subst (λ (k : Pairs). is_there thread k ≡ false) (rest ∙ sym (pairs_split a b)) (off_besides thread l) in
    record {
      list = a ++ b;
      pairs = pairs_split a b ∙ sym rest;
      standing = leave a b s m.standing m.at.number;
      found = λ n. taken n ∙ ap (λ (o : Option ℕ). if is_same thread n then None else o) (there.found n ∙ ap (key_of n) m.at.is)
          ∙ key_gone n thread a s b m.at.same off;
      apart = apart_besides thread l there.apart;
      many = omega (arith, there.many, fewer, one, two, four, five);
      room = omega (arith, there.room, seats, wide);
      bound = omega (arith, there.bound, seats);
    }

-- nobody goes
pub stayed_there : (t : Threads) (names : List Name × ℕ) (thread : Who) → None ≡ key_at t.names.0 thread → names ≡ t.names → (l : Pairs) → AreThere t l →
    AreThere (with_all t t.causes names) (besides thread l)
stayed_there t names thread none same l there =
    subst (λ (n : List Name × ℕ). AreThere (with_all t t.causes n) (besides thread l)) (sym same)
    (subst (AreThere t) (sym (besides_none thread l (off_there t thread l there none))) there)

-- ---- one has another name

pub named_there : (t : Threads) (c : Causes) (names : List Name × ℕ) (from to : Who) (key : ℕ) → Some key ≡ key_at t.names.0 from → IsNobody t to →
    ((a b : List Standing) (s : Standing) → AreStanding t.causes t.causes.ready (a ++ s ∷ b) → s.key ≡ key →
    AreStanding c c.ready (a ++ record { key = s.key; who = to; cause = s.cause } ∷ b)) → c.seats ≡ t.causes.seats →
    ((other : Who) → key_at names.0 other ≡ (if is_same to other then Some key else (if is_same from other then None else key_at t.names.0 other))) →
    length names.0 ≡ length t.names.0 → t.names.1 ≤ names.1 →
    (l : Pairs) → AreThere t l → AreThere (with_all t c names) (map (with_name from to) l)
named_there t c names from to key some nobody rename seats put many wide l there =
    let m = mine t from key l there some in
    let a = m.at.before in
    let s = m.at.one in
    let b = m.at.behind in
    let unused : is_there to l ≡ false = nobody_there in
    let apart : StandApart (map pair_of (a ++ s ∷ b)) = subst StandApart (sym (pairs_split a (s ∷ b))) m.apart in
    let list : a ++ called s to ∷ b ≡ map (with_who from to) there.list =
    one_named from to a s b apart m.at.same ∙ ap (map (with_who from to)) (sym m.at.is) in
    let off = subst (λ (k : Pairs). is_there to k ≡ false) (sym there.pairs) unused in
    let long = long_map l in
    record {
      list = map (with_who from to) there.list;
      pairs = pairs_named from to there.list ∙ ap (map (with_name from to)) there.pairs;
      standing = subst (AreStanding c c.ready) list (rename a b s m.standing m.at.number);
      found = λ n. put n ∙ ap (λ (o : Option ℕ). if is_same to n then Some key else (if is_same from n then None else o)) (there.found n)
          ∙ key_named from to n there.list key off (some ∙ there.found from);
      apart = apart_named from to l there.apart unused;
      many = omega (arith, there.many, many, long);
      room = omega (arith, there.room, seats, wide);
      bound = omega (arith, there.bound, seats);
    }
  where
    nobody_there : is_there to l ≡ false
    nobody_there = off_there t to l there (sym (none_there t to nobody.list nobody.there nobody.none))

    long_map : (k : Pairs) → length (map (with_name from to) k) ≡ length k
    long_map [] = refl
    long_map (x ∷ k) = ap (λ (n : ℕ). suc n) (long_map k)

pub unnamed_there : (t : Threads) (names : List Name × ℕ) (from to : Who) → None ≡ key_at t.names.0 from → names ≡ t.names → (l : Pairs) → AreThere t l →
    AreThere (with_all t t.causes names) (map (with_name from to) l)
unnamed_there t names from to none same l there =
    let off = off_by_key from there.list (none ∙ there.found from) in
    let all : map (with_name from to) l ≡ l =
    ap (map (with_name from to)) (sym there.pairs) ∙ sym (pairs_named from to there.list) ∙ ap (map pair_of) (none_named from to there.list off)
    ∙ there.pairs in
    subst (λ (n : List Name × ℕ). AreThere (with_all t t.causes n) (map (with_name from to) l)) (sym same) (subst (AreThere t) (sym all) there)

-- what the new name needs
pub put_new : (t : Threads) (names : List Name × ℕ) (from to : Who) → IsNobody t to →
    ((other : Who) → key_at names.0 other ≡ (if is_same from other then None else key_at t.names.0 other)) → key_at names.0 to ≡ None
put_new t names from to nobody taken = taken to ∙ by (is_same from to) refl
  where
    by : (b : Bool) → is_same from to ≡ b → (if is_same from to then None else key_at t.names.0 to) ≡ None
    by true e = rw e refl
    by false e = rw e (none_there t to nobody.list nobody.there nobody.none)

pub put_one : (t : Threads) (names : List Name × ℕ) (to : Who) → IsNobody t to → length names.0 + 1 ≡ length t.names.0 → t.names.1 ≡ names.1 → HasRoom names 1
put_one t names to nobody fewer wide =
    let there = nobody.there in
    let few = few_there t nobody.list there in
    omega (arith, fewer, wide, few.0, there.room)

pub named_put : (t : Threads) (names after : List Name × ℕ) (from to : Who) (key : ℕ) →
    ((other : Who) → key_at names.0 other ≡ (if is_same from other then None else key_at t.names.0 other)) →
    ((other : Who) → key_at after.0 other ≡ (if is_same to other then Some key else key_at names.0 other)) →
    (other : Who) → key_at after.0 other ≡ (if is_same to other then Some key else (if is_same from other then None else key_at t.names.0 other))
named_put t names after from to key taken put other = put other ∙ ap (λ (o : Option ℕ). if is_same to other then Some key else o) (taken other)

-- ---- a cause has another name

pub caused_there : (t : Threads) (c : Causes) (from to : Who) →
    ((l : List Standing) → AreStanding t.causes t.causes.ready l → AreStanding c c.ready (map (recaused from to) l)) → c.seats ≡ t.causes.seats →
    (l : Pairs) → AreThere t l → AreThere (with_causes t c) (map (with_cause from to) l)
caused_there t c from to rename seats l there =
    let long = long_map l in
    record {
      list = map (recaused from to) there.list;
      pairs = pairs_caused from to there.list ∙ ap (map (with_cause from to)) there.pairs;
      standing = rename there.list there.standing;
      found = λ n. there.found n ∙ same_key n there.list;
      apart = apart_caused from to l there.apart;
      many = omega (arith, there.many, long);
      room = omega (arith, there.room, seats);
      bound = omega (arith, there.bound, seats);
    }
  where
    same_key : (n : Who) (k : List Standing) → key_of n k ≡ key_of n (map (recaused from to) k)
    same_key n [] = refl
    same_key n (s ∷ k) = ap (λ (o : Option ℕ). if is_same s.who n then Some s.key else o) (same_key n k)

    long_map : (k : Pairs) → length (map (with_cause from to) k) ≡ length k
    long_map [] = refl
    long_map (x ∷ k) = ap (λ (n : ℕ). suc n) (long_map k)

-- nobody waits for a cause
pub nobody_first : (cause : Who) (l : List Standing) → is_waited_for cause (map pair_of l) ≡ false → first_of (Some cause) l ≡ None
nobody_first cause [] none = refl
nobody_first cause (s ∷ l) none =
    let both = or_parts (is_same_cause s.cause (Some cause)) (is_waited_for cause (map pair_of l)) none in
    rw both.0 (nobody_first cause l both.1)

pub nobody_waits : (t : Threads) (cause : Who) (u : IsUnused t cause) → first_of (Some cause) u.there.list ≡ None
nobody_waits t cause u = nobody_first cause u.there.list (subst (λ (k : Pairs). is_waited_for cause k ≡ false) (sym u.there.pairs) u.none)

-- ---- who is first

pub first_there : (t : Threads) (cause : Option Who) (found : Option Who) →
    ((k : List Standing) → AreStanding t.causes t.causes.ready k → found ≡ first_of cause k) → (l : Pairs) → AreThere t l → found ≡ first_for cause l
first_there t cause found first l there = first there.list there.standing ∙ all there.list ∙ ap (first_for cause) there.pairs
  where
    all : (k : List Standing) → first_of cause k ≡ first_for cause (map pair_of k)
    all [] = refl
    all (s ∷ k) = ap (λ (o : Option Who). if is_same_cause s.cause cause then Some s.who else o) (all k)

-- ---- more room

pub more_there : (t : Threads) (c : Causes) (names : List Name × ℕ) →
    ((l : List Standing) → AreStanding t.causes t.causes.ready l → AreStanding c c.ready l) → names.0 ≡ t.names.0 → c.seats ≤ names.1 → c.seats < 2 ^ 62 →
    (l : Pairs) → AreThere t l → AreThere (with_all t c names) l
more_there t c names kept same room bound l there = record {
  list = there.list;
  pairs = there.pairs;
  standing = kept there.list there.standing;
  found = λ n. ap (λ (k : List Name). key_at k n) same ∙ there.found n;
  apart = there.apart;
  many = ap (λ (k : List Name). length k) same ∙ there.many;
  room = room;
  bound = bound;
}

pub wider_there : (t : Threads) (c : Causes) (names : List Name × ℕ) →
    ((l : List Standing) → AreStanding t.causes t.causes.ready l → AreStanding c c.ready l) → names.0 ≡ t.names.0 → t.names.1 ≤ names.1 →
    c.seats ≡ t.causes.seats → (l : Pairs) → AreThere t l → AreThere (with_all t c names) l
wider_there t c names kept same wide seats l there =
    more_there t c names kept same (omega (arith, there.room, wide, seats)) (omega (arith, there.bound, seats)) l there

-- nobody yet
pub none_yet : (c : Causes) (names : List Name × ℕ) → AreStanding c c.ready [] → c.seats ≡ 0 → names.0 ≡ [] → AreThere (record { causes = c; names = names }) []
none_yet c names standing seats empty = record {
  list = [];
  pairs = refl;
  standing = standing;
  found = λ n. ap (λ (k : List Name). key_at k n) empty;
  apart = tt;
  many = ap (λ (k : List Name). length k) empty;
  room = omega (arith, seats);
  bound = omega (arith, seats);
}
