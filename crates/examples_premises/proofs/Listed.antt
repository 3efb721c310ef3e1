-- What is tested of each object that a world lists holds of the world: that it is valid, whole, plain and savable.
use Rattle.std.proofs.Common.{◌≡◌, ℕ, ◌+◌, ◌<◌, ◌≤◌, eqb, ltb, nat_le, Bool, true, false, not, ◌&&◌, ◌||◌, cond, IsSome, is_some, is_none, List, [], ◌∷◌, ◌++◌}
use Rattle.std.proofs.Common.{length, Option, Some, None, option_map, refl, sym, subst, ◌∙◌, arith}
use Rattle.std.specs.List.{list_all, list_any}
use Rattle.std.proofs.lemmas.Bool.{and_parts, eqb-true, leb-true, ltb-true}
use Rattle.fk_model.specs.declared.limits.TheConstants.{SLOTS, PAGES, PAGE_WORDS, MOST_STOPS, MOST_MOVED}
use Rattle.fk_model.specs.declared.names.Kind.TheVariants as kinds
use Rattle.fk_model.specs.Places.{Path, same_path, strip, is_within, parent, Ptr}
use Rattle.fk_model.specs.Places.Ptr.{At}
use Rattle.fk_model.specs.Objects.{Peer, Talk, Fault, Thread, Body, registers_of, kind_of, thread_of, and_then, holds, is_served, flag_of}
use Rattle.fk_model.specs.Objects.Peer.{Server, Service, Parked}
use Rattle.fk_model.specs.Objects.Body.{Space, Thread_of}
use Rattle.fk_model.specs.World.{World, serves}
use Rattle.fk_model.specs.Searches.{depth, talk_at, fault_at, pointers}
use Rattle.fk_model.specs.Holds.{holder_of}
use Rattle.fk_model.specs.StateRows.{is_native}
use Rattle.fk_model.specs.Valid.{kind_there, all_in, is_good, birth_of, birth_at, is_served_port, HasService, services, lies_with, IsConsistent, IsRooted}
use Rattle.fk_model.specs.Valid.{HasPlace, IsPaged, IsValid}
use Rattle.fk_model.specs.Shapes.{IsShapedMode, IsCodeInRange}
use Rattle.fk_model.specs.Whole.{is_placed, stands_in, is_scratch_slot, is_porters, is_word, are_words, HasNumbers, IsWhole, IsSavable}
use Rattle.fk_model.specs.Cut.{ports_of, cutting, seen_by, unheld, cut, is_far, has_far, is_served_by, IsPlain}
use Rattle.fk_model.proofs.walks.PlaceLaws.{same_path_eq, strip-append}
use Rattle.examples_moves.specs.Worked.{Page, body_in, page_among}

-- ---- lists

pub found : (test : Path → Body → Bool) (es : List (Path × Body)) →
    list_all (λ e. test e.0 e.1) es ≡ true → (x : Path) (b : Body) → body_in es x ≡ Some b → test x b ≡ true
unfolding body_in
found test [] all x b there = cc
found test (e ∷ es) all x b there =
    let each : (test e.0 e.1 ≡ true) × (list_all (λ e. test e.0 e.1) es ≡ true) = and_parts (test e.0 e.1) _ all in
    by each.0 (same_path e.0 x) refl there (found test es each.1 x b)
  where
    by : test e.0 e.1 ≡ true →
        (t : Bool) → same_path e.0 x ≡ t → cond t (Some e.1) (body_in es x) ≡ Some b → (body_in es x ≡ Some b → test x b ≡ true) → test x b ≡ true
    by first true same here later = let place = same_path_eq e.0 x same in let what : e.1 ≡ b = cc in rw (← place, ← what) first
    by first false same here later = later here

abbrev pub All : (Path → Body → Type 0) → List (Path × Body) → Type 0
All P [] = Unit {0}
All P (e ∷ es) = P e.0 e.1 × All P es

pub found_of : (P : Path → Body → Type 0) (es : List (Path × Body)) → All P es → (x : Path) (b : Body) → body_in es x ≡ Some b → P x b
unfolding body_in
found_of P [] all x b there = cc
found_of P (e ∷ es) all x b there = by (same_path e.0 x) refl there (found_of P es all.1 x b)
  where
    by : (t : Bool) → same_path e.0 x ≡ t → cond t (Some e.1) (body_in es x) ≡ Some b → (body_in es x ≡ Some b → P x b) → P x b
    by true same here later = let place = same_path_eq e.0 x same in let what : e.1 ≡ b = cc in subst (λ (y : Path). P y b) place (subst (P e.0) what all.0)
    by false same here later = later here

abbrev IsPage : (Page → Bool) → Path → ℕ → List ℕ → Type 0
IsPage test s g words = (p : Page) × (test p ≡ true) × (p.space ≡ s) × (p.page ≡ g) × (p.words ≡ words)

page_found : (test : Page → Bool) (ps : List Page) →
    list_all test ps ≡ true → (s : Path) (g : ℕ) (words : List ℕ) → page_among ps s g ≡ Some words → IsPage test s g words
unfolding page_among
page_found test [] all s g words there = cc
page_found test (p ∷ ps) all s g words there =
    let each : (test p ≡ true) × (list_all test ps ≡ true) = and_parts (test p) _ all in
    by each.0 (same_path p.space s) refl (eqb p.page g) refl there (page_found test ps each.1 s g words)
  where
    by : test p ≡ true → (t : Bool) → same_path p.space s ≡ t → (r : Bool) → eqb p.page g ≡ r →
        cond (t && r) (Some p.words) (page_among ps s g) ≡ Some words → (page_among ps s g ≡ Some words → IsPage test s g words) → IsPage test s g words
    by first true e true f here later = (p, first, same_path_eq p.space s e, eqb-true p.page g f, cc)
    by first true e false f here later = later here
    by first false e r f here later = later here

-- ---- what is tested of an object. `home` says where the space of a birth number stands, `whom` whose talk or fault a
-- thread serves, and `only` who the one client of native servers is

abbrev is_space : Option Body → Bool
is_space (Some (Space birth holder)) = true
is_space other = false

abbrev is_housed : World → Path → Bool
is_housed w [] = true
is_housed w (k ∷ s) = is_space (w.body s) && ltb k SLOTS

abbrev is_born : World → (ℕ → Path) → Path → Body → Bool
is_born w home x (Space birth holder) = same_path (home birth) x && ltb birth w.next
is_born w home x other = true

abbrev lies_near : Ptr → Path → Bool
lies_near (At port) server = same_path (parent server) (parent port)
lies_near other server = true

abbrev serves_well : (Path → Path) → Path → Ptr → Peer → Bool
serves_well whom x port (Server (At server)) = same_path (whom server) x && lies_near port server
serves_well whom x port other = true

abbrev is_native_well : World → Path → Path → Ptr → Peer → Bool
is_native_well w only x port Service = is_served_port w port && same_path only x
is_native_well w only x port other = true

abbrev talks_well : World → (Path → Path) → Path → Path → Talk → Bool
talks_well w whom only x talk = serves_well whom x talk.port talk.peer && is_native_well w only x talk.port talk.peer

abbrev faults_well : (Path → Path) → Path → Fault → Bool
faults_well whom x fault = all_in (serves_well whom x fault.port) fault.taker

abbrev joins_well : World → (Path → Path) → Path → Path → Body → Bool
joins_well w whom only x (Thread_of t) = all_in (talks_well w whom only x) t.talk && all_in (faults_well whom x) t.fault && (is_none t.talk || is_none t.fault)
joins_well w whom only x other = true

abbrev pub is_well : World → (ℕ → Path) → (Path → Path) → Path → Path → Body → Bool
is_well w home whom only x b = is_housed w x && is_good (kind_there w) x b && is_born w home x b && joins_well w whom only x b

abbrev pub is_page_well : World → Page → Bool
is_page_well w p = is_space (w.body p.space) && ltb p.page PAGES && eqb (length p.words) PAGE_WORDS

-- ---- a world whose objects pass is valid

space_is : (o : Option Body) → is_space o ≡ true → option_map kind_of o ≡ Some kinds.Space
space_is (Some (Space birth holder)) h = refl
space_is None h = cc
space_is (Some b) h = cc

no_talk : {A : Type 0} (f : Thread → Option A) (o : Option Body) (a : A) →
    and_then f (and_then thread_of o) ≡ Some a → (t : Thread) × (o ≡ Some (Thread_of t)) × (f t ≡ Some a)
no_talk f (Some (Thread_of t)) a h = (t, refl, h)
no_talk f None a h = cc
no_talk f (Some b) a h = cc

abbrev pub has_place : World → Page → Bool
has_place w p = is_space (w.body p.space) && ltb p.page PAGES

pub paged_list : (w : World) (ps : List Page) → ((s : Path) (g : ℕ) → w.page s g ≡ page_among ps s g) → list_all (has_place w) ps ≡ true → IsPaged w
unfolding kind_there
paged_list w ps pages all s g there = by (page_among ps s g) refl (subst (λ (o : Option (List ℕ)). IsSome o) (pages s g) there)
  where
    by : (o : Option (List ℕ)) → page_among ps s g ≡ o → IsSome o → HasPlace w s g
    by (Some words) e h =
        let its = page_found (has_place w) ps all s g words e in
        let both = and_parts (is_space (w.body its.0.space)) (ltb its.0.page PAGES) its.1 in
        record {
          space = space_is (w.body s) (subst (λ (v : Path). is_space (w.body v) ≡ true) its.2 both.0);
          number = subst (λ (v : ℕ). v < PAGES) its.3 (ltb-true its.0.page PAGES both.1);
        }
    by None e h = cc

module _ (w : World) (es : List (Path × Body)) (ps : List Page) (bodies : (x : Path) → w.body x ≡ body_in es x)
    (pages : (s : Path) (g : ℕ) → w.page s g ≡ page_among ps s g) (home : ℕ → Path) (whom : Path → Path) (only : Path) (top : w.body [] ≡ Some (Space 0 None))
    (all : list_all (λ e. is_well w home whom only e.0 e.1) es ≡ true) (all_pages : list_all (is_page_well w) ps ≡ true) where
  record Is (x : Path) (b : Body) : Type 0 where
    housed : is_housed w x ≡ true
    good : is_good (kind_there w) x b ≡ true
    born : is_born w home x b ≡ true
    joins : joins_well w whom only x b ≡ true

  each : (x : Path) (b : Body) → w.body x ≡ Some b → Is x b
  each x b there =
      let its = found (is_well w home whom only) es all x b (sym (bodies x) ∙ there) in
      let a = and_parts (is_housed w x && is_good (kind_there w) x b && is_born w home x b) (joins_well w whom only x b) its in
      let c = and_parts (is_housed w x && is_good (kind_there w) x b) (is_born w home x b) a.0 in
      let d = and_parts (is_housed w x) (is_good (kind_there w) x b) c.0 in
      record { housed = d.0; good = d.1; born = c.1; joins = a.1 }

  some : (o : Option Body) → IsSome o → (b : Body) × (o ≡ Some b)
  some (Some b) h = (b, refl)
  some None h = cc

  housed_at : (k : ℕ) (x : Path) → IsSome (w.body (k ∷ x)) → (is_space (w.body x) ≡ true) × (ltb k SLOTS ≡ true)
  housed_at k x h = let there = some (w.body (k ∷ x)) h in and_parts (is_space (w.body x)) (ltb k SLOTS) (each (k ∷ x) there.0 there.1).housed

  good_at : (x : Path) → all_in (is_good (kind_there w) x) (w.body x) ≡ true
  good_at x = by (w.body x) refl
    where
      by : (o : Option Body) → w.body x ≡ o → all_in (is_good (kind_there w) x) o ≡ true
      by None e = refl
      by (Some b) e = (each x b e).good

  birth_is : (x : Path) (birth : ℕ) → birth_at w x ≡ Some birth → (home birth ≡ x) × (birth < w.next)
  birth_is x birth h = by (w.body x) refl h
    where
      by : (o : Option Body) → w.body x ≡ o → and_then birth_of o ≡ Some birth → (home birth ≡ x) × (birth < w.next)
      by (Some (Space n holder)) e h =
          let same : n ≡ birth = cc in
          let both = and_parts (same_path (home n) x) (ltb n w.next) (each x (Space n holder) e).born in
          rw (← same) (same_path_eq (home n) x both.0, ltb-true n w.next both.1)
      by None e h = cc
      by (Some b) e h = cc

  joined : (x : Path) (t : Thread) → w.body x ≡ Some (Thread_of t) →
      (all_in (talks_well w whom only x) t.talk ≡ true) × (all_in (faults_well whom x) t.fault ≡ true) × ((is_none t.talk || is_none t.fault) ≡ true)
  joined x t there =
      let a = and_parts (all_in (talks_well w whom only x) t.talk && all_in (faults_well whom x) t.fault)
      (is_none t.talk || is_none t.fault) (each x (Thread_of t) there).joins in
      let c = and_parts (all_in (talks_well w whom only x) t.talk) (all_in (faults_well whom x) t.fault) a.0 in
      (c.0, c.1, a.1)

  talk_is : (x : Path) (talk : Talk) →
      talk_at w x ≡ Some talk → (serves_well whom x talk.port talk.peer ≡ true) × (is_native_well w only x talk.port talk.peer ≡ true)
  talk_is x talk h =
      let there = no_talk (λ (t : Thread). t.talk) (w.body x) talk h in
      and_parts (serves_well whom x talk.port talk.peer) _ (rw there.2 at (joined x there.0 there.1).0)

  fault_is : (x : Path) (fault : Fault) → fault_at w x ≡ Some fault → faults_well whom x fault ≡ true
  fault_is x fault h = let there = no_talk (λ (t : Thread). t.fault) (w.body x) fault h in rw there.2 at (joined x there.0 there.1).1

  native_is : (x : Path) (port : Ptr) → HasService w x port → (is_served_port w port ≡ true) × (only ≡ x)
  native_is x port has =
      let its = rw (has.2, has.3) at (talk_is x has.0 has.1).1 in
      let both = and_parts (is_served_port w port) (same_path only x) its in
      (both.0, same_path_eq only x both.1)

  near_is : (x : Path) (port server : Ptr) → serves_well whom x port (Server server) ≡ true → lies_with port server
  near_is x (At port) (At server) h = same_path_eq (parent server) (parent port) (and_parts (same_path (whom server) x) _ h).1
  near_is x port server h = tt

  whom_is : (x server : Path) (port : Ptr) (peer : Peer) → serves_well whom x port peer ≡ true → serves server peer ≡ true → whom server ≡ x
  whom_is x server port (Server (At s)) h g = let same = same_path_eq s server g in
      rw (← same) (same_path_eq (whom s) x (and_parts (same_path (whom s) x) _ h).0)
  whom_is x server port (Server p) h g = cc
  whom_is x server port Service h g = cc
  whom_is x server port Parked h g = cc

  talk_serves : (x server : Path) (o : Option Talk) → talk_at w x ≡ o → holds (λ (talk : Talk). serves server talk.peer) o ≡ true → whom server ≡ x
  talk_serves x server (Some talk) e h = whom_is x server talk.port talk.peer (talk_is x talk e).0 h
  talk_serves x server None e h = cc

  fault_serves : (x server : Path) (o : Option Fault) →
      fault_at w x ≡ o → holds (λ (fault : Fault). holds (serves server) fault.taker) o ≡ true → whom server ≡ x
  fault_serves x server (Some fault) e h = by fault.taker (fault_is x fault e) h
    where
      by : (p : Option Peer) → all_in (serves_well whom x fault.port) p ≡ true → holds (serves server) p ≡ true → whom server ≡ x
      by (Some taker) g h = whom_is x server fault.port taker g h
      by None g h = cc
  fault_serves x server None e h = cc

  serving_is : (server x : Path) → 0 < services w server x → whom server ≡ x
  serving_is server x = by (holds (λ (talk : Talk). serves server talk.peer) (talk_at w x))
      refl (holds (λ (fault : Fault). holds (serves server) fault.taker) (fault_at w x)) refl
    where
      by : (a : Bool) → holds (λ (talk : Talk). serves server talk.peer) (talk_at w x) ≡ a →
          (b : Bool) → holds (λ (fault : Fault). holds (serves server) fault.taker) (fault_at w x) ≡ b → 0 < flag_of a + flag_of b → whom server ≡ x
      by true e b f h = talk_serves x server (talk_at w x) refl e
      by false e true f h = fault_serves x server (fault_at w x) refl f
      by false e false f h = absurd (omega (arith, h))

  at_most : (a : Bool) → flag_of a ≤ 1
  at_most true = omega arith
  at_most false = omega arith

  serves_one : (server x : Path) → services w server x ≤ 1
  serves_one server x = by (w.body x) refl
    where
      two : (o : Option Talk) (p : Option Fault) → (is_none o || is_none p) ≡ true →
          flag_of (holds (λ (talk : Talk). serves server talk.peer) o) + flag_of (holds (λ (fault : Fault). holds (serves server) fault.taker) p) ≤ 1
      two None p h = omega (arith, at_most (holds (λ (fault : Fault). holds (serves server) fault.taker) p))
      two (Some talk) None h = omega (arith, at_most (serves server talk.peer))
      two (Some talk) (Some fault) h = cc

      by : (o : Option Body) → w.body x ≡ o →
          flag_of (holds (λ (talk : Talk). serves server talk.peer) (and_then (λ (t : Thread). t.talk) (and_then thread_of o)))
          + flag_of (holds (λ (fault : Fault). holds (serves server) fault.taker) (and_then (λ (t : Thread). t.fault) (and_then thread_of o))) ≤ 1
      by (Some (Thread_of t)) e = two t.talk t.fault (joined x t e).2
      by None e = omega arith
      by (Some b) e = omega arith

  consistent : IsConsistent w
  unfolding kind_there
  consistent = record {
    parents = λ k x h. space_is (w.body x) (housed_at k x h).0;
    good = good_at;
    apart = λ x y birth h g. sym (birth_is x birth h).0 ∙ (birth_is y birth g).0;
    born = λ x birth h. (birth_is x birth h).1;
    served = λ x port has. (native_is x port has).0;
    one_client = λ x y port has got. sym (native_is x port has).1 ∙ (native_is y port got).1;
    talks_near = λ x talk server h g. near_is x talk.port server (rw g at (talk_is x talk h).0);
    faults_near = λ x fault taker h g. near_is x fault.port taker (rw g at (fault_is x fault h));
    one_service = λ server x y h g. sym (serving_is server x h) ∙ serving_is server y g;
    one_each = serves_one;
  }

  rooted : IsRooted w
  unfolding kind_there
  rooted = record { root = rw top refl; slots = λ k x h. ltb-true k SLOTS (housed_at k x h).1 }

  page_is : (s : Path) (g : ℕ) (words : List ℕ) → w.page s g ≡ Some words → (is_space (w.body s) ≡ true) × (g < PAGES) × (length words ≡ PAGE_WORDS)
  page_is s g words h =
      let its = page_found (is_page_well w) ps all_pages s g words (sym (pages s g) ∙ h) in
      let a = and_parts (is_space (w.body its.0.space) && ltb its.0.page PAGES) (eqb (length its.0.words) PAGE_WORDS) its.1 in
      let b = and_parts (is_space (w.body its.0.space)) (ltb its.0.page PAGES) a.0 in (
        subst (λ (v : Path). is_space (w.body v) ≡ true) its.2 b.0,
        subst (λ (v : ℕ). v < PAGES) its.3 (ltb-true its.0.page PAGES b.1),
        subst (λ (v : List ℕ). length v ≡ PAGE_WORDS) its.4 (eqb-true (length its.0.words) PAGE_WORDS a.1),
      )

  paged : IsPaged w
  unfolding kind_there
  paged s g there = by (w.page s g) refl there
    where
      by : (o : Option (List ℕ)) → w.page s g ≡ o → IsSome o → HasPlace w s g
      by (Some words) e h = let its = page_is s g words e in record { space = space_is (w.body s) its.0; number = its.1 }
      by None e h = cc

  pub valid : IsValid w
  valid = record { consistent = consistent; rooted = rooted; paged = paged }

  pub whole : w.next ≤ depth → IsWhole w
  whole few = record { valid = valid; few = few; full = λ s g words h. (page_is s g words h).2 }

-- ---- and plain, where the subtree's objects pass another test

-- of one outside, and of one at q in the subtree
abbrev is_plain_by : World → Path → ℕ → Body → Option Path → Bool
is_plain_by w nester slot b None = not (is_served_by (slot ∷ nester) (Some b))
is_plain_by w nester slot b (Some q) =
    not (is_native b) && not (is_served b) && not (list_any is_far (pointers (unheld q (seen_by (cutting (ports_of w nester slot) nester slot) b))))

abbrev pub is_plain_at : World → Path → ℕ → Path → Body → Bool
is_plain_at w nester slot x b = is_plain_by w nester slot b (strip (slot ∷ nester) x)

is_not : (b : Bool) → not b ≡ true → b ≡ false
is_not true h = cc
is_not false h = refl

module _ (w : World) (es : List (Path × Body))
    (bodies : (x : Path) → w.body x ≡ body_in es x) (nester : Path) (slot : ℕ) (all : list_all (λ e. is_plain_at w nester slot e.0 e.1) es ≡ true) where
  abbrev root : Path
  root = slot ∷ nester

  record IsPlainHere (q : Path) (b : Body) : Type 0 where
    user : is_native b ≡ false
    unserved : is_served b ≡ false
    near : list_any is_far (pointers (unheld q (seen_by (cutting (ports_of w nester slot) nester slot) b))) ≡ false

  at_place : (x : Path) (b : Body) → w.body x ≡ Some b → is_plain_at w nester slot x b ≡ true
  at_place x b there = found (is_plain_at w nester slot) es all x b (sym (bodies x) ∙ there)

  inside : (q : Path) (b : Body) → w.body (q ++ root) ≡ Some b → IsPlainHere q b
  inside q b there =
      let its = rw (strip-append root q) at (at_place (q ++ root) b there) in
      let a = and_parts (not (is_native b) && not (is_served b)) _ its in
      let c = and_parts (not (is_native b)) (not (is_served b)) a.0 in
      record { user = is_not _ c.0; unserved = is_not _ c.1; near = is_not _ a.1 }

  none_holds : (test : Body → Bool) (q : Path) → ((b : Body) → w.body (q ++ root) ≡ Some b → test b ≡ false) → holds test (w.body (q ++ root)) ≡ false
  none_holds test q each = by (w.body (q ++ root)) refl
    where
      by : (o : Option Body) → w.body (q ++ root) ≡ o → holds test o ≡ false
      by None e = refl
      by (Some b) e = each b e

  near : (q : Path) → has_far ((cut w nester slot).body q) ≡ false
  unfolding cut
  near q = by (w.body (q ++ root)) refl
    where
      by : (o : Option Body) →
          w.body (q ++ root) ≡ o → has_far (option_map (λ b. unheld q (seen_by (cutting (ports_of w nester slot) nester slot) b)) o) ≡ false
      by None e = refl
      by (Some b) e = (inside q b e).near

  pub plain : (birth : ℕ) (holder : Option Ptr) → w.body root ≡ Some (Space birth holder) → IsPlain w nester slot
  plain birth holder top = record {
    birth = birth;
    holder = holder;
    root = top;
    near = near;
    no_porter = λ q. none_holds is_native q (λ b there. (inside q b there).user);
    unserved = λ q. none_holds is_served q (λ b there. (inside q b there).unserved);
    served_inside = λ x out. by x out (w.body x) refl;
  }
    where
      outside : (b : Body) (o : Option Path) → is_some o ≡ false → is_plain_by w nester slot b o ≡ true → is_served_by root (Some b) ≡ false
      outside b None out h = is_not _ h
      outside b (Some q) out h = cc

      by : (x : Path) → is_within root x ≡ false → (o : Option Body) → w.body x ≡ o → is_served_by root o ≡ false
      by x out None e = refl
      by x out (Some b) e = outside b (strip root x) out (at_place x b e)

-- ---- and savable

abbrev pub IsShapedAt : Path → Body → Type 0
IsShapedAt x (Thread_of t) = IsShapedMode t.mode × IsCodeInRange t.mode × (t.stops ≤ MOST_STOPS)
IsShapedAt x other = Unit {0}

abbrev is_younger : World → Path → Body → Bool
is_younger w (k ∷ s) (Space birth holder) = holds (λ b. holds (λ above. ltb above birth) (birth_of b)) (w.body s)
is_younger w x other = true

abbrev is_held_from_outside : Path → Body → Bool
is_held_from_outside x (Space birth (Some (At y))) = not (is_within x y)
is_held_from_outside x other = true

abbrev joins_in_place : World → Body → Bool
joins_in_place w (Thread_of t) =
    all_in (λ (talk : Talk). is_placed w talk.port talk.peer) t.talk && all_in (λ (fault : Fault). all_in (is_placed w fault.port) fault.taker) t.fault
joins_in_place w other = true

abbrev stands_well : Path → Body → Bool
stands_well [] b = true
stands_well (k ∷ s) b = stands_in k b

abbrev keeps_scratch : World → Path → Bool
keeps_scratch w [] = true
keeps_scratch w (k ∷ s) = not (is_scratch_slot k) || is_porters w s

abbrev has_numbers : Body → Bool
has_numbers (Thread_of t) =
    are_words (registers_of t.mode) && is_word t.counter
    && all_in (λ (talk : Talk). nat_le talk.moved MOST_MOVED) t.talk && all_in (λ (fault : Fault). ltb fault.page PAGES) t.fault
has_numbers other = true

abbrev pub is_savable_at : World → Path → Body → Bool
is_savable_at w x b =
    is_younger w x b && is_held_from_outside x b && joins_in_place w b && stands_well x b && keeps_scratch w x && has_numbers b

module _ (w : World) (es : List (Path × Body)) (ps : List Page) (bodies : (x : Path) → w.body x ≡ body_in es x)
    (pages : (s : Path) (g : ℕ) → w.page s g ≡ page_among ps s g) (all : list_all (λ e. is_savable_at w e.0 e.1) es ≡ true)
    (all_pages : list_all (λ (p : Page). are_words p.words) ps ≡ true) (shapes : All IsShapedAt es) where
  record IsSavableHere (x : Path) (b : Body) : Type 0 where
    younger : is_younger w x b ≡ true
    held : is_held_from_outside x b ≡ true
    joins : joins_in_place w b ≡ true
    stands : stands_well x b ≡ true
    scratch : keeps_scratch w x ≡ true
    numbers : has_numbers b ≡ true

  here : (x : Path) (b : Body) → w.body x ≡ Some b → IsSavableHere x b
  here x b there =
      let its = found (is_savable_at w) es all x b (sym (bodies x) ∙ there) in
      let f = and_parts (is_younger w x b && is_held_from_outside x b && joins_in_place w b && stands_well x b && keeps_scratch w x) (has_numbers b) its in
      let e = and_parts (is_younger w x b && is_held_from_outside x b && joins_in_place w b && stands_well x b) (keeps_scratch w x) f.0 in
      let a = and_parts (is_younger w x b && is_held_from_outside x b && joins_in_place w b) (stands_well x b) e.0 in
      let c = and_parts (is_younger w x b && is_held_from_outside x b) (joins_in_place w b) a.0 in
      let d = and_parts (is_younger w x b) (is_held_from_outside x b) c.0 in
      record { younger = d.0; held = d.1; joins = c.1; stands = a.1; scratch = e.1; numbers = f.1 }

  thread_there : (x : Path) (t : Thread) → and_then thread_of (w.body x) ≡ Some t → w.body x ≡ Some (Thread_of t)
  thread_there x t h = by (w.body x) h
    where
      by : (o : Option Body) → and_then thread_of o ≡ Some t → o ≡ Some (Thread_of t)
      by (Some (Thread_of u)) h = cc
      by None h = cc
      by (Some b) h = cc

  shaped_at : (x : Path) (t : Thread) → and_then thread_of (w.body x) ≡ Some t → IsShapedMode t.mode × IsCodeInRange t.mode × (t.stops ≤ MOST_STOPS)
  shaped_at x t h = found_of IsShapedAt es shapes x (Thread_of t) (sym (bodies x) ∙ thread_there x t h)

  is_young : (k : ℕ) (x : Path) (birth above : ℕ) → birth_at w (k ∷ x) ≡ Some birth → birth_at w x ≡ Some above → above < birth
  is_young k x birth above h g = by (w.body (k ∷ x)) refl h
    where
      of_above : (o : Option Body) → and_then birth_of o ≡ Some above → holds (λ b. holds (λ n. ltb n birth) (birth_of b)) o ≡ true → above < birth
      of_above (Some (Space n holder)) e i = let same : n ≡ above = cc in rw (← same) (ltb-true n birth i)
      of_above None e i = cc
      of_above (Some b) e i = cc

      by : (o : Option Body) → w.body (k ∷ x) ≡ o → and_then birth_of o ≡ Some birth → above < birth
      by (Some (Space n holder)) e h = let same : n ≡ birth = cc in of_above (w.body x) g (rw same at (here (k ∷ x) (Space n holder) e).younger)
      by None e h = cc
      by (Some b) e h = cc

  holder_apart : (x y : Path) → holder_of (w.body x) ≡ Some (At y) → is_within x y ≡ false
  holder_apart x y h = by (w.body x) refl h
    where
      by : (o : Option Body) → w.body x ≡ o → holder_of o ≡ Some (At y) → is_within x y ≡ false
      by (Some (Space birth (Some (At z)))) e h = let same : z ≡ y = cc in is_not _ (rw same at (here x (Space birth (Some (At z))) e).held)
      by (Some (Space birth None)) e h = cc
      by (Some (Space birth (Some p))) e h = cc
      by None e h = cc
      by (Some b) e h = cc

  joined_at : (x : Path) (t : Thread) → w.body x ≡ Some (Thread_of t) → (all_in (λ (talk : Talk). is_placed w talk.port talk.peer) t.talk ≡ true) ×
      (all_in (λ (fault : Fault). all_in (is_placed w fault.port) fault.taker) t.fault ≡ true)
  joined_at x t there = and_parts (all_in (λ (talk : Talk). is_placed w talk.port talk.peer) t.talk) _ (here x (Thread_of t) there).joins

  -- the numbers of a thread that is there
  record AreInRange (t : Thread) : Type 0 where
    registers : are_words (registers_of t.mode) ≡ true
    counter : is_word t.counter ≡ true
    moved : all_in (λ (talk : Talk). nat_le talk.moved MOST_MOVED) t.talk ≡ true
    missing : all_in (λ (fault : Fault). ltb fault.page PAGES) t.fault ≡ true

  in_range : (x : Path) (t : Thread) → w.body x ≡ Some (Thread_of t) → AreInRange t
  in_range x t there =
      let a = and_parts (are_words (registers_of t.mode) && is_word t.counter && all_in (λ (talk : Talk). nat_le talk.moved MOST_MOVED) t.talk) _
      (here x (Thread_of t) there).numbers in
      let b = and_parts (are_words (registers_of t.mode) && is_word t.counter) _ a.0 in
      let c = and_parts (are_words (registers_of t.mode)) (is_word t.counter) b.0 in
      record { registers = c.0; counter = c.1; moved = b.1; missing = a.1 }

  scratch_at : (k : ℕ) (x : Path) → is_scratch_slot k ≡ true → IsSome (w.body (k ∷ x)) → is_porters w x ≡ true
  scratch_at k x scratch live = by (w.body (k ∷ x)) refl live
    where
      by : (o : Option Body) → w.body (k ∷ x) ≡ o → IsSome o → is_porters w x ≡ true
      by None e h = cc
      by (Some b) e h = let its = (here (k ∷ x) b e).scratch in rw scratch at its

  numbers : HasNumbers w
  numbers = record {
    registers = λ x t h. (in_range x t (thread_there x t h)).registers;
    counters = λ x t h. (in_range x t (thread_there x t h)).counter;
    moved = λ x talk h. let there = no_talk (λ (t : Thread). t.talk) (w.body x) talk h in
        leb-true talk.moved MOST_MOVED (rw there.2 at (in_range x there.0 there.1).moved);
    missing = λ x fault h. let there = no_talk (λ (t : Thread). t.fault) (w.body x) fault h in
        ltb-true fault.page PAGES (rw there.2 at (in_range x there.0 there.1).missing);
    pages = λ s g words h. let its = page_found (λ (p : Page). are_words p.words) ps all_pages s g words (sym (pages s g) ∙ h) in rw (← its.4) its.1;
  }

  pub savable : IsSavable w
  savable = record {
    younger = is_young;
    shaped = λ x t h. (shaped_at x t h).0;
    few_stops = λ x t h. (shaped_at x t h).2;
    codes = λ x t h. (shaped_at x t h).1;
    holders_outside = holder_apart;
    talks_placed = λ x talk h. let there = no_talk (λ (t : Thread). t.talk) (w.body x) talk h in rw there.2 at (joined_at x there.0 there.1).0;
    faults_placed = λ x fault taker h g. let there = no_talk (λ (t : Thread). t.fault) (w.body x) fault h in
        rw g at (rw there.2 at (joined_at x there.0 there.1).1);
    slots_kept = λ k x b there. (here (k ∷ x) b there).stands;
    scratch_kept = scratch_at;
    numbers = numbers;
  }
