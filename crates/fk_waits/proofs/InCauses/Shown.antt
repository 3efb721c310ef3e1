-- Shown: threads as they stand, in parts; and the first that waits for something.
use Rattle.std.proofs.Common.{◌≡◌, ◌≢◌, ◌==◌, ℕ, suc, Bool, true, false, List, [], ◌∷◌, ◌++◌, length, map, Option, Some, None}
use Rattle.std.proofs.Common.{if◌then◌else◌, refl, sym, ap, subst, ◌∙◌, eq-eqb}
use Rattle.std.proofs.lemmas.Bool.{eqb-true}
use Rattle.slab.specs.Slab.{Slab}
use Rattle.fk_model.specs.declared.names.Who.{Who}
use Rattle.fk_waits.specs.Queues.Nodes.{shown_at}
use Rattle.fk_waits.specs.declared.queues.lists.Node.{Node}
use Rattle.fk_waits.specs.Causes.Names.{is_same, key_at}
use Rattle.fk_waits.specs.Queues.Places.{first_at, places_from, who_shown, AllFiled, AreFiled, HasPlace, IsHead, Place}
use Rattle.fk_waits.proofs.InQueues.Walk.{places_are}
use Rattle.fk_waits.specs.Causes.Causes.{cause_of, first_of, is_same_cause, standing_of, standings, ArePlaced, AreStanding, Standing}
use Rattle.fk_waits.specs.declared.causes.causes.Causes.{Causes}
use Rattle.fk_waits.proofs.InCauses.Numbers.{clash, unlike}
use Rattle.fk_waits.proofs.InCauses.Placed.{key_same, none_key, same_by}
use Rattle.fk_waits.proofs.InCauses.Order.{same_who}

-- ---- a list of threads with one in its middle

pub record Parts (c : Causes) (a : List Standing) (s : Standing) (b : List Standing) (l : List Place) : Type 0 where
  pub before : List Place
  pub one : Place
  pub behind : List Place
  pub is : l ≡ before ++ one ∷ behind
  pub first : map (standing_of c) before ≡ a
  pub mine : standing_of c one ≡ s
  pub last : map (standing_of c) behind ≡ b

abbrev head_or : Standing → List Standing → Standing
head_or s [] = s
head_or s (x ∷ l) = x

abbrev tail : List Standing → List Standing
tail [] = []
tail (x ∷ l) = l

pub parts : (c : Causes) (l : List Place) (a : List Standing) (s : Standing) (b : List Standing) → map (standing_of c) l ≡ a ++ s ∷ b → Parts c a s b l
parts c [] [] s b is = absurd (cc)
parts c [] (x ∷ a) s b is = absurd (cc)
parts c (p ∷ l) [] s b is = record { before = []; one = p; behind = l; is = refl; first = refl; mine = ap (head_or s) is; last = ap tail is }
parts c (p ∷ l) (x ∷ a) s b is =
    let rest = parts c l a s b (ap tail is) in
    record {
      before = p ∷ rest.before;
      one = rest.one;
      behind = rest.behind;
      is = ap (λ (k : List Place). p ∷ k) rest.is;
      first = λ i. ap (head_or s) is i ∷ rest.first i;
      mine = rest.mine;
      last = rest.last;
    }

pub shown_split : (c : Causes) (a b : List Place) → map (standing_of c) (a ++ b) ≡ map (standing_of c) a ++ map (standing_of c) b
shown_split c [] b = refl
shown_split c (p ∷ a) b = ap (λ (l : List Standing). standing_of c p ∷ l) (shown_split c a b)

pub shown_long : (c : Causes) (l : List Place) → length (map (standing_of c) l) ≡ length l
shown_long c [] = refl
shown_long c (p ∷ l) = ap (λ (n : ℕ). suc n) (shown_long c l)

-- ---- the thread with a node in the order

pub placed_key : (c : Causes) (free key : ℕ) (a : List Standing) (s : Standing) (b : List Standing) → s.key ≡ key → AreStanding c free (a ++ s ∷ b) →
    HasPlace c.queues key
placed_key c free key a s b is standing =
    let p = parts c standing.places a s b standing.shown in
    record {
      before = p.before;
      place = p.one;
      behind = p.behind;
      is = ap (λ (x : Standing). x.key) p.mine ∙ is;
      filed = subst (AreFiled c.queues) p.is standing.placed.filed;
    }

-- ---- as the nodes show it

pub standings_are : (c : Causes) (free : ℕ) (l : List Standing) → AreStanding c free l → standings c (length l) ≡ l
standings_are c free l standing =
    let long : length standing.places ≡ length l = sym (shown_long c standing.places) ∙ ap (λ (k : List Standing). length k) standing.shown in
    ap (λ (n : ℕ). map (standing_of c) (places_from c.queues n c.queues.first)) (sym long)
    ∙ ap (map (standing_of c)) (places_are c.queues standing.places standing.placed.filed) ∙ standing.shown

-- ---- the first of a queue

-- threads whose queue shows the same cause stand in the same queue
module _ (c : Causes) (l : List Place) (p : ArePlaced c c.ready l) where
  cause_head : (g : ℕ) (name : Who) → shown_at c.queues.lines g ≡ Some (name, g) → g ≢ c.ready → cause_of c g ≡ Some name
  cause_head g name shown off = let not_so = unlike g c.ready off in rw not_so (ap who_shown shown)

  pub same_head : (g h : ℕ) → IsHead c.queues.lines g → IsHead c.queues.lines h → (g == h) ≡ is_same_cause (cause_of c g) (cause_of c h)
  same_head g h mine other = by (g == c.ready) refl (h == c.ready) refl (g == h) refl
    where
      apart : (n : ℕ) → (n == c.ready) ≡ false → n ≢ c.ready
      apart n e same = clash (n == c.ready) (eq-eqb n c.ready same) e

      by : (t : Bool) → (g == c.ready) ≡ t → (s : Bool) → (h == c.ready) ≡ s → (b : Bool) → (g == h) ≡ b →
          (g == h) ≡ is_same_cause (cause_of c g) (cause_of c h)
      by true e true f b k =
          let same : g ≡ h = eqb-true g c.ready e ∙ sym (eqb-true h c.ready f) in
          let is_so = eq-eqb g h same in
          rw (is_so, e, f) refl
      by true e false f b k =
          let at : g ≡ c.ready = eqb-true g c.ready e in
          let other_cause = cause_head h other.0 other.1 (apart h f) in
          let not_so = unlike g h (λ (same : g ≡ h). apart h f (sym same ∙ at)) in
          rw (not_so, e) (ap (λ (o : Option Who). is_same_cause None o) (sym other_cause))
      by false e true f b k =
          let at : h ≡ c.ready = eqb-true h c.ready f in
          let my_cause = cause_head g mine.0 mine.1 (apart g e) in
          let not_so = unlike g h (λ (same : g ≡ h). apart g e (same ∙ at)) in
          rw (not_so, f) (ap (λ (o : Option Who). is_same_cause o None) (sym my_cause))
      by false e false f true k =
          let same : g ≡ h = eqb-true g h k in
          let my_cause = cause_head g mine.0 mine.1 (apart g e) in
          let other_cause : cause_of c h ≡ Some mine.0 = ap (cause_of c) (sym same) ∙ my_cause in
          let is_so = same_by mine.0 mine.0 refl in
          k ∙ sym (ap (λ (o : Option Who). is_same_cause o (cause_of c h)) my_cause ∙ ap (is_same_cause (Some mine.0)) other_cause ∙ is_so)
      by false e false f false k =
          let my_cause = cause_head g mine.0 mine.1 (apart g e) in
          let other_cause = cause_head h other.0 other.1 (apart h f) in
          k ∙ sym (ap (λ (o : Option Who). is_same_cause o (cause_of c h)) my_cause ∙ ap (is_same_cause (Some mine.0)) other_cause
          ∙ differs (is_same mine.0 other.0) refl)
        where
          differs : (b : Bool) → is_same mine.0 other.0 ≡ b → is_same mine.0 other.0 ≡ false
          differs true is_so =
              let one = p.found mine.0 g mine.1 (apart g e) in
              let two = p.found other.0 h other.1 (apart h f) in
              let same : g ≡ h = key_same g h (sym one ∙ ap (key_at c.names.0) (same_who mine.0 other.0 is_so) ∙ two) in
              clash (g == h) (eq-eqb g h same) k
          differs false not_so = not_so

  pub first_is : (h : ℕ) → IsHead c.queues.lines h → (order : Slab Node) (k : List Place) → AllFiled order c.queues.lines k →
      first_at h k ≡ first_of (cause_of c h) (map (standing_of c) k)
  first_is h head order [] filed = refl
  first_is h head order (x ∷ k) filed =
      λ i. if same_head x.head h filed.0.head head i then Some x.who else first_is h head order k filed.1 i

  -- nobody waits for what has no queue
  pub none_waits : (name : Who) → None ≡ key_at c.names.0 name → (order : Slab Node) (k : List Place) → AllFiled order c.queues.lines k →
      None ≡ first_of (Some name) (map (standing_of c) k)
  none_waits name none order [] filed = refl
  none_waits name none order (x ∷ k) filed = by (x.head == c.ready) refl (none_waits name none order k filed.1)
    where
      apart : (x.head == c.ready) ≡ false → x.head ≢ c.ready
      apart e same = clash (x.head == c.ready) (eq-eqb x.head c.ready same) e

      differs : (b : Bool) → is_same filed.0.head.0 name ≡ b → x.head ≢ c.ready → is_same filed.0.head.0 name ≡ false
      differs true is_so off =
          none_key x.head (none ∙ ap (key_at c.names.0) (sym (same_who filed.0.head.0 name is_so)) ∙ p.found filed.0.head.0 x.head filed.0.head.1 off)
      differs false not_so off = not_so

      by : (t : Bool) → (x.head == c.ready) ≡ t → None ≡ first_of (Some name) (map (standing_of c) k) →
          None ≡ (if is_same_cause (cause_of c x.head) (Some name) then Some x.who else first_of (Some name) (map (standing_of c) k))
      by true e rest = rw e rest
      by false e rest =
          let mine = cause_head x.head filed.0.head.0 filed.0.head.1 (apart e) in
          let not_so : is_same_cause (cause_of c x.head) (Some name) ≡ false =
          ap (λ (o : Option Who). is_same_cause o (Some name)) mine ∙ differs (is_same filed.0.head.0 name) refl (apart e) in
          rest ∙ ap (λ (b : Bool). if b then Some x.who else first_of (Some name) (map (standing_of c) k)) (sym not_so)
