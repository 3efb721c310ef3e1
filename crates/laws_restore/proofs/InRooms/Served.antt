-- In a valid image's picture a thread serves one talk or one fault.
use Rattle.std.proofs.Common.{◌≡◌, ℕ, zero, suc, ◌+◌, ◌<◌, ◌≤◌, ◌⊎◌, inl, inr, Bool, true, false, cond, not, ◌||◌, ◌==◌, List, [], ◌∷◌, ◌++◌, Option, Some}
use Rattle.std.proofs.Common.{None, option_map, is_some, refl, sym, ap, ◌∙◌, arith, eqb-true, eq-eqb}
use Rattle.std.specs.Prelude.{slice_get}
use Rattle.std.specs.List.{list_any, flat_map}
use Rattle.std.proofs.lemmas.Bool.{and_parts, and_from}
use Rattle.std.proofs.lemmas.List.Concat.{flat_map-cons}
use Rattle.fk_model.specs.Places.{Path, same_path, Ptr as ptrs}
use Rattle.fk_model.specs.Objects.{Body, Talk, Fault, Thread as ThreadState, Peer as peers, and_then, thread_of, holds, flag_of}
use Rattle.fk_model.specs.World.{World, serves}
use Rattle.fk_model.specs.Valid.{services}
use Rattle.fk_model.proofs.walks.PlaceLaws.{same_path_eq}
use Rattle.fk_image.specs.declared.image.image.Link.{Link}
use Rattle.fk_image.specs.declared.image.image.Link.TheVariants.{Null, Dead, In, Out, Root, Outside}
use Rattle.fk_image.specs.declared.image.image.TalkRec.{TalkRec}
use Rattle.fk_image.specs.declared.image.image.FaultRec.{FaultRec}
use Rattle.fk_image.specs.declared.image.image.Rec.{Rec}
use Rattle.fk_image.specs.declared.image.image.Rec.TheVariants.{Mutex, Cond, Portset, Mapping, Region, Port, Thread, Reference}
use Rattle.fk_image.specs.declared.image.image.ObjectRec.{ObjectRec}
use Rattle.fk_image.specs.declared.image.image.SpaceRec.{SpaceRec}
use Rattle.fk_image.specs.declared.image.image.Image.{Image}
use Rattle.fk_image.specs.Image.Links.{kind_in_space, is_thread_kind, leads_to_port, serves_port, talk_leads, taker_leads, fault_leads, body_leads, may_hold}
use Rattle.fk_image.specs.Image.Links.{spaces_lead, peer, talk_peers, taker_peers, fault_peers, body_peers, object_peers, space_peers, is_same_place, are_fresh}
use Rattle.fk_image.specs.Image.Picture.{ptr, space_number, space_path, rec_in, pictured_talk, pictured_fault, pictured_body, pictured_body_at, picture}
use Rattle.laws_pictures.specs.Tree.{IsTree, IsFull}
use Rattle.laws_pictures.proofs.Numbers.{number_of}
use Rattle.laws_pictures.proofs.Bodies.{kind_of_space, Object, Inner, stands, lead_at, rec_all}

-- ---- how often a place is named

abbrev count : ℕ × ℕ → List (ℕ × ℕ) → ℕ
count p [] = 0
count p (a ∷ rest) = flag_of (is_same_place p a) + count p rest

flag_most : (b : Bool) → flag_of b ≤ 1
flag_most true = omega arith
flag_most false = omega arith

count-append : (p : ℕ × ℕ) (xs ys : List (ℕ × ℕ)) → count p (xs ++ ys) ≡ count p xs + count p ys
count-append p [] ys = omega arith
count-append p (x ∷ xs) ys = let rest = count-append p xs ys in omega (arith, rest)

same_place : (p a : ℕ × ℕ) → is_same_place p a ≡ true → p ≡ a
same_place p a e = let both = and_parts (a.0 == p.0) (a.1 == p.1) e in λ i. (sym (eqb-true a.0 p.0 both.0) i, sym (eqb-true a.1 p.1 both.1) i)

-- nothing fresh is named twice
fresh_once : (p : ℕ × ℕ) (seen xs : List (ℕ × ℕ)) → are_fresh seen xs ≡ true → flag_of (list_any (is_same_place p) seen) + count p xs ≤ 1
fresh_once p seen [] e = let most = flag_most (list_any (is_same_place p) seen) in omega (arith, most)
fresh_once p seen (x ∷ xs) e =
    let both = and_parts (not (list_any (is_same_place x) seen)) (are_fresh (x ∷ seen) xs) e in
    by (is_same_place p x) refl (list_any (is_same_place p) seen) refl both.0 (fresh_once p (x ∷ seen) xs both.1)
  where
    by : (a : Bool) → is_same_place p x ≡ a → (b : Bool) → list_any (is_same_place p) seen ≡ b → not (list_any (is_same_place x) seen) ≡ true
        → flag_of (a || b) + count p xs ≤ 1 → flag_of b + (flag_of a + count p xs) ≤ 1
    by true g true h off rest = absurd (clash (sym (ap not (ap (λ q. list_any (is_same_place q) seen) (sym (same_place p x g)) ∙ h)) ∙ off))
      where
        clash : not true ≡ true → ⊥
        clash e = cc
    by true g false h off rest = omega (arith, rest)
    by false g b h off rest = omega (arith, rest)

-- what two of a list name alike is one of them
module _ {X : Type 0} (f : X → List (ℕ × ℕ)) (p : ℕ × ℕ) where
  count_at : (xs : List X) (j : ℕ) (x : X) → slice_get xs j ≡ Some x → count p (f x) ≤ count p (flat_map f xs)
  count_at [] j x e = absurd cc
  count_at (y ∷ xs) zero x e =
      let sum = ap (count p) (flat_map-cons f y xs) ∙ count-append p (f y) (flat_map f xs) in
      let this : y ≡ x = cc in
      let same = ap (λ z. count p (f z)) this in
      omega (arith, sum, same)
  count_at (y ∷ xs) (suc j) x e =
      let sum = ap (count p) (flat_map-cons f y xs) ∙ count-append p (f y) (flat_map f xs) in
      let rest = count_at xs j x e in
      omega (arith, sum, rest)

  one_place : (xs : List X) (i j : ℕ) (x y : X) → count p (flat_map f xs) ≤ 1 → slice_get xs i ≡ Some x → slice_get xs j ≡ Some y → 0 < count p (f x)
      → 0 < count p (f y) → i ≡ j
  one_place [] i j x y most e g a b = absurd cc
  one_place (z ∷ xs) zero zero x y most e g a b = refl
  one_place (z ∷ xs) zero (suc j) x y most e g a b =
      let sum = ap (count p) (flat_map-cons f z xs) ∙ count-append p (f z) (flat_map f xs) in
      let this : z ≡ x = cc in
      let same = ap (λ z. count p (f z)) this in
      let rest = count_at xs j y g in
      absurd (omega (arith, sum, same, rest, most, a, b))
  one_place (z ∷ xs) (suc i) zero x y most e g a b =
      let sum = ap (count p) (flat_map-cons f z xs) ∙ count-append p (f z) (flat_map f xs) in
      let this : z ≡ y = cc in
      let same = ap (λ z. count p (f z)) this in
      let rest = count_at xs i x e in
      absurd (omega (arith, sum, same, rest, most, a, b))
  one_place (z ∷ xs) (suc i) (suc j) x y most e g a b =
      let sum = ap (count p) (flat_map-cons f z xs) ∙ count-append p (f z) (flat_map f xs) in
      ap suc (one_place xs i j x y (omega (arith, sum, most)) e g a b)

-- ---- an object by its place among those of its space

record Placed (os : List ObjectRec) (k : ℕ) (r : Rec) : Type 0 where
  pub at : ℕ
  pub item : ObjectRec
  pub here : slice_get os at ≡ Some item
  pub slot : item.slot ≡ k
  pub body : item.body ≡ r

placed : (os : List ObjectRec) (k : ℕ) (r : Rec) → rec_in os k ≡ Some r → Placed os k r
unfolding rec_in
placed [] k r e = absurd cc
placed (o ∷ os) k r e = by (o.slot == k) refl e (λ h. placed os k r h)
  where
    by : (b : Bool) → (o.slot == k) ≡ b → cond b (Some o.body) (rec_in os k) ≡ Some r → (rec_in os k ≡ Some r → Placed os k r) → Placed (o ∷ os) k r
    by true p e rest = record { at = 0; item = o; here = refl; slot = eqb-true o.slot k p; body = cc }
    by false p e rest = let q = rest e in record { at = suc q.at; item = q.item; here = q.here; slot = q.slot; body = q.body }

module _ (i : Image) (tree : IsTree i.spaces) (full : IsFull i.spaces) (lead : spaces_lead i.spaces 0 i.spaces ≡ true)
    (fresh : are_fresh [] (flat_map space_peers i.spaces) ≡ true) where
  abbrev ss : List SpaceRec
  ss = i.spaces

  abbrev c : World
  c = picture i

  most : (p : ℕ × ℕ) → count p (flat_map space_peers ss) ≤ 1
  most p = let once = fresh_once p [] (flat_map space_peers ss) fresh in omega (arith, once)

  -- ---- a place that stands for a server wherever a link leads to it

  abbrev StandsFor : Path → ℕ × ℕ → Type 0
  StandsFor z p = (slot space : ℕ) → is_some (slice_get ss space) ≡ true
      → flag_of (serves z (peers.Server (ptrs.At (slot ∷ space_path ss space)))) ≤ count p ((space, slot) ∷ [])

  module _ (z : Path) (p : ℕ × ℕ) (hit : StandsFor z p) where
    abbrev Is : Link → Type 0
    Is (In slot space) = is_some (slice_get ss space) ≡ true
    Is Root = ⊥
    Is other = Unit {0}

    named : (to : Link) → Is to → flag_of (serves z (peers.Server (ptr ss to))) ≤ count p (peer to)
    named Null is = omega arith
    named Dead is = omega arith
    named (Out slot) is = omega arith
    named Root is = absurd is
    named Outside is = omega arith
    named (In slot space) is = hit slot space is

    served_by : (to peer : Link) → leads_to_port ss to ≡ true → serves_port ss to peer ≡ true → Is peer
    served_by (In slot space) (In k other) e f =
        let both = and_parts (other == space) (is_thread_kind (kind_in_space ss other k)) f in by (slice_get ss other) both.1
      where
        by : (o : Option SpaceRec) → is_thread_kind (kind_of_space k o) ≡ true → is_some o ≡ true
        by None e = absurd cc
        by (Some s) e = refl
    served_by (In slot space) Null e f = tt
    served_by (In slot space) Dead e f = tt
    served_by (In slot space) (Out k) e f = tt
    served_by (In slot space) Root e f = absurd cc
    served_by (In slot space) Outside e f = tt
    served_by (Out slot) (In k other) e f = absurd cc
    served_by (Out slot) Null e f = tt
    served_by (Out slot) Dead e f = tt
    served_by (Out slot) (Out k) e f = tt
    served_by (Out slot) Root e f = absurd cc
    served_by (Out slot) Outside e f = tt
    served_by Null peer e f = absurd cc
    served_by Dead peer e f = absurd cc
    served_by Root peer e f = absurd cc
    served_by Outside peer e f = absurd cc

    talk_count : (t : Option TalkRec) → talk_leads ss t ≡ true
        → flag_of (holds (λ (talk : Talk). serves z talk.peer) (option_map (pictured_talk ss) t)) ≤ count p (talk_peers t)
    talk_count None e = omega arith
    talk_count (Some t) e = let both = and_parts (leads_to_port ss t.port) (serves_port ss t.port t.server) e in
        named t.server (served_by t.port t.server both.0 both.1)

    fault_count : (o : Option FaultRec) → fault_leads ss o ≡ true
        → flag_of (holds (λ (fault : Fault). holds (serves z) fault.taker) (option_map (pictured_fault ss) o)) ≤ count p (fault_peers o)
    fault_count None e = omega arith
    fault_count (Some o) e = let both = and_parts (leads_to_port ss o.port) (taker_leads ss o.port o.taker) e in by o.taker both.1 both.0
      where
        by : (taker : Option Link) → taker_leads ss o.port taker ≡ true → leads_to_port ss o.port ≡ true
            → flag_of (holds (serves z) (option_map (λ to. peers.Server (ptr ss to)) taker)) ≤ count p (taker_peers taker)
        by None e f = omega arith
        by (Some to) e f = named to (served_by o.port to f e)

    abbrev served : Option Body → ℕ
    served o =
        flag_of (holds (λ (talk : Talk). serves z talk.peer) (and_then (λ (t : ThreadState). t.talk) (and_then thread_of o)))
        + flag_of (holds (λ (fault : Fault). holds (serves z) fault.taker) (and_then (λ (t : ThreadState). t.fault) (and_then thread_of o)))

    body_count : (os : List ObjectRec) (r : Rec) → body_leads ss os r ≡ true → served (Some (pictured_body ss r)) ≤ count p (body_peers r)
    body_count os (Thread t) e =
        let both = and_parts (talk_leads ss t.talk) (fault_leads ss t.fault) e in
        let a = talk_count t.talk both.0 in
        let b = fault_count t.fault both.1 in
        let sum = count-append p (talk_peers t.talk) (fault_peers t.fault) in
        omega (arith, a, b, sum)
    body_count os (Mutex locked) e = omega arith
    body_count os Cond e = omega arith
    body_count os Portset e = omega arith
    body_count os (Mapping first count offset write to) e = omega arith
    body_count os (Region first count write to) e = omega arith
    body_count os (Port set) e = omega arith
    body_count os (Reference to) e = omega arith

    -- ---- an object that names it

    record Names (x : Path) : Type 0 where
      pub number : ℕ
      pub space : SpaceRec
      pub here : slice_get ss number ≡ Some space
      pub slot : ℕ
      pub path : x ≡ slot ∷ space_path ss number
      pub at : ℕ
      pub item : ObjectRec
      pub there : slice_get space.objects at ≡ Some item
      pub same_slot : item.slot ≡ slot
      pub times : services c z x ≤ count p (object_peers item)

    names : (x : Path) → 0 < services c z x → Names x
    unfolding picture
    names [] e = absurd (omega (arith, e))
    names (k ∷ r) e = by (pictured_body_at ss (k ∷ r)) refl e
      where
        by : (o : Option Body) → pictured_body_at ss (k ∷ r) ≡ o → 0 < served o → Names (k ∷ r)
        by None is e = absurd (omega (arith, e))
        by (Some b) is e = found b is (stands ss tree k r b is) e
          where
            found : (b : Body) → pictured_body_at ss (k ∷ r) ≡ Some b → Object ss k r b ⊎ Inner ss k r b → 0 < served (Some b) → Names (k ∷ r)
            found b is (inr t) e = let none = ap (λ b. served (Some b)) t.is in absurd (omega (arith, none, e))
            found b is (inl o) e =
                let place = placed o.space.objects k o.body o.there in
                let all = and_parts (may_hold ss (0 + o.number) o.space.holder) _ (lead_at ss 0 ss o.number o.space lead o.here) in
                let leads = rec_all (body_leads ss o.space.objects) o.space.objects k o.body all.1 o.there in
                let few = body_count o.space.objects o.body leads in
                let same = ap served is ∙ ap (λ b. served (Some b)) o.is in
                let peers_same = ap (λ r. count p (body_peers r)) place.body in
                record {
                  number = o.number;
                  space = o.space;
                  here = o.here;
                  slot = k;
                  path = ap (λ x. k ∷ x) (sym o.path);
                  at = place.at;
                  item = place.item;
                  there = place.here;
                  same_slot = place.slot;
                  times = omega (arith, few, same, peers_same);
                }

    space_most : (m : ℕ) (s : SpaceRec) → slice_get ss m ≡ Some s → count p (space_peers s) ≤ 1
    space_most m s here = let all = most p in let part = count_at space_peers p ss m s here in omega (arith, all, part)

    each_here : (x : Path) → services c z x ≤ 1
    each_here x = by (services c z x) refl
      where
        by : (n : ℕ) → services c z x ≡ n → services c z x ≤ 1
        by zero e = omega (arith, e)
        by (suc n) e =
            let f = names x (omega (arith, e)) in
            let part = count_at object_peers p f.space.objects f.at f.item f.there in
            let all = space_most f.number f.space f.here in
            let times = f.times in
            omega (arith, part, all, times)

    one_here : (x y : Path) → 0 < services c z x → 0 < services c z y → x ≡ y
    one_here x y a b =
        let f = names x a in
        let g = names y b in
        let f_times = f.times in
        let g_times = g.times in
        let f_part = count_at object_peers p f.space.objects f.at f.item f.there in
        let g_part = count_at object_peers p g.space.objects g.at g.item g.there in
        let number_one = one_place space_peers p ss f.number g.number f.space g.space (most p) f.here g.here (omega (arith, a, f_times, f_part))
        (omega (arith, b, g_times, g_part)) in
        let space_one : f.space ≡ g.space = some (sym f.here ∙ ap (slice_get ss) number_one ∙ g.here) in
        let there2 : slice_get f.space.objects g.at ≡ Some g.item = ap (λ (s : SpaceRec). slice_get s.objects g.at) space_one ∙ g.there in
        let at_one = one_place object_peers p f.space.objects f.at g.at f.item g.item (space_most f.number f.space f.here) f.there there2
        (omega (arith, a, f_times)) (omega (arith, b, g_times)) in
        let item_one : f.item ≡ g.item = some_item (sym f.there ∙ ap (slice_get f.space.objects) at_one ∙ there2) in
        let slot_one : f.slot ≡ g.slot = sym f.same_slot ∙ ap (λ (o : ObjectRec). o.slot) item_one ∙ g.same_slot in
        f.path ∙ (λ i. slot_one i ∷ space_path ss (number_one i)) ∙ sym g.path
      where
        some : {a b : SpaceRec} → Some a ≡ Some b → a ≡ b
        some e = cc

        some_item : {a b : ObjectRec} → Some a ≡ Some b → a ≡ b
        some_item e = cc

  -- ---- the place of each server

  abbrev Placing : Path → Type 0
  Placing z = (p : ℕ × ℕ) × StandsFor z p

  tails : (a b : ℕ) (x y : Path) → a ∷ x ≡ b ∷ y → (a ≡ b) × (x ≡ y)
  tails a b x y e = (cc, cc)

  placing : (z : Path) → Placing z
  unfolding same_path
  placing [] = ((0, 0), λ slot space is. omega arith)
  placing (j ∷ q) = by (space_number ss q) refl
    where
      some_same : {m n : ℕ} → Some m ≡ Some n → m ≡ n
      some_same e = cc

      clash : {n : ℕ} → Some n ≡ None → ⊥
      clash e = cc

      hit : (n slot space : ℕ) → space_number ss q ≡ Some n → is_some (slice_get ss space) ≡ true → (b : Bool)
          → serves (j ∷ q) (peers.Server (ptrs.At (slot ∷ space_path ss space))) ≡ b → flag_of b ≤ count (n, j) ((space, slot) ∷ [])
      hit n slot space number is false e = omega arith
      hit n slot space number is true e =
          let both = tails slot j (space_path ss space) q (same_path_eq (slot ∷ space_path ss space) (j ∷ q) e) in
          let same = some_same (sym (number_of ss tree space is) ∙ ap (space_number ss) both.1 ∙ number) in
          let one = ap flag_of (and_from (space == n) (slot == j) (eq-eqb space n same) (eq-eqb slot j both.0)) in
          omega (arith, one)

      miss : (slot space : ℕ) → space_number ss q ≡ None → is_some (slice_get ss space) ≡ true → (b : Bool)
          → serves (j ∷ q) (peers.Server (ptrs.At (slot ∷ space_path ss space))) ≡ b → flag_of b ≤ count (0, 0) ((space, slot) ∷ [])
      miss slot space number is false e = omega arith
      miss slot space number is true e =
          let both = tails slot j (space_path ss space) q (same_path_eq (slot ∷ space_path ss space) (j ∷ q) e) in
          absurd (clash (sym (number_of ss tree space is) ∙ ap (space_number ss) both.1 ∙ number))

      by : (o : Option ℕ) → space_number ss q ≡ o → Placing (j ∷ q)
      by None number = ((0, 0), λ slot space is. miss slot space number is (serves (j ∷ q) (peers.Server (ptrs.At (slot ∷ space_path ss space)))) refl)
      by (Some n) number = ((n, j), λ slot space is. hit n slot space number is (serves (j ∷ q) (peers.Server (ptrs.At (slot ∷ space_path ss space)))) refl)

  pub one_service : (server x y : Path) → 0 < services c server x → 0 < services c server y → x ≡ y
  one_service server x y a b = let place = placing server in one_here server place.0 place.1 x y a b

  pub one_each : (server x : Path) → services c server x ≤ 1
  one_each server x = let place = placing server in each_here server place.0 place.1 x
