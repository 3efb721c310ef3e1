-- The parts of an item, one after the other, are the script's orders for it.
use Rattle.std.proofs.Common.{◌≡◌, ℕ, zero, suc, ◌+◌, ◌<◌, ◌≤◌, Bool, true, false, cond, List, [], ◌∷◌, ◌++◌, map, drop, length, Option, Some, None}
use Rattle.std.proofs.Common.{option_map, is_some, refl, sym, ap, ◌∙◌, arith}
use Rattle.std.specs.Prelude.{slice_get}
use Rattle.std.specs.List.{flat_map}
use Rattle.std.proofs.lemmas.List.{append-nil}
use Rattle.std.proofs.lemmas.List.Concat.{flat_map-cons}
use Rattle.fk_model.specs.Places.{Path}
use Rattle.fk_model.specs.Objects.{Peer as peers, Body}
use Rattle.fk_image.specs.declared.image.image.Link.{Link}
use Rattle.fk_image.specs.declared.image.image.Link.TheVariants.{Null, Dead, In, Out, Root, Outside}
use Rattle.fk_image.specs.declared.image.image.TalkRec.{TalkRec}
use Rattle.fk_image.specs.declared.image.image.FaultRec.{FaultRec}
use Rattle.fk_image.specs.declared.image.image.Rec.{Rec}
use Rattle.fk_image.specs.declared.image.image.Rec.TheVariants.{Mutex, Cond, Portset, Mapping, Region, Port, Thread, Reference}
use Rattle.fk_image.specs.declared.image.image.ObjectRec.{ObjectRec}
use Rattle.fk_image.specs.declared.image.image.SpaceRec.{SpaceRec}
use Rattle.fk_image.specs.Image.Picture.{ptr, space_path, pictured_talk, pictured_fault, pictured_body}
use Rattle.laws_restore.specs.Sites.Orders.{Order}
use Rattle.laws_restore.specs.Sites.Orders.Order.{Points, ParksTalk, ParksFault, LinksTalk, RaisesFault, LinksFault}
use Rattle.laws_restore.specs.Restore.Rooms.{Item}
use Rattle.laws_restore.specs.Restore.Script.{P, T, U, leads_to_at, points_in, points_body, is_out_to, leads_body_out, parks_talk, parks_fault, ties_talk}
use Rattle.laws_restore.specs.Restore.Script.{ties_fault, ties_its_talk, ties_its_fault, ties_body, talk_words, fault_words, taken_flag}
use Rattle.laws_pictures.specs.Tree.{IsTree}
use Rattle.laws_restore.specs.Rooms.Rooms.{item_of}
use Rattle.laws_restore.proofs.InRooms.Beneath.{IsNested}
use Rattle.fk_restore.specs.declared.positions.position.Pass.{Pass}
use Rattle.fk_restore.specs.Positions.Passes.{Part, leads_within, link_of, talk_of, fault_of, points_to, walks_to, inward_part, is_out, parks_talk_part}
use Rattle.fk_restore.specs.Positions.Passes.{parks_fault_part, outward_part, path_of, talk_part, taken_part, fault_part, ties_part, object_parts, part_at}
use Rattle.fk_restore.specs.Positions.Passes.{from_item, items_from}
use Rattle.fk_restore.specs.Positions.Passes.Part.{Nothing, Asks}
use Rattle.fk_restore.specs.Positions.Positions.{part_orders}
use Rattle.fk_restore.proofs.InPositions.Walked.{leads_is, root_is}

-- ---- lists from a place on

pub drop_at : {A : Type 0} (xs : List A) (j : ℕ) (x : A) → slice_get xs j ≡ Some x → drop j xs ≡ x ∷ drop (suc j) xs
drop_at [] j x e = absurd cc
drop_at (y ∷ xs) zero x e = let same : y ≡ x = cc in ap (λ z. z ∷ xs) same
drop_at (y ∷ xs) (suc j) x e = drop_at xs j x e

pub drop_out : {A : Type 0} (xs : List A) (j : ℕ) → length xs ≤ j → drop j xs ≡ []
drop_out [] zero le = refl
drop_out [] (suc j) le = refl
drop_out (y ∷ xs) zero le = absurd (omega (arith, le))
drop_out (y ∷ xs) (suc j) le = drop_out xs j (omega (arith, le))

pub record At {A : Type 0} (xs : List A) (j : ℕ) : Type 0 where
  pub item : A
  pub is : slice_get xs j ≡ Some item

pub at_of : {A : Type 0} (xs : List A) (j : ℕ) → j < length xs → At xs j
at_of [] j lt = absurd (omega (arith, lt))
at_of (x ∷ xs) zero lt = record { item = x; is = refl }
at_of (x ∷ xs) (suc j) lt = let a = at_of xs j (omega (arith, lt)) in record { item = a.item; is = a.is }

assoc : (os ps rs : List Order) → (os ++ ps) ++ rs ≡ os ++ (ps ++ rs)
assoc [] ps rs = refl
assoc (o ∷ os) ps rs = ap (λ (all : List Order). o ∷ all) (assoc os ps rs)

-- ---- links to spaces that are there

abbrev pub IsLinked : List SpaceRec → Link → Type 0
IsLinked ss (In k m) = is_some (slice_get ss m) ≡ true
IsLinked ss other = Unit {0}

abbrev pub IsLinkedTalk : List SpaceRec → Option TalkRec → Type 0
IsLinkedTalk ss None = Unit {0}
IsLinkedTalk ss (Some t) = IsLinked ss t.port × IsLinked ss t.server

abbrev pub IsLinkedTaker : List SpaceRec → Option Link → Type 0
IsLinkedTaker ss None = Unit {0}
IsLinkedTaker ss (Some to) = IsLinked ss to

abbrev pub IsLinkedFault : List SpaceRec → Option FaultRec → Type 0
IsLinkedFault ss None = Unit {0}
IsLinkedFault ss (Some f) = IsLinked ss f.port × IsLinkedTaker ss f.taker

pub record IsLinkedRec (ss : List SpaceRec) (r : Rec) : Type 0 where
  pub link : IsLinked ss (link_of r)
  pub talk : IsLinkedTalk ss (talk_of r)
  pub fault : IsLinkedFault ss (fault_of r)

module _ (ss : List SpaceRec) (tree : IsTree ss) (nested : IsNested ss) (slot : ℕ) (bind : ℕ → ℕ) (n : ℕ) (s : SpaceRec)
    (is : is_some (slice_get ss n) ≡ true) where
  abbrev q : Path
  q = space_path ss n

  abbrev os_of : Part → List Order
  os_of part = part_orders ss slot bind part

  abbrev pub six : (ℕ → Part) → List Order
  six f = os_of (f 0) ++ (os_of (f 1) ++ (os_of (f 2) ++ (os_of (f 3) ++ (os_of (f 4) ++ (os_of (f 5) ++ [])))))

  -- ---- a walk to what a pointer leads to

  walks_there : (r : ℕ) (to : Link) → leads_within to ≡ true → IsLinked ss to
      → os_of (walks_to ss slot bind n s r n to) ≡ leads_to_at slot r q (path_of ss slot bind n s to)
  walks_there r (In k m) e linked = sym (leads_is ss tree nested slot r n k m is linked).0
  walks_there r Root e linked = sym (root_is ss tree nested slot r n)
  walks_there r Null e linked = absurd cc
  walks_there r Dead e linked = absurd cc
  walks_there r (Out k) e linked = absurd cc
  walks_there r Outside e linked = absurd cc

  -- ---- pointers inside

  pub inward_six : (x : ℕ) (r : Rec) → IsLinked ss (link_of r) → six (inward_part ss slot bind n s x r) ≡ points_body slot q x (pictured_body ss r)
  inward_six x r linked = link (link_of r) linked ∙ same r
    where
      link : (to : Link) → IsLinked ss to → os_of (walks_to ss slot bind n s T n to) ++ (os_of (points_to ss slot bind n s x to) ++ [])
          ≡ points_in slot q x (ptr ss to)
      link (In k m) linked = ap (λ (os : List Order). os ++ Points P q x T ∷ []) (walks_there T (In k m) refl linked)
      link Root linked = ap (λ (os : List Order). os ++ Points P q x T ∷ []) (walks_there T Root refl linked)
      link Null linked = refl
      link Dead linked = refl
      link (Out k) linked = refl
      link Outside linked = refl

      same : (r : Rec) → points_in slot q x (ptr ss (link_of r)) ≡ points_body slot q x (pictured_body ss r)
      same (Mutex locked) = refl
      same Cond = refl
      same Portset = refl
      same (Mapping first count offset write to) = refl
      same (Region first count write to) = refl
      same (Port set) = refl
      same (Thread t) = refl
      same (Reference to) = refl

  -- ---- pointers out

  pub out_same : (i : ℕ) (to : Link) → is_out_to i (ptr ss to) ≡ is_out ss slot bind n s i to
  out_same i (In k m) = refl
  out_same i Root = refl
  out_same i Null = refl
  out_same i Dead = refl
  out_same i (Out k) = refl
  out_same i Outside = refl

  if_out : (t u : Bool) (o : Order) → t ≡ u → os_of (cond u (Asks o) Nothing) ≡ cond t (o ∷ []) []
  if_out true true o e = refl
  if_out false false o e = refl
  if_out true false o e = absurd cc
  if_out false true o e = absurd cc

  pub outward_six : (i x : ℕ) (r : Rec) → six (outward_part ss slot bind n s i x r) ≡ leads_body_out i bind q x (pictured_body ss r)
  outward_six i x (Mutex locked) = refl
  outward_six i x Cond = refl
  outward_six i x Portset = refl
  outward_six i x (Mapping first count offset write to) = append-nil _
      ∙ if_out (is_out_to i (ptr ss to)) (is_out ss slot bind n s i to) (Points P q x T) (out_same i to)
  outward_six i x (Region first count write to) = append-nil _
      ∙ if_out (is_out_to i (ptr ss to)) (is_out ss slot bind n s i to) (Points P q x T) (out_same i to)
  outward_six i x (Port set) = refl
  outward_six i x (Reference to) = append-nil _ ∙ if_out (is_out_to i (ptr ss to)) (is_out ss slot bind n s i to) (Points P q x T) (out_same i to)
  outward_six i x (Thread t) = λ j. talk t.talk j ++ fault t.fault j
    where
      talk : (t : Option TalkRec) → os_of (parks_talk_part ss slot bind n s i x t) ≡ parks_talk i bind q x (option_map (pictured_talk ss) t)
      talk None = refl
      talk (Some t) = if_out (is_out_to i (ptr ss t.port)) (is_out ss slot bind n s i t.port) (ParksTalk P q x (bind i) (talk_words (pictured_talk ss t)))
          (out_same i t.port)

      fault : (f : Option FaultRec) → os_of (parks_fault_part ss slot bind n s i x f) ++ [] ≡ parks_fault i bind q x (option_map (pictured_fault ss) f)
      fault None = refl
      fault (Some f) = append-nil _ ∙ if_out (is_out_to i (ptr ss f.port)) (is_out ss slot bind n s i f.port)
          (ParksFault P q x (bind i) (taken_flag (pictured_fault ss f).taker) (fault_words (pictured_fault ss f))) (out_same i f.port)

  -- ---- talks and faults inside

  abbrev three : (ℕ → Part) → List Order
  three f = os_of (f 0) ++ (os_of (f 1) ++ os_of (f 2))

  both_walks : (port thread : Link) (o : Order) → leads_within port ≡ true → leads_within thread ≡ true → IsLinked ss port → IsLinked ss thread →
      os_of (walks_to ss slot bind n s T n port) ++ (os_of (walks_to ss slot bind n s U n thread) ++ o ∷ [])
      ≡ leads_to_at slot T q (path_of ss slot bind n s port) ++ (leads_to_at slot U q (path_of ss slot bind n s thread) ++ o ∷ [])
  both_walks port thread o e f a b = λ i. walks_there T port e a i ++ (walks_there U thread f b i ++ o ∷ [])

  talk_three : (x : ℕ) (t : TalkRec) → IsLinked ss t.port → IsLinked ss t.server
      → three (λ k. talk_part ss slot bind n s x k (Some t)) ≡ ties_talk slot q x (pictured_talk ss t) (ptr ss t.port) (peers.Server (ptr ss t.server))
  talk_three x t a b = by t.port t.server a b
    where
      by : (port server : Link) → IsLinked ss port → IsLinked ss server
          → three (λ k. talk_part ss slot bind n s x k (Some (record t { port = port; server = server })))
          ≡ ties_talk slot q x (pictured_talk ss (record t { port = port; server = server })) (ptr ss port) (peers.Server (ptr ss server))
      by (In k m) (In j l) a b = both_walks (In k m) (In j l)
          (LinksTalk P q x T U (k ∷ space_path ss m) (j ∷ space_path ss l)
          (talk_words (pictured_talk ss (record t { port = In k m; server = In j l })))) refl refl a b
      by (In k m) Root a b = both_walks (In k m) Root
          (LinksTalk P q x T U (k ∷ space_path ss m) [] (talk_words (pictured_talk ss (record t { port = In k m; server = Root })))) refl refl a b
      by Root (In j l) a b = both_walks Root (In j l)
          (LinksTalk P q x T U [] (j ∷ space_path ss l) (talk_words (pictured_talk ss (record t { port = Root; server = In j l })))) refl refl a b
      by Root Root a b = both_walks Root Root (LinksTalk P q x T U [] []
          (talk_words (pictured_talk ss (record t { port = Root; server = Root })))) refl refl a b
      by (In k m) Null a b = refl
      by (In k m) Dead a b = refl
      by (In k m) (Out j) a b = refl
      by (In k m) Outside a b = refl
      by Root Null a b = refl
      by Root Dead a b = refl
      by Root (Out j) a b = refl
      by Root Outside a b = refl
      by Null server a b = refl
      by Dead server a b = refl
      by (Out k) server a b = refl
      by Outside server a b = refl

  fault_three : (x : ℕ) (f : FaultRec) (taker : Option Link) → IsLinked ss f.port → IsLinkedTaker ss taker →
      three (λ k. taken_part ss slot bind n s x k f taker)
      ≡ ties_fault slot q x (pictured_fault ss f) (ptr ss f.port) (option_map (λ to. peers.Server (ptr ss to)) taker)
  fault_three x f taker a b = by f.port taker a b
    where
      words : List ℕ
      words = fault_words (pictured_fault ss f)

      by : (port : Link) (taker : Option Link) → IsLinked ss port → IsLinkedTaker ss taker →
          three (λ k. taken_part ss slot bind n s x k (record f { port = port }) taker)
          ≡ ties_fault slot q x (pictured_fault ss (record f { port = port })) (ptr ss port) (option_map (λ to. peers.Server (ptr ss to)) taker)
      by (In k m) None a b = ap (λ (os : List Order). os ++ RaisesFault P q x T (k ∷ space_path ss m) words ∷ []) (walks_there T (In k m) refl a)
      by Root None a b = ap (λ (os : List Order). os ++ RaisesFault P q x T [] words ∷ []) (walks_there T Root refl a)
      by (In k m) (Some (In j l)) a b = both_walks (In k m) (In j l) (LinksFault P q x T U (k ∷ space_path ss m) (j ∷ space_path ss l) words) refl refl a b
      by (In k m) (Some Root) a b = both_walks (In k m) Root (LinksFault P q x T U (k ∷ space_path ss m) [] words) refl refl a b
      by Root (Some (In j l)) a b = both_walks Root (In j l) (LinksFault P q x T U [] (j ∷ space_path ss l) words) refl refl a b
      by Root (Some Root) a b = both_walks Root Root (LinksFault P q x T U [] [] words) refl refl a b
      by (In k m) (Some Null) a b = refl
      by (In k m) (Some Dead) a b = refl
      by (In k m) (Some (Out j)) a b = refl
      by (In k m) (Some Outside) a b = refl
      by Root (Some Null) a b = refl
      by Root (Some Dead) a b = refl
      by Root (Some (Out j)) a b = refl
      by Root (Some Outside) a b = refl
      by Null None a b = refl
      by Dead None a b = refl
      by (Out k) None a b = refl
      by Outside None a b = refl
      by Null (Some to) a b = refl
      by Dead (Some to) a b = refl
      by (Out k) (Some to) a b = refl
      by Outside (Some to) a b = refl

  -- three parts and three
  joined : (f : ℕ → Part) (os ps : List Order) → three f ≡ os → three (λ k. f (k + 3)) ≡ ps → six f ≡ os ++ ps
  joined f os ps e g =
      ap (λ (rest : List Order). os_of (f 0) ++ (os_of (f 1) ++ (os_of (f 2) ++ rest)))
      (ap (λ (rest : List Order). os_of (f 3) ++ (os_of (f 4) ++ rest)) (append-nil (os_of (f 5))))
      ∙ sym (assoc (os_of (f 0)) (os_of (f 1) ++ os_of (f 2)) (three (λ k. f (k + 3)))
      ∙ ap (λ (rest : List Order). os_of (f 0) ++ rest) (assoc (os_of (f 1)) (os_of (f 2)) (three (λ k. f (k + 3)))))
      ∙ λ i. e i ++ g i

  pub ties_six : (x : ℕ) (r : Rec) → IsLinkedRec ss r → six (ties_part ss slot bind n s x r) ≡ ties_body slot q x (pictured_body ss r)
  ties_six x (Mutex locked) linked = refl
  ties_six x Cond linked = refl
  ties_six x Portset linked = refl
  ties_six x (Mapping first count offset write to) linked = refl
  ties_six x (Region first count write to) linked = refl
  ties_six x (Port set) linked = refl
  ties_six x (Reference to) linked = refl
  ties_six x (Thread t) linked =
      joined (ties_part ss slot bind n s x (Thread t)) (ties_its_talk slot q x (option_map (pictured_talk ss) t.talk))
      (ties_its_fault slot q x (option_map (pictured_fault ss) t.fault)) (talk t.talk linked.talk) (fault t.fault linked.fault)
    where
      talk : (t : Option TalkRec) → IsLinkedTalk ss t → three (λ k. talk_part ss slot bind n s x k t) ≡ ties_its_talk slot q x (option_map (pictured_talk ss) t)
      talk None linked = refl
      talk (Some t) linked = talk_three x t linked.0 linked.1

      fault : (f : Option FaultRec) → IsLinkedFault ss f
          → three (λ k. fault_part ss slot bind n s x k f) ≡ ties_its_fault slot q x (option_map (pictured_fault ss) f)
      fault None linked = refl
      fault (Some f) linked = fault_three x f f.taker linked.0 linked.1

  -- ---- an item, and those behind it

  abbrev pub six_at : Pass → ℕ → List Order
  six_at pass j = six (λ k. part_at ss slot bind n s pass j k)

  abbrev from_at : Pass → ℕ → List Order
  from_at pass j = items_from ss slot bind n s pass j

  pub item_orders : (orders : Path → ℕ → Body → List Order) (j : ℕ) (o : ObjectRec) → slice_get s.objects j ≡ Some o →
      from_item ss slot bind n s orders j ≡ orders q o.slot (pictured_body ss o.body) ++ from_item ss slot bind n s orders (suc j)
  item_orders orders j o at =
      ap (λ os. flat_map (λ (item : Item). orders q item.slot item.body) (map (item_of ss) os)) (drop_at s.objects j o at)
      ∙ flat_map-cons (λ (item : Item). orders q item.slot item.body) (item_of ss o) (map (item_of ss) (drop (suc j) s.objects))

  pub no_more : (orders : Path → ℕ → Body → List Order) (j : ℕ) → length s.objects ≤ j → from_item ss slot bind n s orders j ≡ []
  no_more orders j le = ap (λ os. flat_map (λ (item : Item). orders q item.slot item.body) (map (item_of ss) os)) (drop_out s.objects j le)

  pub object_six : (parts : ℕ → Rec → ℕ → Part) (j : ℕ) (o : ObjectRec) → slice_get s.objects j ≡ Some o
      → six (λ k. object_parts ss slot bind n s parts j k) ≡ six (parts o.slot o.body)
  object_six parts j o at = ap (λ x. six (λ k. by parts k x)) at
    where
      by : (ℕ → Rec → ℕ → Part) → ℕ → Option ObjectRec → Part
      by parts k None = Nothing
      by parts k (Some o) = parts o.slot o.body k
