-- Only the orders before the passes of the nester's slots look for a port.
use Rattle.std.proofs.Common.{◌≡◌, ℕ, zero, suc, Bool, true, false, cond, List, [], ◌∷◌, map, replicate, Option, Some, None, option_map, refl, sym, ap, ◌∙◌}
use Rattle.std.specs.Prelude.{◌==◌, ◌+◌, ◌-◌, nat_lt, length, slice_get}
use Rattle.std.proofs.lemmas.Option.{slice_get-map}
use Rattle.fk_image.specs.declared.image.image.Link.{Link}
use Rattle.fk_image.specs.declared.image.image.Link.TheVariants.{Null, Dead, In, Out, Root, Outside}
use Rattle.fk_image.specs.declared.image.image.TalkRec.{TalkRec}
use Rattle.fk_image.specs.declared.image.image.FaultRec.{FaultRec}
use Rattle.fk_image.specs.declared.image.image.Rec.{Rec}
use Rattle.fk_image.specs.declared.image.image.ObjectRec.{ObjectRec}
use Rattle.fk_image.specs.declared.image.image.PageRec.{PageRec}
use Rattle.fk_image.specs.declared.image.image.SpaceRec.{SpaceRec}
use Rattle.fk_image.specs.Image.Picture.{space_path}
use Rattle.laws_restore.specs.Sites.Orders.{Order}
use Rattle.laws_restore.specs.Sites.Orders.Order.{Gives, Leads, LeadsTop}
use Rattle.laws_restore.specs.Restore.Script as script
use Rattle.fk_restore.specs.declared.orders.looks.Look.{Look, Look as looks}
use Rattle.fk_restore.specs.declared.positions.position.Walk.{Walk}
use Rattle.fk_restore.specs.declared.positions.position.Walk.TheVariants.{Done, Top, Down}
use Rattle.fk_restore.specs.declared.positions.position.Pass.{Pass}
use Rattle.fk_restore.specs.declared.positions.position.Pass.TheVariants.{Spaces, Fills, Inward, Outward, Ties, Holds}
use Rattle.fk_restore.specs.Positions.Walks.{walk_order, last_order, slot_at, child_towards}
use Rattle.fk_restore.specs.Positions.Passes as words
use Rattle.fk_restore.specs.Positions.Passes.{Part, leads_within, is_out, link_of, talk_of, fault_of, before, behind, leads_out_any}
use Rattle.fk_restore.specs.Positions.Passes.Part.{Nothing, Walks, Asks}
use Rattle.fk_restore.specs.Positions.Positions.{asked, asked_in}
use Rattle.fk_restore.specs.Positions.Doing.{pins}
use Rattle.fk_restore.specs.Orders.Looks.{look_of, look_in}

-- ---- lists of orders

abbrev or_plain : Option Look → Look
or_plain None = looks.Plain
or_plain (Some look) = look

said : (o : Option Order) → look_in o ≡ or_plain (option_map look_of o)
said None = refl
said (Some o) = refl

alike : (n k : ℕ) → or_plain (slice_get (replicate n looks.Plain) k) ≡ looks.Plain
alike zero k = refl
alike (suc n) zero = refl
alike (suc n) (suc k) = alike n k

quiet : (os : List Order) (n k : ℕ) → map look_of os ≡ replicate n looks.Plain → look_in (slice_get os k) ≡ looks.Plain
quiet os n k e = said (slice_get os k) ∙ ap or_plain (sym (slice_get-map look_of os k) ∙ ap (λ xs. slice_get xs k) e) ∙ alike n k

pub opens_plain : (slot k : ℕ) → look_in (slice_get (script.opens slot) k) ≡ looks.Plain
opens_plain slot k = quiet (script.opens slot) 9 k refl

-- of the three that look all but the first and the third
pub others_plain : (port k : ℕ) → (k == 0) ≡ false → (k == 2) ≡ false → look_in (slice_get (pins port) k) ≡ looks.Plain
others_plain port zero first third = absurd cc
others_plain port (suc zero) first third = refl
others_plain port (suc (suc zero)) first third = absurd cc
others_plain port (suc (suc (suc k))) first third = refl

pub behind_plain : (ss : List SpaceRec) (pass : Pass) (k : ℕ) → look_in (slice_get (behind ss pass) k) ≡ looks.Plain
behind_plain ss Spaces k = refl
behind_plain ss Fills k = refl
behind_plain ss Inward k = refl
behind_plain ss Ties k = refl
behind_plain ss Holds k = quiet script.closes 7 k refl
behind_plain ss (Outward i) k = by (leads_out_any ss i)
  where
    by : (b : Bool) → look_in (slice_get (cond b (LeadsTop script.T ∷ []) []) k) ≡ looks.Plain
    by true = quiet (LeadsTop script.T ∷ []) 1 k refl
    by false = refl

-- ---- walks

pub walk_plain : (ss : List SpaceRec) (w : Walk) → look_in (walk_order ss w) ≡ looks.Plain
walk_plain ss Done = refl
walk_plain ss (Top r) = refl
walk_plain ss (Down r name from to last) = by (from == to)
  where
    ends : (last : Option ℕ) → look_in (last_order r name (space_path ss to) last) ≡ looks.Plain
    ends None = refl
    ends (Some k) = refl

    by : (b : Bool) → look_in (cond b (last_order r name (space_path ss to) last)
        (Some (Leads r name (space_path ss from) (slot_at ss (child_towards ss from to))))) ≡ looks.Plain
    by true = ends last
    by false = refl

-- ---- parts

module _ (ss : List SpaceRec) (slot : ℕ) (bind : ℕ → ℕ) (n : ℕ) (s : SpaceRec) where
  abbrev Quiet : Part → Type 0
  Quiet part = look_in (asked ss slot bind part) ≡ looks.Plain

  if_quiet : (b : Bool) (p q : Part) → Quiet p → Quiet q → Quiet (cond b p q)
  if_quiet true p q hp hq = hp
  if_quiet false p q hp hq = hq

  object_quiet : (order : ObjectRec → Order) → ((o : ObjectRec) → look_of (order o) ≡ looks.Plain) → (j : ℕ) (os : List ObjectRec)
      → Quiet (words.object_part ss slot bind n s order j os)
  object_quiet order each j os = by (slice_get os j)
    where
      by : (o : Option ObjectRec) → Quiet (elim o [ None ↦ Nothing | Some o ↦ Asks (order o) ])
      by None = refl
      by (Some o) = each o

  page_quiet : (j : ℕ) → Quiet (words.page_part ss slot bind n s j s.pages)
  page_quiet j = by (slice_get s.pages j)
    where
      by : (o : Option PageRec) → Quiet (elim o [ None ↦ Nothing | Some p ↦ Asks (Gives script.P (space_path ss n) p.page p.words) ])
      by None = refl
      by (Some p) = refl

  points_quiet : (x : ℕ) (to : Link) → Quiet (words.points_to ss slot bind n s x to)
  points_quiet x (In k m) = refl
  points_quiet x Root = refl
  points_quiet x Null = refl
  points_quiet x Dead = refl
  points_quiet x Outside = refl
  points_quiet x (Out j) = refl

  walks_quiet : (r a : ℕ) (to : Link) → Quiet (words.walks_to ss slot bind n s r a to)
  walks_quiet r a (In k m) = refl
  walks_quiet r a Root = refl
  walks_quiet r a Null = refl
  walks_quiet r a Dead = refl
  walks_quiet r a Outside = refl
  walks_quiet r a (Out j) = refl

  inward_quiet : (x : ℕ) (r : Rec) (k : ℕ) → Quiet (words.inward_part ss slot bind n s x r k)
  inward_quiet x r k =
      if_quiet (k == 0) (words.walks_to ss slot bind n s script.T n (link_of r)) _ (walks_quiet script.T n (link_of r))
      (if_quiet (k == 1) (words.points_to ss slot bind n s x (link_of r)) Nothing (points_quiet x (link_of r)) refl)

  outward_quiet : (i x : ℕ) (r : Rec) (k : ℕ) → Quiet (words.outward_part ss slot bind n s i x r k)
  outward_quiet i x r k =
      if_quiet (k == 0) (words.points_out_part ss slot bind n s i x (link_of r)) _ (if_quiet (is_out ss slot bind n s i (link_of r)) _ Nothing refl refl)
      (if_quiet (k == 1) (words.parks_talk_part ss slot bind n s i x (talk_of r)) _ (talk (talk_of r))
      (if_quiet (k == 2) (words.parks_fault_part ss slot bind n s i x (fault_of r)) Nothing (fault (fault_of r)) refl))
    where
      talk : (t : Option TalkRec) → Quiet (words.parks_talk_part ss slot bind n s i x t)
      talk None = refl
      talk (Some t) = if_quiet (is_out ss slot bind n s i t.port) _ Nothing refl refl

      fault : (f : Option FaultRec) → Quiet (words.parks_fault_part ss slot bind n s i x f)
      fault None = refl
      fault (Some f) = if_quiet (is_out ss slot bind n s i f.port) _ Nothing refl refl

  talk_quiet : (x k : ℕ) (t : Option TalkRec) → Quiet (words.talk_part ss slot bind n s x k t)
  talk_quiet x k None = refl
  talk_quiet x k (Some t) =
      if_quiet (words.is_pair ss slot bind n s t.port t.server) _ Nothing
      (if_quiet (k == 0) _ _ (walks_quiet script.T n t.port) (if_quiet (k == 1) _ _ (walks_quiet script.U n t.server) refl)) refl

  taken_quiet : (x k : ℕ) (f : FaultRec) (taker : Option Link) → Quiet (words.taken_part ss slot bind n s x k f taker)
  taken_quiet x k f None = if_quiet (leads_within f.port) _ Nothing
      (if_quiet (k == 0) _ _ (walks_quiet script.T n f.port) (if_quiet (k == 1) Nothing _ refl refl)) refl
  taken_quiet x k f (Some to) =
      if_quiet (words.is_pair ss slot bind n s f.port to) _ Nothing
      (if_quiet (k == 0) _ _ (walks_quiet script.T n f.port) (if_quiet (k == 1) _ _ (walks_quiet script.U n to) refl)) refl

  fault_quiet : (x k : ℕ) (f : Option FaultRec) → Quiet (words.fault_part ss slot bind n s x k f)
  fault_quiet x k None = refl
  fault_quiet x k (Some f) = taken_quiet x k f f.taker

  ties_quiet : (x : ℕ) (r : Rec) (k : ℕ) → Quiet (words.ties_part ss slot bind n s x r k)
  ties_quiet x r k =
      if_quiet (nat_lt k 3) (words.talk_part ss slot bind n s x k (talk_of r)) _ (talk_quiet x k (talk_of r))
      (if_quiet (nat_lt k 6) (words.fault_part ss slot bind n s x (k - 3) (fault_of r)) Nothing (fault_quiet x (k - 3) (fault_of r)) refl)

  objects_quiet : (parts : ℕ → Rec → ℕ → Part) → ((x : ℕ) (r : Rec) (k : ℕ) → Quiet (parts x r k)) → (j k : ℕ)
      → Quiet (words.object_parts ss slot bind n s parts j k)
  objects_quiet parts each j k = by (slice_get s.objects j)
    where
      by : (o : Option ObjectRec) → Quiet (elim o [ None ↦ Nothing | Some o ↦ parts o.slot o.body k ])
      by None = refl
      by (Some o) = each o.slot o.body k

  part_quiet : (pass : Pass) (j k : ℕ) → Quiet (words.part_at ss slot bind n s pass j k)
  part_quiet Spaces j k = if_quiet (k == 0) _ Nothing refl refl
  part_quiet Fills j k =
      if_quiet (k == 0) (words.fills_item ss slot bind n s j) Nothing
      (if_quiet (nat_lt j (length s.objects)) _ _ (object_quiet (words.makes_object ss slot bind n s) (λ o. refl) j s.objects)
      (if_quiet (nat_lt j (length s.objects + length s.objects)) _ _
      (object_quiet (words.sets_object ss slot bind n s) (λ o. refl) (j - length s.objects) s.objects)
      (page_quiet (j - (length s.objects + length s.objects))))) refl
  part_quiet Inward j k = objects_quiet (words.inward_part ss slot bind n s) inward_quiet j k
  part_quiet (Outward i) j k = objects_quiet (words.outward_part ss slot bind n s i) (outward_quiet i) j k
  part_quiet Ties j k = objects_quiet (words.ties_part ss slot bind n s) ties_quiet j k
  part_quiet Holds j k = if_quiet (leads_within s.holder) _ Nothing (if_quiet (k == 0) _ _ refl (if_quiet (k == 1) _ Nothing refl refl)) refl

pub part_plain : (ss : List SpaceRec) (slot : ℕ) (bind : ℕ → ℕ) (pass : Pass) (n j k : ℕ) (o : Option SpaceRec)
    → look_in (asked_in ss slot bind pass n j k o) ≡ looks.Plain
part_plain ss slot bind pass n j k None = refl
part_plain ss slot bind pass n j k (Some s) = by (nat_lt k 6)
  where
    by : (b : Bool) → look_in (cond b (asked ss slot bind (words.part_at ss slot bind n s pass j k)) None) ≡ looks.Plain
    by true = part_quiet ss slot bind n s pass j k
    by false = refl
