-- In a valid image links lead to spaces that are there.
use Rattle.std.proofs.Common.{◌≡◌, ℕ, zero, suc, ◌+◌, Bool, true, false, not, ◌||◌, ◌==◌, List, [], ◌∷◌, Option, Some, None, is_some, refl, sym, ap, ◌∙◌}
use Rattle.std.specs.Prelude.{slice_get}
use Rattle.std.specs.List.{list_all}
use Rattle.std.proofs.lemmas.Bool.{and_parts}
use Rattle.fk_model.specs.declared.names.Kind.{Kind}
use Rattle.fk_image.specs.declared.image.image.Link.{Link}
use Rattle.fk_image.specs.declared.image.image.Link.TheVariants.{Null, Dead, In, Out, Root, Outside}
use Rattle.fk_image.specs.declared.image.image.TalkRec.{TalkRec}
use Rattle.fk_image.specs.declared.image.image.FaultRec.{FaultRec}
use Rattle.fk_image.specs.declared.image.image.Rec.{Rec}
use Rattle.fk_image.specs.declared.image.image.Rec.TheVariants.{Mutex, Cond, Portset, Mapping, Region, Port, Thread, Reference}
use Rattle.fk_image.specs.declared.image.image.ObjectRec.{ObjectRec}
use Rattle.fk_image.specs.declared.image.image.SpaceRec.{SpaceRec}
use Rattle.fk_image.specs.declared.image.image.Image.{Image}
use Rattle.fk_image.specs.Image.Links.{kind_in_space, has_space_at, is_region_kind, is_port_kind, is_thread_kind, leads_to_region, leads_to_keeper}
use Rattle.fk_image.specs.Image.Links.{leads_to_port, may_refer, serves_port, talk_leads, taker_leads, fault_leads, body_leads, may_hold, is_space_within}
use Rattle.fk_image.specs.Image.Links.{spaces_lead}
use Rattle.fk_image.specs.Image.Links as links
use Rattle.laws_pictures.specs.Tree.{IsTree, IsFull}
use Rattle.laws_pictures.proofs.Bodies.{kind_of_space, lead_at}
use Rattle.laws_restore.proofs.InRooms.Ways.{space_aim}
use Rattle.fk_restore.proofs.InPositions.Parted.{IsLinked, IsLinkedTalk, IsLinkedTaker, IsLinkedFault, IsLinkedRec}

module _ (i : Image) (tree : IsTree i.spaces) (full : IsFull i.spaces) where
  abbrev ss : List SpaceRec
  ss = i.spaces

  -- a test that no missing kind passes
  there_by : (test : Option Kind → Bool) (space slot : ℕ) → test None ≡ false → test (kind_in_space ss space slot) ≡ true → is_some (slice_get ss space) ≡ true
  there_by test space slot none e = by (slice_get ss space) e
    where
      clash : true ≡ false → ⊥
      clash e = cc

      by : (o : Option SpaceRec) → test (kind_of_space slot o) ≡ true → is_some o ≡ true
      by None e = absurd (clash (sym e ∙ none))
      by (Some s) e = refl

  region : (to : Link) → leads_to_region ss to ≡ true → IsLinked ss to
  region (In k m) e = there_by is_region_kind m k refl e
  region Null e = tt
  region Dead e = tt
  region (Out k) e = tt
  region Root e = tt
  region Outside e = tt

  keeper : (to : Link) → leads_to_keeper ss to ≡ true → IsLinked ss to
  keeper (In k m) e = there_by is_port_kind m k refl e
  keeper Null e = tt
  keeper Dead e = tt
  keeper (Out k) e = tt
  keeper Root e = tt
  keeper Outside e = tt

  referred : (to : Link) → may_refer ss to ≡ true → IsLinked ss to
  referred (In k m) e = by (links.is_referable (kind_in_space ss m k)) refl e
    where
      by : (b : Bool) → links.is_referable (kind_in_space ss m k) ≡ b → (b || has_space_at ss m k) ≡ true → is_some (slice_get ss m) ≡ true
      by true p e = there_by links.is_referable m k refl p
      by false p e = (space_aim i tree full m k e).above
  referred Null e = tt
  referred Dead e = tt
  referred (Out k) e = tt
  referred Root e = tt
  referred Outside e = tt

  port : (to : Link) → leads_to_port ss to ≡ true → IsLinked ss to
  port (In k m) e = there_by is_port_kind m k refl e
  port Null e = tt
  port Dead e = tt
  port (Out k) e = tt
  port Root e = tt
  port Outside e = tt

  served : (to peer : Link) → leads_to_port ss to ≡ true → serves_port ss to peer ≡ true → IsLinked ss peer
  served (In k m) (In j l) e f = there_by is_thread_kind l j refl (and_parts (l == m) (is_thread_kind (kind_in_space ss l j)) f).1
  served (Out k) (In j l) e f = absurd cc
  served Null (In j l) e f = absurd cc
  served Dead (In j l) e f = absurd cc
  served Root (In j l) e f = absurd cc
  served Outside (In j l) e f = absurd cc
  served to Null e f = tt
  served to Dead e f = tt
  served to (Out j) e f = tt
  served to Root e f = tt
  served to Outside e f = tt

  talk : (t : Option TalkRec) → talk_leads ss t ≡ true → IsLinkedTalk ss t
  talk None e = tt
  talk (Some t) e = let both = and_parts (leads_to_port ss t.port) (serves_port ss t.port t.server) e in
      (port t.port both.0, served t.port t.server both.0 both.1)

  fault : (f : Option FaultRec) → fault_leads ss f ≡ true → IsLinkedFault ss f
  fault None e = tt
  fault (Some f) e = let both = and_parts (leads_to_port ss f.port) (taker_leads ss f.port f.taker) e in (port f.port both.0, taker f.taker both.0 both.1)
    where
      taker : (o : Option Link) → leads_to_port ss f.port ≡ true → taker_leads ss f.port o ≡ true → IsLinkedTaker ss o
      taker None e g = tt
      taker (Some to) e g = served f.port to e g

  rec : (os : List ObjectRec) (r : Rec) → body_leads ss os r ≡ true → IsLinkedRec ss r
  rec os (Mutex locked) e = record { link = tt; talk = tt; fault = tt }
  rec os Cond e = record { link = tt; talk = tt; fault = tt }
  rec os Portset e = record { link = tt; talk = tt; fault = tt }
  rec os (Mapping first count offset write to) e = record { link = region to e; talk = tt; fault = tt }
  rec os (Region first count write to) e = record { link = keeper to e; talk = tt; fault = tt }
  rec os (Port set) e = record { link = tt; talk = tt; fault = tt }
  rec os (Thread t) e = let both = and_parts (talk_leads ss t.talk) (fault_leads ss t.fault) e in
      record { link = tt; talk = talk t.talk both.0; fault = fault t.fault both.1 }
  rec os (Reference to) e = record { link = referred to e; talk = tt; fault = tt }

  module _ (lead : spaces_lead ss 0 ss ≡ true) where
    all_at : (test : Rec → Bool) (os : List ObjectRec) (j : ℕ) (o : ObjectRec) → list_all (λ (o : ObjectRec). test o.body) os ≡ true → slice_get os j ≡ Some o
        → test o.body ≡ true
    all_at test [] j o e at = absurd cc
    all_at test (x ∷ os) zero o e at = let same : x ≡ o = cc in ap (λ (y : ObjectRec). test y.body) (sym same)
        ∙ (and_parts (test x.body) (list_all (λ (o : ObjectRec). test o.body) os) e).0
    all_at test (x ∷ os) (suc j) o e at = all_at test os j o (and_parts (test x.body) (list_all (λ (o : ObjectRec). test o.body) os) e).1 at

    pub linked_at : (n : ℕ) (s : SpaceRec) → slice_get ss n ≡ Some s → (j : ℕ) (o : ObjectRec) → slice_get s.objects j ≡ Some o → IsLinkedRec ss o.body
    linked_at n s here j o at =
        let all = and_parts (may_hold ss (0 + n) s.holder) _ (lead_at ss 0 ss n s lead here) in
        rec s.objects o.body (all_at (body_leads ss s.objects) s.objects j o all.1 at)

    pub holder_at : (n : ℕ) (s : SpaceRec) → slice_get ss n ≡ Some s → IsLinked ss s.holder
    holder_at n s here = by s.holder (and_parts (may_hold ss (0 + n) s.holder) _ (lead_at ss 0 ss n s lead here)).0
      where
        by : (to : Link) → may_hold ss (0 + n) to ≡ true → IsLinked ss to
        by (In k m) e = there_by is_thread_kind m k refl (and_parts (is_thread_kind (kind_in_space ss m k)) (not (is_space_within ss (0 + n) m)) e).0
        by Null e = tt
        by Dead e = tt
        by (Out k) e = tt
        by Root e = tt
        by Outside e = tt
