-- What stands in the picture of a valid image may be made again.
use Rattle.std.proofs.Common.{◌≡◌, ℕ, ◌-◌, ◌≤◌, Bool, true, false, cond, ◌&&◌, ◌||◌, ◌==◌, List, [], ◌∷◌, Option, Some, None, option_map, is_some, refl, sym}
use Rattle.std.proofs.Common.{ap, subst, ◌∙◌, arith, eqb-true}
use Rattle.std.specs.Prelude.{slice_get}
use Rattle.std.proofs.lemmas.Bool.{and_parts, ltb-true}
use Rattle.fk_model.specs.declared.names.Kind.{Kind}
use Rattle.fk_model.specs.declared.names.Kind.TheVariants as kinds
use Rattle.fk_model.specs.declared.limits.TheConstants.{LAST_USER_SLOT}
use Rattle.fk_model.specs.Objects.{Peer as peers, Body as bodies}
use Rattle.fk_model.specs.World.{World}
use Rattle.fk_model.specs.Records.{member_by}
use Rattle.fk_model.specs.Shapes.{IsMember}
use Rattle.fk_model.specs.StateRows.{is_of_kinds, referable}
use Rattle.fk_image.specs.declared.image.image.Link.{Link}
use Rattle.fk_image.specs.declared.image.image.Link.TheVariants.{Null, Dead, In, Out, Root, Outside}
use Rattle.fk_image.specs.declared.image.image.TalkRec.{TalkRec}
use Rattle.fk_image.specs.declared.image.image.FaultRec.{FaultRec}
use Rattle.fk_image.specs.declared.image.image.Rec.{Rec}
use Rattle.fk_image.specs.declared.image.image.Rec.TheVariants.{Mutex, Cond, Portset, Mapping, Region, Port, Thread, Reference}
use Rattle.fk_image.specs.declared.image.image.ObjectRec.{ObjectRec}
use Rattle.fk_image.specs.declared.image.image.SpaceRec.{SpaceRec}
use Rattle.fk_image.specs.declared.image.image.Image.{Image}
use Rattle.fk_image.specs.Image.Objects.{kind_of_rec, kind_in}
use Rattle.fk_image.specs.Image.Ranges.{is_slot, is_set_word, is_byte, is_half, is_extent, is_bit, is_turn, fits_link, fits_taker, fits_talk, fits_fault}
use Rattle.fk_image.specs.Image.Ranges.{fits_body}
use Rattle.fk_image.specs.Image.Links.{kind_in_space, has_space_at, is_region_kind, is_port_kind, is_thread_kind, is_portset_kind, is_thread_in, is_set_of}
use Rattle.fk_image.specs.Image.Links.{leads_to_region, leads_to_keeper, leads_to_port, serves_port, may_refer, talk_leads, taker_leads, fault_leads}
use Rattle.fk_image.specs.Image.Links.{body_leads}
use Rattle.fk_image.specs.Image.Links as links
use Rattle.fk_image.specs.Image.Picture.{ptr, space_path, rec_in, pictured_talk, pictured_fault, pictured_body, picture}
use Rattle.laws_restore.specs.Restore.Fits.{there, is_referable, IsWay}
use Rattle.laws_restore.specs.Restore.Roomed.{IsAim, IsPair, IsTalkAim, IsPortAim, IsTakenAim, IsFaultAim, AreAims, IsAble}
use Rattle.laws_pictures.specs.Tree.{IsTree, IsFull}
use Rattle.laws_pictures.proofs.Bodies.{kind_by_rec, object_at, rising, ranged}
use Rattle.laws_restore.specs.Rooms.Rooms.{IsBinding}
use Rattle.laws_restore.proofs.InRooms.Ways.{may_be_referred, is_region, is_a_port, aim_way, object_aim, space_aim}
use Rattle.laws_restore.proofs.InRooms.Records.{thread_in, takes, says, given, told, no_space}

some_if : {A : Type 0} (test : Option A → Bool) (o : Option A) → test None ≡ false → test o ≡ true → is_some o ≡ true
some_if test None none e = absurd cc
some_if test (Some x) none e = refl

pub is_a_thread : (o : Option Kind) → is_thread_kind o ≡ true → o ≡ Some kinds.Thread
is_a_thread None e = absurd cc
is_a_thread (Some kinds.Mutex) e = absurd cc
is_a_thread (Some kinds.Cond) e = absurd cc
is_a_thread (Some kinds.Mapping) e = absurd cc
is_a_thread (Some kinds.Region) e = absurd cc
is_a_thread (Some kinds.Port) e = absurd cc
is_a_thread (Some kinds.Portset) e = absurd cc
is_a_thread (Some kinds.Space) e = absurd cc
is_a_thread (Some kinds.Thread) e = refl
is_a_thread (Some kinds.Reference) e = absurd cc

is_the_port : (o : Option Kind) → is_port_kind o ≡ true → o ≡ Some kinds.Port
is_the_port None e = absurd cc
is_the_port (Some kinds.Mutex) e = absurd cc
is_the_port (Some kinds.Cond) e = absurd cc
is_the_port (Some kinds.Mapping) e = absurd cc
is_the_port (Some kinds.Region) e = absurd cc
is_the_port (Some kinds.Port) e = refl
is_the_port (Some kinds.Portset) e = absurd cc
is_the_port (Some kinds.Space) e = absurd cc
is_the_port (Some kinds.Thread) e = absurd cc
is_the_port (Some kinds.Reference) e = absurd cc

-- ---- where the ranges say that a pointer out leads to a user's slot

region_fits : (first count write : ℕ) (to : Link) → fits_body (Region first count write to) ≡ true → fits_link to ≡ true
region_fits first count write to e = (and_parts (is_byte first && is_half count && is_extent first count && is_bit write) (fits_link to) e).1

talk_fits : (t : TalkRec) → fits_talk (Some t) ≡ true → fits_link t.port ≡ true
talk_fits t e = let p = and_parts (is_turn t.turn && is_half t.moved && fits_link t.port) (fits_link t.server) e in
    (and_parts (is_turn t.turn && is_half t.moved) (fits_link t.port) p.0).1

fault_fits : (f : FaultRec) → fits_fault (Some f) ≡ true → fits_link f.port ≡ true
fault_fits f e = let p = and_parts (is_byte f.page && is_bit f.write && fits_link f.port) (fits_taker f.taker) e in
    (and_parts (is_byte f.page && is_bit f.write) (fits_link f.port) p.0).1

user : (slot : ℕ) → is_slot slot ≡ true → slot ≤ LAST_USER_SLOT
user slot e = let lt = ltb-true slot 240 e in omega (arith, lt)

module _ (i : Image) (tree : IsTree i.spaces) (full : IsFull i.spaces) (bind : ℕ → ℕ) (low : IsBinding bind) where
  abbrev ss : List SpaceRec
  ss = i.spaces

  abbrev c : World
  c = picture i

  -- ---- pointers

  region_aim : (first count offset : ℕ) (write : Bool) (to : Link) → leads_to_region ss to ≡ true →
      IsAim bind c (bodies.Mapping (record { first = first; count = count; offset = offset; write = write; region = ptr ss to })) (ptr ss to)
  region_aim first count offset write Null e = tt
  region_aim first count offset write Dead e = tt
  region_aim first count offset write (In slot space) e =
      let kind = kind_in_space ss space slot in
      let aim = object_aim i tree full space slot (some_if is_region_kind kind refl e) in
      let is = is_region kind e in
      (aim_way i tree full space slot kind aim is.0, ap (is_of_kinds (kinds.Region ∷ [])) aim.found ∙ is.1)
  region_aim first count offset write (Out slot) e = absurd cc
  region_aim first count offset write Root e = absurd cc
  region_aim first count offset write Outside e = absurd cc

  keeper_aim : (first count : ℕ) (write : Bool) (to : Link) → leads_to_keeper ss to ≡ true → fits_link to ≡ true →
      IsAim bind c (bodies.Region (record { first = first; count = count; write = write; keeper = ptr ss to })) (ptr ss to)
  keeper_aim first count write Null e f = tt
  keeper_aim first count write Dead e f = tt
  keeper_aim first count write (In slot space) e f =
      let kind = kind_in_space ss space slot in
      let aim = object_aim i tree full space slot (some_if is_port_kind kind refl e) in
      let is = is_a_port kind e in
      (aim_way i tree full space slot kind aim is.0, ap (is_of_kinds (kinds.Port ∷ [])) aim.found ∙ is.1)
  keeper_aim first count write (Out slot) e f = (user slot f, low slot (user slot f), refl)
  keeper_aim first count write Root e f = absurd cc
  keeper_aim first count write Outside e f = absurd cc

  referred_aim : (to : Link) → may_refer ss to ≡ true → fits_link to ≡ true → IsAim bind c (bodies.Reference (ptr ss to)) (ptr ss to)
  unfolding picture
  referred_aim Null e f = tt
  referred_aim Dead e f = tt
  referred_aim (In slot space) e f = by (links.is_referable (kind_in_space ss space slot)) refl e
    where
      by : (b : Bool) → links.is_referable (kind_in_space ss space slot) ≡ b → (b || has_space_at ss space slot) ≡ true
          → IsAim bind c (bodies.Reference (ptr ss (In slot space))) (ptr ss (In slot space))
      by true p e =
          let kind = kind_in_space ss space slot in
          let aim = object_aim i tree full space slot (some_if links.is_referable kind refl p) in
          let is = may_be_referred kind p in
          (aim_way i tree full space slot kind aim is.0, ap (is_of_kinds referable) aim.found ∙ is.1)
      by false p e =
          let aim = space_aim i tree full space slot e in
          (aim_way i tree full space slot (Some kinds.Space) aim refl, ap (is_of_kinds referable) aim.found)
  referred_aim (Out slot) e f = (user slot f, low slot (user slot f), refl)
  referred_aim Root e f = (tt, refl)
  referred_aim Outside e f = absurd cc

  -- ---- talks and faults

  record IsPortIn (slot space : ℕ) : Type 0 where
    pub way : IsWay (there c) (slot ∷ space_path ss space)
    pub is : there c (slot ∷ space_path ss space) ≡ Some kinds.Port

  port_in : (slot space : ℕ) → is_port_kind (kind_in_space ss space slot) ≡ true → IsPortIn slot space
  port_in slot space e =
      let kind = kind_in_space ss space slot in
      let aim = object_aim i tree full space slot (some_if is_port_kind kind refl e) in
      record { way = aim_way i tree full space slot kind aim (is_a_port kind e).0; is = aim.found ∙ is_the_port kind e }

  pub record IsThreadAt (slot space : ℕ) : Type 0 where
    pub way : IsWay (there c) (slot ∷ space_path ss space)
    pub is : there c (slot ∷ space_path ss space) ≡ Some kinds.Thread

  pub thread_at : (slot space : ℕ) → is_thread_kind (kind_in_space ss space slot) ≡ true → IsThreadAt slot space
  thread_at slot space e =
      let kind = kind_in_space ss space slot in
      let aim = object_aim i tree full space slot (some_if is_thread_kind kind refl e) in
      let one = is_a_thread kind e in
      record { way = aim_way i tree full space slot kind aim (ap is_referable one); is = aim.found ∙ one }

  pair_aim : (to peer : Link) → leads_to_port ss to ≡ true → serves_port ss to peer ≡ true → fits_link to ≡ true
      → IsPair bind c (ptr ss to) (peers.Server (ptr ss peer))
  pair_aim (Out slot) Outside e f g = (user slot g, low slot (user slot g))
  pair_aim (Out slot) Null e f g = absurd cc
  pair_aim (Out slot) Dead e f g = absurd cc
  pair_aim (Out slot) (In k space) e f g = absurd cc
  pair_aim (Out slot) (Out k) e f g = absurd cc
  pair_aim (Out slot) Root e f g = absurd cc
  pair_aim (In slot space) (In k other) e f g =
      let both = and_parts (other == space) (is_thread_kind (kind_in_space ss other k)) f in
      let port = port_in slot space e in
      let thread = thread_at k other both.1 in
      (port.way, port.is, thread.way, thread.is, sym (ap (space_path ss) (eqb-true other space both.0)))
  pair_aim (In slot space) Null e f g = absurd cc
  pair_aim (In slot space) Dead e f g = absurd cc
  pair_aim (In slot space) (Out k) e f g = absurd cc
  pair_aim (In slot space) Root e f g = absurd cc
  pair_aim (In slot space) Outside e f g = absurd cc
  pair_aim Null peer e f g = absurd cc
  pair_aim Dead peer e f g = absurd cc
  pair_aim Root peer e f g = absurd cc
  pair_aim Outside peer e f g = absurd cc

  port_aim : (to : Link) → leads_to_port ss to ≡ true → fits_link to ≡ true → IsPortAim bind c (ptr ss to)
  port_aim (Out slot) e g = (user slot g, low slot (user slot g))
  port_aim (In slot space) e g = let port = port_in slot space e in (port.way, port.is)
  port_aim Null e g = absurd cc
  port_aim Dead e g = absurd cc
  port_aim Root e g = absurd cc
  port_aim Outside e g = absurd cc

  talk_aim : (t : Option TalkRec) → talk_leads ss t ≡ true → fits_talk t ≡ true → IsTalkAim bind c (option_map (pictured_talk ss) t)
  talk_aim None e f = tt
  talk_aim (Some t) e f = let both = and_parts (leads_to_port ss t.port) (serves_port ss t.port t.server) e in
      pair_aim t.port t.server both.0 both.1 (talk_fits t f)

  taken_aim : (to : Link) (taker : Option Link) → leads_to_port ss to ≡ true → taker_leads ss to taker ≡ true → fits_link to ≡ true →
      IsTakenAim bind c (ptr ss to) (option_map (λ p. peers.Server (ptr ss p)) taker)
  taken_aim to None e f g = port_aim to e g
  taken_aim to (Some p) e f g = pair_aim to p e f g

  fault_aim : (o : Option FaultRec) → fault_leads ss o ≡ true → fits_fault o ≡ true → IsFaultAim bind c (option_map (pictured_fault ss) o)
  fault_aim None e f = tt
  fault_aim (Some o) e f = let both = and_parts (leads_to_port ss o.port) (taker_leads ss o.port o.taker) e in
      taken_aim o.port o.taker both.0 both.1 (fault_fits o f)

  body_aims : (os : List ObjectRec) (r : Rec) → body_leads ss os r ≡ true → fits_body r ≡ true → AreAims bind c (pictured_body ss r)
  body_aims os (Mutex locked) e f = tt
  body_aims os Cond e f = tt
  body_aims os Portset e f = tt
  body_aims os (Mapping first count offset write to) e f = region_aim first count offset (write == 1) to e
  body_aims os (Region first count write to) e f = keeper_aim first count (write == 1) to e (region_fits first count write to f)
  body_aims os (Port set) e f = tt
  body_aims os (Thread t) e f =
      let both = and_parts (talk_leads ss t.talk) (fault_leads ss t.fault) e in
      let n = thread_in t f in
      (talk_aim t.talk both.0 n.talk, fault_aim t.fault both.1 n.fault)
  body_aims os (Reference to) e f = referred_aim to e f

  -- ---- sets

  set_is : (os : List ObjectRec) (k : ℕ) → is_portset_kind (kind_in os k) ≡ true → rec_in os k ≡ Some Portset
  set_is os k e = by (rec_in os k) (sym (ap is_portset_kind (kind_by_rec os k)) ∙ e)
    where
      by : (o : Option Rec) → is_portset_kind (option_map kind_of_rec o) ≡ true → o ≡ Some Portset
      by None e = absurd cc
      by (Some (Mutex locked)) e = absurd cc
      by (Some Cond) e = absurd cc
      by (Some Portset) e = refl
      by (Some (Mapping first count offset write to)) e = absurd cc
      by (Some (Region first count write to)) e = absurd cc
      by (Some (Port set)) e = absurd cc
      by (Some (Thread t)) e = absurd cc
      by (Some (Reference to)) e = absurd cc

  member : (n : ℕ) (s : SpaceRec) (set : ℕ) → slice_get ss n ≡ Some s → is_set_word set ≡ true → is_set_of s.objects set ≡ true
      → IsMember c (space_path ss n) false (member_by set)
  unfolding picture
  member n s set here word e = by (set == 0) e
    where
      by : (b : Bool) → (b || is_portset_kind (kind_in s.objects (set - 1))) ≡ true → IsMember c (space_path ss n) false (cond b None (Some (set - 1)))
      by true e = tt
      by false e =
          let lt = ltb-true set 241 word in
          (refl, omega (arith, lt), object_at ss tree n (set - 1) s Portset here (set_is s.objects (set - 1) e))

  -- ---- objects

  pub object_able : (n k : ℕ) (s : SpaceRec) (r : Rec) → slice_get ss n ≡ Some s → rec_in s.objects k ≡ Some r → body_leads ss s.objects r ≡ true
      → IsAble bind c (space_path ss n) k (pictured_body ss r)
  unfolding picture
  object_able n k s r here at lead =
      let fit = ranged 0 s.objects k r (rising s.objects (full.objects n s here)) at in
      let slot = fit.slot in
      record {
        there = object_at ss tree n k s r here at;
        low = omega (arith, slot);
        no_space = no_space ss r;
        takes = takes ss c (space_path ss n) r fit.fits
            (λ set is. member n s set here (subst (λ r. fits_body r ≡ true) is fit.fits) (subst (λ r. body_leads ss s.objects r ≡ true) is lead));
        says = says ss r fit.fits;
        aims = body_aims s.objects r lead fit.fits;
        given = given ss r fit.fits;
        told = told ss r fit.fits;
      }
