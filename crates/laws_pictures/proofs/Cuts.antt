-- The picture of a valid image is a cut world.
use Rattle.std.proofs.Common.{◌≡◌, ℕ, suc, ◌+◌, ◌⊎◌, inl, inr, Bool, true, false, cond, ◌==◌, List, [], ◌∷◌, ◌++◌, Option, Some, None, option_map, refl, sym}
use Rattle.std.proofs.Common.{ap, subst, ◌∙◌}
use Rattle.std.specs.Prelude.{IfSome}
use Rattle.std.proofs.lemmas.Bool.{and_parts}
use Rattle.std.proofs.lemmas.List.{append-nil}
use Rattle.fk_model.specs.declared.stage.Stage.{Stage}
use Rattle.fk_model.specs.Calls.{todo_of}
use Rattle.fk_model.specs.Places.{Path, Ptr, Ptr as ptrs}
use Rattle.fk_model.specs.Objects.{Peer, Body, Peer as peers, Body as bodies, Mode as modes, and_then}
use Rattle.fk_model.specs.Holds.{is_porter}
use Rattle.fk_model.specs.World.{World}
use Rattle.fk_model.specs.Valid.{kind_there}
use Rattle.fk_model.specs.Cut.{is_out, seen_by, unheld}
use Rattle.fk_image.specs.declared.image.image.Link.{Link}
use Rattle.fk_image.specs.declared.image.image.Link.TheVariants.{Null, Dead, In, Out, Root, Outside}
use Rattle.fk_image.specs.declared.image.image.TalkRec.{TalkRec}
use Rattle.fk_image.specs.declared.image.image.FaultRec.{FaultRec}
use Rattle.fk_image.specs.declared.image.image.Rec.{Rec}
use Rattle.fk_image.specs.declared.image.image.Rec.TheVariants.{Mutex, Cond, Portset, Mapping, Region, Port, Thread, Reference}
use Rattle.fk_image.specs.declared.image.image.ObjectRec.{ObjectRec}
use Rattle.fk_image.specs.declared.image.image.SpaceRec.{SpaceRec}
use Rattle.fk_image.specs.declared.image.image.Image.{Image}
use Rattle.fk_image.specs.Image.Links.{may_hold, leads_to_region, leads_to_keeper, may_refer, leads_to_port, serves_port, talk_leads, taker_leads, fault_leads}
use Rattle.fk_image.specs.Image.Links.{body_leads, spaces_lead, all_lead}
use Rattle.fk_image.specs.Image.Picture.{ptr, mode, mode_while_calling, pictured_holder, pictured_talk, pictured_fault, pictured_thread, pictured_body}
use Rattle.fk_image.specs.Image.Picture.{pictured_body_at, picture}
use Rattle.fk_image.specs.Image.Valid.{fits_spaces, is_valid}
use Rattle.laws_subtrees.specs.Cut.Likeness.{PtrLikeness, HasLikeness, IsPlainBody, AllInTalk, AllInFault, IfServer, seeing, seen_peer, seen_talk, seen_fault}
use Rattle.laws_subtrees.specs.Cut.Likeness.PtrLikeness.{Nulls, Deads, Inside, PortOut}
use Rattle.laws_pictures.proofs.Trees.{valid_is_tree}
use Rattle.laws_pictures.proofs.Bodies.{Object, Inner, stands, lead_at, rec_all}
use Rattle.laws_pictures.specs.Pictured.{PictureIsCutWorld}

abbrev id : Ptr → Ptr
id p = p

module _ (ss : List SpaceRec) (big : World) where
  abbrev Alike : Ptr → Type 0
  Alike p = PtrLikeness [] big p p

  inside : (x : Path) → Alike (ptrs.At x)
  inside x = subst (λ y. PtrLikeness [] big (ptrs.At y) (ptrs.At x)) (append-nil x) (Inside x)

  -- what a pointer leads to, but for a peer outside
  abbrev Leads : Link → Type 0
  Leads Outside = ⊥
  Leads other = Unit {0}

  alike : (to : Link) → Leads to → Alike (ptr ss to)
  alike Null h = Nulls
  alike Dead h = Deads
  alike (In slot space) h = inside _
  alike (Out slot) h = PortOut slot slot
  alike Root h = inside []
  alike Outside h = absurd h

  region : (to : Link) → leads_to_region ss to ≡ true → Leads to
  region Outside e = absurd cc
  region Null e = tt
  region Dead e = tt
  region (In slot space) e = tt
  region (Out slot) e = tt
  region Root e = tt

  keeper : (to : Link) → leads_to_keeper ss to ≡ true → Leads to
  keeper Outside e = absurd cc
  keeper Null e = tt
  keeper Dead e = tt
  keeper (In slot space) e = tt
  keeper (Out slot) e = tt
  keeper Root e = tt

  referred : (to : Link) → may_refer ss to ≡ true → Leads to
  referred Outside e = absurd cc
  referred Null e = tt
  referred Dead e = tt
  referred (In slot space) e = tt
  referred (Out slot) e = tt
  referred Root e = tt

  port : (to : Link) → leads_to_port ss to ≡ true → Leads to
  port Outside e = absurd cc
  port Null e = tt
  port Dead e = tt
  port (In slot space) e = tt
  port (Out slot) e = tt
  port Root e = tt

  holder : (n : ℕ) (to : Link) → may_hold ss n to ≡ true → IfSome (pictured_holder ss to) Alike
  holder n Outside e = absurd cc
  holder n Null e = tt
  holder n Dead e = absurd cc
  holder n (In slot space) e = inside _
  holder n (Out slot) e = absurd cc
  holder n Root e = absurd cc

  -- ---- peers

  peer_seen : (to peer : Link) → leads_to_port ss to ≡ true → serves_port ss to peer ≡ true →
      seen_peer id (is_out (ptr ss to)) (peers.Server (ptr ss peer)) ≡ peers.Server (ptr ss peer)
  peer_seen (Out slot) Outside e f = refl
  peer_seen (Out slot) Null e f = absurd cc
  peer_seen (Out slot) Dead e f = absurd cc
  peer_seen (Out slot) (In k space) e f = absurd cc
  peer_seen (Out slot) (Out k) e f = absurd cc
  peer_seen (Out slot) Root e f = absurd cc
  peer_seen (In slot space) peer e f = refl
  peer_seen Null peer e f = absurd cc
  peer_seen Dead peer e f = absurd cc
  peer_seen Root peer e f = absurd cc
  peer_seen Outside peer e f = absurd cc

  peer_alike : (to peer : Link) → leads_to_port ss to ≡ true → serves_port ss to peer ≡ true → IfServer (is_out (ptr ss to)) (peers.Server (ptr ss peer)) Alike
  peer_alike (Out slot) peer e f = tt
  peer_alike (In slot space) (In k other) e f = inside _
  peer_alike (In slot space) Null e f = absurd cc
  peer_alike (In slot space) Dead e f = absurd cc
  peer_alike (In slot space) (Out k) e f = absurd cc
  peer_alike (In slot space) Root e f = absurd cc
  peer_alike (In slot space) Outside e f = absurd cc
  peer_alike Null peer e f = absurd cc
  peer_alike Dead peer e f = absurd cc
  peer_alike Root peer e f = absurd cc
  peer_alike Outside peer e f = absurd cc

  -- ---- talks and faults

  talk_seen : (t : Option TalkRec) → talk_leads ss t ≡ true
      → and_then (λ talk. Some (seen_talk id talk)) (option_map (pictured_talk ss) t) ≡ option_map (pictured_talk ss) t
  talk_seen None e = refl
  talk_seen (Some t) e =
      let both = and_parts (leads_to_port ss t.port) (serves_port ss t.port t.server) e in
      ap (λ (p : Peer). Some (record (pictured_talk ss t) { peer = p })) (peer_seen t.port t.server both.0 both.1)

  talk_alike : (t : Option TalkRec) → talk_leads ss t ≡ true → IfSome (option_map (pictured_talk ss) t) (AllInTalk id Alike)
  talk_alike None e = tt
  talk_alike (Some t) e =
      let both = and_parts (leads_to_port ss t.port) (serves_port ss t.port t.server) e in
      (alike t.port (port t.port both.0), peer_alike t.port t.server both.0 both.1)

  taker_seen : (to : Link) (taker : Option Link) → leads_to_port ss to ≡ true → taker_leads ss to taker ≡ true →
      option_map (seen_peer id (is_out (ptr ss to))) (option_map (λ p. peers.Server (ptr ss p)) taker) ≡ option_map (λ p. peers.Server (ptr ss p)) taker
  taker_seen to None e f = refl
  taker_seen to (Some p) e f = ap (λ (q : Peer). Some q) (peer_seen to p e f)

  taker_alike : (to : Link) (taker : Option Link) → leads_to_port ss to ≡ true → taker_leads ss to taker ≡ true →
      IfSome (option_map (λ p. peers.Server (ptr ss p)) taker) (λ taker. IfServer (is_out (ptr ss to)) taker Alike)
  taker_alike to None e f = tt
  taker_alike to (Some p) e f = peer_alike to p e f

  fault_seen : (f : Option FaultRec) → fault_leads ss f ≡ true
      → and_then (λ fault. Some (seen_fault id fault)) (option_map (pictured_fault ss) f) ≡ option_map (pictured_fault ss) f
  fault_seen None e = refl
  fault_seen (Some f) e =
      let both = and_parts (leads_to_port ss f.port) (taker_leads ss f.port f.taker) e in
      ap (λ (p : Option Peer). Some (record (pictured_fault ss f) { taker = p })) (taker_seen f.port f.taker both.0 both.1)

  fault_alike : (f : Option FaultRec) → fault_leads ss f ≡ true → IfSome (option_map (pictured_fault ss) f) (AllInFault id Alike)
  fault_alike None e = tt
  fault_alike (Some f) e =
      let both = and_parts (leads_to_port ss f.port) (taker_leads ss f.port f.taker) e in
      (alike f.port (port f.port both.0), taker_alike f.port f.taker both.0 both.1)

  no_porter : (regs : List ℕ) (number code : ℕ) → is_porter (mode regs number code) ≡ false
  no_porter regs number code = by (number == 0) (number == 1) (todo_of regs)
    where
      by : (a b : Bool) (o : Option (List Stage)) → is_porter (cond a (modes.Running regs) (cond b (mode_while_calling regs o) (modes.Halted regs code)))
          ≡ false
      by true b o = refl
      by false true None = refl
      by false true (Some todo) = refl
      by false false o = refl

  -- ---- bodies

  abbrev Seen : Body → Type 0
  Seen b = (seen_by (seeing id) b ≡ b) × IsPlainBody id Alike b

  body_seen : (os : List ObjectRec) (r : Rec) → body_leads ss os r ≡ true → Seen (pictured_body ss r)
  unfolding seen_by
  body_seen os (Mutex locked) e = (refl, tt)
  body_seen os Cond e = (refl, tt)
  body_seen os Portset e = (refl, tt)
  body_seen os (Mapping first count offset write to) e = (refl, alike to (region to e))
  body_seen os (Region first count write to) e = (refl, alike to (keeper to e))
  body_seen os (Port set) e = (port_set _, refl)
    where
      port_set : (o : Option ℕ) → bodies.Port (and_then (λ set. Some set) o) false ≡ bodies.Port o false
      port_set None = refl
      port_set (Some k) = refl
  body_seen os (Thread t) e =
      let both = and_parts (talk_leads ss t.talk) (fault_leads ss t.fault) e in (
        (λ i. bodies.Thread_of (record (pictured_thread ss t) { talk = talk_seen t.talk both.0 i; fault = fault_seen t.fault both.1 i })),
        (talk_alike t.talk both.0, fault_alike t.fault both.1, no_porter t.regs t.mode t.code),
      )
  body_seen os (Reference to) e = (refl, alike to (referred to e))

  space_seen : (o : Option Ptr) → IfSome o Alike → Seen (bodies.Space 0 o)
  unfolding seen_by
  space_seen None h = (refl, h)
  space_seen (Some p) h = (refl, h)

picture_of : (i : Image) → is_valid i ≡ true → (k : ℕ) (q : Path) (b : Body) → pictured_body_at i.spaces (k ∷ q) ≡ Some b → Seen i.spaces (picture i) b
unfolding is_valid
picture_of i valid k q b e =
    let good = valid_is_tree i valid in
    by (and_parts (spaces_lead i.spaces 0 i.spaces) _ (and_parts (fits_spaces i.spaces) (all_lead i.spaces) valid).1).0 (stands i.spaces good.0 k q b e)
  where
    by : spaces_lead i.spaces 0 i.spaces ≡ true → Object i.spaces k q b ⊎ Inner i.spaces k q b → Seen i.spaces (picture i) b
    by lead (inl o) =
        let all = and_parts (may_hold i.spaces (0 + o.number) o.space.holder) _ (lead_at i.spaces 0 i.spaces o.number o.space lead o.here) in
        let right = rec_all (body_leads i.spaces o.space.objects) o.space.objects k o.body all.1 o.there in
        subst (λ b. Seen i.spaces (picture i) b) (sym o.is) (body_seen i.spaces (picture i) o.space.objects o.body right)
    by lead (inr s) =
        let all = and_parts (may_hold i.spaces (0 + suc s.before) s.space.holder) _ (lead_at i.spaces 0 i.spaces (suc s.before) s.space lead s.here) in
        subst (λ b. Seen i.spaces (picture i) b) (sym s.is)
        (space_seen i.spaces (picture i) _ (holder i.spaces (picture i) (0 + suc s.before) s.space.holder all.0))

pub picture_is_cut_world : PictureIsCutWorld
unfolding picture kind_there seen_by
picture_is_cut_world i valid = record {
  bodies = same_bodies;
  pages = λ q page. ap (λ x. (picture i).page x page) (sym (append-nil q));
  unborn = refl;
  top = refl;
  plain = λ k q. subst (λ x. IfSome ((picture i).body (k ∷ x)) (IsPlainBody id (HasLikeness [] id (picture i)))) (sym (append-nil q))
      (plain k q (pictured_body_at i.spaces (k ∷ q)) refl);
  within = λ x. ap ptrs.At (append-nil x);
  null = refl;
  dead = refl;
}
  where
    plain : (k : ℕ) (q : Path) (o : Option Body) → pictured_body_at i.spaces (k ∷ q) ≡ o → IfSome o (IsPlainBody id (HasLikeness [] id (picture i)))
    plain k q None e = tt
    plain k q (Some b) e = (picture_of i valid k q b e).1

    at : (k : ℕ) (q : Path) (o : Option Body) → pictured_body_at i.spaces (k ∷ q) ≡ o → o ≡ option_map (λ b. unheld (k ∷ q) (seen_by (seeing id) b)) o
    at k q None e = refl
    at k q (Some b) e = ap (λ c. Some c) (sym (picture_of i valid k q b e).0)

    same_bodies : (q : Path) → (picture i).body q ≡ option_map (λ b. unheld q (seen_by (seeing id) b)) ((picture i).body (q ++ []))
    same_bodies [] = refl
    same_bodies (k ∷ q) = at k q (pictured_body_at i.spaces (k ∷ q)) refl
        ∙ ap (λ x. option_map (λ b. unheld (k ∷ q) (seen_by (seeing id) b)) ((picture i).body (k ∷ x))) (sym (append-nil q))
