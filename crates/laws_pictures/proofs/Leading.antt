-- The pointers of a subtree's image lead to what their fields may hold.
use Rattle.std.proofs.Common.{◌≡◌, ℕ, zero, suc, ◌+◌, ◌-◌, ◌<◌, ◌≤◌, ◌⊎◌, inl, inr, Bool, true, false, cond, not, ltb, leb, ◌||◌, ◌==◌, List, [], ◌∷◌, ◌++◌}
use Rattle.std.proofs.Common.{map, drop, Option, Some, None, option_map, is_some, refl, sym, ap, subst, ◌∙◌, arith, eq-eqb}
use Rattle.std.specs.Prelude.{slice_get}
use Rattle.std.specs.List.{list_any, list_all}
use Rattle.std.proofs.lemmas.Bool.{and_from, and_parts, or_left, or_right, leb-true, ltb-true, ltb-false, cases_lt}
use Rattle.fk_model.specs.declared.names.Kind.{Kind}
use Rattle.fk_model.specs.declared.names.Kind.TheVariants as kinds
use Rattle.fk_model.specs.Places.{Path, is_within, Ptr, Ptr as ptrs}
use Rattle.fk_model.specs.Objects.{Body, Body as bodies, Peer, Peer as peers, Talk, Fault, Thread, and_then, kind_of, thread_of}
use Rattle.fk_model.specs.Records.{member_word}
use Rattle.fk_model.specs.StateRows.{referable}
use Rattle.fk_model.specs.Cut.{is_out}
use Rattle.fk_model.specs.Holds.{holder_of}
use Rattle.fk_model.specs.World.{World}
use Rattle.fk_model.specs.Valid.{kind_there, is_good, is_one_of, may_lead, leads_there, lies_with, is_good_talk, is_good_fault, is_good_peer, is_good_set}
use Rattle.fk_model.specs.Valid.{all_in}
use Rattle.fk_model.proofs.walks.PlaceLaws.{strip-append}
use Rattle.fk_image.specs.declared.image.image.Rec.{Rec}
use Rattle.fk_image.specs.declared.image.image.ObjectRec.{ObjectRec}
use Rattle.fk_image.specs.declared.image.image.SpaceRec.{SpaceRec}
use Rattle.fk_image.specs.Image.Objects.{kind_of_rec, kind_in}
use Rattle.fk_image.specs.Image.Preorder.{run_beneath}
use Rattle.fk_image.specs.Image.Links.{kind_in_space, lies_in, has_space_at, end_of, is_space_within, is_region_kind, is_port_kind, is_portset_kind}
use Rattle.fk_image.specs.Image.Links.{is_thread_kind}
use Rattle.fk_image.specs.Image.Links.{is_referable, may_hold, leads_to_region, leads_to_keeper, may_refer, leads_to_port, serves_port, is_set_of, talk_leads}
use Rattle.fk_image.specs.Image.Links.{taker_leads, fault_leads, body_leads, space_leads, spaces_lead}
use Rattle.laws_pictures.specs.Imaged.{rank, link_of, peer_link, talk_rec, fault_rec, rec_of, rec_at, with_object, objects_from, holder_link, space_rec}
use Rattle.laws_pictures.specs.Imaged.{AreItsSpaces, IsLed, IsPeerOf, IsLedTalk, IsTakenBy, IsLedFault, IsHeldBy, IsLedBody, IsAlone, IsSound, ImageLeads}
use Rattle.laws_pictures.proofs.Numbers.{behind_first}
use Rattle.laws_pictures.proofs.Bodies.{kind_by_rec, kind_of_space}
use Rattle.laws_pictures.proofs.Imaged.{rec_is, rec_here, made, under, Under, parent_is, ranked_is}

-- ---- kinds of objects, as records tell them

module _ (sp : List Path) where
  abbrev kind_told : Option Body → Option Kind
  kind_told o = option_map kind_of_rec (and_then (rec_of sp) o)

  region_told : (o : Option Body) → is_one_of (kinds.Region ∷ []) (option_map kind_of o) ≡ true → is_region_kind (kind_told o) ≡ true
  region_told None e = cc
  region_told (Some (bodies.Mutex locked)) e = absurd cc
  region_told (Some bodies.Cond) e = absurd cc
  region_told (Some (bodies.Mapping m)) e = absurd cc
  region_told (Some (bodies.Region r)) e = refl
  region_told (Some (bodies.Port set served)) e = absurd cc
  region_told (Some bodies.Portset) e = absurd cc
  region_told (Some (bodies.Space birth holder)) e = absurd cc
  region_told (Some (bodies.Thread_of t)) e = absurd cc
  region_told (Some (bodies.Reference to)) e = absurd cc

  port_told : (o : Option Body) → is_one_of (kinds.Port ∷ []) (option_map kind_of o) ≡ true → is_port_kind (kind_told o) ≡ true
  port_told None e = cc
  port_told (Some (bodies.Mutex locked)) e = absurd cc
  port_told (Some bodies.Cond) e = absurd cc
  port_told (Some (bodies.Mapping m)) e = absurd cc
  port_told (Some (bodies.Region r)) e = absurd cc
  port_told (Some (bodies.Port set served)) e = refl
  port_told (Some bodies.Portset) e = absurd cc
  port_told (Some (bodies.Space birth holder)) e = absurd cc
  port_told (Some (bodies.Thread_of t)) e = absurd cc
  port_told (Some (bodies.Reference to)) e = absurd cc

  portset_told : (o : Option Body) → is_one_of (kinds.Portset ∷ []) (option_map kind_of o) ≡ true → is_portset_kind (kind_told o) ≡ true
  portset_told None e = cc
  portset_told (Some (bodies.Mutex locked)) e = absurd cc
  portset_told (Some bodies.Cond) e = absurd cc
  portset_told (Some (bodies.Mapping m)) e = absurd cc
  portset_told (Some (bodies.Region r)) e = absurd cc
  portset_told (Some (bodies.Port set served)) e = absurd cc
  portset_told (Some bodies.Portset) e = refl
  portset_told (Some (bodies.Space birth holder)) e = absurd cc
  portset_told (Some (bodies.Thread_of t)) e = absurd cc
  portset_told (Some (bodies.Reference to)) e = absurd cc

  thread_told : (o : Option Body) → is_one_of (kinds.Thread ∷ []) (option_map kind_of o) ≡ true → is_thread_kind (kind_told o) ≡ true
  thread_told None e = cc
  thread_told (Some (bodies.Mutex locked)) e = absurd cc
  thread_told (Some bodies.Cond) e = absurd cc
  thread_told (Some (bodies.Mapping m)) e = absurd cc
  thread_told (Some (bodies.Region r)) e = absurd cc
  thread_told (Some (bodies.Port set served)) e = absurd cc
  thread_told (Some bodies.Portset) e = absurd cc
  thread_told (Some (bodies.Space birth holder)) e = absurd cc
  thread_told (Some (bodies.Thread_of t)) e = refl
  thread_told (Some (bodies.Reference to)) e = absurd cc

  -- an object that may be referred to, or a space
  referable_told : (o : Option Body) → is_one_of referable (option_map kind_of o) ≡ true
      → (is_referable (kind_told o) ≡ true) ⊎ (option_map kind_of o ≡ Some kinds.Space)
  referable_told None e = absurd cc
  referable_told (Some (bodies.Mutex locked)) e = absurd cc
  referable_told (Some bodies.Cond) e = absurd cc
  referable_told (Some (bodies.Mapping m)) e = inl refl
  referable_told (Some (bodies.Region r)) e = inl refl
  referable_told (Some (bodies.Port set served)) e = inl refl
  referable_told (Some bodies.Portset) e = absurd cc
  referable_told (Some (bodies.Space birth holder)) e = inr refl
  referable_told (Some (bodies.Thread_of t)) e = inl refl
  referable_told (Some (bodies.Reference to)) e = absurd cc

some_of : (o : Option Body) (wanted : List Kind) → is_one_of wanted (option_map kind_of o) ≡ true → is_some o ≡ true
some_of None wanted e = absurd cc
some_of (Some b) wanted e = refl

-- ---- lists

any_at : {A : Type 0} (test : A → Bool) (xs : List A) (i : ℕ) (x : A) → slice_get xs i ≡ Some x → test x ≡ true → list_any test xs ≡ true
any_at test [] i x e t = absurd cc
any_at test (y ∷ xs) zero x e t = let same : y ≡ x = cc in or_left (test y) (list_any test xs) (ap test same ∙ t)
any_at test (y ∷ xs) (suc i) x e t = or_right (test y) (list_any test xs) (any_at test xs i x e t)

all_recs : (test : Rec → Bool) (f : ℕ → Option Rec) (n k : ℕ) → ((j : ℕ) (r : Rec) → f j ≡ Some r → test r ≡ true)
    → list_all (λ (o : ObjectRec). test o.body) (objects_from f n k) ≡ true
unfolding objects_from
all_recs test f zero k each = refl
all_recs test f (suc n) k each = by (f k) refl (all_recs test f n (suc k) each)
  where
    by : (o : Option Rec) → f k ≡ o → list_all (λ (o : ObjectRec). test o.body) (objects_from f n (suc k)) ≡ true
        → list_all (λ (o : ObjectRec). test o.body) (with_object k o (objects_from f n (suc k))) ≡ true
    by None e rest = rest
    by (Some r) e rest = and_from (test r) _ (each k r e) rest

all_lead_from : (ss : List SpaceRec) (xs : List SpaceRec) (number : ℕ)
    → ((i : ℕ) (s : SpaceRec) → slice_get xs i ≡ Some s → space_leads ss (number + i) s ≡ true) → spaces_lead ss number xs ≡ true
all_lead_from ss [] number each = refl
all_lead_from ss (x ∷ xs) number each =
    let same : number + 0 ≡ number = omega arith in
    and_from _ _ (subst (λ n. space_leads ss n x ≡ true) same (each 0 x refl))
    (all_lead_from ss xs (number + 1) (λ i s e. subst (λ n. space_leads ss n s ≡ true) (shift i) (each (suc i) s e)))
  where
    shift : (i : ℕ) → number + suc i ≡ number + 1 + i
    shift i = omega arith

beneath_parents : (space : ℕ) (xs : List SpaceRec) (i : ℕ) (s : SpaceRec) → i < run_beneath space xs → slice_get xs i ≡ Some s → space ≤ s.parent
unfolding run_beneath
beneath_parents space [] i s lt e = absurd cc
beneath_parents space (x ∷ xs) i s lt e = by (ltb x.parent space) refl i lt e (λ j h g. beneath_parents space xs j s h g)
  where
    by : (b : Bool) → ltb x.parent space ≡ b → (j : ℕ) → j < cond b 0 (suc (run_beneath space xs)) → slice_get (x ∷ xs) j ≡ Some s
        → ((j : ℕ) → j < run_beneath space xs → slice_get xs j ≡ Some s → space ≤ s.parent) → space ≤ s.parent
    by true p j lt e rest = absurd (omega (arith, lt))
    by false p zero lt e rest = let same : x ≡ s = cc in let at : x.parent ≡ s.parent = ap (λ (u : SpaceRec). u.parent) same in
        let le = ltb-false x.parent space p in omega (arith, at, le)
    by false p (suc j) lt e rest = rest j (omega (arith, lt)) e

get_drop : {A : Type 0} (n : ℕ) (xs : List A) (i : ℕ) → slice_get (drop n xs) i ≡ slice_get xs (n + i)
get_drop zero xs i = let same : i ≡ 0 + i = omega arith in ap (slice_get xs) same
get_drop (suc n) [] i = refl
get_drop (suc n) (x ∷ xs) i = let same : suc (n + i) ≡ suc n + i = omega arith in get_drop n xs i ∙ ap (slice_get (x ∷ xs)) same

module _ (c : World) (sp : List Path) (alone : IsAlone c) (its : AreItsSpaces c sp) (sound : IsSound c) where
  abbrev ss : List SpaceRec
  ss = map (space_rec c sp) sp

  abbrev IsMember : Path → Type 0
  IsMember p = slice_get sp (rank sp p) ≡ Some p

  kind_read : (p : Path) → kind_there c p ≡ option_map kind_of (c.body p)
  unfolding kind_there
  kind_read p = refl

  kind_is : (k : ℕ) (q : Path) → IsMember q → kind_in_space ss (rank sp q) k ≡ kind_told sp (c.body (k ∷ q))
  kind_is k q m =
      ap (kind_of_space k) (rec_here c sp alone its (rank sp q) q m)
      ∙ kind_by_rec (objects_from (rec_at c sp q) 240 0) k
      ∙ ap (option_map kind_of_rec) (rec_is c sp alone its q k)

  member_of : (k : ℕ) (q : Path) (wanted : List Kind) → is_one_of wanted (kind_there c (k ∷ q)) ≡ true → IsMember q
  member_of k q wanted e = its.all q (alone.parents k q (some_of (c.body (k ∷ q)) wanted (ap (is_one_of wanted) (sym (kind_read (k ∷ q))) ∙ e)))

  root_kind : kind_there c [] ≡ Some kinds.Space
  root_kind = kind_read [] ∙ ap (option_map kind_of) alone.root

  -- a pointer to an object of a kind, as its link
  leads_by : (wanted : List Kind) (test : Option Kind → Bool)
      → ((o : Option Body) → is_one_of wanted (option_map kind_of o) ≡ true → test (kind_told sp o) ≡ true) →
      (k : ℕ) (q : Path) → is_one_of wanted (kind_there c (k ∷ q)) ≡ true → test (kind_in_space ss (rank sp q) k) ≡ true
  leads_by wanted test told k q e =
      ap test (kind_is k q (member_of k q wanted e)) ∙ told (c.body (k ∷ q)) (ap (is_one_of wanted) (sym (kind_read (k ∷ q))) ∙ e)

  not_root : (wanted : List Kind) → is_one_of wanted (Some kinds.Space) ≡ false → is_one_of wanted (kind_there c []) ≡ true → ⊥
  not_root wanted none e = clash (sym e ∙ ap (is_one_of wanted) root_kind ∙ none)
    where
      clash : true ≡ false → ⊥
      clash e = cc

  -- ---- pointers

  space_here : (k : ℕ) (q : Path) → kind_there c (k ∷ q) ≡ Some kinds.Space → has_space_at ss (rank sp q) k ≡ true
  unfolding has_space_at
  space_here k q kind = by (rank sp (k ∷ q)) (its.all (k ∷ q) kind)
    where
      clash : (o : Option Path) → o ≡ Some [] → o ≡ Some (k ∷ q) → ⊥
      clash o e f = cc

      by : (n : ℕ) → slice_get sp n ≡ Some (k ∷ q) → list_any (lies_in (rank sp q) k) (drop 1 ss) ≡ true
      by zero e = absurd (clash (slice_get sp 0) its.first e)
      by (suc n) e =
          any_at (lies_in (rank sp q) k) (drop 1 ss) n (space_rec c sp (k ∷ q)) (behind_first ss n ∙ rec_here c sp alone its (suc n) (k ∷ q) e)
          (and_from _ _ (eq-eqb (rank sp q) (rank sp q) refl) (eq-eqb k k refl))

  region_leads : (p : Ptr) → IsLed c p → is_out p ≡ false → may_lead (kind_there c) (kinds.Region ∷ []) p ≡ true → leads_to_region ss (link_of sp p) ≡ true
  region_leads ptrs.Null led out e = refl
  region_leads ptrs.Dead led out e = refl
  region_leads (ptrs.At []) led out e = absurd (not_root (kinds.Region ∷ []) refl e)
  region_leads (ptrs.At (k ∷ q)) led out e = leads_by (kinds.Region ∷ []) is_region_kind (region_told sp) k q e
  region_leads (ptrs.Out i) led out e = absurd cc
  region_leads ptrs.Outside led out e = absurd led
  region_leads ptrs.Far led out e = absurd led

  keeper_leads : (p : Ptr) → IsLed c p → may_lead (kind_there c) (kinds.Port ∷ []) p ≡ true → leads_to_keeper ss (link_of sp p) ≡ true
  keeper_leads ptrs.Null led e = refl
  keeper_leads ptrs.Dead led e = refl
  keeper_leads (ptrs.At []) led e = absurd (not_root (kinds.Port ∷ []) refl e)
  keeper_leads (ptrs.At (k ∷ q)) led e = leads_by (kinds.Port ∷ []) is_port_kind (port_told sp) k q e
  keeper_leads (ptrs.Out i) led e = refl
  keeper_leads ptrs.Outside led e = absurd led
  keeper_leads ptrs.Far led e = absurd led

  refer_leads : (p : Ptr) → IsLed c p → may_lead (kind_there c) referable p ≡ true → may_refer ss (link_of sp p) ≡ true
  refer_leads ptrs.Null led e = refl
  refer_leads ptrs.Dead led e = refl
  refer_leads (ptrs.At []) led e = refl
  refer_leads (ptrs.At (k ∷ q)) led e = by (referable_told sp (c.body (k ∷ q)) (ap (is_one_of referable) (sym (kind_read (k ∷ q))) ∙ e))
    where
      by : (is_referable (kind_told sp (c.body (k ∷ q))) ≡ true) ⊎ (option_map kind_of (c.body (k ∷ q)) ≡ Some kinds.Space)
          → (is_referable (kind_in_space ss (rank sp q) k) || has_space_at ss (rank sp q) k) ≡ true
      by (inl h) = or_left (is_referable (kind_in_space ss (rank sp q) k)) (has_space_at ss (rank sp q) k)
          (ap is_referable (kind_is k q (member_of k q referable e)) ∙ h)
      by (inr h) = or_right (is_referable (kind_in_space ss (rank sp q) k)) (has_space_at ss (rank sp q) k) (space_here k q (kind_read (k ∷ q) ∙ h))
  refer_leads (ptrs.Out i) led e = refl
  refer_leads ptrs.Outside led e = absurd led
  refer_leads ptrs.Far led e = absurd led

  port_leads : (p : Ptr) → IsLed c p → leads_there (kind_there c) (kinds.Port ∷ []) p ≡ true → leads_to_port ss (link_of sp p) ≡ true
  port_leads ptrs.Null led e = absurd cc
  port_leads ptrs.Dead led e = absurd cc
  port_leads (ptrs.At []) led e = absurd (not_root (kinds.Port ∷ []) refl e)
  port_leads (ptrs.At (k ∷ q)) led e = leads_by (kinds.Port ∷ []) is_port_kind (port_told sp) k q e
  port_leads (ptrs.Out i) led e = refl
  port_leads ptrs.Outside led e = absurd led
  port_leads ptrs.Far led e = absurd led

  peer_leads : (port : Ptr) (peer : Peer) → IsPeerOf c port peer → leads_there (kind_there c) (kinds.Port ∷ []) port ≡ true
      → is_good_peer (kind_there c) peer ≡ true →
      ((server : Ptr) → peer ≡ peers.Server server → lies_with port server) → serves_port ss (link_of sp port) (peer_link sp peer) ≡ true
  peer_leads (ptrs.Out i) (peers.Server ptrs.Outside) h e g near = refl
  peer_leads (ptrs.Out i) (peers.Server ptrs.Null) h e g near = absurd h
  peer_leads (ptrs.Out i) (peers.Server ptrs.Dead) h e g near = absurd h
  peer_leads (ptrs.Out i) (peers.Server (ptrs.At y)) h e g near = absurd h
  peer_leads (ptrs.Out i) (peers.Server (ptrs.Out j)) h e g near = absurd h
  peer_leads (ptrs.Out i) (peers.Server ptrs.Far) h e g near = absurd h
  peer_leads (ptrs.Out i) peers.Service h e g near = absurd h
  peer_leads (ptrs.Out i) peers.Parked h e g near = absurd h
  peer_leads (ptrs.At []) peer h e g near = absurd (not_root (kinds.Port ∷ []) refl e)
  peer_leads (ptrs.At (k ∷ q)) (peers.Server (ptrs.At [])) h e g near = absurd (not_root (kinds.Thread ∷ []) refl g)
  peer_leads (ptrs.At (k ∷ q)) (peers.Server (ptrs.At (j ∷ r))) h e g near =
      let same : r ≡ q = near (ptrs.At (j ∷ r)) refl in
      and_from _ _ (eq-eqb (rank sp r) (rank sp q) (ap (rank sp) same)) (leads_by (kinds.Thread ∷ []) is_thread_kind (thread_told sp) j r g)
  peer_leads (ptrs.At (k ∷ q)) (peers.Server ptrs.Outside) h e g near = absurd h
  peer_leads (ptrs.At (k ∷ q)) (peers.Server ptrs.Null) h e g near = absurd h
  peer_leads (ptrs.At (k ∷ q)) (peers.Server ptrs.Dead) h e g near = absurd h
  peer_leads (ptrs.At (k ∷ q)) (peers.Server (ptrs.Out j)) h e g near = absurd h
  peer_leads (ptrs.At (k ∷ q)) (peers.Server ptrs.Far) h e g near = absurd h
  peer_leads (ptrs.At (k ∷ q)) peers.Service h e g near = absurd h
  peer_leads (ptrs.At (k ∷ q)) peers.Parked h e g near = absurd h
  peer_leads ptrs.Null peer h e g near = absurd h
  peer_leads ptrs.Dead peer h e g near = absurd h
  peer_leads ptrs.Outside peer h e g near = absurd h
  peer_leads ptrs.Far peer h e g near = absurd h

  talk_led : (t : Option Talk) → IsLedTalk c t → all_in (is_good_talk (kind_there c)) t ≡ true
      → ((talk : Talk) (server : Ptr) → t ≡ Some talk → talk.peer ≡ peers.Server server → lies_with talk.port server) →
      talk_leads ss (option_map (talk_rec sp) t) ≡ true
  talk_led None led e near = refl
  talk_led (Some talk) led e near =
      let both = and_parts (leads_there (kind_there c) (kinds.Port ∷ []) talk.port) (is_good_peer (kind_there c) talk.peer) e in
      and_from _ _ (port_leads talk.port led.0 both.0) (peer_leads talk.port talk.peer led.1 both.0 both.1 (λ server is. near talk server refl is))

  taker_led : (port : Ptr) (taker : Option Peer) → IsTakenBy c port taker → leads_there (kind_there c) (kinds.Port ∷ []) port ≡ true
      → all_in (is_good_peer (kind_there c)) taker ≡ true →
      ((server : Ptr) → taker ≡ Some (peers.Server server) → lies_with port server) → taker_leads ss (link_of sp port) (option_map (peer_link sp) taker) ≡ true
  taker_led port None led e g near = refl
  taker_led port (Some peer) led e g near = peer_leads port peer led e g (λ server is. near server (ap (λ (p : Peer). Some p) is))

  fault_led : (f : Option Fault) → IsLedFault c f → all_in (is_good_fault (kind_there c)) f ≡ true
      → ((fault : Fault) (taker : Ptr) → f ≡ Some fault → fault.taker ≡ Some (peers.Server taker) → lies_with fault.port taker) →
      fault_leads ss (option_map (fault_rec sp) f) ≡ true
  fault_led None led e near = refl
  fault_led (Some fault) led e near =
      let both = and_parts (leads_there (kind_there c) (kinds.Port ∷ []) fault.port) (all_in (is_good_peer (kind_there c)) fault.taker) e in
      and_from _ _ (port_leads fault.port led.0 both.0) (taker_led fault.port fault.taker led.1 both.0 both.1 (λ server is. near fault server refl is))

  -- ---- objects

  set_leads : (q : Path) (k : ℕ) (set : Option ℕ) (served : Bool) → IsMember q → is_good_set (kind_there c) (k ∷ q) set served ≡ true
      → is_set_of (objects_from (rec_at c sp q) 240 0) (member_word set) ≡ true
  set_leads q k None served m e = refl
  set_leads q k (Some j) served m e =
      let both = and_parts (not served) (is_one_of (kinds.Portset ∷ []) (kind_there c (j ∷ q))) e in
      let less : 1 + j - 1 ≡ j = omega arith in
      or_right (1 + j == 0) _
      (ap (λ n. is_portset_kind (kind_in (objects_from (rec_at c sp q) 240 0) n)) less
      ∙ ap is_portset_kind (kind_by_rec (objects_from (rec_at c sp q) 240 0) j ∙ ap (option_map kind_of_rec) (rec_is c sp alone its q j))
      ∙ portset_told sp (c.body (j ∷ q)) (ap (is_one_of (kinds.Portset ∷ [])) (sym (kind_read (j ∷ q))) ∙ both.1))

  body_led : (q : Path) (k : ℕ) (b : Body) (r : Rec) → IsMember q → c.body (k ∷ q) ≡ Some b → rec_of sp b ≡ Some r
      → body_leads ss (objects_from (rec_at c sp q) 240 0) r ≡ true
  body_led q k b r m is e = by b (alone.led (k ∷ q) b is) (sound.good (k ∷ q) b is) is e
    where
      made_is : (x y : Rec) → Some x ≡ Some y → x ≡ y
      made_is x y e = cc

      goes : (x : Rec) → Some x ≡ Some r → body_leads ss (objects_from (rec_at c sp q) 240 0) x ≡ true
          → body_leads ss (objects_from (rec_at c sp q) 240 0) r ≡ true
      goes x e h = subst (λ y. body_leads ss (objects_from (rec_at c sp q) 240 0) y ≡ true) (made_is x r e) h

      by : (b : Body) → IsLedBody c b → is_good (kind_there c) (k ∷ q) b ≡ true → c.body (k ∷ q) ≡ Some b → rec_of sp b ≡ Some r
          → body_leads ss (objects_from (rec_at c sp q) 240 0) r ≡ true
      by (bodies.Mutex locked) led good is e = goes _ e refl
      by bodies.Cond led good is e = goes _ e refl
      by (bodies.Mapping w) led good is e = goes _ e
          (region_leads w.region led (sound.windows (k ∷ q) w is) (and_parts _ (may_lead (kind_there c) (kinds.Region ∷ []) w.region) good).1)
      by (bodies.Region w) led good is e = goes _ e (keeper_leads w.keeper led (and_parts _ (may_lead (kind_there c) (kinds.Port ∷ []) w.keeper) good).1)
      by (bodies.Port set served) led good is e = goes _ e (set_leads q k set served m good)
      by bodies.Portset led good is e = goes _ e refl
      by (bodies.Space birth holder) led good is e = absurd cc
      by (bodies.Thread_of t) led good is e =
          let both = and_parts (all_in (is_good_talk (kind_there c)) t.talk) (all_in (is_good_fault (kind_there c)) t.fault) good in
          goes _ e (and_from _ _
          (talk_led t.talk led.2 both.0 (λ talk server at peer.
          sound.talks_near (k ∷ q) talk server (ap (λ o. and_then (λ (u : Thread). u.talk) (and_then thread_of o)) is ∙ at) peer))
          (fault_led t.fault led.3 both.1 (λ fault taker at peer.
          sound.faults_near (k ∷ q) fault taker (ap (λ o. and_then (λ (u : Thread). u.fault) (and_then thread_of o)) is ∙ at) peer)))
      by (bodies.Reference to) led good is e = goes _ e (refer_leads to led good)

  -- ---- holders

  -- ---- holders

  record Within (p q : Path) : Type 0 where
    pub rest : Path
    pub is : q ≡ rest ++ p

  end_is : (n : ℕ) → end_of ss n ≡ n + 1 + run_beneath n (drop (n + 1) ss)
  unfolding end_of
  end_is n = refl

  -- a space with a number in the run behind one lies beneath it
  within : (n : ℕ) (p : Path) → slice_get sp n ≡ Some p → (d m : ℕ) (q : Path) → m ≤ d → n ≤ m → m < end_of ss n → slice_get sp m ≡ Some q → Within p q
  within n p here d zero q le ge lt at = record { rest = []; is = same (slice_get sp 0) at (ap (slice_get sp) (sym zeroth) ∙ here) }
    where
      zeroth : n ≡ 0
      zeroth = omega (arith, ge)

      same : (o : Option Path) → o ≡ Some q → o ≡ Some p → q ≡ p
      same None e f = absurd cc
      same (Some x) e f = cc
  within n p here zero (suc m) q le ge lt at = absurd (omega (arith, le))
  within n p here (suc d) (suc m) q le ge lt at =
      let u = under c sp alone its m q at in
      let small = u.le in
      by u (cases_lt n (suc m)) (λ g l. within n p here d u.number u.above (omega (arith, small, le)) g l u.at)
    where
      same : (o : Option Path) → o ≡ Some q → o ≡ Some p → q ≡ p
      same None e f = absurd cc
      same (Some x) e f = cc

      by : (u : Under c sp alone its m q) → (n < suc m) ⊎ (suc m ≤ n) → (n ≤ u.number → u.number < end_of ss n → Within p u.above) → Within p q
      by u (inr big) rest = let one : suc m ≡ n = omega (arith, ge, big) in
          record { rest = []; is = same (slice_get sp n) (ap (slice_get sp) (sym one) ∙ at) here }
      by u (inl small) rest =
          let end = end_is n in
          let run = run_beneath n (drop (n + 1) ss) in
          let i = m - n in
          let place : n + 1 + i ≡ suc m = omega (arith, small) in
          let low : i < run = omega (arith, end, small, lt) in
          let s_at = get_drop (n + 1) ss i ∙ ap (slice_get ss) place ∙ rec_here c sp alone its (suc m) q at in
          let above = beneath_parents n (drop (n + 1) ss) i (space_rec c sp q) low s_at in
          let number = parent_is c sp alone its m q u in
          let under_m = u.le in
          let w = rest (omega (arith, above, number)) (omega (arith, under_m, lt)) in
          record { rest = u.slot ∷ w.rest; is = u.is ∙ ap (λ x. u.slot ∷ x) w.is }

  holder_leads : (n : ℕ) (p : Path) → slice_get sp n ≡ Some p → may_hold ss n (holder_link sp (c.body p)) ≡ true
  holder_leads n p at = by (c.body p) refl
    where
      outside : (k : ℕ) (q : Path) → IsMember q → is_within p (k ∷ q) ≡ false → (b : Bool) → is_space_within ss n (rank sp q) ≡ b → not b ≡ true
      outside k q m out false e = refl
      outside k q m out true e =
          let both = and_parts (leb n (rank sp q)) (ltb (rank sp q) (end_of ss n)) e in
          let w = within n p at (rank sp q) (rank sp q) q (omega arith) (leb-true n (rank sp q) both.0) (ltb-true (rank sp q) (end_of ss n) both.1) m in
          let inside : is_within p (k ∷ q) ≡ true = ap (λ x. is_within p (k ∷ x)) w.is ∙ ap is_some (strip-append p (k ∷ w.rest)) in
          absurd (clash (sym inside ∙ out))
        where
          clash : true ≡ false → ⊥
          clash e = cc

      held : (birth : ℕ) (y : Path) → c.body p ≡ Some (bodies.Space birth (Some (ptrs.At y))) → is_one_of (kinds.Thread ∷ []) (kind_there c y) ≡ true
          → may_hold ss n (link_of sp (ptrs.At y)) ≡ true
      held birth [] is e = absurd (not_root (kinds.Thread ∷ []) refl e)
      held birth (k ∷ q) is e =
          let m = member_of k q (kinds.Thread ∷ []) e in
          and_from _ _ (leads_by (kinds.Thread ∷ []) is_thread_kind (thread_told sp) k q e)
          (outside k q m (sound.holders_outside p (k ∷ q) (ap holder_of is)) (is_space_within ss n (rank sp q)) refl)

      held_by : (birth : ℕ) (h : Ptr) → c.body p ≡ Some (bodies.Space birth (Some h)) → IsHeldBy c (Some h)
          → is_good (kind_there c) p (bodies.Space birth (Some h)) ≡ true → may_hold ss n (link_of sp h) ≡ true
      held_by birth (ptrs.At y) is led good = held birth y is good
      held_by birth ptrs.Null is led good = absurd led
      held_by birth ptrs.Dead is led good = absurd led
      held_by birth (ptrs.Out i) is led good = absurd led
      held_by birth ptrs.Outside is led good = absurd led
      held_by birth ptrs.Far is led good = absurd led

      by : (o : Option Body) → c.body p ≡ o → may_hold ss n (holder_link sp o) ≡ true
      by None is = refl
      by (Some (bodies.Space birth None)) is = refl
      by (Some (bodies.Space birth (Some h))) is = held_by birth h is (alone.led p (bodies.Space birth (Some h)) is).1
          (sound.good p (bodies.Space birth (Some h)) is)
      by (Some (bodies.Mutex locked)) is = refl
      by (Some bodies.Cond) is = refl
      by (Some (bodies.Mapping m)) is = refl
      by (Some (bodies.Region r)) is = refl
      by (Some (bodies.Port set served)) is = refl
      by (Some bodies.Portset) is = refl
      by (Some (bodies.Thread_of t)) is = refl
      by (Some (bodies.Reference to)) is = refl

  rec_from : (o : Option Body) (r : Rec) → and_then (rec_of sp) o ≡ Some r → (b : Body) × (o ≡ Some b) × (rec_of sp b ≡ Some r)
  rec_from None r e = absurd cc
  rec_from (Some b) r e = (b, refl, e)

  space_led : (n : ℕ) (s : SpaceRec) → slice_get ss n ≡ Some s → space_leads ss (0 + n) s ≡ true
  space_led n s at =
      let m = made c sp alone its n s at in
      let member : IsMember m.path = ap (slice_get sp) (ranked_is c sp alone its n m.path m.at) ∙ m.at in
      let same : n ≡ 0 + n = omega arith in
      subst (λ k. space_leads ss k s ≡ true) same (subst (λ (t : SpaceRec). space_leads ss n t ≡ true) m.is
      (and_from _ _ (holder_leads n m.path m.at)
      (all_recs (body_leads ss (objects_from (rec_at c sp m.path) 240 0)) (rec_at c sp m.path) 240 0
      (λ j r e. (let b = rec_from (c.body (j ∷ m.path)) r e in body_led m.path j b.0 r member b.1 b.2)))))

  pub spaces_led : spaces_lead ss 0 ss ≡ true
  spaces_led = all_lead_from ss ss 0 space_led

pub image_leads : ImageLeads
image_leads c sp alone its sound = spaces_led c sp alone its sound
