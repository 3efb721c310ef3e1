-- A list of changes acts alike in a likeness, and so in the cut of a plain subtree.
use Rattle.std.proofs.Common.{◌≡◌, ℕ, Bool, true, false, cond, not, ◌&&◌, ◌||◌, eqb, List, [], ◌∷◌, ◌++◌, length, Option, Some, None, IfSome, is_some}
use Rattle.std.proofs.Common.{option_map, refl, sym, ap, ◌∙◌, arith, length-append, eq-eqb}
use Rattle.std.specs.List.{list_any}
use Rattle.std.proofs.lemmas.List.Folds.{list_any-append}
use Rattle.fk_model.specs.declared.names.Kind.TheVariants as kinds
use Rattle.fk_model.specs.Places.{Path, same_path, strip, is_within, Ptr}
use Rattle.fk_model.specs.Places.Ptr.{At}
use Rattle.fk_model.specs.Objects.{Peer, Talk, Fault, Body, kind_of, and_then, holds, is_served}
use Rattle.fk_model.specs.Objects.Peer.{Server, Service, Parked}
use Rattle.fk_model.specs.Objects.Body.{Mutex, Mapping, Region, Port, Space, Thread_of, Reference}
use Rattle.fk_model.specs.World.{World, Change, edited, death_sweep, following, apply, apply_all}
use Rattle.fk_model.specs.World.Change.{Alter, Make, MakeSpace, Kill, Move, PutPage, DropPage}
use Rattle.fk_model.specs.Readers.{kind_at, is_kind}
use Rattle.fk_model.specs.Searches.{option_list, peer_pointer, talk_pointers, fault_pointers}
use Rattle.fk_model.specs.StateRows.{is_native}
use Rattle.fk_model.specs.Cut.{is_out, is_port, ports_of, cut_ptr, seen_by, cut_by, cut, is_far, has_far, is_served_by, IsPlain}
use Rattle.laws_subtrees.specs.Cut.Likeness.{seeing, seen_peer, PtrLikeness, HasLikeness, IfServer, AllInTalk, AllInFault, IsPlainBody, IsLikeness}
use Rattle.laws_subtrees.specs.Cut.Likeness.PtrLikeness.{Nulls, Deads, Inside, PortAt, PortOut}
use Rattle.laws_subtrees.specs.Cut.LikeChanges.{LikeChange, LikeChanges, IsOutside}
use Rattle.laws_subtrees.specs.Cut.LikeChanges.LikeChange.{Alters, AltersOut, Makes, MakesSpace, Kills, Moves, PutsPage, DropsPage}
use Rattle.laws_subtrees.specs.Cut.LikeChanges.LikeChanges.{Empty, Both, Beyond}
use Rattle.fk_model.proofs.walks.PlaceLaws.{strip_some}
use Rattle.laws_subtrees.proofs.InCut.likeness.Instances.{cut-like}
use Rattle.laws_subtrees.proofs.InCut.likeness.Memory.{root_space}
use Rattle.laws_subtrees.proofs.InCut.likeness.Changes.{alter-like, make-like, make_space-like, page-like, outside-like, outside_apart, kind_kept}
use Rattle.laws_subtrees.proofs.InCut.likeness.Sweeps.{kill-like, move-like, kind-swept}

pub change-like : {root : Path} {see : Ptr → Ptr} {small big : World} →
    IsLikeness root see small big → (c d : Change) → LikeChange root see big c d → IsLikeness root see (apply c small) (apply d big)
unfolding apply
change-like like _ _ (Alters k q seen edit e h) = rw e (alter-like like false k q edit h)
change-like like _ _ (AltersOut k q seen edit e h) = rw e (alter-like like true k q edit h)
change-like like _ _ (Makes k q seen body e h) = rw e (make-like like k q body h)
change-like like _ _ (MakesSpace k q seen holder e h) = rw e (make_space-like like k q holder h)
change-like like _ _ (Kills k q apart) = kill-like like apart k q
change-like like _ _ (Moves k q slot) = move-like like k slot q
change-like like _ _ (PutsPage q page words) = page-like like q page (Some words)
change-like like _ _ (DropsPage q page) = page-like like q page None

pub changes-like : {root : Path} {see : Ptr → Ptr} (small big : World) (cs ds : List Change) →
    LikeChanges root see big cs ds → IsLikeness root see small big → IsLikeness root see (apply_all cs small) (apply_all ds big)
unfolding apply_all
changes-like small _ _ _ Empty like = like
changes-like small _ _ _ (Both {c = c} {d = d} h hs) like = changes-like (apply c small) _ _ _ hs (change-like like c d h)
changes-like small _ _ _ (Beyond {d = d} out hs) like = changes-like small _ _ _ hs (outside-like like d out)

-- ---- kinds outside stay

kind_off : (t : Bool) (v u : Option Body) → t ≡ false → and_then (λ b. Some (kind_of b)) (cond t v u) ≡ and_then (λ b. Some (kind_of b)) u
kind_off t v u h = rw h refl

pub kind_outside : {root : Path} {see : Ptr → Ptr} {big : World} (c d : Change) →
    LikeChange root see big c d → (x : Path) → is_within root x ≡ false → kind_at (apply d big) (At x) ≡ kind_at big (At x)
unfolding apply
kind_outside {root} {see} {big} _ _ (Alters k q seen edit e h) x out =
    kind_off _ (option_map (edited edit) (big.body x)) (big.body x) (outside_apart root (k ∷ q) x out)
kind_outside {root} {see} {big} _ _ (AltersOut k q seen edit e h) x out =
    kind_off _ (option_map (edited edit) (big.body x)) (big.body x) (outside_apart root (k ∷ q) x out)
kind_outside {root} {see} {big} _ _ (Makes k q seen body e h) x out = kind_off _ (Some body) (big.body x) (outside_apart root (k ∷ q) x out)
kind_outside {root} {see} {big} _ _ (MakesSpace k q seen holder e h) x out = kind_off _ _ (big.body x) (outside_apart root (k ∷ q) x out)
kind_outside {root} {see} {big} _ _ (Kills k q apart) x out =
    kind_off _ None _ (outside_apart root (k ∷ q) x out) ∙ kind-swept (death_sweep (k ∷ (q ++ root))) x (big.body x)
kind_outside {root} {see} {big} _ _ (Moves k q slot) x out = kind_off _ _ _ (outside_apart root (slot ∷ q) x out)
    ∙ kind_off _ None _ (outside_apart root (k ∷ q) x out) ∙ kind-swept (following (k ∷ (q ++ root)) (slot ∷ (q ++ root))) x (big.body x)
kind_outside {root} {see} {big} _ _ (PutsPage q page words) x out = refl
kind_outside {root} {see} {big} _ _ (DropsPage q page) x out = refl

kind_beyond : (root : Path) (big : World) (d : Change) → IsOutside root d → (x : Path) → kind_at (apply d big) (At x) ≡ kind_at big (At x)
unfolding apply
kind_beyond root big (Alter y edit) out x = kind_kept edit (same_path x y) (big.body x)
kind_beyond root big (PutPage space page words) out x = refl
kind_beyond root big (DropPage space page) out x = refl
kind_beyond root big (Make y body) out x = absurd out
kind_beyond root big (MakeSpace y holder) out x = absurd out
kind_beyond root big (Kill y) out x = absurd out
kind_beyond root big (Move y slot) out x = absurd out

pub kinds_outside : {root : Path} {see : Ptr → Ptr} (big : World) (cs ds : List Change) →
    LikeChanges root see big cs ds → (x : Path) → is_within root x ≡ false → kind_at (apply_all ds big) (At x) ≡ kind_at big (At x)
unfolding apply_all
kinds_outside big _ _ Empty x out = refl
kinds_outside big _ _ (Both {c = c} {d = d} h hs) x out = kinds_outside (apply d big) _ _ hs x out ∙ kind_outside c d h x out
kinds_outside {root} big _ _ (Beyond {d = d} far hs) x out = kinds_outside (apply d big) _ _ hs x out ∙ kind_beyond root big d far x

-- ---- the cut

is_port-kind : (v : Option Body) → is_port v ≡ holds (λ kind. is_kind kinds.Port (Some kind)) (and_then (λ b. Some (kind_of b)) v)
is_port-kind None = refl
is_port-kind (Some (Mutex locked)) = refl
is_port-kind (Some b) = refl

-- no slot of the nester but the root's is inside
slot_outside : (nester : Path) (slot i : ℕ) → eqb i slot ≡ false → is_within (slot ∷ nester) (i ∷ nester) ≡ false
slot_outside nester slot i apart = by (strip (slot ∷ nester) (i ∷ nester)) refl
  where
    root_of : (q : Path) → i ∷ nester ≡ q ++ slot ∷ nester → ⊥
    root_of [] e = let same : i ≡ slot = cc in let there = eq-eqb i slot same in cc
    root_of (k ∷ q) e = omega (arith, ap length e, length-append q (slot ∷ nester))

    by : (o : Option Path) → strip (slot ∷ nester) (i ∷ nester) ≡ o → is_some o ≡ false
    by None e = refl
    by (Some q) e = absurd (root_of q (strip_some (slot ∷ nester) (i ∷ nester) q e))

ports_stay : (w v : World) (nester : Path) (slot : ℕ) →
    ((x : Path) → is_within (slot ∷ nester) x ≡ false → kind_at v (At x) ≡ kind_at w (At x)) → (i : ℕ) → ports_of v nester slot i ≡ ports_of w nester slot i
ports_stay w v nester slot stay i = by (eqb i slot) refl
  where
    by : (t : Bool) → eqb i slot ≡ t → (not t && is_port (v.body (i ∷ nester))) ≡ (not t && is_port (w.body (i ∷ nester)))
    by true e = refl
    by false e = is_port-kind (v.body (i ∷ nester))
        ∙ ap (holds (λ kind. is_kind kinds.Port (Some kind))) (stay (i ∷ nester) (slot_outside nester slot i e)) ∙ sym (is_port-kind (w.body (i ∷ nester)))

-- a likeness by the eyes of a cut is the cut
like-cut : (ports : ℕ → Bool) (v small : World) (nester : Path) (slot : ℕ) →
    IsLikeness (slot ∷ nester) (cut_ptr ports nester slot) small v → cut_by ports v nester slot ≡ small
like-cut ports v small nester slot like = sym (λ i. record { body = λ q. like.bodies q i; page = λ q page. like.pages q page i; next = like.unborn i })

pub cut-changes : (w : World) (nester : Path) (slot : ℕ) (cs ds : List Change) → IsPlain w nester slot →
    LikeChanges (slot ∷ nester) (cut_ptr (ports_of w nester slot) nester slot) w cs ds → cut (apply_all ds w) nester slot ≡ apply_all cs (cut w nester slot)
unfolding cut
cut-changes w nester slot cs ds plain h =
    let after : World = apply_all ds w in
    ap (λ (ports : ℕ → Bool). cut_by ports after nester slot) (λ i k. ports_stay w after nester slot (kinds_outside w cs ds h) k i)
    ∙ like-cut (ports_of w nester slot)
    after (apply_all cs (cut w nester slot)) nester slot (changes-like (cut w nester slot) w cs ds h (cut-like w nester slot plain))

-- ---- a plain subtree stays plain

near_ptr : (root : Path) (big : World) (p seen : Ptr) → PtrLikeness root big p seen → is_far seen ≡ false
near_ptr root big _ _ Nulls = refl
near_ptr root big _ _ Deads = refl
near_ptr root big _ _ (Inside x) = refl
near_ptr root big _ _ (PortAt x slot apart port) = refl
near_ptr root big _ _ (PortOut old slot) = refl

or_neither : (a b : Bool) → a ≡ false → b ≡ false → (a || b) ≡ false
or_neither a b h g = rw (h, g) refl

module _ (root : Path) (see : Ptr → Ptr) (big : World) where
  abbrev Seen : Ptr → Type 0
  Seen = HasLikeness root see big

  near_one : (p : Ptr) → Seen p → list_any is_far (see p ∷ []) ≡ false
  near_one p h = or_neither (is_far (see p)) false (near_ptr root big p (see p) h) refl

  near_peer : (out : Bool) (peer : Peer) → IfServer out peer Seen → list_any is_far (peer_pointer (seen_peer see out peer)) ≡ false
  near_peer true peer h = refl
  near_peer false (Server thread) h = near_one thread h
  near_peer false Service h = refl
  near_peer false Parked h = refl

  near_talk : (o : Option Talk) → IfSome o (AllInTalk see Seen) → list_any is_far (option_list talk_pointers (and_then (seeing see).talk o)) ≡ false
  near_talk None h = refl
  near_talk (Some talk) h =
      or_neither (is_far (see talk.port)) _ (near_ptr root big talk.port (see talk.port) h.0) (near_peer (is_out (see talk.port)) talk.peer h.1)

  near_taker : (out : Bool) (o : Option Peer) →
      IfSome o (λ taker. IfServer out taker Seen) → list_any is_far (option_list peer_pointer (option_map (seen_peer see out) o)) ≡ false
  near_taker out None h = refl
  near_taker out (Some taker) h = near_peer out taker h

  near_fault : (o : Option Fault) → IfSome o (AllInFault see Seen) → list_any is_far (option_list fault_pointers (and_then (seeing see).fault o)) ≡ false
  near_fault None h = refl
  near_fault (Some fault) h =
      or_neither (is_far (see fault.port)) _ (near_ptr root big fault.port (see fault.port) h.0) (near_taker (is_out (see fault.port)) fault.taker h.1)

  near_body : (v : Option Body) → IfSome v (IsPlainBody see Seen) → has_far (option_map (λ b. seen_by (seeing see) b) v) ≡ false
  unfolding seen_by
  near_body (Some (Mapping m)) h = near_one m.region h
  near_body (Some (Region r)) h = near_one r.keeper h
  near_body (Some (Space birth (Some holder))) h = near_one holder h
  near_body (Some (Space birth None)) h = refl
  near_body (Some (Thread_of t)) h =
      list_any-append is_far (option_list talk_pointers (and_then (seeing see).talk t.talk)) _ ∙ or_neither _ _ (near_talk t.talk h.0) (near_fault t.fault h.1)
  near_body (Some (Reference to)) h = near_one to h
  near_body (Some b) h = refl
  near_body None h = refl

  no_porter : (v : Option Body) → IfSome v (IsPlainBody see Seen) → holds is_native v ≡ false
  no_porter (Some (Thread_of t)) h = h.2
  no_porter (Some b) h = refl
  no_porter None h = refl

  unserved : (v : Option Body) → IfSome v (IsPlainBody see Seen) → holds is_served v ≡ false
  unserved (Some (Port set served)) h = h
  unserved (Some b) h = refl
  unserved None h = refl

-- where the cut of a subtree is a likeness it is plain, if no thread inside serves one outside
pub like-plain : (w : World) (nester : Path) (slot : ℕ) (small : World) → IsLikeness (slot ∷ nester) (cut_ptr (ports_of w nester slot) nester slot) small w →
    ((x : Path) → is_within (slot ∷ nester) x ≡ false → is_served_by (slot ∷ nester) (w.body x) ≡ false) → IsPlain w nester slot
unfolding cut seen_by
like-plain w nester slot small like inside =
    let top = root_space like in
    record { birth = top.0; holder = top.1; root = top.2; near = near; no_porter = users; unserved = alone; served_inside = inside }
  where
    see : Ptr → Ptr
    see = cut_ptr (ports_of w nester slot) nester slot

    near : (q : Path) → has_far ((cut w nester slot).body q) ≡ false
    near [] = rw (root_space like).2 refl
    near (k ∷ q) = near_body (slot ∷ nester) see w (w.body (k ∷ (q ++ slot ∷ nester))) (like.plain k q)

    users : (q : Path) → holds is_native (w.body (q ++ slot ∷ nester)) ≡ false
    users [] = rw (root_space like).2 refl
    users (k ∷ q) = no_porter (slot ∷ nester) see w (w.body (k ∷ (q ++ slot ∷ nester))) (like.plain k q)

    alone : (q : Path) → holds is_served (w.body (q ++ slot ∷ nester)) ≡ false
    alone [] = rw (root_space like).2 refl
    alone (k ∷ q) = unserved (slot ∷ nester) see w (w.body (k ∷ (q ++ slot ∷ nester))) (like.plain k q)

-- a plain subtree stays plain through changes that are alike in its cut, if no thread inside comes to serve one outside
pub plain-changes : (w : World) (nester : Path) (slot : ℕ) (cs ds : List Change) →
    IsPlain w nester slot → LikeChanges (slot ∷ nester) (cut_ptr (ports_of w nester slot) nester slot) w cs ds →
    ((x : Path) → is_within (slot ∷ nester) x ≡ false → is_served_by (slot ∷ nester) ((apply_all ds w).body x) ≡ false) → IsPlain (apply_all ds w) nester slot
plain-changes w nester slot cs ds plain h inside =
    let after : World = apply_all ds w in
    let ports : ports_of after nester slot ≡ ports_of w nester slot = λ i k. ports_stay w after nester slot (kinds_outside w cs ds h) k i in
    like-plain after
    nester slot (apply_all cs (cut w nester slot)) (rw ports (changes-like (cut w nester slot) w cs ds h (cut-like w nester slot plain))) inside
