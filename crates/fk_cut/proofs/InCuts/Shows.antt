-- Shows: what a subtree that is seen alone shows of the fields of an object.
use Rattle.std.proofs.Common.{◌≡◌, ◌⊎◌, inl, inr, ℕ, Bool, true, false, List, [], ◌∷◌, ◌++◌, is_some, map, reverse, unwrap_or, Option, Some, None, Result, Ok, Err, IfOk, option_map, refl, sym, ap, ◌∙◌}
use Rattle.fk_model.specs.declared.body.Body as bodies_of
use Rattle.fk_model.specs.declared.body.Body.TheVariants as bodies
use Rattle.fk_model.specs.declared.names.Ptr as stored_ptr
use Rattle.fk_model.specs.declared.names.Who.{Who}
use Rattle.fk_model.specs.declared.thread.Fault.{Fault as StoredFault}
use Rattle.fk_model.specs.declared.thread.Peer.{Peer as StoredPeer}
use Rattle.fk_model.specs.declared.thread.Talk.{Talk as StoredTalk}
use Rattle.fk_model.specs.declared.thread.Thread.{Thread as StoredThread}
use Rattle.fk_model.specs.Cut.{cut, cut_to, cutting, ports_of, seen_by}
use Rattle.fk_model.specs.Objects.{Talk, Fault, and_then}
use Rattle.fk_model.specs.Objects.Body.{Thread_of}
use Rattle.fk_model.specs.Records.{record_of, talk_words, fault_words}
use Rattle.fk_model.specs.World.{Sweep}
use Rattle.fk_model.specs.Places.{Path, strip}
use Rattle.fk_model.specs.Places.Ptr.{At}
use Rattle.fk_model.proofs.walks.PlaceLaws.{strip-append, strip_some, same_path_refl, same_path_beneath}
use Rattle.fk_store.specs.Store.Bodies.{body_by, pointer_by, talk_by, fault_by, thread_by}
use Rattle.fk_store.specs.Store.Contents.{Contents}
use Rattle.fk_store.specs.Store.Names.{same_who}
use Rattle.fk_store.specs.Store.Paths.{path, HasOwnPath}
use Rattle.fk_store.specs.Store.World.{world, place_of}
use Rattle.fk_cut.specs.declared.cuts.shown.CutPtr.{CutPtr}
use Rattle.fk_cut.specs.declared.cuts.shown.CutPtr.TheVariants as shows
use Rattle.fk_cut.specs.Cuts.Shown.{shown, shown_each, shown_peers, alone, fields_there, each_seen, server_of, taker_of, thread_fields, record_there, object_there, below}
use Rattle.fk_cut.specs.Closing.Walks.{IsPart, seen, held_by, seen_body}
use Rattle.fk_cut.proofs.InClosing.Leads.{has_pointers, plain_kind}

pub shown_inside : (ports : ℕ → Bool) (nester : Path) (slot : ℕ) (x here : Path) → ((q : Path) → x ≡ q ++ slot ∷ nester → here ≡ reverse q) →
    true ≡ is_some (strip (slot ∷ nester) x) → shows.At here ≡ shown (cut_to ports nester x (strip (slot ∷ nester) x))
shown_inside ports nester slot x here is inside = by (strip (slot ∷ nester) x) refl inside
  where
    by : (o : Option Path) → strip (slot ∷ nester) x ≡ o → true ≡ is_some o → shows.At here ≡ shown (cut_to ports nester x o)
    by None e h = absurd (cc)
    by (Some q) e h = ap shows.At (is q (strip_some (slot ∷ nester) x q e))

-- what the cut makes of each pointer
abbrev cutting_of : Contents → Who → Sweep
cutting_of m root = cutting (ports_of (world m) (path m root.space) root.slot) (path m root.space) root.slot

-- the root is shown unheld
pub top_unheld : (m : Contents) (root who : Who) (q : Path) → HasOwnPath (path m) root → place_of m who ≡ q ++ place_of m root → true ≡ same_who who root →
    (holder : Option Who) → shows.Null ≡ shown_each (held_by q (option_map (λ who. seen m root (At (place_of m who))) holder))
top_unheld m root who [] own is top holder = refl
top_unheld m root who (k ∷ q) own is top holder =
    let off : same_who who root ≡ false = sym (own who).0 ∙ rw (is) (same_path_beneath k q (place_of m root)) in
    let both : true ≡ false = top ∙ off in
    absurd (cc)

module _ (m : Contents) (root : Who) where
  pub shows_mapping : (q : Path) (first count offset : ℕ) (write : Bool) (to : stored_ptr.Ptr) (p : CutPtr) → p ≡ shown (seen m root (pointer_by (path m) to)) →
      alone p ≡ fields_there (seen_body m root q (bodies.Mapping first count offset write to))
  unfolding seen_by
  shows_mapping [] first count offset write to p is = ap alone is
  shows_mapping (k ∷ q) first count offset write to p is = ap alone is

  pub shows_region : (q : Path) (first count : ℕ) (write : Bool) (to : stored_ptr.Ptr) (p : CutPtr) → p ≡ shown (seen m root (pointer_by (path m) to)) →
      alone p ≡ fields_there (seen_body m root q (bodies.Region first count write to))
  unfolding seen_by
  shows_region [] first count write to p is = ap alone is
  shows_region (k ∷ q) first count write to p is = ap alone is

  pub shows_reference : (q : Path) (to : stored_ptr.Ptr) (p : CutPtr) → p ≡ shown (seen m root (pointer_by (path m) to)) →
      alone p ≡ fields_there (seen_body m root q (bodies.Reference to))
  unfolding seen_by
  shows_reference [] to p is = ap alone is
  shows_reference (k ∷ q) to p is = ap alone is

  pub shows_space : (q : Path) (birth : ℕ) (holder : Option Who) (p : CutPtr) →
      p ≡ shown_each (held_by q (option_map (λ who. seen m root (At (place_of m who))) holder)) →
      alone p ≡ fields_there (seen_body m root q (bodies.Space birth holder))
  unfolding seen_by
  shows_space [] birth None p is = ap alone is
  shows_space [] birth (Some who) p is = ap alone is
  shows_space (k ∷ q) birth None p is = ap alone is
  shows_space (k ∷ q) birth (Some who) p is = ap alone is

  -- who serves a talk, and who has taken a fault, through the cut
  taker_same : (fault : StoredFault) (taker : Option StoredPeer) → taker_of m root (Some (record fault { taker = taker }))
      ≡ shown_peers (and_then (λ (f : Fault). f.taker) (and_then (cutting_of m root).fault (Some (fault_by (path m) (record fault { taker = taker })))))
  taker_same fault None = refl
  taker_same fault (Some taker) = refl

  taker_shown : (fault : Option StoredFault) → taker_of m root fault
      ≡ shown_peers (and_then (λ (f : Fault). f.taker) (and_then (cutting_of m root).fault (option_map (fault_by (path m)) fault)))
  taker_shown None = refl
  taker_shown (Some fault) = taker_same fault fault.taker

  talk_shown : (talk : Option StoredTalk) → server_of m root talk
      ≡ shown_peers (option_map (λ (t : Talk). t.peer) (and_then (cutting_of m root).talk (option_map (talk_by (path m)) talk)))
  talk_shown None = refl
  talk_shown (Some talk) = refl

  port_shown : (talk : Option StoredTalk) → each_seen m root (option_map (λ (t : StoredTalk). t.port) talk)
      ≡ shown_each (option_map (λ (t : Talk). t.port) (and_then (cutting_of m root).talk (option_map (talk_by (path m)) talk)))
  port_shown None = refl
  port_shown (Some talk) = refl

  keeper_shown : (fault : Option StoredFault) → each_seen m root (option_map (λ (f : StoredFault). f.port) fault)
      ≡ shown_each (option_map (λ (f : Fault). f.port) (and_then (cutting_of m root).fault (option_map (fault_by (path m)) fault)))
  keeper_shown None = refl
  keeper_shown (Some fault) = refl

  pub shows_thread : (q : Path) (t : StoredThread) → thread_fields m root t ≡ fields_there (seen_body m root q (bodies.Thread t))
  unfolding seen_by
  shows_thread [] t = rw (port_shown t.talk, talk_shown t.talk, keeper_shown t.fault, taker_shown t.fault) refl
  shows_thread (k ∷ q) t = rw (port_shown t.talk, talk_shown t.talk, keeper_shown t.fault, taker_shown t.fault) refl

pub shows_nothing : (m : Contents) (root : Who) (q : Path) (b : bodies_of.Body) → has_pointers b ≡ false →
    alone shows.Null ≡ fields_there (seen_body m root q b)
unfolding seen_by
shows_nothing m root [] (bodies.Mutex locked) none = refl
shows_nothing m root [] bodies.Cond none = refl
shows_nothing m root [] (bodies.Port set served) none = refl
shows_nothing m root [] bodies.Portset none = refl
shows_nothing m root (k ∷ q) (bodies.Mutex locked) none = refl
shows_nothing m root (k ∷ q) bodies.Cond none = refl
shows_nothing m root (k ∷ q) (bodies.Port set served) none = refl
shows_nothing m root (k ∷ q) bodies.Portset none = refl
shows_nothing m root q (bodies.Mapping first count offset write region) none = cc
shows_nothing m root q (bodies.Region first count write keeper) none = cc
shows_nothing m root q (bodies.Space birth holder) none = cc
shows_nothing m root q (bodies.Thread thread) none = cc
shows_nothing m root q (bodies.Reference to) none = cc

-- a fact of what a body is shown as, for the body that it is
pub shown_as : (m : Contents) (root : Who) (q : Path) (b d : bodies_of.Body) (fields : List CutPtr) → b ≡ d → fields ≡ fields_there (seen_body m root q d) →
    fields ≡ fields_there (seen_body m root q b)
shown_as m root q b d fields is shows = shows ∙ ap (λ x. fields_there (seen_body m root q x)) (sym is)

pub thread_ok : (m : Contents) (root : Who) (q : Path) (b : bodies_of.Body) (t : StoredThread) → b ≡ bodies.Thread t →
    {E : Type 0} (r : Result (List CutPtr) E) →
    IfOk r (λ fields. fields ≡ thread_fields m root t) → IfOk r (λ fields. fields ≡ fields_there (seen_body m root q b))
thread_ok m root q b t is (Ok fields) shows = shown_as m root q b (bodies.Thread t) fields is (shows ∙ shows_thread m root q t)
thread_ok m root q b t is (Err e) shows = tt

-- ---- records

talk_record : (m : Contents) (root : Who) (talk : Option StoredTalk) →
    talk_words (and_then (cutting_of m root).talk (option_map (talk_by (path m)) talk)) ≡ talk_words (option_map (talk_by (path m)) talk)
talk_record m root None = refl
talk_record m root (Some talk) = refl

fault_record_with : (m : Contents) (root : Who) (fault : StoredFault) (taker : Option StoredPeer) →
    fault_words (and_then (cutting_of m root).fault (Some (fault_by (path m) (record fault { taker = taker }))))
    ≡ fault_words (Some (fault_by (path m) (record fault { taker = taker })))
fault_record_with m root fault None = refl
fault_record_with m root fault (Some taker) = refl

fault_record : (m : Contents) (root : Who) (fault : Option StoredFault) →
    fault_words (and_then (cutting_of m root).fault (option_map (fault_by (path m)) fault)) ≡ fault_words (option_map (fault_by (path m)) fault)
fault_record m root None = refl
fault_record m root (Some fault) = fault_record_with m root fault fault.taker

-- a thread's record shows whether there is a talk and a fault, and nothing of where they lead
thread_record : (m : Contents) (root : Who) (t : StoredThread) →
    record_of (Thread_of (record (thread_by (path m) t) {
      talk = and_then (cutting_of m root).talk (option_map (talk_by (path m)) t.talk);
      fault = and_then (cutting_of m root).fault (option_map (fault_by (path m)) t.fault);
    })) ≡ record_of (Thread_of (thread_by (path m) t))
unfolding record_of
thread_record m root t = rw (talk_record m root t.talk, fault_record m root t.fault) refl

record_same : (m : Contents) (root : Who) (q : Path) (b : bodies_of.Body) → record_there (seen_body m root q b) ≡ record_of (body_by (path m) b)
unfolding seen_by record_of
record_same m root [] (bodies.Mutex locked) = refl
record_same m root [] bodies.Cond = refl
record_same m root [] (bodies.Mapping first count offset write region) = refl
record_same m root [] (bodies.Region first count write keeper) = refl
record_same m root [] (bodies.Port None served) = refl
record_same m root [] (bodies.Port (Some set) served) = refl
record_same m root [] bodies.Portset = refl
record_same m root [] (bodies.Space birth holder) = refl
record_same m root [] (bodies.Thread t) = thread_record m root t
record_same m root [] (bodies.Reference to) = refl
record_same m root (k ∷ q) (bodies.Mutex locked) = refl
record_same m root (k ∷ q) bodies.Cond = refl
record_same m root (k ∷ q) (bodies.Mapping first count offset write region) = refl
record_same m root (k ∷ q) (bodies.Region first count write keeper) = refl
record_same m root (k ∷ q) (bodies.Port None served) = refl
record_same m root (k ∷ q) (bodies.Port (Some set) served) = refl
record_same m root (k ∷ q) bodies.Portset = refl
record_same m root (k ∷ q) (bodies.Space birth holder) = refl
record_same m root (k ∷ q) (bodies.Thread t) = thread_record m root t
record_same m root (k ∷ q) (bodies.Reference to) = refl

pub object_when : (m : Contents) (root who : Who) (q here : Path) (b : bodies_of.Body) (words : List ℕ) (ptrs : List CutPtr) →
    (world m).body (place_of m who) ≡ Some (body_by (path m) b) → place_of m who ≡ q ++ place_of m root → here ≡ reverse q →
    words ≡ record_of (body_by (path m) b) → ptrs ≡ fields_there (seen_body m root q b) →
    record { path = here; words = words; ptrs = ptrs } ≡ object_there (cut (world m) (path m root.space) root.slot) q
unfolding cut
object_when m root who q here b words ptrs there is same record_is fields =
    let body : (world m).body (q ++ place_of m root) ≡ Some (body_by (path m) b) = ap (world m).body (sym is) ∙ there in
    rw (same, record_is, fields, body, ← record_same m root q b) refl

-- ---- paths

pub part_below : (m : Contents) (root who : Who) → IsPart m root who → place_of m who ≡ below m root who ++ place_of m root
part_below m root who part = by (strip (place_of m root) (place_of m who)) refl part.inside
  where
    by : (o : Option Path) → strip (place_of m root) (place_of m who) ≡ o → is_some o ≡ true →
        place_of m who ≡ unwrap_or (strip (place_of m root) (place_of m who)) [] ++ place_of m root
    by None e h = absurd (cc)
    by (Some q) e h = strip_some (place_of m root) (place_of m who) q e ∙ ap (λ o. unwrap_or o [] ++ place_of m root) (sym e)

pub belows : (m : Contents) (root : Who) (whos : List Who) (qs : List Path) →
    map (place_of m) whos ≡ map (λ q. q ++ place_of m root) qs → map (below m root) whos ≡ qs
belows m root [] [] same = refl
belows m root [] (q ∷ qs) same = absurd (cc)
belows m root (who ∷ whos) [] same = absurd (cc)
belows m root (who ∷ whos) (q ∷ qs) same =
    let first : place_of m who ≡ q ++ place_of m root = cc in
    let rest : map (place_of m) whos ≡ map (λ q. q ++ place_of m root) qs = cc in
    let here : below m root who ≡ q = ap (λ x. unwrap_or (strip (place_of m root) x) []) first ∙ ap (λ o. unwrap_or o []) (strip-append (place_of m root) q) in
    let more = belows m root whos qs rest in
    ap (λ x. x ∷ map (below m root) whos) here ∙ ap (λ xs. q ∷ xs) more
