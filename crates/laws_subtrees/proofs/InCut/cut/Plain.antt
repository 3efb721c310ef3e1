-- A subtree stays plain: what a move may change so that nobody inside is a porter, no port there is served, and nobody
-- inside serves the outside.
use Rattle.std.proofs.Common.{◌≡◌, ℕ, zero, Bool, true, false, cond, ◌||◌, List, [], ◌∷◌, ◌++◌, Option, Some, None, IfSome, is_some, option_map, refl, sym, ap}
use Rattle.std.proofs.Common.{◌∙◌}
use Rattle.std.specs.List.{list_any}
use Rattle.fk_model.specs.declared.stage.Stage.{Stage}
use Rattle.fk_model.specs.Places.{Path, same_path, strip, is_within, parent, Ptr, leads_to}
use Rattle.fk_model.specs.Places.Ptr.{At}
use Rattle.fk_model.specs.Objects.{Mode, Peer, Talk, Fault, Thread, Body, and_then, holds, is_served}
use Rattle.fk_model.specs.Objects.Mode.{Calling}
use Rattle.fk_model.specs.Objects.Peer.{Server, Service, Parked}
use Rattle.fk_model.specs.Objects.Body.{Mutex, Cond, Mapping, Region, Port, Portset, Space, Thread_of, Reference}
use Rattle.fk_model.specs.World.{World, Change, Edit, Sweep, edited, through, death_sweep, following, talk_without, taker_without, fault_without, follow_peer}
use Rattle.fk_model.specs.World.{serves, moved_to, finished_in, ended_in, replaced_in, shifted_in, apply, apply_all}
use Rattle.fk_model.specs.World.Change.{Alter, Make, MakeSpace, Kill, Move, PutPage, DropPage}
use Rattle.fk_model.specs.World.Edit.{SetLocked, SetWindow, SetExtent, SetMember, SetPointer, SetHolder, Proceed, Shift, Finish, End, Replace, SetTalk}
use Rattle.fk_model.specs.World.Edit.{CountMoved, PassTurn, SetPeer, SetFault, SetTaker}
use Rattle.fk_model.specs.Searches.{pointers}
use Rattle.fk_model.specs.Holds.{is_porter}
use Rattle.fk_model.specs.StateRows.{is_native}
use Rattle.fk_model.specs.Cut.{ports_of, cut_ptr, cut, seen_by, unheld, is_far, has_far, is_inner_peer, is_served_by, IsPlain}
use Rattle.laws_subtrees.specs.Cut.Likeness.{seeing, PtrLikeness, HasLikeness, IsPlainBody, IsLikeness}
use Rattle.laws_subtrees.specs.Cut.Likeness.PtrLikeness.{Nulls, Deads, Inside, PortAt, PortOut}
use Rattle.laws_moves.proofs.InMachine.Frame.{or_off}
use Rattle.fk_model.proofs.walks.PlaceLaws.{same_path_eq, strip-append, strip_some}
use Rattle.laws_subtrees.proofs.InCut.likeness.Memory.{root_seen, root_space}
use Rattle.laws_subtrees.proofs.InCut.cut.Holds.{body_off, both_off}

-- ---- quiet changes

abbrev pub IsQuietEdit : Path → Path → Edit → Type 0
IsQuietEdit root x (Proceed mode counter) = is_porter mode ≡ false
IsQuietEdit root x (SetTalk talk) = is_within root x ≡ false → holds (λ (talk : Talk). is_inner_peer root talk.peer) talk ≡ false
IsQuietEdit root x (SetPeer peer) = is_within root x ≡ false → is_inner_peer root peer ≡ false
IsQuietEdit root x (SetFault fault) = is_within root x ≡ false → holds (λ (fault : Fault). holds (is_inner_peer root) fault.taker) fault ≡ false
IsQuietEdit root x (SetTaker taker) = is_within root x ≡ false → holds (is_inner_peer root) taker ≡ false
IsQuietEdit root x other = Unit {0}

pub record IsQuietBody (root : Path) (b : Body) : Type 0 where
  pub no_porter : is_native b ≡ false
  pub unserved : is_served b ≡ false
  pub served_outside : is_served_by root (Some b) ≡ false

abbrev pub IsQuiet : Path → Change → Type 0
IsQuiet root (Alter x edit) = IsQuietEdit root x edit
IsQuiet root (Make x body) = IsQuietBody root body
IsQuiet root (Move x slot) = is_within root (slot ∷ parent x) ≡ is_within root x
IsQuiet root other = Unit {0}

abbrev pub AreQuiet : Path → List Change → Type 0
AreQuiet root [] = Unit {0}
AreQuiet root (c ∷ cs) = IsQuiet root c × AreQuiet root cs

pub record IsClear (root : Path) (w : World) : Type 0 where
  pub no_porter : (q : Path) → holds is_native (w.body (q ++ root)) ≡ false
  pub unserved : (q : Path) → holds is_served (w.body (q ++ root)) ≡ false
  pub served_inside : (x : Path) → is_within root x ≡ false → is_served_by root (w.body x) ≡ false

-- ---- edits

shifted-porter : (count : ℕ) (m : Mode) → is_porter m ≡ false → is_porter (shifted_in count m) ≡ false
shifted-porter count (Calling [] rest) h = refl
shifted-porter count (Calling (stage ∷ todo) rest) h = refl
shifted-porter count m h = h

replaced-porter : (stage : Stage) (m : Mode) → is_porter m ≡ false → is_porter (replaced_in stage m) ≡ false
replaced-porter stage (Calling [] rest) h = refl
replaced-porter stage (Calling (old ∷ todo) rest) h = refl
replaced-porter stage m h = h

ended-porter : (status : ℕ) (answers : List ℕ) (t : Thread) (m : Mode) → is_porter t.mode ≡ false → is_porter (ended_in status answers t m).mode ≡ false
ended-porter status answers t (Calling todo rest) h = refl
ended-porter status answers t m h = h

finished-porter : (answers : List ℕ) (t : Thread) (m : Mode) → is_porter t.mode ≡ false → is_porter (finished_in answers t m).mode ≡ false
finished-porter answers t (Calling [] rest) h = refl
finished-porter answers t (Calling (stage ∷ []) rest) h = refl
finished-porter answers t (Calling (stage ∷ next_stage ∷ todo) rest) h = refl
finished-porter answers t m h = h

native-edited : (root x : Path) (edit : Edit) (b : Body) → IsQuietEdit root x edit → is_native b ≡ false → is_native (edited edit b) ≡ false
unfolding edited
native-edited root x (SetLocked locked) (Mutex old) quiet h = refl
native-edited root x (SetLocked locked) b quiet h = h
native-edited root x (SetWindow first count offset write) (Mapping m) quiet h = refl
native-edited root x (SetWindow first count offset write) b quiet h = h
native-edited root x (SetExtent first count write) (Region r) quiet h = refl
native-edited root x (SetExtent first count write) b quiet h = h
native-edited root x (SetMember set) (Port old served) quiet h = refl
native-edited root x (SetMember set) b quiet h = h
native-edited root x (SetPointer to) (Mapping m) quiet h = refl
native-edited root x (SetPointer to) (Region r) quiet h = refl
native-edited root x (SetPointer to) (Reference old) quiet h = refl
native-edited root x (SetPointer to) b quiet h = h
native-edited root x (SetHolder holder) (Space birth old) quiet h = refl
native-edited root x (SetHolder holder) b quiet h = h
native-edited root x (Proceed mode counter) (Thread_of t) quiet h = quiet
native-edited root x (Shift count) (Thread_of t) quiet h = shifted-porter count t.mode h
native-edited root x (Finish answers) (Thread_of t) quiet h = finished-porter answers t t.mode h
native-edited root x (End status answers) (Thread_of t) quiet h = ended-porter status answers t t.mode h
native-edited root x (Replace stage) (Thread_of t) quiet h = replaced-porter stage t.mode h
native-edited root x edit (Thread_of t) quiet h = h
native-edited root x edit b quiet h = h

served-edited : (edit : Edit) (b : Body) → is_served b ≡ false → is_served (edited edit b) ≡ false
unfolding edited
served-edited (SetLocked locked) (Mutex old) h = refl
served-edited (SetLocked locked) b h = h
served-edited (SetWindow first count offset write) (Mapping m) h = refl
served-edited (SetWindow first count offset write) b h = h
served-edited (SetExtent first count write) (Region r) h = refl
served-edited (SetExtent first count write) b h = h
served-edited (SetMember set) (Port old served) h = h
served-edited (SetMember set) b h = h
served-edited (SetPointer to) (Mapping m) h = refl
served-edited (SetPointer to) (Region r) h = refl
served-edited (SetPointer to) (Reference old) h = refl
served-edited (SetPointer to) b h = h
served-edited (SetHolder holder) (Space birth old) h = refl
served-edited (SetHolder holder) b h = h
served-edited edit (Thread_of t) h = refl
served-edited edit b h = h

-- a talk that is changed with its peer kept
talk_same : (root : Path) (f : Talk → Talk) → ((talk : Talk) → (f talk).peer ≡ talk.peer) → (o : Option Talk) →
    holds (λ (talk : Talk). is_inner_peer root talk.peer) o ≡ false → holds (λ (talk : Talk). is_inner_peer root talk.peer) (option_map f o) ≡ false
talk_same root f same None h = refl
talk_same root f same (Some talk) h = rw (same talk) h

talk_new : (root : Path) (peer : Peer) (o : Option Talk) → is_inner_peer root peer ≡ false →
    holds (λ (talk : Talk). is_inner_peer root talk.peer) (option_map (λ (talk : Talk). record talk { peer = peer }) o) ≡ false
talk_new root peer None h = refl
talk_new root peer (Some talk) h = h

fault_new : (root : Path) (taker : Option Peer) (o : Option Fault) → holds (is_inner_peer root) taker ≡ false →
    holds (λ (fault : Fault). holds (is_inner_peer root) fault.taker) (option_map (λ (fault : Fault). record fault { taker = taker }) o) ≡ false
fault_new root taker None h = refl
fault_new root taker (Some fault) h = h

ended-served : (root : Path) (status : ℕ) (answers : List ℕ) (t : Thread) (m : Mode) →
    is_served_by root (Some (Thread_of t)) ≡ false → is_served_by root (Some (Thread_of (ended_in status answers t m))) ≡ false
ended-served root status answers t (Calling todo rest) h = h
ended-served root status answers t m h = h

finished-served : (root : Path) (answers : List ℕ) (t : Thread) (m : Mode) →
    is_served_by root (Some (Thread_of t)) ≡ false → is_served_by root (Some (Thread_of (finished_in answers t m))) ≡ false
finished-served root answers t (Calling [] rest) h = h
finished-served root answers t (Calling (stage ∷ []) rest) h = h
finished-served root answers t (Calling (stage ∷ next_stage ∷ todo) rest) h = h
finished-served root answers t m h = h

served_by-edited : (root x : Path) (edit : Edit) (b : Body) →
    IsQuietEdit root x edit → is_within root x ≡ false → is_served_by root (Some b) ≡ false → is_served_by root (Some (edited edit b)) ≡ false
unfolding edited
served_by-edited root x (SetLocked locked) (Mutex old) quiet out h = refl
served_by-edited root x (SetLocked locked) b quiet out h = h
served_by-edited root x (SetWindow first count offset write) (Mapping m) quiet out h = refl
served_by-edited root x (SetWindow first count offset write) b quiet out h = h
served_by-edited root x (SetExtent first count write) (Region r) quiet out h = refl
served_by-edited root x (SetExtent first count write) b quiet out h = h
served_by-edited root x (SetMember set) (Port old served) quiet out h = refl
served_by-edited root x (SetMember set) b quiet out h = h
served_by-edited root x (SetPointer to) (Mapping m) quiet out h = refl
served_by-edited root x (SetPointer to) (Region r) quiet out h = refl
served_by-edited root x (SetPointer to) (Reference old) quiet out h = refl
served_by-edited root x (SetPointer to) b quiet out h = h
served_by-edited root x (SetHolder holder) (Space birth old) quiet out h = refl
served_by-edited root x (SetHolder holder) b quiet out h = h
served_by-edited root x (Finish answers) (Thread_of t) quiet out h = finished-served root answers t t.mode h
served_by-edited root x (End status answers) (Thread_of t) quiet out h = ended-served root status answers t t.mode h
served_by-edited root x (CountMoved count) (Thread_of t) quiet out h = let both = or_off (holds (λ (talk : Talk). is_inner_peer root talk.peer) t.talk) _ h in
    both_off _ _ (talk_same root _ (λ talk. refl) t.talk both.0) both.1
served_by-edited root x (PassTurn turn) (Thread_of t) quiet out h = let both = or_off (holds (λ (talk : Talk). is_inner_peer root talk.peer) t.talk) _ h in
    both_off _ _ (talk_same root _ (λ talk. refl) t.talk both.0) both.1
served_by-edited root x (SetTalk talk) (Thread_of t) quiet out h =
    let both = or_off (holds (λ (talk : Talk). is_inner_peer root talk.peer) t.talk) _ h in both_off _ _ (quiet out) both.1
served_by-edited root x (SetPeer peer) (Thread_of t) quiet out h = let both = or_off (holds (λ (talk : Talk). is_inner_peer root talk.peer) t.talk) _ h in
    both_off _ _ (talk_new root peer t.talk (quiet out)) both.1
served_by-edited root x (SetFault fault) (Thread_of t) quiet out h =
    let both = or_off (holds (λ (talk : Talk). is_inner_peer root talk.peer) t.talk) _ h in both_off _ _ both.0 (quiet out)
served_by-edited root x (SetTaker taker) (Thread_of t) quiet out h = let both = or_off (holds (λ (talk : Talk). is_inner_peer root talk.peer) t.talk) _ h in
    both_off _ _ both.0 (fault_new root taker t.fault (quiet out))
served_by-edited root x edit (Thread_of t) quiet out h = h
served_by-edited root x edit b quiet out h = h

-- ---- sweeps

native-through : (f : Sweep) (q : Path) (o : Option Body) → holds is_native o ≡ false → holds is_native (option_map (through f q) o) ≡ false
native-through f q (Some (Mutex locked)) h = refl
native-through f q (Some b) h = h
native-through f q None h = refl

served-through : (f : Sweep) (q : Path) (o : Option Body) → holds is_served o ≡ false → holds is_served (option_map (through f q) o) ≡ false
served-through f q (Some (Mutex locked)) h = refl
served-through f q (Some b) h = h
served-through f q None h = refl

module _ (root : Path)
    (f : Sweep) (talks : (talk : Talk) → is_inner_peer root talk.peer ≡ false → holds (λ (talk : Talk). is_inner_peer root talk.peer) (f.talk talk) ≡ false)
    (faults : (fault : Fault) →
    holds (is_inner_peer root) fault.taker ≡ false → holds (λ (fault : Fault). holds (is_inner_peer root) fault.taker) (f.fault fault) ≡ false) where
  talk-through : (o : Option Talk) →
      holds (λ (talk : Talk). is_inner_peer root talk.peer) o ≡ false → holds (λ (talk : Talk). is_inner_peer root talk.peer) (and_then f.talk o) ≡ false
  talk-through None h = refl
  talk-through (Some talk) h = talks talk h

  fault-through : (o : Option Fault) → holds (λ (fault : Fault). holds (is_inner_peer root) fault.taker) o ≡ false →
      holds (λ (fault : Fault). holds (is_inner_peer root) fault.taker) (and_then f.fault o) ≡ false
  fault-through None h = refl
  fault-through (Some fault) h = faults fault h

  served_by-through : (q : Path) (o : Option Body) → is_served_by root o ≡ false → is_served_by root (option_map (through f q) o) ≡ false
  served_by-through q (Some (Thread_of t)) h =
      let both = or_off (holds (λ (talk : Talk). is_inner_peer root talk.peer) t.talk) _ h in
      both_off _ _ (talk-through t.talk both.0) (fault-through t.fault both.1)
  served_by-through q (Some (Mutex locked)) h = refl
  served_by-through q (Some b) h = refl
  served_by-through q None h = refl

-- who dies serves nobody more
talk-left : (root x : Path) (talk : Talk) →
    is_inner_peer root talk.peer ≡ false → holds (λ (talk : Talk). is_inner_peer root talk.peer) (talk_without x talk) ≡ false
talk-left root x talk h = by (leads_to x talk.port || serves x talk.peer)
  where
    by : (b : Bool) → holds (λ (talk : Talk). is_inner_peer root talk.peer) (cond b None (Some talk)) ≡ false
    by true = refl
    by false = h

taker-left : (root x : Path) (o : Option Peer) → holds (is_inner_peer root) o ≡ false → holds (is_inner_peer root) (and_then (taker_without x) o) ≡ false
taker-left root x None h = refl
taker-left root x (Some taker) h = by (serves x taker)
  where
    by : (b : Bool) → holds (is_inner_peer root) (cond b None (Some taker)) ≡ false
    by true = refl
    by false = h

fault-left : (root x : Path) (fault : Fault) →
    holds (is_inner_peer root) fault.taker ≡ false → holds (λ (fault : Fault). holds (is_inner_peer root) fault.taker) (fault_without x fault) ≡ false
fault-left root x fault h = by (leads_to x fault.port)
  where
    by : (b : Bool) → holds (λ (fault : Fault). holds (is_inner_peer root) fault.taker)
        (cond b None (Some (record fault { taker = and_then (taker_without x) fault.taker }))) ≡ false
    by true = refl
    by false = taker-left root x fault.taker h

-- who is renamed stays inside, or outside
peer-followed : (root x y : Path) →
    is_within root y ≡ is_within root x → (peer : Peer) → is_inner_peer root peer ≡ false → is_inner_peer root (follow_peer x y peer) ≡ false
peer-followed root x y same (Server (At z)) h = by (same_path z x) refl
  where
    by : (b : Bool) → same_path z x ≡ b → is_inner_peer root (Server (cond b (At y) (At z))) ≡ false
    by true e = let is = same_path_eq z x e in same ∙ ap (is_within root) (sym is) ∙ h
    by false e = h
peer-followed root x y same (Server p) h = refl
peer-followed root x y same Service h = refl
peer-followed root x y same Parked h = refl

taker-followed : (root x y : Path) → is_within root y ≡ is_within root x →
    (o : Option Peer) → holds (is_inner_peer root) o ≡ false → holds (is_inner_peer root) (option_map (follow_peer x y) o) ≡ false
taker-followed root x y same None h = refl
taker-followed root x y same (Some taker) h = peer-followed root x y same taker h

-- ---- changes

if_off : (T : Option Body → Bool) (t : Bool) (a b : Option Body) → (t ≡ true → T a ≡ false) → T b ≡ false → T (cond t a b) ≡ false
if_off T true a b on off = on refl
if_off T false a b on off = off

native_there : (root x : Path) (edit : Edit) (o : Option Body) →
    IsQuietEdit root x edit → holds is_native o ≡ false → holds is_native (option_map (edited edit) o) ≡ false
native_there root x edit None quiet h = refl
native_there root x edit (Some b) quiet h = native-edited root x edit b quiet h

served_there : (edit : Edit) (o : Option Body) → holds is_served o ≡ false → holds is_served (option_map (edited edit) o) ≡ false
served_there edit None h = refl
served_there edit (Some b) h = served-edited edit b h

served_by_there : (root x : Path) (edit : Edit) (o : Option Body) →
    IsQuietEdit root x edit → is_within root x ≡ false → is_served_by root o ≡ false → is_served_by root (option_map (edited edit) o) ≡ false
served_by_there root x edit None quiet out h = refl
served_by_there root x edit (Some b) quiet out h = served_by-edited root x edit b quiet out h

module _ (root : Path) (w : World) (clear : IsClear root w) where
  -- what stands inside, by any path
  inside : (T : Option Body → Bool) → ((q : Path) → T (w.body (q ++ root)) ≡ false) → (x : Path) → is_within root x ≡ true → T (w.body x) ≡ false
  inside T h x within = by (strip root x) refl within
    where
      by : (o : Option Path) → strip root x ≡ o → is_some o ≡ true → T (w.body x) ≡ false
      by None e within = cc
      by (Some q) e within = rw (strip_some root x q e) (h q)

  within_root : (q : Path) → is_within root (q ++ root) ≡ true
  within_root q = rw (strip-append root q) refl

  move-clear : (x y : Path) → is_within root y ≡ is_within root x → IsClear root (moved_to x y w)
  move-clear x y same = record {
    no_porter = λ q. if_off (holds is_native) (same_path (q ++ root) y) _ _ (λ e. native-through (following x y)
        y (w.body x) (inside (holds is_native) clear.no_porter x (sym same ∙ ap (is_within root) (sym (same_path_eq (q ++ root) y e)) ∙ within_root q)))
        (if_off (holds is_native)
        (same_path (q ++ root) x) None _ (λ e. refl) (native-through (following x y) (q ++ root) (w.body (q ++ root)) (clear.no_porter q)));
    unserved = λ q. if_off (holds is_served) (same_path (q ++ root) y) _ _ (λ e. served-through (following x y)
        y (w.body x) (inside (holds is_served) clear.unserved x (sym same ∙ ap (is_within root) (sym (same_path_eq (q ++ root) y e)) ∙ within_root q)))
        (if_off (holds is_served)
        (same_path (q ++ root) x) None _ (λ e. refl) (served-through (following x y) (q ++ root) (w.body (q ++ root)) (clear.unserved q)));
    served_inside = λ z out. if_off (is_served_by root) (same_path z y) _ _
        (λ e. served_by-through root (following x y) (λ talk h. peer-followed root x y same talk.peer h) (λ fault h. taker-followed root x y same fault.taker h)
        y (w.body x) (clear.served_inside x (sym same ∙ ap (is_within root) (sym (same_path_eq z y e)) ∙ out)))
        (if_off (is_served_by root) (same_path z x) None _ (λ e. refl) (served_by-through root (following x y) (λ talk h.
        peer-followed root x y same talk.peer h) (λ fault h. taker-followed root x y same fault.taker h) z (w.body z) (clear.served_inside z out)));
  }

  pub change-clear : (c : Change) → IsQuiet root c → IsClear root (apply c w)
  unfolding apply
  change-clear (Alter x edit) quiet = record {
    no_porter = λ q. if_off
        (holds is_native) (same_path (q ++ root) x) _ _ (λ e. native_there root x edit (w.body (q ++ root)) quiet (clear.no_porter q)) (clear.no_porter q);
    unserved = λ q. if_off (holds is_served) (same_path (q ++ root) x) _ _ (λ e. served_there edit (w.body (q ++ root)) (clear.unserved q)) (clear.unserved q);
    served_inside = λ z out. if_off (is_served_by root) (same_path z x) _ _ (λ e. served_by_there
        root x edit (w.body z) quiet (ap (is_within root) (sym (same_path_eq z x e)) ∙ out) (clear.served_inside z out)) (clear.served_inside z out);
  }
  change-clear (Make x body) quiet = record {
    no_porter = λ q. if_off (holds is_native) (same_path (q ++ root) x) (Some body) _ (λ e. quiet.no_porter) (clear.no_porter q);
    unserved = λ q. if_off (holds is_served) (same_path (q ++ root) x) (Some body) _ (λ e. quiet.unserved) (clear.unserved q);
    served_inside = λ z out. if_off (is_served_by root) (same_path z x) (Some body) _ (λ e. quiet.served_outside) (clear.served_inside z out);
  }
  change-clear (MakeSpace x holder) quiet = record {
    no_porter = λ q. if_off (holds is_native) (same_path (q ++ root) x) (Some (Space w.next holder)) _ (λ e. refl) (clear.no_porter q);
    unserved = λ q. if_off (holds is_served) (same_path (q ++ root) x) (Some (Space w.next holder)) _ (λ e. refl) (clear.unserved q);
    served_inside = λ z out. if_off (is_served_by root) (same_path z x) (Some (Space w.next holder)) _ (λ e. refl) (clear.served_inside z out);
  }
  change-clear (Kill x) quiet = record {
    no_porter = λ q. if_off
        (holds is_native) (same_path (q ++ root) x) None _ (λ e. refl) (native-through (death_sweep x) (q ++ root) (w.body (q ++ root)) (clear.no_porter q));
    unserved = λ q. if_off
        (holds is_served) (same_path (q ++ root) x) None _ (λ e. refl) (served-through (death_sweep x) (q ++ root) (w.body (q ++ root)) (clear.unserved q));
    served_inside = λ z out. if_off (is_served_by root) (same_path z x)
        None _ (λ e. refl) (served_by-through root (death_sweep x) (talk-left root x) (fault-left root x) z (w.body z) (clear.served_inside z out));
  }
  change-clear (Move x slot) quiet = move-clear x (slot ∷ parent x) quiet
  change-clear (PutPage space page words) quiet = record { no_porter = clear.no_porter; unserved = clear.unserved; served_inside = clear.served_inside }
  change-clear (DropPage space page) quiet = record { no_porter = clear.no_porter; unserved = clear.unserved; served_inside = clear.served_inside }

pub changes-clear : (root : Path) (w : World) (cs : List Change) → AreQuiet root cs → IsClear root w → IsClear root (apply_all cs w)
unfolding apply_all
changes-clear root w [] quiet clear = clear
changes-clear root w (c ∷ cs) quiet clear = changes-clear root (apply c w) cs quiet.1 (change-clear root w clear c quiet.0)

-- ---- a subtree that is clear, and of which nothing leads far, is plain

never : (ps : List Ptr) → list_any (λ p. false) ps ≡ false
never [] = refl
never (p ∷ ps) = never ps

near_seen : (root : Path) (w : World) (p seen : Ptr) → PtrLikeness root w p seen → is_far seen ≡ false
near_seen root w _ _ Nulls = refl
near_seen root w _ _ Deads = refl
near_seen root w _ _ (Inside x) = refl
near_seen root w _ _ (PortAt x slot apart port) = refl
near_seen root w _ _ (PortOut old slot) = refl

pub like-near : {root : Path} {see : Ptr → Ptr} {small big : World} → IsLikeness root see small big → (q : Path) → has_far (small.body q) ≡ false
like-near {root} {see} {small} {big} like [] = rw (root_seen like) refl
like-near {root} {see} {small} {big} like (k ∷ q) = rw (like.bodies (k ∷ q)) (by (big.body (k ∷ (q ++ root))) (like.plain k q))
  where
    by : (o : Option Body) →
        IfSome o (IsPlainBody see (HasLikeness root see big)) → has_far (option_map (λ b. unheld (k ∷ q) (seen_by (seeing see) b)) o) ≡ false
    by None h = refl
    by (Some b) h = body_off root see big is_far (λ p. false) refl (λ p h off. near_seen root big p (see p) h) b h (never (pointers b))

pub clear-plain : (w : World) (nester : Path) (slot : ℕ) → IsPlain w nester slot → IsClear (slot ∷ nester) w
clear-plain w nester slot plain = record { no_porter = plain.no_porter; unserved = plain.unserved; served_inside = plain.served_inside }

pub like-plain : (w small : World) (see : Ptr → Ptr) (nester : Path) (slot : ℕ) →
    IsLikeness (slot ∷ nester) see small w → cut w nester slot ≡ small → IsClear (slot ∷ nester) w → IsPlain w nester slot
like-plain w small see nester slot like same clear = record {
  birth = (root_space like).0;
  holder = (root_space like).1;
  root = (root_space like).2;
  near = λ q. rw same (like-near like q);
  no_porter = clear.no_porter;
  unserved = clear.unserved;
  served_inside = clear.served_inside;
}

-- a world with the same cut
root_of : (see : Ptr → Ptr) (o : Option Body) →
    option_map (λ b. unheld [] (seen_by (seeing see) b)) o ≡ Some (Space zero None) → (birth : ℕ) × (holder : Option Ptr) × (o ≡ Some (Space birth holder))
unfolding seen_by
root_of see (Some (Space birth holder)) h = (birth, holder, refl)
root_of see (Some (Mutex locked)) h = cc
root_of see (Some Cond) h = cc
root_of see (Some (Mapping m)) h = cc
root_of see (Some (Region r)) h = cc
root_of see (Some (Port set served)) h = cc
root_of see (Some Portset) h = cc
root_of see (Some (Thread_of t)) h = cc
root_of see (Some (Reference to)) h = cc
root_of see None h = cc

pub same-plain : (w v : World) (nester : Path) (slot : ℕ) →
    IsPlain w nester slot → cut v nester slot ≡ cut w nester slot → IsClear (slot ∷ nester) v → IsPlain v nester slot
unfolding cut seen_by
same-plain w v nester slot plain same clear =
    let top : (cut w nester slot).body [] ≡ Some (Space zero None) = rw plain.root refl in
    let there = root_of (cut_ptr (ports_of v nester slot) nester slot) (v.body (slot ∷ nester)) (ap (λ (c : World). c.body []) same ∙ top) in
    record {
      birth = there.0;
      holder = there.1;
      root = there.2;
      near = λ q. ap (λ (c : World). has_far (c.body q)) same ∙ plain.near q;
      no_porter = clear.no_porter;
      unserved = clear.unserved;
      served_inside = clear.served_inside;
    }
