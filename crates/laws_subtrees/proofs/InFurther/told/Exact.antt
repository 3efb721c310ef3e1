-- What becomes of the talks and faults of a subtree that is seen alone by changes of which one at most touches pointers, and
-- what is told of them.
use Rattle.std.proofs.Common.{◌≡◌, ◌⊎◌, inl, inr, ℕ, Bool, true, false, if◌then◌else◌, ◌&&◌, is_none, is_some, List, [], ◌∷◌, ◌++◌, Option, Some, None}
use Rattle.std.proofs.Common.{option_map, refl, sym, ap, ◌∙◌, append-nil}
use Rattle.std.specs.List.{flat_map}
use Rattle.std.proofs.lemmas.Bool.{and_parts}
use Rattle.fk_model.specs.declared.names.Kind.TheVariants as kinds
use Rattle.fk_model.specs.Places.{Path, same_path, Ptr, leads_to}
use Rattle.fk_model.specs.Places.Ptr.{Null, Dead, At, Out, Outside, Far}
use Rattle.fk_model.specs.Objects.{Peer, Talk, Fault, Thread, Body, kind_of, thread_of, and_then}
use Rattle.fk_model.specs.Objects.Peer.{Server, Parked}
use Rattle.fk_model.specs.Objects.Body.{Mutex, Cond, Mapping, Region, Port, Portset, Space, Thread_of, Reference}
use Rattle.fk_model.specs.World.{World, Change, Edit, edited, through, death_sweep, talk_without, apply, apply_all}
use Rattle.fk_model.specs.World.Change.{Alter, Make, MakeSpace, Kill, Move, PutPage, DropPage}
use Rattle.fk_model.specs.World.Edit.{SetLocked, SetPointer, SetHolder, SetTalk, SetPeer, SetFault, SetTaker}
use Rattle.fk_model.specs.Searches.{thread_at, talk_at, fault_at}
use Rattle.fk_model.specs.Cut.{is_out}
use Rattle.fk_model.specs.Further.{Told, ends_told, told_fault, told_by_change}
use Rattle.fk_model.specs.Further.Told.{ToldEnd, ToldFault}
use Rattle.fk_model.proofs.walks.PlaceLaws.{same_path_eq, same_path_refl}
use Rattle.laws_moves.specs.Frozen.Once.{is_mild_edit, is_mild, AreMild, is_bare, IsFaultless, MakesAnew, EitherOf, TouchOnce}
use Rattle.laws_subtrees.specs.Further.Told.{IsTold, renames}
use Rattle.laws_subtrees.proofs.InFurther.told.Faces.{tie, Face, face, other-face, Agree, mild-agree, mild-all, talk_none, same-talk, same-fault}

-- ---- lists of what is told

pub told-either : (t : Told) (ts us : List Told) → IsTold t (ts ++ us) → IsTold t ts ⊎ IsTold t us
told-either t [] us h = inr h
told-either t (u ∷ ts) us (inl h) = inl (inl h)
told-either t (u ∷ ts) us (inr h) = by (told-either t ts us h)
  where
    by : IsTold t ts ⊎ IsTold t us → IsTold t (u ∷ ts) ⊎ IsTold t us
    by (inl g) = inl (inr g)
    by (inr g) = inr g

pub told-first : (t : Told) (ts us : List Told) → IsTold t ts → IsTold t (ts ++ us)
told-first t [] us h = absurd h
told-first t (u ∷ ts) us (inl h) = inl h
told-first t (u ∷ ts) us (inr h) = inr (told-first t ts us h)

-- ---- mild changes tell nothing

mild-edit-told : (c : World) (y : Path) (edit : Edit) → is_mild_edit edit ≡ true → told_by_change c (Alter y edit) ≡ []
mild-edit-told c y (SetTalk talk) mild = cc
mild-edit-told c y (SetFault fault) mild = cc
mild-edit-told c y (SetLocked locked) mild = refl
mild-edit-told c y edit mild = refl

pub mild-told : (c : World) (m : Change) → is_mild m ≡ true → told_by_change c m ≡ []
mild-told c (Alter y edit) mild = mild-edit-told c y edit mild
mild-told c (Kill y) mild = cc
mild-told c (PutPage space page words) mild = refl
mild-told c m mild = refl

pub all-told : (c : World) (cs : List Change) → AreMild cs → flat_map (told_by_change c) cs ≡ []
all-told c [] mild = refl
all-told c (m ∷ cs) mild = rw (mild-told c m mild.0) (all-told c cs mild.1)

-- ---- cases

-- of q no end is told, and no talk of it at a port outside is gone; or all that is told is its end, and it is gone
pub data EndCase (c d : World) (q : Path) (ts : List Told) : Type 0 where
  Kept : ((port : Ptr) → IsTold (ToldEnd q port) ts → ⊥) → ((talk : Talk) → talk_at c q ≡ Some talk → is_out talk.port ≡ true → talk_at d q ≡ None → ⊥) →
      EndCase c d q ts
  Lost : ts ≡ ends_told q (talk_at c q) → talk_at d q ≡ None → EndCase c d q ts

-- of q no fault is told, and none is new; or all that is told is its fault, and it is new
pub data FaultCase (c d : World) (q : Path) (ts : List Told) : Type 0 where
  Quiet : ((port : Ptr) (page : ℕ) (write : Bool) → IsTold (ToldFault q port page write) ts → ⊥) → (fault_at c q ≡ None → fault_at d q ≡ None) →
      FaultCase c d q ts
  Raised : (fault : Fault) → ts ≡ told_fault q fault → fault.taker ≡ None → fault_at c q ≡ None → fault_at d q ≡ Some fault → FaultCase c d q ts

none_of : {A : Type 0} (a : A) (o : Option A) → o ≡ Some a → o ≡ None → ⊥
none_of a o h g = cc

-- where the face of q stays
kept-end : (c d : World) (q : Path) (ts : List Told) → ((port : Ptr) → IsTold (ToldEnd q port) ts → ⊥) → face (d.body q) ≡ face (c.body q) → EndCase c d q ts
kept-end c d q ts none same = Kept none (λ talk was out gone. none_of talk (talk_at c q) was (same-talk d c q same gone))

quiet-fault : (c d : World) (q : Path) (ts : List Told) → ((port : Ptr) (page : ℕ) (write : Bool) → IsTold (ToldFault q port page write) ts → ⊥) →
    face (d.body q) ≡ face (c.body q) → FaultCase c d q ts
quiet-fault c d q ts none same = Quiet none (λ clean. same-fault d c q same ∙ clean)

-- ---- what is told of another thread

end_apart : (q y : Path) (port : Ptr) (o : Option Talk) → same_path q y ≡ false → IsTold (ToldEnd q port) (ends_told y o) → ⊥
end_apart q y port None apart h = h
end_apart q y port (Some talk) apart h = by (is_out talk.port) h
  where
    by : (t : Bool) → IsTold (ToldEnd q port) (if t then ToldEnd y talk.port ∷ [] else []) → ⊥
    by true (inl e) = let same : y ≡ q = cc in let on = same_path_refl q in let off : same_path q q ≡ false = rw same at apart in cc
    by true (inr h) = h
    by false h = h

fault_apart : (q y : Path) (port : Ptr) (page : ℕ) (write : Bool) (fault : Fault) → same_path q y ≡ false →
    IsTold (ToldFault q port page write) (told_fault y fault) → ⊥
fault_apart q y port page write fault apart h = by (is_out fault.port && is_none fault.taker) h
  where
    by : (t : Bool) → IsTold (ToldFault q port page write) (if t then ToldFault y fault.port fault.page fault.write ∷ [] else []) → ⊥
    by true (inl e) = let same : y ≡ q = cc in let on = same_path_refl q in let off : same_path q q ≡ false = rw same at apart in cc
    by true (inr h) = h
    by false h = h

end_no_fault : (q y : Path) (port : Ptr) (page : ℕ) (write : Bool) (o : Option Talk) → IsTold (ToldFault q port page write) (ends_told y o) → ⊥
end_no_fault q y port page write None h = h
end_no_fault q y port page write (Some talk) h = by (is_out talk.port) h
  where
    by : (t : Bool) → IsTold (ToldFault q port page write) (if t then ToldEnd y talk.port ∷ [] else []) → ⊥
    by true (inl e) = cc
    by true (inr h) = h
    by false h = h

fault_no_end : (q y : Path) (port : Ptr) (fault : Fault) → IsTold (ToldEnd q port) (told_fault y fault) → ⊥
fault_no_end q y port fault h = by (is_out fault.port && is_none fault.taker) h
  where
    by : (t : Bool) → IsTold (ToldEnd q port) (if t then ToldFault y fault.port fault.page fault.write ∷ [] else []) → ⊥
    by true (inl e) = cc
    by true (inr h) = h
    by false h = h

-- ---- the world after a change that isn't mild

thread_face : (o : Option Body) → is_some (and_then thread_of o) ≡ true → (t : Thread) × (o ≡ Some (Thread_of t))
thread_face (Some (Thread_of t)) h = (t, refl)
thread_face (Some (Mutex locked)) h = cc
thread_face (Some Cond) h = cc
thread_face (Some (Mapping m)) h = cc
thread_face (Some (Region r)) h = cc
thread_face (Some (Port set served)) h = cc
thread_face (Some Portset) h = cc
thread_face (Some (Space birth holder)) h = cc
thread_face (Some (Reference to)) h = cc
thread_face None h = cc

-- what an edit of a pointer leaves of the faces of others, and of what is no thread
pointer-face : (to : Ptr) (o : Option Body) → face (option_map (edited (SetPointer to)) o) ≡ face o
unfolding edited
pointer-face to None = refl
pointer-face to (Some (Thread_of t)) = refl
pointer-face to (Some (Mapping m)) = refl
pointer-face to (Some (Region r)) = refl
pointer-face to (Some (Reference old)) = refl
pointer-face to (Some (Mutex locked)) = refl
pointer-face to (Some Cond) = refl
pointer-face to (Some (Port set served)) = refl
pointer-face to (Some Portset) = refl
pointer-face to (Some (Space birth holder)) = refl

holder-face : (holder : Option Ptr) (o : Option Body) → face (option_map (edited (SetHolder holder)) o) ≡ face o
unfolding edited
holder-face holder None = refl
holder-face holder (Some (Thread_of t)) = refl
holder-face holder (Some (Space birth old)) = refl
holder-face holder (Some (Mapping m)) = refl
holder-face holder (Some (Region r)) = refl
holder-face holder (Some (Reference old)) = refl
holder-face holder (Some (Mutex locked)) = refl
holder-face holder (Some Cond) = refl
holder-face holder (Some (Port set served)) = refl
holder-face holder (Some Portset) = refl

-- the parts of a face that an edit of a talk or of a fault leaves
abbrev talk_of : Option Body → Option Talk
talk_of o = and_then (λ (t : Thread). t.talk) (and_then thread_of o)

abbrev fault_of : Option Body → Option Fault
fault_of o = and_then (λ (t : Thread). t.fault) (and_then thread_of o)

-- a talk goes by an edit only where that ends it
abbrev is_end : Edit → Bool
is_end (SetTalk None) = true
is_end other = false

thread-talk : (edit : Edit) (t : Thread) → is_mild_edit edit ≡ false → is_end edit ≡ false → talk_of (Some (edited edit (Thread_of t))) ≡ None → t.talk ≡ None
unfolding edited
thread-talk (SetPointer to) t heavy off h = h
thread-talk (SetHolder holder) t heavy off h = h
thread-talk (SetFault fault) t heavy off h = h
thread-talk (SetTaker taker) t heavy off h = h
thread-talk (SetTalk (Some talk)) t heavy off h = cc
thread-talk (SetTalk None) t heavy off h = cc
thread-talk (SetPeer peer) t heavy off h = by t.talk h
  where
    by : (o : Option Talk) → option_map (λ (talk : Talk). record talk { peer = peer }) o ≡ None → o ≡ None
    by None h = refl
    by (Some talk) h = cc
thread-talk (SetLocked locked) t heavy off h = cc
thread-talk edit t heavy off h = cc

talk-stays : (edit : Edit) (o : Option Body) → is_mild_edit edit ≡ false → is_end edit ≡ false → talk_of (option_map (edited edit) o) ≡ None → talk_of o ≡ None
talk-stays edit None heavy off h = refl
talk-stays edit (Some (Thread_of t)) heavy off h = thread-talk edit t heavy off h
talk-stays edit (Some (Mutex locked)) heavy off h = refl
talk-stays edit (Some Cond) heavy off h = refl
talk-stays edit (Some (Mapping m)) heavy off h = refl
talk-stays edit (Some (Region r)) heavy off h = refl
talk-stays edit (Some (Port set served)) heavy off h = refl
talk-stays edit (Some Portset) heavy off h = refl
talk-stays edit (Some (Space birth holder)) heavy off h = refl
talk-stays edit (Some (Reference to)) heavy off h = refl

-- an end leaves none
end-none : (o : Option Body) → talk_of (option_map (edited (SetTalk None)) o) ≡ None
unfolding edited
end-none None = refl
end-none (Some (Thread_of t)) = refl
end-none (Some (Mutex locked)) = refl
end-none (Some Cond) = refl
end-none (Some (Mapping m)) = refl
end-none (Some (Region r)) = refl
end-none (Some (Port set served)) = refl
end-none (Some Portset) = refl
end-none (Some (Space birth holder)) = refl
end-none (Some (Reference to)) = refl

-- a fault comes by an edit only where that raises it
abbrev is_raise : Edit → Bool
is_raise (SetFault (Some fault)) = true
is_raise other = false

thread-fault : (edit : Edit) (t : Thread) → is_mild_edit edit ≡ false → is_raise edit ≡ false → t.fault ≡ None →
    fault_of (Some (edited edit (Thread_of t))) ≡ None
unfolding edited
thread-fault (SetPointer to) t heavy off h = h
thread-fault (SetHolder holder) t heavy off h = h
thread-fault (SetTalk talk) t heavy off h = h
thread-fault (SetPeer peer) t heavy off h = h
thread-fault (SetFault None) t heavy off h = refl
thread-fault (SetFault (Some fault)) t heavy off h = cc
thread-fault (SetTaker taker) t heavy off h = rw h refl
thread-fault (SetLocked locked) t heavy off h = cc
thread-fault edit t heavy off h = cc

other-fault : (edit : Edit) (b : Body) → (kind_of b ≡ kinds.Thread → ⊥) → fault_of (Some b) ≡ None → fault_of (Some (edited edit b)) ≡ None
other-fault edit b other none = ap (λ (f : Face). f.fault) (other-face edit b other) ∙ none

fault-stays : (edit : Edit) (o : Option Body) → is_mild_edit edit ≡ false → is_raise edit ≡ false → fault_of o ≡ None →
    fault_of (option_map (edited edit) o) ≡ None
fault-stays edit None heavy off h = refl
fault-stays edit (Some (Thread_of t)) heavy off h = thread-fault edit t heavy off h
fault-stays edit (Some (Mutex locked)) heavy off h = other-fault edit (Mutex locked) (λ e. cc) refl
fault-stays edit (Some Cond) heavy off h = other-fault edit Cond (λ e. cc) refl
fault-stays edit (Some (Mapping m)) heavy off h = other-fault edit (Mapping m) (λ e. cc) refl
fault-stays edit (Some (Region r)) heavy off h = other-fault edit (Region r) (λ e. cc) refl
fault-stays edit (Some (Port set served)) heavy off h = other-fault edit (Port set served) (λ e. cc) refl
fault-stays edit (Some Portset) heavy off h = other-fault edit Portset (λ e. cc) refl
fault-stays edit (Some (Space birth holder)) heavy off h = other-fault edit (Space birth holder) (λ e. cc) refl
fault-stays edit (Some (Reference to)) heavy off h = other-fault edit (Reference to) (λ e. cc) refl

-- ---- what a death sweeps

swept-talk : (y q : Path) (o : Option Body) → talk_of (option_map (through (death_sweep y) q) o) ≡ and_then (talk_without y) (talk_of o)
swept-talk y q None = refl
swept-talk y q (Some (Thread_of t)) = refl
swept-talk y q (Some (Mutex locked)) = refl
swept-talk y q (Some Cond) = refl
swept-talk y q (Some (Mapping m)) = refl
swept-talk y q (Some (Region r)) = refl
swept-talk y q (Some (Port set served)) = refl
swept-talk y q (Some Portset) = refl
swept-talk y q (Some (Space birth holder)) = refl
swept-talk y q (Some (Reference to)) = refl

swept-fault : (y q : Path) (o : Option Body) → fault_of o ≡ None → fault_of (option_map (through (death_sweep y) q) o) ≡ None
swept-fault y q None h = refl
swept-fault y q (Some (Thread_of t)) h = rw h refl
swept-fault y q (Some (Mutex locked)) h = refl
swept-fault y q (Some Cond) h = refl
swept-fault y q (Some (Mapping m)) h = refl
swept-fault y q (Some (Region r)) h = refl
swept-fault y q (Some (Port set served)) h = refl
swept-fault y q (Some Portset) h = refl
swept-fault y q (Some (Space birth holder)) h = refl
swept-fault y q (Some (Reference to)) h = refl

-- a talk at a port outside stays, since nobody inside is at it
out_apart : (y : Path) (p : Ptr) → is_out p ≡ true → leads_to y p ≡ false
out_apart y (Out slot) out = refl
out_apart y Null out = cc
out_apart y Dead out = cc
out_apart y (At x) out = cc
out_apart y Outside out = cc
out_apart y Far out = cc

abbrev port_in : Option (Ptr × Peer) → Ptr
port_in (Some e) = e.0
port_in None = Null

abbrev peer_in : Option (Ptr × Peer) → Peer
peer_in (Some e) = e.1
peer_in None = Parked

swept-stays : (y : Path) (o : Option Talk) (port : Ptr) → option_map tie o ≡ Some (port, Server Outside) → is_out port ≡ true →
    and_then (talk_without y) o ≡ None → ⊥
swept-stays y None port tied out gone = cc
swept-stays y (Some talk) port tied out gone =
    let at : talk.port ≡ port = ap port_in tied in
    let peer : talk.peer ≡ Server Outside = ap peer_in tied in
    let stays : talk_without y talk ≡ Some talk = rw (at, peer, out_apart y port out) refl in
    none_of talk (talk_without y talk) stays gone

-- ---- one change that isn't mild, and mild ones after it

abbrev is_rename : Change → Bool
is_rename (Move x slot) = true
is_rename other = false

-- who is at a port outside is outside
abbrev pub HasOuterPeers : World → Type 0
HasOuterPeers c = (q : Path) (talk : Talk) → talk_at c q ≡ Some talk → is_out talk.port ≡ true → talk.peer ≡ Server Outside

module _ (c v : World) (outer : HasOuterPeers c) (agree : Agree v c) (cs : List Change) (mild : AreMild cs) (q : Path) where
  abbrev after : Change → World
  after h = apply_all cs (apply h v)

  later-talk : (h : Change) → talk_at (after h) q ≡ None → talk_at (apply h v) q ≡ None
  later-talk h gone = same-talk (after h) (apply h v) q (mild-all cs (apply h v) mild q) gone

  later-fault : (h : Change) → fault_at (after h) q ≡ fault_at (apply h v) q
  later-fault h = same-fault (after h) (apply h v) q (mild-all cs (apply h v) mild q)

  -- what is none afterwards was none before
  kept-by : (h : Change) (ts : List Told) → ((port : Ptr) → IsTold (ToldEnd q port) ts → ⊥) → (talk_at (apply h v) q ≡ None → talk_at v q ≡ None) →
      EndCase c (after h) q ts
  kept-by h ts none was = Kept none (λ talk there out gone. none_of talk (talk_at c q) there (same-talk v c q (agree q) (was (later-talk h gone))))

  quiet-by : (h : Change) (ts : List Told) → ((port : Ptr) (page : ℕ) (write : Bool) → IsTold (ToldFault q port page write) ts → ⊥) →
      (fault_at v q ≡ None → fault_at (apply h v) q ≡ None) → FaultCase c (after h) q ts
  quiet-by h ts none stays = Quiet none (λ clean. later-fault h ∙ stays (same-fault v c q (agree q) ∙ clean))

  -- gone for good
  lost-by : (h : Change) (ts : List Told) → ts ≡ ends_told q (talk_at c q) → talk_at (apply h v) q ≡ None → EndCase c (after h) q ts
  lost-by h ts told gone = Lost told (talk_none (talk_at (after h) q) (ap (λ (f : Face). f.talk) (mild-all cs (apply h v) mild q) ∙ ap (option_map tie) gone))

  -- ---- edits

  altered-talk : (y : Path) (edit : Edit) → is_mild_edit edit ≡ false → is_end edit ≡ false → talk_at (apply (Alter y edit) v) q ≡ None → talk_at v q ≡ None
  unfolding apply
  altered-talk y edit heavy off = by (same_path q y)
    where
      by : (t : Bool) → talk_of (if t then option_map (edited edit) (v.body q) else v.body q) ≡ None → talk_of (v.body q) ≡ None
      by true h = talk-stays edit (v.body q) heavy off h
      by false h = h

  altered-fault : (y : Path) (edit : Edit) → is_mild_edit edit ≡ false → is_raise edit ≡ false → fault_at v q ≡ None →
      fault_at (apply (Alter y edit) v) q ≡ None
  unfolding apply
  altered-fault y edit heavy off h = by (same_path q y)
    where
      by : (t : Bool) → fault_of (if t then option_map (edited edit) (v.body q) else v.body q) ≡ None
      by true = fault-stays edit (v.body q) heavy off h
      by false = h

  ended : (y : Path) → EndCase c (after (Alter y (SetTalk None))) q (ends_told y (talk_at c y))
  unfolding apply
  ended y = by (same_path q y) refl
    where
      at : (t : Bool) → same_path q y ≡ t → talk_of (if t then option_map (edited (SetTalk None)) (v.body q) else v.body q) ≡ None →
          talk_at (apply (Alter y (SetTalk None)) v) q ≡ None
      at t e h = rw e h

      apart : same_path q y ≡ false → talk_at (apply (Alter y (SetTalk None)) v) q ≡ None → talk_at v q ≡ None
      apart e h = rw e at h

      by : (t : Bool) → same_path q y ≡ t → EndCase c (after (Alter y (SetTalk None))) q (ends_told y (talk_at c y))
      by true e = let same = same_path_eq q y e in
          lost-by (Alter y (SetTalk None)) (ends_told y (talk_at c y)) (rw (← same) refl) (at true e (end-none (v.body q)))
      by false e = kept-by (Alter y (SetTalk None)) (ends_told y (talk_at c y)) (λ port. end_apart q y port (talk_at c y) e) (apart e)

  raised : (y : Path) (fault : Fault) → IsFaultless c y → fault.taker ≡ None → FaultCase c (after (Alter y (SetFault (Some fault)))) q (told_fault y fault)
  unfolding apply edited
  raised y fault clean untaken = by (same_path q y) refl
    where
      apart : same_path q y ≡ false → fault_at v q ≡ None → fault_at (apply (Alter y (SetFault (Some fault))) v) q ≡ None
      apart e none = rw e none

      here : q ≡ y → same_path q y ≡ true → fault_at (apply (Alter y (SetFault (Some fault))) v) q ≡ Some fault
      here same e =
          let there : is_some (thread_at c q) ≡ true = rw same (ap is_some clean.there) in
          let live : is_some (thread_at v q) ≡ true = ap (λ (f : Face). f.thread) (agree q) ∙ there in
          let body = thread_face (v.body q) live in
          rw (e, body.1) refl

      none : q ≡ y → fault_at c q ≡ None
      none same = rw (same, clean.there) clean.none

      by : (t : Bool) → same_path q y ≡ t → FaultCase c (after (Alter y (SetFault (Some fault)))) q (told_fault y fault)
      by true e = let same = same_path_eq q y e in
          Raised fault (rw (← same) refl) untaken (none same) (later-fault (Alter y (SetFault (Some fault))) ∙ here same e)
      by false e = quiet-by (Alter y (SetFault (Some fault))) (told_fault y fault) (λ port page write. fault_apart q y port page write fault e) (apart e)

  -- ---- what is made and destroyed

  no_told : (port : Ptr) → IsTold (ToldEnd q port) [] → ⊥
  no_told port h = h

  no_fault_told : (port : Ptr) (page : ℕ) (write : Bool) → IsTold (ToldFault q port page write) [] → ⊥
  no_fault_told port page write h = h

  -- what is new stands where nothing stood, and is bare
  bare_parts : (b : Body) → is_bare b ≡ true → (talk_of (Some b) ≡ None) × (fault_of (Some b) ≡ None)
  bare_parts (Thread_of t) bare = let both = and_parts (is_none t.talk) (is_none t.fault) bare in (nothing t.talk both.0, nothing t.fault both.1)
    where
      nothing : {A : Type 0} (o : Option A) → is_none o ≡ true → o ≡ None
      nothing None h = refl
      nothing (Some a) h = cc
  bare_parts (Mutex locked) bare = (refl, refl)
  bare_parts b bare = (refl, refl)

  put : (t : Bool) (b : Body) → is_bare b ≡ true → fault_of (v.body q) ≡ None → fault_of (if t then Some b else v.body q) ≡ None
  put true b bare h = (bare_parts b bare).1
  put false b bare h = h

  -- where something is made nothing had been
  vacant : (y : Path) → c.body y ≡ None → (t : Bool) → same_path q y ≡ t → (b : Body) → talk_of (if t then Some b else v.body q) ≡ None → talk_at v q ≡ None
  vacant y empty false e b h = h
  vacant y empty true e b h =
      let same = same_path_eq q y e in
      let none : talk_at c q ≡ None = rw (same, empty) refl in
      same-talk c v q (sym (agree q)) none

  made-end : (y : Path) (b : Body) → c.body y ≡ None → EndCase c (after (Make y b)) q []
  unfolding apply
  made-end y b empty = kept-by (Make y b) [] no_told (vacant y empty (same_path q y) refl b)

  made-fault : (y : Path) (b : Body) → is_bare b ≡ true → FaultCase c (after (Make y b)) q []
  unfolding apply
  made-fault y b bare = quiet-by (Make y b) [] no_fault_told (put (same_path q y) b bare)

  space-end : (y : Path) (holder : Option Ptr) → c.body y ≡ None → EndCase c (after (MakeSpace y holder)) q []
  unfolding apply
  space-end y holder empty = kept-by (MakeSpace y holder) [] no_told (vacant y empty (same_path q y) refl (Space v.next holder))

  space-fault : (y : Path) (holder : Option Ptr) → FaultCase c (after (MakeSpace y holder)) q []
  unfolding apply
  space-fault y holder = quiet-by (MakeSpace y holder) [] no_fault_told (put (same_path q y) (Space v.next holder) refl)

  killed-end : (y : Path) → EndCase c (after (Kill y)) q (ends_told y (talk_at c y))
  unfolding apply
  killed-end y = by (same_path q y) refl
    where
      here : same_path q y ≡ true → talk_at (apply (Kill y) v) q ≡ None
      here e = rw e refl

      swept : same_path q y ≡ false → talk_at (apply (Kill y) v) q ≡ None → and_then (talk_without y) (talk_at v q) ≡ None
      swept e gone = sym (swept-talk y q (v.body q)) ∙ (rw e at gone)

      stays : same_path q y ≡ false → (talk : Talk) → talk_at c q ≡ Some talk → is_out talk.port ≡ true → talk_at (after (Kill y)) q ≡ None → ⊥
      stays e talk there out gone =
          let peer = outer q talk there out in
          let was : option_map tie (talk_at c q) ≡ Some (talk.port, Server Outside) = rw (there, peer) refl in
          let tied : option_map tie (talk_at v q) ≡ Some (talk.port, Server Outside) = ap (λ (f : Face). f.talk) (agree q) ∙ was in
          swept-stays y (talk_at v q) talk.port tied out (swept e (later-talk (Kill y) gone))

      by : (t : Bool) → same_path q y ≡ t → EndCase c (after (Kill y)) q (ends_told y (talk_at c y))
      by true e = let same = same_path_eq q y e in lost-by (Kill y) (ends_told y (talk_at c y)) (rw (← same) refl) (here e)
      by false e = Kept (λ port. end_apart q y port (talk_at c y) e) (stays e)

  killed-fault : (y : Path) → FaultCase c (after (Kill y)) q (ends_told y (talk_at c y))
  unfolding apply
  killed-fault y = quiet-by (Kill y) (ends_told y (talk_at c y)) (λ port page write. end_no_fault q y port page write (talk_at c y)) (by (same_path q y))
    where
      by : (t : Bool) → fault_at v q ≡ None → fault_of (if t then None else option_map (through (death_sweep y) q) (v.body q)) ≡ None
      by true h = refl
      by false h = swept-fault y q (v.body q) h

  -- ---- all of them

  heavy-end : (h : Change) → is_mild h ≡ false → is_rename h ≡ false → MakesAnew c h → EndCase c (after h) q (told_by_change c h)
  heavy-end (Alter y (SetTalk None)) heavy still anew = ended y
  heavy-end (Alter y (SetTalk (Some talk))) heavy still anew = kept-by (Alter y (SetTalk (Some talk))) [] no_told
      (altered-talk y (SetTalk (Some talk)) refl refl)
  heavy-end (Alter y (SetPeer peer)) heavy still anew = kept-by (Alter y (SetPeer peer)) [] no_told (altered-talk y (SetPeer peer) refl refl)
  heavy-end (Alter y (SetPointer to)) heavy still anew = kept-by (Alter y (SetPointer to)) [] no_told (altered-talk y (SetPointer to) refl refl)
  heavy-end (Alter y (SetHolder holder)) heavy still anew = kept-by (Alter y (SetHolder holder)) [] no_told (altered-talk y (SetHolder holder) refl refl)
  heavy-end (Alter y (SetTaker taker)) heavy still anew = kept-by (Alter y (SetTaker taker)) [] no_told (altered-talk y (SetTaker taker) refl refl)
  heavy-end (Alter y (SetFault None)) heavy still anew = kept-by (Alter y (SetFault None)) [] no_told (altered-talk y (SetFault None) refl refl)
  heavy-end (Alter y (SetFault (Some fault))) heavy still anew =
      kept-by (Alter y (SetFault (Some fault))) (told_fault y fault) (λ port. fault_no_end q y port fault) (altered-talk y (SetFault (Some fault)) refl refl)
  heavy-end (Alter y (SetLocked locked)) heavy still anew = cc
  heavy-end (Alter y edit) heavy still anew = cc
  heavy-end (Make y body) heavy still anew = made-end y body anew.0
  heavy-end (MakeSpace y holder) heavy still anew = space-end y holder anew
  heavy-end (Kill y) heavy still anew = killed-end y
  heavy-end (Move y slot) heavy still anew = cc
  heavy-end (PutPage space page words) heavy still anew = cc
  heavy-end (DropPage space page) heavy still anew = cc

  heavy-fault : (h : Change) → is_mild h ≡ false → is_rename h ≡ false → MakesAnew c h → FaultCase c (after h) q (told_by_change c h)
  heavy-fault (Alter y (SetTalk None)) heavy still anew =
      quiet-by (Alter y (SetTalk None)) (ends_told y (talk_at c y)) (λ port page write. end_no_fault q y port page write (talk_at c y))
      (altered-fault y (SetTalk None) refl refl)
  heavy-fault (Alter y (SetTalk (Some talk))) heavy still anew =
      quiet-by (Alter y (SetTalk (Some talk))) [] no_fault_told (altered-fault y (SetTalk (Some talk)) refl refl)
  heavy-fault (Alter y (SetPeer peer)) heavy still anew = quiet-by (Alter y (SetPeer peer)) [] no_fault_told (altered-fault y (SetPeer peer) refl refl)
  heavy-fault (Alter y (SetPointer to)) heavy still anew = quiet-by (Alter y (SetPointer to)) [] no_fault_told (altered-fault y (SetPointer to) refl refl)
  heavy-fault (Alter y (SetHolder holder)) heavy still anew = quiet-by (Alter y (SetHolder holder)) [] no_fault_told
      (altered-fault y (SetHolder holder) refl refl)
  heavy-fault (Alter y (SetTaker taker)) heavy still anew = quiet-by (Alter y (SetTaker taker)) [] no_fault_told (altered-fault y (SetTaker taker) refl refl)
  heavy-fault (Alter y (SetFault None)) heavy still anew = quiet-by (Alter y (SetFault None)) [] no_fault_told (altered-fault y (SetFault None) refl refl)
  heavy-fault (Alter y (SetFault (Some fault))) heavy still anew = raised y fault anew.0 anew.1
  heavy-fault (Alter y (SetLocked locked)) heavy still anew = cc
  heavy-fault (Alter y edit) heavy still anew = cc
  heavy-fault (Make y body) heavy still anew = made-fault y body anew.1
  heavy-fault (MakeSpace y holder) heavy still anew = space-fault y holder
  heavy-fault (Kill y) heavy still anew = killed-fault y
  heavy-fault (Move y slot) heavy still anew = cc
  heavy-fault (PutPage space page words) heavy still anew = cc
  heavy-fault (DropPage space page) heavy still anew = cc

-- ---- lists of changes

still-first : (m : Change) (cs : List Change) → renames (m ∷ cs) ≡ false → (is_rename m ≡ false) × (renames cs ≡ false)
still-first (Move x slot) cs h = cc
still-first (Alter x edit) cs h = (refl, h)
still-first (Make x body) cs h = (refl, h)
still-first (MakeSpace x holder) cs h = (refl, h)
still-first (Kill x) cs h = (refl, h)
still-first (PutPage space page words) cs h = (refl, h)
still-first (DropPage space page) cs h = (refl, h)

module _ (c : World) (outer : HasOuterPeers c) (q : Path) where
  pub ends_case : (cs : List Change) (v : World) → Agree v c → TouchOnce c cs → renames cs ≡ false →
      EndCase c (apply_all cs v) q (flat_map (told_by_change c) cs)
  unfolding apply_all
  ends_case [] v agree once still = kept-end c v q [] (λ port h. h) (agree q)
  ends_case (m ∷ cs) v agree once still = by (is_mild m) refl once (still-first m cs still) (λ same rest stays. ends_case cs (apply m v) same rest stays)
    where
      by : (t : Bool) → is_mild m ≡ t → EitherOf t (TouchOnce c cs) (MakesAnew c m × AreMild cs) → (is_rename m ≡ false) × (renames cs ≡ false) →
          (Agree (apply m v) c → TouchOnce c cs → renames cs ≡ false → EndCase c (apply_all cs (apply m v)) q (flat_map (told_by_change c) cs)) →
          EndCase c (apply_all cs (apply m v)) q (told_by_change c m ++ flat_map (told_by_change c) cs)
      by true e once still rest = rw (mild-told c m e) (rest (mild-agree v m e c agree) once still.1)
      by false e once still rest = rw (all-told c cs once.1, append-nil (told_by_change c m)) (heavy-end c v outer agree cs once.1 q m e still.0 once.0)

  pub faults_case : (cs : List Change) (v : World) → Agree v c → TouchOnce c cs → renames cs ≡ false →
      FaultCase c (apply_all cs v) q (flat_map (told_by_change c) cs)
  unfolding apply_all
  faults_case [] v agree once still = quiet-fault c v q [] (λ port page write h. h) (agree q)
  faults_case (m ∷ cs) v agree once still = by (is_mild m) refl once (still-first m cs still) (λ same rest stays. faults_case cs (apply m v) same rest stays)
    where
      by : (t : Bool) → is_mild m ≡ t → EitherOf t (TouchOnce c cs) (MakesAnew c m × AreMild cs) → (is_rename m ≡ false) × (renames cs ≡ false) →
          (Agree (apply m v) c → TouchOnce c cs → renames cs ≡ false → FaultCase c (apply_all cs (apply m v)) q (flat_map (told_by_change c) cs)) →
          FaultCase c (apply_all cs (apply m v)) q (told_by_change c m ++ flat_map (told_by_change c) cs)
      by true e once still rest = rw (mild-told c m e) (rest (mild-agree v m e c agree) once still.1)
      by false e once still rest = rw (all-told c cs once.1, append-nil (told_by_change c m)) (heavy-fault c v outer agree cs once.1 q m e still.0 once.0)
