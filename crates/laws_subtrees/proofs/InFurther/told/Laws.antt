-- What the outside is told is exact.
use Rattle.std.proofs.Common.{◌≡◌, ◌⊎◌, inl, inr, ℕ, Bool, true, false, if◌then◌else◌, ◌&&◌, is_none, List, [], ◌∷◌, ◌++◌, Option, Some, None, option_map, refl}
use Rattle.std.proofs.Common.{sym, ap, subst, ◌∙◌, append-nil}
use Rattle.std.specs.List.{flat_map}
use Rattle.std.proofs.lemmas.Bool.{and_parts}
use Rattle.fk_model.specs.Places.{Path, Ptr}
use Rattle.fk_model.specs.Places.Ptr.{Outside}
use Rattle.fk_model.specs.Objects.{Peer, Talk, Fault, Thread, Body, thread_of, and_then}
use Rattle.fk_model.specs.Objects.Peer.{Server, Parked}
use Rattle.fk_model.specs.Objects.Body.{Mutex, Cond, Mapping, Region, Port, Portset, Space, Thread_of, Reference}
use Rattle.fk_model.specs.World.{World, Change, apply_all}
use Rattle.fk_model.specs.World.Change.{Alter, Make, MakeSpace, Kill, Move, PutPage, DropPage}
use Rattle.fk_model.specs.World.Edit.{SetTalk, SetFault}
use Rattle.fk_model.specs.Searches.{talk_at}
use Rattle.fk_model.specs.Outcomes.{Said, Outcome, listed}
use Rattle.fk_model.specs.Outcomes.Outcome.{Refused, Waits, Goes}
use Rattle.fk_model.specs.Outcomes.Said.{Words, Passed}
use Rattle.fk_model.specs.Cut.{is_out, seen_by, unheld}
use Rattle.fk_model.specs.Further.{Onward, Told, onward_row, ends_told, told_fault, told_by_change, told_by_said, told_by, OnwardTo, carried_by}
use Rattle.fk_model.specs.Further.Onward.{Own, ByOthers}
use Rattle.fk_model.specs.Further.Told.{ToldWords, ToldOver, ToldEnd, ToldFault}
use Rattle.fk_model.specs.Seen.{outcome_said}
use Rattle.laws_subtrees.specs.Cut.Likeness.{seeing, IsCutWorld}
use Rattle.laws_moves.specs.Frozen.Once.{is_mild, AreMild, MakesAnew, EitherOf, TouchOnce}
use Rattle.laws_subtrees.specs.Further.Told.{IsTold, IsTalkLost, IsFaultRaised, renames, EndsAreTold, FaultsAreTold, RenamesTellNoEnds, WordsAreTold}
use Rattle.laws_subtrees.specs.Further.Told.{OversAreTold}
use Rattle.laws_subtrees.specs.Further.Told.{TouchesTellNothing}
use Rattle.laws_subtrees.proofs.InFurther.told.Own.{own-once}
use Rattle.laws_subtrees.proofs.InFurther.told.Exact.{EndCase, FaultCase, HasOuterPeers, told-either, told-first, all-told, mild-told, ends_case, faults_case}
use Rattle.laws_subtrees.proofs.InFurther.told.Exact.EndCase.{Kept, Lost}
use Rattle.laws_subtrees.proofs.InFurther.told.Exact.FaultCase.{Quiet, Raised}

-- ---- a subtree that is seen alone

-- the peer of a thread's talk
abbrev peer_of_talk : Option Talk → Peer
peer_of_talk None = Parked
peer_of_talk (Some talk) = talk.peer

abbrev peer_of : Option Body → Peer
peer_of o = peer_of_talk (and_then (λ (t : Thread). t.talk) (and_then thread_of o))

unheld-thread : (q : Path) (t : Thread) → unheld q (Thread_of t) ≡ Thread_of t
unheld-thread [] t = refl
unheld-thread (k ∷ q) t = refl

outer_peers : (c : World) → IsCutWorld c → HasOuterPeers c
unfolding seen_by
outer_peers c world q talk there out = by (c.body q) there itself
  where
    itself : c.body q ≡ option_map (λ b. unheld q (seen_by (seeing (λ p. p)) b)) (c.body q)
    itself = world.bodies q ∙ ap (λ (x : Path). option_map (λ b. unheld q (seen_by (seeing (λ p. p)) b)) (c.body x)) (append-nil q)

    thread : (t : Thread) → t.talk ≡ Some talk → Some (Thread_of t) ≡ Some (unheld q (seen_by (seeing (λ p. p)) (Thread_of t))) → talk.peer ≡ Server Outside
    thread t at same =
        let seen : Some (Thread_of t) ≡ Some (seen_by (seeing (λ p. p)) (Thread_of t)) = same ∙ ap Some (unheld-thread q _) in
        let peers = ap peer_of seen in
        let both : talk.peer ≡ peer_of_talk (and_then (seeing (λ p. p)).talk (Some talk)) = rw at at peers in
        rw out at both

    by : (o : Option Body) → and_then (λ (t : Thread). t.talk) (and_then thread_of o) ≡ Some talk →
        o ≡ option_map (λ b. unheld q (seen_by (seeing (λ p. p)) b)) o → talk.peer ≡ Server Outside
    by (Some (Thread_of t)) h same = thread t h same
    by (Some (Mutex locked)) h same = cc
    by (Some Cond) h same = cc
    by (Some (Mapping m)) h same = cc
    by (Some (Region r)) h same = cc
    by (Some (Port set served)) h same = cc
    by (Some Portset) h same = cc
    by (Some (Space birth holder)) h same = cc
    by (Some (Reference to)) h same = cc
    by None h same = cc

-- ---- what a move tells, and what it leaves

of_onward : (c d : World) (m : Onward) (told : List Told) (o : Outcome) → OnwardTo c m o told d →
    (told ≡ told_by c m (listed o) (outcome_said o)) × (d ≡ apply_all (listed o) c)
of_onward c d m told (Goes changes said) h = (h.1, h.2)
of_onward c d m told (Refused status) h = absurd h
of_onward c d m told Waits h = absurd h

said_no_end : (w : World) (x : Path) (said : Said) (q : Path) (port : Ptr) → IsTold (ToldEnd q port) (told_by_said w x said) → ⊥
said_no_end w x (Words at words) q port (inl e) = cc
said_no_end w x (Words at words) q port (inr h) = h
said_no_end w x (Passed at) q port (inl e) = cc
said_no_end w x (Passed at) q port (inr h) = h
said_no_end w x said q port h = h

said_no_fault : (w : World) (x : Path) (said : Said) (q : Path) (port : Ptr) (page : ℕ) (write : Bool) → IsTold (ToldFault q port page write)
    (told_by_said w x said) → ⊥
said_no_fault w x (Words at words) q port page write (inl e) = cc
said_no_fault w x (Words at words) q port page write (inr h) = h
said_no_fault w x (Passed at) q port page write (inl e) = cc
said_no_fault w x (Passed at) q port page write (inr h) = h
said_no_fault w x said q port page write h = h

-- ---- ends

-- an end that is told is that of a talk outside
record EndOf (q : Path) (port : Ptr) (o : Option Talk) : Type 0 where
  talk : Talk
  was : o ≡ Some talk
  at : talk.port ≡ port
  outward : is_out port ≡ true

abbrev end_told : Told → Ptr
end_told (ToldEnd q port) = port
end_told (ToldWords q port words) = port
end_told (ToldOver q port carried) = port
end_told (ToldFault q port page write) = port

of_ends : (q : Path) (port : Ptr) (o : Option Talk) → IsTold (ToldEnd q port) (ends_told q o) → EndOf q port o
of_ends q port None h = absurd h
of_ends q port (Some talk) h = by (is_out talk.port) refl h
  where
    by : (t : Bool) → is_out talk.port ≡ t → IsTold (ToldEnd q port) (if t then ToldEnd q talk.port ∷ [] else []) → EndOf q port (Some talk)
    by true e (inl same) = let at : talk.port ≡ port = ap end_told same in record { talk = talk; was = refl; at = at; outward = rw at at e }
    by true e (inr h) = absurd h
    by false e h = absurd h

in_ends : (q : Path) (port : Ptr) (talk : Talk) → talk.port ≡ port → is_out port ≡ true → IsTold (ToldEnd q port) (ends_told q (Some talk))
in_ends q port talk at out = rw (at, out) (inl refl)

module _ (c : World) (q : Path) (port : Ptr) (x : Path) (said : Said) where
  ends_exact : (d : World) (ts : List Told) → EndCase c d q ts →
      (IsTold (ToldEnd q port) (ts ++ told_by_said c x said) → IsTalkLost c d q port) × (IsTalkLost c d q port →
      IsTold (ToldEnd q port) (ts ++ told_by_said c x said))
  ends_exact d ts (Kept none stays) = (λ h. absurd (forth (told-either _ ts (told_by_said c x said) h)), λ lost. absurd (back lost))
    where
      forth : IsTold (ToldEnd q port) ts ⊎ IsTold (ToldEnd q port) (told_by_said c x said) → ⊥
      forth (inl h) = none port h
      forth (inr h) = said_no_end c x said q port h

      back : IsTalkLost c d q port → ⊥
      back lost = stays lost.talk lost.was (rw lost.at lost.outward) lost.gone
  ends_exact d ts (Lost told gone) = (λ h. forth (told-either _ ts (told_by_said c x said) h), λ lost. told-first _ ts (told_by_said c x said) (back lost))
    where
      forth : IsTold (ToldEnd q port) ts ⊎ IsTold (ToldEnd q port) (told_by_said c x said) → IsTalkLost c d q port
      forth (inl h) =
          let end = of_ends q port (talk_at c q) (subst (λ (ts : List Told). IsTold (ToldEnd q port) ts) told h) in
          record { talk = end.talk; was = end.was; at = end.at; outward = end.outward; gone = gone }
      forth (inr h) = absurd (said_no_end c x said q port h)

      back : IsTalkLost c d q port → IsTold (ToldEnd q port) ts
      back lost = rw (told, lost.was) (in_ends q port lost.talk lost.at lost.outward)

pub ends_are_told : EndsAreTold
ends_are_told c d x pick taken told world onward still q port =
    let o = onward_row c (Own x pick taken) in
    let its = of_onward c d (Own x pick taken) told o onward in
    let one = ends_case c (outer_peers c world) q (listed o) c (λ q. refl) (own-once c taken x pick world.top) still in
    rw (its.0, its.1) (ends_exact c q port x (outcome_said o) (apply_all (listed o) c) (flat_map (told_by_change c) (listed o)) one)

-- ---- faults

record FaultOf (q : Path) (port : Ptr) (page : ℕ) (write : Bool) (fault : Fault) : Type 0 where
  is : record { page = page; write = write; port = port; taker = None } ≡ fault
  outward : is_out port ≡ true

abbrev fault_of_told : Told → Fault
fault_of_told (ToldFault q port page write) = record { page = page; write = write; port = port; taker = None }
fault_of_told other = record { page = 0; write = false; port = Outside; taker = None }

of_faults : (q : Path) (port : Ptr) (page : ℕ) (write : Bool) (fault : Fault) → fault.taker ≡ None → IsTold (ToldFault q port page write) (told_fault q fault) →
    FaultOf q port page write fault
of_faults q port page write fault clean h = by (is_out fault.port && is_none fault.taker) refl h
  where
    open_fault : record fault { taker = None } ≡ fault
    open_fault = rw (← clean) refl

    by : (t : Bool) → (is_out fault.port && is_none fault.taker) ≡ t →
        IsTold (ToldFault q port page write) (if t then ToldFault q fault.port fault.page fault.write ∷ [] else []) → FaultOf q port page write fault
    by true e (inl same) =
        let is = sym (ap fault_of_told same) ∙ open_fault in
        let out = (and_parts (is_out fault.port) _ e).0 in
        record { is = is; outward = ap (λ (f : Fault). is_out f.port) is ∙ out }
    by true e (inr h) = absurd h
    by false e h = absurd h

in_faults : (q : Path) (port : Ptr) (page : ℕ) (write : Bool) → is_out port ≡ true →
    IsTold (ToldFault q port page write) (told_fault q (record { page = page; write = write; port = port; taker = None }))
in_faults q port page write out = rw out (inl refl)

module _ (c : World) (q : Path) (port : Ptr) (page : ℕ) (write : Bool) (x : Path) (said : Said) where
  faults_exact : (d : World) (ts : List Told) → FaultCase c d q ts →
      (IsTold (ToldFault q port page write) (ts ++ told_by_said c x said) → IsFaultRaised c d q port page write)
      × (IsFaultRaised c d q port page write → IsTold (ToldFault q port page write) (ts ++ told_by_said c x said))
  faults_exact d ts (Quiet none stays) = (λ h. absurd (forth (told-either _ ts (told_by_said c x said) h)), λ raised. absurd (back raised))
    where
      forth : IsTold (ToldFault q port page write) ts ⊎ IsTold (ToldFault q port page write) (told_by_said c x said) → ⊥
      forth (inl h) = none port page write h
      forth (inr h) = said_no_fault c x said q port page write h

      back : IsFaultRaised c d q port page write → ⊥
      back raised = let gone = stays raised.none in let there = raised.raised in cc
  faults_exact d ts (Raised fault told untaken none there) =
      (λ h. forth (told-either _ ts (told_by_said c x said) h), λ raised. told-first _ ts (told_by_said c x said) (back raised))
    where
      forth : IsTold (ToldFault q port page write) ts ⊎ IsTold (ToldFault q port page write) (told_by_said c x said) → IsFaultRaised c d q port page write
      forth (inl h) =
          let its = of_faults q port page write fault untaken (subst (λ (ts : List Told). IsTold (ToldFault q port page write) ts) told h) in
          record { outward = its.outward; none = none; raised = there ∙ ap Some (sym its.is) }
      forth (inr h) = absurd (said_no_fault c x said q port page write h)

      same_some : (f g : Fault) → Some f ≡ Some g → f ≡ g
      same_some f g h = cc

      back : IsFaultRaised c d q port page write → IsTold (ToldFault q port page write) ts
      back raised =
          let is = same_some fault (record { page = page; write = write; port = port; taker = None }) (sym there ∙ raised.raised) in
          rw (told, is) (in_faults q port page write raised.outward)

pub faults_are_told : FaultsAreTold
faults_are_told c d x pick taken told world onward still q port page write =
    let o = onward_row c (Own x pick taken) in
    let its = of_onward c d (Own x pick taken) told o onward in
    let one = faults_case c (outer_peers c world) q (listed o) c (λ q. refl) (own-once c taken x pick world.top) still in
    rw (its.0, its.1) (faults_exact c q port page write x (outcome_said o) (apply_all (listed o) c) (flat_map (told_by_change c) (listed o)) one)

-- ---- renames

-- mild changes rename nothing
mild_still : (cs : List Change) → AreMild cs → renames cs ≡ true → ⊥
mild_still [] mild h = cc
mild_still (Alter x e ∷ cs) mild h = mild_still cs mild.1 h
mild_still (PutPage s page words ∷ cs) mild h = mild_still cs mild.1 h
mild_still (DropPage s page ∷ cs) mild h = mild_still cs mild.1 h
mild_still (Make x b ∷ cs) mild h = let off = mild.0 in cc
mild_still (MakeSpace x o ∷ cs) mild h = let off = mild.0 in cc
mild_still (Kill x ∷ cs) mild h = let off = mild.0 in cc
mild_still (Move x k ∷ cs) mild h = let off = mild.0 in cc

-- with a rename all else is mild
rename_alone : (c : World) (cs : List Change) → TouchOnce c cs → renames cs ≡ true → flat_map (told_by_change c) cs ≡ []
rename_alone c [] once h = cc
rename_alone c (Move y slot ∷ cs) once h = all-told c cs once.1
rename_alone c (Alter y edit ∷ cs) once h = by (is_mild (Alter y edit)) refl once (λ rest. rename_alone c cs rest h)
  where
    by : (t : Bool) → is_mild (Alter y edit) ≡ t → EitherOf t (TouchOnce c cs) (MakesAnew c (Alter y edit) × AreMild cs) →
        (TouchOnce c cs → flat_map (told_by_change c) cs ≡ []) → flat_map (told_by_change c) (Alter y edit ∷ cs) ≡ []
    by true e once rest = rw (mild-told c (Alter y edit) e) (rest once)
    by false e once rest = absurd (mild_still cs once.1 h)
rename_alone c (Make y b ∷ cs) once h = absurd (mild_still cs once.1 h)
rename_alone c (MakeSpace y o ∷ cs) once h = absurd (mild_still cs once.1 h)
rename_alone c (Kill y ∷ cs) once h = absurd (mild_still cs once.1 h)
rename_alone c (PutPage s page words ∷ cs) once h = rename_alone c cs once h
rename_alone c (DropPage s page ∷ cs) once h = rename_alone c cs once h

pub renames_tell_no_ends : RenamesTellNoEnds
renames_tell_no_ends c d x pick taken told world onward moved q port page write =
    let o = onward_row c (Own x pick taken) in
    let its = of_onward c d (Own x pick taken) told o onward in
    let none = rename_alone c (listed o) (own-once c taken x pick world.top) moved in
    let said : told ≡ told_by_said c x (outcome_said o) = its.0 ∙ ap (λ (ts : List Told). ts ++ told_by_said c x (outcome_said o)) none in
    (λ h. said_no_end c x (outcome_said o) q port (rw said at h), λ h. said_no_fault c x (outcome_said o) q port page write (rw said at h))

-- ---- words and overs

-- ends and faults are told by changes, words and overs aren't
abbrev is_of_change : Told → Bool
is_of_change (ToldEnd q port) = true
is_of_change (ToldFault q port page write) = true
is_of_change (ToldWords q port words) = false
is_of_change (ToldOver q port carried) = false

ends_of_change : (t : Told) (y : Path) (o : Option Talk) → IsTold t (ends_told y o) → is_of_change t ≡ true
ends_of_change t y None h = absurd h
ends_of_change t y (Some talk) h = by (is_out talk.port) h
  where
    by : (b : Bool) → IsTold t (if b then ToldEnd y talk.port ∷ [] else []) → is_of_change t ≡ true
    by true (inl e) = sym (ap is_of_change e)
    by true (inr h) = absurd h
    by false h = absurd h

fault_of_change : (t : Told) (y : Path) (fault : Fault) → IsTold t (told_fault y fault) → is_of_change t ≡ true
fault_of_change t y fault h = by (is_out fault.port && is_none fault.taker) h
  where
    by : (b : Bool) → IsTold t (if b then ToldFault y fault.port fault.page fault.write ∷ [] else []) → is_of_change t ≡ true
    by true (inl e) = sym (ap is_of_change e)
    by true (inr h) = absurd h
    by false h = absurd h

of_change : (c : World) (m : Change) (t : Told) → IsTold t (told_by_change c m) → is_of_change t ≡ true
of_change c (Kill y) t h = ends_of_change t y (talk_at c y) h
of_change c (Alter y (SetTalk None)) t h = ends_of_change t y (talk_at c y) h
of_change c (Alter y (SetFault (Some fault))) t h = fault_of_change t y fault h
of_change c m t h = absurd h

of_changes : (c : World) (cs : List Change) (t : Told) → IsTold t (flat_map (told_by_change c) cs) → is_of_change t ≡ true
of_changes c [] t h = absurd h
of_changes c (m ∷ cs) t h = by (told-either t (told_by_change c m) (flat_map (told_by_change c) cs) h) (of_changes c cs t)
  where
    by : IsTold t (told_by_change c m) ⊎ IsTold t (flat_map (told_by_change c) cs) → (IsTold t (flat_map (told_by_change c) cs) → is_of_change t ≡ true) →
        is_of_change t ≡ true
    by (inl g) rest = of_change c m t g
    by (inr g) rest = rest g

told-last : (t : Told) (ts us : List Told) → IsTold t us → IsTold t (ts ++ us)
told-last t [] us h = h
told-last t (u ∷ ts) us h = inr (told-last t ts us h)

-- what isn't told by changes is told exactly where the move says it
said-exact : (c : World) (cs : List Change) (us : List Told) (t : Told) → is_of_change t ≡ false →
    (IsTold t (flat_map (told_by_change c) cs ++ us) → IsTold t us) × (IsTold t us → IsTold t (flat_map (told_by_change c) cs ++ us))
said-exact c cs us t other = (λ h. by (told-either t (flat_map (told_by_change c) cs) us h), λ h. told-last t (flat_map (told_by_change c) cs) us h)
  where
    by : IsTold t (flat_map (told_by_change c) cs) ⊎ IsTold t us → IsTold t us
    by (inl g) = let yes = of_changes c cs t g in cc
    by (inr g) = g

words_said : (w : World) (x : Path) (said : Said) (q : Path) (port : Ptr) (words : List ℕ) → IsTold (ToldWords q port words) (told_by_said w x said) →
    (q ≡ x) × (said ≡ Words port words)
words_said w x (Words at given) q port words (inl e) =
    let who : x ≡ q = cc in let where_at : at ≡ port = cc in let what : given ≡ words = cc in (sym who, rw (where_at, what) refl)
words_said w x (Words at given) q port words (inr h) = absurd h
words_said w x (Passed at) q port words (inl e) = cc
words_said w x (Passed at) q port words (inr h) = absurd h
words_said w x said q port words h = absurd h

over_said : (w : World) (x : Path) (said : Said) (q : Path) (port : Ptr) (carried : Option Ptr) → IsTold (ToldOver q port carried) (told_by_said w x said) →
    (q ≡ x) × (said ≡ Passed port) × (carried ≡ carried_by w x)
over_said w x (Passed at) q port carried (inl e) =
    let who : x ≡ q = cc in let where_at : at ≡ port = cc in let what : carried_by w x ≡ carried = cc in (sym who, rw where_at refl, sym what)
over_said w x (Passed at) q port carried (inr h) = absurd h
over_said w x (Words at given) q port carried (inl e) = cc
over_said w x (Words at given) q port carried (inr h) = absurd h
over_said w x said q port carried h = absurd h

pub words_are_told : WordsAreTold
words_are_told c d x pick taken told onward q port words =
    let o = onward_row c (Own x pick taken) in
    let its = of_onward c d (Own x pick taken) told o onward in
    let both = said-exact c (listed o) (told_by_said c x (outcome_said o)) (ToldWords q port words) refl in (
      λ h. words_said c x (outcome_said o) q port words (both.0 (rw its.0 at h)),
      λ h. rw (its.0) (both.1 (rw (h.0, h.1) (inl refl))),
    )

pub overs_are_told : OversAreTold
overs_are_told c d x pick taken told onward q port carried =
    let o = onward_row c (Own x pick taken) in
    let its = of_onward c d (Own x pick taken) told o onward in
    let both = said-exact c (listed o) (told_by_said c x (outcome_said o)) (ToldOver q port carried) refl in (
      λ h. over_said c x (outcome_said o) q port carried (both.0 (rw its.0 at h)),
      λ h. rw (its.0) (both.1 (rw (h.0, h.1, h.2) (inl refl))),
    )

-- ---- touches

pub touches_tell_nothing : TouchesTellNothing
touches_tell_nothing c d touch told onward = (of_onward c d (ByOthers touch) told (onward_row c (ByOthers touch)) onward).0
