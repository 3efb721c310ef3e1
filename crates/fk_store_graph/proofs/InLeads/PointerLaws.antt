-- PointerLaws: where the fields of a body lead, and as what.
use Rattle.std.proofs.Common.{◌≡◌, ◌≢◌, ◌⊎◌, inl, inr, ℕ, zero, suc, ◌+◌, ◌<◌, ◌≤◌, ltb, Bool, true, false, cond, ◌==◌, ◌&&◌, Option, Some, None}
use Rattle.std.proofs.Common.{option_map, refl, sym, ap, ◌∙◌, arith}
use Rattle.std.proofs.lemmas.Bool.Decides.{nat_tests}
use Rattle.fk_model.specs.declared.names.Who.{Who}
use Rattle.fk_model.specs.declared.names.Ptr.{Ptr}
use Rattle.fk_model.specs.declared.names.Ptr.TheVariants.{Null, Dead, At}
use Rattle.fk_model.specs.declared.thread.Peer.{Peer}
use Rattle.fk_model.specs.declared.thread.Peer.TheVariants as peers
use Rattle.fk_model.specs.declared.thread.Talk as talks_of
use Rattle.fk_model.specs.declared.thread.Talk.{Talk}
use Rattle.fk_model.specs.declared.thread.Fault as faults_of
use Rattle.fk_model.specs.declared.thread.Fault.{Fault}
use Rattle.fk_model.specs.declared.body.Body.{Body}
use Rattle.fk_model.specs.declared.body.Body.TheVariants.{Mutex, Cond, Mapping, Region, Port, Portset, Space, Thread, Reference}
use Rattle.fk_model.specs.Objects.{and_then, holds}
use Rattle.fk_store_graph.specs.declared.hints.lead.Sort.{Sort}
use Rattle.fk_store_graph.specs.declared.hints.lead.Sort.TheVariants.{Pointer, Served, Taken}
use Rattle.fk_store_graph.specs.declared.hints.lead.Lead.{Lead}
use Rattle.fk_store_graph.specs.Hints.Leads.{lead_by, first, pointer, peer, server, of_talk, of_fault, of_thread, led}
use Rattle.fk_store_graph.specs.Leads.Held.{is_held}
use Rattle.fk_store_graph.specs.Leads.Leading.{leading, is_single, is_reference, may_tell, pointed, pointed_by, target}
use Rattle.fk_store_graph.specs.Leads.Names.{same_who}
use Rattle.fk_store_graph.specs.Leads.Parts.{plays, is_thread, is_service, whose, sort_of}
use Rattle.fk_store_graph.specs.Leads.Pointers.{hit, hits_in, pointer_hits, peer_hits, talk_hits, fault_hits, body_hits}
use Rattle.fk_store_graph.specs.Leads.Sweeps.{after, or_dead, body_after}
use Rattle.fk_store_graph.specs.declared.leads.sweeps.Sweep.{Sweep}
use Rattle.fk_store_graph.specs.declared.leads.parts.Part.{Part}
use Rattle.fk_store_graph.specs.declared.leads.parts.Part.TheVariants.{Client, Faulter, Guest}
use Rattle.fk_store_graph.proofs.InLeads.NameLaws.{same_who_eq, same_who_refl}

-- ---- pointers by field

same_sorts : (l m : Lead) → Some l ≡ Some m → l.sort ≡ m.sort
same_sorts l m h = let same : l ≡ m = cc in ap (λ (x : Lead). x.sort) same

-- what is served or taken is no pointer
not_served : (l : Lead) (w : Who) → l.sort ≡ Served → Some l ≡ Some (lead_by Pointer w) → ⊥
not_served l w is h = let same = same_sorts l (lead_by Pointer w) h in absurd (cc)

served_no : (port : Who) (p : Peer) (w : Who) → server port p ≡ Some (lead_by Pointer w) → ⊥
served_no port (peers.Thread who) w h = not_served (lead_by Served who) w refl h
served_no port peers.Service w h = not_served (lead_by Served port) w refl h
served_no port peers.Parked w h = absurd (cc)

taken_no : (o : Option Peer) (w : Who) → and_then (peer Taken) o ≡ Some (lead_by Pointer w) → ⊥
taken_no None w h = absurd (cc)
taken_no (Some (peers.Thread who)) w h = let same = same_sorts (lead_by Taken who) (lead_by Pointer w) h in absurd (cc)
taken_no (Some peers.Service) w h = absurd (cc)
taken_no (Some peers.Parked) w h = absurd (cc)

abbrev pub IsPointer : ℕ → Type 0
IsPointer i = (i < 5) × (i ≢ 2)

first_pointer : (i : ℕ) (o : Option Lead) (l : Lead) → first i o ≡ Some l → IsPointer i
first_pointer i o l h = go (i == 0) refl h
  where
    go : (t : Bool) → (i == 0) ≡ t → cond t o None ≡ Some l → IsPointer i
    go true e h = let is : i ≡ 0 = grind (arith, nat_tests) in (omega (arith, is), λ two. absurd (omega (arith, is, two)))
    go false e h = absurd (cc)

at_pointer : (i n : ℕ) → (i == n) ≡ true → n < 5 → n ≢ 2 → IsPointer i
at_pointer i n e low apart = let is : i ≡ n = grind (arith, nat_tests) in (omega (arith, is, low), λ two. apart (sym is ∙ two))

-- a pointer is at one of the fields 0, 1, 3 and 4
pub pointer_field : (b : Body) (i : ℕ) (w : Who) → led b i ≡ Some (lead_by Pointer w) → IsPointer i
unfolding led of_thread of_talk of_fault
pointer_field (Mutex locked) i w h = absurd (cc)
pointer_field Cond i w h = absurd (cc)
pointer_field (Mapping page count offset write region) i w h = first_pointer i _ _ h
pointer_field (Region page count write keeper) i w h = first_pointer i _ _ h
pointer_field (Port set served) i w h = absurd (cc)
pointer_field Portset i w h = absurd (cc)
pointer_field (Space birth holder) i w h = first_pointer i _ _ h
pointer_field (Reference to) i w h = first_pointer i _ _ h
pointer_field (Thread thread) i w h = go (ltb i 3) h
  where
    talks : (o : Option Talk) → and_then (of_talk i) o ≡ Some (lead_by Pointer w) → IsPointer i
    talks None h = absurd (cc)
    talks (Some t) h = by (i == 0) refl (i == 1) refl (i == 2) h
      where
        by : (p : Bool) → (i == 0) ≡ p → (q : Bool) → (i == 1) ≡ q → (r : Bool) →
            cond p (Some (lead_by Pointer t.port)) (cond q (peer Pointer t.peer) (cond r (server t.port t.peer) None)) ≡ Some (lead_by Pointer w) → IsPointer i
        by true e q f r h = at_pointer i 0 e (omega arith) (λ two. absurd (omega (arith, two)))
        by false e true f r h = at_pointer i 1 f (omega arith) (λ two. absurd (omega (arith, two)))
        by false e false f true h = absurd (served_no t.port t.peer w h)
        by false e false f false h = absurd (cc)

    faults : (o : Option Fault) → and_then (of_fault i) o ≡ Some (lead_by Pointer w) → IsPointer i
    faults None h = absurd (cc)
    faults (Some t) h = by (i == 3) refl (i == 4) refl (i == 5) h
      where
        by : (p : Bool) → (i == 3) ≡ p → (q : Bool) → (i == 4) ≡ q → (r : Bool) →
            cond p (Some (lead_by Pointer t.port)) (cond q (and_then (peer Pointer) t.taker) (cond r (and_then (peer Taken) t.taker) None))
            ≡ Some (lead_by Pointer w) →
            IsPointer i
        by true e q f r h = at_pointer i 3 e (omega arith) (λ two. absurd (omega (arith, two)))
        by false e true f r h = at_pointer i 4 f (omega arith) (λ two. absurd (omega (arith, two)))
        by false e false f true h = absurd (taken_no t.taker w h)
        by false e false f false h = absurd (cc)

    go : (a : Bool) → cond a (and_then (of_talk i) thread.talk) (and_then (of_fault i) thread.fault) ≡ Some (lead_by Pointer w) → IsPointer i
    go true h = talks thread.talk h
    go false h = faults thread.fault h

pub led-target : (b : Body) (i : ℕ) (w : Who) → led b i ≡ Some (lead_by Pointer w) → target i b ≡ Some w
unfolding target
led-target b i w h = ap (and_then pointed) h

pub target-led : (b : Body) (i : ℕ) (w : Who) → target i b ≡ Some w → led b i ≡ Some (lead_by Pointer w)
unfolding target
target-led b i w h = go (led b i) h
  where
    by : (l : Lead) (s : Sort) → l.sort ≡ s → pointed_by s l.to ≡ Some w → Some l ≡ Some (lead_by Pointer w)
    by l Pointer is h = let same : l.to ≡ w = cc in λ i. Some (record { to = same i; sort = is i })
    by l Served is h = absurd (cc)
    by l Taken is h = absurd (cc)

    go : (o : Option Lead) → and_then pointed o ≡ Some w → o ≡ Some (lead_by Pointer w)
    go None h = absurd (cc)
    go (Some l) h = by l l.sort refl h

-- a pointer is a lead
pub target_lead : (i : ℕ) (b : Body) (w : Who) → target i b ≡ Some w → (l : Lead) × (led b i ≡ Some l) × (l.to ≡ w)
target_lead i b w h = (lead_by Pointer w, target-led b i w h, refl)

pub no_target : (b : Body) (i : ℕ) → led b i ≡ None → target i b ≡ None
unfolding target
no_target b i none = ap (and_then pointed) none

-- the fields past the only one
pub single_past : (b : Body) → is_single b ≡ true → (i : ℕ) → 1 ≤ i → led b i ≡ None
unfolding led
single_past (Mutex locked) h i past = absurd (cc)
single_past Cond h i past = absurd (cc)
single_past (Mapping page count offset write region) h i past = let off : (i == 0) ≡ false = grind (arith, nat_tests) in rw off refl
single_past (Region page count write keeper) h i past = let off : (i == 0) ≡ false = grind (arith, nat_tests) in rw off refl
single_past (Port set served) h i past = absurd (cc)
single_past Portset h i past = absurd (cc)
single_past (Space birth holder) h i past = let off : (i == 0) ≡ false = grind (arith, nat_tests) in rw off refl
single_past (Thread thread) h i past = absurd (cc)
single_past (Reference to) h i past = let off : (i == 0) ≡ false = grind (arith, nat_tests) in rw off refl

-- ---- how many pointers lead there

hits-none : (who : Who) (o : Option Who) → o ≢ Some who → hits_in (hit who) o ≡ 0
hits-none who None off = refl
hits-none who (Some w) off = go (same_who w who) refl
  where
    go : (t : Bool) → same_who w who ≡ t → cond {A = ℕ} t 1 0 ≡ 0
    go false e = refl
    go true e = absurd (off (ap Some (same_who_eq w who e)))

hits-some : (who : Who) (o : Option Who) → o ≡ Some who → hits_in (hit who) o ≡ 1
hits-some who o is = ap (hits_in (hit who)) is ∙ ap (λ t. cond {A = ℕ} t 1 0) (same_who_refl who)

pub leading-none : (who : Who) (b : Body) → ((i : ℕ) → led b i ≢ Some (lead_by Pointer who)) → leading who b ≡ 0
unfolding leading
leading-none who b off =
    let none : (i : ℕ) → hits_in (hit who) (target i b) ≡ 0 = λ i. hits-none who (target i b) (λ h. off i (target-led b i who h)) in
    let a = none 0 in let c = none 1 in let d = none 3 in let e = none 4 in omega (arith, a, c, d, e)

pub leading-some : (who : Who) (b : Body) (i : ℕ) → IsPointer i → target i b ≡ Some who → 0 < leading who b
unfolding leading
leading-some who b i field leads = by (i == 0) refl (i == 1) refl (i == 3) refl
  where
    one : (n : ℕ) → (i == n) ≡ true → hits_in (hit who) (target n b) ≡ 1
    one n e = let is : i ≡ n = grind (arith, nat_tests) in hits-some who (target n b) (ap (λ n. target n b) (sym is) ∙ leads)

    by : (p : Bool) → (i == 0) ≡ p → (q : Bool) → (i == 1) ≡ q → (r : Bool) → (i == 3) ≡ r →
        0 < (hits_in (hit who) (target 0 b) + hits_in (hit who) (target 1 b)) + (hits_in (hit who) (target 3 b) + hits_in (hit who) (target 4 b))
    by true e q f r g = let here = one 0 e in omega (arith, here)
    by false e true f r g = let here = one 1 f in omega (arith, here)
    by false e false f true g = let here = one 3 g in omega (arith, here)
    by false e false f false g =
        let low = field.0 in
        let apart = field.1 in
        let last : (i == 4) ≡ true = grind (arith, nat_tests) in
        let here = one 4 last in omega (arith, here)

-- ---- what is no pointer is at 2 or at 5

peer_sort : (s : Sort) (p : Peer) (l : Lead) → peer s p ≡ Some l → l.sort ≡ s
peer_sort s (peers.Thread who) l h = let same : lead_by s who ≡ l = cc in sym (ap (λ (x : Lead). x.sort) same)
peer_sort s peers.Service l h = absurd (cc)
peer_sort s peers.Parked l h = absurd (cc)

taker_sort : (s : Sort) (o : Option Peer) (l : Lead) → and_then (peer s) o ≡ Some l → l.sort ≡ s
taker_sort s None l h = absurd (cc)
taker_sort s (Some p) l h = peer_sort s p l h

lead_sort : (s : Sort) (who : Who) (l : Lead) → Some (lead_by s who) ≡ Some l → l.sort ≡ s
lead_sort s who l h = let same : lead_by s who ≡ l = cc in sym (ap (λ (x : Lead). x.sort) same)

first_sort : (i : ℕ) (o : Option Lead) (l : Lead) → ((m : Lead) → o ≡ Some m → m.sort ≡ Pointer) → first i o ≡ Some l → l.sort ≡ Pointer
first_sort i o l is h = by (i == 0) h
  where
    by : (t : Bool) → cond t o None ≡ Some l → l.sort ≡ Pointer
    by true h = is l h
    by false h = absurd (cc)

pointer_sort : (p : Ptr) (l : Lead) → pointer p ≡ Some l → l.sort ≡ Pointer
pointer_sort Null l h = absurd (cc)
pointer_sort Dead l h = absurd (cc)
pointer_sort (At who) l h = lead_sort Pointer who l h

holder_sort : (o : Option Who) (l : Lead) → option_map (lead_by Pointer) o ≡ Some l → l.sort ≡ Pointer
holder_sort None l h = absurd (cc)
holder_sort (Some who) l h = lead_sort Pointer who l h

pub else_pointer : (b : Body) (i : ℕ) (l : Lead) → led b i ≡ Some l → (i == 2) ≡ false → (i == 5) ≡ false → l.sort ≡ Pointer
unfolding led of_thread of_talk of_fault
else_pointer (Mutex locked) i l h two five = absurd (cc)
else_pointer Cond i l h two five = absurd (cc)
else_pointer (Mapping page count offset write region) i l h two five = first_sort i (pointer region) l (pointer_sort region) h
else_pointer (Region page count write keeper) i l h two five = first_sort i (pointer keeper) l (pointer_sort keeper) h
else_pointer (Port set served) i l h two five = absurd (cc)
else_pointer Portset i l h two five = absurd (cc)
else_pointer (Space birth holder) i l h two five = first_sort i (option_map (lead_by Pointer) holder) l (holder_sort holder) h
else_pointer (Reference to) i l h two five = first_sort i (pointer to) l (pointer_sort to) h
else_pointer (Thread thread) i l h two five = go (ltb i 3) h
  where
    talks : (o : Option Talk) → and_then (of_talk i) o ≡ Some l → l.sort ≡ Pointer
    talks None h = absurd (cc)
    talks (Some t) h = by (i == 0) (i == 1) (i == 2) two h
      where
        by : (p q r : Bool) → r ≡ false →
            cond p (Some (lead_by Pointer t.port)) (cond q (peer Pointer t.peer) (cond r (server t.port t.peer) None)) ≡ Some l → l.sort ≡ Pointer
        by true q r off h = lead_sort Pointer t.port l h
        by false true r off h = peer_sort Pointer t.peer l h
        by false false true off h = absurd (cc)
        by false false false off h = absurd (cc)

    faults : (o : Option Fault) → and_then (of_fault i) o ≡ Some l → l.sort ≡ Pointer
    faults None h = absurd (cc)
    faults (Some t) h = by (i == 3) (i == 4) (i == 5) five h
      where
        by : (p q r : Bool) → r ≡ false →
            cond p (Some (lead_by Pointer t.port)) (cond q (and_then (peer Pointer) t.taker) (cond r (and_then (peer Taken) t.taker) None)) ≡ Some l →
            l.sort ≡ Pointer
        by true q r off h = lead_sort Pointer t.port l h
        by false true r off h = taker_sort Pointer t.taker l h
        by false false true off h = absurd (cc)
        by false false false off h = absurd (cc)

    go : (a : Bool) → cond a (and_then (of_talk i) thread.talk) (and_then (of_fault i) thread.fault) ≡ Some l → l.sort ≡ Pointer
    go true h = talks thread.talk h
    go false h = faults thread.fault h

-- a reference has one field
pub reference_single : (b : Body) → is_reference b ≡ true → is_single b ≡ true
reference_single (Mutex locked) h = absurd (cc)
reference_single Cond h = absurd (cc)
reference_single (Mapping page count offset write region) h = absurd (cc)
reference_single (Region page count write keeper) h = absurd (cc)
reference_single (Port set served) h = absurd (cc)
reference_single Portset h = absurd (cc)
reference_single (Space birth holder) h = absurd (cc)
reference_single (Thread thread) h = absurd (cc)
reference_single (Reference to) h = refl

pub reference_held : (b : Body) → is_reference b ≡ true → is_held b ≡ false
reference_held (Mutex locked) h = refl
reference_held Cond h = refl
reference_held (Mapping page count offset write region) h = refl
reference_held (Region page count write keeper) h = refl
reference_held (Port set served) h = refl
reference_held Portset h = refl
reference_held (Space birth holder) h = absurd (cc)
reference_held (Thread thread) h = refl
reference_held (Reference to) h = refl

-- a dead one leads nowhere
pub dead_leads : (i : ℕ) → led (Reference Dead) i ≡ None
unfolding led
dead_leads i = by (i == 0)
  where
    by : (t : Bool) → cond {A = Option Lead} t None None ≡ None
    by true = refl
    by false = refl

-- and is dead where what it led to is gone
pub reference_dead : (sweep : Sweep) → sweep.to ≡ None → (b : Body) → is_reference b ≡ true → (i : ℕ) → target i b ≡ Some sweep.from → (space : ℕ) →
    Reference Dead ≡ body_after sweep space b
unfolding target led
reference_dead sweep gone (Mutex locked) h i leads space = absurd (cc)
reference_dead sweep gone Cond h i leads space = absurd (cc)
reference_dead sweep gone (Mapping page count offset write region) h i leads space = absurd (cc)
reference_dead sweep gone (Region page count write keeper) h i leads space = absurd (cc)
reference_dead sweep gone (Port set served) h i leads space = absurd (cc)
reference_dead sweep gone Portset h i leads space = absurd (cc)
reference_dead sweep gone (Space birth holder) h i leads space = absurd (cc)
reference_dead sweep gone (Thread thread) h i leads space = absurd (cc)
reference_dead sweep gone (Reference Null) h i leads space = by (i == 0) leads
  where
    by : (t : Bool) → and_then pointed (cond t None None) ≡ Some sweep.from → Reference Dead ≡ Reference Null
    by true e = absurd (cc)
    by false e = absurd (cc)
reference_dead sweep gone (Reference Dead) h i leads space = refl
reference_dead sweep gone (Reference (At w)) h i leads space = by (i == 0) leads
  where
    here : w ≡ sweep.from → Reference Dead ≡ Reference (or_dead (after sweep w))
    here is =
        let same : same_who w sweep.from ≡ true = ap (λ x. same_who x sweep.from) is ∙ same_who_refl sweep.from in
        sym (ap (λ o. Reference (or_dead o)) (ap (λ t. cond t sweep.to (Some w)) same ∙ gone))

    by : (t : Bool) → and_then pointed (cond t (Some (lead_by Pointer w)) None) ≡ Some sweep.from → Reference Dead ≡ Reference (or_dead (after sweep w))
    by true e = here (let same : w ≡ sweep.from = cc in same)
    by false e = absurd (cc)

-- who is no thread leads by pointers alone
pub pointers_alone : (b : Body) → may_tell b ≡ false → (i : ℕ) (l : Lead) → led b i ≡ Some l → l.sort ≡ Pointer
unfolding led
pointers_alone (Mutex locked) off i l h = absurd (cc)
pointers_alone Cond off i l h = absurd (cc)
pointers_alone (Mapping page count offset write region) off i l h = first_sort i (pointer region) l (pointer_sort region) h
pointers_alone (Region page count write keeper) off i l h = first_sort i (pointer keeper) l (pointer_sort keeper) h
pointers_alone (Port set served) off i l h = absurd (cc)
pointers_alone Portset off i l h = absurd (cc)
pointers_alone (Space birth holder) off i l h = first_sort i (option_map (lead_by Pointer) holder) l (holder_sort holder) h
pointers_alone (Thread thread) off i l h = absurd (cc)
pointers_alone (Reference to) off i l h = first_sort i (pointer to) l (pointer_sort to) h

-- what leads there otherwise does so at 2 or at 5
pub not_there : (b : Body) (l : Lead) → l.sort ≢ Pointer → led b 2 ≢ Some l → led b 5 ≢ Some l → (i : ℕ) → led b i ≢ Some l
not_there b l sort two five i h = by (i == 2) refl (i == 5) refl
  where
    by : (p : Bool) → (i == 2) ≡ p → (q : Bool) → (i == 5) ≡ q → ⊥
    by true e q f = let is : i ≡ 2 = grind (arith, nat_tests) in two (ap (led b) (sym is) ∙ h)
    by false e true f = let is : i ≡ 5 = grind (arith, nat_tests) in five (ap (led b) (sym is) ∙ h)
    by false e false f = sort (else_pointer b i l h e f)

-- ---- those that play a part

same_some : (sort : Sort) (a b : Who) → same_who a b ≡ true → Some (lead_by sort a) ≡ Some (lead_by sort b)
same_some sort a b h = ap (λ w. Some (lead_by sort w)) (same_who_eq a b h)

both_true : (a b : Bool) → (a && b) ≡ true → (a ≡ true) × (b ≡ true)
both_true true true h = (refl, refl)
both_true true false h = absurd (cc)
both_true false b h = absurd (cc)

pub plays-led : (part : Part) (b : Body) → plays part b ≡ true → (i : ℕ) × (led b i ≡ Some (lead_by (sort_of part) (whose part)))
unfolding led of_thread of_talk of_fault
plays-led part (Mutex locked) h = absurd (cc)
plays-led part Cond h = absurd (cc)
plays-led part (Mapping first count offset write region) h = absurd (cc)
plays-led part (Region first count write keeper) h = absurd (cc)
plays-led part (Port set served) h = absurd (cc)
plays-led part Portset h = absurd (cc)
plays-led part (Space birth holder) h = absurd (cc)
plays-led part (Reference to) h = absurd (cc)
plays-led (Client who) (Thread thread) h = (2, go thread.talk h)
  where
    peers_of : (port : Who) (p : Peer) → is_thread who p ≡ true → server port p ≡ Some (lead_by Served who)
    peers_of port (peers.Thread other) h = same_some Served other who h
    peers_of port peers.Service h = absurd (cc)
    peers_of port peers.Parked h = absurd (cc)

    go : (o : Option talks_of.Talk) → holds (λ (talk : talks_of.Talk). is_thread who talk.peer) o ≡ true → and_then
        (λ (talk : talks_of.Talk). server talk.port talk.peer) o ≡ Some (lead_by Served who)
    go None h = absurd (cc)
    go (Some talk) h = peers_of talk.port talk.peer h
plays-led (Faulter who) (Thread thread) h = (5, go thread.fault h)
  where
    peers_of : (p : Peer) → is_thread who p ≡ true → peer Taken p ≡ Some (lead_by Taken who)
    peers_of (peers.Thread other) h = same_some Taken other who h
    peers_of peers.Service h = absurd (cc)
    peers_of peers.Parked h = absurd (cc)

    takers : (o : Option Peer) → holds (is_thread who) o ≡ true → and_then (peer Taken) o ≡ Some (lead_by Taken who)
    takers None h = absurd (cc)
    takers (Some p) h = peers_of p h

    go : (o : Option faults_of.Fault) → holds (λ (fault : faults_of.Fault). holds (is_thread who) fault.taker) o ≡ true →
        and_then (λ (fault : faults_of.Fault). and_then (peer Taken) fault.taker) o ≡ Some (lead_by Taken who)
    go None h = absurd (cc)
    go (Some fault) h = takers fault.taker h
plays-led (Guest port) (Thread thread) h = (2, go thread.talk h)
  where
    peers_of : (at : Who) (p : Peer) → same_who at port ≡ true → is_service p ≡ true → server at p ≡ Some (lead_by Served port)
    peers_of at (peers.Thread other) h k = absurd (cc)
    peers_of at peers.Service h k = same_some Served at port h
    peers_of at peers.Parked h k = absurd (cc)

    go : (o : Option talks_of.Talk) → holds (λ (talk : talks_of.Talk). same_who talk.port port && is_service talk.peer) o ≡ true →
        and_then (λ (talk : talks_of.Talk). server talk.port talk.peer) o ≡ Some (lead_by Served port)
    go None h = absurd (cc)
    go (Some talk) h = let both = both_true (same_who talk.port port) (is_service talk.peer) h in peers_of talk.port talk.peer both.0 both.1

-- ---- those whose pointers lead there

hit-led : (who other : Who) → hit who other ≢ 0 → Some (lead_by Pointer other) ≡ Some (lead_by Pointer who)
hit-led who other h = go (same_who other who) refl h
  where
    go : (t : Bool) → same_who other who ≡ t → cond {A = ℕ} t 1 0 ≢ 0 → Some (lead_by Pointer other) ≡ Some (lead_by Pointer who)
    go true e h = same_some Pointer other who e
    go false e h = absurd (h refl)

pointer-hit : (who : Who) (p : Ptr) → pointer_hits who p ≢ 0 → pointer p ≡ Some (lead_by Pointer who)
pointer-hit who Null h = absurd (h refl)
pointer-hit who Dead h = absurd (h refl)
pointer-hit who (At other) h = hit-led who other h

peer-hit : (who : Who) (p : Peer) → peer_hits who p ≢ 0 → peer Pointer p ≡ Some (lead_by Pointer who)
peer-hit who (peers.Thread other) h = hit-led who other h
peer-hit who peers.Service h = absurd (h refl)
peer-hit who peers.Parked h = absurd (h refl)

taker-hit : (who : Who) (o : Option Peer) → hits_in (peer_hits who) o ≢ 0 → and_then (peer Pointer) o ≡ Some (lead_by Pointer who)
taker-hit who None h = absurd (h refl)
taker-hit who (Some p) h = peer-hit who p h

holder-hit : (who : Who) (o : Option Who) → hits_in (hit who) o ≢ 0 → option_map (lead_by Pointer) o ≡ Some (lead_by Pointer who)
holder-hit who None h = absurd (h refl)
holder-hit who (Some other) h = hit-led who other h

-- one of two numbers isn't 0 where their sum isn't
one_of : (a b : ℕ) → a + b ≢ 0 → (a ≢ 0) ⊎ (b ≢ 0)
one_of zero b h = inr (λ e. h (omega (arith, e)))
one_of (suc a) b h = inl (λ e. absurd (omega (arith, e)))

talk-hit : (who : Who) (o : Option talks_of.Talk) → hits_in (talk_hits who) o ≢ 0 → (fault : Option faults_of.Fault) → (i : ℕ) ×
    (of_thread o fault i ≡ Some (lead_by Pointer who))
unfolding of_thread of_talk
talk-hit who None h fault = absurd (h refl)
talk-hit who (Some talk) h fault = elim (one_of (hit who talk.port) (peer_hits who talk.peer) h) [
  | inl port ↦ (0, hit-led who talk.port port)
  | inr server ↦ (1, peer-hit who talk.peer server)
]

fault-hit : (who : Who) (o : Option faults_of.Fault) → hits_in (fault_hits who) o ≢ 0 → (talk : Option talks_of.Talk) → (i : ℕ) ×
    (of_thread talk o i ≡ Some (lead_by Pointer who))
unfolding of_thread of_fault
fault-hit who None h talk = absurd (h refl)
fault-hit who (Some fault) h talk = elim (one_of (hit who fault.port) (hits_in (peer_hits who) fault.taker) h) [
  | inl port ↦ (3, hit-led who fault.port port)
  | inr taker ↦ (4, taker-hit who fault.taker taker)
]

pub hits-led : (who : Who) (b : Body) → body_hits who b ≢ 0 → (i : ℕ) × (led b i ≡ Some (lead_by Pointer who))
unfolding led
hits-led who (Mutex locked) h = absurd (h refl)
hits-led who Cond h = absurd (h refl)
hits-led who (Mapping first count offset write region) h = (0, pointer-hit who region h)
hits-led who (Region first count write keeper) h = (0, pointer-hit who keeper h)
hits-led who (Port set served) h = absurd (h refl)
hits-led who Portset h = absurd (h refl)
hits-led who (Space birth holder) h = (0, holder-hit who holder h)
hits-led who (Thread thread) h = elim (one_of (hits_in (talk_hits who) thread.talk) (hits_in (fault_hits who) thread.fault) h) [
  | inl talk ↦ talk-hit who thread.talk talk thread.fault
  | inr fault ↦ fault-hit who thread.fault fault thread.talk
]
hits-led who (Reference to) h = (0, pointer-hit who to h)

pub not_nonzero : (n : ℕ) → (n ≢ 0 → ⊥) → n ≡ 0
not_nonzero zero h = refl
not_nonzero (suc n) h = absurd (h (λ e. absurd (omega (arith, e))))
