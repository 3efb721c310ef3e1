-- Where the fields of a body lead, as objects come, go and change.
use Rattle.std.proofs.Common.{◌≡◌, ◌≢◌, ◌⊎◌, inl, inr, ℕ, ◌<◌, Bool, true, false, cond, ◌==◌, ltb, List, Option, Some, None, option_map, refl, ap}
use Rattle.std.proofs.Common.{subst, ◌∙◌, arith}
use Rattle.std.proofs.lemmas.Bool.Decides.{nat_tests}
use Rattle.fk_model.specs.declared.names.Who.{Who}
use Rattle.fk_model.specs.declared.names.Ptr.{Ptr}
use Rattle.fk_model.specs.declared.names.Ptr.TheVariants.{Null, Dead, At}
use Rattle.fk_model.specs.declared.thread.Peer.{Peer}
use Rattle.fk_model.specs.declared.thread.Peer.TheVariants as peers
use Rattle.fk_model.specs.declared.thread.Talk.{Talk}
use Rattle.fk_model.specs.declared.thread.Fault.{Fault}
use Rattle.fk_model.specs.declared.body.Body.{Body}
use Rattle.fk_model.specs.declared.body.Body.TheVariants.{Mutex, Cond, Mapping, Region, Port, Portset, Space, Thread, Reference}
use Rattle.fk_model.specs.Objects.{and_then}
use Rattle.fk_store_graph.specs.declared.hints.lead.Sort.{Sort}
use Rattle.fk_store_graph.specs.declared.hints.lead.Sort.TheVariants.{Pointer, Served, Taken}
use Rattle.fk_store_graph.specs.declared.hints.lead.Lead.{Lead}
use Rattle.fk_store_graph.specs.Hints.Leads.{lead_by, first, pointer, peer, server, of_talk, of_fault, of_thread, led}
use Rattle.fk_store_graph.specs.Leads.Names.{same_who}
use Rattle.fk_store_graph.specs.Leads.Sweeps.{after, or_dead, pointer_after, peer_after, talk_after, fault_after, set_after, body_after}
use Rattle.fk_store_graph.specs.declared.leads.sweeps.Sweep.{Sweep}
use Rattle.fk_store_graph.proofs.InLeads.NameLaws.{same_who_eq}

-- ---- after a sweep

-- a field led there before, or it follows what got another name
abbrev pub Came : Sweep → Option Lead → Lead → Type 0
Came sweep old l = ((old ≡ Some l) × (same_who l.to sweep.from ≡ false)) ⊎ ((sweep.to ≡ Some l.to) × (old ≡ Some (lead_by l.sort sweep.from)))

module _ (sweep : Sweep) (l : Lead) where
  nowhere : {o : Option Lead} → None ≡ Some l → Came sweep o l
  nowhere h = absurd (cc)

  who-came : (s : Sort) (who : Who) → option_map (lead_by s) (after sweep who) ≡ Some l → Came sweep (Some (lead_by s who)) l
  who-came s who h = go (same_who who sweep.from) refl h
    where
      follows : (o : Option Who) → same_who who sweep.from ≡ true → sweep.to ≡ o → option_map (lead_by s) o ≡ Some l → Came sweep (Some (lead_by s who)) l
      follows None e f h = absurd (cc)
      follows (Some t) e f h =
          let same : lead_by s t ≡ l = cc in
          inr (
            f ∙ ap (λ (m : Lead). Some m.to) same,
            ap (λ (w : Who). Some (lead_by s w)) (same_who_eq who sweep.from e) ∙ ap
                (λ (m : Lead). Some (lead_by m.sort sweep.from)) same,
          )

      go : (t : Bool) → same_who who sweep.from ≡ t → option_map (lead_by s) (cond t sweep.to (Some who)) ≡ Some l → Came sweep (Some (lead_by s who)) l
      go false e h = let same : lead_by s who ≡ l = cc in inl (ap Some same, subst (λ (m : Lead). same_who m.to sweep.from ≡ false) same e)
      go true e h = follows sweep.to e refl h

  pointer-came : (p : Ptr) → pointer (pointer_after sweep p) ≡ Some l → Came sweep (pointer p) l
  pointer-came Null h = absurd (cc)
  pointer-came Dead h = absurd (cc)
  pointer-came (At who) h = who-came Pointer who (same (after sweep who) ∙ h)
    where
      same : (o : Option Who) → option_map (lead_by Pointer) o ≡ pointer (or_dead o)
      same None = refl
      same (Some w) = refl

  holder-came : (o : Option Who) → option_map (lead_by Pointer) (and_then (after sweep) o) ≡ Some l → Came sweep (option_map (lead_by Pointer) o) l
  holder-came None h = absurd (cc)
  holder-came (Some who) h = who-came Pointer who h

  peer-came : (s : Sort) (p : Peer) → and_then (peer s) (peer_after sweep p) ≡ Some l → Came sweep (peer s p) l
  peer-came s (peers.Thread who) h = who-came s who (same (after sweep who) ∙ h)
    where
      same : (o : Option Who) → option_map (lead_by s) o ≡ and_then (peer s) (option_map peers.Thread o)
      same None = refl
      same (Some w) = refl
  peer-came s peers.Service h = absurd (cc)
  peer-came s peers.Parked h = absurd (cc)

  taker-came : (s : Sort) (o : Option Peer) → and_then (peer s) (and_then (peer_after sweep) o) ≡ Some l → Came sweep (and_then (peer s) o) l
  taker-came s None h = absurd (cc)
  taker-came s (Some p) h = peer-came s p h

  server-came : (port : Who) (p : Peer) (port2 : Who) (p2 : Peer) → after sweep port ≡ Some port2 → peer_after sweep p ≡ Some p2 → server port2 p2 ≡ Some l →
      Came sweep (server port p) l
  server-came port (peers.Thread who) port2 p2 e f h = who-came Served who (go (after sweep who) refl p2 f h)
    where
      go : (o : Option Who) → after sweep who ≡ o → (p2 : Peer) → option_map peers.Thread o ≡ Some p2 → server port2 p2 ≡ Some l → option_map
          (lead_by Served) o ≡ Some l
      go None e p2 f h = absurd (cc)
      go (Some w) e p2 f h = let same : peers.Thread w ≡ p2 = cc in ap (server port2) same ∙ h
  server-came port peers.Service port2 p2 e f h =
      let same : peers.Service ≡ p2 = cc in
      who-came Served port (ap (option_map (lead_by Served)) e ∙ ap (server port2) same ∙ h)
  server-came port peers.Parked port2 p2 e f h =
      let same : peers.Parked ≡ p2 = cc in
      let none : None ≡ Some l = ap (server port2) same ∙ h in nowhere none

  talk-came : (i : ℕ) (talk : Talk) → and_then (of_talk i) (talk_after sweep talk) ≡ Some l → Came sweep (of_talk i talk) l
  unfolding of_talk
  talk-came i talk h = ports (after sweep talk.port) refl h
    where
      fields : (port2 : Who) (p2 : Peer) → after sweep talk.port ≡ Some port2 → peer_after sweep talk.peer ≡ Some p2 → (a b c : Bool) →
          cond a (Some (lead_by Pointer port2)) (cond b (peer Pointer p2) (cond c (server port2 p2) None)) ≡ Some l →
          Came sweep (cond a (Some (lead_by Pointer talk.port)) (cond b (peer Pointer talk.peer) (cond c (server talk.port talk.peer) None))) l
      fields port2 p2 e f true b c h = who-came Pointer talk.port (ap (option_map (lead_by Pointer)) e ∙ h)
      fields port2 p2 e f false true c h = peer-came Pointer talk.peer (ap (and_then (peer Pointer)) f ∙ h)
      fields port2 p2 e f false false true h = server-came talk.port talk.peer port2 p2 e f h
      fields port2 p2 e f false false false h = nowhere h

      peers_of : (port2 : Who) → after sweep talk.port ≡ Some port2 → (o : Option Peer) → peer_after sweep talk.peer ≡ o →
          and_then (of_talk i) (option_map (λ p. record talk { port = port2; peer = p }) o) ≡ Some l → Came sweep (of_talk i talk) l
      peers_of port2 e None f h = nowhere h
      peers_of port2 e (Some p2) f h = fields port2 p2 e f (i == 0) (i == 1) (i == 2) h

      ports : (o : Option Who) → after sweep talk.port ≡ o →
          and_then (of_talk i) (and_then (λ port. option_map (λ p. record talk { port = port; peer = p }) (peer_after sweep talk.peer)) o) ≡ Some l →
          Came sweep (of_talk i talk) l
      ports None e h = nowhere h
      ports (Some port2) e h = peers_of port2 e (peer_after sweep talk.peer) refl h

  fault-came : (i : ℕ) (fault : Fault) → and_then (of_fault i) (fault_after sweep fault) ≡ Some l → Came sweep (of_fault i fault) l
  unfolding of_fault
  fault-came i fault h = ports (after sweep fault.port) refl h
    where
      fields : (port2 : Who) → after sweep fault.port ≡ Some port2 → (a b c : Bool) →
          cond a (Some (lead_by Pointer port2))
          (cond b (and_then (peer Pointer) (and_then (peer_after sweep) fault.taker))
          (cond c (and_then (peer Taken) (and_then (peer_after sweep) fault.taker)) None)) ≡ Some l →
          Came sweep (cond a (Some (lead_by Pointer fault.port))
          (cond b (and_then (peer Pointer) fault.taker) (cond c (and_then (peer Taken) fault.taker) None))) l
      fields port2 e true b c h = who-came Pointer fault.port (ap (option_map (lead_by Pointer)) e ∙ h)
      fields port2 e false true c h = taker-came Pointer fault.taker h
      fields port2 e false false true h = taker-came Taken fault.taker h
      fields port2 e false false false h = nowhere h

      ports : (o : Option Who) → after sweep fault.port ≡ o →
          and_then (of_fault i) (option_map (λ port. record fault { port = port; taker = and_then (peer_after sweep) fault.taker }) o) ≡ Some l →
          Came sweep (of_fault i fault) l
      ports None e h = nowhere h
      ports (Some port2) e h = fields port2 e (i == 3) (i == 4) (i == 5) h

  thread-came : (talk : Option Talk) (fault : Option Fault) (i : ℕ) →
      of_thread (and_then (talk_after sweep) talk) (and_then (fault_after sweep) fault) i ≡ Some l → Came sweep (of_thread talk fault i) l
  unfolding of_thread
  thread-came talk fault i h = go (ltb i 3) h
    where
      talks : (o : Option Talk) → and_then (of_talk i) (and_then (talk_after sweep) o) ≡ Some l → Came sweep (and_then (of_talk i) o) l
      talks None h = nowhere h
      talks (Some t) h = talk-came i t h

      faults : (o : Option Fault) → and_then (of_fault i) (and_then (fault_after sweep) o) ≡ Some l → Came sweep (and_then (of_fault i) o) l
      faults None h = nowhere h
      faults (Some f) h = fault-came i f h

      go : (a : Bool) → cond a (and_then (of_talk i) (and_then (talk_after sweep) talk)) (and_then (of_fault i) (and_then (fault_after sweep) fault)) ≡ Some l →
          Came sweep (cond a (and_then (of_talk i) talk) (and_then (of_fault i) fault)) l
      go true h = talks talk h
      go false h = faults fault h

  first-came : (i : ℕ) (old new : Option Lead) → (new ≡ Some l → Came sweep old l) → first i new ≡ Some l → Came sweep (first i old) l
  first-came i old new came h = go (i == 0) h
    where
      go : (a : Bool) → cond a new None ≡ Some l → Came sweep (cond a old None) l
      go true h = came h
      go false h = nowhere h

  pub led-came : (space : ℕ) (b : Body) (i : ℕ) → led (body_after sweep space b) i ≡ Some l → Came sweep (led b i) l
  unfolding led
  led-came space (Mutex locked) i h = absurd (cc)
  led-came space Cond i h = absurd (cc)
  led-came space (Mapping page count offset write region) i h = first-came i (pointer region) (pointer (pointer_after sweep region)) (pointer-came region) h
  led-came space (Region page count write keeper) i h = first-came i (pointer keeper) (pointer (pointer_after sweep keeper)) (pointer-came keeper) h
  led-came space (Port set served) i h = absurd (cc)
  led-came space Portset i h = absurd (cc)
  led-came space (Space birth holder) i h = first-came i (option_map (lead_by Pointer) holder) (option_map (lead_by Pointer) (and_then (after sweep) holder))
      (holder-came holder) h
  led-came space (Thread thread) i h = thread-came thread.talk thread.fault i h
  led-came space (Reference to) i h = first-came i (pointer to) (pointer (pointer_after sweep to)) (pointer-came to) h

-- ---- what doesn't lead there is as it was
module _ (sweep : Sweep) where
  who-off : (who : Who) → (Some (lead_by Pointer who) ≢ Some (lead_by Pointer sweep.from)) → after sweep who ≡ Some who
  who-off who off = go (same_who who sweep.from) refl
    where
      go : (t : Bool) → same_who who sweep.from ≡ t → cond t sweep.to (Some who) ≡ Some who
      go false e = refl
      go true e = absurd (off (ap (λ (w : Who). Some (lead_by Pointer w)) (same_who_eq who sweep.from e)))

  pointer-off : (p : Ptr) → (pointer p ≢ Some (lead_by Pointer sweep.from)) → pointer_after sweep p ≡ p
  pointer-off Null off = refl
  pointer-off Dead off = refl
  pointer-off (At who) off = ap or_dead (who-off who off)

  holder-off : (o : Option Who) → (option_map (lead_by Pointer) o ≢ Some (lead_by Pointer sweep.from)) → and_then (after sweep) o ≡ o
  holder-off None off = refl
  holder-off (Some who) off = who-off who off

  peer-off : (p : Peer) → (peer Pointer p ≢ Some (lead_by Pointer sweep.from)) → peer_after sweep p ≡ Some p
  peer-off (peers.Thread who) off = ap (option_map peers.Thread) (who-off who off)
  peer-off peers.Service off = refl
  peer-off peers.Parked off = refl

  taker-off : (o : Option Peer) → (and_then (peer Pointer) o ≢ Some (lead_by Pointer sweep.from)) → and_then (peer_after sweep) o ≡ o
  taker-off None off = refl
  taker-off (Some p) off = peer-off p off

  talk-off : (o : Option Talk) → ((i : ℕ) → i < 3 → and_then (of_talk i) o ≢ Some (lead_by Pointer sweep.from)) → and_then (talk_after sweep) o ≡ o
  unfolding of_talk
  talk-off None off = refl
  talk-off (Some talk) off =
      let port = who-off talk.port (off 0 (omega arith)) in
      let server = peer-off talk.peer (off 1 (omega arith)) in
      rw (port, server) refl

  fault-off : (o : Option Fault) → ((i : ℕ) → ltb i 3 ≡ false → and_then (of_fault i) o ≢ Some (lead_by Pointer sweep.from)) → and_then (fault_after sweep) o
      ≡ o
  unfolding of_fault
  fault-off None off = refl
  fault-off (Some fault) off =
      let port = who-off fault.port (off 3 refl) in
      let taker = taker-off fault.taker (off 4 refl) in
      rw (port, taker) refl

  pub set-off : (space : ℕ) (o : Option ℕ) → (space == sweep.from.space) ≡ false → and_then (set_after sweep space) o ≡ o
  set-off space None off = refl
  set-off space (Some set) off = rw off refl

  pub body-off : (space : ℕ) (b : Body) → (space == sweep.from.space) ≡ false → ((i : ℕ) → led b i ≢ Some (lead_by Pointer sweep.from)) →
      body_after sweep space b ≡ b
  unfolding led of_thread
  body-off space (Mutex locked) home off = refl
  body-off space Cond home off = refl
  body-off space (Mapping page count offset write region) home off = ap (Mapping page count offset write) (pointer-off region (off 0))
  body-off space (Region page count write keeper) home off = ap (Region page count write) (pointer-off keeper (off 0))
  body-off space (Port set served) home off = ap (λ o. Port o served) (set-off space set home)
  body-off space Portset home off = refl
  body-off space (Space birth holder) home off = ap (Space birth) (holder-off holder (off 0))
  body-off space (Thread thread) home off = rw (talk-off thread.talk talks, fault-off thread.fault faults) refl
    where
      talks : (i : ℕ) → i < 3 → and_then (of_talk i) thread.talk ≢ Some (lead_by Pointer sweep.from)
      talks i low = let is : ltb i 3 ≡ true = grind (arith, nat_tests) in let o = off i in rw is at o

      faults : (i : ℕ) → ltb i 3 ≡ false → and_then (of_fault i) thread.fault ≢ Some (lead_by Pointer sweep.from)
      faults i is = let o = off i in rw is at o
  body-off space (Reference to) home off = ap Reference (pointer-off to (off 0))
