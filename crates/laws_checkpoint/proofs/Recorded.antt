-- An object's record and the pointers of its fields make its record in an image.
use Rattle.std.proofs.Common.{◌≡◌, ℕ, Bool, true, false, cond, ◌==◌, is_none, if◌then◌else◌, List, [], ◌∷◌, ◌++◌, map, length, Option, Some, None, option_map}
use Rattle.std.proofs.Common.{refl, sym, ap, subst, ◌∙◌}
use Rattle.fk_model.specs.Places.{Path, Ptr}
use Rattle.fk_model.specs.Objects.{and_then, Mode, Peer, Talk, Fault, Thread, Body, registers_of, flag_of}
use Rattle.fk_model.specs.Objects.Mode.{Running, Calling, Halted, Native}
use Rattle.fk_model.specs.Objects.Peer.{Server, Service, Parked}
use Rattle.fk_model.specs.declared.thread.Turn.{Turn}
use Rattle.fk_model.specs.declared.thread.Turn.TheVariants as turns
use Rattle.fk_model.specs.Objects.Body.{Mutex, Cond, Mapping, Region, Port, Portset, Space, Thread_of, Reference}
use Rattle.fk_model.specs.World.{World, Sweep}
use Rattle.fk_model.specs.LinkRows.{turn_number}
use Rattle.fk_model.specs.StateRows.{peer_field}
use Rattle.fk_model.specs.Records.{mode_number, halt_code, talk_words, fault_words, padded, record_of, word, record_registers}
use Rattle.fk_model.specs.Shapes.{IsShapedMode}
use Rattle.fk_model.specs.Cut.{is_out, ports_of, cut_ptr, cut_peer, cutting, seen_by}
use Rattle.fk_model.proofs.calls.CallLaws.{sixteen, words_keep_length_lem}
use Rattle.fk_image.specs.declared.image.image.Link.{Link as links}
use Rattle.fk_image.specs.declared.image.image.TalkRec.{TalkRec}
use Rattle.fk_image.specs.declared.image.image.FaultRec.{FaultRec}
use Rattle.fk_image.specs.declared.image.image.Rec.{Rec, Rec as recs}
use Rattle.laws_pictures.specs.Imaged.{link_of, peer_link, talk_rec, fault_rec, thread_rec, rec_of}
use Rattle.laws_checkpoint.specs.Gather.{pointer_fields, body_as, field_as}
use Rattle.laws_checkpoint.specs.Assembly.{pointer_at, peer_from, thread_from, rec_by, rec_from}

-- ---- the words of a thread's record

abbrev words_of : List ℕ → ℕ → ℕ → ℕ → ℕ → ℕ → ℕ → ℕ → ℕ → ℕ → List ℕ
words_of g n m h s a b c d e = padded 32 (8 ∷ (((g ++ n ∷ m ∷ h ∷ s ∷ []) ++ a ∷ b ∷ []) ++ c ∷ d ∷ e ∷ []))

record AreWords (words g : List ℕ) (n m h s a b c d e : ℕ) : Type 0 where
  kind : word words 0 ≡ 8
  regs : record_registers words ≡ g
  pc : word words 17 ≡ n
  mode : word words 18 ≡ m
  code : word words 19 ≡ h
  stops : word words 20 ≡ s
  turn : word words 21 ≡ a
  moved : word words 22 ≡ b
  state : word words 23 ≡ c
  page : word words 24 ≡ d
  write : word words 25 ≡ e

are_words : (g : List ℕ) (n m h s a b c d e : ℕ) → length g ≡ 16 → AreWords (words_of g n m h s a b c d e) g n m h s a b c d e
are_words g n m h s a b c d e long =
    subst (λ (g : List ℕ). AreWords (words_of g n m h s a b c d e) g n m h s a b c d e) (sixteen g long)
    (record { kind = refl; regs = refl; pc = refl; mode = refl; code = refl; stops = refl; turn = refl; moved = refl; state = refl; page = refl; write = refl })

registers_long : (mode : Mode) → IsShapedMode mode → length (registers_of mode) ≡ 16
registers_long (Running g) shaped = shaped
registers_long (Calling todo rest) shaped = words_keep_length_lem todo rest ∙ shaped.1.sixteen
registers_long (Halted g code) shaped = shaped
registers_long (Native g) shaped = shaped

same_rec : (a b : Rec) → Some a ≡ Some b → a ≡ b
same_rec a b e = cc

-- ---- talks and faults, by the words that show them

abbrev talk_by : List Path → ℕ → ℕ → List Ptr → Option TalkRec
talk_by sp a b ps = if a == 0 then None else Some (record {
  turn = a;
  moved = b;
  port = link_of sp (pointer_at ps 0);
  server = peer_from sp (pointer_at ps 0) (pointer_at ps 1);
})

abbrev fault_by : List Path → ℕ → ℕ → ℕ → List Ptr → Option FaultRec
fault_by sp c d e ps =
    if c == 0 then None else
    Some (record {
      page = d;
      write = e;
      port = link_of sp (pointer_at ps 2);
      taker = if c
          == 2 then Some (peer_from sp (pointer_at ps 2) (pointer_at ps 3)) else None;
    })

abbrev a_of : Option Talk → ℕ
a_of None = 0
a_of (Some talk) = turn_number talk.turn

abbrev b_of : Option Talk → ℕ
b_of None = 0
b_of (Some talk) = talk.moved

abbrev c_of : Option Fault → ℕ
c_of None = 0
c_of (Some fault) = if is_none fault.taker then 1 else 2

abbrev d_of : Option Fault → ℕ
d_of None = 0
d_of (Some fault) = fault.page

abbrev e_of : Option Fault → ℕ
e_of None = 0
e_of (Some fault) = flag_of fault.write

talk_is_words : (o : Option Talk) → talk_words o ≡ a_of o ∷ b_of o ∷ []
talk_is_words None = refl
talk_is_words (Some talk) = refl

fault_is_words : (o : Option Fault) → fault_words o ≡ c_of o ∷ d_of o ∷ e_of o ∷ []
fault_is_words None = refl
fault_is_words (Some fault) = refl

record_is : (t : Thread) → record_of (Thread_of t) ≡
    words_of (registers_of t.mode) t.counter (mode_number t.mode) (halt_code t.mode) t.stops (a_of t.talk) (b_of t.talk) (c_of t.fault) (d_of t.fault)
    (e_of t.fault)
unfolding record_of
record_is t = λ i. padded 32 (8 ∷ (registers_of t.mode ++ (t.counter ∷ mode_number t.mode ∷ halt_code t.mode ∷ t.stops ∷ []) ++ talk_is_words t.talk i
    ++ fault_is_words t.fault i))

thread_is : (t : Thread) → IsShapedMode t.mode → AreWords (record_of (Thread_of t)) (registers_of t.mode) t.counter (mode_number t.mode)
    (halt_code t.mode) t.stops
    (a_of t.talk) (b_of t.talk) (c_of t.fault) (d_of t.fault) (e_of t.fault)
thread_is t shaped =
    subst (λ (ws : List ℕ). AreWords ws (registers_of t.mode) t.counter (mode_number t.mode) (halt_code t.mode) t.stops (a_of t.talk) (b_of t.talk)
    (c_of t.fault) (d_of t.fault) (e_of t.fault))
    (sym (record_is t))
    (are_words (registers_of t.mode) t.counter (mode_number t.mode) (halt_code t.mode) t.stops (a_of t.talk) (b_of t.talk) (c_of t.fault) (d_of t.fault)
    (e_of t.fault) (registers_long t.mode shaped))

module _ (w : World) (nester : Path) (slot : ℕ) (sp : List Path) where
  abbrev see : Ptr → Ptr
  see = cut_ptr (ports_of w nester slot) nester slot

  abbrev f : Sweep
  f = cutting (ports_of w nester slot) nester slot

  -- who serves is told by the port and by the field
  peer_is : (port : Ptr) (peer : Peer) → peer_from sp (see port) (field_as see (Some (peer_field peer)))
      ≡ peer_link sp (cut_peer (ports_of w nester slot) nester slot (is_out (see port)) peer)
  peer_is port peer = by (is_out (see port)) peer
    where
      by : (out : Bool) (peer : Peer) → cond out links.Outside (link_of sp (field_as see (Some (peer_field peer))))
          ≡ peer_link sp (cut_peer (ports_of w nester slot) nester slot out peer)
      by true peer = refl
      by false (Server thread) = refl
      by false Service = refl
      by false Parked = refl

  abbrev seen_talk : Option Talk → Option Talk
  seen_talk o = and_then f.talk o

  abbrev seen_fault : Option Fault → Option Fault
  seen_fault o = and_then f.fault o

  -- the four pointers of a thread
  abbrev four : Thread → List Ptr → List Ptr
  four t more = body_as see 0 (Some (Thread_of t)) ∷ body_as see 1 (Some (Thread_of t)) ∷ body_as see 2 (Some (Thread_of t))
      ∷ body_as see 3 (Some (Thread_of t)) ∷ more

  talk_is : (t : Thread) (o : Option Talk) (more : List Ptr) →
      talk_by sp (a_of (seen_talk o)) (b_of (seen_talk o)) (four (record t { talk = o }) more) ≡ option_map (talk_rec sp) (seen_talk o)
  talk_is t None more = refl
  talk_is t (Some talk) more = by talk.turn (peer_is talk.port talk.peer)
    where
      by : (turn : Turn) → peer_from sp (see talk.port) (field_as see (Some (peer_field talk.peer)))
          ≡ peer_link sp (cut_peer (ports_of w nester slot) nester slot (is_out (see talk.port)) talk.peer) →
          talk_by sp (turn_number turn) talk.moved (four (record t { talk = Some talk }) more) ≡
          Some (record {
            turn = turn_number turn;
            moved = talk.moved;
            port = link_of sp (see talk.port);
            server = peer_link sp (cut_peer (ports_of w nester slot) nester slot (is_out (see talk.port)) talk.peer);
          })
      by turns.Client e = λ i. Some (record { turn = 1; moved = talk.moved; port = link_of sp (see talk.port); server = e i })
      by turns.Server e = λ i. Some (record { turn = 2; moved = talk.moved; port = link_of sp (see talk.port); server = e i })

  fault_is : (t : Thread) (o : Option Fault) (more : List Ptr) →
      fault_by sp (c_of (seen_fault o)) (d_of (seen_fault o)) (e_of (seen_fault o)) (four (record t { fault = o }) more)
      ≡ option_map (fault_rec sp) (seen_fault o)
  fault_is t None more = refl
  fault_is t (Some fault) more = by fault.taker
    where
      by : (taker : Option Peer) →
          fault_by sp (c_of (seen_fault (Some (record fault { taker = taker })))) fault.page (flag_of fault.write)
          (four (record t { fault = Some (record fault { taker = taker }) }) more) ≡
          option_map (fault_rec sp) (seen_fault (Some (record fault { taker = taker })))
      by None = refl
      by (Some peer) =
          let e = peer_is fault.port peer in
          λ i. Some (record { page = fault.page; write = flag_of fault.write; port = link_of sp (see fault.port); taker = Some (e i) })

  thread_kept : (t : Thread) (more : List Ptr) → IsShapedMode t.mode →
      rec_from sp (record_of (seen_by f (Thread_of t))) (four t more)
      ≡ recs.Thread (thread_rec sp (record t { talk = seen_talk t.talk; fault = seen_fault t.fault }))
  unfolding seen_by
  thread_kept t more shaped =
      let u : Thread = record t { talk = seen_talk t.talk; fault = seen_fault t.fault } in
      let its = thread_is u shaped in
      let talk = (λ i. talk_by sp (its.turn i) (its.moved i) (four t more)) ∙ talk_is t t.talk more in
      let fault = (λ i. fault_by sp (its.state i) (its.page i) (its.write i) (four t more)) ∙ fault_is t t.fault more in
      by_thread (word (record_of (Thread_of u)) 0) its.kind ∙
      (λ i. recs.Thread (record {
        regs = its.regs i;
        pc = its.pc i;
        mode = its.mode i;
        code = its.code i;
        stops = its.stops i;
        talk = talk i;
        fault = fault i;
      }))
    where
      by_thread : (kind : ℕ) → kind ≡ 8 → rec_by kind sp (record_of (seen_by f (Thread_of t))) (four t more)
          ≡ recs.Thread (thread_from sp (record_of (seen_by f (Thread_of t))) (four t more))
      by_thread kind e = ap (λ (n : ℕ). rec_by n sp (record_of (seen_by f (Thread_of t))) (four t more)) e

  -- every object but a space
  pub rec_is : (b : Body) (more : List Ptr) (r : Rec) → ((t : Thread) → b ≡ Thread_of t → IsShapedMode t.mode) → rec_of sp (seen_by f b) ≡ Some r →
      rec_from sp (record_of (seen_by f b)) (map (λ (n : ℕ). body_as see n (Some b)) (pointer_fields (Some (seen_by f b))) ++ more) ≡ r
  unfolding seen_by record_of
  rec_is (Mutex locked) more r shaped e = same_rec _ r e
  rec_is Cond more r shaped e = same_rec _ r e
  rec_is (Mapping m) more r shaped e = same_rec _ r e
  rec_is (Region g) more r shaped e = same_rec _ r e
  rec_is (Port set served) more r shaped e = same_rec _ r e
  rec_is Portset more r shaped e = same_rec _ r e
  rec_is (Space birth holder) more r shaped e = cc
  rec_is (Thread_of t) more r shaped e = thread_kept t more (shaped t refl) ∙ same_rec _ r e
  rec_is (Reference to) more r shaped e = same_rec _ r e
