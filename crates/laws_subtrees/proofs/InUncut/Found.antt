-- What a reader finds in a world that is nobody's cut leads somewhere in it or nowhere; and so does a missing page's keeper.
use Rattle.std.proofs.Common.{◌≡◌, ℕ, zero, suc, ◌/◌, Bool, true, false, ◌||◌, if◌then◌else◌, nat_lt, eqb, List, [], ◌∷◌, ◌++◌, Option, Some, None, Result, Ok}
use Rattle.std.proofs.Common.{Err, refl, sym, ap, ◌∙◌}
use Rattle.std.specs.List.{list_any}
use Rattle.fk_model.specs.declared.limits.TheConstants.{SLOTS, MAPPINGS, SPACE_WORDS, PAGE_WORDS, OWN_SPACE}
use Rattle.fk_model.specs.declared.names.Kind.{Kind}
use Rattle.fk_model.specs.declared.names.Kind.TheVariants as kinds
use Rattle.fk_model.specs.declared.statuses.status.TheConstants.{WRONGKIND}
use Rattle.fk_model.specs.Places.{Path, Ptr}
use Rattle.fk_model.specs.Places.Ptr.{Null, At, Out}
use Rattle.fk_model.specs.Objects.{Window, Extent, Talk, Fault, Peer, Thread, Body, kind_of, same_kind, region_of, covers, reference_of, and_then}
use Rattle.fk_model.specs.Objects.Peer.{Server, Service, Parked}
use Rattle.fk_model.specs.Objects.Body.{Mutex, Cond, Mapping, Region, Port, Portset, Space, Thread_of, Reference}
use Rattle.fk_model.specs.World.{World}
use Rattle.fk_model.specs.Searches.{peer_pointer, option_list, talk_pointers, fault_pointers, pointers}
use Rattle.fk_model.specs.Reach.{Reach, region_at, mapping_at, live_keeper, keeper, led_by, followed, mapped, at_home, reach_within, reach, reach_word}
use Rattle.fk_model.specs.Reach.Reach.{Home, Missing, Bad}
use Rattle.fk_model.specs.Outcomes.{Caller}
use Rattle.fk_model.specs.Readers.{and_read, anything, object_in, kind_at, is_kind, led_to, referred}
use Rattle.fk_model.specs.FaultRows.{named_taker}
use Rattle.fk_model.specs.ObjectRows.{pointer_to, pointer_in}
use Rattle.fk_model.specs.StateRows.{Field, or_null, peer_field, thread_field, first_field, field_of, field_pointer, referable}
use Rattle.fk_model.specs.StateRows.Field.{Pointer}
use Rattle.fk_model.specs.Sound.{is_cut_pointer, IsUncut}
use Rattle.fk_model.proofs.walks.Lowest.{lowest-found}
use Rattle.laws_moves.proofs.InMachine.safety.Reads.{object_in-found, object-there}
use Rattle.laws_subtrees.proofs.InUncut.Outcomes.{IsOurs, AreOurs}

-- ---- pointers

pub first-ours : (p : Ptr) (ps : List Ptr) → AreOurs (p ∷ ps) → IsOurs p
first-ours p ps h = by (is_cut_pointer p) h
  where
    by : (t : Bool) → (t || list_any is_cut_pointer ps) ≡ false → t ≡ false
    by true e = e
    by false e = refl

pub rest-ours : (p : Ptr) (ps : List Ptr) → AreOurs (p ∷ ps) → AreOurs ps
rest-ours p ps h = by (is_cut_pointer p) h
  where
    by : (t : Bool) → (t || list_any is_cut_pointer ps) ≡ false → list_any is_cut_pointer ps ≡ false
    by true e = cc
    by false e = e

pub both-ours : (ps qs : List Ptr) → AreOurs ps → AreOurs qs → AreOurs (ps ++ qs)
both-ours [] qs h g = g
both-ours (p ∷ ps) qs h g = let one = first-ours p ps h in let rest = both-ours ps qs (rest-ours p ps h) g in rw (one, rest) refl

pub left-ours : (ps qs : List Ptr) → AreOurs (ps ++ qs) → AreOurs ps
left-ours [] qs h = refl
left-ours (p ∷ ps) qs h = let one = first-ours p (ps ++ qs) h in let rest = left-ours ps qs (rest-ours p (ps ++ qs) h) in rw (one, rest) refl

pub right-ours : (ps qs : List Ptr) → AreOurs (ps ++ qs) → AreOurs qs
right-ours [] qs h = h
right-ours (p ∷ ps) qs h = right-ours ps qs (rest-ours p (ps ++ qs) h)

pub pair-ours : (p q : Ptr) → IsOurs p → IsOurs q → AreOurs (p ∷ q ∷ [])
pair-ours p q one two = rw (one, two) refl

pub one-ours : (p : Ptr) → IsOurs p → AreOurs (p ∷ [])
one-ours p one = rw one refl

module _ (w : World) (uncut : IsUncut w) where
  pub body-ours : (x : Path) (b : Body) → w.body x ≡ Some b → AreOurs (pointers b)
  body-ours x b there = ap (λ (o : Option Body). list_any is_cut_pointer (option_list pointers o)) (sym there) ∙ uncut x

  -- ---- readers

  pub reference-ours : (c : Caller) (s : Path) (k : ℕ) (to : Ptr) → object_in w c reference_of s k ≡ Ok to → IsOurs to
  reference-ours c s k to read = let found = object_in-found w c reference_of s k to read in by found.body found.seen (body-ours (k ∷ s) found.body found.there)
    where
      by : (b : Body) → reference_of b ≡ Some to → AreOurs (pointers b) → IsOurs to
      by (Reference old) seen ours = let same : old ≡ to = cc in ap is_cut_pointer (sym same) ∙ first-ours old [] ours
      by b seen ours = cc

  led-ours : (wanted : Kind) (to p : Ptr) → IsOurs to → led_to w wanted to ≡ Ok p → IsOurs p
  led-ours wanted (At x) p ours h = by (is_kind wanted (kind_at w (At x))) h
    where
      by : (t : Bool) → (if t then Ok (At x) else Err WRONGKIND) ≡ Ok p → IsOurs p
      by true e = let same : p ≡ At x = cc in ap is_cut_pointer same
      by false e = cc
  led-ours wanted (Out slot) p ours h = cc
  led-ours wanted to p ours h = cc

  pub referred-ours : (c : Caller) (wanted : Kind) (k : ℕ) (p : Ptr) → referred w c wanted k ≡ Ok p → IsOurs p
  unfolding referred
  referred-ours c wanted k p read = by (object_in w c reference_of c.space k) refl read
    where
      by : (r : Result Ptr ℕ) → object_in w c reference_of c.space k ≡ r → and_read r (led_to w wanted) ≡ Ok p → IsOurs p
      by (Ok to) e h = led-ours wanted to p (reference-ours c c.space k to e) h
      by (Err status) e h = cc

  pub taker-ours : (c : Caller) (taker : ℕ) (o : Option Peer) → named_taker w c taker ≡ Ok o → AreOurs (option_list peer_pointer o)
  taker-ours c taker o read = by (eqb taker OWN_SPACE) (referred w c kinds.Thread taker) refl read
    where
      by : (t : Bool) (r : Result Ptr ℕ) → referred w c kinds.Thread taker ≡ r
          → (if t then Ok None else and_read r (λ thread. Ok (Some (Server thread)))) ≡ Ok o →
          AreOurs (option_list peer_pointer o)
      by true r e h = let same : o ≡ None = cc in ap (λ (o : Option Peer). list_any is_cut_pointer (option_list peer_pointer o)) same
      by false (Ok thread) e h =
          let same : o ≡ Some (Server thread) = cc in
          ap (λ (o : Option Peer). list_any is_cut_pointer (option_list peer_pointer o)) same ∙ one-ours thread (referred-ours c kinds.Thread taker thread e)
      by false (Err status) e h = cc

  pub pointer-ours : (c : Caller) (space : Path) (k : ℕ) (to : Ptr) → pointer_in w c space k ≡ Ok to → IsOurs to
  pointer-ours c space k to read =
      let found = object_in-found w c (pointer_to (k ∷ space)) space k to read in
      by found.body found.seen (body-ours (k ∷ space) found.body found.there)
    where
      path : (t : Bool) → (if t then Some (At (k ∷ space)) else None) ≡ Some to → IsOurs to
      path true e = let same : to ≡ At (k ∷ space) = cc in ap is_cut_pointer same
      path false e = cc

      by : (b : Body) → pointer_to (k ∷ space) b ≡ Some to → AreOurs (pointers b) → IsOurs to
      by (Reference old) seen ours = let same : old ≡ to = cc in ap is_cut_pointer (sym same) ∙ first-ours old [] ours
      by b seen ours = path (list_any (same_kind (kind_of b)) referable) seen

  -- ---- fields

  abbrev IsOursField : Option Field → Type 0
  IsOursField None = Unit {0}
  IsOursField (Some field) = IsOurs (field_pointer field)

  first-field : (n : ℕ) (p : Ptr) → IsOurs p → IsOursField (first_field n (Pointer p))
  first-field n p ours = by (eqb n 0)
    where
      by : (t : Bool) → IsOursField (if t then Some (Pointer p) else None)
      by true = ours
      by false = tt

  peer-field : (peer : Peer) → AreOurs (peer_pointer peer) → IsOurs (field_pointer (peer_field peer))
  peer-field (Server thread) ours = first-ours thread [] ours
  peer-field Service ours = refl
  peer-field Parked ours = refl

  thread-field : (t : Thread) (n : ℕ) → AreOurs (pointers (Thread_of t)) → IsOursField (thread_field t n)
  thread-field t n ours = by (eqb n 0) (eqb n 1) (eqb n 2) (eqb n 3)
    where
      talks : AreOurs (option_list talk_pointers t.talk)
      talks = left-ours (option_list talk_pointers t.talk) (option_list fault_pointers t.fault) ours

      faults : AreOurs (option_list fault_pointers t.fault)
      faults = right-ours (option_list talk_pointers t.talk) (option_list fault_pointers t.fault) ours

      port : (o : Option Talk) → AreOurs (option_list talk_pointers o)
          → IsOurs (field_pointer (or_null (and_then (λ (talk : Talk). Some (Pointer talk.port)) o)))
      port None h = refl
      port (Some talk) h = first-ours talk.port (peer_pointer talk.peer) h

      peer : (o : Option Talk) → AreOurs (option_list talk_pointers o)
          → IsOurs (field_pointer (or_null (and_then (λ (talk : Talk). Some (peer_field talk.peer)) o)))
      peer None h = refl
      peer (Some talk) h = peer-field talk.peer (rest-ours talk.port (peer_pointer talk.peer) h)

      keeps : (o : Option Fault) → AreOurs (option_list fault_pointers o)
          → IsOurs (field_pointer (or_null (and_then (λ (fault : Fault). Some (Pointer fault.port)) o)))
      keeps None h = refl
      keeps (Some fault) h = first-ours fault.port (option_list peer_pointer fault.taker) h

      taker : (o : Option Peer) → AreOurs (option_list peer_pointer o) → IsOurs (field_pointer (or_null (and_then (λ p. Some (peer_field p)) o)))
      taker None h = refl
      taker (Some p) h = peer-field p h

      takes : (o : Option Fault) → AreOurs (option_list fault_pointers o)
          → IsOurs (field_pointer (or_null (and_then (λ (fault : Fault). and_then (λ p. Some (peer_field p)) fault.taker) o)))
      takes None h = refl
      takes (Some fault) h = taker fault.taker (rest-ours fault.port (option_list peer_pointer fault.taker) h)

      by : (a b c d : Bool) → IsOursField (if a then Some (or_null (and_then (λ (talk : Talk). Some (Pointer talk.port)) t.talk)) else
          (if b then Some (or_null (and_then (λ (talk : Talk). Some (peer_field talk.peer)) t.talk)) else
          (if c then Some (or_null (and_then (λ (fault : Fault). Some (Pointer fault.port)) t.fault)) else
          (if d then Some (or_null (and_then (λ (fault : Fault). and_then (λ p. Some (peer_field p)) fault.taker) t.fault)) else None))))
      by true b c d = port t.talk talks
      by false true c d = peer t.talk talks
      by false false true d = keeps t.fault faults
      by false false false true = takes t.fault faults
      by false false false false = tt

  holder-field : (n : ℕ) (birth : ℕ) (o : Option Ptr) → AreOurs (pointers (Space birth o))
      → IsOursField (first_field n (or_null (and_then (λ p. Some (Pointer p)) o)))
  holder-field n birth None ours = first-field n Null refl
  holder-field n birth (Some p) ours = first-field n p (first-ours p [] ours)

  some-field : (n : ℕ) (b : Body) → AreOurs (pointers b) → IsOursField (field_of n b)
  some-field n (Mapping m) ours = first-field n m.region (first-ours m.region [] ours)
  some-field n (Region r) ours = first-field n r.keeper (first-ours r.keeper [] ours)
  some-field n (Reference to) ours = first-field n to (first-ours to [] ours)
  some-field n (Space birth holder) ours = holder-field n birth holder ours
  some-field n (Thread_of t) ours = thread-field t n ours
  some-field n (Mutex locked) ours = tt
  some-field n Cond ours = tt
  some-field n (Port set served) ours = tt
  some-field n Portset ours = tt

  pub field-ours : (c : Caller) (space : Path) (k n : ℕ) (b : Body) (field : Field) → object_in w c anything space k ≡ Ok b → field_of n b ≡ Some field
      → IsOurs (field_pointer field)
  field-ours c space k n b field read is =
      by (field_of n b) is (some-field n b (body-ours (k ∷ space) b (object-there w c k space b read)))
    where
      by : (o : Option Field) → o ≡ Some field → IsOursField o → IsOurs (field_pointer field)
      by (Some other) e ours = let same : other ≡ field = cc in ap (λ (f : Field). is_cut_pointer (field_pointer f)) (sym same) ∙ ours
      by None e ours = cc

  -- ---- a missing page's keeper

  live-ours : (p port : Ptr) → IsOurs p → live_keeper p ≡ Some port → IsOurs port
  live-ours (At x) port ours e = let same : port ≡ At x = cc in ap is_cut_pointer same
  live-ours (Out slot) port ours e = cc
  live-ours p port ours e = cc

  pub keeper-ours : (s : Path) (page : ℕ) (port : Ptr) → keeper w s page ≡ Some port → IsOurs port
  unfolding keeper region_at
  keeper-ours s page port h = by (region_at w s page) refl h
    where
      region : (o : Option Body) (r : Extent) → AreOurs (option_list pointers o) → and_then region_of o ≡ Some r → IsOurs r.keeper
      region (Some (Region old)) r ours e = let same : old ≡ r = cc in ap (λ (r : Extent). is_cut_pointer r.keeper) (sym same) ∙ first-ours old.keeper [] ours
      region (Some b) r ours e = cc
      region None r ours e = cc

      one : (o : Option Body) (r : Extent) → AreOurs (option_list pointers o) →
          and_then (λ (r : Extent). if covers r.first r.count page then Some r else None) (and_then region_of o) ≡ Some r → IsOurs r.keeper
      one o r ours e = on (and_then region_of o) refl e
        where
          test : (old : Extent) (t : Bool) → and_then region_of o ≡ Some old → (if t then Some old else None) ≡ Some r → IsOurs r.keeper
          test old true is e = let same : old ≡ r = cc in ap (λ (r : Extent). is_cut_pointer r.keeper) (sym same) ∙ region o old ours is
          test old false is e = cc

          on : (p : Option Extent) → and_then region_of o ≡ p → and_then (λ (r : Extent). if covers r.first r.count page then Some r else None) p ≡ Some r
              → IsOurs r.keeper
          on None is e = cc
          on (Some old) is e = test old (covers old.first old.count page) is e

      by : (o : Option Extent) → region_at w s page ≡ o → and_then (λ (r : Extent). live_keeper r.keeper) o ≡ Some port → IsOurs port
      by None e h = cc
      by (Some r) e h = let found = lowest-found SLOTS _ r e in live-ours r.keeper port (one (w.body (found.0 ∷ s)) r (uncut (found.0 ∷ s)) found.1) h

  abbrev pub IsOursReach : Reach → Type 0
  IsOursReach (Missing s page keeper) = AreOurs (option_list (λ p. p ∷ []) keeper)
  IsOursReach (Home s page) = Unit {0}
  IsOursReach Bad = Unit {0}

  missing-ours : (s : Path) (page : ℕ) → IsOursReach (Missing s page (keeper w s page))
  missing-ours s page = by (keeper w s page) refl
    where
      by : (o : Option Ptr) → keeper w s page ≡ o → AreOurs (option_list (λ p. p ∷ []) o)
      by None e = refl
      by (Some port) e = one-ours port (keeper-ours s page port e)

  at_home-ours : (s : Path) (page : ℕ) (away : Reach) → IsOursReach away → IsOursReach (at_home (Home s page) away (w.page s page))
  at_home-ours s page away ours = by (w.page s page)
    where
      by : (o : Option (List ℕ)) → IsOursReach (at_home (Home s page) away o)
      by None = ours
      by (Some words) = tt

  mapped-ours : (go : Window → Reach) (missing : Reach) (o : Option Window) → IsOursReach missing → ((m : Window) → IsOursReach (go m))
      → IsOursReach (mapped go missing o)
  mapped-ours go missing None here there = here
  mapped-ours go missing (Some m) here there = there m

  followed-ours : (go : Path → ℕ → Reach) (o : Option (Path × ℕ)) → ((s : Path) (page : ℕ) → IsOursReach (go s page)) → IsOursReach (followed go o)
  followed-ours go None there = tt
  followed-ours go (Some place) there = there place.0 place.1

  within-ours : (n : ℕ) (s : Path) (page : ℕ) (write : Bool) → IsOursReach (reach_within n w s page write)
  unfolding reach_within
  within-ours zero s page write = at_home-ours s page _ (mapped-ours (λ m. Bad) _ (mapping_at w s page) (missing-ours s page) (λ m. tt))
  within-ours (suc n) s page write =
      at_home-ours s page _ (mapped-ours _ _ (mapping_at w s page) (missing-ours s page)
      (λ m. followed-ours _ (led_by w m page write m.region) (λ t other. within-ours n t other write)))

  pub word-ours : (s : Path) (address : ℕ) (write : Bool) → IsOursReach (reach_word w s address write)
  unfolding reach
  word-ours s address write = by (nat_lt address SPACE_WORDS)
    where
      by : (t : Bool) → IsOursReach (if t then reach w s (address / PAGE_WORDS) write else Bad)
      by true = within-ours MAPPINGS s (address / PAGE_WORDS) write
      by false = tt
