-- Events: the walk over pointers judges a list of places, one after the other.
use Rattle.std.proofs.Common.{◌≡◌, ℕ, ◌+◌, ◌*◌, Bool, true, false, cond, not, ◌&&◌, List, [], ◌∷◌, ◌++◌, length, Option, Some, None, Result, Ok, Err}
use Rattle.std.proofs.Common.{refl, sym, ap, subst, ◌∙◌, arith}
use Rattle.std.specs.List.{sum_by}
use Rattle.std.proofs.lemmas.List.Sums.{sum_by-cons}
use Rattle.fk_image.specs.declared.image.image.Link.{Link}
use Rattle.fk_image.specs.declared.image.image.Link.TheVariants.{Null, Dead, In, Out, Root, Outside}
use Rattle.fk_image.specs.declared.image.image.TalkRec.{TalkRec}
use Rattle.fk_image.specs.declared.image.image.FaultRec.{FaultRec}
use Rattle.fk_image.specs.declared.image.image.ThreadRec.{ThreadRec}
use Rattle.fk_image.specs.declared.image.image.Rec.{Rec}
use Rattle.fk_image.specs.declared.image.image.Rec.TheVariants.{Mutex, Cond, Portset, Mapping, Region, Port, Thread, Reference}
use Rattle.fk_image.specs.declared.image.image.ObjectRec.{ObjectRec}
use Rattle.fk_image.specs.declared.image.image.SpaceRec.{SpaceRec}
use Rattle.fk_image.specs.Image.Links.{is_set_of}
use Rattle.fk_image.specs.Format.Fields.{◌>>=◌}
use Rattle.fk_image.specs.Format.Spelling.{link_bytes}
use Rattle.fk_image.specs.Format.Offsets.{Named, with_peer, is_named, Walk, expect_at, peer_walk, port_walk, talk_walk, taker_walk, fault_walk, past, link_walk}
use Rattle.fk_image.specs.Format.Offsets.{thread_walk}
use Rattle.fk_image.specs.Format.Offsets.{set_walk, body_walk, objects_walk, space_walk, spaces_walk}
use Rattle.fk_image.specs.Form.Holding.{PointerField}
use Rattle.fk_image.specs.Form.Holding.PointerField.{Holder, MappedRegion, Keeper, Target, AtPort, Server}
use Rattle.fk_image.specs.Form.Standing.{link_size, talk_size, taker_size, fault_size, talk_begins, fault_begins, body_size, object_size, objects_begin}
use Rattle.fk_image.specs.Form.Standing.{space_size}
use Rattle.laws_image_faults.proofs.Holding.{may}

-- ---- places, and what stands there

pub data What : Type 0 where
  Points : (f : PointerField) (to : Link) → What
  Sets : (objects : List ObjectRec) (set : ℕ) → What

pub record Event : Type 0 where
  pub at : ℕ
  pub what : What

abbrev pub right : List SpaceRec → What → Bool
right spaces (Points f to) = may spaces f to
right spaces (Sets objects set) = is_set_of objects set

-- it names a thread that was named before
abbrev pub again : What → Named → Bool
again (Points (Server port) to) named = is_named named to
again other named = false

abbrev pub with_named : What → Named → Named
with_named (Points (Server port) to) named = with_peer to named
with_named other named = named

unfoldable pub judge : List SpaceRec → List Event → Named → Result Named ℕ
judge spaces [] named = Ok named
judge spaces (e ∷ es) named = cond (right spaces e.what && not (again e.what named)) (judge spaces es (with_named e.what named)) (Err e.at)

-- ---- the places of an image

abbrev pub event : ℕ → What → Event
event at what = record { at = at; what = what }

abbrev pub talk_events : Option TalkRec → ℕ → List Event
talk_events None at = []
talk_events (Some talk) at = event (at + 3) (Points AtPort talk.port) ∷ event (at + 3 + link_size talk.port) (Points (Server talk.port) talk.server) ∷ []

abbrev pub taker_events : Link → Option Link → ℕ → List Event
taker_events port None at = []
taker_events port (Some taker) at = event at (Points (Server port) taker) ∷ []

abbrev pub fault_events : Option FaultRec → ℕ → List Event
fault_events None at = []
fault_events (Some fault) at = event (at + 3) (Points AtPort fault.port) ∷ taker_events fault.port fault.taker (at + 3 + link_size fault.port)

abbrev pub body_events : List ObjectRec → Rec → ℕ → List Event
body_events objects (Mutex locked) at = []
body_events objects Cond at = []
body_events objects Portset at = []
body_events objects (Mapping first count offset write region) at = event (at + 7) (Points MappedRegion region) ∷ []
body_events objects (Region first count write keeper) at = event (at + 6) (Points Keeper keeper) ∷ []
body_events objects (Port set) at = event (at + 2) (Sets objects set) ∷ []
body_events objects (Thread t) at = talk_events t.talk (at + talk_begins) ++ fault_events t.fault (at + fault_begins t)
body_events objects (Reference to) at = event (at + 2) (Points Target to) ∷ []

abbrev pub objects_events : List ObjectRec → List ObjectRec → ℕ → List Event
objects_events all [] at = []
objects_events all (o ∷ os) at = body_events all o.body at ++ objects_events all os (at + object_size o)

abbrev pub space_events : ℕ → SpaceRec → ℕ → List Event
space_events n s at = event (at + 5) (Points (Holder n) s.holder) ∷ objects_events s.objects s.objects (at + objects_begin s)

abbrev pub spaces_events : ℕ → List SpaceRec → ℕ → List Event
spaces_events n [] at = []
spaces_events n (s ∷ ss) at = space_events n s at ++ spaces_events (n + 1) ss (at + space_size s)

-- ---- walks

abbrev pub walk_at : ℕ → Named → Walk
walk_at at named = record { at = at; named = named }

-- a walk goes over these places, and then stands there
abbrev pub Goes : List SpaceRec → List Event → Named → ℕ → Result Walk ℕ → Type 0
Goes spaces es named end r = r ≡ (judge spaces es named >>= λ (n : Named). Ok (walk_at end n))

module _ (spaces : List SpaceRec) where
  judge-append : (es fs : List Event) (named : Named) → judge spaces (es ++ fs) named ≡ (judge spaces es named >>= judge spaces fs)
  unfolding judge
  judge-append [] fs named = refl
  judge-append (e ∷ es) fs named = by (right spaces e.what && not (again e.what named)) (judge-append es fs (with_named e.what named))
    where
      by : (b : Bool) → judge spaces (es ++ fs) (with_named e.what named) ≡ (judge spaces es (with_named e.what named) >>= judge spaces fs)
          → cond b (judge spaces (es ++ fs) (with_named e.what named)) (Err e.at)
          ≡ (cond b (judge spaces es (with_named e.what named)) (Err e.at) >>= judge spaces fs)
      by true is = is
      by false is = refl

  goes-on : (es fs : List Event) (named : Named) (mid end : ℕ) (r : Result Walk ℕ) (f : Walk → Result Walk ℕ) → Goes spaces es named mid r
      → ((n : Named) → Goes spaces fs n end (f (walk_at mid n))) → Goes spaces (es ++ fs) named end (r >>= f)
  goes-on es fs named mid end r f one two =
      ap (λ r. r >>= f) one ∙ by (judge spaces es named) ∙ ap (λ r. r >>= λ (n : Named). Ok (walk_at end n)) (sym (judge-append es fs named))
    where
      by : (j : Result Named ℕ) → ((j >>= λ (n : Named). Ok (walk_at mid n)) >>= f) ≡ ((j >>= judge spaces fs) >>= λ (n : Named). Ok (walk_at end n))
      by (Ok n) = two n
      by (Err at) = refl

  goes-to : (es : List Event) (named : Named) (a b : ℕ) (r : Result Walk ℕ) → a ≡ b → Goes spaces es named a r → Goes spaces es named b r
  goes-to es named a b r same goes = subst (λ end. Goes spaces es named end r) same goes

  long : (to : Link) → length (link_bytes to) ≡ link_size to
  long Null = refl
  long Dead = refl
  long (In slot space) = refl
  long (Out slot) = refl
  long Root = refl
  long Outside = refl

  -- ---- one place

  plain : (what : What) (at end : ℕ) (named : Named) → again what named ≡ false → with_named what named ≡ named
      → Goes spaces (event at what ∷ []) named end (expect_at (right spaces what) at >>= λ _. Ok (walk_at end named))
  unfolding judge
  plain what at end named fresh same = rw (fresh, same) (by (right spaces what))
    where
      by : (b : Bool) → (expect_at b at >>= λ _. Ok (walk_at end named)) ≡ (cond (b && true) (Ok named) (Err at) >>= λ (n : Named). Ok (walk_at end n))
      by true = refl
      by false = refl

  link-goes : (f : PointerField) (to : Link) (before at : ℕ) (named : Named) → again (Points f to) named ≡ false → with_named (Points f to) named ≡ named
      → Goes spaces (event (at + before) (Points f to) ∷ []) named (at + (before + link_size to)) (link_walk (may spaces f to) before to (walk_at at named))
  unfolding link_walk
  link-goes f to before at named fresh same =
      ap (λ k. expect_at (may spaces f to) (at + before) >>= λ _. Ok (walk_at (at + (before + k)) named)) (long to)
      ∙ plain (Points f to) (at + before) (at + (before + link_size to)) named fresh same

  port-goes : (port : Link) (at : ℕ) (named : Named)
      → Goes spaces (event (at + 3) (Points AtPort port) ∷ []) named (at + 3 + link_size port) (port_walk spaces port (walk_at at named))
  unfolding port_walk
  port-goes port at named = ap (λ k. expect_at (may spaces AtPort port) (at + 3) >>= λ _. Ok (walk_at (at + 3 + k) named)) (long port)
      ∙ plain (Points AtPort port) (at + 3) (at + 3 + link_size port) named refl refl

  server-goes : (port to : Link) (at : ℕ) (named : Named)
      → Goes spaces (event at (Points (Server port) to) ∷ []) named (at + link_size to) (peer_walk spaces port to (walk_at at named))
  unfolding peer_walk judge
  server-goes port to at named =
      ap (λ k. expect_at (may spaces (Server port) to && not (is_named named to)) at >>= λ _. Ok (walk_at (at + k) (with_peer to named))) (long to)
      ∙ by (may spaces (Server port) to && not (is_named named to))
    where
      by : (b : Bool) → (expect_at b at >>= λ _. Ok (walk_at (at + link_size to) (with_peer to named)))
          ≡ (cond b (Ok (with_peer to named)) (Err at) >>= λ (n : Named). Ok (walk_at (at + link_size to) n))
      by true = refl
      by false = refl

  set-goes : (objects : List ObjectRec) (set at : ℕ) (named : Named)
      → Goes spaces (event (at + 2) (Sets objects set) ∷ []) named (at + 4) (set_walk (is_set_of objects set) (walk_at at named))
  unfolding set_walk
  set-goes objects set at named = plain (Sets objects set) (at + 2) (at + 4) named refl refl

  none-goes : (end : ℕ) (named : Named) → Goes spaces [] named end (Ok (walk_at end named))
  unfolding judge
  none-goes end named = refl

  -- ---- talks and faults

  talk-goes : (o : Option TalkRec) (at : ℕ) (named : Named) → Goes spaces (talk_events o at) named (at + talk_size o) (talk_walk spaces o (walk_at at named))
  talk-goes None at named = none-goes (at + 1) named
  talk-goes (Some talk) at named =
      let port = event (at + 3) (Points AtPort talk.port) ∷ [] in
      let server = event (at + 3 + link_size talk.port) (Points (Server talk.port) talk.server) ∷ [] in
      goes-to (port ++ server) named (at + 3 + link_size talk.port + link_size talk.server) (at + (3 + link_size talk.port + link_size talk.server))
      (port_walk spaces talk.port (walk_at at named) >>= peer_walk spaces talk.port talk.server) (omega arith)
      (goes-on port server named (at + 3 + link_size talk.port) (at + 3 + link_size talk.port + link_size talk.server)
      (port_walk spaces talk.port (walk_at at named)) (peer_walk spaces talk.port talk.server) (port-goes talk.port at named)
      (λ n. server-goes talk.port talk.server (at + 3 + link_size talk.port) n))

  taker-goes : (port : Link) (o : Option Link) (at : ℕ) (named : Named)
      → Goes spaces (taker_events port o at) named (at + taker_size o) (taker_walk spaces port o (walk_at at named))
  taker-goes port None at named = let same : at ≡ at + 0 = omega arith in goes-to [] named at (at + 0) (Ok (walk_at at named)) same (none-goes at named)
  taker-goes port (Some taker) at named = server-goes port taker at named

  fault-goes : (o : Option FaultRec) (at : ℕ) (named : Named)
      → Goes spaces (fault_events o at) named (at + fault_size o) (fault_walk spaces o (walk_at at named))
  fault-goes None at named = none-goes (at + 1) named
  fault-goes (Some fault) at named =
      let port = event (at + 3) (Points AtPort fault.port) ∷ [] in
      let taker = taker_events fault.port fault.taker (at + 3 + link_size fault.port) in
      goes-to (port ++ taker) named (at + 3 + link_size fault.port + taker_size fault.taker) (at + (3 + link_size fault.port + taker_size fault.taker))
      (port_walk spaces fault.port (walk_at at named) >>= taker_walk spaces fault.port fault.taker) (omega arith)
      (goes-on port taker named (at + 3 + link_size fault.port) (at + 3 + link_size fault.port + taker_size fault.taker)
      (port_walk spaces fault.port (walk_at at named)) (taker_walk spaces fault.port fault.taker) (port-goes fault.port at named)
      (λ n. taker-goes fault.port fault.taker (at + 3 + link_size fault.port) n))

  thread-goes : (t : ThreadRec) (at : ℕ) (named : Named)
      → Goes spaces (talk_events t.talk (at + talk_begins) ++ fault_events t.fault (at + fault_begins t)) named (at + (fault_begins t + fault_size t.fault))
      (thread_walk spaces t (walk_at at named))
  unfolding thread_walk
  thread-goes t at named =
      let talk = talk_events t.talk (at + talk_begins) in
      let begins : at + talk_begins + talk_size t.talk ≡ at + fault_begins t = omega arith in
      let fault = fault_events t.fault (at + fault_begins t) in
      goes-to (talk ++ fault) named (at + fault_begins t + fault_size t.fault) (at + (fault_begins t + fault_size t.fault))
      (talk_walk spaces t.talk (walk_at (at + talk_begins) named) >>= fault_walk spaces t.fault) (omega arith)
      (goes-on talk fault named (at + fault_begins t) (at + fault_begins t + fault_size t.fault) (talk_walk spaces t.talk (walk_at (at + talk_begins) named))
      (fault_walk spaces t.fault) (goes-to talk named (at + talk_begins + talk_size t.talk) (at + fault_begins t)
      (talk_walk spaces t.talk (walk_at (at + talk_begins) named)) begins (talk-goes t.talk (at + talk_begins) named))
      (λ n. fault-goes t.fault (at + fault_begins t) n))

  -- ---- objects and spaces

  body-goes : (objects : List ObjectRec) (b : Rec) (at : ℕ) (named : Named)
      → Goes spaces (body_events objects b at) named (at + body_size b) (body_walk spaces objects b (walk_at at named))
  body-goes objects (Mutex locked) at named = none-goes (at + 3) named
  body-goes objects Cond at named = none-goes (at + 2) named
  body-goes objects Portset at named = none-goes (at + 2) named
  body-goes objects (Mapping first count offset write region) at named = link-goes MappedRegion region 7 at named refl refl
  body-goes objects (Region first count write keeper) at named = link-goes Keeper keeper 6 at named refl refl
  body-goes objects (Port set) at named = set-goes objects set at named
  body-goes objects (Thread t) at named = thread-goes t at named
  body-goes objects (Reference to) at named = link-goes Target to 2 at named refl refl

  objects-go : (all os : List ObjectRec) (at : ℕ) (named : Named)
      → Goes spaces (objects_events all os at) named (at + sum_by object_size os) (objects_walk spaces all os (walk_at at named))
  unfolding objects_walk
  objects-go all [] at named = let same : at ≡ at + 0 = omega arith in goes-to [] named at (at + 0) (Ok (walk_at at named)) same (none-goes at named)
  objects-go all (o ∷ os) at named =
      let here = body_events all o.body at in
      let rest = objects_events all os (at + object_size o) in
      let sum = sum_by-cons object_size o os in
      goes-to (here ++ rest) named (at + object_size o + sum_by object_size os) (at + sum_by object_size (o ∷ os))
      (body_walk spaces all o.body (walk_at at named) >>= objects_walk spaces all os) (omega (arith, sum))
      (goes-on here rest named (at + object_size o) (at + object_size o + sum_by object_size os) (body_walk spaces all o.body (walk_at at named))
      (objects_walk spaces all os) (body-goes all o.body at named) (λ n. objects-go all os (at + object_size o) n))

  -- what stands behind them doesn't change who is named
  goes-past : (es : List Event) (named : Named) (end size : ℕ) (r : Result Walk ℕ) → Goes spaces es named end r
      → Goes spaces es named (end + size) (r >>= λ w. Ok (past size w))
  goes-past es named end size r goes = ap (λ r. r >>= λ w. Ok (past size w)) goes ∙ by (judge spaces es named)
    where
      by : (j : Result Named ℕ) → ((j >>= λ (n : Named). Ok (walk_at end n)) >>= λ w. Ok (past size w)) ≡ (j >>= λ (n : Named). Ok (walk_at (end + size) n))
      by (Ok n) = refl
      by (Err at) = refl

  space-goes : (n : ℕ) (s : SpaceRec) (at : ℕ) (named : Named)
      → Goes spaces (space_events n s at) named (at + space_size s) (space_walk spaces n s (walk_at at named))
  unfolding space_walk
  space-goes n s at named =
      let holder = event (at + 5) (Points (Holder n) s.holder) ∷ [] in
      let rest = objects_events s.objects s.objects (at + objects_begin s) in
      let last = 2 + 513 * length s.pages in
      let begins : at + (5 + link_size s.holder) + 2 ≡ at + objects_begin s = omega arith in
      let ends : at + objects_begin s + sum_by object_size s.objects + last ≡ at + space_size s = omega arith in
      goes-on holder rest named (at + (5 + link_size s.holder)) (at + space_size s) (link_walk (may spaces (Holder n) s.holder) 5 s.holder (walk_at at named))
      (λ held. objects_walk spaces s.objects s.objects (past 2 held) >>= λ w. Ok (past last w)) (link-goes (Holder n) s.holder 5 at named refl refl)
      (λ m. subst (λ b. Goes spaces rest m (at + space_size s) (objects_walk spaces s.objects s.objects (walk_at b m) >>= λ w. Ok (past last w))) (sym begins)
      (goes-to rest m (at + objects_begin s + sum_by object_size s.objects + last) (at + space_size s)
      (objects_walk spaces s.objects s.objects (walk_at (at + objects_begin s) m) >>= λ w. Ok (past last w)) ends
      (goes-past rest m (at + objects_begin s + sum_by object_size s.objects) last (objects_walk spaces s.objects s.objects (walk_at (at + objects_begin s) m))
      (objects-go s.objects s.objects (at + objects_begin s) m))))

  pub spaces-go : (n : ℕ) (ss : List SpaceRec) (at : ℕ) (named : Named)
      → Goes spaces (spaces_events n ss at) named (at + sum_by space_size ss) (spaces_walk spaces n ss (walk_at at named))
  unfolding spaces_walk
  spaces-go n [] at named = let same : at ≡ at + 0 = omega arith in goes-to [] named at (at + 0) (Ok (walk_at at named)) same (none-goes at named)
  spaces-go n (s ∷ ss) at named =
      let here = space_events n s at in
      let rest = spaces_events (n + 1) ss (at + space_size s) in
      let sum = sum_by-cons space_size s ss in
      goes-to (here ++ rest) named (at + space_size s + sum_by space_size ss) (at + sum_by space_size (s ∷ ss))
      (space_walk spaces n s (walk_at at named) >>= spaces_walk spaces (n + 1) ss) (omega (arith, sum))
      (goes-on here rest named (at + space_size s) (at + space_size s + sum_by space_size ss) (space_walk spaces n s (walk_at at named))
      (spaces_walk spaces (n + 1) ss) (space-goes n s at named) (λ m. spaces-go (n + 1) ss (at + space_size s) m))
