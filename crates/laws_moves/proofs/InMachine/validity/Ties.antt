-- Ties: what validity says of talks and faults, as functions of paths.
--
-- A tie is a port and who serves there: of a talk, or of a fault that was taken. Validity speaks of nothing else in them.
use Rattle.std.proofs.Common.{◌≡◌, ℕ, ◌+◌, ◌<◌, ◌≤◌, Bool, true, IsSome, ◌∷◌, Option, Some, None, option_map, refl}
use Rattle.fk_model.specs.declared.names.Kind.{Kind}
use Rattle.fk_model.specs.declared.names.Kind.TheVariants as kinds
use Rattle.fk_model.specs.Places.{Path, Ptr}
use Rattle.fk_model.specs.Objects.{Peer, Talk, Fault, Thread, Body, thread_of, and_then, holds, flag_of}
use Rattle.fk_model.specs.Objects.Peer.{Server, Service}
use Rattle.fk_model.specs.World.{World, serves}
use Rattle.fk_model.specs.Searches.{talk_at, fault_at}
use Rattle.fk_model.specs.Valid.{IsConsistent, kind_there, all_in, is_good, birth_at, is_served_port, services, lies_with}
use Rattle.fk_model.proofs.walks.WalkLaws.{live-kind}

pub data Tie : Type 0 where
  Joins : (port : Ptr) (peer : Peer) → Tie

abbrev pub peer_in : Tie → Peer
peer_in (Joins port peer) = peer

abbrev pub tie_of : Talk → Tie
tie_of talk = Joins talk.port talk.peer

abbrev pub claim_of : Fault → Option Tie
claim_of fault = option_map (Joins fault.port) fault.taker

-- of what stands in a slot
abbrev pub body_tie : Option Body → Option Tie
body_tie o = option_map tie_of (and_then (λ (t : Thread). t.talk) (and_then thread_of o))

abbrev pub body_claim : Option Body → Option Tie
body_claim o = and_then claim_of (and_then (λ (t : Thread). t.fault) (and_then thread_of o))

abbrev pub tie_at : World → Path → Option Tie
tie_at w x = body_tie (w.body x)

abbrev pub claim_at : World → Path → Option Tie
claim_at w x = body_claim (w.body x)

abbrev pub is_tied_to : Path → Option Tie → Bool
is_tied_to server o = holds (λ tie. serves server (peer_in tie)) o

abbrev pub load : Path → Option Tie → Option Tie → ℕ
load server a b = flag_of (is_tied_to server a) + flag_of (is_tied_to server b)

-- ---- the facts

abbrev pub IsServedAll : (Ptr → Bool) → (Path → Option Tie) → Type 0
IsServedAll served a = (x : Path) (port : Ptr) → a x ≡ Some (Joins port Service) → served port ≡ true

abbrev pub IsOneClient : (Path → Option Tie) → Type 0
IsOneClient a = (x y : Path) (port : Ptr) → a x ≡ Some (Joins port Service) → a y ≡ Some (Joins port Service) → x ≡ y

abbrev pub IsNear : (Path → Option Tie) → Type 0
IsNear a = (x : Path) (port server : Ptr) → a x ≡ Some (Joins port (Server server)) → lies_with port server

-- a thread serves one talk or one fault
pub record IsSingle (server : Path) (a b : Path → Option Tie) : Type 0 where
  pub one : (x y : Path) → 0 < load server (a x) (b x) → 0 < load server (a y) (b y) → x ≡ y
  pub each : (x : Path) → load server (a x) (b x) ≤ 1

pub record AreTied (served : Ptr → Bool) (talks claims : Path → Option Tie) : Type 0 where
  pub served_all : IsServedAll served talks
  pub one_client : IsOneClient talks
  pub talks_near : IsNear talks
  pub claims_near : IsNear claims
  pub single : (server : Path) → IsSingle server talks claims

pub record AreFacts (there : Path → Option Kind) (birth : Path → Option ℕ) (next : ℕ) (served : Ptr → Bool) (talks claims : Path → Option Tie) : Type 0 where
  pub parents : (k : ℕ) (x : Path) → IsSome (there (k ∷ x)) → there x ≡ Some kinds.Space
  pub apart : (x y : Path) (number : ℕ) → birth x ≡ Some number → birth y ≡ Some number → x ≡ y
  pub born : (x : Path) (number : ℕ) → birth x ≡ Some number → number < next
  pub tied : AreTied served talks claims

abbrev pub HaveFacts : World → Type 0
HaveFacts w = AreFacts (kind_there w) (birth_at w) w.next (is_served_port w) (tie_at w) (claim_at w)

-- ---- there and back

pub tie_some : (o : Option Talk) (port : Ptr) (peer : Peer) →
    option_map tie_of o ≡ Some (Joins port peer) → (talk : Talk) × (o ≡ Some talk) × (talk.port ≡ port) × (talk.peer ≡ peer)
tie_some None port peer h = cc
tie_some (Some talk) port peer h = (talk, refl, cc, cc)

pub tie_from : (o : Option Talk) (talk : Talk) (port : Ptr) (peer : Peer) →
    o ≡ Some talk → talk.port ≡ port → talk.peer ≡ peer → option_map tie_of o ≡ Some (Joins port peer)
tie_from o talk port peer e p q = rw (e, p, q) refl

pub claim_some : (o : Option Fault) (port : Ptr) (peer : Peer) →
    and_then claim_of o ≡ Some (Joins port peer) → (fault : Fault) × (o ≡ Some fault) × (fault.port ≡ port) × (fault.taker ≡ Some peer)
claim_some None port peer h = cc
claim_some (Some fault) port peer h = by fault.taker refl h
  where
    by : (taker : Option Peer) → fault.taker ≡ taker →
        option_map (Joins fault.port) taker ≡ Some (Joins port peer) → (f : Fault) × (Some fault ≡ Some f) × (f.port ≡ port) × (f.taker ≡ Some peer)
    by None e g = cc
    by (Some taker) e g = (fault, refl, cc, cc)

pub claim_from : (o : Option Fault) (fault : Fault) (port : Ptr) (peer : Peer) →
    o ≡ Some fault → fault.port ≡ port → fault.taker ≡ Some peer → and_then claim_of o ≡ Some (Joins port peer)
claim_from o fault port peer e p q = rw (e, p, q) refl

tie_serves : (server : Path) (o : Option Talk) → holds (λ (talk : Talk). serves server talk.peer) o ≡ is_tied_to server (option_map tie_of o)
tie_serves server None = refl
tie_serves server (Some talk) = refl

claim_serves : (server : Path) (o : Option Fault) → holds (λ (fault : Fault). holds (serves server) fault.taker) o ≡ is_tied_to server (and_then claim_of o)
claim_serves server None = refl
claim_serves server (Some fault) = by fault.taker
  where
    by : (taker : Option Peer) → holds (serves server) taker ≡ is_tied_to server (option_map (Joins fault.port) taker)
    by None = refl
    by (Some peer) = refl

pub services-load : (w : World) (server x : Path) → services w server x ≡ load server (tie_at w x) (claim_at w x)
services-load w server x = rw (tie_serves server (talk_at w x), claim_serves server (fault_at w x)) refl

pub facts : (w : World) → IsConsistent w → HaveFacts w
facts w valid = record {
  parents = λ k x h. valid.parents k x (rw (live-kind w (k ∷ x)) at h);
  apart = valid.apart;
  born = valid.born;
  tied = record {
    served_all = λ x port h. valid.served x port (tie_some (talk_at w x) port Service h);
    one_client = λ x y port h g. valid.one_client x y port (tie_some (talk_at w x) port Service h) (tie_some (talk_at w y) port Service g);
    talks_near = λ x port server h. let found = tie_some (talk_at w x) port (Server server) h in
        let near = valid.talks_near x found.0 server found.1 found.3 in rw found.2 at near;
    claims_near = λ x port server h. let found = claim_some (fault_at w x) port (Server server) h in
        let near = valid.faults_near x found.0 server found.1 found.3 in rw found.2 at near;
    single = λ server. record {
      one = λ x y h g. valid.one_service server x y (rw (services-load w server x) h) (rw (services-load w server y) g);
      each = λ x. rw (services-load w server x) at (valid.one_each server x);
    };
  };
}

pub valid-from : (w : World) → HaveFacts w → ((x : Path) → all_in (is_good (kind_there w) x) (w.body x) ≡ true) → IsConsistent w
valid-from w f good = record {
  parents = λ k x h. f.parents k x (rw (live-kind w (k ∷ x)) h);
  good = good;
  apart = f.apart;
  born = f.born;
  served = λ x port h. f.tied.served_all x port (tie_from (talk_at w x) h.0 port Service h.1 h.2 h.3);
  one_client =
      λ x y port h g. f.tied.one_client x y port (tie_from (talk_at w x) h.0 port Service h.1 h.2 h.3) (tie_from (talk_at w y) g.0 port Service g.1 g.2 g.3);
  talks_near = λ x talk server e q. f.tied.talks_near x talk.port server (tie_from (talk_at w x) talk talk.port (Server server) e refl q);
  faults_near = λ x fault taker e q. f.tied.claims_near x fault.port taker (claim_from (fault_at w x) fault fault.port (Server taker) e refl q);
  one_service = λ server x y h g. (f.tied.single server).one x y (rw (services-load w server x) at h) (rw (services-load w server y) at g);
  one_each = λ server x. rw (services-load w server x) ((f.tied.single server).each x);
}
