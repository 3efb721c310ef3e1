-- Who may serve: whom a porter names, who takes a fault, a native server whose port has no client.
use Rattle.std.proofs.Common.{◌≡◌, ℕ, Bool, true, false, if◌then◌else◌, ◌&&◌, ◌==◌, [], ◌∷◌, Option, Some, None, is_none, Result, Ok, Err, refl}
use Rattle.std.proofs.lemmas.Bool.{and_parts, not-true}
use Rattle.fk_model.specs.declared.limits.TheConstants.{OWN_SPACE}
use Rattle.fk_model.specs.declared.names.Kind.TheVariants as kinds
use Rattle.fk_model.specs.Places.{Path, Ptr, leads_to}
use Rattle.fk_model.specs.Places.Ptr.{At}
use Rattle.fk_model.specs.Objects.{Peer, Body, port_of, and_then, holds}
use Rattle.fk_model.specs.Objects.Peer.{Server, Parked}
use Rattle.fk_model.specs.Objects.Body.{Port}
use Rattle.fk_model.specs.World.{World}
use Rattle.fk_model.specs.Searches.{client_at}
use Rattle.fk_model.specs.Outcomes.{Caller}
use Rattle.fk_model.specs.Readers.{and_read, object_in, referred}
use Rattle.fk_model.specs.FaultRows.{named_taker}
use Rattle.fk_model.specs.NativeRows.{is_serving_port}
use Rattle.fk_model.specs.Valid.{kind_there, leads_there, is_idle_near, is_idle_peer, is_near, is_idle}
use Rattle.fk_model.specs.Valid.{lies_with, services}
use Rattle.fk_model.proofs.walks.PlaceLaws.{same_path_eq}
use Rattle.laws_moves.proofs.InMachine.safety.Safe.{IsSafeServer, IsSafeService, IsSafeTaker}
use Rattle.laws_moves.proofs.InMachine.safety.Reads.{Facts, kind-there, kind-port_of, object_in-found, referred-leads}
use Rattle.laws_moves.proofs.InMachine.safety.Talks.{idle-serves}

-- ---- a porter names a server

near-lies : (port server : Ptr) → is_near port server ≡ true → lies_with port server
near-lies (At port) (At server) near = same_path_eq _ _ near
near-lies port server near = tt

idle-anywhere : (w : World) → Facts w → (server : Ptr) → is_idle w server ≡ true → (s q : Path) → leads_to s server ≡ true → services w s q ≡ 0
idle-anywhere w facts (At server) idle s q leads = idle-serves w facts server (not-true _ idle) s q leads
idle-anywhere w facts server idle s q leads = cc

pub named-serves : (w : World) (c : Caller) (server : ℕ) (at thread : Ptr) →
    Facts w → referred w c kinds.Thread server ≡ Ok thread → is_idle_near w at thread ≡ true → IsSafeServer w at thread
named-serves w c server at thread facts read fit =
    let both = and_parts (is_near at thread) _ fit in
    record { good = referred-leads w c kinds.Thread server thread read; near = near-lies at thread both.0; idle = idle-anywhere w facts thread both.1 }

-- ---- a port in the caller's space

pub port-there : (w : World) (c : Caller) (k : ℕ) (port : Option ℕ × Bool) →
    object_in w c port_of c.space k ≡ Ok port → leads_there (kind_there w) (kinds.Port ∷ []) (At (k ∷ c.space)) ≡ true
port-there w c k port read =
    let found = object_in-found w c port_of c.space k port read in
    let kind = kind-port_of found.body port found.seen in
    let there = kind-there w (k ∷ c.space) found.body found.there in
    rw (there, kind) refl

-- ---- who takes a fault

pub taker-serves : (w : World) (c : Caller) (taker : ℕ) (at : Ptr) (by : Option Peer) →
    Facts w → named_taker w c taker ≡ Ok by → is_idle_peer w at by ≡ true → IsSafeTaker w at by
taker-serves w c taker at by facts named fit = first (taker == OWN_SPACE) named
  where
    of_thread : (r : Result Ptr ℕ) → referred w c kinds.Thread taker ≡ r → and_read r (λ thread. Ok (Some (Server thread))) ≡ Ok by → IsSafeTaker w at by
    of_thread (Ok thread) read2 h = let same : by ≡ Some (Server thread) = cc in rw same (named-serves w c taker at thread facts read2 (rw same at fit))
    of_thread (Err status) read2 h = cc

    first : (t : Bool) → (if t then Ok None else and_read (referred w c kinds.Thread taker) (λ thread. Ok (Some (Server thread)))) ≡ Ok by → IsSafeTaker w at by
    first true h = let same : by ≡ None = cc in rw same tt
    first false h = of_thread _ refl h

pub open-taker : (w : World) (port : Ptr) (parked : Bool) → IsSafeTaker w port (if parked then Some Parked else None)
open-taker w port true = tt
open-taker w port false = tt

-- ---- native servers

-- a served port that has no client
abbrev pub FreeService : World → Path → Type 0
FreeService w port = (is_serving_port w port && is_none (client_at w port)) ≡ true

pub served-port : (w : World) (port : Path) (o : Option Body) →
    w.body port ≡ o → holds (λ (state : Option ℕ × Bool). state.1) (and_then port_of o) ≡ true → leads_there (kind_there w) (kinds.Port ∷ []) (At port) ≡ true
served-port w port (Some (Port set served)) e h = let kind = kind-there w port (Port set served) e in rw kind refl
served-port w port None e h = cc
served-port w port (Some b) e h = cc

none-there : {A : Type 0} (o : Option A) → is_none o ≡ true → o ≡ None
none-there None h = refl
none-there (Some a) h = cc

pub service-safe : (w : World) (port x : Path) → Facts w → FreeService w port → IsSafeService w x (At port)
service-safe w port x facts free =
    let both = and_parts (is_serving_port w port) _ free in
    record { served = (and_parts _ _ both.0).0; alone = λ q has. absurd (facts.walks.no_service port (none-there _ both.1) q has) }
