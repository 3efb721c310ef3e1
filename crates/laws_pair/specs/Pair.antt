-- A run that is recorded, and the run that is replayed from the record.
use Rattle.std.specs.Prelude.{◌≡◌, ℕ, zero, suc, List, [], ◌∷◌, length, All, ◌⊎◌}
use Rattle.fk_model.specs.declared.moves.Move.{Move}
use Rattle.fk_model.specs.declared.names.Who.{Who}
use Rattle.fk_natives.specs.declared.service.Side.TheVariants.{Idle}
use Rattle.fk_natives.specs.Natives.{State, OfConsole, OfServer, seen_of}
use Rattle.fk_responders.specs.Notes.{Note}
use Rattle.fk_record_text.specs.Record.{IsNote, Entry, Spells}
use Rattle.fk_record_text.specs.Lines.{ArePorts}
use Rattle.fk_record_text.specs.Whole.{record_of, ports_of, notes_of_place, AreApart}
use Rattle.fk_trace.specs.Posts.{all_replaying}
use Rattle.laws_runs.specs.Cores.{House, Core, IsRun}
use Rattle.laws_trace.specs.Following.{house_with, IsRunWith}
use Rattle.laws_trace.specs.Served.{Services, servers}
use Rattle.laws_trace.specs.Notes.{notes_at, replies_of, all_replayed, printed_of}

-- a server as a run begins: it has no client, and nothing is left of a reply
abbrev pub IsFresh : State → Type 0
IsFresh (OfConsole alias words side) = Unit {0}
IsFresh (OfServer index rule config position request left side) = (left ≡ []) × (side ≡ Idle)
IsFresh other = ⊥

abbrev pub AreFresh : Services → Type 0
AreFresh [] = Unit {0}
AreFresh (e ∷ es) = IsFresh e.1 × AreFresh es

-- the notes of the servers that are no consoles, each with the path of its port
abbrev pub recorded_as : (Who → List ℕ) → (Who × State → List Note) → Who × State → List (List ℕ × List Note) → List (List ℕ × List Note)
recorded_as port notes (who, OfConsole alias words side) more = more
recorded_as port notes (who, other) more = (port who, notes (who, other)) ∷ more

abbrev pub recorded : (Who → List ℕ) → (Who × State → List Note) → Services → List (List ℕ × List Note)
recorded port notes [] = []
recorded port notes (e ∷ es) = recorded_as port notes e (recorded port notes es)

-- the replies of each of so many places, from one on
abbrev pub lists_of : List Entry → ℕ → ℕ → List (List (List ℕ))
lists_of entries from zero = []
lists_of entries from (suc n) = replies_of (notes_of_place from entries) ∷ lists_of entries (suc from) n

-- whatever is read of the record of a run, as an observer of all notes or of the replies has it: with replays of its replies in the place of each
-- server that is no console, the same moves are a run, by the same worlds, with the same words printed
abbrev pub RecordReplays : Type 0 → Type 0 → Type 0 → Type 0 → Type 0
RecordReplays J S A V = (g : House J S A V) (first c : Core S A Services) (past : List Move) (run : IsRun (house_with g servers) first past c) →
    AreFresh first.servers → (watch : ℕ) → (watch ≡ 0) ⊎ (watch ≡ 1) → (port : Who → List ℕ) →
    let noted = recorded port (λ e. seen_of watch (notes_at run e)) first.servers in
    ArePorts (ports_of noted) → AreApart (ports_of noted) → All (λ s. All IsNote s.1) noted →
    (entries : List Entry) → Spells (ports_of noted) (record_of noted) entries →
    IsRunWith run servers (all_replaying (lists_of entries 0 (length noted)) first.servers) (all_replayed (λ e. []) c.servers)
    × (printed_of (all_replayed (λ e. []) c.servers) ≡ printed_of c.servers)
