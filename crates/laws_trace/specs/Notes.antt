-- The notes that a run makes at the port of a native server, and taps and replays in the place of its servers.
use Rattle.std.specs.Prelude.{◌≡◌, ℕ, List, [], ◌∷◌, ◌++◌, map, filter_map, Option, Some, None, ◌⊎◌}
use Rattle.std.specs.List.{slice_get}
use Rattle.fk_model.specs.declared.moves.Move.{Move}
use Rattle.fk_model.specs.declared.names.Who.{Who}
use Rattle.fk_model.specs.Who.{named}
use Rattle.fk_natives.specs.Natives.{State, OfConsole, OfServer, OfReplay, OfTap, News, asks_for, hears, notes_by, seen_of, alias_of, printed_by}
use Rattle.fk_natives.specs.Answers.{after}
use Rattle.fk_responders.specs.Notes as notes
use Rattle.laws_runs.specs.Cores.{House, Core, IsRun}
use Rattle.laws_trace.specs.Following.{Told, told_in, house_with, IsRunWith}
use Rattle.fk_served.specs.Served.{Services, news_at, servers}

-- ---- what is noted

abbrev pub news_list : Option News → List News
news_list None = []
news_list (Some news) = news ∷ []

-- the news that the server of a port hears
unfoldable pub heard_by : Who → List Told → List News
heard_by who [] = []
heard_by who (t ∷ ts) = news_list (news_at t.0 t.1 (named t.0 who)) ++ heard_by who ts

-- the notes of a server that hears this
unfoldable pub noted_of : State → List News → List notes.Note
noted_of s [] = []
noted_of s (n ∷ ns) = notes_by (asks_for s) (asks_for (hears s n)) n ++ noted_of (hears s n) ns

-- the notes that the moves of a run make at the port of a server, which began in this state
abbrev pub notes_at : {J S A V : Type 0} {h : House J S A V} {first c : Core S A V} {past : List Move} → IsRun h first past c → Who × State → List notes.Note
notes_at run served = noted_of served.1 (heard_by served.0 (told_in run))

-- ---- taps

-- the server inside all taps
abbrev pub bare : State → State
bare (OfConsole alias words side) = OfConsole alias words side
bare (OfServer index rule config position request left side) = OfServer index rule config position request left side
bare (OfReplay replies left side) = OfReplay replies left side
bare (OfTap watch noted inner) = bare inner

abbrev pub all_bare : Services → Services
all_bare services = map (λ e. (e.0, bare e.1)) services

-- what a report prints of servers: the alias of each console, and its words
abbrev pub printed_of : Services → List (Option (List ℕ) × List ℕ)
printed_of services = map (λ e. (alias_of e.1, printed_by e.1)) services

-- each server of a run comes to what the news at its port make of it
abbrev pub ServersComeTo : Type 0 → Type 0 → Type 0 → Type 0 → Type 0
ServersComeTo J S A V = (g : House J S A V) (first c : Core S A Services) (past : List Move) (run : IsRun (house_with g servers) first past c) →
    c.servers ≡ map (λ e. (e.0, after e.1 (heard_by e.0 (told_in run)))) first.servers

-- with servers that are the same but for taps, the same moves are a run, by the same worlds, with the same words printed, and the same moves are
-- ready behind it
abbrev pub TapsChangeNothing : Type 0 → Type 0 → Type 0 → Type 0 → Type 0
TapsChangeNothing J S A V = (g : House J S A V) (first c : Core S A Services) (past : List Move) (run : IsRun (house_with g servers) first past c) →
    (v : Services) → all_bare v ≡ all_bare first.servers →
    (w : Services) × IsRunWith run servers v w × (all_bare w ≡ all_bare c.servers) × (printed_of w ≡ printed_of c.servers)

-- a tap holds the notes that a run makes at its port, without those that its observer doesn't see
abbrev pub TapsNote : Type 0 → Type 0 → Type 0 → Type 0 → Type 0
TapsNote J S A V = (g : House J S A V) (first c : Core S A Services) (past : List Move) (run : IsRun (house_with g servers) first past c) →
    (k : ℕ) (who : Who) (watch : ℕ) (noted : List notes.Note) (s : State) → slice_get first.servers k ≡ Some (who, OfTap watch noted s) →
    slice_get c.servers k ≡ Some (who, OfTap watch (noted ++ seen_of watch (notes_at run (who, s))) (after s (heard_by who (told_in run))))

-- ---- replays

abbrev pub reply_of : notes.Note → Option (List ℕ)
reply_of (notes.Reply words) = Some words
reply_of other = None

-- the replies of notes, in order
abbrev pub replies_of : List notes.Note → List (List ℕ)
replies_of noted = filter_map reply_of noted

-- a replay of these replies in the place of a server. A console stays
abbrev pub replayed : List (List ℕ) → State → State
replayed replies (OfConsole alias words side) = OfConsole alias words side
replayed replies (OfServer index rule config position request left side) = OfReplay replies left side
replayed replies (OfReplay old left side) = OfReplay replies left side
replayed replies (OfTap watch noted inner) = replayed replies inner

abbrev pub all_replayed : (Who × State → List (List ℕ)) → Services → Services
all_replayed replies services = map (λ e. (e.0, replayed (replies e) e.1)) services

-- with a replay of the noted replies in the place of each server but the consoles, the same moves are a run, by the same worlds, with the same words
-- printed; each replay has given all of its replies in the end
abbrev pub ReplaysRun : Type 0 → Type 0 → Type 0 → Type 0 → Type 0
ReplaysRun J S A V = (g : House J S A V) (first c : Core S A Services) (past : List Move) (run : IsRun (house_with g servers) first past c) →
    IsRunWith run servers (all_replayed (λ e. replies_of (notes_at run e)) first.servers) (all_replayed (λ e. []) c.servers)
    × (printed_of (all_replayed (λ e. []) c.servers) ≡ printed_of c.servers)

-- an observer of all notes, or of the replies, sees every reply
abbrev pub RepliesAreSeen : Type 0
RepliesAreSeen = (watch : ℕ) (noted : List notes.Note) → (watch ≡ 0) ⊎ (watch ≡ 1) → replies_of (seen_of watch noted) ≡ replies_of noted
