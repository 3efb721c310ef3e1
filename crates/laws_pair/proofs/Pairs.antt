-- A record of a run replays.
use Rattle.std.proofs.Common.{◌≡◌, ℕ, suc, ◌+◌, List, [], ◌∷◌, map, length, refl, sym, ap, subst, ◌∙◌, arith}
use Rattle.std.specs.List.{slice_index_or}
use Rattle.fk_model.specs.declared.names.Who.{Who}
use Rattle.fk_natives.specs.Natives.{State, OfConsole, OfServer, OfReplay, OfTap, seen_of}
use Rattle.fk_responders.specs.Notes.{Note}
use Rattle.fk_record_text.specs.Record.{Entry}
use Rattle.fk_record_text.specs.Whole.{record_of, ports_of, notes_of_place}
use Rattle.fk_record_text.proofs.Records.{spells_same}
use Rattle.fk_record_text.proofs.Wholes.{records_read_back}
use Rattle.fk_trace.specs.Posts.{all_replaying}
use Rattle.laws_trace.specs.Following.{IsRunWith}
use Rattle.laws_trace.specs.Served.{Services, servers}
use Rattle.laws_trace.specs.Notes.{notes_at, replies_of, all_replayed}
use Rattle.laws_trace.proofs.Noting.{replays_run, replies_are_seen}
use Rattle.laws_pair.specs.Pair.{AreFresh, recorded, lists_of, RecordReplays}

-- the lists of replies are those of the notes, one after the other
lists_are : (entries : List Entry) (from : ℕ) (noted : List (List ℕ × List Note))
    → ((i : ℕ) → notes_of_place (from + i) entries ≡ slice_index_or (map (λ s. s.1) noted) i [])
    → lists_of entries from (length noted) ≡ map (λ s. replies_of s.1) noted
lists_are entries from [] is = refl
lists_are entries from (s ∷ ss) is =
    let none : from + 0 ≡ from = omega arith in
    let here : notes_of_place from entries ≡ s.1 = subst (λ k. notes_of_place k entries ≡ s.1) none (is 0) in
    let later = lists_are entries (suc from) ss (λ i.
    (let one : from + suc i ≡ suc from + i = omega arith in
    subst (λ k. notes_of_place k entries ≡ slice_index_or (map (λ (s : List ℕ × List Note). s.1) ss) i []) one (is (suc i)))) in
    λ i. replies_of (here i) ∷ later i

-- who replays is what stands in a server's place
module _ (port : Who → List ℕ) (notes : Who × State → List Note) (replies : Who × State → List (List ℕ))
    (same : (e : Who × State) → replies_of (notes e) ≡ replies e) where
  pub posts : (es : Services) → AreFresh es → all_replaying (map (λ s. replies_of s.1) (recorded port notes es)) es ≡ all_replayed replies es
  posts [] fresh = refl
  posts ((who, OfConsole alias words side) ∷ es) fresh = ap (λ xs. (who, OfConsole alias words side) ∷ xs) (posts es fresh.1)
  posts ((who, OfServer index rule config position request left side) ∷ es) fresh =
      let e : Who × State = (who, OfServer index rule config position request left side) in
      let more = posts es fresh.1 in
      let none = sym fresh.0.0 in
      let idle = sym fresh.0.1 in
      λ i. (who, OfReplay (same e i) (none i) (idle i)) ∷ more i
  posts ((who, OfReplay old left side) ∷ es) fresh = absurd fresh.0
  posts ((who, OfTap watch noted inner) ∷ es) fresh = absurd fresh.0

pub record_replays : {J S A V : Type 0} → RecordReplays J S A V
record_replays g first c past run fresh watch sees port are apart small entries spells =
    let noted = recorded port (λ e. seen_of watch (notes_at run e)) first.servers in
    let back = records_read_back noted apart small in
    let one : back.0 ≡ entries = spells_same (ports_of noted) are (record_of noted) back.0 entries back.1.spells spells in
    let places : (i : ℕ) → notes_of_place (0 + i) entries ≡ slice_index_or (map (λ (s : List ℕ × List Note). s.1) noted) i [] =
    λ i. (let none : 0 + i ≡ i = omega arith in ap (λ k. notes_of_place k entries) none ∙ (ap (λ es. notes_of_place i es) (sym one) ∙ back.1.notes i)) in
    let all : all_replaying (lists_of entries 0 (length noted)) first.servers ≡ all_replayed (λ e. replies_of (notes_at run e)) first.servers =
    ap (λ ls. all_replaying ls first.servers) (lists_are entries 0 noted places)
    ∙ posts port (λ e. seen_of watch (notes_at run e)) (λ e. replies_of (notes_at run e))
    (λ e. replies_are_seen watch (notes_at run e) sees) first.servers fresh in
    let goes = replays_run g first c past run in
    (subst (λ v. IsRunWith run servers v (all_replayed (λ e. []) c.servers)) (sym all) goes.0, goes.1)
