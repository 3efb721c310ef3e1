-- What is written of the taps of a run is the record of what their observer sees.
use Rattle.std.proofs.Common.{◌≡◌, ℕ, zero, suc, ◌+◌, List, [], ◌∷◌, ◌++◌, map, drop, refl, sym, ap, subst, ◌∙◌, arith}
use Rattle.std.specs.List.{All, slice_index_or}
use Rattle.std.proofs.lemmas.List.Elements.{All-nil, All-cons}
use Rattle.fk_model.specs.declared.names.Who.{Who}
use Rattle.fk_model.specs.declared.thread.Turn.TheVariants as turns
use Rattle.fk_natives.specs.declared.service.Side.{Side}
use Rattle.fk_natives.specs.Answers.{after}
use Rattle.fk_natives.specs.Natives.{State, OfConsole, OfServer, OfReplay, OfTap, News, Taken, Words, Over, Given, Ended, hears, seen_of, side_at, side_after}
use Rattle.fk_record_text.specs.Record.{IsNote, port_text}
use Rattle.fk_record_text.specs.Whole as whole
use Rattle.fk_record_text.specs.Whole.{port_lines, all_lines}
use Rattle.fk_runs.specs.Recordings.Written.{lines_of, place_behind, lines_from, IsSmallTap, AreSmallTaps}
use Rattle.fk_responders.specs.Notes.{Note}
use Rattle.fk_first.specs.Served.{Services}
use Rattle.fk_trace.specs.Posts.{tapped_as}
use Rattle.fk_recorded.specs.Pair.{recorded}
use Rattle.fk_recorded.specs.Notes.{noted_of}
use Rattle.fk_recorded.proofs.Noting.{tap_hears}

-- ---- ports at places

port-there : (ports : List (List ℕ)) (place : ℕ) (port : List ℕ) (rest : List (List ℕ)) → drop place ports ≡ port ∷ rest → port_text ports place ≡ port
port-there [] zero port rest is = absurd (cc)
port-there [] (suc place) port rest is = absurd (cc)
port-there (p ∷ ps) zero port rest is = cc
port-there (p ∷ ps) (suc place) port rest is = port-there ps place port rest is

port-behind : (ports : List (List ℕ)) (place : ℕ) (port : List ℕ) (rest : List (List ℕ)) → drop place ports ≡ port ∷ rest → drop (suc place) ports ≡ rest
port-behind [] zero port rest is = absurd (cc)
port-behind [] (suc place) port rest is = absurd (cc)
port-behind (p ∷ ps) zero port rest is = cc
port-behind (p ∷ ps) (suc place) port rest is = port-behind ps place port rest is

-- ---- what consoles and taps come to

-- a console stays one
console-on : (ns : List News) (alias words : List ℕ) (side : Side)
    → (now : List ℕ) × (more : List ℕ) × (later : Side) × (after (OfConsole alias words side) ns ≡ OfConsole now more later)
unfolding after
console-on [] alias words side = (alias, words, side, refl)
console-on (Taken turn moved ∷ ns) alias words side = console-on ns alias words (side_at turn)
console-on (Words said ∷ ns) alias words side = console-on ns alias (words ++ said) side
console-on (Over ∷ ns) alias words side = console-on ns alias words (side_after side)
console-on (Given count ∷ ns) alias words side = console-on ns alias words side
console-on (Ended ∷ ns) alias words side = console-on ns alias words _

module _ (ports : List (List ℕ)) (watch : ℕ) (port : Who → List ℕ) (told : Who → List News) where
  -- the notes at a server that the observer sees
  abbrev pub seen-at : Who × State → List Note
  seen-at e = seen_of watch (noted_of e.1 (told e.0))

  -- what taps of servers come to
  abbrev pub come-to : Services → Services
  come-to es = map (λ e. (e.0, after (tapped_as watch e.1) (told e.0))) es

  tap-comes : (who : Who) (s : State) → after (OfTap watch [] s) (told who) ≡ OfTap watch (seen-at (who, s)) (after s (told who))
  tap-comes who s = tap_hears watch [] s (told who)

  abbrev AreLines : Services → ℕ → Type 0
  AreLines es place = drop place ports ≡ whole.ports_of (recorded port seen-at es) → lines_from ports place (come-to es) ≡ all_lines (recorded port seen-at es)

  tapped-lines : (who : Who) (s : State) (es : Services) (place : ℕ) → drop place ports ≡ port who ∷ whole.ports_of (recorded port seen-at es)
      → AreLines es (place + 1)
      → lines_from ports place ((who, after (OfTap watch [] s) (told who)) ∷ come-to es)
      ≡ port_lines (port who) (seen-at (who, s)) ++ all_lines (recorded port seen-at es)
  tapped-lines who s es place is rest =
      let ahead = whole.ports_of (recorded port seen-at es) in
      let one : place + 1 ≡ suc place = omega arith in
      let behind : drop (place + 1) ports ≡ ahead = ap (λ k. drop k ports) one ∙ port-behind ports place (port who) ahead is in
      subst (λ (t : State). lines_of ports place t ++ lines_from ports (place_behind place t) (come-to es)
      ≡ port_lines (port who) (seen-at (who, s)) ++ all_lines (recorded port seen-at es)) (sym (tap-comes who s))
      (ap (λ p. port_lines p (seen-at (who, s)) ++ lines_from ports (place + 1) (come-to es)) (port-there ports place (port who) ahead is)
      ∙ ap (λ xs. port_lines (port who) (seen-at (who, s)) ++ xs) (rest behind))

  pub are-lines : (es : Services) (place : ℕ) → AreLines es place
  are-lines [] place is = refl
  are-lines ((who, OfConsole alias words side) ∷ es) place is =
      let stays = console-on (told who) alias words side in
      subst (λ (t : State). lines_of ports place t ++ lines_from ports (place_behind place t) (come-to es) ≡ all_lines (recorded port seen-at es))
      (sym stays.3) (are-lines es place is)
  are-lines ((who, OfServer index rule config position request left side) ∷ es) place is =
      tapped-lines who (OfServer index rule config position request left side) es place is (are-lines es (place + 1))
  are-lines ((who, OfReplay replies left side) ∷ es) place is = tapped-lines who (OfReplay replies left side) es place is (are-lines es (place + 1))
  are-lines ((who, OfTap other noted inner) ∷ es) place is = tapped-lines who (OfTap other noted inner) es place is (are-lines es (place + 1))

  -- ---- notes that are small

  abbrev AreSmall : Services → Type 0
  AreSmall es = AreSmallTaps (come-to es) → All (λ s. All IsNote s.1) (recorded port seen-at es)

  tapped-small : (who : Who) (s : State) (es : Services) → IsSmallTap (after (OfTap watch [] s) (told who)) → All IsNote (seen-at (who, s))
  tapped-small who s es small = subst IsSmallTap (tap-comes who s) small

  pub are-small : (es : Services) → AreSmall es
  are-small [] small = All-nil (λ s. All IsNote s.1)
  are-small ((who, OfConsole alias words side) ∷ es) small = are-small es small.1
  are-small ((who, OfServer index rule config position request left side) ∷ es) small =
      let s = OfServer index rule config position request left side in
      All-cons (λ s. All IsNote s.1) (port who, seen-at (who, s)) (recorded port seen-at es) (tapped-small who s es small.0) (are-small es small.1)
  are-small ((who, OfReplay replies left side) ∷ es) small =
      let s = OfReplay replies left side in
      All-cons (λ s. All IsNote s.1) (port who, seen-at (who, s)) (recorded port seen-at es) (tapped-small who s es small.0) (are-small es small.1)
  are-small ((who, OfTap other noted inner) ∷ es) small =
      let s = OfTap other noted inner in
      All-cons (λ s. All IsNote s.1) (port who, seen-at (who, s)) (recorded port seen-at es) (tapped-small who s es small.0) (are-small es small.1)
