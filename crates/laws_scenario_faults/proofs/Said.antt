-- Entries: each keeps all that it is asked exactly where it says what it is read as.
use Rattle.std.proofs.Common.{◌≡◌, ◌≤◌, ℕ, ◌+◌, Bool, true, false, not, cond, ◌&&◌, ◌||◌, ◌==◌, nat_lt, List, [], ◌∷◌, ◌++◌}
use Rattle.std.proofs.Common.{length, Option, Some, None, is_some, unwrap_or, option_and_then, Result, Ok, Err, codes}
use Rattle.std.proofs.Common.{refl, sym, ap, subst, ◌∙◌, arith, true≢false, eqb-true, suc-ne-zero}
use Rattle.std.proofs.lemmas.Bool.{ltb-true, lt-ltb}
use Rattle.std.proofs.lemmas.List.{append-nil, append_assoc}
use Rattle.std.proofs.lemmas.List.Sums.{sum_by_push}
use Rattle.std.proofs.lemmas.Slice.Eq.{bytes_eq-Decides}
use Rattle.std.specs.Str.{bytes_eq}
use Rattle.std.specs.Result.{result_ok}
use Rattle.toml.specs.Data.{Data, Members, string, get_member, as_str}
use Rattle.fk_model.specs.Names.{is_name}
use Rattle.fk_asm.specs.Assembler.{assembled}
use Rattle.fk_asm.specs.declared.fail.AsmError.{AsmError}
use Rattle.fk_scenario.specs.Fields.Paths.{enclosing}
use Rattle.fk_scenario.specs.declared.entries.types.Program.{Program}
use Rattle.fk_scenario.specs.declared.entries.types.SpaceEntry.{SpaceEntry}
use Rattle.fk_scenario.specs.Sections.Programs.{position_of}
use Rattle.fk_scenario.specs.Sections.Spaces.{is_no_name, may_stand, has_room_for_space, count_beneath, has_space_or_root, has_space}
use Rattle.laws_scenario_faults.specs.Asked.{AreKept, Section, AllKeep}
use Rattle.laws_scenario_faults.specs.Asked.AllKeep.{NoEntry, Entry}
use Rattle.laws_scenario_faults.specs.Tables.{table_of, is_text, is_so_if, may_have, text, text_at, is_path, path}
use Rattle.laws_scenario_faults.specs.Entries.{program_asks, program_says, is_program_if, keys_of_space_ask, space_asks, space_of, space_says}
use Rattle.laws_scenario_faults.specs.Keys.{path_text, AtIf, OfTable}
use Rattle.laws_scenario_faults.specs.Scenarios.{EachSays, SaysProgram, IsProgram, SaysSpace}
use Rattle.laws_scenario_faults.proofs.Paths.{path-written}
use Rattle.laws_scenario_faults.proofs.Keys.{text-is, table-is, there, path-at, path-at-told, flag-or, flag-or-told}
use Rattle.laws_scenario_faults.proofs.Keys.{numbers-or, numbers-or-told}

-- ---- what is asked, and sections

pub kept-append : (these those : List (ℕ × Bool)) → AreKept (these ++ those) → AreKept these × AreKept those
kept-append [] those keep = (tt, keep)
kept-append (a ∷ these) those keep = let (one, two) = kept-append these those keep.1 in ((keep.0, one), two)

pub append-kept : (these those : List (ℕ × Bool)) → AreKept these → AreKept those → AreKept (these ++ those)
append-kept [] those one two = two
append-kept (a ∷ these) those one two = (one.0, append-kept these those one.1 two)

module _ {E X : Type 0} (s : Section E X) (Says : List X → E → X → Type 0) where
  pub section-says : ((done : List X) (entry : E) → AreKept (s.asks done entry) → Says done entry (s.says done entry)) →
      (done : List X) (es : List E) (all : List X) → AllKeep s done es all → (xs : List X) × (all ≡ done ++ xs) × EachSays Says done es xs
  section-says says done _ _ (NoEntry _) = ([], sym (append-nil done), tt)
  section-says says done _ all (Entry _ entry more _ asked rest) =
      let x = s.says done entry in
      let (xs, same, others) = section-says says (done ++ x ∷ []) more all rest in
      (x ∷ xs, same ∙ append_assoc done (x ∷ []) xs, (says done entry asked, others))

  pub section-told : ((done : List X) (entry : E) (x : X) → Says done entry x → AreKept (s.asks done entry) × (s.says done entry ≡ x)) →
      (done : List X) (es : List E) (xs : List X) → EachSays Says done es xs → AllKeep s done es (done ++ xs)
  section-told told done [] [] say = subst (AllKeep s done []) (sym (append-nil done)) (NoEntry done)
  section-told told done [] (x ∷ xs) say = absurd (say)
  section-told told done (entry ∷ es) [] say = absurd (say)
  section-told told done (entry ∷ es) (x ∷ xs) say =
      let (asked, same) = told done entry x say.0 in
      let rest = section-told told (done ++ x ∷ []) es xs say.1 in
      Entry done entry es (done ++ x ∷ xs) asked
      (subst (λ (y : X). AllKeep s (done ++ y ∷ []) es (done ++ x ∷ xs)) (sym same)
      (subst (AllKeep s (done ++ x ∷ []) es) (append_assoc done (x ∷ []) xs) rest))

-- the same of all of a section
module _ {E X : Type 0} (s : Section E X) (Says : List X → E → X → Type 0) where
  pub all-say : ((done : List X) (entry : E) → AreKept (s.asks done entry) → Says done entry (s.says done entry)) →
      (es : List E) (all : List X) → AllKeep s [] es all → EachSays Says [] es all
  all-say says es all keep = let (xs, same, say) = section-says s Says says [] es all keep in subst (EachSays Says [] es) (sym same) say

-- ---- programs

assembled-is : (r : Result (List ℕ) AsmError) → is_some (result_ok r) ≡ true → r ≡ Ok (unwrap_or (result_ok r) [])
assembled-is (Ok words) h = refl
assembled-is (Err e) h = absurd (cc)

pub program-says : (done : List Program) (entry : List ℕ × Data) → AreKept (program_asks done entry) → SaysProgram done entry (program_says done entry)
unfolding program_asks program_says
program-says done entry keep = record {
  name = refl;
  is_one = keep.1.0;
  words = (unwrap_or (as_str entry.1) [], text-is entry.1 keep.0, assembled-is (assembled (unwrap_or (as_str entry.1) [])) keep.1.1.0);
}

program-same : (p : Program) (name words : List ℕ) → name ≡ p.name → words ≡ p.words → (record { name = name; words = words }) ≡ p
program-same p name words a b = rw (a, b) refl

pub program-told : (done : List Program) (entry : List ℕ × Data) (p : Program) → SaysProgram done entry p →
    AreKept (program_asks done entry) × (program_says done entry ≡ p)
unfolding program_asks program_says
program-told done entry p say =
    let (text, is, words) = say.words in
    let here : unwrap_or (as_str entry.1) [] ≡ text = ap (λ (d : Data). unwrap_or (as_str d) []) is in
    let read : assembled (unwrap_or (as_str entry.1) []) ≡ Ok p.words = ap assembled here ∙ words in
    let found : unwrap_or (result_ok (assembled (unwrap_or (as_str entry.1) []))) [] ≡ p.words =
    ap (λ (r : Result (List ℕ) AsmError). unwrap_or (result_ok r) []) read in (
      (subst (λ (d : Data). is_text d ≡ true) (sym is) refl, (say.is_one, (ap (λ (r : Result (List ℕ) AsmError). is_some (result_ok r)) read, tt))),
      program-same p entry.0 _ (sym say.name) found,
    )

-- ---- spaces

not-not : (b : Bool) → not (not b) ≡ true → b ≡ true
not-not true h = refl
not-not false h = absurd (cc)

module _ (ps : List Program) (ms : Members) where
  program-if : may_have is_text (codes "program") ms ≡ true → not (is_no_name (text (codes "program") ms)) ≡ true →
      is_program_if ps (text (codes "program") ms) ≡ true →
      AtIf (IsProgram ps) (codes "program") ms (option_and_then (position_of ps) (text (codes "program") ms))
  program-if h n p = by (get_member (codes "program") ms) refl h n p
    where
      named : (d : Data) (name : List ℕ) → get_member (codes "program") ms ≡ Some d → d ≡ string name → is_name name ≡ true →
          (index : Option ℕ) → position_of ps name ≡ index → is_some index ≡ true → AtIf (IsProgram ps) (codes "program") ms index
      named d name at is n None read h = absurd (cc)
      named d name at is n (Some index) read h = (d, at, (name, is, n, read))

      some : (d : Data) → get_member (codes "program") ms ≡ Some d → (text : Option (List ℕ)) → as_str d ≡ text → is_some text ≡ true →
          not (is_no_name text) ≡ true → is_program_if ps text ≡ true → AtIf (IsProgram ps) (codes "program") ms (option_and_then (position_of ps) text)
      some d at None read t n p = absurd (cc)
      some d at (Some name) read t n p =
          named d name at (text-is d (ap is_some read) ∙ ap (λ (o : Option (List ℕ)). string (unwrap_or o [])) read) (not-not (is_name name) n)
          (position_of ps name) refl p

      by : (o : Option Data) → get_member (codes "program") ms ≡ o → is_so_if is_text o ≡ true →
          not (is_no_name (option_and_then as_str o)) ≡ true → is_program_if ps (option_and_then as_str o) ≡ true →
          AtIf (IsProgram ps) (codes "program") ms (option_and_then (position_of ps) (option_and_then as_str o))
      by None at h n p = at
      by (Some d) at h n p = some d at (as_str d) refl h n p

  program-if-told : (x : Option ℕ) → AtIf (IsProgram ps) (codes "program") ms x →
      (may_have is_text (codes "program") ms ≡ true) × (not (is_no_name (text (codes "program") ms)) ≡ true)
      × (is_program_if ps (text (codes "program") ms) ≡ true) × (option_and_then (position_of ps) (text (codes "program") ms) ≡ x)
  program-if-told None at =
      subst (λ (o : Option Data). (is_so_if is_text o ≡ true) × (not (is_no_name (option_and_then as_str o)) ≡ true)
      × (is_program_if ps (option_and_then as_str o) ≡ true) × (option_and_then (position_of ps) (option_and_then as_str o) ≡ None))
      (sym at) (refl, refl, refl, refl)
  program-if-told (Some index) (value, at, (name, is, n, found)) =
      there (codes "program") ms (λ (o : Option Data). (is_so_if is_text o ≡ true) × (not (is_no_name (option_and_then as_str o)) ≡ true)
      × (is_program_if ps (option_and_then as_str o) ≡ true) × (option_and_then (position_of ps) (option_and_then as_str o) ≡ Some index))
      value (string name) at is (refl, ap (λ t. not (not t)) n, ap is_some found, found)

-- the text of the root's path is a slash
root-text : (text : List ℕ) → is_path text ≡ true → path text ≡ [] → bytes_eq text (codes "/") ≡ true
root-text text h same = (bytes_eq-Decides text (codes "/")).1 ((path-written text h).0 ∙ ap path_text same)

root-path : (text : List ℕ) → bytes_eq text (codes "/") ≡ true → path text ≡ []
root-path text h = let same : text ≡ codes "/" = (bytes_eq-Decides text (codes "/")).0 h in rw same refl

-- the root's entry adds no space
abbrev added : Bool → ℕ
added is_root = cond (not is_root) 1 0

count-last : (ss : List SpaceEntry) (s : SpaceEntry) → count_beneath (ss ++ s ∷ []) ≡ count_beneath ss + added (length s.path == 0)
count-last ss s = sum_by_push (λ (t : SpaceEntry). added (length t.path == 0)) ss s

few-say : (done : List SpaceEntry) (written : List ℕ) (s : SpaceEntry) → path written ≡ s.path → may_stand done s.path ≡ true →
    has_room_for_space done written ≡ true → count_beneath (done ++ s ∷ []) ≤ 255
few-say done written s same stands room =
    by (length s.path == 0) (bytes_eq written (codes "/")) refl refl stands room
  where
    alone : (ss : List SpaceEntry) → (length ss == 0) ≡ true → count_beneath ss ≡ 0
    alone [] h = refl
    alone (t ∷ ss) h = let none : length (t ∷ ss) ≡ 0 = eqb-true (length (t ∷ ss)) 0 h in absurd (suc-ne-zero (length ss) none)

    by : (none root : Bool) → (length s.path == 0) ≡ none → bytes_eq written (codes "/") ≡ root →
        cond none (length done == 0) (has_space_or_root done (enclosing s.path) && not (has_space done s.path)) ≡ true →
        (root || nat_lt (count_beneath done) 255) ≡ true → count_beneath (done ++ s ∷ []) ≤ 255
    by true root is_none is_root stands room = omega (arith, count-last done s, alone done stands, ap added is_none)
    by false true is_none is_root stands room =
        let none : s.path ≡ [] = sym same ∙ root-path written is_root in
        let zero : (length s.path == 0) ≡ true = rw none refl in absurd (true≢false (sym zero ∙ is_none))
    by false false is_none is_root stands room =
        omega (arith, count-last done s, ap added is_none, ltb-true (count_beneath done) 255 room)

few-told : (done : List SpaceEntry) (written : List ℕ) (s : SpaceEntry) → path written ≡ s.path → is_path written ≡ true →
    count_beneath (done ++ s ∷ []) ≤ 255 → has_room_for_space done written ≡ true
few-told done written s same is few = by (length s.path == 0) (bytes_eq written (codes "/")) refl refl
  where
    empty : (p : List ℕ) → (length p == 0) ≡ true → p ≡ []
    empty [] h = refl
    empty (k ∷ p) h = let none : length (k ∷ p) ≡ 0 = eqb-true (length (k ∷ p)) 0 h in absurd (suc-ne-zero (length p) none)

    by : (none root : Bool) → (length s.path == 0) ≡ none → bytes_eq written (codes "/") ≡ root → (root || nat_lt (count_beneath done) 255) ≡ true
    by none true is_none is_root = refl
    by true false is_none is_root = absurd (true≢false (sym (root-text written is (same ∙ empty s.path is_none)) ∙ is_root))
    by false false is_none is_root =
        lt-ltb (count_beneath done) 255 (omega (arith, few, count-last done s, ap added is_none))

space-keys-say : (ps : List Program) (done : List SpaceEntry) (ms : Members) → AreKept (keys_of_space_ask ps done ms) → SaysSpace ps done ms (space_of ps ms)
space-keys-say ps done ms (
  keys,
  (
    path_is,
    (
      program_is,
      (
        pages_are,
        (
          nester_is,
          (
            pages_in,
            (
              room,
              (
                is_path_text,
                (named, (stands, (there_is, _))),
              ),
            ),
          ),
        ),
      ),
    ),
  ),
) = record {
  keys = keys;
  path = path-at (codes "path") ms path_is is_path_text;
  program = program-if ps ms program_is named there_is;
  pages = numbers-or (codes "pages") ms 0 255 pages_are pages_in;
  nester = flag-or (codes "nester") ms nester_is;
  stands = stands;
  few = few-say done (text_at (codes "path") ms) (space_of ps ms) refl stands room;
}

space-same : (s : SpaceEntry) (path : List ℕ) (program : Option ℕ) (pages : List ℕ) (nester : Bool) → path ≡ s.path → program ≡ s.program →
    pages ≡ s.pages → nester ≡ s.nester → (record { path = path; program = program; pages = pages; nester = nester }) ≡ s
space-same s path program pages nester a b c d = rw (a, b, c, d) refl

space-keys-told : (ps : List Program) (done : List SpaceEntry) (ms : Members) (s : SpaceEntry) → SaysSpace ps done ms s →
    AreKept (keys_of_space_ask ps done ms) × (space_of ps ms ≡ s)
space-keys-told ps done ms s say =
    let (path_is, is_path_text, path_same) = path-at-told (codes "path") ms s.path say.path in
    let (program_is, named, there_is, program_same) = program-if-told ps ms s.program say.program in
    let (pages_are, pages_in, pages_same) = numbers-or-told (codes "pages") ms 0 255 s.pages say.pages in
    let (nester_is, nester_same) = flag-or-told (codes "nester") ms s.nester say.nester in
    let room = few-told done (text_at (codes "path") ms) s path_same is_path_text say.few in
    let stands = subst (λ p. may_stand done p ≡ true) (sym path_same) say.stands in (
      (say.keys, (path_is, (program_is, (pages_are, (nester_is, (pages_in, (room, (is_path_text, (named, (stands, (there_is, tt))))))))))),
      space-same s _ _ _ _ path_same program_same pages_same nester_same,
    )

module _ (ps : List Program) (done : List SpaceEntry) (value : Data) where
  pub space-says : AreKept (space_asks ps done value) → OfTable (SaysSpace ps done) value (space_says ps done value)
  unfolding space_asks space_says
  space-says (is, keep) = (table_of value, table-is value is, space-keys-say ps done (table_of value) keep)

  pub space-told : (s : SpaceEntry) → OfTable (SaysSpace ps done) value s → AreKept (space_asks ps done value) × (space_says ps done value ≡ s)
  unfolding space_asks space_says
  space-told s (ms, is, say) =
      let (keep, same) = space-keys-told ps done ms s say in
      subst (λ (d : Data). AreKept (space_asks ps done d) × (space_says ps done d ≡ s)) (sym is) ((refl, keep), same)
