-- Paths: a text is that of a path exactly where it is the path's slots in decimal, each behind a slash.
use Rattle.std.proofs.Common.{◌≡◌, ◌≢◌, ℕ, ◌≤◌, ◌<◌, Bool, true, false, cond, ◌&&◌, List, [], ◌∷◌, ◌++◌, length, map, flat_map, All, Option, Some, None}
use Rattle.std.proofs.Common.{is_some, unwrap_or}
use Rattle.std.proofs.Common.{codes, decimal, refl, sym, ap, ◌∙◌, arith, eqb-true}
use Rattle.std.proofs.lemmas.Bool.{and_from}
use Rattle.std.proofs.lemmas.Fmt.{decimal_nonempty}
use Rattle.std.proofs.lemmas.List.{append-nil}
use Rattle.std.proofs.lemmas.List.Elements.{All-from_recursion, recursion_from_All}
use Rattle.std.proofs.lemmas.List.Splits.{slice_split_none, slice_split_at}
use Rattle.std.specs.List.{list_all, slice_split, onto_first, AllByRecursion}
use Rattle.fk_model.specs.Numbers.{plain_number_up_to}
use Rattle.fk_model.proofs.numbers.Decimals.{plain_number_up_to-decimal, plain_number_up_to-only, plain_number_up_to-le, decimal_avoids}
use Rattle.fk_scenario.specs.Fields.Paths.{is_slash}
use Rattle.fk_scenario.specs.Entries.Kept.{AreSlots}
use Rattle.laws_scenario_faults.specs.Tables.{pieces, is_slot, slot, is_path, path}
use Rattle.laws_scenario_faults.specs.Keys.{path_text}

parts-of : (a b : Bool) → (a && b) ≡ true → (a ≡ true) × (b ≡ true)
parts-of true b h = (refl, h)
parts-of false b h = absurd (cc)

-- slots in decimal, each behind a slash
abbrev written : List ℕ → List ℕ
written slots = flat_map (λ slot. codes "/" ++ decimal slot) slots

abbrev IsUserSlot : ℕ → Type 0
IsUserSlot slot = slot ≤ 239

path-text : (slots : List ℕ) → slots ≢ [] → path_text slots ≡ written slots
path-text [] some = absurd (some refl)
path-text (slot ∷ slots) some = refl

-- ---- from the text

-- the pieces of a text, each behind a slash, are the text behind one
pieces-whole : (text : List ℕ) → flat_map (λ piece. 47 ∷ piece) (slice_split is_slash text) ≡ 47 ∷ text
pieces-whole [] = refl
pieces-whole (byte ∷ text) = by (is_slash byte) (slice_split is_slash text) refl (pieces-whole text)
  where
    by : (t : Bool) (parts : List (List ℕ)) → is_slash byte ≡ t → flat_map (λ piece. 47 ∷ piece) parts ≡ 47 ∷ text →
        flat_map (λ piece. 47 ∷ piece) (cond t ([] ∷ parts) (onto_first byte parts)) ≡ 47 ∷ byte ∷ text
    by true parts is rest =
        let same : byte ≡ 47 = eqb-true byte 47 is in
        ap (λ xs. 47 ∷ xs) (rest ∙ ap (λ b. b ∷ text) (sym same))
    by false [] is rest = absurd (cc)
    by false (part ∷ parts) is rest =
        let tail : part ++ flat_map (λ piece. 47 ∷ piece) parts ≡ text = cc in ap (λ xs. 47 ∷ byte ∷ xs) tail

-- each piece is its slot in decimal
slot-written : (piece : List ℕ) → is_slot piece ≡ true → (decimal (slot piece) ≡ piece) × (slot piece ≤ 239)
slot-written piece h = by (plain_number_up_to 239 piece) refl h
  where
    by : (o : Option ℕ) → plain_number_up_to 239 piece ≡ o → is_some o ≡ true → (decimal (unwrap_or o 0) ≡ piece) × (unwrap_or o 0 ≤ 239)
    by None read h = absurd (cc)
    by (Some n) read h = (sym (plain_number_up_to-only 239 n piece (omega arith) read), plain_number_up_to-le 239 n piece read)

slots-written : (ps : List (List ℕ)) → list_all is_slot ps ≡ true →
    (written (map slot ps) ≡ flat_map (λ piece. 47 ∷ piece) ps) × AllByRecursion IsUserSlot (map slot ps)
slots-written [] h = (refl, tt)
slots-written (piece ∷ ps) h =
    let (is, others) = parts-of (is_slot piece) (list_all is_slot ps) h in
    let (same, low) = slot-written piece is in
    let (rest, more) = slots-written ps others in
    (ap (λ xs. 47 ∷ (xs ++ written (map slot ps))) same ∙ ap (λ xs. 47 ∷ (piece ++ xs)) rest, (low, more))

split-some : (text : List ℕ) → map slot (slice_split is_slash text) ≢ []
split-some [] h = absurd (cc)
split-some (byte ∷ text) h = by (is_slash byte) (slice_split is_slash text) h
  where
    by : (t : Bool) (parts : List (List ℕ)) → map slot (cond t ([] ∷ parts) (onto_first byte parts)) ≡ [] → ⊥
    by true parts h = absurd (cc)
    by false [] h = absurd (cc)
    by false (part ∷ parts) h = absurd (cc)

slash-is : (byte : ℕ) → is_slash byte ≡ true → byte ≡ 47
slash-is byte h = eqb-true byte 47 h

pub path-written : (text : List ℕ) → is_path text ≡ true → (text ≡ path_text (path text)) × AreSlots (path text)
path-written [] h = absurd (cc)
path-written (byte ∷ []) h =
    let (is, _) = parts-of (is_slash byte) true h in
    (ap (λ b. b ∷ []) (slash-is byte is), All-from_recursion IsUserSlot [] tt)
path-written (byte ∷ more ∷ text) h =
    let ps = slice_split is_slash (more ∷ text) in
    let (is, slots) = parts-of (is_slash byte) (list_all is_slot ps) h in
    let (same, low) = slots-written ps slots in (
      ap (λ b. b ∷ more ∷ text) (slash-is byte is) ∙ (sym (pieces-whole (more ∷ text)) ∙ (sym same ∙ sym (path-text (map slot ps) (split-some (more ∷ text))))),
      All-from_recursion IsUserSlot (map slot ps) low,
    )

-- ---- from the path

no-slash : (n : ℕ) → n ≤ 239 → All (λ b. is_slash b ≡ false) (decimal n)
no-slash n low =
    All-from_recursion (λ b. is_slash b ≡ false) (decimal n) (decimal_avoids is_slash (λ b a c. digit b a) n (omega (arith, low)))
  where
    digit : (b : ℕ) → 48 ≤ b → is_slash b ≡ false
    digit b a = by (is_slash b) refl
      where
        by : (t : Bool) → is_slash b ≡ t → t ≡ false
        by true is = absurd (omega (arith, a, slash-is b is))
        by false is = refl

split-written : (slot : ℕ) (slots : List ℕ) → AllByRecursion IsUserSlot (slot ∷ slots) →
    slice_split is_slash (decimal slot ++ written slots) ≡ map decimal (slot ∷ slots)
split-written slot [] low =
    ap (slice_split is_slash) (append-nil (decimal slot)) ∙ slice_split_none is_slash (decimal slot) (no-slash slot low.0)
split-written slot (next ∷ slots) low =
    slice_split_at is_slash (decimal slot) 47 (decimal next ++ written slots) (no-slash slot low.0) refl
    ∙ ap (λ ps. decimal slot ∷ ps) (split-written next slots low.1)

slots-read : (slots : List ℕ) → AllByRecursion IsUserSlot slots → (list_all is_slot (map decimal slots) ≡ true) × (map slot (map decimal slots) ≡ slots)
slots-read [] low = (refl, refl)
slots-read (n ∷ slots) low =
    let read : plain_number_up_to 239 (decimal n) ≡ Some n = plain_number_up_to-decimal 239 n low.0 (omega arith) in
    let (all, same) = slots-read slots low.1 in (
      and_from (is_slot (decimal n)) (list_all is_slot (map decimal slots)) (ap is_some read) all,
      ap (λ (o : Option ℕ). unwrap_or o 0 ∷ map slot (map decimal slots)) read ∙ ap (λ xs. n ∷ xs) same,
    )

pieces-behind : (text : List ℕ) → 0 < length text → pieces (47 ∷ text) ≡ slice_split is_slash text
pieces-behind [] some = absurd (omega (arith, some))
pieces-behind (byte ∷ text) some = refl

pub path-back : (slots : List ℕ) → AreSlots slots → (is_path (path_text slots) ≡ true) × (path (path_text slots) ≡ slots)
path-back [] low = (refl, refl)
path-back (n ∷ slots) low =
    let each = recursion_from_All IsUserSlot (n ∷ slots) low in
    let body = decimal n ++ written slots in
    let some : 0 < length body = by-front (decimal n) (written slots) (decimal_nonempty n (omega (arith, each.0))) in
    let parts : pieces (47 ∷ body) ≡ map decimal (n ∷ slots) = pieces-behind body some ∙ split-written n slots each in
    let (all, same) = slots-read (n ∷ slots) each in
    (ap (list_all is_slot) parts ∙ all, ap (map slot) parts ∙ same)
  where
    by-front : (front rest : List ℕ) → 0 < length front → 0 < length (front ++ rest)
    by-front [] rest some = absurd (omega (arith, some))
    by-front (byte ∷ front) rest some = omega arith
