-- The address of a label, as a line is added, and how many words there are.
use Rattle.std.proofs.Common.{◌≡◌, ℕ, ◌+◌, Bool, true, false, cond, List, [], ◌∷◌, ◌++◌, length, filter, Option, Some, None, option_map, is_some, Result, Ok, refl, sym, ap, ◌∙◌, arith}
use Rattle.std.proofs.lemmas.Slice.Eq.{bytes_eq-Decides}
use Rattle.std.specs.Str.{bytes_eq}
use Rattle.fk_asm.specs.Program.{TextLine, places_word, size, is_name_of, label_address_from, label_address}
use Rattle.fk_asm.specs.declared.operations.Item as code
use Rattle.fk_asm.specs.Operations.{Item, item_view}
use Rattle.fk_asm.specs.Labels.{with_label, IsNew}

pub size-push : (lines : List TextLine) (line : TextLine) → size (lines ++ line ∷ []) ≡ size lines + size (line ∷ [])
size-push [] line = omega arith
size-push (first ∷ lines) line = by (places_word first.item) (size-push lines line)
  where
    by : (t : Bool) → size (lines ++ line ∷ []) ≡ size lines + size (line ∷ [])
        → length (cond t (first ∷ filter (λ l. places_word l.item) (lines ++ line ∷ [])) (filter (λ l. places_word l.item) (lines ++ line ∷ [])))
        ≡ length (cond t (first ∷ filter (λ l. places_word l.item) lines) (filter (λ l. places_word l.item) lines)) + size (line ∷ [])
    by true more = omega (arith, more)
    by false more = more

sizes : (first : TextLine) (lines : List TextLine) (before : ℕ) → before + size (first ∷ []) + size lines ≡ before + size (first ∷ lines)
sizes first lines before = by (places_word first.item)
  where
    by : (t : Bool) → before + length (cond {A = List TextLine} t (first ∷ []) []) + size lines
        ≡ before + length (cond t (first ∷ filter (λ l. places_word l.item) lines) (filter (λ l. places_word l.item) lines))
    by true = omega arith
    by false = omega arith

-- an address is that of a line before, or of the last line
abbrev or_last : Option ℕ → Option ℕ → Option ℕ
or_last (Some address) last = Some address
or_last None last = last

address_from-push : (before : ℕ) (lines : List TextLine) (line : TextLine) (name : List ℕ)
    → label_address_from before (lines ++ line ∷ []) name ≡ or_last (label_address_from before lines name) (cond (is_name_of line.label name) (Some (before +
    size lines)) None)
unfolding label_address_from
address_from-push before [] line name =
    let same : before ≡ before + 0 = omega arith in
    ap (λ n. cond (is_name_of line.label name) (Some n) None) same
address_from-push before (first ∷ lines) line name = by (is_name_of first.label name) (address_from-push (before + size (first ∷ [])) lines line name)
  where
    by : (t : Bool) → label_address_from (before + size (first ∷ [])) (lines ++ line ∷ []) name
        ≡ or_last (label_address_from (before + size (first ∷ [])) lines name) (cond (is_name_of line.label name) (Some (before + size (first ∷ []) + size
        lines)) None)
        → cond t (Some before) (label_address_from (before + size (first ∷ [])) (lines ++ line ∷ []) name)
        ≡ or_last (cond t (Some before) (label_address_from (before + size (first ∷ [])) lines name)) (cond (is_name_of line.label name) (Some (before +
        size (first ∷ lines))) None)
    by true more = refl
    by false more = more ∙ ap (λ n. or_last (label_address_from (before + size (first ∷ [])) lines name) (cond (is_name_of line.label name) (Some n) None))
        (sizes first lines before)

or_last-None : (o : Option ℕ) → o ≡ or_last o None
or_last-None None = refl
or_last-None (Some address) = refl

added : (label : Option (List ℕ)) (lines : List TextLine) (name : List ℕ) → IsNew lines label
    → with_label label (size lines) (label_address lines) name ≡ or_last (label_address lines name) (cond (is_name_of label name) (Some (size lines)) None)
added None lines name new = or_last-None (label_address lines name)
added (Some label) lines name new = by (bytes_eq label name) refl
  where
    by : (t : Bool) → bytes_eq label name ≡ t → cond t (Some (size lines)) (label_address lines name)
        ≡ or_last (label_address lines name) (cond t (Some (size lines)) None)
    by true e =
        let same : label ≡ name = (bytes_eq-Decides label name).0 e in
        let none : label_address lines name ≡ None = sym (ap (label_address lines) same) ∙ new in
        rw none refl
    by false e = or_last-None (label_address lines name)

-- the addresses with that of a new label are those of the lines and one more
pub with_label-added : (lines : List TextLine) (line : TextLine) (name : List ℕ) → IsNew lines line.label
    → with_label line.label (size lines) (label_address lines) name ≡ label_address (lines ++ line ∷ []) name
with_label-added lines line name new =
    let zero_first : 0 + size lines ≡ size lines = omega arith in
    added line.label lines name new ∙ sym (address_from-push 0 lines line name
    ∙ ap (λ n. or_last (label_address lines name) (cond (is_name_of line.label name) (Some n) None)) zero_first)

-- how many words a line places
pub size_one : (line : TextLine) → size (line ∷ []) ≡ cond (places_word line.item) 1 0
size_one line = by (places_word line.item)
  where
    by : (t : Bool) → length (cond {A = List TextLine} t (line ∷ []) []) ≡ cond t 1 0
    by true = refl
    by false = refl

-- whether a line places a word
pub places-map : (o : Option code.Item) → places_word (Ok (option_map item_view o)) ≡ is_some o
places-map None = refl
places-map (Some x) = refl

pub places-Ok : (o : Option Item) → places_word (Ok o) ≡ is_some o
places-Ok None = refl
places-Ok (Some x) = refl
