-- What the code keeps of lines that are read.
use Rattle.std.specs.Prelude.{◌≡◌, ℕ, List, Option, Some, None, option_map, Ok, if◌then◌else◌}
use Rattle.std.specs.Borrow.{Bor}
use Rattle.std.specs.BTreeMap.{BTreeMap, get_by}
use Rattle.std.specs.Cmp.Lexicographic.{slice_cmp}
use Rattle.std.specs.Ordering.{nat_cmp}
use Rattle.std.specs.Str.{bytes_eq}
use Rattle.fk_asm.specs.declared.program.Line as code
use Rattle.fk_asm.specs.Operations.{item_view}
use Rattle.fk_asm.specs.Program.{TextLine, label_address}

-- what the code's line is, which is one whose operation and operands are right
abbrev pub line_view : code.Line → TextLine
line_view line = record { number = line.number; label = option_map (λ name. name.now) line.label; item = Ok (option_map item_view line.item) }

-- the address that a map has for a name
abbrev pub label_address_in : BTreeMap (Bor (List ℕ)) ℕ → List ℕ → Option ℕ
label_address_in addresses name = get_by (λ key. slice_cmp nat_cmp name key.now) addresses

-- the addresses with that of one more name
abbrev pub with_name : List ℕ → ℕ → (List ℕ → Option ℕ) → List ℕ → Option ℕ
with_name label address addresses name = if bytes_eq label name then Some address else addresses name

-- the addresses with that of one more label, if there is one
abbrev pub with_label : Option (List ℕ) → ℕ → (List ℕ → Option ℕ) → List ℕ → Option ℕ
with_label None address addresses name = addresses name
with_label (Some label) address addresses name = with_name label address addresses name

-- none of the lines defines this label
abbrev pub IsNew : List TextLine → Option (List ℕ) → Type 0
IsNew lines None = Unit {0}
IsNew lines (Some name) = label_address lines name ≡ None
