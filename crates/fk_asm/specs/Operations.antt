-- The operations by their names, and the words of lines.
use Rattle.std.specs.Prelude.{ℕ, Bool, nat_eq, List, [], ◌∷◌, Option, Some, None, Result, Ok, Err, if◌then◌else◌, codes, option_map}
use Rattle.std.specs.Cmp.Lexicographic.{pointwise}
use Rattle.fk_model.specs.Instructions.{word_of}
use Rattle.fk_model.specs.Numbers.{number_up_to}
use Rattle.fk_model.specs.declared.instruction.Instr.{Instr}
use Rattle.fk_model.specs.declared.instruction.operation.TheConstants.{HALT, SET, MOV, ADD, SUB, MUL, AND, OR, XOR, SHL, SHR, DIV, REM, LOAD, STORE, JMP, JZ, JNZ, JLT, ADDI, CALL}
use Rattle.fk_asm.specs.declared.operations.Shape.{Shape}
use Rattle.fk_asm.specs.declared.operations.Shape.TheVariants.{Bare, Number, RegisterNumber, TwoRegisters, ThreeRegisters, TwoRegistersNumber}
use Rattle.fk_asm.specs.declared.operations.Operation.{Operation}
use Rattle.fk_asm.specs.declared.operations.Item as code
use Rattle.fk_asm.specs.declared.reason.Reason.{Reason}
use Rattle.fk_asm.specs.declared.reason.Reason.TheVariants as reasons
use Rattle.fk_asm.specs.Operands as operands
use Rattle.fk_asm.specs.Operands.{Value, register_of, operand_of, is_label}
use Rattle.fk_asm.specs.Reasons.{◌>>=◌, or_reason}

-- whether a token is this name
abbrev pub token_is : List ℕ → List ℕ → Bool
token_is token name = pointwise nat_eq token name

-- a row of the table
abbrev pub with_shape : ℕ → Shape → Option Operation
with_shape number shape = Some (record { number = number; shape = shape })

-- what leads elsewhere: jumps, the call, the end
unfoldable pub jump_of : List ℕ → Option Operation
jump_of name =
    if token_is name (codes "halt") then with_shape HALT Bare
    else if token_is name (codes "jmp") then with_shape JMP Number
    else if token_is name (codes "jz") then with_shape JZ RegisterNumber
    else if token_is name (codes "jnz") then with_shape JNZ RegisterNumber
    else if token_is name (codes "jlt") then with_shape JLT TwoRegistersNumber
    else if token_is name (codes "call") then with_shape CALL Bare
    else None

-- bits of two registers
unfoldable pub bits_of : List ℕ → Option Operation
bits_of name =
    if token_is name (codes "and") then with_shape AND ThreeRegisters
    else if token_is name (codes "or") then with_shape OR ThreeRegisters
    else if token_is name (codes "xor") then with_shape XOR ThreeRegisters
    else if token_is name (codes "shl") then with_shape SHL ThreeRegisters
    else if token_is name (codes "shr") then with_shape SHR ThreeRegisters
    else jump_of name

-- sums, products and quotients of two registers
unfoldable pub arithmetic_of : List ℕ → Option Operation
arithmetic_of name =
    if token_is name (codes "add") then with_shape ADD ThreeRegisters
    else if token_is name (codes "sub") then with_shape SUB ThreeRegisters
    else if token_is name (codes "mul") then with_shape MUL ThreeRegisters
    else if token_is name (codes "div") then with_shape DIV ThreeRegisters
    else if token_is name (codes "rem") then with_shape REM ThreeRegisters
    else bits_of name

-- an operation's number and its operands, by its name
unfoldable pub operation_of : List ℕ → Option Operation
operation_of name =
    if token_is name (codes "set") then with_shape SET RegisterNumber
    else if token_is name (codes "mov") then with_shape MOV TwoRegisters
    else if token_is name (codes "addi") then with_shape ADDI TwoRegistersNumber
    else if token_is name (codes "load") then with_shape LOAD TwoRegistersNumber
    else if token_is name (codes "store") then with_shape STORE TwoRegistersNumber
    else arithmetic_of name

-- a word; where a label is named, its address is still to be put in
pub record Item : Type 0 where
  pub word : ℕ
  pub label : Option (List ℕ)

-- an instruction by its operation and registers, with number 0
abbrev pub instr : ℕ → ℕ → ℕ → ℕ → Instr
instr op a b c = record { op = op; a = a; b = b; c = c; n = 0 }

-- the word of an instruction whose number is a value
abbrev pub with_value : Instr → Value → Item
with_value i (operands.Number n) = record { word = word_of (record { op = i.op; a = i.a; b = i.b; c = i.c; n = n }); label = None }
with_value i (operands.Label name) = record { word = word_of i; label = Some name }

abbrev pub two_registers : ℕ → List ℕ → List ℕ → Result Instr Reason
two_registers op a b = do
  a ← register_of a
  b ← register_of b
  Ok (instr op a b 0)

abbrev pub three_registers : ℕ → List ℕ → List ℕ → List ℕ → Result Instr Reason
three_registers op a b c = do
  i ← two_registers op a b
  c ← register_of c
  Ok (instr op i.a i.b c)

abbrev pub two_registers_number : ℕ → List ℕ → List ℕ → List ℕ → Result Item Reason
two_registers_number op a b n = do
  i ← two_registers op a b
  n ← operand_of n
  Ok (with_value i n)

-- the word of an operation with exactly its operands, which are read from the left
unfoldable pub instruction : ℕ → Shape → List (List ℕ) → Result Item Reason
instruction op Bare [] = Ok (with_value (instr op 0 0 0) (operands.Number 0))
instruction op Number (n ∷ []) = do
  n ← operand_of n
  Ok (with_value (instr op 0 0 0) n)
instruction op RegisterNumber (a ∷ n ∷ []) = do
  a ← register_of a
  n ← operand_of n
  Ok (with_value (instr op a 0 0) n)
instruction op TwoRegisters (a ∷ b ∷ []) = do
  i ← two_registers op a b
  Ok (with_value i (operands.Number 0))
instruction op ThreeRegisters (a ∷ b ∷ c ∷ []) = do
  i ← three_registers op a b c
  Ok (with_value i (operands.Number 0))
instruction op TwoRegistersNumber (a ∷ b ∷ n ∷ []) = two_registers_number op a b n
instruction _ _ _ = Err reasons.Form

-- a number of 64 bits without sign, or a label's address
abbrev pub whole_word : List ℕ → Result Item Reason
whole_word token =
    if is_label token then Ok (record { word = 0; label = Some token })
    else (or_reason reasons.Number (number_up_to 18446744073709551615 token) >>= λ n. Ok (record { word = n; label = None }))

abbrev pub operation_item : List ℕ → List (List ℕ) → Result Item Reason
operation_item name tokens = do
  operation ← or_reason reasons.Form (operation_of name)
  instruction operation.number operation.shape tokens

abbrev pub is_word_directive : List ℕ → Bool
is_word_directive name = token_is name (codes "word")

-- what a statement places: `word` and its operand, or an operation and its operands
abbrev pub statement : List ℕ → List (List ℕ) → Result Item Reason
statement name (n ∷ []) = if is_word_directive name then whole_word n else operation_item name (n ∷ [])
statement name tokens = operation_item name tokens

-- no tokens place nothing
unfoldable pub item_of : List (List ℕ) → Result (Option Item) Reason
item_of [] = Ok None
item_of (name ∷ tokens) = do
  item ← statement name tokens
  Ok (Some item)

-- what the code's item is
abbrev pub item_view : code.Item → Item
item_view item = record { word = item.word; label = option_map (λ name. name.now) item.label }
