-- Instructions: what words ask for where the registers hold 12, 10, all ones, 64 and 0 from the second on, at counter 9.
use Rattle.std.specs.Prelude.{ℕ, List, [], ◌∷◌, map}
use Rattle.fk_model.specs.declared.instruction.Act.{Act}
use Rattle.fk_model.specs.Instructions.{act}
use Rattle.examples_moves.specs.Worked.{registers_from}

-- what each of these words asks for
abbrev pub asked : List ℕ → List Act
asked words = map (λ word. act word (registers_from (0 ∷ 12 ∷ 10 ∷ 0xffff_ffff_ffff_ffff ∷ 64 ∷ 0 ∷ [])) 9) words

-- mov r9, r1; add r9, r1, r3; sub r9, r2, r1; mul r9, r3, r1; and r9, r1, r2; or r9, r1, r2; xor r9, r1, r2;
-- addi r9, r1, 5; addi r9, r1, -13
abbrev pub sums : List ℕ
sums =
    0x0291_0000_0000_0000 ∷ 0x0391_3000_0000_0000
    ∷ 0x0492_1000_0000_0000 ∷ 0x0593_1000_0000_0000 ∷ 0x0691_2000_0000_0000 ∷ 0x0791_2000_0000_0000 ∷ 0x0891_2000_0000_0000 ∷
    0x1391_0000_0000_0005 ∷ 0x1391_0000_ffff_fff3 ∷ []

-- shl r9, r1, r2; shl r9, r1, r4; shr r9, r3, r2; shr r9, r3, r4; div r9, r3, r1; rem r9, r3, r1; div r9, r3, r5; rem r9, r3, r5
abbrev pub shifts_and_quotients : List ℕ
shifts_and_quotients =
    0x0991_2000_0000_0000 ∷ 0x0991_4000_0000_0000 ∷ 0x0a93_2000_0000_0000 ∷ 0x0a93_4000_0000_0000 ∷
    0x0b93_1000_0000_0000 ∷ 0x0c93_1000_0000_0000 ∷ 0x0b93_5000_0000_0000 ∷ 0x0c93_5000_0000_0000 ∷ []

-- load r9, r1, 5; load r9, r3, 5; load r9, r1, -1; store r2, r1, 5
abbrev pub accesses : List ℕ
accesses = 0x0d91_0000_0000_0005 ∷ 0x0d93_0000_0000_0005 ∷ 0x0d91_0000_ffff_ffff ∷ 0x0e21_0000_0000_0005 ∷ []

-- jmp 7; jz r5, 7; jz r1, 7; jnz r5, 7; jnz r1, 7; jlt r2, r1, 7; jlt r1, r2, 7; jlt r1, r1, 7
abbrev pub jumps : List ℕ
jumps =
    0x0f00_0000_0000_0007 ∷ 0x1050_0000_0000_0007 ∷ 0x1010_0000_0000_0007 ∷ 0x1150_0000_0000_0007 ∷ 0x1110_0000_0000_0007 ∷
    0x1221_0000_0000_0007 ∷ 0x1212_0000_0000_0007 ∷ 0x1211_0000_0000_0007 ∷ []

-- halt; set r9, 4294967295; set r9, 7 with the other registers' fields full; call; the operations 21 and 255; bits 32 and 43 set
abbrev pub others : List ℕ
others =
    0x0000_0000_0000_0000 ∷ 0x0190_0000_ffff_ffff ∷ 0x019f_f000_0000_0007 ∷ 0x1400_0000_0000_0000 ∷
    0x1500_0000_0000_0000 ∷ 0xff00_0000_0000_0000 ∷ 0x0190_0001_0000_0007 ∷ 0x0190_0800_0000_0007 ∷ []
