use Rattle.std.proofs.Common.{◌≡◌, drop, ◌++◌, map, filter}
use Rattle.fk_asm.specs.Lines as definitions
use Rattle.fk_asm.proofs.lines.tokens_of.Given as goal

abbrev pub invariant-loop-piece : goal.invariant-loop-piece
invariant-loop-piece l = map (λ token. token.now) l.tokens.items ++ filter definitions.is_token (map (λ piece. piece.now) (drop l.piece-index
    l.piece-items)) ≡ filter definitions.is_token (map (λ piece. piece.now) l.piece-items)
