use Rattle.std.proofs.Common.{◌≡◌, ◌+◌, drop}
use Rattle.fk_codec.specs.Show.Shown.{page_count}
use Rattle.fk_codec.proofs.show.text.page_count.Given as goal

abbrev pub invariant-loop-space : goal.invariant-loop-space
invariant-loop-space l = l.count + page_count (drop l.space-index l.spaces) ≡ page_count l.spaces
