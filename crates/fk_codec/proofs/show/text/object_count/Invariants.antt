use Rattle.std.proofs.Common.{◌≡◌, ◌+◌, drop}
use Rattle.fk_codec.specs.Show.Shown.{object_count}
use Rattle.fk_codec.proofs.show.text.object_count.Given as goal

abbrev pub invariant-loop-space : goal.invariant-loop-space
invariant-loop-space l = l.count + object_count (drop l.space-index l.spaces) ≡ object_count l.spaces
