use Rattle.std.proofs.Common.{map}
use Rattle.fk_host.specs.Served.{AllFit}
use Rattle.example_embed.proofs.go.Given as goal

-- the table fits the servers still
abbrev pub invariant-loop : goal.invariant-loop
invariant-loop g l = AllFit (map (λ r. r.rule) l.table.list.items) l.host.services.list
