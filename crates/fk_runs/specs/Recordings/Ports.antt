-- The ports that a record may name.
use Rattle.std.specs.Prelude.{ℕ, List, [], ◌∷◌}
use Rattle.fk_report.specs.Paths.{down_text}
use Rattle.fk_scenario.specs.declared.entries.types.ServerEntry.{ServerEntry}
use Rattle.fk_scenario.specs.declared.entries.types.ServiceSpec.{ServiceSpec}
use Rattle.fk_scenario.specs.declared.entries.types.ServiceSpec.TheVariants.{Console, Listed}

-- the path of a server's port before those of others; a console's isn't among them
abbrev pub with_port : ServiceSpec → List ℕ → List (List ℕ) → List (List ℕ)
with_port (Console alias) port ports = ports
with_port (Listed index rule config) port ports = port ∷ ports

-- the paths of the ports of servers that are no consoles, in the order of the file
abbrev pub ports_of : List ServerEntry → List (List ℕ)
ports_of [] = []
ports_of (e ∷ es) = with_port e.service (down_text e.port) (ports_of es)
