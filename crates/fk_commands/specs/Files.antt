-- Files: under which names the shelf has what a command asks for.
use Rattle.std.specs.Prelude.{ℕ, List, ◌++◌, codes}

-- the name under which a trace lies on the shelf
abbrev pub trace_name : List ℕ → List ℕ
trace_name name = name ++ codes ".trc"

-- the name under which an image lies there
abbrev pub image_name : List ℕ → List ℕ
image_name name = name ++ codes ".img"

-- the name under which a record lies there
abbrev pub record_name : List ℕ → List ℕ
record_name name = name ++ codes ".rec"
