-- A worker's place at a lock.
use Rattle.std.specs.Prelude.{◌≡◌}
use Rattle.fk_rlock.specs.Known.{Lock, Known}

-- a pass of this lock with one of its parts, begun from there
abbrev pub IsPlace : {B : Type 0} → Lock → B → Known B → Type 0
IsPlace lock boot pass = (pass.lock ≡ lock.id) × (pass.boot ≡ boot) × (pass.parts ≡ 1)
