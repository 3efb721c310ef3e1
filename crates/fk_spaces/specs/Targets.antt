-- Targets: where the words of a page may go.
use Rattle.std.specs.Prelude.{ℕ, Bool, not, ◌||◌}
use Rattle.fk_model.specs.declared.statuses.status.TheConstants.{BADADDRESS}
use Rattle.fk_model.specs.Outcomes.{Outcome, Caller, ◌>>=◌, refuse}
use Rattle.fk_model.specs.Places.{Path}
use Rattle.fk_model.specs.SpaceRows.{copies_to, is_bad_target, is_page}
use Rattle.fk_model.specs.World.{World}

-- to the caller, where the page's number and the address are in range
abbrev pub copies_within : World → Caller → Path → ℕ → Bool → ℕ → Outcome
copies_within w c space page drops address = do
  _ ← refuse BADADDRESS (not (is_page page) || is_bad_target c address)
  copies_to w c space page drops address
