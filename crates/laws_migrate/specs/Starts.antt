-- Between two sound starts a subtree may move in which users alone live.
use Rattle.std.specs.Prelude.{◌≡◌, ℕ, ◌≤◌, true, ◌∷◌}
use Rattle.fk_model.specs.declared.limits.TheConstants.{LAST_USER_SLOT}
use Rattle.fk_model.specs.Sound.{Start, IsSoundStart, has_users_alone}
use Rattle.laws_migrate.specs.Migration.{top, MayMigrate}

-- between two sound starts a subtree may move in which no nester and no server lies
abbrev pub SoundStartsMayMigrate : Type 0
SoundStartsMayMigrate = (s t : Start) (slot : ℕ) → slot ≤ LAST_USER_SLOT → IsSoundStart s → IsSoundStart t → has_users_alone s (slot ∷ top) ≡ true →
    MayMigrate slot s.world t.world
