-- Names, as those of images and traces.
use Rattle.std.specs.Prelude.{ℕ, Bool, ◌&&◌, ◌||◌, ◌==◌, nat_le, List, length}
use Rattle.std.specs.List.{list_all}
use Rattle.fk_model.specs.Numbers.{is_digit}

-- one of a to z, 0 to 9 and _
abbrev pub is_name_byte : ℕ → Bool
is_name_byte byte = nat_le 97 byte && nat_le byte 122 || is_digit byte || byte == 95

-- 1 to 32 such characters
abbrev pub is_name : List ℕ → Bool
is_name text = nat_le 1 (length text) && nat_le (length text) 32 && list_all is_name_byte text
