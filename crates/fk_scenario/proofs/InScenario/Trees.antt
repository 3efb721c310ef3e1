-- The tree of bytes, from what the parser tells.
use Rattle.std.proofs.Common.{◌≡◌, ℕ, Bool, true, false, cond, List, Some, None, refl, IsUtf8}
use Rattle.std.proofs.lemmas.Str.{IsUtf8-from_is_utf8, is_utf8-from_IsUtf8}
use Rattle.std.specs.Str.{is_utf8}
use Rattle.toml.specs.Data.{Members}
use Rattle.toml.specs.Parse.{parse_document}
use Rattle.fk_scenario.specs.Scenario.Reading.{tree_of}

pub tree_found : (bs : List ℕ) (ms : Members) → IsUtf8 bs → parse_document bs ≡ Some ms → Some ms ≡ tree_of bs
unfolding tree_of
tree_found bs ms utf8 found = rw (is_utf8-from_IsUtf8 bs utf8, found)

pub no_tree : (bs : List ℕ) → (IsUtf8 bs → parse_document bs ≡ None) → None ≡ tree_of bs
unfolding tree_of
no_tree bs h = by (is_utf8 bs) refl
  where
    by : (t : Bool) → is_utf8 bs ≡ t → None ≡ cond t (parse_document bs) None
    by true e = rw (h (IsUtf8-from_is_utf8 bs e))
    by false e = refl
