-- Files in memory, as their map has them.
use Rattle.std.proofs.Common.{◌≡◌, ◌≢◌, ℕ, Bool, true, false, cond, List, [], ◌∷◌, Option, Some, String, Vec, string_bytes, map, refl, sym, ap, ◌∙◌}
use Rattle.std.specs.declared.alloc.Global.{Global}
use Rattle.std.specs.BTreeMap.{BTreeMap, UpdatesBy, is_at, get_by_text}
use Rattle.std.specs.Cmp.Lexicographic.{slice_cmp, nat_list_cmp_total}
use Rattle.std.specs.FinMap.{get, get-from_entries, find}
use Rattle.std.specs.Map.{lookup}
use Rattle.std.specs.Option.{option_map}
use Rattle.std.specs.Ordering.{nat_cmp, is_eq}
use Rattle.std.specs.Str.{bytes_eq}
use Rattle.std.proofs.lemmas.Bool.{false_from_ne_true}
use Rattle.std.specs.Cmp.Lexicographic.{same_text}
use Rattle.std.specs.String.{string_cmp}
use Rattle.std.proofs.lemmas.Map.Text.{btree_map_updates_text}
use Rattle.fk_causes.specs.Shelf.{files_of}

find_map : (name : List ℕ) (es : List (String Global × Vec ℕ Global))
    → find (slice_cmp nat_cmp) name
    (map (λ e. (string_bytes e.0, e.1.items)) es) ≡ option_map (λ bytes. bytes.items) (lookup (is_at (λ k. slice_cmp nat_cmp name (string_bytes k))) es)
find_map name [] = refl
find_map name (e ∷ es) = ap (cond (is_eq (slice_cmp nat_cmp name (string_bytes e.0))) (Some e.1.items)) (find_map name es)
    ∙ by (is_eq (slice_cmp nat_cmp name (string_bytes e.0))) (lookup (is_at (λ k. slice_cmp nat_cmp name (string_bytes k))) es)
  where
    by : (t : Bool) (o : Option (Vec ℕ Global)) →
        cond t (Some e.1.items) (option_map (λ bytes. bytes.items) o) ≡ option_map (λ bytes. bytes.items) (cond t (Some e.1) o)
    by true o = refl
    by false o = refl

-- the bytes under a name are those of the tree
pub get_files_of : (m : BTreeMap (String Global) (Vec ℕ Global)) (name : List ℕ) →
    get (files_of m.entries) name ≡ option_map (λ bytes. bytes.items) (get_by_text m name)
get_files_of m name = get-from_entries nat_list_cmp_total (map (λ e. (string_bytes e.0, e.1.items)) m.entries) name ∙ find_map name m.entries

-- after an insertion the name has the new bytes
pub get_files_of_inserted : (m n : BTreeMap (String Global) (Vec ℕ Global)) (name : List ℕ) (bytes : Vec ℕ Global) →
    UpdatesBy string_cmp (λ k. slice_cmp nat_cmp name (string_bytes k)) m n (Some bytes) → get (files_of n.entries) name ≡ Some bytes.items
get_files_of_inserted m n name bytes updates = get_files_of n name ∙ ap (option_map (λ (v : Vec ℕ Global). v.items)) updates.1

-- and every other name has what it had
pub get_files_of_other : (m n : BTreeMap (String Global) (Vec ℕ Global)) (name other : List ℕ) (bytes : Vec ℕ Global) →
    UpdatesBy string_cmp (λ k. slice_cmp nat_cmp name (string_bytes k)) m n (Some bytes) → other ≢ name
    → get (files_of n.entries) other ≡ get (files_of m.entries) other
get_files_of_other m n name other bytes updates differs =
    let apart : bytes_eq name other ≡ false = false_from_ne_true _ (λ same. differs (sym (same_text name other (sym same)))) in
    let kept : get_by_text n other ≡ get_by_text m other = rw apart at (btree_map_updates_text name m n (Some bytes) updates other) in
    get_files_of n other ∙ ap (option_map (λ (v : Vec ℕ Global). v.items)) kept ∙ sym (get_files_of m other)
