-- What is written at the keys of a table, and what that stands for.
use Rattle.std.specs.Prelude.{◌≡◌, ◌≤◌, ◌⊎◌, ℕ, pos, Bool, true, List, [], ◌∷◌, ◌++◌, flat_map, Option, Some, None, codes, decimal}
use Rattle.std.specs.List.{AllZip}
use Rattle.toml.specs.Data.{Data, Items, Members, string, integer, boolean, array, table, get_member}
use Rattle.fk_model.specs.Names.{is_name}
use Rattle.fk_scenario.specs.Entries.Kept.{AreSlots}
use Rattle.laws_scenario_faults.specs.Tables.{items, members}

-- ---- values

abbrev pub IsText : Data → List ℕ → Type 0
IsText value text = value ≡ string text

abbrev pub IsFlag : Data → Bool → Type 0
IsFlag value flag = value ≡ boolean flag

-- an integer between two numbers, both included
abbrev pub IsNumber : ℕ → ℕ → Data → ℕ → Type 0
IsNumber low high value n = (value ≡ integer (pos n)) × (low ≤ n) × (n ≤ high)

-- the text of a name
abbrev pub IsName : Data → List ℕ → Type 0
IsName value name = (value ≡ string name) × (is_name name ≡ true)

-- the text of a path: a slash, or a slash and a slot in decimal, repeated
abbrev pub path_text : List ℕ → List ℕ
path_text [] = codes "/"
path_text (slot ∷ slots) = flat_map (λ s. codes "/" ++ decimal s) (slot ∷ slots)

abbrev pub IsPath : Data → List ℕ → Type 0
IsPath value slots = (value ≡ string (path_text slots)) × AreSlots slots

-- an array, each value of which says what is in its place
abbrev pub AreEach : {X : Type 0} → (Data → X → Type 0) → Data → List X → Type 0
AreEach Says value xs = (ds : Items) × (value ≡ array ds) × AllZip Says (items ds) xs

-- an array of these values, and a table of these keys with their values
abbrev pub AreValues : Data → List Data → Type 0
AreValues value entries = (ds : Items) × (value ≡ array ds) × (entries ≡ items ds)

abbrev pub AreMembers : Data → List (List ℕ × Data) → Type 0
AreMembers value entries = (ms : Members) × (value ≡ table ms) × (entries ≡ members ms)

-- a table that says this
abbrev pub OfTable : {X : Type 0} → (Members → X → Type 0) → Data → X → Type 0
OfTable Says value x = (ms : Members) × (value ≡ table ms) × Says ms x

-- ---- keys

-- what stands at a key says this
abbrev pub At : {X : Type 0} → (Data → X → Type 0) → List ℕ → Members → X → Type 0
At Says key ms x = (value : Data) × (get_member key ms ≡ Some value) × Says value x

-- nothing stands there
abbrev pub IsAbsent : List ℕ → Members → Type 0
IsAbsent key ms = get_member key ms ≡ None

-- what stands there says this, or nothing does and it is the default
abbrev pub AtOr : {X : Type 0} → X → (Data → X → Type 0) → List ℕ → Members → X → Type 0
AtOr default Says key ms x = At Says key ms x ⊎ (IsAbsent key ms × (x ≡ default))

-- what stands there says this, or nothing does and there is none
abbrev pub AtIf : {X : Type 0} → (Data → X → Type 0) → List ℕ → Members → Option X → Type 0
AtIf Says key ms None = IsAbsent key ms
AtIf Says key ms (Some x) = At Says key ms x
