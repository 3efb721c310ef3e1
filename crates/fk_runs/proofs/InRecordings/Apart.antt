-- The ports of a scenario's servers are apart, and so are their texts.
use Rattle.std.proofs.Common.{◌≡◌, ℕ, ◌<◌, ◌≤◌, ◌^◌, ◌==◌, Bool, true, false, not, ◌&&◌, ◌||◌, cond, List, [], ◌∷◌, ◌++◌, map, Option, Some, None, Ok, decimal}
use Rattle.std.proofs.Common.{refl, sym, ap, subst, ◌∙◌, append-nil, arith}
use Rattle.std.proofs.lemmas.Bool.{and_parts}
use Rattle.std.proofs.lemmas.List.Elements.{All-nil, All-cons, All-head, All-tail, All-append, All-weaker}
use Rattle.std.proofs.lemmas.List.Kept.{AllPairs-cons}
use Rattle.std.proofs.lemmas.Option.{same_Some}
use Rattle.std.proofs.lemmas.Slice.Eq.{bytes_eq-Decides}
use Rattle.std.specs.Bool.{Decides}
use Rattle.std.specs.List.{All, AllPairs, find, list_any}
use Rattle.std.specs.Str.{bytes_eq}
use Rattle.fk_model.proofs.numbers.Decimals.{decimal_avoids, plain_number_up_to-decimal}
use Rattle.fk_model.specs.Numbers.{plain_number_up_to}
use Rattle.fk_record_text.specs.Lines.{IsPath, ArePorts}
use Rattle.fk_record_text.specs.Whole.{AreApart}
use Rattle.fk_runs.proofs.InRecordings.Paths.{all_high}
use Rattle.fk_runs.specs.Recordings.Ports.{with_port, ports_of}
use Rattle.fk_report.specs.Paths.{down_text}
use Rattle.fk_scenario.specs.declared.entries.types.ObjectEntry.{ObjectEntry}
use Rattle.fk_scenario.specs.declared.entries.types.ServerEntry.{ServerEntry}
use Rattle.fk_scenario.specs.declared.entries.types.ServiceSpec.{ServiceSpec}
use Rattle.fk_scenario.specs.declared.entries.types.ServiceSpec.TheVariants.{Console, Listed}
use Rattle.fk_scenario.specs.declared.scenario.scenario.Scenario.{Scenario}
use Rattle.fk_scenario.specs.Entries.Kept.{AreSlots}
use Rattle.fk_scenario.specs.Scenario.Aims.{is_one, object_with}
use Rattle.fk_scenario.specs.Scenario.Kept.{KeepsScenario}
use Rattle.fk_scenario.specs.Scenario.Servers.{is_lone_port, has_key, alias_of, has_new_alias, may_serve, serving_from}
use Rattle.fk_scenario.specs.Sections.Kept.{EachAfter, KeepsObject}
use Rattle.fk_scenario.specs.declared.entries.types.SpaceEntry.{SpaceEntry}
use Rattle.fk_trace_text.proofs.Cuts.{Avoids, cut_at-at, cut_at-none}
use Rattle.fk_trace_text.specs.Reading.{cut_at}

-- ---- the text of a path has one path alone

no_slash : (b : ℕ) → 48 ≤ b → b ≤ 57 → (b == 47) ≡ false
no_slash b low most = grind (arith, low)

digits : (n : ℕ) → n ≤ 239 → Avoids 47 (decimal n)
digits n small = decimal_avoids (λ b. b == 47) no_slash n (omega (arith, small))

same-number : (a b : ℕ) → a ≤ 239 → b ≤ 239 → decimal a ≡ decimal b → a ≡ b
same-number a b low other same =
    same_Some a b (sym (plain_number_up_to-decimal 255 a (omega (arith, low)) (omega arith)) ∙ (ap (plain_number_up_to 255) same
    ∙ plain_number_up_to-decimal 255 b (omega (arith, other)) (omega arith)))

-- what is cut off at the next slash, if there is one
abbrev cut_of : ℕ → List ℕ → Option (List ℕ × List ℕ)
cut_of a [] = None
cut_of a (c ∷ cs) = Some (decimal a, decimal c ++ down_text cs)

rest-cut : (a : ℕ) (ks : List ℕ) → a ≤ 239 → cut_at 47 (decimal a ++ down_text ks) ≡ cut_of a ks
rest-cut a [] low = ap (cut_at 47) (append-nil (decimal a)) ∙ cut_at-none 47 (decimal a) (digits a low)
rest-cut a (c ∷ cs) low = cut_at-at 47 (decimal a) (decimal c ++ down_text cs) (digits a low)

abbrev tail-of : List ℕ → List ℕ
tail-of [] = []
tail-of (x ∷ xs) = xs

abbrev cut-first : Option (List ℕ × List ℕ) → List ℕ
cut-first None = []
cut-first (Some parts) = parts.0

abbrev cut-rest : Option (List ℕ × List ℕ) → List ℕ
cut-rest None = []
cut-rest (Some parts) = 47 ∷ parts.1

pub one-path : (p q : List ℕ) → AreSlots p → AreSlots q → down_text p ≡ down_text q → p ≡ q
one-path [] [] one other same = refl
one-path [] (b ∷ bs) one other same = absurd (cc)
one-path (a ∷ ks) [] one other same = absurd (cc)
one-path (a ∷ ks) (b ∷ bs) one other same =
    let low = All-head (λ slot. slot ≤ 239) a ks one in
    let low2 = All-head (λ slot. slot ≤ 239) b bs other in
    let tails : decimal a ++ down_text ks ≡ decimal b ++ down_text bs = ap tail-of same in
    let cuts : cut_of a ks ≡ cut_of b bs = sym (rest-cut a ks low) ∙ (ap (cut_at 47) tails ∙ rest-cut b bs low2) in
    by ks bs (All-tail (λ slot. slot ≤ 239) a ks one) (All-tail (λ slot. slot ≤ 239) b bs other) low low2 tails cuts
    (λ rests. one-path ks bs (All-tail (λ slot. slot ≤ 239) a ks one) (All-tail (λ slot. slot ≤ 239) b bs other) rests)
  where
    by : (ks bs : List ℕ) → AreSlots ks → AreSlots bs → a ≤ 239 → b ≤ 239 → decimal a ++ down_text ks ≡ decimal b ++ down_text bs → cut_of a ks ≡ cut_of b bs
        → (down_text ks ≡ down_text bs → ks ≡ bs) → a ∷ ks ≡ b ∷ bs
    by [] [] one other low low2 tails cuts rest =
        ap (λ n. n ∷ []) (same-number a b low low2 (sym (append-nil (decimal a)) ∙ (tails ∙ append-nil (decimal b))))
    by [] (d ∷ ds) one other low low2 tails cuts rest = absurd (cc)
    by (c ∷ cs) [] one other low low2 tails cuts rest = absurd (cc)
    by (c ∷ cs) (d ∷ ds) one other low low2 tails cuts rest =
        let first : a ≡ b = same-number a b low low2 (ap cut-first cuts) in
        let later : c ∷ cs ≡ d ∷ ds = rest (ap cut-rest cuts) in
        λ i. first i ∷ later i

-- ---- which ports serve

-- a path that is there has slots that users may name
object-slots : (spaces : List SpaceEntry) (before objects : List ObjectEntry) (path : List ℕ) → EachAfter (KeepsObject spaces) before objects
    → is_one is_lone_port (object_with objects path) ≡ true → AreSlots path
object-slots spaces before [] path keeps is = absurd (cc)
object-slots spaces before (o ∷ os) path keeps is =
    by (bytes_eq o.path path) (bytes_eq-Decides o.path path) is (object-slots spaces (before ++ o ∷ []) os path keeps.1)
  where
    by : (t : Bool) → Decides t (o.path ≡ path) → is_one is_lone_port (cond t (Some o) (object_with os path)) ≡ true
        → (is_one is_lone_port (object_with os path) ≡ true → AreSlots path) → AreSlots path
    by true same is rest = subst AreSlots (same.0 refl) keeps.0.slots
    by false same is rest = rest is

-- servers behind some whose ports these are: each port has such slots, and is none of those before it
abbrev AreNew : List (List ℕ) → List ServerEntry → Type 0
AreNew done [] = Unit {0}
AreNew done (s ∷ ss) = AreSlots s.port × All (λ d. d ≡ s.port → ⊥) done × AreNew (done ++ s.port ∷ []) ss

not-among : (done : List (List ℕ)) (port : List ℕ) → has_key done port ≡ false → All (λ d. d ≡ port → ⊥) done
not-among [] port none = All-nil (λ d. d ≡ port → ⊥)
not-among (d ∷ ds) port none = by (bytes_eq d port) (bytes_eq-Decides d port) none (not-among ds port)
  where
    by : (t : Bool) → Decides t (d ≡ port) → (t || list_any (λ k. bytes_eq k port) ds) ≡ false
        → (has_key ds port ≡ false → All (λ d. d ≡ port → ⊥) ds) → All (λ d. d ≡ port → ⊥) (d ∷ ds)
    by true same none rest = absurd (cc)
    by false same none rest = All-cons (λ d. d ≡ port → ⊥) d ds (λ is. (let no : false ≡ true = same.1 is in cc)) (rest none)

are-new : (spaces : List SpaceEntry) (objects : List ObjectEntry) (done aliases : List (List ℕ)) (servers : List ServerEntry)
    → EachAfter (KeepsObject spaces) [] objects
    → serving_from objects done aliases servers ≡ Ok tt → AreNew done servers
unfolding serving_from
are-new spaces objects done aliases [] keeps e = tt
are-new spaces objects done aliases (s ∷ ss) keeps e =
    by (may_serve objects done aliases s) refl (λ rest. are-new spaces objects (done ++ s.port ∷ []) (aliases ++ alias_of s.service) ss keeps rest)
  where
    no : (t : Bool) → not t ≡ true → t ≡ false
    no false is = refl
    no true is = absurd (cc)

    by : (may : Bool) → may_serve objects done aliases s ≡ may
        → (serving_from objects (done ++ s.port ∷ []) (aliases ++ alias_of s.service) ss ≡ Ok tt → AreNew (done ++ s.port ∷ []) ss) → AreNew done (s ∷ ss)
    by true may later =
        let (both, new) = and_parts (is_one is_lone_port (object_with objects s.port) && not (has_key done s.port)) (has_new_alias aliases s.service) may in
        let (there, free) = and_parts (is_one is_lone_port (object_with objects s.port)) (not (has_key done s.port)) both in (
          object-slots spaces [] objects s.port keeps there,
          not-among done s.port (no (has_key done s.port) free),
          later (rw may at e),
        )
    by false may later = absurd (let refused = rw may at e in cc)

-- ---- their texts

abbrev Differ : List ℕ → List ℕ → Type 0
Differ p q = p ≡ q → ⊥

-- a text differs from those of paths
abbrev IsNone : List (List ℕ) → List ℕ → Type 0
IsNone done text = All (λ d. down_text d ≡ text → ⊥) done

last-differs : (done : List (List ℕ)) (d text : List ℕ) → IsNone (done ++ d ∷ []) text → down_text d ≡ text → ⊥
last-differs [] d text none = All-head (λ d. down_text d ≡ text → ⊥) d [] none
last-differs (x ∷ xs) d text none = last-differs xs d text (All-tail (λ d. down_text d ≡ text → ⊥) x (xs ++ d ∷ []) none)

others-differ : (done : List (List ℕ)) (d text : List ℕ) → IsNone (done ++ d ∷ []) text → IsNone done text
others-differ [] d text none = All-nil (λ d. down_text d ≡ text → ⊥)
others-differ (x ∷ xs) d text none = All-cons (λ d. down_text d ≡ text → ⊥) x xs (All-head (λ d. down_text d ≡ text → ⊥) x (xs ++ d ∷ []) none)
    (others-differ xs d text (All-tail (λ d. down_text d ≡ text → ⊥) x (xs ++ d ∷ []) none))

none-same : (done : List (List ℕ)) (port : List ℕ) → All AreSlots done → AreSlots port → All (λ d. d ≡ port → ⊥) done → IsNone done (down_text port)
none-same [] port slots own none = All-nil (λ d. down_text d ≡ down_text port → ⊥)
none-same (d ∷ ds) port slots own none =
    All-cons (λ d. down_text d ≡ down_text port → ⊥) d ds
    (λ same. All-head (λ d. d ≡ port → ⊥) d ds none (one-path d port (All-head AreSlots d ds slots) own same))
    (none-same ds port (All-tail AreSlots d ds slots) own (All-tail (λ d. d ≡ port → ⊥) d ds none))

texts : (done : List (List ℕ)) (servers : List ServerEntry) → All AreSlots done → AreNew done servers
    → AllPairs Differ (ports_of servers) × All (IsNone done) (ports_of servers)
texts done [] slots new = (λ i j d below within. absurd (omega (arith, within)), All-nil (IsNone done))
texts done (s ∷ ss) slots new =
    by s.service (texts (done ++ s.port ∷ []) ss (All-append AreSlots done (s.port ∷ []) slots (All-cons AreSlots s.port [] new.0 (All-nil AreSlots))) new.2)
  where
    by : (service : ServiceSpec) → AllPairs Differ (ports_of ss) × All (IsNone (done ++ s.port ∷ [])) (ports_of ss)
        → AllPairs Differ (with_port service (down_text s.port) (ports_of ss)) × All (IsNone done) (with_port service (down_text s.port) (ports_of ss))
    by (Console alias) later =
        (later.0, All-weaker (IsNone (done ++ s.port ∷ [])) (IsNone done) (λ text none. others-differ done s.port text none) (ports_of ss) later.1)
    by (Listed index rule config) later = (
      AllPairs-cons Differ (down_text s.port) (ports_of ss)
          (All-weaker (IsNone (done ++ s.port ∷ [])) (Differ (down_text s.port)) (λ text none. last-differs done s.port text none)
          (ports_of ss) later.1) later.0,
      All-cons (IsNone done) (down_text s.port) (ports_of ss) (none-same done s.port slots new.0 new.1)
          (All-weaker (IsNone (done ++ s.port ∷ [])) (IsNone done) (λ text none. others-differ done s.port text none) (ports_of ss) later.1),
    )

paths : (done : List (List ℕ)) (servers : List ServerEntry) → AreNew done servers → ArePorts (ports_of servers)
paths done [] new = All-nil IsPath
paths done (s ∷ ss) new = by s.service (paths (done ++ s.port ∷ []) ss new.2)
  where
    by : (service : ServiceSpec) → ArePorts (ports_of ss) → ArePorts (with_port service (down_text s.port) (ports_of ss))
    by (Console alias) rest = rest
    by (Listed index rule config) rest =
        let low = All-weaker (λ slot. slot ≤ 239) (λ slot. slot < 256) (λ slot most. (let m = most in omega (arith, m))) s.port new.0 in
        All-cons IsPath (down_text s.port) (ports_of ss) (all_high s.port low) rest

pub are-ports : (s : Scenario) → KeepsScenario s → ArePorts (ports_of s.servers)
are-ports s keeps = paths [] s.servers (are-new s.spaces s.objects [] [] s.servers keeps.objects keeps.servers)

pub are-apart : (s : Scenario) → KeepsScenario s → AreApart (ports_of s.servers)
are-apart s keeps = (texts [] s.servers (All-nil AreSlots) (are-new s.spaces s.objects [] [] s.servers keeps.objects keeps.servers)).0
