-- Objects: each keeps all that it is asked exactly where it says what it is read as.
use Rattle.std.proofs.Common.{◌≡◌, ◌≤◌, ℕ, ◌+◌, Bool, true, false, not, ◌&&◌, nat_lt, List, [], ◌∷◌, length, map, Option, unwrap_or, option_map}
use Rattle.std.proofs.Common.{if◌then◌else◌, codes, refl, sym, ap, subst, true≢false}
use Rattle.std.proofs.lemmas.Bool.{leb-true, le-leb, ltb-true, lt-ltb, and_from}
use Rattle.std.proofs.lemmas.Slice.Eq.{bytes_eq-Decides}
use Rattle.std.specs.Str.{bytes_eq}
use Rattle.toml.specs.Data.{Data, Members}
use Rattle.fk_scenario.specs.Fields.Paths.{enclosing}
use Rattle.fk_scenario.specs.declared.entries.types.SpaceEntry.{SpaceEntry}
use Rattle.fk_scenario.specs.declared.entries.types.ObjectEntry.{ObjectEntry}
use Rattle.fk_scenario.specs.declared.entries.types.Spec.{Spec}
use Rattle.fk_scenario.specs.declared.entries.types.Spec.TheVariants.{Thread, Mutex, Cond, Portset, Mapping, Region, Port, Reference}
use Rattle.fk_scenario.specs.Sections.Spaces.{has_space, has_space_or_root}
use Rattle.fk_scenario.specs.Sections.Objects.{has_object}
use Rattle.laws_scenario_faults.specs.Asked.{AreKept}
use Rattle.laws_scenario_faults.specs.Tables.{table_of, is_text, is_integer, has, may_have, text, text_at, flag, integer, integers_at}
use Rattle.laws_scenario_faults.specs.Tables.{is_in_if, number, number_or, is_path_if, path_if}
use Rattle.laws_scenario_faults.specs.Objects.{thread_asks, thread, mutex_asks, mutex, first, count, window_asks, mapping_asks, mapping, region_asks, region}
use Rattle.laws_scenario_faults.specs.Objects.{port_asks, port, reference_asks, reference, plain_asks, is_kind, body_asks, body, place, place_asks, object_asks}
use Rattle.laws_scenario_faults.specs.Objects.{object_says}
use Rattle.laws_scenario_faults.specs.Keys.{At, IsText, OfTable}
use Rattle.laws_scenario_faults.specs.Scenarios.{SaysThread, SaysMutex, SaysWindow, SaysMapping, SaysRegion, SaysPort, SaysReference, SaysSpec, SaysObject}
use Rattle.laws_scenario_faults.proofs.Keys.{both, table-is, text-at, text-at-told, path-at, path-at-told, path-if, path-if-told, flag-or, flag-or-told}
use Rattle.laws_scenario_faults.proofs.Keys.{number-or, number-or-told, number-if, number-if-told, numbers-or, numbers-or-told}
use Rattle.laws_scenario_faults.proofs.Said.{kept-append, append-kept}

-- ---- what parts make

pub same2 : {A B D : Type 0} (f : A → B → D) (a c : A) (b d : B) → a ≡ c → b ≡ d → f a b ≡ f c d
same2 f a c b d p q = rw (p, q) refl

thread-same : (a d c f : ℕ) (b e : List ℕ) → a ≡ d → b ≡ e → c ≡ f → Thread a b c ≡ Thread d e f
thread-same a d c f b e p q r = rw (p, q, r) refl

mapping-same : (r s : Option (List ℕ)) (a b c d e f : ℕ) (w v : Bool) → r ≡ s → a ≡ b → c ≡ d → e ≡ f → w ≡ v → Mapping r a c e w ≡ Mapping s b d f v
mapping-same r s a b c d e f w v p q t u x = rw (p, q, t, u, x) refl

region-same : (a b c d : ℕ) (w v : Bool) (r s : Option (List ℕ)) → a ≡ b → c ≡ d → w ≡ v → r ≡ s → Region a c w r ≡ Region b d v s
region-same a b c d w v r s p q t u = rw (p, q, t, u) refl

-- ---- each kind

module _ (ms : Members) where
  thread-says : AreKept (thread_asks ms) → SaysThread ms (number_or 0 (integer (codes "entry") ms)) (map number (integers_at (codes "regs") ms))
      (number_or 0 (integer (codes "stops") ms))
  thread-says (keys, (entry, (regs, (stops, (entry_in, (regs_in, (few, (stops_in, _)))))))) = record {
    keys = keys;
    entry_at = number-or (codes "entry") ms 0 16383 0 entry entry_in;
    regs_at = numbers-or (codes "regs") ms 0 9223372036854775807 regs regs_in;
    few = leb-true _ 16 few;
    stops_at = number-or (codes "stops") ms 0 65535 0 stops stops_in;
  }

  thread-told : (entry : ℕ) (regs : List ℕ) (stops : ℕ) → SaysThread ms entry regs stops → AreKept (thread_asks ms) × (thread ms ≡ Thread entry regs stops)
  thread-told entry regs stops say =
      let (e, e_in, e_same) = number-or-told (codes "entry") ms 0 16383 0 entry say.entry_at in
      let (r, r_in, r_same) = numbers-or-told (codes "regs") ms 0 9223372036854775807 regs say.regs_at in
      let (s, s_in, s_same) = number-or-told (codes "stops") ms 0 65535 0 stops say.stops_at in
      let few = le-leb _ 16 (subst (λ (r : List ℕ). length r ≤ 16) (sym r_same) say.few) in
      ((say.keys, (e, (r, (s, (e_in, (r_in, (few, (s_in, tt)))))))), thread-same _ entry _ stops _ regs e_same r_same s_same)

  mutex-says : AreKept (mutex_asks ms) → SaysMutex ms (unwrap_or (flag (codes "locked") ms) false)
  mutex-says (keys, (locked, _)) = record { keys = keys; locked_at = flag-or (codes "locked") ms locked }

  mutex-told : (locked : Bool) → SaysMutex ms locked → AreKept (mutex_asks ms) × (mutex ms ≡ Mutex locked)
  mutex-told locked say = let (l, same) = flag-or-told (codes "locked") ms locked say.locked_at in ((say.keys, (l, tt)), ap Mutex same)

  -- the types of a window's keys, and their ranges
  window-says : may_have is_integer (codes "first") ms ≡ true → may_have is_integer (codes "count") ms ≡ true → AreKept (window_asks ms) →
      SaysWindow ms (first ms) (count ms)
  window-says f c (f_in, (c_in, (inside, _))) = record {
    first_at = number-or (codes "first") ms 0 255 0 f f_in;
    count_at = number-or (codes "count") ms 1 256 1 c c_in;
    inside = leb-true _ 256 inside;
  }

  window-told : (a b : ℕ) → SaysWindow ms a b → (may_have is_integer (codes "first") ms ≡ true) × (may_have is_integer (codes "count") ms ≡ true)
      × AreKept (window_asks ms) × (first ms ≡ a) × (count ms ≡ b)
  window-told a b say =
      let (f, f_in, f_same) = number-or-told (codes "first") ms 0 255 0 a say.first_at in
      let (c, c_in, c_same) = number-or-told (codes "count") ms 1 256 1 b say.count_at in
      let inside = le-leb _ 256 (subst (λ n. n + count ms ≤ 256) (sym f_same) (subst (λ n. a + n ≤ 256) (sym c_same) say.inside)) in
      (f, c, (f_in, (c_in, (inside, tt))), f_same, c_same)

  -- what is asked of a mapping and of a region behind their windows
  abbrev mapping_rest : List (ℕ × Bool)
  mapping_rest = (3, is_in_if 0 255 (integer (codes "offset") ms)) ∷ (4, is_path_if (text (codes "region") ms)) ∷ []

  abbrev region_rest : List (ℕ × Bool)
  region_rest = (4, is_path_if (text (codes "keeper") ms)) ∷ []

  mapping-says : AreKept (mapping_asks ms) →
      SaysMapping ms (path_if (text (codes "region") ms)) (first ms) (count ms) (number_or 0 (integer (codes "offset") ms))
      (unwrap_or (flag (codes "write") ms) false)
  mapping-says (keys, (r, (f, (c, (offset, (write, rest)))))) =
      let (window, others) = kept-append (window_asks ms) mapping_rest rest in
      record {
        keys = keys;
        region_at = path-if (codes "region") ms r others.1.0;
        window = window-says f c window;
        offset_at = number-or (codes "offset") ms 0 255 0 offset others.0;
        write_at = flag-or (codes "write") ms write;
      }

  mapping-told : (region : Option (List ℕ)) (a b offset : ℕ) (write : Bool) → SaysMapping ms region a b offset write →
      AreKept (mapping_asks ms) × (mapping ms ≡ Mapping region a b offset write)
  mapping-told space a b offset write say =
      let (r, r_in, r_same) = path-if-told (codes "region") ms space say.region_at in
      let (f, c, window, f_same, c_same) = window-told a b say.window in
      let (o, o_in, o_same) = number-or-told (codes "offset") ms 0 255 0 offset say.offset_at in
      let (w, w_same) = flag-or-told (codes "write") ms write say.write_at in (
        (say.keys, (r, (f, (c, (o, (w, append-kept (window_asks ms) mapping_rest window (o_in, (r_in, tt)))))))),
        mapping-same _ space _ a _ b _ offset _ write r_same f_same c_same o_same w_same,
      )

  region-says : AreKept (region_asks ms) →
      SaysRegion ms (first ms) (count ms) (unwrap_or (flag (codes "write") ms) false) (path_if (text (codes "keeper") ms))
  region-says (keys, (f, (c, (write, (keeper, rest))))) =
      let (window, others) = kept-append (window_asks ms) region_rest rest in
      record {
        keys = keys;
        window = window-says f c window;
        write_at = flag-or (codes "write") ms write;
        keeper_at = path-if (codes "keeper") ms keeper others.0;
      }

  region-told : (a b : ℕ) (write : Bool) (keeper : Option (List ℕ)) → SaysRegion ms a b write keeper →
      AreKept (region_asks ms) × (region ms ≡ Region a b write keeper)
  region-told a b write keeper say =
      let (f, c, window, f_same, c_same) = window-told a b say.window in
      let (w, w_same) = flag-or-told (codes "write") ms write say.write_at in
      let (k, k_in, k_same) = path-if-told (codes "keeper") ms keeper say.keeper_at in (
        (say.keys, (f, (c, (w, (k, append-kept (window_asks ms) region_rest window (k_in, tt)))))),
        region-same _ a _ b _ write _ keeper f_same c_same w_same k_same,
      )

  port-says : AreKept (port_asks ms) → SaysPort ms (option_map number (integer (codes "set") ms))
  port-says (keys, (set, (set_in, _))) = record { keys = keys; set_at = number-if (codes "set") ms 0 239 set set_in }

  port-told : (set : Option ℕ) → SaysPort ms set → AreKept (port_asks ms) × (port ms ≡ Port set)
  port-told set say =
      let (s, s_in, same) = number-if-told (codes "set") ms 0 239 set say.set_at in ((say.keys, (s, (s_in, tt))), ap Port same)

  reference-says : AreKept (reference_asks ms) → SaysReference ms (path_if (text (codes "to") ms))
  reference-says (keys, (to, (to_in, _))) = record { keys = keys; to_at = path-if (codes "to") ms to to_in }

  reference-told : (to : Option (List ℕ)) → SaysReference ms to → AreKept (reference_asks ms) × (reference ms ≡ Reference to)
  reference-told to say =
      let (t, t_in, same) = path-if-told (codes "to") ms to say.to_at in ((say.keys, (t, (t_in, tt))), ap Reference same)

  -- ---- by kind

  either : (t : Bool) (these those : List (ℕ × Bool)) (x y : Spec) (P : Spec → Type 0) → (t ≡ true → AreKept these → P x) → (AreKept those → P y) →
      AreKept (if t then these else those) → P (if t then x else y)
  either true these those x y P one other keep = one refl keep
  either false these those x y P one other keep = other keep

  kind-at : (name : List ℕ) → has is_text (codes "kind") ms ≡ true → is_kind ms name ≡ true → At IsText (codes "kind") ms name
  kind-at name h is = subst (At IsText (codes "kind") ms) ((bytes_eq-Decides (text_at (codes "kind") ms) name).0 is) (text-at (codes "kind") ms h)

  body-says : has is_text (codes "kind") ms ≡ true → AreKept (body_asks ms) → SaysSpec ms (body ms)
  body-says h keep =
      either (is_kind ms (codes "thread")) _ _ _ _ (SaysSpec ms) (λ is keep. (kind-at (codes "thread") h is, thread-says keep))
      (either (is_kind ms (codes "mutex")) _ _ _ _ (SaysSpec ms) (λ is keep. (kind-at (codes "mutex") h is, mutex-says keep))
      (either (is_kind ms (codes "cond")) _ _ _ _ (SaysSpec ms) (λ is keep. (kind-at (codes "cond") h is, keep.0))
      (either (is_kind ms (codes "mapping")) _ _ _ _ (SaysSpec ms) (λ is keep. (kind-at (codes "mapping") h is, mapping-says keep))
      (either (is_kind ms (codes "region")) _ _ _ _ (SaysSpec ms) (λ is keep. (kind-at (codes "region") h is, region-says keep))
      (either (is_kind ms (codes "port")) _ _ _ _ (SaysSpec ms) (λ is keep. (kind-at (codes "port") h is, port-says keep))
      (either (is_kind ms (codes "portset")) _ _ _ _ (SaysSpec ms) (λ is keep. (kind-at (codes "portset") h is, keep.0))
      (either (is_kind ms (codes "reference")) _ _ _ _ (SaysSpec ms) (λ is keep. (kind-at (codes "reference") h is, reference-says keep))
      (λ keep. absurd (true≢false (sym (keep.1.0))))))))))) keep

  -- what is asked and said by the text of the kind
  abbrev asks_of : List ℕ → List (ℕ × Bool)
  asks_of kind =
      if bytes_eq kind (codes "thread") then thread_asks ms
      else if bytes_eq kind (codes "mutex") then mutex_asks ms
      else if bytes_eq kind (codes "cond") then plain_asks true ms
      else if bytes_eq kind (codes "mapping") then mapping_asks ms
      else if bytes_eq kind (codes "region") then region_asks ms
      else if bytes_eq kind (codes "port") then port_asks ms
      else if bytes_eq kind (codes "portset") then plain_asks true ms
      else if bytes_eq kind (codes "reference") then reference_asks ms
      else plain_asks false ms

  abbrev body_of : List ℕ → Spec
  body_of kind =
      if bytes_eq kind (codes "thread") then thread ms
      else if bytes_eq kind (codes "mutex") then mutex ms
      else if bytes_eq kind (codes "cond") then Cond
      else if bytes_eq kind (codes "mapping") then mapping ms
      else if bytes_eq kind (codes "region") then region ms
      else if bytes_eq kind (codes "port") then port ms
      else if bytes_eq kind (codes "portset") then Portset
      else if bytes_eq kind (codes "reference") then reference ms
      else Cond

  of-kind : (kind : List ℕ) (spec : Spec) → At IsText (codes "kind") ms kind → AreKept (asks_of kind) × (body_of kind ≡ spec) →
      (has is_text (codes "kind") ms ≡ true) × AreKept (body_asks ms) × (body ms ≡ spec)
  of-kind kind spec at told =
      let (h, here) = text-at-told (codes "kind") ms kind at in
      let all = subst (λ (k : List ℕ). AreKept (asks_of k) × (body_of k ≡ spec)) (sym here) told in
      (h, all.0, all.1)

  body-told : (spec : Spec) → SaysSpec ms spec → (has is_text (codes "kind") ms ≡ true) × AreKept (body_asks ms) × (body ms ≡ spec)
  body-told (Thread entry regs stops) (at, say) = of-kind (codes "thread") _ at (thread-told entry regs stops say)
  body-told (Mutex locked) (at, say) = of-kind (codes "mutex") _ at (mutex-told locked say)
  body-told Cond (at, say) = of-kind (codes "cond") _ at ((say, (refl, tt)), refl)
  body-told Portset (at, say) = of-kind (codes "portset") _ at ((say, (refl, tt)), refl)
  body-told (Mapping region a b offset write) (at, say) = of-kind (codes "mapping") _ at (mapping-told region a b offset write say)
  body-told (Region a b write keeper) (at, say) = of-kind (codes "region") _ at (region-told a b write keeper say)
  body-told (Port set) (at, say) = of-kind (codes "port") _ at (port-told set say)
  body-told (Reference to) (at, say) = of-kind (codes "reference") _ at (reference-told to say)

-- ---- objects

not-false : (b : Bool) → not b ≡ true → b ≡ false
not-false true h = absurd (cc)
not-false false h = refl

object-same : (o : ObjectEntry) (path : List ℕ) (spec : Spec) → path ≡ o.path → spec ≡ o.spec → (record { path = path; spec = spec }) ≡ o
object-same o path spec a b = rw (a, b) refl

pub object-says : (ss : List SpaceEntry) (done : List ObjectEntry) (value : Data) → AreKept (object_asks ss done value) →
    OfTable (SaysObject ss done) value (object_says done value)
unfolding object_asks object_says
object-says ss done value (is, (at_is, (kind_is, rest))) =
    let ms = table_of value in
    let (body, (is_path_text, (inside, (in_space, (free, _))))) = kept-append (body_asks ms) (place_asks ss done ms) rest in
    let (no_space, no_object) = both (not (has_space ss (place ms))) (not (has_object done (place ms))) free in (
      ms,
      table-is value is,
      record {
        path = path-at (codes "at") ms at_is is_path_text;
        spec = body-says ms kind_is body;
        inside = ltb-true 0 (length (place ms)) inside;
        in_space = in_space;
        no_space = not-false _ no_space;
        no_object = not-false _ no_object;
      },
    )

pub object-told : (ss : List SpaceEntry) (done : List ObjectEntry) (value : Data) (o : ObjectEntry) → OfTable (SaysObject ss done) value o →
    AreKept (object_asks ss done value) × (object_says done value ≡ o)
unfolding object_asks object_says
object-told ss done value o (ms, is, say) =
    let (at_is, is_path_text, path_same) = path-at-told (codes "at") ms o.path say.path in
    let (kind_is, body, spec_same) = body-told ms o.spec say.spec in
    let inside = subst (λ (p : List ℕ). nat_lt 0 (length p) ≡ true) (sym path_same) (lt-ltb 0 (length o.path) say.inside) in
    let in_space = subst (λ (p : List ℕ). has_space_or_root ss (enclosing p) ≡ true) (sym path_same) say.in_space in
    let free = subst (λ (p : List ℕ). (not (has_space ss p) && not (has_object done p)) ≡ true) (sym path_same)
    (and_from (not (has_space ss o.path)) (not (has_object done o.path)) (ap not say.no_space) (ap not say.no_object)) in
    subst (λ (d : Data). AreKept (object_asks ss done d) × (object_says done d ≡ o)) (sym is) (
      (refl, (at_is, (kind_is, append-kept (body_asks ms) (place_asks ss done ms) body (is_path_text, (inside, (in_space, (free, tt))))))),
      object-same o _ _ path_same spec_same,
    )
