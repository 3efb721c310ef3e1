-- Breaks: where bytes that are read by a form break it, for what reason, and that they are whole fields before.
use Rattle.std.proofs.Common.{◌≡◌, inl, inr, ℕ, Bool, true, false, List, [], ◌++◌, length, take, drop, nat_lt, Result, Ok, Err, if◌then◌else◌, refl, sym, ap}
use Rattle.std.proofs.Common.{subst, ◌∙◌, arith}
use Rattle.std.proofs.lemmas.Bool.{lt-ltb, le-ltb, ltb-true, ltb-false}
use Rattle.std.proofs.lemmas.List.{take-append-drop, take-append-le, drop-append-le, drop_all, take_all, length-append, length-take-le, append_assoc}
use Rattle.fk_image.specs.declared.format.reasons.reason.TheConstants as reasons
use Rattle.fk_image.specs.declared.format.stop.Stop.{Stop}
use Rattle.fk_image.specs.Format.Fields.{◌>>=◌, refuse_field}
use Rattle.laws_image_faults.specs.Forms.{Shape, Form, IsField, Holds, Lacks, Breaks}
use Rattle.laws_image_faults.specs.Forms.Form.{Whole, Field, Pair}
use Rattle.laws_image_faults.specs.Forms.Holds.{Nothing, One, Two, Half}
use Rattle.laws_image_faults.specs.Forms.Lacks.{Cut, Wrong}
use Rattle.laws_image_faults.proofs.Runs.{tested, field_at, together, run}

-- ---- what is read and what is left

module _ {A B E : Type 0} where
  said_or : A → Result (A × B) E → A
  said_or a (Ok x) = x.0
  said_or a (Err e) = a

  left_or : B → Result (A × B) E → B
  left_or b (Ok x) = x.1
  left_or b (Err e) = b

  pub same_said : (a c : A) (b d : B) → ◌≡◌ {A = Result (A × B) E} (Ok (a, b)) (Ok (c, d)) → a ≡ c
  unfolding said_or
  same_said a c b d is = ap (said_or a) is

  same_left : (a c : A) (b d : B) → ◌≡◌ {A = Result (A × B) E} (Ok (a, b)) (Ok (c, d)) → b ≡ d
  unfolding left_or
  same_left a c b d is = ap (left_or b) is

  stop_or : E → Result (A × B) E → E
  stop_or e (Ok x) = e
  stop_or e (Err other) = other

  same_stop : (a b : E) → ◌≡◌ {A = Result (A × B) E} (Err a) (Err b) → a ≡ b
  unfolding stop_or
  same_stop a b is = ap (stop_or a) is

-- ---- one field

take_first : (field after : List ℕ) (size : ℕ) → length field ≡ size → take size (field ++ after) ≡ field
take_first field after size long = take-append-le size field after (omega arith) ∙ take_all size field (omega arith)

drop_none : (size : ℕ) (field : List ℕ) → length field ≡ size → drop size field ≡ []
drop_none size field long = drop_all size field (omega (arith, long))

drop_first : (field after : List ℕ) (size : ℕ) → length field ≡ size → drop size (field ++ after) ≡ after
drop_first field after size long = drop-append-le size field after (omega arith) ∙ ap (λ xs. xs ++ after) (drop_none size field long)

module _ (f : Shape) where
  -- a field that stands there is read
  pub field-read : (field after : List ℕ) → IsField f field → field_at f (field ++ after) ≡ Ok (field, after)
  unfolding field_at
  field-read field after is =
      let long : nat_lt (length (field ++ after)) f.size ≡ false = le-ltb _ _ (omega (arith, length-append field after, is.long)) in
      rw (long, take_first field after f.size is.long, drop_first field after f.size is.long, is.fits) refl

  -- and one that is read stands there
  pub field-stands : (bytes field after : List ℕ) → field_at f bytes ≡ Ok (field, after) → (bytes ≡ field ++ after) × IsField f field
  unfolding field_at
  field-stands bytes field after read = by (nat_lt (length bytes) f.size) refl (f.may (take f.size bytes)) refl read
    where
      by : (t : Bool) → nat_lt (length bytes) f.size ≡ t → (u : Bool) → f.may (take f.size bytes) ≡ u →
          (if t then refuse_field bytes reasons.CUT else tested u (f.why (take f.size bytes)) (take f.size bytes) (drop f.size bytes) bytes)
          ≡ Ok (field, after) →
          (bytes ≡ field ++ after) × IsField f field
      by true short u tested is = absurd (cc)
      by false long false tested is = absurd (cc)
      by false long true tested is =
          let enough = ltb-false _ _ long in
          let first : take f.size bytes ≡ field = same_said _ _ _ _ is in
          let rest : drop f.size bytes ≡ after = same_left _ _ _ _ is in (
            sym (take-append-drop f.size bytes) ∙ rw (first, rest) refl,
            record { long = ap length (sym first) ∙ length-take-le f.size bytes (omega (arith, enough)); fits = ap f.may (sym first) ∙ tested },
          )

  -- where none is read, none stands, and as many bytes are left as there are
  pub none-read : (bytes : List ℕ) (stop : Stop) → field_at f bytes ≡ Err stop → (length bytes ≡ stop.left) × Lacks f bytes stop.reason
  unfolding field_at
  none-read bytes stop read = by (nat_lt (length bytes) f.size) refl (f.may (take f.size bytes)) refl read
    where
      here : (reason : ℕ) → Lacks f bytes reason → ◌≡◌ {A = Stop} (record { left = length bytes; reason = reason }) stop
          → (length bytes ≡ stop.left) × Lacks f bytes stop.reason
      here reason lacks same = (ap (λ (s : Stop). s.left) same, subst (λ (s : Stop). Lacks f bytes s.reason) same lacks)

      by : (t : Bool) → nat_lt (length bytes) f.size ≡ t → (u : Bool) → f.may (take f.size bytes) ≡ u →
          (if t then refuse_field bytes reasons.CUT else tested u (f.why (take f.size bytes)) (take f.size bytes) (drop f.size bytes) bytes) ≡ Err stop →
          (length bytes ≡ stop.left) × Lacks f bytes stop.reason
      by true short u tested is = here reasons.CUT (Cut (ltb-true _ _ short)) (same_stop _ _ is)
      by false long true tested is = absurd (cc)
      by false long false tested is =
          let enough = ltb-false _ _ long in
          here (f.why (take f.size bytes)) (Wrong (take f.size bytes) (drop f.size bytes) (sym (take-append-drop f.size bytes))
          (length-take-le f.size bytes (omega (arith, enough))) tested) (same_stop _ _ is)

  -- and the other way round
  pub none-there : (bytes : List ℕ) (reason : ℕ) → Lacks f bytes reason → field_at f bytes ≡ refuse_field bytes reason
  unfolding field_at
  none-there bytes _ (Cut short) = rw (lt-ltb (length bytes) f.size short) refl
  none-there bytes _ (Wrong field after spelled size off) =
      subst (λ (b : List ℕ). field_at f b ≡ refuse_field b (f.why field)) (sym spelled) refused
    where
      refused : field_at f (field ++ after) ≡ refuse_field (field ++ after) (f.why field)
      refused =
          let long : nat_lt (length (field ++ after)) f.size ≡ false = le-ltb _ _ (omega (arith, length-append field after, size)) in
          rw (long, take_first field after f.size size, off) refl

-- ---- a form

pub record Broken {X : Type 0} (f : Form X) (bytes : List ℕ) (stop : Stop) : Type 0 where
  pub before : List ℕ
  pub after : List ℕ
  pub next : Form X
  pub spelled : bytes ≡ before ++ after
  pub many : length after ≡ stop.left
  pub held : Holds f before next
  pub broken : Breaks next after stop.reason

pub record Held {X : Type 0} (f : Form X) (bytes after : List ℕ) (x : X) : Type 0 where
  pub before : List ℕ
  pub spelled : bytes ≡ before ++ after
  pub held : Holds f before (Whole x)

at_once : {X : Type 0} (f : Form X) (bytes : List ℕ) (stop : Stop) → length bytes ≡ stop.left → Breaks f bytes stop.reason → Broken f bytes stop
at_once f bytes stop is breaks = record { before = []; after = bytes; next = f; spelled = refl; many = is; held = Nothing f; broken = breaks }

module _ {X : Type 0} where
  pub run-broken : (f : Form X) (bytes : List ℕ) (stop : Stop) → run f bytes ≡ Err stop → Broken f bytes stop
  unfolding run
  run-broken (Whole x) bytes stop read = absurd (cc)
  run-broken (Field f rest) bytes stop read = by (λ field. run-broken (rest field)) (field_at f bytes) refl read
    where
      by : ((field after : List ℕ) (stop : Stop) → run (rest field) after ≡ Err stop → Broken (rest field) after stop) →
          (r : Result (List ℕ × List ℕ) Stop) → field_at f bytes ≡ r → (r >>= λ x. run (rest x.0) x.1) ≡ Err stop → Broken (Field f rest) bytes stop
      by each (Err e) none is =
          let off = none-read f bytes e none in
          subst (Broken (Field f rest) bytes) (same_stop e stop is) (at_once (Field f rest) bytes e off.0 off.1)
      by each (Ok x) there is =
          let stands = field-stands f bytes x.0 x.1 there in
          let more = each x.0 x.1 stop is in record {
            before = x.0 ++ more.before;
            after = more.after;
            next = more.next;
            spelled = stands.0 ∙ ap (λ ys. x.0 ++ ys) more.spelled ∙ sym (append_assoc x.0 more.before more.after);
            many = more.many;
            held = One f rest x.0 more.before more.next stands.1 more.held;
            broken = more.broken;
          }
  run-broken (Pair f h both apart rest) bytes stop read = by (λ first second. run-broken (rest first second)) (field_at f bytes) refl read
    where
      joined : ((first second after : List ℕ) (stop : Stop) → run (rest first second) after ≡ Err stop → Broken (rest first second) after stop) →
          (first second middle after : List ℕ) (t : Bool) → both first second ≡ t → bytes ≡ first ++ middle → middle ≡ second ++ after →
          IsField f first → IsField h second → together t apart bytes (run (rest first second) after) ≡ Err stop → Broken (Pair f h both apart rest) bytes stop
      joined each first second middle after false off one two is is2 read =
          let here : Stop = record { left = length bytes; reason = apart } in
          subst (Broken (Pair f h both apart rest) bytes) (same_stop here stop read) (at_once (Pair f h both apart rest) bytes here refl (inr (
            record {
              first = first;
              second = second;
              after = after;
              spelled = one ∙ ap (λ ys. first ++ ys) two;
              fits = is;
              fits2 = is2;
              apart = off;
            },
            refl,
          )))
      joined each first second middle after true go one two is is2 read =
          let more = each first second after stop read in record {
            before = first ++ (second ++ more.before);
            after = more.after;
            next = more.next;
            spelled = one ∙ ap (λ ys. first ++ ys) (two ∙ ap (λ ys. second ++ ys) more.spelled ∙ sym (append_assoc second more.before more.after))
                ∙ sym (append_assoc first (second ++ more.before) more.after);
            many = more.many;
            held = Two f h both apart rest first second more.before more.next is is2 go more.held;
            broken = more.broken;
          }

      second_by : ((first second after : List ℕ) (stop : Stop) → run (rest first second) after ≡ Err stop → Broken (rest first second) after stop) →
          (first middle : List ℕ) → bytes ≡ first ++ middle → IsField f first → (r : Result (List ℕ × List ℕ) Stop) → field_at h middle ≡ r →
          (r >>= λ y. together (both first y.0) apart bytes (run (rest first y.0) y.1)) ≡ Err stop → Broken (Pair f h both apart rest) bytes stop
      second_by each first middle one is (Err e) none read =
          let off = none-read h middle e none in
          subst (Broken (Pair f h both apart rest) bytes) (same_stop e stop read) (record {
            before = first;
            after = middle;
            next = Field h (rest first);
            spelled = one;
            many = off.0;
            held = Half f h both apart rest first is;
            broken = off.1;
          })
      second_by each first middle one is (Ok y) there read =
          let stands = field-stands h middle y.0 y.1 there in
          joined each first y.0 middle y.1 (both first y.0) refl one stands.0 is stands.1 read

      by : ((first second after : List ℕ) (stop : Stop) → run (rest first second) after ≡ Err stop → Broken (rest first second) after stop) →
          (r : Result (List ℕ × List ℕ) Stop) → field_at f bytes ≡ r →
          (r >>= λ x. field_at h x.1 >>= λ y. together (both x.0 y.0) apart bytes (run (rest x.0 y.0) y.1)) ≡ Err stop
          → Broken (Pair f h both apart rest) bytes stop
      by each (Err e) none is =
          let off = none-read f bytes e none in
          subst (Broken (Pair f h both apart rest) bytes) (same_stop e stop is) (at_once (Pair f h both apart rest) bytes e off.0 (inl off.1))
      by each (Ok x) there is =
          let stands = field-stands f bytes x.0 x.1 there in
          second_by each x.0 x.1 stands.0 stands.1 (field_at h x.1) refl is

  pub run-held : (f : Form X) (bytes after : List ℕ) (x : X) → run f bytes ≡ Ok (x, after) → Held f bytes after x
  unfolding run
  run-held (Whole y) bytes after x read =
      let same : y ≡ x = same_said _ _ _ _ read in
      let rest : bytes ≡ after = same_left _ _ _ _ read in
      record { before = []; spelled = rest; held = subst (λ z. Holds (Whole y) [] (Whole z)) same (Nothing (Whole y)) }
  run-held (Field f rest) bytes after x read = by (λ field. run-held (rest field)) (field_at f bytes) refl read
    where
      by : ((field bytes after : List ℕ) (x : X) → run (rest field) bytes ≡ Ok (x, after) → Held (rest field) bytes after x) →
          (r : Result (List ℕ × List ℕ) Stop) → field_at f bytes ≡ r → (r >>= λ y. run (rest y.0) y.1) ≡ Ok (x, after) →
          Held (Field f rest) bytes after x
      by each (Err e) none is = absurd (cc)
      by each (Ok y) there is =
          let stands = field-stands f bytes y.0 y.1 there in
          let more = each y.0 y.1 after x is in record {
            before = y.0 ++ more.before;
            spelled = stands.0 ∙ ap (λ ys. y.0 ++ ys) more.spelled ∙ sym (append_assoc y.0 more.before after);
            held = One f rest y.0 more.before (Whole x) stands.1 more.held;
          }
  run-held (Pair f h both apart rest) bytes after x read = by (λ first second. run-held (rest first second)) (field_at f bytes) refl read
    where
      joined : ((first second bytes after : List ℕ) (x : X) → run (rest first second) bytes ≡ Ok (x, after) → Held (rest first second) bytes after x) →
          (first second middle later : List ℕ) (t : Bool) → both first second ≡ t → bytes ≡ first ++ middle → middle ≡ second ++ later →
          IsField f first → IsField h second → together t apart bytes (run (rest first second) later) ≡ Ok (x, after) →
          Held (Pair f h both apart rest) bytes after x
      joined each first second middle later false off one two is is2 read = absurd (cc)
      joined each first second middle later true go one two is is2 read =
          let more = each first second later after x read in record {
            before = first ++ (second ++ more.before);
            spelled = one ∙ ap (λ ys. first ++ ys) (two ∙ ap (λ ys. second ++ ys) more.spelled ∙ sym (append_assoc second more.before after))
                ∙ sym (append_assoc first (second ++ more.before) after);
            held = Two f h both apart rest first second more.before (Whole x) is is2 go more.held;
          }

      second_by : ((first second bytes after : List ℕ) (x : X) → run (rest first second) bytes ≡ Ok (x, after) → Held (rest first second) bytes after x) →
          (first middle : List ℕ) → bytes ≡ first ++ middle → IsField f first → (r : Result (List ℕ × List ℕ) Stop) → field_at h middle ≡ r →
          (r >>= λ y. together (both first y.0) apart bytes (run (rest first y.0) y.1)) ≡ Ok (x, after) → Held (Pair f h both apart rest) bytes after x
      second_by each first middle one is (Err e) none read = absurd (cc)
      second_by each first middle one is (Ok y) there read =
          let stands = field-stands h middle y.0 y.1 there in
          joined each first y.0 middle y.1 (both first y.0) refl one stands.0 is stands.1 read

      by : ((first second bytes after : List ℕ) (x : X) → run (rest first second) bytes ≡ Ok (x, after) → Held (rest first second) bytes after x) →
          (r : Result (List ℕ × List ℕ) Stop) → field_at f bytes ≡ r →
          (r >>= λ y. field_at h y.1 >>= λ z. together (both y.0 z.0) apart bytes (run (rest y.0 z.0) z.1)) ≡ Ok (x, after) →
          Held (Pair f h both apart rest) bytes after x
      by each (Err e) none is = absurd (cc)
      by each (Ok y) there is =
          let stands = field-stands f bytes y.0 y.1 there in
          second_by each y.0 y.1 stands.0 stands.1 (field_at h y.1) refl is

  -- ---- and the other way round

  breaks-read : (next : Form X) (after : List ℕ) (reason : ℕ) → Breaks next after reason → run next after ≡ refuse_field after reason
  unfolding run
  breaks-read (Whole x) after reason breaks = absurd breaks
  breaks-read (Field f rest) after reason none = ap (λ r. r >>= λ x. run (rest x.0) x.1) (none-there f after reason none)
  breaks-read (Pair f h both apart rest) after reason (inl none) =
      ap (λ r. r >>= λ x. field_at h x.1 >>= λ y. together (both x.0 y.0) apart after (run (rest x.0 y.0) y.1)) (none-there f after reason none)
  breaks-read (Pair f h both apart rest) after reason (inr two) = by ∙ ap (λ (why : ℕ). refuse_field after why) (sym two.1)
    where
      one : field_at f after ≡ Ok (two.0.first, two.0.second ++ two.0.after)
      one = ap (field_at f) two.0.spelled ∙ field-read f two.0.first (two.0.second ++ two.0.after) two.0.fits

      by : run (Pair f h both apart rest) after ≡ refuse_field after apart
      by = rw (one, field-read h two.0.second two.0.after two.0.fits2, two.0.apart) refl

  pub broken-run : (f : Form X) (before after : List ℕ) (next : Form X) (reason : ℕ) → Holds f before next → Breaks next after reason
      → run f (before ++ after) ≡ refuse_field after reason
  unfolding run
  broken-run f _ after _ reason (Nothing _) breaks = breaks-read f after reason breaks
  broken-run _ _ after next reason (One f rest field bytes _ is held) breaks =
      rw (append_assoc field bytes after, field-read f field (bytes ++ after) is) (broken-run (rest field) bytes after next reason held breaks)
  broken-run _ _ after next reason (Two f h both apart rest first second bytes _ is is2 go held) breaks =
      rw (
        append_assoc first (second ++ bytes) after,
        append_assoc second bytes after,
        field-read f first (second ++ (bytes ++ after)) is,
        field-read h second (bytes ++ after) is2,
        go,
      ) (broken-run (rest first second) bytes after next reason held breaks)
  broken-run _ _ after _ reason (Half f h both apart rest first is) none =
      rw (field-read f first after is, none-there h after reason none) refl

  -- bytes that are the whole form are read so
  pub held-run : (f : Form X) (before after : List ℕ) (next : Form X) (x : X) → Holds f before next → next ≡ Whole x
      → run f (before ++ after) ≡ Ok (x, after)
  unfolding run
  held-run f _ after _ x (Nothing _) is = ap (λ f. run f after) is
  held-run _ _ after next x (One f rest field bytes _ there held) is =
      rw (append_assoc field bytes after, field-read f field (bytes ++ after) there) (held-run (rest field) bytes after next x held is)
  held-run _ _ after next x (Two f h both apart rest first second bytes _ there there2 go held) is =
      rw (
        append_assoc first (second ++ bytes) after,
        append_assoc second bytes after,
        field-read f first (second ++ (bytes ++ after)) there,
        field-read h second (bytes ++ after) there2,
        go,
      ) (held-run (rest first second) bytes after next x held is)
  held-run _ _ after _ x (Half f h both apart rest first there) is = absurd cc
