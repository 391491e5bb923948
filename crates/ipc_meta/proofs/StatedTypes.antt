-- A type is read of a Field table exactly where the table states it; so is a dictionary.
use Rattle.std.proofs.Common.{◌≡◌, ◌∙◌, refl, ap, subst, ℕ, true}
use Rattle.std.proofs.lemmas.Bool.{eqb-true}
use Rattle.std.proofs.lemmas.Bool.Decides.{Decides-int_eq}
use Rattle.std.specs.Ordering.{int_eq}
use Rattle.std.specs.Prelude.{ℤ, pos, negsuc, ◌==◌, Option, None, Some, Ok}
use Rattle.ipc_scalar.specs.Bytes.{int16, int32, int64}
use Rattle.ipc_flat.specs.Flat.{text_of}
use Rattle.ipc_flat.specs.Views.{TableView, table_from, scalar, field}
use Rattle.ipc_flat.specs.Faulty.{◌>>=◌}
use Rattle.ipc_model.specs.Entries.{kind_text}
use Rattle.ipc_model.specs.Layouts.{time_bits}
use Rattle.ipc_model.specs.Ranges.{width}
use Rattle.ipc_model.specs.TypeCodes.{type_code}
use Rattle.ipc_model.specs.declared.fault.Fault.{Fault}
use Rattle.ipc_model.specs.declared.fault.Fault.TheVariants.{BadType}
use Rattle.ipc_model.specs.declared.schema.IntBits.{IntBits}
use Rattle.ipc_model.specs.declared.schema.IntBits.TheVariants.{B8, B16, B32, B64}
use Rattle.ipc_model.specs.declared.schema.DateUnit.{DateUnit}
use Rattle.ipc_model.specs.declared.schema.DateUnit.TheVariants as date
use Rattle.ipc_model.specs.declared.schema.TimeUnit.{TimeUnit}
use Rattle.ipc_model.specs.declared.schema.TimeUnit.TheVariants as time
use Rattle.ipc_model.specs.declared.schema.DataType.{DataType}
use Rattle.ipc_model.specs.declared.schema.DataType.TheVariants as t
use Rattle.ipc_model.specs.declared.schema.IndexType.{IndexType}
use Rattle.ipc_model.specs.declared.schema.Dictionary.{Dictionary}
use Rattle.ipc_meta.specs.FlatFaults.{map_fault}
use Rattle.ipc_meta.specs.Tables.{bits_of, ok_or, unit_of, flag_at, int_at, date_at, fixed_at, fixed_list_at}
use Rattle.ipc_meta.specs.Tables.{timestamp_at, time_in, time_at, duration_at, type_of, type_in, is_type_code, code_at, type_at}
use Rattle.ipc_meta.specs.Tables.{text_at, index_at, dictionary_in, dictionary_at}
use Rattle.ipc_meta.specs.Types.{date_code, time_code, StatesType, TypeAt}
use Rattle.ipc_meta.specs.Fields.{IsEncodedAs}
use Rattle.ipc_meta.specs.Totals.{timezone_len_at}
use Rattle.ipc_meta.proofs.Binds.{bind_ok, choose, lift_ok, ok_same, ok_or_ok}

-- ---- numbers and their codes

-- a width is that of its integers
pub bits_there : (e : Fault) (bits : IntBits) → ok_or e (bits_of (pos (width bits))) ≡ Ok bits
bits_there e B8 = refl
bits_there e B16 = refl
bits_there e B32 = refl
bits_there e B64 = refl

-- a date's unit is that of its code
pub date_read : (unit : DateUnit) → date_at (date_code unit) ≡ Ok (t.Date unit)
date_read date.Day = refl
date_read date.Millisecond = refl

-- a unit of time is that of its code
pub unit_read : (unit : TimeUnit) → ok_or BadType (unit_of (time_code unit)) ≡ Ok unit
unit_read time.Second = refl
unit_read time.Millisecond = refl
unit_read time.Microsecond = refl
unit_read time.Nanosecond = refl

-- a time has the width that its unit needs
pub width_read : (unit : TimeUnit) → time_in unit (pos (width (time_bits unit))) ≡ Ok (t.Time unit)
width_read time.Second = refl
width_read time.Millisecond = refl
width_read time.Microsecond = refl
width_read time.Nanosecond = refl

bits_are : (z : ℤ) (bits : IntBits) → bits_of z ≡ Some bits → z ≡ pos (width bits)
bits_are (pos n) bits h =
    choose (n == 8) _ _ _ h (λ i h. at B8 8 i refl (cc)) (λ i h.
    choose (n == 16) _ _ _ h (λ i h. at B16 16 i refl (cc)) (λ i h.
    choose (n == 32) _ _ _ h (λ i h. at B32 32 i refl (cc)) (λ i h.
    choose (n == 64) _ _ _ h (λ i h. at B64 64 i refl (cc)) (λ i h. absurd (cc)))))
  where
    at : (b : IntBits) (m : ℕ) → (n == m) ≡ true → m ≡ width b → b ≡ bits → pos n ≡ pos (width bits)
    at b m i w e = subst (λ c. pos n ≡ pos (width c)) e (ap pos (eqb-true n m i ∙ w))
bits_are (negsuc n) bits h = absurd (cc)

unit_is : (z : ℤ) (unit : TimeUnit) → unit_of z ≡ Some unit → z ≡ time_code unit
unit_is (pos n) unit h =
    choose (n == 0) _ _ _ h (λ i h. at time.Second 0 i refl (cc)) (λ i h.
    choose (n == 1) _ _ _ h (λ i h. at time.Millisecond 1 i refl (cc)) (λ i h.
    choose (n == 2) _ _ _ h (λ i h. at time.Microsecond 2 i refl (cc)) (λ i h.
    choose (n == 3) _ _ _ h (λ i h. at time.Nanosecond 3 i refl (cc)) (λ i h. absurd (cc)))))
  where
    at : (u : TimeUnit) (m : ℕ) → (n == m) ≡ true → pos m ≡ time_code u → u ≡ unit → pos n ≡ time_code unit
    at u m i c e = subst (λ w. pos n ≡ time_code w) e (ap pos (eqb-true n m i) ∙ c)
unit_is (negsuc n) unit h = absurd (cc)

-- ---- what was read is stated

-- the table of the type with this code states this type, whose code it is
abbrev Stated : ℕ → TableView → DataType → Type 0
Stated code v κ = (code ≡ type_code κ) × StatesType κ v

stated : (code n : ℕ) (v : TableView) (μ κ : DataType) → (code == n) ≡ true → n ≡ type_code μ → StatesType μ v → μ ≡ κ → Stated code v κ
stated code n v μ κ i c s e = subst (Stated code v) e (eqb-true code n i ∙ c, s)

int_stated : (code : ℕ) (v : TableView) (κ : DataType) → (code == 2) ≡ true
    → (int_at BadType v >>= λ i. Ok (t.Int i.bits i.signed)) ≡ Ok κ → Stated code v κ
int_stated code v κ i h =
    let w = bind_ok (int_at BadType v) _ κ h in
    let n = bind_ok (map_fault (scalar v 0 4 int32 (pos 0))) _ w.0 w.1 in
    let b = bind_ok (ok_or BadType (bits_of n.0)) _ w.0 n.2 in
    let s = bind_ok (flag_at v 1) _ w.0 b.2 in
    let read : IndexType = record { bits = b.0; signed = s.0 } in
    let same : read ≡ w.0 = cc in
    let bits = lift_ok _ n.0 n.1 ∙ ap Ok (bits_are n.0 b.0 (ok_or_ok BadType (bits_of n.0) b.0 b.1)) in
    stated code 2 v (t.Int w.0.bits w.0.signed) κ i refl
    (subst (λ (j : IndexType). StatesType (t.Int j.bits j.signed) v) same (bits, s.1)) (cc)

date_stated : (code : ℕ) (v : TableView) (κ : DataType) → (code == 8) ≡ true
    → (map_fault (scalar v 0 2 int16 (pos 1)) >>= date_at) ≡ Ok κ → Stated code v κ
date_stated code v κ i h =
    let z = bind_ok (map_fault (scalar v 0 2 int16 (pos 1))) _ κ h in go z.0 (lift_ok _ z.0 z.1) z.2
  where
    go : (z : ℤ) → scalar v 0 2 int16 (pos 1) ≡ Ok z → date_at z ≡ Ok κ → Stated code v κ
    go (pos n) j h =
        choose (n == 0) _ _ _ h
        (λ k h. stated code 8 v (t.Date date.Day) κ i refl (j ∙ ap (λ m. Ok (pos m)) (eqb-true n 0 k)) (cc)) (λ k h.
        choose (n == 1) _ _ _ h
        (λ k h. stated code 8 v (t.Date date.Millisecond) κ i refl (j ∙ ap (λ m. Ok (pos m)) (eqb-true n 1 k)) (cc))
        (λ k h. absurd (cc)))
    go (negsuc n) j h = absurd (cc)

time_stated : (code : ℕ) (v : TableView) (κ : DataType) → (code == 9) ≡ true → time_at v ≡ Ok κ → Stated code v κ
time_stated code v κ i h =
    let n = bind_ok (map_fault (scalar v 0 2 int16 (pos 1))) _ κ h in
    let u = bind_ok (ok_or BadType (unit_of n.0)) _ κ n.2 in
    let w = bind_ok (map_fault (scalar v 1 4 int32 (pos 32))) _ κ u.2 in
    let bits : ℤ = pos (width (time_bits u.0)) in
    let unit = lift_ok _ n.0 n.1 ∙ ap Ok (unit_is n.0 u.0 (ok_or_ok BadType (unit_of n.0) u.0 u.1)) in
    choose (int_eq w.0 bits) _ _ _ w.2
    (λ k h. stated code 9 v (t.Time u.0) κ i refl
    (unit, lift_ok _ w.0 w.1 ∙ ap Ok ((Decides-int_eq w.0 bits).0 k)) (cc)) (λ k h. absurd (cc))

timestamp_stated : (code : ℕ) (v : TableView) (κ : DataType) → (code == 10) ≡ true → timestamp_at v ≡ Ok κ → Stated code v κ
timestamp_stated code v κ i h =
    let n = bind_ok (map_fault (scalar v 0 2 int16 (pos 0))) _ κ h in
    let u = bind_ok (ok_or BadType (unit_of n.0)) _ κ n.2 in
    let z = bind_ok (map_fault (field v 1 text_of)) _ κ u.2 in
    let unit = lift_ok _ n.0 n.1 ∙ ap Ok (unit_is n.0 u.0 (ok_or_ok BadType (unit_of n.0) u.0 u.1)) in
    stated code 10 v (t.Timestamp u.0 z.0) κ i refl (unit, lift_ok _ z.0 z.1) (cc)

duration_stated : (code : ℕ) (v : TableView) (κ : DataType) → (code == 18) ≡ true → duration_at v ≡ Ok κ → Stated code v κ
duration_stated code v κ i h =
    let n = bind_ok (map_fault (scalar v 0 2 int16 (pos 1))) _ κ h in
    let u = bind_ok (ok_or BadType (unit_of n.0)) _ κ n.2 in
    let unit = lift_ok _ n.0 n.1 ∙ ap Ok (unit_is n.0 u.0 (ok_or_ok BadType (unit_of n.0) u.0 u.1)) in
    stated code 18 v (t.Duration u.0) κ i refl unit (cc)

fixed_stated : (code : ℕ) (v : TableView) (κ : DataType) → (code == 15) ≡ true
    → (map_fault (scalar v 0 4 int32 (pos 0)) >>= fixed_at) ≡ Ok κ → Stated code v κ
fixed_stated code v κ i h =
    let z = bind_ok (map_fault (scalar v 0 4 int32 (pos 0))) _ κ h in go z.0 (lift_ok _ z.0 z.1) z.2
  where
    go : (z : ℤ) → scalar v 0 4 int32 (pos 0) ≡ Ok z → fixed_at z ≡ Ok κ → Stated code v κ
    go (pos n) j h = stated code 15 v (t.FixedSizeBinary n) κ i refl j (cc)
    go (negsuc n) j h = absurd (cc)

fixed_list_stated : (code : ℕ) (v : TableView) (κ : DataType) → (code == 16) ≡ true
    → (map_fault (scalar v 0 4 int32 (pos 0)) >>= fixed_list_at) ≡ Ok κ → Stated code v κ
fixed_list_stated code v κ i h =
    let z = bind_ok (map_fault (scalar v 0 4 int32 (pos 0))) _ κ h in go z.0 (lift_ok _ z.0 z.1) z.2
  where
    go : (z : ℤ) → scalar v 0 4 int32 (pos 0) ≡ Ok z → fixed_list_at z ≡ Ok κ → Stated code v κ
    go (pos n) j h = stated code 16 v (t.FixedSizeList n) κ i refl j (cc)
    go (negsuc n) j h = absurd (cc)

table_stated : (code : ℕ) (v : TableView) (κ : DataType) → type_of code v ≡ Ok κ → Stated code v κ
unfolding type_of
table_stated code v κ h =
    choose (code == 1) _ _ _ h (λ i h. stated code 1 v t.Null κ i refl tt (cc)) (λ n h.
    choose (code == 2) _ _ _ h (λ i h. int_stated code v κ i h) (λ n h.
    choose (code == 4) _ _ _ h (λ i h. stated code 4 v t.Binary κ i refl tt (cc)) (λ n h.
    choose (code == 5) _ _ _ h (λ i h. stated code 5 v t.Utf8 κ i refl tt (cc)) (λ n h.
    choose (code == 6) _ _ _ h (λ i h. stated code 6 v t.Bool κ i refl tt (cc)) (λ n h.
    choose (code == 8) _ _ _ h (λ i h. date_stated code v κ i h) (λ n h.
    choose (code == 9) _ _ _ h (λ i h. time_stated code v κ i h) (λ n h.
    choose (code == 10) _ _ _ h (λ i h. timestamp_stated code v κ i h) (λ n h.
    choose (code == 12) _ _ _ h (λ i h. stated code 12 v t.List κ i refl tt (cc)) (λ n h.
    choose (code == 13) _ _ _ h (λ i h. stated code 13 v t.Struct κ i refl tt (cc)) (λ n h.
    choose (code == 15) _ _ _ h (λ i h. fixed_stated code v κ i h) (λ n h.
    choose (code == 16) _ _ _ h (λ i h. fixed_list_stated code v κ i h) (λ n h.
    choose (code == 18) _ _ _ h (λ i h. duration_stated code v κ i h) (λ n h. absurd (cc))))))))))))))

-- a type that was read of a Field table is the one that the table states
pub type_stated : (f : TableView) (κ : DataType) → type_at f ≡ Ok κ → TypeAt κ f
unfolding type_at
type_stated f κ h =
    let code = bind_ok (code_at f) _ κ h in
    choose (is_type_code code.0) _ _ _ code.2
    (λ known h. let o = bind_ok (map_fault (field f 3 table_from)) _ κ h in go code.0 code.1 o.0 (lift_ok _ o.0 o.1) o.2)
    (λ other h. absurd (cc))
  where
    go : (code : ℕ) → code_at f ≡ Ok code → (o : Option TableView) → field f 3 table_from ≡ Ok o → type_in code o ≡ Ok κ → TypeAt κ f
    go code c None i h = absurd (cc)
    go code c (Some v) i h = let s = table_stated code v κ h in (c ∙ ap Ok s.0, (v, i, s.1))

-- the timezone of a type that is stated has the length of the type's own text
pub timezone_len : (f : TableView) (κ : DataType) → TypeAt κ f → timezone_len_at f ≡ kind_text κ
unfolding text_at
timezone_len f t.Null h = rw (h.0) refl
timezone_len f (t.Int bits signed) h = rw (h.0) refl
timezone_len f t.Binary h = rw (h.0) refl
timezone_len f t.Utf8 h = rw (h.0) refl
timezone_len f t.Bool h = rw (h.0) refl
timezone_len f (t.Date unit) h = rw (h.0) refl
timezone_len f (t.Time unit) h = rw (h.0) refl
timezone_len f (t.Timestamp unit None) h = rw (h.0, h.1.1, h.1.2.1) refl
timezone_len f (t.Timestamp unit (Some zone)) h = rw (h.0, h.1.1, h.1.2.1) refl
timezone_len f t.List h = rw (h.0) refl
timezone_len f t.Struct h = rw (h.0) refl
timezone_len f (t.FixedSizeBinary n) h = rw (h.0) refl
timezone_len f (t.FixedSizeList n) h = rw (h.0) refl
timezone_len f (t.Duration unit) h = rw (h.0) refl

-- a dictionary that was read of a Field table is the one that the table states
pub dictionary_stated : (f : TableView) (o : Option Dictionary) → dictionary_at f ≡ Ok o → IsEncodedAs o f
unfolding dictionary_at
dictionary_stated f o h =
    let r = bind_ok (map_fault (field f 4 table_from)) _ o h in go r.0 (lift_ok _ r.0 r.1) r.2
  where
    go : (d : Option TableView) → field f 4 table_from ≡ Ok d → dictionary_in d ≡ Ok o → IsEncodedAs o f
    go None at h = subst (λ o. IsEncodedAs o f) (ok_same (Ok None) None o refl h) at
    go (Some d) at h =
        let id = bind_ok (map_fault (scalar d 0 8 int64 (pos 0))) _ o h in
        let index = bind_ok (index_at d) _ o id.2 in
        let ordered = bind_ok (flag_at d 2) _ o index.2 in
        subst (λ o. IsEncodedAs o f) (ok_same _ _ o refl ordered.2)
        (d, at, record { id = lift_ok _ id.0 id.1; index = index.1; ordered = ordered.1 })

-- ---- what is stated is read

-- the type that a Field table states is read of it
pub type_back : (f : TableView) (κ : DataType) → TypeAt κ f → type_at f ≡ Ok κ
unfolding type_at type_of is_type_code
type_back f t.Null h = rw (h.0, h.1.1) refl
type_back f (t.Int bits signed) h = rw (h.0, h.1.1, h.1.2.0, bits_there BadType bits, h.1.2.1) refl
type_back f t.Binary h = rw (h.0, h.1.1) refl
type_back f t.Utf8 h = rw (h.0, h.1.1) refl
type_back f t.Bool h = rw (h.0, h.1.1) refl
type_back f (t.Date unit) h = rw (h.0, h.1.1, h.1.2, date_read unit) refl
type_back f (t.Time unit) h = rw (h.0, h.1.1, h.1.2.0, unit_read unit, h.1.2.1, width_read unit) refl
type_back f (t.Timestamp unit timezone) h = rw (h.0, h.1.1, h.1.2.0, unit_read unit, h.1.2.1) refl
type_back f t.List h = rw (h.0, h.1.1) refl
type_back f t.Struct h = rw (h.0, h.1.1) refl
type_back f (t.FixedSizeBinary n) h = rw (h.0, h.1.1, h.1.2) refl
type_back f (t.FixedSizeList n) h = rw (h.0, h.1.1, h.1.2) refl
type_back f (t.Duration unit) h = rw (h.0, h.1.1, h.1.2, unit_read unit) refl

-- the dictionary that a Field table states is read of it
pub dictionary_back : (f : TableView) (o : Option Dictionary) → IsEncodedAs o f → dictionary_at f ≡ Ok o
unfolding dictionary_at
dictionary_back f None h = rw (h) refl
dictionary_back f (Some d) h = rw (h.1, h.2.id, h.2.index, h.2.ordered) refl
