-- Where reading a type or a dictionary fails, the fault's cause is true of the metadata.
use Rattle.std.proofs.Common.{◌≡◌, refl, subst, ℕ, true, false, List}
use Rattle.std.proofs.lemmas.Bool.{eqb-true, eq-eqb}
use Rattle.std.specs.Prelude.{pos, negsuc, int_lt, ℤ, ◌==◌, Option, None, Some, Ok, Err}
use Rattle.ipc_scalar.specs.Bytes.{byte, int16, int32, int64}
use Rattle.ipc_flat.specs.Flat.{text_of}
use Rattle.ipc_flat.specs.Views.{TableView, table_from, scalar, field}
use Rattle.std.specs.Ordering.{int_eq}
use Rattle.std.proofs.lemmas.Bool.Decides.{Decides-int_eq}
use Rattle.ipc_model.specs.Layouts.{time_bits}
use Rattle.ipc_model.specs.Ranges.{width}
use Rattle.ipc_model.specs.declared.schema.TimeUnit.{TimeUnit}
use Rattle.ipc_model.specs.declared.fault.Fault.{Fault}
use Rattle.ipc_model.specs.declared.fault.Fault.TheVariants as f
use Rattle.ipc_meta.specs.FlatFaults.{map_fault}
use Rattle.ipc_meta.specs.Tables.{flag_at, bits_of, ok_or, unit_of, int_at, date_at, fixed_at, timestamp_at, type_of, type_in, is_type_code}
use Rattle.ipc_meta.specs.Tables.{fixed_list_at, time_in, time_at, duration_at}
use Rattle.ipc_meta.specs.Tables.{code_at, type_at, index_type_at, index_at, dictionary_in, dictionary_at}
use Rattle.ipc_meta.specs.Reached as r
use Rattle.ipc_meta.specs.Reached.{TableKind, schema, column, type_value, dictionary_encoding, index_type, number, tables, ReadsField}
use Rattle.ipc_meta.specs.Reached.{HasTable}
use Rattle.ipc_meta.specs.Reached.{Element}
use Rattle.ipc_meta.specs.Causes.{Cause, IsInvalidTypeTable, other_width, other_date_unit, other_time_unit, negative_width, no_table}
use Rattle.ipc_meta.specs.Causes.{no_type}
use Rattle.ipc_meta.specs.Causes.{negative_size, other_time_of_day_unit, other_time_of_day_width, other_duration_unit}
use Rattle.ipc_meta.proofs.refused.Refused.{step, bad_number, bad_flag, bad_table, bad_value, bad_text}
use Rattle.ipc_model.specs.declared.limits.Limits.{Limits}
use Rattle.ipc_meta.proofs.Binds.{choose, lift_ok, ok_or_ok}

ok_or_err : {X : Type 0} (d e : Fault) (o : Option X) → ok_or d o ≡ Err e → (o ≡ None) × (d ≡ e)
ok_or_err d e None h = (refl, cc)
ok_or_err d e (Some x) h = absurd (cc)

int_refused : (limits : Limits) (b : List ℕ) (kind : TableKind) (t : TableView) (d e : Fault) → HasTable b kind t
    → ReadsField kind 0 (number 4)
    → ReadsField kind 1 (number 1) → int_at d t ≡ Err e
    → ((w : ℤ) → scalar t 0 4 int32 (pos 0) ≡ Ok w → bits_of w ≡ None → d ≡ e → Cause limits b e) → Cause limits b e
int_refused limits b kind t d e has width signed h other =
    step (map_fault (scalar t 0 4 int32 (pos 0))) _ e h (bad_number limits b kind t 0 4 int32 (pos 0) e has width) (λ w i h.
    step (ok_or d (bits_of w)) _ e h (λ h. let none = ok_or_err d e (bits_of w) h in other w
    (lift_ok (scalar t 0 4 int32 (pos 0)) w i) none.0 none.1) (λ x j h.
    step (flag_at t 1) _ e h (bad_flag limits b kind t 1 e has signed) (λ g k h. absurd (cc))))

not_pos : (n k : ℕ) → (n == k) ≡ false → pos n ≡ pos k → ⊥
not_pos n k h e = let same : n ≡ k = cc in let is : (n == k) ≡ true = eq-eqb n k same in cc

date_refused : (z : ℤ) (e : Fault) → date_at z ≡ Err e → (f.BadType ≡ e) × ((z ≡ pos 0 → ⊥) × (z ≡ pos 1 → ⊥))
date_refused (pos n) e h = choose (n == 0) _ _ _ h (λ i h. absurd (cc))
    (λ i h. choose (n == 1) _ _ _ h (λ j h. absurd (cc)) (λ j h. (cc, (not_pos n 0 i, not_pos n 1 j))))
date_refused (negsuc n) e h = (cc, (λ i. cc, λ i. cc))

fixed_refused : (z : ℤ) (e : Fault) → fixed_at z ≡ Err e → (f.BadType ≡ e) × (int_lt z (pos 0) ≡ true)
fixed_refused (pos n) e h = absurd (cc)
fixed_refused (negsuc n) e h = (cc, refl)

fixed_list_refused : (z : ℤ) (e : Fault) → fixed_list_at z ≡ Err e → (f.BadType ≡ e) × (int_lt z (pos 0) ≡ true)
fixed_list_refused (pos n) e h = absurd (cc)
fixed_list_refused (negsuc n) e h = (cc, refl)

timestamp_refused : (limits : Limits) (b : List ℕ) (t : TableView) (e : Fault) → HasTable b (type_value 10) t → timestamp_at t ≡ Err e
    → (f.BadType ≡ e → IsInvalidTypeTable 10 t → Cause limits b e) → Cause limits b e
timestamp_refused limits b t e has h bad =
    step (map_fault (scalar t 0 2 int16 (pos 0))) _ e h (bad_number limits b (type_value 10) t 0 2 int16 (pos 0) e has r.time_unit)
    (λ w i h.
    step (ok_or f.BadType (unit_of w)) _ e h
    (λ h. let p = ok_or_err f.BadType e (unit_of w) h in bad p.1 (other_time_unit (w, lift_ok (scalar t 0 2 int16 (pos 0)) w i, p.0)))
    (λ x j h.
    step (map_fault (field t 1 text_of)) _ e h (bad_text limits b (type_value 10) t 1 e has r.timezone) (λ g k h. absurd (cc))))

time_in_refused : (unit : TimeUnit) (w : ℤ) (e : Fault) → time_in unit w ≡ Err e
    → (f.BadType ≡ e) × (w ≡ pos (width (time_bits unit)) → ⊥)
time_in_refused unit w e h =
    let bits : ℤ = pos (width (time_bits unit)) in
    choose (int_eq w bits) _ _ _ h (λ i h. absurd (cc)) (λ i h. (cc, λ same. let is = (Decides-int_eq w bits).1 same in cc))

time_refused : (limits : Limits) (b : List ℕ) (t : TableView) (e : Fault) → HasTable b (type_value 9) t → time_at t ≡ Err e
    → (f.BadType ≡ e → IsInvalidTypeTable 9 t → Cause limits b e) → Cause limits b e
time_refused limits b t e has h bad =
    step (map_fault (scalar t 0 2 int16 (pos 1))) _ e h (bad_number limits b (type_value 9) t 0 2 int16 (pos 1) e has r.time_of_day_unit)
    (λ n i
    h.
    let unit_there = lift_ok (scalar t 0 2 int16 (pos 1)) n i in
    step (ok_or f.BadType (unit_of n)) _ e h
    (λ h. let p = ok_or_err f.BadType e (unit_of n) h in bad p.1 (other_time_of_day_unit (n, unit_there, p.0))) (λ unit j h.
    step (map_fault (scalar t 1 4 int32 (pos 32))) _ e h (bad_number limits b (type_value 9) t 1 4 int32 (pos 32) e has r.time_of_day_width)
    (λ
    w k h.
    let p = time_in_refused unit w e h in
    bad p.0 (other_time_of_day_width (n, unit_there, ok_or_ok f.BadType (unit_of n) unit j)
    (w, lift_ok (scalar t 1 4 int32 (pos 32)) w k, p.1)))))

duration_refused : (limits : Limits) (b : List ℕ) (t : TableView) (e : Fault) → HasTable b (type_value 18) t → duration_at t ≡ Err e
    → (f.BadType ≡ e → IsInvalidTypeTable 18 t → Cause limits b e) → Cause limits b e
duration_refused limits b t e has h bad =
    step (map_fault (scalar t 0 2 int16 (pos 1))) _ e h (bad_number limits b (type_value 18) t 0 2 int16 (pos 1) e has r.duration_unit)
    (λ n i h.
    step (ok_or f.BadType (unit_of n)) _ e h
    (λ h. let p = ok_or_err f.BadType e (unit_of n) h in bad p.1 (other_duration_unit (n, lift_ok (scalar t 0 2 int16 (pos 1)) n i, p.0)))
    (λ unit j h. absurd (cc)))

-- one code that a type has
type_code_is : (code : ℕ) → is_type_code code ≡ true → (code == 1) ≡ false → (code == 2) ≡ false → (code == 4) ≡ false → (code == 5) ≡ false
    → (code == 6) ≡ false → (code == 8) ≡ false → (code == 9) ≡ false
    → (code == 10) ≡ false → (code == 12) ≡ false → (code == 13) ≡ false → (code == 15) ≡ false → (code == 16) ≡ false
    → (code == 18) ≡ false → ⊥
unfolding is_type_code
type_code_is code h n1 n2 n4 n5 n6 n8 n9 n10 n12 n13 n15 n16 n18 =
    let none : false ≡ true = rw (n1, n2, n4, n5, n6, n8, n9, n10, n12, n13, n15, n16, n18) at h in cc

type_of_refused : (limits : Limits) (b : List ℕ) (code : ℕ) (t : TableView) (e : Fault) → is_type_code code ≡ true
    → HasTable b (type_value code) t
    → type_of code t ≡ Err e → Cause limits b e
unfolding type_of
type_of_refused limits b code t e known has h =
    choose (code == 1) _ _ _ h (λ i h. absurd (cc)) (λ n1 h.
    choose (code == 2) _ _ _ h (λ i h. step (int_at f.BadType t) _ e h
    (λ h. int_refused limits b (type_value 2) t f.BadType e (at 2 i) r.bit_width r.is_signed h
    (λ w j none same. bad 2 i same (other_width (w, j, none)))) (λ x j h. absurd (cc))) (λ n2 h.
    choose (code == 4) _ _ _ h (λ i h. absurd (cc)) (λ n4 h.
    choose (code == 5) _ _ _ h (λ i h. absurd (cc)) (λ n5 h.
    choose (code == 6) _ _ _ h (λ i h. absurd (cc)) (λ n6 h.
    choose (code == 8) _ _ _ h (λ i h. step (map_fault (scalar t 0 2 int16 (pos 1))) _ e h
    (bad_number limits b (type_value 8) t 0 2 int16 (pos 1) e (at 8 i) r.date_unit)
    (λ z j h. let p = date_refused z e h in bad 8 i p.0 (other_date_unit (z, lift_ok (scalar t 0 2 int16 (pos 1)) z j, p.1)))) (λ n8 h.
    choose (code == 9) _ _ _ h (λ i h. time_refused limits b t e (at 9 i) h (bad 9 i)) (λ n9 h.
    choose (code == 10) _ _ _ h (λ i h. timestamp_refused limits b t e (at 10 i) h (bad 10 i)) (λ n10 h.
    choose (code == 12) _ _ _ h (λ i h. absurd (cc)) (λ n12 h.
    choose (code == 13) _ _ _ h (λ i h. absurd (cc)) (λ n13 h.
    choose (code == 15) _ _ _ h (λ i h. step (map_fault (scalar t 0 4 int32 (pos 0))) _ e h
    (bad_number limits b (type_value 15) t 0 4 int32 (pos 0) e (at 15 i) r.byte_width)
    (λ z j h. let p = fixed_refused z e h in bad 15 i p.0 (negative_width (z, lift_ok (scalar t 0 4 int32 (pos 0)) z j, p.1))))
    (λ n15 h.
    choose (code == 16) _ _ _ h (λ i h. step (map_fault (scalar t 0 4 int32 (pos 0))) _ e h
    (bad_number limits b (type_value 16) t 0 4 int32 (pos 0) e (at 16 i) r.list_size)
    (λ z j h. let p = fixed_list_refused z e h in bad 16 i p.0 (negative_size (z, lift_ok (scalar t 0 4 int32 (pos 0)) z j, p.1))))
    (λ n16 h.
    choose (code == 18) _ _ _ h (λ i h. duration_refused limits b t e (at 18 i) h (bad 18 i))
    (λ n18 h. absurd (type_code_is code known n1 n2 n4 n5 n6 n8 n9 n10 n12 n13 n15 n16 n18))))))))))))))
  where
    at : (n : ℕ) → (code == n) ≡ true → HasTable b (type_value n) t
    at n i = let same : code ≡ n = eqb-true code n i in subst (λ k. HasTable b (type_value k) t) same has

    bad : (n : ℕ) → (code == n) ≡ true → f.BadType ≡ e → IsInvalidTypeTable n t → Cause limits b e
    bad n i same none = subst (Cause limits b) same (no_type (t, at n i, none))

bad_code : (limits : Limits) (b : List ℕ) (t : TableView) (e : Fault) → HasTable b column t → code_at t ≡ Err e → Cause limits b e
unfolding code_at
bad_code limits b t e has h = bad_number limits b column t 2 1 byte 0 e has r.type_type h

-- where a field's type can't be read, the fault's cause is true of the metadata
pub type_refused : (limits : Limits) (b : List ℕ) (t : TableView) (e : Fault) → HasTable b column t → type_at t ≡ Err e → Cause limits b e
unfolding type_at
type_refused limits b t e has h =
    step (code_at t) _ e h (bad_code limits b t e has) (λ code c i.
    choose (is_type_code code) _ _ _ i (λ known i.
    step (map_fault (field t 3 table_from)) _ e i (bad_value limits b t 3 e (r.at_type has c known))
    (λ o j k. in_table code o known c (lift_ok (field t 3 table_from) o j) k))
    (λ other i. let same : f.UnsupportedType code ≡ e = cc in subst (Cause limits b) same (t, has, (c, other))))
  where
    in_table : (code : ℕ) (o : Option TableView) → is_type_code code ≡ true → code_at t ≡ Ok code → field t 3 table_from ≡ Ok o
        → type_in code o ≡ Err e → Cause limits b e
    in_table code None known c i h = let same : f.BadType ≡ e = cc in subst (Cause limits b) same (no_table (t, has, (c, known, i)))
    in_table code (Some v) known c i h = type_of_refused limits b code v e known (r.of_type has c i) h

-- ---- the dictionary

index_refused : (limits : Limits) (b : List ℕ) (t : TableView) (e : Fault) → HasTable b dictionary_encoding t → index_at t ≡ Err e
    → Cause limits b e
index_refused limits b t e has h = step (map_fault (field t 1 table_from)) _ e h
    (bad_table limits b dictionary_encoding t 1 e has r.indices) go
  where
    go : (o : Option TableView) → map_fault (field t 1 table_from) ≡ Ok o → index_type_at o ≡ Err e → Cause limits b e
    go None i h = absurd (cc)
    go (Some v) i h =
        let it : HasTable b index_type v = r.of_index has (lift_ok (field t 1 table_from) (Some v) i) in
        int_refused limits b index_type v f.BadIndexType e it r.index_bit_width r.index_is_signed h
        (λ w j none same. subst (Cause limits b) same (v, it, (w, j, none)))

-- where a field's dictionary can't be read, the fault's cause is true of the metadata
pub dictionary_refused : (limits : Limits) (b : List ℕ) (t : TableView) (e : Fault) → HasTable b column t → dictionary_at t ≡ Err e
    → Cause limits b e
unfolding dictionary_at
dictionary_refused limits b t e has h = step (map_fault (field t 4 table_from)) _ e h (bad_table limits b column t 4 e has r.dictionary) go
  where
    go : (o : Option TableView) → map_fault (field t 4 table_from) ≡ Ok o → dictionary_in o ≡ Err e → Cause limits b e
    go None i h = absurd (cc)
    go (Some d) i h =
        let it : HasTable b dictionary_encoding d = r.of_encoding has (lift_ok (field t 4 table_from) (Some d) i) in
        step (map_fault (scalar d 0 8 int64 (pos 0))) _ e h (bad_number limits b dictionary_encoding d 0 8 int64 (pos 0) e it
        r.dictionary_id)
        (λ id j h.
        step (index_at d) _ e h (index_refused limits b d e it) (λ x k h.
        step (flag_at d 2) _ e h (bad_flag limits b dictionary_encoding d 2 e it r.is_ordered) (λ g l h. absurd (cc))))
