-- The type and the dictionary of a field that were written are those that are read.
use Rattle.std.proofs.Common.{◌≡◌, ◌∙◌, refl, ap, ℕ, ◌-◌, ◌^◌, ◌≤◌, Bool, List, arith}
use Rattle.std.specs.Prelude.{ℤ, pos, true, Option, None, Some, Result, Ok, Err, if◌then◌else◌}
use Rattle.std.specs.Int.{w32, cast_signed}
use Rattle.std.proofs.Math.Facts.{to_z_pos}
use Rattle.ipc_scalar.specs.Bytes.{num, byte, int16, int32, int64}
use Rattle.ipc_flat.specs.declared.fault.FlatFault.{FlatFault}
use Rattle.ipc_flat.specs.Flat.{field_place, table_position, text_of}
use Rattle.ipc_flat.specs.Views.{TableView, table_from, scalar, field}
use Rattle.ipc_flat.specs.Faulty.{◌>>=◌}
use Rattle.ipc_model.specs.WellFormed.{HasGoodType}
use Rattle.ipc_model.specs.declared.fault.Fault.{Fault}
use Rattle.ipc_model.specs.declared.fault.Fault.TheVariants.{UnsupportedType, BadType, BadIndexType}
use Rattle.ipc_model.specs.declared.schema.IntBits.{IntBits}
use Rattle.ipc_model.specs.declared.schema.DateUnit.{DateUnit}
use Rattle.ipc_model.specs.declared.schema.TimeUnit.{TimeUnit}
use Rattle.ipc_model.specs.declared.schema.DataType.{DataType}
use Rattle.ipc_model.specs.declared.schema.DataType.TheVariants as t
use Rattle.ipc_model.specs.declared.schema.IndexType.{IndexType}
use Rattle.ipc_model.specs.declared.schema.Dictionary.{Dictionary}
use Rattle.ipc_build.specs.Encodes.{EncodesTable, HasField}
use Rattle.ipc_meta.specs.FlatFaults.{map_fault}
use Rattle.ipc_meta.specs.Tables.{bits_of, ok_or, int_at, fixed_at, date_at, unit_of, timestamp_at, type_of, type_in, is_type_code}
use Rattle.ipc_meta.specs.Tables.{when_type, code_at, type_at, flag_at, index_type_at, index_at}
use Rattle.ipc_meta.specs.Fields.{EncodingAt, IsEncodedAs}
use Rattle.ipc_meta.specs.Tables.{fixed_list_at, time_in, time_at, duration_at}
use Rattle.ipc_meta.specs.Types.{date_code}
use Rattle.ipc_meta.specs.Written.{int_tree, type_tree, dictionary_tree}
use Rattle.ipc_model.specs.TypeCodes.{type_code}
use Rattle.ipc_meta.proofs.StatedTypes.{bits_there, date_read, unit_read, width_read}
use Rattle.ipc_meta.proofs.written.Standing.{tab, Holds, scalar_there, field_there, field_absent, table_there}
use Rattle.ipc_meta.proofs.written.WrittenParts.{flag_there, neither}

abbrev integer : IntBits → Bool → IndexType
integer bits signed = record { bits = bits; signed = signed }

int_there : (e : Fault) (b : List ℕ) (u : ℕ) (bits : IntBits) (signed : Bool) → Holds b u (int_tree bits signed)
    → int_at e (tab b u) ≡ Ok (integer bits signed)
unfolding EncodesTable
int_there e b u bits signed h =
    let size = h.lies.0 in
    let sign = h.lies.1.0 in
    ap (λ (r : Result ℤ FlatFault). map_fault r >>= λ w. ok_or e (bits_of w) >>= λ c. flag_at (tab b u) 1 >>= λ s. Ok (integer c s))
    (scalar_there b u 0 4 size.0 int32 (pos 0) size.1.0)
    ∙ (ap (λ (z : ℤ). ok_or e (bits_of z) >>= λ c. flag_at (tab b u) 1 >>= λ s. Ok (integer c s)) size.3
    ∙ (ap (λ (r : Result IntBits Fault). r >>= λ c. flag_at (tab b u) 1 >>= λ s. Ok (integer c s)) (bits_there e bits)
    ∙ ap (λ (r : Result Bool Fault). r >>= λ s. Ok (integer bits s)) (flag_there b u 1 sign.0 signed sign.1.0 sign.3)))

fixed_there : (b : List ℕ) (u n p : ℕ) → field_place b u 0 4 ≡ Ok (Some p) → int32 b p ≡ cast_signed w32 n → n ≤ 2 ^ 31 - 1
    → (map_fault (scalar (tab b u) 0 4 int32 (pos 0)) >>= fixed_at) ≡ Ok (t.FixedSizeBinary n)
fixed_there b u n p s e h =
    ap (λ (r : Result ℤ FlatFault). map_fault r >>= fixed_at) (scalar_there b u 0 4 p int32 (pos 0) s)
    ∙ (ap fixed_at e ∙ ap fixed_at (to_z_pos w32 (omega (arith, h))))

fixed_list_there : (b : List ℕ) (u n p : ℕ) → field_place b u 0 4 ≡ Ok (Some p) → int32 b p ≡ cast_signed w32 n → n ≤ 2 ^ 31 - 1
    → (map_fault (scalar (tab b u) 0 4 int32 (pos 0)) >>= fixed_list_at) ≡ Ok (t.FixedSizeList n)
fixed_list_there b u n p s e h =
    ap (λ (r : Result ℤ FlatFault). map_fault r >>= fixed_list_at) (scalar_there b u 0 4 p int32 (pos 0) s)
    ∙ (ap fixed_list_at e ∙ ap fixed_list_at (to_z_pos w32 (omega (arith, h))))

date_there : (b : List ℕ) (u p : ℕ) (unit : DateUnit) → field_place b u 0 2 ≡ Ok (Some p) → int16 b p ≡ date_code unit
    → (map_fault (scalar (tab b u) 0 2 int16 (pos 1)) >>= date_at) ≡ Ok (t.Date unit)
date_there b u p unit s e = ap (λ (r : Result ℤ FlatFault). map_fault r >>= date_at) (scalar_there b u 0 2 p int16 (pos 1) s)
    ∙ (ap date_at e ∙ date_read unit)

abbrev timestamp : TimeUnit → Option (List ℕ) → Result DataType Fault
timestamp unit zone = Ok (t.Timestamp unit zone)

zone_there : (b : List ℕ) (u : ℕ) (unit : TimeUnit) (zone : Option (List ℕ)) → Holds b u (type_tree (t.Timestamp unit zone))
    → field (tab b u) 1 text_of ≡ Ok zone
unfolding EncodesTable HasField
zone_there b u unit None h = field_absent b u 1 text_of (h.stands.absent 1 4 (neither (λ e. omega (arith, e)) (λ z. z)))
zone_there b u unit (Some s) h = let zone = h.lies.1.0 in field_there b u 1 zone.0 text_of s zone.1.0 zone.3.text

timestamp_there : (b : List ℕ) (u : ℕ) (unit : TimeUnit) (zone : Option (List ℕ)) → Holds b u (type_tree (t.Timestamp unit zone))
    → timestamp_at (tab b u) ≡ Ok (t.Timestamp unit zone)
unfolding EncodesTable
timestamp_there b u unit zone h =
    let place = h.lies.0 in
    ap (λ (r : Result ℤ FlatFault). map_fault r >>= λ n. ok_or BadType (unit_of n) >>= λ c. map_fault (field (tab b u) 1 text_of)
    >>= λ z. timestamp c z) (scalar_there b u 0 2 place.0 int16 (pos 0) place.1.0)
    ∙ (ap (λ (m : ℤ). ok_or BadType (unit_of m) >>= λ c. map_fault (field (tab b u) 1 text_of) >>= λ z. timestamp c z) place.3
    ∙ (ap (λ (r : Result TimeUnit Fault). r >>= λ c. map_fault (field (tab b u) 1 text_of) >>= λ z. timestamp c z) (unit_read unit)
    ∙ ap (λ (r : Result (Option (List ℕ)) FlatFault). map_fault r >>= λ z. timestamp unit z) (zone_there b u unit zone h)))

time_there : (b : List ℕ) (u : ℕ) (unit : TimeUnit) → Holds b u (type_tree (t.Time unit)) → time_at (tab b u) ≡ Ok (t.Time unit)
unfolding EncodesTable
time_there b u unit h =
    let place = h.lies.0 in
    let size = h.lies.1.0 in
    ap (λ (r : Result ℤ FlatFault). map_fault r >>= λ n. ok_or BadType (unit_of n) >>= λ c. map_fault (scalar (tab b u) 1 4 int32 (pos 32))
    >>= time_in c) (scalar_there b u 0 2 place.0 int16 (pos 1) place.1.0)
    ∙ (ap (λ (m : ℤ). ok_or BadType (unit_of m) >>= λ c. map_fault (scalar (tab b u) 1 4 int32 (pos 32)) >>= time_in c) place.3
    ∙ (ap (λ (r : Result TimeUnit Fault). r >>= λ c. map_fault (scalar (tab b u) 1 4 int32 (pos 32)) >>= time_in c) (unit_read unit)
    ∙ (ap (λ (r : Result ℤ FlatFault). map_fault r >>= time_in unit) (scalar_there b u 1 4 size.0 int32 (pos 32) size.1.0)
    ∙ (ap (time_in unit) size.3 ∙ width_read unit))))

abbrev duration : TimeUnit → Result DataType Fault
duration unit = Ok (t.Duration unit)

duration_there : (b : List ℕ) (u : ℕ) (unit : TimeUnit) → Holds b u (type_tree (t.Duration unit))
    → duration_at (tab b u) ≡ Ok (t.Duration unit)
unfolding EncodesTable
duration_there b u unit h =
    let place = h.lies.0 in
    ap (λ (r : Result ℤ FlatFault). map_fault r >>= λ n. ok_or BadType (unit_of n) >>= λ c. duration c)
    (scalar_there b u 0 2 place.0 int16 (pos 1) place.1.0)
    ∙ (ap (λ (m : ℤ). ok_or BadType (unit_of m) >>= λ c. duration c) place.3
    ∙ ap (λ (r : Result TimeUnit Fault). r >>= λ c. duration c) (unit_read unit))

type_table : (b : List ℕ) (u : ℕ) (κ : DataType) → HasGoodType κ → Holds b u (type_tree κ) → type_of (type_code κ) (tab b u) ≡ Ok κ
unfolding EncodesTable type_of
type_table b u t.Null g h = refl
type_table b u t.Bool g h = refl
type_table b u (t.Int bits signed) g h =
    ap (λ (r : Result IndexType Fault). r >>= λ i. Ok (t.Int i.bits i.signed)) (int_there BadType b u bits signed h)
type_table b u t.Binary g h = refl
type_table b u t.Utf8 g h = refl
type_table b u (t.FixedSizeBinary n) g h = let place = h.lies.0 in fixed_there b u n place.0 place.1.0 place.3 g
type_table b u (t.FixedSizeList n) g h = let place = h.lies.0 in fixed_list_there b u n place.0 place.1.0 place.3 g
type_table b u (t.Date unit) g h = let place = h.lies.0 in date_there b u place.0 unit place.1.0 place.3
type_table b u (t.Timestamp unit zone) g h = timestamp_there b u unit zone h
type_table b u (t.Time unit) g h = time_there b u unit h
type_table b u (t.Duration unit) g h = duration_there b u unit h
type_table b u t.List g h = refl
type_table b u t.Struct g h = refl

coded : (κ : DataType) → is_type_code (type_code κ) ≡ true
unfolding is_type_code
coded t.Null = refl
coded t.Bool = refl
coded (t.Int bits signed) = refl
coded t.Binary = refl
coded t.Utf8 = refl
coded (t.FixedSizeBinary n) = refl
coded (t.FixedSizeList n) = refl
coded (t.Date unit) = refl
coded (t.Timestamp unit timezone) = refl
coded (t.Time unit) = refl
coded (t.Duration unit) = refl
coded t.List = refl
coded t.Struct = refl

-- a type whose code and table were written in a field is the one that is read
pub type_there : (b : List ℕ) (t c p u : ℕ) (κ : DataType) → field_place b t 2 1 ≡ Ok (Some c) → num b c 1 ≡ type_code κ
    → field_place b t 3 4 ≡ Ok (Some p) → table_position b p ≡ Ok u
    → HasGoodType κ → Holds b u (type_tree κ) → type_at (tab b t) ≡ Ok κ
unfolding type_at code_at
type_there b t c p u κ sc e sp table good h =
    ap (λ (r : Result ℕ FlatFault). map_fault r >>= λ code. when_type code (map_fault (field (tab b t) 3 table_from) >>= type_in code))
    (scalar_there b t 2 1 c byte 0 sc)
    ∙ (ap (λ (n : ℕ). when_type n (map_fault (field (tab b t) 3 table_from) >>= type_in n)) e
    ∙ (ap (λ (k : Bool). if k then (map_fault (field (tab b t) 3 table_from) >>= type_in (type_code κ)) else Err
    (UnsupportedType (type_code κ)))
    (coded κ)
    ∙ (ap (λ (r : Result (Option TableView) FlatFault). map_fault r >>= type_in (type_code κ))
    (field_there b t 3 p table_from (tab b u) sp (table_there b p u table))
    ∙ type_table b u κ good h)))

-- ---- the dictionary

index_there : (b : List ℕ) (u p v : ℕ) (index : IndexType) → field_place b u 1 4 ≡ Ok (Some p) → table_position b p ≡ Ok v
    → Holds b v (int_tree index.bits index.signed) → index_at (tab b u) ≡ Ok index
index_there b u p v index s table h =
    ap (λ (r : Result (Option TableView) FlatFault). map_fault r >>= index_type_at)
    (field_there b u 1 p table_from (tab b v) s (table_there b p v table))
    ∙ int_there BadIndexType b v index.bits index.signed h

encoding_there : (b : List ℕ) (u : ℕ) (d : Dictionary) → Holds b u (dictionary_tree d) → EncodingAt (tab b u) d
unfolding EncodesTable
encoding_there b u d h =
    let id = h.lies.0 in
    let index = h.lies.1.0 in
    let order = h.lies.1.1.0 in
    record {
      id = scalar_there b u 0 8 id.0 int64 (pos 0) id.1.0 ∙ ap Ok id.3;
      index = index_there b u index.0 index.3.0 d.index index.1.0 index.3.1 (record { stands = index.3.2; lies = index.3.3 });
      ordered = flag_there b u 2 order.0 d.ordered order.1.0 order.3;
    }

-- a dictionary whose table was written in a field is the one that the field states
pub dictionary_there : (b : List ℕ) (t p u : ℕ) (d : Dictionary) → field_place b t 4 4 ≡ Ok (Some p) → table_position b p ≡ Ok u
    → Holds b u (dictionary_tree d) → IsEncodedAs (Some d) (tab b t)
dictionary_there b t p u d s table h =
    (tab b u, field_there b t 4 p table_from (tab b u) s (table_there b p u table), encoding_there b u d h)
