-- What is written of a row reads as it.
use Rattle.std.proofs.Common.{◌≡◌, ◌∙◌, ◌+◌, ◌||◌, ℕ, Bool, true, false, if◌then◌else◌}
use Rattle.std.proofs.Common.{List, [], ◌∷◌, length, Option, Some, None, Result, Ok, Err}
use Rattle.std.proofs.Common.{refl, sym, ap, subst, inl, inr}
use Rattle.std.specs.Prelude.{IsTrue, ◌⊎◌}
use Rattle.hex.specs.Hex.{encode_lower}
use Rattle.hex.proofs.HexLemmas.{decode_of-encode_lower}
use Rattle.ipc_model.specs.Fits.{FitsOwnType}
use Rattle.ipc_model.specs.RowFaults.{is_null_type}
use Rattle.ipc_model.specs.declared.schema.DataType.{DataType}
use Rattle.ipc_model.specs.declared.schema.DataType.TheVariants as t
use Rattle.ipc_model.specs.declared.schema.Field.{Field, out-Field}
use Rattle.ipc_model.specs.declared.value.Value.{Value, out-Value}
use Rattle.ipc_model.specs.declared.value.Value.TheOpen.{Value-F}
use Rattle.ipc_text_csv.specs.CsvCells.{decoded_hex, if_read}
use Rattle.ipc_text_csv.specs.CsvRows.{StandsFor, ReadsAs, EachReadsAs, IsStored, IsTyped, EachTyped}
use Rattle.ipc_text_csv.specs.declared.dialect.Dialect.{Dialect}
use Rattle.ipc_text_csv.specs.RowCsv.{null_text, allows_null, own_text, value_text, csv_text, each_text, all_texts, in_front}
use Rattle.ipc_text_temporal.specs.declared.fault.TextFault.{TextFault}
use Rattle.ipc_text_csv.proofs.CsvFits.{reads_own}
use Rattle.ipc_text_csv.proofs.NullText.{other_than_null}

stands : (d : Dialect) (kind : DataType) (text : List ℕ) (w : Value-F Value) → IsStored w → value_text d kind w ≡ Some text
    → StandsFor d kind text w
stands d kind text (Value-F.Bytes bytes) s e =
    let report = other_than_null d (encode_lower bytes) text e in
    (ap decoded_hex (sym report.0) ∙ ap if_read (decode_of-encode_lower bytes s), report.1)
stands d kind text (Value-F.Text chars) s e = (s, e)
stands d kind text Value-F.Null s e = e
stands d kind text (Value-F.Bool b) s e = e
stands d kind text (Value-F.Int z) s e = e
stands d kind text (Value-F.UInt n) s e = e
stands d kind text (Value-F.List vs) s e = e
stands d kind text (Value-F.Struct vs) s e = e

right : {A : Type 0} {a b : A} → ◌≡◌ {A = Result A TextFault} (Ok a) (Ok b) → a ≡ b
right e = cc

null_type : (kind : DataType) → is_null_type kind ≡ true → kind ≡ t.Null
null_type t.Null e = refl
null_type t.Bool e = absurd cc
null_type (t.Int bits signed) e = absurd cc
null_type t.Binary e = absurd cc
null_type t.Utf8 e = absurd cc
null_type (t.FixedSizeBinary n) e = absurd cc
null_type (t.Date unit) e = absurd cc
null_type (t.Time unit) e = absurd cc
null_type (t.Timestamp unit timezone) e = absurd cc
null_type (t.Duration unit) e = absurd cc
null_type t.List e = absurd cc
null_type (t.FixedSizeList n) e = absurd cc
null_type t.Struct e = absurd cc

allowed : (d : Dialect) (b : Bool) (text : List ℕ) → (if b then Some (null_text d) else None) ≡ Some text → b ≡ true
allowed d true text e = refl
allowed d false text e = absurd cc

null_fits : (d : Dialect) (nullable : Bool) (kind : DataType) (text : List ℕ)
    → (if nullable || is_null_type kind then Some (null_text d) else None) ≡ Some text → IsTrue nullable ⊎ (kind ≡ t.Null)
null_fits d true kind text e = inl refl
null_fits d false kind text e = inr (null_type kind (allowed d (is_null_type kind) text e))

null_value : (d : Dialect) (b : Bool) (text : List ℕ) → (if b then Some (null_text d) else None) ≡ Some text → Some (null_text d)
    ≡ Some text
null_value d true text e = e
null_value d false text e = absurd cc

-- a value with a text fits its field: null has one only where the field allows it
own_type : (d : Dialect) (f : Field) (t : List ℕ) (w : Value-F Value) → IsTyped f w → own_text d f w ≡ Some t
    → FitsOwnType (out-Field f).kind (out-Field f).nullable (length (out-Field f).children) w
own_type d f t Value-F.Null typed e = null_fits d (out-Field f).nullable (out-Field f).kind t e
own_type d f t (Value-F.Bool b) typed e = typed
own_type d f t (Value-F.Int z) typed e = typed
own_type d f t (Value-F.UInt n) typed e = typed
own_type d f t (Value-F.Bytes bytes) typed e = typed
own_type d f t (Value-F.Text chars) typed e = typed
own_type d f t (Value-F.List vs) typed e = typed
own_type d f t (Value-F.Struct vs) typed e = typed

own_value : (d : Dialect) (f : Field) (t : List ℕ) (w : Value-F Value) → own_text d f w ≡ Some t → value_text d (out-Field f).kind w
    ≡ Some t
own_value d f t Value-F.Null e = null_value d (allows_null f) t e
own_value d f t (Value-F.Bool b) e = e
own_value d f t (Value-F.Int z) e = e
own_value d f t (Value-F.UInt n) e = e
own_value d f t (Value-F.Bytes bytes) e = e
own_value d f t (Value-F.Text chars) e = e
own_value d f t (Value-F.List vs) e = e
own_value d f t (Value-F.Struct vs) e = e

-- a value of its field's type, or null, reads back from its text
cell_back : (d : Dialect) (f : Field) (t : List ℕ) (v : Value) → IsTyped f (out-Value v) → IsStored (out-Value v) → csv_text d f v ≡ Some t
    → ReadsAs d f t v
cell_back d f t v typed stored e = reads_own d f t v (own_type d f t (out-Value v) typed e)
    (stands d (out-Field f).kind t (out-Value v) stored (own_value d f t (out-Value v) e))

module _ (d : Dialect) (f : Field) (fs : List Field) (v : Value) (vs : List Value) (typed : IsTyped f (out-Value v))
    (stored : IsStored (out-Value v)) where
  with_text : (t : List ℕ) (ts : List (List ℕ)) (r : Result (List (List ℕ)) TextFault) → csv_text d f v ≡ Some t
      → ((more : List (List ℕ)) → r ≡ Ok more → EachReadsAs d fs more vs) → in_front t r ≡ Ok ts → EachReadsAs d (f ∷ fs) ts (v ∷ vs)
  with_text t ts (Err fault) is ih e = absurd cc
  with_text t ts (Ok more) is ih e =
      subst (λ l. EachReadsAs d (f ∷ fs) l (v ∷ vs)) (right e) (cell_back d f t v typed stored is, ih more refl)

  with_cell : (n : ℕ) (ts : List (List ℕ)) (o : Option (List ℕ)) → csv_text d f v ≡ o
      → ((more : List (List ℕ)) → all_texts (n + 1) (each_text d fs vs) ≡ Ok more → EachReadsAs d fs more vs)
      → all_texts n (o ∷ each_text d fs vs) ≡ Ok ts → EachReadsAs d (f ∷ fs) ts (v ∷ vs)
  with_cell n ts None is ih e = absurd cc
  with_cell n ts (Some t) is ih e = with_text t ts (all_texts (n + 1) (each_text d fs vs)) is ih e

-- the texts that a row has read as it, where its values are of the columns' types or null
pub each_back : (d : Dialect) (n : ℕ) (fs : List Field) (ts : List (List ℕ)) (vs : List Value) → EachTyped fs vs
    → all_texts n (each_text d fs vs) ≡ Ok ts → EachReadsAs d fs ts vs
each_back d n [] [] [] typed e = tt
each_back d n [] (t ∷ ts) [] typed e = absurd (let p = right e in cc)
each_back d n [] ts (v ∷ vs) typed e = absurd typed
each_back d n (f ∷ fs) ts [] typed e = absurd typed
each_back d n (f ∷ fs) ts (v ∷ vs) typed e =
    with_cell d f fs v vs typed.0 typed.1 n ts (csv_text d f v) refl
    (λ more h. each_back d (n + 1) fs more vs typed.2 h) e
