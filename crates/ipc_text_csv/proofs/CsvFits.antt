-- What a text stands for fits a field where it is one of the field's own.
use Rattle.std.proofs.Common.{◌≡◌, ◌≢◌, ℕ, List, [], ◌∷◌, length, sym, ap, ◌∙◌, subst, Bool, false, Result, Ok, Err}
use Rattle.std.specs.Prelude.{IfOk, IsTrue, ◌↔◌}
use Rattle.std.proofs.lemmas.Bool.Decides.{same_from_decides}
use Rattle.std.proofs.lemmas.Option.{same_Some}
use Rattle.ipc_model.specs.Fits.{Fits, FitsOwnType, IsOfKind, InnerFit}
use Rattle.ipc_model.specs.declared.schema.DataType.{DataType}
use Rattle.ipc_model.specs.declared.schema.DataType.TheVariants as t
use Rattle.ipc_model.specs.declared.schema.Field.{Field, out-Field}
use Rattle.ipc_model.specs.declared.value.Value.{Value, out-Value, roll-Value, roll-out-Value}
use Rattle.ipc_model.specs.declared.value.Value.TheOpen.{Value-F}
use Rattle.ipc_model.proofs.FitsLemmas.{fits_parts, null_both}
use Rattle.ipc_text_csv.specs.CsvRows.{StandsFor, ReadsAs}
use Rattle.ipc_text_csv.specs.declared.dialect.Dialect.{Dialect}
use Rattle.ipc_text_csv.specs.RowCsv.{allows_null, null_text, is_nested}

-- what a text stands for has no values inside it
inner_fits : (d : Dialect) (kind : DataType) (fs : List Field) (text : List ℕ) (w : Value-F Value) → StandsFor d kind text w
    → InnerFit Fits kind fs w
inner_fits d t.List (f ∷ fs) text (Value-F.List vs) s = absurd cc
inner_fits d (t.FixedSizeList size) (f ∷ fs) text (Value-F.List vs) s = absurd cc
inner_fits d t.Struct fs text (Value-F.Struct vs) s = absurd cc
inner_fits d _ [] text w s = tt
inner_fits d _ (f ∷ fs) text w s = tt

-- a text reads as a field's own value that it stands for
pub reads_own : (d : Dialect) (f : Field) (text : List ℕ) (v : Value)
    → FitsOwnType (out-Field f).kind (out-Field f).nullable (length (out-Field f).children) (out-Value v)
    → StandsFor d (out-Field f).kind text (out-Value v) → ReadsAs d f text v
reads_own d f text v own s =
    (subst (λ T. T) (sym (fits_parts f v)) (own, inner_fits d (out-Field f).kind (out-Field f).children text (out-Value v) s), s)

-- where both were told of what was read, it reads as it
pub read_both : {E : Type 0} → (d : Dialect) (f : Field) (text : List ℕ) (v : Value) (r : Result Bool E)
    → IfOk r (λ read. IsTrue read → FitsOwnType (out-Field f).kind (out-Field f).nullable (length (out-Field f).children) (out-Value v))
    → IfOk r (λ read. IsTrue read → StandsFor d (out-Field f).kind text (out-Value v))
    → IfOk r (λ read. IsTrue read → ReadsAs d f text v)
read_both d f text v (Ok read) own stands = λ h. reads_own d f text v (own h) (stands h)
read_both d f text v (Err fault) own stands = tt

of_kind : (d : Dialect) (kind : DataType) (nullable : Bool) (n : ℕ) (text : List ℕ) (w : Value-F Value) → text ≢ null_text d
    → FitsOwnType kind nullable n w
    → StandsFor d kind text w → IsOfKind kind n w
of_kind d kind nullable n text Value-F.Null other own s = absurd (other (sym (same_Some _ _ s)))
of_kind d kind nullable n text (Value-F.Bool b) other own s = own
of_kind d kind nullable n text (Value-F.Int z) other own s = own
of_kind d kind nullable n text (Value-F.UInt m) other own s = own
of_kind d kind nullable n text (Value-F.Bytes bytes) other own s = own
of_kind d kind nullable n text (Value-F.Text chars) other own s = own
of_kind d kind nullable n text (Value-F.List vs) other own s = own
of_kind d kind nullable n text (Value-F.Struct vs) other own s = own

-- what fits a field is one of its own
pub own_of_fits : (f : Field) (v : Value) → Fits f v
    → FitsOwnType (out-Field f).kind (out-Field f).nullable (length (out-Field f).children) (out-Value v)
own_of_fits f v h = (subst (λ T. T) (fits_parts f v) h).0

-- two values are one where they have the same parts
pub out_same : (v w : Value) → out-Value v ≡ out-Value w → v ≡ w
out_same v w e = sym (roll-out-Value v) ∙ ap roll-Value e ∙ roll-out-Value w

-- a text that isn't that of null reads as no null
pub read_any : {E : Type 0} → (d : Dialect) (f : Field) (text : List ℕ) (new : Value) (r : Result Bool E) → text ≢ null_text d
    → IfOk r (λ read. (v : Value) → IsOfKind (out-Field f).kind (length (out-Field f).children) (out-Value v)
    → StandsFor d (out-Field f).kind text (out-Value v) → IsTrue read × (new ≡ v))
    → IfOk r (λ read. is_nested (out-Field f).kind ≡ false → (v : Value) → ReadsAs d f text v → IsTrue read × (new ≡ v))
read_any d f text new (Ok read) other all = λ flat v h.
    let own = own_of_fits f v h.0 in
    all v (of_kind d (out-Field f).kind (out-Field f).nullable (length (out-Field f).children) text (out-Value v) other own h.1) h.1
read_any d f text new (Err fault) other all = tt

-- a test of whether null fits a field is that of the field's texts
pub null_allowed : (f : Field) (r : Bool)
    → (IsTrue r ↔ FitsOwnType (out-Field f).kind (out-Field f).nullable (length (out-Field f).children) Value-F.Null) → r ≡ allows_null f
null_allowed f r fits =
    let both = null_both (out-Field f).nullable (out-Field f).kind in
    same_from_decides _ (allows_null f) (fits.0, fits.1) (both.0, both.1)
