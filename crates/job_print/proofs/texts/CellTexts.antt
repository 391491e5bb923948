-- Cells of a row, text by text.
use Rattle.std.proofs.Common.{◌≡◌, refl, sym, ap, ℕ, suc, ◌+◌, ◌<◌, Bool, true, List, [], ◌∷◌, ◌++◌, map, length, drop}
use Rattle.std.proofs.Common.{append_assoc, Some, drop-cons, get_or, add-one}
use Rattle.std.specs.Prelude.{slice_get}
use Rattle.std.proofs.lemmas.Option.{get_or_from_slice_get}
use Rattle.json.specs.Print.{quoted, token_text}
use Rattle.serde_json.specs.Data.{Data}
use Rattle.serde_json.specs.Written.{compact_text, items_text, members_text, comma_if}
use Rattle.ipc_model.specs.declared.schema.Field.{Field}
use Rattle.ipc_model.specs.declared.value.Value.{Value}
use Rattle.ipc_text_json.specs.declared.row.RowShape.{RowShape}
use Rattle.ipc_text_json.specs.declared.row.RowShape.TheVariants.{Array, Object}
use Rattle.ipc_text_json.specs.RowJson.{Printed, cell_json, each_json, items_json, members_json, row_field}
use Rattle.ipc_text_json.specs.RowTokens.{closing}
use Rattle.job_print.specs.RowTexts.{name_text}
use Rattle.job_print.proofs.Shown.{got_inside}

-- the text of values beside their fields, after the opening bracket
abbrev pub text_behind : RowShape → Bool → List Printed → List Value → List ℕ
text_behind Array later fs vs = items_text later (each_json fs vs)
text_behind Object later fs vs = members_text later (members_json fs vs)

-- after the last value is the closing bracket
pub no_values : (shape : RowShape) (later : Bool) (fs : List Printed) → text_behind shape later fs [] ≡ token_text (closing shape)
no_values Array later [] = refl
no_values Array later (f ∷ fs) = refl
no_values Object later [] = refl
no_values Object later (f ∷ fs) = refl

-- a value, what precedes it, and the rest
next_text : (shape : RowShape) (later : Bool) (f : Printed) (fs : List Printed) (v : Value) (vs : List Value)
    → text_behind shape later (f ∷ fs) (v ∷ vs)
    ≡ comma_if later ++ (name_text shape f.name ++ (compact_text (f.json v) ++ text_behind shape true fs vs))
next_text Array later f fs v vs = refl
next_text Object later f fs v vs =
    ap (λ (t : List ℕ). comma_if later ++ t)
    (sym (append_assoc (quoted f.name) (58 ∷ []) (compact_text (f.json v) ++ members_text true (members_json fs vs))))

-- where a value was written after what precedes it, the rest leads to the same
value_written : (out name value rest new whole : List ℕ) (later : Bool) → out ++ (comma_if later ++ (name ++ (value ++ rest))) ≡ whole
    → new ≡ out ++ comma_if later ++ name ++ value → new ++ rest ≡ whole
value_written out name value rest new whole later before put = rw put (simp append_assoc before)

each_more : (shape : RowShape) (fs : List Field) (vs : List Value) (i : ℕ) (f : Field) (v : Value) (later : Bool) → i < length fs
    → f ≡ get_or fs i f → i < length vs → v ≡ get_or vs i v → text_behind shape later (map (row_field shape) (drop i fs)) (drop i vs)
    ≡ comma_if later ++ (name_text shape (row_field shape f).name
    ++ (compact_text (cell_json shape f v) ++ text_behind shape true (map (row_field shape) (drop (i + 1) fs)) (drop (i + 1) vs)))
each_more shape fs vs i f v later lt e less g =
    rw (drop-cons fs i f, drop-cons vs i v) (rw (← e, ← g, add-one)
    (next_text shape later (row_field shape f) (map (row_field shape) (drop (suc i) fs)) v (drop (suc i) vs)))

-- where the text of a cell was written after those before it, those after it lead to the same row
pub cell_written : (shape : RowShape) (fs : List Field) (vs : List Value) (i : ℕ) (f : Field) (v : Value) (later : Bool)
    (out new whole : List ℕ) → i < length fs → f ≡ get_or fs i f → slice_get vs i ≡ Some v
    → out ++ text_behind shape later (map (row_field shape) (drop i fs)) (drop i vs) ≡ whole
    → new ≡ out ++ comma_if later ++ name_text shape (row_field shape f).name ++ compact_text (cell_json shape f v)
    → new ++ text_behind shape true (map (row_field shape) (drop (i + 1) fs)) (drop (i + 1) vs) ≡ whole
cell_written shape fs vs i f v later out new whole inside is at before put =
    let step = each_more shape fs vs i f v later inside is (got_inside vs i v at) (sym (get_or_from_slice_get vs i v v at)) in
    value_written out _ _ _ new whole later (rw step at before) put

items_more : (json : Value → Data) (vs : List Value) (i : ℕ) (v : Value) (later : Bool) → i < length vs → v ≡ get_or vs i v
    → items_text later (items_json json (drop i vs))
    ≡ comma_if later ++ (compact_text (json v) ++ items_text true (items_json json (drop (i + 1) vs)))
items_more json vs i v later less g = rw (drop-cons vs i v) (rw (← g, add-one) refl)

-- where the text of a list's value was written after those before it, those after it lead to the same list
pub item_written : (json : Value → Data) (vs : List Value) (i : ℕ) (v : Value) (later : Bool) (out new whole : List ℕ)
    → slice_get vs i ≡ Some v → out ++ items_text later (items_json json (drop i vs)) ≡ whole
    → new ≡ out ++ comma_if later ++ compact_text (json v) → new ++ items_text true (items_json json (drop (i + 1) vs)) ≡ whole
item_written json vs i v later out new whole at before put =
    let more = items_text true (items_json json (drop (i + 1) vs)) in
    let step = items_more json vs i v later (got_inside vs i v at) (sym (get_or_from_slice_get vs i v v at)) in
    rw put (simp append_assoc (rw step at before))
