-- The tokens of values that are written one after another.
use Rattle.std.proofs.Common.{◌≡◌, ◌∙◌, ◌+◌, ◌<◌, ℕ, suc, length, drop, drop-cons, get_or, map, add-one, List, ◌∷◌, ◌++◌}
use Rattle.std.proofs.Common.{refl, sym, ap, append_assoc}
use Rattle.json.specs.Token.{Token}
use Rattle.json.specs.Tree.{json_tokens, items_tokens, members_tokens}
use Rattle.serde_json.specs.Written.{outline, items_outline, members_outline}
use Rattle.serde_json.specs.Data.{Data, array}
use Rattle.ipc_model.specs.declared.schema.Field.{Field, out-Field, fold_out-Field}
use Rattle.ipc_model.specs.declared.value.Value.{Value, out-Value, out-roll-Value}
use Rattle.ipc_model.specs.declared.value.Value.TheOpen.{Value-F}
use Rattle.ipc_model.specs.declared.value.Value.TheVariants as v
use Rattle.ipc_text_json.specs.declared.row.RowShape.{RowShape}
use Rattle.ipc_text_json.specs.declared.row.RowShape.TheVariants.{Array, Object}
use Rattle.ipc_text_json.specs.RowJson.{Printed, value_json, field_json, cell_json, each_json, items_json, list_json, members_json}
use Rattle.ipc_text_json.specs.RowJson.{row_field}
use Rattle.ipc_text_json.specs.RowTokens.{name_tokens}

-- the tokens of values beside their fields, behind the opening bracket
abbrev pub tokens_behind : RowShape → List Printed → List Value → List Token
tokens_behind Array fs vs = items_tokens (items_outline (each_json fs vs))
tokens_behind Object fs vs = members_tokens (members_outline (members_json fs vs))

next_tokens : (shape : RowShape) (f : Printed) (fs : List Printed) (v : Value) (vs : List Value)
    → tokens_behind shape (f ∷ fs) (v ∷ vs)
    ≡ name_tokens shape f.name ++ (json_tokens (outline (f.json v)) ++ tokens_behind shape fs vs)
next_tokens Array f fs v vs = refl
next_tokens Object f fs v vs = refl

-- a field is printed with its own name
pub printed_name : (shape : RowShape) (f : Field) → (row_field shape f).name ≡ (out-Field f).name
printed_name shape f = ap (λ (p : Printed). p.name) (fold_out-Field Printed (field_json shape) f)

-- the tokens of values beside their fields, from a place on: those of a name and its value, and the rest
pub each_from : (shape : RowShape) (fs : List Field) (vs : List Value) (i : ℕ) (f : Field) (v : Value) → i < length fs → i < length vs
    → f ≡ get_or fs i f → v ≡ get_or vs i v
    → tokens_behind shape (map (row_field shape) (drop i fs)) (drop i vs)
    ≡ name_tokens shape (out-Field f).name
    ++ (json_tokens (outline (cell_json shape f v)) ++ tokens_behind shape (map (row_field shape) (drop (i + 1) fs)) (drop (i + 1) vs))
each_from shape fs vs i f v lt less e g =
    rw (drop-cons fs i f, drop-cons vs i v) (rw (← e, ← g, add-one)
    (rw (← printed_name shape f) (next_tokens shape (row_field shape f) (map (row_field shape) (drop (suc i) fs)) v (drop (suc i) vs))))

-- where a name and its value were written, the rest leads to the same
pub value_written : (out named new name value rest all : List Token) → out ++ (name ++ (value ++ rest)) ≡ all
    → named ≡ out ++ name → new ≡ named ++ value → new ++ rest ≡ all
value_written out named new name value rest all before n v = rw (v, n) (simp append_assoc before)

-- the tokens of values that are printed in one way, from a place on: those of its value, and the rest
pub items_from : (json : Value → Data) (vs : List Value) (i : ℕ) (v : Value) → i < length vs → v ≡ get_or vs i v
    → items_tokens (items_outline (items_json json (drop i vs)))
    ≡ json_tokens (outline (json v)) ++ items_tokens (items_outline (items_json json (drop (i + 1) vs)))
items_from json vs i v less g = rw (drop-cons vs i v) (rw (← g, add-one) refl)

out_list : (vs : List Value) → out-Value (v.List vs) ≡ Value-F.List vs
out_list vs = ap out-Value (sym (v.rolls-List vs)) ∙ out-roll-Value (Value-F.List vs)

-- a value of a field that is a list is an array of its values
pub list_cell : (shape : RowShape) (f : Field) (vs : List Value)
    → cell_json shape f (v.List vs) ≡ array (list_json (map (row_field shape) (out-Field f).children) vs)
list_cell shape f vs =
    ap (λ (p : Printed). p.json (v.List vs)) (fold_out-Field Printed (field_json shape) f)
    ∙ ap (λ w. value_json shape (out-Field f).kind (map (row_field shape) (out-Field f).children) w) (out_list vs)
