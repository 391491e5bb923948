-- Which schemas can be read.
use Rattle.std.proofs.Common.{List, [], ◌∷◌, arith}
use Rattle.std.specs.List.{AllByRecursion}
use Rattle.ipc_model.specs.Entries.{Entry}
use Rattle.ipc_model.specs.Limits.{IsStandard, Covers}
use Rattle.ipc_model.specs.WellFormed.{IsFieldWellFormed}
use Rattle.ipc_model.specs.declared.limits.Limits.{Limits}
use Rattle.ipc_text_json.specs.SchemaTexts.{IsReadable, HasWideId}

-- the fields of a schema that is well formed under the standard limits can be read
pub readable : (limits : Limits) (es : List Entry) → IsStandard limits → AllByRecursion (IsFieldWellFormed limits) es
    → AllByRecursion (λ e. HasWideId e.dictionary) es → AllByRecursion IsReadable es
readable limits [] st w ids = tt
readable limits (e ∷ es) st w ids =
    let s = w.0.shallow in let d = st.depth in ((w.0.good_type, ids.0, omega arith), readable limits es st w.1 ids.1)

-- standard limits are one another's
pub same_standard : (a b : Limits) → IsStandard a → IsStandard b → Covers a b
same_standard a b s t = record {
  metadata = omega (arith, s.metadata, t.metadata);
  body = omega (arith, s.body, t.body);
  slots = omega (arith, s.slots, t.slots);
  fields = omega (arith, s.fields, t.fields);
  depth = omega (arith, s.depth, t.depth);
  text = omega (arith, s.text, t.text);
  pairs = omega (arith, s.pairs, t.pairs);
}
