-- The line for a message, by the number of its fault.
use Rattle.std.proofs.Common.{◌≡◌, ◌∙◌, ap, inl, inr, ℕ, ◌≤◌, List, ◌++◌, codes, drop, length, subst, arith}
use Rattle.ipc_model.specs.Numbering.{fault_number}
use Rattle.ipc_model.specs.declared.fault.Fault.{Fault}
use Rattle.ipc_model.specs.declared.limits.Limits.{Limits}
use Rattle.ipc_model.specs.declared.schema.Field.{Field}
use Rattle.ipc_meta.specs.declared.head.BatchHead.{BatchHead}
use Rattle.ipc_column.specs.Dictionaries.{Dictionaries}
use Rattle.ipc_column.specs.Shapes.{node_count, shape_of}
use Rattle.job_explain.specs.ColumnLines.{count_line}
use Rattle.job_explain.specs.Explained.{ExplainsBatch, ExplainsFirst}
use Rattle.job_explain.specs.FieldPaths.{NamesField}

-- the line for the field that has the fault explains F13 to F22
pub field_explained : (limits : Limits) (kept metadata : List ℕ) (fault : Fault) (out : List ℕ) → metadata ≡ drop 8 kept
    → 13 ≤ fault_number fault → fault_number fault ≤ 22 → NamesField limits metadata fault out → ExplainsFirst limits kept fault out
field_explained limits kept metadata fault out e low high names = record {
  format = λ one. absurd (omega arith);
  field = λ _ _. subst (λ (m : List ℕ). NamesField limits m fault out) e names;
  other = λ not_one beside. elim beside [ inl below ↦ absurd (omega arith) | inr above ↦ absurd (omega arith) ];
}

-- the line for the numbers of nodes explains F26
pub nodes_counted : (limits : Limits) (fault : Fault) (m : Dictionaries) (fields : List Field) (head : BatchHead)
    (body front out : List ℕ) (has needs : ℕ) → fault_number fault ≡ 26 → has ≡ length head.nodes → needs ≡ node_count (shape_of fields)
    → out ≡ front ++ count_line (codes "nodes") has needs → ExplainsBatch limits fault m fields head body front out
nodes_counted limits fault m fields head body front out has needs number has_all needs_all line = record {
  nodes = λ _. line ∙ ap (λ n. front ++ count_line (codes "nodes") n needs) has_all
      ∙ ap (λ n. front ++ count_line (codes "nodes") (length head.nodes) n) needs_all;
  buffers = λ other. absurd (omega (arith, number, other));
  rows = λ other above. absurd (omega (arith, number, other));
  column = λ low high within. absurd (omega (arith, number, low));
  other = λ beside. elim beside [ inl below ↦ absurd (omega (arith, number, below)) | inr above ↦ absurd (omega (arith, number, above)) ];
}
