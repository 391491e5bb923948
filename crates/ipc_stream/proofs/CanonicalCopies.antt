-- The parts of a batch in memory of the caller.
use Rattle.std.proofs.Common.{◌≡◌, ◌∙◌, refl, sym, ap, subst, ℕ, ◌+◌, ◌*◌, ◌≤◌, ◌<◌, List, ◌++◌, length, arith, inl, inr, false}
use Rattle.std.proofs.Common.{Option, Result, Ok, Err, IfOk, IfErr}
use Rattle.std.specs.Prelude.{ℤ, ◌⊎◌, pos, MatchOption, Some, None}
use Rattle.ipc_model.specs.WellFormed.{WellFormed}
use Rattle.ipc_model.specs.declared.fault.WriteFault.{WriteFault}
use Rattle.ipc_model.specs.declared.limits.Limits.{Limits}
use Rattle.ipc_model.specs.declared.schema.Schema.{Schema}
use Rattle.ipc_model.specs.declared.value.Value.{Value}
use Rattle.ipc_column.specs.Dictionaries.{Dictionaries}
use Rattle.ipc_column.specs.Rows.{Rows}
use Rattle.ipc_encode.specs.Indices.{FindsRows}
use Rattle.ipc_encode.specs.Numbers.{known_indices}
use Rattle.ipc_encode.specs.Segments.{bytes_of_segments}
use Rattle.ipc_encode.specs.declared.segments.Segment.{Segment}
use Rattle.ipc_encode.specs.declared.segments.SegmentedParts.{SegmentedParts}
use Rattle.ipc_dict.specs.declared.kept.KeptEntry.{KeptEntry}
use Rattle.ipc_dict.specs.Noting.{AllFit}
use Rattle.ipc_dict.specs.Planning.{AllSettled, FindsAll, index, sent_for}
use Rattle.ipc_dict.specs.SchemaIds.{ids_of, kept_ids}
use Rattle.ipc_dict.specs.Sending.{AreCounted, tally_of_rows}
use Rattle.ipc_dict.proofs.Sending.{counted_after, sent_is}
use Rattle.ipc_stream.specs.Canonical.{CopiesBatch, CopiesCanonical, CopiesDictionary, CopiesParts, CopiesSent, GiveRows, IsUnsent}
use Rattle.ipc_stream.specs.Canonical.{RefusesDictionary, RefusesRows, Replaces, flat}
use Rattle.ipc_stream.specs.Writer.{Writer}
use Rattle.ipc_stream.specs.declared.canonical.CanonicalSize.{CanonicalSize}
use Rattle.ipc_stream.proofs.PlanFinds.{plan_finds_indices}
use Rattle.ipc_stream.proofs.Replaced.{flat_length, next_part}

-- there is room, and there is not
some_room : {X : Type 0} (a b c d : ℕ) → a ≤ b → c ≤ d → (b < a) ⊎ (d < c) → X
some_room a b c d h k (inl p) = absurd (omega (arith, h, p))
some_room a b c d h k (inr p) = absurd (omega (arith, k, p))

-- there was room, and all is copied
pub parts_copied : (p : SegmentedParts) (nodes buffers : List (ℤ × ℤ)) (bo bn : List ℕ) (was mid now : List ℤ)
    → nodes ≡ p.nodes → buffers ≡ p.buffers → p.len ≡ length (bytes_of_segments p.segments.items) → p.len ≤ length bo
    → (2 * (length nodes + length buffers)) ≤ length was → Replaces 0 (bytes_of_segments p.segments.items) bo bn
    → Replaces 0 (flat nodes) was mid → Replaces (2 * length nodes) (flat buffers) mid now
    → CopiesParts p bo bn was now (record { bytes = p.len; nodes = length nodes; buffers = length buffers })
parts_copied p nodes buffers bo bn was mid now en eb len room rooms body first second =
    let both : Replaces 0 (flat nodes ++ flat buffers) was now = next_part 0 (flat nodes) (flat buffers) was mid now
    (omega (arith, rooms, flat_length nodes)) first
    (subst (λ n. Replaces n (flat buffers) mid now) (omega (arith, flat_length nodes)) second) in
    record {
      bytes_are = len;
      nodes_are = ap length en;
      buffers_are = ap length eb;
      copied = λ h k. (
        body,
        subst (λ xs. Replaces 0 (flat xs ++ flat p.buffers) was now) en (subst (λ xs. Replaces 0 (flat nodes ++ flat xs) was now) eb both),
      );
      no_room = some_room p.len (length bo) (2 * (length nodes + length buffers)) (length was) room rooms;
    }

-- there was none, and nothing is copied
pub parts_kept : (p : SegmentedParts) (nodes buffers : List (ℤ × ℤ)) (bo : List ℕ) (was : List ℤ) → nodes ≡ p.nodes
    → buffers ≡ p.buffers → p.len ≡ length (bytes_of_segments p.segments.items)
    → (length bo < p.len) ⊎ (length was < 2 * (length nodes + length buffers))
    → CopiesParts p bo bo was was (record { bytes = p.len; nodes = length nodes; buffers = length buffers })
parts_kept p nodes buffers bo was en eb len short = record {
  bytes_are = len;
  nodes_are = ap length en;
  buffers_are = ap length eb;
  copied = λ h k. some_room p.len (length bo) (2 * (length nodes + length buffers)) (length was) h k short;
  no_room = λ _. (refl, refl);
}

-- parts under the indices of a plan give the rows back once its dictionaries are sent
pub rows_given : (limits : Limits) (s : Schema) (rows : List (List Value)) (kept : List KeptEntry) (os : List (Option (List ℕ)))
    (parts : SegmentedParts) → WellFormed limits s → kept_ids kept ≡ ids_of s.fields → AreCounted s.fields kept
    → AllFit (tally_of_rows s.fields rows) → AllSettled kept (tally_of_rows s.fields rows) os
    → FindsAll kept (tally_of_rows s.fields rows) os
    → ((m : Dictionaries) → FindsRows m (known_indices (index (tally_of_rows s.fields rows) os)) s.fields rows
    → Rows limits m s.fields (record {
      length = pos (length rows);
      nodes = parts.nodes;
      buffers = parts.buffers;
    }) (bytes_of_segments parts.segments.items) rows) → GiveRows limits s kept rows parts
rows_given limits s rows kept os parts well ids counted fit settled finds read m values =
    let after = sent_is s.fields rows kept os ids settled in
    read m (plan_finds_indices limits s rows kept os m well (λ id. values id ∙ ap (λ k. sent_for k id) (sym after))
    (subst (AreCounted s.fields) (sym after) (counted_after s.fields rows kept fit counted)) settled finds)

-- the call of a writer that has not failed
pub copied_by : (writer : Writer) (rows : List (List Value)) (bo bn : List ℕ) (was now : List ℤ) (r : Result CanonicalSize WriteFault)
    → writer.failed ≡ false → IfOk r (CopiesCanonical writer.limits writer.schema writer.kept rows bo bn was now)
    → IfErr r (λ _. (bn ≡ bo) × (now ≡ was)) → IfErr r (RefusesRows writer.limits writer.schema rows)
    → CopiesBatch writer rows bo bn was now r
copied_by writer rows bo bn was now (Ok size) works copied kept refused = (works, copied)
copied_by writer rows bo bn was now (Err fault) works copied kept refused = (inr (works, refused), kept.0, kept.1)

-- so too the call that copies a dictionary
pub sent_by : (writer : Writer) (id : ℤ) (bo bn : List ℕ) (was now : List ℤ) (r : Result (Option CanonicalSize) WriteFault)
    → writer.failed ≡ false
    → IfOk r (λ found. MatchOption found ((IsUnsent writer.schema writer.kept id) × (bn ≡ bo) × (now ≡ was))
    (CopiesDictionary writer.schema writer.kept id bo bn was now))
    → IfErr r (λ _. (bn ≡ bo) × (now ≡ was)) → IfErr r (RefusesDictionary writer.limits writer.schema writer.kept id)
    → CopiesSent writer id bo bn was now r
sent_by writer id bo bn was now (Ok (Some size)) works copied kept refused = (works, copied)
sent_by writer id bo bn was now (Ok None) works (unsent, same, equal) kept refused = (works, unsent, same, equal)
sent_by writer id bo bn was now (Err fault) works copied kept refused = (inr (works, refused), kept.0, kept.1)
