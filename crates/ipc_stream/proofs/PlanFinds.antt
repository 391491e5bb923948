-- The indices of a plan find their values in what is in force once its dictionaries were sent.
use Rattle.std.proofs.Common.{◌≡◌, ◌∙◌, refl, sym, ap, subst, ℕ, ◌<◌, ◌≤◌, ℤ, List}
use Rattle.std.proofs.Common.{[], length, slice_get, Option, Some, None, IsSome}
use Rattle.std.proofs.Common.{arith, true≢false}
use Rattle.std.specs.List.{Contains}
use Rattle.std.specs.Option.{IfSome, unwrap_or}
use Rattle.std.proofs.lemmas.Option.{slice_get_within}
use Rattle.ipc_model.specs.WellFormed.{WellFormed}
use Rattle.ipc_model.specs.declared.limits.Limits.{Limits}
use Rattle.ipc_model.specs.declared.schema.Dictionary.{Dictionary}
use Rattle.ipc_model.specs.declared.schema.Schema.{Schema}
use Rattle.ipc_model.specs.declared.value.Value.{Value}
use Rattle.ipc_column.specs.Dictionaries.{Dictionaries, values_for}
use Rattle.ipc_encode.specs.Indices.{FindsIndex, FindsRows, IsIndexWithin}
use Rattle.ipc_encode.specs.Numbers.{number_or, new_indices, known_indices}
use Rattle.ipc_dict_read.specs.InForce.{at}
use Rattle.ipc_dict.specs.declared.kept.KeptEntry.{KeptEntry}
use Rattle.ipc_dict.specs.Noting.{place_of_value}
use Rattle.ipc_dict.specs.Pairs.{rows_pairs}
use Rattle.ipc_dict.specs.Planning.{AllSettled, FindsAll, FindsNoted, after_all, index, number, sent_for}
use Rattle.ipc_dict.specs.SchemaIds.{index_capacity, of_fields}
use Rattle.ipc_dict.specs.Sending.{AreCounted, tally_of_rows}
use Rattle.ipc_dict.proofs.pairs.Covered.{covered}
use Rattle.ipc_dict.proofs.pairs.CoveredIndices.{index_within, pair_placed}
use Rattle.ipc_dict.proofs.Plans.{index_renumbered}

module _ (limits : Limits) (s : Schema) (rows : List (List Value)) (kept : List KeptEntry) (os : List (Option (List ℕ)))
    (m : Dictionaries) where
  -- under the plan's number the value of a pair is found
  pair_found : ((id : ℤ) → at m id ≡ sent_for (after_all kept (tally_of_rows s.fields rows) os) id)
      → AreCounted s.fields (after_all kept (tally_of_rows s.fields rows) os) → FindsNoted kept (tally_of_rows s.fields rows) os
      → (d : Dictionary) (v : Value) → Contains (of_fields s.fields) d → Contains (rows_pairs s.fields rows) (d.id, v)
      → FindsIndex m (new_indices (number (tally_of_rows s.fields rows) os) (known_indices (place_of_value (tally_of_rows s.fields rows))))
      d.index.bits
      d.index.signed d.id v
  pair_found values counted finds d v named there =
      by (place_of_value (tally_of_rows s.fields rows) d.id v) refl (pair_placed s.fields (rows_pairs s.fields rows) d v named there)
    where
      by : (o : Option ℕ) → place_of_value (tally_of_rows s.fields rows) d.id v ≡ o → IsSome o
          → FindsIndex m (new_indices (number (tally_of_rows s.fields rows) os)
          (known_indices (place_of_value (tally_of_rows s.fields rows)))) d.index.bits
          d.index.signed
          d.id v
      by None e some = absurd (true≢false (sym some))
      by (Some i) e some =
          let found = finds d.id v i e in
          let j = number_or (number (tally_of_rows s.fields rows) os d.id i) i in
          let index : new_indices (number (tally_of_rows s.fields rows) os) (known_indices (place_of_value (tally_of_rows s.fields rows)))
          d.id v ≡ j =
          ap (λ o. number_or (number (tally_of_rows s.fields rows) os d.id (number_or o 0)) (number_or o 0)) e in
          let here : values_for m d.id ≡ found.0 = ap (λ o. unwrap_or o []) (values d.id ∙ found.1.0) in
          let few : length found.0 ≤ index_capacity d = subst (λ o. IfSome o (λ known. length known ≤ index_capacity d)) found.1.0
          (counted d named) in
          let low : j < index_capacity d = omega (arith, few, slice_get_within found.0 j v found.1.1) in
          record {
            within = subst (λ k. IsIndexWithin d.index.bits d.index.signed k) (sym index) (index_within d j low);
            value_is = ap (λ k. slice_get (values_for m d.id) k) index ∙ ap (λ xs. slice_get xs j) here ∙ found.1.1;
          }

  pub plan_finds : WellFormed limits s → ((id : ℤ) → at m id ≡ sent_for (after_all kept (tally_of_rows s.fields rows) os) id)
      → AreCounted s.fields (after_all kept (tally_of_rows s.fields rows) os) → FindsNoted kept (tally_of_rows s.fields rows) os
      → FindsRows m (new_indices (number (tally_of_rows s.fields rows) os) (known_indices (place_of_value (tally_of_rows s.fields rows))))
      s.fields rows
  plan_finds well values counted finds =
      covered (FindsIndex m (new_indices (number (tally_of_rows s.fields rows) os)
      (known_indices (place_of_value (tally_of_rows s.fields rows))))) limits s.fields rows
      well.each (pair_found values counted finds)

  -- under the plan's index the value of a pair is found
  pair_indexed : ((id : ℤ) → at m id ≡ sent_for (after_all kept (tally_of_rows s.fields rows) os) id)
      → AreCounted s.fields (after_all kept (tally_of_rows s.fields rows) os) → AllSettled kept (tally_of_rows s.fields rows) os
      → FindsAll kept (tally_of_rows s.fields rows) os → (d : Dictionary) (v : Value) → Contains (of_fields s.fields) d
      → Contains (rows_pairs s.fields rows) (d.id, v)
      → FindsIndex m (known_indices (index (tally_of_rows s.fields rows) os)) d.index.bits d.index.signed d.id v
  pair_indexed values counted settled finds d v named there =
      by (place_of_value (tally_of_rows s.fields rows) d.id v) refl (pair_placed s.fields (rows_pairs s.fields rows) d v named there)
    where
      by : (o : Option ℕ) → place_of_value (tally_of_rows s.fields rows) d.id v ≡ o → IsSome o
          → FindsIndex m (known_indices (index (tally_of_rows s.fields rows) os)) d.index.bits d.index.signed d.id v
      by None e some = absurd (true≢false (sym some))
      by (Some i) e some =
          let j = number_or (number (tally_of_rows s.fields rows) os d.id i) i in
          let is = index_renumbered kept (tally_of_rows s.fields rows) os settled d.id v i e in
          let found = finds d.id v j is in
          let index_is : known_indices (index (tally_of_rows s.fields rows) os) d.id v ≡ j = ap (λ o. number_or o 0) is in
          let here : values_for m d.id ≡ found.0 = ap (λ o. unwrap_or o []) (values d.id ∙ found.1.0) in
          let few : length found.0 ≤ index_capacity d = subst (λ o. IfSome o (λ known. length known ≤ index_capacity d)) found.1.0
          (counted d named) in
          let low : j < index_capacity d = omega (arith, few, slice_get_within found.0 j v found.1.1) in
          record {
            within = subst (λ k. IsIndexWithin d.index.bits d.index.signed k) (sym index_is) (index_within d j low);
            value_is = ap (λ k. slice_get (values_for m d.id) k) index_is ∙ ap (λ xs. slice_get xs j) here ∙ found.1.1;
          }

  pub plan_finds_indices : WellFormed limits s → ((id : ℤ) → at m id ≡ sent_for (after_all kept (tally_of_rows s.fields rows) os) id)
      → AreCounted s.fields (after_all kept (tally_of_rows s.fields rows) os) → AllSettled kept (tally_of_rows s.fields rows) os
      → FindsAll kept (tally_of_rows s.fields rows) os → FindsRows m (known_indices (index (tally_of_rows s.fields rows) os)) s.fields rows
  plan_finds_indices well values counted settled finds =
      covered (FindsIndex m (known_indices (index (tally_of_rows s.fields rows) os))) limits s.fields rows well.each
      (pair_indexed values counted settled finds)
