use Rattle.std.proofs.Common.{◌≡◌, ◌∙◌, sym, ap, ℕ, ◌++◌, [], ◌∷◌, true, replicate, Bool, false}
use Rattle.std.proofs.lemmas.Result.{on_ok_weaker}
use Rattle.std.specs.Prelude.{◌&&◌}
use Rattle.ipc_encode.specs.Bitmaps.{bitmap}
use Rattle.ipc_encode.specs.Cells.{flags, nulls}
use Rattle.ipc_encode.specs.Pieces.{Valid}
use Rattle.ipc_encode.proofs.Bits.{flags_length}
use Rattle.ipc_encode.proofs.Steps.{all_valid, has_bitmap, no_bitmap, some_null, no_nulls, still_none, bits_then, null_more, nulls_stay}
use Rattle.ipc_encode.proofs.Steps.{marked_nulls}
use Rattle.ipc_encode.proofs.column_builder.push_validity.Goals.{then-null_count-eq0+else-is_valid+in_ok-set_bits, else-null_count-eq0}
use Rattle.ipc_encode.proofs.column_builder.push_validity.Goals as goal

valid_set : (has set is : Bool) → has ≡ true → is ≡ (has && set) → set ≡ is
valid_set true set is h valid = sym valid
valid_set false set is h valid = absurd cc

pub returns-then-not-has_validity : goal.returns-then-not-has_validity
returns-then-not-has_validity c = λ layout values value has count none valid same.
    let without = sym has ∙ c.if-not-has_validity.true in
    same ∙ (no_bitmap layout values without ∙ sym (no_bitmap layout (values ++ value ∷ []) without))

pub returns-then-is_valid : goal.returns-then-is_valid
returns-then-is_valid c = λ layout values value has count counted valid same.
    let some = sym has ∙ c.if-not-has_validity.false in
    let none = sym (marked_nulls layout values some) ∙ (counted ∙ c.if-null_count-eq0.true) in
    same ∙ (has_bitmap layout values some ∙ sym (has_bitmap layout (values ++ value ∷ []) some
    ∙ still_none values value none (valid_set _ _ _ c.if-not-has_validity.false valid ∙ c.if-is_valid.true)))

pub returns : goal.returns
returns c = λ layout values value has count counted valid kept.
    let some_bitmap = sym has ∙ c.if-not-has_validity.false in
    let none = sym (marked_nulls layout values some_bitmap) ∙ counted in
    let same = kept ∙ has_bitmap layout values some_bitmap in
    let is = valid_set _ _ _ c.if-not-has_validity.false valid in
    on_ok_weaker c.push_bit.result (λ h. h ∙ sym (has_bitmap layout (values ++ value ∷ []) some_bitmap))
    (elim c.if-null_count-eq0.branch [
      | then-null_count-eq0+else-is_valid+in_ok-set_bits w ↦
          let none_yet = none ∙ w.if-null_count-eq0.true in
          let set = w.in_ok-set_bits.ensures (same ∙ no_nulls values none_yet) in
          let packed : c.if-null_count-eq0.validity.items ≡ bitmap (flags Valid values) =
          rw w.validity-is (set ∙ (ap (λ (n : ℕ). bitmap (replicate n true)) (sym count) ∙ ap bitmap (sym (all_valid values none_yet)))) in
          on_ok_weaker c.push_bit.result
          (bits_then values value c.push_bit.new.bytes.items c.args.is_valid (sym is)
          (null_more values value (is ∙ w.if-is_valid.false)))
          (c.push_bit.ensures (flags Valid values) (flags_length Valid values ∙ count) packed)
      | else-null_count-eq0 w ↦
          let some : nulls values ≡ 0 → ⊥ = λ e. w.if-null_count-eq0.false (sym none ∙ e) in
          let packed : c.if-null_count-eq0.validity.items ≡ bitmap (flags Valid values) = rw w.validity-is (same ∙ some_null values some) in
          on_ok_weaker c.push_bit.result
          (bits_then values value c.push_bit.new.bytes.items c.args.is_valid (sym is)
          (nulls_stay values value some))
          (c.push_bit.ensures (flags Valid values) (flags_length Valid values ∙ count) packed)
    ])
