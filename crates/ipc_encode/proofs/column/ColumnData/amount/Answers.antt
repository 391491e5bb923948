use Rattle.std.proofs.Common.{refl, sym, ap, ℕ, List, length, arith}
use Rattle.ipc_model.specs.declared.layout.Layout.TheVariants as l
use Rattle.ipc_encode.proofs.NumberSlots.{data_indices}
use Rattle.ipc_encode.proofs.Sizes.{content_data, fixed_data, no_data, numbers_data}
use Rattle.ipc_encode.proofs.column.ColumnData.amount.Goals as goal

pub returns-in-Null-clause-is : goal.returns-in-Null-clause-is
returns-in-Null-clause-is c = λ known vs h size. rw c.in-Null.is (sym (no_data l.Null vs (λ v. refl)))

pub returns-in-Bits-clause-is : goal.returns-in-Bits-clause-is
returns-in-Bits-clause-is c = λ known vs h size. rw c.in-Bits.is (sym (no_data l.Bits vs (λ v. refl)))

pub returns-in-FixedLists-clause-is : goal.returns-in-FixedLists-clause-is
returns-in-FixedLists-clause-is c = λ known vs h size.
    rw c.in-FixedLists.is (sym (no_data (l.FixedLists c.in-FixedLists.field-0) vs (λ v. refl)))

pub returns-in-Structs-clause-is : goal.returns-in-Structs-clause-is
returns-in-Structs-clause-is c = λ known vs h size. rw c.in-Structs.is (sym (no_data l.Structs vs (λ v. refl)))

pub returns-in-Numbers-clause-is : goal.returns-in-Numbers-clause-is
returns-in-Numbers-clause-is c = λ known vs h size.
    let same = rw c.in-Numbers.is at h in
    rw c.in-Numbers.is (omega (
      arith,
      ap (λ (bs : List ℕ). length bs) same,
      numbers_data c.in-Numbers.bits c.in-Numbers.signed vs,
      c.len.ensures,
      c.in-Numbers.values.ok,
    ))

pub returns-in-FixedBytes-clause-is : goal.returns-in-FixedBytes-clause-is
returns-in-FixedBytes-clause-is c = λ known vs h size.
    let same = rw c.in-FixedBytes.is at h in
    rw c.in-FixedBytes.is (omega (
      arith,
      ap (λ (bs : List ℕ). length bs) same,
      fixed_data c.in-FixedBytes.width vs,
      c.len-in-FixedBytes.ensures,
      c.in-FixedBytes.values.ok,
    ))

pub returns-in-VariableBytes-clause-is : goal.returns-in-VariableBytes-clause-is
returns-in-VariableBytes-clause-is c = λ known vs h size.
    let same = rw c.in-VariableBytes.is at h in
    rw c.in-VariableBytes.is (omega (
      arith,
      ap (λ (bs : List ℕ). length bs) same.bytes_are,
      content_data c.in-VariableBytes.utf8 vs,
      c.len-in-VariableBytes.ensures,
      c.in-VariableBytes.values.ok,
    ))

pub returns-in-Indices-clause-is : goal.returns-in-Indices-clause-is
returns-in-Indices-clause-is c = λ known vs h size.
    let held = c.in-Indices.held in
    rw (c.in-Indices.is, c.bytes.ensures, ← size) (sym (data_indices held.bits held.signed held.id vs))
