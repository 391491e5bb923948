-- The remaining budget of a schema while it is read: fields, bytes of text and pairs (Schema.fbs,
-- tables Field and KeyValue). A table to which several offsets point is counted once for each, so
-- shared tables cannot pass the limits.
use Rattle.std.specs.Prelude.{ℕ, ◌-◌, nat_le, Result, Ok, Err, if◌then◌else◌}
use Rattle.ipc_model.specs.declared.fault.Fault.{Fault}
use Rattle.ipc_model.specs.declared.fault.Fault.TheVariants.{TooManyFields, TooMuchText}
use Rattle.ipc_meta.specs.declared.budget.Budget.{Budget}

-- the budget after n fields, or the fault TooManyFields
abbrev pub less_fields : ℕ → Budget → Result Budget Fault
less_fields n left = if nat_le n left.fields then Ok
    (record left { fields = left.fields - n }) else Err TooManyFields

-- the budget after n bytes of names, keys, values and timezones, or the fault TooMuchText
abbrev pub less_text : ℕ → Budget → Result Budget Fault
less_text n left = if nat_le n left.text then Ok
    (record left { text = left.text - n }) else Err TooMuchText

-- the budget after n pairs of key and value, or the fault TooMuchText
abbrev pub less_pairs : ℕ → Budget → Result Budget Fault
less_pairs n left = if nat_le n left.pairs then Ok
    (record left { pairs = left.pairs - n }) else Err TooMuchText

-- reading under a budget: a value and the remaining budget, or a fault
abbrev pub Reading : Type 0 → Type 0
Reading X = Budget → Result (X × Budget) Fault
