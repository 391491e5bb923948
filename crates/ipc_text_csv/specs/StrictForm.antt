-- The strict form of CSV (RFC 4180, section 2), in the states in which the crate `csv` reads bytes.
use Rattle.std.specs.Prelude.{◌≡◌, ◌⊎◌, ◌==◌, ◌||◌, ℕ, Bool, true, false, not, List, [], ◌∷◌}
use Rattle.std.specs.Prelude.{length, ⊤, Option, Some, None, Result, Ok, Err}
use Rattle.csv.specs.Machine.{carriage_return, ends_at_end, ends_with, field_after, fields_after}
use Rattle.csv.specs.Machine.{is_end, next_record, step}
use Rattle.csv.specs.declared.parser.Config.{Config}
use Rattle.csv.specs.declared.parser.State.{State}
use Rattle.csv.specs.declared.parser.State.TheVariants as st
use Rattle.ipc_text_temporal.specs.declared.fault.TextFault.{TextFault}
use Rattle.ipc_text_temporal.specs.declared.fault.TextFault.TheVariants.{BadField, OutOfMemory}
use Rattle.ipc_text_temporal.specs.declared.fault.TextFault.TheVariants.{WrongFieldCount}

-- whether no byte like this one may come next: no line is blank (rules 1 and 2), a field has a
-- quote only if it is in quotes (rules 5 and 7), and after the quote that ends a field comes the
-- delimiter or the end of the line
abbrev pub is_outside : Config → State → ℕ → Bool
is_outside cfg st.StartRecord b = ends_with cfg.terminator b
is_outside cfg st.AfterCr b = b == carriage_return
is_outside cfg st.StartField b = false
is_outside cfg st.InField b = b == cfg.quote
is_outside cfg st.InQuoted b = false
is_outside cfg st.AfterQuote b =
    not ((b == cfg.quote) || (b == cfg.delimiter) || ends_with cfg.terminator b)
is_outside cfg st.InEscape b = false
is_outside cfg st.InComment b = false

-- bytes are in strict form from this state on: each may come next, and they end where a line does
unfoldable pub IsStrictFrom : Config → State → List ℕ → Type 0
IsStrictFrom cfg s [] = ends_at_end s ≡ false
IsStrictFrom cfg s (b ∷ bs) =
    (is_outside cfg s b ≡ false) × IsStrictFrom cfg (step cfg s b).0 bs

-- bytes leave the strict form before a record ends, in the field with this number and this state:
-- a byte comes that may not come next, or they end inside the record
unfoldable pub LeavesForm : Config → State → List (List ℕ) → List ℕ → List ℕ → ℕ → State → Type 0
LeavesForm cfg s fields field [] number at =
    (ends_at_end s ≡ true) × (number ≡ length fields) × (at ≡ s)
LeavesForm cfg s fields field (b ∷ bs) number at =
    ((is_outside cfg s b ≡ true) × (number ≡ length fields) × (at ≡ s))
    ⊎ ((is_outside cfg s b ≡ false) × (is_end (step cfg s b).1 ≡ false)
    × LeavesForm cfg (step cfg s b).0 (fields_after (step cfg s b).1 fields field)
    (field_after (step cfg s b).1 b field) bs number at)

-- the fault of the record with this number, whose field with this number leaves the form in this
-- state: a blank line has no field (X5), and else the field is bad (X4)
abbrev pub form_fault : ℕ → ℕ → State → TextFault
form_fault number column st.StartRecord = WrongFieldCount number
form_fault number column st.AfterCr = WrongFieldCount number
form_fault number column at = BadField number column

-- the bytes that are left leave the form in the next record, which has this number
abbrev pub BreaksForm : Config → State → List ℕ → ℕ → TextFault → Type 0
BreaksForm cfg s bytes number fault =
    (column : ℕ) × (at : State) × LeavesForm cfg s [] [] bytes column at
    × (fault ≡ form_fault number column at)

-- what a strict read answers, from this state and the bytes that are left, if they are known: the
-- next record, with the state and the bytes after it, and if these are in strict form, all are;
-- or there is no record; or why there is none
abbrev pub ReadsStrictly : Config → ℕ → State → Option (List ℕ) → State → List (List ℕ)
    → Option (List ℕ) → Result Bool TextFault → Type 0
ReadsStrictly cfg number s None s2 fields after r = ⊤
ReadsStrictly cfg number s (Some bytes) s2 fields None (Ok true) = ⊥
ReadsStrictly cfg number s (Some bytes) s2 fields (Some left) (Ok true) =
    (next_record cfg s [] [] bytes ≡ Some (fields, s2, left))
    × (IsStrictFrom cfg s2 left → IsStrictFrom cfg s bytes)
ReadsStrictly cfg number s (Some bytes) s2 fields after (Ok false) =
    (next_record cfg s [] [] bytes ≡ None) × IsStrictFrom cfg s bytes
ReadsStrictly cfg number s (Some bytes) s2 fields after (Err OutOfMemory) = ⊤
ReadsStrictly cfg number s (Some bytes) s2 fields after (Err fault) =
    BreaksForm cfg s bytes number fault
