-- A field read part by part: where a part is refused, and where all are read.
use Rattle.std.proofs.Common.{◌≡◌, refl, ℕ, zero, suc, ◌-◌, ◌<◌, Bool, List, [], arith}
use Rattle.std.proofs.Math.Nat.{sub-zero}
use Rattle.std.proofs.Math.Dec.{leb-zero}
use Rattle.std.specs.Prelude.{Option, None, Ok}
use Rattle.ipc_flat.specs.Views.{TableView, field, elements_from}
use Rattle.ipc_model.specs.Answers.{Fails}
use Rattle.ipc_model.specs.declared.fault.Fault.{Fault}
use Rattle.ipc_model.specs.declared.schema.DataType.{DataType}
use Rattle.ipc_model.specs.declared.schema.Dictionary.{Dictionary}
use Rattle.ipc_model.specs.declared.schema.Field.{Field}
use Rattle.ipc_meta.specs.declared.budget.Budget.{Budget}
use Rattle.ipc_meta.specs.Budgets.{Reading, less_fields, less_pairs}
use Rattle.ipc_meta.specs.FlatFaults.{map_fault}
use Rattle.ipc_meta.specs.Tables.{flag_at, vector_at, dictionary_at}
use Rattle.ipc_meta.specs.Reading.{text_read, type_read, pairs_read, fields_read, field_read, each}

-- a field whose name is refused is refused with the same fault
pub field_no_name : (d : ℕ) (t : TableView) (left : Budget) (e : Fault) → 0 < d → Fails e (text_read t 0 left)
    → Fails e (field_read d t left)
unfolding field_read
field_no_name zero t left e h a = absurd (omega arith)
field_no_name (suc d) t left e h a = λ ne. rw (a ne) refl

-- a field whose `nullable` is refused, behind its name, is refused with the same fault
pub field_no_flag : (d : ℕ) (t : TableView) (left l : Budget) (name : List ℕ) (e : Fault) → 0 < d → text_read t 0 left ≡ Ok (name, l)
    → Fails e (flag_at t 1) → Fails e (field_read d t left)
unfolding field_read
field_no_flag zero t left l name e h a b = absurd (omega arith)
field_no_flag (suc d) t left l name e h a b = λ ne. rw (a, b ne) refl

-- a field whose type is refused, behind its name and `nullable`, is refused with the same fault
pub field_no_type : (d : ℕ) (t : TableView) (left l : Budget) (name : List ℕ) (n : Bool) (e : Fault) → 0 < d
    → text_read t 0 left ≡ Ok (name, l) → flag_at t 1 ≡ Ok n → Fails e (type_read t l) → Fails e (field_read d t left)
unfolding field_read
field_no_type zero t left l name n e h a b f = absurd (omega arith)
field_no_type (suc d) t left l name n e h a b f = λ ne. rw (a, b, f ne) refl

-- a field whose dictionary is refused, behind its type, is refused with the same fault
pub field_no_dictionary : (d : ℕ) (t : TableView) (left l m : Budget) (name : List ℕ) (n : Bool) (κ : DataType) (e : Fault) → 0 < d
    → text_read t 0 left ≡ Ok (name, l) → flag_at t 1 ≡ Ok n → type_read t l ≡ Ok (κ, m)
    → Fails e (dictionary_at t) → Fails e (field_read d t left)
unfolding field_read
field_no_dictionary zero t left l m name n κ e h a b f g = absurd (omega arith)
field_no_dictionary (suc d) t left l m name n κ e h a b f g = λ ne. rw (a, b, f, g ne) refl

-- a field whose pairs are refused, behind its dictionary, is refused with the same fault
pub field_no_pairs : (d : ℕ) (t : TableView) (left l m : Budget) (name : List ℕ) (n : Bool) (κ : DataType) (o : Option Dictionary)
    (e : Fault) → 0 < d → text_read t 0 left ≡ Ok (name, l) → flag_at t 1 ≡ Ok n
    → type_read t l ≡ Ok (κ, m) → dictionary_at t ≡ Ok o → Fails e (pairs_read t 6 m) → Fails e (field_read d t left)
unfolding field_read
field_no_pairs zero t left l m name n κ o e h a b f g i = absurd (omega arith)
field_no_pairs (suc d) t left l m name n κ o e h a b f g i = λ ne. rw (a, b, f, g, i ne) refl

-- a field whose children are refused, behind its pairs, is refused with the same fault
pub field_no_children : (d : ℕ) (t : TableView) (left l m k : Budget) (name : List ℕ) (n : Bool) (κ : DataType) (o : Option Dictionary)
    (ps : List (List ℕ × List ℕ)) (e : Fault) → 0 < d → text_read t 0 left ≡ Ok (name, l)
    → flag_at t 1 ≡ Ok n → type_read t l ≡ Ok (κ, m) → dictionary_at t ≡ Ok o → pairs_read t 6 m ≡ Ok (ps, k)
    → Fails e (fields_read (field_read (d - 1)) t 5 k) → Fails e (field_read d t left)
unfolding field_read
field_no_children zero t left l m k name n κ o ps e h a b f g i j = absurd (omega arith)
field_no_children (suc d) t left l m k name n κ o ps e h a b f g i j =
    let size : suc d - 1 ≡ d = omega arith in
    λ ne. rw (a, b, f, g, i, rw size at (j ne)) refl

-- nothing is taken of a budget for an empty vector
pub no_pairs : (left : Budget) → less_pairs 0 left ≡ Ok left
no_pairs left = rw (leb-zero left.pairs, sub-zero left.pairs) refl

-- nothing is taken of a budget for no fields
pub no_fields : (left : Budget) → less_fields 0 left ≡ Ok left
no_fields left = rw (leb-zero left.fields, sub-zero left.fields) refl

-- an absent vector has nothing in it
pub pairs_absent : (t : TableView) (k : ℕ) (left : Budget) → map_fault (field t k (elements_from 4)) ≡ Ok None
    → pairs_read t k left ≡ Ok ([], left)
unfolding pairs_read vector_at each
pairs_absent t k left h = rw (h, no_pairs left) refl

-- an absent vector has no fields in it
pub fields_absent : (f : TableView → Reading Field) (t : TableView) (k : ℕ) (left : Budget) → map_fault (field t k (elements_from 4))
    ≡ Ok None
    → fields_read f t k left ≡ Ok ([], left)
unfolding fields_read vector_at each
fields_absent f t k left h = rw (h, no_fields left) refl
