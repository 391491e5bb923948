-- The tests of one entry, in their order, and the first that fails.
use Rattle.std.proofs.Common.{◌≡◌, refl, sym, subst, ℕ, ◌+◌, ◌≤◌, Bool, true, false, not}
use Rattle.std.proofs.Common.{Option, Some, None, arith}
use Rattle.std.specs.Prelude.{nat_le, if◌then◌else◌}
use Rattle.std.proofs.lemmas.Bool.{false≢true}
use Rattle.ipc_model.specs.FirstFault.{rank, entry_number}
use Rattle.ipc_model.specs.SchemaFaults.{Before, after, fault_at, has_good_type, has_fitting_children, has_leaf_dictionary}
use Rattle.ipc_model.specs.SchemaFaults.{is_little_text, has_conflict}
use Rattle.ipc_model.specs.Entries.{Entry}
use Rattle.ipc_model.specs.declared.check.SchemaFault.{SchemaFault}
use Rattle.ipc_model.specs.declared.check.SchemaFault.TheVariants as f
use Rattle.ipc_model.specs.declared.limits.Limits.{Limits}

-- ---- the tests of one entry, in their order

-- the test of the rule that a fault is of
abbrev pub pick : Bool → Bool → Bool → Bool → Bool → Bool → Bool → SchemaFault → Bool
pick type children fields depth text conflict nested (f.BadType number) = type
pick type children fields depth text conflict nested (f.BadChildren number) = children
pick type children fields depth text conflict nested (f.TooManyFields number) = fields
pick type children fields depth text conflict nested (f.TooDeep number) = depth
pick type children fields depth text conflict nested (f.TooMuchText number) = text
pick type children fields depth text conflict nested (f.DictionaryConflict number) = not conflict
pick type children fields depth text conflict nested (f.NestedDictionary number) = nested
pick type children fields depth text conflict nested f.OutOfMemory = true

abbrev pub chain : Bool → Bool → Bool → Bool → Bool → Bool → Bool → ℕ → Option SchemaFault
chain type children fields depth text conflict nested n =
    if not type then Some (f.BadType n)
    else (if not children then Some (f.BadChildren n)
    else (if not fields then Some (f.TooManyFields n)
    else (if not depth then Some (f.TooDeep n)
    else (if not text then Some (f.TooMuchText n)
    else (if conflict then Some (f.DictionaryConflict n)
    else (if not nested then Some (f.NestedDictionary n)
    else None))))))

-- a fault has the number, its test fails, and none that is returned before it does
pub record IsFirstFault (test : SchemaFault → Bool) (n : ℕ) (x : SchemaFault) : Type 0 where
  pub number : entry_number x ≡ n
  pub fails : test x ≡ false
  pub least : (y : SchemaFault) → test y ≡ false → rank x ≤ rank y

told_as : (test : SchemaFault → Bool) (n : ℕ) (x y : SchemaFault) → ◌≡◌ {A = Option SchemaFault} (Some x) (Some y) → IsFirstFault test n x
    → IsFirstFault test n y
told_as test n x y h t = let same : x ≡ y = cc in subst (λ (z : SchemaFault). IsFirstFault test n z) same t

-- true is not false
pub no : {P : Type 0} → true ≡ false → P
no h = absurd (false≢true (sym h))

from_1 : (y : SchemaFault) → 1 ≤ rank y
from_1 (f.BadType m) = omega arith
from_1 (f.BadChildren m) = omega arith
from_1 (f.TooManyFields m) = omega arith
from_1 (f.TooDeep m) = omega arith
from_1 (f.TooMuchText m) = omega arith
from_1 (f.DictionaryConflict m) = omega arith
from_1 (f.NestedDictionary m) = omega arith
from_1 f.OutOfMemory = omega arith

from_2 : (c d e g h i : Bool) (y : SchemaFault) → pick true c d e g h i y ≡ false → 2 ≤ rank y
from_2 c d e g h i (f.BadType m) p = no p
from_2 c d e g h i (f.BadChildren m) p = omega arith
from_2 c d e g h i (f.TooManyFields m) p = omega arith
from_2 c d e g h i (f.TooDeep m) p = omega arith
from_2 c d e g h i (f.TooMuchText m) p = omega arith
from_2 c d e g h i (f.DictionaryConflict m) p = omega arith
from_2 c d e g h i (f.NestedDictionary m) p = omega arith
from_2 c d e g h i f.OutOfMemory p = omega arith

from_3 : (d e g h i : Bool) (y : SchemaFault) → pick true true d e g h i y ≡ false → 3 ≤ rank y
from_3 d e g h i (f.BadType m) p = no p
from_3 d e g h i (f.BadChildren m) p = no p
from_3 d e g h i (f.TooManyFields m) p = omega arith
from_3 d e g h i (f.TooDeep m) p = omega arith
from_3 d e g h i (f.TooMuchText m) p = omega arith
from_3 d e g h i (f.DictionaryConflict m) p = omega arith
from_3 d e g h i (f.NestedDictionary m) p = omega arith
from_3 d e g h i f.OutOfMemory p = omega arith

from_4 : (e g h i : Bool) (y : SchemaFault) → pick true true true e g h i y ≡ false → 4 ≤ rank y
from_4 e g h i (f.BadType m) p = no p
from_4 e g h i (f.BadChildren m) p = no p
from_4 e g h i (f.TooManyFields m) p = no p
from_4 e g h i (f.TooDeep m) p = omega arith
from_4 e g h i (f.TooMuchText m) p = omega arith
from_4 e g h i (f.DictionaryConflict m) p = omega arith
from_4 e g h i (f.NestedDictionary m) p = omega arith
from_4 e g h i f.OutOfMemory p = omega arith

from_5 : (g h i : Bool) (y : SchemaFault) → pick true true true true g h i y ≡ false → 5 ≤ rank y
from_5 g h i (f.TooMuchText m) p = omega arith
from_5 g h i (f.DictionaryConflict m) p = omega arith
from_5 g h i (f.NestedDictionary m) p = omega arith
from_5 g h i f.OutOfMemory p = omega arith
from_5 g h i _ p = no p

from_6 : (h i : Bool) (y : SchemaFault) → pick true true true true true h i y ≡ false → 6 ≤ rank y
from_6 h i (f.DictionaryConflict m) p = omega arith
from_6 h i (f.NestedDictionary m) p = omega arith
from_6 h i f.OutOfMemory p = omega arith
from_6 h i _ p = no p

from_7 : (i : Bool) (y : SchemaFault) → pick true true true true true false i y ≡ false → 7 ≤ rank y
from_7 i (f.NestedDictionary m) p = omega arith
from_7 i f.OutOfMemory p = omega arith
from_7 i _ p = no p

report : (b c d e g h i : Bool) (n : ℕ) (x : SchemaFault) → chain b c d e g h i n ≡ Some x → IsFirstFault (pick b c d e g h i) n x
report false c d e g h i n x q = told_as _ n (f.BadType n) x q (record { number = refl; fails = refl; least = λ y p. from_1 y })
report true false d e g h i n x q = told_as _ n (f.BadChildren n) x q
    (record { number = refl; fails = refl; least = λ y p. from_2 false d e g h i y p })
report true true false e g h i n x q = told_as _ n (f.TooManyFields n) x q
    (record { number = refl; fails = refl; least = λ y p. from_3 false e g h i y p })
report true true true false g h i n x q =
    told_as _ n (f.TooDeep n) x q (record { number = refl; fails = refl; least = λ y p. from_4 false g h i y p })
report true true true true false h i n x q =
    told_as _ n (f.TooMuchText n) x q (record { number = refl; fails = refl; least = λ y p. from_5 false h i y p })
report true true true true true true i n x q =
    told_as _ n (f.DictionaryConflict n) x q (record { number = refl; fails = refl; least = λ y p. from_6 true i y p })
report true true true true true false false n x q =
    told_as _ n (f.NestedDictionary n) x q (record { number = refl; fails = refl; least = λ y p. from_7 false y p })
report true true true true true false true n x q = cc

none_fails : (b c d e g h i : Bool) (n : ℕ) → chain b c d e g h i n ≡ None → (y : SchemaFault) → pick b c d e g h i y ≡ true
none_fails false c d e g h i n q y = cc
none_fails true false d e g h i n q y = cc
none_fails true true false e g h i n q y = cc
none_fails true true true false g h i n q y = cc
none_fails true true true true false h i n q y = cc
none_fails true true true true true true i n q y = cc
none_fails true true true true true false false n q y = cc
none_fails true true true true true false true n q (f.BadType m) = refl
none_fails true true true true true false true n q (f.BadChildren m) = refl
none_fails true true true true true false true n q (f.TooManyFields m) = refl
none_fails true true true true true false true n q (f.TooDeep m) = refl
none_fails true true true true true false true n q (f.TooMuchText m) = refl
none_fails true true true true true false true n q (f.DictionaryConflict m) = refl
none_fails true true true true true false true n q (f.NestedDictionary m) = refl
none_fails true true true true true false true n q f.OutOfMemory = refl

-- the same of an entry
abbrev pub test_at : Limits → Before → Entry → SchemaFault → Bool
test_at limits b e = pick (has_good_type e.kind) (has_fitting_children e.kind e.children) (nat_le (b.fields + 1) limits.fields)
    (nat_le e.depth limits.depth) (is_little_text limits (after b e)) (has_conflict b.kinds e.dictionary e.kind) (has_leaf_dictionary e)

-- the fault told at an entry has the entry's number, counted from 1, and is the first of the faults whose test fails there
pub told_at : (limits : Limits) (b : Before) (e : Entry) (x : SchemaFault) → fault_at limits b e ≡ Some x
    → IsFirstFault (test_at limits b e) (b.fields + 1) x
told_at limits b e x h = report (has_good_type e.kind) (has_fitting_children e.kind e.children) (nat_le (b.fields + 1) limits.fields)
    (nat_le e.depth limits.depth) (is_little_text limits (after b e)) (has_conflict b.kinds e.dictionary e.kind) (has_leaf_dictionary e)
    (b.fields + 1) x h

-- where no fault is told at an entry, it passes the test of every fault
pub clear_at : (limits : Limits) (b : Before) (e : Entry) → fault_at limits b e ≡ None → (y : SchemaFault) → test_at limits b e y ≡ true
clear_at limits b e h = none_fails (has_good_type e.kind) (has_fitting_children e.kind e.children) (nat_le (b.fields + 1) limits.fields)
    (nat_le e.depth limits.depth) (is_little_text limits (after b e)) (has_conflict b.kinds e.dictionary e.kind) (has_leaf_dictionary e)
    (b.fields + 1) h
