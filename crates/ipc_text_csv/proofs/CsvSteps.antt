-- One field of a record more.
use Rattle.std.proofs.Common.{◌≡◌, ◌≢◌, ◌∙◌, ◌<◌, ◌+◌, ℕ, zero, suc, List, [], ◌∷◌, ◌++◌, length, take, set, drop, drop-cons, get_or}
use Rattle.std.proofs.Common.{Some, None, Option, Bool, true, false, ◌||◌, if◌then◌else◌}
use Rattle.std.specs.List.{list_any}
use Rattle.std.proofs.Common.{refl, sym, ap, subst, inl, inr, append_assoc, add-one, arith}
use Rattle.std.proofs.lemmas.List.{append-nil, length-set, take-set, take_more_set}
use Rattle.csv.specs.Records.{field_at}
use Rattle.ipc_model.specs.declared.schema.Field.{Field, out-Field}
use Rattle.ipc_model.specs.declared.value.Value.{Value}
use Rattle.ipc_text_csv.specs.CsvRows.{ReadsAs, EachReadsAs, IsFirstBadColumn, IsFirstUnlike, IsBadField}
use Rattle.ipc_text_csv.specs.RowCsv.{names, is_nested, flat_fault}
use Rattle.ipc_text_csv.specs.declared.dialect.Dialect.{Dialect}
use Rattle.ipc_text_temporal.specs.declared.fault.TextFault.{TextFault}
use Rattle.ipc_text_temporal.specs.declared.fault.TextFault.TheVariants.{OutOfMemory, NotFlat}
use Rattle.std.proofs.lemmas.Option.{same_Some}

-- the fields from a place on
pub fields_from : (fs : List Field) (i : ℕ) (f : Field) → i < length fs → f ≡ get_or fs i f → drop i fs ≡ f ∷ drop (i + 1) fs
fields_from fs i f h e = rw (drop-cons fs i f) (rw (← e, add-one) refl)

next_text : (ts : List (List ℕ)) (i : ℕ) (t : List ℕ) → field_at ts i ≡ Some t → drop i ts ≡ t ∷ drop (suc i) ts
unfolding field_at
next_text [] i t e = absurd cc
next_text (x ∷ xs) zero t e = ap (λ y. y ∷ xs) (same_Some _ _ e)
next_text (x ∷ xs) (suc i) t e = next_text xs i t e

-- the texts from a place on
pub texts_from : (ts : List (List ℕ)) (i : ℕ) (t : List ℕ) → field_at ts i ≡ Some t → drop i ts ≡ t ∷ drop (i + 1) ts
texts_from ts i t e = rw add-one (next_text ts i t e)

-- a place within a list has an element
pub some_text : (ts : List (List ℕ)) (i : ℕ) → i < length ts → field_at ts i ≡ None → ⊥
unfolding field_at
some_text [] i h e = omega arith
some_text (x ∷ xs) zero h e = cc
some_text (x ∷ xs) (suc i) h e = some_text xs i (omega arith) e

module _ (d : Dialect) {fs_here fs_next : List Field} {ts_here ts_next : List (List ℕ)} {f : Field} {t : List ℕ} (p : fs_here ≡ f ∷ fs_next)
    (q : ts_here ≡ t ∷ ts_next) where
  -- with one value more what is read is the whole
  pub read_more : (fs : List Field) (ts : List (List ℕ)) (front more : List Value) (v : Value) → ReadsAs d f t v → more ≡ front ++ v ∷ []
      → ((rest : List Value) → EachReadsAs d fs_here ts_here rest → EachReadsAs d fs ts (front ++ rest))
      → (rest : List Value) → EachReadsAs d fs_next ts_next rest → EachReadsAs d fs ts (more ++ rest)
  read_more fs ts front more v r e inv rest h =
      subst (EachReadsAs d fs ts) (sym (ap (λ l. l ++ rest) e ∙ append_assoc front (v ∷ []) rest)) (inv (v ∷ rest) (rw (p, q) (r, h)))

  step_all : (front more row : List Value) (v : Value) → ((w : Value) → ReadsAs d f t w → v ≡ w) → more ≡ front ++ v ∷ []
      → (rest : List Value) → row ≡ front ++ rest → EachReadsAs d (f ∷ fs_next) (t ∷ ts_next) rest
      → (x : List Value) × (row ≡ more ++ x) × EachReadsAs d fs_next ts_next x
  step_all front more row v one e [] is h = absurd h
  step_all front more row v one e (w ∷ ws) is h =
      (ws, is ∙ ap (λ y. front ++ y ∷ ws) (sym (one w h.0)) ∙ sym (ap (λ l. l ++ ws) e ∙ append_assoc front (v ∷ []) ws), h.1)

  -- any row that the texts read as has this value too
  pub all_more : (fs : List Field) (ts : List (List ℕ)) (front more : List Value) (v : Value)
      → ((w : Value) → ReadsAs d f t w → v ≡ w) → more ≡ front ++ v ∷ []
      → ((row : List Value) → EachReadsAs d fs ts row → (x : List Value) × (row ≡ front ++ x) × EachReadsAs d fs_here ts_here x)
      → (row : List Value) → EachReadsAs d fs ts row → (x : List Value) × (row ≡ more ++ x) × EachReadsAs d fs_next ts_next x
  all_more fs ts front more v one e inv row h =
      let a = inv row h in step_all front more row v one e a.0 a.1 (rw (p, q) at a.2)

  -- the first bad column stands here
  pub bad_here : (i : ℕ) → ((v : Value) → ¬ ReadsAs d f t v) → IsFirstBadColumn d i fs_here ts_here i
  bad_here i none = rw (p, q) (inl (refl, none))

  -- the first bad column stands behind
  pub bad_behind : (i column : ℕ) (v : Value) → ReadsAs d f t v → IsFirstBadColumn d (i + 1) fs_next ts_next column
      → IsFirstBadColumn d i fs_here ts_here column
  bad_behind i column v r h = rw (p, q) (inr ((v, r), h))

module _ {fs_here fs_next : List Field} {ts_here ts_next : List (List ℕ)} {f : Field} {t : List ℕ} (p : fs_here ≡ f ∷ fs_next)
    (q : ts_here ≡ t ∷ ts_next) where
  -- the first column of another name stands here
  pub unlike_here : (i : ℕ) → t ≢ (out-Field f).name → IsFirstUnlike i fs_here ts_here i
  unlike_here i other = rw (p, q) (inl (refl, other))

  -- the first column of another name stands behind
  pub unlike_behind : (i column : ℕ) → t ≡ (out-Field f).name → IsFirstUnlike (i + 1) fs_next ts_next column
      → IsFirstUnlike i fs_here ts_here column
  unlike_behind i column e h = rw (p, q) (inr (e, h))

  -- with one name more the header is the whole
  pub named_more : (fs : List Field) (ts : List (List ℕ)) → t ≡ (out-Field f).name → (ts_here ≡ names fs_here → ts ≡ names fs)
      → ts_next ≡ names fs_next → ts ≡ names fs
  named_more fs ts e inv h = inv (rw (p, q) (ap (λ y. y ∷ ts_next) e ∙ ap (λ l. (out-Field f).name ∷ l) h))

-- a column for which CSV has a place, in front of others
pub flat_front : (fs here next : List Field) (f : Field) → here ≡ f ∷ next → is_nested (out-Field f).kind ≡ false
    → (list_any (λ g. is_nested (out-Field g).kind) here ≡ false → list_any (λ g. is_nested (out-Field g).kind) fs ≡ false)
    → list_any (λ g. is_nested (out-Field g).kind) next ≡ false → list_any (λ g. is_nested (out-Field g).kind) fs ≡ false
flat_front fs here next f p one inv rest = inv (rw (p, one) rest)

either : (a b : Bool) → (a || b) ≡ false → (a ≡ false) × (b ≡ false)
either false b e = (refl, e)
either true b e = absurd cc

pub flat_behind : (here next : List Field) (f : Field) → here ≡ f ∷ next → list_any (λ g. is_nested (out-Field g).kind) here ≡ false
    → (is_nested (out-Field f).kind ≡ false) × (list_any (λ g. is_nested (out-Field g).kind) next ≡ false)
flat_behind here next f p e = either (is_nested (out-Field f).kind) (list_any (λ g. is_nested (out-Field g).kind) next) (rw p at e)

fault_none : (nested : Bool) (o : Option TextFault) → (if nested then Some NotFlat else o) ≡ None → nested ≡ false
fault_none false o e = refl
fault_none true o e = absurd cc

-- columns that CSV has a place for are none of lists or structs
pub flat_columns : (fs : List Field) → flat_fault fs ≡ None → list_any (λ g. is_nested (out-Field g).kind) fs ≡ false
flat_columns fs e = fault_none (list_any (λ g. is_nested (out-Field g).kind) fs) _ e

-- and they are one or more
pub some_columns : (fs : List Field) → flat_fault fs ≡ None → length fs ≡ 0 → ⊥
some_columns [] e none = absurd cc
some_columns (f ∷ fs) e none = omega (arith, none)

-- where nothing is left to read, all is read
pub read_all : (d : Dialect) (fs fs_here : List Field) (ts ts_here : List (List ℕ)) (front : List Value) → fs_here ≡ [] → ts_here ≡ []
    → ((rest : List Value) → EachReadsAs d fs_here ts_here rest → EachReadsAs d fs ts (front ++ rest)) → EachReadsAs d fs ts front
read_all d fs fs_here ts ts_here front p q inv = subst (EachReadsAs d fs ts) (append-nil front) (inv [] (rw (p, q) tt))

empty_rest : (d : Dialect) (rest : List Value) → EachReadsAs d [] [] rest → rest ≡ []
empty_rest d [] h = refl
empty_rest d (v ∷ vs) h = absurd h

-- then any row that the texts read as is what was read
pub all_read : (d : Dialect) (fs fs_here : List Field) (ts ts_here : List (List ℕ)) (front : List Value) → fs_here ≡ [] → ts_here ≡ []
    → ((row : List Value) → EachReadsAs d fs ts row → (x : List Value) × (row ≡ front ++ x) × EachReadsAs d fs_here ts_here x)
    → (row : List Value) → EachReadsAs d fs ts row → front ≡ row
all_read d fs fs_here ts ts_here front p q inv row h =
    let a = inv row h in
    let e = empty_rest d a.0 (rw (p, q) at a.2) in
    sym (a.1 ∙ ap (λ x. front ++ x) e ∙ append-nil front)

-- where the texts read as a row, there are as many as columns
pub as_many : (d : Dialect) (fs : List Field) (ts : List (List ℕ)) (vs : List Value) → EachReadsAs d fs ts vs → length ts ≡ length fs
as_many d [] [] [] h = refl
as_many d (f ∷ fs) (t ∷ ts) (v ∷ vs) h = ap suc (as_many d fs ts vs h.1)
as_many d _ _ _ h = absurd h

-- and no column is bad
none_bad : (d : Dialect) (i : ℕ) (fs : List Field) (ts : List (List ℕ)) (vs : List Value) (column : ℕ) → EachReadsAs d fs ts vs
    → IsFirstBadColumn d i fs ts
    column → ⊥
none_bad d i (f ∷ fs) (t ∷ ts) (v ∷ vs) column h (inl bad) = bad.1 v h.0
none_bad d i (f ∷ fs) (t ∷ ts) (v ∷ vs) column h (inr later) = none_bad d (i + 1) fs ts vs column h.1 later.1
none_bad d i (f ∷ fs) (t ∷ ts) [] column h b = absurd h
none_bad d i (f ∷ fs) [] vs column h b = absurd b
none_bad d i [] ts vs column h b = absurd b

-- where the texts read as a row, only memory is a cause to refuse them
pub memory_alone : (d : Dialect) (number : ℕ) (fs : List Field) (ts : List (List ℕ)) (fault : TextFault) → IsBadField d number fs ts fault
    → (row : List Value) → EachReadsAs d fs ts row → fault ≡ OutOfMemory
memory_alone d number fs ts fault (inl memory) row h = memory
memory_alone d number fs ts fault (inr bad) row h = absurd (none_bad d 0 fs ts row bad.0 h bad.2)

-- the first values, of which the last was taken out of its place and put anew
pub front_more : (row : List Value) (i : ℕ) (kept v : Value) → i < length row
    → take (i + 1) (set (set row i kept) i v) ≡ take i row ++ v ∷ []
front_more row i kept v inside =
    let size = length-set row i kept in
    take_more_set (set row i kept) i v (omega (arith, size, inside)) ∙ ap (λ l. l ++ v ∷ []) (take-set row i kept)
