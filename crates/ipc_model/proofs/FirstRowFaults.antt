-- The faults of a row are those of its places, in order, so the first one is that of the first place that breaks a rule.
use Rattle.std.proofs.Common.{◌≡◌, ◌∙◌, refl, sym, ap, subst, ℕ, zero, suc, ◌+◌, ◌<◌, Bool, true, false, List, [], ◌∷◌, ◌++◌, map, length}
use Rattle.std.proofs.Common.{Option, Some, None, Result, Ok, Err, ◌⊎◌, ⊎_elim, inl, inr, arith, append_assoc}
use Rattle.std.specs.Prelude.{◌↔◌, ◌==◌, IfErr, IsTrue, if◌then◌else◌, ◌||◌}
use Rattle.std.proofs.lemmas.List.{length-map, map-append}
use Rattle.std.proofs.lemmas.Bool.{false≢true}
use Rattle.std.proofs.lemmas.Bool.Decides.{Decides-eqb}
use Rattle.ipc_model.specs.RowFaults.{Judgement, judge_step, faults, fault_from_parent, here, own_fault, kind_fault, is_null_type, unless}
use Rattle.ipc_model.specs.RowFaults.{inner_faults}
use Rattle.ipc_model.specs.RowFaults.{items_faults, each_faults, row_faults, verdict}
use Rattle.ipc_model.specs.FirstRowFault.{Place, Placing, inside, items_places, each_places, inner_places, placing_step, places, row_places}
use Rattle.ipc_model.specs.FirstRowFault.{IsOfVariant, IsOffRange, IsMisfit, IsMisfitAt, IsFirstMisfit, IsFirstRowFault}
use Rattle.ipc_model.proofs.FitsLemmas.{kind_both, null_both}
use Rattle.ipc_model.specs.declared.rows.RowCause.{RowCause}
use Rattle.ipc_model.specs.declared.rows.RowCause.TheVariants as c
use Rattle.ipc_model.specs.declared.rows.RowFault.{RowFault}
use Rattle.ipc_model.specs.declared.schema.DataType.{DataType}
use Rattle.ipc_model.specs.declared.schema.DataType.TheVariants as t
use Rattle.ipc_model.specs.declared.schema.DateUnit.TheVariants.{Day, Millisecond}
use Rattle.ipc_model.specs.declared.schema.Field.{Field, roll-Field, ind-Field, fold-roll-Field, map-Field}
use Rattle.ipc_model.specs.declared.schema.Field.TheOpen.{Field-F}
use Rattle.ipc_model.specs.declared.value.Value.{Value, out-Value}
use Rattle.ipc_model.specs.declared.value.Value.TheOpen.{Value-F}

-- ---- the fault of one place

-- the cause where the value is of the right variant, and off its range
abbrev range_cause : DataType → RowCause
range_cause t.Struct = c.RowWidth
range_cause _ = c.OutOfRange

abbrev IsRangeCause : DataType → Type 0
IsRangeCause kind = ((kind ≡ t.Struct) × (range_cause kind ≡ c.RowWidth)) ⊎ (¬ (kind ≡ t.Struct) × (range_cause kind ≡ c.OutOfRange))

range_is : (kind : DataType) → IsRangeCause kind
range_is t.Struct = inl (refl, refl)
range_is _ = inr (λ h. cc, refl)

abbrev IsJudged : DataType → ℕ → Value-F Value → Type 0
IsJudged kind n w =
    (IsOfVariant kind w × ((kind_fault kind n w ≡ None) ⊎ (kind_fault kind n w ≡ Some (range_cause kind))))
    ⊎ (¬ IsOfVariant kind w × (kind_fault kind n w ≡ Some c.WrongKind))

unless_is : (fine : Bool) (x : RowCause) → (unless fine x ≡ None) ⊎ (unless fine x ≡ Some x)
unless_is true x = inl refl
unless_is false x = inr refl

judged : (kind : DataType) (n : ℕ) (w : Value-F Value) → IsJudged kind n w
judged t.Bool n (Value-F.Bool b) = inl (tt, inl refl)
judged (t.Int bits true) n (Value-F.Int z) = inl (tt, unless_is _ _)
judged (t.Int bits false) n (Value-F.UInt m) = inl (tt, unless_is _ _)
judged t.Binary n (Value-F.Bytes b) = inl (tt, inl refl)
judged t.Utf8 n (Value-F.Text s) = inl (tt, inl refl)
judged (t.FixedSizeBinary m) n (Value-F.Bytes b) = inl (tt, unless_is _ _)
judged (t.Date Day) n (Value-F.Int z) = inl (tt, unless_is _ _)
judged (t.Date Millisecond) n (Value-F.Int z) = inl (tt, unless_is _ _)
judged (t.Timestamp unit tz) n (Value-F.Int z) = inl (tt, unless_is _ _)
judged (t.Time unit) n (Value-F.Int z) = inl (tt, unless_is _ _)
judged (t.Duration unit) n (Value-F.Int z) = inl (tt, unless_is _ _)
judged t.List n (Value-F.List vs) = inl (tt, inl refl)
judged (t.FixedSizeList m) n (Value-F.List vs) = inl (tt, unless_is _ _)
judged t.Struct n (Value-F.Struct vs) = inl (tt, unless_is _ _)
judged _ n w = inr (λ h. h, refl)

-- what a place is told for
abbrev own : Place → Option RowCause
own p = own_fault p.kind p.nullable p.children p.value

module _ (p : Place) (is : own p ≡ kind_fault p.kind p.children p.value) (other : ¬ (p.value ≡ Value-F.Null)) where
  off_range : (x : RowCause) → IsOfVariant p.kind p.value → own p ≡ Some x → x ≡ range_cause p.kind → IsMisfit p x
  off_range x has report same =
      let off : IsOffRange p = (has, λ fine. let none = (kind_both p.kind p.children p.value).1 fine in cc) in
      subst (λ (y : RowCause). IsMisfit p y) (sym same) (⊎_elim
      (λ r. subst (λ (y : RowCause). IsMisfit p y) (sym r.1) (r.0, off))
      (λ r. subst (λ (y : RowCause). IsMisfit p y) (sym r.1) (r.0, off))
      (range_is p.kind))

  kind_told : (x : RowCause) → own p ≡ Some x → IsMisfit p x
  kind_told x report = ⊎_elim
      (λ has. ⊎_elim (λ none. absurd cc) (λ some. off_range x has.0 report cc) has.1)
      (λ no. let same : c.WrongKind ≡ x = cc in subst (λ (y : RowCause). IsMisfit p y) same (other, no.0))
      (judged p.kind p.children p.value)

  in_range : IsOffRange p → own p ≡ Some (range_cause p.kind)
  in_range off = ⊎_elim
      (λ has. ⊎_elim (λ none. absurd (off.1 ((kind_both p.kind p.children p.value).0 none))) (λ some. is ∙ some) has.1)
      (λ no. absurd (no.0 off.0))
      (judged p.kind p.children p.value)

  told_kind : (x : RowCause) → IsMisfit p x → own p ≡ Some x
  told_kind c.NullNotAllowed h = absurd (other h.0)
  told_kind c.WrongKind h = ⊎_elim (λ has. absurd (h.1 has.0)) (λ no. is ∙ no.1) (judged p.kind p.children p.value)
  told_kind c.RowWidth h = ⊎_elim (λ r. in_range h.1 ∙ ap (λ (y : RowCause). Some y) r.1) (λ r. absurd (r.0 h.0)) (range_is p.kind)
  told_kind c.OutOfRange h = ⊎_elim (λ r. absurd (h.0 r.0)) (λ r. in_range h.1 ∙ ap (λ (y : RowCause). Some y) r.1) (range_is p.kind)

null_told : (nullable : Bool) (kind : DataType) (x : RowCause) → unless (nullable || is_null_type kind) c.NullNotAllowed ≡ Some x
    → (x ≡ c.NullNotAllowed) × ¬ (IsTrue nullable ⊎ (kind ≡ t.Null))
null_told nullable kind x report = (
  ⊎_elim (λ none. absurd cc) (λ some. cc) (unless_is (nullable || is_null_type kind) c.NullNotAllowed),
  λ may. let fine = (null_both nullable kind).1 may in absurd (let fits : unless (nullable || is_null_type kind) c.NullNotAllowed ≡ None =
      ap (λ (b : Bool). unless b c.NullNotAllowed) fine in cc),
)

told_null : (nullable : Bool) (kind : DataType) → ¬ (IsTrue nullable ⊎ (kind ≡ t.Null))
    → unless (nullable || is_null_type kind) c.NullNotAllowed ≡ Some c.NullNotAllowed
told_null nullable kind may_not = by_test (nullable || is_null_type kind) refl
  where
    by_test : (b : Bool) → (nullable || is_null_type kind) ≡ b → unless b c.NullNotAllowed ≡ Some c.NullNotAllowed
    by_test true is = absurd (may_not ((null_both nullable kind).0 is))
    by_test false is = refl

-- null is of no variant
null_variant : (kind : DataType) → ¬ IsOfVariant kind Value-F.Null
null_variant t.Null h = h
null_variant t.Bool h = h
null_variant (t.Int bits true) h = h
null_variant (t.Int bits false) h = h
null_variant t.Binary h = h
null_variant t.Utf8 h = h
null_variant (t.FixedSizeBinary n) h = h
null_variant (t.Date unit) h = h
null_variant (t.Timestamp unit tz) h = h
null_variant (t.Time unit) h = h
null_variant (t.Duration unit) h = h
null_variant t.List h = h
null_variant (t.FixedSizeList n) h = h
null_variant t.Struct h = h

-- a place is told for a cause exactly where it breaks the cause's rule
misfit_both : (p : Place) (x : RowCause) → (own p ≡ Some x) ↔ IsMisfit p x
misfit_both p x = by_value p.value refl
  where
    of_kind : own p ≡ kind_fault p.kind p.children p.value → ¬ (p.value ≡ Value-F.Null) → (own p ≡ Some x) ↔ IsMisfit p x
    of_kind is other = (kind_told p is other x, told_kind p is other x)

    of_null : p.value ≡ Value-F.Null → (y : RowCause) → IsMisfit p y → own p ≡ Some y
    of_null is c.NullNotAllowed h =
        ap (λ (w : Value-F Value). own_fault p.kind p.nullable p.children w) is ∙ told_null p.nullable p.kind h.1
    of_null is c.WrongKind h = absurd (h.0 is)
    of_null is c.RowWidth h = absurd (null_variant p.kind (subst (λ (w : Value-F Value). IsOfVariant p.kind w) is h.1.0))
    of_null is c.OutOfRange h = absurd (null_variant p.kind (subst (λ (w : Value-F Value). IsOfVariant p.kind w) is h.1.0))

    by_value : (w : Value-F Value) → p.value ≡ w → (own p ≡ Some x) ↔ IsMisfit p x
    by_value Value-F.Null is = (
      λ report.
          let h = null_told p.nullable p.kind x (sym (ap (λ (w : Value-F Value). own_fault p.kind p.nullable p.children w) is) ∙ report) in
          subst (λ (y : RowCause). IsMisfit p y) (sym h.0) (is, h.1),
      of_null is x,
    )
    by_value w is = of_kind
        (ap (λ (u : Value-F Value). own_fault p.kind p.nullable p.children u) is
        ∙ sym (ap (λ (u : Value-F Value). kind_fault p.kind p.children u) is))
        (λ null. let none : w ≡ Value-F.Null = sym is ∙ null in absurd cc)

-- ---- the faults of several places

abbrev told_at : Option RowCause → List ℕ → List RowFault
told_at None path = []
told_at (Some x) path = record { cause = x; path = path } ∷ []

-- the faults of places, in order
abbrev all_told : List Place → List RowFault
all_told [] = []
all_told (p ∷ ps) = told_at (own p) p.path ++ all_told ps

told_append : (ps qs : List Place) → all_told (ps ++ qs) ≡ all_told ps ++ all_told qs
told_append [] qs = refl
told_append (p ∷ ps) qs = ap (λ (es : List RowFault). told_at (own p) p.path ++ es) (told_append ps qs)
    ∙ sym (append_assoc (told_at (own p) p.path) (all_told ps) (all_told qs))

told_below : (n : ℕ) (o : Option RowCause) (path : List ℕ) → told_at o (n ∷ path) ≡ map (fault_from_parent n) (told_at o path)
told_below n None path = refl
told_below n (Some x) path = refl

told_inside : (n : ℕ) (ps : List Place) → all_told (map (inside n) ps) ≡ map (fault_from_parent n) (all_told ps)
told_inside n [] = refl
told_inside n (p ∷ ps) =
    ap (λ (es : List RowFault). told_at (own p) (n ∷ p.path) ++ es) (told_inside n ps)
    ∙ ap (λ (es : List RowFault). es ++ map (fault_from_parent n) (all_told ps)) (told_below n (own p) p.path)
    ∙ sym (map-append (fault_from_parent n) (told_at (own p) p.path) (all_told ps))

-- the values inside come after it
told_both : (n : ℕ) (ps qs : List Place) (es fs : List RowFault) → all_told ps ≡ es → all_told qs ≡ fs
    → all_told (map (inside n) ps ++ qs) ≡ map (fault_from_parent n) es ++ fs
told_both n ps qs es fs one more = told_append (map (inside n) ps) qs
    ∙ ap (λ (xs : List RowFault). xs ++ all_told qs) (told_inside n ps ∙ ap (λ (xs : List RowFault). map (fault_from_parent n) xs) one)
    ∙ ap (λ (xs : List RowFault). map (fault_from_parent n) es ++ xs) more

-- ---- a value's faults are those of its places

abbrev HasFaultsOfPlaces : Field → Type 0
HasFaultsOfPlaces f = (v : Value) → all_told (places f v) ≡ faults f v

abbrev Shown : Type 0
Shown = (f : Field) × HasFaultsOfPlaces f

abbrev fields_of : List Shown → List Field
fields_of xs = map (λ x. x.0) xs

items_told : (x : Shown) (vs : List Value) → all_told (items_places (places x.0) vs) ≡ items_faults (faults x.0) vs
items_told x [] = refl
items_told x (v ∷ vs) = told_both 0 (places x.0 v) (items_places (places x.0) vs) (faults x.0 v) (items_faults (faults x.0) vs)
    (x.1 v) (items_told x vs)

each_told : (n : ℕ) (xs : List Shown) (vs : List Value)
    → all_told (each_places n (map places (fields_of xs)) vs) ≡ each_faults n (map faults (fields_of xs)) vs
each_told n [] vs = refl
each_told n (x ∷ xs) [] = refl
each_told n (x ∷ xs) (v ∷ vs) =
    told_both n (places x.0 v) (each_places (n + 1) (map places (fields_of xs)) vs) (faults x.0 v)
    (each_faults (n + 1) (map faults (fields_of xs)) vs) (x.1 v) (each_told (n + 1) xs vs)

inner_told : (kind : DataType) (xs : List Shown) (w : Value-F Value)
    → all_told (inner_places kind (map places (fields_of xs)) w) ≡ inner_faults kind (map faults (fields_of xs)) w
inner_told t.List (x ∷ xs) (Value-F.List vs) = items_told x vs
inner_told (t.FixedSizeList n) (x ∷ xs) (Value-F.List vs) = items_told x vs
inner_told t.Struct xs (Value-F.Struct vs) = each_told 0 xs vs
inner_told _ [] w = refl
inner_told _ (x ∷ xs) w = refl

told_here : (o : Option RowCause) → told_at o [] ≡ here o
told_here None = refl
told_here (Some x) = refl

layer_told : (y : Field-F Shown) (v : Value)
    → all_told (placing_step (map-Field Field Placing places (map-Field Shown Field (λ x. x.0) y)) v)
    ≡ judge_step (map-Field Field Judgement faults (map-Field Shown Field (λ x. x.0) y)) v
layer_told y v =
    let same : length (map places (fields_of y.children)) ≡ length (map faults (fields_of y.children)) =
    length-map (fields_of y.children) places ∙ sym (length-map (fields_of y.children) faults) in
    ap (λ (n : ℕ). told_at (own_fault y.kind y.nullable n (out-Value v)) []
    ++ all_told (inner_places y.kind (map places (fields_of y.children)) (out-Value v))) same
    ∙ ap (λ (es : List RowFault). es ++ all_told (inner_places y.kind (map places (fields_of y.children)) (out-Value v)))
    (told_here (own_fault y.kind y.nullable (length (map faults (fields_of y.children))) (out-Value v)))
    ∙ ap (λ (es : List RowFault). here (own_fault y.kind y.nullable (length (map faults (fields_of y.children))) (out-Value v)) ++ es)
    (inner_told y.kind y.children (out-Value v))

roll_told : (x : Field-F Field) (y : Field-F Shown) → map-Field Shown Field (λ z. z.0) y ≡ x → HasFaultsOfPlaces (roll-Field x)
roll_told x y is = subst (λ z. HasFaultsOfPlaces (roll-Field z)) is (λ v.
    ap (λ (r : Placing). all_told (r v)) (fold-roll-Field Placing placing_step z0) ∙ layer_told y v
    ∙ sym (ap (λ (r : Judgement). r v) (fold-roll-Field Judgement judge_step z0)))
  where
    z0 : Field-F Field
    z0 = map-Field Shown Field (λ z. z.0) y

are_told : (f : Field) → HasFaultsOfPlaces f
are_told = ind-Field HasFaultsOfPlaces roll_told

columns_told : (n : ℕ) (fs : List Field) (vs : List Value) → all_told (each_places n (map places fs) vs) ≡ each_faults n (map faults fs) vs
columns_told n [] vs = refl
columns_told n (f ∷ fs) [] = refl
columns_told n (f ∷ fs) (v ∷ vs) =
    told_both n (places f v) (each_places (n + 1) (map places fs) vs) (faults f v) (each_faults (n + 1) (map faults fs) vs)
    (are_told f v) (columns_told (n + 1) fs vs)

-- ---- the first fault

-- the first fault of a place, and of those after it
abbrev HasFirst : List Place → RowFault → Type 0
HasFirst ps e = (k : ℕ) × IsFirstMisfit ps k e

first_here : (p : Place) (ps : List Place) (x : RowCause) → own p ≡ Some x → HasFirst (p ∷ ps) (record { cause = x; path = p.path })
first_here p ps x is = (
  0,
  record {
    broken = (p, (refl, (refl, (misfit_both p x).0 is)));
    none_before = λ j less. absurd (omega arith);
  },
)

none_here : (p : Place) (ps : List Place) (k : ℕ) (e : RowFault) → own p ≡ None → IsFirstMisfit ps k e → (j : ℕ) → j < suc k
    → (other : RowFault) → ¬ IsMisfitAt (p ∷ ps) j other
none_here p ps k e is first zero less other at =
    let same : at.0 ≡ p = cc in
    let some = (misfit_both at.0 other.cause).1 at.1.1.1 in
    let none = ap own same ∙ is in absurd cc
none_here p ps k e is first (suc j) less other at = first.none_before j (omega arith) other at

first_by : (p : Place) (ps : List Place) (e : RowFault) (o : Option RowCause) → own p ≡ o
    → (verdict (all_told ps) ≡ Err e → HasFirst ps e) → verdict (told_at o p.path ++ all_told ps) ≡ Err e → HasFirst (p ∷ ps) e
first_by p ps e (Some x) is later report =
    let same : record { cause = x; path = p.path } ≡ e = cc in
    subst (λ (y : RowFault). HasFirst (p ∷ ps) y) same (first_here p ps x is)
first_by p ps e None is later report =
    let r = later report in
    (suc r.0, record { broken = r.1.broken; none_before = none_here p ps r.0 e is r.1 })

first_at : (ps : List Place) (e : RowFault) → verdict (all_told ps) ≡ Err e → HasFirst ps e
first_at [] e h = cc
first_at (p ∷ ps) e h = first_by p ps e (own p) refl (first_at ps e) h

next_by : (p : Place) (ps : List Place) (k : ℕ) (e : RowFault) → IsFirstMisfit (p ∷ ps) (suc k) e → (o : Option RowCause) → own p ≡ o
    → verdict (all_told ps) ≡ Err e → verdict (told_at o p.path ++ all_told ps) ≡ Err e
next_by p ps k e h (Some x) is later = absurd (h.none_before 0 (omega arith) (record { cause = x; path = p.path })
    (p, (refl, (refl, (misfit_both p x).0 is))))
next_by p ps k e h None is later = later

told_first : (ps : List Place) (k : ℕ) (e : RowFault) → IsFirstMisfit ps k e → verdict (all_told ps) ≡ Err e
told_first [] k e h = absurd (let at = h.broken.1.0 in cc)
told_first (p ∷ ps) zero e h =
    let at = h.broken in
    let same : at.0 ≡ p = cc in
    let some : own p ≡ Some e.cause = sym (ap own same) ∙ (misfit_both at.0 e.cause).1 at.1.1.1 in
    let path : p.path ≡ e.path = sym (ap (λ (q : Place). q.path) same) ∙ at.1.1.0 in
    ap (λ (o : Option RowCause). verdict (told_at o p.path ++ all_told ps)) some
    ∙ ap (λ (y : List ℕ). Err (record { cause = e.cause; path = y })) path
told_first (p ∷ ps) (suc k) e h = next_by p ps k e h (own p) refl (told_first ps k e (record {
  broken = h.broken;
  none_before = λ j less other at. h.none_before (suc j) (omega arith) other at;
}))

-- a row's first fault in the list of all is its first fault by place
pub first_both : (fields : List Field) (row : List Value) (e : RowFault)
    → (verdict (row_faults fields row) ≡ Err e) ↔ IsFirstRowFault fields row e
first_both fields row e = by_test (length row == length fields) refl
  where
    by_test : (b : Bool) → (length row == length fields) ≡ b
        → (verdict (if b then each_faults 0 (map faults fields) row else here (Some c.RowWidth)) ≡ Err e) ↔ IsFirstRowFault fields row e
    by_test true is =
        let wide = (Decides-eqb (length row) (length fields)).0 is in
        let report = ap verdict (columns_told 0 fields row) in (
          λ h. inr (wide, first_at (row_places fields row) e (report ∙ h)),
          λ h. ⊎_elim (λ no. absurd (no.0 wide)) (λ at. sym report ∙ told_first (row_places fields row) at.1.0 e at.1.1) h,
        )
    by_test false is =
        let other : ¬ (length row ≡ length fields) =
        λ wide. absurd (false≢true (sym is ∙ (Decides-eqb (length row) (length fields)).1 wide)) in (
          λ h. inl (other, cc),
          λ h. ⊎_elim (λ no. ap (λ (y : RowFault). Err y) (sym no.1)) (λ at. absurd (other at.0)) h,
        )

-- what is told of a row, by the list of all its faults, has its first fault by place
pub first_is : (fields : List Field) (row : List Value) (r : Result Unit RowFault) → r ≡ verdict (row_faults fields row)
    → IfErr r (IsFirstRowFault fields row)
first_is fields row (Ok x) h = tt
first_is fields row (Err e) h = (first_both fields row e).0 (sym h)
