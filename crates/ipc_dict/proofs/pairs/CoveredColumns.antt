-- The pairs of a column are among those of the rows that it is cut from.
use Rattle.std.proofs.Common.{◌≡◌, ◌∙◌, refl, sym, ap, subst, ℕ, suc, zero, ℤ, List, [], ◌∷◌, ◌++◌, map, Option, Some, None, replicate}
use Rattle.std.proofs.Common.{append_assoc, arith, ⊎_elim, Bool, true, false, cond, length}
use Rattle.std.specs.Prelude.{⊤, ◌==◌}
use Rattle.std.specs.List.{Contains}
use Rattle.std.proofs.lemmas.List.Elements.{Contains-append_left, Contains-append_right, Contains-append_cases}
use Rattle.ipc_model.specs.declared.schema.DataType.{DataType}
use Rattle.ipc_model.specs.declared.schema.DataType.TheVariants as t
use Rattle.ipc_model.specs.declared.schema.Dictionary.{Dictionary}
use Rattle.ipc_model.specs.declared.schema.Field.{Field, roll-Field, ind-Field, fold-roll-Field}
use Rattle.ipc_model.specs.declared.schema.Field.TheOpen.{Field-F}
use Rattle.ipc_model.specs.declared.value.Value.{Value, out-Value}
use Rattle.ipc_model.specs.declared.value.Value.TheOpen.{Value-F}
use Rattle.ipc_model.specs.declared.value.Value.TheVariants as v
use Rattle.ipc_encode.specs.Cells.{cell, cells, items, items_in, all_items, struct_member, part_in, all_parts}
use Rattle.ipc_encode.specs.Cells.{fixed_items, fixed_items_in, all_fixed_items}
use Rattle.ipc_column.proofs.Opened.{null_out}
use Rattle.ipc_dict.specs.Pairs.{Pairs, Walk, items_pairs, inner_pairs, own_pair, value_pairs, pairs_step, pairs, row_pairs, rows_pairs}

-- ---- null gives nothing

null_inner : (kind : DataType) (walks : List Walk) → inner_pairs kind walks Value-F.Null ≡ []
null_inner t.Null walks = refl
null_inner t.Bool walks = refl
null_inner (t.Int bits signed) walks = refl
null_inner t.Binary walks = refl
null_inner t.Utf8 walks = refl
null_inner (t.FixedSizeBinary width) walks = refl
null_inner (t.Date unit) walks = refl
null_inner (t.Timestamp unit timezone) walks = refl
null_inner (t.Time unit) walks = refl
null_inner (t.Duration unit) walks = refl
null_inner t.List [] = refl
null_inner t.List (walk ∷ more) = refl
null_inner (t.FixedSizeList n) [] = refl
null_inner (t.FixedSizeList n) (walk ∷ more) = refl
null_inner t.Struct walks = refl

null_in : (d : Option Dictionary) (kind : DataType) (walks : List Walk) → value_pairs d kind walks v.Null ≡ []
null_in (Some d) kind walks = ap (λ (w : Value-F Value). own_pair d.id v.Null w) null_out
null_in None kind walks = ap (λ (w : Value-F Value). inner_pairs kind walks w) null_out ∙ null_inner kind walks

null_pairs : (f : Field) → pairs f v.Null ≡ []
null_pairs = ind-Field (λ f. pairs f v.Null ≡ []) (λ x y is. layer x)
  where
    layer : (z : Field-F Field) → pairs (roll-Field z) v.Null ≡ []
    layer z =
        ap (λ (walk : Walk). walk v.Null) (fold-roll-Field Walk pairs_step z) ∙ null_in z.dictionary z.kind (map pairs z.children)

-- ---- the items of lists

-- the pairs of values and then of others
items_append : (walk : Walk) (vs ws : List Value) → items_pairs walk (vs ++ ws) ≡ items_pairs walk vs ++ items_pairs walk ws
items_append walk [] ws = refl
items_append walk (value ∷ vs) ws =
    ap (λ (ps : Pairs). walk value ++ ps) (items_append walk vs ws)
    ∙ sym (append_assoc (walk value) (items_pairs walk vs) (items_pairs walk ws))

-- a list gives what its items do, and another value nothing
one_list : (walk : Walk) (w : Value-F Value) → items_pairs walk (items_in w) ≡ inner_pairs t.List (walk ∷ []) w
one_list walk (Value-F.List values) = refl
one_list walk Value-F.Null = refl
one_list walk (Value-F.Bool truth) = refl
one_list walk (Value-F.Int z) = refl
one_list walk (Value-F.UInt n) = refl
one_list walk (Value-F.Bytes bytes) = refl
one_list walk (Value-F.Text text) = refl
one_list walk (Value-F.Struct values) = refl

-- the items of lists give what the lists give
pub list_pairs : (walk : Walk) (vs : List Value)
    → items_pairs walk (all_items vs) ≡ items_pairs (λ x. inner_pairs t.List (walk ∷ []) (out-Value x)) vs
list_pairs walk [] = refl
list_pairs walk (value ∷ vs) =
    items_append walk (items value) (all_items vs)
    ∙ (ap (λ (ps : Pairs). ps ++ items_pairs walk (all_items vs)) (one_list walk (out-Value value))
    ∙ ap (λ (ps : Pairs). inner_pairs t.List (walk ∷ []) (out-Value value) ++ ps) (list_pairs walk vs))

fill_pairs : (f : Field) (n : ℕ) → items_pairs (pairs f) (replicate n v.Null) ≡ []
fill_pairs f zero = refl
fill_pairs f (suc n) = ap (λ (ps : Pairs). ps ++ items_pairs (pairs f) (replicate n v.Null)) (null_pairs f) ∙ fill_pairs f n

-- each of these pairs is one of those
abbrev pub Within : Pairs → Pairs → Type 0
Within ps qs = (p : ℤ × Value) → Contains ps p → Contains qs p

nothing_within : (ps qs : Pairs) → ps ≡ [] → Within ps qs
nothing_within ps qs none p there =
    let bad : Contains [] p = subst (λ (xs : Pairs). Contains xs p) none there in absurd (omega (arith, bad.1))

fill_within : (f : Field) (n : ℕ) (ps : Pairs) → Within (items_pairs (pairs f) (replicate n v.Null)) ps
fill_within f n ps = nothing_within (items_pairs (pairs f) (replicate n v.Null)) ps (fill_pairs f n)

-- the items of a list of a fixed size give what it does, and the nulls of another value give nothing
one_fixed : (f : Field) (size : ℕ) (w : Value-F Value)
    → Within (items_pairs (pairs f) (fixed_items_in size w)) (inner_pairs (t.FixedSizeList size) (pairs f ∷ []) w)
one_fixed f size (Value-F.List values) = by (length values == size)
  where
    by : (b : Bool) → Within (items_pairs (pairs f) (cond b values (replicate size v.Null))) (items_pairs (pairs f) values)
    by true p there = there
    by false p there = fill_within f size (items_pairs (pairs f) values) p there
one_fixed f size _ = fill_within f size []

-- those of lists of a fixed size are among the pairs of the lists
pub fixed_pairs : (f : Field) (size : ℕ) (vs : List Value)
    → Within (items_pairs (pairs f) (all_fixed_items size vs))
    (items_pairs (λ x. inner_pairs (t.FixedSizeList size) (pairs f ∷ []) (out-Value x)) vs)
fixed_pairs f size [] p there = there
fixed_pairs f size (value ∷ vs) p there =
    let own = inner_pairs (t.FixedSizeList size) (pairs f ∷ []) (out-Value value) in
    let others = items_pairs (λ x. inner_pairs (t.FixedSizeList size) (pairs f ∷ []) (out-Value x)) vs in
    ⊎_elim (λ (here : Contains (items_pairs (pairs f) (fixed_items size value)) p).
    Contains-append_left own others p (one_fixed f size (out-Value value) p here))
    (λ (later : Contains (items_pairs (pairs f) (all_fixed_items size vs)) p).
    Contains-append_right own others p (fixed_pairs f size vs p later))
    (Contains-append_cases (items_pairs (pairs f) (fixed_items size value)) (items_pairs (pairs f) (all_fixed_items size vs)) p
    (subst (λ (ps : Pairs). Contains ps p) (items_append (pairs f) (fixed_items size value) (all_fixed_items size vs)) there))

-- ---- the parts of a struct, and the cells of a row

-- each pair that a value side by side gives in its field is one of those
abbrev pub EachWithin : List Field → (ℕ → Value) → Pairs → Type 0
EachWithin [] at qs = ⊤
EachWithin (f ∷ fs) at qs = Within (pairs f (at 0)) qs × EachWithin fs (λ j. at (suc j)) qs

nulls_within : (fs : List Field) (qs : Pairs) → EachWithin fs (λ j. v.Null) qs
nulls_within [] qs = tt
nulls_within (f ∷ fs) qs = (nothing_within (pairs f v.Null) qs (null_pairs f), nulls_within fs qs)

each_more : (fs : List Field) (at : ℕ → Value) (ps qs : Pairs) → EachWithin fs at qs → EachWithin fs at (ps ++ qs)
each_more [] at ps qs h = tt
each_more (f ∷ fs) at ps qs h = (λ p there. Contains-append_right ps qs p (h.0 p there), each_more fs (λ j. at (suc j)) ps qs h.1)

-- a row's pairs have those of each of its cells
pub cells_within : (fs : List Field) (row : List Value) → EachWithin fs (λ j. cell j row) (row_pairs fs row)
cells_within [] row = tt
cells_within (f ∷ fs) [] = nulls_within (f ∷ fs) []
cells_within (f ∷ fs) (value ∷ row) = (
  λ p there. Contains-append_left (pairs f value) (row_pairs fs row) p there,
  each_more fs (λ j. cell j row) (pairs f value) (row_pairs fs row) (cells_within fs row),
)

-- a struct's pairs have those of each of its parts
pub parts_within : (fs : List Field) (w : Value-F Value) → EachWithin fs (λ j. part_in j w) (inner_pairs t.Struct (map pairs fs) w)
parts_within fs (Value-F.Struct parts) = cells_within fs parts
parts_within fs Value-F.Null = nulls_within fs []
parts_within fs (Value-F.Bool truth) = nulls_within fs []
parts_within fs (Value-F.Int z) = nulls_within fs []
parts_within fs (Value-F.UInt n) = nulls_within fs []
parts_within fs (Value-F.Bytes bytes) = nulls_within fs []
parts_within fs (Value-F.Text text) = nulls_within fs []
parts_within fs (Value-F.List values) = nulls_within fs []

-- ---- several of them

-- what each of several things gives, in order
abbrev pub flat : {X : Type 0} → (X → Pairs) → List X → Pairs
flat source [] = []
flat source (x ∷ xs) = source x ++ flat source xs

pub flat_values : (walk : Walk) (vs : List Value) → flat walk vs ≡ items_pairs walk vs
flat_values walk [] = refl
flat_values walk (value ∷ vs) = ap (λ (ps : Pairs). walk value ++ ps) (flat_values walk vs)

pub flat_rows : (fs : List Field) (rows : List (List Value)) → flat (row_pairs fs) rows ≡ rows_pairs fs rows
flat_rows fs [] = refl
flat_rows fs (row ∷ rows) = ap (λ (ps : Pairs). row_pairs fs row ++ ps) (flat_rows fs rows)

-- a column's pairs are among those of the things that it has a value of each of
pub spread : {X : Type 0} (source : X → Pairs) (walk : Walk) (at : X → Value) → ((x : X) → Within (walk (at x)) (source x)) → (xs : List X)
    → Within (items_pairs walk (map at xs)) (flat source xs)
spread source walk at inside [] p there = there
spread source walk at inside (x ∷ xs) p there =
    ⊎_elim (λ (here : Contains (walk (at x)) p). Contains-append_left (source x) (flat source xs) p (inside x p here))
    (λ (later : Contains (items_pairs walk (map at xs)) p).
    Contains-append_right (source x) (flat source xs) p (spread source walk at inside xs p later))
    (Contains-append_cases (walk (at x)) (items_pairs walk (map at xs)) p there)

pub parts_are : (j : ℕ) (vs : List Value) → map (struct_member j) vs ≡ all_parts j vs
parts_are j [] = refl
parts_are j (value ∷ vs) = ap (λ (ws : List Value). struct_member j value ∷ ws) (parts_are j vs)

pub cells_are : (j : ℕ) (rows : List (List Value)) → map (cell j) rows ≡ cells j rows
cells_are j [] = refl
cells_are j (row ∷ rows) = ap (λ (ws : List Value). cell j row ∷ ws) (cells_are j rows)
