-- The trees that the code makes are those that are to be written.
use Rattle.std.proofs.Common.{◌≡◌, ◌∙◌, refl, sym, ap, ℕ, ◌+◌, List, [], ◌∷◌, ◌++◌, map, take, get_or, length, ◌<◌, suc, arith}
use Rattle.std.specs.Prelude.{ℤ, pos, FitsSigned, Option, Some}
use Rattle.std.specs.Int.{w64, cast_signed, cast_unsigned}
use Rattle.std.proofs.lemmas.Int.{to_z-of_z}
use Rattle.std.proofs.Math.Seq.{take-suc}
use Rattle.ipc_build.specs.declared.tree.FlatTree.{FlatTree}
use Rattle.ipc_build.specs.declared.tree.Slot.{Slot}
use Rattle.ipc_build.specs.declared.tree.Slot.TheVariants as v
use Rattle.ipc_build.specs.Trees.{Node, Tree, none, field, string, table, tables, tables_of, node, view, fields_view, tables_view}
use Rattle.ipc_build.proofs.Nodes.{view_is, bool_is, u8_is, i16_is, i64_is, table_is, tables_is}
use Rattle.ipc_model.specs.declared.schema.Dictionary.{Dictionary}
use Rattle.ipc_model.specs.declared.schema.Field.{Field, out-Field, fold_out-Field}
use Rattle.ipc_model.specs.declared.schema.Schema.{Schema}
use Rattle.ipc_meta.specs.Written.{fields_then, pair_tree, with_pairs, dictionary_tree, with_dictionary, flag, with_text, with_byte}
use Rattle.ipc_meta.specs.Written.{with_table, with_tables, type_tree, field_step, field_tree, schema_tree, message_tree}
use Rattle.ipc_meta.specs.Version.{v5}
use Rattle.ipc_model.specs.TypeCodes.{type_code}

-- a tree that the code makes has the fields of its slots
pub tree_is : (t : FlatTree) (xs : List (ℕ × Slot)) → t.slots ≡ xs → view t ≡ fields_view xs
tree_is t xs e = view_is t ∙ ap fields_view e

vector_is : (ts : List FlatTree) → tables_view ts ≡ tables_of (map view ts)
vector_is [] = refl
vector_is (t ∷ ts) = ap (field 0 table (view t)) (vector_is ts)

-- a vector of tables in a slot
pub tables_slot : {X : Type 0} (tree : X → Tree) (s : Slot) (ts : List FlatTree) (xs : List X) → s ≡ v.Tables ts → map view ts ≡ map tree xs
    → node s ≡ (tables, tables_of (map tree xs))
tables_slot tree s ts xs is e = ap node is ∙ (tables_is ts ∙ ap (λ (l : Tree). (tables, l)) (vector_is ts ∙ ap tables_of e))

-- one field more at the end of a tree stands before what comes behind
pub fields_then_more : (xs : List (ℕ × Slot)) (x : ℕ × Slot) (rest : Tree)
    → fields_then (xs ++ x ∷ []) rest ≡ fields_then xs (field x.0 (node x.1).0 (node x.1).1 rest)
fields_then_more [] x rest = refl
fields_then_more (y ∷ ys) x rest = ap (field y.0 (node y.1).0 (node y.1).1) (fields_then_more ys x rest)

-- the fields of a tree are those of its slots, and nothing behind them
pub fields_then_none : (xs : List (ℕ × Slot)) → fields_view xs ≡ fields_then xs none
fields_then_none [] = refl
fields_then_none (x ∷ xs) = ap (field x.0 (node x.1).0 (node x.1).1) (fields_then_none xs)

-- some pairs, as the last field
pub push_pairs_more : (k : ℕ) (old new : List (ℕ × Slot)) (ts us : List FlatTree) (ps : List (List ℕ × List ℕ))
    → new ≡ old ++ (k, v.Tables us) ∷ [] → us ≡ ts → map view ts ≡ map pair_tree ps → 0 < length ps
    → fields_then new none ≡ fields_then old (with_pairs k ps)
push_pairs_more k old new ts us [] n u e some = absurd (omega (arith, some))
push_pairs_more k old new ts us (p ∷ ps) n u e some =
    ap (λ xs. fields_then xs none) n ∙ (fields_then_more old (k, v.Tables us) none
    ∙ ap (λ (n : Node). fields_then old (field k n.0 n.1 none))
    (tables_slot pair_tree (v.Tables us) us (p ∷ ps) refl (ap (map view) u ∙ e)))

abbrev kept : ℤ → ℤ
kept z = cast_signed w64 (cast_unsigned w64 z)

-- one pair more in a copy
pub copied_more : (xs copies new : List (ℤ × ℤ)) (i : ℕ) → i < length xs → FitsSigned w64 (get_or xs i (pos 0, pos 0)).0
    → FitsSigned w64 (get_or xs i (pos 0, pos 0)).1 → copies ≡ take i xs
    → new ≡ copies ++ (kept (get_or xs i (pos 0, pos 0)).0, kept (get_or xs i (pos 0, pos 0)).1) ∷ [] → new ≡ take (i + 1) xs
copied_more xs copies new i inside first second before is =
    let x = get_or xs i (pos 0, pos 0) in
    let next : suc i ≡ i + 1 = omega arith in
    is ∙ (ap (λ (a : ℤ). copies ++ (a, kept x.1) ∷ []) (to_z-of_z w64 x.0 first)
    ∙ (ap (λ (b : ℤ). copies ++ (x.0, b) ∷ []) (to_z-of_z w64 x.1 second)
    ∙ (ap (λ (ys : List (ℤ × ℤ)). ys ++ x ∷ []) before ∙ (sym (take-suc xs i (pos 0, pos 0) inside) ∙ ap (λ (n : ℕ). take n xs) next))))

-- a dictionary, where there is one
pub dictionary_more : (old new : List (ℕ × Slot)) (encoding : FlatTree) (d : Dictionary) (o : Option Dictionary)
    → new ≡ old ++ (4, v.Table encoding) ∷ [] → view encoding ≡ dictionary_tree d → o ≡ Some d
    → (rest : Tree) → fields_then new rest ≡ fields_then old (with_dictionary o rest)
dictionary_more old new encoding d o n e is rest =
    ap (λ (xs : List (ℕ × Slot)). fields_then xs rest) n ∙ (fields_then_more old (4, v.Table encoding) rest
    ∙ (ap (λ (y : Node). fields_then old (field 4 y.0 y.1 rest)) (table_is encoding ∙ ap (λ (x : Tree). (table, x)) e)
    ∙ ap (λ (p : Option Dictionary). fields_then old (with_dictionary p rest)) (sym is)))

-- a vector of tables
pub vector_more : {X : Type 0} (tree : X → Tree) (k : ℕ) (old new : List (ℕ × Slot)) (ts us : List FlatTree) (xs : List X)
    → new ≡ old ++ (k, v.Tables us) ∷ [] → us ≡ ts → map view ts ≡ map tree xs
    → (rest : Tree) → fields_then new rest ≡ fields_then old (field k tables (tables_of (map tree xs)) rest)
vector_more tree k old new ts us xs n u e rest =
    ap (λ (ys : List (ℕ × Slot)). fields_then ys rest) n ∙ (fields_then_more old (k, v.Tables us) rest
    ∙ ap (λ (y : Node). fields_then old (field k y.0 y.1 rest)) (tables_slot tree (v.Tables us) us xs refl (ap (map view) u ∙ e)))

-- a Field table, from its fields as they come
pub field_made : (f : Field) (t types : FlatTree) (first second third last : List (ℕ × Slot)) (text : Slot) (code : ℕ)
    (ts us : List FlatTree)
    → view t ≡ fields_view last → fields_then last none ≡ fields_then third (with_pairs 6 (out-Field f).metadata)
    → third ≡ second ++ (5, v.Tables us) ∷ [] → us ≡ ts → map view ts ≡ map field_tree (out-Field f).children
    → ((rest : Tree) → fields_then second rest ≡ fields_then first (with_dictionary (out-Field f).dictionary rest))
    → first ≡ (0, text) ∷ (1, v.Bool (out-Field f).nullable) ∷ (2, v.U8 code) ∷ (3, v.Table types) ∷ []
    → node text ≡ (string (out-Field f).name, none) → code ≡ type_code (out-Field f).kind → view types ≡ type_tree (out-Field f).kind
    → view t ≡ field_tree f
field_made f t types first second third last text code ts us whole pairs third_is same children dictionary first_is name coded typed =
    let g = out-Field f in
    let rest = with_tables 5 (map field_tree g.children) (with_pairs 6 g.metadata) in
    let behind = with_dictionary g.dictionary rest in
    whole ∙ (fields_then_none last ∙ (pairs ∙
    (vector_more field_tree 5 second third ts us g.children third_is same children (with_pairs 6 g.metadata) ∙ (dictionary rest
    ∙ (ap (λ (xs : List (ℕ × Slot)). fields_then xs behind) first_is
    ∙ (ap (λ (n : Node). field 0 n.0 n.1 (fields_then ((1, v.Bool g.nullable) ∷ (2, v.U8 code) ∷ (3, v.Table types) ∷ []) behind)) name
    ∙ (ap (λ (n : Node). with_text 0 g.name (field 1 n.0 n.1 (fields_then ((2, v.U8 code) ∷ (3, v.Table types) ∷ []) behind)))
    (bool_is g.nullable)
    ∙ (ap (λ (n : Node). with_text 0 g.name
    (with_byte 1 (flag g.nullable) (field 2 n.0 n.1 (fields_then ((3, v.Table types) ∷ []) behind)))) (u8_is code)
    ∙ (ap (λ (n : Node). with_text 0 g.name (with_byte 1 (flag g.nullable) (with_byte 2 code (field 3 n.0 n.1 behind)))) (table_is types)
    ∙ (ap (λ (c : ℕ). with_text 0 g.name (with_byte 1 (flag g.nullable) (with_byte 2 c (with_table 3 (view types) behind)))) coded
    ∙ (ap (λ (y : Tree). with_text 0 g.name (with_byte 1 (flag g.nullable) (with_byte 2 (type_code g.kind) (with_table 3 y behind)))) typed
    ∙ sym (fold_out-Field Tree field_step f))))))))))))

-- a Schema table
pub schema_made : (s : Schema) (t : FlatTree) (first last : List (ℕ × Slot)) (ts us : List FlatTree)
    → view t ≡ fields_view last → fields_then last none ≡ fields_then first (with_pairs 2 s.metadata) → first ≡ (1, v.Tables us) ∷ []
    → us ≡ ts → map view ts ≡ map field_tree s.fields → view t ≡ schema_tree s
schema_made s t first last ts us whole pairs first_is same fields =
    whole ∙ (fields_then_none last ∙ (pairs
    ∙ vector_more field_tree 1 [] first ts us s.fields first_is same fields (with_pairs 2 s.metadata)))

-- a Message table
pub message_made : (code body : ℕ) (version number : ℤ) (t header : FlatTree) (first last : List (ℕ × Slot)) (ps : List (List ℕ × List ℕ))
    → view t ≡ fields_view last → fields_then last none ≡ fields_then first (with_pairs 4 ps)
    → first ≡ (0, v.I16 version) ∷ (1, v.U8 code) ∷ (2, v.Table header) ∷ (3, v.I64 number) ∷ [] → version ≡ v5 → number ≡ pos body
    → view t ≡ message_tree code (view header) body ps
message_made code body version number t header first last ps whole pairs first_is five counted =
    whole ∙ (fields_then_none last ∙ (pairs ∙ (ap (λ (xs : List (ℕ × Slot)). fields_then xs (with_pairs 4 ps)) first_is
    ∙ rw (i16_is version, u8_is code, table_is header, i64_is number, five, counted) refl)))
