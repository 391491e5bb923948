-- The text that is printed of a schema reads as its JSON data.
use Rattle.std.proofs.Common.{◌≡◌, refl, sym, ap, subst, ℕ, ◌+◌, ◌^◌, ◌<◌, ◌≤◌, List, [], ◌∷◌, ◌++◌, map, length, arith, flat_map}
use Rattle.std.proofs.Common.{Option, Some, None, length-append}
use Rattle.std.proofs.lemmas.List.{length-map}
use Rattle.std.proofs.Math.Nat.{max-le}
use Rattle.std.specs.Prelude.{codes}
use Rattle.std.specs.List.{AllByRecursion}
use Rattle.serde_json.specs.Data.{Data, string, object, no_items, no_members, member}
use Rattle.serde_json.specs.Read.{read, of_json}
use Rattle.serde_json.specs.Written.{outline}
use Rattle.ipc_model.specs.Entries.{Entry, Listing, preorder, preorder_step, entries, all_at}
use Rattle.ipc_model.specs.Limits.{IsStandard}
use Rattle.ipc_model.specs.Ranges.{width}
use Rattle.ipc_model.specs.WellFormed.{WellFormed, HasGoodType, IsFieldWellFormed}
use Rattle.ipc_model.specs.declared.limits.Limits.{Limits}
use Rattle.ipc_model.specs.declared.schema.DataType.{DataType}
use Rattle.ipc_model.specs.declared.schema.DataType.TheVariants as t
use Rattle.ipc_model.specs.declared.schema.Dictionary.{Dictionary}
use Rattle.ipc_model.specs.declared.schema.Field.{Field, roll-Field, ind-Field, fold-roll-Field, map-Field}
use Rattle.ipc_model.specs.declared.schema.Field.TheOpen.{Field-F}
use Rattle.ipc_model.specs.declared.schema.IntBits.{IntBits}
use Rattle.ipc_model.specs.declared.schema.IntBits.TheVariants as b
use Rattle.ipc_model.specs.declared.schema.Schema.{Schema}
use Rattle.ipc_model.specs.declared.schema.Schema.{}
use Rattle.ipc_text_json.specs.SchemaJson.{int_name, unit_name, date_unit_name, type_array, text_or_null, type_json, dictionary_json}
use Rattle.ipc_text_json.specs.SchemaJson.{pair_json}
use Rattle.ipc_text_json.specs.SchemaJson.{pairs_json, own_json}
use Rattle.ipc_text_json.specs.SchemaJson.{field_step, field_json, schema_json, schema_text}
use Rattle.ipc_text_json.specs.SchemaJson.{}
use Rattle.ipc_text_json.specs.SchemaTexts.{HasWideId}
use Rattle.ipc_text_json.specs.SchemaTexts.{}
use Rattle.ipc_text_json.proofs.ReadBack.{IsBack, string_back, boolean_back, null_back, unsigned_back, signed_back, none_back}
use Rattle.ipc_text_json.proofs.ReadBack.{item_back, items_back}
use Rattle.ipc_text_json.proofs.ReadBack.{array_back, text_back}
use Rattle.ipc_text_json.proofs.Trees.{preorder_unrolled, joined, all_split}

-- ---- the parts of a field

alone_back : (name : List ℕ) → IsBack 1 (type_array name [])
alone_back name = array_back _ (item_back (string name) no_items (string_back 0 name) (none_back 0))

with_one_back : (name : List ℕ) (d : Data) → IsBack 0 d → IsBack 1 (type_array name (d ∷ []))
with_one_back name d h = array_back _ (item_back (string name) _ (string_back 0 name) (item_back d no_items h (none_back 0)))

with_two_back : (name : List ℕ) (c d : Data) → IsBack 0 c → IsBack 0 d → IsBack 1 (type_array name (c ∷ d ∷ []))
with_two_back name c d g h =
    array_back _ (item_back (string name) _ (string_back 0 name) (item_back c _ g (item_back d no_items h (none_back 0))))

width_small : (bits : IntBits) → width bits < 2 ^ 64
width_small b.B8 = omega arith
width_small b.B16 = omega arith
width_small b.B32 = omega arith
width_small b.B64 = omega arith

text_or_null_back : (n : ℕ) (text : Option (List ℕ)) → IsBack n (text_or_null text)
text_or_null_back n None = null_back n
text_or_null_back n (Some text) = string_back n text

type_back : (kind : DataType) → HasGoodType kind → IsBack 1 (type_json kind)
type_back t.Null good = alone_back (codes "null")
type_back t.Bool good = alone_back (codes "bool")
type_back (t.Int bits signed) good = with_one_back (int_name signed) _ (unsigned_back 0 (width bits) (width_small bits))
type_back t.Binary good = alone_back (codes "binary")
type_back t.Utf8 good = alone_back (codes "utf8")
type_back (t.FixedSizeBinary size) good = with_one_back (codes "fixed_size_binary") _ (unsigned_back 0 size (omega (arith, good)))
type_back (t.Date unit) good = with_one_back (codes "date") _ (string_back 0 (date_unit_name unit))
type_back (t.Time unit) good = with_one_back (codes "time") _ (string_back 0 (unit_name unit))
type_back (t.Timestamp unit zone) good =
    with_two_back (codes "timestamp") _ _ (string_back 0 (unit_name unit)) (text_or_null_back 0 zone)
type_back (t.Duration unit) good = with_one_back (codes "duration") _ (string_back 0 (unit_name unit))
type_back t.List good = alone_back (codes "list")
type_back (t.FixedSizeList size) good = with_one_back (codes "fixed_size_list") _ (unsigned_back 0 size (omega (arith, good)))
type_back t.Struct good = alone_back (codes "struct")

deeper : {n m : ℕ} (d : Data) → n ≤ m → IsBack n d → IsBack m d
deeper d low back = record { reads = back.reads; numbers = back.numbers; shallow = omega (arith, low, back.shallow) }

dictionary_back : (o : Option Dictionary) → HasWideId o → IsBack 2 (dictionary_json o)
dictionary_back None wide = null_back 2
dictionary_back (Some d) wide =
    array_back _ (item_back _ _ (signed_back 1 d.id wide) (item_back _ _ (type_back (t.Int d.index.bits d.index.signed) tt)
    (item_back _ _ (boolean_back 1 d.ordered) (none_back 1))))

pair_back : (p : List ℕ × List ℕ) → IsBack 1 (pair_json p)
pair_back p = array_back _ (item_back _ _ (string_back 0 p.0) (item_back _ _ (string_back 0 p.1) (none_back 0)))

all_pairs_back : (pairs : List (List ℕ × List ℕ)) → AllByRecursion (IsBack 1) (map pair_json pairs)
all_pairs_back [] = tt
all_pairs_back (p ∷ ps) = (pair_back p, all_pairs_back ps)

pairs_back : (pairs : List (List ℕ × List ℕ)) → IsBack 2 (pairs_json pairs)
pairs_back pairs = array_back _ (items_back _ (all_pairs_back pairs))

-- ---- fields

six_members : (a b c d e f : Data) → of_json (outline a) ≡ Some a → of_json (outline b) ≡ Some b → of_json (outline c) ≡ Some c
    → of_json (outline d) ≡ Some d → of_json (outline e) ≡ Some e → of_json (outline f) ≡ Some f
    → of_json (outline (object (member (codes "children") a (member (codes "dictionary") b (member (codes "metadata") c
    (member (codes "name") d (member (codes "nullable") e (member (codes "type") f no_members))))))))
    ≡ Some (object (member (codes "children") a (member (codes "dictionary") b (member (codes "metadata") c
    (member (codes "name") d (member (codes "nullable") e (member (codes "type") f no_members)))))))
six_members a b c d e f p q r s u v = rw (p, q, r, s, u, v) refl

first_entry : (f : Field) (d : ℕ) → 1 ≤ length (preorder f d)
first_entry f d = let n = ap length (preorder_unrolled f d) in omega (arith, n)

few_children : (fs : List Field) (d : ℕ) → length fs ≤ length (all_at d (map preorder fs))
few_children [] d = omega arith
few_children (f ∷ fs) d =
    omega (arith, first_entry f d, few_children fs d, length-append (preorder f d) (all_at d (map preorder fs)))

-- what is asked of an entry: its numbers have 64 bits
abbrev IsNarrow : Entry → Type 0
IsNarrow e = HasGoodType e.kind × HasWideId e.dictionary

own_back : {A : Type 0} → (f : Field-F A) → HasGoodType f.kind → HasWideId f.dictionary → length f.children < 2 ^ 64 → IsBack 3 (own_json f)
own_back f good wide few =
    let children = unsigned_back 2 (length f.children) few in
    let dictionary = dictionary_back f.dictionary wide in
    let metadata = pairs_back f.metadata in
    let kind = type_back f.kind good in
    record {
      reads = six_members _ _ _ _ _ _ children.reads dictionary.reads metadata.reads refl refl kind.reads;
      numbers = (children.numbers, (dictionary.numbers, (metadata.numbers, (tt, (tt, (kind.numbers, tt))))));
      shallow = omega (
        arith,
        max-le children.shallow (max-le dictionary.shallow (max-le metadata.shallow (max-le (string_back 2 f.name).shallow
            (max-le (boolean_back 2 f.nullable).shallow (max-le (deeper _ (omega arith) kind).shallow (none_back 2).shallow))))),
      );
    }

abbrev IsFieldBack : Field → Type 0
IsFieldBack f = (d : ℕ) → AllByRecursion IsNarrow (preorder f d) → length (preorder f d) < 2 ^ 64 → AllByRecursion (IsBack 3) (field_json f)

abbrev Back : Type 0
Back = (f : Field) × IsFieldBack f

abbrev fields_of : List Back → List Field
fields_of bs = map (λ p. p.0) bs

all_both : {A : Type 0} (P : A → Type 0) (xs ys : List A) → AllByRecursion P xs → AllByRecursion P ys → AllByRecursion P (xs ++ ys)
all_both P [] ys h k = k
all_both P (x ∷ xs) ys h k = (h.0, all_both P xs ys h.1 k)

children_back : (bs : List Back) (d : ℕ) → AllByRecursion IsNarrow (all_at d (map preorder (fields_of bs)))
    → length (all_at d (map preorder (fields_of bs))) < 2 ^ 64 → AllByRecursion (IsBack 3) (flat_map field_json (fields_of bs))
children_back [] d h few = tt
children_back (f ∷ fs) d h few =
    let rest = all_at d (map preorder (fields_of fs)) in
    let parts = all_split IsNarrow (preorder f.0 d) rest h in
    let sum = length-append (preorder f.0 d) rest in
    all_both (IsBack 3) (field_json f.0) _ (f.1 d parts.0 (omega (arith, few, sum)))
    (children_back fs d parts.1 (omega (arith, few, sum)))

field_layer : (y : Field-F Back) → IsFieldBack (roll-Field (map-Field Back Field (λ p. p.0) y))
field_layer y = λ d narrow few.
    let z : Field-F Field = map-Field Back Field (λ p. p.0) y in
    let list : preorder (roll-Field z) d ≡ preorder_step (map-Field Field Listing preorder z) d =
    subst (λ (l : Listing). preorder (roll-Field z) d ≡ l d) (fold-roll-Field Listing preorder_step z) refl in
    let each = subst (AllByRecursion IsNarrow) list narrow in
    let all : length (preorder_step (map-Field Field Listing preorder z) d) < 2 ^ 64 =
    subst (λ (es : List Entry). length es < 2 ^ 64) list few in
    let some = few_children (fields_of y.children) (d + 1) in
    let same = length-map (fields_of y.children) field_json in
    subst (AllByRecursion (IsBack 3)) (sym (fold-roll-Field (List Data) field_step z)) (
      own_back (map-Field Field (List Data) field_json z) each.0.0 each.0.1 (omega (arith, all, some, same)),
      subst (AllByRecursion (IsBack 3)) (sym (joined (fields_of y.children)))
          (children_back y.children (d + 1) each.1 (omega (arith, all))),
    )

field_back : (f : Field) → IsFieldBack f
field_back = ind-Field IsFieldBack (λ x y is. subst (λ z. IsFieldBack (roll-Field z)) is (field_layer y))

fields_back : (fs : List Field) (d : ℕ) → AllByRecursion IsNarrow (all_at d (map preorder fs))
    → length (all_at d (map preorder fs)) < 2 ^ 64 → AllByRecursion (IsBack 3) (flat_map field_json fs)
fields_back [] d h few = tt
fields_back (f ∷ fs) d h few =
    let rest = all_at d (map preorder fs) in
    let parts = all_split IsNarrow (preorder f d) rest h in
    let sum = length-append (preorder f d) rest in
    all_both (IsBack 3) (field_json f) _ (field_back f d parts.0 (omega (arith, few, sum)))
    (fields_back fs d parts.1 (omega (arith, few, sum)))

-- ---- the schema

two_members : (a b : Data) → of_json (outline a) ≡ Some a → of_json (outline b) ≡ Some b
    → of_json (outline (object (member (codes "fields") a (member (codes "metadata") b no_members))))
    ≡ Some (object (member (codes "fields") a (member (codes "metadata") b no_members)))
two_members a b p q = rw (p, q) refl

narrow : (limits : Limits) (es : List Entry) → AllByRecursion (IsFieldWellFormed limits) es
    → AllByRecursion (λ e. HasWideId e.dictionary) es → AllByRecursion IsNarrow es
narrow limits [] w ids = tt
narrow limits (e ∷ es) w ids = ((w.0.good_type, ids.0), narrow limits es w.1 ids.1)

schema_back : (limits : Limits) (s : Schema) → IsStandard limits → WellFormed limits s
    → AllByRecursion (λ e. HasWideId e.dictionary) (entries s.fields) → IsBack 5 (schema_json s)
schema_back limits s standard formed wide =
    let few = formed.few_fields in
    let most = standard.fields in
    let each = narrow limits (entries s.fields) formed.each wide in
    let fields = array_back _ (items_back _ (fields_back s.fields 1 each (omega (arith, few, most)))) in
    let metadata = pairs_back s.metadata in
    record {
      reads = two_members _ _ fields.reads metadata.reads;
      numbers = (fields.numbers, (metadata.numbers, tt));
      shallow = omega (arith, max-le fields.shallow (max-le (deeper _ (omega arith) metadata).shallow (none_back 4).shallow));
    }

-- the text of a schema that is well formed under the standard limits, and whose dictionaries' ids have 64 bits, reads as its JSON data
pub schema_read : (limits : Limits) (s : Schema) → IsStandard limits → WellFormed limits s
    → AllByRecursion (λ e. HasWideId e.dictionary) (entries s.fields) → read (schema_text s) ≡ Some (schema_json s)
schema_read limits s standard formed wide = text_back (schema_json s) (omega arith) (schema_back limits s standard formed wide)
