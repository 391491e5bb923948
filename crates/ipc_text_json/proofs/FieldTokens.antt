-- The tokens of a field are those of its members.
use Rattle.std.proofs.lemmas.List.Concat.{flat_map-append}
use Rattle.std.proofs.Common.{◌≡◌, ◌∙◌, refl, sym, ap, ℕ, ◌+◌, ◌<◌, length, drop, drop-cons, get_or, map, add-one, List, [], ◌∷◌, ◌++◌}
use Rattle.std.proofs.Common.{append_assoc, flat_map}
use Rattle.json.specs.Token.{Token}
use Rattle.json.specs.Tree.{json_tokens, items_tokens}
use Rattle.std.specs.Prelude.{codes}
use Rattle.serde_json.specs.Data.{Data}
use Rattle.serde_json.specs.Written.{outline, items_outline}
use Rattle.ipc_model.specs.declared.schema.Field.{Field, out-Field}
use Rattle.ipc_model.specs.declared.schema.Field.TheOpen.{Field-F}
use Rattle.ipc_model.specs.declared.schema.Schema.{Schema}
use Rattle.serde_json.specs.View.{items_of}
use Rattle.ipc_text_json.specs.SchemaJson.{own_json, first_tokens, last_tokens, tokens_of, field_json, pair_json}
use Rattle.ipc_text_json.specs.SchemaJson.{schema_json}
use Rattle.ipc_text_json.proofs.Trees.{field_unrolled}

-- the tokens of a field by itself are those of its first and its last members, in braces
pub own_tokens : {A : Type 0} → (f : Field-F A)
    → Token.begin_object ∷ first_tokens f ++ last_tokens f ++ Token.end_object ∷ [] ≡ json_tokens (outline (own_json f))
own_tokens f = simp append_assoc refl

-- what three tokens, others, and one more, put one after another, make
pub three_and_one : (o o1 o2 o3 o4 o5 : List Token) (a b c z : Token) (ms : List Token)
    → o1 ≡ o ++ a ∷ [] → o2 ≡ o1 ++ b ∷ [] → o3 ≡ o2 ++ c ∷ [] → o4 ≡ o3 ++ ms → o5 ≡ o4 ++ z ∷ []
    → o5 ≡ o ++ (a ∷ b ∷ c ∷ (ms ++ z ∷ []))
three_and_one o o1 o2 o3 o4 o5 a b c z ms p q r s t = rw (t, s, r, q, p) (simp append_assoc refl)

-- what three tokens, others, two more, and others, put one after another, make
pub three_and_two : (o o1 o2 o3 o4 o5 o6 o7 : List Token) (a b c d e : Token) (ms ns : List Token)
    → o1 ≡ o ++ a ∷ [] → o2 ≡ o1 ++ b ∷ [] → o3 ≡ o2 ++ c ∷ [] → o4 ≡ o3 ++ ms → o5 ≡ o4 ++ d ∷ []
    → o6 ≡ o5 ++ e ∷ [] → o7 ≡ o6 ++ ns → o7 ≡ o ++ (a ∷ b ∷ c ∷ (ms ++ (d ∷ e ∷ ns)))
three_and_two o o1 o2 o3 o4 o5 o6 o7 a b c d e ms ns p q r s t u v =
    rw (v, u, t, s, r, q, p) (simp append_assoc refl)

-- what five tokens and others, put one after another, make
pub five : (o o1 o2 o3 o4 o5 o6 : List Token) (a b c d e : Token) (ms : List Token)
    → o1 ≡ o ++ a ∷ [] → o2 ≡ o1 ++ b ∷ [] → o3 ≡ o2 ++ c ∷ [] → o4 ≡ o3 ++ d ∷ [] → o5 ≡ o4 ++ e ∷ []
    → o6 ≡ o5 ++ ms → o6 ≡ o ++ (a ∷ b ∷ c ∷ d ∷ e ∷ ms)
five o o1 o2 o3 o4 o5 o6 a b c d e ms p q r s t u = rw (u, t, s, r, q, p) (simp append_assoc refl)

-- where the entries of one more field are put, those of the rest lead to the same
pub more_entries : (o before after : List Token) (xs ys : List Data) → o ≡ before ++ tokens_of xs → before ++ tokens_of (xs ++ ys) ≡ after
    → o ++ tokens_of ys ≡ after
more_entries o before after xs ys e h =
    ap (λ ts. ts ++ tokens_of ys) e ∙ append_assoc before (tokens_of xs) (tokens_of ys)
    ∙ ap (λ ts. before ++ ts) (sym (flat_map-append (λ x. json_tokens (outline x)) xs ys)) ∙ h

-- the entries from a field on: its own and those below it, and then the rest
pub entries_from : (fs : List Field) (i : ℕ) (f : Field) → i < length fs → f ≡ get_or fs i f
    → flat_map field_json (drop i fs) ≡ field_json f ++ flat_map field_json (drop (i + 1) fs)
entries_from fs i f h e = rw (drop-cons fs i f) (rw (← e, add-one) refl)

-- where a field's own entry was put and then those below it, all entries of the field were
pub own_and_below : (f : Field) (o o1 o2 : List Token) → o1 ≡ o ++ json_tokens (outline (own_json (out-Field f)))
    → o2 ≡ o1 ++ tokens_of (flat_map field_json (out-Field f).children) → o2 ≡ o ++ tokens_of (field_json f)
own_and_below f o o1 o2 own below = rw (below, own, field_unrolled f) (append_assoc o _ _)

-- the tokens of an array's items are those of its values, and the closing bracket
pub items_are : (xs : List Data) → items_tokens (items_outline (items_of xs)) ≡ tokens_of xs ++ Token.end_array ∷ []
items_are [] = refl
items_are (x ∷ xs) =
    ap (λ ts. json_tokens (outline x) ++ ts) (items_are xs)
    ∙ sym (append_assoc (json_tokens (outline x)) (tokens_of xs) (Token.end_array ∷ []))

-- the tokens of a schema's parts, put one after another, are those of the schema
pub schema_tokens : (o o1 o2 o3 o4 o5 o6 o7 o8 o9 : List Token) (s : Schema)
    → o1 ≡ o ++ Token.begin_object ∷ [] → o2 ≡ o1 ++ Token.key (codes "fields") ∷ [] → o3 ≡ o2 ++ Token.begin_array ∷ []
    → o4 ≡ o3 ++ tokens_of (flat_map field_json s.fields) → o5 ≡ o4 ++ Token.end_array ∷ []
    → o6 ≡ o5 ++ Token.key (codes "metadata") ∷ [] → o7 ≡ o6 ++ Token.begin_array ∷ []
    → o8 ≡ o7 ++ items_tokens (items_outline (items_of (map pair_json s.metadata)))
    → o9 ≡ o8 ++ Token.end_object ∷ [] → o9 ≡ o ++ json_tokens (outline (schema_json s))
schema_tokens o o1 o2 o3 o4 o5 o6 o7 o8 o9 s a b c d e f g h i =
    rw (i, h, g, f, e, d, c, b, a, items_are (flat_map field_json s.fields)) (simp append_assoc refl)
