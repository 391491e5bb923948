-- A field and what stands below it.
use Rattle.std.proofs.Common.{◌≡◌, ◌∙◌, ◌+◌, ◌<◌, ℕ, List, [], ◌∷◌, ◌++◌, map, length, sym, ap, refl, subst, arith, append_assoc, flat_map}
use Rattle.std.proofs.Common.{length-append}
use Rattle.std.specs.List.{AllByRecursion}
use Rattle.ipc_text_json.specs.SchemaTexts.{IsReadable}
use Rattle.std.proofs.lemmas.List.{length-map, append-nil}
use Rattle.serde_json.specs.Data.{Data}
use Rattle.ipc_model.specs.Entries.{Listing, preorder, preorder_step, all_at, entry_of}
use Rattle.ipc_model.specs.declared.schema.Field.{Field, out-Field, roll-Field, roll-out-Field, fold-roll-Field}
use Rattle.ipc_text_json.specs.SchemaJson.{field_json, field_step, own_json}

-- the entries below a field are those of its children, one after another
pub joined : (fs : List Field) → flat_map (λ below. below) (map field_json fs) ≡ flat_map field_json fs
joined [] = refl
joined (f ∷ fs) = ap (λ l. field_json f ++ l) (joined fs)

-- a field's entries are its own and then those below it
pub field_unrolled : (f : Field) → field_json f ≡ own_json (out-Field f) ∷ flat_map field_json (out-Field f).children
field_unrolled f =
    ap field_json (sym (roll-out-Field f)) ∙ fold-roll-Field (List Data) field_step (out-Field f)
    ∙ rw (length-map (out-Field f).children field_json, joined (out-Field f).children) refl

-- what is asked of a field and of those below it, in the same order
pub preorder_unrolled : (f : Field) (place : ℕ)
    → preorder f place ≡ entry_of (out-Field f) place ∷ all_at (place + 1) (map preorder (out-Field f).children)
preorder_unrolled f place =
    ap (λ g. preorder g place) (sym (roll-out-Field f)) ∙ ap (λ (l : Listing). l place)
    (fold-roll-Field Listing preorder_step (out-Field f))
    ∙ rw (length-map (out-Field f).children preorder) refl

-- what stands first is the field's own entry, and behind it those below and the rest
pub split_field : (f : Field) (place : ℕ) (d : Data) (here rest : List Data) → d ∷ here ≡ field_json f ++ rest
    → AllByRecursion IsReadable (preorder f place)
    → (d ≡ own_json (out-Field f)) × (here ≡ flat_map field_json (out-Field f).children ++ rest)
    × IsReadable (entry_of (out-Field f) place)
    × AllByRecursion IsReadable (all_at (place + 1) (map preorder (out-Field f).children))
split_field f place d here rest e h =
    let q = e ∙ ap (λ l. l ++ rest) (field_unrolled f) in
    let r = subst (AllByRecursion IsReadable) (preorder_unrolled f place) h in
    (cc, cc, r.0, r.1)

-- two fields are one where they have the same parts
pub same_field : (f g : Field) → out-Field f ≡ out-Field g → f ≡ g
same_field f g e = sym (roll-out-Field f) ∙ ap roll-Field e ∙ roll-out-Field g

-- what holds of all of two lists holds of all of each
pub all_split : {A : Type 0} (P : A → Type 0) (xs ys : List A) → AllByRecursion P (xs ++ ys) → AllByRecursion P xs × AllByRecursion P ys
all_split P [] ys h = (tt, h)
all_split P (x ∷ xs) ys h = let r = all_split P xs ys h.1 in ((h.0, r.0), r.1)

-- what is known of the next of several fields, and of those behind it
pub next_child : (more : List Field) (place : ℕ) (here behind : List Data) → 0 < length more
    → AllByRecursion IsReadable (all_at place (map preorder more)) → here ≡ flat_map field_json more ++ behind
    → (g : Field) × (others : List Field) × (more ≡ g ∷ others) × AllByRecursion IsReadable (preorder g place)
    × AllByRecursion IsReadable (all_at place (map preorder others))
    × (here ≡ field_json g ++ (flat_map field_json others ++ behind))
next_child [] place here behind h r e = absurd (omega arith)
next_child (g ∷ others) place here behind h r e =
    let s = all_split IsReadable (preorder g place) (all_at place (map preorder others)) r in
    (g, others, refl, s.0, s.1, e ∙ append_assoc (field_json g) (flat_map field_json others) behind)

-- the entries of fields with one more
pub joined_more : (fs : List Field) (f : Field) → flat_map field_json (fs ++ f ∷ []) ≡ flat_map field_json fs
    ++ field_json f
joined_more [] f = append-nil (field_json f)
joined_more (g ∷ gs) f =
    ap (λ l. field_json g ++ l) (joined_more gs f) ∙ sym (append_assoc (field_json g) (flat_map field_json gs) (field_json f))

-- where entries are left, so are fields
pub more_left : (more : List Field) (l : List Data) → l ≡ flat_map field_json more ++ [] → 0 < length l → 0 < length more
more_left [] l e h = let n = ap length e in absurd (omega arith)
more_left (g ∷ gs) l e h = omega arith

-- where none are left, neither are fields
pub none_more : (more : List Field) (l : List Data) → l ≡ flat_map field_json more ++ [] → length l ≡ 0 → more ≡ []
none_more [] l e h = refl
none_more (g ∷ gs) l e h =
    let u = e ∙ ap (λ x. (x ++ flat_map field_json gs) ++ []) (field_unrolled g) in
    let n = ap length u in absurd (omega arith)

-- a field takes one entry or more
pub shrinks : (f : Field) (l rest : List Data) → l ≡ field_json f ++ rest → length rest < length l
shrinks f l rest e =
    let below = flat_map field_json (out-Field f).children in
    let u = e ∙ ap (λ x. x ++ rest) (field_unrolled f) in
    let n = ap length u in omega (arith, length-append below rest)
