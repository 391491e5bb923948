-- One step of a walk over a row.
use Rattle.std.proofs.Common.{◌≡◌, ℕ, ◌+◌, ◌<◌, ℤ, List, [], ◌∷◌, ◌++◌, map, length, get_or}
use Rattle.std.proofs.Common.{drop, refl, sym, ap, subst, ◌∙◌, add-one, drop-cons}
use Rattle.std.proofs.Common.{rules, Option, None}
use Rattle.ipc_model.specs.declared.schema.DataType.{DataType}
use Rattle.ipc_model.specs.declared.schema.DataType.TheVariants as kind
use Rattle.ipc_model.specs.declared.schema.Dictionary.{Dictionary}
use Rattle.ipc_model.specs.declared.schema.Field.{Field, out-Field, fold_out-Field}
use Rattle.ipc_model.specs.declared.value.Value as value
use Rattle.ipc_model.specs.declared.value.Value.{out-Value, roll-Value, roll-out-Value, the_lemmas}
use Rattle.ipc_model.specs.declared.value.Value.TheOpen.{Value-F}
use Rattle.ipc_model.specs.declared.value.Value.{Value}
use Rattle.ipc_dict.specs.declared.entry.TallyEntry.{TallyEntry}
use Rattle.ipc_dict.specs.Noting.{note_all, IsIndexOverflow}
use Rattle.ipc_dict.specs.Pairs.{Walk, pairs, pairs_step, inner_pairs, items_pairs, each_pairs, value_pairs}
use Rattle.ipc_dict.proofs.Notes.{note_all-append, full-append}

pub items-step : (w : Walk) (vs : List Value) (i : ℕ) (v : Value) → i < length vs → v ≡ get_or vs i v
    → items_pairs w (drop i vs) ≡ w v ++ items_pairs w (drop (i + 1) vs)
items-step w vs i v h at = rw (add-one, drop-cons vs i v h, ← at) refl

pub each-step : (fs : List Field) (vs : List Value) (i : ℕ) (f : Field) (v : Value) → i < length fs → i < length vs → f ≡ get_or fs i f
    → v ≡ get_or vs i v
    → each_pairs (map pairs (drop i fs)) (drop i vs) ≡ pairs f v ++ each_pairs (map pairs (drop (i + 1) fs)) (drop (i + 1) vs)
each-step fs vs i f v h k atf atv = rw (add-one, drop-cons fs i f h, drop-cons vs i v k, ← atf, ← atv) refl

-- the pairs that are left are those of one more value and the rest
module _ (t u w : List TallyEntry) (all left one rest : List (ℤ × Value)) where
  pub noted-step : note_all u left ≡ note_all t all → left ≡ one ++ rest → w ≡ note_all u one → note_all w rest ≡ note_all t all
  noted-step inv split now = ap (λ x. note_all x rest) now ∙ sym (note_all-append u one rest) ∙ ap (note_all u) (sym split) ∙ inv

  pub full-step : note_all u left ≡ note_all t all → left ≡ one ++ rest → IsIndexOverflow (note_all u one)
      → IsIndexOverflow (note_all t all)
  full-step inv split h = subst IsIndexOverflow inv (subst (λ ps. IsIndexOverflow (note_all u ps)) (sym split) (full-append u one rest h))

out-Struct : (ws : List Value) → out-Value (value.Struct ws) ≡ Value-F.Struct ws
out-Struct ws = search (rules, the_lemmas)

-- of a struct without a dictionary
pub struct_pairs : (f : Field) (v : Value) (ws : List Value) (cs : List Field) (vs : List Value) → (out-Field f).dictionary ≡ None
    → (out-Field f).kind ≡ kind.Struct → cs ≡ (out-Field f).children → v ≡ value.Struct ws → vs ≡ ws
    → pairs f v ≡ each_pairs (map pairs cs) vs
struct_pairs f v ws cs vs plain of_kind children is same =
    let inside : (d : Option Dictionary) (k : DataType) → d ≡ None → k ≡ kind.Struct
    → value_pairs d k (map pairs cs) v ≡ each_pairs (map pairs cs) vs = λ d k p q. rw (p, q, is, out-Struct, same) refl in
    ap (λ (w : Walk). w v) (fold_out-Field Walk pairs_step f)
    ∙ ap (λ fs. value_pairs (out-Field f).dictionary (out-Field f).kind (map pairs fs) v) (sym children)
    ∙ inside (out-Field f).dictionary (out-Field f).kind plain of_kind

-- without children nothing stands below
nothing_below : (k : DataType) (v : Value-F Value) → inner_pairs k [] v ≡ []
nothing_below kind.Struct (Value-F.Struct vs) = refl
nothing_below kind.Struct v = refl
nothing_below k v = refl

-- a field without a dictionary and without children gives nothing
pub plain_pairs : (f : Field) (v : Value) → (out-Field f).dictionary ≡ None → (out-Field f).children ≡ [] → pairs f v ≡ []
plain_pairs f v plain alone =
    let inside : (d : Option Dictionary) (k : DataType) → d ≡ None → value_pairs d k [] v ≡ [] =
    λ d k p. rw p (nothing_below k (out-Value v)) in
    ap (λ (w : Walk). w v) (fold_out-Field Walk pairs_step f)
    ∙ ap (λ fs. value_pairs (out-Field f).dictionary (out-Field f).kind (map pairs fs) v) alone
    ∙ inside (out-Field f).dictionary (out-Field f).kind plain

-- ---- a value that stands in a field of another type

nothing_inside : (k : DataType) (walks : List Walk) (o : Value-F Value)
    → ((vs : List Value) → k ≡ kind.List → o ≡ Value-F.List vs → ⊥)
    → ((n : ℕ) (vs : List Value) → k ≡ kind.FixedSizeList n → o ≡ Value-F.List vs → ⊥)
    → ((vs : List Value) → k ≡ kind.Struct → o ≡ Value-F.Struct vs → ⊥) → inner_pairs k walks o ≡ []
nothing_inside kind.List (walk ∷ walks) (Value-F.List vs) list fixed struct = absurd (list vs refl refl)
nothing_inside (kind.FixedSizeList n) (walk ∷ walks) (Value-F.List vs) list fixed struct = absurd (fixed n vs refl refl)
nothing_inside kind.Struct walks (Value-F.Struct vs) list fixed struct = absurd (struct vs refl refl)
nothing_inside k walks o list fixed struct = refl

-- a field without a dictionary gives nothing of a value that is no list where it has lists, nor a struct where it has structs
pub no_pairs : (f : Field) (v : Value) → (out-Field f).dictionary ≡ None
    → ((vs : List Value) → (out-Field f).kind ≡ kind.List → v ≡ value.List vs → ⊥)
    → ((n : ℕ) (vs : List Value) → (out-Field f).kind ≡ kind.FixedSizeList n → v ≡ value.List vs → ⊥)
    → ((vs : List Value) → (out-Field f).kind ≡ kind.Struct → v ≡ value.Struct vs → ⊥) → pairs f v ≡ []
unfolding roll-Value denote.Hole.Carrier.roll
no_pairs f v plain list fixed struct =
    let rolled : (o : Value-F Value) → out-Value v ≡ o → v ≡ roll-Value o =
    λ o e. sym (roll-out-Value v) ∙ ap roll-Value e in
    let inside : (d : Option Dictionary) → d ≡ None → value_pairs d (out-Field f).kind (map pairs (out-Field f).children) v ≡ [] =
    λ d p. rw p (nothing_inside (out-Field f).kind (map pairs (out-Field f).children) (out-Value v)
    (λ vs k o. list vs k (rolled (Value-F.List vs) o)) (λ n vs k o. fixed n vs k (rolled (Value-F.List vs) o))
    (λ vs k o. struct vs k (rolled (Value-F.Struct vs) o))) in
    ap (λ (w : Walk). w v) (fold_out-Field Walk pairs_step f) ∙ inside (out-Field f).dictionary plain
