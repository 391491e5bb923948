-- What the entries of fields say of the dictionaries that they name and of the values that rows have there.
use Rattle.std.proofs.Common.{◌≡◌, refl, sym, subst, ℕ, ◌+◌, ℤ, Bool, List, [], ◌∷◌, map, length, Option, Some, None, inl, inr}
use Rattle.std.specs.List.{AllByRecursion}
use Rattle.std.proofs.lemmas.List.{length-map}
use Rattle.ipc_model.specs.Entries.{Entry, Listing, all_at, entries, entry_of, preorder, preorder_step}
use Rattle.ipc_model.specs.Fits.{EachFits, InnerFit, FitsOwnType, Fits, RowFits, fits_step}
use Rattle.ipc_model.specs.WellFormed.{IsAmong}
use Rattle.ipc_model.specs.declared.schema.DataType.{DataType}
use Rattle.ipc_model.specs.declared.schema.DataType.TheVariants as t
use Rattle.ipc_model.specs.declared.schema.Dictionary.{Dictionary}
use Rattle.ipc_model.specs.declared.schema.Field.{Field, roll-Field, ind-Field, fold-roll-Field, map-Field}
use Rattle.ipc_model.specs.declared.schema.Field.TheOpen.{Field-F}
use Rattle.ipc_model.specs.declared.value.Value.{Value, out-Value}
use Rattle.ipc_model.specs.declared.value.Value.TheOpen.{Value-F}
use Rattle.ipc_model.proofs.FitsLemmas.{fits_roll}
use Rattle.ipc_encode.proofs.HeldValues.{all_one, all_both, all_left, all_right}
use Rattle.ipc_dict.specs.Pairs.{Walk, items_pairs, each_pairs, inner_pairs, own_pair, value_pairs, pairs_step, pairs, row_pairs}
use Rattle.ipc_dict.specs.Pairs.{rows_pairs}
use Rattle.ipc_dict.specs.SchemaIds.{own}

-- each of several entries is among them
pub all_among : (es : List Entry) → AllByRecursion (λ e. IsAmong e es) es
all_among [] = tt
all_among (e ∷ es) = (inl refl, all_one (λ x. IsAmong x es) (λ x. IsAmong x (e ∷ es)) (λ x there. inr there) es (all_among es))

-- two facts of each make one of both
pub all_two : {X : Type 0} (P R : X → Type 0) (xs : List X) → AllByRecursion P xs → AllByRecursion R xs → AllByRecursion (λ x. P x × R x) xs
all_two P R [] p r = tt
all_two P R (x ∷ xs) p r = ((p.0, r.0), all_two P R xs p.1 r.1)

module _ (Q : Entry → Type 0) (P : ℤ × Value → Type 0)
    (gives : (e : Entry) (d : Dictionary) (nullable : Bool) (value : Value) → e.dictionary ≡ Some d → Q e
    → FitsOwnType e.kind nullable e.children (out-Value value) → P (d.id, value)) where
  -- what the entries of a field say of the pairs that a value gives which fits it
  abbrev Shows : Field → Type 0
  Shows f = (depth : ℕ) → AllByRecursion Q (preorder f depth) → (value : Value) → Fits f value → AllByRecursion P (pairs f value)

  items_shown : (f : Field) → ((value : Value) → Fits f value → AllByRecursion P (pairs f value)) → (vs : List Value)
      → AllByRecursion (Fits f) vs → AllByRecursion P (items_pairs (pairs f) vs)
  items_shown f shows [] fits = tt
  items_shown f shows (value ∷ vs) fits =
      all_both P (pairs f value) (items_pairs (pairs f) vs) (shows value fits.0) (items_shown f shows vs fits.1)

  each_shown : (fs : List Field) → AllByRecursion Shows fs → (depth : ℕ) → AllByRecursion Q (all_at depth (map preorder fs))
      → (vs : List Value) → EachFits Fits fs vs → AllByRecursion P (each_pairs (map pairs fs) vs)
  each_shown [] shows depth h vs fits = tt
  each_shown (f ∷ fs) shows depth h [] fits = tt
  each_shown (f ∷ fs) shows depth h (value ∷ vs) fits =
      let more = all_at depth (map preorder fs) in
      all_both P (pairs f value) (each_pairs (map pairs fs) vs)
      (shows.0 depth (all_left Q (preorder f depth) more h) value fits.0)
      (each_shown fs shows.1 depth (all_right Q (preorder f depth) more h) vs fits.1)

  inner_shown : (kind : DataType) (fs : List Field) → AllByRecursion Shows fs → (depth : ℕ)
      → AllByRecursion Q (all_at depth (map preorder fs)) → (w : Value-F Value) → InnerFit Fits kind fs w
      → AllByRecursion P (inner_pairs kind (map pairs fs) w)
  inner_shown t.List [] shows depth h w fits = tt
  inner_shown t.List (f ∷ fs) shows depth h (Value-F.List vs) fits =
      items_shown f (shows.0 depth (all_left Q (preorder f depth) (all_at depth (map preorder fs)) h)) vs fits
  inner_shown t.List (f ∷ fs) shows depth h _ fits = tt
  inner_shown (t.FixedSizeList n) [] shows depth h w fits = tt
  inner_shown (t.FixedSizeList n) (f ∷ fs) shows depth h (Value-F.List vs) fits =
      items_shown f (shows.0 depth (all_left Q (preorder f depth) (all_at depth (map preorder fs)) h)) vs fits
  inner_shown (t.FixedSizeList n) (f ∷ fs) shows depth h _ fits = tt
  inner_shown t.Struct fs shows depth h (Value-F.Struct vs) fits = each_shown fs shows depth h vs fits
  inner_shown t.Struct fs shows depth h _ fits = tt
  inner_shown t.Null fs shows depth h w fits = tt
  inner_shown t.Bool fs shows depth h w fits = tt
  inner_shown (t.Int bits signed) fs shows depth h w fits = tt
  inner_shown t.Binary fs shows depth h w fits = tt
  inner_shown t.Utf8 fs shows depth h w fits = tt
  inner_shown (t.FixedSizeBinary n) fs shows depth h w fits = tt
  inner_shown (t.Date unit) fs shows depth h w fits = tt
  inner_shown (t.Timestamp unit timezone) fs shows depth h w fits = tt
  inner_shown (t.Time unit) fs shows depth h w fits = tt
  inner_shown (t.Duration unit) fs shows depth h w fits = tt

  own_shown : (id : ℤ) (value : Value) (w : Value-F Value) → P (id, value) → AllByRecursion P (own_pair id value w)
  own_shown id value Value-F.Null p = tt
  own_shown id value (Value-F.Bool truth) p = (p, tt)
  own_shown id value (Value-F.Int z) p = (p, tt)
  own_shown id value (Value-F.UInt n) p = (p, tt)
  own_shown id value (Value-F.Bytes bytes) p = (p, tt)
  own_shown id value (Value-F.Text text) p = (p, tt)
  own_shown id value (Value-F.List values) p = (p, tt)
  own_shown id value (Value-F.Struct values) p = (p, tt)

  shown_in : (e : Entry) (d : Option Dictionary) (nullable : Bool) (fs : List Field) → e.dictionary ≡ d → Q e → e.children ≡ length fs
      → AllByRecursion Shows fs → (depth : ℕ) → AllByRecursion Q (all_at depth (map preorder fs)) → (value : Value)
      → FitsOwnType e.kind nullable (length fs) (out-Value value) → InnerFit Fits e.kind fs (out-Value value)
      → AllByRecursion P (value_pairs d e.kind (map pairs fs) value)
  shown_in e None nullable fs is q many shows depth h value own inner = inner_shown e.kind fs shows depth h (out-Value value) inner
  shown_in e (Some d) nullable fs is q many shows depth h value own inner =
      own_shown d.id value (out-Value value)
      (gives e d nullable value is q (subst (λ (n : ℕ). FitsOwnType e.kind nullable n (out-Value value)) (sym many) own))

  abbrev Showing : Type 0
  Showing = (f : Field) × Shows f

  each_showing : (cs : List Showing) → AllByRecursion Shows (map (λ c. c.0) cs)
  each_showing [] = tt
  each_showing (c ∷ cs) = (c.1, each_showing cs)

  layer_shown : (y : Field-F Showing) → Shows (roll-Field (map-Field Showing Field (λ c. c.0) y))
  layer_shown y = λ depth h value fits.
      let z : Field-F Field = map-Field Showing Field (λ c. c.0) y in
      let e : Entry = entry_of (map-Field Field Listing preorder z) depth in
      let all = subst (λ (l : Listing). AllByRecursion Q (l depth)) (fold-roll-Field Listing preorder_step z) h in
      let both : fits_step Field (λ g. g) Fits z value = subst (λ (F : Value → Type 0). F value) (fits_roll z) fits in
      subst (λ (walk : Walk). AllByRecursion P (walk value)) (sym (fold-roll-Field Walk pairs_step z))
      (shown_in e z.dictionary z.nullable z.children refl all.0 (length-map z.children preorder) (each_showing y.children) (depth + 1) all.1
      value both.0 both.1)

  field_shown : (f : Field) → Shows f
  field_shown = ind-Field Shows (λ x y is. subst (λ z. Shows (roll-Field z)) is (layer_shown y))

  all_shown : (fs : List Field) → AllByRecursion Shows fs
  all_shown [] = tt
  all_shown (f ∷ fs) = (field_shown f, all_shown fs)

  -- what the entries say of the values that rows have, which fit
  pub rows_shown : (fields : List Field) (rows : List (List Value)) → AllByRecursion Q (entries fields)
      → AllByRecursion (RowFits fields) rows → AllByRecursion P (rows_pairs fields rows)
  rows_shown fields [] h fits = tt
  rows_shown fields (row ∷ rows) h fits =
      all_both P (row_pairs fields row) (rows_pairs fields rows) (each_shown fields (all_shown fields) 1 h row fits.0.1)
      (rows_shown fields rows h fits.1)
