-- The map of what is in force, after one is put there.
use Rattle.std.proofs.Common.{◌≡◌, ℕ, ◌+◌, ◌≤◌, ℤ, true, false, List, [], ◌∷◌, map, cond, refl, sym, ap, ◌∙◌, arith, Some, None, Option}
use Rattle.std.specs.Ordering.{int_cmp, match_ordering}
use Rattle.std.specs.declared.cmp.Ordering.TheVariants.{Less, Equal, Greater}
use Rattle.std.specs.BTreeMap.{BTreeMap, insert_entry, is_at}
use Rattle.std.specs.Map.{lookup, keys_of, values_of}
use Rattle.std.specs.Option.{option_map, unwrap_or}
use Rattle.std.specs.List.Sorted.{IsStrictlySortedBy}
use Rattle.std.specs.declared.sync.Arc.{Arc}
use Rattle.std.proofs.lemmas.Cmp.{int_cmp_total}
use Rattle.std.proofs.lemmas.Map.Entries.{sum_by-insert_entry}
use Rattle.std.specs.List.{sum_by, AllByRecursion}
use Rattle.std.proofs.lemmas.List.Sums.{sum_by-cons}
use Rattle.std.proofs.lemmas.Map.Made.{lookup-map_values}
use Rattle.ipc_column.specs.Contents.{Contents}
use Rattle.ipc_column.specs.DictionaryBatches.{IsDictionary}
use Rattle.ipc_dict_read.specs.InForce.{put, in_force, total, body_len_of}

module _ {X Z : Type 0} where
  -- what is shared is put as what it holds
  pub plain-put : (es : List (ℤ × Arc X Z)) (k : ℤ) (r : Arc X Z)
      → map (λ e. (e.0, e.1.value)) (insert_entry int_cmp es k r) ≡ put (map (λ e. (e.0, e.1.value)) es) k r.value
  plain-put [] k r = refl
  plain-put (e ∷ es) k r =
      let f : ℤ × Arc X Z → ℤ × X = λ e. (e.0, e.1.value) in
      elim (int_cmp k e.0) as (λ o. map f (match_ordering o ((k, r) ∷ e ∷ es) ((e.0, r) ∷ es) (e ∷ insert_entry int_cmp es k r))
      ≡ match_ordering o ((k, r.value) ∷ f e ∷ map f es) ((e.0, r.value) ∷ map f es) (f e ∷ insert_entry int_cmp (map f es) k r.value))
      [ Less ↦ refl | Equal ↦ refl | Greater ↦ ap (λ t. f e ∷ t) (plain-put es k r) ]

-- the bytes of all bodies, once one took the place of another
pub total-put : (m : List (ℤ × Contents)) (k : ℤ) (v : Contents) → IsStrictlySortedBy int_cmp (keys_of m)
    → total (put m k v) + body_len_of m k ≡ total m + v.body_len
total-put m k v sorted = sum_by-insert_entry (λ v. v.body_len) int_cmp_total m k v sorted

-- one body has no more bytes than all
pub body-le-total : (m : List (ℤ × Contents)) (k : ℤ) → body_len_of m k ≤ total m
body-le-total [] k = omega arith
body-le-total (e ∷ es) k =
    let h = body-le-total es k in
    let f : Contents → ℕ = λ v. v.body_len in
    let e1 = sum_by-cons f e.1 (values_of es) in
    elim (is_at (int_cmp k) e.0) as (λ b. unwrap_or (option_map f (cond b (Some e.1) (lookup (is_at (int_cmp k)) es))) 0
    ≤ sum_by f (values_of (e ∷ es))) [ true ↦ omega (arith, e1) | false ↦ omega (arith, e1, h) ]

module _ {Z : Type 0} where
  -- what a look-up in the shared map finds
  pub body_of-found : (m : BTreeMap ℤ (Arc Contents Z)) (id k : ℤ) (r : Option (Arc Contents Z)) → k ≡ id
      → r ≡ lookup (is_at (int_cmp k)) m.entries
      → unwrap_or (option_map (λ (x : Arc Contents Z). x.value.body_len) r) 0 ≡ body_len_of (in_force m) id
  body_of-found m id k r same found =
      let g : Arc Contents Z → Contents = λ x. x.value in
      let f : Contents → ℕ = λ v. v.body_len in
      let e1 : unwrap_or (option_map (λ (x : Arc Contents Z). x.value.body_len) r) 0 ≡ unwrap_or (option_map f (option_map g r)) 0 =
      elim r as (λ o. unwrap_or (option_map (λ (x : Arc Contents Z). x.value.body_len) o) 0 ≡ unwrap_or (option_map f (option_map g o)) 0)
      [ None ↦ refl | Some x ↦ refl ] in
      e1 ∙ ap (λ o. unwrap_or (option_map f o) 0) (ap (option_map g) found ∙ sym (lookup-map_values g (is_at (int_cmp k)) m.entries))
      ∙ ap (body_len_of (in_force m)) same

  -- a map of dictionaries' values is one with those of one more
  pub values-put : (es : List (ℤ × Arc Contents Z)) (k : ℤ) (r : Arc Contents Z) → AllByRecursion (λ e. IsDictionary e.1.value) es
      → IsDictionary r.value → AllByRecursion (λ (e : ℤ × Arc Contents Z). IsDictionary e.1.value) (insert_entry int_cmp es k r)
  values-put [] k r all one = (one, tt)
  values-put (e ∷ es) k r all one =
      elim (int_cmp k e.0) as (λ o. AllByRecursion (λ (x : ℤ × Arc Contents Z). IsDictionary x.1.value)
      (match_ordering o ((k, r) ∷ e ∷ es) ((e.0, r) ∷ es) (e ∷ insert_entry int_cmp es k r)))
      [ Less ↦ (one, all) | Equal ↦ (one, all.1) | Greater ↦ (all.0, values-put es k r all.1 one) ]
