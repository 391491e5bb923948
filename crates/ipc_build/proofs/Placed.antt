-- What is laid out lies there: one induction over the tree, for tables and for vectors at once.
use Rattle.std.proofs.Common.{◌≡◌, ℕ, zero, suc, ◌+◌, ◌-◌, ◌*◌, ◌/◌, ◌%◌, ◌^◌, ◌≤◌, ◌<◌, List, []}
use Rattle.std.proofs.Common.{◌∷◌, ◌++◌, length, Ok, Some, refl, ap, sym, ◌∙◌, subst, arith}
use Rattle.std.proofs.lemmas.List.{length-replicate}
use Rattle.std.specs.Prelude.{ℤ}
use Rattle.std.specs.Int.{w64, cast_signed, cast_unsigned}
use Rattle.std.proofs.Common.{FitsSigned}
use Rattle.std.proofs.lemmas.Int.{to_z-of_z}
use Rattle.ipc_scalar.specs.Bytes.{num, int64}
use Rattle.ipc_flat.specs.Flat.{vtable_of, field_place}
use Rattle.ipc_build.specs.Trees.{Content, Tree, none, field}
use Rattle.ipc_build.specs.Trees as k
use Rattle.ipc_build.specs.Layout.{little, padding, prefix_place, members, entry_count, table_place, inline_end, target_end}
use Rattle.ipc_build.specs.Layout.{targets_end, inline_value, inline_bytes, vtable_entries, own_bytes, struct_bytes, target_bytes}
use Rattle.ipc_build.specs.Layout.{targets}
use Rattle.ipc_build.specs.Encodes.{in_table, in_vector, inline_width, EncodesPairs, IsTablePlaced, EncodesTarget, EncodesTable}
use Rattle.ipc_build.specs.Ascends.{fields, elements, PairsFit, IsInRange, Below, Writable}
use Rattle.ipc_build.proofs.Has.{Has, has_at, has_left, has_right, has_past, has_num, has_num_front, has_narrow}
use Rattle.ipc_scalar.proofs.Places.{length_low_bytes}
use Rattle.ipc_build.proofs.Points.{slot_found, slot_zero, points_at, table_there, elements_there, string_there, vtable_there}
use Rattle.ipc_build.proofs.Upward.{Up, ends_up, target_ends_up}
use Rattle.ipc_build.proofs.Lengths.{length_inline, entry_count_up, members_below, entry_count_small, Stored, Entered, absent_entry}
use Rattle.ipc_build.proofs.Lengths.{multiple, Parts, length_own, parts, signed_below, value_fits, length_pairs, element_range}
use Rattle.ipc_build.proofs.Lengths.{target_length, length_targets}

module _ (P : ℕ → ℕ → Type 0) (b : List ℕ) (aligned : (w p q : ℕ) → p ≡ q * w → P w p) where
  -- eight bytes of a signed number are read as it
  int_lies : (z : ℤ) (q : ℕ) (l : List ℕ) → FitsSigned w64 z → Has b q (little 8 (cast_unsigned w64 z) ++ l) → int64 b q ≡ z
  int_lies z q l fits h =
      ap (cast_signed w64) (has_num_front b q 8 (cast_unsigned w64 z) l (signed_below w64 z fits) h) ∙ to_z-of_z w64 z fits

  pairs_lie : (xs : List (ℤ × ℤ)) (q : ℕ) → PairsFit xs → q % 8 ≡ 0 → Has b q (struct_bytes xs) → EncodesPairs P b q xs
  unfolding EncodesPairs struct_bytes
  pairs_lie [] q fine e h = tt
  pairs_lie (x ∷ xs) q fine e h =
      let second = has_past b q 8 (cast_unsigned w64 x.0) _ h in
      let behind = has_past b (q + 8) 8 (cast_unsigned w64 x.1) _ second in (
        int_lies x.0 q _ fine.0 h,
        int_lies x.1 (q + 8) _ fine.1 second,
        (aligned 8 q (q / 8) (omega arith), aligned 8 (q + 8) (q / 8 + 1) (omega arith)),
        pairs_lie xs (q + 16) fine.2 (omega arith) (has_at b _ (q + 16) _ (omega arith) behind),
      )

  -- where the fields of a table are stored, and its vtable has their entries, they lie there
  abbrev InTable : Tree → Type 0
  InTable f = (t n h p : ℕ) → Writable (fields n) f → Entered b t n h f → Stored b 8 f h p → h % 8 ≡ 0 → EncodesTable P b (in_table t) f

  -- where the elements of a vector of tables are stored, they lie there
  abbrev InVector : Tree → Type 0
  InVector f = (q p : ℕ) → Writable elements f → Stored b 4 f q p → q % 4 ≡ 0 → EncodesTable P b (in_vector q) f

  -- a tree lies where it is laid out, as the fields of a table and as the elements of a vector
  pub record Placed (f : Tree) : Type 0 where
    pub in_a_table : InTable f
    pub in_a_vector : InVector f

  table_lies : (f : Tree) (p : ℕ) → Writable (fields 0) f → Has b p (own_bytes f p) → Has b (inline_end f p) (targets f (inline_end f p))
      → targets_end f (inline_end f p) < 2 ^ 31 → p % 4 ≡ 0
      → (vtable_of b (table_place f p) ≡ Ok p) × IsTablePlaced P b (table_place f p) f
      × Entered b (table_place f p) 0 (table_place f p + 4) f
      × Stored b 8 f (table_place f p + 4) (inline_end f p)
  table_lies f p h head behind small even = (
    found,
    record {
      vtable = p;
      vtable_is = found;
      holds = aligned 4 _ ((p + 4 + 2 * entry_count 0 f + 3) / 8 * 2 + 1) (omega arith);
      inside = omega (arith, inline_size, ends);
      entries = λ i j. aligned 2 _ (p / 2 + i) (omega arith);
      absent = λ n w no_such. slot_zero b _ p n w found (absent_entry b f p n h size ps.entered no_such);
    },
    record {
      vtable = p;
      vtable_is = found;
      size = size;
      ends = omega (arith, inline_size);
      there = subst (λ (d : ℕ). Has b (p + 4) (vtable_entries 0 d f)) (omega arith) ps.entered;
      above = omega arith;
      near = omega arith;
    },
    record { front = ps.front; behind = behind; apart = omega arith; small = small; even = omega arith },
  )
    where
      ps : Parts b f p
      ps = parts b f p h head

      ts : entry_count 0 f ≤ 16
      ts = entry_count_small f 0 (omega arith) h

      up : inline_end f p ≤ targets_end f (inline_end f p)
      up = (ends_up f (inline_end f p)).more

      size : num b p 2 ≡ 4 + 2 * entry_count 0 f
      size = has_num b p 2 _ (omega (arith, ts)) ps.size

      ms : members f ≤ entry_count 0 f
      ms = let m = members_below f 0 h in omega (arith, m)

      inline_size : num b (p + 2) 2 ≡ 4 + 8 * members f
      inline_size = has_num b _ 2 _ (omega (arith, ts, ms)) ps.inline_size

      ends : table_place f p + 4 + 8 * members f ≤ length b
      ends =
          let l = length_inline 8 f (table_place f p + 4) (inline_end f p) in
          let i = ps.front.inside in
          omega (arith, i, l)

      found : vtable_of b (table_place f p) ≡ Ok p
      found =
          let i = ps.back.inside in
          let l = length_low_bytes 0 4 (table_place f p - p) in
          vtable_there b (table_place f p) p (4 + 2 * entry_count 0 f) (has_num b _ 4 _ (omega (arith, up, small)) ps.back)
          (omega (arith, up, small)) (omega arith) size (omega arith) (omega arith) (omega (arith, i, l)) (omega (arith, i))

  -- where the right number stands at h, and the bytes of what it points to at p, this lies there
  target_lies : (content : Content) (f : Tree) (h p : ℕ) → IsInRange content → Below content (λ s. Writable s f)
      → num b h (inline_width content) ≡ inline_value content f h p → h + 4 ≤ p → Has b p (target_bytes content f (targets f) p)
      → target_end content f (targets_end f) p < 2 ^ 31 → p % 4 ≡ 0 → Placed f
      → EncodesTarget P b content f (λ there. EncodesTable P b there f) h
  target_lies (k.byte x) f h p fine inner e apart there small even below = e
  target_lies (k.signed w z) f h p fine inner e apart there small even below = ap (cast_signed w) e ∙ to_z-of_z w z fine.0
  target_lies (k.string s) f h p fine inner e apart there small even below =
      let tail = has_past b p 4 (length s) _ there in
      let own = has_left b (p + 4) s _ tail in
      let zero_byte = has_left b (p + 4 + length s) (padding 1) _ (has_right b (p + 4) s _ tail) in
      let j : p + 4 + length s + 1 ≤ length b = zero_byte.inside in
      let points_p = points_at b h p e apart (omega (arith, j)) in
      let n = has_num_front b p 4 (length s) _ (omega arith) there in
      record {
        start = p;
        points_there = points_p;
        holds = aligned 4 p (p / 4) (omega arith);
        text = string_there b s h (p + 4) (elements_there b h p (length s) 1 points_p n (omega (arith, j)) (omega (arith, j))) own fine;
        closed = (omega (arith, j), has_num b _ 1 0 (omega arith) zero_byte);
      }
  target_lies (k.pairs xs) f h p fine inner e apart there small even below =
      let q = prefix_place p in
      let z = length-replicate {A = ℕ} (q - p) 0 in
      let one = has_at b _ q _ (omega (arith, z)) (has_right b p (padding (q - p)) _ there) in
      let own = has_past b q 4 (length xs) _ one in
      let i = own.inside in
      let m = length_pairs xs in
      let n = has_num_front b q 4 (length xs) _ (omega arith) one in (
        q,
        elements_there b h q (length xs) 16 (points_at b h q e (omega arith) (omega arith)) n (omega arith) (omega arith),
        aligned 4 q ((p + 3) / 8 * 2 + 1) (omega arith),
        pairs_lie xs (q + 4) fine (omega arith) own,
      )
  target_lies k.table f h p fine inner e apart there small even below =
      let l = length_own f p inner in
      let rest = has_at b _ (inline_end f p) _ (omega (arith, l)) (has_right b p (own_bytes f p) _ there) in
      let t = table_lies f p inner (has_left b p (own_bytes f p) _ there) rest small even in
      let i = rest.inside in (
        table_place f p,
        table_there b h (table_place f p) p (points_at b h (table_place f p) e (omega arith) (omega arith)) t.0,
        t.1,
        below.in_a_table (table_place f p) 0 (table_place f p + 4) (inline_end f p) inner t.2 t.3 (omega arith),
      )
  target_lies k.tables f h p fine inner e apart there small even below =
      let q = p + 4 + 4 * members f in
      let u = (ends_up f q).more in
      let tail = has_past b p 4 (members f) _ there in
      let m = length_inline 4 f (p + 4) q in
      let behind = has_at b _ q _ (omega (arith, m)) (has_right b (p + 4) (inline_bytes 4 f (p + 4) q) _ tail) in
      let i = behind.inside in
      let n = has_num_front b p 4 (members f) _ (omega (arith, u, small)) there in (
        p,
        elements_there b h p (members f) 4 (points_at b h p e apart (omega arith)) n (omega arith) (omega arith),
        aligned 4 p (p / 4) (omega arith),
        below.in_a_vector (p + 4) q inner (record {
          front = has_left b (p + 4) (inline_bytes 4 f (p + 4) q) _ tail;
          behind = behind;
          apart = omega arith;
          small = small;
          even = omega arith;
        }) (omega arith),
      )

  -- a width divides 8
  width_divides : (content : Content) → IsInRange content → (j : ℕ) × (j * inline_width content ≡ 8)
  width_divides (k.byte x) fine = (8, refl)
  width_divides (k.signed w z) fine = fine.1
  width_divides (k.string s) fine = (2, refl)
  width_divides (k.pairs xs) fine = (2, refl)
  width_divides k.table fine = (2, refl)
  width_divides k.tables fine = (2, refl)

  at_most_8 : (j w : ℕ) → j * w ≡ 8 → w ≤ 8
  at_most_8 zero w e = absurd (omega arith)
  at_most_8 (suc j) w e = omega arith

  -- the first of the fields that are stored: where its bytes end, that it lies there, and the others stored behind it
  record First (c : ℕ) (content : Content) (inner rest : Tree) (h p : ℕ) : Type 0 where
    inside : h + c ≤ length b
    lies : EncodesTarget P b content inner (λ there. EncodesTable P b there inner) h
    others : Stored b c rest (h + c) (target_end content inner (targets_end inner) p)

  first : (c m : ℕ) (content : Content) (inner rest : Tree) (h p : ℕ) → 4 ≤ c → inline_width content ≤ c
      → IsInRange content × Below content (λ s. Writable s inner) → Placed inner → Stored b c (field m content inner rest) h p
      → First c content inner rest h p
  unfolding inline_bytes targets members targets_end
  first c m content inner rest h p four narrow fine inner_placed stored = record {
    inside = let l = length_low_bytes 0 c x in let i = own.inside in omega (arith, l, i);
    lies = target_lies content inner h p fine.0 fine.1 (has_narrow b h c (inline_width content) x narrow fits own)
        (omega (arith, apart, four)) (has_left b p (target_bytes content inner (targets inner) p) _ stored.behind)
        (omega (arith, up, small)) stored.even inner_placed;
    others = record {
      front = has_past b h c x _ stored.front;
      behind = has_at b _ q _ (target_length content inner fine.1 (λ s r. length_targets inner s r) p)
          (has_right b p (target_bytes content inner (targets inner) p) _ stored.behind);
      apart = omega (arith, apart, more.more);
      small = small;
      even = more.even stored.even;
    };
  }
    where
      x : ℕ
      x = inline_value content inner h p

      q : ℕ
      q = target_end content inner (targets_end inner) p

      small : targets_end rest q < 2 ^ 31
      small = stored.small

      more : Up p q
      more = target_ends_up content inner p

      up : q ≤ targets_end rest q
      up = (ends_up rest q).more

      fits : x < 256 ^ inline_width content
      fits = value_fits content inner h p fine.0 (omega (arith, up, small))

      own : Has b h (little c x)
      own = has_left b h (little c x) _ stored.front

      apart : h + c + c * members rest ≤ p
      apart = let e : h + c * (1 + members rest) ≤ p = stored.apart in omega (arith, e)

  in_table_more : (m : ℕ) (content : Content) (inner rest : Tree) → Placed inner → InTable rest → InTable (field m content inner rest)
  unfolding EncodesTable Writable vtable_entries entry_count members
  in_table_more m content inner rest inner_placed rest_table t n h p writable entered stored even = (
    (
      h,
      (found_h, (entered.vtable, entered.vtable_is, omega (arith, ends, narrow))),
      aligned (inline_width content) h (h / 8 * wide.0) (multiple h wide.0 (inline_width content) even wide.1),
      one.lies,
    ),
    rest_table t (m + 1) (h + 8) (target_end content inner (targets_end inner) p) writable.4
        (record {
          vtable = entered.vtable;
          vtable_is = entered.vtable_is;
          size = entered.size;
          ends = omega (arith, ends);
          there = subst (λ (d : ℕ). Has b (entered.vtable + (4 + 2 * (m + 1))) (vtable_entries (m + 1) d rest)) (omega (arith, above)) next;
          above = omega (arith, above);
          near = omega (arith, near, writable.0);
        }) one.others (omega arith),
  )
    where
      wide : (j : ℕ) × (j * inline_width content ≡ 8)
      wide = width_divides content writable.2

      narrow : inline_width content ≤ 8
      narrow = at_most_8 wide.0 (inline_width content) wide.1

      one : First 8 content inner rest h p
      one = first 8 m content inner rest h p (omega arith) narrow (writable.2, writable.3) inner_placed stored

      above : t + 4 ≤ h
      above = entered.above

      near : h ≤ t + 4 + 8 * n
      near = entered.near

      ends : t + num b (entered.vtable + 2) 2 ≡ h + 8 * (1 + members rest)
      ends = entered.ends

      here : Has b (entered.vtable + (4 + 2 * m)) (little 2 (h - t) ++ vtable_entries (m + 1) (h - t + 8) rest)
      here = let z = length-replicate {A = ℕ} (2 * (m - n)) 0 in has_at b _ _ _ (omega (arith, z, writable.0))
          (has_right b _ (padding (2 * (m - n))) _ entered.there)

      next : Has b (entered.vtable + (4 + 2 * (m + 1))) (vtable_entries (m + 1) (h - t + 8) rest)
      next = has_at b _ _ _ (omega arith) (has_past b _ 2 (h - t) _ here)

      entry : num b (entered.vtable + (4 + 2 * m)) 2 ≡ h - t
      entry = has_num_front b _ 2 (h - t) _ (omega (arith, near, writable.0, writable.1)) here

      tops : m + 1 ≤ entry_count (m + 1) rest
      tops = entry_count_up rest (m + 1) writable.4

      found_h : field_place b t m (inline_width content) ≡ Ok (Some h)
      found_h = slot_found b t entered.vtable m (inline_width content) h entered.vtable_is
          (let s = entered.size in omega (arith, s, tops)) entry (omega (arith, above)) (let i = one.inside in omega (arith, i, narrow))

  in_vector_more : (m : ℕ) (content : Content) (inner rest : Tree) → Placed inner → InVector rest → InVector (field m content inner rest)
  unfolding EncodesTable Writable
  in_vector_more m content inner rest inner_placed rest_vector h p writable stored even =
      let four : inline_width content ≡ 4 = ap inline_width writable.0 in
      let fine = element_range content inner writable.0 writable.1 in
      let one = first 4 m content inner rest h p (omega arith) (omega (arith, four)) fine inner_placed stored in (
        (h, refl, subst (λ (w : ℕ). P w h) (sym four) (aligned 4 h (h / 4) (omega arith)), one.lies),
        rest_vector (h + 4) (target_end content inner (targets_end inner) p) writable.2 one.others (omega arith),
      )

  -- every tree lies where it is laid out
  pub placed : (f : Tree) → Placed f
  unfolding EncodesTable
  placed none = record { in_a_table = λ t n h p a e s z. tt; in_a_vector = λ q p a s z. tt }
  placed (field m content inner rest) =
      let i = placed inner in
      let r = placed rest in
      record {
        in_a_table = in_table_more m content inner rest i r.in_a_table;
        in_a_vector = in_vector_more m content inner rest i r.in_a_vector;
      }
