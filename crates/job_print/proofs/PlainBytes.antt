-- From the mask of many bytes to a text whose bytes are plain.
use Rattle.std.proofs.Common.{◌≡◌, ◌∙◌, ℕ, zero, suc, ◌+◌, ◌-◌, ◌%◌, ◌^◌, ◌<◌, ◌≤◌, Bool, true, false, cond, ◌==◌, ◌||◌, List, [], ◌∷◌}
use Rattle.std.proofs.Common.{◌++◌, length, take, drop, get_or, map, replicate, bit_or, refl, sym, ap, ap₂, subst, arith, eqb, ltb}
use Rattle.std.proofs.Common.{get_or-take, get_or-drop, length-take-le, take-take, take_at}
use Rattle.std.specs.Prelude.{not}
use Rattle.std.proofs.Math.Seq.{take-append-add}
use Rattle.std.proofs.lemmas.Bool.{eqb-true, ltb-false, not-true, or_parts}
use Rattle.std.proofs.lemmas.Bool.Decides.{nat_tests}
use Rattle.std.proofs.lemmas.Simd.{length-chunk, leading_from_mask_l, zip2_splat, mask_l-mod}
use Rattle.std.proofs.lemmas.List.{length-map}
use Rattle.std.proofs.lemmas.List.Sums.{prefix_len-le-length}
use Rattle.std.specs.Bool.{OnTrue}
use Rattle.std.specs.List.{prefix_len}
use lib.Lanes.{chunk, mask_l, zip2, top}
use Rattle.json.specs.Filled.{Placed}
use Rattle.json.specs.Print.{escape}
use Rattle.json.proofs.Printed.Plain.{escape_on_plain}
use Rattle.csv.specs.Writing.{needs_byte, needs_quotes}
use Rattle.ipc_text_csv.specs.Dialects.{writer}
use Rattle.job_print.specs.Plain.{is_special, ArePlain}

abbrev hit : ℕ → ℕ → ℕ
hit a b = cond (eqb a b) 255 0

abbrev below : ℕ → ℕ → ℕ
below a b = cond (ltb a b) 255 0

both_ways : (f g : ℕ → ℕ) (v : List ℕ) → zip2 bit_or (map f v) (map g v) ≡ map (λ x. bit_or (f x) (g x)) v
both_ways f g [] = refl
both_ways f g (x ∷ xs) = ap (λ rest. bit_or (f x) (g x) ∷ rest) (both_ways f g xs)

either : (f g : ℕ → ℕ) (v : List ℕ) {a b : List ℕ} → a ≡ map f v → b ≡ map g v → zip2 bit_or a b ≡ map (λ x. bit_or (f x) (g x)) v
either f g v p q = ap₂ (zip2 bit_or) p q ∙ both_ways f g v

abbrev plain : ℕ → ℕ → Bool
plain mark x = not (is_special mark x)

first_counts : (p : Bool) (n l : ℕ) → n ≤ l → cond p (1 + n) 0 ≡ suc l → (p ≡ true) × (n ≡ l)
first_counts true n l h e = (refl, omega arith)
first_counts false n l h e = absurd (omega arith)

each_counts : (mark : ℕ) (xs : List ℕ) → prefix_len (plain mark) xs ≡ length xs → (k : ℕ) → k < length xs
    → plain mark (get_or xs k 0) ≡ true
each_counts mark [] e k inside = absurd (omega arith)
each_counts mark (x ∷ xs) e zero inside = (first_counts (plain mark x) _ (length xs) (prefix_len-le-length (plain mark) xs) e).0
each_counts mark (x ∷ xs) e (suc k) inside =
    each_counts mark xs (first_counts (plain mark x) _ (length xs) (prefix_len-le-length (plain mark) xs) e).1 k (omega arith)

plain_from_mask : (mark : ℕ) (d : List ℕ) (i n : ℕ) → i + n ≤ length d → mask_l (map (is_special mark) (chunk i n d)) ≡ 0
    → ArePlain mark d i (i + n)
plain_from_mask mark d i n room none k low high =
    let long = length-chunk i n d room in
    let back : i + (k - i) ≡ k = omega arith in
    ap (plain mark) (sym (get_or-take n (drop i d) (k - i) 0 (omega arith) ∙ get_or-drop i d (k - i) 0 ∙ ap (λ j. get_or d j 0) back))
    ∙ each_counts mark (chunk i n d) (leading_from_mask_l (is_special mark) (chunk i n d) none) (k - i) (omega arith)

-- the highest bit of three comparisons tells whether one is true
three_hits : (a b c : Bool) → top 7 (bit_or (bit_or (cond a 255 0) (cond b 255 0)) (cond c 255 0)) ≡ (a || b || c)
three_hits false false false = refl
three_hits false false true = refl
three_hits false true false = refl
three_hits false true true = refl
three_hits true false false = refl
three_hits true false true = refl
three_hits true true false = refl
three_hits true true true = refl

abbrev marks : ℕ → ℕ → ℕ
marks mark x = bit_or (bit_or (hit x 34) (hit x mark)) (below x 32)

each_marked : (mark : ℕ) (v : List ℕ) → map (top 7) (map (marks mark) v) ≡ map (is_special mark) v
each_marked mark [] = refl
each_marked mark (x ∷ xs) = ap₂ (λ a b. a ∷ b) (three_hits (eqb x 34) (eqb x mark) (ltb x 32)) (each_marked mark xs)

mask_is : (mark : ℕ) (v z : List ℕ) → length v ≤ 64 → z ≡ map (marks mark) v
    → mask_l (map (top 7) z) % 2 ^ 64 ≡ mask_l (map (is_special mark) v)
mask_is mark v z short e =
    ap (λ l. mask_l l % 2 ^ 64) (ap (map (top 7)) e ∙ each_marked mark v)
    ∙ mask_l-mod (map (is_special mark) v) 64 (omega (arith, length-map v (is_special mark)))

where_true : (b : Bool) (P : Type 0) → (b ≡ true → P) → OnTrue b P
where_true true P f = f refl
where_true false P f = tt

-- where three comparisons of n bytes find nothing, the bytes are plain
pub plain_in_lanes : (mark : ℕ) (d : List ℕ) (i n : ℕ) → i + n ≤ length d → n ≤ 64
    → OnTrue (mask_l (map (top 7) (zip2 bit_or (zip2 bit_or (zip2 hit (chunk i n d) (replicate n 34))
    (zip2 hit (chunk i n d) (replicate n mark))) (zip2 below (chunk i n d) (replicate n 32)))) % 2 ^ 64 == 0) (ArePlain mark d i (i + n))
plain_in_lanes mark d i n room few =
    let v = chunk i n d in
    let long = length-chunk i n d room in
    let mask = mask_is mark v _ (omega (arith, long, few))
    (either _ _ v (either _ _ v (zip2_splat hit v n 34 long) (zip2_splat hit v n mark long)) (zip2_splat below v n 32 long)) in
    where_true _ _ (λ e. plain_from_mask mark d i n room (sym mask ∙ eqb-true _ 0 e))

-- the first bytes of those that were placed
pub front_of : (old new word : List ℕ) (at len n end : ℕ) → at ≤ length old → n ≤ length word → len ≤ n
    → Placed old new at (take n word) end → take (at + len) new ≡ take at old ++ take len word
front_of old new word at len n end inside long few placed =
    let size : length (take n word) ≡ n = length-take-le n word long in
    let front : length (take at old) ≡ at = length-take-le at old inside in
    sym (take-take (at + len) end new (omega (arith, size, placed.moved, few))) ∙ (ap (take (at + len)) placed.bytes
    ∙ (ap (λ (k : ℕ). take (k + len) (take at old ++ take n word)) (sym front)
    ∙ (take-append-add (take at old) (take n word) len ∙ ap (λ (xs : List ℕ). take at old ++ xs) (take-take len n word few))))

-- the bytes before them are unchanged
pub front_same : (old new word : List ℕ) (at n end : ℕ) → at ≤ length old → Placed old new at (take n word) end
    → take at new ≡ take at old
front_same old new word at n end inside placed =
    sym (take-take at end new (omega (arith, placed.moved)))
    ∙ (ap (take at) placed.bytes ∙ take_at (take at old) (take n word) at (length-take-le at old inside))

first_plain : (mark : ℕ) (bytes : List ℕ) (len n : ℕ) → len ≤ n → n ≤ length bytes → ArePlain mark bytes 0 n
    → ArePlain mark (take len bytes) 0 (length (take len bytes))
first_plain mark bytes len n few long all k low high =
    let size : length (take len bytes) ≡ len = length-take-le len bytes (omega (arith, few, long)) in
    ap (plain mark) (get_or-take len bytes k 0 (omega (arith, size, high))) ∙ all k low (omega (arith, size, high, few))

-- where all of the bytes are plain, so are the first of them
pub front_plain : (mark : ℕ) (b : Bool) (bytes : List ℕ) (len n : ℕ) → len ≤ n → n ≤ length bytes → OnTrue b (ArePlain mark bytes 0 n)
    → OnTrue b (ArePlain mark (take len bytes) 0 (length (take len bytes)))
front_plain mark true bytes len n few long all = first_plain mark bytes len n few long all
front_plain mark false bytes len n few long all = tt

-- beside a backslash, plain bytes are those of a text of JSON
pub plain_json : (mark : ℕ) (b : Bool) (d : List ℕ) → OnTrue b (ArePlain mark d 0 (length d)) → OnTrue b (mark ≡ 92 → escape d ≡ d)
plain_json mark true d all = λ is. escape_on_plain true d (subst (λ m. ArePlain m d 0 (length d)) is all)
plain_json mark false d all = tt

byte_unquoted : (mark x : ℕ) → not (is_special mark x) ≡ true → needs_byte (writer mark) x ≡ false
byte_unquoted mark x h =
    let none = or_parts _ _ (not-true (is_special mark x) h) in
    let tests = or_parts (x == 34) _ none.0 in
    let over = ltb-false x 32 none.1 in
    let feed : (x == 10) ≡ false = grind (arith, nat_tests) in
    let carriage : (x == 13) ≡ false = grind (arith, nat_tests) in
    rw (tests.0, tests.1, feed, carriage) refl

unquoted : (mark : ℕ) (d : List ℕ) → ArePlain mark d 0 (length d) → needs_quotes (writer mark) d ≡ false
unquoted mark [] all = refl
unquoted mark (x ∷ xs) all =
    rw (
      byte_unquoted mark x (all 0 (omega arith) (omega arith)),
      unquoted mark xs (λ k low high. all (suc k) (omega arith) (omega arith)),
    ) refl

-- beside a delimiter, they need no quotes in CSV
pub plain_csv : (mark : ℕ) (b : Bool) (d : List ℕ) → OnTrue b (ArePlain mark d 0 (length d))
    → OnTrue b (needs_quotes (writer mark) d ≡ false)
plain_csv mark true d all = unquoted mark d all
plain_csv mark false d all = tt
