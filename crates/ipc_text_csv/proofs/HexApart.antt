-- The bytes of digits and of those behind them.
use Rattle.std.proofs.Common.{◌≡◌, ◌∙◌, ℕ, ◌+◌, ◌*◌, ◌%◌, Bool, true, false, ◌&&◌, List, [], ◌∷◌, ◌++◌, length, take, drop}
use Rattle.std.proofs.Common.{Option, Some, None, Result, Ok, Err, ◌≤◌, refl, sym, ap, arith, append_assoc, suc, zero, length-append}
use Rattle.std.specs.Prelude.{option_map}
use Rattle.std.proofs.lemmas.List.{length-drop, length-take-le, take-append-drop}
use Rattle.hex.specs.Hex.{decode_pairs, digit_or_error, hex_digit_value, ◌>>=◌}
use Rattle.hex.specs.declared.error.FromHexError.{FromHexError}
use Rattle.hex.proofs.HexLemmas.{decode_of-even}
use Rattle.ipc_text_csv.specs.CsvCells.{decoded_hex, if_read}

-- a byte in front of others, where both of its digits were read
abbrev with_byte : Option ℕ → Option ℕ → Option (List ℕ) → Option (List ℕ)
with_byte (Some h) (Some l) more = option_map (λ bytes. (h * 16 + l) ∷ bytes) more
with_byte (Some h) None more = None
with_byte None low more = None

-- the bytes of pairs of digits
abbrev read_pairs : List ℕ → Option (List ℕ)
read_pairs [] = Some []
read_pairs (digit ∷ []) = None
read_pairs (high ∷ low ∷ rest) = with_byte (hex_digit_value high) (hex_digit_value low) (read_pairs rest)

read_step : (h l : Option ℕ) (a b i : ℕ) (r : Result (List ℕ) FromHexError)
    → if_read ((digit_or_error a i h >>= (λ high. digit_or_error b (i + 1) l >>= (λ low. Ok (high * 16 + low))))
    >>= (λ byte. r >>= (λ bytes. Ok (byte ∷ bytes)))) ≡ with_byte h l (if_read r)
read_step (Some h) (Some l) a b i (Ok bytes) = refl
read_step (Some h) (Some l) a b i (Err fault) = refl
read_step (Some h) None a b i r = refl
read_step None l a b i r = refl

reads_pairs : (i : ℕ) (text : List ℕ) → if_read (decode_pairs i text) ≡ read_pairs text
unfolding decode_pairs
reads_pairs i [] = refl
reads_pairs i (digit ∷ []) = refl
reads_pairs i (high ∷ low ∷ rest) =
    read_step (hex_digit_value high) (hex_digit_value low) high low i (decode_pairs (i + 2) rest)
    ∙ ap (with_byte (hex_digit_value high) (hex_digit_value low)) (reads_pairs (i + 2) rest)

-- the bytes of a text of even length
reads_even : (text : List ℕ) → length text % 2 ≡ 0 → decoded_hex text ≡ read_pairs text
reads_even text even = ap if_read (decode_of-even text even) ∙ reads_pairs 0 text

-- bytes in front of others, where there are both
abbrev joined : Option (List ℕ) → Option (List ℕ) → Option (List ℕ)
joined (Some front) more = option_map (λ bytes. front ++ bytes) more
joined None more = None

joined_nothing : (more : Option (List ℕ)) → more ≡ joined (Some []) more
joined_nothing (Some bytes) = refl
joined_nothing None = refl

joined_byte : (h l : Option ℕ) (front more : Option (List ℕ)) → with_byte h l (joined front more) ≡ joined (with_byte h l front) more
joined_byte (Some h) (Some l) (Some front) (Some more) = refl
joined_byte (Some h) (Some l) (Some front) None = refl
joined_byte (Some h) (Some l) None more = refl
joined_byte (Some h) None front more = refl
joined_byte None l front more = refl

joined_twice : (front more : List ℕ) (rest : Option (List ℕ))
    → joined (Some front) (joined (Some more) rest) ≡ joined (Some (front ++ more)) rest
joined_twice front more (Some rest) = ap Some (sym (append_assoc front more rest))
joined_twice front more None = refl

-- the pairs of two texts, the first of which has an even length
pairs_apart : (n : ℕ) (a b : List ℕ) → length a ≡ 2 * n → read_pairs (a ++ b) ≡ joined (read_pairs a) (read_pairs b)
pairs_apart n [] b even = joined_nothing (read_pairs b)
pairs_apart n (digit ∷ []) b even = absurd (omega arith)
pairs_apart zero (high ∷ low ∷ rest) b even = absurd (omega arith)
pairs_apart (suc n) (high ∷ low ∷ rest) b even =
    ap (with_byte (hex_digit_value high) (hex_digit_value low)) (pairs_apart n rest b (omega (arith, even)))
    ∙ joined_byte (hex_digit_value high) (hex_digit_value low) (read_pairs rest) (read_pairs b)

-- what is known where the bytes of a front of a text were found, or that they aren't digits
pub record Begun (text front rest : List ℕ) (good : Bool) : Type 0 where
  pub so_far : good ≡ true → decoded_hex text ≡ joined (Some front) (decoded_hex rest)
  pub never : good ≡ false → decoded_hex text ≡ None

-- the bytes of thirty-two digits and of those behind them
apart : (first rest : List ℕ) → length first ≡ 32 → length rest % 2 ≡ 0 → decoded_hex (first ++ rest)
    ≡ joined (decoded_hex first) (decoded_hex rest)
apart first rest pairs even =
    let long = length-append first rest in
    let whole = reads_even (first ++ rest) (omega (arith, long)) in
    let front = reads_even first (omega (arith, pairs)) in
    let behind = reads_even rest even in
    whole ∙ pairs_apart 16 first rest pairs ∙ rw (← front, ← behind) refl

-- thirty-two digits more
pub begun_more : (text front now new first rest more : List ℕ) (good are : Bool) → first ≡ take 32 rest → more ≡ drop 32 rest
    → length rest % 2 ≡ 0 → 32 ≤ length rest → new ≡ front ++ now → (are ≡ true → decoded_hex first ≡ Some now)
    → (are ≡ false → decoded_hex first ≡ None) → Begun text front rest good → Begun text new more (good && are)
begun_more text front now new first rest more false are begins goes even long is reads fails begun =
    record { so_far = λ e. absurd cc; never = λ _. begun.never refl }
begun_more text front now new first rest more true true begins goes even long is reads fails begun =
    let parts : first ++ more ≡ rest = rw (begins, goes) (take-append-drop 32 rest) in
    let half : decoded_hex rest ≡ joined (decoded_hex first) (decoded_hex more) =
    ap decoded_hex (sym parts) ∙ apart first more (rw begins (length-take-le 32 rest long))
    (rw goes (omega (arith, length-drop 32 rest))) in
    record {
      so_far = λ _. begun.so_far refl ∙ ap (joined (Some front)) (half ∙ ap (λ o. joined o (decoded_hex more)) (reads refl))
          ∙ joined_twice front now (decoded_hex more) ∙ ap (λ f. joined (Some f) (decoded_hex more)) (sym is);
      never = λ e. absurd cc;
    }
begun_more text front now new first rest more true false begins goes even long is reads fails begun =
    let parts : first ++ more ≡ rest = rw (begins, goes) (take-append-drop 32 rest) in
    let half : decoded_hex rest ≡ joined (decoded_hex first) (decoded_hex more) =
    ap decoded_hex (sym parts) ∙ apart first more (rw begins (length-take-le 32 rest long))
    (rw goes (omega (arith, length-drop 32 rest))) in
    record {
      so_far = λ e. absurd cc;
      never = λ _. begun.so_far refl ∙ ap (joined (Some front)) (half ∙ ap (λ o. joined o (decoded_hex more)) (fails refl));
    }
