-- JSON values without floats are read from the text that is printed of them.
use Rattle.std.proofs.Common.{◌≡◌, ◌∙◌, refl, sym, ap, ℕ, suc, ◌^◌, ◌<◌, ◌≤◌, List, [], ◌∷◌, ◌++◌, arith, Bool, Some}
use Rattle.std.proofs.Common.{negsuc, pos, ℤ, FitsSigned, option_map, option_and_then, append-nil}
use Rattle.std.proofs.Math.Nat.{max-le}
use Rattle.std.specs.Int.{w64}
use Rattle.std.specs.List.{AllByRecursion}
use Rattle.json.specs.Token.{Token}
use Rattle.json.specs.Lex.{tokens}
use Rattle.json.specs.Json as json
use Rattle.json.specs.Tree as tree
use Rattle.json.proofs.Printed.Tokens.{tokens-print}
use Rattle.json.proofs.Printed.Trees.{ArePrintable-json_tokens, value-json_tokens}
use Rattle.json.proofs.Printed.Decimals.{IsNumber-decimal, IsNumber-signed_decimal}
use Rattle.serde_json.specs.Data.{Data, unsigned, null, boolean, number, string, array, Items, no_items, item}
use Rattle.serde_json.specs.Read.{read, of_json, of_items, max_depth}
use Rattle.serde_json.specs.Written.{outline, items_outline, compact_text}
use Rattle.serde_json.proofs.Numbers.{number_of-decimal, number_of-negative}
use Rattle.serde_json.proofs.Texts.{print-outline}
use Rattle.ipc_text_json.specs.RowJson.{json_number}
use Rattle.serde_json.specs.View.{items_of}

-- a value that its JSON reads as, no deeper than n
pub record IsBack (n : ℕ) (d : Data) : Type 0 where
  pub reads : of_json (outline d) ≡ Some d
  pub numbers : tree.HasNumbers (outline d)
  pub shallow : tree.depth (outline d) ≤ n

-- the same of several values
pub record AreBack (n : ℕ) (ds : Items) : Type 0 where
  pub reads : of_items (items_outline ds) ≡ Some ds
  pub numbers : tree.ItemsHaveNumbers (items_outline ds)
  pub shallow : tree.items_depth (items_outline ds) ≤ n

-- a text
pub string_back : (n : ℕ) (s : List ℕ) → IsBack n (string s)
string_back n s = record { reads = refl; numbers = tt; shallow = omega arith }

-- a truth value
pub boolean_back : (n : ℕ) (b : Bool) → IsBack n (boolean b)
boolean_back n b = record { reads = refl; numbers = tt; shallow = omega arith }

-- null
pub null_back : (n : ℕ) → IsBack n null
null_back n = record { reads = refl; numbers = tt; shallow = omega arith }

-- a number below 2^64
pub unsigned_back : (n k : ℕ) → k < 2 ^ 64 → IsBack n (number (unsigned k))
unsigned_back n k h = record {
  reads = ap (option_map number) (number_of-decimal k h);
  numbers = IsNumber-decimal k h;
  shallow = omega arith;
}

-- a signed number of 64 bits
pub signed_back : (n : ℕ) (z : ℤ) → FitsSigned w64 z → IsBack n (number (json_number z))
signed_back n (pos k) h = unsigned_back n k (omega (arith, h))
signed_back n (negsuc k) h = record {
  reads = ap (option_map number) (number_of-negative k (omega (arith, h)));
  numbers = IsNumber-signed_decimal (negsuc k) (omega (arith, h));
  shallow = omega arith;
}

-- no value
pub none_back : (n : ℕ) → AreBack n no_items
none_back n = record { reads = refl; numbers = tt; shallow = omega arith }

-- a value and others
pub item_back : {n : ℕ} (d : Data) (ds : Items) → IsBack n d → AreBack n ds → AreBack n (item d ds)
item_back d ds one more = record {
  reads = rw (one.reads, more.reads) refl;
  numbers = (one.numbers, more.numbers);
  shallow = max-le one.shallow more.shallow;
}

-- values of a list
pub items_back : {n : ℕ} (ds : List Data) → AllByRecursion (IsBack n) ds → AreBack n (items_of ds)
items_back [] h = none_back _
items_back (d ∷ ds) h = item_back d (items_of ds) h.0 (items_back ds h.1)

-- an array
pub array_back : {n : ℕ} (ds : Items) → AreBack n ds → IsBack (suc n) (array ds)
array_back ds more = record {
  reads = ap (option_map array) more.reads;
  numbers = more.numbers;
  shallow = omega (arith, more.shallow);
}

-- the text that is printed of such a value reads as it
pub text_back : {n : ℕ} (d : Data) → n ≤ max_depth → IsBack n d → read (compact_text d) ≡ Some d
text_back d low b =
    let ts = tree.json_tokens (outline d) in
    let same : tokens (compact_text d) ≡ ts ++ [] =
    ap tokens (sym (print-outline d)) ∙ (tokens-print ts (ArePrintable-json_tokens (outline d) b.numbers) ∙ sym (append-nil ts)) in
    let deep : tree.depth (outline d) ≤ max_depth = omega (arith, low, b.shallow) in
    ap (λ (us : List Token). option_and_then of_json (option_and_then (λ p. json.if_last p.0 p.1) (json.value max_depth us))) same
    ∙ (ap (λ r. option_and_then of_json (option_and_then (λ p. json.if_last p.0 p.1) r)) (value-json_tokens (outline d) max_depth [] deep)
    ∙ b.reads)
