-- How a strict read goes on from byte to byte.
use Rattle.std.proofs.Common.{◌≡◌, ◌∙◌, refl, sym, ap, subst, inl, inr, ℕ, true, false, List, [], ◌∷◌, length, Option, Some, None}
use Rattle.std.proofs.Common.{Ok, Err}
use Rattle.std.specs.Prelude.{⊤}
use Rattle.std.specs.Io.KnownBytes.{Consumes, IsAtEnd}
use Rattle.csv.specs.Machine.{ends_at_end, field_after, fields_after, is_end, next_record, step}
use Rattle.csv.specs.declared.parser.Action.{Action}
use Rattle.csv.specs.declared.parser.Config.{Config}
use Rattle.csv.specs.declared.parser.State.{State}
use Rattle.ipc_text_csv.specs.StrictForm.{BreaksForm, IsStrictFrom, LeavesForm, ReadsStrictly, form_fault, is_outside}
use Rattle.ipc_text_temporal.specs.declared.fault.TextFault.{TextFault}
use Rattle.ipc_text_temporal.specs.declared.fault.TextFault.TheVariants as x

-- a read that began in a state with these bytes is now in this state, with the fields and the bytes of the field at hand
pub record IsOnTheWay (cfg : Config) (s0 : State) (ys : List ℕ) (s : State) (fields : List (List ℕ)) (field zs : List ℕ) : Type 0 where
  pub next : next_record cfg s0 [] [] ys ≡ next_record cfg s fields field zs
  pub strict : IsStrictFrom cfg s zs → IsStrictFrom cfg s0 ys
  pub leaves : (column : ℕ) (at : State) → LeavesForm cfg s fields field zs column at → LeavesForm cfg s0 [] [] ys column at

-- the same, where the bytes are known
abbrev pub Follows : Config → State → Option (List ℕ) → State → List (List ℕ) → List ℕ → Option (List ℕ) → Type 0
Follows cfg s0 None s fields field now = ⊤
Follows cfg s0 (Some ys) s fields field None = ⊥
Follows cfg s0 (Some ys) s fields field (Some zs) = IsOnTheWay cfg s0 ys s fields field zs

pub follows_start : (cfg : Config) (s0 : State) (k : Option (List ℕ)) → Follows cfg s0 k s0 [] [] k
follows_start cfg s0 None = tt
follows_start cfg s0 (Some ys) = record { next = refl; strict = λ h. h; leaves = λ column at h. h }

next_byte : (cfg : Config) (s : State) (f : List (List ℕ)) (p zs : List ℕ) (b : ℕ) → is_end (step cfg s b).1 ≡ false
    → next_record cfg s f p (b ∷ zs)
    ≡ next_record cfg (step cfg s b).0 (fields_after (step cfg s b).1 f p) (field_after (step cfg s b).1 b p) zs
unfolding next_record
next_byte cfg s f p zs b e = rw e refl

next_end : (cfg : Config) (s : State) (f : List (List ℕ)) (p zs : List ℕ) (b : ℕ) → is_end (step cfg s b).1 ≡ true
    → next_record cfg s f p (b ∷ zs) ≡ Some (fields_after (step cfg s b).1 f p, (step cfg s b).0, zs)
unfolding next_record
next_end cfg s f p zs b e = rw e refl

strict_byte : (cfg : Config) (s : State) (zs : List ℕ) (b : ℕ) → is_outside cfg s b ≡ false → IsStrictFrom cfg (step cfg s b).0 zs
    → IsStrictFrom cfg s (b ∷ zs)
unfolding IsStrictFrom
strict_byte cfg s zs b inside h = (inside, h)

leaves_byte : (cfg : Config) (s : State) (f : List (List ℕ)) (p zs : List ℕ) (b column : ℕ) (at : State) → is_outside cfg s b ≡ false
    → is_end (step cfg s b).1 ≡ false
    → LeavesForm cfg (step cfg s b).0 (fields_after (step cfg s b).1 f p) (field_after (step cfg s b).1 b p) zs column at
    → LeavesForm cfg s f p (b ∷ zs) column at
unfolding LeavesForm
leaves_byte cfg s f p zs b column at inside goes h = inr (inside, goes, h)

leaves_here : (cfg : Config) (s : State) (f : List (List ℕ)) (p zs : List ℕ) (b : ℕ) → is_outside cfg s b ≡ true
    → LeavesForm cfg s f p (b ∷ zs) (length f) s
unfolding LeavesForm
leaves_here cfg s f p zs b outside = inl (outside, refl, refl)

leaves_end : (cfg : Config) (s : State) (f : List (List ℕ)) (p : List ℕ) → ends_at_end s ≡ true → LeavesForm cfg s f p [] (length f) s
unfolding LeavesForm
leaves_end cfg s f p e = (e, refl, refl)

nothing_next : (cfg : Config) (s : State) (f : List (List ℕ)) (p : List ℕ) → ends_at_end s ≡ false → next_record cfg s f p [] ≡ None
unfolding next_record
nothing_next cfg s f p e = rw e refl

strict_end : (cfg : Config) (s : State) → ends_at_end s ≡ false → IsStrictFrom cfg s []
unfolding IsStrictFrom
strict_end cfg s e = e

on_the_way : (cfg : Config) (s0 : State) (ys : List ℕ) (s s2 : State) (f : List (List ℕ)) (p xs zs : List ℕ) (b : ℕ) (a : Action)
    → xs ≡ b ∷ zs → is_outside cfg s b ≡ false → step cfg s b ≡ (s2, a) → is_end a ≡ false → IsOnTheWay cfg s0 ys s f p xs
    → IsOnTheWay cfg s0 ys s2 (fields_after a f p) (field_after a b p) zs
on_the_way cfg s0 ys s s2 f p xs zs b a e inside does goes h =
    let first : (step cfg s b).0 ≡ s2 = ap (λ (q : State × Action). q.0) does in
    let second : (step cfg s b).1 ≡ a = ap (λ (q : State × Action). q.1) does in
    let on : is_end (step cfg s b).1 ≡ false = ap is_end second ∙ goes in
    let moved : next_record cfg s f p xs ≡ next_record cfg s2 (fields_after a f p) (field_after a b p) zs =
    ap (next_record cfg s f p) e ∙ next_byte cfg s f p zs b on ∙ rw (first, second) refl in
    record {
      next = h.next ∙ moved;
      strict = λ q. h.strict (subst (IsStrictFrom cfg s) (sym e) (strict_byte cfg s zs b inside (rw first q)));
      leaves = λ column at q. h.leaves column at (subst (λ z. LeavesForm cfg s f p z column at) (sym e)
          (leaves_byte cfg s f p zs b column at inside on (rw (first, second) q)));
    }

-- a byte that does not end the record
pub follows_byte : (cfg : Config) (s0 : State) (k : Option (List ℕ)) (s s2 : State) (f : List (List ℕ)) (p : List ℕ)
    (k0 k1 : Option (List ℕ)) (b : ℕ) (a : Action) → Consumes k0 k1 (b ∷ []) → is_outside cfg s b ≡ false
    → step cfg s b ≡ (s2, a) → is_end a ≡ false → Follows cfg s0 k s f p k0
    → Follows cfg s0 k s2 (fields_after a f p) (field_after a b p) k1
follows_byte cfg s0 None s s2 f p k0 k1 b a came inside does goes h = tt
follows_byte cfg s0 (Some ys) s s2 f p None k1 b a came inside does goes h = absurd h
follows_byte cfg s0 (Some ys) s s2 f p (Some xs) None b a came inside does goes h = absurd came
follows_byte cfg s0 (Some ys) s s2 f p (Some xs) (Some zs) b a came inside does goes h =
    on_the_way cfg s0 ys s s2 f p xs zs b a came inside does goes h

-- a byte that ends it
pub follows_record : (cfg : Config) (number : ℕ) (s0 : State) (k : Option (List ℕ)) (s s2 : State) (f : List (List ℕ)) (p : List ℕ)
    (k0 k1 : Option (List ℕ)) (b : ℕ) (a : Action) → Consumes k0 k1 (b ∷ []) → is_outside cfg s b ≡ false → step cfg s b ≡ (s2, a)
    → is_end a ≡ true → Follows cfg s0 k s f p k0 → ReadsStrictly cfg number s0 k s2 (fields_after a f p) k1 (Ok true)
follows_record cfg number s0 None s s2 f p k0 k1 b a came inside does ends h = tt
follows_record cfg number s0 (Some ys) s s2 f p None k1 b a came inside does ends h = absurd h
follows_record cfg number s0 (Some ys) s s2 f p (Some xs) None b a came inside does ends h = absurd came
follows_record cfg number s0 (Some ys) s s2 f p (Some xs) (Some zs) b a came inside does ends h =
    let first : (step cfg s b).0 ≡ s2 = ap (λ (q : State × Action). q.0) does in
    let second : (step cfg s b).1 ≡ a = ap (λ (q : State × Action). q.1) does in
    let over : is_end (step cfg s b).1 ≡ true = ap is_end second ∙ ends in (
      h.next ∙ ap (next_record cfg s f p) came ∙ next_end cfg s f p zs b over ∙ rw (first, second) refl,
      λ q. h.strict (subst (IsStrictFrom cfg s) (sym came) (strict_byte cfg s zs b inside (rw first q))),
    )

-- the end of the input where a line ends
pub follows_none : (cfg : Config) (number : ℕ) (s0 : State) (k : Option (List ℕ)) (s s2 : State) (f f2 : List (List ℕ)) (p : List ℕ)
    (k0 k1 : Option (List ℕ)) → ends_at_end s ≡ false → IsAtEnd k0 → Follows cfg s0 k s f p k0
    → ReadsStrictly cfg number s0 k s2 f2 k1 (Ok false)
follows_none cfg number s0 None s s2 f f2 p k0 k1 e end h = tt
follows_none cfg number s0 (Some ys) s s2 f f2 p None k1 e end h = absurd h
follows_none cfg number s0 (Some ys) s s2 f f2 p (Some xs) k1 e end h = (
  h.next ∙ ap (next_record cfg s f p) end ∙ nothing_next cfg s f p e,
  h.strict (subst (IsStrictFrom cfg s) (sym end) (strict_end cfg s e)),
)

refuses : (cfg : Config) (number : ℕ) (s0 : State) (ys : List ℕ) (s2 : State) (f2 : List (List ℕ)) (k1 : Option (List ℕ))
    (fault : TextFault) → BreaksForm cfg s0 ys number fault → ReadsStrictly cfg number s0 (Some ys) s2 f2 k1 (Err fault)
refuses cfg number s0 ys s2 f2 k1 x.OutOfMemory h = tt
refuses cfg number s0 ys s2 f2 k1 x.NotFlat h = h
refuses cfg number s0 ys s2 f2 k1 x.NoColumns h = h
refuses cfg number s0 ys s2 f2 k1 (x.NoTextForm column) h = h
refuses cfg number s0 ys s2 f2 k1 (x.BadField record_number column) h = h
refuses cfg number s0 ys s2 f2 k1 (x.WrongFieldCount record_number) h = h
refuses cfg number s0 ys s2 f2 k1 x.BadSchemaJson h = h

-- the end of the input elsewhere
pub follows_cut : (cfg : Config) (number : ℕ) (s0 : State) (k : Option (List ℕ)) (s s2 : State) (f f2 : List (List ℕ)) (p : List ℕ)
    (k0 k1 : Option (List ℕ)) → ends_at_end s ≡ true → IsAtEnd k0 → Follows cfg s0 k s f p k0
    → ReadsStrictly cfg number s0 k s2 f2 k1 (Err (form_fault number (length f) s))
follows_cut cfg number s0 None s s2 f f2 p k0 k1 e end h = tt
follows_cut cfg number s0 (Some ys) s s2 f f2 p None k1 e end h = absurd h
follows_cut cfg number s0 (Some ys) s s2 f f2 p (Some xs) k1 e end h =
    refuses cfg number s0 ys s2 f2 k1 (form_fault number (length f) s) (
      length f,
      s,
      h.leaves (length f) s (subst (λ z. LeavesForm cfg s f p z (length f) s) (sym end) (leaves_end cfg s f p e)),
      refl,
    )

-- a byte that may not come next
pub follows_outside : (cfg : Config) (number : ℕ) (s0 : State) (k : Option (List ℕ)) (s s2 : State) (f f2 : List (List ℕ)) (p : List ℕ)
    (k0 k1 : Option (List ℕ)) (b : ℕ) → is_outside cfg s b ≡ true → Consumes k0 k1 (b ∷ []) → Follows cfg s0 k s f p k0
    → ReadsStrictly cfg number s0 k s2 f2 k1 (Err (form_fault number (length f) s))
follows_outside cfg number s0 None s s2 f f2 p k0 k1 b outside came h = tt
follows_outside cfg number s0 (Some ys) s s2 f f2 p None k1 b outside came h = absurd h
follows_outside cfg number s0 (Some ys) s s2 f f2 p (Some xs) None b outside came h = absurd came
follows_outside cfg number s0 (Some ys) s s2 f f2 p (Some xs) (Some zs) b outside came h =
    refuses cfg number s0 ys s2 f2 (Some zs) (form_fault number (length f) s) (
      length f,
      s,
      h.leaves (length f) s (subst (λ z. LeavesForm cfg s f p z (length f) s) (sym came) (leaves_here cfg s f p zs b outside)),
      refl,
    )
