-- What went out of a line that is sent in parts.
use Rattle.std.proofs.Common.{◌≡◌, ◌≢◌, ◌∙◌, ℕ, zero, suc, ◌+◌, ◌<◌, List, [], ◌∷◌, ◌++◌, length, drop, slice_index, codes, refl}
use Rattle.std.proofs.Common.{ap, append_assoc, add-one, arith, subst, sym, Option, Result, Ok, Err}
use Rattle.std.proofs.KnownBytes.{Appends-trans}
use Rattle.std.specs.Fmt.{decimal}
use Rattle.std.specs.Io.KnownBytes.{Appends}
use Rattle.std.specs.Prelude.{◌==◌, OnOk, if◌then◌else◌}
use Rattle.ipc_model.specs.Texts.{with_dots, steps_text, write_fault_text}
use Rattle.ipc_model.specs.declared.fault.WriteFault.{WriteFault}
use Rattle.ipc_model.specs.declared.fault.WriteFault.TheVariants as w
use Rattle.ipc_device.specs.Failures.{CountsFailures}
use Rattle.job_command.specs.Lines.{labelled_after, write_line}

-- after a part that went out, the next one
pub sent_then : {T E : Type 0} (a b c : Option (List ℕ)) (s t : List ℕ) (r : Result T E) → Appends a b s → OnOk r (Appends b c t)
    → OnOk r (Appends a c (s ++ t))
sent_then a b c s t (Ok x) first next = Appends-trans a b c s t first next
sent_then a b c s t (Err x) first next = tt

-- the text that went out, as another that is equal
pub sent_as : {T E : Type 0} (a c : Option (List ℕ)) (s t : List ℕ) (r : Result T E) → s ≡ t → OnOk r (Appends a c t)
    → OnOk r (Appends a c s)
sent_as a c s t r same sent = subst (λ text. OnOk r (Appends a c text)) (sym same) sent

-- a call after parts that left the count of failures
pub counted_then : {T E : Type 0} (a b c : ℕ) (r : Result T E) → b ≡ a → CountsFailures b c r → CountsFailures a c r
counted_then a b c r same counts = subst (λ n. CountsFailures n c r) same counts

-- the line of a refusal of the writer that isn't out of memory
pub write_line_else : (fault : WriteFault) → fault ≢ w.OutOfMemory → write_line fault ≡ write_fault_text fault
write_line_else w.OutOfMemory other = absurd (other refl)
write_line_else fault other = refl

-- the text of a path is a space, the first number, and the others with a dot before each
pub first_step : (path : List ℕ) (n : ℕ) (ns : List ℕ) → path ≡ n ∷ ns → (codes " " ++ decimal n) ++ with_dots ns ≡ steps_text path
first_step path n ns is = append_assoc (codes " ") (decimal n) (with_dots ns) ∙ ap steps_text (sym is)

dotted_from : (ns : List ℕ) (i : ℕ) → i < length ns
    → with_dots (drop i ns) ≡ codes "." ++ decimal (slice_index ns i) ++ with_dots (drop (suc i) ns)
dotted_from [] i below = absurd (omega arith)
dotted_from (n ∷ ns) zero below = refl
dotted_from (n ∷ ns) (suc i) below = dotted_from ns i (omega arith)

-- after the text that went out and the number at i, the numbers from i + 1 on are left
pub next_step : (done whole ns : List ℕ) (i : ℕ) → i < length ns → done ++ with_dots (drop i ns) ≡ whole
    → ((done ++ codes ".") ++ decimal (slice_index ns i)) ++ with_dots (drop (i + 1) ns) ≡ whole
next_step done whole ns i below is =
    let text = codes "." ++ decimal (slice_index ns i) in
    ap (λ (l : List ℕ). l ++ with_dots (drop (i + 1) ns)) (append_assoc done (codes ".") (decimal (slice_index ns i)))
    ∙ append_assoc done text (with_dots (drop (i + 1) ns))
    ∙ ap (λ (l : List ℕ). done ++ l) (rw add-one (sym (dotted_from ns i below))) ∙ is

-- the bytes from i on are the byte at i, with what precedes it, and those after it
labelled_from : (before : ℕ) (label xs : List ℕ) (i : ℕ) → i < length xs → labelled_after before label (drop i xs)
    ≡ (if before == 10 then label else []) ++ slice_index xs i ∷ labelled_after (slice_index xs i) label (drop (suc i) xs)
labelled_from before label [] i below = absurd (omega arith)
labelled_from before label (x ∷ xs) zero below = refl
labelled_from before label (x ∷ xs) (suc i) below = labelled_from before label xs i (omega arith)

-- after the byte at i and what precedes it, the bytes from i + 1 on are left
pub next_labelled : (from old middle new : Option (List ℕ)) (whole label start xs : List ℕ) (before i : ℕ) → i < length xs
    → start ≡ (if before == 10 then label else []) → Appends old middle start → Appends middle new (slice_index xs i ∷ [])
    → (done : List ℕ) × Appends from old done × (done ++ labelled_after before label (drop i xs) ≡ whole)
    → (done : List ℕ) × Appends from new done × (done ++ labelled_after (slice_index xs i) label (drop (i + 1) xs) ≡ whole)
next_labelled from old middle new whole label start xs before i below marks first next now =
    let x = slice_index xs i in
    let rest = labelled_after x label (drop (i + 1) xs) in (
      (now.0 ++ start) ++ x ∷ [],
      Appends-trans _ _ _ _ _ (Appends-trans _ _ _ _ _ now.1 first) next,
      append_assoc (now.0 ++ start) (x ∷ []) rest ∙ append_assoc now.0 start (x ∷ rest)
          ∙ ap (λ (l : List ℕ). now.0 ++ l)
          (ap (λ (l : List ℕ). l ++ x ∷ rest) marks ∙ rw add-one (sym (labelled_from before label xs i below))) ∙ now.2,
    )
