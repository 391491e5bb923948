-- Fields that alone are refused, and the vectors of their tables.
use Rattle.std.proofs.Common.{◌≡◌, ◌∙◌, ◌↔◌, ℕ, ◌<◌, refl, ap, sym, subst, arith, None, Some, Result, Ok, Err, IsTrue, Bool, MatchOption}
use Rattle.std.proofs.Common.{IfOk, OnOk, ◌+◌, ◌*◌, ◌⊎◌, ⊎_elim, List, [], ◌∷◌, ◌++◌}
use Rattle.std.specs.Prelude.{⊤}
use Rattle.std.specs.Result.{result_err}
use Rattle.ipc_model.specs.Numbering.{fault_number}
use Rattle.ipc_flat.specs.declared.fault.FlatFault.{FlatFault}
use Rattle.ipc_flat.specs.Views.{TableView, Elements, table_from, field, elements_from}
use Rattle.ipc_model.proofs.FirstFaults.{verdict_from_first}
use Rattle.ipc_model.proofs.Meanings.{verdict-from_WellFormed}
use Rattle.ipc_model.specs.Answers.{AnswersUnlessOutOfMemory, Fails}
use Rattle.ipc_model.specs.FirstFault.{IsFirstFault}
use Rattle.ipc_model.specs.Refusals.{reader_fault}
use Rattle.ipc_model.specs.WellFormed.{WellFormed}
use Rattle.ipc_model.specs.declared.check.SchemaFault.{SchemaFault}
use Rattle.ipc_model.specs.declared.check.SchemaFault.TheVariants as check
use Rattle.ipc_model.specs.declared.schema.Schema.{Schema}
use Rattle.ipc_meta.specs.Reading.{only_field}
use Rattle.ipc_model.specs.declared.fault.Fault.{Fault}
use Rattle.ipc_model.specs.declared.fault.Fault.TheVariants.{OutOfMemory}
use Rattle.ipc_model.specs.declared.limits.Limits.{Limits}
use Rattle.ipc_model.specs.declared.schema.Field.{Field}
use Rattle.ipc_meta.specs.FlatFaults.{fault_of}
use Rattle.ipc_meta.specs.Reached.{Element}
use Rattle.ipc_meta.specs.Tables.{vector_at, no_elements}
use Rattle.job_explain.specs.FieldPaths.{field_alone, RefusedAs, NoneWith}

-- the table states no field
pub not_read : (limits : Limits) (t : TableView) (e : Fault) → Fails e (only_field limits t) → Fails e (field_alone limits t)
unfolding field_alone
not_read limits t e read known = rw (read known) refl

-- the schema of a field that was pushed to no fields
pub only_pushed : (f : Field) (none fields : List Field) (s : Schema) → none ≡ [] → fields ≡ none ++ f ∷ []
    → s ≡ record { fields = fields; metadata = [] } → s ≡ record { fields = f ∷ []; metadata = [] }
only_pushed f none fields s empty pushed is =
    is ∙ ap (λ fs. record { fields = fs; metadata = [] }) (pushed ∙ ap (λ before. before ++ f ∷ []) empty)

-- a schema of the field alone breaks no rule
pub well_formed_alone : (limits : Limits) (t : TableView) (f : Field) (s : Schema) → only_field limits t ≡ Ok f
    → s ≡ record { fields = f ∷ []; metadata = [] } → WellFormed limits s → field_alone limits t ≡ Ok tt
unfolding field_alone
well_formed_alone limits t f s read alone fine =
    let verdict = verdict-from_WellFormed {limits = limits} _ (subst (λ x. WellFormed limits x) alone fine) in rw read (rw verdict refl)

-- a schema of the field alone breaks a rule
pub ill_formed_alone : (limits : Limits) (t : TableView) (f : Field) (s : Schema) (x : SchemaFault) → only_field limits t ≡ Ok f
    → s ≡ record { fields = f ∷ []; metadata = [] } → (x ≡ check.OutOfMemory) ⊎ IsFirstFault limits s x
    → Fails (reader_fault x) (field_alone limits t)
unfolding field_alone
ill_formed_alone limits t f s x read alone found known =
    ⊎_elim (λ is. absurd (known (ap reader_fault is)))
    (λ first. let verdict = verdict_from_first {limits = limits} _ x (subst (λ y. IsFirstFault limits y x) alone first) in
    rw read (rw verdict refl)) found

-- the call returned a fault of this number exactly where the table alone is refused for one
pub alone_refused : (limits : Limits) (t : TableView) (r : Result ⊤ Fault) (fault : Fault) (b : Bool)
    → AnswersUnlessOutOfMemory (λ fine. fine) r (field_alone limits t)
    → (result_err r ≡ Some OutOfMemory → ⊥) → (IsTrue b ↔ MatchOption (result_err r) ⊥ (λ f. fault_number f ≡ fault_number fault))
    → (IsTrue b ↔ RefusedAs fault (field_alone limits t))
alone_refused limits t (Ok x) fault b right memory found = subst (λ x. IsTrue b ↔ RefusedAs fault x) (sym right) found
alone_refused limits t (Err e) fault b right memory found =
    subst (λ x. IsTrue b ↔ RefusedAs fault x) (sym (right (λ same. memory (ap Some same)))) found

-- the call returned whether the table alone is refused so
pub alone_answer : {E : Type 0} (limits : Limits) (t : TableView) (r : Result ⊤ Fault) (fault : Fault) (res : Result Bool E)
    → AnswersUnlessOutOfMemory (λ fine. fine) r (field_alone limits t)
    → OnOk res (result_err r ≡ Some OutOfMemory → ⊥)
    → IfOk res (λ b. IsTrue b ↔ MatchOption (result_err r) ⊥ (λ f. fault_number f ≡ fault_number fault))
    → IfOk res (λ b. IsTrue b ↔ RefusedAs fault (field_alone limits t))
alone_answer limits t r fault (Ok b) right memory found = alone_refused limits t r fault b right memory found
alone_answer limits t r fault (Err e) right memory found = tt

-- no table of a vector is refused so, if none in its places is
pub none_in : (limits : Limits) (fault : Fault) (t : TableView) (k : ℕ) (es : Elements) → vector_at t k ≡ Ok es
    → ((j : ℕ) (v : TableView) → j < es.len → table_from es.bytes (es.at + j * 4) ≡ Ok v → RefusedAs fault (field_alone limits v) → ⊥)
    → NoneWith limits fault t k
none_in limits fault t k es e none u (other, i, here, inside, found) h =
    let both : Ok other ≡ Ok es = sym here ∙ e in
    let same : other ≡ es = cc in
    none i u (subst (λ (x : Elements). i < x.len) same inside) (subst (λ (x : Elements). table_from x.bytes (x.at + i * 4) ≡ Ok u) same
    found) h

-- field k holds this vector, or none
pub listed : (t : TableView) (k : ℕ) (es : Elements) → Ok (Some es) ≡ field t k (elements_from 4) → vector_at t k ≡ Ok es
unfolding vector_at
listed t k es e = rw (sym e) refl

pub not_listed : (t : TableView) (k : ℕ) → Ok None ≡ field t k (elements_from 4) → (u : TableView) → Element t k u → ⊥
unfolding vector_at
not_listed t k e u (es, i, here, inside, found) =
    let v : vector_at t k ≡ Ok (no_elements t None) = rw (sym e) refl in
    let same : no_elements t None ≡ es = cc (v, here) in
    let few : i < 0 = subst (λ x. i < x.len) (sym same) inside in
    absurd (omega arith)

pub ill_listed : (t : TableView) (k : ℕ) (fault : FlatFault) → Err fault ≡ field t k (elements_from 4) → (u : TableView) → Element t k u → ⊥
unfolding vector_at
ill_listed t k fault e u (es, i, here, inside, found) =
    let v : vector_at t k ≡ Err (fault_of fault) = rw (sym e) refl in
    cc (v, here)
