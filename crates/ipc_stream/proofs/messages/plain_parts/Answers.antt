use Rattle.std.proofs.Common.{◌≡◌, ◌∙◌, ap, subst, [], arith}
use Rattle.std.specs.List.{Contains}
use Rattle.std.proofs.lemmas.Result.{IfErr-weaker}
use Rattle.ipc_encode.specs.Indices.{FindsIndex}
use Rattle.ipc_dict.specs.SchemaIds.{of_fields}
use Rattle.ipc_dict.proofs.pairs.Covered.{covered}
use Rattle.ipc_dict.proofs.pairs.PairsFit.{column_names}
use Rattle.ipc_stream.proofs.WithinLimits.{memory_alone}
use Rattle.ipc_stream.proofs.messages.plain_parts.Goals as goal
use Rattle.ipc_encode.proofs.Agreeing.{no_indices}

pub returns-clause-rows : goal.returns-clause-rows
returns-clause-rows c = λ fine fit one within.
    let none : of_fields c.args.fields.now ≡ [] = ap of_fields one.2 ∙ column_names one.0 one.1 in
    c.encode.ensures.rows [] fine fit
    (covered (FindsIndex [] no_indices) c.args.limits.now c.args.fields.now c.args.rows.now fine
    (λ d v named pair. let out : Contains [] d = subst (λ ds. Contains ds d) none named in absurd (omega (arith, out.1))))

pub returns-clause-refused : goal.returns-clause-refused
returns-clause-refused c = λ within.
    IfErr-weaker c.encode.result _ _
    (λ fault refused. memory_alone c.args.limits.now c.args.fields.now c.args.rows.now fault within refused)
    c.encode.ensures.refused
