use Rattle.std.proofs.Common.{sym}
use Rattle.std.proofs.lemmas.Result.{IfOk-weaker}
use Rattle.csv.specs.Records.{fields_of}
use Rattle.job_explain.proofs.RefusedRecords.{record_explained}
use Rattle.job_explain.proofs.records.explain_record.Goals as goal

pub returns-in-Some-field_at : goal.returns-in-Some-field_at
returns-in-Some-field_at c = rw c.in-BadField.is (record {
  explains = IfOk-weaker c.explain_field.result _ _
      (λ out h. record_explained c.in-BadField.number c.in-BadField.column _ c.args.schema.now.fields (fields_of c.args.fields.now)
      c.in-Some-field_at.column.now c.in-Some-get.field.now out.items
      (rw c.as_slice-columns.ensures at c.in-Some-field_at.ensures.some) (sym c.in-Some-get.ensures.value)
      (rw c.words_of.ensures at h)) c.explain_field.ensures;
})
