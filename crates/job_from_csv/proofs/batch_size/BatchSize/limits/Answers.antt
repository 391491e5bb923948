use Rattle.std.proofs.Common.{◌∙◌, ap, refl}
use Rattle.std.specs.Prelude.{min}
use Rattle.job_from_csv.proofs.batch_size.BatchSize.limits.Goals as goal

pub returns : goal.returns
returns c = record {
  usual = c.standard-usual.result;
  standard = c.standard-usual.ensures;
  values = record {
    metadata_is = refl;
    body_is = c.min.ensures ∙ ap (λ n. min n c.standard-usual.result.body) c.unwrap_or.ensures;
    slots_is = refl;
    fields_is = refl;
    depth_is = refl;
    text_is = refl;
    pairs_is = refl;
  };
}
