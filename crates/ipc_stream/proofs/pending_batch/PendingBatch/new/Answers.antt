use Rattle.std.proofs.Common.{ap, refl, subst, [], List}
use Rattle.ipc_model.specs.declared.schema.Field.{Field}
use Rattle.ipc_encode.specs.Built.{StoresRows}
use Rattle.ipc_encode.specs.Numbers.{known_indices}
use Rattle.ipc_dict.specs.Noting.{place_of_value}
use Rattle.ipc_dict.specs.Sending.{tally_of_rows}
use Rattle.ipc_dict.specs.TallyState.{TallyState}
use Rattle.ipc_dict.specs.Within.{AllWithin}
use Rattle.ipc_dict.proofs.ids.SchemaIds.{fit-unused}
use Rattle.ipc_stream.proofs.pending_batch.PendingBatch.new.Goals as goal

pub returns-clause-holds : goal.returns-clause-holds
returns-clause-holds c =
    let limits = c.args.limits.now in
    let fields = c.args.schema.now.fields in
    let fresh = c.in_ok-tally.ensures.fresh in
    record {
      tally = record {
        works = ap (λ (t : TallyState). t.failed) fresh;
        same_limits = ap (λ (t : TallyState). t.limits) fresh;
        same_fields = ap (λ (t : TallyState). t.fields) fresh;
        counted = ap (λ (t : TallyState). t.entries) fresh;
      };
      rows = subst (λ (fs : List Field). StoresRows (known_indices (place_of_value (tally_of_rows fields []))) limits fs []
          c.in_ok-with_pool.field-0)
          c.as_slice.ensures (c.in_ok-with_pool.ensures.rows (known_indices (place_of_value (tally_of_rows fields []))));
      pairs = refl;
      accepted = record {
        fit = tt;
        within = record {
          lengths = c.in_ok-check_pairs.ensures.judged.1;
          dictionaries = record {
            counted = fit-unused fields;
            lengths = subst (λ (t : TallyState). AllWithin limits fields t.entries) fresh
                c.in_ok-tally.ensures.within;
            short_messages = c.requires.short;
          };
          short_metadata = c.in_ok-check_pairs.ensures.judged.0.short_metadata;
          allowed_pairs = c.in_ok-check_pairs.ensures.judged.0.allowed_pairs;
        };
      };
    }
