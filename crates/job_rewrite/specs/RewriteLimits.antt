-- The limits of a stream that is rewritten.
use Rattle.std.specs.Prelude.{◌^◌, ◌-◌, max, min, unwrap_or}
use Rattle.std.proofs.Math.Dec.{lit≤}
use Rattle.std.proofs.Math.Nat.{max-le, min-le_right}
use Rattle.ipc_model.specs.MaxLimits.{max_body}
use Rattle.ipc_model.specs.declared.limits.Limits.{Limits}
use Rattle.job_rewrite.specs.declared.options.RewriteOptions.{RewriteOptions}

-- each limit, raised to the standard one if it is below it
abbrev pub at_least_standard : Limits → Limits
at_least_standard limits = record {
  metadata = max limits.metadata (2 ^ 24);
  body = max limits.body (2 ^ 40);
  slots = max limits.slots (2 ^ 31 - 1);
  fields = max limits.fields 65536;
  depth = max limits.depth 64;
  text = max limits.text (2 ^ 26);
  pairs = max limits.pairs (2 ^ 20);
  metadata_fits = max-le limits.metadata_fits (lit≤ tt);
  body_fits = max-le limits.body_fits (lit≤ tt);
  slots_fit = max-le limits.slots_fit (lit≤ tt);
  fields_fit = max-le limits.fields_fit (lit≤ tt);
  depth_fits = max-le limits.depth_fits (lit≤ tt);
  text_fits = max-le limits.text_fits (lit≤ tt);
  pairs_fit = max-le limits.pairs_fit (lit≤ tt);
}

-- the limits of what is sent: the raised ones, with the limit of a body that the options give in
-- the place of theirs, if they give one
abbrev pub sent_limits : RewriteOptions → Limits → Limits
sent_limits options limits = record (at_least_standard limits) {
  body = min (unwrap_or options.max_body (at_least_standard limits).body) max_body;
  body_fits =
      min-le_right (unwrap_or options.max_body (at_least_standard limits).body) max_body;
}
