-- What is well formed under some limits is so under all that cover them.
use Rattle.std.proofs.Common.{ℕ, List, [], ◌∷◌, arith}
use Rattle.std.specs.List.{AllByRecursion}
use Rattle.ipc_model.specs.Entries.{Entry, entries, AllowPairs}
use Rattle.ipc_model.specs.MaxLimits.{max_metadata, max_body, max_slots, max_fields, max_depth, max_text}
use Rattle.ipc_model.specs.MaxLimits.{max_pairs}
use Rattle.ipc_model.specs.Limits.{Covers}
use Rattle.ipc_model.specs.WellFormed.{IsFieldWellFormed, WellFormed}
use Rattle.ipc_model.specs.declared.schema.Schema.{Schema}
use Rattle.ipc_model.specs.declared.limits.Limits.{Limits}

-- the limits that allow most
pub greatest : Limits
greatest = record {
  metadata = max_metadata;
  body = max_body;
  slots = max_slots;
  fields = max_fields;
  depth = max_depth;
  text = max_text;
  pairs = max_pairs;
  metadata_fits = omega arith;
  body_fits = omega arith;
  slots_fit = omega arith;
  fields_fit = omega arith;
  depth_fits = omega arith;
  text_fits = omega arith;
  pairs_fit = omega arith;
}

-- they cover all limits
pub greatest_covers : (limits : Limits) → Covers greatest limits
unfolding greatest
greatest_covers limits = record {
  metadata = limits.metadata_fits;
  body = limits.body_fits;
  slots = limits.slots_fit;
  fields = limits.fields_fit;
  depth = limits.depth_fits;
  text = limits.text_fits;
  pairs = limits.pairs_fit;
}

each_wider : (limits others : Limits) (es : List Entry) → Covers others limits → AllByRecursion (IsFieldWellFormed limits) es
    → AllByRecursion (IsFieldWellFormed others) es
each_wider limits others [] c h = tt
each_wider limits others (e ∷ es) c h = (
  record {
    good_type = h.0.good_type;
    fitting_children = h.0.fitting_children;
    shallow = omega (arith, h.0.shallow, c.depth);
    leaf_dictionary = h.0.leaf_dictionary;
  },
  each_wider limits others es c h.1,
)

-- a schema that is well formed under some limits is so under all that cover them
pub well_formed_wider : (limits others : Limits) (s : Schema) → Covers others limits → WellFormed limits s → WellFormed others s
well_formed_wider limits others s c w = record {
  each = each_wider limits others (entries s.fields) c w.each;
  few_fields = omega (arith, w.few_fields, c.fields);
  little_text = omega (arith, w.little_text, c.text);
  few_pairs = omega (arith, w.few_pairs, c.pairs);
  one_type = w.one_type;
}

-- pairs that one batch may have under some limits it may have under all that cover them
pub pairs_wider : (limits others : Limits) (pairs : List (List ℕ × List ℕ)) → Covers others limits → AllowPairs limits pairs
    → AllowPairs others pairs
pairs_wider limits others pairs c h = record {
  little_text = (let l = h.little_text in let w = c.text in omega (arith, l, w));
  few_pairs = (let f = h.few_pairs in let w = c.pairs in omega (arith, f, w));
}
