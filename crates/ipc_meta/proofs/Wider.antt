-- What metadata states under some limits it states under all that cover them.
use Rattle.std.proofs.Common.{ℕ, List, arith}
use Rattle.ipc_flat.specs.Views.{TableView}
use Rattle.ipc_model.specs.Limits.{Covers}
use Rattle.ipc_model.specs.declared.limits.Limits.{Limits}
use Rattle.ipc_model.specs.declared.schema.Schema.{Schema}
use Rattle.ipc_model.proofs.Wider.{well_formed_wider, pairs_wider as allowed_wider}
use Rattle.ipc_meta.specs.declared.head.Head.{Head}
use Rattle.ipc_meta.specs.declared.head.Head.TheVariants as head
use Rattle.ipc_meta.specs.Fields.{SchemaAt}
use Rattle.ipc_meta.specs.Heads.{PairsAt, HeaderAt, HeadOf}

-- a Schema table that states a schema under some limits states it under all that cover them
schema_wider : (limits others : Limits) (t : TableView) (s : Schema) → Covers others limits → SchemaAt limits t s → SchemaAt others t s
schema_wider limits others t s c h = record {
  little_endian = h.little_endian;
  fields = h.fields;
  pairs = h.pairs;
  well_formed = well_formed_wider limits others s c h.well_formed;
}

-- so do the pairs of a record batch's message
pairs_wider : (limits others : Limits) (root : TableView) (pairs : List (List ℕ × List ℕ)) → Covers others limits
    → PairsAt limits root pairs → PairsAt others root pairs
pairs_wider limits others root pairs c h = record {
  stated = h.stated;
  allowed = allowed_wider limits others pairs c h.allowed;
}

-- so does a header
header_wider : (limits others : Limits) (root : TableView) (g : Head) → Covers others limits → HeaderAt limits root g
    → HeaderAt others root g
header_wider limits others root (head.Schema s) c h = (h.0, (h.1.0, h.1.1, schema_wider limits others h.1.0 s c h.1.2))
header_wider limits others root (head.Dictionary id batch) c h = h
header_wider limits others root (head.Batch batch pairs) c h = (h.0, pairs_wider limits others root pairs c h.1)

-- so does the whole metadata
pub head_wider : (limits others : Limits) (metadata : List ℕ) (g : Head) (m : ℕ) → Covers others limits → HeadOf limits metadata g m
    → HeadOf others metadata g m
head_wider limits others metadata g m c h = record {
  root = h.root;
  stands = h.stands;
  version = h.version;
  body = h.body;
  fits = omega (arith, h.fits, c.body);
  header = header_wider limits others h.root g c h.header;
}
