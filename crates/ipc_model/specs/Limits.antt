-- How much one stream, schema or batch may hold. Where no section of the standard is named, a
-- limit is this project's.
use Rattle.std.specs.Prelude.{◌≡◌, ℕ, ◌-◌, ◌^◌, ◌≤◌}
use Rattle.ipc_model.specs.MaxLimits.{max_metadata, max_body, max_slots}
use Rattle.ipc_model.specs.MaxLimits.{max_fields, max_depth, max_text, max_pairs}
use Rattle.ipc_model.specs.declared.limits.Limits.{Limits}

-- the most bytes that 32-bit offsets can address, whatever the limits (Arrow Columnar Format,
-- "Variable-size Binary Layout")
abbrev pub max_data : ℕ
max_data = 2 ^ 31 - 1

-- the standard limits, which fit streams as they occur in practice
pub record IsStandard (limits : Limits) : Type 0 where
  pub metadata : limits.metadata ≡ 2 ^ 24
  pub body : limits.body ≡ 2 ^ 40
  pub slots : limits.slots ≡ 2 ^ 31 - 1
  pub fields : limits.fields ≡ 65536
  pub depth : limits.depth ≡ 64
  pub text : limits.text ≡ 2 ^ 26
  pub pairs : limits.pairs ≡ 2 ^ 20

-- no limit is below the other's, so what is within `others` is within `limits`
pub record Covers (limits others : Limits) : Type 0 where
  pub metadata : others.metadata ≤ limits.metadata
  pub body : others.body ≤ limits.body
  pub slots : others.slots ≤ limits.slots
  pub fields : others.fields ≤ limits.fields
  pub depth : others.depth ≤ limits.depth
  pub text : others.text ≤ limits.text
  pub pairs : others.pairs ≤ limits.pairs

-- the limits have these values, in this order
pub record HaveLimitValues (limits : Limits) (metadata body slots fields depth text
    pairs : ℕ) : Type 0 where
  pub metadata_is : limits.metadata ≡ metadata
  pub body_is : limits.body ≡ body
  pub slots_is : limits.slots ≡ slots
  pub fields_is : limits.fields ≡ fields
  pub depth_is : limits.depth ≡ depth
  pub text_is : limits.text ≡ text
  pub pairs_is : limits.pairs ≡ pairs

-- limits may have these values: each is at most its greatest value
pub record AreAllowed (metadata body slots fields depth text pairs : ℕ) : Type 0 where
  pub metadata_fits : metadata ≤ max_metadata
  pub body_fits : body ≤ max_body
  pub slots_fit : slots ≤ max_slots
  pub fields_fit : fields ≤ max_fields
  pub depth_fits : depth ≤ max_depth
  pub text_fits : text ≤ max_text
  pub pairs_fit : pairs ≤ max_pairs
