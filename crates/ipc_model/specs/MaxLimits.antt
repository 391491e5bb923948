-- The greatest values that limits may have. Where no section of the standard is named, one is this
-- project's.
use Rattle.std.specs.Prelude.{ℕ, ◌-◌, ◌^◌}

-- the greatest limit of the bytes of a message's metadata
abbrev pub max_metadata : ℕ
max_metadata = 2 ^ 28

-- the greatest limit of the bytes of a message's body
abbrev pub max_body : ℕ
max_body = 2 ^ 42

-- the greatest limit of the rows of a batch and of the slots of a column (Arrow Columnar Format,
-- "Array lengths")
abbrev pub max_slots : ℕ
max_slots = 2 ^ 31 - 1

-- the greatest limit of the fields of a schema
abbrev pub max_fields : ℕ
max_fields = 2 ^ 20

-- the greatest limit of the depth to which fields nest
abbrev pub max_depth : ℕ
max_depth = 64

-- the greatest limit of the bytes of names, keys, values and timezones
abbrev pub max_text : ℕ
max_text = 2 ^ 30

-- the greatest limit of the pairs of key and value
abbrev pub max_pairs : ℕ
max_pairs = 2 ^ 24
