-- The version of the metadata.
use Rattle.std.specs.Prelude.{ℤ, pos}

-- Schema.fbs, enum MetadataVersion: the number of V5
abbrev pub v5 : ℤ
v5 = pos 4
