-- The state with which hashes of values begin.
use Rattle.std.specs.declared.hash.DefaultHasher.{DefaultHasher}
use Rattle.std.specs.Hash.DefaultHasher.{initial}
use Rattle.std.specs.RandomState.{initial_hasher}
use Rattle.ipc_dict.specs.declared.seed.Seed.{Seed}
use Rattle.ipc_dict.specs.declared.seed.Seed.TheVariants.{Fixed, Random}

-- the hasher for a seed
abbrev pub first_hasher : Seed → DefaultHasher
first_hasher Fixed = initial
first_hasher (Random state) = initial_hasher state
