-- How bytes are copied to memory of the caller.
use Rattle.std.specs.Prelude.{◌≡◌, ◌<◌, ◌≤◌, ℕ, List, ◌++◌, length, drop}

-- all bytes of the source are at the beginning of the target, or the target is too short and is
-- left as it is; the count is that of the source
pub record Copies (source old new : List ℕ) (count : ℕ) : Type 0 where
  pub counted : count ≡ length source
  pub copied : length source ≤ length old → new ≡ source ++ drop (length source) old
  pub too_short : length old < length source → new ≡ old
