-- What is kept of a stream while it is read (Arrow Columnar Format, "Encapsulated message format").
use Rattle.std.specs.Prelude.{◌≡◌, ℕ, ◌+◌, List, [], ◌++◌, take, Option, None, Some}
use Rattle.std.specs.Prelude.{Result, Ok, Err}
use Rattle.ipc_model.specs.declared.fault.Fault.{Fault}
use Rattle.ipc_model.specs.declared.fault.Fault.TheVariants.{Failed}
use Rattle.ipc_model.specs.declared.limits.Limits.{Limits}
use Rattle.ipc_frame.specs.Pieces.{Progress, taking, ended, refused, FeedsFrames}
use Rattle.ipc_frame.specs.declared.frame.Frame.{Frame}

-- the first bytes of a message: at most as many as its prefix and its metadata can have
abbrev pub front_of : Limits → List ℕ → List ℕ
front_of limits z = take (8 + limits.metadata) z

-- the bytes that are kept: the first ones of the message that is being read; after the end of the
-- stream none; after a refusal those that were kept then
abbrev pub kept_of : Limits → Progress → List ℕ → List ℕ
kept_of limits (taking z) kept = front_of limits z
kept_of limits ended kept = []
kept_of limits refused kept = kept

-- the bytes and the message that are kept after a piece, by the result of feeding it. What is taken
-- of a message that is not complete is kept, and so is what is refused; a complete message or
-- end-of-stream mark is kept whole
abbrev pub KeepsFed : Limits → List ℕ → List ℕ → List ℕ → Option Frame
    → Result (ℕ × Option Frame) Fault → Type 0
KeepsFed limits kept piece after last (Ok (n, None)) =
    (after ≡ front_of limits (kept ++ take n piece)) × (last ≡ None)
KeepsFed limits kept piece after last (Ok (n, Some frame)) = (after ≡ []) × (last ≡ Some frame)
KeepsFed limits kept piece after last (Err Failed) = (after ≡ kept) × (last ≡ None)
KeepsFed limits kept piece after last (Err fault) =
    (after ≡ front_of limits (kept ++ piece)) × (last ≡ None)

-- the progress, the bytes and the message that are kept after a piece of the stream: it is taken as
-- `FeedsFrames` states, and kept by the result
abbrev pub Keeps : Limits → Progress → List ℕ → List ℕ → Progress → List ℕ → Option Frame → Type 0
Keeps limits progress kept piece new after last = (r : Result (ℕ × Option Frame) Fault)
    × FeedsFrames limits progress piece new r × KeepsFed limits kept piece after last r
