-- How messages and bytes are counted.
use Rattle.std.specs.Prelude.{ℕ, suc, ◌+◌, ◌-◌, ◌^◌, min, List}
use Rattle.ipc_model.specs.declared.limits.Limits.{Limits}
use Rattle.ipc_stream_read.specs.Stream.{State, MessageEvent, Run, done, more}

-- n + k, but at most 2^64 - 1
abbrev pub count_up : ℕ → ℕ → ℕ
count_up n k = min (n + k) (2 ^ 64 - 1)

-- how many messages a run has
abbrev pub messages_in : {limits : Limits} {σ τ : State} {x : List ℕ} {events : List MessageEvent}
    → Run limits σ x events τ → ℕ
messages_in done = 0
messages_in (more frame step rest) = suc (messages_in rest)
