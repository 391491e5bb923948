-- Laws of streams (Arrow Columnar Format, "IPC Streaming Format").
use Rattle.std.specs.Prelude.{◌≡◌, ℕ, List, [], ◌++◌}
use Rattle.ipc_model.specs.Limits.{Covers}
use Rattle.ipc_model.specs.declared.limits.Limits.{Limits}
use Rattle.ipc_model.specs.declared.table.Table.{Table}
use Rattle.ipc_stream_read.specs.declared.end.End.{End}
use Rattle.ipc_stream_read.specs.declared.end.End.TheVariants.{Mark, Closed}
use Rattle.ipc_stream_read.specs.Stream.{Denotes}

-- bytes denote at most one table with one end, whatever the limits
abbrev pub OneTable : Type 0
OneTable = (limits others : Limits) (x : List ℕ) (t u : Table) (d e : End) → Denotes limits x t d
    → Denotes others x u e → (t ≡ u) × (d ≡ e)

-- bytes that denote a table with the end mark are not the beginning of longer bytes that denote one
abbrev pub NoneBegins : Type 0
NoneBegins = (limits others : Limits) (x w : List ℕ) (t u : Table) (e : End)
    → Denotes limits x t Mark → Denotes others (x ++ w) u e → w ≡ []

-- a table with the end mark at the front of some bytes is the only reading of these bytes: any
-- other reading has the same table, end and bytes left
abbrev pub OneFront : Type 0
OneFront = (limits others : Limits) (x y rest left : List ℕ) (t u : Table) (e : End)
    → Denotes limits x t Mark → Denotes others y u e → (e ≡ Closed → left ≡ [])
    → x ++ rest ≡ y ++ left → (u ≡ t) × (e ≡ Mark) × (left ≡ rest)

-- bytes that denote a table under some limits denote it under all limits that cover them
abbrev pub Wider : Type 0
Wider = (limits others : Limits) (x : List ℕ) (t : Table) (e : End) → Covers others limits
    → Denotes limits x t e → Denotes others x t e
