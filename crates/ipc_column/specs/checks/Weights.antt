-- How many slots validation may visit one by one for a range of rows.
use Rattle.std.specs.Prelude.{ℕ, ◌+◌, ◌-◌, ◌*◌, List, if◌then◌else◌}
use Rattle.ipc_model.specs.declared.layout.Layout.{Layout}
use Rattle.ipc_model.specs.declared.layout.Layout.TheVariants as l
use Rattle.ipc_column.specs.Columns.{Columns, none, column}
use Rattle.ipc_column.specs.checks.Rules.{has_slot_visits}
use Rattle.ipc_column.specs.Values.{child_slot}

-- how many slots validation may visit below the slots from i up to j; `below` counts a range of the
-- children's slots
abbrev pub visits_below : Layout → (ℕ → ℕ → ℕ) → List ℕ → ℕ → ℕ → ℕ
visits_below l.Lists below offsets i j =
    below (child_slot l.Lists offsets i) (child_slot l.Lists offsets j)
visits_below (l.FixedLists size) below offsets i j = below (size * i) (size * j)
visits_below l.Structs below offsets i j = below i j
visits_below _ below offsets i j = 0

-- how many slots validation may visit in the slots from i up to j of each column, and below them
unfoldable pub visits : Columns → ℕ → ℕ → ℕ
visits none i j = 0
visits (column c children rest) i j = (if has_slot_visits c children then j - i else 0)
    + visits_below c.layout (visits children) c.offsets i j + visits rest i j
