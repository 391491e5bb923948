-- Parts (`ColumnRanges`) that store what one scan of each node found, so that no slot of a node
-- whose texts or indices are all valid is visited.
use Rattle.std.specs.Prelude.{◌≡◌, ℕ, Bool, true, ◌&&◌, ◌||◌, not, List, [], ◌∷◌, length}
use Rattle.std.specs.Prelude.{map, if◌then◌else◌}
use Rattle.ipc_model.specs.declared.layout.Layout.{Layout}
use Rattle.ipc_model.specs.declared.layout.Layout.TheVariants as l
use Rattle.ipc_model.specs.Layouts.{needs_slot_checks}
use Rattle.ipc_column.specs.checks.Checks.{all_slots, text_good, index_good}
use Rattle.ipc_column.specs.Columns.{Column}
use Rattle.ipc_column.specs.Spans.{span_bytes}
use Rattle.ipc_column.specs.declared.ranges.ColumnRanges.{ColumnRanges}
use Rattle.ipc_column.specs.declared.ranges.ColumnRanges.TheOpen.{ColumnRanges-F}
use Rattle.ipc_column.specs.declared.ranges.ColumnRanges.TheFolds.{fold-ColumnRanges}

-- all slots of a column of this layout, null slots included, hold UTF-8 if they hold texts
-- (Schema.fbs, Utf8), and indices of the dictionary's values if they hold indices (Arrow Columnar
-- Format, "Dictionary-encoded Layout")
abbrev pub all_valid : Layout → Column → Bool
all_valid (l.VariableBytes true) c = all_slots (text_good [] c.offsets c.values) 0 c.slots
all_valid (l.Indices bits signed id) c =
    all_slots (index_good [] bits signed (length c.dictionary) c.values) 0 c.slots
all_valid _ c = true

-- the column of a part, without its children
abbrev pub own_of : {X : Type 0} → List ℕ → ColumnRanges-F X → Column
own_of body p = record {
  layout = p.layout;
  slots = p.slots;
  nulls = p.nulls;
  validity = span_bytes body p.validity;
  offsets = span_bytes body p.offsets;
  values = span_bytes body p.values;
  dictionary = p.dictionary;
}

-- two truth values are equal
abbrev pub is_same : Bool → Bool → Bool
is_same a b = if a then b else not b

-- facts of a part: what it stores; and whether this is right of it and of each part below it
pub record Mark : Type 0 where
  pub valid : Bool
  pub right : Bool

-- each of the parts stores that what is in it and below it is valid
abbrev pub each_valid : List Mark → Bool
each_valid [] = true
each_valid (m ∷ ms) = m.valid && each_valid ms

-- what each of the parts stores is right
abbrev pub all_right : List Mark → Bool
all_right [] = true
all_right (m ∷ ms) = m.right && all_right ms

-- the facts of one part, given those of its children: a part of texts or indices may store that
-- they are valid if all are; another part stores whether each of its children does
abbrev pub mark_step : List ℕ → ColumnRanges-F Mark → Mark
mark_step body p = record {
  valid = p.known_valid;
  right = (not (needs_slot_checks p.layout && p.known_valid) || all_valid p.layout (own_of body p))
      && ((needs_slot_checks p.layout || is_same p.known_valid (each_valid p.children.items))
      && all_right p.children.items);
}

-- the facts of a part over this body
abbrev pub mark : List ℕ → ColumnRanges → Mark
mark body = fold-ColumnRanges Mark (mark_step body)

-- what a part and those below it store is right of this body
abbrev pub IsMarked : List ℕ → ColumnRanges → Type 0
IsMarked body p = (mark body p).right ≡ true

-- what each part of a list stores is right (`IsMarked`)
abbrev pub AreMarked : List ℕ → List ColumnRanges → Type 0
AreMarked body ps = all_right (map (mark body) ps) ≡ true
