-- The values that slots of a layout can have (Arrow Columnar Format, "Physical Memory Layout").
use Rattle.std.specs.Prelude.{◌≡◌, true, false, length, ⊤}
use Rattle.ipc_model.specs.Ranges.{width, IsSignedWithin, IsUnsignedWithin}
use Rattle.ipc_model.specs.declared.layout.Layout.{Layout}
use Rattle.ipc_model.specs.declared.layout.Layout.TheVariants as l
use Rattle.ipc_model.specs.declared.value.Value.{Value}
use Rattle.ipc_model.specs.declared.value.Value.TheVariants as v

-- null, or a value that a slot of this layout holds: a number of its width and sign, bytes of the
-- fixed number, or a text or bytes of any length. Any value is allowed for lists, structs and
-- indices, whose values are stored elsewhere (Arrow Columnar Format, "Fixed-size Primitive Layout",
-- "Variable-size Binary Layout")
abbrev pub IsShownBy : Layout → Value → Type 0
IsShownBy (l.Indices bits signed id) value = ⊤
IsShownBy l.Lists value = ⊤
IsShownBy (l.FixedLists size) value = ⊤
IsShownBy l.Structs value = ⊤
IsShownBy l.Null v.Null = ⊤
IsShownBy l.Null value = ⊥
IsShownBy l.Bits v.Null = ⊤
IsShownBy l.Bits (v.Bool truth) = ⊤
IsShownBy l.Bits value = ⊥
IsShownBy (l.Numbers bits signed) v.Null = ⊤
IsShownBy (l.Numbers bits true) (v.Int number) = IsSignedWithin (width bits) number
IsShownBy (l.Numbers bits false) (v.UInt number) = IsUnsignedWithin (width bits) number
IsShownBy (l.Numbers bits signed) value = ⊥
IsShownBy (l.FixedBytes size) v.Null = ⊤
IsShownBy (l.FixedBytes size) (v.Bytes bytes) = length bytes ≡ size
IsShownBy (l.FixedBytes size) value = ⊥
IsShownBy (l.VariableBytes utf8) v.Null = ⊤
IsShownBy (l.VariableBytes true) (v.Text text) = ⊤
IsShownBy (l.VariableBytes false) (v.Bytes bytes) = ⊤
IsShownBy (l.VariableBytes utf8) value = ⊥
