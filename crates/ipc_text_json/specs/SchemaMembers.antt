-- The objects in the JSON of a schema, by the values of their members (RFC 8259).
use Rattle.std.specs.Prelude.{codes}
use Rattle.serde_json.specs.Data.{Data, Items, array, member, no_members, object}

-- the object of a schema with these entries
abbrev pub schema_object : Items → Data → Data
schema_object fields metadata = object (member (codes "fields") (array fields)
    (member (codes "metadata") metadata no_members))

-- the object of a field
abbrev pub field_object : Data → Data → Data → Data → Data → Data → Data
field_object children dictionary metadata name nullable kind =
    object (member (codes "children") children
    (member (codes "dictionary") dictionary
    (member (codes "metadata") metadata
    (member (codes "name") name
    (member (codes "nullable") nullable
    (member (codes "type") kind no_members))))))
