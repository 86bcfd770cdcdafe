-- What is put to the members of an object, one field after another: each member goes to its place among the names.
use Rattle.std.specs.Prelude.{List, [], ◌∷◌, Some, None}
use Rattle.serde_json.specs.Data.{Members, put}
use Rattle.serde_json.specs.View.{members_view}
use Rattle.command_reader.specs.Written.{Field}
use Rattle.json_reply.specs.declared.object.Object.{Object}

-- the members with a field, unless it is left out
abbrev pub put_field : Field → Members → Members
put_field (name, None) members = members
put_field (name, Some value) members = put name value members

abbrev pub put_each : Members → List Field → Members
put_each members [] = members
put_each members (field ∷ fields) = put_each (put_field field members) fields

-- the members so far
abbrev pub held : Object → Members
held object = members_view object.members.entries
