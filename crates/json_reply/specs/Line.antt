-- The line of a reply: compact JSON (RFC 8259), then a line feed.
use Rattle.std.specs.Prelude.{ℕ, List, [], ◌∷◌, ◌++◌}
use Rattle.serde_json.specs.Data.{Data, object}
use Rattle.serde_json.specs.Written.{compact_text}
use Rattle.command_reader.specs.Written.{Field, members_of, area_field}
use Rattle.json_reply.specs.Rows.{fields_of}
use Rattle.json_reply.specs.declared.reply.Reply.{Reply}

-- all members of a reply; `area` stands exactly where it isn't 0
abbrev pub reply_fields : Reply → List Field
reply_fields reply = area_field reply.area.0 ∷ fields_of reply.line reply.body

abbrev pub reply_json : Reply → Data
reply_json reply = object (members_of (reply_fields reply))

-- the bytes of the line
abbrev pub reply_line : Reply → List ℕ
reply_line reply = compact_text (reply_json reply) ++ 10 ∷ []
