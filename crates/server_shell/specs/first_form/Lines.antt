-- The line of a reply.
use Rattle.std.specs.Prelude.{ℕ, List, [], ◌∷◌, ◌++◌, codes, None, Some}
use Rattle.std.specs.declared.option.Option.{Option}
use Rattle.std.specs.Str.{encode_utf8_all}
use Rattle.serde_json.specs.Data.{Data, object, string, number, unsigned, Members, no_members, put}
use Rattle.serde_json.specs.Written.{compact_text}
use Rattle.server_shell.specs.declared.first_form.reply.Body.{Body}
use Rattle.server_shell.specs.declared.first_form.reply.Body.TheVariants as body
use Rattle.server_shell.specs.declared.first_form.reply.Refusal.{Refusal}
use Rattle.server_shell.specs.declared.first_form.reply.Refusal.TheVariants as refusal
use Rattle.server_shell.specs.declared.first_form.reply.Reply.{Reply}

abbrev pub name_of : Refusal → List ℕ
name_of refusal.LineLong = codes "LineLong"
name_of refusal.NotBuilt = codes "NotBuilt"
name_of refusal.NoDocument = codes "NoDocument"

abbrev pub number_of : ℕ → Data
number_of n = number (unsigned n)

abbrev pub with_version : Option ℕ → Members → Members
with_version None ms = ms
with_version (Some v) ms = put (codes "version") (number_of v) ms

-- the members beside the line's number
abbrev pub members_of : Body → Members → Members
members_of body.Staged ms = put (codes "reply") (string (codes "staged")) ms
members_of (body.Published v d) ms =
    put (codes "version") (number_of v)
    (put (codes "documents") (number_of d)
    (put (codes "reply") (string (codes "published")) ms))
members_of body.Ran ms = put (codes "reply") (string (codes "ran")) ms
members_of (body.Match v uri rule result) ms =
    put (codes "version") (number_of v)
    (put (codes "uri") (string (encode_utf8_all uri))
    (put (codes "rule") (string (encode_utf8_all rule))
    (put (codes "result") (string (encode_utf8_all result))
    (put (codes "reply") (string (codes "match")) ms))))
members_of (body.NoMatch v) ms =
    put (codes "version") (number_of v)
    (put (codes "reply") (string (codes "nomatch")) ms)
members_of (body.Refused r v) ms =
    with_version v
    (put (codes "refusal") (string (name_of r))
    (put (codes "reply") (string (codes "refused")) ms))
members_of body.Memory ms = put (codes "reply") (string (codes "memory")) ms

-- the JSON value of a reply
abbrev pub data_of : Reply → Data
data_of r = object (members_of r.body (put (codes "line") (number_of r.line) no_members))

-- compact JSON, its members in order, and a line feed
unfoldable pub line_of : Reply → List ℕ
line_of r = compact_text (data_of r) ++ 10 ∷ []
