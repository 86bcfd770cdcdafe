use Rattle.std.proofs.Common.{[], ◌∷◌, ◌++◌, ap, ◌∙◌, arith}
use Rattle.std.proofs.lemmas.Str.{encodes-chars, IsUtf8-string_bytes}
use Rattle.std.specs.Str.{encode_utf8_all}
use Rattle.std.specs.String.{string_bytes}
use Rattle.serde_json.specs.Written.{compact_text, has_float}
use Rattle.json_reply.specs.Line.{reply_json}
use Rattle.json_reply.proofs.Whole.{no_float, reply_whole}
use Rattle.json_reply.proofs.line.reply_text.Goals as goal

pub returns-clause-line : goal.returns-clause-line
returns-clause-line c =
    let made = c.in_ok-reply_value.ensures in
    let whole = ap has_float made.json ∙ no_float (reply_json c.args.reply.now) (reply_whole c.args.reply.now made.kept) in
    ap encode_utf8_all c.from_string.ensures
    ∙ encodes-chars (string_bytes c.push.new.self) (IsUtf8-string_bytes c.push.new.self)
    ∙ c.in_ok-push.ensures.bytes
    ∙ ap (λ bytes. string_bytes c.in_ok-line.line ++ bytes) (c.in_ok-push.ensures.ascii (omega arith))
    ∙ ap (λ bytes. bytes ++ 10 ∷ []) (c.in_ok-line.ensures.text whole ∙ ap compact_text made.json)
