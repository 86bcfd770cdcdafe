use Rattle.std.proofs.Common.{arith}
use Rattle.script_value.specs.Json.{json}
use Rattle.script_value.proofs.SameJson.{json_tells}
use Rattle.script_value.proofs.Shown.{json_shallow, json_whole}
use Rattle.script_value.proofs.Whole.{text_tells}
use Rattle.script_value.proofs.laws.texts_tell_values.Goals as goal

pub returns-clause-json : goal.returns-clause-json
returns-clause-json c = json_tells

pub returns-clause-texts : goal.returns-clause-texts
returns-clause-texts c = λ this that p q shallow flat same.
    let low = json_shallow this in
    let high = json_shallow that in
    json_tells this that p q (text_tells (json this) (json that) (json_whole this p) (json_whole that q) (omega arith) (omega arith) same)
