use Rattle.std.proofs.Common.{List, ℕ, drop, length}
use Rattle.std.proofs.lemmas.Slice.Eq.{starts_is, bytes_eq-Decides}
use Rattle.earley_chart.proofs.reading.begins.Goals as goal

pub returns : goal.returns
returns c =
    let h = starts_is bytes_eq-Decides c.args.words.now c.args.front.now c.starts_with.result c.starts_with.ensures.value in
    (λ is. (drop (length c.args.front.now) c.args.words.now, h.0 is), λ rest. h.1 rest.0 rest.1)
