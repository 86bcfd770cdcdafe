use Rattle.std.proofs.Common.{ℕ, List, Bor, sym, ◌∙◌, rules, tests}
use Rattle.std.proofs.lemmas.Iterator.{YieldsList-from_slice}
use Rattle.std.proofs.lemmas.Iterator.Search.{any_from_yields_List}
use Rattle.std.specs.Str.{bytes_eq}
use Rattle.command_reader.proofs.Named.{list_any-map}
use Rattle.command_reader.proofs.members.is_one_of.Goals as goal

pub returns : goal.returns
returns c =
    let here = λ (n : Bor (List ℕ)). n.now in
    any_from_yields_List (λ n. bytes_eq c.args.name.now (here n)) _ _ _ c.any.ensures.ran (YieldsList-from_slice c.args.names.now c.iter.ensures.rest) (λ x b q k. search (rules, tests))
    ∙ sym (list_any-map (bytes_eq c.args.name.now) here c.args.names.now)
