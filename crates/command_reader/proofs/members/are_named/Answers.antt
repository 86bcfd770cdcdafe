use Rattle.std.proofs.Common.{ℕ, List, map, ◌∙◌, rules, tests, string_bytes}
use Rattle.std.proofs.lemmas.Iterator.Search.{all_from_yields_List}
use Rattle.std.proofs.lemmas.Iterator.Consumers.{YieldsList-from_rest}
use Rattle.std.specs.List.{list_any}
use Rattle.std.specs.Map.{keys_of}
use Rattle.std.specs.Str.{bytes_eq}
use Rattle.command_reader.proofs.Named.{named_within-members_view}
use Rattle.command_reader.proofs.members.are_named.Goals as goal

pub returns : goal.returns
returns c =
    let names : List (List ℕ) = map (λ n. n.now) c.args.names.now in
    let entries = c.args.members.now.entries in
    all_from_yields_List (λ key. list_any (bytes_eq (string_bytes key)) names) _ _ _ c.all.ensures.ran (YieldsList-from_rest (keys_of entries) c.keys.ensures.rest) (λ x b q k. search (rules, tests))
    ∙ named_within-members_view names entries
