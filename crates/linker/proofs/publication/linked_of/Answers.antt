use Rattle.std.proofs.Common.{◌≤◌, ◌^◌, List, length, subst, sym, arith}
use Rattle.grammar_tree.specs.declared.linked.Node.{Node}
use Rattle.grammar_tree.specs.Links.{IsLinked}
use Rattle.linker.proofs.LinkedVersion.{are_linked}
use Rattle.linker.proofs.publication.linked_of.Goals as goal

pub new-requires : goal.new-requires
new-requires c =
    let few : length c.args.nodes.items ≤ 2 ^ 32 = omega arith in
    subst (λ (nodes : List Node). IsLinked (record { nodes = nodes; rules = c.args.rules })) (sym c.from_vec.ensures)
    (are_linked c.requires.0 c.requires.1 c.args.nodes.items c.args.rules c.requires.2 few)
