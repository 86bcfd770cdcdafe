use Rattle.std.proofs.Common.{◌≡◌, true, []}
use Rattle.rule_reader.proofs.LeafPlaces.{of_all}
use Rattle.rule_reader.proofs.laws.leaves_are_lexemes.Goals as goal

pub returns : goal.returns
returns c = λ p inner h. (of_all (λ s. p s ≡ true) inner [] h).0
