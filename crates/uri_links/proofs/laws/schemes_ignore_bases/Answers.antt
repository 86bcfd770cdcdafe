use Rattle.std.proofs.Common.{ap, sym, ◌∙◌}
use Rattle.std.proofs.lemmas.Bool.{cond-true}
use Rattle.uri_links.specs.Parts.{recompose}
use Rattle.uri_links.specs.Resolution.{resolve}
use Rattle.uri_links.proofs.laws.schemes_ignore_bases.Goals as goal

pub returns : goal.returns
unfolding resolve
returns c = λ base other reference s. ap recompose (cond-true _ _ _ s ∙ sym (cond-true _ _ _ s))
