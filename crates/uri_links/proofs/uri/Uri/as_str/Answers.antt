use Rattle.std.proofs.Common.{◌∙◌}
use Rattle.uri_links.proofs.ReferenceLemmas.{bytes_same}
use Rattle.uri_links.proofs.uri.Uri.as_str.Goals as goal

pub returns-clause-same : goal.returns-clause-same
returns-clause-same c = bytes_same c.self.inside.text c.as_str.result.now c.as_str.ensures.bytes c.self.invariant ∙ c.self.view_is
