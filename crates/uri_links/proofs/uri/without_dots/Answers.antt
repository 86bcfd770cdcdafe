use Rattle.std.proofs.Common.{List, ℕ, ap, ◌∙◌}
use Rattle.uri_links.specs.Dots.{remove_dot_segments}
use Rattle.uri_links.specs.Parts.{Parts}
use Rattle.uri_links.specs.Allowed.{are_good}
use Rattle.uri_links.specs.code.Seen.{seen}
use Rattle.uri_links.proofs.ReferenceLemmas.{good_from, good_to, without_dots_good}
use Rattle.uri_links.proofs.uri.without_dots.Goals as goal

pub put_together-requires-clause-good : goal.put_together-requires-clause-good
put_together-requires-clause-good c =
    let p = seen c.args.parts.now in
    let clean : Parts = record p { path = remove_dot_segments p.path } in
    ap (λ (path : List ℕ). let q : Parts = record p { path = path } in are_good q) (c.as_str.ensures.value ∙ c.in_ok-path.ensures)
    ∙ good_to clean (without_dots_good p (good_from p c.requires.good))
