use Rattle.std.proofs.Common.{List, ℕ, ap, ◌∙◌}
use Rattle.uri_links.specs.Allowed.{are_good}
use Rattle.uri_links.specs.Parts.{Parts}
use Rattle.uri_links.specs.Resolution.{target_path}
use Rattle.uri_links.specs.code.Seen.{seen}
use Rattle.uri_links.proofs.ReferenceLemmas.{IsGood, good_from, good_to, target_path_allowed}
use Rattle.uri_links.proofs.resolution.target.Goals as goal

pub without_dots-requires-2-clause-good : goal.without_dots-requires-2-clause-good
without_dots-requires-2-clause-good c =
    let b = seen c.args.base.now in
    let r = seen c.args.reference.now in
    let base = good_from b c.requires.good_base in
    let reference = good_from r c.requires.good_reference in
    let p : Parts = record b { path = target_path b r.path; query = r.query; fragment = r.fragment } in
    let good : IsGood p = record {
      scheme = base.scheme;
      authority = base.authority;
      path = target_path_allowed b r.path base.path reference.path;
      query = reference.query;
      fragment = reference.fragment;
    } in
    ap (λ (path : List ℕ). let q : Parts = record p { path = path } in are_good q) (c.as_str.ensures.value ∙ c.in_ok-path.ensures) ∙ good_to p good
