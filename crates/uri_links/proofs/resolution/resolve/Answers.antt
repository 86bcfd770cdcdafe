use Rattle.std.proofs.Common.{◌≡◌, List, ℕ, IsSome, ap, sym, ◌∙◌, subst}
use Rattle.std.proofs.lemmas.Result.{IfOk-weaker}
use Rattle.uri_links.specs.Allowed.{are_good, is_reference}
use Rattle.uri_links.specs.Parts.{parts, recompose}
use Rattle.uri_links.specs.Resolution.{resolve, target}
use Rattle.uri_links.specs.code.Seen.{seen}
use Rattle.uri_links.proofs.ReferenceLemmas.{reference_good, target_good, recompose_scheme}
use Rattle.uri_links.proofs.resolution.resolve.Goals as goal

pub target-requires-clause-good_base : goal.target-requires-clause-good_base
unfolding is_reference
target-requires-clause-good_base c = ap are_good c.split.ensures ∙ (ap (λ t. are_good (parts t)) c.as_str.ensures.same ∙ c.as_str.ensures.reference)

pub target-requires-clause-good_reference : goal.target-requires-clause-good_reference
unfolding is_reference
target-requires-clause-good_reference c = ap are_good c.split-2.ensures ∙ (ap (λ t. are_good (parts t)) c.as_str-2.ensures.same ∙ c.as_str-2.ensures.reference)

pub returns-clause-resolved : goal.returns-clause-resolved
unfolding resolve
returns-clause-resolved c =
    let b : seen c.split.result ≡ parts c.args.base.now = c.split.ensures ∙ ap parts c.as_str.ensures.same in
    let r : seen c.split-2.result ≡ parts c.args.reference.now = c.split-2.ensures ∙ ap parts c.as_str-2.ensures.same in
    IfOk-weaker c.target.result _ _
    (λ x e. e ∙ (ap (λ p. recompose (target p (seen c.split-2.result))) b ∙ ap (λ p. recompose (target (parts c.args.base.now) p)) r)) c.target.ensures

pub returns-clause-scheme : goal.returns-clause-scheme
returns-clause-scheme c =
    let b : seen c.split.result ≡ parts c.args.base.now = c.split.ensures ∙ ap parts c.as_str.ensures.same in
    let r : seen c.split-2.result ≡ parts c.args.reference.now = c.split-2.ensures ∙ ap parts c.as_str-2.ensures.same in
    let good = target_good (parts c.args.base.now) (parts c.args.reference.now) (reference_good c.args.base.now c.as_str.ensures.reference)
    (reference_good c.args.reference.now c.as_str-2.ensures.reference) c.requires in
    let t = target (parts c.args.base.now) (parts c.args.reference.now) in
    IfOk-weaker c.target.result _ (λ uri. IsSome (parts uri).scheme)
    (λ x e. subst (λ (u : List ℕ). IsSome (parts u).scheme)
    (sym (e ∙ (ap (λ p. recompose (target p (seen c.split-2.result))) b ∙ ap (λ p. recompose (target (parts c.args.base.now) p)) r)))
    (subst IsSome (sym (recompose_scheme t good.0 good.1)) good.1)) c.target.ensures
