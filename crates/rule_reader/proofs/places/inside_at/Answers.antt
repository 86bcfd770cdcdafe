use Rattle.std.proofs.Common.{◌≡◌, ℕ, List, sym, subst}
use Rattle.abnf_lexer.specs.Insides.{HasNoInside}
use Rattle.rule_reader.proofs.Insides.{has_inside}
use Rattle.rule_reader.proofs.places.inside_at.Goals as goal

pub returns : goal.returns
returns c =
    absurd (has_inside c.args.text.now c.args.span c.in_ok-slice.slice.items c.in_ok-slice.ensures
    (subst (λ (s : List ℕ). HasNoInside c.args.span.kind s) c.as_slice.ensures.value c.in-None.ensures))
