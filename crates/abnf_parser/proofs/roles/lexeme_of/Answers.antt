use Rattle.std.proofs.Common.{◌∙◌}
use Rattle.abnf_parser.proofs.RoleLemmas.{as_kind}
use Rattle.abnf_parser.proofs.roles.lexeme_of.Goals as goal

pub returns-in_ok-characters-in-Sign : goal.returns-in_ok-characters-in-Sign
returns-in_ok-characters-in-Sign c =
    as_kind _ _ c.args.span _ _ c.sign_lexeme.result c.in-Sign.is (c.as_slice-in-Sign.ensures.value ∙ c.in_ok-characters-in-Sign.ensures) c.sign_lexeme.ensures
