use Rattle.std.proofs.Common.{◌≡◌, false, None, sym, subst, ◌∙◌}
use Rattle.rule_reader.specs.code.Contexts.{stands_among}
use Rattle.rule_reader.proofs.Twice.{no_kind}
use Rattle.rule_reader.proofs.declarations.is_twice.Goals as goal

pub returns-in-None : goal.returns-in-None
returns-in-None c = sym (subst (λ kind. stands_among kind c.args.before.now ≡ false) (sym c.in-None.is ∙ c.once.ensures) (no_kind c.args.before.now))
