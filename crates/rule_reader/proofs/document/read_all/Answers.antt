use Rattle.std.proofs.Common.{◌≡◌, List, [], Option, Some, None, sym, subst, ◌∙◌, ap}
use Rattle.abnf_lexer.specs.declared.lexemes.Spanned.{Spanned}
use Rattle.abnf_parser.specs.declared.lexeme.BareWord.TheVariants as word
use Rattle.abnf_parser.specs.declared.written.Declaration.{Declaration}
use Rattle.abnf_parser.specs.declared.written.WrittenRule.{WrittenRule}
use Rattle.rule_reader.specs.Context.{format_of, root_of, base_of}
use Rattle.rule_reader.specs.code.Walks.{ThereShown}
use Rattle.rule_reader.proofs.Shown.{argument_of_shown}
use Rattle.rule_reader.proofs.DocumentRead.{whole_read, answered_ok, answered_err}
use Rattle.rule_reader.proofs.document.read_all.Goals as goal

pub context_of-requires : goal.context_of-requires
context_of-requires c =
    subst (λ (ds : List Declaration). ThereShown c.args.text.now (format_of ds)) (sym c.as_slice-declarations.ensures) (argument_of_shown c.args.text.now word.TagFormat c.args.written.now.declarations c.requires.declarations)

pub read_root-requires : goal.read_root-requires
read_root-requires c =
    subst (λ (s : Option Spanned). ThereShown c.args.text.now s) (sym (c.root_of.ensures ∙ ap root_of c.as_slice-declarations.ensures)) (argument_of_shown c.args.text.now word.Root c.args.written.now.declarations c.requires.declarations)

pub read_there-requires : goal.read_there-requires
read_there-requires c =
    subst (λ (s : Option Spanned). ThereShown c.args.text.now s) (sym (c.base_of.ensures ∙ ap base_of c.as_slice-declarations.ensures)) (argument_of_shown c.args.text.now word.Base c.args.written.now.declarations c.requires.declarations)

pub returns-in-Some : goal.returns-in-Some
returns-in-Some c =
    let all = whole_read (record { declarations_are = c.as_slice-declarations.ensures; rules_are = c.as_slice-rules.ensures; root_is = c.root_of.ensures; base_is = c.base_of.ensures }) (c.in_ok-read_declarations.ensures, c.in_ok-names.ensures) c.in_ok-context.ensures c.in_ok-rules.ensures c.in_ok-root.ensures c.in_ok-base.ensures in
    answered_err c.in-Some.fault c.in-Some.is all

pub returns : goal.returns
returns c =
    let all = whole_read (record { declarations_are = c.as_slice-declarations.ensures; rules_are = c.as_slice-rules.ensures; root_is = c.root_of.ensures; base_is = c.base_of.ensures }) (c.in_ok-read_declarations.ensures, c.in_ok-names.ensures) c.in_ok-context.ensures c.in_ok-rules.ensures c.in_ok-root.ensures c.in_ok-base.ensures in
    answered_ok c.in-None.is all
