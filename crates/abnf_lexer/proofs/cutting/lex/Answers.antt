use Rattle.std.proofs.Common.{◌∙◌}
use Rattle.abnf_lexer.proofs.Lexed.{Known, known_of, is_fault, are_lexemes, are_shown, are_slices, are_within, are_in_order}
use Rattle.abnf_lexer.proofs.cutting.lex.Goals as goal

pub returns-in-Some-clause-answer : goal.returns-in-Some-clause-answer
returns-in-Some-clause-answer c =
    let known : Known c.args.text.now c.tally_of.new.cursor c.in_ok-tally.tally c.first_fault.result =
    known_of c.args.text.now c.as_slice.result.now c.in-Ok.cursor c.tally_of.new.cursor c.in_ok-tally.tally c.first_fault.result (c.as_slice.ensures.value ∙ c.in_ok-characters.ensures) c.in-Ok.ensures.fine c.in-Ok.ensures.behind c.in_ok-tally.ensures c.first_fault.ensures in
    is_fault c.args.text.now c.tally_of.new.cursor c.in_ok-tally.tally c.first_fault.result known c.in-Some.fault c.in-Some.is

pub returns-clause-answer : goal.returns-clause-answer
returns-clause-answer c =
    let known : Known c.args.text.now c.tally_of.new.cursor c.in_ok-tally.tally c.first_fault.result =
    known_of c.args.text.now c.as_slice.result.now c.in-Ok.cursor c.tally_of.new.cursor c.in_ok-tally.tally c.first_fault.result (c.as_slice.ensures.value ∙ c.in_ok-characters.ensures) c.in-Ok.ensures.fine c.in-Ok.ensures.behind c.in_ok-tally.ensures c.first_fault.ensures in
    are_lexemes c.args.text.now c.tally_of.new.cursor c.in_ok-tally.tally c.first_fault.result known c.from_vec.result c.in-None.is c.from_vec.ensures

pub returns-clause-shown : goal.returns-clause-shown
returns-clause-shown c =
    let known : Known c.args.text.now c.tally_of.new.cursor c.in_ok-tally.tally c.first_fault.result =
    known_of c.args.text.now c.as_slice.result.now c.in-Ok.cursor c.tally_of.new.cursor c.in_ok-tally.tally c.first_fault.result (c.as_slice.ensures.value ∙ c.in_ok-characters.ensures) c.in-Ok.ensures.fine c.in-Ok.ensures.behind c.in_ok-tally.ensures c.first_fault.ensures in
    are_shown c.args.text.now c.tally_of.new.cursor c.in_ok-tally.tally c.first_fault.result known c.from_vec.result c.in-None.is c.from_vec.ensures

pub returns-clause-slices : goal.returns-clause-slices
returns-clause-slices c =
    let known : Known c.args.text.now c.tally_of.new.cursor c.in_ok-tally.tally c.first_fault.result =
    known_of c.args.text.now c.as_slice.result.now c.in-Ok.cursor c.tally_of.new.cursor c.in_ok-tally.tally c.first_fault.result (c.as_slice.ensures.value ∙ c.in_ok-characters.ensures) c.in-Ok.ensures.fine c.in-Ok.ensures.behind c.in_ok-tally.ensures c.first_fault.ensures in
    are_slices c.args.text.now c.tally_of.new.cursor c.in_ok-tally.tally c.first_fault.result known c.from_vec.result c.in-None.is c.from_vec.ensures

pub returns-clause-within : goal.returns-clause-within
returns-clause-within c =
    let known : Known c.args.text.now c.tally_of.new.cursor c.in_ok-tally.tally c.first_fault.result =
    known_of c.args.text.now c.as_slice.result.now c.in-Ok.cursor c.tally_of.new.cursor c.in_ok-tally.tally c.first_fault.result (c.as_slice.ensures.value ∙ c.in_ok-characters.ensures) c.in-Ok.ensures.fine c.in-Ok.ensures.behind c.in_ok-tally.ensures c.first_fault.ensures in
    are_within c.args.text.now c.tally_of.new.cursor c.in_ok-tally.tally c.first_fault.result known c.from_vec.result c.in-None.is c.from_vec.ensures

pub returns-clause-order : goal.returns-clause-order
returns-clause-order c =
    let known : Known c.args.text.now c.tally_of.new.cursor c.in_ok-tally.tally c.first_fault.result =
    known_of c.args.text.now c.as_slice.result.now c.in-Ok.cursor c.tally_of.new.cursor c.in_ok-tally.tally c.first_fault.result (c.as_slice.ensures.value ∙ c.in_ok-characters.ensures) c.in-Ok.ensures.fine c.in-Ok.ensures.behind c.in_ok-tally.ensures c.first_fault.ensures in
    are_in_order c.args.text.now c.tally_of.new.cursor c.in_ok-tally.tally c.first_fault.result known c.from_vec.result c.in-None.is c.from_vec.ensures
