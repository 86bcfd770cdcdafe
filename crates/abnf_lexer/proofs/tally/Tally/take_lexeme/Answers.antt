use Rattle.std.proofs.Common.{◌≡◌, ◌++◌, ◌∷◌, List, [], true, Option, None, take, ap, ◌∙◌}
use Rattle.std.specs.Option.{is_some}
use Rattle.std.proofs.lemmas.Bool.{both_ways}
use Rattle.vg_base.specs.declared.doc_fault.DocFault.{DocFault}
use Rattle.vg_base.specs.Characters.{byte_len}
use Rattle.vg_base.specs.Places.{Walked}
use Rattle.abnf_lexer.specs.declared.lexemes.Spanned.{Spanned}
use Rattle.abnf_lexer.specs.Faults.{bracketed}
use Rattle.abnf_lexer.proofs.Counting.{takes}
use Rattle.abnf_lexer.proofs.tally.Tally.take_lexeme.Goals as goal

pub returns-in_ok-push-clause-counted : goal.returns-in_ok-push-clause-counted
returns-in_ok-push-clause-counted c =
    let walk : Walked = c.args.cursor.now in
    takes c.args.self.now _ c.args.kind c.args.len walk
    (record {
      first = c.fault_of-self.ensures.first;
      found = λ e. c.in_ok-push.ensures.items ∙ ap (λ (one : Spanned). c.args.self.now.found.items ++ one ∷ [])
          (λ i. record { place = c.place-place.ensures i; from = c.byte-from.ensures i; to = (c.byte-to.ensures ∙ ap (λ (w : Walked). byte_len w.passed) c.fault_of-self.ensures.passed) i; kind = c.args.kind });
      brackets = λ e. c.bracketed-self.ensures ∙ ap (λ (l : List _). bracketed c.args.self.now.brackets (take c.args.len l)) c.rest.ensures;
    })

-- a fault that is there
some_none : (o : Option DocFault) → o ≡ None → is_some o ≡ true → ⊥
some_none o e h = both_ways _ (ap is_some e) h

pub returns-else-is_none-clause-counted : goal.returns-else-is_none-clause-counted
returns-else-is_none-clause-counted c =
    takes c.args.self.now _ c.args.kind c.args.len c.args.cursor.now
    (record {
      first = c.fault_of-self.ensures.first;
      found = λ e. absurd (some_none c.fault_of-self.result e c.if-is_none.ensures);
      brackets = λ e. absurd (some_none c.fault_of-self.result e c.if-is_none.ensures);
    })
