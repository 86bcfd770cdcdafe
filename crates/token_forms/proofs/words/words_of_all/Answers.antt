use Rattle.std.proofs.Common.{ℕ, List, take, ap, sym, ◌∙◌, subst, ◌∷◌, [], ◌++◌}
use Rattle.std.proofs.lemmas.List.{take_more}
use Rattle.token_forms.specs.Words.{AreWordsOf}
use Rattle.token_forms.proofs.WordLemmas.{words_more}
use Rattle.token_forms.proofs.words.words_of_all.Goals as goal

pub loop-text-preserved : goal.loop-text-preserved
loop-text-preserved c =
    let done : List (List ℕ) = take c.loop-text.text-index c.args.texts.now in
    let text = c.text-item.result in
    subst (AreWordsOf c.add_words.new.words)
    (ap (λ t. done ++ t ∷ []) c.text-item.is ∙ sym (take_more c.args.texts.now c.loop-text.text-index text c.loop-text-test.true))
    (words_more done text c.loop-text.words c.add_words.new.words c.loop-text.invariant c.in_ok-add_words.ensures)
