-- One more part's words, and at the end the last part's.
use Rattle.std.proofs.Common.{◌∷◌, [], ◌++◌, List, ℕ, sym, ap, ◌∙◌, append_assoc}
use Rattle.std.specs.List.{filter}
use Rattle.server_shell.specs.first_form.Words.{has_character, words_in}
use Rattle.server_shell.proofs.first_form_lemmas.TextWords.{words_in-at, words_in-none}
use Rattle.server_shell.proofs.first_form.words.push_words.Goals as goal

pub loop-part-preserved : goal.loop-part-preserved
loop-part-preserved c =
    let (none, (y, is, cut)) = c.in-Some.ensures in
    ap (λ (w : List (List ℕ)). w ++ words_in c.in-Some.behind.now) c.in_ok-push_part.ensures
    ∙ append_assoc c.loop-part.words (filter has_character (c.in-Some.part.now ∷ []))
    (words_in c.in-Some.behind.now)
    ∙ ap (λ (w : List (List ℕ)). c.loop-part.words ++ w)
    (sym (words_in-at c.loop-part.rest.now c.in-Some.part.now c.in-Some.behind.now y none (
      is,
      cut,
    )))
    ∙ c.loop-part.invariant

pub returns : goal.returns
returns c =
    c.in_ok-push_part-2.ensures
    ∙ ap (λ (w : List (List ℕ)). c.loop-part.words ++ w)
    (sym (words_in-none c.loop-part.rest.now c.in_default.ensures))
    ∙ c.loop-part.invariant
