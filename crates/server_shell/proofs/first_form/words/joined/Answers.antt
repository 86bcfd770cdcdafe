-- One more word, with a space before it unless it is the first.
use Rattle.std.proofs.Common.{◌++◌, ◌∷◌, [], ℕ, List, sym, ap, ◌∙◌, append_assoc}
use Rattle.std.specs.List.{join_with_byte}
use Rattle.std.proofs.Common.{take}
use Rattle.server_shell.proofs.first_form_lemmas.TextWords.{joined-first, joined-more, not_first, index-some, index-none}
use Rattle.server_shell.proofs.first_form.words.joined.Goals as goal
use Rattle.server_shell.proofs.first_form.words.joined.Goals.{then-not-is_first+in_ok-push, else-not-is_first}

pub loop-word-preserved : goal.loop-word-preserved
loop-word-preserved c =
    let i = c.loop-word.word-index in
    let words = c.args.words.now in
    let word = c.word-item.result in
    elim c.if-not-is_first.branch [
      | then-not-is_first+in_ok-push w ↦ (
        c.in_ok-push_str.ensures.ok
            ∙ ap (λ (l : List ℕ). c.if-not-is_first.text ++ l) c.as_str.ensures.characters
            ∙ ap (λ (l : List ℕ). l ++ word) (w.text-is ∙ w.in_ok-push.ensures.ok
            ∙ ap (λ (l : List ℕ). l ++ 32 ∷ []) c.loop-word.invariant.0)
            ∙ append_assoc (join_with_byte 32 (take i words)) (32 ∷ []) word
            ∙ sym (joined-more words i word
            (index-some i c.loop-word.is_first c.loop-word.invariant.1 w.if-not-is_first.true)
            c.loop-word-test.true (sym c.word-item.is)),
        not_first i,
      )
      | else-not-is_first w ↦
          let none = index-none i c.loop-word.is_first c.loop-word.invariant.1
          w.if-not-is_first.false in (
            c.in_ok-push_str.ensures.ok
                ∙ ap (λ (l : List ℕ). c.if-not-is_first.text ++ l) c.as_str.ensures.characters
                ∙ ap (λ (l : List ℕ). l ++ word) (w.text-is ∙ c.loop-word.invariant.0
                ∙ ap (λ (k : ℕ). join_with_byte 32 (take k words)) none)
                ∙ sym (joined-first words i word none c.loop-word-test.true (sym c.word-item.is)),
            not_first i,
          )
    ]
