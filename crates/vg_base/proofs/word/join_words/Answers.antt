use Rattle.std.proofs.Common.{◌<◌, ◌++◌, length, ap, ◌∙◌, arith}
use Rattle.vg_base.proofs.Joined.{join-first, join-more}
use Rattle.vg_base.proofs.word.join_words.Goals as goal
use Rattle.vg_base.proofs.word.join_words.Goals.{then-place-gt0+in_ok-push, else-place-gt0}

pub loop-place-preserved : goal.loop-place-preserved
loop-place-preserved c =
    let within : c.loop-place.place < length c.args.words.now = omega arith in
    let pushed = c.in_ok-push_str.ensures.ok ∙ ap (λ l. c.if-place-gt0.text ++ l) (c.as_str.ensures.characters ∙ c.text-in-loop-place.ensures.same) in
    elim c.if-place-gt0.branch [
      | then-place-gt0+in_ok-push w ↦ pushed ∙ (ap (λ l. l ++ c.index-words-place.result) (w.text-is ∙ w.in_ok-push.ensures.ok)
          ∙ join-more 32 c.args.words.now c.loop-place.place c.index-words-place.result c.loop-place.text w.if-place-gt0.true within c.index-words-place.is c.loop-place.invariant)
      | else-place-gt0 w ↦ pushed ∙ (ap (λ l. l ++ c.index-words-place.result) w.text-is
          ∙ join-first 32 c.args.words.now c.loop-place.place c.index-words-place.result c.loop-place.text (omega arith) within c.index-words-place.is c.loop-place.invariant)
    ]
