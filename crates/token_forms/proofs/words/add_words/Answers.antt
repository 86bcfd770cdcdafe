use Rattle.std.proofs.Common.{◌++◌, ◌∷◌, ◌∙◌, sym, refl, subst}
use Rattle.std.specs.Str.{chars}
use Rattle.std.specs.Str.Iter.{chars_rest}
use Rattle.std.proofs.lemmas.List.{append_assoc}
use Rattle.vg_base.proofs.Walk.{chars-turn, chars-end}
use Rattle.token_forms.proofs.WordLemmas.{Completes, space_came, text_ended, IsWord-push}
use Rattle.token_forms.proofs.words.add_words.Goals as goal

pub loop-c-preserved-in-Continue-1 : goal.loop-c-preserved-in-Continue-1
loop-c-preserved-in-Continue-1 c =
    let turn = chars-turn c.loop-c.c-iterator c.next.new.self c.next.result c.in-Some.c c.loop-c.invariant.utf8 c.in-Some.is c.next.ensures.steps in
    let came : Completes c.args.text.now c.args.words.now c.loop-c.words (c.replace.result ++ c.in-Some.c ∷ chars (chars_rest c.next.new.self)) =
    rw (c.replace.ensures.value, ← turn.0) c.loop-c.invariant.completes in
    record {
      utf8 = turn.1;
      begun = rw (c.replace.ensures.after, c.new.ensures) refl;
      completes = rw (c.replace.ensures.after, c.new.ensures)
          (space_came c.args.text.now c.args.words.now c.loop-c.words c.end_word.new.words c.replace.result (chars (chars_rest c.next.new.self)) c.in-Some.c
          (sym c.is_space.ensures ∙ c.if-is_space.true) (rw c.replace.ensures.value c.loop-c.invariant.begun)
          c.in_ok-end_word.ensures.empty c.in_ok-end_word.ensures.one came);
    }

pub loop-c-preserved : goal.loop-c-preserved
loop-c-preserved c =
    let turn = chars-turn c.loop-c.c-iterator c.next.new.self c.next.result c.in-Some.c c.loop-c.invariant.utf8 c.in-Some.is c.next.ensures.steps in
    record {
      utf8 = turn.1;
      begun = rw c.in_ok-push.ensures.ok (IsWord-push c.loop-c.word c.in-Some.c c.loop-c.invariant.begun (sym c.is_space.ensures ∙ c.if-is_space.false));
      completes = rw (c.in_ok-push.ensures.ok, append_assoc, ← turn.0) c.loop-c.invariant.completes;
    }

pub returns : goal.returns
returns c =
    let over = chars-end c.loop-c.c-iterator c.next.new.self c.next.result c.in-None.is c.next.ensures.steps in
    text_ended c.args.text.now c.args.words.now c.loop-c.words c.end_word-2.new.words c.loop-c.word c.loop-c.invariant.begun
    c.in_ok-end_word-2.ensures.empty c.in_ok-end_word-2.ensures.one
    (subst (λ r. Completes c.args.text.now c.args.words.now c.loop-c.words (c.loop-c.word ++ r)) over c.loop-c.invariant.completes)
