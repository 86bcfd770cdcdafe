use Rattle.std.proofs.Common.{◌++◌}
use Rattle.std.specs.Str.{chars, IsUtf8}
use Rattle.std.specs.Str.Iter.{chars_rest}
use Rattle.vg_base.specs.Characters.{IsWord}
use Rattle.token_forms.proofs.WordLemmas.{Completes}
use Rattle.token_forms.proofs.words.add_words.Given as goal

abbrev pub invariant-loop-c : goal.invariant-loop-c
invariant-loop-c l = record {
  utf8 : IsUtf8 (chars_rest l.c-iterator);
  begun : IsWord l.word;
  completes : Completes l.text l.fn.words l.words (l.word ++ chars (chars_rest l.c-iterator));
}
