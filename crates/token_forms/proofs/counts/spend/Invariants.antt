use Rattle.std.specs.Str.{chars, IsUtf8}
use Rattle.std.specs.Str.Iter.{chars_rest}
use Rattle.token_forms.proofs.CountLemmas.{Spent}
use Rattle.token_forms.proofs.counts.spend.Given as goal

abbrev pub invariant-loop-c : goal.invariant-loop-c
invariant-loop-c l = record {
  utf8 : IsUtf8 (chars_rest l.c-iterator);
  spent : Spent l.fn.most l.left l.text l.in_word (chars (chars_rest l.c-iterator));
}
