use Rattle.std.proofs.Common.{◌≡◌, ◌≤◌, drop}
use Rattle.abnf_lexer.specs.code.Front.{goes_on, is_code}
use Rattle.abnf_lexer.proofs.codes.reads_code.Given as goal

abbrev pub invariant-loop-c : goal.invariant-loop-c
invariant-loop-c l = record {
  rest : goes_on l.first l.len (drop l.c-index l.text) ≡ is_code l.text;
  short : l.len ≤ l.c-index;
}
