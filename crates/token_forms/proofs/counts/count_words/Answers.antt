use Rattle.std.proofs.Common.{arith}
use Rattle.token_forms.proofs.CountLemmas.{few_words}
use Rattle.token_forms.proofs.WordLemmas.{some_list}
use Rattle.token_forms.proofs.counts.count_words.Goals as goal

pub overflow_sub-result : goal.overflow_sub-result
overflow_sub-result c =
    let own = some_list c.args.text.now in
    let left = (c.in-Some.ensures own.0 own.1).words in
    omega arith

pub overflow_sub-result-in-Some : goal.overflow_sub-result-in-Some
overflow_sub-result-in-Some c =
    let own = some_list c.args.text.now in
    let left = (c.in-Some.ensures own.0 own.1).bytes in
    omega arith

pub unreachable-requires : goal.unreachable-requires
unreachable-requires c =
    let own = some_list c.args.text.now in
    c.in-None.ensures own.0 own.1 (few_words c.args.text.now c.byte_len-len.result own.0 c.byte_len-len.ensures.value own.1)
