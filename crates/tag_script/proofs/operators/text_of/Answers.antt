use Rattle.std.proofs.Common.{rules}
use Rattle.tag_script.proofs.Words.{null_chars, true_chars, false_chars}
use Rattle.tag_script.proofs.operators.text_of.Goals as goal

-- src/operators.rt:28:1
pub returns-in_ok-of-in-Null : goal.returns-in_ok-of-in-Null
returns-in_ok-of-in-Null c = search (rules, null_chars)

-- src/operators.rt:28:1
pub returns-in_ok-of-in-Truth-true : goal.returns-in_ok-of-in-Truth-true
returns-in_ok-of-in-Truth-true c = search (rules, true_chars)

-- src/operators.rt:28:1
pub returns-in_ok-of-in-Truth-false : goal.returns-in_ok-of-in-Truth-false
returns-in_ok-of-in-Truth-false c = search (rules, false_chars)
