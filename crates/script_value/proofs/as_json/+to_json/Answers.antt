use Rattle.std.proofs.Common.{arith, rules, sym, subst, ◌∙◌}
use Rattle.std.specs.List.{AllByRecursion}
use Rattle.script_value.specs.Kept.{IsKept}
use Rattle.script_value.proofs.Deep.{member-deep}
use Rattle.script_value.proofs.Kept.{kept-Null, kept-Truth, kept-Number, kept-Str, kept-List, kept-Record}
use Rattle.script_value.proofs.as_json.+to_json.Goals as goal

pub record-to_json-requires : goal.record-to_json-requires
record-to_json-requires t c =
    let deep = member-deep c.args.members.now c.into_iter-key-iterator.result c.loop-key.key-iterator c.next.new.self c.loop-key.yielded c.next.result (c.in-Some.key, c.in-Some.value)
    (c.into_iter-key-iterator.ensures.into_iter_gives ∙ c.iter-key-items.ensures.rest) c.loop-key.yielded_by c.in-Some.is c.next.ensures.steps in
    (omega arith, tt)

pub to_json-returns-in-Null-clause-kept : goal.to_json-returns-in-Null-clause-kept
to_json-returns-in-Null-clause-kept t c = subst IsKept (sym c.in-Null.is) kept-Null

pub to_json-returns-in-Truth-clause-kept : goal.to_json-returns-in-Truth-clause-kept
to_json-returns-in-Truth-clause-kept t c = subst IsKept (sym c.in-Truth.is) (kept-Truth c.in-Truth.truth)

pub to_json-returns-in-Number-clause-kept : goal.to_json-returns-in-Number-clause-kept
to_json-returns-in-Number-clause-kept t c = subst IsKept (sym c.in-Number.is) (kept-Number c.in-Number.number (search rules))

pub to_json-returns-in_ok-from_str-in-Str-clause-kept : goal.to_json-returns-in_ok-from_str-in-Str-clause-kept
to_json-returns-in_ok-from_str-in-Str-clause-kept t c = subst IsKept (sym c.in-Str.is) (kept-Str c.in-Str.text c.as_str.ensures.scalars)

pub to_json-returns-in_ok-list-in-List-clause-kept : goal.to_json-returns-in_ok-list-in-List-clause-kept
to_json-returns-in_ok-list-in-List-clause-kept t c = subst IsKept (sym c.in-List.is) (kept-List c.in-List.values (subst (AllByRecursion IsKept) c.as_slice.ensures c.in_ok-list-in-List.ensures.kept))

pub to_json-returns-in_ok-record-in-Record-clause-kept : goal.to_json-returns-in_ok-record-in-Record-clause-kept
to_json-returns-in_ok-record-in-Record-clause-kept t c = subst IsKept (sym c.in-Record.is) (kept-Record c.in-Record.members c.in_ok-record-in-Record.ensures.keys c.in_ok-record-in-Record.ensures.kept)
