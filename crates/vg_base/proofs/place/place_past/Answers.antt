use Rattle.std.proofs.Common.{◌==◌, ◌&&◌, not, sym, ◌∙◌, ap}
use Rattle.vg_base.specs.Places.{ends_line, is_within_line}
use Rattle.vg_base.proofs.LastCharacter.{last_in-or, last_in-none}
use Rattle.vg_base.proofs.Lines.{place_after-end, place_after-column, place_after-same}
use Rattle.vg_base.proofs.place.place_past.Goals as goal

pub returns-then-ends_line : goal.returns-then-ends_line
returns-then-ends_line c = λ front last place.
    let ends = ap (λ d. ends_line d c.args.c) (sym (last_in-or front c.args.last last)) ∙ (sym c.ends_line.ensures ∙ c.if-ends_line.true) in
    rw place (sym (place_after-end front c.args.c ends))

pub returns-then-takes_column : goal.returns-then-takes_column
returns-then-takes_column c = λ front last place.
    let ends = ap (λ d. ends_line d c.args.c) (sym (last_in-or front c.args.last last)) ∙ (sym c.ends_line.ensures ∙ c.if-ends_line.false) in
    let takes = ap (λ b. is_within_line c.args.c && not (c.args.c == 0xFEFF && b)) (sym (last_in-none front c.args.last last)) ∙ (sym c.takes_column.ensures ∙ c.if-takes_column.true) in
    rw place (sym (place_after-column front c.args.c ends takes))

pub returns-else-takes_column : goal.returns-else-takes_column
returns-else-takes_column c = λ front last place.
    let ends = ap (λ d. ends_line d c.args.c) (sym (last_in-or front c.args.last last)) ∙ (sym c.ends_line.ensures ∙ c.if-ends_line.false) in
    let takes = ap (λ b. is_within_line c.args.c && not (c.args.c == 0xFEFF && b)) (sym (last_in-none front c.args.last last)) ∙ (sym c.takes_column.ensures ∙ c.if-takes_column.false) in
    place ∙ sym (place_after-same front c.args.c ends takes)
