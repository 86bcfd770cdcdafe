use Rattle.std.proofs.Common.{[], ◌∷◌, ◌++◌, length, sym, ◌∙◌, ap, arith, append_assoc, length-append}
use Rattle.std.specs.Str.{chars}
use Rattle.std.specs.Str.Iter.{chars_rest}
use Rattle.std.proofs.lemmas.List.{append-nil}
use Rattle.vg_base.specs.Places.{place_after}
use Rattle.vg_base.proofs.Bytes.{length-le-byte_len}
use Rattle.vg_base.proofs.LastCharacter.{last_in-push}
use Rattle.vg_base.proofs.Lines.{line-le-length, column-le-length}
use Rattle.vg_base.proofs.Walk.{chars-turn, chars-end}
use Rattle.vg_base.proofs.place.place_at_end.Goals as goal

pub place_past-place-requires-clause-line : goal.place_past-place-requires-clause-line
place_past-place-requires-clause-line c =
    omega (
      arith,
      ap (λ p. p.line) c.loop-c.invariant.place_is,
      line-le-length c.loop-c.yielded,
      ap length c.loop-c.invariant.split,
      length-append c.loop-c.yielded (chars (chars_rest c.loop-c.c-iterator)),
      length-le-byte_len c.args.text.now,
      ap length c.as_str.ensures.bytes,
    )

pub place_past-place-requires-clause-column : goal.place_past-place-requires-clause-column
place_past-place-requires-clause-column c =
    omega (
      arith,
      ap (λ p. p.column) c.loop-c.invariant.place_is,
      column-le-length c.loop-c.yielded,
      ap length c.loop-c.invariant.split,
      length-append c.loop-c.yielded (chars (chars_rest c.loop-c.c-iterator)),
      length-le-byte_len c.args.text.now,
      ap length c.as_str.ensures.bytes,
    )

pub loop-c-preserved : goal.loop-c-preserved
loop-c-preserved c =
    let turn = chars-turn c.loop-c.c-iterator c.next.new.self c.next.result c.in-Some.c c.loop-c.invariant.utf8 c.in-Some.is c.next.ensures.steps in
    record {
      utf8 = turn.1;
      split = (c.loop-c.invariant.split ∙ ap (λ l. c.loop-c.yielded ++ l) turn.0) ∙ sym (append_assoc c.loop-c.yielded (c.in-Some.c ∷ []) (chars (chars_rest c.next.new.self)));
      last_is = last_in-push c.loop-c.yielded c.in-Some.c;
      place_is = c.place_past-place.ensures c.loop-c.yielded c.loop-c.invariant.last_is c.loop-c.invariant.place_is;
    }

pub returns : goal.returns
returns c =
    let end = chars-end c.loop-c.c-iterator c.next.new.self c.next.result c.in-None.is c.next.ensures.steps in
    c.loop-c.invariant.place_is ∙ ap place_after (sym (c.loop-c.invariant.split ∙ (ap (λ l. c.loop-c.yielded ++ l) end ∙ append-nil c.loop-c.yielded)))
