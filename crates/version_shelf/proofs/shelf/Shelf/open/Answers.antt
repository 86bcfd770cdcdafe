use Rattle.std.proofs.Common.{◌∙◌, ap, arith, refl, Some}
use Rattle.std.specs.Prelude.{slice_set}
use Rattle.version_shelf.proofs.Noted.{base_full, base_empty}
use Rattle.version_shelf.proofs.Values.{base_values}
use Rattle.version_shelf.proofs.shelf.Shelf.open.Goals as goal

pub returns-clause-of : goal.returns-clause-of
returns-clause-of g c =
    let made = c.in_ok-table.ensures in
    let fs = c.in-Ok.ensures.known ∙ ap (λ l. slice_set l 0 (Some c.args.base)) c.in_ok-cells.ensures.2 in record {
      table = made.2;
      words = made.0;
      publishes = ap (λ me. me.0.publishes) made.4;
      count = ap (λ me. me.0.count) made.4;
      no_slot = ap (λ me. me.1) made.4;
      names = c.in-Ok.ensures.names ∙ c.in_ok-cells.ensures.1;
      number = refl;
      room = omega (arith, c.in_ok-cells.cells.ok.0, c.in_ok-cells.ensures.0);
      few = (omega (arith, c.in_ok-cells.cells.ok.0, c.in_ok-cells.ensures.0), (let n = c.requires.number in omega arith));
      full = base_full _ c.args.cells c.args.base fs;
      empty = base_empty _ c.args.cells c.args.base fs;
    }

pub returns-clause-known : goal.returns-clause-known
returns-clause-known g c = base_values c.args.number.0 _ c.args.cells c.args.base (c.in-Ok.ensures.known ∙ ap (λ l. slice_set l 0 (Some c.args.base)) c.in_ok-cells.ensures.2)
