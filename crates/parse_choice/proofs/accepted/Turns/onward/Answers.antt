use Rattle.std.proofs.Common.{refl, leb-true, le-leb}
use Rattle.parse_choice.proofs.accepted.Turns.onward.Goals as goal

pub returns : goal.returns
returns c = record {
  empty = c.derives-empty.result;
  tells = c.derives-empty.ensures.row;
  holds = λ j. (
    λ h. (let both = (c.shared.ensures j).0 h in
        let left = (c.spans.ensures j).0 both.0 in
        record { most = c.if-not-allows.ensures.0 refl; span = left.0; word = λ le. left.1 (le-leb _ _ le); completed = (c.completed.ensures j).0 both.1 }),
    λ h. (c.shared.ensures j).1 ((c.spans.ensures j).1 (h.span, λ full. h.word (leb-true _ _ full)), (c.completed.ensures j).1 h.completed),
  );
}
