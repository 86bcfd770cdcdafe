use Rattle.std.proofs.Common.{ℕ, ◌+◌, ◌≤◌, ◌≡◌, length, true, false, sym, ◌∙◌, true≢false, subst, arith}
use Rattle.earley_chart.proofs.Bits.{none_has}
use Rattle.earley_chart.proofs.Scans.{scan_past, scan_within, scan_on, scan_none}
use Rattle.earley_chart.proofs.reading.Reading.token.Goals as goal
use Rattle.earley_chart.proofs.reading.Reading.token.Goals.{else-self-via-then-self+else-begins-2, else-self-via-else-self}

pub returns-then-start-end : goal.returns-then-start-end
returns-then-start-end c = λ j.
    (let s = scan_past c.args.self.now.words.now c.args.self.now.goes_on c.args.start c.args.own.now j c.if-start-end.true c.requires.place in
    (λ h. s.0 ((c.one.ensures j).0 h), λ h. (c.one.ensures j).1 (s.1 h)))

pub returns-then-begins : goal.returns-then-begins
returns-then-begins c = λ j.
    (let s = scan_within c.args.self.now.words.now c.args.self.now.goes_on c.args.start c.args.own.now j c.if-start-end.false (c.begins.ensures.0 c.if-begins.true) in
    (λ h. s.0 ((c.one-then-begins.ensures j).0 h), λ h. (c.one-then-begins.ensures j).1 (s.1 h)))

pub returns-then-begins-2 : goal.returns-then-begins-2
returns-then-begins-2 c = λ j.
    (let s = scan_on c.args.self.now.words.now c.args.self.now.goes_on c.args.start c.args.own.now j c.if-start-end.false c.if-self.true
    (λ b. true≢false (sym (c.begins.ensures.1 b) ∙ c.if-begins.false)) (c.begins-then-self.ensures.0 c.if-begins-2.true) in
    (λ h. s.0 ((c.one-then-begins-2.ensures j).0 h), λ h. (c.one-then-begins-2.ensures j).1 (s.1 h)))

pub returns-else-self : goal.returns-else-self
returns-else-self c = λ j. (
  λ h. absurd (none_has c.none.result j c.none.ensures h),
  λ h. absurd (scan_none c.args.self.now.words.now c.args.self.now.goes_on c.args.start c.args.own.now j c.if-start-end.false
      (λ b. true≢false (sym (c.begins.ensures.1 b) ∙ c.if-begins.false))
      (λ on b. elim c.else-self.branch [
        | else-self-via-then-self+else-begins-2 w ↦ true≢false (sym (w.begins-then-self.ensures.1 b) ∙ w.if-begins-2.false)
        | else-self-via-else-self w ↦ true≢false (sym on ∙ w.if-self.false)
      ]) h),
)
