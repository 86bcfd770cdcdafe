use Rattle.std.proofs.Common.{ℕ, ◌≤◌, ◌≡◌, sym, subst}
use Rattle.earley_chart.proofs.Scans.{scan_garbage}
use Rattle.earley_chart.proofs.reading.Reading.garbage.Goals as goal

pub returns : goal.returns
returns c = λ j.
    (let g = scan_garbage c.args.self.now.words.now c.args.self.now.goes_on c.args.start j c.requires.place in
    let r = c.range.ensures j in
    (λ h. g.0 ((r.0 h).0, subst (λ k. j ≤ k) c.last.ensures (r.0 h).1), λ h. r.1 ((g.1 h).0, subst (λ k. j ≤ k) (sym c.last.ensures) (g.1 h).1)))
