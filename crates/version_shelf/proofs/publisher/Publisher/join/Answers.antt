use Rattle.std.proofs.Common.{◌≡◌, ◌+◌, ◌≤◌, ℕ, max, ◌∙◌, ap, arith}
use Rattle.version_shelf.specs.Known.{facts, values}
use Rattle.version_shelf.proofs.Knowing.{all_pairs}
use Rattle.version_shelf.proofs.Values.{bound_values}
use Rattle.version_shelf.proofs.publisher.Publisher.join.Goals as goal

pub returns-clause-bound : goal.returns-clause-bound
returns-clause-bound g c =
    let of = c.requires.publisher in
    let his = c.requires.reader in
    let view = c.end.ensures.view in
    let ended : c.end.new.seat.me.0.ended ≡ max c.args.self.now.seat.me.0.ended c.args.reader.seat.me.0.count = ap (λ me. me.0.ended) view in
    let count : c.end.new.seat.me.0.count ≡ c.args.self.now.count = ap (λ me. me.0.count) view ∙ of.count in
    let top = c.load.ensures.mine (ap (λ me. me.0.publishes) view ∙ of.publishes) in
    let least = c.load.ensures.least.1 in
    let a = his.number in
    let b = of.number in
    all_pairs c.args.reader.number (values (facts c.args.reader.notes.items)) (λ (n : ℕ). n ≤ c.args.self.now.number + c.args.self.now.count)
    (λ k x e. let le : k ≤ c.args.reader.seat.me.0.count = bound_values (facts c.args.reader.notes.items) c.args.reader.seat.me.0.count his.bound k x e in omega arith)
