-- A publisher's notes know each place up to its count.
use Rattle.std.proofs.Common.{ℕ, ◌+◌, ◌≤◌, ◌↔◌, subst}
use Rattle.std.specs.List.{Contains}
use Rattle.version_shelf.specs.Known.{facts}
use Rattle.version_shelf.specs.Ends.{IsPublisherOf, base_number, last_number, publisher_known}
use Rattle.version_shelf.specs.declared.publisher.Publisher.{Publisher}
use Rattle.version_shelf.specs.declared.shelf.Shelf.{Shelf}
use Rattle.version_shelf.proofs.Values.{each_value}
use Rattle.version_shelf.proofs.laws.publisher_knows_each.Goals as goal

knows_each : {V : Type 0} (s : Shelf V) (p : Publisher V) → IsPublisherOf s p → (n : ℕ) → ((x : V) × Contains (publisher_known p) (n, x)) ↔ ((base_number s ≤ n) × (n ≤ last_number p))
knows_each {V} s p of n =
    subst (λ (b : ℕ). ((x : V) × Contains (publisher_known p) (n, x)) ↔ ((b ≤ n) × (n ≤ p.number + p.count))) of.number
    (each_value p.number (facts p.notes.items) p.count of.full of.empty n)

pub returns : goal.returns
returns g c = λ s p of n. knows_each s p of n
