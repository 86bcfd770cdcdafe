use Rattle.std.proofs.Common.{◌≡◌, [], map, drop}
use Rattle.tag_script.specs.code.Literals as spec
use Rattle.tag_script.proofs.literals.last_places.Given as goal

-- the rest of the pairs, put to those so far, gives the places of all
abbrev pub invariant-loop-at : goal.invariant-loop-at
invariant-loop-at l = spec.places (map (λ pair. pair.0) (drop l.at l.pairs)) l.at l.places ≡ spec.places (map (λ pair. pair.0) l.pairs) 0 []
