-- The first of several faults, or of other values in an order: it is one of them, and none is before it.
use Rattle.std.specs.Prelude.{◌≡◌, false, List, [], Option, Some, None, All, Contains, if◌then◌else◌}
use Rattle.std.specs.Ordering.{is_gt}
use Rattle.std.specs.declared.cmp.Ordering.{Ordering}

module _ {F : Type 0} (cmp : F → F → Ordering) where
  -- the first of the list; none exactly where the list is empty
  abbrev pub IsFirst : List F → Option F → Type 0
  IsFirst fs None = fs ≡ []
  IsFirst fs (Some f) = Contains fs f × All (λ g. is_gt (cmp f g) ≡ false) fs

  -- the sooner of two that may be there; of two that stand alike, the one found before
  abbrev pub sooner : Option F → Option F → Option F
  sooner None more = more
  sooner (Some f) None = Some f
  sooner (Some f) (Some g) = if is_gt (cmp f g) then Some g else Some f
