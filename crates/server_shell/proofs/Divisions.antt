-- Laws of lists divided into batches: an open batch that goes on or ends, one more batch at the end
-- of those before, and that a list is divided in one way alone.
use Rattle.std.proofs.Common.{◌≡◌, Bool, true, false, cond, List, [], ◌∷◌, ◌++◌, refl, sym, ap, ◌∙◌, append_assoc, subst}
use Rattle.std.specs.List.{AllByRecursion, onto_first}
use Rattle.server_shell.specs.Batching.{Division, whole_batches_of, batches_of, onto_some, count_behind, IsOpen, IsBatch, items_of, last_batch}

module _ {C X : Type 0} (d : Division C X) where
  -- an open batch goes on with an item that doesn't end it
  pub open_more : (c : C) (xs : List X) (x : X) → IsOpen d c xs
      → d.ends (count_behind d c xs) x ≡ false → IsOpen d c (xs ++ x ∷ [])
  open_more c [] x o e = (e, tt)
  open_more c (y ∷ ys) x o e = (o.0, open_more (d.next c y) ys x o.1 e)

  -- and is whole with one that does
  pub batch_more : (c : C) (xs : List X) (x : X) → IsOpen d c xs
      → d.ends (count_behind d c xs) x ≡ true → IsBatch d c (xs ++ x ∷ [])
  batch_more c [] x o e = e
  batch_more c (y ∷ []) x o e = (o.0, e)
  batch_more c (y ∷ z ∷ zs) x o e = (o.0, batch_more (d.next c y) (z ∷ zs) x o.1 e)

  whole_ended : (c : C) (x : X) (xs : List X) → d.ends c x ≡ true
      → whole_batches_of d c (x ∷ xs) ≡ (x ∷ []) ∷ whole_batches_of d d.first xs
  unfolding whole_batches_of
  whole_ended c x xs e =
      ap (λ t. cond t ((x ∷ []) ∷ whole_batches_of d d.first xs)
      (onto_some x (whole_batches_of d (d.next c x) xs))) e

  whole_on : (c : C) (x : X) (xs : List X) → d.ends c x ≡ false
      → whole_batches_of d c (x ∷ xs) ≡ onto_some x (whole_batches_of d (d.next c x) xs)
  unfolding whole_batches_of
  whole_on c x xs e =
      ap (λ t. cond t ((x ∷ []) ∷ whole_batches_of d d.first xs)
      (onto_some x (whole_batches_of d (d.next c x) xs))) e

  all_ended : (c : C) (x : X) (xs : List X) → d.ends c x ≡ true
      → batches_of d c (x ∷ xs) ≡ (x ∷ []) ∷ batches_of d d.first xs
  unfolding batches_of
  all_ended c x xs e =
      ap (λ t. cond t ((x ∷ []) ∷ batches_of d d.first xs)
      (onto_first x (batches_of d (d.next c x) xs))) e

  all_on : (c : C) (x : X) (xs : List X) → d.ends c x ≡ false
      → batches_of d c (x ∷ xs) ≡ onto_first x (batches_of d (d.next c x) xs)
  unfolding batches_of
  all_on c x xs e =
      ap (λ t. cond t ((x ∷ []) ∷ batches_of d d.first xs)
      (onto_first x (batches_of d (d.next c x) xs))) e

  none_left : (c : C) → (whole_batches_of d c [] ≡ []) × (batches_of d c [] ≡ [])
  unfolding whole_batches_of batches_of
  none_left c = (refl, refl)

  pub whole_batch : (c : C) (b xs : List X) → IsBatch d c b
      → whole_batches_of d c (b ++ xs) ≡ b ∷ whole_batches_of d d.first xs
  whole_batch c [] xs h = absurd h
  whole_batch c (x ∷ []) xs h = whole_ended c x xs h
  whole_batch c (x ∷ y ∷ b) xs h = whole_on c x (y ∷ b ++ xs) h.0
      ∙ ap (onto_some x) (whole_batch (d.next c x) (y ∷ b) xs h.1)

  pub all_batch : (c : C) (b xs : List X) → IsBatch d c b
      → batches_of d c (b ++ xs) ≡ b ∷ batches_of d d.first xs
  all_batch c [] xs h = absurd h
  all_batch c (x ∷ []) xs h = all_ended c x xs h
  all_batch c (x ∷ y ∷ b) xs h = all_on c x (y ∷ b ++ xs) h.0
      ∙ ap (onto_first x) (all_batch (d.next c x) (y ∷ b) xs h.1)

  -- an open batch is no whole one
  pub whole_open : (c : C) (xs : List X) → IsOpen d c xs → whole_batches_of d c xs ≡ []
  whole_open c [] h = (none_left c).0
  whole_open c (x ∷ xs) h = whole_on c x xs h.0 ∙ ap (onto_some x) (whole_open (d.next c x) xs h.1)

  -- at the end it is one where it has an item
  pub none_open : (c : C) → batches_of d c [] ≡ []
  none_open c = (none_left c).1

  pub all_open : (c : C) (x : X) (xs : List X) → IsOpen d c (x ∷ xs)
      → batches_of d c (x ∷ xs) ≡ (x ∷ xs) ∷ []
  all_open c x [] h = all_on c x [] h.0 ∙ ap (onto_first x) (none_open (d.next c x))
  all_open c x (y ∷ ys) h = all_on c x (y ∷ ys) h.0
      ∙ ap (onto_first x) (all_open (d.next c x) y ys h.1)

  -- the items at the front are these batches, whatever stands behind them
  pub record DividesFront (front : List X) (batches : List (List X)) : Type 0 where
    pub whole : (rest : List X)
        → whole_batches_of d d.first (front ++ rest) ≡ batches ++ whole_batches_of d d.first rest
    pub all : (rest : List X)
        → batches_of d d.first (front ++ rest) ≡ batches ++ batches_of d d.first rest

  pub divides_none : DividesFront [] []
  divides_none = record { whole = λ rest. refl; all = λ rest. refl }

  -- one more batch
  pub divides_more : (front b : List X) (batches : List (List X)) → DividesFront front batches
      → IsBatch d d.first b → DividesFront (front ++ b) (batches ++ b ∷ [])
  divides_more front b batches p is = record {
    whole = λ rest.
        ap (whole_batches_of d d.first) (append_assoc front b rest) ∙ p.whole (b ++ rest)
        ∙ ap (λ l. batches ++ l) (whole_batch d.first b rest is)
        ∙ sym (append_assoc batches (b ∷ []) _);
    all = λ rest.
        ap (batches_of d d.first) (append_assoc front b rest) ∙ p.all (b ++ rest)
        ∙ ap (λ l. batches ++ l) (all_batch d.first b rest is)
        ∙ sym (append_assoc batches (b ∷ []) _);
  }

  -- ---- the items of the batches are those of the list

  items_onto : (x : X) (batches : List (List X))
      → items_of (onto_first x batches) ≡ x ∷ items_of batches
  items_onto x [] = refl
  items_onto x (b ∷ bs) = refl

  items_cons : (c : C) (x : X) (xs : List X) (test : Bool) → d.ends c x ≡ test
      → ((c : C) → items_of (batches_of d c xs) ≡ xs) → items_of (batches_of d c (x ∷ xs)) ≡ x ∷ xs
  items_cons c x xs true e given = ap items_of (all_ended c x xs e)
      ∙ ap (λ l. x ∷ l) (given d.first)
  items_cons c x xs false e given =
      ap items_of (all_on c x xs e) ∙ items_onto x (batches_of d (d.next c x) xs)
      ∙ ap (λ l. x ∷ l) (given (d.next c x))

  pub items_all : (xs : List X) (c : C) → items_of (batches_of d c xs) ≡ xs
  items_all [] c = ap items_of (none_left c).1
  items_all (x ∷ xs) c = items_cons c x xs (d.ends c x) refl (items_all xs)

  -- ---- the law of batches

  -- the batches of a rest that no item of it ended
  last_alone : (rest : List X) → IsOpen d d.first rest → batches_of d d.first rest ≡ last_batch rest
  last_alone [] is = none_open d.first
  last_alone (x ∷ xs) is = all_open d.first x xs is

  pub whole_given : (batches : List (List X)) (rest : List X)
      → AllByRecursion (IsBatch d d.first) batches
      → IsOpen d d.first rest → whole_batches_of d d.first (items_of batches ++ rest) ≡ batches
  whole_given [] rest each is = whole_open d.first rest is
  whole_given (b ∷ bs) rest each is =
      ap (whole_batches_of d d.first) (append_assoc b (items_of bs) rest)
      ∙ whole_batch d.first b (items_of bs ++ rest) each.0
      ∙ ap (λ l. b ∷ l) (whole_given bs rest each.1 is)

  pub all_given : (batches : List (List X)) (rest : List X)
      → AllByRecursion (IsBatch d d.first) batches
      → IsOpen d d.first rest
      → batches_of d d.first (items_of batches ++ rest) ≡ batches ++ last_batch rest
  all_given [] rest each is = last_alone rest is
  all_given (b ∷ bs) rest each is =
      ap (batches_of d d.first) (append_assoc b (items_of bs) rest)
      ∙ all_batch d.first b (items_of bs ++ rest) each.0
      ∙ ap (λ l. b ∷ l) (all_given bs rest each.1 is)

  -- the first is a batch from this count on, and the others are from the beginning of a batch on
  abbrev pub AreBatches : C → List (List X) → Type 0
  AreBatches c [] = Unit {0}
  AreBatches c (b ∷ bs) = IsBatch d c b × AllByRecursion (IsBatch d d.first) bs

  -- the count where what stands behind the batches begins
  abbrev pub count_after : C → List (List X) → C
  count_after c [] = c
  count_after c (b ∷ bs) = d.first

  -- the items are these batches, and a rest that no item of it ended
  pub record Divided (c : C) (xs : List X) (batches : List (List X)) : Type 0 where
    pub rest : List X
    pub is_open : IsOpen d (count_after c batches) rest
    pub each : AreBatches c batches
    pub same : xs ≡ items_of batches ++ rest

  batch_onto : (c : C) (x : X) (b : List X) → d.ends c x ≡ false → IsBatch d (d.next c x) b
      → IsBatch d c (x ∷ b)
  batch_onto c x [] on is = absurd is
  batch_onto c x (y ∷ ys) on is = (on, is)

  -- one more item in front that goes on
  divided_onto : (c : C) (x : X) (xs : List X) (batches : List (List X)) → d.ends c x ≡ false
      → Divided (d.next c x) xs batches → Divided c (x ∷ xs) (onto_some x batches)
  divided_onto c x xs [] on p = record {
    rest = x ∷ p.rest;
    is_open = (on, p.is_open);
    each = tt;
    same = ap (λ l. x ∷ l) p.same;
  }
  divided_onto c x xs (b ∷ bs) on p = record {
    rest = p.rest;
    is_open = p.is_open;
    each = (batch_onto c x b on p.each.0, p.each.1);
    same = ap (λ l. x ∷ l) p.same;
  }

  -- or that is a batch of its own
  divided_ended : (c : C) (x : X) (xs : List X) (batches : List (List X)) → d.ends c x ≡ true
      → Divided d.first xs batches → Divided c (x ∷ xs) ((x ∷ []) ∷ batches)
  divided_ended c x xs [] ends p = record {
    rest = p.rest;
    is_open = p.is_open;
    each = (ends, tt);
    same = ap (λ l. x ∷ l) p.same;
  }
  divided_ended c x xs (b ∷ bs) ends p = record {
    rest = p.rest;
    is_open = p.is_open;
    each = (ends, p.each);
    same = ap (λ l. x ∷ l) p.same;
  }

  divided_cons : (c : C) (x : X) (xs : List X) (test : Bool) → d.ends c x ≡ test
      → ((c : C) → Divided c xs (whole_batches_of d c xs))
      → Divided c (x ∷ xs) (whole_batches_of d c (x ∷ xs))
  divided_cons c x xs true e given =
      subst (Divided c (x ∷ xs)) (sym (whole_ended c x xs e))
      (divided_ended c x xs _ e (given d.first))
  divided_cons c x xs false e given =
      subst (Divided c (x ∷ xs)) (sym (whole_on c x xs e))
      (divided_onto c x xs _ e (given (d.next c x)))

  divided : (xs : List X) (c : C) → Divided c xs (whole_batches_of d c xs)
  divided [] c = subst (Divided c []) (sym (none_left c).0) (record {
    rest = [];
    is_open = tt;
    each = tt;
    same = refl;
  })
  divided (x ∷ xs) c = divided_cons c x xs (d.ends c x) refl (divided xs)

  -- all items are divided so
  pub record DividedWhole (xs : List X) (batches : List (List X)) : Type 0 where
    pub rest : List X
    pub is_open : IsOpen d d.first rest
    pub each : AllByRecursion (IsBatch d d.first) batches
    pub same : xs ≡ items_of batches ++ rest

  divided_from : (xs : List X) (batches : List (List X)) → Divided d.first xs batches
      → DividedWhole xs batches
  divided_from xs [] p = record { rest = p.rest; is_open = p.is_open; each = tt; same = p.same }
  divided_from xs (b ∷ bs) p = record {
    rest = p.rest;
    is_open = p.is_open;
    each = p.each;
    same = p.same;
  }

  pub all_divided : (xs : List X) → DividedWhole xs (whole_batches_of d d.first xs)
  all_divided xs = divided_from xs (whole_batches_of d d.first xs) (divided xs d.first)
