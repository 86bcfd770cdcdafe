-- Batches whose items have one reply each. A reply may rest on what stands at the batch's start,
-- before the item, and at the batch's end.
use Rattle.std.specs.Prelude.{◌≡◌, List, [], ◌∷◌}

pub record ItemRule (S L R : Type 0) : Type 1 where
  -- the item's reply, by what stands at the batch's start, at its end, and before the item
  pub answers : (start end before : S) → L → R → Type 0
  -- what stands behind the item and its reply
  pub after : S → L → R → S

module _ {S L R : Type 0} (rule : ItemRule S L R) where
  -- what stands behind items and their replies, one after another
  abbrev pub after_batch : S → List L → List R → S
  after_batch s [] replies = s
  after_batch s (item ∷ items) [] = s
  after_batch s (item ∷ items) (reply ∷ replies) =
      after_batch (rule.after s item reply) items replies

  -- each item has one reply, in their order
  abbrev pub AreAnswered : (start end before : S) → List L → List R → Type 0
  AreAnswered start end s [] replies = replies ≡ []
  AreAnswered start end s (item ∷ items) [] = ⊥
  AreAnswered start end s (item ∷ items) (reply ∷ replies) =
      rule.answers start end s item reply
      × AreAnswered start end (rule.after s item reply) items replies

  -- the replies that a batch may have
  abbrev pub BatchAnswers : S → List L → List R → Type 0
  BatchAnswers s items replies =
      AreAnswered s (after_batch s items replies) s items replies
