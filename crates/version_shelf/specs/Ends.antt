-- What the publisher and the readers of a shelf are, and what they know.
use Rattle.std.specs.Prelude.{◌≡◌, ℕ, ◌+◌, ◌-◌, ◌^◌, ◌<◌, ◌≤◌, true, false, List, [], map, length, slice_index_or, None}
use Rattle.std.specs.List.{Contains}
use Rattle.std.specs.declared.sync.Arc.{Arc}
use Rattle.std.specs.declared.alloc.Global.{Global}
use Rattle.once_cell.specs.Once.{cell_name}
use Rattle.version_shelf.specs.declared.shelf.Shelf.{Shelf}
use Rattle.version_shelf.specs.declared.publisher.Publisher.{Publisher}
use Rattle.version_shelf.specs.declared.reader.Reader.{Reader}
use Rattle.version_shelf.specs.declared.shelf.PublishRefused.{PublishRefused}
use Rattle.version_shelf.specs.declared.shelf.PublishRefused.TheVariants.{Memory}
use Rattle.version_shelf.specs.Known.{facts, Keeps, KnowsAt, known}

module _ {V : Type 0} where
  -- the number of the value on which the shelf was opened
  abbrev pub base_number : Shelf V → ℕ
  base_number shelf = shelf.number

  -- how many publications the shelf has room for
  abbrev pub room : Shelf V → ℕ
  room shelf = length shelf.cells.items - 1

  -- how many were published
  abbrev pub published : Publisher V → ℕ
  published p = p.count

  -- the number of the last value that was published, or the base's
  abbrev pub last_number : Publisher V → ℕ
  last_number p = p.number + p.count

  -- the pairs of number and value that it knows
  abbrev pub publisher_known : Publisher V → List (ℕ × V)
  publisher_known p = known p.number p.notes.items

  -- the number of the newest value that the reader was answered, or met
  abbrev pub reached : Reader V → ℕ
  reached r = r.number + r.last

  -- the base's number and the count that the reader's view has
  abbrev pub shown : Reader V → ℕ
  shown r = r.number + r.seat.me.0.count

  abbrev pub reader_known : Reader V → List (ℕ × V)
  reader_known r = known r.number r.notes.items

  -- p is the publisher of the shelf: its view has the count, and its notes know each cell up to it, and no other
  pub record IsPublisherOf (shelf : Shelf V) (p : Publisher V) : Type 0 where
    pub table : p.seat.table_id ≡ shelf.table.shared.table_id
    pub words : shelf.table.shared.table_id.words ≡ 1
    pub publishes : p.seat.me.0.publishes ≡ true
    pub count : p.seat.me.0.count ≡ p.count
    pub no_slot : p.seat.me.1 ≡ []
    pub names : map (λ m. m.cell) p.notes.items ≡ map cell_name shelf.cells.items
    pub number : p.number ≡ shelf.number
    pub room : p.count < length shelf.cells.items
    pub few : (length shelf.cells.items ≤ 65) × (shelf.number ≤ 2 ^ 63)
    pub full : (k : ℕ) → k ≤ p.count → (x : Arc V Global) × KnowsAt p.notes.items k x
    pub empty : (k : ℕ) → p.count < k → slice_index_or (facts p.notes.items) k None ≡ None

  -- r is a reader of the shelf: its view has a count not above the word's, and its notes know no cell past that
  pub record IsReaderOf (shelf : Shelf V) (r : Reader V) : Type 0 where
    pub table : r.seat.table_id ≡ shelf.table.shared.table_id
    pub words : shelf.table.shared.table_id.words ≡ 1
    pub reads : r.seat.me.0.publishes ≡ false
    pub no_slot : r.seat.me.1 ≡ []
    pub names : map (λ m. m.cell) r.notes.items ≡ map cell_name shelf.cells.items
    pub number : r.number ≡ shelf.number
    pub room : r.last < length shelf.cells.items
    pub few : (length shelf.cells.items ≤ 65) × (shelf.number ≤ 2 ^ 63)
    pub met : r.last ≤ r.seat.me.0.count
    pub seen : (x : Arc V Global) × KnowsAt r.notes.items r.last x
    pub bound : (k : ℕ) (x : Arc V Global) → KnowsAt r.notes.items k x → k ≤ r.seat.me.0.count

  -- The reader, as it was before and is after, answered this number with this value: it knows the pair from then on and
  -- forgot none, and the number is neither below what it had reached nor past the count that it was shown.
  pub record Answered (before after : Reader V) (number : ℕ) (value : V) : Type 0 where
    pub keeps : Keeps (reader_known before) (reader_known after)
    pub pair : Contains (reader_known after) (number, value)
    pub last : number ≡ reached after
    pub later : reached before ≤ number
    pub bound : number ≤ shown after
    pub counted : shown before ≤ shown after

  -- the value that comes back
  abbrev pub given_back : PublishRefused V → Arc V Global
  given_back (Memory value) = value
