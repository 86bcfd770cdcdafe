-- A text that is cut into pieces, one after another, whatever forms the pieces have: the lexemes of a grammar or of a script and what stands
-- between them, the words of a line, the keys of a telephone.
use Rattle.std.specs.Prelude.{◌≡◌, ℕ, List, [], ◌∷◌, ◌++◌}

-- a piece: its kind, and its characters
pub record Piece (K : Type 0) : Type 0 where
  pub kind : K
  pub slice : List ℕ

-- all characters of several pieces
abbrev pub characters : {K : Type 0} → List (Piece K) → List ℕ
characters [] = []
characters (piece ∷ pieces) = piece.slice ++ characters pieces

-- ---- what it is to be cut

-- `HasForm kind slice rest` says that the slice is of this kind where this rest stands behind it
module _ {K : Type 0} (HasForm : K → List ℕ → List ℕ → Type 0) where
  -- the text is these pieces, and behind them stands what is left
  abbrev pub Cuts : (text : List ℕ) → List (Piece K) → (stop : List ℕ) → Type 0
  Cuts text [] stop = text ≡ stop
  Cuts text (piece ∷ pieces) stop = (rest : List ℕ) × (text ≡ piece.slice ++ rest) × HasForm piece.kind piece.slice rest × Cuts rest pieces stop

  -- no piece begins the text
  abbrev pub BeginsNone : List ℕ → Type 0
  BeginsNone text = (kind : K) (slice rest : List ℕ) → text ≡ slice ++ rest → HasForm kind slice rest → ⊥

  -- the text is these pieces, up to where none begins
  pub record IsCut (text : List ℕ) (pieces : List (Piece K)) (stop : List ℕ) : Type 0 where
    pub cuts : Cuts text pieces stop
    pub stuck : BeginsNone stop

-- ---- where the pieces stand

-- a piece in its text: what stands before it, itself, and what stands behind it
pub record Placed (K : Type 0) : Type 0 where
  pub kind : K
  pub front : List ℕ
  pub slice : List ℕ
  pub rest : List ℕ

-- each of the pieces in the text that has this front before them and this stop behind them
abbrev pub placed : {K : Type 0} → (front : List ℕ) → List (Piece K) → (stop : List ℕ) → List (Placed K)
placed front [] stop = []
placed front (piece ∷ pieces) stop =
    (record { kind = piece.kind; front = front; slice = piece.slice; rest = characters pieces ++ stop }) ∷ placed (front ++ piece.slice) pieces stop

-- the piece is a slice of the text, and has the form of its kind
pub record IsPartOf {K : Type 0} (HasForm : K → List ℕ → List ℕ → Type 0) (text : List ℕ) (piece : Placed K) : Type 0 where
  pub parts : text ≡ piece.front ++ (piece.slice ++ piece.rest)
  pub form : HasForm piece.kind piece.slice piece.rest
