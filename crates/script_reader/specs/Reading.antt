-- Which answer a text gets.
use Rattle.std.specs.Prelude.{◌≡◌, ◌≢◌, ℕ, ◌+◌, ◌⊎◌, List, [], ◌∷◌, ◌++◌, length, Result, Ok, Err}
use Rattle.vg_base.specs.declared.script.Script.{Script}
use Rattle.script_reader.specs.declared.lexing.lexeme.Lexeme.{Lexeme}
use Rattle.script_reader.specs.declared.refused.ScriptSyntax.{ScriptSyntax}
use Rattle.script_reader.specs.Lexemes.{Piece, Cuts, NoForm, lexemes}
use Rattle.script_reader.specs.Grammar.{SpellsScript}

-- the text is cut into lexemes that are this script
pub record IsScript (text : List ℕ) (script : Script) : Type 0 where
  pub pieces : List Piece
  pub cut : Cuts text pieces []
  pub spells : SpellsScript (lexemes pieces) script

-- Some further lexemes make it a script. They needn't be cut from any text: wherever one that no text spells may stand, one
-- that a text spells may stand too.
abbrev pub Begins : List Lexeme → Type 0
Begins found = (more : List Lexeme) × (script : Script) × SpellsScript (found ++ more) script

-- What stands here fits no script behind these lexemes: nothing, where they are no script; what no lexeme begins; or a
-- lexeme with which they begin none.
abbrev pub FitsNone : List Lexeme → List ℕ → Type 0
FitsNone before stop =
    ((stop ≡ []) × ((script : Script) → SpellsScript before script → ⊥))
    ⊎ (((stop ≢ []) × NoForm stop)
    ⊎ ((p : Piece) × (rest : List ℕ) × Cuts stop (p ∷ []) rest × (Begins (before ++ p.found) → ⊥)))

-- at this place, behind lexemes that begin a script, stands what fits none
pub record FirstUnfit (text : List ℕ) (at : ℕ) : Type 0 where
  pub pieces : List Piece
  pub stop : List ℕ
  pub cut : Cuts text pieces stop
  pub before : Begins (lexemes pieces)
  pub unfit : FitsNone (lexemes pieces) stop
  pub place : at + length stop ≡ length text

-- the text is this script and no other; or it is none, and this is the place of what first fits none
abbrev pub Reads : List ℕ → Result Script ScriptSyntax → Type 0
Reads text (Ok script) = IsScript text script × ((other : Script) → IsScript text other → other ≡ script)
Reads text (Err syntax) = FirstUnfit text syntax.at
