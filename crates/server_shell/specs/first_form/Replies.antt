-- Which reply a line has, given what the server keeps.
use Rattle.std.specs.Prelude.{◌≡◌, ℕ, ◌+◌, ◌≤◌, List, [], ◌∷◌, length, None, Some, ◌⊎◌, IfSome}
use Rattle.std.specs.List.{Contains, join_with_byte}
use Rattle.server_shell.specs.declared.first_form.command.Command.{Command}
use Rattle.server_shell.specs.declared.first_form.command.Command.TheVariants as command
use Rattle.server_shell.specs.declared.first_form.reply.Body.{Body}
use Rattle.server_shell.specs.declared.first_form.reply.Body.TheVariants as body
use Rattle.server_shell.specs.declared.first_form.reply.Refusal.TheVariants as refusal
use Rattle.server_shell.specs.declared.first_form.hearing.Heard.{Heard}
use Rattle.server_shell.specs.declared.first_form.hearing.Heard.TheVariants as heard
use Rattle.server_shell.specs.first_form.State.{State, KeyedText}
use Rattle.server_shell.specs.first_form.Forms.{IsFormText, SpellsForm, IsKey, alternatives_of}
use Rattle.server_shell.specs.first_form.Words.{words_of, bytes_in}

-- A or B, as P holds or not
abbrev pub Either : Type 0 → Type 0 → Type 0 → Type 0
Either P A B = (P × A) ⊎ ((¬ P) × B)

-- a key and a text of the small form, with no other key staged
pub record CanPut (s : State) (uri text : List ℕ) : Type 0 where
  pub key : IsKey uri
  pub form : IsFormText text
  pub alone : IfSome s.staged (λ d. d.uri ≡ uri)

-- exactly the one staged key
abbrev pub CanPublish : State → List (List ℕ) → Type 0
CanPublish s entries = (d : KeyedText) × (s.staged ≡ Some d) × (entries ≡ d.uri ∷ [])

-- at most 64 words and 16,384 bytes of words
abbrev pub CanTry : List (List ℕ) → Type 0
CanTry words = (length words ≤ 64) × (bytes_in words ≤ 16384)

-- the document that is published under this key
abbrev pub IsPublished : State → List ℕ → KeyedText → Type 0
IsPublished s uri doc = (s.published ≡ Some doc) × (doc.uri ≡ uri)

-- The reply to words over a published document: a match exactly where they are the words of one
-- alternative.
pub record MatchesOver (version : ℕ) (doc : KeyedText) (words : List (List ℕ)) (b : Body)
    : Type 0 where
  pub name : List ℕ
  pub alternatives : List ℕ
  pub spells : SpellsForm doc.text name alternatives
  pub told : Either (Contains (alternatives_of alternatives) words)
      (b ≡ body.Match version doc.uri name (join_with_byte 32 words))
      (b ≡ body.NoMatch version)

-- NoDocument exactly where nothing is published under the key
abbrev pub TriesOver : State → List ℕ → List (List ℕ) → Body → Type 0
TriesOver s uri words b =
    ((doc : KeyedText) × IsPublished s uri doc × MatchesOver s.version doc words b)
    ⊎ (((doc : KeyedText) → IsPublished s uri doc → ⊥)
    × (b ≡ body.Refused refusal.NoDocument (Some s.version)))

-- the refusal of what isn't of a form that is answered today
abbrev pub not_built : Body
not_built = body.Refused refusal.NotBuilt None

-- The replies that a command may have. Want of memory may be told at put, publish and try, and
-- changes nothing.
abbrev pub Replies : State → Command → Body → Type 0
Replies s command.Run b = b ≡ body.Ran
Replies s (command.Put uri text) b =
    (b ≡ body.Memory) ⊎ Either (CanPut s uri text) (b ≡ body.Staged) (b ≡ not_built)
Replies s (command.Publish entries) b =
    (b ≡ body.Memory)
    ⊎ Either (CanPublish s entries) (b ≡ body.Published (s.version + 1) 1) (b ≡ not_built)
Replies s (command.Try uri tokens) b =
    (b ≡ body.Memory)
    ⊎ Either (CanTry (words_of tokens)) (TriesOver s uri (words_of tokens) b) (b ≡ not_built)

-- The replies that what was heard in a line may have: a line past the limit is refused LineLong,
-- whatever it says.
abbrev pub HeardReplies : State → Heard → Body → Type 0
HeardReplies s heard.Long b = b ≡ body.Refused refusal.LineLong None
HeardReplies s heard.Unknown b = b ≡ not_built
HeardReplies s (heard.Said c) b = Replies s c b
