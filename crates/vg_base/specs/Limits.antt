-- The limits of this project: the most that there may be of each. SRGS 1.0 and SISR 1.0 set none.
use Rattle.std.specs.Prelude.{ℕ}

-- bytes that a run of the server takes
abbrev pub input_bytes : ℕ
input_bytes = 1073741824

-- bytes of a line, without its line feed
abbrev pub line_bytes : ℕ
line_bytes = 2097152

-- commands of a batch, over all areas
abbrev pub batch_commands : ℕ
batch_commands = 1024

-- publishes of a batch, over all areas
abbrev pub batch_publishes : ℕ
batch_publishes = 64

-- bytes of lines with which a batch ends
abbrev pub batch_bytes : ℕ
batch_bytes = 16777216

-- staged documents of an area
abbrev pub documents : ℕ
documents = 64

-- bytes of all staged texts of an area
abbrev pub document_bytes : ℕ
document_bytes = 1048576

-- lexemes of a document
abbrev pub lexemes : ℕ
lexemes = 65536

-- brackets of a document, or what nests in a script, open at one place
abbrev pub nesting : ℕ
nesting = 64

-- number of a repeat
abbrev pub repeat : ℕ
repeat = 65535

-- size of the rules of a version
abbrev pub nodes : ℕ
nodes = 65536

-- bytes of a reference
abbrev pub uri_bytes : ℕ
uri_bytes = 2048

-- faults of a publish that are told one by one
abbrev pub told_faults : ℕ
told_faults = 64

-- entries of a publish
abbrev pub entries : ℕ
entries = 64

-- open sessions of an area
abbrev pub sessions : ℕ
sessions = 64

-- activations of a session
abbrev pub activations : ℕ
activations = 32

-- bytes of the name of a session
abbrev pub session_name_bytes : ℕ
session_name_bytes = 64

-- words of a match line
abbrev pub words : ℕ
words = 64

-- bytes of the words of a match line
abbrev pub word_bytes : ℕ
word_bytes = 16384

-- parses of a match line that asks for the best
abbrev pub parses : ℕ
parses = 4

-- number of an area
abbrev pub last_area : ℕ
last_area = 7

-- loaders of a publish
abbrev pub loaders : ℕ
loaders = 16

-- whole number of a script, on both sides of 0 (2^53 - 1)
abbrev pub script_number : ℕ
script_number = 9007199254740991

-- bytes of a string of a script
abbrev pub string_bytes : ℕ
string_bytes = 65536

-- values in a value of a script, itself among them
abbrev pub values : ℕ
values = 4096

-- bytes of strings and keys in a value of a script
abbrev pub value_bytes : ℕ
value_bytes = 262144

-- depth of a value of a script
abbrev pub value_depth : ℕ
value_depth = 64
