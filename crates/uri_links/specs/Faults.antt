-- What is wrong with a reference: each fault's number and printed name, and which fault a text has.
use Rattle.std.specs.Prelude.{ℕ, List, Option, None, Some, Result, Ok, Err, is_some, nat_lt, if◌then◌else◌, codes}
use Rattle.vg_base.specs.Characters.{byte_len}
use Rattle.vg_base.specs.Limits as limits
use Rattle.uri_links.specs.declared.fault.UriFault.{UriFault}
use Rattle.uri_links.specs.declared.fault.UriFault.TheVariants.{NotUri, UriLong, NotAbsolute}
use Rattle.uri_links.specs.Allowed.{is_reference}
use Rattle.uri_links.specs.Resolution.{is_absolute}

abbrev pub fault_number : UriFault → ℕ
fault_number NotUri = 1
fault_number UriLong = 2
fault_number NotAbsolute = 3

abbrev pub fault_name : UriFault → List ℕ
fault_name NotUri = codes "NotUri"
fault_name UriLong = codes "UriLong"
fault_name NotAbsolute = codes "NotAbsolute"

-- the fault of a text that is read as a reference: whether it has too many bytes is looked at first
abbrev pub reading_fault : List ℕ → Option UriFault
reading_fault text = if nat_lt limits.uri_bytes (byte_len text) then Some UriLong else if is_reference text then None else Some NotUri

-- the fault of a text that is read as a key
abbrev pub key_fault : List ℕ → Option UriFault
key_fault text = if is_some (reading_fault text) then reading_fault text else if is_absolute text then None else Some NotAbsolute

-- what is read where there is no fault
abbrev pub unless : {A : Type 0} → Option UriFault → A → Result A UriFault
unless None uri = Ok uri
unless (Some fault) uri = Err fault
