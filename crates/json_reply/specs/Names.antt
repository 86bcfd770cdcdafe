-- The printed name of each refusal.
use Rattle.std.specs.Prelude.{ℕ, List, codes}
use Rattle.json_reply.specs.declared.refusal.Refusal.{Refusal}
use Rattle.json_reply.specs.declared.refusal.Refusal.TheVariants as refusal

abbrev pub refusal_name : Refusal → List ℕ
refusal_name refusal.LineLong = codes "LineLong"
refusal_name refusal.BadJson = codes "BadJson"
refusal_name refusal.NotCommand = codes "NotCommand"
refusal_name refusal.SessionThere = codes "SessionThere"
refusal_name refusal.NoSession = codes "NoSession"
refusal_name refusal.SessionsFull = codes "SessionsFull"
refusal_name refusal.NotUri = codes "NotUri"
refusal_name refusal.DocsFull = codes "DocsFull"
refusal_name refusal.TextOver = codes "TextOver"
refusal_name refusal.NotStaged = codes "NotStaged"
refusal_name refusal.Refused = codes "Refused"
refusal_name refusal.NoDocument = codes "NoDocument"
refusal_name refusal.NoRule = codes "NoRule"
refusal_name refusal.NotPublic = codes "NotPublic"
refusal_name refusal.NoRoot = codes "NoRoot"
refusal_name refusal.ActivationsFull = codes "ActivationsFull"
refusal_name refusal.NotActive = codes "NotActive"
refusal_name refusal.WordsOver = codes "WordsOver"
refusal_name refusal.BadKey = codes "BadKey"
