-- Where a text has no fault.
use Rattle.std.proofs.Common.{◌≡◌, ℕ, ◌≤◌, Bool, true, false, cond, ltb, List, length, Option, None, Some, is_some, refl, ap, sym, ◌∙◌, subst, arith}
use Rattle.std.specs.Str.{encode_utf8_all}
use Rattle.std.proofs.lemmas.Bool.{cond-true, cond-false, le-ltb}
use Rattle.std.proofs.lemmas.Bool.Decides.{nat_tests}
use Rattle.vg_base.specs.Characters.{byte_len}
use Rattle.uri_links.specs.declared.fault.UriFault.{UriFault}
use Rattle.uri_links.specs.declared.fault.UriFault.TheVariants.{NotUri, UriLong, NotAbsolute}
use Rattle.uri_links.specs.Allowed.{is_reference}
use Rattle.uri_links.specs.Resolution.{is_absolute}
use Rattle.uri_links.specs.Faults.{reading_fault, key_fault}

none_only : (long good : Bool) → cond long (Some UriLong) (cond good None (Some NotUri)) ≡ None → good ≡ true
none_only true good e = cc
none_only false true e = refl
none_only false false e = cc

pub reading_none : (text : List ℕ) → reading_fault text ≡ None → is_reference text ≡ true
reading_none text e = none_only (ltb 2048 (byte_len text)) (is_reference text) e

short_only : (long good : Bool) → cond long (Some UriLong) (cond good None (Some NotUri)) ≡ None → long ≡ false
short_only true good e = cc
short_only false good e = refl

pub reading_short : (text : List ℕ) → reading_fault text ≡ None → byte_len text ≤ 2048
reading_short text e =
    let short : ltb 2048 (byte_len text) ≡ false = short_only (ltb 2048 (byte_len text)) (is_reference text) e in
    grind (arith, nat_tests)

pub key_from_none : (text : List ℕ) → reading_fault text ≡ None → key_fault text ≡ cond (is_absolute text) None (Some NotAbsolute)
key_from_none text e = cond-false (is_some (reading_fault text)) (reading_fault text) (cond (is_absolute text) None (Some NotAbsolute)) (ap is_some e)

pub key_none : (text : List ℕ) → key_fault text ≡ None → (reading_fault text ≡ None) × (is_absolute text ≡ true)
key_none text e = go (reading_fault text) refl
  where
    absolute : (b : Bool) → cond b None (Some NotAbsolute) ≡ None → b ≡ true
    absolute true e = refl
    absolute false e = cc

    go : (o : Option UriFault) → reading_fault text ≡ o → (reading_fault text ≡ None) × (is_absolute text ≡ true)
    go None h = (h, absolute (is_absolute text) (sym (key_from_none text h) ∙ e))
    go (Some f) h = let stays : reading_fault text ≡ None = sym (cond-true (is_some (reading_fault text)) (reading_fault text) (cond (is_absolute text) None (Some NotAbsolute)) (ap is_some h)) ∙ e in cc

-- what the test of a text's bytes says of its characters
pub reading_by : (cs bs : List ℕ) (good : Bool) → bs ≡ encode_utf8_all cs → length bs ≤ 2048 → is_reference cs ≡ good
    → reading_fault cs ≡ cond good None (Some NotUri)
reading_by cs bs good e short g =
    cond-false (ltb 2048 (byte_len cs)) (Some UriLong) (cond (is_reference cs) None (Some NotUri)) (le-ltb 2048 (byte_len cs) (subst (λ l. length l ≤ 2048) e short))
    ∙ ap (λ b. cond b None (Some NotUri)) g
