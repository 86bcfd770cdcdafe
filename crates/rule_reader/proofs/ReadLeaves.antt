-- What a leaf is read as: from what stands between its marks to the tree that it is alone.
use Rattle.std.proofs.Common.{◌≡◌, ℕ, Bool, true, false, List, [], ◌∷◌, ◌++◌, Option, Some, None, refl, sym, ap, subst, ◌∙◌, inl, inr}
use Rattle.std.proofs.lemmas.List.{append-nil}
use Rattle.vg_base.specs.declared.doc_fault.DocKind.TheVariants.{BadKey, BadUri, BadScript}
use Rattle.vg_base.specs.declared.doc_fault.DocFault.{DocFault}
use Rattle.vg_base.specs.declared.mode.Mode.{Mode}
use Rattle.vg_base.specs.declared.mode.Mode.TheVariants.{Voice, Dtmf}
use Rattle.vg_base.specs.declared.format.Format.{Format}
use Rattle.vg_base.specs.declared.format.Format.TheVariants as format
use Rattle.vg_base.specs.declared.script.Script.{Script}
use Rattle.abnf_lexer.specs.declared.lexemes.Spanned.{Spanned}
use Rattle.token_forms.specs.Words.{AreWords}
use Rattle.token_forms.specs.Keys.{AreKeys, IsBadKeyAt}
use Rattle.token_forms.proofs.KeyLemmas as keys
use Rattle.script_reader.specs.Reading.{IsScript, FirstUnfit}
use Rattle.script_reader.proofs.OneAnswer.{not_both}
use Rattle.grammar_tree.specs.declared.expansion.Expansion.{Expansion}
use Rattle.grammar_tree.specs.declared.expansion.Expansion.TheVariants as e
use Rattle.abnf_parser.specs.declared.written.Written.{Written}
use Rattle.abnf_parser.specs.declared.written.Written.TheVariants as w
use Rattle.rule_reader.specs.declared.context.Context.{Context}
use Rattle.rule_reader.specs.Leaves.{Leaf, token, name, reference, tag, leaves, HasInside}
use Rattle.grammar_tree.specs.declared.expansion.Goal.{Goal}
use Rattle.rule_reader.specs.References.{named, IsGoal}
use Rattle.rule_reader.specs.LeafFaults.{Told, LeafFaults, EachFaults, IsBadKey, IsBadReference, IsBadScript}
use Rattle.rule_reader.specs.Meaning as meaning
use Rattle.rule_reader.specs.Meaning.{AreWordsIn, IsToken, IsReference, IsScriptOf, IsTag, Means}
use Rattle.rule_reader.specs.code.Contexts.{is_scripted}
use Rattle.rule_reader.specs.code.Walks.{told, Adds, IsReadAs, Walked}
use Rattle.rule_reader.proofs.LeafLists.{of_token, of_name, of_uri_ref, of_tag}
use Rattle.rule_reader.proofs.Told.{adds_none, quiet, loud}

-- ---- trees of one leaf

at_leaf : {text : List ℕ} {context : Context} {Is : Expansion → Type 0} {old new : Option DocFault} {x : Expansion} (leaf : Leaf) (y : Written) → leaves y ≡ leaf ∷ []
    → IsReadAs (LeafFaults text context leaf) Is old new x → (Is x → Means text context y x) → Walked text context y old new x
at_leaf {text} {context} leaf y e h to = record {
  faults = h.faults;
  are = subst (λ (ls : List Leaf). EachFaults text context ls h.faults) (sym e) (h.faults, [], h.are, refl, sym (append-nil h.faults));
  adds = h.adds;
  is = λ n. to (h.is n);
}

pub token_read : {text inside : List ℕ} {context : Context} {old new : Option DocFault} {x : Expansion} (span : Spanned) → HasInside text span inside
    → IsReadAs (Told (IsBadKey context inside) span BadKey) (IsToken context inside) old new x → Walked text context (w.Token span) old new x
token_read {text} {inside} {context} span has h =
    at_leaf {Is = IsToken context inside} (token span) (w.Token span) (of_token span) (record { faults = h.faults; are = (inside, has, h.are); adds = h.adds; is = h.is }) (λ is. meaning.token (inside, has, is))

pub reference_read : {text inside : List ℕ} {context : Context} {old new : Option DocFault} {x : Expansion} (span : Spanned) → HasInside text span inside
    → IsReadAs (Told (IsBadReference inside) span BadUri) (IsReference span inside) old new x → Walked text context (w.UriRef span) old new x
reference_read {text} {inside} {context} span has h =
    at_leaf {Is = IsReference span inside} (reference span) (w.UriRef span) (of_uri_ref span) (record { faults = h.faults; are = (inside, has, h.are); adds = h.adds; is = h.is }) (λ is. meaning.reference (inside, has, is))

pub name_read : {text : List ℕ} {context : Context} {found : Option DocFault} {x : Expansion} (span : Spanned) (inside : List ℕ) → HasInside text span inside → x ≡ named span.place inside
    → Walked text context (w.Name span) found found x
name_read {text} {context} {found} {x} span inside has h =
    at_leaf {Is = λ y. y ≡ named span.place inside} (name span) (w.Name span) (of_name span) (record { faults = []; are = refl; adds = adds_none found; is = λ n. h }) (λ is. meaning.name (inside, has, is))

pub tag_read : {text inside : List ℕ} {context : Context} {old new : Option DocFault} {script : Option Script} (span : Spanned) → HasInside text span inside
    → IsReadAs (Told (IsBadScript context inside) span BadScript) (IsScriptOf context.format inside) old new script
    → Walked text context (w.Tag span) old new (e.Tag (record { place = span.place; text = inside; script = script }))
tag_read {text} {inside} {context} {script = script} span has h =
    at_leaf {Is = IsTag context span inside} (tag span) (w.Tag span) (of_tag span)
    (record { faults = h.faults; are = (inside, has, h.are); adds = h.adds; is = λ n. (script, h.is n, refl) }) (λ is. meaning.tag (inside, has, is))

-- ---- tokens

pub words_read : {inside : List ℕ} {words : List (List ℕ)} {found : Option DocFault} (context : Context) (span : Spanned) → context.mode ≡ Voice → AreWords words inside
    → IsReadAs (Told (IsBadKey context inside) span BadKey) (IsToken context inside) found found (e.Token words)
words_read {inside} {words} {found} context span m h =
    quiet (IsBadKey context inside) span BadKey (IsToken context inside) found (e.Token words) (λ bad. apart (sym m ∙ bad.0))
    (words, subst (λ mode. AreWordsIn mode words inside) (sym m) h, refl)
  where
    apart : Voice ≡ Dtmf → ⊥
    apart h = cc

pub keys_read : {inside : List ℕ} {words : List (List ℕ)} {found : Option DocFault} (context : Context) (span : Spanned) → context.mode ≡ Dtmf → AreKeys words inside
    → IsReadAs (Told (IsBadKey context inside) span BadKey) (IsToken context inside) found found (e.Token words)
keys_read {inside} {words} {found} context span m h =
    quiet (IsBadKey context inside) span BadKey (IsToken context inside) found (e.Token words) (λ bad. bad.1 words h)
    (words, subst (λ mode. AreWordsIn mode words inside) (sym m) h, refl)

pub no_keys_read : {inside : List ℕ} {at : ℕ} {old new : Option DocFault} {x : Expansion} (context : Context) (span : Spanned) → context.mode ≡ Dtmf → IsBadKeyAt at inside
    → Adds (told true span BadKey) old new → IsReadAs (Told (IsBadKey context inside) span BadKey) (IsToken context inside) old new x
no_keys_read {inside} {at} {old} {new} {x} context span m h adds =
    loud (IsBadKey context inside) span BadKey (IsToken context inside) old new x (m, λ words k. keys.not_both inside words at k h) adds

-- ---- scripts

pub scripted : (f : Option Format) → is_scripted f ≡ true → f ≡ Some format.Script
scripted None h = absurd cc
scripted (Some format.Literal) h = absurd cc
scripted (Some format.Script) h = refl

pub script_read : {inside : List ℕ} {found : Option DocFault} (context : Context) (span : Spanned) (script : Script) → is_scripted context.format ≡ true → IsScript inside script
    → IsReadAs (Told (IsBadScript context inside) span BadScript) (IsScriptOf context.format inside) found found (Some script)
script_read {inside} {found} context span script f h =
    quiet (IsBadScript context inside) span BadScript (IsScriptOf context.format inside) found (Some script) (λ bad. bad.1 script h)
    (subst (λ g. IsScriptOf g inside (Some script)) (sym (scripted context.format f)) h)

pub no_script_read : {inside : List ℕ} {at : ℕ} {old new : Option DocFault} (context : Context) (span : Spanned) → is_scripted context.format ≡ true → FirstUnfit inside at
    → Adds (told true span BadScript) old new → IsReadAs (Told (IsBadScript context inside) span BadScript) (IsScriptOf context.format inside) old new None
no_script_read {inside} {at} {old} {new} context span f h adds =
    loud (IsBadScript context inside) span BadScript (IsScriptOf context.format inside) old new None (scripted context.format f, λ script k. not_both inside script at k h) adds

pub unscripted : {inside : List ℕ} {found : Option DocFault} (context : Context) (span : Spanned) → is_scripted context.format ≡ false
    → IsReadAs (Told (IsBadScript context inside) span BadScript) (IsScriptOf context.format inside) found found None
unscripted {inside} {found} context span f =
    quiet (IsBadScript context inside) span BadScript (IsScriptOf context.format inside) found None (λ bad. other context.format f bad.0) (none context.format f)
  where
    other : (g : Option Format) → is_scripted g ≡ false → g ≡ Some format.Script → ⊥
    other g h k = let e : is_scripted g ≡ true = ap is_scripted k in cc

    none : (g : Option Format) → is_scripted g ≡ false → IsScriptOf g inside None
    none None h = refl
    none (Some format.Literal) h = refl
    none (Some format.Script) h = absurd cc

-- ---- references by URI

pub goal_read : {inside : List ℕ} {found : Option DocFault} (span : Spanned) (g : Goal) → IsGoal inside g
    → IsReadAs (Told (IsBadReference inside) span BadUri) (IsReference span inside) found found (e.Ref (record { place = span.place; goal = g }))
goal_read {inside} {found} span g h =
    quiet (IsBadReference inside) span BadUri (IsReference span inside) found (e.Ref (record { place = span.place; goal = g })) (λ bad. bad g h) (g, h, refl)

pub no_goal_read : {inside : List ℕ} {old new : Option DocFault} {x : Expansion} (span : Spanned) → ((g : Goal) → IsGoal inside g → ⊥)
    → Adds (told true span BadUri) old new → IsReadAs (Told (IsBadReference inside) span BadUri) (IsReference span inside) old new x
no_goal_read {inside} {old} {new} {x} span none adds = loud (IsBadReference inside) span BadUri (IsReference span inside) old new x none adds
