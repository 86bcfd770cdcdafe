-- What `lex` answers, from what it knows at its end.
use Rattle.std.proofs.Common.{◌≡◌, ℕ, inr, Option, Some, None, List, [], get_or, refl, sym, subst, ◌∙◌}
use Rattle.std.specs.Prelude.{All}
use Rattle.std.specs.List.{filter_map, AllPairs}
use Rattle.vg_base.specs.declared.doc_fault.DocFault.{DocFault}
use Rattle.vg_base.specs.Faults.{doc_fault_order}
use Rattle.vg_base.specs.First.{IsFirst}
use Rattle.vg_base.specs.Places.{Walked}
use Rattle.abnf_lexer.specs.declared.lexemes.Spanned.{Spanned}
use Rattle.abnf_lexer.specs.declared.tally.Tally.{Tally}
use Rattle.abnf_lexer.specs.Faults.{cutting_faults}
use Rattle.abnf_lexer.specs.Header.{header_faults, behind_header}
use Rattle.abnf_lexer.specs.Lexemes.{CutFrom, placed_pieces, end, spanned, spelled}
use Rattle.abnf_lexer.specs.Lexing.{AreLexemes, IsFirstFault, IsLexeme, IsWithin, Precedes, ShowsEach, ShowsAll}
use Rattle.abnf_lexer.specs.code.Tally.{IsTallied}
use Rattle.abnf_lexer.proofs.Answering.{settled_first, whole_cut}
use Rattle.abnf_lexer.proofs.OneAnswer.{some_cut, none_first}
use Rattle.abnf_lexer.proofs.Spans.{parts_in, lexemes_in, within, in_order, shows_in}

-- what is first of every cutting of the text
abbrev pub FirstOfAll : List ℕ → Option DocFault → Type 0
FirstOfAll text r = (cut : CutFrom (behind_header text)) → IsFirst doc_fault_order (cutting_faults text (placed_pieces cut) (end cut)) r

-- what is known at the end
pub record Known (text : List ℕ) (to : Walked) (tally : Tally) (r : Option DocFault) : Type 0 where
  pub header : header_faults text ≡ []
  pub tallied : IsTallied (behind_header text) to tally
  pub first : FirstOfAll text r

pub known_of : (text characters : List ℕ) (here to : Walked) (tally : Tally) (r : Option DocFault) → characters ≡ text → header_faults characters ≡ [] → here ≡ behind_header characters → IsTallied here to tally
    → ((text : List ℕ) → header_faults text ≡ [] → IsTallied (behind_header text) to tally → FirstOfAll text r) → Known text to tally r
known_of text characters here to tally r same header start tallied first =
    subst (λ (l : List ℕ). Known l to tally r) same
    (let t : IsTallied (behind_header characters) to tally = subst (λ (w : Walked). IsTallied w to tally) start tallied in record { header = header; tallied = t; first = first characters header t })

module _ (text : List ℕ) (to : Walked) (tally : Tally) (r : Option DocFault) (known : Known text to tally r) where
  pub is_fault : (f : DocFault) → r ≡ Some f → IsFirstFault text f
  is_fault f e =
      let cut = some_cut (behind_header text) in
      inr (record { header = known.header; cut = cut; first = subst (IsFirst doc_fault_order (cutting_faults text (placed_pieces cut) (end cut))) e (known.first cut) })

  no_fault : (cut : CutFrom (behind_header text)) → r ≡ None → cutting_faults text (placed_pieces cut) (end cut) ≡ []
  no_fault cut e = subst (IsFirst doc_fault_order (cutting_faults text (placed_pieces cut) (end cut))) e (known.first cut)

  none_found : r ≡ None → tally.fault ≡ None
  none_found e = by_fault tally.fault refl
    where
      by_fault : (o : Option DocFault) → tally.fault ≡ o → o ≡ None
      by_fault None h = refl
      by_fault (Some f) h =
          let cut = some_cut (behind_header text) in
          absurd (none_first (cutting_faults text (placed_pieces cut) (end cut)) f (no_fault cut e) (settled_first text to tally f known.header known.tallied cut h))

  module _ (found : List Spanned) (none : r ≡ None) (same : found ≡ tally.found.items) where
    found_is : found ≡ filter_map spanned (placed_pieces (whole_cut text to tally known.tallied (none_found none)))
    found_is = same ∙ known.tallied.is_tally.found (none_found none)

    pub are_lexemes : AreLexemes text found
    are_lexemes = let cut = whole_cut text to tally known.tallied (none_found none) in record { cut = cut; faultless = record { header = known.header; pieces = no_fault cut none }; lexemes = found_is }

    pub are_shown : ShowsAll text found
    are_shown =
        let cut = whole_cut text to tally known.tallied (none_found none) in
        record {
          lexemes = filter_map spelled (placed_pieces cut);
          has = record { cut = cut; faultless = record { header = known.header; pieces = no_fault cut none }; spelled = refl };
          shows = subst (λ (l : List Spanned). ShowsEach text l (filter_map spelled (placed_pieces cut))) (sym found_is) (shows_in text (placed_pieces cut) (parts_in text cut));
        }

    pub are_slices : All (IsLexeme text) found
    are_slices = let cut = whole_cut text to tally known.tallied (none_found none) in subst (All (IsLexeme text)) (sym found_is) (lexemes_in text (placed_pieces cut) (parts_in text cut))

    pub are_within : All (IsWithin text) found
    are_within = λ k d h. within text (get_or found k d) (are_slices k d h)

    pub are_in_order : AllPairs Precedes found
    are_in_order = subst (AllPairs Precedes) (sym found_is) (in_order (behind_header text).passed known.tallied.pieces to.rest)
