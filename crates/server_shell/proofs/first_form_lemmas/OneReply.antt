-- Each line that isn't blank has one reply, with its number.
use Rattle.std.proofs.Common.{◌≡◌, ℕ, List, [], ◌∷◌, ◌++◌, map, sym, ap, ap₂, ◌∙◌}
use Rattle.std.proofs.lemmas.List.{map-append}
use Rattle.server_shell.specs.declared.first_form.keeper.HeardLine.{HeardLine}
use Rattle.server_shell.specs.declared.first_form.reply.Reply.{Reply}
use Rattle.server_shell.specs.Runs.{Runs}
use Rattle.vg_io.specs.Lines.{lines_of}
use Rattle.server_shell.specs.Batching.{items_of}
use Rattle.server_shell.specs.Service.{Answers, batches_in, read_lines}
use Rattle.server_shell.proofs.Divisions.{items_all}
use Rattle.server_shell.specs.ItemRules.{AreAnswered, after_batch}
use Rattle.server_shell.specs.first_form.Answers.{each_line, first_form}
use Rattle.server_shell.specs.first_form.State.{State}

abbrev numbers : List HeardLine → List ℕ
numbers lines = map (λ (line : HeardLine). line.number) lines

abbrev told : List Reply → List ℕ
told replies = map (λ (reply : Reply). reply.line) replies

module _ (start end : State) where
  -- the replies to the lines of a batch
  told_batch : (s : State) (lines : List HeardLine) (replies : List Reply)
      → AreAnswered each_line start end s lines replies → told replies ≡ numbers lines
  told_batch s [] replies none = ap told none
  told_batch s (line ∷ lines) [] none = absurd none
  told_batch s (line ∷ lines) (reply ∷ replies) (one, others) =
      ap₂ (λ n ns. n ∷ ns) one.number
      (told_batch (each_line.after s line reply) lines replies others)

-- and those to batches one after another
told_all : (batches : List (List HeardLine)) (s t : State) (replies : List Reply)
    → Runs first_form.answers first_form.after s batches replies t
    → told replies ≡ numbers (items_of batches)
told_all [] s t replies run = ap told run.0
told_all (b ∷ bs) s t replies (now, later, whole, answered, rest) =
    ap told whole ∙ map-append (λ (reply : Reply). reply.line) now later
    ∙ ap₂ (λ ns ms. ns ++ ms) (told_batch s (after_batch each_line s b now) s b now answered)
    (told_all bs (first_form.after s b now) t later rest)
    ∙ sym (map-append (λ (line : HeardLine). line.number) b (items_of bs))

-- those to an input
pub told_input : (input : List ℕ) (replies : List Reply) → Answers first_form input replies
    → told replies ≡ numbers (read_lines first_form 1 (lines_of input))
told_input input replies (t, run) =
    let lines = read_lines first_form 1 (lines_of input) in
    told_all (batches_in first_form (lines_of input)) first_form.start t replies run
    ∙ ap numbers (items_all first_form.division lines first_form.division.first)
