-- How far a run has come.
--
-- `Progress` is the loop's invariant: the lines so far (`LinesSoFar`), divided into batches that
-- were answered and the lines of the open batch (`Divisions`), the run over those batches, and the
-- delivery of their replies. `line_taken` adds a line to the open batch, `batch_run` answers a
-- batch that a line ended.
use Rattle.std.proofs.Common.{◌≡◌, ◌≢◌, ℕ, ◌+◌, Bool, true, false, IsTrue, List, [], ◌∷◌, ◌++◌, None, length, refl, sym, ap, ◌∙◌, subst, append_assoc, append-nil, arith, length-append, Some, option_to_list}
use Rattle.std.specs.declared.option.Option.{Option}
use Rattle.vg_io.specs.Reader.{Intake, ReaderState, GivesNext}
use Rattle.server_shell.specs.declared.batches.BatchEnd.{BatchEnd}
use Rattle.server_shell.specs.declared.batches.BatchEnd.TheVariants as batch_end
use Rattle.server_shell.specs.Runs.{Runs}
use Rattle.server_shell.specs.Batching.{IsOpen, IsBatch, count_behind}
use Rattle.server_shell.specs.Service.{Service, BetweenLines, HasOpenBatch, EndsBatch, TakesRead, read_lines}
use Rattle.server_shell.specs.Delivery.{Delivery, IsLawful}
use Rattle.server_shell.specs.Served.{Outside}
use Rattle.server_shell.specs.code.Turning.{Hold, Finishes}
use Rattle.server_shell.proofs.Divisions.{DividesFront, divides_none, divides_more, open_more, batch_more}
use Rattle.server_shell.proofs.LinesSoFar.{Given, given_none, given_more}
use Rattle.server_shell.proofs.Runs.{Runs-more, read_lines-append}

-- the reader and its source, where replies go, what the server keeps, and the number of the next
-- line
pub record Moment (S L O : Type 0) : Type 0 where
  pub intake : Intake
  pub hold : Hold S L O
  pub number : ℕ

not_true : (b : Bool) → (IsTrue b → ⊥) → b ≡ false
not_true true h = absurd (h refl)
not_true false h = refl

-- where there are more replies than those before, they were shown
pub shown_more : {R A B : Type 0} (before now : List R) → (before ≢ [] → A) → (A → B)
    → (now ≢ [] → B) → before ++ now ≢ [] → B
shown_more before [] was keeps shows some =
    keeps (was (λ none. some (append-nil before ∙ none)))
shown_more before (r ∷ rs) was keeps shows some = shows (λ e. cc)

module _ {S C L R O : Type 0} (service : Service S C L R) (delivery : Delivery O R) where
  -- the lines so far are the lines of answered batches and those of the open batch, of which `Is`
  -- holds
  pub record Progress (Is : C → List L → Type 0) (first : Outside O)
      (now : Moment S L O) : Type 0 where
    pub lines : List (List ℕ)
    pub given : Given first.source.left now.intake lines
    pub count : now.number ≡ 1 + length lines
    pub front : List L
    pub batches : List (List L)
    pub divides : DividesFront service.division front batches
    pub whole : read_lines service 1 lines ≡ front ++ now.hold.kept.pending
    pub pending : Is service.division.first now.hold.kept.pending
    pub replies : List R
    pub shown : replies ≢ [] → delivery.shows now.hold.out
    pub run : Runs service.answers service.after service.start batches replies now.hold.kept.stands
    pub delivered : delivery.takes first.out now.hold.out replies

  -- a line was given and taken, and nothing else was done
  pub record TakesOne (now new : Moment S L O) (answer : BatchEnd) : Type 0 where
    pub line : List ℕ
    pub gives : GivesNext now.intake new.intake line
    pub takes : TakesRead service now.hold.kept new.hold.kept (service.read now.number line) answer
    pub out : new.hold.out ≡ now.hold.out
    pub number : new.number ≡ now.number + 1

  line_taken : {Is : C → List L
      → Type 0} {first : Outside O} {now : Moment S L O} {answer : BatchEnd} (new : Moment S L O)
      → Progress (IsOpen service.division) first now → TakesOne now new answer
      → Is service.division.first new.hold.kept.pending → Progress Is first new
  line_taken {Is} {first} {now} new p t is = record {
    lines = p.lines ++ t.line ∷ [];
    given = given_more new.intake t.line p.given t.gives;
    count = omega (arith, p.count, t.number, length-append p.lines (t.line ∷ []));
    front = p.front;
    batches = p.batches;
    divides = p.divides;
    whole =
        read_lines-append service 1 p.lines (t.line ∷ [])
        ∙ ap (λ l. l ++ (option_to_list (service.read (1 + length p.lines) t.line) ++ [])) p.whole
        ∙ ap (λ n. (p.front ++ now.hold.kept.pending) ++ (option_to_list
        (service.read n t.line) ++ [])) (sym p.count)
        ∙ ap (λ l. (p.front ++ now.hold.kept.pending) ++ l)
        (append-nil (option_to_list (service.read now.number t.line)))
        ∙ append_assoc p.front now.hold.kept.pending _
        ∙ ap (λ (k : BetweenLines S L). p.front ++ k.pending) (sym t.takes.kept);
    pending = is;
    replies = p.replies;
    shown = λ some. subst delivery.shows (sym t.out) (p.shown some);
    run = subst (Runs service.answers service.after service.start p.batches p.replies)
        (ap (λ (k : BetweenLines S L). k.stands) (sym t.takes.kept)) p.run;
    delivered = subst (λ o. delivery.takes first.out o p.replies) (sym t.out) p.delivered;
  }

  -- the open batch goes on where nothing was read that ends it
  goes_on : (kept : BetweenLines S L) (read : Option L) → HasOpenBatch service kept
      → (EndsBatch service kept read → ⊥)
      → IsOpen service.division service.division.first (kept.pending ++ option_to_list read)
  goes_on kept None is none =
      subst (IsOpen service.division service.division.first) (sym (append-nil kept.pending)) is
  goes_on kept (Some item) is none =
      let d = service.division in
      open_more d d.first kept.pending item is
      (not_true (d.ends (count_behind d d.first kept.pending) item) none)

  -- and is whole with an item that does
  comes_to_its_end : (kept : BetweenLines S L) (read : Option L) → HasOpenBatch service kept
      → EndsBatch service kept read
      → IsBatch service.division service.division.first (kept.pending ++ option_to_list read)
  comes_to_its_end kept None is ends = absurd ends
  comes_to_its_end kept (Some item) is ends =
      batch_more service.division service.division.first kept.pending item is ends

  -- the open batch goes on
  pub line_more : {first : Outside O} {now : Moment S L O} (new : Moment S L O)
      → Progress (IsOpen service.division) first now
      → TakesOne now new batch_end.Later → Progress (IsOpen service.division) first new
  line_more {first} {now} new p t =
      line_taken new p t
      (subst (λ (k : BetweenLines S L). IsOpen service.division service.division.first k.pending)
      (sym t.takes.kept)
      (goes_on now.hold.kept (service.read now.number t.line) p.pending (λ ends. let e =
      t.takes.here.1 ends in cc)))

  -- the line ended it
  pub line_ends : {first : Outside O} {now : Moment S L O} (new : Moment S L O)
      → Progress (IsOpen service.division) first now
      → TakesOne now new batch_end.Here → Progress (IsBatch service.division) first new
  line_ends {first} {now} new p t =
      line_taken new p t
      (subst (λ (k : BetweenLines S L). IsBatch service.division service.division.first k.pending)
      (sym t.takes.kept)
      (comes_to_its_end now.hold.kept (service.read now.number t.line) p.pending
      (t.takes.here.0 refl)))

  -- a batch that ended was answered, and its replies delivered
  pub batch_run : {first : Outside O} {now : Moment S L O} (new : Hold S L O) → IsLawful delivery
      → Progress (IsBatch service.division) first now → Finishes service delivery now.hold new
      → Progress (IsOpen service.division) first (record now { hold = new })
  batch_run {first} {now} new lawful p f =
      let empty : new.kept.pending ≡ [] = ap (λ (k : BetweenLines S L). k.pending) f.runs.kept in
      record {
        lines = p.lines;
        given = p.given;
        count = p.count;
        front = p.front ++ now.hold.kept.pending;
        batches = p.batches ++ now.hold.kept.pending ∷ [];
        divides = divides_more service.division p.front now.hold.kept.pending p.batches p.divides
            p.pending;
        whole = p.whole ∙ sym (append-nil _)
            ∙ ap (λ l. (p.front ++ now.hold.kept.pending) ++ l) (sym empty);
        pending = subst (IsOpen service.division service.division.first) (sym empty) tt;
        replies = p.replies ++ f.replies;
        shown = shown_more p.replies f.replies p.shown f.keeps f.shows;
        run =
            subst (Runs service.answers service.after service.start
            (p.batches ++ now.hold.kept.pending ∷ []) (p.replies ++ f.replies))
            (ap (λ (k : BetweenLines S L). k.stands) (sym f.runs.kept))
            (Runs-more service.answers service.after now.hold.kept.pending f.replies p.batches
            service.start now.hold.kept.stands p.replies p.run f.runs.answers);
        delivered = lawful.more first.out now.hold.out new.out p.replies f.replies (
          p.delivered,
          f.takes,
        );
      }

  -- at the beginning
  pub progress_none : (now : Moment S L O) → IsLawful delivery
      → now.intake.reader ≡ record { held = []; taken = 0; ended = false; finished = None }
      → now.hold.kept ≡ record { stands = service.start; pending = [] } → now.number ≡ 1
      → Progress (IsOpen service.division) (record {
        source = now.intake.source;
        out = now.hold.out;
      }) now
  progress_none now lawful fresh empty one = record {
    lines = [];
    given = given_none now.intake (ap (λ (r : ReaderState). r.held) fresh)
        (ap (λ (r : ReaderState). r.ended) fresh);
    count = one;
    front = [];
    batches = [];
    divides = divides_none service.division;
    whole = ap (λ (k : BetweenLines S L). k.pending) (sym empty);
    pending = subst
        (λ (k : BetweenLines S L). IsOpen service.division service.division.first k.pending)
        (sym empty) tt;
    replies = [];
    shown = λ some. absurd (some refl);
    run = (refl, ap (λ (k : BetweenLines S L). k.stands) empty);
    delivered = lawful.nothing now.hold.out;
  }
