-- What follows for the answer of a reader of lines from the line that was gathered, or from how it
-- stopped.
use Rattle.std.proofs.Common.{◌≡◌, ◌≢◌, ℕ, ◌<◌, ◌≤◌, List, None, Some, IsSome, length, refl, subst, sym, arith}
use Rattle.std.specs.declared.option.Option.{Option}
use Rattle.std.specs.Io.KnownBytes.{IsAtEnd}
use Rattle.vg_io.specs.declared.limits.TheConstants.{LINE_LIMIT}
use Rattle.vg_io.specs.declared.lines.Finish.{Finish}
use Rattle.vg_io.specs.declared.lines.Finish.TheVariants as finish
use Rattle.vg_io.specs.declared.lines.Next.{Next}
use Rattle.vg_io.specs.declared.lines.Next.TheVariants as next
use Rattle.vg_io.specs.Sources.{ToldSource}
use Rattle.vg_io.specs.Lines.{BeginsLong}
use Rattle.vg_io.specs.Reader.{IfLine, IsUnfinished, ReaderState, Intake, reading_from, GivesNext, AnswersLine, finish_of, to_come}
use Rattle.vg_io.proofs.Reading.{GivesLine-long, GivesLine-not_empty, IsAtEnd-not_long}

-- the answer is this line, or that it is past the limit
pub record Tells (line : List ℕ) (result : Next) : Type 0 where
  pub short : IfLine result (λ v. (v ≡ line) × (length v ≤ LINE_LIMIT))
  pub long : result ≡ next.Long → LINE_LIMIT < length line
  pub stays : finish_of result ≡ None

module _ (old new : Intake) (line : List ℕ) where
  -- the line that was gathered is the next one
  gives : (result : Next) → GivesNext old new line
      → IfLine result (λ v. (v ≡ line) × (length v ≤ LINE_LIMIT))
      → IfLine result (λ v. (length v ≤ LINE_LIMIT) × GivesNext old new v)
  gives (next.Line v) g h = (h.1, subst (λ l. GivesNext old new l) (sym h.0) g)
  gives next.Long g h = tt
  gives next.End g h = tt
  gives next.ReadFault g h = tt
  gives next.InputOver g h = tt
  gives next.Memory g h = tt

  gives-not_long : (result : Next) → GivesNext old new line → Tells line result
      → BeginsLong LINE_LIMIT (to_come old) → IfLine result (λ _. ⊥) × (result ≡ next.End → ⊥)
  gives-not_long (next.Line v) g h long = (
    let over = GivesLine-long LINE_LIMIT _ _ _ v.items
        (subst (λ l. GivesNext old new l) (sym h.short.0) g, long) in
        let short = h.short.1 in absurd (omega arith),
    λ e. cc,
  )
  gives-not_long next.Long g h long = (tt, λ e. cc)
  gives-not_long next.End g h long = let stays = h.stays in absurd (cc)
  gives-not_long next.ReadFault g h long = (tt, λ e. cc)
  gives-not_long next.InputOver g h long = (tt, λ e. cc)
  gives-not_long next.Memory g h long = (tt, λ e. cc)

  pub AnswersLine-told : (result : Next) → GivesNext old new line → Tells line result
      → AnswersLine old new result
  AnswersLine-told result g h = record {
    line = gives result g h.short;
    long = λ e. (line, h.long e, g);
    long_only = λ is_open long. gives-not_long result g h long;
    none_only = λ unfinished none. absurd (GivesLine-not_empty _ _ _ _ g none);
  }

-- the reader is seen by its view
pub AnswersLine-viewed : {view reader : ReaderState} (source : ToldSource) (new : Intake)
    (result : Next) → view ≡ reader → AnswersLine (reading_from view source) new result
    → AnswersLine (reading_from reader source) new result
AnswersLine-viewed source new result same h =
    subst (λ (r : ReaderState). AnswersLine (reading_from r source) new result) same h

stop-no_line : (P : List ℕ → Type 0) (stop : Finish) (result : Next) → finish_of result ≡ Some stop
    → IfLine result P
stop-no_line P stop (next.Line v) f = absurd (cc)
stop-no_line P stop next.Long f = tt
stop-no_line P stop next.End f = tt
stop-no_line P stop next.ReadFault f = tt
stop-no_line P stop next.InputOver f = tt
stop-no_line P stop next.Memory f = tt

stop-not_long : (stop : Finish) (result : Next) → finish_of result ≡ Some stop → result ≡ next.Long
    → ⊥
stop-not_long stop (next.Line v) f e = absurd (cc)
stop-not_long stop next.Long f e = absurd (cc)
stop-not_long stop next.End f e = absurd (cc)
stop-not_long stop next.ReadFault f e = absurd (cc)
stop-not_long stop next.InputOver f e = absurd (cc)
stop-not_long stop next.Memory f e = absurd (cc)

-- where a line past the limit is to come, the stop is no end
stop-no_end : (a : Option (List ℕ)) (stop : Finish) (result : Next) → finish_of result ≡ Some stop
    → (stop ≡ finish.End → IsAtEnd a) × BeginsLong LINE_LIMIT a → result ≢ next.End
stop-no_end a stop (next.Line v) f both e = absurd (cc)
stop-no_end a stop next.Long f both e = absurd (cc)
stop-no_end a stop next.End f (end, long) e =
    let same : stop ≡ finish.End = cc in absurd (IsAtEnd-not_long LINE_LIMIT a (end same) long)
stop-no_end a stop next.ReadFault f both e = absurd (cc)
stop-no_end a stop next.InputOver f both e = absurd (cc)
stop-no_end a stop next.Memory f both e = absurd (cc)

-- a stop gives no line, and the end isn't met where a line is to come
pub AnswersLine-stopped : (old new : Intake) (stop : Finish) (result : Next)
    → finish_of result ≡ Some stop → (IsUnfinished old.reader → stop ≡ finish.End
    → IsAtEnd (to_come old)) → AnswersLine old new result
AnswersLine-stopped old new stop result f end = record {
  line = stop-no_line _ stop result f;
  long = λ e. absurd (stop-not_long stop result f e);
  long_only = λ is_open long. (
    stop-no_line _ stop result f,
    stop-no_end _ stop result f (end is_open, long),
  );
  none_only = λ unfinished none. subst (λ o. IsSome o) (sym f) refl;
}
