-- What the reader's answers say of the source, over a whole run.
--
-- `SourceSoFar` holds of each moment of the loop and after each answer (`so_far_next`); `Cause`
-- says what ended the run, and `stopped` makes of both what a run promises of its source.
use Rattle.std.proofs.Common.{◌≡◌, ◌≢◌, ℕ, ◌+◌, ◌<◌, ◌≤◌, [], Bool, true, false, IsTrue, None, Some, IsSome, is_some, ◌⊎◌, inl, inr, refl, sym, ap, ◌∙◌, subst, arith, IfSome, if◌then◌else◌}
use Rattle.std.specs.declared.option.Option.{Option}
use Rattle.std.proofs.KnownBytes.{Consumes-nil}
use Rattle.vg_io.specs.declared.limits.TheConstants.{INPUT_LIMIT}
use Rattle.vg_io.specs.declared.lines.Next.{Next}
use Rattle.vg_io.specs.declared.lines.Next.TheVariants as next
use Rattle.vg_io.specs.Faults.{faults_after}
use Rattle.vg_io.specs.Lines.{TakesBytes}
use Rattle.vg_io.specs.Sources.{ToldSource}
use Rattle.vg_io.specs.Reader.{Intake, ReaderState, finish_of, most_reads, answers_read_fault, AnswersLine, AnswersEnd, AnswersStop, CountsBytes, Stays}
use Rattle.server_shell.specs.declared.outcome.Status.{Status}
use Rattle.server_shell.specs.declared.outcome.Status.TheVariants as status
use Rattle.server_shell.specs.Served.{TakesOver, TakesAtMost, is_read_fault}
use Rattle.server_shell.specs.declared.run.Stop.TheVariants as halt
use Rattle.server_shell.specs.code.Turning.{StopsBy}
use Rattle.server_shell.proofs.Counts.{takes_more, over_from, over_is, at_most_from}

-- why the run ends at an answer that is no line, or where a line couldn't be taken
abbrev pub StopsAt : Next → Status → Type 0
StopsAt next.End s = s ≡ status.Done
StopsAt next.ReadFault s = s ≡ status.ReadFault
StopsAt next.InputOver s = s ≡ status.InputOver
StopsAt next.Memory s = s ≡ status.Memory
StopsAt next.Long s = s ≡ status.Memory
StopsAt (next.Line v) s = s ≡ status.Memory

-- what the reader said, in one record
pub record ReaderAnswered (old new : Intake) (given : Next) : Type 0 where
  pub line : AnswersLine old new given
  pub end : AnswersEnd old new given
  pub stop : AnswersStop old new given
  pub counts : CountsBytes old new given
  pub stays : Stays old.reader new.reader given

pub record SourceSoFar (first : ToldSource) (now : Intake) : Type 0 where
  pub ended_source : IsTrue now.reader.ended → IsTrue now.source.ended
  pub source_ended : IsTrue now.source.ended → IsTrue first.ended ⊎ IsTrue now.reader.ended
  pub takes : TakesBytes first.left now.source.left 0 now.reader.taken
  pub small : now.reader.taken ≤ INPUT_LIMIT + 1
  pub reads : now.source.reads ≤ first.reads + most_reads now.reader

true_or_false : (b : Bool) → (b ≡ true) ⊎ (b ≡ false)
true_or_false true = inl refl
true_or_false false = inr refl

end_is_some : IsSome (finish_of next.End)
end_is_some = refl

-- an end that was met stays
pub still_ended : {old new : Intake} {given : Next} → ReaderAnswered old new given
    → IsTrue old.reader.ended → IsTrue new.reader.ended
still_ended {old} {new} {given} a was =
    let is : given ≡ next.End = a.end.stays was in
    (a.end.answer (subst (λ n. IsSome (finish_of n)) (sym is) end_is_some)).1 is

pub so_far_next : {first : ToldSource} {old : Intake} {given : Next} (new : Intake)
    → SourceSoFar first old → ReaderAnswered old new given → SourceSoFar first new
so_far_next {first} {old} {given} new r a = record {
  ended_source = λ ended. elim (true_or_false old.reader.ended) [
    | inl was ↦ a.end.together.1 (inl (r.ended_source was))
    | inr going ↦ a.end.together.1 (inr (going, ended))
  ];
  source_ended = λ ended. elim (a.end.together.0 ended) [
    | inl before ↦ elim (r.source_ended before) [
      | inl at_first ↦ inl at_first
      | inr reader ↦ inr
          (still_ended a reader)
    ]
    | inr met ↦ inr met.1
  ];
  takes = takes_more first.left old.source.left new.source.left 0 old.reader.taken new.reader.taken
      r.takes a.counts.bytes;
  small = a.counts.taken;
  reads = omega (arith, r.reads, a.counts.reads);
}

by_none : {A : Type 0} {B : Type 0} (o : Option A) (x y : B) → o ≡ None
    → (if is_some o then x else y) ≡ y
by_none None x y e = refl
by_none (Some z) x y e = cc

-- a fault is counted where it is answered
pub faults_next : {old : Intake} {given : Next} (new : Intake) → old.reader.finished ≡ None
    → ReaderAnswered old new given
    → new.source.faults ≡ faults_after (answers_read_fault given) old.source.faults
faults_next {old} {given} new going a = a.stop.faults
    ∙ by_none old.reader.finished old.source.faults
    (faults_after (answers_read_fault given) old.source.faults) going

-- a moment of the loop, at which the reader has no answer that stays and no fault was counted
pub record Steady (first : ToldSource) (now : Intake) : Type 0 where
  pub going : now.reader.finished ≡ None
  pub so_far : SourceSoFar first now
  pub faults : now.source.faults ≡ first.faults

-- a fault is counted from the beginning on
pub counted_next : {first : ToldSource} {old : Intake} {given : Next} → Steady first old
    → (new : Intake) → ReaderAnswered old new given
    → new.source.faults ≡ faults_after (answers_read_fault given) first.faults
counted_next {first} {old} {given} steady new a = faults_next new steady.going a
    ∙ ap (faults_after (answers_read_fault given)) steady.faults

no_fault : (given : Next) → finish_of given ≡ None → answers_read_fault given ≡ false
no_fault (next.Line v) e = refl
no_fault next.Long e = refl
no_fault next.End e = refl
no_fault next.InputOver e = refl
no_fault next.Memory e = refl
no_fault next.ReadFault e = cc

-- a line leaves the loop going
pub steady_next : {first : ToldSource} {old : Intake} {given : Next} (new : Intake)
    → Steady first old → ReaderAnswered old new given → finish_of given ≡ None → Steady first new
steady_next {first} {old} {given} new steady a line = record {
  going = a.stays.finished ∙ line;
  so_far = so_far_next new steady.so_far a;
  faults = counted_next steady new a ∙ ap (λ b. faults_after b first.faults) (no_fault given line);
}

-- what ended the run
pub record Cause (faults : ℕ) (new : Intake) (ending : Status) : Type 0 where
  pub counted : new.source.faults ≡ faults_after (is_read_fault ending) faults
  pub over : ending ≡ status.InputOver → INPUT_LIMIT < new.reader.taken
  pub over_only : INPUT_LIMIT < new.reader.taken → (ending ≢ status.Done)
      × (ending ≢ status.ReadFault) × (ending ≢ status.Usage)
  pub ended : ending ≡ status.Done → IsTrue new.reader.ended
  pub not_ended : (ending ≡ status.ReadFault) ⊎ (ending ≡ status.InputOver)
      → new.reader.ended ≡ false

-- replies that weren't had or delivered
abbrev pub LosesReplies : Status → Type 0
LosesReplies ending = (ending ≡ status.WriteFault) ⊎ (ending ≡ status.Memory)

pub cause_cut : {faults : ℕ} {new : Intake} (ending : Status) → new.source.faults ≡ faults
    → LosesReplies ending → Cause faults new ending
cause_cut status.WriteFault same is = record {
  counted = same;
  over = λ e. cc;
  over_only = λ o. (λ e. cc, λ e. cc, λ e. cc);
  ended = λ e. cc;
  not_ended = λ e. elim e [ inl f ↦ cc | inr f ↦ cc ];
}
cause_cut status.Memory same is = record {
  counted = same;
  over = λ e. cc;
  over_only = λ o. (λ e. cc, λ e. cc, λ e. cc);
  ended = λ e. cc;
  not_ended = λ e. elim e [ inl f ↦ cc | inr f ↦ cc ];
}
cause_cut status.Done same is = absurd (elim is [ inl f ↦ cc | inr f ↦ cc ])
cause_cut status.Usage same is = absurd (elim is [ inl f ↦ cc | inr f ↦ cc ])
cause_cut status.ReadFault same is = absurd (elim is [ inl f ↦ cc | inr f ↦ cc ])
cause_cut status.InputOver same is = absurd (elim is [ inl f ↦ cc | inr f ↦ cc ])

-- what an answer that stays says of the end
told_end : {old new : Intake} {given : Next} → ReaderAnswered old new given
    → IsSome (finish_of given) → given ≢ next.End → new.reader.ended ≡ false
told_end {old} {new} {given} a stays other =
    elim (true_or_false new.reader.ended) [
      | inl is ↦ absurd
          (other ((a.end.answer stays).0 is))
      | inr going ↦ going
    ]

pub cause_stop : {faults : ℕ} {old new : Intake} (given : Next) (ending : Status)
    → ReaderAnswered old new given
    → new.source.faults ≡ faults_after (answers_read_fault given) faults → StopsAt given ending
    → Cause faults new ending
cause_stop {faults} {old} {new} (next.Line v) ending a counted stops =
    subst (Cause faults new) (sym stops) (cause_cut status.Memory counted (inr refl))
cause_stop {faults} {old} {new} next.Long ending a counted stops =
    subst (Cause faults new) (sym stops) (cause_cut status.Memory counted (inr refl))
cause_stop {faults} {old} {new} next.Memory ending a counted stops =
    subst (Cause faults new) (sym stops) (cause_cut status.Memory counted (inr refl))
cause_stop {faults} {old} {new} next.End ending a counted stops =
    subst (Cause faults new) (sym stops) (record {
      counted = counted;
      over = λ e. cc;
      over_only = λ over. (λ e. (a.stop.over_only over).0 refl, λ e. cc, λ e. cc);
      ended = λ e. (a.end.answer refl).1 refl;
      not_ended = λ e. elim e [ inl f ↦ cc | inr f ↦ cc ];
    })
cause_stop {faults} {old} {new} next.ReadFault ending a counted stops =
    subst (Cause faults new) (sym stops) (record {
      counted = counted;
      over = λ e. cc;
      over_only = λ over. (λ e. cc, λ e. (a.stop.over_only over).1 refl, λ e. cc);
      ended = λ e. cc;
      not_ended = λ e. told_end a refl (λ f. cc);
    })
cause_stop {faults} {old} {new} next.InputOver ending a counted stops =
    subst (Cause faults new) (sym stops) (record {
      counted = counted;
      over = λ e. a.stop.over refl;
      over_only = λ over. (λ e. cc, λ e. cc, λ e. cc);
      ended = λ e. cc;
      not_ended = λ e. told_end a refl (λ f. cc);
    })

-- what a run promises of its source
pub record Stopped (first new : ToldSource) (ending : Status) : Type 0 where
  pub faults : new.faults ≡ faults_after (is_read_fault ending) first.faults
  pub over : ending ≡ status.InputOver → IfSome first.left (λ _. TakesOver first.left new.left)
  pub over_only : TakesOver first.left new.left → (ending ≢ status.Done)
      × (ending ≢ status.ReadFault) × (ending ≢ status.Usage)
  pub ended : ending ≡ status.Done → IsTrue new.ended
  pub not_ended : (ending ≡ status.ReadFault) ⊎ (ending ≡ status.InputOver) → IsTrue new.ended
      → IsTrue first.ended
  pub bound : TakesAtMost first.left new.left
  pub reads : new.reads ≤ first.reads + 1073741826

few_reads : (taken n : ℕ) (b : Bool) → taken ≤ INPUT_LIMIT + 1 → n ≡ taken + (if b then 1 else 0)
    → n ≤ 1073741826
few_reads taken n true small is = omega (arith, small, is)
few_reads taken n false small is = omega (arith, small, is)

pub stopped : {first : ToldSource} {ending : Status} (new : Intake) → SourceSoFar first new
    → Cause first.faults new ending → Stopped first new.source ending
stopped {first} {ending} new r cause = record {
  faults = cause.counted;
  over = λ e. over_from first.left new.source.left new.reader.taken r.takes (cause.over e);
  over_only = λ over. cause.over_only
      (over_is first.left new.source.left new.reader.taken r.takes over);
  ended = λ e. r.ended_source (cause.ended e);
  not_ended = λ e ended. elim (r.source_ended ended) [
    | inl at_first ↦ at_first
    | inr reader ↦ absurd (let going = cause.not_ended e in cc)
  ];
  bound = at_most_from first.left new.source.left new.reader.taken r.takes r.small;
  reads = omega (arith, r.reads, few_reads new.reader.taken (most_reads new.reader) _ r.small refl);
}

-- at the beginning
pub so_far_none : (now : Intake) → now.reader ≡ record {
  held = [];
  taken = 0;
  ended = false;
  finished = None;
} → SourceSoFar now.source now
so_far_none now fresh = record {
  ended_source = λ ended. absurd (let going = ap (λ (r : ReaderState). r.ended) fresh in cc);
  source_ended = λ ended. inl ended;
  takes = ([], Consumes-nil now.source.left, sym (ap (λ (r : ReaderState). r.taken) fresh));
  small = omega (arith, ap (λ (r : ReaderState). r.taken) fresh);
  reads = omega arith;
}

pub steady_none : (now : Intake) → now.reader ≡ record {
  held = [];
  taken = 0;
  ended = false;
  finished = None;
} → Steady now.source now
steady_none now fresh = record {
  going = ap (λ (r : ReaderState). r.finished) fresh;
  so_far = so_far_none now fresh;
  faults = refl;
}

-- the end of input stops it there, and nothing else does
pub stops_end : (given : Next) → StopsBy given halt.End → given ≡ next.End
stops_end next.End e = refl
stops_end (next.Line v) e = cc
stops_end next.Long e = cc
stops_end next.ReadFault e = cc
stops_end next.InputOver e = cc
stops_end next.Memory e = cc

now_is : (s t : Status) → halt.Now s ≡ halt.Now t → s ≡ t
now_is s t e = cc

other : (s t : Status) → s ≡ t → t ≢ status.Done → s ≢ status.Done
other s t e differs is = differs (sym e ∙ is)

pub stops_now : (given : Next) (s : Status) → StopsBy given (halt.Now s) → StopsAt given s
    × (s ≢ status.Done)
stops_now next.End s e = cc
stops_now next.ReadFault s e = (
  now_is s status.ReadFault e,
  other s status.ReadFault (now_is s status.ReadFault e) (λ f. cc),
)
stops_now next.InputOver s e = (
  now_is s status.InputOver e,
  other s status.InputOver (now_is s status.InputOver e) (λ f. cc),
)
stops_now next.Memory s e = (
  now_is s status.Memory e,
  other s status.Memory (now_is s status.Memory e) (λ f. cc),
)
stops_now next.Long s e = (
  now_is s status.Memory e,
  other s status.Memory (now_is s status.Memory e) (λ f. cc),
)
stops_now (next.Line v) s e = (
  now_is s status.Memory e,
  other s status.Memory (now_is s status.Memory e) (λ f. cc),
)

pub in_form : (given : Next) (s : Status) → StopsAt given s → s ≢ status.Usage
in_form next.End s e u = let h : status.Usage ≡ status.Done = sym u ∙ e in cc
in_form next.ReadFault s e u = let h : status.Usage ≡ status.ReadFault = sym u ∙ e in cc
in_form next.InputOver s e u = let h : status.Usage ≡ status.InputOver = sym u ∙ e in cc
in_form next.Memory s e u = let h : status.Usage ≡ status.Memory = sym u ∙ e in cc
in_form next.Long s e u = let h : status.Usage ≡ status.Memory = sym u ∙ e in cc
in_form (next.Line v) s e u = let h : status.Usage ≡ status.Memory = sym u ∙ e in cc
