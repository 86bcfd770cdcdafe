-- How a run ends: from the invariant to what was answered of the input.
--
-- `Ahead` says which batches stand at the front of the lines so far and of those to come: the
-- answered ones, and perhaps the one at hand. Each `ends_` lemma is one ending: nothing open at the
-- end of input, an open batch that is answered there, a source that fails or gives too much, and
-- replies that weren't had or delivered.
use Rattle.std.proofs.Common.{◌≡◌, ◌≢◌, ℕ, ◌+◌, List, [], ◌∷◌, ◌++◌, Bool, IsTrue, None, Some, length, refl, sym, ap, ◌∙◌, subst, append_assoc, append-nil, inl, inr, IfSome}
use Rattle.std.specs.declared.option.Option.{Option}
use Rattle.server_shell.specs.Runs.{Runs}
use Rattle.server_shell.specs.Batching.{IsOpen, IsBatch, batches_of, whole_batches_of}
use Rattle.server_shell.specs.Service.{Service, read_lines, batches_in, whole_batches_in}
use Rattle.server_shell.specs.Delivery.{Delivery, IsLawful}
use Rattle.server_shell.specs.Served.{Outside, ServesAll, ServesWhole, ServesFront, AreTaken}
use Rattle.server_shell.specs.code.Turning.{Hold, Finishes}
use Rattle.server_shell.proofs.Divisions.{all_batch, all_open, none_open, whole_batch, whole_open}
use Rattle.server_shell.proofs.LinesSoFar.{ReadsAll, ReadsWhole, ReadsFront}
use Rattle.server_shell.proofs.Runs.{Runs-more, read_lines-append}
use Rattle.server_shell.proofs.Progress.{Moment, Progress, shown_more}

if_some : {A : Type 0} {P Q : A → Type 0} (o : Option A) → ((x : A) → P x → Q x) → IfSome o P
    → IfSome o Q
if_some None f h = tt
if_some (Some x) f h = f x h

module _ {S C L R O : Type 0} (service : Service S C L R) (delivery : Delivery O R)
    (lawful : IsLawful delivery) where
  -- ---- which batches the lines have

  module _ {Is : C → List L → Type 0} {first : Outside O} {now : Moment S L O}
      (p : Progress service delivery Is first now) where
    -- whatever lines stand behind them
    whole_then : (more : List (List ℕ)) → whole_batches_in service (p.lines ++ more)
        ≡ p.batches ++ whole_batches_of service.division service.division.first
        (now.hold.kept.pending ++ read_lines service (1 + length p.lines) more)
    whole_then more =
        ap (whole_batches_of service.division service.division.first)
        (read_lines-append service 1 p.lines more
        ∙ ap (λ l. l ++ read_lines service (1 + length p.lines) more) p.whole
        ∙ append_assoc p.front now.hold.kept.pending _)
        ∙ p.divides.whole _

    whole_now : whole_batches_in service p.lines ≡ p.batches ++ whole_batches_of service.division
        service.division.first now.hold.kept.pending
    whole_now = ap (whole_batches_of service.division service.division.first) p.whole
        ∙ p.divides.whole now.hold.kept.pending

    all_now : batches_in service p.lines ≡ p.batches ++ batches_of service.division
        service.division.first now.hold.kept.pending
    all_now = ap (batches_of service.division service.division.first) p.whole
        ∙ p.divides.all now.hold.kept.pending

    -- these batches stand at the front of the open one and of what stands behind it
    pub record Ahead (bs : List (List L)) : Type 0 where
      pub whole : (rest : List L) → (more : List (List L))
          × (whole_batches_of service.division service.division.first
          (now.hold.kept.pending ++ rest) ≡ bs ++ more)
      pub all : (more : List (List L))
          × (batches_of service.division service.division.first now.hold.kept.pending ≡ bs ++ more)

    none_ahead : Ahead []
    none_ahead = record { whole = λ rest. (_, refl); all = (_, refl) }

    taken_ahead : {xs : List ℕ} {left : Option (List ℕ)} {ended : Bool} (bs : List (List L))
        → Ahead bs → (r : ReadsFront xs left ended p.lines)
        → AreTaken service delivery (p.batches ++ bs) r.taken r.rest ended
    taken_ahead bs ahead r =
        elim r.lines [
          | inl (more, e) ↦
              let (others, w) = ahead.whole (read_lines service (1 + length p.lines) more) in
              inl (
                others,
                ap (whole_batches_in service) e ∙ whole_then more
                    ∙ ap (λ l. p.batches ++ l) w ∙ sym (append_assoc p.batches bs others),
              )
          | inr (e, none, ended) ↦
              let (others, a) = ahead.all in
              inr (
                others,
                ap (batches_in service) e ∙ all_now ∙ ap (λ l. p.batches ++ l) a
                    ∙ sym (append_assoc p.batches bs others),
                none,
                ended,
              )
        ]

    -- ---- nothing more was delivered

    begun : (new : O) → new ≡ now.hold.out → delivery.begins first.out new p.replies
    begun new same =
        subst (λ o. delivery.begins first.out o p.replies) (sym same)
        (subst (delivery.begins first.out now.hold.out) (append-nil p.replies)
        (lawful.part first.out now.hold.out now.hold.out p.replies [] (
          p.delivered,
          lawful.none now.hold.out [],
        )))

    pub ends_front : (new : Outside O) → new.out ≡ now.hold.out
        → IfSome first.source.left (λ xs. ReadsFront xs new.source.left new.source.ended p.lines)
        → IfSome first.source.left (ServesFront service delivery first new)
    ends_front new same reads =
        if_some first.source.left (λ xs r. record {
          taken = r.taken;
          rest = r.rest;
          left = r.left;
          cut = r.cut;
          batches = p.batches;
          front = subst (λ bs. AreTaken service delivery bs r.taken r.rest new.source.ended)
              (append-nil p.batches) (taken_ahead [] none_ahead r);
          replies = p.replies;
          answers = (now.hold.kept.stands, p.run);
          delivered = begun new.out same;
        }) reads

    -- ---- a front of the replies of the batch at hand was delivered

    pub record Partly (out : O) : Type 0 where
      pub replies : List R
      pub answers : service.answers now.hold.kept.stands now.hold.kept.pending replies
      pub begins : delivery.begins now.hold.out out replies

    pub ends_partly : (new : Outside O) → Ahead (now.hold.kept.pending ∷ []) → Partly new.out
        → IfSome first.source.left (λ xs. ReadsFront xs new.source.left new.source.ended p.lines)
        → IfSome first.source.left (ServesFront service delivery first new)
    ends_partly new ahead part reads =
        if_some first.source.left (λ xs r. record {
          taken = r.taken;
          rest = r.rest;
          left = r.left;
          cut = r.cut;
          batches = p.batches ++ now.hold.kept.pending ∷ [];
          front = taken_ahead (now.hold.kept.pending ∷ []) ahead r;
          replies = p.replies ++ part.replies;
          answers = (
            service.after now.hold.kept.stands now.hold.kept.pending part.replies,
            Runs-more service.answers service.after now.hold.kept.pending part.replies p.batches
                service.start now.hold.kept.stands p.replies p.run part.answers,
          );
          delivered = lawful.part first.out now.hold.out new.out p.replies part.replies
              (p.delivered, part.begins);
        }) reads

  module _ {first : Outside O} {now : Moment S L O} where
    -- a batch that its last line ended stands ahead
    pub batch_ahead : (p : Progress service delivery (IsBatch service.division) first now)
        → Ahead p (now.hold.kept.pending ∷ [])
    batch_ahead p = record {
      whole = λ rest. (
        _,
        whole_batch service.division service.division.first now.hold.kept.pending rest p.pending,
      );
      all = (
        _,
        ap (batches_of service.division service.division.first)
            (sym (append-nil now.hold.kept.pending))
            ∙ all_batch service.division service.division.first now.hold.kept.pending [] p.pending,
      );
    }

    module _ (p : Progress service delivery (IsOpen service.division) first now) where
      open_is_one : (xs : List L) → IsOpen service.division service.division.first xs → xs ≢ []
          → batches_of service.division service.division.first xs ≡ xs ∷ []
      open_is_one [] is some = absurd (some refl)
      open_is_one (x ∷ xs) is some = all_open service.division service.division.first x xs is

      -- the batches of all lines, where nothing is open
      all_closed : now.hold.kept.pending ≡ [] → batches_in service p.lines ≡ p.batches
      all_closed none =
          all_now p ∙ ap (λ l. p.batches ++ batches_of service.division service.division.first l)
          none
          ∙ ap (λ l. p.batches ++ l) (none_open service.division service.division.first)
          ∙ append-nil p.batches

      -- and where a batch is
      all_last : now.hold.kept.pending ≢ []
          → batches_in service p.lines ≡ p.batches ++ now.hold.kept.pending ∷ []
      all_last some = all_now p
          ∙ ap (λ l. p.batches ++ l) (open_is_one now.hold.kept.pending p.pending some)

      -- ---- the end of input

      pub ends_all : (new : Outside O) → now.hold.kept.pending ≡ [] → new.out ≡ now.hold.out
          → IfSome first.source.left (λ xs. ReadsAll xs new.source.left p.lines)
          → IfSome first.source.left (ServesAll service delivery first new)
      ends_all new none same reads =
          if_some first.source.left (λ xs r. record {
            left = r.left;
            replies = p.replies;
            answers = (
              now.hold.kept.stands,
              subst (λ bs. Runs service.answers service.after service.start bs p.replies
                  now.hold.kept.stands) (sym (ap (batches_in service) r.lines
                  ∙ all_closed none)) p.run,
            );
            delivered = subst (λ o. delivery.takes first.out o p.replies) (sym same) p.delivered;
            shown = λ some. subst delivery.shows (sym same) (p.shown some);
          }) reads

      -- the open batch is answered there
      pub ends_last : (new : Outside O) (after : Hold S L O) → now.hold.kept.pending ≢ []
          → Finishes service delivery now.hold after → new.out ≡ after.out
          → IfSome first.source.left (λ xs. ReadsAll xs new.source.left p.lines)
          → IfSome first.source.left (ServesAll service delivery first new)
      ends_last new after some f same reads =
          if_some first.source.left (λ xs r. record {
            left = r.left;
            replies = p.replies ++ f.replies;
            answers = (
              service.after now.hold.kept.stands now.hold.kept.pending f.replies,
              subst (λ bs. Runs service.answers service.after service.start bs
                  (p.replies ++ f.replies)
                  (service.after now.hold.kept.stands now.hold.kept.pending f.replies))
                  (sym (ap (batches_in service) r.lines ∙ all_last some))
                  (Runs-more service.answers service.after now.hold.kept.pending f.replies p.batches
                  service.start now.hold.kept.stands p.replies p.run f.runs.answers),
            );
            delivered = subst (λ o. delivery.takes first.out o (p.replies ++ f.replies)) (sym same)
                (lawful.more first.out now.hold.out after.out p.replies f.replies (
                  p.delivered,
                  f.takes,
                ));
            shown = λ some. subst delivery.shows (sym same)
                (shown_more p.replies f.replies p.shown f.keeps f.shows some);
          }) reads

      -- or a front of its replies is delivered
      pub ends_last_partly : (new : Outside O) → now.hold.kept.pending ≢ [] → Partly p new.out
          → IsTrue new.source.ended
          → IfSome first.source.left (λ xs. ReadsAll xs new.source.left p.lines)
          → IfSome first.source.left (ServesFront service delivery first new)
      ends_last_partly new some part ended reads =
          if_some first.source.left (λ xs r. record {
            taken = xs;
            rest = [];
            left = r.left;
            cut = sym (append-nil xs);
            batches = p.batches ++ now.hold.kept.pending ∷ [];
            front = inr (
              [],
              ap (batches_in service) r.lines ∙ all_last some ∙ sym (append-nil _),
              refl,
              ended,
            );
            replies = p.replies ++ part.replies;
            answers = (
              service.after now.hold.kept.stands now.hold.kept.pending part.replies,
              Runs-more service.answers service.after now.hold.kept.pending part.replies p.batches
                  service.start now.hold.kept.stands p.replies p.run part.answers,
            );
            delivered = lawful.part first.out now.hold.out new.out p.replies part.replies
                (p.delivered, part.begins);
          }) reads

      -- ---- a source that fails or gives too much

      pub ends_whole : (new : Outside O) → new.out ≡ now.hold.out
          → IfSome first.source.left (λ xs. ReadsWhole xs new.source.left p.lines)
          → IfSome first.source.left (ServesWhole service delivery first new)
      ends_whole new same reads =
          if_some first.source.left (λ xs r. record {
            taken = r.taken;
            rest = r.rest;
            left = r.left;
            cut = r.cut;
            replies = p.replies;
            answers = (
              now.hold.kept.stands,
              subst (λ bs. Runs service.answers service.after service.start bs p.replies
                  now.hold.kept.stands)
                  (sym (ap (whole_batches_in service) r.lines ∙ whole_now p
                  ∙ ap (λ l. p.batches ++ l)
                  (whole_open service.division service.division.first now.hold.kept.pending
                  p.pending) ∙ append-nil p.batches)) p.run,
            );
            delivered = subst (λ o. delivery.takes first.out o p.replies) (sym same) p.delivered;
            shown = λ some. subst delivery.shows (sym same) (p.shown some);
          }) reads
