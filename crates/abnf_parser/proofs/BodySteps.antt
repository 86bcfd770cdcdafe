-- A lexeme takes what may still come in a body to what may come behind it (`forward`), and nothing else goes on (`backward`).
use Rattle.std.proofs.Common.{List, [], ◌∷◌, ◌++◌, inl, inr, Option, Some, None, refl, sym, subst, ap, ◌∙◌}
use Rattle.abnf_lexer.specs.declared.lexemes.Spanned.{Spanned}
use Rattle.abnf_parser.specs.declared.lexeme.AngleForm.TheVariants as angle
use Rattle.abnf_parser.specs.declared.lexeme.Sign.{Sign}
use Rattle.abnf_parser.specs.declared.lexeme.Sign.TheVariants as sign
use Rattle.abnf_parser.specs.declared.lexeme.Lexeme.{Lexeme}
use Rattle.abnf_parser.specs.declared.lexeme.Lexeme.TheVariants as l
use Rattle.abnf_parser.specs.declared.written.Written.{Written}
use Rattle.abnf_parser.specs.declared.written.Written.TheVariants as w
use Rattle.abnf_parser.specs.declared.machine.stack.Frame.{Frame}
use Rattle.abnf_parser.specs.declared.machine.stack.Around.{Around}
use Rattle.abnf_parser.specs.declared.machine.stack.Around.TheVariants.{Round, Square}
use Rattle.abnf_parser.specs.declared.machine.stack.Outer.{Outer}
use Rattle.abnf_parser.specs.declared.machine.stack.Point.{Point}
use Rattle.abnf_parser.specs.declared.machine.stack.Point.TheVariants as p
use Rattle.abnf_parser.specs.declared.machine.stack.Body.{Body}
use Rattle.abnf_parser.specs.Expansions.{Others, Alternative, Items, Item, Ending, Atom, alternative, no_other, other, no_item, item, tag, atom, ending, turned, bare, quoted, name, uri_ref, empty, round, square, weight_spelled, ending_spelled, alternatives_spelled, others_spelled, alternative_spelled, items_spelled, item_spelled, atom_spelled, choice, others_meant, alternative_meant, items_meant, item_meant, atom_meant, ending_meant}
use Rattle.abnf_parser.specs.code.Bodies.{fresh, weighed, with_item, all_of, barred, opened, enclosed, closes, closed, ended, on_item, on_start, on_opened, on_items, on_atom, on_spoken, on_repeated, at_point, turn}
use Rattle.abnf_parser.proofs.Languages.{Rest, ItemsThen, ItemThen, AlternativeThen, EndingThen, RepeatThen, LanguageThen, closing, Whole, OpenedThen, PointThen, BodyThen, TurnThen, Steps, from_alternatives, to_alternatives}

module _ (End : Rest) where
  -- ---- an item

  atom_forward : (outer : List Outer) (f : Frame) (a : Atom) (ys : List Lexeme) → EndingThen (Whole End outer) f (atom_meant a) ys → Steps End (on_item outer f) (atom_spelled a ys)
  unfolding on_item atom_spelled atom_meant
  atom_forward outer f (bare word span) ys q = q
  atom_forward outer f (quoted span) ys q = q
  atom_forward outer f (name span) ys q = q
  atom_forward outer f (uri_ref span) ys q = q
  atom_forward outer f empty ys q = inl (ys, refl, q)
  atom_forward outer f (round inner) ys q = inr (from_alternatives (Whole End (opened Round outer f)) inner (l.Sign sign.RoundClose ∷ ys) (ys, refl, q))
  atom_forward outer f (square inner) ys q = from_alternatives (Whole End (opened Square outer f)) inner (l.Sign sign.SquareClose ∷ ys) (ys, refl, q)

  item_forward_at : (outer : List Outer) (f : Frame) (i : Item) (ys : List Lexeme) → ItemsThen (Whole End outer) (with_item f (item_meant i)) ys → Steps End (on_item outer f) (item_spelled i ys)
  unfolding on_item item_spelled item_meant
  item_forward_at outer f (tag span) ys q = q
  item_forward_at outer f (atom a e) ys q = atom_forward outer f a (ending_spelled e ys) (e, ys, refl, q)

  item_forward : (outer : List Outer) (f : Frame) (xs : List Lexeme) → ItemThen (Whole End outer) f xs → Steps End (on_item outer f) xs
  item_forward outer f xs q = subst (Steps End (on_item outer f)) (sym q.2) (item_forward_at outer f q.0 q.1 q.3)

  -- an atom and what follows it is an item
  atom_item : (W : Rest) (f : Frame) (a : Atom) (xs : List Lexeme) → EndingThen W f (atom_meant a) xs → ItemThen W f (atom_spelled a xs)
  unfolding item_spelled item_meant
  atom_item W f a xs q = (atom a q.0, q.1, ap (atom_spelled a) q.2, q.3)

  opened_back : (outer : List Outer) (f : Frame) (xs : List Lexeme) → OpenedThen End outer f xs → ItemThen (Whole End outer) f (l.Sign sign.RoundOpen ∷ xs)
  unfolding atom_spelled atom_meant
  opened_back outer f xs (inl q) = subst (λ ys. ItemThen (Whole End outer) f (l.Sign sign.RoundOpen ∷ ys)) (sym q.1) (atom_item (Whole End outer) f empty q.0 q.2)
  opened_back outer f xs (inr q) =
      let inner = to_alternatives (Whole End (opened Round outer f)) xs q in
      subst (λ ys. ItemThen (Whole End outer) f (l.Sign sign.RoundOpen ∷ ys)) (sym (inner.2 ∙ ap (alternatives_spelled inner.0) inner.3.1)) (atom_item (Whole End outer) f (round inner.0) inner.3.0 inner.3.2)

  square_back : (outer : List Outer) (f : Frame) (xs : List Lexeme) → AlternativeThen (Whole End (opened Square outer f)) fresh xs → ItemThen (Whole End outer) f (l.Sign sign.SquareOpen ∷ xs)
  unfolding atom_spelled atom_meant
  square_back outer f xs q =
      let inner = to_alternatives (Whole End (opened Square outer f)) xs q in
      subst (λ ys. ItemThen (Whole End outer) f (l.Sign sign.SquareOpen ∷ ys)) (sym (inner.2 ∙ ap (alternatives_spelled inner.0) inner.3.1)) (atom_item (Whole End outer) f (square inner.0) inner.3.0 inner.3.2)

  sign_back : (outer : List Outer) (f : Frame) (s : Sign) (xs : List Lexeme) → TurnThen End (on_item outer f (l.Sign s)) xs → ItemThen (Whole End outer) f (l.Sign s ∷ xs)
  unfolding on_item
  sign_back outer f sign.RoundOpen xs q = opened_back outer f xs q
  sign_back outer f sign.SquareOpen xs q = square_back outer f xs q
  sign_back outer f _ xs q = absurd q

  item_back : (outer : List Outer) (f : Frame) (xs : List Lexeme) → Steps End (on_item outer f) xs → ItemThen (Whole End outer) f xs
  unfolding on_item item_spelled item_meant atom_spelled atom_meant
  item_back outer f [] q = absurd q
  item_back outer f (l.Tag span ∷ xs) q = (tag span, xs, refl, q)
  item_back outer f (l.Bare word span ∷ xs) q = atom_item (Whole End outer) f (bare word span) xs q
  item_back outer f (l.Quoted span ∷ xs) q = atom_item (Whole End outer) f (quoted span) xs q
  item_back outer f (l.Name span ∷ xs) q = atom_item (Whole End outer) f (name span) xs q
  item_back outer f (l.UriRef span ∷ xs) q = atom_item (Whole End outer) f (uri_ref span) xs q
  item_back outer f (l.Sign s ∷ xs) q = sign_back outer f s xs q
  item_back outer f (l.Angle form span ∷ xs) q = absurd q
  item_back outer f (l.Weight span ∷ xs) q = absurd q
  item_back outer f (l.Language span ∷ xs) q = absurd q

  -- ---- before an alternative

  item_starts : (outer : List Outer) (f : Frame) (xs : List Lexeme) → Steps End (on_item outer (weighed f None)) xs → Steps End (on_start outer f) xs
  unfolding on_start on_item
  item_starts outer f [] q = q
  item_starts outer f (l.Weight span ∷ xs) q = absurd q
  item_starts outer f (_ ∷ xs) q = q

  start_forward_at : (outer : List Outer) (f : Frame) (weight : Option Spanned) (ys : List Lexeme) → ItemThen (Whole End outer) (weighed f weight) ys → Steps End (on_start outer f) (weight_spelled weight ys)
  unfolding on_start
  start_forward_at outer f None ys q = item_starts outer f ys (item_forward outer (weighed f None) ys q)
  start_forward_at outer f (Some span) ys q = q

  start_forward : (outer : List Outer) (f : Frame) (xs : List Lexeme) → AlternativeThen (Whole End outer) f xs → Steps End (on_start outer f) xs
  start_forward outer f xs q = subst (Steps End (on_start outer f)) (sym q.2) (start_forward_at outer f q.0 q.1 q.3)

  start_back : (outer : List Outer) (f : Frame) (xs : List Lexeme) → Steps End (on_start outer f) xs → AlternativeThen (Whole End outer) f xs
  unfolding on_start
  start_back outer f [] q = absurd q
  start_back outer f (l.Weight span ∷ xs) q = (Some span, xs, refl, q)
  start_back outer f (x ∷ xs) q = (None, x ∷ xs, refl, item_back outer (weighed f None) (x ∷ xs) q)

  -- ---- behind `(`

  start_opens : (outer : List Outer) (f : Frame) (xs : List Lexeme) → Steps End (on_start (opened Round outer f) fresh) xs → Steps End (on_opened outer f) xs
  unfolding on_opened on_start on_item
  start_opens outer f [] q = q
  start_opens outer f (l.Sign sign.RoundClose ∷ xs) q = absurd q
  start_opens outer f (_ ∷ xs) q = q

  opened_forward : (outer : List Outer) (f : Frame) (xs : List Lexeme) → OpenedThen End outer f xs → Steps End (on_opened outer f) xs
  unfolding on_opened
  opened_forward outer f xs (inl q) = subst (Steps End (on_opened outer f)) (sym q.1) q.2
  opened_forward outer f xs (inr q) = start_opens outer f xs (start_forward (opened Round outer f) fresh xs q)

  opened_starts : (outer : List Outer) (f : Frame) (xs : List Lexeme) → Steps End (on_opened outer f) xs → OpenedThen End outer f xs
  unfolding on_opened
  opened_starts outer f [] q = absurd q
  opened_starts outer f (l.Sign sign.RoundClose ∷ xs) q = inl (xs, refl, q)
  opened_starts outer f (x ∷ xs) q = inr (start_back (opened Round outer f) fresh (x ∷ xs) q)

  -- ---- behind items

  whole_forward : (outer : List Outer) (f : Frame) (xs : List Lexeme) → Whole End outer (choice (all_of f)) xs → Steps End (on_items outer f) xs
  unfolding on_items ended
  whole_forward [] f xs q = subst (Steps End (on_items [] f)) (sym q.1) q.2
  whole_forward (o ∷ outer) f xs q = subst (Steps End (on_items (o ∷ outer) f)) (sym q.1) (by_around o.around q.2)
    where
      by_around : (around : Around) → EndingThen (Whole End outer) o.frame (enclosed around (choice (all_of f))) q.0
          → Steps End (on_items (record { around = around; frame = o.frame } ∷ outer) f) (l.Sign (closing around) ∷ q.0)
      by_around Round r = r
      by_around Square r = r

  item_continues : (outer : List Outer) (f : Frame) (xs : List Lexeme) → Steps End (on_item outer f) xs → Steps End (on_items outer f) xs
  unfolding on_items on_item
  item_continues outer f [] q = q
  item_continues outer f (l.Sign sign.RoundOpen ∷ xs) q = q
  item_continues outer f (l.Sign sign.SquareOpen ∷ xs) q = q
  item_continues outer f (l.Sign _ ∷ xs) q = absurd q
  item_continues outer f (_ ∷ xs) q = q

  -- an item behind items is one more of them
  one_more : (W : Rest) (f : Frame) (xs : List Lexeme) → ItemThen W f xs → ItemsThen W f xs
  unfolding items_spelled items_meant
  one_more W f xs q = (item q.0 q.3.0, q.3.1, q.3.2, q.2 ∙ ap (item_spelled q.0) q.3.3, q.3.4)

  pub no_more : (W : Rest) (f : Frame) (xs : List Lexeme) → W (choice (all_of f)) xs → ItemsThen W f xs
  unfolding items_spelled items_meant others_spelled others_meant
  no_more W f xs c = (no_item, no_other, xs, refl, c)

  bar_forward : (outer : List Outer) (f : Frame) (a : Alternative) (os : Others) (ys : List Lexeme) → Whole End outer (choice (others_meant (all_of f ++ alternative_meant a ∷ []) os)) ys
      → Steps End (on_items outer f) (l.Sign sign.Bar ∷ alternative_spelled a (others_spelled os ys))
  unfolding on_items alternative_spelled alternative_meant
  bar_forward outer f (alternative weight i is) os ys c = (weight, _, refl, (i, _, refl, (is, os, ys, refl, c)))

  items_forward_at : (outer : List Outer) (f : Frame) (is : Items) (os : Others) (ys : List Lexeme)
      → Whole End outer (choice (others_meant (all_of (record { done = f.done; weight = f.weight; items = items_meant f.items is })) os)) ys
      → Steps End (on_items outer f) (items_spelled is (others_spelled os ys))
  unfolding items_spelled items_meant others_spelled others_meant
  items_forward_at outer f no_item no_other ys c = whole_forward outer f ys c
  items_forward_at outer f no_item (other a os) ys c = bar_forward outer f a os ys c
  items_forward_at outer f (item i is) os ys c =
      item_continues outer f (item_spelled i (items_spelled is (others_spelled os ys))) (item_forward_at outer f i (items_spelled is (others_spelled os ys)) (is, os, ys, refl, c))

  items_forward : (outer : List Outer) (f : Frame) (xs : List Lexeme) → ItemsThen (Whole End outer) f xs → Steps End (on_items outer f) xs
  items_forward outer f xs q = subst (Steps End (on_items outer f)) (sym q.3) (items_forward_at outer f q.0 q.1 q.2 q.4)

  bar_back : (W : Rest) (f : Frame) (xs : List Lexeme) → AlternativeThen W (barred f) xs → ItemsThen W f (l.Sign sign.Bar ∷ xs)
  unfolding items_spelled items_meant others_spelled others_meant alternative_spelled alternative_meant
  bar_back W f xs q =
      let item = q.3 in
      let items = item.3 in
      (no_item, other (alternative q.0 item.0 items.0) items.1, items.2, ap (λ ys. l.Sign sign.Bar ∷ ys) (q.2 ∙ ap (weight_spelled q.0) (item.2 ∙ ap (item_spelled item.0) items.3)), items.4)

  closed_back : (outer : List Outer) (around : Around) (g : Frame) (x : Written) (s : Sign) (xs : List Lexeme) → TurnThen End (closed around g outer x (closes around s)) xs
      → Whole End (record { around = around; frame = g } ∷ outer) x (l.Sign s ∷ xs)
  closed_back outer Round g x sign.RoundClose xs q = (xs, refl, q)
  closed_back outer Square g x sign.SquareClose xs q = (xs, refl, q)
  closed_back outer Round g x _ xs q = absurd q
  closed_back outer Square g x _ xs q = absurd q

  ended_back : (outer : List Outer) (x : Written) (s : Sign) (xs : List Lexeme) → TurnThen End (ended outer x s) xs → Whole End outer x (l.Sign s ∷ xs)
  unfolding ended
  ended_back [] x sign.Semicolon xs q = (xs, refl, q)
  ended_back [] x _ xs q = absurd q
  ended_back (o ∷ outer) x s xs q = closed_back outer o.around o.frame x s xs q

  items_back : (outer : List Outer) (f : Frame) (xs : List Lexeme) → Steps End (on_items outer f) xs → ItemsThen (Whole End outer) f xs
  unfolding on_items
  items_back outer f [] q = absurd q
  items_back outer f (l.Sign sign.Bar ∷ xs) q = bar_back (Whole End outer) f xs q
  items_back outer f (l.Sign sign.RoundOpen ∷ xs) q = one_more (Whole End outer) f _ (opened_back outer f xs q)
  items_back outer f (l.Sign sign.SquareOpen ∷ xs) q = one_more (Whole End outer) f _ (square_back outer f xs q)
  items_back outer f (l.Sign s ∷ xs) q = no_more (Whole End outer) f _ (ended_back outer (choice (all_of f)) s xs q)
  items_back outer f (x ∷ xs) q = one_more (Whole End outer) f _ (item_back outer f (x ∷ xs) q)

  -- ---- behind an atom

  items_end_atom : (outer : List Outer) (f : Frame) (a : Written) (xs : List Lexeme) → Steps End (on_items outer (with_item f a)) xs → Steps End (on_atom outer f a) xs
  unfolding on_atom on_items on_item
  items_end_atom outer f a [] q = q
  items_end_atom outer f a (l.Language span ∷ xs) q = absurd q
  items_end_atom outer f a (l.Angle angle.Repeat span ∷ xs) q = absurd q
  items_end_atom outer f a (_ ∷ xs) q = q

  atom_ends : (outer : List Outer) (f : Frame) (a : Written) (e : Ending) (ys : List Lexeme) → ItemsThen (Whole End outer) (with_item f (ending_meant e a)) ys → Steps End (on_atom outer f a) (ending_spelled e ys)
  unfolding on_atom
  atom_ends outer f a (ending None None) ys q = items_end_atom outer f a ys (items_forward outer (with_item f a) ys q)
  atom_ends outer f a (ending None (Some times)) ys q = (None, ys, refl, q)
  atom_ends outer f a (ending (Some language) repeat) ys q = (repeat, ys, refl, q)
  atom_ends outer f a (turned times language) ys q = (Some language, ys, refl, q)

  ending_forward : (outer : List Outer) (f : Frame) (a : Written) (xs : List Lexeme) → EndingThen (Whole End outer) f a xs → Steps End (on_atom outer f a) xs
  ending_forward outer f a xs q = subst (Steps End (on_atom outer f a)) (sym q.2) (atom_ends outer f a q.0 q.1 q.3)

  pub no_ending : (W : Rest) (f : Frame) (a : Written) (xs : List Lexeme) → ItemsThen W (with_item f a) xs → EndingThen W f a xs
  no_ending W f a xs q = (ending None None, xs, refl, q)

  turned_back : (W : Rest) (f : Frame) (a : Written) (times : Spanned) (xs : List Lexeme) → LanguageThen W f (w.Repeated times a) xs → EndingThen W f a (l.Angle angle.Repeat times ∷ xs)
  turned_back W f a times xs (None, ys, e, q) = (ending None (Some times), ys, ap (λ zs. l.Angle angle.Repeat times ∷ zs) e, q)
  turned_back W f a times xs (Some language, ys, e, q) = (turned times language, ys, ap (λ zs. l.Angle angle.Repeat times ∷ zs) e, q)

  ending_back : (outer : List Outer) (f : Frame) (a : Written) (xs : List Lexeme) → Steps End (on_atom outer f a) xs → EndingThen (Whole End outer) f a xs
  unfolding on_atom
  ending_back outer f a [] q = absurd q
  ending_back outer f a (l.Language span ∷ xs) q = (ending (Some span) q.0, q.1, ap (λ zs. l.Language span ∷ zs) q.2, q.3)
  ending_back outer f a (l.Angle angle.Repeat span ∷ xs) q = turned_back (Whole End outer) f a span xs q
  ending_back outer f a (x ∷ xs) q = no_ending (Whole End outer) f a (x ∷ xs) (items_back outer (with_item f a) (x ∷ xs) q)

  -- ---- behind its language

  items_end_spoken : (outer : List Outer) (f : Frame) (a : Written) (xs : List Lexeme) → Steps End (on_items outer (with_item f a)) xs → Steps End (on_spoken outer f a) xs
  unfolding on_spoken on_items on_item
  items_end_spoken outer f a [] q = q
  items_end_spoken outer f a (l.Angle angle.Repeat span ∷ xs) q = absurd q
  items_end_spoken outer f a (_ ∷ xs) q = q

  repeat_forward : (outer : List Outer) (f : Frame) (a : Written) (xs : List Lexeme) → RepeatThen (Whole End outer) f a xs → Steps End (on_spoken outer f a) xs
  unfolding on_spoken
  repeat_forward outer f a xs (None, ys, e, q) = subst (Steps End (on_spoken outer f a)) (sym e) (items_end_spoken outer f a ys (items_forward outer (with_item f a) ys q))
  repeat_forward outer f a xs (Some times, ys, e, q) = subst (Steps End (on_spoken outer f a)) (sym e) q

  repeat_back : (outer : List Outer) (f : Frame) (a : Written) (xs : List Lexeme) → Steps End (on_spoken outer f a) xs → RepeatThen (Whole End outer) f a xs
  unfolding on_spoken
  repeat_back outer f a [] q = absurd q
  repeat_back outer f a (l.Angle angle.Repeat span ∷ xs) q = (Some span, xs, refl, q)
  repeat_back outer f a (x ∷ xs) q = (None, x ∷ xs, refl, items_back outer (with_item f a) (x ∷ xs) q)

  -- ---- behind its repeat

  items_end_repeated : (outer : List Outer) (f : Frame) (a : Written) (xs : List Lexeme) → Steps End (on_items outer (with_item f a)) xs → Steps End (on_repeated outer f a) xs
  unfolding on_repeated on_items on_item
  items_end_repeated outer f a [] q = q
  items_end_repeated outer f a (l.Language span ∷ xs) q = absurd q
  items_end_repeated outer f a (_ ∷ xs) q = q

  language_forward : (outer : List Outer) (f : Frame) (a : Written) (xs : List Lexeme) → LanguageThen (Whole End outer) f a xs → Steps End (on_repeated outer f a) xs
  unfolding on_repeated
  language_forward outer f a xs (None, ys, e, q) = subst (Steps End (on_repeated outer f a)) (sym e) (items_end_repeated outer f a ys (items_forward outer (with_item f a) ys q))
  language_forward outer f a xs (Some language, ys, e, q) = subst (Steps End (on_repeated outer f a)) (sym e) q

  language_back : (outer : List Outer) (f : Frame) (a : Written) (xs : List Lexeme) → Steps End (on_repeated outer f a) xs → LanguageThen (Whole End outer) f a xs
  unfolding on_repeated
  language_back outer f a [] q = absurd q
  language_back outer f a (l.Language span ∷ xs) q = (Some span, xs, refl, q)
  language_back outer f a (x ∷ xs) q = (None, x ∷ xs, refl, items_back outer (with_item f a) (x ∷ xs) q)

  -- ---- anywhere

  point_forward : (outer : List Outer) (f : Frame) (point : Point) (xs : List Lexeme) → PointThen End outer f point xs → Steps End (at_point outer f point) xs
  point_forward outer f p.Start xs q = start_forward outer f xs q
  point_forward outer f p.First xs q = item_forward outer f xs q
  point_forward outer f p.Opened xs q = opened_forward outer f xs q
  point_forward outer f p.Items xs q = items_forward outer f xs q
  point_forward outer f (p.Atom a) xs q = ending_forward outer f a xs q
  point_forward outer f (p.Spoken a) xs q = repeat_forward outer f a xs q
  point_forward outer f (p.Repeated a) xs q = language_forward outer f a xs q

  point_back : (outer : List Outer) (f : Frame) (point : Point) (xs : List Lexeme) → Steps End (at_point outer f point) xs → PointThen End outer f point xs
  point_back outer f p.Start xs q = start_back outer f xs q
  point_back outer f p.First xs q = item_back outer f xs q
  point_back outer f p.Opened xs q = opened_starts outer f xs q
  point_back outer f p.Items xs q = items_back outer f xs q
  point_back outer f (p.Atom a) xs q = ending_back outer f a xs q
  point_back outer f (p.Spoken a) xs q = repeat_back outer f a xs q
  point_back outer f (p.Repeated a) xs q = language_back outer f a xs q

  pub forward : (body : Body) (xs : List Lexeme) → BodyThen End body xs → Steps End (turn body) xs
  unfolding turn
  forward body [] q = point_forward body.outer body.frame body.point [] q
  forward body (x ∷ xs) q = point_forward body.outer body.frame body.point (x ∷ xs) q

  pub backward : (body : Body) (xs : List Lexeme) → Steps End (turn body) xs → BodyThen End body xs
  unfolding turn
  backward body [] q = absurd q
  backward body (x ∷ xs) q = point_back body.outer body.frame body.point (x ∷ xs) q
