-- From each state of a body something may come: closing signs, and a tag where an item must come. `shortest` is the tree of the body that
-- comes so; it is told first, since the document depends on it.
use Rattle.std.proofs.Common.{List, [], ◌∷◌, inl, None, refl}
use Rattle.abnf_lexer.specs.declared.lexemes.Spanned.{Spanned}
use Rattle.abnf_parser.specs.declared.lexeme.Sign.TheVariants as sign
use Rattle.abnf_parser.specs.declared.lexeme.Lexeme.{Lexeme}
use Rattle.abnf_parser.specs.declared.lexeme.Lexeme.TheVariants as l
use Rattle.abnf_parser.specs.declared.written.Written.{Written}
use Rattle.abnf_parser.specs.declared.written.Written.TheVariants as w
use Rattle.abnf_parser.specs.declared.machine.stack.Frame.{Frame}
use Rattle.abnf_parser.specs.declared.machine.stack.Outer.{Outer}
use Rattle.abnf_parser.specs.declared.machine.stack.Point.{Point}
use Rattle.abnf_parser.specs.declared.machine.stack.Point.TheVariants as p
use Rattle.abnf_parser.specs.declared.machine.stack.Body.{Body}
use Rattle.abnf_parser.specs.Expansions.{tag, item_spelled, choice, item_meant}
use Rattle.abnf_parser.specs.code.Bodies.{weighed, with_item, all_of, enclosed}
use Rattle.abnf_parser.proofs.Languages.{Rest, ItemsThen, ItemThen, closing, Whole, PointThen, BodyThen}
use Rattle.abnf_parser.proofs.BodySteps.{no_more, no_ending}

-- ---- the trees of bodies that are ended by closing signs alone, and by a tag where an item must come

abbrev last_of : List Outer → Written → Written
last_of [] x = x
last_of (o ∷ outer) x = last_of outer (choice (all_of (with_item o.frame (enclosed o.around x))))

abbrev last_of_frame : List Outer → Frame → Written
last_of_frame outer f = last_of outer (choice (all_of f))

abbrev last_at : List Outer → Frame → Spanned → Point → Written
last_at outer f span p.Start = last_of_frame outer (with_item (weighed f None) (w.Tag span))
last_at outer f span p.First = last_of_frame outer (with_item f (w.Tag span))
last_at outer f span p.Opened = last_of_frame outer (with_item f w.Nothing)
last_at outer f span p.Items = last_of_frame outer f
last_at outer f span (p.Atom a) = last_of_frame outer (with_item f a)
last_at outer f span (p.Spoken a) = last_of_frame outer (with_item f a)
last_at outer f span (p.Repeated a) = last_of_frame outer (with_item f a)

abbrev pub shortest : Body → Spanned → Written
shortest body span = last_at body.outer body.frame span body.point

module _ (End : Rest) where
  -- ---- something may come

  whole_endable : (outer : List Outer) (x : Written) (ys : List Lexeme) → End (last_of outer x) ys → (xs : List Lexeme) × Whole End outer x xs
  whole_endable [] x ys c = (l.Sign sign.Semicolon ∷ ys, (ys, refl, c))
  whole_endable (o ∷ outer) x ys c =
      let f = with_item o.frame (enclosed o.around x) in
      let e = whole_endable outer (choice (all_of f)) ys c in
      (l.Sign (closing o.around) ∷ e.0, (e.0, refl, no_ending End (Whole End outer) o.frame (enclosed o.around x) e.0 (no_more End (Whole End outer) f e.0 e.1)))

  items_end : (outer : List Outer) (f : Frame) (ys : List Lexeme) → End (last_of_frame outer f) ys → (xs : List Lexeme) × ItemsThen (Whole End outer) f xs
  items_end outer f ys c = let e = whole_endable outer (choice (all_of f)) ys c in (e.0, no_more End (Whole End outer) f e.0 e.1)

  -- a tag may stand as an item
  item_end : (outer : List Outer) (f : Frame) (span : Spanned) (ys : List Lexeme) → End (last_of_frame outer (with_item f (w.Tag span))) ys → (xs : List Lexeme) × ItemThen (Whole End outer) f xs
  unfolding item_spelled item_meant
  item_end outer f span ys c = let e = items_end outer (with_item f (w.Tag span)) ys c in (l.Tag span ∷ e.0, (tag span, e.0, refl, e.1))

  point_endable : (outer : List Outer) (f : Frame) (span : Spanned) (point : Point) (ys : List Lexeme) → End (last_at outer f span point) ys → (xs : List Lexeme) × PointThen End outer f point xs
  point_endable outer f span p.Start ys c = let e = item_end outer (weighed f None) span ys c in (e.0, (None, e.0, refl, e.1))
  point_endable outer f span p.First ys c = item_end outer f span ys c
  point_endable outer f span p.Opened ys c =
      let e = items_end outer (with_item f w.Nothing) ys c in (l.Sign sign.RoundClose ∷ e.0, inl (e.0, refl, no_ending End (Whole End outer) f w.Nothing e.0 e.1))
  point_endable outer f span p.Items ys c = items_end outer f ys c
  point_endable outer f span (p.Atom a) ys c = let e = items_end outer (with_item f a) ys c in (e.0, no_ending End (Whole End outer) f a e.0 e.1)
  point_endable outer f span (p.Spoken a) ys c = let e = items_end outer (with_item f a) ys c in (e.0, (None, e.0, refl, e.1))
  point_endable outer f span (p.Repeated a) ys c = let e = items_end outer (with_item f a) ys c in (e.0, (None, e.0, refl, e.1))

  pub endable : (body : Body) (span : Spanned) (ys : List Lexeme) → End (shortest body span) ys → (xs : List Lexeme) × BodyThen End body xs
  endable body span ys c = point_endable body.outer body.frame span body.point ys c
