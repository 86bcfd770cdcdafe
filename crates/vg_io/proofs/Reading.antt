-- Lemmas on the bytes of a line that are gathered from what is held and what is left.
use Rattle.std.proofs.Common.{◌≡◌, ℕ, ◌+◌, ◌<◌, Bool, true, false, List, [], ◌∷◌, ◌++◌, None, Some, length, refl, sym, ap, ◌∙◌, subst, append_assoc, append-nil, arith, length-append, ◌≢◌, inl, inr}
use Rattle.std.specs.declared.option.Option.{Option}
use Rattle.std.specs.Io.KnownBytes.{Consumes, IsAtEnd, Keeps, prepend_known}
use Rattle.std.proofs.KnownBytes.{Consumes-trans}
use Rattle.std.proofs.lemmas.List.Elements.{All-append}
use Rattle.std.proofs.lemmas.List.{nil_from_length}
use Rattle.vg_io.specs.Lines.{lines_of, HasNoFeed, GivesLine, LeavesNoLine, BeginsLong, IsKnownEmpty}
use Rattle.vg_io.proofs.Cutting.{lines_of-line, lines_of-last, lines_of-nil}
use Rattle.vg_io.specs.code.Gathering.{GathersIn, MovesHeld, InLine, EndsLine, Taking, taking, ahead}
use Rattle.vg_io.specs.declared.gathered.Gathered.{Gathered}

-- all that is held moves to what was gathered
pub Consumes-moved : (a : Option (List ℕ)) (now : Taking) (front : List ℕ)
    → Consumes a (ahead now) front → Consumes a (prepend_known [] now.left) (front ++ now.held)
Consumes-moved None now front p = tt
Consumes-moved (Some xs) now front p = moved now.left p
  where
    moved : (left : Option (List ℕ)) → Consumes (Some xs) (prepend_known now.held left) front
        → Consumes (Some xs) (prepend_known [] left) (front ++ now.held)
    moved None p = absurd p
    moved (Some ys) p = p ∙ sym (append_assoc front now.held ys)

-- a read into what is held, which was empty
pub Consumes-filled : (a b c : Option (List ℕ)) (held front : List ℕ)
    → Consumes a (prepend_known [] b) front × Consumes b c held
    → Consumes a (prepend_known held c) front
Consumes-filled None b c held front both = tt
Consumes-filled (Some xs) None c held front both = absurd both.0
Consumes-filled (Some xs) (Some ys) None held front both = absurd both.1
Consumes-filled (Some xs) (Some ys) (Some zs) held front (p, q) = p ∙ ap (λ l. front ++ l) q

pub LeavesNoLine-from : (a left : Option (List ℕ)) (front : List ℕ) → HasNoFeed front
    → Consumes a (prepend_known [] left) front → LeavesNoLine a left
LeavesNoLine-from None left front n p = tt
LeavesNoLine-from (Some xs) None front n p = absurd p
LeavesNoLine-from (Some xs) (Some ys) front n p = (front, n, p)

pub LeavesNoLine-kept : (a b c : Option (List ℕ)) → LeavesNoLine a b → Keeps b c → LeavesNoLine a c
LeavesNoLine-kept None b c p q = tt
LeavesNoLine-kept (Some xs) None c p q = absurd p
LeavesNoLine-kept (Some xs) (Some ys) None p q = absurd q
LeavesNoLine-kept (Some xs) (Some ys) (Some zs) p q = (p.0, p.1, p.2 ∙ ap (λ l. p.0 ++ l) (sym q))

-- all that is held was moved
pub InLine-moved : {limit : ℕ} {old now : Taking} {line : Gathered} (line' : Gathered)
    (held : List ℕ) → InLine limit old now line → MovesHeld limit false now.held held line line'
    → InLine limit old (taking [] now.taken now.left) line'
InLine-moved {now = now} line' held i m = record {
  front = i.front ++ now.held;
  no_feed = All-append (λ b. b ≢ 10) i.front now.held i.no_feed m.0;
  gathers = m.2 i.front i.gathers;
  consumed = Consumes-moved _ now i.front i.consumed;
  counts = i.counts;
  moved = omega (arith, i.moved, length-append i.front now.held);
}

-- a read went into what is held
pub InLine-filled : {limit : ℕ} {old : Taking} {line : Gathered} (taken : ℕ) (b c : Option (List ℕ))
    (held : List ℕ) → InLine limit old (taking [] taken b) line → Consumes b c held
    → InLine limit old (taking held (taken + length held) c) line
InLine-filled {old = old} taken b c held i q = record {
  front = i.front;
  no_feed = i.no_feed;
  gathers = i.gathers;
  consumed = Consumes-filled _ b c held i.front (i.consumed, q);
  counts = (
    i.counts.0 ++ held,
    Consumes-trans old.left b c i.counts.0 held i.counts.1 q,
    omega (arith, i.counts.2, length-append i.counts.0 held),
  );
  moved = omega (arith, i.moved);
}

-- what stands where the bytes ended in the middle of a line: a read gave none
pub record Ended (b c : Option (List ℕ)) (held : List ℕ) : Type 0 where
  pub read : Consumes b c held
  pub none : length held ≡ 0
  pub end : IsAtEnd c

pub EndsLine-last : {limit : ℕ} {old : Taking} {line : Gathered} (taken : ℕ) (b c : Option (List ℕ))
    (held : List ℕ)
    → InLine limit old (taking [] taken b) line
    → Ended b c held × ((front : List ℕ) → GathersIn limit front line → 0 < length front)
    → EndsLine limit false old (taking held taken c) line
EndsLine-last taken b c held i (e, some) =
    record {
      front = i.front;
      no_feed = i.no_feed;
      gathers = i.gathers;
      consumed = subst (Consumes _ _) (sym (append-nil i.front))
          (Consumes-filled _ b c held i.front (i.consumed, e.read));
      at_end = λ _. (nil_from_length held e.none, e.end, some i.front i.gathers);
      moved = let none = e.none in omega (arith, i.moved);
    }

GivesLine-fed : (a b : Option (List ℕ)) (front : List ℕ) → HasNoFeed front
    → Consumes a b (front ++ 10 ∷ []) → GivesLine a b false front
GivesLine-fed None b front n p = tt
GivesLine-fed (Some xs) None front n p = absurd p
GivesLine-fed (Some xs) (Some ys) front n p =
    let cut = p ∙ append_assoc front (10 ∷ []) ys in
    record {
      first = ap lines_of cut ∙ lines_of-line front ys n;
      no_feed = n;
      cut = inl (refl, cut);
    }

GivesLine-last : (a b : Option (List ℕ)) (front : List ℕ) → HasNoFeed front
    → Consumes a b (front ++ []) → IsAtEnd b × (0 < length front) → GivesLine a b true front
GivesLine-last None b front n p end = tt
GivesLine-last (Some xs) None front n p end = absurd p
GivesLine-last (Some xs) (Some ys) front n p (e, l) =
    let all = p ∙ ap (λ k. (front ++ []) ++ k) e ∙ append-nil (front ++ []) ∙ append-nil front in
    let first : lines_of xs ≡ front ∷ lines_of ys = ap lines_of all ∙ lines_of-last front n l
    ∙ ap (λ k. front ∷ k) (sym (ap lines_of e ∙ lines_of-nil)) in
    record { first = first; no_feed = n; cut = inr (refl, all, l, e) }

pub IsAtEnd-held : (held : List ℕ) (left : Option (List ℕ)) → held ≡ [] → IsAtEnd left
    → IsAtEnd (prepend_known held left)
IsAtEnd-held held None h e = tt
IsAtEnd-held held (Some xs) h e = ap (λ l. l ++ xs) h ∙ e

-- what ended is the next line
pub GivesLine-ends_fed : {limit : ℕ} {old now : Taking} {line : Gathered}
    (e : EndsLine limit true old now line) (ended : Bool) → ended ≡ false
    → GivesLine (ahead old) (ahead now) ended e.front
GivesLine-ends_fed {old = old} {now = now} e ended not =
    subst (λ f. GivesLine (ahead old) (ahead now) f e.front) (sym not)
    (GivesLine-fed _ _ e.front e.no_feed e.consumed)

pub GivesLine-ends_last : {limit : ℕ} {old now : Taking} {line : Gathered}
    (e : EndsLine limit false old now line) → GivesLine (ahead old) (ahead now) true e.front
GivesLine-ends_last {now = now} e =
    let end = e.at_end refl in
    GivesLine-last _ _ e.front e.no_feed e.consumed (
      IsAtEnd-held now.held now.left end.0 end.1,
      end.2,
    )

-- two readings of which line is first agree
same_first : (line line' : List ℕ) (rest rest' : List (List ℕ)) → line ∷ rest ≡ line' ∷ rest'
    → length line ≡ length line'
same_first line line' rest rest' e = let same : line ≡ line' = cc in ap length same

-- where the first line is past the limit, the line that is given is
pub GivesLine-long : (limit : ℕ) (a b : Option (List ℕ)) (ended : Bool) (line : List ℕ)
    → GivesLine a b ended line × BeginsLong limit a → limit < length line
GivesLine-long limit None b ended line both = absurd both.1
GivesLine-long limit (Some xs) None ended line both = absurd both.0
GivesLine-long limit (Some xs) (Some ys) ended line (g, (line', others, e, over)) =
    let same = same_first _ _ _ _ (sym g.first ∙ e) in omega arith

-- where there is no byte there is no line
pub IsAtEnd-not_long : (limit : ℕ) (a : Option (List ℕ)) → IsAtEnd a → BeginsLong limit a → ⊥
IsAtEnd-not_long limit None end long = long
IsAtEnd-not_long limit (Some xs) end (line, others, e, over) = let none = sym lines_of-nil
    ∙ sym (ap lines_of end) ∙ e in cc

pub GivesLine-not_empty : (a b : Option (List ℕ)) (ended : Bool) (line : List ℕ)
    → GivesLine a b ended line → IsKnownEmpty a → ⊥
GivesLine-not_empty None b ended line g none = cc
GivesLine-not_empty (Some xs) None ended line g none = g
GivesLine-not_empty (Some xs) (Some ys) ended line g none =
    let empty : xs ≡ [] = cc in
    let lines = sym lines_of-nil ∙ sym (ap lines_of empty) ∙ g.first in cc
