-- What is left of a path has no dot segments, so that taking them out again changes nothing.
use Rattle.std.proofs.Common.{◌≡◌, ◌≢◌, ℕ, zero, suc, ◌≤◌, false, cond, List, [], ◌∷◌, ◌++◌, length, refl, ap, sym, ◌∙◌, subst, ◌⊎◌, inl, inr, arith, codes}
use Rattle.std.specs.Str.{bytes_eq}
use Rattle.std.proofs.lemmas.List.{append_assoc, append-nil}
use Rattle.std.proofs.lemmas.Bool.{cases_Bool, false≢true}
use Rattle.std.proofs.lemmas.Slice.Eq.{bytes_eq-Decides}
use Rattle.uri_links.specs.Split.{has, before, from, before_last, slash}
use Rattle.uri_links.specs.Parts.{IsEmptyOrRooted}
use Rattle.uri_links.specs.code.Kinds.{IsPlain, or_slash, behind_slash}
use Rattle.uri_links.specs.Dots.{Buffers, first_segment, after_segment, remove_dot_segments}
use Rattle.uri_links.proofs.SplitLemmas.{has-before, has-inside, before-past, from-past, before-split, from-split}
use Rattle.uri_links.proofs.DotsLemmas.{removed, removed-empty, segment_whole, after_rooted, bare_goes, here_goes, up_goes, plain_goes, plain}

-- a segment that isn't made of dots, with the slash before it if it has one
record IsSegment (segment : List ℕ) : Type 0 where
  first : ℕ
  others : List ℕ
  whole : segment ≡ first ∷ others
  none : has slash others ≡ false
  not_dots : IsPlain segment

abbrev IsRooted : List ℕ → Type 0
IsRooted segment = (others : List ℕ) × (segment ≡ slash ∷ others)

-- segments, the last of them first
abbrev spelled : List (List ℕ) → List ℕ
spelled [] = []
spelled (segment ∷ stack) = spelled stack ++ segment

-- each segment but the first has a slash before it
abbrev AreSegments : List (List ℕ) → Type 0
AreSegments [] = Unit {0}
AreSegments (segment ∷ stack) = IsSegment segment × ((stack ≡ []) ⊎ IsRooted segment) × AreSegments stack

-- the output so far, and the input that may follow it
record IsOutput (output input : List ℕ) : Type 0 where
  stack : List (List ℕ)
  whole : output ≡ spelled stack
  segments : AreSegments stack
  joins : (stack ≡ []) ⊎ IsEmptyOrRooted input

before_last-at : (c : ℕ) (front back : List ℕ) → has c back ≡ false → before_last c (front ++ c ∷ back) ≡ front
before_last-at c [] back n = ap (λ b. cond b (c ∷ before_last c back) []) n
before_last-at c (x ∷ front) back n =
    ap (λ b. cond b (x ∷ before_last c (front ++ c ∷ back)) []) (has-inside c front back) ∙ ap (λ l. x ∷ l) (before_last-at c front back n)

-- without its last segment an output is still one
popped : (stack : List (List ℕ)) → AreSegments stack → (rest : List (List ℕ)) × (before_last slash (spelled stack) ≡ spelled rest) × AreSegments rest
popped [] a = ([], refl, tt)
popped (segment ∷ stack) a = elim a.1 [
  | inl e ↦ ([], ap (λ l. before_last slash (spelled l ++ segment)) e ∙ (ap (before_last slash) a.0.whole ∙ alone a.0.first a.0.others a.0.none), tt)
  | inr r ↦ (stack, ap (λ s. before_last slash (spelled stack ++ s)) r.1 ∙ before_last-at slash (spelled stack) r.0 (same r.0 a.0 r.1), a.2)
]
  where
    alone : (x : ℕ) (xs : List ℕ) → has slash xs ≡ false → before_last slash (x ∷ xs) ≡ []
    alone x xs n = ap (λ b. cond b (x ∷ before_last slash xs) []) n

    same : (others : List ℕ) (s : IsSegment segment) → segment ≡ slash ∷ others → has slash others ≡ false
    same others s e = let tail : s.others ≡ others = cc in ap (has slash) (sym tail) ∙ s.none

decide : (s t : List ℕ) → (s ≡ t) ⊎ (s ≢ t)
decide s t = elim (cases_Bool (bytes_eq s t)) [
  | inl e ↦ inl ((bytes_eq-Decides s t).0 e)
  | inr e ↦ inr (λ h. false≢true (sym e ∙ (bytes_eq-Decides s t).1 h))
]

or_slash_rooted : (rest : List ℕ) → IsEmptyOrRooted rest → IsEmptyOrRooted (or_slash rest)
or_slash_rooted [] h = refl
or_slash_rooted (x ∷ rest) h = h

-- a path that begins with a dot follows no output
starts : (path o : List ℕ) (rest : List ℕ) → path ≡ 46 ∷ rest → (out : IsOutput o path) → out.stack ≡ []
starts path o rest e out = elim out.joins [
  | inl n ↦ n
  | inr r ↦ let dot : 46 ≡ slash = subst IsEmptyOrRooted e r in absurd (omega (arith, dot))
]

dots_first : (path : List ℕ) → (first_segment path ≡ codes ".") ⊎ (first_segment path ≡ codes "..") → (rest : List ℕ) × (path ≡ 46 ∷ rest)
dots_first path h = elim h [
  | inl e ↦ (after_segment path, segment_whole path ∙ ap (λ s. s ++ after_segment path) e)
  | inr e ↦ (46 ∷ after_segment path, segment_whole path ∙ ap (λ s. s ++ after_segment path) e)
]

pushed : (c : ℕ) (path o : List ℕ) → IsPlain (first_segment (c ∷ path)) → IsOutput o (c ∷ path) → IsOutput (o ++ first_segment (c ∷ path)) (after_segment (c ∷ path))
pushed c path o p out = record {
  stack = first_segment (c ∷ path) ∷ out.stack;
  whole = ap (λ l. l ++ first_segment (c ∷ path)) out.whole;
  segments = (
    record { first = c; others = before slash path; whole = refl; none = has-before slash path; not_dots = p },
    elim out.joins [ inl e ↦ inl e | inr r ↦ inr (before slash path, ap (λ x. x ∷ before slash path) r) ],
    out.segments,
  );
  joins = inr (after_rooted (c ∷ path));
}

pub kinds : (segment : List ℕ) → ((segment ≡ codes ".") ⊎ (segment ≡ codes "..")) ⊎ ((segment ≡ codes "/.") ⊎ ((segment ≡ codes "/..") ⊎ IsPlain segment))
kinds segment = elim (decide segment (codes ".")) [
  | inl e ↦ inl (inl e)
  | inr one ↦ elim (decide segment (codes "..")) [
    | inl e ↦ inl (inr e)
    | inr two ↦ elim (decide segment (codes "/.")) [
      | inl e ↦ inr (inl e)
      | inr slash_one ↦ elim (decide segment (codes "/..")) [
        | inl e ↦ inr (inr (inl e))
        | inr slash_two ↦ inr (inr (inr (record { one = one; two = two; slash_one = slash_one; slash_two = slash_two })))
      ]
    ]
  ]
]

-- the steps leave an output
outputs : (n : ℕ) (path o : List ℕ) → length path ≤ n → IsOutput o path → IsOutput (removed path o).output []
outputs n [] o h out =
    let e = removed-empty [] o refl in
    record { stack = out.stack; whole = e ∙ out.whole; segments = out.segments; joins = inr tt }
outputs zero (c ∷ path) o h out = absurd (omega arith)
outputs (suc n) (c ∷ path) o h out =
    let all : List ℕ = c ∷ path in
    let segment : List ℕ = first_segment all in
    let rest : List ℕ = after_segment all in
    let P : Buffers → Type 0 = λ b. IsOutput b.output [] in
    elim (kinds segment) [
      | inl bare ↦
          let goes = bare_goes all segment rest (refl, refl) o bare in
          let dot = dots_first all bare in
          subst P (sym goes.0) (outputs n (behind_slash rest) o (omega (arith, goes.1, h))
          (record { stack = out.stack; whole = out.whole; segments = out.segments; joins = inl (starts all o dot.0 dot.1 out) }))
      | inr others ↦ elim others [
        | inl here ↦
            let goes = here_goes all segment rest (refl, refl) o here in
            subst P (sym goes.0) (outputs n (or_slash rest) o (omega (arith, goes.1, h))
            (record { stack = out.stack; whole = out.whole; segments = out.segments; joins = inr (or_slash_rooted rest (after_rooted all)) }))
        | inr more ↦ elim more [
          | inl up ↦
              let goes = up_goes all segment rest (refl, refl) o up in
              let less = popped out.stack out.segments in
              subst P (sym goes.0) (outputs n (or_slash rest) (before_last slash o) (omega (arith, goes.1, h))
              (record { stack = less.0; whole = ap (before_last slash) out.whole ∙ less.1; segments = less.2; joins = inr (or_slash_rooted rest (after_rooted all)) }))
          | inr p ↦
              let goes = plain_goes all segment rest (refl, refl) o (omega arith) p in
              subst P (sym goes.0) (outputs n rest (o ++ segment) (omega (arith, goes.1, h)) (pushed c path o p out))
        ]
      ]
    ]

-- the first segment of a text that begins with one
one_more : (segment input o : List ℕ) → IsSegment segment → IsEmptyOrRooted input → removed (segment ++ input) o ≡ removed input (o ++ segment)
one_more segment input o s r =
    ap (λ l. removed (l ++ input) o) s.whole
    ∙ (plain (s.first ∷ (s.others ++ input)) o (omega arith) (subst IsPlain (s.whole ∙ sym (front input r)) s.not_dots)
    ∙ (ap (λ l. removed l (o ++ first_segment (s.first ∷ (s.others ++ input)))) (back input r)
    ∙ ap (λ l. removed input (o ++ l)) (front input r ∙ sym s.whole)))
  where
    front : (input : List ℕ) → IsEmptyOrRooted input → first_segment (s.first ∷ (s.others ++ input)) ≡ s.first ∷ s.others
    front [] r = ap (λ l. s.first ∷ l) (before-past slash s.others [] s.none ∙ append-nil s.others)
    front (x ∷ input) r = ap (λ l. s.first ∷ l) (before-split slash (s.others ++ x ∷ input) s.others input (ap (λ y. s.others ++ y ∷ input) r) s.none)

    back : (input : List ℕ) → IsEmptyOrRooted input → from slash (s.others ++ input) ≡ input
    back [] r = from-past slash s.others [] s.none
    back (x ∷ input) r = from-split slash (s.others ++ x ∷ input) s.others input (ap (λ y. s.others ++ y ∷ input) r) s.none ∙ ap (λ y. y ∷ input) (sym r)

rooted_append : (segment input : List ℕ) → IsRooted segment → IsEmptyOrRooted (segment ++ input)
rooted_append segment input r = subst (λ s. IsEmptyOrRooted (s ++ input)) (sym r.1) refl

-- segments without dots are all moved to the output
moved : (stack : List (List ℕ)) (input o : List ℕ) → AreSegments stack → (stack ≡ []) ⊎ IsEmptyOrRooted input
    → removed (spelled stack ++ input) o ≡ removed input (o ++ spelled stack)
moved [] input o a j = ap (removed input) (sym (append-nil o))
moved (segment ∷ stack) input o a j =
    let r : IsEmptyOrRooted input = elim j [ inl e ↦ absurd (not_empty segment stack e) | inr r ↦ r ] in
    let next : (stack ≡ []) ⊎ IsEmptyOrRooted (segment ++ input) = elim a.1 [ inl e ↦ inl e | inr s ↦ inr (rooted_append segment input s) ] in
    ap (λ l. removed l o) (append_assoc (spelled stack) segment input)
    ∙ (moved stack (segment ++ input) o a.2 next
    ∙ (one_more segment input (o ++ spelled stack) a.0 r
    ∙ ap (removed input) (append_assoc o (spelled stack) segment)))
  where
    not_empty : (s : List ℕ) (ss : List (List ℕ)) → s ∷ ss ≡ [] → ⊥
    not_empty s ss e = cc

pub remove-twice : (path : List ℕ) → remove_dot_segments (remove_dot_segments path) ≡ remove_dot_segments path
unfolding remove_dot_segments
remove-twice path =
    let out = outputs (length path) path [] (omega arith) (record { stack = []; whole = refl; segments = tt; joins = inl refl }) in
    let once = (removed path []).output in
    let again : removed once [] ≡ removed [] once =
    ap (λ l. removed l []) (out.whole ∙ sym (append-nil (spelled out.stack))) ∙ (moved out.stack [] [] out.segments (inr tt) ∙ ap (removed []) (sym out.whole)) in
    ap (λ (b : Buffers). b.output) again ∙ removed-empty [] once refl
