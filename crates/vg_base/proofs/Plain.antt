-- What equal values have equal, part by part: for the crates above. Of `Some`, std has `same_Some`.
use Rattle.std.proofs.Common.{◌≡◌, List, ◌∷◌, Result, Ok, Err, ap}

pub heads_same : {X : Type 0} {x y : X} {xs ys : List X} → x ∷ xs ≡ y ∷ ys → x ≡ y
heads_same e = cc

pub tails_same : {X : Type 0} {x y : X} {xs ys : List X} → x ∷ xs ≡ y ∷ ys → xs ≡ ys
tails_same e = cc

pub firsts_same : {X Y : Type 0} {x y : X} {a b : Y} → ◌≡◌ {A = X × Y} (x, a) (y, b) → x ≡ y
firsts_same e = ap (λ p. p.0) e

pub seconds_same : {X Y : Type 0} {x y : X} {a b : Y} → ◌≡◌ {A = X × Y} (x, a) (y, b) → a ≡ b
seconds_same e = ap (λ p. p.1) e

pub same_Ok : {X E : Type 0} {x y : X} → ◌≡◌ {A = Result X E} (Ok x) (Ok y) → x ≡ y
same_Ok e = cc

pub same_Err : {X E : Type 0} {x y : E} → ◌≡◌ {A = Result X E} (Err x) (Err y) → x ≡ y
same_Err e = cc
