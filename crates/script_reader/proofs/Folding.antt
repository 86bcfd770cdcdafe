-- What waits for a value and is ended with it.
use Rattle.std.proofs.Common.{◌≡◌, ℕ, ◌<◌, ◌≤◌, true, false, cond, List, [], ◌∷◌, refl, ap, arith}
use Rattle.std.specs.Prelude.{nat_le, ◌==◌}
use Rattle.std.proofs.lemmas.Bool.Decides.{nat_tests}
use Rattle.vg_base.specs.declared.script.Expr.{Expr}
use Rattle.script_reader.specs.declared.machine.stack.Frame.{Frame}
use Rattle.script_reader.specs.declared.machine.stack.Frame.TheVariants as f
use Rattle.script_reader.specs.declared.machine.stack.Open.{Open}
use Rattle.script_reader.specs.declared.machine.stack.Whole.{Whole}
use Rattle.script_reader.specs.Signs.{level}
use Rattle.script_reader.specs.code.Expressions.{opened, folds, made, top_folds, folded}

-- an expression that holds so tightly may begin behind this frame
abbrev pub TakesIn : Frame → ℕ → Type 0
TakesIn (f.Signed op) n = 7 ≤ n
TakesIn (f.Left left op) n = level op < n
TakesIn f.Round n = Unit {0}
TakesIn (f.Index view) n = Unit {0}
TakesIn (f.List done) n = Unit {0}
TakesIn (f.Member done key) n = Unit {0}
TakesIn (f.ChooseYes test) n = Unit {0}
TakesIn (f.ChooseNo test positive) n = Unit {0}

abbrev pub Takes : List Open → ℕ → Type 0
Takes [] n = Unit {0}
Takes (o ∷ frames) n = TakesIn o.frame n

takes_in-more : (frame : Frame) (n m : ℕ) → n ≤ m → TakesIn frame n → TakesIn frame m
takes_in-more (f.Signed op) n m le h = omega arith
takes_in-more (f.Left left op) n m le h = omega arith
takes_in-more f.Round n m le h = tt
takes_in-more (f.Index view) n m le h = tt
takes_in-more (f.List done) n m le h = tt
takes_in-more (f.Member done key) n m le h = tt
takes_in-more (f.ChooseYes test) n m le h = tt
takes_in-more (f.ChooseNo test positive) n m le h = tt

pub takes-more : (frames : List Open) (n m : ℕ) → n ≤ m → Takes frames n → Takes frames m
takes-more [] n m le h = tt
takes-more (o ∷ frames) n m le h = takes_in-more o.frame n m le h

not_le : (n m : ℕ) → m < n → nat_le n m ≡ false
not_le n m h = grind (arith, nat_tests)

pub is_le : (n m : ℕ) → n ≤ m → nat_le n m ≡ true
is_le n m h = grind (arith, nat_tests)

not_zero : (n : ℕ) → 1 ≤ n → (n == 0) ≡ false
not_zero n h = grind (arith, nat_tests)

keeps_in : (frame : Frame) (n m : ℕ) → TakesIn frame n → n ≤ 6 → n ≤ m → 1 ≤ m → folds m frame ≡ false
keeps_in (f.Signed op) n m h a b c = absurd (omega arith)
keeps_in (f.Left left op) n m h a b c = not_le m (level op) (omega arith)
keeps_in (f.ChooseNo test positive) n m h a b c = not_zero m c
keeps_in f.Round n m h a b c = refl
keeps_in (f.Index view) n m h a b c = refl
keeps_in (f.List done) n m h a b c = refl
keeps_in (f.Member done key) n m h a b c = refl
keeps_in (f.ChooseYes test) n m h a b c = refl

pub keeps : (frames : List Open) (n m : ℕ) → Takes frames n → n ≤ 6 → n ≤ m → 1 ≤ m → top_folds m frames ≡ false
keeps [] n m h a b c = refl
keeps (o ∷ frames) n m h a b c = keeps_in o.frame n m h a b c

abbrev pub whole : List Open → ℕ → Expr → Whole
whole frames room v = record { frames = frames; room = room; value = v }

-- nothing is ended where the innermost frame doesn't fold
pub folded-stays : (n : ℕ) (frames : List Open) (room : ℕ) (v : Expr) → top_folds n frames ≡ false → folded n frames room v ≡ whole frames room v
unfolding folded
folded-stays n [] room v h = refl
folded-stays n (o ∷ frames) room v h = ap (λ b. cond b (folded n frames o.room (made o.frame v)) (whole (o ∷ frames) room v)) h

-- a frame that folds is ended
pub folded-on : (n : ℕ) (frame : Frame) (outside : ℕ) (frames : List Open) (room : ℕ) (v : Expr) → folds n frame ≡ true
    → folded n (opened frame outside ∷ frames) room v ≡ folded n frames outside (made frame v)
unfolding folded
folded-on n frame outside frames room v h =
    ap (λ b. cond b (folded n frames outside (made frame v)) (whole (opened frame outside ∷ frames) room v)) h
