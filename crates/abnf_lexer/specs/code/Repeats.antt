-- A repeat as it is read, part by part.
use Rattle.std.specs.Prelude.{ℕ, ◌-◌, ◌==◌, nat_eq, List, length, take, drop, codes, Option, Some, None, if◌then◌else◌}
use Rattle.std.specs.List.{prefix_len, starts_with}
use Rattle.vg_base.specs.Characters.{is_space}
use Rattle.vg_base.specs.Runs.{begins, closing_end}
use Rattle.abnf_lexer.specs.declared.between.Enclosed.{Enclosed}
use Rattle.abnf_lexer.specs.declared.repeats.Ranged as repeats
use Rattle.abnf_lexer.specs.Classes.{is_empty}
use Rattle.abnf_lexer.specs.Repeats.{is_digit, Most, Same, Endless, UpTo, Numbers, most_of}

-- ---- what stands between an opening and the next closing

-- what is enclosed, and what is left behind it
pub record Parted : Type 0 where
  pub inside : List ℕ
  pub behind : List ℕ

abbrev pub parts_of : Enclosed → Parted
parts_of b = record { inside = b.inside.now; behind = b.behind.now }

abbrev pub parted : (close rest : List ℕ) → Option ℕ → Option Parted
parted close rest None = None
parted close rest (Some n) = Some (record { inside = take (n - length close) rest; behind = drop n rest })

abbrev pub between : (opening close text : List ℕ) → Option Parted
between opening close text =
    let rest = drop (length opening) text in
    if starts_with nat_eq text opening then parted close rest (closing_end close rest) else None

-- ---- a repeat

abbrev pub behind_spaces : List ℕ → List ℕ
behind_spaces text = drop (prefix_len is_space text) text

abbrev pub digits : List ℕ → List ℕ
digits text = take (prefix_len is_digit text) text

-- behind digits and white space
abbrev pub behind_digits : List ℕ → List ℕ
behind_digits text = behind_spaces (drop (prefix_len is_digit text) text)

-- at most how often, and what is left
pub record Ranged : Type 0 where
  pub most : Most
  pub rest : List ℕ

abbrev pub ranged_of : repeats.Ranged → Ranged
ranged_of r = record { most = most_of r.most; rest = r.rest.now }

abbrev pub behind_hyphen : List ℕ → Ranged
behind_hyphen text =
    if begins is_digit text then record { most = UpTo (digits text); rest = behind_digits text } else record { most = Endless; rest = text }

abbrev pub range : List ℕ → Ranged
range text = if begins (λ c. c == 45) text then behind_hyphen (behind_spaces (drop 1 text)) else record { most = Same; rest = text }

abbrev pub chance_in : Option Parted → Option (Option (List ℕ))
chance_in None = None
chance_in (Some parts) = if is_empty (behind_spaces parts.behind) then Some (Some parts.inside) else None

abbrev pub chance : List ℕ → Option (Option (List ℕ))
chance text = if is_empty text then Some None else chance_in (between (codes "/") (codes "/") text)

abbrev pub with_chance : List ℕ → Most → Option (Option (List ℕ)) → Option Numbers
with_chance least most None = None
with_chance least most (Some chance) = Some (record { least = least; most = most; chance = chance })

abbrev pub with_range : List ℕ → Ranged → Option Numbers
with_range least ranged = with_chance least ranged.most (chance ranged.rest)

abbrev pub numbers : List ℕ → Option Numbers
numbers text = if begins is_digit text then with_range (digits text) (range (behind_digits text)) else None

abbrev pub in_angles : Option Parted → Option Numbers
in_angles None = None
in_angles (Some parts) = if is_empty parts.behind then numbers (behind_spaces parts.inside) else None

-- the repeat that the slice is
abbrev pub repeat : List ℕ → Option Numbers
repeat slice = in_angles (between (codes "<") (codes ">") slice)
