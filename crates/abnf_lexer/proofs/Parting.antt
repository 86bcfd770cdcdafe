-- What stands between an opening and the next closing: what is found stands there (`between_of`), and is found where it stands (`between_found`).
use Rattle.std.proofs.Common.{◌≡◌, ℕ, ◌+◌, ◌-◌, ◌<◌, Bool, true, false, cond, Option, Some, None, List, ◌++◌, length, take, drop, nat_eq, refl, sym, ap, subst, ◌∙◌, arith, append_assoc, length-append}
use Rattle.std.specs.List.{starts_with}
use Rattle.std.proofs.lemmas.List.{take_at, drop_at}
use Rattle.std.proofs.lemmas.Option.{none-some, same_Some}
use Rattle.vg_base.specs.Runs.{closing_end, ReachesFirst}
use Rattle.vg_base.proofs.Closings.{begins_so, so_begins, closed_of, found_end}
use Rattle.abnf_lexer.specs.code.Repeats.{Parted, parted, between}

-- the text is an opening, this up to the next closing, that, and what is left
pub record Stands (opening close text : List ℕ) (p : Parted) : Type 0 where
  pub whole : text ≡ opening ++ (p.inside ++ (close ++ p.behind))
  pub first : ReachesFirst close p.inside

module _ (opening close : List ℕ) where
  parted_of : (text rest : List ℕ) (p : Parted) (n : ℕ) → text ≡ opening ++ rest → closing_end close rest ≡ Some n → parted close rest (Some n) ≡ Some p → Stands opening close text p
  parted_of text rest p n e h q =
      let k = closed_of close rest n h in
      let whole : Parted = record { inside = take (n - length close) rest; behind = drop n rest } in
      let inside : take (n - length close) rest ≡ k.inside = ap (take (n - length close)) k.parts ∙ take_at k.inside (close ++ k.rest) (n - length close) (omega (arith, k.long)) in
      let behind : drop n rest ≡ k.rest = ap (drop n) (k.parts ∙ sym (append_assoc k.inside close k.rest)) ∙ drop_at (k.inside ++ close) k.rest n (length-append k.inside close ∙ k.long) in
      subst (Stands opening close text) (same_Some whole p q)
      (record {
        whole = e ∙ ap (λ (l : List ℕ). opening ++ l) (k.parts ∙ (λ i. (sym inside) i ++ (close ++ (sym behind) i)));
        first = subst (ReachesFirst close) (sym inside) k.first;
      })

  pub between_of : (text : List ℕ) (p : Parted) → between opening close text ≡ Some p → Stands opening close text p
  between_of text p e = by_start (starts_with nat_eq text opening) refl e
    where
      by_end : (rest : List ℕ) (o : Option ℕ) → text ≡ opening ++ rest → closing_end close rest ≡ o → parted close rest o ≡ Some p → Stands opening close text p
      by_end rest None w h q = absurd (none-some p q)
      by_end rest (Some n) w h q = parted_of text rest p n w h q

      by_start : (b : Bool) → starts_with nat_eq text opening ≡ b → cond b (parted close (drop (length opening) text) (closing_end close (drop (length opening) text))) None ≡ Some p → Stands opening close text p
      by_start false h q = absurd (none-some p q)
      by_start true h q = by_end (drop (length opening) text) (closing_end close (drop (length opening) text)) (begins_so text opening h) refl q

  pub between_found : (text : List ℕ) (p : Parted) → 0 < length close → Stands opening close text p → between opening close text ≡ Some p
  between_found text p some s =
      let rest : List ℕ = p.inside ++ (close ++ p.behind) in
      let long : ℕ = length p.inside + length close in
      let left : drop (length opening) text ≡ rest = ap (drop (length opening)) s.whole ∙ drop_at opening rest (length opening) refl in
      let found : closing_end close rest ≡ Some long = found_end close p.inside p.behind some s.first in
      let inside : take (long - length close) rest ≡ p.inside = take_at p.inside (close ++ p.behind) (long - length close) (omega arith) in
      let behind : drop long rest ≡ p.behind = ap (drop long) (sym (append_assoc p.inside close p.behind)) ∙ drop_at (p.inside ++ close) p.behind long (length-append p.inside close) in
      ap (λ b. cond b (parted close (drop (length opening) text) (closing_end close (drop (length opening) text))) None) (so_begins text opening rest s.whole)
      ∙ (ap (λ (l : List ℕ). parted close l (closing_end close l)) left
      ∙ (ap (parted close rest) found ∙ (λ i. Some (record { inside = inside i; behind = behind i }))))
