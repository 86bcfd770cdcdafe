-- What holds of every delivery holds of printing and of counting.
use Rattle.std.proofs.Common.{◌≡◌, ℕ, ◌+◌, ◌-◌, ◌^◌, ◌<◌, min, List, [], ◌++◌, length, refl, sym, ap, ◌∙◌, subst, append_assoc, arith, length-append}
use Rattle.std.specs.List.{flat_map}
use Rattle.std.specs.Io.KnownBytes.{Appends}
use Rattle.std.proofs.KnownBytes.{Appends-trans, Appends-nil}
use Rattle.std.proofs.lemmas.List.Concat.{flat_map-append}
use Rattle.vg_io.specs.Sinks.{ToldSink}
use Rattle.server_shell.specs.Delivery.{IsLawful, CountsMore, printed, counted_replies}

pub printing_is_lawful : {O R : Type 0} (told : O → ToldSink) (line_of : R → List ℕ)
    → IsLawful (printed told line_of)
printing_is_lawful told line_of = record {
  nothing = λ a. Appends-nil (told a).written;
  more = λ a b c xs ys (p, q).
      subst (Appends (told a).written (told c).written) (sym (flat_map-append line_of xs ys))
      (Appends-trans (told a).written (told b).written (told c).written _ _ p q);
  none = λ a xs. ([], flat_map line_of xs, refl, Appends-nil (told a).written);
  part = λ a b c xs ys (p, (got, unwritten, text, appended)). (
    flat_map line_of xs ++ got,
    unwritten,
    flat_map-append line_of xs ys ∙ ap (λ l. flat_map line_of xs ++ l) text
        ∙ sym (append_assoc _ got unwritten),
    Appends-trans (told a).written (told b).written (told c).written _ got p appended,
  );
}

below : (a b : ℕ) → b ≡ min a (2 ^ 64 - 1) → b < 2 ^ 64
below a b p = omega (arith, p)

counts_none : (a : ℕ) → CountsMore a a 0
counts_none a few = omega (arith, few)

module _ (a b c : ℕ) where
  counts_both : (x y : ℕ) → b ≡ min (a + x) (2 ^ 64 - 1) → c ≡ min (b + y) (2 ^ 64 - 1)
      → c ≡ min (a + (x + y)) (2 ^ 64 - 1)
  counts_both x y p q = omega (arith, p, q)

  counts_more : (x y : ℕ) → CountsMore a b x → CountsMore b c y → CountsMore a c (x + y)
  counts_more x y p q few = counts_both x y (p few) (q (below (a + x) b (p few)))

pub counting_is_lawful : {R : Type 0} → IsLawful (counted_replies {R = R})
counting_is_lawful = record {
  nothing = λ a. counts_none a;
  more = λ a b c xs ys (p, q).
      subst (CountsMore a c) (sym (length-append xs ys))
      (counts_more a b c (length xs) (length ys) p q);
  none = λ a xs. (0, omega arith, counts_none a);
  part = λ a b c xs ys (p, (n, few, q)). (
    length xs + n,
    omega (arith, few, length-append xs ys),
    counts_more a b c (length xs) n p q,
  );
}
