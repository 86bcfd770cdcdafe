-- The names of files are found.
use Rattle.std.proofs.Common.{◌≡◌, ℕ, ◌<◌, List, true, IsSome, length, sym, ap, ◌∙◌, refl}
use Rattle.std.specs.Prelude.{slice_index_or}
use Rattle.std.specs.declared.cmp.Ordering.{Ordering}
use Rattle.std.specs.declared.cmp.Ordering.TheVariants.{Less, Equal, Greater}
use Rattle.std.specs.Ordering.{nat_cmp, is_eq, ordering_reverse}
use Rattle.std.specs.Cmp.Lexicographic.{slice_cmp, nat_list_cmp_total}
use Rattle.std.specs.BTreeMap.{is_at}
use Rattle.std.specs.List.{list_any}
use Rattle.std.proofs.lemmas.List.Folds.{list_any_at}
use Rattle.std.proofs.lemmas.Map.Made.{is_some-lookup}
use Rattle.vg_base.specs.Pairs.{find}
use Rattle.vg_io.specs.Stores.{Files, names_of}

equal : (o : Ordering) → o ≡ ordering_reverse o → is_eq o ≡ true
equal Less e = cc
equal Equal e = refl
equal Greater e = cc

-- each name of the files has bytes
pub find-name : (files : Files) (names : List (List ℕ)) → names ≡ names_of files
    → (k : ℕ) (d : List ℕ) → k < length names → IsSome (find (slice_index_or names k d) files)
find-name files names e k d below =
    let name = slice_index_or names k d in
    let test = is_at (slice_cmp nat_cmp name) in
    is_some-lookup test files ∙ ap (λ l. list_any test l) (sym e)
    ∙ list_any_at test names k d below
    (equal (slice_cmp nat_cmp name name) (nat_list_cmp_total.antisymm name name))
