-- Expansions laid as nodes (`Adds`): `adds_both` puts two rows together, `adds_alone` is a node without parts, `adds_filled` one whose place
-- is held while its parts are laid; `lays_row` and those below it say so of each kind. `SoFar` is the row of which the parts so far are laid.
use Rattle.std.proofs.Common.{ℕ, ◌+◌, ◌≤◌, ◌≡◌, Option, List, [], ◌∷◌, ◌++◌, length, map, reverse, refl, sym, ap, subst, ◌∙◌, arith, append_assoc, length-append}
use Rattle.std.specs.Prelude.{slice_set}
use Rattle.std.specs.List.{flat_map, AllByRecursion}
use Rattle.std.proofs.lemmas.Grind.{flat_map-append}
use Rattle.std.proofs.lemmas.List.{append-nil, map-append, reverse-append}
use Rattle.std.proofs.Math.ListN.{length-set}
use Rattle.vg_base.specs.declared.numbers.NodeIx.{NodeIx}
use Rattle.vg_base.specs.declared.numbers.RuleIx.{RuleIx}
use Rattle.grammar_tree.specs.declared.document.Doc.{Doc}
use Rattle.grammar_tree.specs.declared.expansion.Goal.{Goal}
use Rattle.grammar_tree.specs.declared.expansion.Reference.{Reference}
use Rattle.grammar_tree.specs.declared.expansion.Expansion.{Expansion}
use Rattle.grammar_tree.specs.declared.expansion.Expansion.TheVariants as e
use Rattle.grammar_tree.specs.declared.linked.Node.{Node}
use Rattle.grammar_tree.specs.declared.linked.Node.TheVariants as node
use Rattle.rule_reader.specs.Imports.{IsReadable, uris_in, uri_of}
use Rattle.linker.specs.declared.laying.Laying.{Laying}
use Rattle.linker.specs.declared.scope.Scope.{Scope}
use Rattle.linker.specs.declared.set_fault.SetFault.{SetFault}
use Rattle.linker.specs.Readings.{Readings}
use Rattle.linker.specs.Numbers.{laid, one_by_one, starts}
use Rattle.linker.specs.SetFaults.{references_in, told}
use Rattle.linker.specs.Targets.{target}
use Rattle.linker.specs.code.Tellings.{Keeps}
use Rattle.linker.specs.code.Layings.{meant, nodes_of, faults_of, AreReadable, Adds, Lays, StartAt, Follows}
use Rattle.linker.proofs.LayingLists.{Tells, tells_both, behind, next_behind, nodes_both, starts_join, filled, all_apart}
use Rattle.linker.proofs.LayingKinds.{HasParts, IsRow, part_of_repeat, IsAlone, uris_of_reference, readable_goal, laid_repeat, alone_reference}

-- ---- rows

-- of two rows each is readable where both are
pub readable_apart : (xs ys : List Expansion) → AreReadable (xs ++ ys) → AreReadable xs × AreReadable ys
readable_apart xs ys h = all_apart IsReadable (flat_map uris_in xs) (flat_map uris_in ys) (subst (AllByRecursion IsReadable) (flat_map-append uris_in xs ys) h)

-- where the whole can be read, so can its parts
pub readable_parts : {x : Expansion} {parts : List Expansion} → HasParts x parts → AreReadable (x ∷ []) → AreReadable parts
readable_parts {x = x} has h = subst (AllByRecursion IsReadable) (append-nil (uris_in x) ∙ has.uris) h

module _ (docs : Readings) (own : Doc) (scope : Scope) where
  -- no expansion adds nothing
  pub adds_none : (old : Laying) → Adds docs own scope [] old old
  adds_none old = record {
    nodes = sym (append-nil old.nodes.items);
    faults = λ all keeps. subst (λ faults. Keeps faults old.faults) (sym (append-nil all)) keeps;
  }

  -- one row behind another
  pub adds_both : {xs ys : List Expansion} {old mid new : Laying} → Adds docs own scope xs old mid → Adds docs own scope ys mid new → Adds docs own scope (xs ++ ys) old new
  adds_both {xs = xs} {ys = ys} {old = old} {mid = mid} {new = new} a b =
      let f = laid (meant docs own scope) in
      let faults : List Expansion → List SetFault = λ zs. faults_of docs own scope (flat_map references_in zs) in
      let split : faults (xs ++ ys) ≡ faults xs ++ faults ys =
      ap (faults_of docs own scope) (flat_map-append references_in xs ys)
      ∙ flat_map-append (λ reference. told scope.key.now reference.place (target docs scope.set.now scope.place scope.key.now own reference.goal)) (flat_map references_in xs) (flat_map references_in ys) in
      record {
        nodes =
            nodes_both old.nodes.items (map f xs) (map f ys) a.nodes b.nodes
            ∙ ap (λ ones. old.nodes.items ++ one_by_one (length old.nodes.items) ones) (sym (map-append f xs ys));
        faults = subst (λ zs. Tells zs old.faults new.faults) (sym split) (tells_both (faults xs) (faults ys) a.faults b.faults);
      }

  -- a node without parts
  pub adds_alone : {x : Expansion} {one : Node} {references : List Reference} {old new : Laying} → IsAlone (meant docs own scope) x one references →
      new.nodes.items ≡ old.nodes.items ++ one ∷ [] → ((all : List SetFault) → Keeps all old.faults → Keeps (all ++ faults_of docs own scope references) new.faults) →
      Adds docs own scope (x ∷ []) old new
  adds_alone {x = x} {one = one} {references = references} {old = old} {new = new} is nodes faults =
      let n : ℕ = length old.nodes.items in
      let f = laid (meant docs own scope) in
      record {
        nodes = nodes ∙ ap (λ more. old.nodes.items ++ more) (sym (append-nil (f x n) ∙ is.node n));
        faults = λ all keeps.
            subst (λ (others : List Reference). Keeps (all ++ faults_of docs own scope others) new.faults) (sym (append-nil (references_in x) ∙ is.references_are)) (faults all keeps);
      }

-- a place was held, parts were laid, and then this node was put there
pub record IsFilled (one : Node) (old held mid new : Laying) : Type 0 where
  pub place : held.nodes.items ≡ old.nodes.items ++ node.Null ∷ []
  pub place_faults : held.faults ≡ old.faults
  pub put : new.nodes.items ≡ slice_set mid.nodes.items (length old.nodes.items) one
  pub put_faults : new.faults ≡ mid.faults

-- the number behind the place that is held
pub next_held : {one : Node} {old held mid new : Laying} → IsFilled one old held mid new → length held.nodes.items ≡ length old.nodes.items + 1
next_held {old = old} is = ap length is.place ∙ length-append old.nodes.items (node.Null ∷ [])

-- the nodes are no fewer then
pub filled_longer : {one : Node} {old held mid new : Laying} → IsFilled one old held mid new → length held.nodes.items ≤ length mid.nodes.items →
    length old.nodes.items ≤ length new.nodes.items
filled_longer {one = one} {old = old} {mid = mid} is le = omega (arith, next_held is, ap length is.put ∙ length-set mid.nodes.items (length old.nodes.items) one)

adds_filled : {docs : Readings} {own : Doc} {scope : Scope} {x : Expansion} {parts : List Expansion} {one : Node} {old held mid new : Laying} →
    IsFilled one old held mid new → HasParts x parts → Adds docs own scope parts held mid →
    laid (meant docs own scope) x (length old.nodes.items) ≡ one ∷ nodes_of docs own scope parts (length held.nodes.items) → Adds docs own scope (x ∷ []) old new
adds_filled {docs = docs} {own = own} {scope = scope} {x = x} {parts = parts} {one = one} {old = old} {held = held} {mid = mid} {new = new} is has adds whole =
    let n : ℕ = length old.nodes.items in
    let more : List Node = nodes_of docs own scope parts (length held.nodes.items) in
    record {
      nodes =
          is.put ∙ (ap (λ nodes. slice_set nodes n one) (adds.nodes ∙ ap (λ nodes. nodes ++ more) is.place)
          ∙ (filled old.nodes.items more node.Null one ∙ ap (λ nodes. old.nodes.items ++ nodes) (sym (append-nil (laid (meant docs own scope) x n) ∙ whole))));
      faults = λ all keeps.
          let after = adds.faults all (subst (Keeps all) (sym is.place_faults) keeps) in
          subst (λ (references : List Reference). Keeps (all ++ faults_of docs own scope references) new.faults) (sym (append-nil (references_in x) ∙ has.references))
          (subst (Keeps (all ++ faults_of docs own scope (flat_map references_in parts))) (sym is.put_faults) after);
    }

-- ---- a node that is pushed

-- this node is pushed, and nothing is told
pub record IsPushed (one : Node) (old new : Laying) : Type 0 where
  pub nodes : new.nodes.items ≡ old.nodes.items ++ one ∷ []
  pub faults : new.faults ≡ old.faults

-- the same of equal ones
pub as_pushed : {one other : Node} {old mid new : Laying} → IsPushed other mid new → mid ≡ old → other ≡ one → IsPushed one old new
as_pushed {other = other} {old = old} {new = new} pushed same is = subst (λ n. IsPushed n old new) is (subst (λ l. IsPushed other l new) same pushed)

-- the nodes are no fewer then
pub pushed_longer : {one : Node} {old new : Laying} → IsPushed one old new → length old.nodes.items ≤ length new.nodes.items
pushed_longer {one = one} {old = old} pushed = omega (arith, ap length pushed.nodes ∙ length-append old.nodes.items (one ∷ []))

-- ---- each kind

module _ (scope : Scope) where
  -- parts in a row
  pub lays_row : {x : Expansion} {parts : List Expansion} {one : List NodeIx → Node} {begin : List NodeIx} {old held mid new : Laying} → IsRow x parts one →
      IsFilled (one begin) old held mid new → Lays scope parts held mid → StartAt scope parts (length held.nodes.items) begin → Lays scope (x ∷ []) old new
  lays_row {parts = parts} {one = one} {old = old} {held = held} row is lays begins = λ docs own within readable.
      let within_parts = readable_parts row.has readable in
      let f = laid (meant docs own scope) in
      adds_filled is row.has (lays docs own within within_parts)
      (row.nodes (meant docs own scope) (length old.nodes.items)
      ∙ (ap (λ k. one (starts k (map f parts)) ∷ one_by_one k (map f parts)) (sym (next_held is))
      ∙ ap (λ numbers. one numbers ∷ one_by_one (length held.nodes.items) (map f parts)) (sym (begins docs own within within_parts))))

  -- a repeat, whose inner expansion was laid
  pub lays_repeat : {x : Expansion} {least : ℕ} {most : Option ℕ} {inner : Expansion} {start : NodeIx} {old held mid new : Laying} →
      x ≡ e.Rep least most inner → IsFilled (node.Rep least most start) old held mid new → start.0 ≡ length held.nodes.items →
      Lays scope (inner ∷ []) held mid → Lays scope (x ∷ []) old new
  lays_repeat {x = x} {least = least} {most = most} {inner = inner} {start = start} {old = old} {held = held} kind is begins lays = λ docs own within readable.
      let has = subst (λ z. HasParts z (inner ∷ [])) (sym kind) (part_of_repeat least most inner) in
      let f = laid (meant docs own scope) in
      let n : ℕ = length old.nodes.items in
      let at : n + 1 ≡ start.0 = sym (begins ∙ next_held is) in
      adds_filled is has (lays docs own within (readable_parts has readable))
      (ap (λ z. f z n) kind ∙ (laid_repeat (meant docs own scope) least most inner n
      ∙ (ap (λ k. node.Rep least most (record { 0 = k }) ∷ one_by_one k (f inner ∷ [])) at
      ∙ ap (λ k. node.Rep least most start ∷ one_by_one k (f inner ∷ [])) begins)))

  -- without parts and without a reference
  pub lays_leaf : {x kind : Expansion} {one : Node} {old new : Laying} → x ≡ kind → ((means : Goal → RuleIx) → IsAlone means kind one []) → IsPushed one old new →
      Lays scope (x ∷ []) old new
  lays_leaf {x = x} {one = one} {old = old} {new = new} is alone pushed = λ docs own within readable.
      let means = meant docs own scope in
      adds_alone docs own scope (subst (λ z. IsAlone means z one []) (sym is) (alone means)) pushed.nodes
      (λ all keeps. subst (λ told. Keeps told new.faults) (sym (append-nil all)) (subst (Keeps all) (sym pushed.faults) keeps))

  -- a reference that was followed
  pub lays_reference : {x : Expansion} {r : RuleIx} {old mid new : Laying} (reference : Reference) → x ≡ e.Ref reference → mid.nodes.items ≡ old.nodes.items →
      Follows scope reference old mid r → IsPushed (node.Ref r) mid new → Lays scope (x ∷ []) old new
  lays_reference {x = x} {r = r} {old = old} {mid = mid} {new = new} reference kind same follows pushed = λ docs own within readable.
      let means = meant docs own scope in
      let uris : uris_in x ≡ uri_of reference.goal = ap uris_in kind ∙ uris_of_reference reference in
      let followed = follows docs own within (readable_goal reference.goal (subst (AllByRecursion IsReadable) (append-nil (uris_in x) ∙ uris) readable)) in
      let alone = subst (λ z. IsAlone means z (node.Ref (means reference.goal)) (reference ∷ [])) (sym kind) (alone_reference means reference) in
      adds_alone docs own scope alone
      (pushed.nodes ∙ (ap (λ nodes. nodes ++ node.Ref r ∷ []) same ∙ ap (λ rule. old.nodes.items ++ node.Ref rule ∷ []) followed.0))
      (λ all keeps. subst (Keeps (all ++ faults_of docs own scope (reference ∷ []))) (sym pushed.faults) (followed.1 all keeps))

-- ---- a row of which the parts so far are laid

-- the first of these are laid, and those that are left come with the last one first
pub record SoFar (scope : Scope) (all left : List Expansion) (old new : Laying) (at : List NodeIx) : Type 0 where
  pub done : List Expansion
  pub whole : all ≡ done ++ reverse left
  pub lays : Lays scope done old new
  pub begin : StartAt scope done (length old.nodes.items) at

-- none of them yet
pub none_so_far : (scope : Scope) (all left : List Expansion) (old : Laying) → all ≡ reverse left → SoFar scope all left old old []
none_so_far scope all left old is = record {
  done = [];
  whole = is;
  lays = λ docs own within readable. adds_none docs own scope old;
  begin = λ docs own within readable. refl;
}

-- one more
pub one_so_far : {scope : Scope} {all left others : List Expansion} {x : Expansion} {old mid new : Laying} {at : List NodeIx} (next : NodeIx) →
    SoFar scope all left old mid at → left ≡ others ++ x ∷ [] → next.0 ≡ length mid.nodes.items → Lays scope (x ∷ []) mid new → SoFar scope all others old new (at ++ next ∷ [])
one_so_far {scope = scope} {others = others} {x = x} {old = old} {mid = mid} {at = at} next s is number lays = record {
  done = s.done ++ x ∷ [];
  whole = s.whole ∙ (ap (λ left. s.done ++ reverse left) is ∙ (ap (λ more. s.done ++ more) (reverse-append others (x ∷ [])) ∙ sym (append_assoc s.done (x ∷ []) (reverse others))));
  lays = λ docs own within readable.
      let apart = readable_apart s.done (x ∷ []) readable in
      adds_both docs own scope (s.lays docs own within apart.0) (lays docs own within apart.1);
  begin = λ docs own within readable.
      let apart = readable_apart s.done (x ∷ []) readable in
      let f = laid (meant docs own scope) in
      let n : ℕ = length old.nodes.items in
      let k : next.0 ≡ behind n (map f s.done) = number ∙ next_behind old.nodes.items (map f s.done) (s.lays docs own within apart.0).nodes in
      let same : next ≡ record { 0 = behind n (map f s.done) } = λ i. record { 0 = k i } in
      ap (λ numbers. numbers ++ next ∷ []) (s.begin docs own within apart.0)
      ∙ (ap (λ number. starts n (map f s.done) ++ number ∷ []) same ∙ sym (ap (starts n) (map-append f s.done (x ∷ [])) ∙ starts_join n (map f s.done) (f x ∷ [])));
}
