-- Answers that are put at the places of a tree's predicates, in the order in which it asks, stand
-- there as its nodes do.
use Rattle.std.proofs.Common.{◌≡◌, ⊎_elim, Bool, true, ℕ, zero, suc, ◌+◌, ◌-◌, ◌<◌}
use Rattle.std.proofs.Common.{List, [], ◌∷◌, length}
use Rattle.std.proofs.Common.{Some, map, get_or, set, refl, sym, ap, ◌∙◌, arith}
use Rattle.std.proofs.{lemmas.Bool.cases_eq, lemmas.Bool.cases_lt, lemmas.Grind.get_or-set_at}
use Rattle.std.proofs.{Math.Dec.ltb, lemmas.Bool.{lt-ltb, ltb-true}, lemmas.Simd.splat_is_map}
use Rattle.std.proofs.lemmas.Option.{slice_get_within}
use Rattle.cfgx_grammar.{specs.Answer.HasOneTree, proofs.Answering.only_tree}
use Rattle.std.proofs.lemmas.List.{ext_get_or, get_or-append_right, get_or-set_other}
use Rattle.std.proofs.lemmas.List.{get_or_append_left, get_or_past, length-map}
use Rattle.std.proofs.lemmas.List.{length-replicate, length-set, map-append}
use Rattle.std.specs.List.{AllByRecursion}
use Rattle.cfgx_grammar.specs.Tree.{Tree, Trees, is_function, is_leaf, asked}
use Rattle.cfg_expr.specs.Fold.{Operations, answered, tree_fold}
use Rattle.cfg_expr.specs.Given.{AreAnswersTo}
use Rattle.cfg_expr.proofs.SameShapes.{answered-shape}
use Rattle.cfg_expr.proofs.Dealing.{asked-answered}
use Rattle.cfgx_grammar.proofs.ListLemmas.{all_of_first, all_of_second}
use Rattle.cfgx_parser.proofs.Places.{length-places, read-places}
use Rattle.cfgx_parser.specs.nodes.Prefix.{Node, node_at, prefix, prefix_each, places, places_by}
use Rattle.cfgx_parser.specs.{nodes.Shape.{shape, shape_of}, declared.nodes.ExprNode.ExprNode}
use Rattle.cfgx_parser.specs.declared.function.Func.{Func}
use Rattle.cfgx_parser.proofs.Shapes.{length-shape, places-shape, shapes-shape}
use Rattle.cfg_expr.specs.nodes.AnswerSlots.{no_answers, put_at, with_answers}
use Rattle.cfg_expr.specs.nodes.Reading.{HoldsAnswers, Slot, nodes_value, slot_of}
use Rattle.cfg_expr.specs.declared.expr.evaluating.Slot.TheVariants as slot
use Rattle.cfg_expr.proofs.evaluated.Nodes.{read-mapped, shapes-kept}
use Rattle.cfg_expr.proofs.evaluated.Read.{nodes_value-holds}

-- the place is none of these
abbrev Misses : ℕ → List ℕ → Type 0
Misses place places = AllByRecursion (λ other. place ≡ other → ⊥) places

-- if each slot is right but for the places still to come, all are right at the end
put-right : {S : Type 0} (blank : S) (all slots : List S) (ps : List ℕ) (xs : List S)
    → map (λ place. get_or all place blank) ps ≡ xs → length slots ≡ length all
    → ((place : ℕ) → Misses place ps → get_or slots place blank ≡ get_or all place blank)
    → put_at slots ps xs ≡ all
put-right blank all slots [] [] found many right =
    ext_get_or blank slots all many (λ place inside. right place tt)
put-right blank all slots [] (x ∷ xs) found many right = absurd (cc)
put-right blank all slots (p ∷ ps) [] found many right = absurd (cc)
put-right blank all slots (p ∷ ps) (x ∷ xs) found many right =
    let here : get_or all p blank ≡ x = cc in
    let rest : map (λ place. get_or all place blank) ps ≡ xs = cc in
    put-right blank all (set slots p x) ps xs rest (length-set slots p x ∙ many)
    (λ place misses. ⊎_elim
    (λ same. ⊎_elim
    (λ below. get_or-set_at slots p place x blank same below ∙ sym here
    ∙ ap (λ n. get_or all n blank) (sym same))
    (λ past. get_or_past (set slots p x) place blank
    (omega (arith, same, past, length-set slots p x))
    ∙ sym (get_or_past all place blank (omega (arith, same, past, many))))
    (cases_lt p (length slots)))
    (λ other. get_or-set_other slots p place x blank other ∙ right place (other, misses))
    (cases_eq place p))

module _ {X Y : Type 0} (f g : Node X → Y) (blank : Y)
    (literals : (truth : Bool) → g (Node.literal truth) ≡ f (Node.literal truth))
    (functions : (func : Func) (len : ℕ) → g (Node.function func len) ≡ f (Node.function func len))
  where
    -- two maps of the nodes agree at what is none of the places, if they do at all but leaves
    mutual
      covered : (tree : Tree X) (first place offset : ℕ) → place ≡ first + offset
          → Misses place (places first tree)
          → get_or (map g (prefix tree)) offset blank ≡ get_or (map f (prefix tree)) offset blank
      covered (Tree.leaf x) first place zero is misses = absurd (misses.0 (omega (arith, is)))
      covered (Tree.leaf x) first place (suc offset) is misses = refl
      covered (Tree.literal truth) first place zero is misses = literals truth
      covered (Tree.literal truth) first place (suc offset) is misses = refl
      covered (Tree.list function trees) first place zero is misses = functions _ _
      covered (Tree.list function trees) first place (suc offset) is misses =
          let these = places_by is_function (first + 1) trees in
          each-covered trees (first + 1) place offset (omega (arith, is))
          (all_of_first _ these _ misses) (all_of_second _ these _ misses)
      covered (Tree.not tree) first place zero is misses = functions _ _
      covered (Tree.not tree) first place (suc offset) is misses =
          covered tree (first + 1) place offset (omega (arith, is)) misses

      each-covered : (trees : Trees X) (first place offset : ℕ) → place ≡ first + offset
          → Misses place (places_by is_function first trees)
          → Misses place (places_by is_leaf first trees)
          → get_or (map g (prefix_each trees)) offset blank
          ≡ get_or (map f (prefix_each trees)) offset blank
      each-covered Trees.none first place offset is inner own = refl
      each-covered (Trees.more (Tree.leaf x) trees) first place zero is inner own =
          absurd (own.0 (omega (arith, is)))
      each-covered (Trees.more (Tree.leaf x) trees) first place (suc offset) is inner own =
          each-covered trees (first + 1) place offset (omega (arith, is)) inner own.1
      each-covered (Trees.more tree trees) first place offset is inner own =
          let many = length-map (prefix tree) g in
          let many' = length-map (prefix tree) f in
          let rest = prefix_each trees in
          ap (λ l. get_or l offset blank) (map-append g (prefix tree) rest)
          ∙ ⊎_elim
          (λ below. get_or_append_left (map g (prefix tree)) (map g rest) blank offset
          (omega (arith, below, many))
          ∙ covered tree first place offset is (all_of_first _ (places first tree) _ inner)
          ∙ sym (get_or_append_left (map f (prefix tree)) (map f rest) blank offset
          (omega (arith, below, many'))))
          (λ past. get_or-append_right (map g (prefix tree)) (map g rest) _ offset blank many past
          ∙ each-covered trees _ place (offset - length (prefix tree)) (omega (arith, is))
          (all_of_second _ (places first tree) _ inner) own
          ∙ sym (get_or-append_right (map f (prefix tree)) (map f rest) _ offset blank many' past))
          (cases_lt offset (length (prefix tree)))
          ∙ ap (λ l. get_or l offset blank) (sym (map-append f (prefix tree) rest))

    -- what is put at the places of the predicates stands there as in the nodes
    pub placed : (tree : Tree X) → put_at (map g (prefix tree)) (places 0 tree)
        (map (λ x. f (Node.leaf x)) (asked tree)) ≡ map f (prefix tree)
    placed tree = put-right blank (map f (prefix tree)) (map g (prefix tree)) (places 0 tree) _
        (read-mapped tree f blank) (length-map (prefix tree) g ∙ sym (length-map (prefix tree) f))
        (λ place misses. covered tree 0 place place (omega arith) misses)

-- the answers that are put at the places of the predicates are those of the answered tree
holds-placed : {X T : Type 0} (otherwise : T) (tree : Tree X) (answers : List T)
    (nodes : List ExprNode) → map shape nodes ≡ map shape_of (prefix tree)
    → length answers ≡ length (asked tree) → HoldsAnswers nodes
    (with_answers (no_answers (length nodes)) (places 0 tree) answers)
    (answered otherwise tree answers)
holds-placed {T = T} otherwise tree answers nodes shapes many =
    let given = answered otherwise tree answers in
    let same = answered-shape otherwise tree answers in
    let count : length nodes ≡ length (prefix given) = sym (length-map nodes shape)
    ∙ ap length shapes ∙ length-map (prefix tree) shape_of ∙ length-shape tree given same in
    let blank : no_answers {T = T} (length (prefix given)) ≡ map (λ _. slot.Empty) (prefix given) =
    splat_is_map (prefix given) (length (prefix given)) slot.Empty refl in
    record {
      shapes = shapes ∙ shapes-shape tree given same;
      answers = rw (count, places-shape tree given same, blank)
          (ap (with_answers _ (places 0 given)) (sym (asked-answered otherwise tree answers many))
          ∙ placed slot_of (λ _. slot.Empty) slot.Empty (λ truth. refl) (λ func len. refl) given);
    }

-- each place is that of a node
inside-each : {Y : Type 0} (count : ℕ) (ps : List ℕ) (ys : List Y)
    → map (λ place. ltb place count) ps ≡ map (λ _. true) ys
    → AllByRecursion (λ place. place < count) ps
inside-each count [] ys same = tt
inside-each count (place ∷ ps) [] same = absurd (cc)
inside-each count (place ∷ ps) (y ∷ ys) same =
    (ltb-true place count (cc), inside-each count ps ys (cc))

pub places-inside : {X : Type 0} (tree : Tree X)
    → AllByRecursion (λ place. place < length (prefix tree)) (places 0 tree)
places-inside tree =
    let count = length (prefix tree) in
    inside-each count (places 0 tree) (asked tree)
    (read-places tree (λ place. ltb place count) (λ _. true)
    (λ place x stands. lt-ltb place count (slice_get_within (prefix tree) place _ stands)))

-- there are as many answers as the tree asks predicates
pub answers-many : {T : Type 0} {text : List ℕ} (one : HasOneTree text) (answers : List T)
    → AreAnswersTo answers text → length answers ≡ length (asked one.tree)
answers-many one answers given =
    given.2 ∙ ap (λ tree. length (asked tree)) (only_tree one given.0 given.1)

-- and as places
pub answers-places : {T : Type 0} {text ps : List ℕ}
    (found : (one : HasOneTree text) × (ps ≡ places 0 one.tree)) (answers : List T)
    → AreAnswersTo answers text → length ps ≡ length answers
answers-places found answers given = ap length found.1 ∙ length-places found.0.tree
    ∙ sym (answers-many found.0 answers given)

module _ {text : List ℕ} (nodes : List ExprNode) {ps : List ℕ}
    (kept : (one : HasOneTree text) × (map (node_at text) nodes ≡ prefix one.tree))
    (found : (one : HasOneTree text) × (ps ≡ places 0 one.tree)) where
  -- the places of a text's predicates are those of nodes
  pub text-within : (count : ℕ) → count ≡ length nodes
      → AllByRecursion (λ place. place < count) ps
  text-within count is =
      let many : length (prefix found.0.tree) ≡ count =
      sym (is ∙ sym (length-map nodes (node_at text)) ∙ ap length kept.1
      ∙ ap (λ tree. length (prefix tree)) (only_tree found.0 kept.0.tree kept.0.reads.has)) in
      rw (found.1, ← many) (places-inside found.0.tree)

  module _ {T : Type 0} {blank : List (Slot T)} (empty : blank ≡ no_answers (length nodes)) where
    pub text-inside : AllByRecursion (λ place. place < length blank) ps
    text-inside = text-within (length blank)
        (ap length empty ∙ length-replicate (length nodes) slot.Empty)

    -- the nodes leave the value of the tree over the answers that are put at the places
    pub text-value : (logic : Operations T) (one : HasOneTree text) (answers : List T)
        {slots : List (Slot T)} → length answers ≡ length (asked one.tree)
        → slots ≡ with_answers blank ps answers
        → nodes_value logic nodes slots ≡ Some (tree_fold logic one.tree answers)
    text-value logic one answers many put =
        let places_are : ps ≡ places 0 one.tree =
        found.1 ∙ ap (places 0) (only_tree one found.0.tree found.0.reads.has) in
        nodes_value-holds logic nodes _ (answered logic.top one.tree answers)
        (rw (put, empty, places_are) (holds-placed logic.top one.tree answers nodes
        (shapes-kept nodes kept one) many))
