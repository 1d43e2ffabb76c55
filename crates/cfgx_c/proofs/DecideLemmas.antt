-- The value that was found, and the fillings that were written, are a decision.
use Rattle.std.proofs.Common.{◌≡◌, ◌∙◌, ◌+◌, ◌<◌, ◌≤◌, ◌++◌, ℕ, Bool, List, Option, Some, None, ap}
use Rattle.std.proofs.Common.{append_assoc, arith, drop, false, length, map, refl, sym, true}
use Rattle.std.proofs.lemmas.Bool.{le-leb}
use Rattle.std.proofs.lemmas.Grind.{common_steps}
use Rattle.std.proofs.lemmas.List.{drop-drop, length-append, length-map}
use Rattle.std.proofs.lemmas.Slice.Zip.{firsts-zip}
use Rattle.std.specs.List.{zip}
use Rattle.cfgx_grammar.proofs.{Alike.length-asked, Answering.only_tree}
use Rattle.cfgx_grammar.specs.{Answer.HasOneTree, Tree.Tree, Tree.asked}
use Rattle.cfg_expr.proofs.{Exactness.IsExact-fold, SameShapes.polarities-shape}
use Rattle.cfg_expr.specs.Deciding.{AreFillingBytes}
use Rattle.cfg_expr.specs.Filling.{IsExact, filling_bytes, polar, polarities, three_valued}
use Rattle.cfg_expr.specs.Filling.{truth_byte}
use Rattle.cfg_expr.specs.{Fold.tree_fold, Given.AreAnswersTo}
use Rattle.cfgx_c.specs.{Buffer.Fills, Decide.DecidesOver, Decide.both_fillings}
use Rattle.cfgx_c.specs.Value.{answer_of, byte_of_value}

-- a polar filling has a truth value for each answer
length-polar : {X : Type 0} (tree : Tree X) (answers : List (Option Bool)) (fill : Bool)
    → length answers ≡ length (asked tree) → length (polar tree answers fill) ≡ length answers
length-polar tree answers fill all =
    let others = asked (polarities fill tree) in
    let same : length others ≡ length answers =
    length-asked _ tree _ (polarities-shape fill tree) ∙ sym all in
    length-map (zip answers others) _
    ∙ sym (length-map (zip answers others) (λ (pair : Option Bool × Bool). pair.0))
    ∙ ap length (firsts-zip answers others same)

module _ (text answers : List ℕ) (given : AreAnswersTo answers text) (one : HasOneTree text) where
  counted : length (map answer_of answers) ≡ length (asked one.tree)
  counted = length-map answers answer_of ∙ given.2
      ∙ ap (λ tree. length (asked tree)) (only_tree one given.0 given.1)

  length-filling : (fill : Bool)
      → length (filling_bytes (polar one.tree (map answer_of answers) fill)) ≡ length answers
  length-filling fill =
      length-map (polar one.tree (map answer_of answers) fill) truth_byte
      ∙ length-polar one.tree (map answer_of answers) fill counted ∙ length-map answers answer_of

  length-both : length answers + length answers
      ≡ length (both_fillings one.tree (map answer_of answers))
  length-both = omega (
    arith,
    length-filling true,
    length-filling false,
    length-append (filling_bytes (polar one.tree (map answer_of answers) true))
        (filling_bytes (polar one.tree (map answer_of answers) false)),
  )

  -- there is too little room
  pub Fills-none : (old : List ℕ) → length old < length answers + length answers
      → Fills (both_fillings one.tree (map answer_of answers)) old old
      (length answers + length answers)
  Fills-none old few = let long = length-both in grind (arith, common_steps)

  -- both fillings were written
  pub Fills-both : (old if_true if_false : List ℕ)
      → AreFillingBytes text (map answer_of answers) if_true if_false
      → length answers + length answers ≤ length old
      → Fills (both_fillings one.tree (map answer_of answers)) old
      (if_true ++ (if_false ++ drop (length answers) (drop (length answers) old)))
      (length answers + length answers)
  Fills-both old if_true if_false wrote fits =
      let same = only_tree one wrote.one.tree wrote.one.reads.has in
      let yes = rw same at wrote.true_is in
      let no = rw same at wrote.false_is in
      let given_answers = map answer_of answers in
      let filling = λ (fill : Bool). filling_bytes (polar one.tree given_answers fill) in (
        length-both,
        rw (le-leb _ _ fits, yes, no, drop-drop (length answers) (length answers) old)
            (sym (append_assoc (filling true) (filling false)
            (drop (length answers + length answers) old))),
      )

  exact : IsExact one.tree (map answer_of answers)
  exact = IsExact-fold one.tree (map answer_of answers) counted

-- the byte of a known value is not that of an unknown one
not_unknown : (known : Bool) → byte_of_value (Some known) ≡ byte_of_value None → ⊥
not_unknown true is = omega (arith, is)
not_unknown false is = omega (arith, is)

module _ (text answers : List ℕ) (given : AreAnswersTo answers text) where
  pub DecidesOver-known : (known : Bool) (old : List ℕ)
      → (one : HasOneTree text)
      × (Some known ≡ tree_fold three_valued one.tree (map answer_of answers))
      → DecidesOver text answers old old 0 (byte_of_value (Some known))
  DecidesOver-known known old (one, is) =
      let none : 0 ≤ length old = omega arith in
      record {
        one = one;
        exact = exact text answers given one;
        value_is = ap byte_of_value is;
        fills = rw (← is) (refl, rw (le-leb 0 (length old) none) refl);
        twice = λ unknown. absurd (not_unknown known unknown);
      }

  pub DecidesOver-unknown : (old new : List ℕ) (needed : ℕ)
      → (one : HasOneTree text) × (None ≡ tree_fold three_valued one.tree (map answer_of answers))
      → ((one : HasOneTree text)
      → Fills (both_fillings one.tree (map answer_of answers)) old new needed)
      → DecidesOver text answers old new needed (byte_of_value None)
  DecidesOver-unknown old new needed (one, is) filled = record {
    one = one;
    exact = exact text answers given one;
    value_is = ap byte_of_value is;
    fills = rw (← is) (filled one);
    twice = λ unknown. omega (arith, (filled one).0, length-both text answers given one);
  }
