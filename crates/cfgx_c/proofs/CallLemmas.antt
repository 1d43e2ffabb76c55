-- What two calls over the same text, answers and facts have in common.
use Rattle.std.proofs.Common.{◌≡◌, ◌∙◌, ◌≤◌, ◌+◌, ◌*◌, ℕ, Bool, List, [], ◌∷◌, Option, Some}
use Rattle.std.proofs.Common.{ap, arith, drop, length, map, option_map, refl, sym, take}
use Rattle.std.proofs.Common.{None, count_by, subst}
use Rattle.std.proofs.Math.Seq.{take-length}
use Rattle.std.proofs.lemmas.Bool.{le-leb}
use Rattle.std.proofs.lemmas.List.{length-map, take_at}
use Rattle.std.proofs.lemmas.Option.{slice_get-map}
use Rattle.std.specs.List.{AllZip}
use Rattle.std.specs.Prelude.{IsSomeAnd, slice_get}
use Rattle.std.specs.Str.{IsUtf8, IsValidUpTo}
use Rattle.cfgx_syntax.proofs.TokenList.{ItemsFrom-same}
use Rattle.cfgx_syntax.specs.{Error.Fault, Items.lexical, Stripping.strip, Stripping.strip_offset}
use Rattle.cfgx_grammar.proofs.Answering.{only_tree}
use Rattle.cfgx_grammar.specs.{Question.Question, Tree.asked}
use Rattle.cfg_expr.proofs.stepped.Forests.{HasValue-one}
use Rattle.cfg_expr.proofs.stepped.Numbers.{AreCounted-steps, HasValue-steps}
use Rattle.cfg_expr.specs.Filling.{three_valued}
use Rattle.cfg_expr.specs.Fold.{tree_fold}
use Rattle.cfg_expr.specs.Steps.{HasValue, steps_of}
use Rattle.cfgx_engine.specs.Audits.{HasValueOver}
use Rattle.cfgx_engine.specs.Facts.{FactTexts, IsAnswer, texts_of}
use Rattle.cfgx_engine.specs.declared.resolve.facts.Otherwise.{Otherwise}
use Rattle.cfgx_c.specs.{Answers.AnswersOfFacts, Audit.ValuesBy, Buffer.FillsBoth}
use Rattle.cfgx_c.specs.Faults.{HasNoUtf8}
use Rattle.cfgx_c.specs.Steps.{Applies, AreCMiscounted, Compiles, HaveNoCValue, c_step, is_c_ask}
use Rattle.cfgx_c.specs.Status.{done}
use Rattle.cfgx_c.specs.Tokens.{HasLexicalFault, IsNoUtf8, ListsTokens, TellsLexical, c_token}
use Rattle.cfgx_c.specs.Value.{HasValueByteOver, answer_of, byte_of_value}
use Rattle.cfgx_c.specs.declared.fault.CfgxFault.{CfgxFault}
use Rattle.cfgx_c.specs.declared.predicates.CfgxPredicate.{CfgxPredicate}
use Rattle.cfgx_c.specs.declared.steps.CfgxStep.{CfgxStep}
use Rattle.cfgx_c.specs.declared.tokens.CfgxToken.{CfgxToken}
use Rattle.cfgx_c.proofs.CSteps.{count-c_steps, same_steps}

-- a buffer with room begins with its items
begins_with : {S T : Type 0} (items old new : List S) (others other_old other_new : List T)
    → FillsBoth items old new others other_old other_new → length items ≤ length old
    → length others ≤ length other_old → take (length items) new ≡ items
begins_with items old new others other_old other_new fills fits other_fits =
    let is = rw (le-leb _ _ fits, le-leb _ _ other_fits) at fills.0 in
    ap (take (length items)) is ∙ take_at items (drop (length items) old) (length items) refl

pub Applies-compiled : (text answers : List ℕ) (old_steps new_steps : List CfgxStep)
    (steps_needed : ℕ) (old_predicates new_predicates : List CfgxPredicate)
    (predicates_needed value : ℕ)
    → Compiles text old_steps new_steps steps_needed old_predicates new_predicates
    predicates_needed → steps_needed ≤ length old_steps → predicates_needed ≤ length old_predicates
    → HasValueByteOver (strip text) answers value
    → Applies (take steps_needed new_steps) answers value
Applies-compiled text answers old_steps new_steps steps_needed old_predicates new_predicates
    predicates_needed value compiles fits other_fits has =
    let tree = compiles.one.tree in
    let same = only_tree compiles.one has.one.tree has.one.reads.has in
    let shown = map c_step (steps_of tree) in
    let many : length shown ≡ steps_needed =
    length-map (steps_of tree) c_step ∙ sym compiles.steps_needed_is in
    let counted : length (map answer_of answers) ≡ length (asked tree) =
    length-map answers answer_of ∙ has.count ∙ ap (λ t. length (asked t)) same in
    let seen_are : shown ≡ take steps_needed new_steps =
    sym (ap (λ n. take n new_steps) (sym many)
    ∙ begins_with shown old_steps new_steps compiles.predicates old_predicates new_predicates
    compiles.fills (omega (arith, many, fits))
    (omega (arith, compiles.predicates_needed_is, other_fits))) in
    record {
      counted = sym (length-map answers answer_of)
          ∙ AreCounted-steps tree (map answer_of answers) counted
          ∙ sym (count-c_steps (steps_of tree))
          ∙ ap (count_by is_c_ask) seen_are;
      of = tree_fold three_valued tree (map answer_of answers);
      has = record {
        steps = steps_of tree;
        are = seen_are;
        has = HasValue-steps three_valued tree (map answer_of answers) counted;
      };
      value_is = has.value_is
          ∙ ap (λ t. byte_of_value (tree_fold three_valued t (map answer_of answers))) same;
    }

-- Steps that C sees the same have the same values.

module _ (seen : List CfgxStep) (answers : List ℕ) where
  pub Applies-same : (one other : ℕ) → Applies seen answers one → Applies seen answers other
      → one ≡ other
  Applies-same one other this that =
      let steps = same_steps this.has.steps that.has.steps (that.has.are ∙ sym this.has.are) in
      let value = HasValue-one three_valued (map answer_of answers) that.has.steps this.of that.of
      (subst (λ list. HasValue three_valued list (map answer_of answers) this.of) steps
      this.has.has) that.has.has in
      this.value_is ∙ ap byte_of_value value ∙ sym that.value_is

  pub Applies-some : (value : ℕ) → Applies seen answers value → ¬ HaveNoCValue seen answers
  Applies-some value applies none = none.none applies.of applies.has

  pub Applies-counted : (value : ℕ) → Applies seen answers value → ¬ AreCMiscounted seen answers
  Applies-counted value applies other = other applies.counted

  pub HaveNoCValue-counted : HaveNoCValue seen answers → ¬ AreCMiscounted seen answers
  HaveNoCValue-counted none other = other none.counted

-- the value over an answer in a byte is that over the answer
answer_of-byte : (answer : Option Bool) → answer_of (byte_of_value answer) ≡ answer
answer_of-byte answer = grind arith

all_answers : (answers : List (Option Bool)) → map answer_of (map byte_of_value answers) ≡ answers
all_answers [] = refl
all_answers (answer ∷ answers) = rw (answer_of-byte answer, all_answers answers) refl

-- facts have one answer to a question
IsAnswer-same : (facts : FactTexts) (otherwise : Otherwise) (question : Question)
    (one other : Option Bool) → IsAnswer facts otherwise question one
    → IsAnswer facts otherwise question other → one ≡ other
IsAnswer-same facts otherwise question one other this that = grind arith

same_answers : (facts : FactTexts) (otherwise : Otherwise) (questions : List Question)
    (one other : List (Option Bool)) → AllZip (IsAnswer facts otherwise) questions one
    → AllZip (IsAnswer facts otherwise) questions other → one ≡ other
same_answers facts otherwise [] [] [] this that = refl
same_answers facts otherwise (question ∷ questions) (a ∷ one) (b ∷ other) this that =
    let first = IsAnswer-same facts otherwise question a b this.0 that.0 in
    let rest = same_answers facts otherwise questions one other this.1 that.1 in cc
same_answers facts otherwise [] (a ∷ one) other this that = absurd this
same_answers facts otherwise [] [] (b ∷ other) this that = absurd that
same_answers facts otherwise (question ∷ questions) [] other this that = absurd this
same_answers facts otherwise (question ∷ questions) (a ∷ one) [] this that = absurd that

length-zipped : {X Y : Type 0} (R : X → Y → Type 0) (xs : List X) (ys : List Y) → AllZip R xs ys
    → length ys ≡ length xs
length-zipped R [] [] all = refl
length-zipped R (x ∷ xs) (y ∷ ys) all =
    let rest = length-zipped R xs ys all.1 in omega (arith, rest)
length-zipped R [] (y ∷ ys) all = absurd all
length-zipped R (x ∷ xs) [] all = absurd all

-- the value over what the facts answer is that over these answers
value_of_answers : (text : List ℕ) (facts : List (List ℕ)) (otherwise : Otherwise)
    (answers : List (Option Bool)) (value : Option Bool)
    → AnswersOfFacts text facts otherwise answers
    → HasValueOver (IsAnswer (texts_of facts) otherwise) (strip text) value
    → HasValueByteOver (strip text) (map byte_of_value answers) (byte_of_value value)
value_of_answers text facts otherwise answers value by has =
    let tree = only_tree by.one has.one.tree has.one.reads.has in
    let answered = rw tree at has.answered in
    let same = same_answers (texts_of facts) otherwise (asked by.one.tree) has.answers answers
    answered by.answered in
    record {
      one = by.one;
      count = length-map answers byte_of_value ∙ length-zipped _ _ _ by.answered;
      value_is = rw all_answers (ap byte_of_value (has.value_is
          ∙ ap (tree_fold three_valued has.one.tree) same
          ∙ ap (λ t. tree_fold three_valued t answers) tree));
    }

some_weaker : {T : Type 0} (found : Option T) (P Q : T → Type 0) → ((x : T) → P x → Q x)
    → IsSomeAnd found P → IsSomeAnd found Q
some_weaker None P Q weaker has = absurd has
some_weaker (Some x) P Q weaker has = weaker x has

pub HasValueByteOver-audited : (texts : List (List ℕ)) (targets : List (List (List ℕ)))
    (otherwise : Otherwise) (values answers : List (Option Bool)) (i j : ℕ) (text : List ℕ)
    (facts : List (List ℕ)) → ValuesBy texts targets otherwise values
    → slice_get texts i ≡ Some text → slice_get targets j ≡ Some facts
    → AnswersOfFacts text facts otherwise answers
    → IsSomeAnd (slice_get values (i * length targets + j))
    (λ value. HasValueByteOver (strip text) (map byte_of_value answers) (byte_of_value value))
HasValueByteOver-audited texts targets otherwise values answers i j text facts are this that by =
    let at : slice_get (map strip texts) i ≡ Some (strip text) =
    slice_get-map strip texts i ∙ ap (option_map strip) this in
    let has = are.each i j (strip text) facts at that in
    some_weaker (slice_get values (i * length targets + j)) _ _
    (λ value. value_of_answers text facts otherwise answers value by) has

-- bytes that are not UTF-8 have a place up to which they are valid, behind which no more are
no_place : (text : List ℕ) (place : ℕ) → IsUtf8 text → ¬ IsValidUpTo text place
no_place text place utf8 valid =
    valid.longest (length text) valid.short (rw (take-length text) utf8)

pub no_utf8 : (text : List ℕ) (fault : CfgxFault) → IsUtf8 text → ¬ HasNoUtf8 text fault
no_utf8 text fault utf8 has = no_place text has.0 utf8 has.1

pub no_utf8_tokens : (text : List ℕ) (fault : CfgxFault) (offset : ℕ) → IsUtf8 text
    → ¬ IsNoUtf8 text fault offset
no_utf8_tokens text fault offset utf8 has = no_place text has.0 utf8 has.1

-- Tokens that are listed twice.

-- a lexical fault has one status and one fault as C sees it
same_telling : (text : List ℕ) (found : Option Fault) (one other : ℕ) (fault others : CfgxFault)
    → TellsLexical text found one fault → TellsLexical text found other others
    → (one ≡ other) × (fault ≡ others)
same_telling text None one other fault others this that =
    (this.0 ∙ sym that.0, this.1 ∙ sym that.1)
same_telling text (Some found) one other fault others this that =
    (this.0 ∙ sym that.0, this.1 ∙ sym that.1)

pub ListsTokens-same : (text : List ℕ) (one other : ℕ) (old new other_old other_new : List CfgxToken)
    (needed other_needed : ℕ) (fault other_fault : CfgxFault)
    → ListsTokens text one old new needed fault
    → ListsTokens text other other_old other_new other_needed other_fault
    → (one ≡ other) × (needed ≡ other_needed) × (fault ≡ other_fault)
ListsTokens-same text one other old new other_old other_new needed other_needed fault other_fault
    this that =
    let same = ItemsFrom-same (strip text) 0 this.items that.items this.ending that.ending
    this.are_items that.are_items in
    let told = same_telling text (lexical (strip text) this.ending) one other fault other_fault
    this.tells (subst (λ ending. TellsLexical text (lexical (strip text) ending) other other_fault)
    same.1 that.tells) in
    let count = ap (λ items. length (map (c_token (strip_offset text)) items)) same.0 in
    (told.0, this.fills.0 ∙ sym count ∙ sym that.fills.0, told.1)

told_done : (text : List ℕ) (found : Option Fault) (fault : CfgxFault)
    → TellsLexical text found done fault → (error : Fault) → found ≡ Some error → ⊥
told_done text None fault tells error is = cc
told_done text (Some found) fault tells error is = let told = tells.0 in omega (arith, told)

-- tokens that end well end at no fault
pub ListsTokens-done : (text : List ℕ) (old new : List CfgxToken) (needed : ℕ) (fault : CfgxFault)
    → ListsTokens text done old new needed fault → ¬ HasLexicalFault (strip text)
ListsTokens-done text old new needed fault lists has =
    let same = ItemsFrom-same (strip text) 0 lists.items has.items lists.ending has.ending
    lists.are_items has.are_items in
    told_done text (lexical (strip text) lists.ending) fault lists.tells has.fault
    (ap (lexical (strip text)) (sym same.1) ∙ has.has)
