-- A request has at most one output, whose status is not that of a refused run. It has one if its
-- words are UTF-8.
use Rattle.std.proofs.Common.{◌≡◌, ℕ, ◌<◌, ◌+◌, ◌-◌, Bool, true, List, [], ◌∷◌, ◌++◌}
use Rattle.std.proofs.Common.{Option, Some, None, Result, Ok, Err, MatchOption, ◌⊎◌, inl}
use Rattle.std.proofs.Common.{◌≤◌, inr, ⊎_elim, refl, ap, sym, ◌∙◌, subst, arith, rules, map, take}
use Rattle.std.proofs.Common.{length, drop, get_or, zero, suc, take_at, codes, bytes_eq}
use Rattle.std.specs.{List.AllByRecursion, List.AllZip, List.Any, List.enumerate_from, Str.is_utf8}
use Rattle.std.specs.{List.join_with_byte, Str.Lines.strip_carriage_return}
use Rattle.std.specs.declared.alloc.Global.{Global}
use Rattle.std.proofs.lemmas.{Bool.cases_lt, Bool.cases_Bool, Bool.Decides.Decides-eqb}
use Rattle.std.proofs.lemmas.{Grind.common_steps}
use Rattle.std.proofs.lemmas.{Slice.Eq.bytes_eq-Decides, Slice.Eq.ends_is, Slice.Eq.starts_is}
use Rattle.std.proofs.lemmas.List.{Sums.passes_at_first, Splits.join_with_byte-slice_split}
use Rattle.cfgx_syntax.specs.{Stripping.strip, Error.TextFault, Error.fault_in}
use Rattle.cfgx_targets.specs.{Builtins.builtin_rows, Table.row_with}
use Rattle.cfgx_targets.specs.declared.info.TargetInfo.{TargetInfo}
use Rattle.cfgx_grammar.specs.{Question.Question, Spelling.spelling, Tree.Tree, Tree.asked}
use Rattle.cfgx_grammar.specs.WellFormed.{IsWellFormed}
use Rattle.cfg_expr.specs.Filling.{three_valued}
use Rattle.cfg_expr.specs.Fold.{tree_fold}
use Rattle.cfgx_grammar.{specs.Answer.ReadsAs, proofs.alone.spelling_alone}
use Rattle.cfgx_grammar.proofs.{Answering.only_tree, Answering.same_fault, alone.well_formed_tree}
use Rattle.cfgx_engine.specs.Facts.{FactTexts, IsAnswer, Names, fact_text, texts_of}
use Rattle.cfgx_engine.specs.Facts.{unnamed_answer}
use Rattle.cfgx_engine.specs.declared.resolve.facts.Otherwise.{Otherwise}
use Rattle.cfgx_engine.specs.declared.resolve.facts.Otherwise.TheVariants as otherwise
use Rattle.cfgx_engine.specs.{Input.input_limit, Request.Request, Request.request_of}
use Rattle.cfgx_engine.specs.Output.{HasValueByFlags, Output, ValueBy, answer_on, result_output}
use Rattle.cfgx_engine.specs.Output.{tree_output, unknown_triple, usage, value_by}
use Rattle.cfgx_engine.specs.Prints.{Picks, Prints, input_not_utf8, too_long}
use Rattle.cfgx_engine.specs.Sections.{section_text}
use Rattle.cfgx_engine.specs.Readings.{GivesAll, ParsesAs}
use Rattle.cfgx_engine.proofs.ReadingLemmas.{GivesEach, GivesEach-all, first_fails, later_fails}
use Rattle.std.specs.Str.{IsUtf8}
use Rattle.std.proofs.lemmas.Str.{IsUtf8-from_is_utf8, is_utf8-from_IsUtf8}
use Rattle.cfgx_engine.specs.Sections.{Line, PrintsLine, line_of, lines_of, lines_output, no_tab}

-- at most one thing fits
abbrev IsSingle : {X : Type 0} → (X → Type 0) → Type 0
IsSingle {X} Holds = (one other : X) → Holds one → Holds other → one ≡ other

-- what is made of the one thing that fits
single-made : {X Y : Type 0} {Holds : X → Type 0} (make : X → Y) → IsSingle Holds
    → IsSingle (λ y. (x : X) × Holds x × (y ≡ make x))
single-made make single one other this that =
    this.2 ∙ ap make (single this.0 that.0 this.1 that.1) ∙ sym that.2

-- at most one output fits, and a run that writes it was not refused
abbrev pub IsDecided : (Output → Type 0) → Type 0
IsDecided Holds = (one other : Output) → Holds one → Holds other → (one ≡ other) × (one.status < 3)

-- an output that is given
decided : (shown : Output) → shown.status < 3 → IsDecided (λ output. output ≡ shown)
decided shown low one other this that =
    (this ∙ sym that, omega (arith, ap (λ (o : Output). o.status) this))

-- an output that is made of the one thing that fits
decided-made : {X : Type 0} {Holds : X → Type 0} (make : X → Output) → IsSingle Holds
    → ((x : X) → (make x).status < 3) → IsDecided (λ output. (x : X) × Holds x × (output ≡ make x))
decided-made make single low one other this that = grind (arith, single-made)

-- what holds of both outputs holds of the one that the row of a target chooses
by_row : {On : TargetInfo Global → Output → Type 0} (Says : (Output → Type 0) → Type 0)
    (triple : List ℕ) → Says (λ output. output ≡ unknown_triple)
    → ((row : TargetInfo Global) → Says (On row))
    → Says (λ output. MatchOption (row_with {A = Global} triple builtin_rows)
    (output ≡ unknown_triple) (λ row. On row output))
by_row {On} Says triple unknown on = elim (row_with {A = Global} triple builtin_rows) as (λ found.
    Says (λ output. MatchOption found (output ≡ unknown_triple) (λ row. On row output)))
    [ None ↦ unknown | Some row ↦ on row ]

-- lists whose items fit one by one
AllZip-single : {X Y : Type 0} {R : X → Y → Type 0} → ((x : X) → IsSingle (R x)) → (xs : List X)
    → IsSingle (AllZip R xs)
AllZip-single each [] [] [] this that = refl
AllZip-single each (x ∷ xs) (y ∷ ys) (z ∷ zs) this that =
    cc (each x y z this.0 that.0, AllZip-single each xs ys zs this.1 that.1)
AllZip-single each _ _ _ this that = absurd (search rules)

-- the values of all items, or the first error
GivesEach-single : {X T E : Type 0} {Gives : X → Result T E → Type 0}
    → ((x : X) → IsSingle (Gives x)) → (xs : List X) → IsSingle (GivesEach Gives xs)
GivesEach-single each [] one other this that = this ∙ sym that
GivesEach-single each (x ∷ xs) one other this that = grind (arith, GivesEach-single each xs)

GivesAll-single : {X T E : Type 0} {Gives : X → Result T E → Type 0}
    → ((x : X) → IsSingle (Gives x)) → (xs : List X) → IsSingle (GivesAll Gives xs)
GivesAll-single {Gives = Gives} each xs one other this that = GivesEach-single each xs one other
    (GivesEach-all Gives xs one this) (GivesEach-all Gives xs other that)

-- a text has one reading
ParsesAs-single : (text : List ℕ) → IsSingle (ParsesAs text)
ParsesAs-single text (Ok tree) (Ok other) this that = cc (that.only (Ok tree) this.has)
ParsesAs-single text (Err fault) (Err other) this that =
    ap Err (this.2 ∙ ap (fault_in (strip text)) (same_fault this.1 that.1) ∙ sym that.2)
ParsesAs-single text (Ok tree) (Err _) this that = absurd (cc (that.1.only (Ok tree) this.has))
ParsesAs-single text (Err _) (Ok other) this that = absurd (cc (this.1.only (Ok other) that.has))

-- the value over the answers of the flags
IsAnswer-single : (facts : FactTexts) (unnamed : Otherwise) (question : Question)
    → IsSingle (IsAnswer facts unnamed question)
IsAnswer-single facts unnamed question one other this that = grind arith

ValueBy-single : (flags : List (List ℕ)) (read : Result (List (Tree Question)) TextFault)
    → IsSingle (ValueBy flags read)
ValueBy-single flags (Ok []) one other this that = absurd this
ValueBy-single flags (Ok (tree ∷ trees)) one other (answers, each, is) (others, every, same) =
    let alike = AllZip-single (IsAnswer-single (texts_of flags) otherwise.False) (asked tree)
    answers others each every in
    is ∙ ap (λ given. Ok (tree_fold three_valued tree given)) alike ∙ sym same
ValueBy-single flags (Err fault) one other this that = this ∙ sym that

HasValueByFlags-single : (text : List ℕ) (flags : List (List ℕ))
    → IsSingle (HasValueByFlags text flags)
HasValueByFlags-single text flags one other this that =
    grind (arith, GivesAll-single, ParsesAs-single, ValueBy-single)

-- the output of lines
PrintsLine-single : (answer : Question → Option Bool) (numbered : ℕ × Line)
    → IsSingle (PrintsLine answer numbered)
PrintsLine-single answer numbered one other this that = grind (arith, single-made, ParsesAs-single)

-- the output of `pick` on an input that is too long, that is not UTF-8, or that is a text
is_long : (input : List ℕ) → (input_limit < length input) ⊎ (length input ≤ input_limit)
is_long input = cases_lt input_limit (length input)

is_text : (input : List ℕ) → IsUtf8 input ⊎ ¬ IsUtf8 input
is_text input = ⊎_elim (λ is. inl (IsUtf8-from_is_utf8 input is))
    (λ not. inr (λ utf8. absurd (cc (not, is_utf8-from_IsUtf8 input utf8))))
    (cases_Bool (is_utf8 input))

Picks-decided : (answer : Question → Option Bool) (input : List ℕ) → IsDecided (Picks answer input)
Picks-decided answer input one other this that =
    let lines = decided-made lines_output (GivesAll-single (PrintsLine-single answer)
    (enumerate_from 1 (map line_of (lines_of input)))) (λ printed. grind arith) in
    ⊎_elim
    (λ long. decided too_long (omega arith) one other (this.of_long long) (that.of_long long))
    (λ short. ⊎_elim
    (λ utf8. lines one other (this.of_text short utf8) (that.of_text short utf8))
    (λ not. decided input_not_utf8 (omega arith) one other (this.of_other_bytes short not)
    (that.of_other_bytes short not)) (is_text input)) (is_long input)

-- a request has one output at most on an input
pub Prints-decided : (request : Request) (input : List ℕ) → IsDecided (Prints request input)
Prints-decided (Request.parse text) input =
    decided-made tree_output (ParsesAs-single text) (λ read. grind arith)
Prints-decided (Request.eval text flags) input =
    decided-made result_output (HasValueByFlags-single text flags) (λ value. grind arith)
Prints-decided (Request.target triple text) input =
    by_row IsDecided triple (decided unknown_triple (omega arith)) (λ row. decided-made
    result_output (single-made (value_by (answer_on row)) (ParsesAs-single text))
    (λ value. grind arith))
Prints-decided (Request.pick triple) input = by_row IsDecided triple
    (decided unknown_triple (omega arith)) (λ row. Picks-decided (answer_on row) input)
Prints-decided Request.wrong_use input = decided usage (omega arith)

-- Something fits.
abbrev HasSome : {X : Type 0} → (X → Type 0) → Type 0
HasSome {X} Holds = (x : X) × Holds x

-- what is made of it
some_made : {X Y : Type 0} {Holds : X → Type 0} (make : X → Y) → HasSome Holds
    → HasSome (λ y. (x : X) × Holds x × (y ≡ make x))
some_made make one = (make one.0, (one.0, one.1, refl))

-- Whether an item of a list fits can be decided if it can be decided of each item.
module _ {X : Type 0} {Q P : X → Type 0} (each : (x : X) → Q x → P x ⊎ ¬ P x) where
  none_more : (x : X) (xs : List X) → ¬ P x → ¬ Any P xs → ¬ Any P (x ∷ xs)
  none_more x xs first others (zero, y, below, is, fits) = first (subst P (sym is) fits)
  none_more x xs first others (suc k, y, below, is, fits) = others (k, y, omega arith, is, fits)

  Any-known : (xs : List X) → AllByRecursion Q xs → Any P xs ⊎ ¬ Any P xs
  Any-known [] all = inr (λ any. absurd (omega (arith, any.2)))
  Any-known (x ∷ xs) all = ⊎_elim (λ fits. inl (0, x, omega arith, refl, fits))
      (λ first. ⊎_elim (λ any. inl (suc any.0, any.1, omega (arith, any.2), any.3, any.4))
      (λ others. inr (none_more x xs first others)) (Any-known xs all.1)) (each x all.0)

-- two predicates are the same if their spellings are
same-known : (question : Question) → IsWellFormed question → (other : Question) → IsWellFormed other
    → (other ≡ question) ⊎ ¬ (other ≡ question)
same-known question well_formed other too =
    let only = (spelling_alone question well_formed).reads.only (Ok (Tree.leaf other)) in
    let tells = bytes_eq-Decides (spelling other) (spelling question) in
    ⊎_elim (λ is. inl (cc (only (rw (tells.0 is) at (spelling_alone other too).reads.has))))
    (λ differ. inr (λ same. absurd (cc (tells.1 (ap spelling same)))))
    (cases_Bool (bytes_eq (spelling other) (spelling question)))

-- the values of all items, or the first error
GivesAll-some : {X T E : Type 0} (Gives : X → Result T E → Type 0) (xs : List X)
    → AllByRecursion (λ x. HasSome (Gives x)) xs → HasSome (GivesAll Gives xs)
GivesAll-some Gives [] all = (Ok [], tt)
GivesAll-some Gives (x ∷ xs) ((Err error, fails), all) =
    (Err error, first_fails Gives x xs error fails)
GivesAll-some {X} {T} {E} Gives (x ∷ xs) ((Ok value, gives), all) =
    more (GivesAll-some Gives xs all)
  where
    more : HasSome (GivesAll Gives xs) → HasSome (GivesAll Gives (x ∷ xs))
    more (Ok values, others) = (Ok (value ∷ values), (gives, others))
    more (Err error, found) = (Err error, later_fails Gives x value xs error gives found)

-- What is assumed of UTF-8 texts: a test decides them, the part before an ASCII byte is one, and so
-- is the part behind it, and each has a reading.
module _ (Q : List ℕ → Type 0) (tested : (text : List ℕ) → is_utf8 text ≡ true → Q text)
    (cut : (text : List ℕ) (i : ℕ) → Q text → i < length text → get_or text i 0 < 128
    → Q (take i text) × Q (drop (i + 1) text))
    (reads : (text : List ℕ) → Q text → HasSome (ReadsAs text)) where
  strip-is : (text : List ℕ) → Q text → Q (strip text)
  unfolding strip
  strip-is text is =
      let front = (starts_is Decides-eqb text (codes "cfg(") _ refl).0 in
      let back = (ends_is Decides-eqb text (codes ")") _ refl).0 in
      let after = cut text 3 is in
      let before = cut (drop 4 text) (length text - 1 - 4) in grind (arith, common_steps)

  ParsesAs-some : (text : List ℕ) → Q text → HasSome (ParsesAs text)
  ParsesAs-some text is = parsed (reads _ (strip-is text is))
    where
      parsed : HasSome (ReadsAs (strip text)) → HasSome (ParsesAs text)
      parsed (Ok tree, has) = (Ok tree, has)
      parsed (Err fault, has) = (Err (fault_in (strip text) fault), (fault, has, refl))

  -- a text names a predicate if its tree asks it
  Names-known : (question : Question) → IsWellFormed question → (text : List ℕ) → Q text
      → Names text question ⊎ ¬ Names text question
  Names-known question well_formed text is = named (reads text is)
    where
      named : HasSome (ReadsAs text) → Names text question ⊎ ¬ Names text question
      named (Err fault, read) = inr (λ names. absurd (cc (read.only (Ok names.0) names.1)))
      named (Ok tree, read) = ⊎_elim
          (λ any. inl (tree, read.has, (any.0, any.2, rw any.4 at any.3)))
          (λ none. inr (λ names.
          let found = rw (only_tree (record { tree = tree; reads = read }) _ names.1) at names.2 in
          none (found.0, question, found.1, found.2, refl)))
          (Any-known (same-known question well_formed) _ (well_formed_tree text tree read.has))

  -- the answers of the flags
  module _ (facts : FactTexts) (unnamed : Otherwise) (these : AllByRecursion Q facts.true_texts)
      (those : AllByRecursion Q facts.unknown_texts) where
    answers-some : (questions : List Question) → AllByRecursion IsWellFormed questions
        → HasSome (AllZip (IsAnswer facts unnamed) questions)
    answers-some [] all = ([], tt)
    answers-some (question ∷ questions) all =
        let names = Names-known question all.0 in
        let rest = answers-some questions all.1 in
        ⊎_elim (λ is. (Some true ∷ rest.0, (inl (is, refl), rest.1))) (λ not.
        ⊎_elim (λ is. (None ∷ rest.0, (inr (inl (not, is, refl)), rest.1))) (λ none.
        (unnamed_answer unnamed question ∷ rest.0, (inr (inr (not, none, refl)), rest.1)))
        (Any-known names facts.unknown_texts those)) (Any-known names facts.true_texts these)

  flags-are : (R : List ℕ → Type 0) → ((text : List ℕ) → Q text → R text)
      → (flags : List (List ℕ)) → AllByRecursion Q flags → AllByRecursion R (map fact_text flags)
      × AllByRecursion Q (texts_of flags).true_texts
      × AllByRecursion Q (texts_of flags).unknown_texts
  flags-are R each [] all = (tt, tt, tt)
  flags-are R each (flag ∷ flags) all =
      let rest = flags-are R each flags all.1 in
      let marked = cut flag 0 all.0 in grind (arith, strip-is, each)

  HasValueByFlags-some : (text : List ℕ) (flags : List (List ℕ)) → Q text → AllByRecursion Q flags
      → HasSome (HasValueByFlags text flags)
  HasValueByFlags-some text flags is all =
      let texts = flags-are (λ text. HasSome (ParsesAs text)) ParsesAs-some flags all in
      valued texts.1 texts.2
      (GivesAll-some ParsesAs (text ∷ map fact_text flags) (ParsesAs-some text is, texts.0))
    where
      valued : AllByRecursion Q (texts_of flags).true_texts
          → AllByRecursion Q (texts_of flags).unknown_texts
          → HasSome (GivesAll ParsesAs (text ∷ map fact_text flags))
          → HasSome (HasValueByFlags text flags)
      valued known unknown (Err fault, gives) = (Err fault, (Err fault, gives, refl))
      valued known unknown (Ok [], gives) = absurd (grind arith)
      valued known unknown (Ok (tree ∷ trees), gives) =
          let read : ReadsAs (strip text) (Ok tree) = grind arith in
          let all = answers-some _ otherwise.False known unknown _
          (well_formed_tree _ tree read.has) in
          (Ok (tree_fold three_valued tree all.0), (Ok (tree ∷ trees), gives, (all.0, all.1, refl)))

  -- what holds of each line holds of the lines of an input
  module _ (P : ℕ × Line → Type 0) (empty : (number : ℕ) → P (number, Line.empty))
      (undivided : (number : ℕ) → P (number, Line.undivided))
      (section : (number : _) (name text : _) → Q text → P (number, Line.section name text)) where
    line-is : (number : ℕ) (text : List ℕ) → Q text
        → P (number, line_of (strip_carriage_return text))
    line-is number text is = grind (arith, passes_at_first)

    lines-are : (number : ℕ) (parts : List (List ℕ)) → Q (join_with_byte 10 parts)
        → AllByRecursion P (enumerate_from number (map line_of (map strip_carriage_return parts)))
    lines-are number [] is = tt
    lines-are number (part ∷ []) is = (line-is number part is, tt)
    lines-are number (part ∷ next ∷ parts) is =
        let rest = join_with_byte 10 (next ∷ parts) in
        let both = cut (part ++ 10 ∷ rest) (length part) is (grind (arith, common_steps))
        (grind (arith, common_steps)) in
        let after : drop (length part + 1) (part ++ 10 ∷ rest) ≡ rest = grind (arith, common_steps)
        in (
          line-is number part (simp take_at at both.0),
          lines-are (number + 1) (next ∷ parts) (rw after at both.1),
        )

  -- what holds of each request holds of the request in the words
  module _ (P : Request → Type 0) (parse : (text : List ℕ) → Q text → P (Request.parse text))
      (eval : (text : List ℕ) (flags : List (List ℕ)) → Q text → AllByRecursion Q flags
      → P (Request.eval text flags))
      (target : (triple text : List ℕ) → Q text → P (Request.target triple text))
      (pick : (triple : List ℕ) → P (Request.pick triple)) (wrong : P Request.wrong_use) where
    request-is : (words : List (List ℕ)) → AllByRecursion Q words → P (request_of words)
    request-is (name ∷ first ∷ second ∷ third ∷ more) all = grind arith
    request-is _ all = grind arith

  Picks-some : (answer : Question → Option Bool) (input : List ℕ) → HasSome (Picks answer input)
  Picks-some answer input =
      ⊎_elim (λ long. (
        too_long,
        record {
          of_long = λ _. refl;
          of_other_bytes = λ short. absurd (omega (arith, long, short));
          of_text = λ short. absurd (omega (arith, long, short));
        },
      )) (λ short. ⊎_elim (λ utf8.
      let printed = some_made lines_output (GivesAll-some (PrintsLine answer)
      (enumerate_from 1 (map line_of (lines_of input)))
      (lines-are (λ line. HasSome (PrintsLine answer line)) (λ number. (Ok [], refl))
      (λ number. (Err (no_tab number), refl)) (λ number name condition can.
      some_made (section_text answer number name) (ParsesAs-some condition can)) 1 _
      (rw join_with_byte-slice_split (tested input (is_utf8-from_IsUtf8 input utf8))))) in (
        printed.0,
        record {
          of_long = λ long. absurd (omega (arith, long, short));
          of_other_bytes = λ _ not. absurd (not utf8);
          of_text = λ _ _. printed.1;
        },
      )) (λ not. (
        input_not_utf8,
        record {
          of_long = λ long. absurd (omega (arith, long, short));
          of_other_bytes = λ _ _. refl;
          of_text = λ _ utf8. absurd (not utf8);
        },
      )) (is_text input)) (is_long input)

  -- a request of such words has an output
  pub Prints-some : (words : List (List ℕ)) (input : List ℕ) → AllByRecursion Q words
      → HasSome (Prints (request_of words) input)
  Prints-some words input = request-is (λ request. HasSome (Prints request input))
      (λ text is. some_made tree_output (ParsesAs-some text is))
      (λ text flags is all. some_made result_output (HasValueByFlags-some text flags is all))
      (λ triple text is. by_row HasSome triple (unknown_triple, refl) (λ row. some_made
      result_output (some_made (value_by (answer_on row)) (ParsesAs-some text is))))
      (λ triple. by_row HasSome triple (unknown_triple, refl)
      (λ row. Picks-some (answer_on row) input)) (usage, refl) words
