-- The predicate of a key and a value is the question of the node that is written for it.
use Rattle.std.proofs.Common.{◌≡◌, ℕ, List, [], ◌∷◌, Option, Some, None, option_map}
use Rattle.std.{proofs.Common.{arith, rules, refl}, specs.List.AllByRecursion}
use Rattle.cfgx_parser.specs.declared.located.Span.{Span}
use Rattle.std.proofs.lemmas.Slice.Eq.{bytes_eq-Decides}
use Rattle.cfgx_syntax.specs.Error.{Cause}
use Rattle.cfgx_grammar.specs.Question.{Leaf, Question, TargetQuestion}
use Rattle.cfgx_grammar.specs.Classification.{Class, Rule, class, by_name, target_rules, key_rules}
use Rattle.cfgx_grammar.specs.Classification.{if_read, target_feature, target_class, other_class}
use Rattle.cfgx_parser.specs.Located.{predicate_located, question_at, at}

module _ (text : List ℕ) (key_span : Span) where
  -- the node of the question names it in the text
  abbrev pub Names : Option Span → Question → Type 0
  Names value_span question =
      question_at text (predicate_located key_span value_span question) ≡ question

  -- the node of a predicate of this class names it; a literal has no parts
  abbrev pub NamesClass : Option Span → Class → Type 0
  NamesClass value_span (Class.is (Leaf.predicate question)) = Names value_span question
  NamesClass value_span _ = Unit {0}

  -- a fact of each rule of a table is a fact of the table
  by_rules : {V : Type 0} (span : Option Span) (name : List ℕ) (value : V) (otherwise : Class)
      (rules : List (Rule V))
      → AllByRecursion (λ rule. name ≡ rule.name → NamesClass span (rule.read value)) rules
      → NamesClass span otherwise → NamesClass span (by_name rules name value otherwise)
  by_rules span name value otherwise [] each last = last
  by_rules span name value otherwise (first ∷ rest) each last =
      let others = by_rules span name value otherwise rest each.1 last in
      grind (arith, bytes_eq-Decides, each.0, others)

  names_read : {X : Type 0} (span : Span) (ask : X → TargetQuestion) (cause : Cause)
      (x : Option X) → ((y : X) → Names (Some span) (Question.target (ask y)))
      → NamesClass (Some span) (if_read ask cause x)
  names_read span ask cause x names = grind arith

  names_feature : (span : Span) (value : List ℕ) → at text span ≡ value
      → NamesClass (Some span) (target_feature value)
  names_feature span value is = grind arith

  names_target : (span : Span) (name : List ℕ)
      → NamesClass (Some span) (target_class name (at text span))
  names_target span name = by_rules (Some span) name (at text span) _ target_rules
      (search (rules, names_read, names_feature)) tt

  names_other : (span : Option Span) (key : List ℕ) → at text key_span ≡ key
      → NamesClass span (other_class key (option_map (at text) span))
  names_other span key is = grind (arith, names_target)

  pub NamesClass-class : (span : Option Span)
      → NamesClass span (class (at text key_span) (option_map (at text) span))
  unfolding class
  NamesClass-class None = by_rules None (at text key_span) None _ key_rules
      (search rules) (names_other None _ refl)
  NamesClass-class (Some span) =
      by_rules (Some span) (at text key_span) (Some (at text span)) _ key_rules
      (search rules) (names_other (Some span) _ refl)
