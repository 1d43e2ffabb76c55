-- The span of a whole predicate goes from its first token to its last one.
use Rattle.std.proofs.Common.{◌≡◌, ◌≤◌, ◌<◌, ℕ, List, Some, None, arith, length}
use Rattle.std.proofs.lemmas.Bool.{eq-eqb, ne_eqb}
use Rattle.cfgx_syntax.specs.Items.{Item}
use Rattle.cfgx_grammar.specs.Question.{Question}
use Rattle.cfgx_parser.specs.Located.{IsSpan, predicate_located, whole_span}
use Rattle.cfgx_parser.specs.ReadFrom.{quoted_span, word_span}

pub whole_span-key : (x : Item) (question : Question)
    → whole_span (predicate_located (word_span x) None question) ≡ word_span x
whole_span-key x question = grind (arith, eq-eqb)

pub whole_span-value : (x z : Item) (question : Question) → x.start ≤ z.start → z.start < z.end
    → whole_span (predicate_located (word_span x) (Some (quoted_span z)) question)
    ≡ record { start = x.start; end = z.end }
whole_span-value x z question after long = grind (arith, ne_eqb)

-- It ends in the text.

pub whole_span-word : (text : List ℕ) (x : Item) → IsSpan text (word_span x)
    → (question : Question)
    → (whole_span (predicate_located (word_span x) None question)).end ≤ length text
whole_span-word text x cut question = grind (arith, eq-eqb)

pub whole_span-quoted : (text : List ℕ) (x z : Item) → IsSpan text (word_span x)
    → IsSpan text (quoted_span z) → z.end ≤ length text → (question : Question)
    → (whole_span (predicate_located (word_span x) (Some (quoted_span z)) question)).end
    ≤ length text
whole_span-quoted text x z word quoted within question = grind arith
