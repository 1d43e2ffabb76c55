-- What the parser keeps between two tokens, and what it builds.
use Rattle.std.specs.Prelude.{ℕ, List, [], Option, None}
use Rattle.cfgx_syntax.specs.Token.{Token}
use Rattle.cfgx_grammar.specs.{Question.Leaf, Tree.ListFunction, Grammar.list_name}
pub use Rattle.cfgx_grammar.specs.LastPredicate.{LocatedText, KeyAndValue as Pending}

-- the three functions
pub data Function : Type 0 where
  list : ListFunction → Function
  not : Function

abbrev pub name_of : Function → Token
name_of (Function.list function) = list_name function
name_of Function.not = Token.not

-- How a parser builds: any type with these operations. The tokens that a parser accepts do not
-- depend on it.
pub record Builder (W M L : Type 0) : Type 0 where
  -- at the start of the text
  pub nothing : W
  -- what an open function keeps of what was built before its name
  pub mark_of : W → M
  -- a predicate or a literal, with the spans of its key and its value
  pub located : Pending → Leaf → L
  pub leaf : L → W → W
  -- a function begins
  pub function : W → W
  -- a function ends, with the number of its members
  pub function_ended : M → Function → ℕ → W → W
  -- the text ends
  pub root_ended : W → W

-- an open function: the span of its name, the position of its `(`, and the number of its members
-- that have ended
pub record Open (M : Type 0) : Type 0 where
  pub function : Function
  pub start : ℕ
  pub end : ℕ
  pub parens : Option ℕ
  pub ended_members : ℕ
  pub mark : M

-- The open functions, the innermost first; the pending predicate, which has begun and not ended;
-- the number of members at the root that have ended; what was written. The last token stands beside
-- it.
pub record State {W M L : Type 0} (builder : Builder W M L) : Type 0 where
  pub stack : List (Open M)
  pub pending : Option Pending
  pub roots : ℕ
  pub written : W

abbrev pub initial : {W M L : Type 0} {builder : Builder W M L} → State builder
initial {builder = builder} = record {
  stack = [];
  pending = None;
  roots = 0;
  written = builder.nothing;
}
