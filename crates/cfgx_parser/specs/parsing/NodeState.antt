-- The state of the parser that builds nodes.
use Rattle.std.specs.Prelude.{ℕ, option_map, Result}
use Rattle.cfgx_parser.specs.declared.located.Span.{Span}
use Rattle.cfgx_syntax.specs.Error.{Fault}
use Rattle.cfgx_grammar.specs.Classification.{Class}
use Rattle.cfgx_grammar.specs.LastPredicate.{class_of}
use Rattle.cfgx_grammar.specs.parsing.State as parser
use Rattle.cfgx_grammar.specs.parsing.State.{Function, LocatedText, Pending, Builder}
use Rattle.cfgx_grammar.specs.parsing.Step as steps
use Rattle.cfgx_parser.specs.nodes.Node.{Opening, Written, located, nothing, opening_of, with_leaf}
use Rattle.cfgx_parser.specs.nodes.Node.{with_function}
use Rattle.cfgx_parser.specs.nodes.Node.{with_list_ended, with_function_ended}
use Rattle.cfgx_parser.specs.Order.{list_func}
use Rattle.cfgx_parser.specs.declared.function.Func.{Func}
use Rattle.cfgx_parser.specs.declared.function.Func.TheVariants as func
use Rattle.cfgx_parser.specs.declared.nodes.ExprNode.{ExprNode}

-- the `Func` of a function with `n` members
abbrev pub func_of : Function → ℕ → Func
func_of Function.not n = func.Not
func_of (Function.list function) n = list_func function n

abbrev pub span_of : LocatedText → Span
span_of text = record { start = text.start; end = text.end }

-- the builder that writes nodes
abbrev pub node_builder : Builder Written Opening ExprNode
node_builder = record {
  nothing = nothing;
  mark_of = opening_of;
  located = λ p leaf. located (span_of p.key) (option_map span_of p.value) leaf;
  leaf = with_leaf;
  function = with_function;
  function_ended = λ mark function members. with_function_ended mark (func_of function members);
  root_ended = with_list_ended 0;
}

abbrev pub OpenFunction : Type 0
OpenFunction = parser.Open Opening

abbrev pub ParserState : Type 0
ParserState = parser.State node_builder

-- the node of a predicate or literal, or the fault
abbrev pub located_class : Pending → Class → Result ExprNode Fault
located_class = steps.located_class node_builder

abbrev pub classified : Pending → Result ExprNode Fault
classified p = located_class p (class_of p)
