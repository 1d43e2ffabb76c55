-- The types of the parser's code as those of the definitions.
use Rattle.std.specs.Prelude.{ℕ, ◌+◌, List, [], ◌∷◌, Option, Some, None}
use Rattle.std.specs.Prelude.{option_map, Result, Ok, Err}
use Rattle.cfgx_syntax.specs.Error.{Fault, unexpected, cause_of}
use Rattle.cfgx_grammar.specs.Classification.{target_class, other_class}
use Rattle.cfgx_grammar.specs.Tree.{ListFunction}
use Rattle.cfgx_grammar.specs.parsing.State.{Function, LocatedText, Pending}
use Rattle.cfgx_parser.specs.parsing.NodeState.{OpenFunction, located_class}
use Rattle.cfgx_grammar.specs.FirstFault.{fault_between}
use Rattle.cfgx_parser.specs.declared.function.FuncKind.{FuncKind}
use Rattle.cfgx_parser.specs.declared.function.FuncKind.TheVariants as kind
use Rattle.cfgx_parser.specs.declared.classification.LocatedText as code_text
use Rattle.cfgx_parser.specs.declared.classification.Pending as code_pending
use Rattle.cfgx_parser.specs.declared.classification.Fault.{Fault as CodeFault}
use Rattle.cfgx_parser.specs.declared.nodes.ExprNode.{ExprNode}
use Rattle.cfgx_parser.specs.declared.parser.OpenFunc.{OpenFunc}
use Rattle.cfgx_parser.specs.declared.parser.OpenList.{OpenList}
use Rattle.cfgx_parser.specs.declared.parser.LastToken.{LastToken}
use Rattle.cfgx_parser.specs.declared.parser.LastToken.TheVariants as last
use Rattle.cfgx_syntax.specs.Token as spelled

abbrev pub located_text : code_text.LocatedText → LocatedText
located_text t = record { text = t.text.now; start = t.span.start; end = t.span.end }

abbrev pub pending_of : code_pending.Pending → Pending
pending_of p = record { key = located_text p.key; value = option_map located_text p.value }

-- a fault of the code, without addresses
abbrev pub plain_fault : CodeFault → Fault
plain_fault fault = fault_between (cause_of fault.reason) fault.span.start fault.span.end

abbrev pub class_result : Result ExprNode CodeFault → Result ExprNode Fault
class_result (Ok leaf) = Ok leaf
class_result (Err fault) = Err (plain_fault fault)

-- the leaf of a key that takes no value, or the fault of the value
abbrev pub located_bare : ExprNode → Option LocatedText → Result ExprNode Fault
located_bare leaf None = Ok leaf
located_bare leaf (Some value) = Err (fault_between (unexpected []) value.start value.end)

-- the leaf of a key that is `target_` and the name, or the fault
abbrev pub located_target : List ℕ → LocatedText → LocatedText → Result ExprNode Fault
located_target name key value =
    located_class (record { key = key; value = Some value }) (target_class name value.text)

-- the leaf of a key that has no rule, or the fault
abbrev pub located_other : LocatedText → Option LocatedText → Result ExprNode Fault
located_other key value =
    located_class (record { key = key; value = value })
    (other_class key.text (option_map (λ v. v.text) value))

abbrev pub function_of : FuncKind → Function
function_of kind.Not = Function.not
function_of kind.All = Function.list ListFunction.all
function_of kind.Any = Function.list ListFunction.any

abbrev pub empty_list : OpenList
empty_list = record { ended_members = 0; parens_position = None }

-- an open function, with the list of its members
abbrev pub open_of : OpenFunc → OpenList → OpenFunction
open_of f list = record {
  function = function_of f.kind;
  start = f.span.start;
  end = f.span.end;
  parens = list.parens_position;
  ended_members = list.ended_members;
  mark = f.opening;
}

-- the open functions, the innermost first; `list` is the innermost open list
abbrev pub opens_in : OpenList → List OpenFunc → List OpenFunction
opens_in list [] = []
opens_in list (top ∷ rest) = open_of top list ∷ opens_in top.around rest

-- the number of members at the root that have ended
abbrev pub roots_in : OpenList → List OpenFunc → ℕ
roots_in list [] = list.ended_members
roots_in list (top ∷ rest) = roots_in top.around rest

-- the number of open functions, plus that of the members that have ended in the lists around them
abbrev pub counted_around : List OpenFunc → ℕ
counted_around [] = 0
counted_around (top ∷ rest) = top.around.ended_members + 1 + counted_around rest

-- what the parser keeps of the last token
abbrev pub last_of : Option spelled.Token → LastToken
last_of None = last.Start
last_of (Some (spelled.Token.key text)) = last.Key
last_of (Some (spelled.Token.value text)) = last.Value
last_of (Some spelled.Token.equals) = last.Equals
last_of (Some spelled.Token.all) = last.Function
last_of (Some spelled.Token.any) = last.Function
last_of (Some spelled.Token.not) = last.Function
last_of (Some spelled.Token.open_paren) = last.OpenParen
last_of (Some spelled.Token.close_paren) = last.CloseParen
last_of (Some spelled.Token.comma) = last.Comma

-- a token of which the parser keeps this
abbrev pub token_like : LastToken → Option spelled.Token
token_like last.Start = None
token_like last.Key = Some (spelled.Token.key [])
token_like last.Value = Some (spelled.Token.value [])
token_like last.Equals = Some spelled.Token.equals
token_like last.Function = Some spelled.Token.all
token_like last.OpenParen = Some spelled.Token.open_paren
token_like last.CloseParen = Some spelled.Token.close_paren
token_like last.Comma = Some spelled.Token.comma
