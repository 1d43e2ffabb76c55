-- Functions with the number of their members, their order and their equality: first `not`, then
-- `all`, then `any`, and those of one name by the number of members.
-- Source: `Func` of the crate cfg-expr and its derived order.
use Rattle.std.specs.Prelude.{ℕ, Bool, nat_eq}
use Rattle.std.specs.Ordering.{nat_cmp, on, then_cmp, eq_of_both}
use Rattle.std.specs.declared.cmp.Ordering.{Ordering}
use Rattle.cfgx_grammar.specs.Tree.{ListFunction}
use Rattle.cfgx_parser.specs.declared.function.Func.{Func}
use Rattle.cfgx_parser.specs.declared.function.Func.TheVariants.{Not, All, Any}

-- the function of a list with `n` members
abbrev pub list_func : ListFunction → ℕ → Func
list_func ListFunction.all n = All n
list_func ListFunction.any n = Any n

-- the rank of a function's name
abbrev pub func_rank : Func → ℕ
func_rank Not = 0
func_rank (All count) = 1
func_rank (Any count) = 2

-- the number of members
abbrev pub func_members : Func → ℕ
func_members Not = 1
func_members (All count) = count
func_members (Any count) = count

-- by name, and then by the number of members
abbrev pub func_cmp : Func → Func → Ordering
func_cmp = then_cmp (on func_rank nat_cmp) (on func_members nat_cmp)

-- whether two functions have one name and one number of members
abbrev pub func_eq : Func → Func → Bool
func_eq = eq_of_both (on func_rank nat_eq) (on func_members nat_eq)
