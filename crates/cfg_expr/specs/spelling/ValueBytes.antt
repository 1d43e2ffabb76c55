-- The bytes of a predicate's value.
use Rattle.std.specs.Prelude.{ℕ, List}
use Rattle.std.specs.Fmt.{decimal}
use Rattle.cfg_expr.specs.declared.expr.spelling.Value.{Value}
use Rattle.cfg_expr.specs.declared.expr.spelling.Value.TheVariants.{Text, Number}

-- a text as it is, or a number in decimal
abbrev pub value_bytes : Value → List ℕ
value_bytes (Text text) = text.now
value_bytes (Number number) = decimal number
