-- A target of which two things are known.
use Rattle.std.specs.Prelude.{ℕ, Bool, false, List, ◌==◌}
use Rattle.std.specs.Str.{bytes_eq}
use Rattle.cfgx_fields.specs.declared.text_key.TextKey.TheVariants as keys
use Rattle.cfg_expr.specs.Words.{TargetQuestion}

-- whether a board with this system and pointer width meets a predicate; it meets no other one
abbrev pub board_meets : List ℕ → ℕ → TargetQuestion → Bool
board_meets os pointer_width (TargetQuestion.text keys.Os text) = bytes_eq os text
board_meets os pointer_width (TargetQuestion.pointer_width bits) = pointer_width == bits
board_meets os pointer_width _ = false
