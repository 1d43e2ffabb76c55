-- When a predicate on the target is true of a target.
-- Source: `impl TargetMatcher for TargetInfo` in the documentation of `cfg-expr` 0.20.10, and the
-- Rust Reference's chapter on conditional compilation for what each key asks.
use Rattle.std.specs.Prelude.{ℕ, Bool, true, false, List, Option, Some, ◌==◌}
use Rattle.std.specs.{List.list_any, Option.option_eq, Option.option_or, Str.bytes_eq}
use Rattle.cfgx_fields.specs.{declared.atomic.HasAtomic.HasAtomic, declared.endian.Endian.Endian}
use Rattle.cfgx_fields.specs.declared.atomic.HasAtomic.TheVariants.{IntegerSize, Pointer}
use Rattle.cfgx_fields.specs.declared.endian.Endian.TheVariants.{big, little}
use Rattle.cfgx_fields.specs.TextKey.{text_if_missing}
use Rattle.cfgx_fields.specs.declared.text_key.TextKey.{TextKey}
use Rattle.cfgx_fields.specs.declared.text_key.TextKey.TheVariants as key
use Rattle.cfgx_targets.specs.declared.info.TargetInfo.{TargetInfo}
use Rattle.cfgx_grammar.specs.Question.{TargetQuestion}

abbrev pub is_same_endian : Endian → Endian → Bool
is_same_endian big big = true
is_same_endian little little = true
is_same_endian _ _ = false

abbrev pub is_same_width : HasAtomic → HasAtomic → Bool
is_same_width (IntegerSize bits) (IntegerSize others) = bits == others
is_same_width Pointer Pointer = true
is_same_width _ _ = false

-- whether the field of a key has a text; for a missing one stands `text_if_missing`
abbrev pub has_text : TextKey → Option (List ℕ) → List ℕ → Bool
has_text key field text = option_eq bytes_eq (option_or field (text_if_missing key)) (Some text)

-- whether the target has the text for the key
abbrev pub has_value : {A : Type 0} → TargetInfo A → TextKey → List ℕ → Bool
has_value row key.Abi text = has_text key.Abi row.abi text
has_value row key.Arch text = bytes_eq row.arch text
has_value row key.Env text = has_text key.Env row.env text
has_value row key.Family text = list_any (bytes_eq text) row.families
has_value row key.Os text = has_text key.Os row.os text
has_value row key.Panic text = bytes_eq row.panic text
has_value row key.Vendor text = has_text key.Vendor row.vendor text

-- whether the target meets the predicate
abbrev pub meets : {A : Type 0} → TargetInfo A → TargetQuestion → Bool
meets row (TargetQuestion.text key text) = has_value row key text
meets row (TargetQuestion.endian endian) = is_same_endian row.endian endian
meets row (TargetQuestion.has_atomic width) = list_any (is_same_width width) row.has_atomics
meets row (TargetQuestion.pointer_width bits) = row.pointer_width == bits
