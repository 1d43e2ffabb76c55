-- The condition of a text with or without an outer `cfg( )`.
-- Source: `Expression::original` of the crate cfg-expr.
use Rattle.std.specs.Prelude.{◌≡◌, ℕ, ◌+◌, ◌-◌, ◌≤◌, Bool, List, length, codes, nat_eq, ◌&&◌}
use Rattle.std.specs.Prelude.{if◌then◌else◌}
use Rattle.std.specs.{Prelude.slice_range, List.starts_with, List.ends_with}

-- whether the text starts with `cfg(` and ends with `)`
abbrev pub is_wrapped : List ℕ → Bool
is_wrapped text = starts_with nat_eq text (codes "cfg(") && ends_with nat_eq text (codes ")")

-- What is between `cfg(` and `)` if the text starts and ends with them, else the text. One pair
-- is removed.
unfoldable pub strip : List ℕ → List ℕ
strip text = if is_wrapped text then slice_range text 4 (length text - 1) else text

-- the number of bytes in front of what is left
abbrev pub strip_offset : List ℕ → ℕ
strip_offset text = if is_wrapped text then 4 else 0

-- this part of the text stands behind its first `offset` bytes
abbrev pub StandsBehind : List ℕ → ℕ → List ℕ → Type 0
StandsBehind text offset part = (part ≡ slice_range text offset (length part + offset))
    × (length part + offset ≤ length text)
