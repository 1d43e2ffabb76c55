-- The version of the calls.
-- Source: include/cfgx.h.
use Rattle.std.specs.Prelude.{ℕ, ◌+◌, ◌*◌}

-- the version of the language of conditions
abbrev pub language : ℕ
language = 2

-- the version of the calls: a program that uses the calls of one major version can use those of no
-- other, and those of a minor version with each higher one
abbrev pub major : ℕ
major = 3

abbrev pub minor : ℕ
minor = 0

-- the three as one number
abbrev pub version : ℕ
version = language * 1000000 + major * 1000 + minor
