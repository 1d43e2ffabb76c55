-- What the calls return. A number means the same in all calls.
-- Source: include/cfgx.h.
use Rattle.std.specs.Prelude.{◌≡◌, ◌⊎◌, ℕ, List, [], ◌∷◌}

-- the call succeeded; a buffer that is too small stays as it was
abbrev pub done : ℕ
done = 0

-- a text is no condition; of `cfgx_run`: a text or the input is faulty
abbrev pub faulty : ℕ
faulty = 1

-- of `cfgx_run`: wrong words, or a triple that is not built in
abbrev pub wrong_use : ℕ
wrong_use = 2

-- memory was refused
abbrev pub out_of_memory : ℕ
out_of_memory = 3

-- a text or a word is not UTF-8
abbrev pub not_utf8 : ℕ
not_utf8 = 4

-- there are more or fewer answers than predicates, or than steps that ask
abbrev pub miscounted : ℕ
miscounted = 5

-- an end is less than the one before it, or the last one is not the number of items
abbrev pub bad_ends : ℕ
bad_ends = 6

-- the steps have no value over the answers, of which there are as many as steps that ask
abbrev pub no_value : ℕ
no_value = 7

-- the number of values does not fit in a `size_t`
abbrev pub too_large : ℕ
too_large = 8

-- a fact is faulty, or not UTF-8
abbrev pub faulty_fact : ℕ
faulty_fact = 9

-- the status is one of these
abbrev pub IsOneOf : ℕ → List ℕ → Type 0
IsOneOf status [] = ⊥
IsOneOf status (one ∷ others) = (status ≡ one) ⊎ IsOneOf status others
