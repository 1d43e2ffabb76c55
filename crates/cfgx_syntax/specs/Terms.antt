-- The lists of terms of `Unexpected`: what a text lacks.
-- Source: the crate cfg-expr.
use Rattle.std.specs.Prelude.{◌+◌, ◌<◌, ℕ, List, [], ◌∷◌, codes}
use Rattle.std.specs.{List.position, Option.option_map_or}
use Rattle.cfgx_syntax.specs.Error.{Cause, texts_eq}

abbrev pub Terms : Type 0
Terms = List (List ℕ)

-- at the start, and where no token can start
abbrev pub member : Terms
member = codes "<key>" ∷ codes "all" ∷ codes "any" ∷ codes "not" ∷ []

abbrev pub after_paren : Terms
after_paren = codes "<key>" ∷ codes ")" ∷ codes "all" ∷ codes "any" ∷ codes "not" ∷ []

abbrev pub after_comma : Terms
after_comma = codes ")" ∷ codes "<key>" ∷ []

abbrev pub after_key : Terms
after_key = codes "=" ∷ codes "," ∷ codes ")" ∷ []

abbrev pub after_equals : Terms
after_equals = codes "\"" ∷ []

abbrev pub after_value : Terms
after_value = codes "," ∷ codes ")" ∷ []

abbrev pub after_function : Terms
after_function = codes "(" ∷ []

abbrev pub after_closing : Terms
after_closing = codes ")" ∷ codes "," ∷ []

-- at the end, after `=`
abbrev pub value : Terms
value = codes "\"<value>\"" ∷ []

-- the keys that begin with `target_`, as the fault of an unknown one lists them
abbrev pub target_keys : Terms
target_keys = codes "target_arch" ∷ codes "target_feature" ∷ codes "target_os"
    ∷ codes "target_family" ∷ codes "target_env" ∷ codes "target_endian"
    ∷ codes "target_has_atomic" ∷ codes "target_pointer_width" ∷ codes "target_vendor" ∷ []

-- all of them, as docs/RULES.md numbers them from 1 on
abbrev pub lists : List Terms
lists = [] ∷ member ∷ after_paren ∷ after_comma ∷ after_key ∷ after_equals ∷ after_value
    ∷ after_function ∷ after_closing ∷ value
    ∷ (codes "= \"<feature_name>\"" ∷ []) ∷ (codes "= \"<panic_strategy>\"" ∷ [])
    ∷ (codes "= \"<target_cfg_value>\"" ∷ []) ∷ (codes "<feature>" ∷ []) ∷ target_keys ∷ []

-- the number of a list of terms, and 0 for a list that is none of these
abbrev pub list_number : Terms → ℕ
list_number terms = option_map_or (λ place. place + 1) (position (texts_eq terms) lists) 0

-- the number of the list of terms of `Unexpected`, and 0 for every other reason
abbrev pub terms_number : Cause → ℕ
terms_number (Cause.unexpected terms) = list_number terms
terms_number _ = 0

-- a list of terms that the cause has is one of those with a number
abbrev pub HasNumberedTerms : Cause → Type 0
HasNumberedTerms (Cause.unexpected terms) = 0 < list_number terms
HasNumberedTerms _ = Unit {0}
