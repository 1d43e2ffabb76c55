-- The requests in the words after the program's name.
-- Source of the rules: docs/RULES.md.
use Rattle.std.specs.Prelude.{ℕ, List, [], ◌∷◌, codes, map, if◌then◌else◌}
use Rattle.std.specs.Borrow.{Bor}
use Rattle.std.specs.Str.{bytes_eq}

-- the request in the words after the program's name
pub data Request : Type 0 where
  -- the predicates of a text
  parse : List ℕ → Request
  -- the value of a text with flags, which name true and unknown predicates
  eval : List ℕ → List (List ℕ) → Request
  -- the value of a text on the target with a triple
  target : List ℕ → List ℕ → Request
  -- the verdicts of the target with a triple on the sections of the input
  pick : List ℕ → Request
  -- no word, a first word that is no command, or another number of arguments than the command has
  wrong_use : Request

-- the words as texts
abbrev pub texts : List (Bor (List ℕ)) → List (List ℕ)
texts words = map (λ word. word.now) words

-- the request of `parse` with these arguments
abbrev pub parse_request : List (List ℕ) → Request
parse_request (text ∷ []) = Request.parse text
parse_request arguments = Request.wrong_use

-- the request of `eval` with these arguments
abbrev pub eval_request : List (List ℕ) → Request
eval_request [] = Request.wrong_use
eval_request (text ∷ flags) = Request.eval text flags

-- the request of `target` with these arguments
abbrev pub target_request : List (List ℕ) → Request
target_request (triple ∷ text ∷ []) = Request.target triple text
target_request arguments = Request.wrong_use

-- the request of `pick` with these arguments
abbrev pub pick_request : List (List ℕ) → Request
pick_request (triple ∷ []) = Request.pick triple
pick_request arguments = Request.wrong_use

abbrev pub request_of : List (List ℕ) → Request
request_of [] = Request.wrong_use
request_of (name ∷ arguments) =
    if bytes_eq name (codes "parse") then parse_request arguments
    else if bytes_eq name (codes "eval") then eval_request arguments
    else if bytes_eq name (codes "target") then target_request arguments
    else if bytes_eq name (codes "pick") then pick_request arguments
    else Request.wrong_use
