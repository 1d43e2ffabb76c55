-- The token that a text begins with, and its length, are determined by the text.
use Rattle.std.proofs.Common.{◌≡◌, ℕ, ◌+◌, ◌-◌, ◌<◌, ◌≤◌, ◌≢◌, true, false, List, [], ◌∷◌, ◌++◌}
use Rattle.std.proofs.Common.{length, take, drop, get_or, sym, refl, ◌∙◌, arith, ap, cond}
use Rattle.std.proofs.Common.{append_assoc, append-nil, length-append, length-take, length-take-le}
use Rattle.std.{specs.Prelude.codes, specs.Str.bytes_eq, proofs.lemmas.Slice.Eq.bytes_eq-Decides}
use Rattle.std.specs.List.{list_all, list_any, prefix_len, position_or_len}
use Rattle.std.proofs.lemmas.List.{get_or-take, take_at, take-append-drop}
use Rattle.std.proofs.lemmas.Bool.{and_parts, or_parts, false_from_ne_true}
use Rattle.cfgx_syntax.specs.Token.{Token, starts_word, continues_word, is_quote, IsWord}
use Rattle.cfgx_syntax.specs.Token.{HasNoQuote, Spells, IsWhole, EndsWord}
use Rattle.cfgx_syntax.specs.Items.{OpensNoValue, starts_token}

-- the number of bytes of the token that a text begins with, by the first byte
abbrev pub token_len : List ℕ → ℕ
token_len rest =
    cond (is_quote (get_or rest 0 0)) (position_or_len is_quote (drop 1 rest) + 2)
    (cond (starts_word (get_or rest 0 0)) (prefix_len continues_word rest) 1)

-- the token that bytes spell
abbrev pub token_by : List ℕ → Token
token_by bytes =
    cond (starts_word (get_or bytes 0 0))
    (cond (bytes_eq bytes (codes "all")) Token.all (cond (bytes_eq bytes (codes "any")) Token.any
    (cond (bytes_eq bytes (codes "not")) Token.not (Token.key bytes))))
    (cond (is_quote (get_or bytes 0 0)) (Token.value (take (length bytes - 2) (drop 1 bytes)))
    (cond (bytes_eq bytes (codes "(")) Token.open_paren
    (cond (bytes_eq bytes (codes ")")) Token.close_paren
    (cond (bytes_eq bytes (codes ",")) Token.comma Token.equals))))

starts_word-no_quote : (byte : ℕ) → starts_word byte ≡ true → is_quote byte ≡ false
starts_word-no_quote byte h = grind arith

-- the bytes of a word continue to its end
goes_on : (bytes after : List ℕ) → list_all continues_word bytes ≡ true → EndsWord after
    → prefix_len continues_word (bytes ++ after) ≡ length bytes
goes_on [] [] all ends = refl
goes_on [] (byte ∷ after) all ends = rw ends refl
goes_on (byte ∷ bytes) after all ends =
    let parts = and_parts (continues_word byte) (list_all continues_word bytes) all in
    rw (parts.0, goes_on bytes after parts.1 ends) (omega arith)

word_len : (word after : List ℕ) → IsWord word → EndsWord after
    → token_len (word ++ after) ≡ length word
word_len word after is ends = grind (arith, goes_on, starts_word-no_quote)

-- the first quote is not among bytes that have none
quote_after : (bytes after : List ℕ) → HasNoQuote bytes
    → position_or_len is_quote (bytes ++ after) ≡ length bytes + position_or_len is_quote after
quote_after [] after none = omega arith
quote_after (byte ∷ bytes) after none =
    let parts = or_parts (is_quote byte) (list_any is_quote bytes) none in
    rw (parts.0, quote_after bytes after parts.1) (omega arith)

-- the length of a token that a text begins with
spelled_len : (bytes after : List ℕ) (token : Token) → Spells bytes token → IsWhole token after
    → token_len (bytes ++ after) ≡ length bytes
spelled_len bytes after token is ends =
    grind (arith, word_len, append_assoc, quote_after, length-append)

pub token_len_is : (rest : List ℕ) (token : Token) (len : ℕ) → Spells (take len rest) token
    → len ≤ length rest → IsWhole token (drop len rest) → token_len rest ≡ len
token_len_is rest token len spelled inside whole =
    ap token_len (sym (take-append-drop len rest))
    ∙ spelled_len (take len rest) (drop len rest) token spelled whole
    ∙ length-take-le len rest inside

-- the test of two texts that differ is false
refuses : (xs ys : List ℕ) → xs ≢ ys → bytes_eq xs ys ≡ false
refuses xs ys other = false_from_ne_true _ (λ same. other ((bytes_eq-Decides xs ys).0 same))

-- bytes spell only one token
pub token_by_is : (bytes : List ℕ) (token : Token) → Spells bytes token → token_by bytes ≡ token
token_by_is bytes token is = grind (arith, refuses, length-append, take_at)

-- the first byte of a token is one that begins a token
Spells-first : (bytes : List ℕ) (token : Token) → Spells bytes token
    → starts_token (get_or bytes 0 0) ≡ true
Spells-first bytes token is = grind arith

pub Spells-some : (bytes : List ℕ) (token : Token) → Spells bytes token → 1 ≤ length bytes
Spells-some bytes token spells = grind arith

-- the first byte of a text that begins with a token is one that begins a token
pub begins_token : (rest : List ℕ) (token : Token) (len : ℕ) → Spells (take len rest) token
    → starts_token (get_or rest 0 0) ≡ true
begins_token rest token len spelled =
    grind (arith, Spells-some, length-take, get_or-take, Spells-first)

-- a value whose quote is never closed does not end in the text
pub unclosed_len : (rest : List ℕ) → OpensNoValue rest → length rest < token_len rest
unclosed_len rest (more, is, none) =
    let all = rw append-nil at (quote_after more [] none) in rw is (omega (arith, all))
