-- Each text has a token list.
use Rattle.std.proofs.Common.{rules, ◌≡◌, ℕ, suc, zero, ◌+◌, ◌-◌, ◌<◌, ◌≤◌, true, false, List, []}
use Rattle.std.proofs.Common.{◌∷◌, ◌++◌, length, take, drop, get_or, refl, ap, ◌∙◌, subst, ◌≢◌, ◌⊎◌}
use Rattle.std.proofs.Common.{inl, inr, arith, ⊎_elim, lit<, append-nil, length-drop, length-take}
use Rattle.std.proofs.lemmas.List.{drop-drop, get_or-take, take_all}
use Rattle.std.proofs.lemmas.List.Sums.{split_at_first, passes_at_first, fails_before_first}
use Rattle.std.proofs.{lemmas.Str.IsUtf8-drop, lemmas.Slice.Eq.bytes_eq-Decides}
use Rattle.std.proofs.lemmas.Bool.{and_parts, cases_Bool, cases_eq, cases_lt}
use Rattle.std.specs.{Prelude.codes, Prelude.encode_utf8, Char.is_not_whitespace}
use Rattle.std.specs.List.{AllByRecursion, position_or_len, before_first, after_first, prefix_len}
use Rattle.std.specs.Str.{IsUtf8, IsTrimStart, encode_utf8_all, all_scalars}
use Rattle.cfgx_syntax.specs.Items.{Item, Ending, ItemsFrom, IsBlank, HasOneTokenList, starts_token}
use Rattle.cfgx_syntax.specs.{Items.expects_token, Error.Cause, Cut.IsValueCut, Cut.CanBeCut}
use Rattle.cfgx_syntax.specs.lexing.Beginnings.{BeginsWith, BeginsNone, BeginsUnclosed}
use Rattle.cfgx_syntax.specs.Token.{Token, starts_word, continues_word, is_quote, IsWord, Spells}
use Rattle.cfgx_syntax.specs.Token.{HasNoQuote, IsWhole}
use Rattle.cfgx_syntax.proofs.Blanks.{IsTrimStart-here, IsTrimStart-past}
use Rattle.cfgx_syntax.proofs.Scanning.{IsAfter, Stands-found, Ending-found, rest_is}
use Rattle.cfgx_syntax.proofs.{Scanning.CanBeCut-found, TokenList.ItemsFrom-same}
use Rattle.cfgx_syntax.proofs.Values.{BeginsWith-value, HasNoQuote-from}
use Rattle.cfgx_syntax.proofs.WordLemmas.{BeginsWith-byte, BeginsWith-word, word_prefix}

-- a text without its leading white space is a text
abbrev Trimmed : List ℕ → Type 0
Trimmed text = (rest : List ℕ) × IsTrimStart text rest × IsUtf8 rest

trimmed_chars : (cs : List ℕ) → all_scalars cs ≡ true → Trimmed (encode_utf8_all cs)
trimmed_chars [] scalars = grind arith
trimmed_chars (c ∷ cs) scalars =
    let parts = and_parts _ _ scalars in
    let more = encode_utf8_all cs in
    let text = encode_utf8 c ++ more in
    ⊎_elim
    (λ seen.
    (text, IsTrimStart-here text more (λ _. (c, seen, refl, parts.0)), (c ∷ cs, (scalars, refl))))
    (λ white.
    let left = trimmed_chars cs parts.1 in
    let blank : IsBlank (encode_utf8 c) = (c ∷ [], append-nil (encode_utf8 c), (white, tt)) in
    (left.0, IsTrimStart-past (encode_utf8 c) more left.0 blank left.1, left.2))
    (cases_Bool (is_not_whitespace c))

trimmed : (text : List ℕ) → IsUtf8 text → Trimmed text
trimmed text utf8 = subst Trimmed utf8.1.1 (trimmed_chars utf8.0 utf8.1.0)

cases_text : (xs ys : List ℕ) → (xs ≡ ys) ⊎ (xs ≢ ys)
cases_text xs ys =
    let test = bytes_eq-Decides xs ys in grind arith

-- each word spells a token
word_spells : (word : List ℕ) → IsWord word → (token : Token) × Spells word token
word_spells word is =
    ⊎_elim (λ all. (Token.all, all)) (λ not_all.
    ⊎_elim (λ any. (Token.any, any)) (λ not_any.
    ⊎_elim (λ not. (Token.not, not)) (λ not_not. (
      Token.key word,
      (refl, record { spelled = is; not_all = not_all; not_any = not_any; not_not = not_not }),
    )) (cases_text word (codes "not"))) (cases_text word (codes "any")))
    (cases_text word (codes "all"))

-- what the rest of a text begins with
data Begins (rest : List ℕ) : Type 0 where
  token : (kind : Token) (len : ℕ) → BeginsWith rest kind len → Begins rest
  fault : (cause : Cause) (len : ℕ) → BeginsNone rest cause len ⊎ BeginsUnclosed rest cause len
      → Begins rest

quote_is : (byte : ℕ) → is_quote byte ≡ true → byte ≡ 34
quote_is byte h = grind arith

-- no quote stands before the first
HasNoQuote-before : (bytes : List ℕ) → HasNoQuote (before_first is_quote bytes)
HasNoQuote-before bytes =
    grind (arith, HasNoQuote-from, length-take, fails_before_first, get_or-take)

-- the quote that a text begins with is closed, or it is not
begins_quote : (more : List ℕ) → IsUtf8 (34 ∷ more) → Begins (34 ∷ more)
begins_quote more utf8 =
    let n = position_or_len is_quote more in
    let inside = before_first is_quote more in
    let none = HasNoQuote-before more in
    ⊎_elim (λ lt.
    let beyond = after_first is_quote more in
    let closing : get_or more n 0 ≡ 34 = quote_is _ (passes_at_first is_quote more 0 lt) in
    let split : more ≡ inside ++ (codes "\"" ++ beyond) =
    split_at_first is_quote more 0 lt ∙ ap (λ b. inside ++ (b ∷ beyond)) closing in
    Begins.token (Token.value inside) (length inside + 2)
    (BeginsWith-value (34 ∷ more) inside beyond utf8 none (ap (λ l. 34 ∷ l) split)))
    (λ late. Begins.fault Cause.unclosed_quotes (length (34 ∷ more)) (inr (record {
      unclosed = (more, refl, subst HasNoQuote (take_all n more late) none);
      why = refl;
      all = refl;
    })))
    (cases_lt n (length more))

begins_word : (rest : List ℕ) → IsUtf8 rest → starts_word (get_or rest 0 0) ≡ true → Begins rest
begins_word rest utf8 starts =
    let len = prefix_len continues_word rest in
    let found = word_spells (take len rest) (word_prefix rest starts).0 in
    Begins.token found.0 len (BeginsWith-word rest found.0 utf8 starts found.1)

-- a byte that begins a token, but no word and no value, is one of four marks
begins_mark : (rest : List ℕ) → IsUtf8 rest → 0 < length rest
    → starts_token (get_or rest 0 0) ≡ true → starts_word (get_or rest 0 0) ≡ false
    → is_quote (get_or rest 0 0) ≡ false → Begins rest
begins_mark rest utf8 some starts other plain =
    let byte = get_or rest 0 0 in
    ⊎_elim (λ e. by Token.open_paren 40 (lit< tt) e refl refl tt) (λ one.
    ⊎_elim (λ e. by Token.close_paren 41 (lit< tt) e refl refl tt) (λ two.
    ⊎_elim (λ e. by Token.comma 44 (lit< tt) e refl refl tt) (λ three.
    let last : byte ≡ 61 = grind arith in
    by Token.equals 61 (lit< tt) last refl refl tt)
    (cases_eq byte 44)) (cases_eq byte 41)) (cases_eq byte 40)
  where
    by : (mark : Token) (n : ℕ) → n < 128 → get_or rest 0 0 ≡ n → Spells (n ∷ []) mark
        → IsWhole mark (drop 1 rest) → IsValueCut rest mark 0 1 → Begins rest
    by mark n low is spelled whole value =
        Begins.token mark 1
        (BeginsWith-byte rest rest mark n utf8 some refl is low spelled whole value)

begins : (rest : List ℕ) → IsUtf8 rest → 0 < length rest → Begins rest
begins [] utf8 some = absurd (omega arith)
begins (byte ∷ more) utf8 some =
    ⊎_elim (λ starts.
    ⊎_elim (λ word. begins_word (byte ∷ more) utf8 word) (λ other.
    ⊎_elim (λ quote.
    let is = quote_is byte quote in rw is (begins_quote more (rw is at utf8)))
    (λ plain. begins_mark (byte ∷ more) utf8 some starts other plain)
    (cases_Bool (is_quote byte))) (cases_Bool (starts_word byte)))
    (λ none.
    Begins.fault expects_token 1 (inl (record { none = none; why = refl; one = refl })))
    (cases_Bool (starts_token byte))

-- from `from` on, the text is a list of items and an ending
record Found (text : List ℕ) (from : ℕ) : Type 0 where
  pub items : List Item
  pub ending : Ending
  pub are : ItemsFrom text from items ending
  pub cuts : AllByRecursion (λ i. CanBeCut text i.token i.start i.end) items

-- the items and the ending from `from` on, if they are known from each later place on
found_after : (text rest : List ℕ) (from : ℕ) → IsUtf8 rest → IsAfter text rest from
    → ((place : ℕ) → from < place → place ≤ length text → IsUtf8 (drop place text)
    → Found text place)
    → 0 < length rest → Begins rest → Found text from
found_after text rest from utf8 beyond next some (Begins.fault cause len wrong) =
    let end = Ending-found text rest from beyond cause len some wrong in
    record { items = []; ending = end.0; are = end.1; cuts = tt }
found_after text rest from utf8 beyond next some (Begins.token kind len first) =
    let s : ℕ = length text - length rest in
    let stands = Stands-found text rest from beyond kind len first in
    let past : drop len rest ≡ drop (s + len) text =
    ap (drop len) (rest_is text rest from beyond) ∙ drop-drop len s text in
    let text_after : IsUtf8 (drop (s + len) text) =
    subst IsUtf8 past (IsUtf8-drop rest len utf8 first.cut.spelling.at_end) in
    let past_from : from < s + len = omega (arith, stands.comes_after, first.some) in
    let more = next (s + len) past_from stands.inside text_after in
    record {
      items = record { token = kind; start = s; end = s + len } ∷ more.items;
      ending = more.ending;
      are = (stands, more.are);
      cuts = (CanBeCut-found text rest from beyond kind len first, more.cuts);
    }

found : (fuel : ℕ) (text : List ℕ) (from : ℕ) → length text < from + fuel → from ≤ length text
    → IsUtf8 (drop from text) → Found text from
found zero text from enough within utf8 = absurd (omega arith)
found (suc fuel) text from enough within utf8 =
    let left = trimmed (drop from text) utf8 in
    let rest = left.0 in
    let beyond : IsAfter text rest from = record { inside = within; trimmed = left.1 } in
    let next = λ (place : ℕ) (lt : from < place).
    found fuel text place (omega (arith, lt, enough)) in
    ⊎_elim
    (λ some. found_after text rest from left.2 beyond next some (begins rest left.2 some))
    (λ none.
    let gap = left.1.0 in
    let all : take gap (drop from text) ≡ drop from text =
    take_all gap _ (omega (arith, none, ap length left.1.1, length-drop gap (drop from text))) in
    record { items = []; ending = Ending.blank; are = subst IsBlank all left.1.2; cuts = tt })
    (cases_lt 0 (length rest))

-- each text has one token list
pub HasOneTokenList-of : (text : List ℕ) → IsUtf8 text → HasOneTokenList text
HasOneTokenList-of text utf8 =
    let all = found (suc (length text)) text 0 (omega arith) (omega arith) utf8 in
    search (rules, ItemsFrom-same)

pub ruleset one_list = (HasOneTokenList-of)
