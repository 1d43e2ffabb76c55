-- What the lexer finds after white space has a place in the whole text.
use Rattle.std.proofs.Common.{Some, rules, ◌≡◌, ℕ, ◌+◌, ◌-◌, ◌<◌, ◌≤◌, min, true, false, List}
use Rattle.std.proofs.Common.{length, inl, inr, ◌⊎◌, refl, drop, get_or, ap, subst, arith}
use Rattle.std.{proofs.Common.length-drop, proofs.lemmas.Str.byte_from_char}
use Rattle.std.proofs.lemmas.List.{take_min, drop_min, drop-drop}
use Rattle.std.specs.{Prelude.slice_range, Str.IsTrimStart}
use Rattle.cfgx_syntax.specs.{Cut.CanBeCut, Error.Cause, Token.Token, LexerState.LexerState}
use Rattle.cfgx_syntax.specs.Items.{EndsAs, lexical, IsBlank, Stands, IsStuck, IsUnclosed}
use Rattle.cfgx_syntax.specs.Items.{OpensNoValue, starts_token, Ending}
use Rattle.cfgx_syntax.specs.lexing.Beginnings.{BeginsWith, BeginsNone, BeginsUnclosed}
use Rattle.cfgx_syntax.proofs.Cutting.{CanBeCut-from_rest}

-- a byte that begins a token is ASCII
pub starts_token-ascii : (c : ℕ) → starts_token c ≡ true → c < 128
starts_token-ascii c h = grind arith

-- `rest` is the text from `place` on, without its leading white space
pub record IsAfter (text rest : List ℕ) (place : ℕ) : Type 0 where
  pub inside : place ≤ length text
  pub trimmed : IsTrimStart (drop place text) rest

pub IsAfter-trimmed : (text inner rest : List ℕ) → inner ≡ drop (length text - length inner) text
    → IsTrimStart inner rest → IsAfter text rest (length text - length inner)
IsAfter-trimmed text inner rest follows trimmed = grind arith

module _ (text rest : List ℕ) (place : ℕ) (beyond : IsAfter text rest place) where
  -- where the rest starts
  abbrev start : ℕ
  start = length text - length rest

  start_is : start ≡ min (place + beyond.trimmed.0) (length text)
  start_is = grind (arith, length-drop)

  place_le_start : place ≤ start
  place_le_start = omega (arith, start_is, beyond.inside)

  pub rest_is : rest ≡ drop start text
  rest_is = rw (start_is, drop_min, ← drop-drop) beyond.trimmed.1

  gap_is_blank : IsBlank (slice_range text place start)
  gap_is_blank =
      let wide : start - place ≡ min beyond.trimmed.0 (length (drop place text)) =
      omega (arith, start_is, length-drop place text, beyond.inside) in
      rw (wide, take_min) beyond.trimmed.2

  pub Stands-found : (token : Token) (len : ℕ) → BeginsWith rest token len
      → Stands text place (record { token = token; start = start; end = start + len })
  Stands-found token len begins = grind (arith, rest_is, drop-drop, place_le_start, gap_is_blank)

  pub CanBeCut-found : (token : Token) (len : ℕ) → BeginsWith rest token len
      → CanBeCut text token start (start + len)
  CanBeCut-found token len begins =
      CanBeCut-from_rest text start (omega arith) token len begins.some
      (subst (λ l. CanBeCut l token 0 len) rest_is begins.cut)

  -- the first character after white space is a byte if it begins a token
  IsStuck-found : 0 < length rest → starts_token (get_or rest 0 0) ≡ false
      → IsStuck text place start
  IsStuck-found some none =
      grind (arith, byte_from_char, starts_token-ascii, rest_is, place_le_start, gap_is_blank)

  -- the ending of the text, from the cause and the number of bytes at fault
  pub Ending-found : (cause : Cause) (len : ℕ) → 0 < length rest
      → BeginsNone rest cause len ⊎ BeginsUnclosed rest cause len
      → (ending : Ending) × EndsAs text place ending
      × (lexical text ending
      ≡ Some (record { cause = cause; start = start; end = start + len }))
  Ending-found cause len some (inl none) =
      (Ending.no_token start, IsStuck-found some none.none, rw (none.why, none.one) refl)
  Ending-found cause len some (inr unclosed) =
      let all : start + len ≡ length text =
      omega (arith, ap length rest_is, length-drop start text, unclosed.all) in
      let there = subst OpensNoValue rest_is unclosed.unclosed in
      let ends : IsUnclosed text place start = search (rules, place_le_start, gap_is_blank) in
      (Ending.unclosed_quotes start, ends, rw (unclosed.why, all) refl)

-- the states at equal places are equal
pub state_at : (text : List ℕ) (n m : ℕ) → n ≡ m
    → ◌≡◌ {A = LexerState} (record { text = text; place = n }) (record { text = text; place = m })
state_at text n m e = let f : ℕ → LexerState = λ k. record { text = text; place = k } in ap f e
