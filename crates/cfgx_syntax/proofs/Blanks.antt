-- Leading white space: first ASCII white space, and then any other.
use Rattle.std.proofs.Common.{◌≡◌, ℕ, ◌+◌, ◌<◌, true, false, List, [], ◌∷◌, ◌++◌, length, take}
use Rattle.std.proofs.Common.{Some, None, drop, get_or, sym, refl, ap, ◌∙◌, subst, arith, add-zero}
use Rattle.std.proofs.Common.{length-append, length-drop, take-append-drop}
use Rattle.std.proofs.{Math.Numerals.one-add, lemmas.List.get_or-drop, lemmas.Bool.cond_both}
use Rattle.std.proofs.Math.Seq.{take-append-add, drop-append-add}
use Rattle.std.proofs.lemmas.Str.{NoCharPasses-nil, NoCharPasses-append, encode_ascii}
use Rattle.std.proofs.lemmas.List.Sums.{prefix_len_stops}
use Rattle.std.specs.{Char.IsScalar, Char.is_not_whitespace, List.prefix_len}
use Rattle.std.specs.Str.{IsTrimStart, NoCharPasses, EmptyOrStartsWithPassing}
use Rattle.cfgx_syntax.specs.lexing.ByteClasses.{BeginsWithClass, is_blank, is_of, may_be_white}
use Rattle.cfgx_syntax.specs.declared.lexer.bytes.Class.{Class}
use Rattle.cfgx_syntax.specs.declared.lexer.bytes.Class.TheVariants as class

pub blank-ascii : (c : ℕ) → is_blank c ≡ true → c < 128
blank-ascii c h = grind arith

ascii-visible : (c : ℕ) → c < 128 → is_blank c ≡ false → is_not_whitespace c ≡ true
ascii-visible c low h = grind arith

ascii-scalar : (c : ℕ) → c < 128 → IsScalar c
ascii-scalar c low = grind arith

one_blank : (c : ℕ) → is_blank c ≡ true → NoCharPasses is_not_whitespace (c ∷ [])
one_blank c h =
    let white : is_not_whitespace c ≡ false = grind arith in
    (c ∷ [], rw (encode_ascii c (blank-ascii c h)) refl, (white, tt))

-- leading bytes of ASCII white space are whole characters of white space
blank-prefix : (text : List ℕ)
    → NoCharPasses is_not_whitespace (take (prefix_len is_blank text) text)
blank-prefix [] = NoCharPasses-nil is_not_whitespace
blank-prefix (c ∷ cs) =
    cond_both (is_blank c) (1 + prefix_len is_blank cs) 0
    (λ n. NoCharPasses is_not_whitespace (take n (c ∷ cs)))
    (λ is. rw one-add (NoCharPasses-append is_not_whitespace (c ∷ []) _ (one_blank c is)
    (blank-prefix cs)))
    (λ _. NoCharPasses-nil is_not_whitespace)

-- A text without its leading white space.

-- a text that is empty or begins with another character has no leading white space
pub IsTrimStart-here : (text more : List ℕ)
    → EmptyOrStartsWithPassing is_not_whitespace text more → IsTrimStart text text
IsTrimStart-here text more starts =
    (0, refl, NoCharPasses-nil is_not_whitespace, (more, starts), omega arith)

pub IsTrimStart-ascii : (rest : List ℕ) → (0 < length rest → get_or rest 0 0 < 128)
    → (0 < length rest → is_blank (get_or rest 0 0) ≡ false) → IsTrimStart rest rest
IsTrimStart-ascii [] low stops = IsTrimStart-here [] [] (λ some. absurd (omega (arith, some)))
IsTrimStart-ascii (c ∷ cs) low stops =
    let ascii : c < 128 = low (omega arith) in
    let visible = ascii-visible c ascii (stops (omega arith)) in
    IsTrimStart-here (c ∷ cs) cs
    (λ _. (c, visible, rw (encode_ascii c ascii) refl, ascii-scalar c ascii))

-- white space before a text, and the leading white space of the text, are skipped together
pub IsTrimStart-past : (before text rest : List ℕ) → NoCharPasses is_not_whitespace before
    → IsTrimStart text rest → IsTrimStart (before ++ text) rest
IsTrimStart-past before text rest blank (n, is, white, starts, short) = (
  length before + n,
  is ∙ sym (drop-append-add before text n),
  rw take-append-add (NoCharPasses-append is_not_whitespace before (take n text) blank white),
  starts,
  omega (arith, short, length-append before text),
)

module _ (text bytes rest : List ℕ) (n : ℕ) (len : n ≡ prefix_len is_blank bytes)
    (same : bytes ≡ text) (is : rest ≡ drop n text) where
  blanks : n ≡ prefix_len is_blank text
  blanks = len ∙ ap (prefix_len is_blank) same

  pub trim_after : (trimmed : List ℕ) → IsTrimStart rest trimmed → IsTrimStart text trimmed
  trim_after trimmed left =
      let blank : NoCharPasses is_not_whitespace (take n text) = rw blanks (blank-prefix text) in
      let whole = IsTrimStart-past (take n text) (drop n text) trimmed blank
      (subst (λ l. IsTrimStart l trimmed) is left) in
      subst (λ l. IsTrimStart l trimmed) (take-append-drop n text) whole

  pub trim_blanks : (0 < length rest → get_or rest 0 0 < 128) → IsTrimStart text rest
  trim_blanks low =
      let stops : 0 < length rest → is_blank (get_or rest 0 0) ≡ false = λ some.
      let inside : prefix_len is_blank text < length text =
      omega (arith, some, ap length is, length-drop n text, blanks) in
      rw (is, blanks, get_or-drop, add-zero) (prefix_len_stops is_blank text 0 inside) in
      trim_after rest (IsTrimStart-ascii rest low stops)

above-blank : (byte : ℕ) → 32 < byte → byte < 128 → is_blank byte ≡ false
above-blank byte above low = grind arith

-- a byte of a class with which no white space begins is ASCII, and above the space
visible : (found : Class) (byte : ℕ) → is_of found byte ≡ true → may_be_white found ≡ false
    → (32 < byte) × (byte < 128)
visible class.Letter byte is white = grind arith
visible class.Digit byte is white = grind arith
visible class.Equals byte is white = grind arith
visible class.OpenParen byte is white = grind arith
visible class.CloseParen byte is white = grind arith
visible class.Comma byte is white = grind arith
visible class.Quote byte is white = grind arith
visible class.Blank byte is white = cc
visible class.Other byte is white = cc

-- a text that begins with such a byte has no leading white space
pub trim_visible : (text : List ℕ) (found : Class) → BeginsWithClass text (Some found)
    → may_be_white found ≡ false → IsTrimStart text text
trim_visible text found begins white =
    let (above, low) = visible found (get_or text 0 0) begins.1 white in
    IsTrimStart-ascii text (λ _. low) (λ _. above-blank (get_or text 0 0) above low)

-- an empty text has no leading white space
pub trim_nothing : (text : List ℕ) → BeginsWithClass text None → IsTrimStart text text
trim_nothing text empty = IsTrimStart-here text [] (λ some. absurd (omega (arith, some, empty)))

pub ruleset trimmed_already = (trim_visible, trim_nothing)
