-- White space ends at the first other character, and nowhere else.
use Rattle.std.proofs.Common.{◌≡◌, ℕ, ◌<◌, ◌≤◌, true, List, [], ◌∷◌, ◌++◌, length, drop, sym, ap}
use Rattle.std.proofs.Common.{◌∙◌, arith, length-append, append_assoc, length-drop}
use Rattle.std.specs.{Prelude.encode_utf8, Prelude.slice_range, Char.is_not_whitespace}
use Rattle.std.specs.Str.{NonePass, encode_utf8_all}
use Rattle.std.proofs.{lemmas.List.Folds.drop_split, lemmas.Bool.both_ways}
use Rattle.std.proofs.lemmas.Str.{cons_from_encodes, encode_same, length-encode}
use Rattle.cfgx_syntax.specs.Items.{IsBlank}

-- `c` at `place` is the first character from `from` on that is no white space
pub record IsFirst (text : List ℕ) (from place c : ℕ) : Type 0 where
  pub comes_after : from ≤ place
  pub gap : IsBlank (slice_range text from place)
  pub more : List ℕ
  pub stands : drop place text ≡ encode_utf8 c ++ more
  pub visible : is_not_whitespace c ≡ true

-- a character takes at least one byte
pub char_some : (c : ℕ) (more : List ℕ) → 0 < length (encode_utf8 c ++ more)
char_some c more = grind (arith, length-append, length-encode)

-- the first character after white space, and what follows it, are determined
same_after : (ws vs : List ℕ) (c d : ℕ) (r t : List ℕ) → NonePass is_not_whitespace ws
    → NonePass is_not_whitespace vs → is_not_whitespace c ≡ true → is_not_whitespace d ≡ true
    → encode_utf8_all ws ++ (encode_utf8 c ++ r) ≡ encode_utf8_all vs ++ (encode_utf8 d ++ t)
    → (c ≡ d) × (r ≡ t)
same_after [] [] c d r t white light seen shown e = encode_same c d r t e
same_after [] (v ∷ vs) c d r t white light seen shown e = grind (arith, encode_same, append_assoc)
same_after (w ∷ ws) [] c d r t white light seen shown e =
    grind (arith, encode_same, append_assoc, both_ways)
same_after (w ∷ ws) (v ∷ vs) c d r t white light seen shown e =
    let same = encode_same w v _ _ (simp append_assoc at e) in
    same_after ws vs c d r t white.1 light.1 seen shown same.1

-- a text of only white space has no other character
none_after : (ws cs : List ℕ) (c : ℕ) (r : List ℕ) → NonePass is_not_whitespace ws
    → NonePass is_not_whitespace cs → is_not_whitespace c ≡ true
    → encode_utf8_all ws ++ (encode_utf8 c ++ r) ≡ encode_utf8_all cs → ⊥
none_after [] cs c r white light seen e = grind (arith, cons_from_encodes)
none_after (w ∷ ws) cs c r white light seen e =
    let same = cons_from_encodes cs _ w (sym (rw append_assoc at e)) in
    none_after ws same.0 c r white.1 (rw same.1 at light).1 seen (sym same.2)

-- the text from `from` on is the white space, the character and the rest
from_first : (text : List ℕ) (from place c : ℕ) (first : IsFirst text from place c)
    → encode_utf8_all first.gap.0 ++ (encode_utf8 c ++ first.more) ≡ drop from text
from_first text from place c first = grind (arith, drop_split)

pub IsFirst-same : (text : List ℕ) (from p q c d : ℕ) → IsFirst text from p c
    → IsFirst text from q d → (p ≡ q) × (c ≡ d)
IsFirst-same text from p q c d one other =
    let both = from_first text from p c one ∙ sym (from_first text from q d other) in
    let same = same_after one.gap.0 other.gap.0 c d one.more other.more
    one.gap.2 other.gap.2 one.visible other.visible both in
    let rests : drop p text ≡ drop q text = cc in
    let some : 0 < length (drop p text) = rw one.stands (char_some c one.more) in
    (omega (arith, length-drop p text, length-drop q text, ap length rests), same.0)

pub IsFirst-not_blank : (text : List ℕ) (from p c : ℕ) → IsFirst text from p c
    → IsBlank (drop from text) → ⊥
IsFirst-not_blank text from p c first blank =
    none_after first.gap.0 blank.0 c first.more first.gap.2 blank.2 first.visible
    (from_first text from p c first ∙ sym blank.1)
