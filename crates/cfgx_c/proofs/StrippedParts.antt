-- Parts of a stripped text are parts of the text.
use Rattle.std.proofs.Common.{◌≡◌, ◌∙◌, ◌+◌, ◌≤◌, ℕ, List, ap, arith, drop, length, length-take}
use Rattle.std.proofs.Common.{sym, take}
use Rattle.std.proofs.lemmas.List.{drop-drop, drop-take, take-take}
use Rattle.std.proofs.lemmas.Slice.{between_is}
use Rattle.std.specs.Prelude.{slice_range}
use Rattle.cfgx_syntax.{proofs.Wrapping.strip-stands, specs.Stripping.{strip, strip_offset}}

-- a part of a part
part_of_part : (n offset start end : ℕ) (text : List ℕ)
    → end ≤ length (take n (drop offset text))
    → slice_range (take n (drop offset text)) start end
    ≡ slice_range text (start + offset) (end + offset)
part_of_part n offset start end text within =
    let rest = drop offset text in
    let few : end ≤ n = omega (arith, length-take {A = ℕ}) in
    let first : offset + start ≡ start + offset = omega arith in
    let last : offset + end ≡ end + offset = omega arith in
    between_is (take n rest) start end
    ∙ ap (drop start) (take-take end n rest few ∙ sym (drop-take offset end text))
    ∙ drop-drop start offset (take (offset + end) text)
    ∙ ap (λ k. drop k (take (offset + end) text)) first
    ∙ ap (λ k. drop (start + offset) (take k text)) last
    ∙ sym (between_is text (start + offset) (end + offset))

-- a part of the stripped text
pub part_of_stripped : (text : List ℕ) (start end : ℕ) → end ≤ length (strip text)
    → slice_range (strip text) start end
    ≡ slice_range text (start + strip_offset text) (end + strip_offset text)
part_of_stripped text start end inside =
    let (is, within) = strip-stands text in
    ap (λ kept. slice_range kept start end) is ∙ part_of_part _ (strip_offset text) start end text
    (omega (arith, inside, ap length is))
