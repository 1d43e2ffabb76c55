-- Each item, with the white space before it.
use Rattle.std.proofs.Common.{◌≡◌, [], ◌∷◌, ◌++◌, refl, sym, ap, lit<, arith, rules}
use Rattle.std.{proofs.lemmas.Str.encode_ascii, specs.Prelude.codes, specs.Char.encode_utf8}
use Rattle.cfgx_syntax.specs.Items.{IsBlank}
use Rattle.cfgx_vectors.proofs.rules.definitions.listed.Goals as goal

no_gap : IsBlank []
no_gap = ([], refl, tt)

one_space : IsBlank (codes " ")
one_space = (32 ∷ [], ap (λ l. l ++ []) (encode_ascii 32 (lit< tt)), (refl, tt))

wide_space : IsBlank (194 ∷ 160 ∷ [])
unfolding encode_utf8
wide_space = (160 ∷ [], refl, (refl, tt))

eight : codes "8 b" ≡ encode_utf8 56 ++ codes " b"
eight = sym (ap (λ l. l ++ codes " b") (encode_ascii 56 (lit< tt)))

pub returns : goal.returns
returns c = record {
  stuck = (
    search (rules, no_gap),
    record {
      comes_after = omega arith;
      gap = one_space;
      stuck = (56, codes " b", refl, eight, refl, refl);
    },
  );
  unclosed = search (rules, no_gap, one_space);
  empty_value = search (rules, no_gap);
  wide_space = search (rules, no_gap, wide_space);
}
