-- Terms that are written piece by piece are cut off where one whole term is.
use Rattle.std.proofs.Common.{◌≡◌, ℕ, zero, suc, ◌+◌, ◌<◌, ◌≤◌, List, [], ◌∷◌, ◌++◌, length, take}
use Rattle.std.proofs.Common.{refl, ap, sym, ◌∙◌, arith, append_assoc, length-append}
use Rattle.std.specs.Prelude.{codes, set}
use Rattle.std.proofs.lemmas.List.{take_all, take_more_set, take-append-le, length-take-le}
use Rattle.cfgx_examples.specs.Terms.{cut, in_parens}

take-front : (n : ℕ) (front rest : List ℕ) → take n (take n front ++ rest) ≡ take n (front ++ rest)
take-front zero front rest = refl
take-front (suc n) [] rest = refl
take-front (suc n) (byte ∷ front) rest = ap (λ l. byte ∷ l) (take-front n front rest)

pub cut-front : (front rest : List ℕ) → cut (cut front ++ rest) ≡ cut (front ++ rest)
cut-front front rest = take-front 64 front rest

-- the bytes of a term fit
pub cut-short : (bytes : List ℕ) (n : ℕ) → n ≤ 64 → length bytes ≡ 64
    → take n bytes ≡ cut (take n bytes)
cut-short bytes n within long =
    sym (take_all 64 (take n bytes) (omega (arith, length-take-le n bytes (omega (arith, long)))))

-- a pushed byte, if there is room
pub cut-pushed : (bytes : List ℕ) (n byte : ℕ) → n < 64 → length bytes ≡ 64
    → take (n + 1) (set bytes n byte) ≡ cut (take n bytes ++ byte ∷ [])
cut-pushed bytes n byte room long =
    let short = length-take-le n bytes (omega (arith, long)) in
    let fits : length (take n bytes ++ byte ∷ []) ≤ 64 =
    omega (arith, short, length-append (take n bytes) (byte ∷ [])) in
    take_more_set bytes n byte (omega (arith, long)) ∙ sym (take_all 64 _ fits)

-- a pushed byte, if there is no room
pub cut-full : (bytes : List ℕ) (n byte : ℕ) → n ≡ 64 → length bytes ≡ 64
    → take n bytes ≡ cut (take n bytes ++ byte ∷ [])
cut-full bytes n byte full long =
    let short = length-take-le n bytes (omega (arith, full, long)) in
    cut-short bytes n (omega (arith, full)) long
    ∙ sym (take-append-le 64 (take n bytes) (byte ∷ []) (omega (arith, short, full)))

-- the next byte of a list that is written byte by byte
pub cut-next : (old front now new : List ℕ) (byte : ℕ) → now ≡ cut (old ++ front)
    → new ≡ cut (now ++ byte ∷ []) → new ≡ cut (old ++ (front ++ byte ∷ []))
cut-next old front now new byte is next =
    next ∙ ap (λ l. cut (l ++ byte ∷ [])) is ∙ cut-front (old ++ front) (byte ∷ [])
    ∙ ap cut (append_assoc old front (byte ∷ []))

-- a term whose parts are written one after another
pub cut-in_parens : (one other first second third fourth fifth : List ℕ) (sign : ℕ)
    → first ≡ cut (codes "(") → second ≡ cut (first ++ one) → third ≡ cut (second ++ sign ∷ [])
    → fourth ≡ cut (third ++ other) → fifth ≡ cut (fourth ++ codes ")")
    → fifth ≡ in_parens sign one other
cut-in_parens one other first second third fourth fifth sign a b c d e =
    let front = codes "(" ++ one in
    let signed = front ++ sign ∷ [] in
    let both = signed ++ other in
    let second_is : second ≡ cut front =
    b ∙ ap (λ l. cut (l ++ one)) a ∙ cut-front (codes "(") one in
    let third_is : third ≡ cut signed =
    c ∙ ap (λ l. cut (l ++ sign ∷ [])) second_is ∙ cut-front front (sign ∷ []) in
    let fourth_is : fourth ≡ cut both =
    d ∙ ap (λ l. cut (l ++ other)) third_is ∙ cut-front signed other in
    let regrouped : both ++ codes ")" ≡ codes "(" ++ (one ++ (sign ∷ (other ++ codes ")"))) =
    append_assoc signed other (codes ")") ∙ append_assoc front (sign ∷ []) (other ++ codes ")")
    ∙ append_assoc (codes "(") one (sign ∷ (other ++ codes ")")) in
    e ∙ ap (λ l. cut (l ++ codes ")")) fourth_is ∙ cut-front both (codes ")") ∙ ap cut regrouped
