-- The numbers of reasons and of lists of terms say which these are.
use Rattle.std.proofs.Common.{◌≡◌, ℕ, ◌+◌, ◌-◌, ◌<◌, ◌==◌, List, [], get_or, Option, Some, None}
use Rattle.std.proofs.Common.{refl, sym, ap, ◌∙◌, arith, subst, if◌then◌else◌}
use Rattle.std.specs.{List.position, Option.option_map_or}
use Rattle.std.proofs.lemmas.List.Quantifiers.{position-Some}
use Rattle.cfgx_syntax.specs.Error.{Cause, cause_members, cause_number, cause_terms, texts_eq}
use Rattle.cfgx_syntax.specs.Error.{empty, invalid_characters, invalid_has_atomic, invalid_integer}
use Rattle.cfgx_syntax.specs.Error.{invalid_not, multiple_root_predicates, unclosed_parens}
use Rattle.cfgx_syntax.specs.Error.{unclosed_quotes, unexpected, unknown_builtin, unopened_parens}
use Rattle.cfgx_syntax.specs.Error.{unopened_quotes}
use Rattle.cfgx_syntax.specs.Terms.{HasNumberedTerms, Terms, list_number, lists, terms_number}
use Rattle.cfgx_syntax.proofs.Equalities.{texts-decide}

-- the cause with this number, these members and these terms
abbrev cause_with : ℕ → ℕ → Terms → Cause
cause_with number members terms =
    if number == 1 then invalid_not members
    else if number == 2 then invalid_characters
    else if number == 3 then unclosed_parens
    else if number == 4 then unopened_parens
    else if number == 5 then unclosed_quotes
    else if number == 6 then unopened_quotes
    else if number == 7 then empty
    else if number == 8 then unexpected terms
    else if number == 9 then invalid_integer
    else if number == 10 then multiple_root_predicates
    else if number == 11 then invalid_has_atomic
    else unknown_builtin

cause_with-same : (cause : Cause)
    → cause_with (cause_number cause) (cause_members cause) (cause_terms cause) ≡ cause
cause_with-same (invalid_not found) = refl
cause_with-same invalid_characters = refl
cause_with-same unclosed_parens = refl
cause_with-same unopened_parens = refl
cause_with-same unclosed_quotes = refl
cause_with-same unopened_quotes = refl
cause_with-same empty = refl
cause_with-same (unexpected terms) = refl
cause_with-same invalid_integer = refl
cause_with-same multiple_root_predicates = refl
cause_with-same invalid_has_atomic = refl
cause_with-same unknown_builtin = refl

pub same_cause : (one other : Cause) → cause_number one ≡ cause_number other
    → cause_members one ≡ cause_members other → cause_terms one ≡ cause_terms other → one ≡ other
same_cause one other number members terms =
    cc (cause_with-same one, cause_with-same other)

-- a list with a number stands at the place of this number
listed_at : (terms : Terms) (found : Option ℕ) → position (texts_eq terms) lists ≡ found
    → 0 < option_map_or (λ place. place + 1) found 0
    → get_or lists (option_map_or (λ place. place + 1) found 0 - 1) [] ≡ terms
listed_at terms None is some = absurd (omega arith)
listed_at terms (Some place) is some =
    let at = position-Some (texts_eq terms) lists place [] is in
    let back : place + 1 - 1 ≡ place = omega arith in
    rw back (sym ((texts-decide terms (get_or lists place [])).0 at.1))

pub same_list : (one other : Terms) → 0 < list_number one → list_number one ≡ list_number other
    → one ≡ other
same_list one other some same =
    sym (listed_at one _ refl some) ∙ ap (λ number. get_or lists (number - 1) []) same
    ∙ listed_at other _ refl (subst (λ number. 0 < number) same some)

-- the terms of causes with the same number, if these have a number
same_terms : (one other : Cause) → HasNumberedTerms one → HasNumberedTerms other
    → cause_number one ≡ cause_number other → terms_number one ≡ terms_number other
    → cause_terms one ≡ cause_terms other
same_terms (unexpected terms) (unexpected others) numbered both number same =
    same_list terms others numbered same
same_terms one other numbered both number same = grind arith

pub named_cause : (one other : Cause) → HasNumberedTerms one → HasNumberedTerms other
    → cause_number one ≡ cause_number other → cause_members one ≡ cause_members other
    → terms_number one ≡ terms_number other → one ≡ other
named_cause one other numbered both number members terms =
    same_cause one other number members (same_terms one other numbered both number terms)
