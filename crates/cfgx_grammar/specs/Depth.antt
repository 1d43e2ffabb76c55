-- Counts over the tokens before a place of a text: the number of open functions, of the members of
-- the innermost one, and of the members outside of every function.
-- Source: the Rust Reference's conditional compilation, whose functions have members in
-- parentheses.
use Rattle.std.specs.Prelude.{ℕ, zero, suc, ◌+◌, ◌-◌, ◌==◌, ◌&&◌, Bool, true, false, List, length}
use Rattle.std.specs.Prelude.{take, count_by, nat_lt, nat_le, slice_get, Option, Some, None}
use Rattle.std.specs.Prelude.{if◌then◌else◌}
use Rattle.std.specs.Option.{option_or}
use Rattle.cfgx_syntax.specs.{Token.Token, Items.Item}
use Rattle.cfgx_grammar.specs.FollowSet.{TokenKind, token_kind, is_kind}

-- the number of places below a bound that pass the test
abbrev pub count_below : (ℕ → Bool) → ℕ → ℕ
count_below test zero = 0
count_below test (suc place) = if test place then suc (count_below test place) else count_below test
    place

-- the last place below a bound that passes the test
abbrev pub last_below : (ℕ → Bool) → ℕ → Option ℕ
last_below test zero = None
last_below test (suc place) = if test place then Some place else last_below test place

-- what `find` gives at the first place below a bound where it gives something
abbrev pub first_below : {X : Type 0} → (ℕ → Option X) → ℕ → Option X
first_below find zero = None
first_below find (suc place) = option_or (first_below find place) (find place)

-- Functions, members and roots.

abbrev pub names_function : Token → Bool
names_function Token.all = true
names_function Token.any = true
names_function Token.not = true
names_function _ = false

abbrev pub names_not : Token → Bool
names_not Token.not = true
names_not _ = false

abbrev pub is_closing : Token → Bool
is_closing token = is_kind TokenKind.closing (token_kind token)

-- the number of functions that are open after the tokens, each from its name on: the functions
-- named among them less the `)`, and 0 if there are more `)`
abbrev pub depth : List Item → ℕ
depth prefix = count_by (λ item. names_function item.token) prefix
    - count_by (λ item. is_closing item.token) prefix

-- the number of functions that are open before a place
abbrev pub depth_at : List Item → ℕ → ℕ
depth_at prefix place = depth (take place prefix)

-- the place of the name of the innermost open function: the last place that is less deep than the
-- end of the tokens
abbrev pub innermost : List Item → Option ℕ
innermost prefix =
    last_below (λ place. nat_lt (depth_at prefix place) (depth prefix)) (length prefix)

-- whether a key or the name of a function stands there: with these a member of a list begins
abbrev pub begins_member : Option Item → Bool
begins_member None = false
begins_member (Some item) = is_kind TokenKind.name (token_kind item.token)

-- whether a member begins at the place, with `level` functions open before it
abbrev pub begins_at : List Item → ℕ → ℕ → Bool
begins_at prefix level place =
    depth_at prefix place == level && begins_member (slice_get prefix place)

-- the number of members that begin at the depth `level`, from a place on
abbrev pub members_at : List Item → ℕ → ℕ → ℕ
members_at prefix level from =
    count_below (λ place. nat_le from place && begins_at prefix level place) (length prefix)

-- the number of members of the innermost open function, whose name stands at the place
abbrev pub members : List Item → ℕ → ℕ
members prefix function = members_at prefix (depth prefix) (function + 1)

-- the number of members outside of every function
abbrev pub roots : List Item → ℕ
roots prefix = members_at prefix 0 0
