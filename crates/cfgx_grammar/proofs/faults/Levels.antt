-- The stack of open functions against the tokens: each open function is the last place that lies
-- less deep than what stands inside it, and its members are those that begin at that depth after
-- it.
use Rattle.std.proofs.Common.{◌≡◌, ⊎_elim, ℕ, zero, suc, ◌+◌, ◌<◌, ◌≤◌, ◌&&◌, ◌==◌, Bool, true}
use Rattle.std.proofs.Common.{false, List, [], ◌∷◌, ◌++◌, length, Option, Some, sym, refl, ap, ◌∙◌}
use Rattle.std.proofs.Common.{arith, take_at, option_map, take_all, if◌then◌else◌, nat_le}
use Rattle.std.proofs.{Common.slice_get, Common.None, lemmas.Option.slice_get_within}
use Rattle.std.proofs.{lemmas.Bool.cases_lt, lemmas.List.take-append-le, lemmas.List.length_push}
use Rattle.cfgx_syntax.specs.Items.{Item}
use Rattle.cfgx_grammar.specs.FollowSet.{TokenKind, token_kind, is_kind}
use Rattle.cfgx_grammar.specs.Depth.{members_at, innermost}
use Rattle.cfgx_grammar.specs.Depth.{count_below, last_below, begins_member, depth, depth_at}
use Rattle.cfgx_grammar.specs.parsing.State.{Function, Open, name_of}
use Rattle.cfgx_grammar.specs.parsing.Step.{over_top, with_parens}
use Rattle.cfgx_grammar.proofs.ListLemmas.{slice_get-append, slice_get-append_seam}

-- Counting and searching the places of a list that grows at its end.

last_below-none : (test : ℕ → Bool) (n : ℕ) → ((k : ℕ) → test k ≡ false)
    → last_below test n ≡ None
last_below-none test zero none = refl
last_below-none test (suc n) none = rw (none n) (last_below-none test n none)

-- no function is open
pub innermost-none : (prefix : List Item) → depth prefix ≡ 0 → innermost prefix ≡ None
innermost-none prefix level = grind (arith, last_below-none)

pub last_below-found : (test : ℕ → Bool) (place n : ℕ) → place < n → test place ≡ true
    → ((k : ℕ) → place < k → k < n → test k ≡ false) → last_below test n ≡ Some place
last_below-found test place zero lt here none = absurd (omega (arith, lt))
last_below-found test place (suc n) lt here none = ⊎_elim
    (λ (less : place < n). rw (none n less (omega arith)) (last_below-found test place n less here
    (λ k above below. none k above (omega (arith, below)))))
    (λ (most : n ≤ place). let same : place ≡ n = omega (arith, lt, most) in
    rw (ap test (sym same) ∙ here) (ap Some (sym same))) (cases_lt place n)

count_below-same : (p q : ℕ → Bool) (n : ℕ) → ((k : ℕ) → k < n → p k ≡ q k)
    → count_below p n ≡ count_below q n
count_below-same p q zero same = refl
count_below-same p q (suc n) same =
    rw (same n (omega arith), count_below-same p q n (λ k lt. same k (omega (arith, lt)))) refl

count_below-none : (test : ℕ → Bool) (n : ℕ) → ((k : ℕ) → k < n → test k ≡ false)
    → count_below test n ≡ 0
count_below-none test zero none = refl
count_below-none test (suc n) none = rw (none n (omega arith))
    (count_below-none test n (λ k lt. none k (omega (arith, lt))))

-- after the last token no member begins
pub members_at_end : (items : List Item) (level from : ℕ) → length items ≤ from
    → members_at items level from ≡ 0
members_at_end items level from past = count_below-none _ (length items) (λ k lt. grind arith)

-- The levels.

-- the name of an open function stands at the place, with `level` functions open before it, and more
-- everywhere after it
pub record IsOpenAt (prefix : List Item) (level : ℕ) (function : Function) (start end : ℕ)
    (place : ℕ) : Type 0 where
  pub name : Item
  pub stands : slice_get prefix place ≡ Some name
  pub named : name.token ≡ name_of function
  pub starts : name.start ≡ start
  pub ends : name.end ≡ end
  pub before : depth_at prefix place ≡ level
  pub inside : (k : ℕ) → place < k → k ≤ length prefix → level < depth_at prefix k

-- the place is that of the last token, or that of a token before it
abbrev pub IsLast : Bool → ℕ → List Item → Type 0
IsLast true place prefix = place + 1 ≡ length prefix
IsLast false place prefix = place + 1 < length prefix

abbrev pub start_of : Option Item → Option ℕ
start_of item = option_map (λ (i : Item). i.start) item

module _ {M : Type 0} where
  -- an open function; `is_named` says whether its name is the last token, and `going` is the number
  -- of its members that have begun and not ended
  pub record IsLevel (prefix : List Item) (is_named : Bool) (level : ℕ) (top : Open M)
      (going : ℕ) : Type 0 where
    pub place : ℕ
    pub is_open : IsOpenAt prefix level top.function top.start top.end place
    pub named_last : IsLast is_named place prefix
    pub parens : start_of (slice_get prefix (place + 1)) ≡ top.parens
    pub count_is : members_at prefix (level + 1) (place + 1) ≡ top.ended_members + going

  abbrev pub Levels : List Item → ℕ → Bool → List (Open M) → ℕ → Type 0
  Levels prefix roots is_named [] going = members_at prefix 0 0 ≡ roots + going
  Levels prefix roots is_named (top ∷ rest) going =
      IsLevel prefix is_named (length rest) top going × Levels prefix roots false rest 1

-- One more token at the end.

module _ (prefix : List Item) (item : Item) where
  abbrev more : List Item
  more = prefix ++ item ∷ []

  pub length_more : length more ≡ suc (length prefix)
  length_more = length_push prefix item ∙ omega arith

  pub depth_at_front : (k : ℕ) → k ≤ length prefix → depth_at more k ≡ depth_at prefix k
  depth_at_front k le = ap depth (take-append-le k prefix (item ∷ []) le)

  pub depth_at_end : depth_at more (length prefix) ≡ depth prefix
  depth_at_end = ap depth (take_at prefix (item ∷ []) (length prefix) refl)

  abbrev counts : List Item → ℕ → ℕ → ℕ → Bool
  counts items level from place = nat_le from place
      && (depth_at items place == level && begins_member (slice_get items place))

  -- whether the token is counted
  abbrev is_counted : ℕ → ℕ → Bool
  is_counted level from = nat_le from (length prefix)
      && (depth prefix == level && is_kind TokenKind.name (token_kind item.token))

  pub members_at_more : (level from : ℕ) (counted : Bool) → is_counted level from ≡ counted
      → members_at more level from ≡ (if counted then suc (members_at prefix level from)
      else members_at prefix level from)
  members_at_more level from counted is =
      let same =
      count_below-same (counts more level from) (counts prefix level from) (length prefix)
      (λ k lt. rw (depth_at_front k (omega (arith, lt)), slice_get-append prefix (item ∷ []) k lt)
      refl) in
      grind (arith, depth_at_end, slice_get-append_seam, length_more)

  -- the token begins a member at the depth
  pub members_at_name : (level from : ℕ) → from ≤ length prefix → depth prefix ≡ level
      → is_kind TokenKind.name (token_kind item.token) ≡ true
      → members_at more level from ≡ members_at prefix level from + 1
  members_at_name level from le at begins =
      members_at_more level from true (grind arith) ∙ omega arith

  -- it begins none
  pub members_at_other : (level from : ℕ) → is_kind TokenKind.name (token_kind item.token) ≡ false
      → members_at more level from ≡ members_at prefix level from
  members_at_other level from begins = members_at_more level from false (grind arith)

  IsOpenAt-more : (level : ℕ) (function : Function) (start end place : ℕ) → level < depth more
      → IsOpenAt prefix level function start end place
      → IsOpenAt more level function start end place
  IsOpenAt-more level function start end place deep is =
      grind (arith, slice_get_within, slice_get-append, depth_at_front, take_all, length_more)

  -- the token changes the members of the level, and the number of those that have not ended
  IsLevel-more : {M : Type 0} (level going goes : ℕ) (top : Open M) → level < depth more
      → ((place : ℕ) → place < length prefix
      → members_at prefix (level + 1) (place + 1) ≡ top.ended_members + going
      → members_at more (level + 1) (place + 1) ≡ top.ended_members + goes)
      → IsLevel prefix false level top going → IsLevel more false level top goes
  IsLevel-more level going goes top deep adds is =
      grind (arith, IsOpenAt-more, length_more, slice_get-append)

  -- the token adds no member to any level
  pub Levels-same : {M : Type 0} (roots going : ℕ) (stack : List (Open M))
      → length stack ≤ depth more → ((level from : ℕ) → level ≤ length stack
      → members_at more level from ≡ members_at prefix level from)
      → Levels prefix roots false stack going → Levels more roots false stack going
  Levels-same roots going [] deep same levels = same 0 0 (omega arith) ∙ levels
  Levels-same roots going (top ∷ rest) deep same (l, levels) = (
    IsLevel-more (length rest) going going top (omega (arith, deep))
        (λ place lt counted. same (length rest + 1) (place + 1) (omega arith) ∙ counted) l,
    Levels-same roots 1 rest (omega (arith, deep))
        (λ level from le. same level from (omega (arith, le))) levels,
  )

  -- the token begins a member of the innermost list
  pub Levels-member : {M : Type 0} (roots : ℕ) (stack : List (Open M)) → length stack ≤ depth more
      → depth prefix ≡ length stack → is_kind TokenKind.name (token_kind item.token) ≡ true
      → Levels prefix roots false stack 0 → Levels more roots false stack 1
  Levels-member roots [] deep at begins levels = grind (arith, members_at_name)
  Levels-member roots (top ∷ rest) deep at begins (l, levels) = (
    IsLevel-more (length rest) 0 1 top (omega (arith, deep))
        (λ place lt counted. members_at_name (length rest + 1) (place + 1)
        (omega (arith, lt)) (at ∙ omega arith) begins ∙ ap (λ n. n + 1) counted ∙ omega arith) l,
    Levels-same roots 1 rest (omega (arith, deep))
        (λ level from le. members_at_more level from false
        (let deeper : level < depth prefix = omega (arith, at, le) in grind arith)) levels,
  )

  -- the token is the `(` of the innermost function
  pub Levels-open : {M : Type 0} (roots going : ℕ) (stack : List (Open M))
      → length stack ≤ depth more → is_kind TokenKind.name (token_kind item.token) ≡ false
      → Levels prefix roots true stack going
      → Levels more roots false (over_top (with_parens item.start) stack) going
  Levels-open roots going [] deep other levels = members_at_other 0 0 other ∙ levels
  Levels-open roots going (top ∷ rest) deep other (l, levels) = (
    record {
      place = l.place;
      is_open = IsOpenAt-more (length rest) _ _ _ l.place (omega (arith, deep)) l.is_open;
      named_last = omega (arith, l.named_last, length_more);
      parens = ap (λ k. start_of (slice_get more k)) l.named_last
          ∙ ap start_of (slice_get-append_seam prefix item []);
      count_is = members_at_other (length rest + 1) (l.place + 1) other ∙ l.count_is;
    },
    Levels-same roots 1 rest (omega (arith, deep))
        (λ level from le. members_at_other level from other) levels,
  )
