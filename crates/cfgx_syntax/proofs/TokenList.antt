-- A text has only one token list.
use Rattle.std.proofs.Common.{rules, ◌≡◌, ℕ, ◌+◌, ◌-◌, ◌≤◌, true, List, [], length, get_or, ◌∷◌}
use Rattle.std.proofs.Common.{◌++◌, take, drop, sym, refl, ◌∙◌, arith, cond, ltb, ◌⊎◌, inl, inr}
use Rattle.std.proofs.{Common.length-drop, lemmas.List.drop-drop, lemmas.Str.encode_ascii}
use Rattle.std.proofs.{lemmas.Grind.common_steps, lemmas.Bool.le-ltb, lemmas.Bool.lt-ltb}
use Rattle.std.specs.{Prelude.encode_utf8, Prelude.slice_range, Char.is_not_whitespace}
use Rattle.cfgx_syntax.specs.Items.{Item, Stands, Ending, EndsAs, ItemsFrom, IsBlank, starts_token}
use Rattle.cfgx_syntax.proofs.FirstChar.{IsFirst, IsFirst-same, IsFirst-not_blank}
use Rattle.cfgx_syntax.proofs.FirstToken.{begins_token, unclosed_len, token_len, token_len_is}
use Rattle.cfgx_syntax.proofs.FirstToken.{token_by, token_by_is}

-- a byte that begins a token is no white space
starts_token-visible : (c : ℕ) → starts_token c ≡ true → is_not_whitespace c ≡ true
starts_token-visible c h = grind (arith, common_steps)

-- the next item of the text, or its ending
abbrev Comes : List ℕ → ℕ → Item ⊎ Ending → Type 0
Comes text from (inl item) = Stands text from item
Comes text from (inr ending) = EndsAs text from ending

-- the item or the ending at a character that is no white space, by the text alone
abbrev next_at : List ℕ → ℕ → ℕ → Item ⊎ Ending
next_at text place c =
    let rest = drop place text in
    let len = token_len rest in
    cond (starts_token c) (cond (ltb (length rest) len) (inr (Ending.unclosed_quotes place))
    (inl (record { token = token_by (take len rest); start = place; end = place + len })))
    (inr (Ending.no_token place))

-- only white space is left, or something comes at the first other character
data Next (text : List ℕ) (from : ℕ) (next : Item ⊎ Ending) : Type 0 where
  ends : IsBlank (drop from text) → next ≡ inr Ending.blank → Next text from next
  begins : (place c : ℕ) → IsFirst text from place c → next ≡ next_at text place c
      → Next text from next

first_char : (rest : List ℕ) → starts_token (get_or rest 0 0) ≡ true
    → rest ≡ encode_utf8 (get_or rest 0 0) ++ drop 1 rest
first_char rest starts = grind (arith, encode_ascii)

-- a byte that begins a token is the first character after the white space
first_of : (text : List ℕ) (from place : ℕ) → from ≤ place → IsBlank (slice_range text from place)
    → starts_token (get_or (drop place text) 0 0) ≡ true
    → IsFirst text from place (get_or (drop place text) 0 0)
first_of text from place beyond gap starts = search (rules, first_char, starts_token-visible)

next_of : (text : List ℕ) (from : ℕ) (next : Item ⊎ Ending) → Comes text from next
    → Next text from next
next_of text from (inl item) at =
    let rest = drop item.start text in
    let len = item.end - item.start in
    let starts = begins_token rest item.token len at.spelled in
    let end : item.start + len ≡ item.end = omega (arith, at.ordered) in
    let inside : len ≤ length rest =
    omega (arith, at.ordered, at.inside, length-drop item.start text) in
    let long : token_len rest ≡ len =
    token_len_is rest item.token len at.spelled inside (rw (drop-drop, end) at.whole) in
    let fits = le-ltb (length rest) (token_len rest) (rw long inside) in
    Next.begins item.start (get_or rest 0 0)
    (first_of text from item.start at.comes_after at.gap starts)
    (rw (starts, fits, long, end, token_by_is (take len rest) item.token at.spelled) refl)
next_of text from (inr Ending.blank) blank = Next.ends blank refl
next_of text from (inr (Ending.no_token place)) at =
    Next.begins place at.stuck.0 (search rules) (rw at.stuck.5 refl)
next_of text from (inr (Ending.unclosed_quotes place)) at =
    let rest = drop place text in
    let starts : starts_token (get_or rest 0 0) ≡ true = rw at.unclosed.1 refl in
    Next.begins place (get_or rest 0 0) (first_of text from place at.comes_after at.gap starts)
    (rw (starts, lt-ltb _ _ (unclosed_len rest at.unclosed)) refl)

same_next : (text : List ℕ) (from : ℕ) (one other : Item ⊎ Ending) → Next text from one
    → Next text from other → one ≡ other
same_next text from one other (Next.ends blank e) (Next.ends white f) = e ∙ sym f
same_next text from one other (Next.ends blank e) (Next.begins q d first f) =
    absurd (IsFirst-not_blank text from q d first blank)
same_next text from one other (Next.begins p c first e) (Next.ends blank f) =
    absurd (IsFirst-not_blank text from p c first blank)
same_next text from one other (Next.begins p c first e) (Next.begins q d second f) =
    let same = IsFirst-same text from p q c d first second in
    e ∙ (λ i. next_at text (same.0 i) (same.1 i)) ∙ sym f

-- only one thing comes next
Comes-same : (text : List ℕ) (from : ℕ) (one other : Item ⊎ Ending) → Comes text from one
    → Comes text from other → one ≡ other
Comes-same text from one other here there =
    same_next text from one other (next_of text from one here) (next_of text from other there)

-- the list begins with the item
pub record Follows (text : List ℕ) (item : Item) (items : List Item)
    (ending : Ending) : Type 0 where
  pub rest : List Item
  pub items_are : items ≡ item ∷ rest
  pub come : ItemsFrom text item.end rest ending

pub Follows-stands : (text : List ℕ) (place : ℕ) (item : Item) (items : List Item) (ending : Ending)
    → Stands text place item → ItemsFrom text place items ending → Follows text item items ending
Follows-stands text place item [] ending stands come =
    absurd (let wrong = Comes-same text place (inl item) (inr ending) stands come in cc)
Follows-stands text place item (other ∷ others) ending stands come =
    let both = Comes-same text place (inl other) (inl item) come.0 stands in grind arith

-- the items and the ending from `from` on are determined
pub ItemsFrom-same : (text : List ℕ) (from : ℕ) (items others : List Item) (ending end : Ending)
    → ItemsFrom text from items ending → ItemsFrom text from others end
    → (others ≡ items) × (end ≡ ending)
ItemsFrom-same text from [] [] ending end here there =
    let both = Comes-same text from (inr end) (inr ending) there here in (refl, cc)
ItemsFrom-same text from [] (other ∷ others) ending end here there =
    absurd (let wrong = Comes-same text from (inl other) (inr ending) there.0 here in cc)
ItemsFrom-same text from (item ∷ items) others ending end here there =
    let first = Follows-stands text from item others end here.0 there in
    grind (arith, ItemsFrom-same text item.end items first.rest ending end here.1 first.come)

pub no_more_items : (text : List ℕ) (place : ℕ) (items : List Item) (ending end : Ending)
    → EndsAs text place end → ItemsFrom text place items ending → (items ≡ []) × (ending ≡ end)
no_more_items text place items ending end = ItemsFrom-same text place [] items end ending
