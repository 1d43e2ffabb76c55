-- Sorted entries are merged.
use Rattle.std.proofs.Common.{◌≡◌, ◌∙◌, ◌<◌, ◌+◌, ◌≤◌, ◌++◌, ◌⊎◌, ℕ, Bool, true, false}
use Rattle.std.proofs.Common.{List, [], ◌∷◌, Option, Some, ap, arith, inl, inr}
use Rattle.std.proofs.Common.{drop, get_or, if◌then◌else◌, length, refl, sym, ⊎_elim}
use Rattle.std.proofs.Common.{append_assoc}
use Rattle.std.proofs.lemmas.List.{append-nil, drop_all}
use Rattle.std.proofs.lemmas.List.{length-append, length-drop}
use Rattle.std.proofs.lemmas.List.{map-append}
use Rattle.std.specs.{List.AllByRecursion}
use Rattle.std.specs.List.Sorted.{IsStrictlySortedBy}
use Rattle.std.specs.Ordering.{is_ge, is_le, ordering_reverse}
use Rattle.std.specs.declared.cmp.Ordering.{Ordering}
use Rattle.std.specs.declared.cmp.Ordering.TheVariants.{Less, Equal, Greater}
use Rattle.cfgx_syntax.specs.Kleene.{EachLane, Planes, lane}
use Rattle.cfgx_syntax.specs.Logic.{kleene_or}
use Rattle.cfg_expr.specs.declared.expr.asked_texts.AskedTexts.{AskedTexts}
use Rattle.cfgx_engine.specs.internal.Index.{AreNextAnswers, AreSorted, Entry, Joins}
use Rattle.cfgx_engine.specs.internal.Index.{entry_codes}
use Rattle.cfgx_engine.specs.internal.Index.{entry_told, paired, told}
use Rattle.cfg_expr.specs.Equality.{Code, code_cmp, code_eq, texts_code}
use Rattle.cfgx_engine.proofs.NamedLemmas.{code_total, equal_codes}
use Rattle.cfgx_engine.proofs.EntryLemmas.{false_or, or_assoc, or_comm, or_false, paired-append}
use Rattle.cfgx_engine.proofs.EntryLemmas.{paired-drop, paired-length, paired-next, told-append}

-- Entries are merged.

-- what was merged so far, and what is left of both lists
pub record Merges (one other done : List Entry) (i j : ℕ) : Type 0 where
  pub one_inside : i ≤ length one
  pub other_inside : j ≤ length other
  pub one_sorted : AreSorted (done ++ drop i one)
  pub other_sorted : AreSorted (done ++ drop j other)
  pub joined : (name : Code) (lane : ℕ) → lane < 64
      → kleene_or (told one name lane) (told other name lane)
      ≡ kleene_or (told done name lane)
      (kleene_or (told (drop i one) name lane) (told (drop j other) name lane))

pub Merges-none : (one other : List Entry) → AreSorted one → AreSorted other
    → Merges one other [] 0 0
Merges-none one other sorted sorted' = record {
  one_inside = omega arith;
  other_inside = omega arith;
  one_sorted = sorted;
  other_sorted = sorted';
  joined = λ name i below. sym (false_or (kleene_or (told one name i) (told other name i)));
}

all_above : (one other : Code) (names : List Code) → code_cmp one other ≡ Less
    → AllByRecursion (λ name. code_cmp other name ≡ Less) names
    → AllByRecursion (λ name. code_cmp one name ≡ Less) names
all_above one other [] less above = tt
all_above one other (name ∷ names) less above =
    (code_total.trans one other name less above.0, all_above one other names less above.1)

all_between : {X : Type 0} (P : X → Type 0) (done front back : List X) (x : X)
    → AllByRecursion P (done ++ x ∷ front) → AllByRecursion P (done ++ back)
    → AllByRecursion P ((done ++ x ∷ []) ++ back)
all_between P [] front back x all all' = (all.0, all')
all_between P (y ∷ done) front back x all all' =
    (all.0, all_between P done front back x all.1 all'.1)

-- a code that is below the rest of another list goes in front of it
sorted_between : (done front back : List Code) (one other : Code) → code_cmp one other ≡ Less
    → IsStrictlySortedBy code_cmp (done ++ one ∷ front)
    → IsStrictlySortedBy code_cmp (done ++ other ∷ back)
    → IsStrictlySortedBy code_cmp ((done ++ one ∷ []) ++ other ∷ back)
unfolding IsStrictlySortedBy
sorted_between [] front back one other less sorted sorted' =
    ((less, all_above one other back less sorted'.0), sorted')
sorted_between (name ∷ done) front back one other less sorted sorted' = (
  all_between (λ name'. code_cmp name name' ≡ Less) done front (other ∷ back) one sorted.0
      sorted'.0,
  sorted_between done front back one other less sorted.1 sorted'.1,
)

module _ (done front back : List Entry) (one other next : Entry) where
  codes_split : (more : List Entry)
      → entry_codes ((done ++ next ∷ []) ++ more)
      ≡ (entry_codes done ++ texts_code next.asked ∷ []) ++ entry_codes more
  codes_split more = simp map-append

  next_less : code_cmp (texts_code one.asked) (texts_code other.asked) ≡ Less → next ≡ one
      → AreSorted (done ++ one ∷ front) → AreSorted (done ++ other ∷ back)
      → AreSorted ((done ++ next ∷ []) ++ other ∷ back)
  next_less less is sorted sorted' =
      rw (codes_split (other ∷ back), is)
      (sorted_between (entry_codes done) (entry_codes front) (entry_codes back)
      (texts_code one.asked)
      (texts_code other.asked) less (rw map-append at sorted) (rw map-append at sorted'))

  -- an entry that has the code of the one that it replaces
  next_same : texts_code next.asked ≡ texts_code one.asked → AreSorted (done ++ one ∷ front)
      → AreSorted ((done ++ next ∷ []) ++ front)
  next_same same sorted =
      rw (codes_split front, same, append_assoc) (rw map-append at sorted)

joined_less : (d f a g : Option Bool)
    → kleene_or d (kleene_or (kleene_or f a) g)
    ≡ kleene_or (kleene_or d (kleene_or f (Some false))) (kleene_or a g)
joined_less d f a g =
    rw (or_false f, or_assoc d f (kleene_or a g), or_assoc f a g) refl

or_swap : (x y z : Option Bool)
    → kleene_or x (kleene_or y z) ≡ kleene_or y (kleene_or x z)
or_swap x y z = sym (or_assoc x y z) ∙ ap (λ w. kleene_or w z) (or_comm x y) ∙ or_assoc y x z

joined_greater : (d a g b : Option Bool)
    → kleene_or d (kleene_or a (kleene_or g b))
    ≡ kleene_or (kleene_or d (kleene_or g (Some false))) (kleene_or a b)
joined_greater d a g b =
    rw (or_false g, or_assoc d g (kleene_or a b), or_swap a g b) refl

joined_equal : (d f a g b h : Option Bool) → h ≡ kleene_or f g
    → kleene_or d (kleene_or (kleene_or f a) (kleene_or g b))
    ≡ kleene_or (kleene_or d (kleene_or h (Some false))) (kleene_or a b)
joined_equal d f a g b h is =
    rw (
      or_false h,
      is,
      or_assoc d (kleene_or f g) (kleene_or a b),
      or_assoc f g (kleene_or a b),
      or_assoc f a (kleene_or g b),
      or_swap a g b,
    ) refl

entry_told-joined : (one other next : Entry) (name : Code) (i : ℕ)
    → texts_code next.asked ≡ texts_code one.asked → texts_code one.asked ≡ texts_code other.asked
    → lane i next.answers ≡ kleene_or (lane i one.answers) (lane i other.answers)
    → entry_told next name i ≡ kleene_or (entry_told one name i) (entry_told other name i)
entry_told-joined one other next name i same same' is =
    both (code_eq (texts_code next.asked) name) (code_eq (texts_code one.asked) name)
    (code_eq (texts_code other.asked) name) (lane i next.answers) (lane i one.answers)
    (lane i other.answers) (ap (λ asked. code_eq asked name) same)
    (ap (λ asked. code_eq asked name) same') is
  where
    both : (same same' same'' : Bool) (h f g : Option Bool) → same ≡ same' → same' ≡ same''
        → h ≡ kleene_or f g
        → (if same then h else Some false)
        ≡ kleene_or (if same' then f else Some false) (if same'' then g else Some false)
    both true true true h f g is is' joined = joined
    both false false false h f g is is' joined = refl
    both true false same'' h f g is is' joined = absurd cc
    both false true same'' h f g is is' joined = absurd cc
    both true true false h f g is is' joined = absurd cc
    both false false true h f g is is' joined = absurd cc

same_entry : (one other : Entry) → one.asked ≡ other.asked → one.answers ≡ other.answers
    → one ≡ other
same_entry one other asked answers =
    ap (λ (asked : AskedTexts).
    let entry : Entry = record { asked = asked; answers = one.answers } in
    entry) asked
    ∙ ap (λ (answers : Planes). let entry : Entry = record {
      asked = other.asked;
      answers = answers;
    } in entry) answers

-- one entry more is merged: the lesser of the next two, or both joined
module _ (one other done : List Entry) (i j : ℕ) (first second next : Entry)
    (front : drop i one ≡ first ∷ drop (i + 1) one)
    (back : drop j other ≡ second ∷ drop (j + 1) other) (below : i < length one)
    (below' : j < length other) (merges : Merges one other done i j) where
  told-next : (name : Code) (lane : ℕ)
      → told (done ++ next ∷ []) name lane
      ≡ kleene_or (told done name lane) (kleene_or (entry_told next name lane) (Some false))
  told-next name lane = told-append done (next ∷ []) name lane

  so_far : (name : Code) (lane : ℕ) → lane < 64
      → kleene_or (told one name lane) (told other name lane)
      ≡ kleene_or (told done name lane) (kleene_or
      (kleene_or (entry_told first name lane) (told (drop (i + 1) one) name lane))
      (kleene_or (entry_told second name lane) (told (drop (j + 1) other) name lane)))
  so_far name lane fits = rw (front, back) at (merges.joined name lane fits)

  Merges-less : code_cmp (texts_code first.asked) (texts_code second.asked) ≡ Less → next ≡ first
      → Merges one other (done ++ next ∷ []) (i + 1) j
  Merges-less less is = record {
    one_inside = omega (arith, below);
    other_inside = omega (arith, below');
    one_sorted = next_same done (drop (i + 1) one) (drop j other) first second next
        (ap (λ (entry : Entry). texts_code entry.asked) is) (rw front at merges.one_sorted);
    other_sorted = rw back (next_less done (drop (i + 1) one) (drop (j + 1) other) first second
        next less is (rw front at merges.one_sorted) (rw back at merges.other_sorted));
    joined = λ name lane fits.
        let front_told = told (drop (i + 1) one) name lane in
        let back_told =
        kleene_or (entry_told second name lane) (told (drop (j + 1) other) name lane) in
        rw (told-next name lane, back) (so_far name lane fits
        ∙ ap (λ x. kleene_or (told done name lane) (kleene_or (kleene_or x front_told) back_told))
        (ap (λ (entry : Entry). entry_told entry name lane) (sym is))
        ∙ joined_less (told done name lane) (entry_told next name lane) front_told back_told);
  }

  Merges-greater : code_cmp (texts_code first.asked) (texts_code second.asked)
      ≡ Greater → next ≡ second
      → Merges one other (done ++ next ∷ []) i (j + 1)
  Merges-greater greater is =
      let turned = code_total.antisymm (texts_code second.asked) (texts_code first.asked) in
      let less : code_cmp (texts_code second.asked) (texts_code first.asked) ≡ Less =
      turned ∙ ap ordering_reverse greater in record {
        one_inside = omega (arith, below);
        other_inside = omega (arith, below');
        one_sorted = rw front (next_less done (drop (j + 1) other) (drop (i + 1) one) second first
            next less is (rw back at merges.other_sorted) (rw front at merges.one_sorted));
        other_sorted = next_same done (drop (j + 1) other) (drop i one) second first next
            (ap (λ (entry : Entry). texts_code entry.asked) is) (rw back at merges.other_sorted);
        joined = λ name lane fits.
            let front_told =
            kleene_or (entry_told first name lane) (told (drop (i + 1) one) name lane) in
            let back_told = told (drop (j + 1) other) name lane in
            rw (told-next name lane, front) (so_far name lane fits
            ∙ ap (λ x. kleene_or (told done name lane) (kleene_or front_told
            (kleene_or x back_told)))
            (ap (λ (entry : Entry). entry_told entry name lane) (sym is))
            ∙ joined_greater (told done name lane) front_told (entry_told next name lane)
            back_told);
      }

  Merges-equal : code_cmp (texts_code first.asked) (texts_code second.asked) ≡ Equal
      → next.asked ≡ first.asked
      → EachLane next.answers (λ i. kleene_or (lane i first.answers) (lane i second.answers))
      → Merges one other (done ++ next ∷ []) (i + 1) (j + 1)
  Merges-equal equal asked lanes =
      let same = ap (λ asked. texts_code asked) asked in
      let same' = equal_codes (texts_code first.asked) (texts_code second.asked) equal in record {
        one_inside = omega (arith, below);
        other_inside = omega (arith, below');
        one_sorted = next_same done (drop (i + 1) one) (drop j other) first second next same
            (rw front at merges.one_sorted);
        other_sorted = next_same done (drop (j + 1) other) (drop i one) second first next
            (same ∙ same') (rw back at merges.other_sorted);
        joined = λ name lane fits.
            rw (told-next name lane) (so_far name lane fits
            ∙ joined_equal (told done name lane) (entry_told first name lane)
            (told (drop (i + 1) one) name lane) (entry_told second name lane)
            (told (drop (j + 1) other) name lane) (entry_told next name lane)
            (entry_told-joined first second next name lane same same' (lanes lane fits)));
      }

  Merges-next : (order : Ordering) (i' j' : ℕ)
      → order ≡ code_cmp (texts_code first.asked) (texts_code second.asked)
      → next.asked ≡ (if is_le order then first.asked else second.asked)
      → AreNextAnswers order first.answers second.answers next.answers
      → i' ≡ i + (if is_le order then 1 else 0) → j' ≡ j + (if is_ge order then 1 else 0)
      → Merges one other (done ++ next ∷ []) i' j'
  Merges-next Less i' j' order asked answers at at' =
      let here : j' ≡ j = omega (arith, at') in
      rw (at, here) (Merges-less (sym order) (same_entry next first asked answers))
  Merges-next Equal i' j' order asked answers at at' =
      rw (at, at') (Merges-equal (sym order) asked answers)
  Merges-next Greater i' j' order asked answers at at' =
      let here : i' ≡ i = omega (arith, at) in
      rw (here, at') (Merges-greater (sym order) (same_entry next second asked answers))

-- one of the lists is at its end, so what is left of the other one goes behind
module _ (one other done : List Entry) (i j : ℕ) (merges : Merges one other done i j) where
  merged_sorted : (length one ≤ i) ⊎ (length other ≤ j)
      → AreSorted ((done ++ drop i one) ++ drop j other)
  merged_sorted = ⊎_elim
      (λ past. rw (drop_all i one past, append-nil done) merges.other_sorted)
      (λ past. rw (drop_all j other past, append-nil (done ++ drop i one)) merges.one_sorted)

  Joins-merged : Joins one other ((done ++ drop i one) ++ drop j other)
  Joins-merged name lane fits =
      rw (
        told-append (done ++ drop i one) (drop j other) name lane,
        told-append done (drop i one) name lane,
        or_assoc (told done name lane) (told (drop i one) name lane)
            (told (drop j other) name lane),
      ) (sym (merges.joined name lane fits))

-- one step of the loop that merges
module _ (names others done : List AskedTexts) (xs ys zs : List Planes) (i j : ℕ)
    (long : length names ≡ length xs) (long' : length others ≡ length ys)
    (merges : (length done ≡ length zs)
    × Merges (paired names xs) (paired others ys) (paired done zs) i j) where
  pub Merges-step : (first second next : AskedTexts) (x y z : Planes) (order : Ordering) (i' j' : ℕ)
      → i < length names → j < length others → first ≡ get_or names i first
      → second ≡ get_or others j second → x ≡ get_or xs i x → y ≡ get_or ys j y
      → order ≡ code_cmp (texts_code first) (texts_code second)
      → next ≡ (if is_le order then first else second) → AreNextAnswers order x y z
      → i' ≡ i + (if is_le order then 1 else 0) → j' ≡ j + (if is_ge order then 1 else 0)
      → (length (done ++ next ∷ []) ≡ length (zs ++ z ∷ []))
      × Merges (paired names xs) (paired others ys) (paired (done ++ next ∷ []) (zs ++ z ∷ [])) i'
      j'
  Merges-step first second next x y z order i' j' below below' is is' at at' ordered lesser answers
      more more' =
      let longer = length-append done (next ∷ []) in
      let longer' = length-append zs (z ∷ []) in (
        omega (arith, longer, longer', merges.0),
        rw (paired-append done (next ∷ []) zs (z ∷ []) merges.0)
            (Merges-next (paired names xs) (paired others ys) (paired done zs) i j
            (record { asked = first; answers = x }) (record { asked = second; answers = y })
            (record { asked = next; answers = z })
            (paired-next names xs i first x long below is at)
            (paired-next others ys j second y long' below' is' at')
            (rw (paired-length names xs long) below) (rw (paired-length others ys long') below')
            merges.1 order i' j' ordered lesser answers more more'),
      )

  tails : paired ((done ++ drop i names) ++ drop j others) ((zs ++ drop i xs) ++ drop j ys)
      ≡ (paired done zs ++ drop i (paired names xs)) ++ drop j (paired others ys)
  tails =
      let front = length-append done (drop i names) in
      let front' = length-append zs (drop i xs) in
      let left = length-drop i names in
      let left' = length-drop i xs in
      rw (
        paired-append (done ++ drop i names) (drop j others) (zs ++ drop i xs) (drop j ys)
            (omega (arith, merges.0, long, front, front', left, left')),
        paired-append done (drop i names) zs (drop i xs) merges.0,
        paired-drop i names xs,
        paired-drop j others ys,
      ) refl

  pub Merges-long : length ((done ++ drop i names) ++ drop j others)
      ≡ length ((zs ++ drop i xs) ++ drop j ys)
  Merges-long =
      let whole = length-append (done ++ drop i names) (drop j others) in
      let whole' = length-append (zs ++ drop i xs) (drop j ys) in
      let front = length-append done (drop i names) in
      let front' = length-append zs (drop i xs) in
      omega (
        arith,
        whole,
        whole',
        front,
        front',
        length-drop i names,
        length-drop i xs,
        length-drop j others,
        length-drop j ys,
        merges.0,
        long,
        long',
      )

  pub Merges-sorted : (length names ≤ i) ⊎ (length others ≤ j)
      → AreSorted
      (paired ((done ++ drop i names) ++ drop j others) ((zs ++ drop i xs) ++ drop j ys))
  Merges-sorted ended =
      rw tails (merged_sorted (paired names xs) (paired others ys) (paired done zs) i j merges.1
      (⊎_elim (λ past. inl (rw (paired-length names xs long) past))
      (λ past. inr (rw (paired-length others ys long') past)) ended))

  pub Merges-joins : Joins (paired names xs) (paired others ys)
      (paired ((done ++ drop i names) ++ drop j others) ((zs ++ drop i xs) ++ drop j ys))
  Merges-joins =
      rw tails (Joins-merged (paired names xs) (paired others ys) (paired done zs) i j merges.1)
