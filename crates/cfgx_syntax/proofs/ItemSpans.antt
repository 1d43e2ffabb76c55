-- Items lie in their text, one behind another, and so does the fault at which they end.
use Rattle.std.proofs.Common.{◌≡◌, ℕ, ◌+◌, ◌<◌, ◌≤◌, List, [], ◌∷◌, ◌++◌, length, drop, Some}
use Rattle.std.proofs.Common.{arith, subst, ap, length-drop}
use Rattle.std.specs.{Prelude.encode_utf8, Prelude.IfSome, Prelude.Option, List.AllByRecursion}
use Rattle.std.proofs.lemmas.List.Elements.{All-from_recursion}
use Rattle.std.proofs.lemmas.List.Kept.{AllPairs-cons}
use Rattle.cfgx_syntax.specs.Error.{Fault}
use Rattle.cfgx_syntax.specs.Items.{Ending, EndsAs, Item, ItemsFrom, LieInOrder, lexical}
use Rattle.cfgx_syntax.specs.Spans.{LiesIn}
use Rattle.cfgx_syntax.proofs.FirstChar.{char_some}

module _ (text : List ℕ) where
  -- items that stand from a place on begin at this place or behind it
  begin_behind : (low from : ℕ) (items : List Item) (ending : Ending) → low ≤ from
      → ItemsFrom text from items ending → AllByRecursion (λ item. low ≤ item.start) items
  begin_behind low from [] ending below are = tt
  begin_behind low from (item ∷ items) ending below are =
      let here : low ≤ item.start = omega (arith, are.0.comes_after) in
      let next : low ≤ item.end = omega (arith, are.0.ordered) in
      (here, begin_behind low item.end items ending next are.1)

  pub LieInOrder-items : (from : ℕ) (items : List Item) (ending : Ending)
      → ItemsFrom text from items ending → LieInOrder text items
  LieInOrder-items from [] ending are = record {
    each = tt;
    in_order = λ i j d less below. absurd (omega (arith, below));
  }
  LieInOrder-items from (item ∷ items) ending are =
      let others = LieInOrder-items item.end items ending are.1 in
      record {
        each = (record { ordered = are.0.ordered; inside = are.0.inside }, others.each);
        in_order = AllPairs-cons (λ (one later : Item). one.end ≤ later.start) item items
            (All-from_recursion _ items
            (begin_behind item.end item.end items ending (omega arith) are.1))
            others.in_order;
      }

  -- behind a place where a text goes on
  goes_on : (place : ℕ) → 0 < length (drop place text) → place < length text
  goes_on place some = omega (arith, length-drop place text)

  pub LiesIn-lexical : (from : ℕ) (ending : Ending) (fault : Fault) → EndsAs text from ending
      → lexical text ending ≡ Some fault → LiesIn text fault.start fault.end
  LiesIn-lexical from Ending.blank fault ends is = absurd (cc)
  LiesIn-lexical from (Ending.no_token place) fault ends is =
      let begins = ends.stuck.3 in
      let some : 0 < length (drop place text) =
      rw begins (char_some ends.stuck.0 ends.stuck.1) in
      let inside = goes_on place some in
      let lies : LiesIn text place (place + 1) =
      record { ordered = omega arith; inside = omega (arith, inside) } in
      subst (λ (l : Option Fault). IfSome l (λ f. LiesIn text f.start f.end)) is lies
  LiesIn-lexical from (Ending.unclosed_quotes place) fault ends is =
      let (more, begins, none) = ends.unclosed in
      let some : 0 < length (drop place text) = rw begins (omega arith) in
      let inside = goes_on place some in
      let lies : LiesIn text place (length text) =
      record { ordered = omega (arith, inside); inside = omega arith } in
      subst (λ (l : Option Fault). IfSome l (λ f. LiesIn text f.start f.end)) is lies
