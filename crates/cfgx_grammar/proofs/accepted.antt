-- A tree spells the tokens that the parser accepts.
use Rattle.std.proofs.Common.{◌≡◌, ℕ, suc, ◌+◌, true, List, [], ◌∷◌, ◌++◌, refl, ap, ◌∙◌, arith}
use Rattle.std.proofs.Common.{subst, add-zero, append_assoc, ◌⊎◌, inl, inr, Option, Some, None}
use Rattle.std.proofs.Common.{option_map, Result, Ok, sym, false, Bool, map, Err, append-nil}
use Rattle.std.proofs.Common.{if◌then◌else◌}
use Rattle.std.proofs.{lemmas.Bool.Decides.Decides-eqb, lemmas.Bool.false≢true}
use Rattle.cfgx_syntax.specs.{Token.Token, Items.Item, Error.Fault}
use Rattle.cfgx_grammar.specs.Question.{Question, Leaf}
use Rattle.cfgx_grammar.specs.FollowSet.{TokenKind, takes, token_kind, next}
use Rattle.cfgx_grammar.specs.{Tree.ListFunction, Tree.Tree, Tree.Trees, Tree.count, Grammar.IsLeaf}
use Rattle.cfgx_grammar.specs.Grammar.{commas, Separates, IsMember, IsList, IsTree, leaf_tokens}
use Rattle.cfgx_grammar.specs.parsing.State.{Function, Open, name_of, LocatedText, Pending}
use Rattle.cfgx_grammar.specs.parsing.State.{Builder, State}
use Rattle.cfgx_grammar.specs.{parsing.State.initial, LastPredicate.class_of}
use Rattle.cfgx_grammar.specs.LastPredicate.{located_text}
use Rattle.cfgx_grammar.specs.parsing.Step.{allows_count, result_map, leaf_ended, ended_by}
use Rattle.cfgx_grammar.specs.parsing.Step.{predicate_ended, new_open, and_then, opened}
use Rattle.cfgx_grammar.specs.parsing.Step.{member_count, function_ended, closed_by}
use Rattle.cfgx_grammar.specs.parsing.Step.{apply, step, step_each, one_root, conclude}
use Rattle.cfgx_grammar.specs.{Classification.Class, Classification.class, FirstFault.lacks_value}

-- The tree of a leaf: a predicate or a literal that stands alone.
abbrev pub leaf_tree : Leaf → Tree Question
leaf_tree (Leaf.predicate question) = Tree.leaf question
leaf_tree (Leaf.literal truth) = Tree.literal truth

-- the tokens of a leaf spell its tree as a member
pub IsMember-leaf : (tokens : List Token) (leaf : Leaf) → IsLeaf tokens leaf
    → IsMember tokens (leaf_tree leaf)
IsMember-leaf tokens leaf is = grind arith

-- The tokens that complete the open lists of the parser. They are read from the end of a text: a
-- member is put before those that are there.

-- the number of commas that may stand before the members that are left: none, any number, or, after
-- a member, as `Separates` says
abbrev pub NoComma : ℕ → Trees Question → Type 0
NoComma n trees = n ≡ 0

abbrev pub AnyCommas : ℕ → Trees Question → Type 0
AnyCommas n trees = Unit {0}

-- the tokens of one tree as a list are those of the tree alone
pub one_tree : (tokens : List Token) (trees : Trees Question) → count trees ≡ 1
    → IsList tokens trees → (tree : Tree Question) × IsTree tokens tree
one_tree tokens Trees.none one list = absurd (omega arith)
one_tree tokens (Trees.more tree Trees.none) one (member, n, rest, are, some, spelled, end) =
    (tree, (member, n, rw (are, end, append-nil (commas n)) refl, spelled))
one_tree tokens (Trees.more tree (Trees.more second trees)) one list = absurd (omega arith)

module _ {M : Type 0} where
  -- The tokens close the open functions, the innermost of which has `members` more members: after
  -- each `)` come commas and the members that are left of the list around it. The root has one
  -- member.
  abbrev pub Ends : List (Open M) → ℕ → ℕ → List Token → Type 0
  Ends [] roots members tokens = (roots + members ≡ 1) × (tokens ≡ [])
  Ends (top ∷ rest) roots members tokens =
      (allows_count top.function (top.ended_members + members) ≡ true)
      × (n : ℕ) × (others : List Token)
      × (trees : Trees Question) × (after : List Token)
      × (tokens ≡ Token.close_paren ∷ (commas n ++ (others ++ after))) × Separates n trees
      × IsList others trees × Ends rest roots (1 + count trees) after

  -- the tokens are commas, members of the innermost list, and what closes it; `members` is the
  -- number of members that the stack does not count yet
  abbrev pub Rest : (ℕ → Trees Question → Type 0) → List (Open M) → ℕ → ℕ → List Token → Type 0
  Rest May stack roots members tokens = (n : ℕ) × (others : List Token)
      × (trees : Trees Question) × (after : List Token)
      × (tokens ≡ commas n ++ (others ++ after)) × May n trees × IsList others trees
      × Ends stack roots (members + count trees) after

  -- no member is left
  pub Rest-none : (May : ℕ → Trees Question → Type 0) (stack : List (Open M)) (roots members : ℕ)
      (tokens : List Token) → May 0 Trees.none → Ends stack roots members tokens
      → Rest May stack roots members tokens
  Rest-none May stack roots members tokens may ends =
      (0, [], Trees.none, tokens, refl, may, refl, rw (add-zero members) ends)

  -- a comma, and a member, before what is left
  pub Rest-comma : (stack : List (Open M)) (roots members : ℕ) (tokens : List Token)
      → Rest AnyCommas stack roots members tokens
      → Rest Separates stack roots members (Token.comma ∷ tokens)
  Rest-comma stack roots members tokens (n, others, trees, after, are, any, list, ends) =
      (suc n, others, trees, after, ap (λ l. Token.comma ∷ l) are, (grind arith), list, ends)

  pub Rest-member : (stack : List (Open M)) (roots : ℕ) (member tokens : List Token)
      (tree : Tree Question) → IsMember member tree → Rest Separates stack roots 1 tokens
      → Rest NoComma stack roots 0 (member ++ tokens)
  Rest-member stack roots member tokens tree is (n, others, trees, after, are, may, list, ends) =
      let sum : 1 + count trees ≡ 0 + suc (count trees) = omega arith in
      let all : member ++ tokens ≡ (member ++ (commas n ++ others)) ++ after =
      rw are (simp append_assoc) in
      let end = subst (λ m. Ends stack roots m after) sum ends in
      (0, _, Trees.more tree trees, after, all, refl, (member, n, others, refl, may, is, list), end)

  -- a call before what is left after it
  pub Rest-call : (function : Function) (begun : Open M) (stack : List (Open M)) (roots : ℕ)
      (tokens : List Token) → begun.function ≡ function → begun.ended_members ≡ 0
      → Rest NoComma (begun ∷ stack) roots 0 tokens
      → Rest NoComma stack roots 0 (name_of function ∷ Token.open_paren ∷ tokens)
  Rest-call function begun stack roots tokens is none
      (n, inner, trees, _, these, bare, list, (room, m, others, left, after, are, may, rest, ends))
      =
      let one : begun.ended_members + (0 + count trees) ≡ count trees = omega arith in
      let (tree, spelled) = called function inner trees (rw (one, is) at room) list in
      let beyond = commas m ++ (others ++ after) in
      let tokens_are : tokens ≡ (inner ++ Token.close_paren ∷ []) ++ beyond =
      these ∙ rw (bare, are) (simp append_assoc) in
      rw tokens_are (Rest-member stack roots _ beyond tree spelled
      (m, others, left, after, refl, may, rest, ends))
    where
      called : (function : Function) (list : List Token) (trees : Trees Question)
          → allows_count function (count trees) ≡ true → IsList list trees → (tree : Tree Question)
          × IsMember (name_of function ∷ Token.open_paren ∷ (list ++ Token.close_paren ∷ [])) tree
      called (Function.list function) list trees room is =
          (Tree.list function trees, (list, refl, is))
      called Function.not list trees room is =
          let (tree, (member, n, are, spelled)) = one_tree list trees
          ((Decides-eqb (count trees) 1).0 room) is in
          let tokens = ap (λ l. Token.not ∷ Token.open_paren ∷ (l ++ Token.close_paren ∷ [])) are in
          (Tree.not tree, (member, n, tokens, spelled))

-- The state after a predicate that ends, and what completes a state by its last token.

pub ok_same : {A E : Type 0} (s t : A) → ◌≡◌ {A = Result A E} (Ok s) (Ok t) → s ≡ t
ok_same s t e = cc

module _ {W M L : Type 0} {builder : Builder W M L} where
  -- the state after a predicate that ends without a fault
  pub record LeafEnds (s t : State builder) (p : Pending) : Type 0 where
    pub leaf : Leaf
    pub written : L
    pub class_is : class_of p ≡ Class.is leaf
    pub ended : t ≡ leaf_ended s written

  pub LeafEnds-ended : (s t : State builder) (p : Pending) → s.pending ≡ Some p
      → predicate_ended s ≡ Ok t → LeafEnds s t p
  LeafEnds-ended s t p pending ends = grind arith

  -- the state is the same if no predicate is pending
  pub same_ended : (s t : State builder) → s.pending ≡ None → predicate_ended s ≡ Ok t → s ≡ t
  same_ended s t none ends = ok_same s t (ap (ended_by s) (sym none) ∙ ends)

  abbrev pub RestOf : (ℕ → Trees Question → Type 0) → State builder → ℕ → List Token → Type 0
  RestOf May s members tokens = Rest May s.stack s.roots members tokens

  -- the tokens begin with a predicate of this key, which the stack does not count yet
  abbrev pub LeafRest : State builder → List ℕ → List Token → Type 0
  LeafRest s key tokens =
      (value : Option (List ℕ)) × (leaf : Leaf) × (others : List Token)
      × (tokens ≡ leaf_tokens key value ++ others) × (class key value ≡ Class.is leaf)
      × RestOf Separates s 1 others

  -- the tokens complete what a state has read, by the last token that it read
  abbrev pub Completes : Option Token → State builder → List Token → Type 0
  Completes None s tokens = s.pending ≡ None → RestOf NoComma s 0 tokens
  Completes (Some Token.open_paren) s tokens = s.pending ≡ None → RestOf NoComma s 0 tokens
  Completes (Some Token.comma) s tokens = s.pending ≡ None → RestOf AnyCommas s 0 tokens
  Completes (Some Token.close_paren) s tokens = s.pending ≡ None → RestOf Separates s 0 tokens
  Completes (Some (Token.key _)) s tokens = (key : LocatedText)
      → s.pending ≡ Some (record { key = key; value = None })
      → LeafRest s key.text (Token.key key.text ∷ tokens)
  Completes (Some Token.equals) s tokens = (key : LocatedText)
      → s.pending ≡ Some (record { key = key; value = None })
      → LeafRest s key.text (Token.key key.text ∷ Token.equals ∷ tokens)
  Completes (Some (Token.value _)) s tokens = (key value : LocatedText)
      → s.pending ≡ Some (record { key = key; value = Some value })
      → LeafRest s key.text (leaf_tokens key.text (Some value.text) ++ tokens)
  Completes _ s tokens = (top : Open M) (rest : List (Open M)) → s.stack ≡ top ∷ rest
      → s.pending ≡ None → (others : List Token) × (tokens ≡ Token.open_paren ∷ others)
      × RestOf NoComma s 0 others

  -- where a member may follow, it may follow without a comma
  pub Completes-member : (last : Option Token) (s : State builder) (tokens : List Token)
      → takes last TokenKind.name ≡ true → (s.pending ≡ None → RestOf NoComma s 0 tokens)
      → Completes last s tokens
  Completes-member last s tokens may r = grind arith

  -- after a predicate that ends
  LeafRest-ended : (s t : State builder) (tokens : List Token) (p : Pending) → s.pending ≡ Some p
      → predicate_ended s ≡ Ok t → RestOf Separates t 0 tokens → LeafRest s p.key.text
      (leaf_tokens p.key.text (option_map (λ v. v.text) p.value) ++ tokens)
  LeafRest-ended s t tokens p is ends r =
      let e = LeafEnds-ended s t p is ends in grind arith

  -- where a comma may follow, the member before it ends
  pub Completes-ended : (last : Option Token) (s t : State builder) (tokens : List Token)
      → takes last TokenKind.comma ≡ true → predicate_ended s ≡ Ok t → RestOf Separates t 0 tokens
      → Completes last s tokens
  Completes-ended last s t tokens may ends r =
      let ended = λ (p : Pending) (is : s.pending ≡ Some p).
      LeafRest-ended s t tokens p is ends r in
      let same = λ (none : s.pending ≡ None). same_ended s t none ends in grind (arith, ended, same)

  -- where `)` or the end of the text may follow, no member is left
  pub Completes-none : (last : Option Token) (s t : State builder) (tokens : List Token)
      → (takes last TokenKind.closing ≡ true) ⊎ ((lacks_value last ≡ false) × (s.stack ≡ []))
      → predicate_ended s ≡ Ok t → Ends t.stack t.roots 0 tokens → Completes last s tokens
  Completes-none last s t tokens may ends e =
      let named = λ (name : takes last TokenKind.name ≡ true). Completes-member last s tokens name
      (λ none. rw (same_ended s t none ends) (Rest-none NoComma t.stack t.roots 0 tokens refl e)) in
      let after = λ (comma : takes last TokenKind.comma ≡ true).
      Completes-ended last s t tokens comma
      ends (Rest-none Separates t.stack t.roots 0 tokens tt e) in
      grind (arith, named, after)

-- A tree spells what the steps accept: each token is put before the tokens that complete the state
-- after it.

abbrev pub tokens_of : List Item → List Token
tokens_of items = map (λ item. item.token) items

-- the parts of a result that is `Ok`
allowed : {A B E : Type 0} (b : Bool) (f : A → B) (r : Result A E) (e : E) (u : B)
    → (if b then result_map f r else Err e) ≡ Ok u
    → (b ≡ true) × (t : A) × (r ≡ Ok t) × (f t ≡ u)
allowed b f r e u is = grind arith

pub ran : {A B E : Type 0} (r : Result A E) (f : A → Result B E) (u : B) → and_then f r ≡ Ok u
    → (t : A) × (r ≡ Ok t) × (f t ≡ Ok u)
ran r f u e = grind arith

module _ {W M L : Type 0} {builder : Builder W M L} where
  -- the function that an accepted `)` closes
  abbrev pub Closes : State builder → State builder → Type 0
  Closes s u = (top : Open M) × (rest : List (Open M)) × (settled : State builder)
      × (s.stack ≡ top ∷ rest) × (allows_count top.function (member_count top s.pending) ≡ true)
      × (predicate_ended s ≡ Ok settled) × (function_ended settled.stack settled ≡ u)

  pub Closes-stack : (s u : State builder) (item : Item) (stack : List (Open M)) → s.stack ≡ stack
      → closed_by s item stack ≡ Ok u → Closes s u
  Closes-stack s u item [] is does = absurd (cc)
  Closes-stack s u item (top ∷ rest) is does =
      let (room, settled, ends, closed) = allowed _ _ (predicate_ended s) _ u does in
      (top, rest, settled, is, room, ends, closed)

  -- `)` before the tokens that complete the list around the function
  Ends-close : (s u : State builder) (tokens : List Token) (c : Closes s u)
      → Completes (Some Token.close_paren) u tokens
      → Ends c.2.stack c.2.roots 0 (Token.close_paren ∷ tokens)
  Ends-close s u tokens (top, rest, settled, is, room, ends, closed) completes = grind arith

  -- the name of a function before its members
  Rest-name : (function : Function) (s u : State builder) (item : Item) (tokens : List Token)
      → ◌≡◌ {A = Result (State builder) Fault} (Ok (opened s function item)) (Ok u)
      → Completes (Some Token.all) u tokens → s.pending ≡ None
      → RestOf NoComma s 0 (name_of function ∷ tokens)
  Rest-name function s u item tokens does completes none =
      let (others, are, r) = (rw (← ok_same _ u does) at completes) _ s.stack refl none in
      rw are (Rest-call function (new_open s function item) s.stack s.roots others refl refl r)

  -- one token before others
  module _ (s u : State builder) (tokens : List Token) (start end : ℕ) where
    abbrev at : Token → Item
    at token = record { token = token; start = start; end = end }

    abbrev After : Token → State builder → Type 0
    After token v = Completes (Some token) v tokens

    Completes-open : apply s (at Token.open_paren) Token.open_paren ≡ Ok u
        → After Token.open_paren u → Completes (Some Token.all) s (Token.open_paren ∷ tokens)
    Completes-open does completes top rest is none =
        let r = subst (After Token.open_paren) (sym (ok_same _ u does)) completes none in
        (tokens, refl, rw is (rw is at r))

    Completes-applied : (last : Option Token) (token : Token) → takes last (token_kind token) ≡ true
        → apply s (at token) token ≡ Ok u → After token u → Completes last s (token ∷ tokens)
    Completes-applied last (Token.key text) may does completes =
        let (value, leaf, others, are, classed, r) = subst (After (Token.key text))
        (sym (ok_same _ u does)) completes (located_text text start end) refl in
        Completes-member last s _ may (λ none. rw are (Rest-member s.stack s.roots _ others
        (leaf_tree leaf) (IsMember-leaf _ leaf (text, value, refl, classed)) r))
    Completes-applied (Some Token.equals) (Token.value text) may does completes = grind arith
    Completes-applied (Some (Token.key _)) Token.equals may does completes = grind (arith, ok_same)
    Completes-applied last Token.all may does completes =
        Completes-member last s _ may
        (Rest-name (Function.list ListFunction.all) s u (at Token.all) _ does completes)
    Completes-applied last Token.any may does completes =
        Completes-member last s _ may
        (Rest-name (Function.list ListFunction.any) s u (at Token.any) _ does completes)
    Completes-applied last Token.not may does completes =
        Completes-member last s _ may (Rest-name Function.not s u (at Token.not) _ does completes)
    Completes-applied last Token.open_paren may does completes =
        grind (arith, Completes-open does completes)
    Completes-applied last Token.close_paren may does completes =
        let c = Closes-stack s u (at Token.close_paren) s.stack refl does in
        Completes-none last s c.2 _ (inl may) c.5 (Ends-close s u tokens c completes)
    Completes-applied last Token.comma may does completes =
        grind (arith, Completes-ended, Rest-comma)
    Completes-applied _ _ may does completes = absurd (false≢true may)

  -- at the end no function is open, and there is one root
  one_rooted : (len : ℕ) (s u : State builder) → one_root len s ≡ Ok u → s.roots ≡ 1
  one_rooted len s u e = grind arith

  concluded : (last : Option Token) (len : ℕ) (s u : State builder) → conclude last len s ≡ Ok u
      → (lacks_value last ≡ false) × (s.stack ≡ [])
      × (and_then (one_root len) (predicate_ended s) ≡ Ok u)
  concluded last len s u e = grind arith

  Completes-run : (items : List Item) (last : Option Token) (s u : State builder)
      (read : Option Token × State builder) (len : ℕ) → step_each last s items ≡ Ok read
      → conclude read.0 len read.1 ≡ Ok u → Completes last s (tokens_of items)
  Completes-run [] last s u read len runs ends =
      let (whole, closed, rooted) = concluded last len s u
      (ap (λ r. conclude r.0 len r.1) (ok_same (last, s) read runs) ∙ ends) in
      let (settled, ended, is_one) = ran (predicate_ended s) (one_root len) u rooted in
      let one = one_rooted len settled u is_one in
      let none : settled.stack ≡ [] = grind arith in
      Completes-none last s settled [] (inr (whole, closed)) ended
      (rw none (omega (arith, one), refl))
  Completes-run (item ∷ items) last s u read len runs ends =
      let (t, steps, rest) = ran (step last s item) (λ t. step_each (Some item.token) t items) read
      runs in
      let applied : (next last item.token ≡ true) × (apply s item item.token ≡ Ok t) =
      grind (arith, steps) in
      Completes-applied s t _ item.start item.end last item.token applied.0 applied.1
      (Completes-run items (Some item.token) t u read len rest ends)

  -- What the steps accept has a tree.
  pub IsTree-accepted : (items : List Item) (u : State builder)
      (read : Option Token × State builder) (len : ℕ) → step_each None initial items ≡ Ok read
      → conclude read.0 len read.1 ≡ Ok u → (tree : Tree Question) × IsTree (tokens_of items) tree
  IsTree-accepted items u read len runs ends =
      let (n, others, trees, after, are, none, list, (one, end)) =
      Completes-run items None initial u read len runs ends refl in
      grind (arith, list, end, one_tree, append-nil)
